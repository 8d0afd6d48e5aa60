use Rattle.std.proofs.Common.{◌≡◌, ◌++◌, take}
use Rattle.verify_pass.proofs.Words.{Place, casts, casts_at, EndsBy}
use Rattle.verify_pass.proofs.chosen.Chosen.take_all.Given as goal

-- the notes so far are taken in
abbrev pub invariant-loop-note : goal.invariant-loop-note
invariant-loop-note l = record {
  casts : (p : Place) → casts_at l.self p ≡ casts_at l.fn.self p ++ casts l.replica (take l.note-index l.notes) p;
  last : EndsBy l.fn.self → EndsBy l.self;
  replicas : l.self.replicas ≡ l.fn.self.replicas;
}
