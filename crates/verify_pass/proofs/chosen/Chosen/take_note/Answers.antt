use Rattle.std.proofs.Common.{◌∷◌, [], ◌++◌, ℕ, List, ap, sym, ◌∙◌, map}
use Rattle.verify_pass.proofs.Words.{append-nil, on_ok_weaker, Ballot, Batch, place_of, ReplicaNote, is_place, cast_of, casts, casts_at, group_at}
use Rattle.verify_pass.proofs.Groups.{promised_none, accepted_one, group_push}
use Rattle.verify_pass.proofs.chosen.Chosen.take_note.Goals as goal

pub returns-in-Promised-clause-casts : goal.returns-in-Promised-clause-casts
returns-in-Promised-clause-casts c = λ p.
    let a = c.in-Promised in
    let r = c.args.replica in
    let old = casts_at c.args.self.now p in
    sym (append-nil old)
    ∙ ap (λ (cs : List (ℕ × (Ballot × Batch))). old ++ cs) (sym (promised_none r a.shard a.slot a.ballot p))
    ∙ ap (λ (n : ReplicaNote). old ++ casts r (n ∷ []) p) (sym a.is)

pub returns-in-Accepted-clause-casts : goal.returns-in-Accepted-clause-casts
returns-in-Accepted-clause-casts c =
    let a = c.in-Accepted in
    let r = c.args.replica in
    let q = place_of a.shard a.slot in
    on_ok_weaker c.keep.result (λ pushed p.
    let old = casts_at c.args.self.now p in
    ap (map cast_of) (pushed p)
    ∙ group_push (group_at c.args.self.now p) _ (is_place q p)
    ∙ ap (λ (cs : List (ℕ × (Ballot × Batch))). old ++ cs) (sym (accepted_one r a.shard a.slot a.ballot a.batch p))
    ∙ ap (λ (n : ReplicaNote). old ++ casts r (n ∷ []) p) (sym a.is)) c.keep.ensures.group
