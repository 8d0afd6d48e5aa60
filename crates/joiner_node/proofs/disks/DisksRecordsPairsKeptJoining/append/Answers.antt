use Rattle.std.proofs.Common.{◌≡◌, inl, ℕ, true, false, refl, ◌∙◌, subst, IsTrue}
use Rattle.joiner_node.proofs.Words.{Throughout, Holds, JoinerKept, Numbered, PairsOr, calm_stays, first_meets, note_of, second_meets, takes_note, with_note}
use Rattle.gate_journal.proofs.Growth.{continues_same}
use Rattle.joiner_node.proofs.Writing.{grown, low_of, pair_holds, pair_left, pair_moments}
use Rattle.joiner_node.proofs.disks.DisksRecordsPairsKeptJoining.append.Goals as goal
use Rattle.joiner_node.proofs.disks.DisksRecordsPairsKeptJoining.append.Goals.{After-append}
use Rattle.joiner_node.proofs.disks.DisksRecordsPairsKeptJoining.append.Given.{Over}

pub returns-in-Ok-clause-plan : goal.returns-in-Ok-clause-plan
returns-in-Ok-clause-plan g c planned =
    let low = low_of _ _ c.args.framed.note c.in-Epoch.is c.requires.next in
    first_meets g.D.Disk.stops g.D.Disk.made g.D.Disk.faults 4 false false _ _ _ _ refl refl (c.in-Ok.ensures.plan (g.met.D.Disk.plan_told planned) c.requires.ready.0 low)

pub returns-in-Epoch-clause-plan : goal.returns-in-Epoch-clause-plan
returns-in-Epoch-clause-plan g c planned =
    let low = low_of _ _ c.args.framed.note c.in-Epoch.is c.requires.next in
    first_meets g.D.Disk.stops g.D.Disk.made g.D.Disk.faults 4 true true _ _ _ _ refl refl (c.in-Err.ensures.plan (g.met.D.Disk.plan_told planned) c.requires.ready.0 low)

pub returns-in-Epoch-clause-grown : goal.returns-in-Epoch-clause-grown
returns-in-Epoch-clause-grown g c tells r k calm holds = grown r c.args.self.now _ _ k calm holds ((c.raise.ensures.grows tells).now, λ b here. continues_same _ b here)

pub returns-in-Ok-append-clause-plan : goal.returns-in-Ok-append-clause-plan
returns-in-Ok-append-clause-plan g c planned = second_meets g.D.Disk.stops g.D.Disk.made g.D.Disk.faults 4 false false _ _ _ _ refl refl (c.in-Ok-append.ensures.plan (g.met.D.Disk.plan_told planned) c.requires.ready.1)

pub returns-clause-plan : goal.returns-clause-plan
returns-clause-plan g c planned = second_meets g.D.Disk.stops g.D.Disk.made g.D.Disk.faults 4 true true _ _ _ _ refl refl (c.in-Err-append.ensures.plan (g.met.D.Disk.plan_told planned) c.requires.ready.1)

pub returns-in-Ok-append-clause-grown : goal.returns-in-Ok-append-clause-grown
returns-in-Ok-append-clause-grown g c tells r k calm holds = grown r c.args.self.now _ _ k calm holds (λ b here. continues_same _ b here, (c.append.ensures.grows tells).now)

pub returns-clause-grown : goal.returns-clause-grown
returns-clause-grown g c tells r k calm holds = grown r c.args.self.now _ _ k calm holds (λ b here. continues_same _ b here, (c.append.ensures.grows tells).now)

-- the record is the pair's, and the log's disk has it or hasn't
moved : (g : Over) (c : After-append g) → IsTrue g.D.Disk.tells → (k : Numbered JoinerKept) → Holds c.args.self.now k → Throughout g.D.Disk.image g.D.Disk.since c.args.self.now.log.disk c.append.new.self.disk (PairsOr k.disk (with_note c.args.framed.note k).disk)
moved g c tells k holds =
    let old = c.args.self.now in
    let ready = c.requires.ready.1 in
    pair_moments old k c.args.framed.note _ c.as_slice.result.now holds (old.log.settled tells ready).durable c.in-Pair.is c.requires.spelled (c.as_slice.ensures ∙ c.args.framed.framed) _ (c.append.ensures.any_moment tells ready) (c.append.ensures.grows tells)

pub returns-in-Ok-append-clause-holds : goal.returns-in-Ok-append-clause-holds
returns-in-Ok-append-clause-holds g c tells k holds =
    let old = c.args.self.now in
    pair_holds old k c.args.framed.note _ c.as_slice.result.now holds (old.log.settled tells c.requires.ready.1).durable c.in-Pair.is c.requires.spelled (c.as_slice.ensures ∙ c.args.framed.framed) _ refl c.saturating_add-self.ensures (c.in-Ok-append.ensures.durable tells) (c.append.ensures.grows tells).now

pub returns-clause-doubts : goal.returns-clause-doubts
returns-clause-doubts g c tells k holds = record {
  reached = record { epoch = holds.reached.epoch; written = holds.reached.written };
  note = c.args.framed.note;
  next = subst (λ (e : ℕ). takes_note e (note_of c.args.framed.note) ≡ true) holds.reached.epoch c.requires.next;
  with_is = refl;
  epochs = λ b here. inl (holds.epochs b here);
  pairs = (moved g (goal.at.returns-clause-doubts g c).After-append tells k holds).now;
}

pub returns-in-Ok-append-clause-moments : goal.returns-in-Ok-append-clause-moments
returns-in-Ok-append-clause-moments g c tells r k calm holds =
    let old = c.args.self.now in
    pair_left r old _ k c.args.framed.note calm holds (moved g (goal.at.returns-in-Ok-append-clause-moments g c).After-append tells k (calm_stays r old k calm holds).0)

pub returns-clause-moments : goal.returns-clause-moments
returns-clause-moments g c tells r k calm holds =
    let old = c.args.self.now in
    pair_left r old _ k c.args.framed.note calm holds (moved g (goal.at.returns-clause-moments g c).After-append tells k (calm_stays r old k calm holds).0)
