use Rattle.std.proofs.Common.{List, ℕ, rules, refl, sym, ap, ◌∙◌, subst}
use Rattle.dispatch_node.proofs.Words.{DispatchNote, KeepsOr, Throughout, kept, land_dispatcher, ready_states, told, first_meets, second_meets}
use Rattle.dispatch_node.proofs.Disks.{settled}
use Rattle.dispatch_node.proofs.journals.Journals.write.Goals as goal

pub returns-in-Settle-clause-written : goal.returns-in-Settle-clause-written
returns-in-Settle-clause-written g c tells =
    let j = c.args.self.now in
    let ps = j.retry.value.pending.keys in
    let same = settled ps c.in-Settle.position j.retry.value.unique ∙ ap (λ (n : DispatchNote). (land_dispatcher (told n) (kept j)).pending) (sym c.in-Settle.is) in
    record {
      moments = (search rules, subst (λ (qs : List ℕ). Throughout g.D.Disk.image g.D.Disk.since j.retry.journal.disk c.append-in-Settle.new.self.journal.disk (KeepsOr ps qs)) same (c.append-in-Settle.ensures.keeps tells (ready_states j c.requires.ready).1));
      grows = search rules;
    }

pub returns-in-Advance-clause-plan : goal.returns-in-Advance-clause-plan
returns-in-Advance-clause-plan g c tells = first_meets _ _ _ 4 _ _ _ _ _ _ refl refl (c.append.ensures.plan tells (ready_states c.args.self.now c.requires.ready).0)

pub returns-in-Park-clause-plan : goal.returns-in-Park-clause-plan
returns-in-Park-clause-plan g c tells = second_meets _ _ _ 4 _ _ _ _ _ _ refl refl (c.append-in-Park.ensures.plan tells (ready_states c.args.self.now c.requires.ready).1)

pub returns-in-Settle-clause-plan : goal.returns-in-Settle-clause-plan
returns-in-Settle-clause-plan g c tells = second_meets _ _ _ 4 _ _ _ _ _ _ refl refl (c.append-in-Settle.ensures.plan tells (ready_states c.args.self.now c.requires.ready).1)
