use Rattle.air_bus.proofs.inbox.Inbox.is_empty.Goals as goal

pub returns : goal.returns
returns c = λ nodes r k.
    let both = c.is_empty.ensures r.copies k.queued in
    both
