-- The map of clicks by their ids, whose values are the distinct clicks.
use Rattle.std.proofs.Common.{◌≡◌, List, [], ◌∷◌, map, sym, ◌∙◌}
use Rattle.std.specs.FinMap as finite
use Rattle.log_records.proofs.Words.{ClickRec, EventId, nil_from_length}
use Rattle.event_id.proofs.Order.{ids_total}
use Rattle.event_id.specs.EventId.{id_cmp}

abbrev pub made : List ClickRec → List (EventId × ClickRec)
made cs = finite.entries (finite.from_entries {R = id_cmp} (map (λ c. (c.id, c)) cs))

pub made_nil : made [] ≡ []
made_nil =
    let none : finite.FinMap id_cmp ClickRec = finite.empty in
    nil_from_length (finite.entries none) (sym (finite.len-entries none) ∙ finite.len-empty id_cmp ClickRec)

pub made_cons : (c : ClickRec) (cs : List ClickRec) → made (c ∷ cs) ≡ finite.put id_cmp c.id c (made cs)
made_cons c cs = finite.entries-insert ids_total (finite.from_entries (map (λ (d : ClickRec). (d.id, d)) cs)) c.id c
