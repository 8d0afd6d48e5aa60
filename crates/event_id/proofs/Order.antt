-- The order of ids is total, and ids that tie are one.
use Rattle.std.proofs.Common.{arith}
use Rattle.std.specs.Cmp.{IsTotalOrder, nat_cmp_total}
use Rattle.std.proofs.lemmas.Cmp.{on_total, then_total}
use Rattle.std.proofs.lemmas.Map.Lookups.{CmpEqualImpliesEq}
use Rattle.event_id.specs.declared.id.EventId.{EventId}
use Rattle.event_id.specs.EventId.{id_cmp}

pub ids_total : IsTotalOrder id_cmp
ids_total = then_total (on_total (λ (x : EventId). x.ip) nat_cmp_total) (then_total (on_total (λ (x : EventId). x.pid) nat_cmp_total) (on_total (λ (x : EventId). x.micros) nat_cmp_total))

pub exact_ids : CmpEqualImpliesEq id_cmp
exact_ids a b h = grind arith
