-- Ids ordered by their times.
use Rattle.std.specs.Ordering.{nat_cmp, ordering_then}
use Rattle.std.specs.declared.cmp.Ordering.{Ordering}
use Rattle.event_id.specs.declared.id.EventId.{EventId}
use Rattle.id_expiry.specs.declared.by_time.ByTime.{ByTime}

abbrev pub of_id : EventId → ByTime
of_id i = record { micros = i.micros; ip = i.ip; pid = i.pid }

-- by the time, then by the address and the process
abbrev pub by_time : ByTime → ByTime → Ordering
by_time a b = ordering_then (nat_cmp a.micros b.micros) (ordering_then (nat_cmp a.ip b.ip) (nat_cmp a.pid b.pid))
