-- The worked history of a dispatcher that comes up.
use Rattle.std.proofs.Common.{◌≡◌, ◌≢◌, ℕ, zero, false, cond, List, [], ◌∷◌, None, refl, sym, ap, ◌∙◌, arith, ne_eqb}
use Rattle.site_laws.proofs.Words.{All-nil, none_some, IsNode, node_number, node_of, worked, Packet, IsPacket, Node, Dispatcher, Start, empty_disks, Kind, PlanView, Down, Busy, IsAired, is_dead, aired_more, aired_none, AreSpelled, Path, rows_of, down_over, made_by, on_the_bus, stands_at, DispatcherComesUp, DownIsStrict}
use Rattle.air_bus.specs.declared.entry.Input.TheVariants as bytes
use Rattle.air_bus.specs.declared.entry.Entry.TheVariants as bus

-- no packet is spelled by no bytes
none_spelled : AreSpelled [] []
none_spelled = record { packets = All-nil (λ (p : Node × Packet). IsPacket p.1); bytes = refl }

-- no other number has an entry
none_made : (m : ℕ) → 0 ≢ m → made_by m on_the_bus ≡ []
none_made m ne = ap (λ b. cond b (bus.Begin 0 bytes.Start ∷ cond b (bus.End 0 None [] 0 ∷ []) []) (cond b (bus.End 0 None [] 0 ∷ []) [])) (ne_eqb 0 m ne)

paths : (n : Node) → IsNode worked n → Path (rows_of n) (down_over worked empty_disks n) (made_by (node_number n) on_the_bus) (stands_at n)
paths (Dispatcher zero) is = grind arith
paths _ is = grind (arith, worked, empty_disks)

not_busy : Down ≢ Busy
not_busy e = cc

begun_aired : (plan : PlanView) (kinds : List Kind) → is_dead plan.dead kinds 0 ≡ false → IsAired plan kinds (bus.Begin 0 bytes.Start ∷ [])
begun_aired plan kinds alive = aired_more plan kinds [] (bus.Begin 0 bytes.Start ∷ []) (bus.Begin 0 bytes.Start) (aired_none plan kinds [] refl) (not_busy, (false, false, refl), alive) refl

zero_is : (m : ℕ) → node_of worked m ≡ None → 0 ≢ m
zero_is m none e = none_some (Dispatcher 0) (sym none ∙ ap (node_of worked) (sym e))

pub comes_up : DispatcherComesUp
comes_up = record {
  aired = λ plan kinds alive. aired_more plan kinds (bus.Begin 0 bytes.Start ∷ []) on_the_bus (bus.End 0 None [] 0) (begun_aired plan kinds alive) (refl, omega arith) refl;
  walked = record { paths = paths; no_others = λ m none. none_made m (zero_is m none) };
  means = ((refl, refl), ((refl, refl, none_spelled, refl), tt));
  run = ((omega arith, (refl, tt, tt)), ((omega arith, ((Start, refl), refl, tt), omega arith), tt));
}

pub strict : DownIsStrict
strict = grind arith
