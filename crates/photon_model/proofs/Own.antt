-- What nodes do by themselves, and what is delivered, make a run.
use Rattle.std.proofs.Common.{[], ◌∷◌, refl, arith}
use Rattle.photon_model.proofs.Words.{Setting, IsNode, Node, World, Entry, Begin, End, Stop, after, at_node, May}
use Rattle.photon_model.specs.Own.{Does, Delivers, node_in, ApartIsRun}
use Rattle.photon_model.proofs.Local.{own_one}

may_come : (g : Setting) (w : World) (e : Entry) → ((n : Node) → Does g n (at_node w n) e) → Delivers w.sent e → IsNode g (node_in e) → May g w e
may_come g w (Begin n i) does sent is = let h = does n refl in (is, (h.0, h.1, sent))
may_come g w (End n o ps kept) does sent is = let h = does n refl in (is, h.0, h.1)
may_come g w (Stop n landed) does sent is = (is, does n refl)

pub apart_is_run : ApartIsRun
apart_is_run g w [] h = tt
apart_is_run g w (e ∷ es) h = grind (arith, may_come, own_one, apart_is_run g (after g w e) es) steps 1000000
