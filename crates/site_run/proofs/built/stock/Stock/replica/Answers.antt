use Rattle.std.proofs.Common.{[], ◌∷◌, refl, sym, ap, ◌∙◌, arith}
use Rattle.site_run.proofs.Words.{Replica, is_named, number_of, ReplicaDisk}
use Rattle.site_run.proofs.Making.{down_at, lent_is, made, one_used, replica_said}
use Rattle.site_run.proofs.built.stock.Stock.replica.Goals as goal

pub take_disk-requires : goal.take_disk-requires
take_disk-requires g c = record { there = c.requires.left.there _ (is_named _ _ (ReplicaDisk _) (omega (arith, c.requires.number.0, c.requires.number.1))) (omega arith) }

pub returns : goal.returns
returns g c =
    let a = c.take_disk.result in
    let one = c.take_disk.ensures in
    let node = c.replica_node-node.ensures in
    made _ _ _ _ (a ∷ []) [] []
    (one_used _ c.args.number _ _ a (omega (arith, c.requires.number.0)) c.requires.number.1 refl one.taken (ap (number_of c.args.self.now.config) one.name ∙ omega (arith, c.requires.number.0)) refl refl)
    _ _ _ _ _ _ c.requires.left _ refl refl (record { numbered = omega (arith, node.number, c.requires.number.0); up = node.up })
    (ap (λ l. l ∷ []) (lent_is a _ _ one.name (c.into_votes-votes.ensures.disk ∙ sym node.disk))) refl
    (λ tells s d of places own. down_at _ s d _ _ (Replica _) (omega (arith, c.requires.number.0)) (omega (arith, c.requires.number.0, c.requires.number.1, ap (λ x. x.replicas) of)) _ (replica_said s d _ _ _ _ one.name c.into_votes-votes.ensures.kept own.0.0) (node.stands tells s of))
