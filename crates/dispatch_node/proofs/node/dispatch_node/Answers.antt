use Rattle.std.proofs.Common.{rules, refl, sym, ◌∙◌, subst}
use Rattle.dispatch_node.proofs.Words.{IsLogOf}
use Rattle.dispatch_node.proofs.node.dispatch_node.Goals as goal

pub returns-clause-stands : goal.returns-clause-stands
returns-clause-stands g c s of_g lines places =
    let config = of_g ∙ sym c.new-core.ensures.config in
    c.new.ensures.stands s _ (config ∙ sym c.config-config.ensures)
    (record {
      serves = record { site = c.new-core.ensures.site; config = config; lines = subst (λ log. IsLogOf (g.L.LogFile.bytes log) s) (sym c.new-clicks.ensures) lines; places = places };
      by = c.in-Ok.ensures;
    })
    (record { ready = search rules; is = refl })
