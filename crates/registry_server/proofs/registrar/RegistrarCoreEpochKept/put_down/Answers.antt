use Rattle.std.proofs.Common.{ℕ, ap, ◌∙◌, sym, subst}
use Rattle.registry_server.proofs.Words.{IsSpelledPlan, ServerCore, ServesSite, Stands, Station, nothing_known}
use Rattle.registry_server.proofs.Spelling.{nothing_ok}
use Rattle.registry_server.proofs.registrar.RegistrarCoreEpochKept.put_down.Goals as goal

pub invariant_of-self : goal.invariant_of-self
invariant_of-self c =
    let so = c.self.invariant in
    record {
      setting = so.setting;
      kept = _;
      live = _;
      stands = c.put_down.ensures.stands so.setting so.stands.config;
      plan = subst (λ (s : Station). IsSpelledPlan so.setting s.site) (sym c.put_down.ensures.station) so.plan;
      spelled = nothing_ok _ c.args.held.limit;
    }

pub returns-clause-knows : goal.returns-clause-knows
returns-clause-knows c = λ g k serves told.
    let own = subst (λ (x : ServerCore). ServesSite x g k) (sym c.self.view_is) serves in
    record {
      site = ap (λ (s : Station). s.site) c.put_down.ensures.station ∙ own.site;
      stands = subst (λ (e : ℕ). Stands c.put_down.new.self g (record { epoch = e }) nothing_known) told (c.put_down.ensures.stands g own.setting);
    }
