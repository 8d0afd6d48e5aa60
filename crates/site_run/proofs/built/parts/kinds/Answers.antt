use Rattle.std.proofs.Common.{◌≡◌, ℕ, ◌+◌, ◌-◌, ◌*◌, List, ◌++◌, length, length-append, replicate, take, sym, ap, ◌∙◌, arith}
use Rattle.site_run.proofs.Words.{length-replicate, take_all}
use Rattle.lossy_link.specs.declared.plan.Kind.TheVariants as kind
use Rattle.site_run.proofs.built.parts.kinds.Goals as goal

longer : {X : Type 0} (old new : List X) (n len more : ℕ) (x : X) → length old ≡ len → n ≡ len + more → new ≡ take n old ++ replicate (n - len) x → new ≡ old ++ replicate more x
longer old new n len more x long is made =
    let rest : n - len ≡ more = omega (arith, is) in
    made ∙ ap (λ l. l ++ replicate (n - len) x) (take_all n old (omega (arith, long, is))) ∙ ap (λ k. old ++ replicate k x) rest

pub returns : goal.returns
returns c =
    let replicas = c.args.config.now.replicas in
    let joiners = c.args.config.now.joiners in
    let sites = c.in_ok-kinds.ensures.items in
    let first = longer _ c.resize.new.self.items _ _ replicas kind.Replica (ap length sites ∙ sym c.in_ok-kinds.ensures.len) (omega (arith, c.in_ok-kinds.ensures.len, c.from-first_joiner.ensures)) c.in_ok-resize.ensures.items in
    let many : length c.resize.new.self.items ≡ c.resize.new.self.len = omega (arith, ap length first, ap length sites, length-append c.in_ok-kinds.kinds.items (replicate replicas kind.Replica), length-replicate replicas kind.Replica, c.in_ok-resize.ensures.len, c.from-first_joiner.ensures) in
    longer _ c.resize-2.new.self.items _ _ (2 * joiners) kind.Joiner many (omega (arith, c.in_ok-resize.ensures.len, c.from-first_joiner.ensures, c.from.ensures)) c.in_ok-resize-2.ensures.items
    ∙ ap (λ l. l ++ replicate (2 * joiners) kind.Joiner) (first ∙ ap (λ l. l ++ replicate replicas kind.Replica) sites)
