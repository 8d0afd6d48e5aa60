-- What is heard of a run of both sites.
use Rattle.std.specs.Prelude.{ℕ, ◌*◌, List, [], ◌∷◌, ◌++◌, replicate}
use Rattle.site_run.specs.Terms.{Kind, PlanView}
use Rattle.lossy_link.specs.declared.plan.Kind.TheVariants.{Dispatcher, Joiner, Server, Replica}
use Rattle.site_workers.specs.Heard.{IsHeard}
use Rattle.site_run.specs.declared.ran.RunLog.{RunLog}

-- the kinds of all nodes in the order of their numbers, with so many joiners a site, and so many replicas
abbrev pub kinds_of : (joiners replicas : ℕ) → List Kind
kinds_of joiners replicas = Dispatcher ∷ Dispatcher ∷ Server ∷ Server ∷ [] ++ replicate replicas Replica ++ replicate (2 * joiners) Joiner

-- such nodes ran under this plan, and this is left of their run
abbrev pub IsHeardOf : PlanView → (joiners replicas : ℕ) → RunLog → Type 0
IsHeardOf plan joiners replicas log = IsHeard plan (kinds_of joiners replicas) log.air log.seen.items
