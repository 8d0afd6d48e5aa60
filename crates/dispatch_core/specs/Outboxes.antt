-- Joins that are put behind others.
use Rattle.std.specs.Prelude.{◌≡◌, ℕ, List, [], ◌∷◌, ◌++◌, if◌then◌else◌}
use Rattle.dispatch_core.specs.Terms.{Click}
use Rattle.dispatch_core.specs.Dealing.{dealt, next_after}
use Rattle.dispatch_core.specs.declared.line.FreshLine.{FreshLine}
use Rattle.dispatch_core.specs.declared.outbox.Outbox.{Outbox}

-- the new one has these Joins behind those of the old one, dealt from where the old one stood
pub record Puts (old new : Outbox) (joins : List (ℕ × Click)) : Type 0 where
  pub packets : new.packets.items ≡ old.packets.items ++ dealt old.dealer.site old.dealer.config old.dealer.next joins
  pub next : new.dealer.next ≡ next_after old.dealer.config.joiners old.dealer.next joins
  pub site : new.dealer.site ≡ old.dealer.site
  pub config : new.dealer.config ≡ old.dealer.config

-- a Join of each line that is not done
abbrev pub waiting_joins : List FreshLine → List (ℕ × Click)
waiting_joins [] = []
waiting_joins (f ∷ fs) = if f.done then waiting_joins fs else (f.position, f.click) ∷ waiting_joins fs
