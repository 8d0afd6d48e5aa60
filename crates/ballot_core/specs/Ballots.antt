-- The order of ballots.
use Rattle.std.specs.Prelude.{◌≡◌, ◌⊎◌, Bool}
use Rattle.std.specs.Ordering.{nat_cmp, ordering_then, is_lt, is_eq}
use Rattle.std.specs.declared.cmp.Ordering.{Ordering}
use Rattle.std.specs.declared.cmp.Ordering.TheVariants.{Less}
use Rattle.ballot_core.specs.declared.Ballot.{Ballot}

-- by round, then epoch, then site
abbrev pub ballot_cmp : Ballot → Ballot → Ordering
ballot_cmp a b = ordering_then (nat_cmp a.round b.round) (ordering_then (nat_cmp a.epoch b.epoch) (nat_cmp a.site b.site))

-- a is below b
pub record IsBelow (a b : Ballot) : Type 0 where
  pub less : ballot_cmp a b ≡ Less

-- a is b or below it
abbrev pub IsUpTo : Ballot → Ballot → Type 0
IsUpTo a b = IsBelow a b ⊎ (a ≡ b)

-- whether a is below b
abbrev pub is_below : Ballot → Ballot → Bool
is_below a b = is_lt (ballot_cmp a b)

-- whether a and b are one
abbrev pub is_same : Ballot → Ballot → Bool
is_same a b = is_eq (ballot_cmp a b)
