-- The disks of a setting, and the numbers of its joiners.
use Rattle.std.proofs.Common.{◌≡◌, ◌≢◌, ◌⊎◌, inl, inr, ⊎_elim, ℕ, ◌+◌, ◌-◌, ◌<◌, List, [], Option, Some, refl, subst, arith, zero, suc, lit<, IfSome}
use Rattle.site_laws.proofs.Words.{cases_lt, none_some, some_same, DiskName, IsNode, Setting, IsJoiner, first_joiner, Node, IsDisk, joiner_of, node_with}
use Rattle.outside.specs.declared.store.DiskName.TheVariants as name
use Rattle.site_laws.specs.Stores.{Bytes}

pub is_disk_or : (g : Setting) (disk : DiskName) → IsDisk g disk ⊎ (IsDisk g disk → ⊥)
is_disk_or g name.Topology = inl tt
is_disk_or g _ = grind arith

-- where there are such bytes for each disk of the setting, one function has them all
module _ (g : Setting) (P : DiskName → List ℕ → Type 0) (each : (disk : DiskName) → IsDisk g disk → (c : List ℕ) × P disk c) where
  abbrev pick : (disk : DiskName) → IsDisk g disk ⊎ (IsDisk g disk → ⊥) → List ℕ
  pick disk (inl is) = (each disk is).0
  pick disk (inr never) = []

  picked : (disk : DiskName) (o : IsDisk g disk ⊎ (IsDisk g disk → ⊥)) → IsDisk g disk → P disk (pick disk o)
  picked disk o i = grind arith

  pub choose : (b : Bytes) × ((disk : DiskName) → IsDisk g disk → P disk (b disk))
  choose = (λ disk. pick disk (is_disk_or g disk), λ disk i. picked disk (is_disk_or g disk) i)

-- ---- joiners by site

pub record SeatOf (g : Setting) (n : ℕ) : Type 0 where
  pub site : ℕ
  pub joiner : ℕ
  pub site_below : site < 2
  pub joiner_below : joiner < g.config.joiners
  pub number : joiner_of g site joiner ≡ n

pub seat_of : (g : Setting) (n : ℕ) → IsJoiner g n → SeatOf g n
seat_of g n is =
    ⊎_elim
    (λ l. record { site = 0; joiner = n - first_joiner g; site_below = lit< tt; joiner_below = omega (arith, is.0, l); number = omega (arith, is.0, l) })
    (λ l. record { site = 1; joiner = n - (first_joiner g + g.config.joiners); site_below = lit< tt; joiner_below = omega (arith, is.1, l); number = omega (arith, l) })
    (cases_lt n (first_joiner g + g.config.joiners))

pub is_joiner : (g : Setting) (s j : ℕ) → s < 2 → j < g.config.joiners → IsJoiner g (joiner_of g s j)
is_joiner g (suc (suc s)) j s_below j_below = absurd (omega (arith, s_below))
is_joiner g _ j s_below j_below = (omega arith, omega (arith, j_below))

pub one_seat : (g : Setting) (s j t i : ℕ) → s < 2 → j < g.config.joiners → t < 2 → i < g.config.joiners → joiner_of g s j ≡ joiner_of g t i → (s ≡ t) × (j ≡ i)
one_seat g zero j (suc zero) i a b c d e = absurd (omega (arith, b, e))
one_seat g (suc zero) j zero i a b c d e = absurd (omega (arith, d, e))
one_seat g zero j (suc (suc t)) i a b c d e = absurd (omega (arith, c))
one_seat g (suc zero) j (suc (suc t)) i a b c d e = absurd (omega (arith, c))
one_seat g (suc (suc s)) j t i a b c d e = absurd (omega (arith, a))
one_seat g _ j _ i a b c d e = (refl, omega (arith, e))

-- ---- the topology's disk and the others

pub by_topology : (P : DiskName → Type 0) → P name.Topology → ((disk : DiskName) → disk ≢ name.Topology → P disk) → (disk : DiskName) → P disk
by_topology P first others name.Topology = first
by_topology P first others _ = others _ (λ e. cc)

-- ---- the node whose disk it is

-- by cases on an option that is computed
pub by_node : {A : Type 0} (o : Option A) (P : A → Type 0) → ((a : A) → o ≡ Some a → P a) → IfSome o P
by_node o P some = grind arith

pub node_of_disk : (g : Setting) (disk : DiskName) (n : Node) → IsDisk g disk → node_with g disk ≡ Some n → IsNode g n
node_of_disk g name.Topology n here own = none_some n own
node_of_disk g (name.Epoch s j) n here own = subst (IsNode g) (some_same _ n own) (is_joiner g s j here.0 here.1)
node_of_disk g (name.Output s j) n here own = subst (IsNode g) (some_same _ n own) (is_joiner g s j here.0 here.1)
node_of_disk g _ n here own = subst (IsNode g) (some_same _ n own) here
