-- What the disks of nodes hold, each under the name that its node's number gives it.
use Rattle.std.specs.Prelude.{◌≡◌, ℕ, List, map}
use Rattle.site_run.specs.Terms.{Bytes, Config, Each, EachWith, GoesOn, KeepsFor, KeptOf, Lent, MayHold, Node, StateOf, rows_of}
use Rattle.site_run.specs.Naming.{names_of}

module _ {D : Type 0} (image : D → List ℕ → Type 0) where
  -- These are the disks of a node of that state, under the names of its number. Bytes that a stop may leave of each keep records that the
  -- state may hold.
  pub record HoldsAs (config : Config) (n : Node) (t : StateOf n) (lent : List (Lent D)) : Type 0 where
    pub named : map (λ l. l.name) lent ≡ names_of config n
    pub keeps : (b : Bytes) → Each (λ l. image l.disk (b l.name)) lent → (k : KeptOf n) × (MayHold (rows_of n) t k × Each (λ l. KeepsFor n k l.name (b l.name)) lent)

  -- the disk of a name has gone on from the one before it of the same name
  pub record HasGoneOn (old new : Lent D) : Type 0 where
    pub named : new.name ≡ old.name
    pub grown : GoesOn (image old.disk) (image new.disk)

  -- each of these disks has
  abbrev pub HaveGoneOn : List (Lent D) → List (Lent D) → Type 0
  HaveGoneOn olds news = EachWith HasGoneOn olds news
