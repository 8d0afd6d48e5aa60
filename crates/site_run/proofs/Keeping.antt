-- What is left of the disks of all nodes keeps what their states say.
use Rattle.std.proofs.Common.{◌≡◌, ◌≢◌, ⊎_elim, ℕ, List, ◌∷◌, Option, Some, None, sym, ap, ◌∙◌, subst, arith, slice_index_or}
use Rattle.site_run.proofs.Words.{Each, Mem, some_same, each_at, each_from, DiskName, Node, Setting, IsNode, NumbersAreNodes, node_number, Lent, Lacks, IsOfOne, StateOf, all_from, Images, IsDisk, AreKept, KeepsFor, node_with, at_name, named_mem, one_named, AllHold, IsLeftBy, KeepsItsRecord, by_node, Disks, kept_of, KeepsOf, HoldsAs, KeepsAs, AllKeep, Config, EachPair, node_of_disk as node_has, names_of, TopologyDisk}
use Rattle.site_run.proofs.Lists.{some_of}
use Rattle.site_run.proofs.Places.{at_place, from_place, has_name, names_apart, no_owner, of_setting, owner}

-- ---- all nodes

module _ {N D : Type 0} (image : D → List ℕ → Type 0) (disks_of : ℕ → N → List (Lent D)) (g : Setting) (at : (n : Node) → StateOf n) (nodes : List N) (topology : Lent D) (numbers : NumbersAreNodes g) (all : AllHold image disks_of g at nodes) (named : topology.name ≡ TopologyDisk) where
  abbrev disks_at : Node → N → List (Lent D)
  disks_at n a = disks_of (node_number n) (slice_index_or nodes (node_number n) a)

  abbrev every_disk : List (Lent D)
  every_disk = topology ∷ all_from disks_of 0 nodes

  pub a_node : N
  a_node = some_of nodes (omega (arith, all.count))

  -- ---- what is left is of the disk of that name

  -- the node that has this disk
  record HasIt (l : Lent D) : Type 0 where
    node : Node
    is : IsNode g node
    among : Mem l (disks_at node a_node)

  node_of_disk : (l : Lent D) → Mem l (all_from disks_of 0 nodes) → HasIt l
  node_of_disk l m =
      let r = from_place disks_of 0 nodes l m in
      let of_number = numbers.each r.place (omega (arith, r.within, all.count)) in
      let back = numbers.back r.place of_number.0 of_number.1 in
      let counted : r.number ≡ node_number of_number.0 = omega (arith, r.counted, back.0) in
      grind arith

  -- the names of a node's disks are its own
  own_name : (n : Node) → IsNode g n → (l : Lent D) → Mem l (disks_at n a_node) → Mem l.name (names_of g.config n)
  own_name n is l m = subst (Mem l.name) (all.each n is a_node).named (named_mem (λ (x : Lent D). x.name) (disks_at n a_node) l m)

  no_topology : (n : Node) (l : Lent D) → IsNode g n → Mem l (disks_at n a_node) → l.name ≡ TopologyDisk → ⊥
  no_topology n l is m named = absurd (cc (sym (owner g n l.name is (own_name n is l m)) ∙ ap (node_with g) named))

  pub found : (disk : DiskName) (n : Node) → node_with g disk ≡ Some n → (c : List ℕ) → IsOfOne image every_disk disk c → IsOfOne image (disks_at n a_node) disk c
  found disk n own c x =
      ⊎_elim (λ e. absurd (cc (sym own ∙ ap (node_with g) (sym x.named ∙ ap (λ (l : Lent D). l.name) (sym e) ∙ named))))
      (λ m.
      let has = node_of_disk x.one m in
      let same = some_same has.node n (sym (owner g has.node x.one.name has.is (own_name has.node has.is x.one has.among)) ∙ ap (node_with g) x.named ∙ own) in
      record { one = x.one; among = subst (λ k. Mem x.one (disks_at k a_node)) same has.among; named = x.named; may = x.may })
      x.among

  -- what is left is of a disk of the setting
  pub disk_there : (disk : DiskName) → disk ≢ TopologyDisk → (l : Lent D) → Mem l every_disk → l.name ≡ disk → IsDisk g disk
  disk_there disk other l among is = grind (arith, node_of_disk, of_setting, own_name)

  pub topology_image : (c : List ℕ) → IsOfOne image every_disk TopologyDisk c → image topology.disk c
  topology_image c x = grind (arith, node_of_disk, no_topology)

  -- a disk of each name is among the node's
  has_disk : (disk : DiskName) (n : Node) → IsDisk g disk → node_with g disk ≡ Some n → (l : Lent D) × Mem l (disks_at n a_node) × (l.name ≡ disk)
  has_disk disk n here own =
      at_name (λ (l : Lent D). l.name) (disks_at n a_node) disk (subst (Mem disk) (sym (all.each n (node_has g disk n here own) a_node).named) (has_name g disk n here own))

  -- the setting has no disk that isn't among them
  pub lacks_none : (disk : DiskName) → IsDisk g disk → (o : Option Node) → node_with g disk ≡ o → Lacks every_disk disk → ⊥
  lacks_none disk here None own lacks = lacks.0 (named ∙ sym (no_owner g disk own))
  lacks_none disk here (Some n) own lacks =
      let is = node_has g disk n here own in
      let l = has_disk disk n here own in
      each_at (λ (x : Lent D). x.name ≢ disk) (all_from disks_of 0 nodes) lacks.1 l.0
      (at_place disks_of 0 (node_number n) (node_number n) nodes a_node l.0 (let below = numbers.below n is in omega (arith, below, all.count)) (omega arith) l.1) l.2

  -- ---- at rest

  -- what is left of each disk keeps what the records say of it
  pub all_keep : AllKeep image disks_of g at nodes → (d : Disks) → ((n : Node) → IsNode g n → kept_of d n ≡ (at n).kept) → (disk : DiskName) → IsDisk g disk → (c : List ℕ) → IsOfOne image every_disk disk c → KeepsOf g d disk c
  all_keep keep d same disk here c of =
      by_node (node_with g disk) _
      (λ n own.
      let is = node_has g disk n here own in
      let x = found disk n own c of in
      let kept = each_at _ _ (keep.each n is a_node).keeps x.one x.among c x.may in
      subst (λ k. KeepsFor n k disk c) (sym (same n is)) (subst (λ m. KeepsFor n (at n).kept m c) x.named kept))

  -- ---- what is kept

  module _ (record_kept : KeepsItsRecord image g topology) (left : Images) (by : IsLeftBy image g topology (all_from disks_of 0 nodes) left) where
    -- what is left under the name of one of a node's disks is of that disk
    is_own : (n : Node) → IsNode g n → (l : Lent D) → Mem l (disks_at n a_node) → (c : List ℕ) → left l.name c → image l.disk c
    is_own n is l m c here =
        let its = own_name n is l m in
        let x = found l.name n (owner g n l.name is its) c (by l.name (of_setting g n l.name is its) c here) in
        let apart = subst (EachPair (λ one other. one ≢ other)) (sym (all.each n is a_node).named) (names_apart g.config n) in
        subst (λ (y : Lent D). image y.disk c) (one_named (λ (y : Lent D). y.name) (disks_at n a_node) apart x.one l x.among m x.named) x.may

    -- what is left of all disks keeps what the nodes' states say
    pub all_kept : AreKept g at left
    all_kept = record {
      topology = λ c here. record_kept.keeps c (topology_image c (by TopologyDisk tt c here));
      nodes = λ n is b here. (
          let hold = all.each n is a_node in
          let bytes : Each (λ l. image l.disk (b l.name)) (disks_at n a_node) = each_from _ _ (λ l m. let its = own_name n is l m in is_own n is l m (b l.name) (here l.name (of_setting g n l.name is its) (owner g n l.name is its))) in
          let x = hold.keeps b bytes in (
            x.0,
            (x.1.0, λ disk there own. let l = has_disk disk n there own in subst (λ d. KeepsFor n x.0 d (b d)) l.2 (each_at (λ l. KeepsFor n x.0 l.name (b l.name)) _ x.1.1 l.0 l.1)),
          )
          );
    }
