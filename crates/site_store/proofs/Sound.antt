-- What a sound store keeps isn't refused: no topology, no place of the click log, and no disk as damaged.
use Rattle.std.proofs.Common.{◌≡◌, ◌≢◌, inl, inr, ℕ, ◌≤◌, List, map, Bool, IsTrue, true, Option, Some, None, refl, sym, ◌∙◌, ap, subst, arith}
use Rattle.site_store.proofs.Words.{Each, EachPair, Mem, has, DiskName, KeepsOffset, KeepsPending, offset_of, pending_of, IsBoundary, end_from, Topology, Keeps, Setting, IsLogOf, joiners_kept, IsMisfit, RunFault, IsWelcome, Fits, places_at, all_kept, PlainTopology, topology_of, Bytes, IsDisk, KeepSound, IsSoundStore, ReadTopologyIsKept, TopologyFits, choose, one_value, Kept, KeptDisk, KeptValues, KeepsAs, IsOfKind, IsKept, AreKept, IsAsked, IsCause, LeavesSomething, other_names}
use Rattle.outside.specs.declared.store.DiskName.TheVariants as name
use Rattle.run_fault.specs.declared.fault.Mismatch.TheVariants as mismatch
use Rattle.run_fault.specs.declared.fault.RunFault.TheVariants as fault
use Rattle.site_store.proofs.Damage.{kept_joiners, no_damage}
use Rattle.site_store.proofs.Leaving.{joiners_same}
use Rattle.site_store.proofs.Lending.{each_mem, same_or_not}
use Rattle.site_store.proofs.Names.{others_apart, others_are, not_topology, all_named}
use Rattle.site_store.proofs.Telling.{all_fit, first_clash, of_starts}
use Rattle.site_store.proofs.Values.{at_name, find_name, named_mem, one_named}

module _ (tells : Bool) (sure : IsTrue tells) (image : DiskName → List ℕ → Type 0) (asked : ℕ) (g : Setting) (k : KeptValues) (kept : AreKept tells image g.config.replicas asked k) where
  abbrev many : ℕ
  many = joiners_kept k.topology asked

  -- with as many joiners kept as the setting has, each of its disks was opened
  pub something : many ≡ g.config.joiners → LeavesSomething g image
  something same disk here = elim (same_or_not disk name.Topology) [
    | inl is ↦ let x = kept.topology sure in (x.0, subst (λ (n : DiskName). image n x.0) (sym is) x.1)
    | inr not ↦
        let d = at_name (λ (d : KeptDisk). d.name) k.disks disk (subst (Mem disk) (sym (kept.named ∙ ap (λ n. other_names n g.config.replicas) same)) (all_named g disk here not)) in
        let x = each_mem (IsKept image) d.0 k.disks (kept.kept sure) d.1 in
        (x.0, subst (λ (n : DiskName). image n x.0) d.2 x.1)
  ]

  module _ (some : LeavesSomething g image) (sound : IsSoundStore g image) where
    no_topology : (d : KeptDisk) → Mem d k.disks → d.name ≢ name.Topology
    no_topology d among = each_mem (λ (n : DiskName). n ≢ name.Topology) d.name _ (subst (Each (λ (n : DiskName). n ≢ name.Topology)) (sym kept.named) (not_topology many g.config.replicas)) (named_mem (λ (d : KeptDisk). d.name) k.disks d among)

    -- what the chosen bytes of a disk keep
    abbrev Was : DiskName → List ℕ → Type 0
    Was disk c = ((d : KeptDisk) → Mem d k.disks → d.name ≡ disk → KeepsAs d.kept c) × (disk ≡ name.Topology → Keeps k.topology c)

    pub one_each : (disk : DiskName) → IsDisk g disk → (c : List ℕ) × (image disk c × Was disk c)
    one_each disk here = elim (same_or_not disk name.Topology) [
      | inl is ↦
          let x = kept.topology sure in
          (x.0, (subst (λ (n : DiskName). image n x.0) (sym is) x.1, (λ d among named. absurd (no_topology d among (named ∙ is)), λ e. x.2)))
      | inr not ↦ elim (find_name k.disks disk) [
        | inl found ↦
            let x = each_mem (IsKept image) found.0 k.disks (kept.kept sure) found.1 in
            let apart : EachPair (λ one other. one ≢ other) (map (λ d. d.name) k.disks) = subst (EachPair (λ one other. one ≢ other)) (sym kept.named) (others_apart many g.config.replicas) in
            (x.0, (subst (λ (n : DiskName). image n x.0) found.2 x.1, (λ d among named. subst (λ (o : KeptDisk). KeepsAs o.kept x.0) (one_named (λ (d : KeptDisk). d.name) k.disks apart found.0 d found.1 among (found.2 ∙ sym named)) x.2, λ e. absurd (not e))))
        | inr none ↦ let x = some disk here in (x.0, (x.1, (λ d among named. absurd (none d among named), λ e. absurd (not e))))
      ]
    ]

    abbrev pub chosen : (b : Bytes) × ((disk : DiskName) → IsDisk g disk → image disk (b disk) × Was disk (b disk))
    chosen = choose g (λ disk c. image disk c × Was disk c) one_each

    pub all_sound : KeepSound g chosen.0
    all_sound = sound chosen.0 (λ disk here. (chosen.1 disk here).0)

    pub topology_held : Keeps k.topology (chosen.0 name.Topology)
    topology_held = (chosen.1 name.Topology tt).1.1 refl

    pub held : (d : KeptDisk) → Mem d k.disks → IsDisk g d.name → KeepsAs d.kept (chosen.0 d.name)
    held d among here = (chosen.1 d.name here).1.0 d among refl

    pub topology_is : ReadTopologyIsKept → TopologyFits → (t : Topology) → k.topology ≡ Some t → record { joiners = t.joiners; table = t.table } ≡ topology_of g
    topology_is read fits t is = grind (arith, all_sound)

    fits_at : (n : DiskName) (kd : Kept) → IsOfKind n kd → IsDisk g n → KeepsAs kd (chosen.0 n) → Each (Fits g.clicks) (places_at n kd)
    fits_at (name.Offset s) kd (v, is) here keeps =
        let own : KeepsOffset v (chosen.0 (name.Offset s)) = subst (λ (x : Kept). KeepsAs x (chosen.0 (name.Offset s))) is keeps in
        let same = one_value (offset_of (chosen.0 (name.Offset s))) _ _ (all_sound.1.records (name.Offset s) here) own in
        subst (λ (x : Kept). Each (Fits g.clicks) (places_at (name.Offset s) x)) (sym is) (subst (IsBoundary g.clicks) same (all_sound.2.records.dispatchers s here).boundary, tt)
    fits_at (name.Retry s) kd (v, is) here keeps =
        let own : KeepsPending v (chosen.0 (name.Retry s)) = subst (λ (x : Kept). KeepsAs x (chosen.0 (name.Retry s))) is keeps in
        let same = one_value (pending_of (chosen.0 (name.Retry s))) _ _ (all_sound.1.records (name.Retry s) here) own in
        subst (λ (x : Kept). Each (Fits g.clicks) (places_at (name.Retry s) x)) (sym is)
        (of_starts g.clicks s v (λ p e. (all_sound.2.records.dispatchers s here).starts p (subst (λ (ps : List ℕ). has ps p ≡ true) (sym same) e)))
    fits_at _ kd (v, is) here keeps = grind arith

    pub are_disks : many ≤ g.config.joiners → (d : KeptDisk) → Mem d k.disks → IsDisk g d.name
    are_disks le d among = each_mem (IsDisk g) d.name _ (subst (Each (IsDisk g)) (sym kept.named) (others_are g many le)) (named_mem (λ (d : KeptDisk). d.name) k.disks d among)

    pub places_fit : many ≤ g.config.joiners → Each (Fits g.clicks) (all_kept k.disks)
    places_fit le = all_fit g.clicks k.disks (λ d among.
        let here = are_disks le d among in
        fits_at d.name d.kept (each_mem (λ (o : KeptDisk). IsOfKind o.name o.kept) d k.disks kept.kinds among) here (held d among here))

-- ---- what is refused of a sound store

module _ (tells : Bool) (sure : IsTrue tells) (log_tells : Bool) (log_sure : IsTrue log_tells) (image : DiskName → List ℕ → Type 0) (log : List ℕ) (end_ : ℕ) (faulted rose : Type 0) (read : ReadTopologyIsKept) (fits : TopologyFits)
    (g : Setting) (log_is : IsLogOf log g) (end_is : end_ ≡ end_from 0 g.clicks) (sound : IsSoundStore g image) where
  -- where a setting's topology is asked
  module _ (asked : Topology) (is : IsAsked asked g) where
    abbrev AreIn : KeptValues → Type 0
    AreIn k = AreKept tells image g.config.replicas asked.joiners k

    some_left : (k : KeptValues) → AreIn k → joiners_kept k.topology asked.joiners ≡ asked.joiners → LeavesSomething g image
    some_left k are same = something tells sure image asked.joiners g k are (same ∙ sym is.joiners)

    no_table : (k : KeptValues) (kept wanted : List _) → AreIn k → IsMisfit k.topology asked (fault.Topology (mismatch.Table kept wanted)) → ⊥
    no_table k kept wanted are (t, kept_is, same, old_is, new_is, other) =
        let many : joiners_kept k.topology asked.joiners ≡ asked.joiners = ap (λ (x : Option Topology). joiners_kept x asked.joiners) kept_is ∙ same in
        let some = some_left k are many in
        other (ap (λ (u : PlainTopology). u.table) (topology_is tells sure image asked.joiners g k are some sound read fits t kept_is) ∙ is.table)

    no_joiners : (k : KeptValues) (kept wanted : ℕ) → AreIn k → IsMisfit k.topology asked (fault.Topology (mismatch.Joiners kept wanted)) → LeavesSomething g image → ⊥
    no_joiners k kept wanted are (t, kept_is, old_is, new_is, other) some =
        other (ap (λ (u : PlainTopology). u.joiners) (topology_is tells sure image asked.joiners g k are some sound read fits t kept_is) ∙ is.joiners)

    pub welcome : (f : RunFault) → IsCause tells image g.config.replicas faulted log_tells log end_ rose (Some asked) f → IsWelcome (LeavesSomething g image) f
    welcome (fault.Damaged disk at) (first, was) = no_damage tells sure image asked.joiners read fits g (omega (arith, is.joiners)) sound disk at first was
    welcome (fault.Topology (mismatch.Joiners kept wanted)) (k, are, why) = no_joiners k kept wanted are why
    welcome (fault.Topology (mismatch.Table kept wanted)) (k, are, why) = no_table k kept wanted are why
    welcome (fault.Topology (mismatch.Place told)) (k, are, why) =
        let many = joiners_same k.topology asked why.0 in
        let some = some_left k are many in
        first_clash g.clicks _ told (why.1 log_sure g log_is end_is) (places_fit tells sure image asked.joiners g k are some sound (omega (arith, many, is.joiners)))
    welcome _ why = tt

  -- where nothing is asked
  pub welcome_read : LeavesSomething g image → (f : RunFault) → IsCause tells image g.config.replicas faulted log_tells log end_ rose None f → IsWelcome (LeavesSomething g image) f
  welcome_read some (fault.Damaged disk at) (first, was) = no_damage tells sure image 0 read fits g (omega arith) sound disk at first was
  welcome_read some (fault.Topology (mismatch.Joiners kept wanted)) (k, are, why) = absurd why
  welcome_read some (fault.Topology (mismatch.Table kept wanted)) (k, are, why) = absurd why
  welcome_read some (fault.Topology (mismatch.Place told)) (k, are, why) =
      let le = kept_joiners read fits g image some sound k.topology 0 (omega arith) (are.topology sure) in
      first_clash g.clicks _ told (why.1 log_sure g log_is end_is) (places_fit tells sure image 0 g k are some sound le)
  welcome_read some _ why = tt
