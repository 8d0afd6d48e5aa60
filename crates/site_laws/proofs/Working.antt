-- Which bytes keep a sound store, worked out.
use Rattle.std.proofs.Common.{◌≡◌, ◌≢◌, inr, ℕ, [], ◌∷◌, Option, Some, None, Result, Ok, refl, sym, ◌∙◌, ap, subst, lit<, arith}
use Rattle.site_laws.proofs.Words.{DiskName, gate_rule, records, KeptTopology, record_of, a_pair, worked, Setting, topology_of, WholeSound, empty_store, TopologyComesFirst, Images, KeepsTopology, KeepSound, KeepOneTopology, TopologyIsFirst, TopologyFits, topology_alone, pair_alone, a_row, row_behind, SoundBytes, with_row}
use Rattle.outside.specs.declared.store.DiskName.TheVariants as name
use Rattle.gate_journal.specs.Gate.{reading}
use Rattle.topology_journal.specs.Topologies as journal
use Rattle.site_laws.specs.Stores.{Bytes}
use Rattle.site_laws.proofs.Opening.{empty_sound, written_sound}

-- these bytes alone
abbrev just : Bytes → Images
just b disk c = c ≡ b disk

not_kept : (t : KeptTopology) → ◌≡◌ {A = Result (Option KeptTopology) ℕ} (Ok None) (Ok (Some t)) → ⊥
not_kept t e = (cc)

keeps_longer : KeepsTopology (Some (topology_of (with_row worked a_row))) (row_behind name.Topology)
unfolding reading
keeps_longer = refl

module _ (whole : (g : Setting) → WholeSound g empty_store) (first : TopologyComesFirst) (one : KeepOneTopology) (fits : TopologyFits) (comes : TopologyIsFirst) where
  -- a setting's topology alone
  alone_sound : (g : Setting) (b : Bytes) → KeepsTopology (Some (topology_of g)) (b name.Topology) → ((disk : DiskName) → disk ≢ name.Topology → b disk ≡ []) → KeepSound g b
  alone_sound g b keeps none =
      written_sound first g (just (λ disk. [])) (just b) (empty_sound whole g (just (λ disk. [])) (λ disk is c e. e))
      (record {
        was = ([], refl);
        topology = λ c e. inr (subst (KeepsTopology (Some (topology_of g))) (sym e) keeps);
        others = λ disk is other c e. ([], refl, ap gate_rule (e ∙ none disk other));
      })
      b (λ disk is. refl)

  topology_sound : KeepSound worked (topology_alone 1)
  unfolding reading
  topology_sound = grind (arith, alone_sound)

  row_sound : KeepSound (with_row worked a_row) row_behind
  row_sound = grind (arith, alone_sound, keeps_longer)

  no_row : KeepSound (with_row worked a_row) (topology_alone 1) → ⊥
  unfolding reading
  no_row x = grind arith

  another_row : KeepSound worked row_behind → ⊥
  unfolding reading
  another_row x = grind arith

  other_topology : KeepSound worked (topology_alone 2) → ⊥
  unfolding reading
  other_topology x = grind arith

  has_pair : records (pair_alone (name.Output 0 0)) ≡ record_of a_pair ∷ []
  unfolding reading
  has_pair = refl

  pair_first : KeepSound worked pair_alone → ⊥
  pair_first x =
      let keeps = comes worked pair_alone (name.Output 0 0) x (lit< tt, lit< tt) (λ e. cc) (λ none. absurd (cc (sym has_pair ∙ none))) in
      absurd (not_kept (journal.topology_of 1 worked.config.table) keeps)

  pub worked_bytes : SoundBytes
  worked_bytes = record { topology = topology_sound; no_other_topology = other_topology; no_record_before = pair_first; row_added = row_sound; row_missing = no_row; row_not_asked = another_row }
