-- A turn of a node and its restart as the states' entries, over any core and any records.
use Rattle.std.proofs.Common.{◌≡◌, ◌⊎◌, inl, inr, ⊎_elim, ℕ, ◌≤◌, Bool, true, false, List, [], length, Option, Some, None, refl, sym, ap, subst}
use Rattle.std.specs.Prelude.{is_some, if◌then◌else◌}
use Rattle.turn_defs.specs.declared.config.Config.{Config}
use Rattle.turn_defs.specs.declared.packet.Packet.{Packet}
use Rattle.turn_defs.specs.declared.node.Node.{Node}
use Rattle.turn_defs.specs.declared.node.Input.{Input}
use Rattle.turn_defs.specs.declared.node.Input.TheVariants.{Start}
use Rattle.turn_defs.specs.Turns.{Note, land}
use Rattle.air_bus.specs.declared.entry.Input.{Input as Bytes}
use Rattle.air_bus.specs.declared.entry.Input.TheVariants as bytes
use Rattle.air_bus.specs.declared.entry.Entry.TheVariants.{Begin, End, Stop}
use Rattle.site_node.specs.Bytes.{IsNoted, AreSpelled, Reads, IsJunk}
use Rattle.site_node.specs.States.{State, Leads, row, written, opens, closes}
use Rattle.site_node.specs.Faults.{MeetsStops}
use Rattle.site_node.proofs.Stops.{then_more}
use Rattle.site_node.proofs.Turns.{ends_idle, ends_done}
use Rattle.site_node.specs.Deciding.{IsTurn, spent_at}
use Rattle.site_node.specs.Shell.{IsInDoubt, StandsAt, KeptOn, spends_at, waits_by}
use Rattle.site_node.specs.declared.deciding.Core as core
use Rattle.site_node.specs.declared.records.Records as records

module _ {K C N X H R F : Type 0} (c : core.Ghosts C K N X H) (r : records.Ghosts R K C F N X H) where
  abbrev Stands : Config → Option (List ℕ) → C → R → State K c.Live → Type 0
  Stands = StandsAt c r

  -- a node that is up has nothing in doubt, and one that waits has
  pub no_doubt : (doubt : Option (List ℕ)) (ready : Bool) → waits_by doubt ready ≡ false → is_some doubt ≡ false
  no_doubt None ready up = refl
  no_doubt (Some b) ready up = absurd (cc up)

  pub in_doubt : (config : Config) (doubt : Option (List ℕ)) (own : C) (kept : R) (s : State K c.Live) → waits_by doubt (r.ready kept) ≡ true → Stands config doubt own kept s → is_some doubt ≡ true
  in_doubt config None own kept s waits at = absurd (cc (subst (λ (b : Bool). waits_by {A = List ℕ} None b ≡ true) at.by.2 waits))
  in_doubt config (Some b) own kept s waits at = refl

  -- the state of a node with nothing in doubt
  pub quiet : (config : Config) (doubt : Option (List ℕ)) (own : C) (kept : R) (s : State K c.Live) → is_some doubt ≡ false → Stands config doubt own kept s → r.holds kept s.kept × c.knows own s.setting s.kept s.live × (r.ready kept ≡ true)
  quiet config None own kept s up at = at.by
  quiet config (Some b) own kept s up at = absurd (cc up)

  -- a turn that is open, with nothing in doubt
  pub opens_quiet : (config : Config) (doubt : Option (List ℕ)) (own : C) (kept : R) (s t : State K c.Live) (b : Bytes)
      → is_some doubt ≡ false → s.setting.config ≡ config → r.holds kept s.kept → c.knows own s.setting s.kept s.live → r.ready kept ≡ true → t ≡ opens s b → Stands config doubt own kept t
  opens_quiet config None own kept s t b up setting held known ready led = subst (Stands config None own kept) (sym led) (record { setting = setting; by = (held, known, ready) })
  opens_quiet config (Some d) own kept s t b up setting held known ready led = absurd (cc up)

  -- a turn that was stopped
  pub opens_doubt : (config : Config) (doubt : Option (List ℕ)) (own : C) (kept : R) (s t : State K c.Live) (b : Bytes) (i : Input) (note : Option Note)
      → s.setting.config ≡ config → Reads s.setting b i → note ≡ (row c.rows s i).note → IsInDoubt (r.doubts kept s.kept) c.rows.lands doubt note s.kept → c.serves own s.setting s.kept → c.serves own s.setting (written c.rows s i) → t ≡ opens s b
      → Stands config doubt own kept t
  opens_doubt config None own kept s t b i written_note setting reads is doubted serves next led = absurd doubted
  opens_doubt config (Some d) own kept s t b i written_note setting reads is doubted serves next led =
      subst (Stands config (Some d) own kept) (sym led)
      (record {
        setting = setting;
        by = record {
          begun = b;
          opened = refl;
          input = i;
          reads = reads;
          noted = subst (λ (n : Option Note). IsNoted n (Some d)) is doubted.0;
          doubted = subst (λ (n : Option Note). r.doubts kept s.kept (land c.rows.lands n s.kept)) is doubted.1;
          serves = serves;
          serves_next = next;
        };
      })

  -- what no packet spells changes nothing
  pub idles : (config : Config) (doubt : Option (List ℕ)) (own : C) (kept : R) (s t : State K c.Live) (n : ℕ) (b : Bytes) (ps : List (ℕ × List ℕ)) (sent : ℕ)
      → is_some doubt ≡ false → Stands config doubt own kept s → Leads c.rows s (Begin n b) t → IsJunk s.setting b → ps ≡ [] → sent ≤ length ps
      → (u : State K c.Live) × Leads c.rows t (End n None ps sent) u × Stands config doubt own kept u
  idles config (Some d) own kept s t n b ps sent up at led junk empty le = absurd (cc up)
  idles config None own kept s t n b ps sent up at led junk empty le = (closes s s.kept s.live, ends_idle c.rows s t n b ps sent led le junk empty, record { setting = at.setting; by = at.by })

  -- a turn that is done
  pub ends : (config : Config) (doubt : Option (List ℕ)) (own : C) (kept : R) (s t : State K c.Live) (n : ℕ) (b : Bytes) (i : Input) (note : Option Note) (packets : List (Node × Packet)) (said : Option (List ℕ)) (ps : List (ℕ × List ℕ)) (sent : ℕ)
      (serves : K → Type 0) (goes_on : K → c.Live → Type 0)
      → s.setting.config ≡ config → Leads c.rows s (Begin n b) t → Reads s.setting b i → IsTurn c.rows.lands c.takes serves goes_on s.setting s.kept (row c.rows s i) note packets → AreSpelled packets ps → IsNoted note said
      → (doubt ≡ None) × (r.ready kept ≡ true) → c.knows own s.setting (written c.rows s i) (Some (row c.rows s i).live) → r.holds kept (land c.rows.lands note s.kept) → sent ≤ length ps
      → (u : State K c.Live) × Leads c.rows t (End n said ps sent) u × Stands config doubt own kept u
  ends config doubt own kept s t n b i written_note packets said ps sent serves goes_on setting led reads turn spelled said_is none known held le =
      let u = closes s (written c.rows s i) (Some (row c.rows s i).live) in (
        u,
        ends_done c.rows s t n b ps sent led le i said packets reads (subst (λ (o : Option Note). IsNoted o said) turn.noted said_is) spelled turn.sent,
        subst (λ (d : Option (List ℕ)). Stands config d own kept u) (sym none.0) (record { setting = setting; by = (subst (λ (o : Option Note). r.holds kept (land c.rows.lands o s.kept)) turn.noted held, known, none.1) }),
      )

  -- after a stop: what was in doubt is told where it landed
  pub stops : (config : Config) (doubt : Option (List ℕ)) (old new : C) (kept now : R) (s : State K c.Live) (n : ℕ) (landed : Bool)
      → is_some doubt ≡ true → Stands config doubt old kept s
      → ((k with : K) → r.doubts kept k with → c.serves old s.setting (if landed then with else k) → r.holds now (if landed then with else k) × c.knows new s.setting (if landed then with else k) None × (r.ready now ≡ true))
      → (u : State K c.Live) × Leads c.rows s (Stop n (if landed then doubt else None)) u × Stands config None new now u
  stops config None old new kept now s n landed waits at tells = absurd (cc waits)
  stops config (Some d) old new kept now s n true waits at tells =
      let o = at.by in
      let next = written c.rows s o.input in
      (closes s next None, (o.begun, o.opened, inr (o.input, o.reads, o.noted, refl)), record { setting = at.setting; by = tells s.kept next o.doubted o.serves_next })
  stops config (Some d) old new kept now s n false waits at tells =
      let o = at.by in
      (closes s s.kept None, (o.begun, o.opened, inl (refl, refl)), record { setting = at.setting; by = tells s.kept (written c.rows s o.input) o.doubted o.serves })

  -- room was made, and then the note was appended
  pub meets : (met told : Bool) (old mid new : R) → met ≡ told → MeetsStops false (r.stops_left old) (r.stops_left mid) (r.faults old) (r.faults mid)
      → MeetsStops met (r.stops_left mid) (r.stops_left new) (r.faults mid) (r.faults new) → MeetsStops told (r.stops_left old) (r.stops_left new) (r.faults old) (r.faults new)
  meets met told old mid new is first next = rw (← is) (then_more met _ _ _ _ _ _ first next)

  -- whatever is left while nothing is in doubt and no note is written, the opened state keeps
  pub keeps_quiet : (s t : State K c.Live) (b : Bytes) (bytes : r.Contents) → t ≡ opens s b → r.keeps s.kept bytes → KeptOn c r t bytes
  keeps_quiet s t b bytes led kept = subst (λ (x : State K c.Live). KeptOn c r x bytes) (sym led) (s.kept, inl refl, kept)

  -- and while the row's note is written
  pub keeps_open : (s t : State K c.Live) (b : Bytes) (i : Input) (note : Option Note) (bytes : r.Contents) → t ≡ opens s b → Reads s.setting b i → note ≡ (row c.rows s i).note → r.keeps s.kept bytes ⊎ r.keeps (land c.rows.lands note s.kept) bytes → KeptOn c r t bytes
  keeps_open s t b i written_note bytes led reads is left =
      subst (λ (x : State K c.Live). KeptOn c r x bytes) (sym led)
      (⊎_elim (λ old. (s.kept, inl refl, old)) (λ new. (written c.rows s i, inr (b, i, refl, reads, refl), subst (λ (o : Option Note). r.keeps (land c.rows.lands o s.kept) bytes) is new)) left)

  -- and while it is in doubt
  pub keeps_doubt : (config : Config) (doubt : Option (List ℕ)) (own : C) (kept : R) (s : State K c.Live) (bytes : r.Contents)
      → is_some doubt ≡ true → Stands config doubt own kept s → ((k with : K) → r.doubts kept k with → r.keeps k bytes ⊎ r.keeps with bytes) → KeptOn c r s bytes
  keeps_doubt config None own kept s bytes waits at left = absurd (cc waits)
  keeps_doubt config (Some d) own kept s bytes waits at left =
      let o = at.by in
      let next = written c.rows s o.input in
      ⊎_elim (λ old. (s.kept, inl refl, old)) (λ new. (next, inr (o.begun, o.input, o.opened, o.reads, refl), new)) (left s.kept next o.doubted)

module _ {K L : Type 0} (spent : K → Option ℕ) (s : State K L) where
  -- the kept epoch that the input would raise is the one that its bytes would
  pub spent_input : (b : Bytes) (i : Input) → Reads s.setting b i → spent_at spent s.kept i ≡ spends_at spent s b
  spent_input bytes.Start i reads = ap (spent_at spent s.kept) reads
  spent_input bytes.Own i reads = ap (spent_at spent s.kept) reads
  spent_input bytes.Tick i reads = ap (spent_at spent s.kept) reads
  spent_input (bytes.Packet from p) i reads = ap (spent_at spent s.kept) reads.5

  -- what no packet spells raises no epoch
  pub junk_unspent : (b : Bytes) (epoch : ℕ) → IsJunk s.setting b → spends_at spent s b ≡ Some epoch → ⊥
  junk_unspent bytes.Start epoch junk is = junk Start refl
  junk_unspent b epoch junk is = cc (is)
