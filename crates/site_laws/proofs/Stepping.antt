-- One entry of a node of any kind: what leads its state on is what the model's node may do.
use Rattle.std.proofs.Common.{◌≡◌, inl, inr, ⊎_elim, ℕ, ◌≤◌, List, [], length, Option, Some, None, refl, sym, ap, ◌∙◌, subst, arith}
use Rattle.std.specs.Prelude.{⊤}
use Rattle.site_laws.proofs.Words.{length-map, Each, some_same, Setting, IsNode, node_of, Addressed, NumbersAreNodes, Note, Out, Packet, packet, IsPacket, Sent, Node, Input, Deliver, Entry, Begin, End, Stop, begun, ended, stopped, row, sends, Fits, WasSent, MayBegin, IsTurn, MayStop, Cell, BusEntry, number_in, IsNoted, addressed, Reads, State, Rows, MayTake, row_of, Leads, IsDone, IsIdle, Means, OpenedAs}
use Rattle.air_bus.specs.declared.entry.Input.{Input as Bytes}
use Rattle.air_bus.specs.declared.entry.Input.TheVariants as bytes
use Rattle.air_bus.specs.declared.entry.Entry.TheVariants as bus
use Rattle.site_laws.proofs.Addressing.{SendsRight, ComesRight, all_right}

-- no two packets share a spelling
abbrev pub OneSpelling : Type 0
OneSpelling = (p q : Packet) → IsPacket p → IsPacket q → packet p ≡ packet q → p ≡ q

-- what a node does, whoever it is
pub data Deed : Type 0 where
  Begins : Input → Deed
  Ends : Option Note → List (Node × Packet) → ℕ → Deed
  Stops : Option Note → Deed

abbrev pub entry_of : Node → Deed → Entry
entry_of n (Begins i) = Begin n i
entry_of n (Ends made ps kept) = End n made ps kept
entry_of n (Stops landed) = Stop n landed

abbrev pub sent_of : Node → Deed → List Sent
sent_of n (Begins i) = []
sent_of n (Ends made ps kept) = sends n ps
sent_of n (Stops landed) = []

-- all its packets go to nodes of the setting
abbrev pub DoesRight : Setting → Deed → Type 0
DoesRight g (Begins i) = ⊤
DoesRight g (Ends made ps kept) = Each (λ (p : Node × Packet). IsNode g p.0) ps
DoesRight g (Stops landed) = ⊤

-- ---- inputs

pub opened_none : (g : Setting) (o : Option Bytes) (x : Option Input) → OpenedAs g o x → o ≡ None → x ≡ None
opened_none g o x a e = grind arith

pub opened_some : (g : Setting) (o : Option Bytes) (x : Option Input) (b : Bytes) → OpenedAs g o x → o ≡ Some b → (i : Input) × (x ≡ Some i) × Reads g b i
opened_some g o x b a e = grind arith

-- bytes are read as one input
pub one_reading : OneSpelling → (g : Setting) (b : Bytes) (i j : Input) → Reads g b i → Reads g b j → i ≡ j
one_reading one g (bytes.Packet from b) i j p q =
    p.5 ∙ ap (λ (m : Node). Deliver m p.1) (some_same p.0 q.0 (sym p.2 ∙ q.2)) ∙ ap (λ (x : Packet). Deliver q.0 x) (one p.1 q.1 p.3 q.3 (sym p.4 ∙ q.4)) ∙ sym q.5
one_reading one g _ i j p q = p ∙ sym q

-- its sender is a node of the setting
comes_right : (g : Setting) → NumbersAreNodes g → (b : Bytes) (i : Input) → Reads g b i → ComesRight g i
comes_right g numbers b i r = grind arith

fits : {L : Type 0} (g : Setting) (live : Option L) (b : Bytes) (i : Input) → MayTake live b → Reads g b i → Fits live i
fits {L} g None bytes.Start i m r = subst (λ j. Fits {L = L} None j) (sym r) tt
fits g (Some l) bytes.Own i m r = subst (λ j. Fits (Some l) j) (sym r) tt
fits g (Some l) bytes.Tick i m r = subst (λ j. Fits (Some l) j) (sym r) tt
fits g (Some l) (bytes.Packet from b) i m r = subst (λ j. Fits (Some l) j) (sym r.5) tt
fits g _ _ i m r = absurd m

-- ---- one kind of node

module _ {K L : Type 0} (rows : Rows K L) (g : Setting) where
  -- the model's row
  abbrev pub model_row : Cell K L → Out L
  model_row c = row rows.start (rows.turn g) c.kept c.live c.opened

  -- the deed may come next
  abbrev pub MayDo : Node → List Sent → Cell K L → Deed → Type 0
  MayDo n sent c (Begins i) = MayBegin c sent n i
  MayDo n sent c (Ends made ps kept) = IsTurn g c (model_row c) made ps × (kept ≤ length ps)
  MayDo n sent c (Stops landed) = MayStop c (model_row c) landed

  -- the node once it is done
  abbrev pub done : Cell K L → Deed → Cell K L
  done c (Begins i) = begun c i
  done c (Ends made ps kept) = ended rows.lands c made (model_row c).live
  done c (Stops landed) = stopped rows.lands c landed

  -- the state of the model's node, whose open turn began with this
  abbrev pub state_at : Cell K L → Option Bytes → State K L
  state_at c o = record { setting = g; kept = c.kept; live = c.live; opened = o }

  -- a deed that the entry means, after which the node stands at the state
  pub record Stepped (n : Node) (sent : List Sent) (c : Cell K L) (e : BusEntry) (t : State K L) : Type 0 where
    pub deed : Deed
    pub means : Means g e (entry_of n deed)
    pub may : MayDo n sent c deed
    pub right : DoesRight g deed
    pub begun_with : Option Bytes
    pub opened : OpenedAs g begun_with (done c deed).opened
    pub state : state_at (done c deed) begun_with ≡ t

  pub row_is : (c : Cell K L) (i : Input) → c.opened ≡ Some i → model_row c ≡ row_of rows g c.kept c.live i
  row_is c i e = grind arith

  module _ (n : Node) (sent : List Sent) (c : Cell K L) (o : Option Bytes) (as_ : OpenedAs g o c.opened) (t : State K L) where
    begins : (m : ℕ) → node_of g m ≡ Some n → (b : Bytes) (i : Input) → Reads g b i → WasSent sent n i → Leads rows (state_at c o) (bus.Begin m b) t → Stepped n sent c (bus.Begin m b) t
    begins m is b i r was l = record {
      deed = Begins i;
      means = (is, r);
      may = (opened_none g o c.opened as_ l.0, fits g c.live b i l.1 r, was);
      right = tt;
      begun_with = Some b;
      opened = r;
      state = sym l.2;
    }

    module _ (one : OneSpelling) where
      -- the row of what the open turn began with is the model's
      same_row : (b : Bytes) (i : Input) → o ≡ Some b → Reads g b i → model_row c ≡ row_of rows g c.kept c.live i
      same_row b i e r = let x = opened_some g o c.opened b as_ e in row_is c x.0 x.1 ∙ ap (λ j. row_of rows g c.kept c.live j) (one_reading one g b x.0 i x.2 r)

      stops : (m : ℕ) → node_of g m ≡ Some n → (landed : Option (List ℕ)) → Leads rows (state_at c o) (bus.Stop m landed) t → Stepped n sent c (bus.Stop m landed) t
      stops m is landed l = ⊎_elim none some l.2
        where
          open_turn : (i : Input) × (c.opened ≡ Some i)
          open_turn = let x = opened_some g o c.opened l.0 as_ l.1 in (x.0, x.1)

          none : (landed ≡ None) × (t ≡ state_at (stopped rows.lands c None) None) → Stepped n sent c (bus.Stop m landed) t
          none x = record { deed = Stops None; means = (is, x.0); may = (open_turn, inl refl); right = tt; begun_with = None; opened = tt; state = sym x.1 }

          some : (i : Input) × Reads g l.0 i × IsNoted (row_of rows g c.kept c.live i).note landed × (t ≡ state_at (stopped rows.lands c (row_of rows g c.kept c.live i).note) None) → Stepped n sent c (bus.Stop m landed) t
          some x = let same = same_row l.0 x.0 l.1 x.1 in record {
            deed = Stops (model_row c).note;
            means = (is, subst (λ (r : Out L). IsNoted r.note landed) (sym same) x.2);
            may = (open_turn, inr refl);
            right = tt;
            begun_with = None;
            opened = tt;
            state = ap (λ (r : Out L). state_at (stopped rows.lands c r.note) None) same ∙ sym x.3;
          }

      ends : ((i : Input) → ComesRight g i → SendsRight g (row_of rows g c.kept c.live i)) → NumbersAreNodes g → (m : ℕ) → node_of g m ≡ Some n → (noted : Option (List ℕ)) (ps : List (ℕ × List ℕ)) (kept : ℕ)
          → Leads rows (state_at c o) (bus.End m noted ps kept) t → Stepped n sent c (bus.End m noted ps kept) t
      ends right numbers m is noted ps kept l = ⊎_elim done_so idle l.3
        where
          idle : IsIdle rows (state_at c o) l.0 noted ps t → Stepped n sent c (bus.End m noted ps kept) t
          idle x = let open_turn = opened_some g o c.opened l.0 as_ l.1 in absurd (x.junk open_turn.0 open_turn.2)

          done_so : (i : Input) × Reads g l.0 i × IsDone rows (state_at c o) i noted ps t → Stepped n sent c (bus.End m noted ps kept) t
          done_so x =
              let i = x.0 in
              let d = x.2 in
              let same = same_row l.0 i l.1 x.1 in
              let open_turn = opened_some g o c.opened l.0 as_ l.1 in
              let few : length ps ≡ length d.packets = ap length d.spelled.bytes ∙ length-map d.packets addressed in
              record {
                deed = Ends (model_row c).note d.packets kept;
                means = (is, subst (λ (r : Out L). IsNoted r.note noted) (sym same) d.noted, d.spelled, refl);
                may = (((open_turn.0, open_turn.1), refl, subst (λ (r : Out L). Addressed g r.packets d.packets) (sym same) d.sent), subst (λ k. kept ≤ k) few l.2);
                right = all_right g (row_of rows g c.kept c.live i).packets d.packets (right i (comes_right g numbers l.0 i x.1)) d.sent;
                begun_with = None;
                opened = tt;
                state = ap (λ (r : Out L). state_at (ended rows.lands c r.note r.live) None) same ∙ sym d.state;
              }

      -- one entry more, where what a turn begins with can be read
      pub steps : ((i : Input) → ComesRight g i → SendsRight g (row_of rows g c.kept c.live i)) → NumbersAreNodes g → (e : BusEntry) → node_of g (number_in e) ≡ Some n
          → ((b : Bytes) → e ≡ bus.Begin (number_in e) b → (i : Input) × Reads g b i × WasSent sent n i) → Leads rows (state_at c o) e t → Stepped n sent c e t
      steps right numbers (bus.Begin m b) is reads l = let r = reads b refl in begins m is b r.0 r.1 r.2 l
      steps right numbers (bus.End m noted ps kept) is reads l = ends right numbers m is noted ps kept l
      steps right numbers (bus.Stop m landed) is reads l = stops m is landed l
