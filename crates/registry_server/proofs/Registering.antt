-- What a registrar decides and keeps.
use Rattle.std.proofs.Common.{◌≡◌, ℕ, true, Option, Some, sym, ap, ◌∙◌, subst, arith, All, option_map, IfSome}
use Rattle.registry_server.proofs.Words.{sent_ok, Packet, Node, Input, Start, Own, Tick, Deliver, IsPacket, Setting, Note, Out, land, IsInput, row_of, ServerKept, ServerLive, land_server, Stands, IsTurn, IsTaken, changed, core_row, known, note_of, site_of, IsSpelledPlan, IsSpelledLive, Numbered, numbered, Knows, Fits, MayRaise, GoesOn, ServesSite, Makes, IsSpelledCore, IsSpelledTurn, landed, server_rows, is_next_epoch, ServerCore, HeldEpoch, Station, Turn}
use Rattle.registry_server.proofs.Spelling.{Sends, IsSpelledOut, turn_ok}

-- the row of an input that fits what is known
row_is : (g : Setting) (k : Numbered ServerKept) (live : Option ServerLive) (i : Input) → Fits live i → core_row g k.number k.disk (known live) i ≡ row_of (numbered server_rows) g k live i
row_is g k h e fits = grind arith

-- what a row sends and makes has spellings, and the disk takes its note
record IsFitRow (k : ServerKept) (out : Out ServerLive) : Type 0 where
  packets : Sends out.packets
  spelled : IsSpelledLive (land land_server out.note k) out.live
  taken : IfSome out.note (λ n. is_next_epoch k.epoch n ≡ true)

quiet_fits : (k : ServerKept) (out : Out ServerLive) → IsSpelledOut k out → IsFitRow k out
quiet_fits k out ok = grind (arith, land)

row_fits : (g : Setting) (site : ℕ) → IsSpelledPlan g site → (k : ServerKept) (l : ServerLive) → IsSpelledLive k l → (i : Input) → IsInput i → MayRaise k.epoch i → IsFitRow k (core_row g site k l i)
row_fits g site plan k l live Start is low = grind arith
row_fits g site plan k l live Own is low = quiet_fits k _ (turn_ok g site plan k l live Own is)
row_fits g site plan k l live Tick is low = quiet_fits k _ (turn_ok g site plan k l live Tick is)
row_fits g site plan k l live (Deliver from p) is low = quiet_fits k _ (turn_ok g site plan k l live (Deliver from p) is)

-- what is kept once the note is written
landed_is : (k : Numbered ServerKept) (o : Option HeldEpoch) → land (numbered server_rows).lands (option_map note_of o) k ≡ record { number = k.number; disk = landed o k.disk }
landed_is k h = grind arith

-- what the turn sends and makes has spellings, and the disk takes its note
pub record IsFit (old new : ServerCore) (turn : Turn) : Type 0 where
  pub packets : All (λ (p : Node × Packet). IsPacket p.1) turn.packets.items
  pub spelled : IsSpelledTurn new turn.note turn.change
  pub taken : IfSome (option_map note_of turn.note) (λ n. is_next_epoch old.held.epoch n ≡ true)

-- the core decided, and what it knows stays as it is
module _ (old new : ServerCore) (same : (g : Setting) (k : ServerKept) (l : ServerLive) → Stands old g k l → Stands new g k l) (station : new.station ≡ old.station) where
  site : site_of new ≡ site_of old
  site = ap (λ (s : Station). s.site) station

  pub still_spelled : IsSpelledCore old → IsSpelledCore new
  still_spelled so = record { setting = so.setting; kept = so.kept; live = so.live; stands = same so.setting so.kept so.live so.stands; plan = subst (IsSpelledPlan so.setting) (sym site) so.plan; spelled = so.spelled }

  pub still_knows : (g : Setting) (k : Numbered ServerKept) (live : Option ServerLive) → Knows old g k live → Knows new g k live
  still_knows g k live knows = record { site = site ∙ knows.site; stands = same g k.disk (known live) knows.stands }

  -- on this input, this turn
  module _ (i : Input) (turn : Turn) (turns : (g : Setting) (k : ServerKept) (l : ServerLive) → Stands old g k l → IsTurn g (site_of old) l turn (core_row g (site_of old) k l i)) where
    pub fit : IsSpelledCore old → IsInput i → MayRaise old.held.epoch i → IsFit old new turn
    fit so is low =
        let g = so.setting in
        let k = so.kept in
        let out = core_row g (site_of old) k so.live i in
        let row = turns g k so.live so.stands in
        let ok = row_fits g (site_of old) so.plan k so.live so.spelled i is (subst (λ (e : ℕ). MayRaise e i) so.stands.epoch low) in
        record {
          packets = sent_ok g out.packets turn.packets.items ok.packets row.packets;
          spelled =
              record {
                setting = g;
                kept = k;
                next = out.live;
                makes = (so.live, same g k so.live so.stands, ap (λ (s : ℕ). changed g s turn.change so.live) site ∙ row.live);
                plan = subst (IsSpelledPlan g) (sym site) so.plan;
                spelled = subst (λ (n : Option Note). IsSpelledLive (land land_server n k) out.live) (sym row.note) ok.spelled;
              };
          taken = subst (λ (e : ℕ). IfSome (option_map note_of turn.note) (λ n. is_next_epoch e n ≡ true)) (sym so.stands.epoch) (subst (λ (o : Option Note). IfSome o (λ n. is_next_epoch k.epoch n ≡ true)) (sym row.note) ok.taken);
        }

    pub turned : (g : Setting) (k : Numbered ServerKept) (live : Option ServerLive) → IfSome (option_map note_of turn.note) (λ n. is_next_epoch old.held.epoch n ≡ true) → Knows old g k live → Fits live i
        → IsTaken (numbered server_rows).lands (λ x n. is_next_epoch x.disk.epoch n) (ServesSite new g) (GoesOn new turn.note turn.change g) g k (row_of (numbered server_rows) g k live i) (option_map note_of turn.note) turn.packets.items
    turned g k live taken knows fits =
        let out = row_of (numbered server_rows) g k live i in
        let l = known live in
        let now = still_knows g k live knows in
        let row = subst (λ (s : ℕ). IsTurn g s l turn (core_row g s k.disk l i)) knows.site (turns g k.disk l knows.stands) in
        let is = subst (λ (o : Out ServerLive). IsTurn g k.number l turn o) (row_is g k live i fits) row in
        grind (arith, is_next_epoch, note_of, site, landed_is, land, numbered)

-- the core kept a turn of this note, which makes these changes
module _ (old new : ServerCore) (turn : Turn) (kept : (g : Setting) (k : ServerKept) (l : ServerLive) → Stands old g k l → Stands new g (landed turn.note k) (changed g (site_of old) turn.change l)) (station : new.station ≡ old.station) where
  kept_site : site_of new ≡ site_of old
  kept_site = ap (λ (s : Station). s.site) station

  made : (g : Setting) (k : ServerKept) (next : ServerLive) → Makes old turn.change g k next → Stands new g (landed turn.note k) next
  made g k next makes = subst (Stands new g (landed turn.note k)) makes.2 (kept g k makes.0 makes.1)

  pub keeps_spelled : IsSpelledTurn old turn.note turn.change → IsSpelledCore new
  keeps_spelled so = record { setting = so.setting; kept = landed turn.note so.kept; live = so.next; stands = made so.setting so.kept so.next so.makes; plan = subst (IsSpelledPlan so.setting) (sym kept_site) so.plan; spelled = so.spelled }

  pub keeps_on : (g : Setting) (k : Numbered ServerKept) (l : ServerLive) → GoesOn old turn.note turn.change g k l → Knows new g k (Some l)
  keeps_on g k l on = subst (λ (x : Numbered ServerKept). Knows new g x (Some l)) (sym (on.is ∙ landed_is on.was turn.note)) (record { site = kept_site ∙ on.site; stands = made g on.was.disk l on.makes })
