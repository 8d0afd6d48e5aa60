-- How a verification ends at each fault.
use Rattle.std.proofs.Common.{◌≡◌, ℕ, List, [], map, nat_lt, Option, None, Some, Bool, false, IsTrue, refl, sym, ap, subst, ◌∙◌, arith}
use Rattle.photon_cli.proofs.Words.{REPLICAS, IsSomeAnd, flat_map, nat_tests, EventId, same_batch, U, PairRec, note_view, ShardRow, shard_of, first_pair, line_by, line_of, DiskName, KeepsTopology, Setting, Images, HasTopology, KeptStore, IsRead, Tells, Journals, KeptTopology, ClickRec, IsClickLog, ClickLine, clicks_same, ReportLine, distinct, IsLogOf, IsReadFrom, IsTold, left_before, sound_placed}
use Rattle.paxos_defs.specs.Decided.{decided}
use Rattle.outside.specs.declared.store.DiskName.TheVariants as name
use Rattle.photon_cli.proofs.Runs.{clicks_back}

-- ---- a store that is read, by what a stop might have left of it before its directory was chosen

module _ (before placed : Images) (within : (disk : DiskName) (c : List ℕ) → placed disk c → before disk c) where
  tells_before : (g : Setting) (js : Journals) → Tells g placed js → Tells g before js
  tells_before g js t = record {
    store = t.store;
    left = left_before g before placed t.store within t.left;
    are = t.are;
    lines = t.lines;
    whole = λ sound. t.whole (sound_placed g before placed within sound);
  }

  pub read_before : (tells log_tells : Bool) (log : List ℕ) (end_ : ℕ) (k : KeptStore) → IsTrue tells → IsRead tells placed REPLICAS log_tells log end_ k
      → ((t : KeptTopology) (g : Setting) → k.topology ≡ Some t → HasTopology t g → g.config.replicas ≡ REPLICAS → Tells g placed k.journals) → IsReadFrom before log k
  read_before own log_tells log end_ k here read tells = record {
    topology = let x = read.kept.topology here in (x.0, within name.Topology x.0 x.1, subst (λ o. KeepsTopology o x.0) read.told.topology x.2);
    records = λ t is g over. tells_before g k.journals (tells t g is (record { joiners = over.joiners; table = over.table }) over.replicas);
  }

-- ---- where nothing is kept

unmatched : (i : EventId) → line_by [] i None ≡ U i
unmatched i = let old : nat_lt i.micros 0 ≡ false = grind (arith, nat_tests) in rw old refl

-- journals without records
module _ (js : Journals) (notes : js.notes.items ≡ []) (pairs : js.pairs.items ≡ []) where
  pub line_none : (table : List ShardRow) (i : EventId) → line_of js table i ≡ U i
  unfolding decided
  line_none table i =
      (λ k. line_by (decided same_batch (map (map note_view) (notes k)) (shard_of table i)) i (first_pair (flat_map (λ (ps : List PairRec). ps) (pairs k)) i)) ∙ unmatched i

-- ---- the lines that are told of what was read

-- the clicks of a log are those of a setting over it
clicks_are : (log : List ℕ) (cs : List ClickRec) (g : Setting) → IsClickLog log cs → IsLogOf log g → cs ≡ map (λ (l : ClickLine). l.click) g.clicks
clicks_are log cs g own over =
    let same : cs ≡ over.lines.clicks = clicks_same log cs over.lines.clicks own.0 over.lines.holds in
    same ∙ sym (ap (map (λ (l : ClickLine). l.click)) over.lines.lines ∙ clicks_back 0 over.lines.clicks)

module _ (before : Images) (kept : KeptStore) (cs : List ClickRec) (lines : List ReportLine) (some : (t : KeptTopology) → kept.topology ≡ Some t → lines ≡ map (λ (c : ClickRec). line_of kept.journals t.table c.id) (distinct cs))
    (none : kept.topology ≡ None → lines ≡ map (λ (c : ClickRec). U c.id) (distinct cs)) where
  told_over : (log : List ℕ) → IsClickLog log cs → IsReadFrom before log kept → IsTold before log kept lines
  told_over log own read = record {
    topology = read.topology;
    nothing = λ is ds others. none is ∙ ap (λ (xs : List ClickRec). map (λ (c : ClickRec). U c.id) (distinct xs)) (clicks_same log cs ds own.0 others.0);
    something = λ t is g over.
        let tells = read.records t is g over in
        record {
          store = tells.store;
          left = tells.left;
          are = tells.are;
          told = let table : t.table ≡ g.config.table = sym over.table in some t is ∙ (λ k. map (λ (c : ClickRec). line_of kept.journals (table k) c.id) (distinct (clicks_are log cs g own over.clicks k))) ∙ tells.lines;
        };
  }

  pub told_of : (o : Option (List ℕ)) → IsSomeAnd o (λ log. IsClickLog log cs) → IsSomeAnd o (λ log. IsReadFrom before log kept) → IsSomeAnd o (λ log. IsTold before log kept lines)
  told_of None own read = absurd own
  told_of (Some log) own read = told_over log own read
