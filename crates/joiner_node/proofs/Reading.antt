-- Reading a log of queries line by line.
use Rattle.std.proofs.Common.{◌≡◌, ℕ, ◌+◌, List, [], ◌∷◌, ◌++◌, length, map, take, drop, Option, Some, None, refl, sym, ap, ◌∙◌, subst, arith, append_assoc, length-append}
use Rattle.std.specs.Option.{option_or}
use Rattle.std.specs.List.{AllByRecursion}
use Rattle.std.proofs.lemmas.List.{map-append, drop-drop, drop_at, take_all}
use Rattle.std.proofs.lemmas.List.Folds.{find-append}
use Rattle.joiner_node.proofs.Words.{IsReadTo, Query}
use Rattle.list_words.specs.Bytes.{Lacks}
use Rattle.list_words.proofs.Splits.{split_same, lacks_none}
use Rattle.event_id.specs.declared.id.EventId.{EventId}
use Rattle.log_records.specs.declared.check.TheConstants.{MAX_LOG}
use Rattle.log_records.specs.Line.{query_line, IsQuery}
use Rattle.log_records.specs.Log.{first, line_feed, whole, HasLines}
use Rattle.log_records.specs.Check.{IsQueryLog}
use Rattle.log_records.proofs.Grammar.{query_same}
use Rattle.log_records.proofs.Reading.{one_more, query_lacks}
use Rattle.tail_reader.specs.Buffered.{behind}
use Rattle.event_store.specs.Found.{records, found}
use Rattle.event_store.specs.Read.{ReadsAs, ReadsNext, ReadsLines, AreRead, IsAtEnd}

abbrev pub given : List Query → List (Option Query)
given qs = map (λ q. Some q) qs

records_given : (qs : List Query) → records (given qs) ≡ qs
records_given [] = refl
records_given (q ∷ qs) = ap (λ (xs : List Query). q ∷ xs) (records_given qs)

len_given : (qs : List Query) → length (given qs) ≡ length qs
len_given [] = refl
len_given (q ∷ qs) = let e = len_given qs in omega (arith, len_given qs)

first_is : (log : List ℕ) (place : ℕ) (qs : List Query) (id : EventId) (has : IsReadTo log place qs) → first qs id ≡ option_or (found (given has.read) id) (first has.others id)
first_is log place qs id has = grind (arith, find-append, records_given)

-- nothing is read of a log of these queries
starts : (log : List ℕ) (qs : List Query) → IsQueryLog log qs → IsReadTo log 0 qs
starts log qs is = record {
  read = [];
  others = qs;
  all = refl;
  so_far = refl;
  each = is.0.each;
  behind_them = subst (λ (b : List ℕ). HasLines b (map query_line qs)) (sym (take_all MAX_LOG log is.1)) is.0.lines;
}

-- a log of the same bytes, read up to the same place
pub keeps : (log log' : List ℕ) (place place' : ℕ) (qs : List Query) → log' ≡ log → place' ≡ place → IsReadTo log place qs → IsReadTo log' place' qs
keeps log log' place place' qs same at has = subst (λ (x : List ℕ). IsReadTo x place' qs) (sym same) (subst (λ (n : ℕ). IsReadTo log n qs) (sym at) has)

pub starts_at : (log log' : List ℕ) (place : ℕ) (qs : List Query) → log' ≡ log → place ≡ 0 → IsQueryLog log qs → IsReadTo log' place qs
starts_at log log' place qs same at is = keeps log log' 0 place qs same at (starts log qs is)

-- what is found among the lines read is the first of all
pub finds : (log : List ℕ) (place : ℕ) (qs : List Query) (id : EventId) (q : Query) (has : IsReadTo log place qs) → found (given has.read) id ≡ Some q → first qs id ≡ Some q
finds log place qs id q has is = first_is log place qs id has ∙ ap (λ (o : Option Query). option_or o (first has.others id)) is

no_more : (at : List ℕ) (others : List Query) → HasLines at (map query_line others) → Lacks line_feed at → others ≡ []
no_more at [] has lacks = refl
no_more at (q ∷ qs) has lacks = grind (arith, lacks_none, one_more)

-- at the log's end the lines read are all
pub ends : (log : List ℕ) (place : ℕ) (qs : List Query) (id : EventId) (n : ℕ) (has : IsReadTo log place qs) → IsAtEnd log place → found (given has.read) id ≡ None → n ≡ length (given has.read) → (first qs id ≡ None) × (length qs ≡ n)
ends log place qs id n has at_end none counts =
    let empty : has.others ≡ [] = no_more (behind log place) has.others has.behind_them at_end in (
      first_is log place qs id has ∙ ap (λ (o : Option Query). option_or o (first has.others id)) none ∙ ap (λ (rs : List Query). first rs id) empty,
      let whole_is : length qs ≡ length has.read + length has.others = ap length has.all ∙ length-append has.read has.others in
          let none_left : length has.others ≡ 0 = ap length empty in
          let lens : length (given has.read) ≡ length has.read = len_given has.read in
          omega (arith, counts, whole_is, none_left, lens),
    )

read_is : (line : List ℕ) (q : Query) (r : Option Query) → IsQuery q → line ≡ query_line q → ReadsAs line r → r ≡ Some q
read_is line q None is same reads = absurd (reads q is same)
read_is line q (Some p) is same reads = ap (λ (x : Query). Some x) (query_same p q reads.0 is (sym reads.1 ∙ same))

behind_more : (log line rest : List ℕ) (place end_ : ℕ) → behind log place ≡ line ++ line_feed ∷ rest → end_ ≡ place + length line + 1 → behind log end_ ≡ rest
behind_more log line rest place end_ is counts =
    let at : end_ ≡ place + (length line + 1) = omega (arith, counts) in
    let front : length (line ++ line_feed ∷ []) ≡ length line + 1 = length-append line (line_feed ∷ []) in
    ap (λ (n : ℕ). drop n (take MAX_LOG log)) at ∙ sym (drop-drop (length line + 1) place (take MAX_LOG log)) ∙ ap (drop (length line + 1)) (is ∙ sym (append_assoc line (line_feed ∷ []) rest)) ∙ drop_at (line ++ line_feed ∷ []) rest (length line + 1) front

-- one line more behind those read
reads_more : (log : List ℕ) (from place end_ : ℕ) (lines : List (Option Query)) (r : Option Query) → ReadsLines log from place lines → ReadsNext log place end_ r → ReadsLines log from end_ (lines ++ r ∷ [])
reads_more log from place end_ [] r at next = (end_, subst (λ (n : ℕ). ReadsNext log n end_ r) at next, refl)
reads_more log from place end_ (line ∷ lines) r (mid, first_, others) next = (mid, first_, reads_more log mid place end_ lines r others next)

more_by : (log : List ℕ) (place end_ : ℕ) (qs read others : List Query) (r : Option Query) → qs ≡ read ++ others → AreRead log place (given read) → AllByRecursion IsQuery others → HasLines (behind log place) (map query_line others)
    → ReadsNext log place end_ r → IsReadTo log end_ qs
more_by log place end_ qs read [] r all so_far each has (line, rest, is, lacks, counts, reads) = grind (arith, lacks_none)
more_by log place end_ qs read (q ∷ others) r all so_far each has (line, rest, is, lacks, counts, reads) =
    let parts = split_same line_feed line rest (query_line q) (whole (map query_line others) ++ has.0) lacks (query_lacks q each.0) (sym is ∙ has.1 ∙ one_more (query_line q) (map query_line others) has.0) in
    record {
      read = read ++ q ∷ [];
      others = others;
      all = all ∙ sym (append_assoc read (q ∷ []) others);
      so_far =
          subst (AreRead log end_) (sym (map-append (λ (x : Query). Some x) read (q ∷ [])))
          (subst (λ (o : Option Query). AreRead log end_ (given read ++ o ∷ [])) (read_is line q r each.0 parts.0 reads) (reads_more log 0 place end_ (given read) r so_far (line, rest, is, lacks, counts, reads)));
      each = each.1;
      behind_them = (has.0, behind_more log line rest place end_ is counts ∙ parts.1, has.2);
    }

-- one line more is the next query
pub more : (log : List ℕ) (place end_ : ℕ) (qs : List Query) (r : Option Query) → IsReadTo log place qs → ReadsNext log place end_ r → IsReadTo log end_ qs
more log place end_ qs r has next = more_by log place end_ qs has.read has.others r has.all has.so_far has.each has.behind_them next
