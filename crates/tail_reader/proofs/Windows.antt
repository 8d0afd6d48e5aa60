-- Parts of a list: what was read ahead, and what more is read behind it.
use Rattle.std.proofs.Common.{◌≡◌, ℕ, ◌+◌, ◌-◌, ◌<◌, ◌≤◌, List, [], ◌∷◌, ◌++◌, length, take, drop, refl, sym, ap, subst, ◌∙◌, append_assoc, arith}
use Rattle.std.proofs.lemmas.List.{drop-take, drop-drop, drop_all, take_at, take-append-le, take-append-drop, take-take, length-take, length-take-le, length-drop, length-append}
use Rattle.std.proofs.Math.Seq.{take-append-add}
use Rattle.list_words.specs.Bytes.{Lacks}
use Rattle.list_words.proofs.Splits.{lacks_append}
use Rattle.log_records.specs.declared.check.TheConstants.{MAX_LOG}
use Rattle.log_records.specs.declared.lines.TheConstants.{MAX_LINE}
use Rattle.log_records.specs.Log.{line_feed}
use Rattle.tail_reader.specs.Buffered.{behind, Buffers}
use Rattle.tail_reader.specs.declared.tail.Next.TheVariants as next
use Rattle.tail_reader.specs.Next.{IsNext}

-- a window that begins later
pub drop_window : (s e n : ℕ) (xs : List ℕ) → s + n ≤ e → take (e - (s + n)) (drop (s + n) xs) ≡ drop n (take (e - s) (drop s xs))
drop_window s e n xs le =
    let same : e - s ≡ n + (e - (s + n)) = omega arith in
    sym (ap (λ k. drop n (take k (drop s xs))) same ∙ drop-take n (e - (s + n)) (drop s xs) ∙ ap (take (e - (s + n))) (drop-drop n s xs))

-- some bytes more
pub more_read : (moved new tail from now : List ℕ) (len n total : ℕ) → total ≡ len + n → length (take len moved) ≡ len → take len moved ≡ now → n ≤ length new → take n new ≡ take n from → take total (take len moved ++ (new ++ tail)) ≡ now ++ take n from
more_read moved new tail from now len n total is size front fits same =
    let counted : total ≡ length (take len moved) + n = omega arith in
    ap (λ k. take k (take len moved ++ (new ++ tail))) counted ∙ take-append-add (take len moved) (new ++ tail) n ∙ ap (λ (x : List ℕ). take len moved ++ x) (take-append-le n new tail fits ∙ same) ∙ ap (λ (x : List ℕ). x ++ take n from) front

-- ---- the bytes below the limit

pub past_limit : (log : List ℕ) (at : ℕ) → MAX_LOG ≤ at → behind log at ≡ []
past_limit log at le = drop_all at (take MAX_LOG log) (omega (arith, length-take MAX_LOG log))

pub past_end : (log : List ℕ) (at : ℕ) → length log ≤ at → behind log at ≡ []
past_end log at le = drop_all at (take MAX_LOG log) (omega (arith, length-take MAX_LOG log))

behind_is : (log : List ℕ) (at : ℕ) → at ≤ MAX_LOG → behind log at ≡ take (MAX_LOG - at) (drop at log)
behind_is log at le =
    let whole : MAX_LOG ≡ at + (MAX_LOG - at) = omega arith in
    ap (λ k. drop at (take k log)) whole ∙ drop-take at (MAX_LOG - at) log

pub read_is : (log : List ℕ) (at room n : ℕ) (new rest : List ℕ) → at + room ≤ MAX_LOG → n ≤ room → length new ≡ room → n ≤ length (drop at log) → take n new ≡ take n (drop at log) → (n ≤ length (behind log at)) × (take n (new ++ rest) ≡ take n (behind log at))
read_is log at room n new rest below fits size there same =
    let is = behind_is log at (omega arith) in (
      omega (arith, ap length is, length-take (MAX_LOG - at) (drop at log)),
      take-append-le n new rest (omega arith) ∙ same ∙ sym (ap (take n) is ∙ take-take n (MAX_LOG - at) (drop at log) (omega arith)),
    )

-- ---- what was read ahead

-- it stands before what isn't read yet
pub split_at : (log : List ℕ) (place at : ℕ) (ahead : List ℕ) → Buffers log place ahead → at ≡ place + length ahead → behind log place ≡ ahead ++ behind log at
split_at log place at ahead h is =
    sym (take-append-drop (length ahead) (behind log place)) ∙ ap (λ (x : List ℕ). x ++ drop (length ahead) (behind log place)) h
    ∙ ap (λ (x : List ℕ). ahead ++ x) (drop-drop (length ahead) place (take MAX_LOG log) ∙ ap (λ k. drop k (take MAX_LOG log)) (sym is))

pub buffers_more : (log : List ℕ) (place : ℕ) (old new : List ℕ) (at n : ℕ) → Buffers log place old → n ≤ length (behind log at) → new ≡ old ++ take n (behind log at) → at ≡ place + length old → Buffers log place new
buffers_more log place old new at n h few more is =
    let size : length new ≡ length old + n = ap length more ∙ length-append old (take n (behind log at)) ∙ ap (λ k. length old + k) (length-take-le n (behind log at) few) in
    ap (λ k. take k (behind log place)) size ∙ ap (take (length old + n)) (split_at log place at old h is) ∙ take-append-add old (behind log at) n ∙ sym more

-- some bytes from the place on
pub buffers_some : (log : List ℕ) (place n : ℕ) (ahead : List ℕ) → n ≤ length (behind log place) → ahead ≡ [] ++ take n (behind log place) → Buffers log place ahead
buffers_some log place n ahead few is =
    let size : length ahead ≡ n = ap length is ∙ length-take-le n (behind log place) few in
    ap (λ k. take k (behind log place)) size ∙ sym is

pub buffers_first : (log : List ℕ) (place n : ℕ) (old ahead : List ℕ) → old ≡ [] → n ≤ length (behind log place) → ahead ≡ old ++ take n (behind log place) → Buffers log place ahead
buffers_first log place n old ahead empty few is = buffers_some log place n ahead few (is ∙ ap (λ (x : List ℕ). x ++ take n (behind log place)) empty)

pub buffers_drop : (log : List ℕ) (place e k : ℕ) (ahead left : List ℕ) → Buffers log place ahead → left ≡ drop k ahead → k ≤ length ahead → e ≡ place + k → Buffers log e left
buffers_drop log place e k ahead left h is fits end_is =
    let size : length left ≡ length ahead - k = ap length is ∙ length-drop k ahead in
    let whole : length ahead ≡ k + (length ahead - k) = omega arith in
    let from : drop e (take MAX_LOG log) ≡ drop k (behind log place) = ap (λ j. drop j (take MAX_LOG log)) end_is ∙ sym (drop-drop k place (take MAX_LOG log)) in
    ap (λ j. take j (behind log e)) size ∙ ap (take (length ahead - k)) from ∙ sym (drop-take k (length ahead - k) (behind log place)) ∙ ap (λ j. drop k (take j (behind log place))) (sym whole) ∙ ap (drop k) h ∙ sym is

-- ---- lines

-- a line whose line feed was read ahead stands in the log
pub line_ahead : (log : List ℕ) (place : ℕ) (ahead line rest : List ℕ) → Buffers log place ahead → ahead ≡ line ++ line_feed ∷ rest → (more : List ℕ) × (behind log place ≡ line ++ line_feed ∷ more)
line_ahead log place ahead line rest h e =
    let far = behind log (place + length ahead) in
    (rest ++ far, split_at log place (place + length ahead) ahead h refl ∙ ap (λ (x : List ℕ). x ++ far) e ∙ append_assoc line (line_feed ∷ rest) far)

pub line_fits : (n : ℕ) (ahead : List ℕ) → (line rest : List ℕ) × (ahead ≡ line ++ line_feed ∷ rest) × Lacks line_feed line × (length line ≡ n) → n + 1 ≤ length ahead
line_fits n ahead (line, rest, split, lacks, size) = omega (arith, ap length split, length-append line (line_feed ∷ rest))

pub is_line : (log : List ℕ) (place e n : ℕ) (ahead given : List ℕ) → Buffers log place ahead → (line rest : List ℕ) × (ahead ≡ line ++ line_feed ∷ rest) × Lacks line_feed line × (length line ≡ n) → given ≡ take n ahead → n ≤ MAX_LINE → e ≡ place + n + 1 → IsNext log place (next.Line place e) given
is_line log place e n ahead given h (line, rest, split, lacks, size) is short end_is =
    let same : given ≡ line = is ∙ ap (take n) split ∙ take_at line (line_feed ∷ rest) n size in
    let more = line_ahead log place ahead line rest h split in
    subst (IsNext log place (next.Line place e)) (sym same) (refl, omega arith, omega arith, lacks, more)

pub is_long : (log : List ℕ) (place e n : ℕ) (ahead given : List ℕ) → Buffers log place ahead → (line rest : List ℕ) × (ahead ≡ line ++ line_feed ∷ rest) × Lacks line_feed line × (length line ≡ n) → MAX_LINE < n → e ≡ place + n + 1 → IsNext log place (next.Long place e) given
is_long log place e n ahead given h (line, rest, split, lacks, size) long end_is =
    let more = line_ahead log place ahead line rest h split in
    (refl, (line, more.0, more.1, lacks, omega arith, omega arith))

-- a line of which nothing but the front was read ahead
pub is_long_behind : (log : List ℕ) (place from e : ℕ) (ahead given : List ℕ) → Buffers log place ahead → Lacks line_feed ahead → (line rest : List ℕ) × (behind log from ≡ line ++ line_feed ∷ rest) × Lacks line_feed line × (e ≡ from + length line + 1) → MAX_LINE < length ahead → from ≡ place + length ahead → IsNext log place (next.Long place e) given
is_long_behind log place from e ahead given h none (line, rest, split, lacks, end_is) long from_is =
    let is = split_at log place from ahead h from_is ∙ ap (λ (x : List ℕ). ahead ++ x) split ∙ sym (append_assoc ahead line (line_feed ∷ rest)) in
    let size = length-append ahead line in
    (refl, (ahead ++ line, rest, is, lacks_append line_feed ahead line none lacks, omega arith, omega arith))

pub is_end_behind : (log : List ℕ) (place from : ℕ) (ahead given : List ℕ) → Buffers log place ahead → Lacks line_feed ahead → Lacks line_feed (behind log from) → from ≡ place + length ahead → IsNext log place (next.End place) given
is_end_behind log place from ahead given h none far from_is = (refl, subst (Lacks line_feed) (sym (split_at log place from ahead h from_is)) (lacks_append line_feed ahead (behind log from) none far))

pub is_end : (log : List ℕ) (place : ℕ) (given : List ℕ) → behind log place ≡ [] → IsNext log place (next.End place) given
is_end log place given none = (refl, subst (Lacks line_feed) (sym none) tt)

-- ---- bytes that are passed over

-- the bytes from one place to another, which lack a line feed
pub record Passed (log : List ℕ) (from at : ℕ) : Type 0 where
  pub bytes : List ℕ
  pub is : behind log from ≡ bytes ++ behind log at
  pub none : Lacks line_feed bytes
  pub count : at ≡ from + length bytes

pub passed_more : (log : List ℕ) (from at to : ℕ) (ahead : List ℕ) → Passed log from at → Buffers log at ahead → Lacks line_feed ahead → to ≡ at + length ahead → Passed log from to
passed_more log from at to ahead p h none to_is =
    let counted = p.count in
    record {
      bytes = p.bytes ++ ahead;
      is = p.is ∙ ap (λ (x : List ℕ). p.bytes ++ x) (split_at log at to ahead h to_is) ∙ sym (append_assoc p.bytes ahead (behind log to));
      none = lacks_append line_feed p.bytes ahead p.none none;
      count = omega (arith, length-append p.bytes ahead);
    }

pub passed_line : (log : List ℕ) (from at n e : ℕ) (ahead : List ℕ) → Passed log from at → Buffers log at ahead → (line rest : List ℕ) × (ahead ≡ line ++ line_feed ∷ rest) × Lacks line_feed line × (length line ≡ n) → e ≡ at + n + 1 → (line rest : List ℕ) × (behind log from ≡ line ++ line_feed ∷ rest) × Lacks line_feed line × (e ≡ from + length line + 1)
passed_line log from at n e ahead p h (line, rest, split, lacks, size) end_is =
    let more = line_ahead log at ahead line rest h split in
    let counted = p.count in
    (p.bytes ++ line, more.0, p.is ∙ ap (λ (x : List ℕ). p.bytes ++ x) more.1 ∙ sym (append_assoc p.bytes line (line_feed ∷ more.0)), lacks_append line_feed p.bytes line p.none lacks, omega (arith, length-append p.bytes line))

pub passed_all : (log : List ℕ) (from at : ℕ) → Passed log from at → behind log at ≡ [] → Lacks line_feed (behind log from)
passed_all log from at p none = subst (Lacks line_feed) (sym (p.is ∙ ap (λ (x : List ℕ). p.bytes ++ x) none)) (lacks_append line_feed p.bytes [] p.none tt)
