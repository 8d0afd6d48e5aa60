-- The text of an id and its parts.
use Rattle.std.proofs.Common.{◌≡◌, ◌≢◌, ℕ, ◌/◌, ◌%◌, ◌^◌, ◌<◌, ◌≤◌, ◌⊎◌, inl, inr, length, append_assoc, Option, Some, List, [], ◌∷◌, ◌++◌, refl, sym, ◌∙◌, arith, decimal}
use Rattle.std.specs.Int.{w32, from_be_bytes}
use Rattle.std.proofs.lemmas.Fmt.{length-decimal-le, decimal_injective}
use Rattle.std.proofs.lemmas.List.{length-append}
use Rattle.list_words.specs.Bytes.{Lacks}
use Rattle.event_id.specs.declared.id.EventId.{EventId}
use Rattle.event_id.specs.EventId.{dot, colon, dotted, spell, IsId}
use Rattle.event_id.proofs.Numerals.{decimal_lacks}
use Rattle.std.proofs.lemmas.Option.{same_Some}
use Rattle.list_words.proofs.Splits.{split_same, lacks_append}

pub dotted_lacks : (byte ip : ℕ) → (byte < 46) ⊎ (57 < byte) → ip < 2 ^ 32 → Lacks byte (dotted ip)
unfolding dotted
dotted_lacks byte ip out h =
    let one : (n : ℕ) → n < 2 ^ 64 → Lacks byte (decimal n) = λ n lt. decimal_lacks byte n (elim out as (λ _. (byte < 48) ⊎ (57 < byte)) [ inl low ↦ inl (omega arith) | inr high ↦ inr high ]) lt in
    let apart : 46 ≢ byte = λ e. elim out as (λ _. ⊥) [ inl low ↦ omega arith | inr high ↦ omega arith ] in
    lacks_append byte _ _ (one _ (omega arith)) (apart, lacks_append byte _ _ (one _ (omega arith)) (apart, lacks_append byte _ _ (one _ (omega arith)) (apart, one _ (omega arith))))

-- an address from its four bytes
pub dotted_of : (a b c d : ℕ) → a < 256 → b < 256 → c < 256 → d < 256 → dotted (from_be_bytes w32 (a ∷ b ∷ c ∷ d ∷ [])) ≡ decimal a ++ dot ∷ (decimal b ++ dot ∷ (decimal c ++ dot ∷ decimal d))
unfolding dotted
dotted_of a b c d p q r s = grind arith

-- an address has its four bytes
pub bytes_of : (ip : ℕ) → ip < 2 ^ 32 → from_be_bytes w32 (ip / 2 ^ 24 ∷ ip / 2 ^ 16 % 256 ∷ ip / 2 ^ 8 % 256 ∷ ip % 256 ∷ []) ≡ ip
bytes_of ip h = omega arith

-- what follows each dot
abbrev pub after_third : ℕ → List ℕ
after_third ip = decimal (ip % 256)

abbrev pub after_second : ℕ → List ℕ
after_second ip = decimal (ip / 2 ^ 8 % 256) ++ dot ∷ after_third ip

abbrev pub after_first : ℕ → List ℕ
after_first ip = decimal (ip / 2 ^ 16 % 256) ++ dot ∷ after_second ip

pub dotted_is : (ip : ℕ) → dotted ip ≡ decimal (ip / 2 ^ 24) ++ dot ∷ after_first ip
unfolding dotted
dotted_is ip = refl

pub octet_lacks : (n : ℕ) → n < 256 → Lacks dot (decimal n)
octet_lacks n h = decimal_lacks dot n (inl (omega arith)) (omega arith)

-- what follows each dot of an address with its colon
abbrev pub behind_third : ℕ → List ℕ → List ℕ
behind_third ip rest = decimal (ip % 256) ++ colon ∷ rest

abbrev pub behind_second : ℕ → List ℕ → List ℕ
behind_second ip rest = decimal (ip / 2 ^ 8 % 256) ++ dot ∷ behind_third ip rest

abbrev pub behind_first : ℕ → List ℕ → List ℕ
behind_first ip rest = decimal (ip / 2 ^ 16 % 256) ++ dot ∷ behind_second ip rest

pub address_is : (ip : ℕ) (rest : List ℕ) → dotted ip ++ colon ∷ rest ≡ decimal (ip / 2 ^ 24) ++ dot ∷ behind_first ip rest
unfolding dotted
address_is ip rest = simp append_assoc

-- the parts of an address with its colon, joined
pub address_joins : (text behind-a behind-b behind-c rest : List ℕ) (a b c d : ℕ) → a < 256 → b < 256 → c < 256 → d < 256 → text ≡ decimal a ++ dot ∷ behind-a → behind-a ≡ decimal b ++ dot ∷ behind-b → behind-b ≡ decimal c ++ dot ∷ behind-c
    → behind-c ≡ decimal d ++ colon ∷ rest → text ≡ dotted (from_be_bytes w32 (a ∷ b ∷ c ∷ d ∷ [])) ++ colon ∷ rest
address_joins text behind-a behind-b behind-c rest a b c d p q r s e f g h = rw (e, f, g, h, dotted_of a b c d p q r s) (simp append_assoc)

-- an address from its four bytes, known to be those of ip
pub address_of : (k l m n ip : ℕ) → ip < 2 ^ 32 → k ≡ ip / 2 ^ 24 → l ≡ ip / 2 ^ 16 % 256 → m ≡ ip / 2 ^ 8 % 256 → n ≡ ip % 256 → from_be_bytes w32 (k ∷ l ∷ m ∷ n ∷ []) ≡ ip
address_of k l m n ip lt p q r s = rw (p, q, r, s) (bytes_of ip lt)

-- the parts of an id's text, joined
pub spell_joins : (text behind-ip behind-pid : List ℕ) (ip pid micros : ℕ) → text ≡ dotted ip ++ colon ∷ behind-ip → behind-ip ≡ decimal pid ++ colon ∷ behind-pid → behind-pid ≡ decimal micros → text ≡ spell (record { ip = ip; pid = pid; micros = micros })
unfolding spell
spell_joins text behind-ip behind-pid ip pid micros e f g = rw (e, f, g) refl

-- what follows the first colon
abbrev pub after_address : EventId → List ℕ
after_address id = decimal id.pid ++ colon ∷ decimal id.micros

pub spell_is : (id : EventId) → spell id ≡ dotted id.ip ++ colon ∷ after_address id
unfolding spell
spell_is id = refl

pub same_id : (ip pid micros : ℕ) (id : EventId) → ip ≡ id.ip → pid ≡ id.pid → micros ≡ id.micros → ◌≡◌ {A = Option EventId} (Some (record { ip = ip; pid = pid; micros = micros })) (Some id)
same_id ip pid micros id p q r = rw (p, q, r) refl

-- ---- lengths

pub octet_short : (n ip : ℕ) → n ≡ ip % 256 → length (decimal n) ≤ 3
octet_short n ip e = let lt : n < 256 = omega arith in length-decimal-le 3 n (omega arith) (omega arith) (omega arith)

pub pid_short : (n : ℕ) → n < 2 ^ 32 → length (decimal n) ≤ 10
pid_short n h = length-decimal-le 10 n (omega arith) (omega arith) (omega arith)

pub micros_short : (n : ℕ) → n < 2 ^ 64 → length (decimal n) ≤ 20
micros_short n h = length-decimal-le 20 n (omega arith) (omega arith) h

-- a text that is written part by part
pub spell_parts : (id : EventId) (k l m n : ℕ) → id.ip < 2 ^ 32 → k ≡ id.ip / 16777216 % 256 → l ≡ id.ip / 65536 % 256 → m ≡ id.ip / 256 % 256 → n ≡ id.ip % 256
    → ((((decimal k ++ dot ∷ []) ++ (decimal l ++ dot ∷ [])) ++ (decimal m ++ dot ∷ [])) ++ (decimal n ++ colon ∷ [])) ++ (decimal id.pid ++ colon ∷ []) ++ decimal id.micros ≡ spell id
unfolding spell dotted
spell_parts id k l m n lt p q r s =
    let first : k ≡ id.ip / 2 ^ 24 = omega arith in
    rw (first, q, r, s) (simp append_assoc)

-- ---- laws

pub dotted_same : (ip ip' : ℕ) → ip < 2 ^ 32 → ip' < 2 ^ 32 → dotted ip ≡ dotted ip' → ip ≡ ip'
dotted_same ip ip' lt lt' e = grind (arith, octet_lacks, decimal_injective, split_same, dotted_is)

pub spell_same : (x y : EventId) → IsId x → IsId y → spell x ≡ spell y → x ≡ y
spell_same x y p q e =
    let a = split_same colon _ (after_address x) _ (after_address y) (dotted_lacks colon x.ip (inr (omega arith)) p.ip) (dotted_lacks colon y.ip (inr (omega arith)) q.ip) (sym (spell_is x) ∙ e ∙ spell_is y) in
    let b = split_same colon _ (decimal x.micros) _ (decimal y.micros) (decimal_lacks colon x.pid (inr (omega arith)) (omega (arith, p.pid))) (decimal_lacks colon y.pid (inr (omega arith)) (omega (arith, q.pid))) a.1 in
    let ip = dotted_same x.ip y.ip p.ip q.ip a.0 in
    let pid = decimal_injective x.pid y.pid (omega (arith, p.pid)) (omega (arith, q.pid)) b.0 in
    let micros = decimal_injective x.micros y.micros p.micros q.micros b.1 in
    same_Some _ _ (same_id x.ip x.pid x.micros y ip pid micros)

-- a byte below the dot isn't in a text
pub spell_lacks : (byte : ℕ) (x : EventId) → byte < 46 → IsId x → Lacks byte (spell x)
unfolding spell
spell_lacks byte x low h =
    let apart : colon ≢ byte = λ e. omega arith in
    lacks_append byte _ _ (dotted_lacks byte x.ip (inl low) h.ip) (apart, lacks_append byte _ _ (decimal_lacks byte x.pid (inl (omega arith)) (omega (arith, h.pid))) (apart, decimal_lacks byte x.micros (inl (omega arith)) h.micros))

length-dotted-le : (ip : ℕ) → ip < 2 ^ 32 → length (dotted ip) ≤ 15
length-dotted-le ip h =
    let short : (n : ℕ) → n < 256 → length (decimal n) ≤ 3 = λ n lt. length-decimal-le 3 n (omega arith) (omega arith) (omega arith) in
    let a = short (ip / 2 ^ 24) (omega arith) in
    let b = short (ip / 2 ^ 16 % 256) (omega arith) in
    let c = short (ip / 2 ^ 8 % 256) (omega arith) in
    let d = short (ip % 256) (omega arith) in
    rw dotted_is (omega (arith, length-append (decimal (ip / 2 ^ 24)) (dot ∷ after_first ip), length-append (decimal (ip / 2 ^ 16 % 256)) (dot ∷ after_second ip), length-append (decimal (ip / 2 ^ 8 % 256)) (dot ∷ after_third ip)))

pub length-spell-le : (x : EventId) → IsId x → length (spell x) ≤ 47
length-spell-le x h = grind (arith, length-dotted-le, pid_short, micros_short, spell_is, length-append)
