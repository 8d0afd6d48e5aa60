-- Answers, outcomes, and what a replica accepted before: a tag, and what it says.
use Rattle.std.proofs.Common.{◌≡◌, ℕ, zero, suc, ◌+◌, ◌≤◌, List, [], ◌∷◌, ◌++◌, drop, get_or, Option, Some, None, refl, ap, arith}
use Rattle.packet_codec.proofs.Words.{Batch, IsAnswer, IsBallot, IsBatch, IsNumber, IsOutcome, IsPrior, IsToken, Spelled, answer, ballot, batch, number, outcome, prior, token}
use Rattle.registry_state.specs.declared.Answer.{Answer}
use Rattle.registry_state.specs.declared.Answer.TheVariants as answers
use Rattle.ballot_core.specs.declared.Ballot.{Ballot}
use Rattle.turn_defs.specs.declared.packet.Outcome.{Outcome}
use Rattle.turn_defs.specs.declared.packet.Outcome.TheVariants as outcomes
use Rattle.packet_codec.proofs.PartLaws.{IsApart, IsSum, Two, two, two_whole}
use Rattle.packet_codec.proofs.Made.{token_apart, batch_apart, some_number, some_token, some_ballot, some_batch}
use Rattle.packet_codec.proofs.Numbers.{number_apart}

abbrev pub Tokens : List ℕ → Type 0
Tokens = Spelled token IsToken

abbrev pub Numbers : List ℕ → Type 0
Numbers = Spelled number IsNumber

-- no more
abbrev pub None_left : List ℕ → Type 0
None_left z = z ≡ []

-- ---- answers

abbrev pub Told : ℕ → List ℕ → Type 0
Told zero = None_left
Told (suc zero) = Tokens
Told (suc (suc n)) = Numbers

pub answer_sum : IsSum 0 2 Told answer IsAnswer
answer_sum = record { parts = parts; made = made; some = some }
  where
    parts : (a : Answer) → IsAnswer a → (n : ℕ) × (back : List ℕ) × (n ≤ 2) × Told n back × (answer a ≡ (0 + n) ∷ back)
    parts answers.Granted h = (0, [], omega arith, refl, refl)
    parts (answers.Duplicate t) h = (1, token t, omega arith, (t, h, refl), refl)
    parts (answers.TooOld b) h = (2, number b, omega arith, (b, h, refl), refl)

    made : (n : ℕ) (back : List ℕ) → n ≤ 2 → Told n back → Spelled answer IsAnswer ((0 + n) ∷ back)
    made zero z few s = (answers.Granted, tt, ap (λ (x : List ℕ). 0 ∷ x) s)
    made (suc zero) z few s = (answers.Duplicate s.0, s.1, ap (λ (x : List ℕ). 1 ∷ x) s.2)
    made (suc (suc zero)) z few s = (answers.TooOld s.0, s.1, ap (λ (x : List ℕ). 2 ∷ x) s.2)
    made (suc (suc (suc n))) z few s = absurd (omega arith)

    some : (n : ℕ) → n ≤ 2 → (z : List ℕ) × Told n z
    some zero few = ([], refl)
    some (suc zero) few = (token some_token.0, (some_token.0, some_token.1, refl))
    some (suc (suc n)) few = (number some_number.0, (some_number.0, some_number.1, refl))

pub answer_apart : IsApart answer IsAnswer
answer_apart answers.Granted answers.Granted s t p q e = refl
answer_apart (answers.Duplicate a) (answers.Duplicate b) s t p q e = ap answers.Duplicate (token_apart a b s t p q (ap (drop 1) e))
answer_apart (answers.TooOld a) (answers.TooOld b) s t p q e = ap answers.TooOld (number_apart a b s t p q (ap (drop 1) e))
answer_apart v w s t p q e = absurd (omega (arith, ap (λ (x : List ℕ). get_or x 0 0) e))

pub some_answer : (a : Answer) × IsAnswer a
some_answer = (answers.Granted, tt)

-- ---- outcomes

abbrev pub Tells : ℕ → List ℕ → Type 0
Tells zero = None_left
Tells (suc zero) = Tokens
Tells (suc (suc zero)) = Numbers
Tells (suc (suc (suc zero))) = Numbers
Tells (suc (suc (suc (suc n)))) = None_left

pub outcome_sum : IsSum 0 4 Tells outcome IsOutcome
outcome_sum = record { parts = parts; made = made; some = some }
  where
    parts : (o : Outcome) → IsOutcome o → (n : ℕ) × (back : List ℕ) × (n ≤ 4) × Tells n back × (outcome o ≡ (0 + n) ∷ back)
    parts outcomes.Written h = (0, [], omega arith, refl, refl)
    parts (outcomes.Already t) h = (1, token t, omega arith, (t, h, refl), refl)
    parts (outcomes.TooOld b) h = (2, number b, omega arith, (b, h, refl), refl)
    parts (outcomes.NoQuery n) h = (3, number n, omega arith, (n, h, refl), refl)
    parts outcomes.Busy h = (4, [], omega arith, refl, refl)

    made : (n : ℕ) (back : List ℕ) → n ≤ 4 → Tells n back → Spelled outcome IsOutcome ((0 + n) ∷ back)
    made zero z few s = (outcomes.Written, tt, ap (λ (x : List ℕ). 0 ∷ x) s)
    made (suc zero) z few s = (outcomes.Already s.0, s.1, ap (λ (x : List ℕ). 1 ∷ x) s.2)
    made (suc (suc zero)) z few s = (outcomes.TooOld s.0, s.1, ap (λ (x : List ℕ). 2 ∷ x) s.2)
    made (suc (suc (suc zero))) z few s = (outcomes.NoQuery s.0, s.1, ap (λ (x : List ℕ). 3 ∷ x) s.2)
    made (suc (suc (suc (suc zero)))) z few s = (outcomes.Busy, tt, ap (λ (x : List ℕ). 4 ∷ x) s)
    made (suc (suc (suc (suc (suc n))))) z few s = absurd (omega arith)

    some : (n : ℕ) → n ≤ 4 → (z : List ℕ) × Tells n z
    some zero few = ([], refl)
    some (suc zero) few = (token some_token.0, (some_token.0, some_token.1, refl))
    some (suc (suc zero)) few = (number some_number.0, (some_number.0, some_number.1, refl))
    some (suc (suc (suc zero))) few = (number some_number.0, (some_number.0, some_number.1, refl))
    some (suc (suc (suc (suc n)))) few = ([], refl)

pub outcome_apart : IsApart outcome IsOutcome
outcome_apart outcomes.Written outcomes.Written s t p q e = refl
outcome_apart (outcomes.Already a) (outcomes.Already b) s t p q e = ap outcomes.Already (token_apart a b s t p q (ap (drop 1) e))
outcome_apart (outcomes.TooOld a) (outcomes.TooOld b) s t p q e = ap outcomes.TooOld (number_apart a b s t p q (ap (drop 1) e))
outcome_apart (outcomes.NoQuery a) (outcomes.NoQuery b) s t p q e = ap outcomes.NoQuery (number_apart a b s t p q (ap (drop 1) e))
outcome_apart outcomes.Busy outcomes.Busy s t p q e = refl
outcome_apart v w s t p q e = absurd (omega (arith, ap (λ (x : List ℕ). get_or x 0 0) e))

pub some_outcome : (o : Outcome) × IsOutcome o
some_outcome = (outcomes.Busy, tt)

-- ---- what a replica accepted before

abbrev pub Before : ℕ → List ℕ → Type 0
Before zero = None_left
Before (suc n) = Two ballot IsBallot batch IsBatch

pub prior_sum : IsSum 0 1 Before prior IsPrior
prior_sum = record { parts = parts; made = made; some = some }
  where
    parts : (v : Option (Ballot × Batch)) → IsPrior v → (n : ℕ) × (back : List ℕ) × (n ≤ 1) × Before n back × (prior v ≡ (0 + n) ∷ back)
    parts None h = (0, [], omega arith, refl, refl)
    parts (Some x) h = (1, ballot x.0 ++ batch x.1, omega arith, two ballot IsBallot batch IsBatch x.0 x.1 h.0 h.1, refl)

    made : (n : ℕ) (back : List ℕ) → n ≤ 1 → Before n back → Spelled prior IsPrior ((0 + n) ∷ back)
    made zero z few s = (None, tt, ap (λ (x : List ℕ). 0 ∷ x) s)
    made (suc zero) z few s = (Some (s.value, s.next.0), (s.is, s.next.1), ap (λ (x : List ℕ). 1 ∷ x) (two_whole ballot IsBallot batch IsBatch z s))
    made (suc (suc n)) z few s = absurd (omega arith)

    some : (n : ℕ) → n ≤ 1 → (z : List ℕ) × Before n z
    some zero few = ([], refl)
    some (suc n) few = (_, two ballot IsBallot batch IsBatch some_ballot.0 some_batch.0 some_ballot.1 some_batch.1)

pub prior_apart : IsApart prior IsPrior
prior_apart h k s t p q e = grind (arith, batch_apart)

pub some_prior : (v : Option (Ballot × Batch)) × IsPrior v
some_prior = (None, tt)
