-- A turn that would raise the last epoch.
use Rattle.std.proofs.Common.{◌≡◌, inl, inr, ℕ, Bool, true, false, if◌then◌else◌, ◌==◌, Option, None, Some, refl, sym, ◌∙◌, ap}
use Rattle.std.proofs.lemmas.Bool.{eqb-true}
use Rattle.site_run.specs.Terms.{Begin, Input, Leads, MayTake, Rows, Start, State, joiner_rows, numbered, server_rows, spends_at, spent_epoch}
use Rattle.site_run.specs.AnyNodes.{AnyState, AnyLeads, IsAtLast, StartsAt, any_spends}

-- what is spent is the last epoch
last_by : (b : Bool) (k epoch : ℕ) → (b ≡ true → k ≡ 4294967294) → (if b then Some k else None) ≡ Some epoch → (k ≡ epoch) × (epoch ≡ 4294967294)
last_by true k epoch is e = let same : k ≡ epoch = cc e in (same, sym same ∙ is refl)
last_by false k epoch is e = absurd (cc e)

-- a node that takes a start knows nothing
starts_down : {L : Type 0} (live : Option L) → MayTake live Start → live ≡ None
starts_down None may = refl
starts_down (Some l) may = absurd may

-- a turn that would raise the last epoch has come to it
at_last_epoch : {K L : Type 0} (rows : Rows K L) (kept : K → ℕ) (s t : State K L) (n : ℕ) (i : Input) (epoch : ℕ) → Leads rows s (Begin n i) t → spends_at (λ k. spent_epoch (kept k)) s i ≡ Some epoch → StartsAt t.opened t.live (kept t.kept) epoch
at_last_epoch {K} {L} rows kept s t n Start epoch led is =
    let last = last_by (kept s.kept == 4294967294) (kept s.kept) epoch (eqb-true (kept s.kept) 4294967294) is in record {
      starts = ap (λ (x : State K L). x.opened) led.2;
      down = ap (λ (x : State K L). x.live) led.2 ∙ starts_down s.live led.1;
      keeps = ap (λ (x : State K L). kept x.kept) led.2 ∙ last.0;
      last = last.1;
    }
at_last_epoch rows kept s t n _ epoch led is = absurd (cc is)

-- so it is with a node of any kind
pub at_last : (s : AnyState) (n : ℕ) (i : Input) (t : AnyState) (epoch : ℕ) → AnyLeads s (Begin n i) t → any_spends s i ≡ Some epoch → IsAtLast t epoch
at_last (inl (inl s)) n Start t epoch led is = absurd (cc is)
at_last (inl (inl s)) n _ t epoch led is = absurd (cc is)
at_last (inl (inr s)) n i (inl (inr t)) epoch led is = at_last_epoch (numbered server_rows) (λ k. k.disk.epoch) s t n i epoch led is
at_last (inr (inl s)) n Start t epoch led is = absurd (cc is)
at_last (inr (inl s)) n _ t epoch led is = absurd (cc is)
at_last (inr (inr s)) n i (inr (inr t)) epoch led is = at_last_epoch (numbered joiner_rows) (λ k. k.disk.epoch) s t n i epoch led is
at_last _ n i _ epoch led is = absurd led
