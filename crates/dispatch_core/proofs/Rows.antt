-- From what the core's parts say to the rows of the turn table.
use Rattle.std.proofs.Common.{◌≡◌, ℕ, ◌<◌, ◌%◌, Bool, true, false, cond, List, [], ◌∷◌, ◌++◌, map, nat_eq, sym, ap, subst, ◌∙◌, arith}
use Rattle.dispatch_core.proofs.Words.{list_any, cond-true, cond-false, Click, has, Each, Setting, Out, DispatcherKept, DispatcherLive, waits, fresh_of, IsRising, note_of, changed, Puts, IsJoin, Stands, Fits, IsTurn, Sends, IsDealt, DispatchCore, Turn, FreshLine, Change, Take, Outbox}
use Rattle.dispatch_core.proofs.Joins.{joined, addressed, in_turn, next_below}
use Rattle.dispatch_core.proofs.Sets.{any_has}
use Rattle.dispatch_core.proofs.Spelled.{dealt_spelled}
use Rattle.dispatch_core.proofs.Keeping.{ordered_core}

wraps : (n k : ℕ) → k < n → (m : ℕ) → m % n < n
wraps n k below m = let some : 0 < n = omega arith in omega arith

pub row_of : (g : Setting) (core : DispatchCore) (k : DispatcherKept) (l : DispatcherLive) (turn : Turn) (change : Change) (joins : List (ℕ × Click)) (out : Out DispatcherLive) → g.config ≡ core.dealer.config → Sends core turn change joins
    → note_of change ≡ out.note → map (joined core.dealer.site) joins ≡ out.packets → changed change l ≡ out.live → Fits g core k l change → IsTurn g core k l turn out
row_of g core k l turn change joins out is s note packets live fits = grind (arith, addressed)

pub dealt_of : (core : DispatchCore) (turn : Turn) (change : Change) (joins : List (ℕ × Click)) → Sends core turn change joins → IsDealt core core.dealer.next turn
dealt_of core turn change joins s = grind (arith, in_turn, next_below, dealt_spelled)

pub as_out : (g : Setting) (core : DispatchCore) (k : DispatcherKept) (l : DispatcherLive) (turn : Turn) (out other : Out DispatcherLive) → other ≡ out → IsTurn g core k l turn out → IsTurn g core k l turn other
as_out g core k l turn out other e t = subst (λ (o : Out DispatcherLive). IsTurn g core k l turn o) (sym e) t

-- ---- which row applies

pub second : {A : Type 0} (b c : Bool) (x y z : A) → b ≡ false → c ≡ true → cond b x (cond c y z) ≡ y
second b c x y z h i = cond-false b x (cond c y z) h ∙ cond-true c y z i

pub third : {A : Type 0} (b c : Bool) (x y z : A) → b ≡ false → c ≡ false → cond b x (cond c y z) ≡ z
third b c x y z h i = cond-false b x (cond c y z) h ∙ cond-false c y z i

pub sends_of : (core : DispatchCore) (a d : Outbox) (turn : Turn) (change : Change) (js : List (ℕ × Click)) → a.dealer ≡ core.dealer → a.packets.items ≡ [] → Puts a d js → turn.step.change ≡ change → turn.packets.items ≡ d.packets.items → turn.step.next ≡ d.dealer.next
    → Each IsJoin js → Sends core turn change js
sends_of core a d turn change js same none p is packets next spelled = grind arith

-- the sides of a row, at the state that a core holds
pub waits_as : (g : Setting) (core : DispatchCore) (k : DispatcherKept) (l : DispatcherLive) (p : ℕ) (b : Bool) → Stands g core k l → (IsRising (map fresh_of core.fresh.items) → b ≡ waits (map fresh_of core.fresh.items) p) → waits l.fresh p ≡ b
waits_as g core k l p b s h = ap (λ (m : DispatcherLive). waits m.fresh p) (sym s.live) ∙ sym (h (ordered_core g core k l s).rising)

pub tried_as : (g : Setting) (core : DispatchCore) (k : DispatcherKept) (l : DispatcherLive) (p : ℕ) (b : Bool) → Stands g core k l → b ≡ list_any (nat_eq p) core.trying.keys → has l.trying p ≡ b
tried_as g core k l p b s h = ap (λ (m : DispatcherLive). has m.trying p) (sym s.live) ∙ sym (any_has core.trying.keys p) ∙ sym h

-- a line that enters the window
pub entered_live : (l : DispatcherLive) (f : FreshLine) (p e : ℕ) (click : Click) (d : Bool) → f.position ≡ p → f.end ≡ e → f.click ≡ click → f.done ≡ d
    → changed (Take f) l ≡ record l { place = e; fresh = l.fresh ++ (record { position = p; end_ = e; click = click; done = d }) ∷ [] }
entered_live l f p e click d position end_ same done = λ i. record l { place = end_ i; fresh = l.fresh ++ (record { position = position i; end_ = end_ i; click = same i; done = done i }) ∷ [] }
