-- What the core stands for once a change is kept.
use Rattle.std.proofs.Common.{◌≡◌, ℕ, ◌<◌, nat_eq, sym, ap, subst, ◌∙◌, arith}
use Rattle.dispatch_core.proofs.Words.{or_right, append-nil, has, without, clash, has_push-false, has_without-false, distinct_push, distinct_without, contains, Setting, land, DispatcherKept, DispatcherLive, land_dispatcher, mark, note_of, changed, live_of, IsOrdered, Stands, Fits, IsAlike, FreshLine, DispatchCore, Dealer, Change, Advance, Retry, Take}
use Rattle.dispatch_core.proofs.Rising.{rising_after_done, before_after_done, rising_push, before_push, rising_mark, before_mark}

-- ---- each change keeps the order

pub advance_ordered : (e : ℕ) (l : DispatcherLive) → IsOrdered l → IsOrdered (changed (Advance e) l)
advance_ordered e l o = record { rising = rising_after_done 0 l.fresh o.rising; before = before_after_done l.place l.fresh o.before; due_once = o.due_once; trying_once = o.trying_once; apart = o.apart }

pub retry_ordered : (l : DispatcherLive) → IsOrdered l → IsOrdered (changed Retry l)
retry_ordered l o = grind (arith, append-nil, clash, has, distinct_push, has_push-false, or_right)

pub take_ordered : (f : FreshLine) (l : DispatcherLive) → f.position ≡ l.place → f.position < f.end → IsOrdered l → IsOrdered (changed (Take f) l)
take_ordered f l here later o = grind (arith, rising_push, before_push)

pub mark_ordered : (p : ℕ) (l : DispatcherLive) → IsOrdered l → IsOrdered (record l { fresh = mark l.fresh p })
mark_ordered p l o = record { rising = rising_mark 0 p l.fresh o.rising; before = before_mark p l.place l.fresh o.before; due_once = o.due_once; trying_once = o.trying_once; apart = o.apart }

pub leave_ordered : (p : ℕ) (l : DispatcherLive) → IsOrdered l → IsOrdered (record l { trying = without l.trying p })
leave_ordered p l o = record { rising = o.rising; before = o.before; due_once = o.due_once; trying_once = distinct_without l.trying p o.trying_once; apart = λ q h. has_without-false l.trying p q (o.apart q h) }

-- ---- a changed core

pub ordered_core : (g : Setting) (core : DispatchCore) (k : DispatcherKept) (l : DispatcherLive) → Stands g core k l → IsOrdered (live_of core)
ordered_core g core k l s = subst (λ (m : DispatcherLive). IsOrdered m) (sym s.live) s.ordered

-- the new core holds what the change makes of what the old one holds, and the pending positions are those kept now
pub kept_as : (g : Setting) (old new : DispatchCore) (k now : DispatcherKept) (l : DispatcherLive) (f : DispatcherLive → DispatcherLive) → Stands g old k l → new.dealer ≡ old.dealer → live_of new ≡ f (live_of old)
    → ((p : ℕ) → contains nat_eq new.pending p ≡ has now.pending p) → IsOrdered (f l) → Stands g new now (f l)
kept_as g old new k now l f s same live pending ordered = record { of_setting = s.of_setting ∙ ap (λ (d : Dealer). d.config) (sym same); live = live ∙ ap f s.live; pending = pending; ordered = ordered }

pub same_pending : (g : Setting) (old new : DispatchCore) (k : DispatcherKept) (l : DispatcherLive) → Stands g old k l → new.pending ≡ old.pending → (p : ℕ) → contains nat_eq new.pending p ≡ has k.pending p
same_pending g old new k l s e p = ap (λ set. contains nat_eq set p) e ∙ s.pending p

-- ---- room

pub alike_stands : (g : Setting) (old new : DispatchCore) (k : DispatcherKept) (l : DispatcherLive) → IsAlike old new → Stands g old k l → Stands g new k l
alike_stands g old new k l a s = record { of_setting = s.of_setting ∙ ap (λ (d : Dealer). d.config) (sym a.dealer); live = a.live ∙ s.live; pending = λ p. a.pending p ∙ s.pending p; ordered = s.ordered }

-- only whose turn it is changes
pub turned : (g : Setting) (old new : DispatchCore) (k : DispatcherKept) (l : DispatcherLive) → new.dealer.config ≡ old.dealer.config → live_of new ≡ live_of old → new.pending ≡ old.pending → Stands g old k l → Stands g new k l
turned g old new k l config live pending s = grind arith

-- a change by its case
pub makes : (g : Setting) (old new : DispatchCore) (k : DispatcherKept) (l : DispatcherLive) (change this : Change) → change ≡ this → (Fits g old k l this → Stands g new (land land_dispatcher (note_of this) k) (changed this l))
    → Fits g old k l change → Stands g new (land land_dispatcher (note_of change) k) (changed change l)
makes g old new k l change this e h = subst (λ (m : Change). Fits g old k l m → Stands g new (land land_dispatcher (note_of m) k) (changed m l)) (sym e) h
