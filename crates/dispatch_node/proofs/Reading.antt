-- What a reader of a checked log finds where a line starts, or where the last one ends.
use Rattle.std.proofs.Common.{◌≡◌, ◌⊎◌, inl, inr, ⊎_elim, ℕ, suc, ◌+◌, ◌≤◌, List, [], ◌∷◌, ◌++◌, length, drop, Option, Some, None, refl, sym, ap, ◌∙◌, subst, arith, Result, IfOk}
use Rattle.dispatch_node.proofs.Words.{MAX_LOG, AllByRecursion, drop-append_seam, take_all, Lacks, split_same, lacks_none, Mem, Click, click_line, IsClick, line_feed, ClickLine, at, placed, end_from, Follow, click_right, click_lacks, at_mem, at_own, within_end, lines_follow, lines_stand, lines_end, IfOk-weaker, behind, IsNext, Next, Line, Long, NodeFault, IsLineAt, TakenLine, Setting, IsLogOf, IsReadable, End}
use Rattle.log_records.specs.declared.why.Why.TheVariants as why

-- a line starts at p, or p is where the last one ends
abbrev IsHere : List ClickLine → ℕ → ℕ → Type 0
IsHere ls q p = ((l : ClickLine) × Mem l ls × (l.place ≡ p)) ⊎ (p ≡ end_from q ls)

later : (x : ClickLine) (ls : List ClickLine) (q p : ℕ) → IsHere ls x.end_ p → IsHere (x ∷ ls) q p
later x ls q p h = grind arith

here_from : (ls : List ClickLine) (q p : ℕ) → Follow q ls → (p ≡ q) ⊎ ((l : ClickLine) × Mem l ls × (l.end_ ≡ p)) → IsHere ls q p
here_from [] q p f h = grind arith
here_from (x ∷ ls) q p f h = grind (arith, here_from ls x.end_ p f.2)

here : (g : Setting) (p : ℕ) → Follow 0 g.clicks → IsReadable g p → IsHere g.clicks 0 p
here g p f (inl b) = here_from g.clicks 0 p f b
here g p f (inr s) = let m = at_mem g.clicks p s.0 s.1 in inl (s.0, m.0, m.1)

-- ---- the bytes of a line

placed_click : (p : ℕ) (cs : List Click) (l : ClickLine) → AllByRecursion IsClick cs → Mem l (placed p cs) → IsClick l.click
placed_click p [] l all m = absurd m
placed_click p (c ∷ cs) l all (inl e) = subst (λ (y : ClickLine). IsClick y.click) e all.0
placed_click p (c ∷ cs) l all (inr m) = placed_click (suc (p + length (click_line c))) cs l all.1 m

cut : (log front rest : List ℕ) (p : ℕ) → length log ≤ MAX_LOG → log ≡ front ++ rest → length front ≡ p → behind log p ≡ rest
cut log front rest p short e len =
    ap (drop p) (take_all MAX_LOG log short ∙ e) ∙ ap (λ (n : ℕ). drop n (front ++ rest)) (sym len) ∙ drop-append_seam front rest

-- a line that starts at p
record IsStart (log : List ℕ) (g : Setting) (p : ℕ) (l : ClickLine) : Type 0 where
  click : IsClick l.click
  found : at g.clicks p ≡ Some l
  place : l.place ≡ p
  end_ : l.end_ ≡ suc (p + length (click_line l.click))
  rest : List ℕ
  bytes : behind log p ≡ click_line l.click ++ line_feed ∷ rest

start_of : (log : List ℕ) (g : Setting) (p : ℕ) (l : ClickLine) → IsLogOf log g → Mem l g.clicks → l.place ≡ p → IsStart log g p l
start_of log g p l is m e =
    let stand = lines_stand log g.clicks is.lines l m in
    record {
      click = placed_click 0 is.lines.clicks l is.lines.holds.each (subst (Mem l) is.lines.lines m);
      found = subst (λ (q : ℕ). at g.clicks q ≡ Some l) e (at_own g.clicks 0 l (lines_follow log g.clicks is.lines).0 m);
      place = e;
      end_ = stand.4 ∙ ap (λ (q : ℕ). suc (q + length (click_line l.click))) e;
      rest = stand.1;
      bytes = cut log stand.0 (click_line l.click ++ line_feed ∷ stand.1) p is.short stand.2 (stand.3 ∙ e);
    }

end_lacks : (log : List ℕ) (g : Setting) (p : ℕ) → IsLogOf log g → p ≡ end_from 0 g.clicks → Lacks line_feed (behind log p)
end_lacks log g p is e =
    let end_ = lines_end log g.clicks is.lines in
    subst (λ (b : List ℕ). Lacks line_feed b) (sym (cut log end_.0 end_.1 p is.short end_.2 (end_.3 ∙ sym e))) end_.4

-- ---- what is found

pub line_found : (log : List ℕ) (g : Setting) (p e : ℕ) (line rest : List ℕ) → IsLogOf log g → IsReadable g p → e ≡ p + length line + 1 → Lacks line_feed line → behind log p ≡ line ++ line_feed ∷ rest
    → (c : Click) × IsClick c × (line ≡ click_line c) × (at g.clicks p ≡ Some (record { place = p; end_ = e; click = c }))
line_found log g p e line rest is readable end_ lacks bytes = ⊎_elim starts ends (here g p (lines_follow log g.clicks is.lines).0 readable)
  where
    starts : (l : ClickLine) × Mem l g.clicks × (l.place ≡ p) → (c : Click) × IsClick c × (line ≡ click_line c) × (at g.clicks p ≡ Some (record { place = p; end_ = e; click = c }))
    starts m =
        let l = m.0 in
        let s = start_of log g p l is m.1 m.2 in
        let same : line ≡ click_line l.click = (split_same line_feed line rest (click_line l.click) s.rest lacks (click_lacks l.click s.click) (sym bytes ∙ s.bytes)).0 in
        let lens : length line ≡ length (click_line l.click) = ap length same in
        let ends_ : l.end_ ≡ e = s.end_ ∙ omega (arith, end_, lens) in
        (l.click, s.click, same, s.found ∙ (λ i. Some (record { place = s.place i; end_ = ends_ i; click = l.click })))

    ends : p ≡ end_from 0 g.clicks → (c : Click) × IsClick c × (line ≡ click_line c) × (at g.clicks p ≡ Some (record { place = p; end_ = e; click = c }))
    ends at_end = absurd (lacks_none line_feed line rest (subst (λ (b : List ℕ). Lacks line_feed b) bytes (end_lacks log g p is at_end)))

-- ---- what a turn takes

pub line_taken : (log : List ℕ) (g : Setting) (p q e : ℕ) (n : Next) (line : List ℕ) (r : Result (Option TakenLine) NodeFault) → IsLogOf log g → IsReadable g p → IsNext log p n line → n ≡ Line q e
    → ((c : Click) → IsClick c → line ≡ click_line c → IfOk r (λ t. t ≡ Some (record { position = q; end = e; click = c }))) → IfOk r (IsLineAt g p)
line_taken log g p q e n line r is readable next same taken =
    let here = subst (λ (x : Next). IsNext log p x line) same next in
    let found = line_found log g p e line here.4.0 is readable here.1 here.3 here.4.1 in
    let c = found.0 in
    let moved : at g.clicks p ≡ Some (record { place = q; end_ = e; click = c }) = found.3 ∙ ap (λ (x : ℕ). Some (record { place = x; end_ = e; click = c })) (sym here.0) in
    IfOk-weaker r _ _ (λ t is_line. subst (IsLineAt g p) (sym is_line) (moved, sym here.0, omega (arith, here.0, here.1))) (taken c found.1 found.2)

pub none_taken : (log : List ℕ) (g : Setting) (p : ℕ) (n : Next) (line : List ℕ) → IsLogOf log g → IsReadable g p → IsNext log p n line → ((q : ℕ) × (e : ℕ) × (n ≡ Long q e)) ⊎ ((q : ℕ) × (n ≡ End q)) → at g.clicks p ≡ None
none_taken log g p n line is readable next (inl long) =
    let here = (subst (λ (x : Next). IsNext log p x line) long.2 next).1 in
    let c = line_found log g p (p + length here.0 + 1) here.0 here.1 is readable refl here.3 here.2 in
    absurd (click_right here.0 c.0 why.TooLong c.1 c.2 (inl (λ le. absurd (omega (arith, le, here.4)), refl)))
none_taken log g p n line is readable next (inr end_) = ⊎_elim starts (λ at_end. none at_end (at g.clicks p) refl) (here g p (lines_follow log g.clicks is.lines).0 readable)
  where
    starts : (l : ClickLine) × Mem l g.clicks × (l.place ≡ p) → at g.clicks p ≡ None
    starts m =
        let s = start_of log g p m.0 is m.1 m.2 in
        let lacks = (subst (λ (x : Next). IsNext log p x line) end_.1 next).1 in
        absurd (lacks_none line_feed (click_line m.0.click) s.rest (subst (λ (b : List ℕ). Lacks line_feed b) s.bytes lacks))

    none : p ≡ end_from 0 g.clicks → (o : Option ClickLine) → at g.clicks p ≡ o → o ≡ None
    none at_end None e = refl
    none at_end (Some l) e =
        let m = at_mem g.clicks p l e in
        let lt = within_end g.clicks 0 l (lines_follow log g.clicks is.lines).0 m.0 in
        absurd (omega (arith, lt, m.1, at_end))
