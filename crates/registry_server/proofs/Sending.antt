-- Packets, put behind one another.
use Rattle.std.proofs.Common.{◌≡◌, ℕ, suc, ◌+◌, ◌-◌, ◌<◌, ◌≤◌, List, [], ◌∷◌, ◌++◌, length, take, get_or, refl, sym, ap, ◌∙◌, arith}
use Rattle.registry_server.proofs.Words.{map-append, append_assoc, append-nil, take_more, Insert, Batch, Answer, replay, answered, left_of, Packet, Node, Replica, To, Only, Setting, Addressed, to_from, reply, replies, unanswered, sent, each_reply}

pub sent_push : (ps : List (Node × Packet)) (p : Node × Packet) → sent (ps ++ p ∷ []) ≡ sent ps ++ (Only p.0, p.1) ∷ []
sent_push ps p = map-append (λ (q : Node × Packet). (Only q.0, q.1)) ps (p ∷ [])

-- such packets are addressed
pub addressed : (g : Setting) (ps : List (Node × Packet)) → Addressed g (sent ps) ps
addressed g [] = tt
addressed g (p ∷ ps) = ((refl, refl), addressed g ps)

-- one replica more is asked, of so many that are left
pub asked_more : (r left : ℕ) (p : Packet) (before after : List (To × Packet)) → after ≡ before ++ (Only (Replica r), p) ∷ [] → after ++ to_from (suc r) left p ≡ before ++ to_from r (suc left) p
asked_more r left p before after e = ap (λ (xs : List (To × Packet)). xs ++ to_from (suc r) left p) e ∙ append_assoc before ((Only (Replica r), p) ∷ []) (to_from (suc r) left p)

pub asked_turn : (r n : ℕ) (p : Packet) (before after whole : List (To × Packet)) → r < n → after ≡ before ++ (Only (Replica r), p) ∷ [] → before ++ to_from r (n - r) p ≡ whole → after ++ to_from (r + 1) (n - (r + 1)) p ≡ whole
asked_turn r n p before after whole few e h =
    let left : n - r ≡ suc (n - (r + 1)) = omega arith in
    let next : r + 1 ≡ suc r = omega arith in
    (λ i. after ++ to_from (next i) (n - (r + 1)) p) ∙ asked_more r (n - (r + 1)) p before after e ∙ (λ i. before ++ to_from r (sym left i) p) ∙ h

pub asked_all : (r n : ℕ) (p : Packet) (after whole : List (To × Packet)) → n ≤ r → after ++ to_from r (n - r) p ≡ whole → after ≡ whole
asked_all r n p after whole most h =
    let left : n - r ≡ 0 = omega arith in
    sym (append-nil after) ∙ (λ i. after ++ to_from r (sym left i) p) ∙ h

module _ (g : Setting) (site : ℕ) where
  pub each_reply_push : (ps : List (Insert × Answer)) (p : Insert × Answer) → each_reply g site (ps ++ p ∷ []) ≡ each_reply g site ps ++ reply g site p.0 p.1
  each_reply_push [] p = append-nil (reply g site p.0 p.1)
  each_reply_push (q ∷ ps) p = ap (λ (xs : List (To × Packet)). reply g site q.0 q.1 ++ xs) (each_reply_push ps p) ∙ sym (append_assoc (reply g site q.0 q.1) (each_reply g site ps) (reply g site p.0 p.1))

  pub replied_more : (xs : List (Insert × Answer)) (i : ℕ) (d : Insert × Answer) (now before start : List (To × Packet)) → i < length xs → now ≡ before ++ reply g site (get_or xs i d).0 (get_or xs i d).1 → before ≡ start ++ each_reply g site (take i xs)
      → now ≡ start ++ each_reply g site (take (i + 1) xs)
  replied_more xs i d now before start w e h =
      let x = get_or xs i d in
      e ∙ ap (λ (ps : List (To × Packet)). ps ++ reply g site x.0 x.1) h ∙ append_assoc start (each_reply g site (take i xs)) (reply g site x.0 x.1)
      ∙ ap (λ (ps : List (To × Packet)). start ++ ps) (sym (each_reply_push (take i xs) x) ∙ ap (each_reply g site) (sym (take_more xs i d w)))

  -- the Replies to those that have an answer are the Replies
  pub replies_each : (vs : List Batch) (xs : List Insert) → each_reply g site (answered (λ x. replay vs x.id x.token) xs) ≡ replies g site vs xs
  replies_each vs [] = refl
  replies_each vs (x ∷ xs) = grind (arith, replies_each vs xs)

  pub unanswered_left : (vs : List Batch) (xs : List Insert) → left_of (λ x. replay vs x.id x.token) xs ≡ unanswered g site vs xs
  unanswered_left vs [] = refl
  unanswered_left vs (x ∷ xs) = grind (arith, unanswered_left vs xs)
