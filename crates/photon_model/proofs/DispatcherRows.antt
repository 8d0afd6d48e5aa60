-- What a dispatcher sends: a join to any joiner of its site, and nothing else.
use Rattle.std.proofs.Common.{ℕ, List, [], ◌∷◌, arith}
use Rattle.std.proofs.lemmas.Bool.{cond_both}
use Rattle.photon_model.proofs.Words.{Setting, Click, at, Each, Packet, Join, To, AnyJoiner, Input, DispatcherKept, DispatcherLive, Fresh, fresh_joins, join_if, trying_joins, dispatcher_turn, option_both, each_append}

module _ (g : Setting) (s : ℕ) (k : DispatcherKept) (l : DispatcherLive) (P : To × Packet → Type 0) (sent : (p : ℕ) (c : Click) → P (AnyJoiner s, Join p c)) where
  all_fresh : (fs : List Fresh) → Each P (fresh_joins g s k l fs)
  all_fresh [] = tt
  all_fresh (f ∷ fs) = let r = all_fresh fs in cond_both f.done _ _ (Each P) (λ _. r) (λ _. (sent _ _, r))

  all_trying : (ps : List ℕ) → Each P (trying_joins g s k l ps)
  all_trying [] = tt
  all_trying (p ∷ ps) = let r = all_trying ps in option_both (at g.clicks p) (λ o. join_if g s k l p o (trying_joins g s k l ps)) (Each P) (λ x _. (sent _ _, r)) (λ _. r)

  pub each_packet : (i : Input) → Each P (dispatcher_turn g s k l i).packets
  each_packet i = grind (arith, each_append, all_fresh, all_trying)
