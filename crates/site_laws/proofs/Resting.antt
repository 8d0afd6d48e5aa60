-- Rest and quiet points, from the states that the world stands for.
use Rattle.std.proofs.Common.{◌≡◌, Option, None, refl, sym, subst}
use Rattle.site_laws.proofs.Words.{Setting, Dispatcher, Server, Replica, Joiner, State, UpWith, Cell, StatesRest, StatesAreQuiet}
use Rattle.site_laws.specs.Meaning.{StandsFor}
use Rattle.site_laws.proofs.Stepping.{opened_none}

-- what holds of what a state knows holds of the model's node
up_with : {K L : Type 0} (g : Setting) (P : L → Type 0) (c : Cell K L) (t : State K L) → StandsFor g c t → UpWith P t.live → UpWith P c.live
up_with {L = L} g P c t s up = subst (λ (o : Option L). UpWith P o) (sym s.live) up

quiet_with : {K L : Type 0} (g : Setting) (P : L → Type 0) (c : Cell K L) (t : State K L) → StandsFor g c t → (t.opened ≡ None) × UpWith P t.live → (c.opened ≡ None) × UpWith P c.live
quiet_with g P c t s quiet = (opened_none g t.opened c.opened s.opened quiet.0, up_with g P c t s quiet.1)

pub states_rest : StatesRest
states_rest g d h at es is rests = record {
  dispatchers = λ s lt. up_with g _ _ (at (Dispatcher s)) (is.stands (Dispatcher s) lt) (rests (Dispatcher s) lt);
  joiners = λ j lt. up_with g _ _ (at (Joiner j)) (is.stands (Joiner j) lt) (rests (Joiner j) lt);
  servers = λ s lt. up_with g _ _ (at (Server s)) (is.stands (Server s) lt) (rests (Server s) lt);
}

pub states_are_quiet : StatesAreQuiet
states_are_quiet g d h at es dead is quiet silent = record {
  dispatchers = λ s lt. quiet_with g _ _ (at (Dispatcher s)) (is.stands (Dispatcher s) lt) (quiet (Dispatcher s) lt refl);
  servers = λ s lt. quiet_with g _ _ (at (Server s)) (is.stands (Server s) lt) (quiet (Server s) lt refl);
  joiners = λ j lt. quiet_with g _ _ (at (Joiner j)) (is.stands (Joiner j) lt) (quiet (Joiner j) lt refl);
  replicas = λ r lt live. quiet_with g _ _ (at (Replica r)) (is.stands (Replica r) lt) (quiet (Replica r) lt live);
  silent = λ r lt out. opened_none g (at (Replica r)).opened _ (is.stands (Replica r) lt).opened (silent r lt out);
}
