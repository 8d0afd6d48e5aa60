-- The rows of each kind of node, and those of a node that is one of several of its kind.
use Rattle.std.specs.Prelude.{ℕ, ◌==◌, if◌then◌else◌, Option, Some, None}
use Rattle.ballot_core.specs.declared.TheConstants.{LAST_EPOCH}
use Rattle.turn_defs.specs.Dispatcher.{DispatcherKept, DispatcherLive, dispatcher_start, dispatcher_turn, land_dispatcher}
use Rattle.turn_defs.specs.Server.{ServerKept, ServerLive, server_start, server_turn, land_server}
use Rattle.turn_defs.specs.Joiner.{JoinerKept, JoinerLive, joiner_start, joiner_turn, land_joiner}
use Rattle.site_node.specs.States.{Rows, State}

-- by the site, the site and the number
abbrev pub dispatcher_rows : ℕ → Rows DispatcherKept DispatcherLive
dispatcher_rows site = record { start = dispatcher_start; turn = λ g k l i. dispatcher_turn g site k l i; lands = land_dispatcher }

abbrev pub server_rows : ℕ → Rows ServerKept ServerLive
server_rows site = record { start = server_start; turn = λ g k l i. server_turn g site k l i; lands = land_server }

abbrev pub joiner_rows : ℕ → Rows JoinerKept JoinerLive
joiner_rows number = record { start = joiner_start; turn = λ g k l i. joiner_turn g number k l i; lands = land_joiner }

-- what the disks of a node hold, with what its rows know it by
pub record Numbered (K : Type 0) : Type 0 where
  pub number : ℕ
  pub disk : K

-- the rows of a node that is known so
abbrev pub numbered : {K L : Type 0} → (ℕ → Rows K L) → Rows (Numbered K) L
numbered rows =
    record {
      start = λ k. (rows k.number).start k.disk;
      turn = λ g k l i. (rows k.number).turn g k.disk l i;
      lands = λ n k. record { number = k.number; disk = (rows k.number).lands n k.disk };
    }

-- a state of such a node, by its disks alone
abbrev pub with_number : {K L : Type 0} → ℕ → State K L → State (Numbered K) L
with_number n s = record { setting = s.setting; kept = record { number = n; disk = s.kept }; live = s.live; opened = s.opened }

-- the epoch, where it is the last one, which no start can raise
abbrev pub spent_epoch : ℕ → Option ℕ
spent_epoch epoch = if epoch == LAST_EPOCH then Some epoch else None
