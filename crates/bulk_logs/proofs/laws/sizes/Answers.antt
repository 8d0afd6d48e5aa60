use Rattle.bulk_logs.proofs.Room.{query_room, click_room}
use Rattle.bulk_logs.proofs.laws.sizes.Goals as goal

pub returns-clause-queries : goal.returns-clause-queries
returns-clause-queries c = query_room

pub returns-clause-clicks : goal.returns-clause-clicks
returns-clause-clicks c = click_room
