-- What the sessions in one pool show of a desk.
use Rattle.std.specs.Prelude.{List, length, map}
use Rattle.ranking_model.specs.Search.{query_data}
use Rattle.session_engine.specs.Standing.{granted_of, k_of, query_of}
use Rattle.session_engine.specs.declared.session.Session.{Session}
use Rattle.session_desk.specs.declared.table.Table.{Table}
use Rattle.session_desk.specs.State.{DeskState, OpenSession}

abbrev pub session_data : Session → OpenSession
session_data s = record { query = query_data (query_of s); k = k_of s; granted = granted_of s }

abbrev pub sessions_data : List Session → List OpenSession
sessions_data sessions = map session_data sessions

abbrev pub state_of : Table → DeskState
state_of table = record { sessions = sessions_data table.sessions.items; frames = length table.pool.frames }
