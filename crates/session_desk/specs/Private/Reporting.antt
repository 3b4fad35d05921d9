-- What is told of a session.
use Rattle.index_model.specs.Index.{IndexData}
use Rattle.session_desk.specs.declared.told.Told.{Told}
use Rattle.session_desk.specs.Replies.{session_report}
use Rattle.session_desk.specs.State.{OpenSession}

-- what a report line tells of a session
abbrev pub told_of : IndexData → OpenSession → Told
told_of index session = record { report = session_report index session; unknown = session.query.unknown }
