-- What is kept of the file that was opened.
use Rattle.shared_lemmas.proofs.Common.{◌≡◌, ℕ, List, Option, Err, inl, refl, rules, subst, sym, ◌∙◌}
use Rattle.index_import.proofs.Below.{Files, FailsReading, IsMissing, StandsFor, read_ciff}
use Rattle.std.proofs.Math.Nat.{le_trans}
use Rattle.index_import.proofs.Again.{ok_unread, ready_then, rose_before, still_fault, told_there}
use Rattle.index_import.proofs.Surveying.{PieceLaws, unopened}
use Rattle.index_import.specs.Private.Surveying.{IsSurvey}
use Rattle.index_import.proofs.survey.survey_file.Goals as goal

pub returns-in_err-walk-clause-ready : goal.returns-in_err-walk-clause-ready
returns-in_err-walk-clause-ready g c =
    let fault = c.in_err-walk.field-0.0 in
    let out : c.from_residual.result ≡ Err fault = search rules in
    rw out tt

pub returns-in_err-walk-clause-kept : goal.returns-in_err-walk-clause-kept
returns-in_err-walk-clause-kept g c =
    let fault = c.in_err-walk.field-0.0 in
    let out : c.from_residual.result ≡ Err fault = search rules in
    rw out tt

pub returns-in_err-walk-clause-told : goal.returns-in_err-walk-clause-told
returns-in_err-walk-clause-told g c =
    let fault = c.in_err-walk.field-0.0 in
    let out : c.from_residual.result ≡ Err fault = search rules in
    let law = c.pieces_make_the_collection.ensures in
    let laws : PieceLaws = record { bad_header = law.bad_header; start = law.start; piece = law.piece; end = law.end; refused = law.refused } in
    rw out (unopened laws (g.C.Cabinet.told c.args.files.now) c.args.name.now fault c.in_err-walk.ensures.opens)

pub returns-in_err-walk-clause-missing : goal.returns-in_err-walk-clause-missing
returns-in_err-walk-clause-missing g c =
    let fault = c.in_err-walk.field-0.0 in
    let out : c.from_residual.result ≡ Err fault = search rules in
    rw out c.in_err-walk.ensures.missing

pub returns-in_err-walk-clause-fault : goal.returns-in_err-walk-clause-fault
returns-in_err-walk-clause-fault g c =
    let fault = c.in_err-walk.field-0.0 in
    let out : c.from_residual.result ≡ Err fault = search rules in
    rw out (λ is. c.in_err-walk.ensures.fault (still_fault is))

pub returns-in_err-walk-clause-stays : goal.returns-in_err-walk-clause-stays
returns-in_err-walk-clause-stays g c = c.in_err-walk.ensures.stays

pub returns-in_err-walk-clause-later : goal.returns-in_err-walk-clause-later
returns-in_err-walk-clause-later g c = c.in_err-walk.ensures.later

pub returns-in_err-walk-clause-others : goal.returns-in_err-walk-clause-others
returns-in_err-walk-clause-others g c = c.in_err-walk.ensures.others

pub read_pieces-requires-clause-there : goal.read_pieces-requires-clause-there
read_pieces-requires-clause-there g c = λ missing.
    c.in_ok-walk.ensures.missing (subst (λ (n : List ℕ). IsMissing (g.C.Cabinet.told c.args.files.now) n) c.in_ok-walk.ensures.begins.name_is
    (subst (λ (files : Option Files). IsMissing files c.in_ok-walk.walk.name) c.in_ok-walk.ensures.stays missing))

pub read_pieces-requires-clause-begins : goal.read_pieces-requires-clause-begins
read_pieces-requires-clause-begins g c = record { name_is = refl; header = c.in_ok-walk.ensures.begins.header; kept = c.in_ok-walk.ensures.begins.kept; given = c.in_ok-walk.ensures.begins.given; ended = c.in_ok-walk.ensures.begins.ended; answered = c.in_ok-walk.ensures.begins.answered }

pub read_pieces-requires-clause-ranges : goal.read_pieces-requires-clause-ranges
read_pieces-requires-clause-ranges g c = c.in_ok-walk.ensures.ranges

pub read_pieces-requires-clause-docs : goal.read_pieces-requires-clause-docs
read_pieces-requires-clause-docs g c = c.new.ensures

pub read_pieces-requires-clause-lists : goal.read_pieces-requires-clause-lists
read_pieces-requires-clause-lists g c = c.new-2.ensures.items

pub returns-in-Ok-clause-ready : goal.returns-in-Ok-clause-ready
returns-in-Ok-clause-ready g c = ready_then (g.C.Cabinet.told c.args.files.now) (g.C.Cabinet.told c.open.new.files) c.args.name.now c.in_ok-walk.walk.name c.read_pieces.new.self.walk c.in_ok-walk.ensures.stays c.in_ok-walk.ensures.begins.name_is c.in-Ok.ensures.ready

pub returns-in-Ok-clause-kept : goal.returns-in-Ok-clause-kept
returns-in-Ok-clause-kept g c = c.in-Ok.ensures.kept

pub returns-in-Ok-clause-told : goal.returns-in-Ok-clause-told
returns-in-Ok-clause-told g c =
    let s = c.read_pieces.new.self in
    told_there (g.C.Cabinet.told c.args.files.now) (g.C.Cabinet.told c.open.new.files) c.args.name.now c.in_ok-walk.walk.name (λ content. IsSurvey content s.walk s.docs s.lists.items) c.in_ok-walk.ensures.stays c.in_ok-walk.ensures.begins.name_is c.in-Ok.ensures.told

pub returns-in-Ok-clause-missing : goal.returns-in-Ok-clause-missing
returns-in-Ok-clause-missing g c = c.in_ok-walk.ensures.missing

pub returns-in-Ok-clause-fault : goal.returns-in-Ok-clause-fault
returns-in-Ok-clause-fault g c = λ is. absurd (ok_unread is)

pub returns-in-Ok-clause-stays : goal.returns-in-Ok-clause-stays
returns-in-Ok-clause-stays g c = c.in-Ok.ensures.reads.stays ∙ c.in_ok-walk.ensures.stays

pub returns-in-Ok-clause-later : goal.returns-in-Ok-clause-later
returns-in-Ok-clause-later g c = le_trans c.in_ok-walk.ensures.later c.in-Ok.ensures.reads.later

pub returns-in-Ok-clause-others : goal.returns-in-Ok-clause-others
returns-in-Ok-clause-others g c = le_trans c.in_ok-walk.ensures.others c.in-Ok.ensures.reads.others

pub returns-in-Err-clause-ready : goal.returns-in-Err-clause-ready
returns-in-Err-clause-ready g c = tt

pub returns-in-Err-clause-kept : goal.returns-in-Err-clause-kept
returns-in-Err-clause-kept g c = tt

pub returns-in-Err-clause-told : goal.returns-in-Err-clause-told
returns-in-Err-clause-told g c = told_there (g.C.Cabinet.told c.args.files.now) (g.C.Cabinet.told c.open.new.files) c.args.name.now c.in_ok-walk.walk.name (λ content. FailsReading c.in-Err.fault (read_ciff content)) c.in_ok-walk.ensures.stays c.in_ok-walk.ensures.begins.name_is c.in-Err.ensures.told

pub returns-in-Err-clause-missing : goal.returns-in-Err-clause-missing
returns-in-Err-clause-missing g c = λ missing. absurd (c.in_ok-walk.ensures.missing missing)

pub returns-in-Err-clause-fault : goal.returns-in-Err-clause-fault
returns-in-Err-clause-fault g c = λ is. inl (rose_before (g.C.Cabinet.read_faults c.args.files.now) (g.C.Cabinet.read_faults c.open.new.files) (g.C.Cabinet.read_faults c.read_pieces.new.files) c.in_ok-walk.ensures.later (c.in-Err.ensures.reads.fault (still_fault is)))

pub returns-in-Err-clause-stays : goal.returns-in-Err-clause-stays
returns-in-Err-clause-stays g c = c.in-Err.ensures.reads.stays ∙ c.in_ok-walk.ensures.stays

pub returns-in-Err-clause-later : goal.returns-in-Err-clause-later
returns-in-Err-clause-later g c = le_trans c.in_ok-walk.ensures.later c.in-Err.ensures.reads.later

pub returns-in-Err-clause-others : goal.returns-in-Err-clause-others
returns-in-Err-clause-others g c = le_trans c.in_ok-walk.ensures.others c.in-Err.ensures.reads.others

pub read_pieces-requires-clause-stands : goal.read_pieces-requires-clause-stands
read_pieces-requires-clause-stands g c =
    let w = c.in_ok-walk.walk in
    told_there (g.C.Cabinet.told c.open.new.files) (g.C.Cabinet.told c.args.files.now) w.name c.args.name.now (λ content. StandsFor content w)
    (sym c.in_ok-walk.ensures.stays) (sym c.in_ok-walk.ensures.begins.name_is) c.in_ok-walk.ensures.opens
