-- What was read is put in order, or why it wasn't read.
use Rattle.shared_lemmas.proofs.Common.{inl, subst, sym}
use Rattle.index_import.specs.Private.Surveying.{IsReady}
use Rattle.index_import.proofs.Unread.{memory_no_read, no_fault, unread_read}
use Rattle.index_import.proofs.import.read_outline.Goals as goal

pub returns-in-Err-clause-stays : goal.returns-in-Err-clause-stays
returns-in-Err-clause-stays g c = c.survey_file.ensures.stays

pub returns-in-Err-clause-later : goal.returns-in-Err-clause-later
returns-in-Err-clause-later g c = c.survey_file.ensures.later

pub returns-in-Err-clause-others : goal.returns-in-Err-clause-others
returns-in-Err-clause-others g c = c.survey_file.ensures.others

pub returns-in-Err-clause-ready : goal.returns-in-Err-clause-ready
returns-in-Err-clause-ready g c = tt

pub returns-in-Err-clause-outlined : goal.returns-in-Err-clause-outlined
returns-in-Err-clause-outlined g c = tt

pub returns-in-Err-clause-told : goal.returns-in-Err-clause-told
returns-in-Err-clause-told g c = tt

pub returns-in-Ok-new-clause-stays : goal.returns-in-Ok-new-clause-stays
returns-in-Ok-new-clause-stays g c = c.survey_file.ensures.stays

pub returns-in-Ok-new-clause-later : goal.returns-in-Ok-new-clause-later
returns-in-Ok-new-clause-later g c = c.survey_file.ensures.later

pub returns-in-Ok-new-clause-others : goal.returns-in-Ok-new-clause-others
returns-in-Ok-new-clause-others g c = c.survey_file.ensures.others

pub returns-in-Err-new-clause-stays : goal.returns-in-Err-new-clause-stays
returns-in-Err-new-clause-stays g c = c.survey_file.ensures.stays

pub returns-in-Err-new-clause-later : goal.returns-in-Err-new-clause-later
returns-in-Err-new-clause-later g c = c.survey_file.ensures.later

pub returns-in-Err-new-clause-others : goal.returns-in-Err-new-clause-others
returns-in-Err-new-clause-others g c = c.survey_file.ensures.others

pub returns-in-Err-new-clause-ready : goal.returns-in-Err-new-clause-ready
returns-in-Err-new-clause-ready g c = tt

pub returns-in-Err-new-clause-outlined : goal.returns-in-Err-new-clause-outlined
returns-in-Err-new-clause-outlined g c = tt

pub returns-in-Err-new-clause-told : goal.returns-in-Err-new-clause-told
returns-in-Err-new-clause-told g c = tt

pub returns-in-Err-clause-read_fault : goal.returns-in-Err-clause-read_fault
returns-in-Err-clause-read_fault g c = λ is. c.in-Err.ensures.fault (unread_read c.in-Err.fault c.from_ciff.result c.from_ciff.ensures is)

pub returns-in-Ok-new-clause-failed : goal.returns-in-Ok-new-clause-failed
returns-in-Ok-new-clause-failed g c = tt

pub returns-in-Ok-new-clause-write_fault : goal.returns-in-Ok-new-clause-write_fault
returns-in-Ok-new-clause-write_fault g c = tt

pub returns-in-Ok-new-clause-read_fault : goal.returns-in-Ok-new-clause-read_fault
returns-in-Ok-new-clause-read_fault g c = λ is. absurd (no_fault is)

pub returns-in-Ok-new-clause-ready : goal.returns-in-Ok-new-clause-ready
returns-in-Ok-new-clause-ready g c = subst (IsReady (g.C.Cabinet.told c.args.files.now) c.args.ciff.now) (sym c.in-Ok-new.ensures.walk) c.in-Ok.ensures.ready

pub returns-in-Err-new-clause-failed : goal.returns-in-Err-new-clause-failed
returns-in-Err-new-clause-failed g c = λ index rule bits. inl c.survey_file.ensures.stays

pub returns-in-Err-new-clause-read_fault : goal.returns-in-Err-new-clause-read_fault
returns-in-Err-new-clause-read_fault g c = λ is. absurd (memory_no_read is)
