-- What the lists of an outline are is known of the outline.
use Rattle.shared_lemmas.proofs.Common.{inl, refl}
use Rattle.std.proofs.Math.Nat.{le_refl}
use Rattle.index_import.proofs.Unread.{memory_no_read, memory_no_write}
use Rattle.index_import.proofs.import.import_outline.Goals as goal

pub returns-in-Err-clause-imported : goal.returns-in-Err-clause-imported
returns-in-Err-clause-imported g c = inl refl

pub returns-in-Err-clause-read_fault : goal.returns-in-Err-clause-read_fault
returns-in-Err-clause-read_fault g c = λ is. absurd (memory_no_read is)

pub returns-in-Err-clause-write_fault : goal.returns-in-Err-clause-write_fault
returns-in-Err-clause-write_fault g c = λ is. absurd (memory_no_write is)

pub returns-in-Err-clause-later : goal.returns-in-Err-clause-later
returns-in-Err-clause-later g c = le_refl (g.C.Cabinet.read_faults c.args.files.now)

pub returns-in-Err-clause-others : goal.returns-in-Err-clause-others
returns-in-Err-clause-others g c = le_refl (g.C.Cabinet.write_faults c.args.files.now)

pub returns-clause-imported : goal.returns-clause-imported
returns-clause-imported g c = c.import_lists-totals.ensures.imported

pub returns-clause-read_fault : goal.returns-clause-read_fault
returns-clause-read_fault g c = c.import_lists-totals.ensures.read_fault

pub returns-clause-write_fault : goal.returns-clause-write_fault
returns-clause-write_fault g c = c.import_lists-totals.ensures.write_fault

pub returns-clause-later : goal.returns-clause-later
returns-clause-later g c = c.import_lists-totals.ensures.later

pub returns-clause-others : goal.returns-clause-others
returns-clause-others g c = c.import_lists-totals.ensures.others
