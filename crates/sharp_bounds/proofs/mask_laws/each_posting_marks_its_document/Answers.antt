use Rattle.sharp_bounds.proofs.Marks.{marked_first, marked_next, marked_parts, length-marked}
use Rattle.sharp_bounds.proofs.mask_laws.each_posting_marks_its_document.Goals as goal

pub returns-clause-first : goal.returns-clause-first
returns-clause-first c = marked_first

pub returns-clause-segment : goal.returns-clause-segment
returns-clause-segment c = marked_next

pub returns-clause-parts : goal.returns-clause-parts
returns-clause-parts c = marked_parts

pub returns-clause-length : goal.returns-clause-length
returns-clause-length c = length-marked
