use Rattle.index_layout.proofs.Numbers.{byte_at}
use Rattle.index_version1.proofs.OldFiles.{file1_found, file1_only}
use Rattle.index_version1.proofs.laws.old_files_are_read.Goals as goal

pub returns-clause-found : goal.returns-clause-found
returns-clause-found c = file1_found c.payloads_are_read.ensures.found

pub returns-clause-only : goal.returns-clause-only
returns-clause-only c = λ v bytes fits read. file1_only c.payloads_are_read.ensures.only c.codecs_have_their_numbers.ensures.only v bytes (byte_at bytes fits) read
