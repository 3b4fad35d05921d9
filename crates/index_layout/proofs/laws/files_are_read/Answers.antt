use Rattle.index_layout.proofs.FileLaws.{file_found, file_only}
use Rattle.index_layout.proofs.Numbers.{byte_at}
use Rattle.index_layout.proofs.laws.files_are_read.Goals as goal

pub returns-clause-found : goal.returns-clause-found
returns-clause-found c = file_found c.payloads_are_read.ensures.found

pub returns-clause-only : goal.returns-clause-only
returns-clause-only c = λ v bytes fits read. file_only c.payloads_are_read.ensures.only c.codecs_have_their_numbers.ensures.only v bytes (byte_at bytes fits) read
