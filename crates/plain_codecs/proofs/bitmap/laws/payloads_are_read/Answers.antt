use Rattle.std.proofs.Common.{◌∙◌, ap, length, List, ℕ}
use Rattle.lane_kernels.specs.Bitmap.{set_bits}
use Rattle.plain_codecs.proofs.Bitmaps.{documents_read}
use Rattle.plain_codecs.proofs.bitmap.laws.payloads_are_read.Goals as goal

pub returns-clause-found : goal.returns-clause-found
returns-clause-found c = λ d count docs bytes are long is.
    documents_read d count docs bytes are long (ap (λ (xs : List ℕ). length xs) is ∙ c.bits_are_documents.ensures.size d docs) (ap (set_bits 0) is ∙ c.bits_are_documents.ensures.found d docs are)
