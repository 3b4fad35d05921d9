use Rattle.codec_simple8.proofs.PayloadLaws.{payload_read, read_payload}
use Rattle.codec_simple8.proofs.laws.payloads_are_read.Goals as goal

pub returns : goal.returns
returns c = record { found = payload_read; only = λ d count docs bytes some limit small is. read_payload d count docs bytes some limit is }
