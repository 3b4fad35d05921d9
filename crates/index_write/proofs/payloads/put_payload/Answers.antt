use Rattle.std.proofs.Common.{◌≡◌, ◌++◌, OnOk, subst}
use Rattle.segment_codecs.specs.Codecs.{payload_of}
use Rattle.index_write.proofs.Below.{Codec}
use Rattle.index_write.proofs.payloads.put_payload.Goals as goal

pub returns : goal.returns
returns c = subst (λ (codec : Codec). OnOk c.encode.result (c.encode.new.out ≡ c.args.out.now ++ payload_of codec c.args.d c.args.docs.now)) c.requires.codec c.encode.ensures.ok
