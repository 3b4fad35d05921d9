use Rattle.shared_lemmas.proofs.Common.{◌<◌, ◌∙◌, take, Result, Ok, refl, All-take}
use Rattle.jass_base.specs.declared.payload_fault.PayloadFault.{PayloadFault}
use Rattle.jass_base.specs.Gaps.{Judges}
use Rattle.jass_base.proofs.Accepting.{checks_into, all_bytes}
use Rattle.plain_codecs.specs.Varbyte.{varbyte_of, read_varbyte}
use Rattle.plain_codecs.proofs.varbyte.handing.check_front_into.Goals as goal

pub returns-then-hand_out_short : goal.returns-then-hand_out_short
returns-then-hand_out_short c =
    let d = c.args.d in
    let count = c.args.count in
    let front = take c.args.size c.args.bytes.now in
    let small = All-take (λ byte. byte < 256) c.args.size c.args.bytes.now (all_bytes c.args.bytes.now (λ k. (c.type_inv.bytes k).fits)) in
    let accepted : Result (Unit {0}) PayloadFault = Ok tt in
    let judged : Judges (read_varbyte d count front) accepted = rw (c.if-hand_out_short.ensures.docs refl) refl in
    let docs = c.if-hand_out_short.ensures.docs refl in
    checks_into varbyte_of read_varbyte d count front _ _ accepted judged docs c.if-hand_out_short.ensures.length
    (λ docs are size is. c.payloads_are_read.ensures.found d count docs front are size is)
    (λ docs is. c.payloads_are_read.ensures.only d count docs front c.requires.count.some c.requires.count.limit small is)

pub returns : goal.returns
returns c =
    let d = c.args.d in
    let count = c.args.count in
    let front = take c.args.size c.args.bytes.now in
    let small = All-take (λ byte. byte < 256) c.args.size c.args.bytes.now (all_bytes c.args.bytes.now (λ k. (c.type_inv.bytes k).fits)) in
    checks_into varbyte_of read_varbyte d count front _ _ c.hand_out.result c.hand_out.ensures.judged c.hand_out.ensures.docs
    (c.hand_out.ensures.length ∙ c.if-hand_out_short.ensures.length)
    (λ docs are size is. c.payloads_are_read.ensures.found d count docs front are size is)
    (λ docs is. c.payloads_are_read.ensures.only d count docs front c.requires.count.some c.requires.count.limit small is)
