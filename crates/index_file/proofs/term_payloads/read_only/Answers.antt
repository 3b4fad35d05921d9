use Rattle.shared_lemmas.proofs.Common.{◌≡◌, ◌+◌, [], ◌∷◌, Ok, Result, sym, subst, arith}
use Rattle.index_file.proofs.Below.{OpenRefusal, SegmentsRead, payload_end, read_segments}
use Rattle.index_file.specs.Private.Payloads.{segments_from}
use Rattle.index_file.specs.Private.Tables.{head_at}
use Rattle.index_file.proofs.HeadLists.{part_one}
use Rattle.index_file.proofs.SegmentLists.{no_segments, segments_on}
use Rattle.index_file.proofs.term_payloads.read_only.Goals as goal

pub returns-in-Ok-clause-exact : goal.returns-in-Ok-clause-exact
returns-in-Ok-clause-exact c =
    let bytes = c.args.bytes.now in
    let d = c.args.docs in
    let at = c.args.from in
    let h = head_at c.args.heads.now c.args.first in
    let next = at + c.at-head.result.size in
    let one = part_one c.args.heads.now c.args.first (let there = c.requires.there in omega (arith, there)) in
    let end = subst (λ h. payload_end bytes d [] h at ≡ Ok next) c.at-head.ensures c.in_ok-check_payload.ensures.exact in
    subst (λ its. read_segments bytes d [] its at ≡ (let r : Result SegmentsRead OpenRefusal = Ok (record { segments = segments_from bytes d its at; end = next }) in r)) (sym one)
    (segments_on bytes d (read_segments bytes d [] (h ∷ []) at) [] h at [] next (no_segments (read_segments bytes d [] (h ∷ []) at)) end)
