use Rattle.std.proofs.Common.{◌≡◌, ℕ, List, [], ◌∷◌, drop, length, ap, ◌∙◌}
use Rattle.index_file.proofs.Below.{gap_in, payload_of}
use Rattle.index_layout.specs.View.{view_payloads}
use Rattle.index_file.specs.Places.{segment_at}
use Rattle.index_file.proofs.OneVarint.{one_there, gap_is, gap_there}
use Rattle.index_file.proofs.file.IndexFile.first_doc.Goals as goal

pub known_gap-requires : goal.known_gap-requires
known_gap-requires g c =
    let v = c.args.self.now in
    let docs = (segment_at v.index.terms c.args.t c.args.s).docs in
    let d = length v.index.names in
    let place = c.segment-found.result.place in
    let bytes = view_payloads v in
    let spelled = c.segment-found.ensures.payload ∙ ap (λ codec. payload_of codec d docs) c.in-Varbyte.is in
    let one = one_there c.gap_varints_are_read.ensures.found bytes d place c.segment-found.result.head.size docs c.segment-found.ensures.docs c.requires.one spelled in
    let whole : c.as_slice.result.now ≡ bytes = c.as_slice.ensures ∙ c.self.invariant.stands.payloads_are ∙ ap view_payloads c.self.view_is in
    let there = ap (λ (bytes : List ℕ). gap_in (drop place bytes)) whole ∙ one.read in
    gap_there (gap_in (drop place c.as_slice.result.now)) _ there

pub returns-in-Varbyte-clause-doc : goal.returns-in-Varbyte-clause-doc
returns-in-Varbyte-clause-doc g c =
    let v = c.args.self.now in
    let docs = (segment_at v.index.terms c.args.t c.args.s).docs in
    let d = length v.index.names in
    let place = c.segment-found.result.place in
    let bytes = view_payloads v in
    let spelled = c.segment-found.ensures.payload ∙ ap (λ codec. payload_of codec d docs) c.in-Varbyte.is in
    let one = one_there c.gap_varints_are_read.ensures.found bytes d place c.segment-found.result.head.size docs c.segment-found.ensures.docs c.requires.one spelled in
    let whole : c.as_slice.result.now ≡ bytes = c.as_slice.ensures ∙ c.self.invariant.stands.payloads_are ∙ ap view_payloads c.self.view_is in
    let there = ap (λ (bytes : List ℕ). gap_in (drop place bytes)) whole ∙ one.read in
    one.only ∙ ap (λ n. n ∷ []) (gap_is c.as_slice.result.now place one.doc c.known_gap.result.0 _ _ there c.known_gap.ensures.value)
