use Rattle.std.proofs.Common.{◌≡◌, ◌<◌, ◌+◌, ◌++◌, All, ℕ, List, length, sym, subst, ◌∙◌, arith}
use Rattle.std.specs.Prelude.{IfSome}
use Rattle.whole_files.specs.Windows.{AreFrom}
use Rattle.index_file.proofs.Below.{file_bytes}
use Rattle.index_file.specs.Private.Outlines.{AreLeadingParts, AreParts}
use Rattle.index_file.proofs.ContentReads.{content_same, nothing_from}
use Rattle.index_file.proofs.Contents.{on_each}
use Rattle.index_file.proofs.FileParts.{content_joins, parts_join, rest_is}
use Rattle.index_file.proofs.opening.open_parts.Goals as goal

pub of_parts-requires : goal.of_parts-requires
of_parts-requires g c =
    let l = c.in-Some.leading in
    let size = c.args.front.size in
    let payloads = c.front_of-payloads.result in
    let read : (terms : List ℕ) × AreLeadingParts (g.C.Cabinet.told c.args.files.now) c.args.name.now size l terms =
    subst (λ o. IfSome o (λ l. (terms : List ℕ) × AreLeadingParts (g.C.Cabinet.told c.args.files.now) c.args.name.now size l terms)) c.in-Some.is c.in_ok-leading.ensures.leading in
    let is = read.1 in
    record {
      parts = (
        l.names ++ (read.0 ++ payloads),
        parts_join l.names read.0 payloads l.outline l.place size is.outline is.place (omega (arith, is.within, c.front_of-payloads.ensures.size))
            (subst (All (λ byte. byte < 256)) c.as_slice.ensures c.are_bytes.ensures) is.small (subst (All (λ byte. byte < 256)) c.as_slice-2.ensures c.are_bytes-2.ensures) is.few c.requires.size,
      );
    }

pub returns-in-Ok-clause-spelled : goal.returns-in-Ok-clause-spelled
returns-in-Ok-clause-spelled g c =
    let name = c.args.name.now in
    let l = c.in-Some.leading in
    let size = c.args.front.size in
    let part = c.hold.new.part in
    let payloads = c.front_of-payloads.result in
    let read : (terms : List ℕ) × AreLeadingParts (g.C.Cabinet.told c.args.files.now) name size l terms =
    subst (λ o. IfSome o (λ l. (terms : List ℕ) × AreLeadingParts (g.C.Cabinet.told c.args.files.now) name size l terms)) c.in-Some.is c.in_ok-leading.ensures.leading in
    let terms = read.0 in
    let is = read.1 in
    let whole : l.place + length payloads ≡ size = omega (arith, is.within, c.front_of-payloads.ensures.size) in
    let parts : AreParts (l.names ++ (terms ++ payloads)) l.outline l.names payloads l.place =
    parts_join l.names terms payloads l.outline l.place size is.outline is.place whole
    (subst (All (λ byte. byte < 256)) c.as_slice.ensures c.are_bytes.ensures) is.small (subst (All (λ byte. byte < 256)) c.as_slice-2.ensures c.are_bytes-2.ensures) is.few c.requires.size in
    on_each (g.C.Cabinet.told c.args.files.now) name (λ content. size ≡ length content) (λ content. content ≡ file_bytes c.in-Ok.file) (λ content told long.
    let then = content_same _ _ name content (sym c.in_ok-leading.ensures.reads.stays) told in
    let nothing = nothing_from content c.start_over_at.new.part.bytes.items c.start_over_at.new.part.start c.start_over_at.ensures.bytes in
    let start : part.start ≡ l.place = c.in_ok-hold.ensures.start ∙ c.start_over_at.ensures.start in
    let rest : AreFrom content l.place payloads = subst (λ n. AreFrom content n payloads) start (c.front_of-payloads.ensures.shown content (c.in_ok-hold.ensures.shown content then nothing)) in
    let at = is.content content told in
    content_joins content l.names terms payloads l.place at.0 at.1 is.place (rest_is content payloads l.place rest (whole ∙ long))
    ∙ (c.in-Ok.ensures.accepted (l.names ++ (terms ++ payloads)) parts).0)
    c.requires.told
