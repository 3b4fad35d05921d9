use Rattle.std.proofs.Common.{◌≡◌, ◌≤◌, ℕ, List, length, take, sym, subst, ap, ◌∙◌, length-take-le}
use Rattle.std.specs.Prelude.{IfSome}
use Rattle.whole_files.specs.Windows.{AreFrom}
use Rattle.jass_base.specs.declared.limits.TheConstants.{MOST_DOCUMENTS}
use Rattle.index_file.specs.Private.Gathered.{AreTerms, FixesTerms}
use Rattle.index_file.specs.Private.Outlines.{FixesNames}
use Rattle.index_file.proofs.ContentReads.{content_same, first_from}
use Rattle.index_file.proofs.FileParts.{outline_joins}
use Rattle.index_file.proofs.opening.open_leading.Goals as goal

pub returns-clause-leading : goal.returns-clause-leading
returns-clause-leading g c =
    let name = c.args.name.now in
    let size = c.args.front.size in
    let names = c.in_ok-names.names in
    let end = c.in-Some.names_end in
    let first = c.hold_names.new.part in
    let then = g.C.Cabinet.told c.hold_names.new.files in
    let places = c.in-Some-2.places in
    let count = c.in-Some-2.count in
    let table = c.in-Some-held.terms in
    let sums = c.in-Some-held.sums in
    let place = c.in-Some-held.place in
    let start = c.start_over_at.new.part.start in
    let held : end ≤ length first.bytes.items = subst (λ o. IfSome o (λ end. end ≤ length first.bytes.items)) c.in-Some.is c.in_ok-names_end.ensures.held in
    let within : place ≤ size = subst (λ o. IfSome o (λ x. x.2 ≤ size)) c.in-Some-held.is c.in_ok-held.ensures.within in
    let names_are : names ≡ take end first.bytes.items = c.in_ok-names.ensures.same ∙ ap (take end) c.as_slice.ensures.value in
    let names_size : length names ≡ end = ap length names_are ∙ length-take-le end first.bytes.items held in
    let fixed : FixesNames names size count places = subst (λ (front : List ℕ). FixesNames front size count places) c.as_slice-2.ensures
    (subst (λ o. IfSome o (λ x. FixesNames c.as_slice-2.result.now size x.1 x.0)) c.in-Some-2.is c.in_ok-places.ensures.names) in
    let read : (terms : List ℕ) × AreTerms then name start place terms × FixesTerms terms c.len-docs.result count table sums =
    subst (λ o. IfSome o (λ x. (terms : List ℕ) × AreTerms then name start x.2 terms × FixesTerms terms c.len-docs.result count x.0 x.1)) c.in-Some-held.is c.in_ok-held.ensures.terms in
    let terms = read.0 in
    let begins : start ≡ length names = c.start_over_at.ensures.start ∙ sym names_size in
    let stand : AreTerms then name (length names) place terms = subst (λ n. AreTerms then name n place terms) begins read.1 in
    let fixed_terms : FixesTerms terms (length places) count table sums = subst (λ d. FixesTerms terms d count table sums) c.len-docs.ensures read.2 in (
      terms,
      record {
        outline = outline_joins names terms size count places table sums fixed fixed_terms;
        place = stand.place;
        within = within;
        small = stand.small;
        few = subst (λ o. IfSome o (λ x. length x.0 ≤ MOST_DOCUMENTS)) c.in-Some-2.is c.in_ok-places.ensures.few;
        content = λ content told.
            let later = content_same _ _ name content (sym c.in_ok-names_end.ensures.reads.stays) told in
            let front : AreFrom content 0 first.bytes.items = subst (λ n. AreFrom content n first.bytes.items) c.in_ok-names_end.ensures.start (c.in_ok-names_end.ensures.shown content told (c.requires.shown content)) in
            (subst (AreFrom content 0) (sym names_are) (first_from content first.bytes.items 0 end front held), stand.content content later);
      },
    )
