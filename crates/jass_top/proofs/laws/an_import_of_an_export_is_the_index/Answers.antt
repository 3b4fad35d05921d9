use Rattle.shared_lemmas.proofs.Common.{◌≡◌, ℕ, ◌≤◌, ◌^◌, List, length, Some, ap, subst, ◌∙◌, arith}
use Rattle.jass_top.proofs.Below.{canonical_ciff, export_of}
use Rattle.jass_top.specs.Judging.{Accepted, judge_ciff}
use Rattle.jass_top.specs.Meanings.{Output}
use Rattle.jass_top.proofs.Exported.{export_keeps_limits, import_is}
use Rattle.jass_top.proofs.Shortest.{text_is_short}
use Rattle.jass_top.proofs.laws.an_import_of_an_export_is_the_index.Goals as goal

pub returns-clause-index : goal.returns-clause-index
returns-clause-index c = c.an_export_keeps_the_index.ensures

pub returns-clause-collection : goal.returns-clause-collection
returns-clause-collection c = λ ciff files view is short there.
    c.files_are_judged.ensures.only ciff files (canonical_ciff (export_of view.index)) (export_of view.index) there
    (c.canonical_files_stand.ensures.stands (export_of view.index) (export_keeps_limits view.index is.index is.postings short))

pub returns-clause-accepted : goal.returns-clause-accepted
returns-clause-accepted c = λ index ciff again files view input exported is output short there.
    let text : exported.content ≡ canonical_ciff (export_of view.index) = ap (λ (o : Output). o.content) output in
    let few : length (canonical_ciff (export_of view.index)) ≤ 2 ^ 32 = subst (λ (content : List ℕ). length content ≤ 2 ^ 32) text short in
    let judged : judge_ciff ciff (Some files) ≡ Accepted (export_of view.index)
    = c.files_are_judged.ensures.only ciff files (canonical_ciff (export_of view.index)) (export_of view.index) (there ∙ ap Some text)
    (c.canonical_files_stand.ensures.stands (export_of view.index) (export_keeps_limits view.index is.index is.postings few)) in
    let shorter = text_is_short c.the_choice_is_the_first_of_the_shortest.ensures.shortest c.lengths_are_known.ensures view is.codecs in
    import_is ciff again files view.index judged (c.an_export_keeps_the_index.ensures view.index is.index) (omega (arith, shorter, is.fits))

pub returns-clause-text : goal.returns-clause-text
returns-clause-text c = λ ciff again view input imported is. ap (λ (o : Output). o.content) is
