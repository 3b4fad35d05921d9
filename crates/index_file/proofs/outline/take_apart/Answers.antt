use Rattle.std.proofs.Common.{subst, ap, ◌∙◌, ◌≤◌, ◌<◌, List, ℕ, All, take, length}
use Rattle.jass_base.specs.declared.limits.TheConstants.{LONGEST_FILE}
use Rattle.index_file.specs.Private.Outlines.{IsOutline}
use Rattle.index_file.proofs.FileParts.{parts_of}
use Rattle.index_file.proofs.outline.take_apart.Goals as goal

pub rest_of-requires : goal.rest_of-requires
rest_of-requires c = subst (λ (bytes : List ℕ). c.in_ok-outline.terms_end ≤ length bytes) c.as_slice-2.ensures c.in_ok-outline.ensures.outline.within

pub returns-clause-parts : goal.returns-clause-parts
returns-clause-parts c =
    let o = c.in_ok-outline.outline in
    let end = c.in_ok-outline.names_end in
    let place = c.in_ok-outline.terms_end in
    parts_of c.args.bytes c.in_ok-front.front c.rest_of.result o end place
    (subst (λ (bytes : List ℕ). IsOutline bytes o end place) c.as_slice-2.ensures c.in_ok-outline.ensures.outline)
    (c.in_ok-front.ensures.same ∙ ap (take end) c.as_slice-3.ensures) c.rest_of.ensures
    (subst (λ (bytes : List ℕ). length bytes ≤ LONGEST_FILE) c.as_slice-2.ensures c.in_ok-outline.ensures.fits) c.in_ok-outline.ensures.few
    (subst (All (λ byte. byte < 256)) c.as_slice.ensures c.are_bytes.ensures)
