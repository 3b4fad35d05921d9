use Rattle.std.proofs.Common.{List, [], ℕ, ap, get_or, sym, ◌∙◌, slice_range, nat_cmp}
use Rattle.std.specs.Cmp.Lexicographic.{slice_cmp}
use Rattle.ciff_read.specs.Private.KeptEntries.{terms_in}
use Rattle.ciff_read.proofs.RisingEntries.{term_of_list}
use Rattle.ciff_read.proofs.rising_lists.RisingLists.order.Goals as goal

pub returns : goal.returns
returns c =
    let f = c.self.inside in
    let list = c.index-list.result.now in
    c.cmp.ensures
    ∙ ap (λ (bytes : List ℕ). slice_cmp nat_cmp (slice_range bytes list.from list.to) c.as_bytes.result.now) c.deref.ensures.value
    ∙ ap (λ (term : List ℕ). slice_cmp nat_cmp term c.as_bytes.result.now) (sym (term_of_list _ _ _ c.self.view_is _ _ c.requires c.index-list.ensures))
    ∙ ap (slice_cmp nat_cmp (get_or (terms_in c.args.self.now) c.args.index [])) c.as_bytes.ensures.value
