use Rattle.std.proofs.Common.{List, length, refl, sym, subst, All, ◌≤◌, ◌^◌}
use Rattle.ciff_write.proofs.Below.{gather_cut, gather_then, gather_same, PostingsList}
use Rattle.ciff_write.proofs.Fields.{file_spelled}
use Rattle.ciff_write.proofs.Postings.{few_postings}
use Rattle.ciff_write.proofs.collection.put_collection.Goals as goal

pub returns-in_err-put_header : goal.returns-in_err-put_header
returns-in_err-put_header g c =
    gather_same (file_spelled c.args.collection.now _ _ _ _ c.as_slice-lists.ensures c.as_slice-docs.ensures refl refl) (gather_cut _ _ c.from_residual.ensures.0 c.in_err-put_header.ensures)

pub put_lists-requires : goal.put_lists-requires
put_lists-requires g c =
    subst (λ (lists : List PostingsList). All (λ (l : PostingsList). length l.postings ≤ 2 ^ 26) lists) (sym c.as_slice-lists.ensures) (few_postings (length c.args.collection.now.docs) c.args.collection.now.lists c.args.collection.now.few_docs c.args.collection.now.docs_below)

pub returns-in_err-put_lists : goal.returns-in_err-put_lists
returns-in_err-put_lists g c =
    gather_same (file_spelled c.args.collection.now _ _ _ _ c.as_slice-lists.ensures c.as_slice-docs.ensures refl refl) (gather_then _ _ c.in_ok-put_header.ensures (gather_cut _ _ c.from_residual-in_err-put_lists.ensures.0 c.in_err-put_lists.ensures))

pub returns : goal.returns
returns g c =
    gather_same (file_spelled c.args.collection.now _ _ _ _ c.as_slice-lists.ensures c.as_slice-docs.ensures refl refl) (gather_then _ _ c.in_ok-put_header.ensures (gather_then _ _ c.in_ok-put_lists.ensures c.put_docs.ensures))
