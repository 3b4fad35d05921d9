use Rattle.std.proofs.Common.{◌≡◌, List, ℕ, Option, Ok, Err, rules, ap, subst, sym, arith, ◌+◌, length}
use Rattle.ciff_read.proofs.Below.{Files, ForContent}
use Rattle.ciff_read.specs.KeptEntries.{kept_as}
use Rattle.ciff_read.specs.KeptLists.{kept_in}
use Rattle.ciff_read.specs.Pieces.{KeptList, list_of_file, postings_kept, terms_kept}
use Rattle.ciff_read.specs.Private.Reached.{list_in_file}
use Rattle.whole_files.specs.Windows.{AreFrom, Shows}
use Rattle.ciff_read.specs.Reaching.{FailsReading}
use Rattle.ciff_read.specs.Walk.{WalkView}
use Rattle.ciff_read.specs.Private.Walk.{IsInRange}
use Rattle.ciff_read.proofs.Rising.{one_more_list}
use Rattle.whole_files.proofs.Told.{for_all}
use Rattle.ciff_read.proofs.ciff_walk.CiffWalk.next_list.Goals as goal

pub invariant_of-self-2 : goal.invariant_of-self-2
invariant_of-self-2 g c =
    let old = c.self.inside in
    let kept = kept_in old.kept in
    let k : KeptList = kept_as c.as_str-2.result.now (record { at = old.at; count = c.len-count.result }) in
    subst (λ n. IsInRange old.lists old.docs c.in_ok-list.end old.given (old.postings + n) (kept_in c.add.new.self)) (sym c.from.ensures)
    (one_more_list _ _ _ _ _ _ _ k c.self.invariant c.in-Ok.ensures.ok
    (omega (arith, c.requires, ap (λ (w : WalkView). length w.kept) c.self.view_is, ap (λ (w : WalkView). w.lists) c.self.view_is))
    (omega (arith, c.in_ok-list.ensures.given.list.few, c.len-count.ensures)) c.in_ok-list.ensures.given.behind c.in_ok-list.ensures.given.near)

pub returns-clause-exact : goal.returns-clause-exact
returns-clause-exact g c =
    let told : Option Files = g.C.Cabinet.told c.args.files.now in
    let old = c.self.inside in
    let x = list_in_file (c.in_ok-list.list, c.in_ok-list.end, c.in_ok-list.rises) in
    let named = subst (λ (name : List ℕ). ForContent told name (λ content. Shows content old.window → list_of_file content old.docs old.postings (terms_kept (kept_in old.kept)) old.at ≡ Ok x)) c.as_str.ensures.bytes c.in_ok-list.ensures.exact in
    let counted = subst (λ n. ForContent told old.name (λ content. Shows content old.window → list_of_file content old.docs n (terms_kept (kept_in old.kept)) old.at ≡ Ok x)) c.self.invariant.counted named in
    subst (λ (w : WalkView). ForContent told w.name (λ content. AreFrom content w.start w.bytes → list_of_file content w.docs (postings_kept w.kept) (terms_kept w.kept) w.at ≡ Ok x)) c.self.view_is counted

pub returns-in_err-list-clause-exact : goal.returns-in_err-list-clause-exact
returns-in_err-list-clause-exact g c =
    let told : Option Files = g.C.Cabinet.told c.args.files.now in
    let old = c.self.inside in
    let fault = c.in_err-list.field-0.0 in
    let out : c.from_residual.result ≡ Err fault = search rules in
    let named = subst (λ (name : List ℕ). ForContent told name (λ content. Shows content old.window → FailsReading fault (list_of_file content old.docs old.postings (terms_kept (kept_in old.kept)) old.at))) c.as_str.ensures.bytes c.in_err-list.ensures.exact in
    let counted = subst (λ n. ForContent told old.name (λ content. Shows content old.window → FailsReading fault (list_of_file content old.docs n (terms_kept (kept_in old.kept)) old.at))) c.self.invariant.counted named in
    rw out (subst (λ (w : WalkView). ForContent told w.name (λ content. AreFrom content w.start w.bytes → FailsReading fault (list_of_file content w.docs (postings_kept w.kept) (terms_kept w.kept) w.at))) c.self.view_is counted)

pub returns-in-Err-clause-exact : goal.returns-in-Err-clause-exact
returns-in-Err-clause-exact g c =
    for_all _ _ _ (λ content shows. tt)
