use Rattle.std.proofs.Common.{◌≡◌, List, ℕ, Option, Ok, Err, rules, subst}
use Rattle.ciff_read.proofs.Below.{Files, ForContent}
use Rattle.ciff_read.specs.Pieces.{doc_of_file}
use Rattle.ciff_read.specs.Private.Reached.{MarksOf, doc_in_file}
use Rattle.ciff_read.specs.Reaching.{FailsReading}
use Rattle.ciff_read.specs.Walk.{WalkView}
use Rattle.whole_files.specs.Windows.{AreFrom, Shows}
use Rattle.whole_files.proofs.Told.{for_all}
use Rattle.ciff_read.proofs.ciff_walk.CiffWalk.next_doc.Goals as goal

pub returns-clause-exact : goal.returns-clause-exact
returns-clause-exact g c =
    let told : Option Files = g.C.Cabinet.told c.args.files.now in
    let old = c.self.inside in
    let x = doc_in_file (c.in_ok-number.number, c.in_ok-number.item, c.in_ok-number.end) in
    let named = subst (λ (name : List ℕ). ForContent told name (λ content. Shows content old.window → (ns : List ℕ) → MarksOf old.numbers.words.items ns → doc_of_file content old.docs ns old.at ≡ Ok x)) c.as_str.ensures.bytes c.in_ok-number.ensures.exact in
    subst (λ (w : WalkView). ForContent told w.name (λ content. AreFrom content w.start w.bytes → (ns : List ℕ) → MarksOf w.marks ns → doc_of_file content w.docs ns w.at ≡ Ok x)) c.self.view_is named

pub returns-in_err-number-clause-exact : goal.returns-in_err-number-clause-exact
returns-in_err-number-clause-exact g c =
    let told : Option Files = g.C.Cabinet.told c.args.files.now in
    let old = c.self.inside in
    let fault = c.in_err-number.field-0.0 in
    let out : c.from_residual.result ≡ Err fault = search rules in
    let named = subst (λ (name : List ℕ). ForContent told name (λ content. Shows content old.window → (ns : List ℕ) → MarksOf old.numbers.words.items ns → FailsReading fault (doc_of_file content old.docs ns old.at))) c.as_str.ensures.bytes c.in_err-number.ensures.exact in
    rw out (subst (λ (w : WalkView). ForContent told w.name (λ content. AreFrom content w.start w.bytes → (ns : List ℕ) → MarksOf w.marks ns → FailsReading fault (doc_of_file content w.docs ns w.at))) c.self.view_is named)

pub returns-in-Err-clause-exact : goal.returns-in-Err-clause-exact
returns-in-Err-clause-exact g c =
    for_all _ _ _ (λ content shows numbers marks. tt)
