use Rattle.std.proofs.Common.{◌≡◌, ◌≢◌, List, [], ℕ, Option, Ok, Err, rules, length, sym, subst, arith}
use Rattle.ciff_read.proofs.Below.{list_data, Files, ForContent}
use Rattle.ciff_read.specs.KeptLists.{kept_in}
use Rattle.ciff_read.specs.Pieces.{ListInFile, list_of_file}
use Rattle.ciff_read.specs.Reaching.{FailsReading}
use Rattle.ciff_read.specs.Walk.{WalkView, HasKept}
use Rattle.whole_files.specs.Windows.{AreFrom}
use Rattle.whole_files.specs.Windows.{Shows}
use Rattle.ciff_read.proofs.Again.{told_outside, told_counts, told_again, changes_refused, plain_changes}
use Rattle.ciff_read.proofs.ciff_walk.CiffWalk.find_again.Goals as goal

pub returns-in_err-list-clause-told : goal.returns-in_err-list-clause-told
returns-in_err-list-clause-told g c =
    let told : Option Files = g.C.Cabinet.told c.args.files.now in
    let at : ℕ = c.args.at in
    let fault = c.in_err-list.field-0.0 in
    let window = c.self.inside.window in
    let docs : ℕ = c.self.inside.docs in
    let named = subst (λ (name : List ℕ). ForContent told name (λ content. Shows content window → FailsReading fault (list_of_file content docs 0 [] at))) c.as_str.ensures.bytes c.in_err-list.ensures.exact in
    let out : c.from_residual.result ≡ Err fault = search rules in
    rw out (told_outside told c.args.self.now at c.requires.stands fault c.requires.given
    (subst (λ (w : WalkView). ForContent told w.name (λ content. AreFrom content w.start w.bytes → FailsReading fault (list_of_file content w.docs 0 [] at))) c.self.view_is named))

pub returns-then-kept-found-clause-told : goal.returns-then-kept-found-clause-told
returns-then-kept-found-clause-told g c =
    let told : Option Files = g.C.Cabinet.told c.args.files.now in
    let at : ℕ = c.args.at in
    let window = c.self.inside.window in
    let docs : ℕ = c.self.inside.docs in
    let x : ListInFile = record { list = list_data c.in_ok-list.list; end = c.in_ok-list._end } in
    let named = subst (λ (name : List ℕ). ForContent told name (λ content. Shows content window → list_of_file content docs 0 [] at ≡ Ok x)) c.as_str.ensures.bytes c.in_ok-list.ensures.exact in
    let kept = subst (λ (w : WalkView). HasKept w.kept at c.count_at-count.result.0) c.self.view_is c.count_at-count.ensures.count in
    let other : c.count_at-count.result.0 ≢ length x.list.postings = λ same. omega (arith, same, c.if-kept-found.true, c.from-kept.ensures, c.len-found.ensures) in
    told_counts told c.args.self.now at c.requires.stands c.refused.result c.count_at-count.result.0 x kept other
    (subst (λ (w : WalkView). ForContent told w.name (λ content. AreFrom content w.start w.bytes → list_of_file content w.docs 0 [] at ≡ Ok x)) c.self.view_is named)

pub returns-clause-told : goal.returns-clause-told
returns-clause-told g c =
    let told : Option Files = g.C.Cabinet.told c.args.files.now in
    let at : ℕ = c.args.at in
    let window = c.self.inside.window in
    let docs : ℕ = c.self.inside.docs in
    let x : ListInFile = record { list = list_data c.in_ok-list.list; end = c.in_ok-list._end } in
    let named = subst (λ (name : List ℕ). ForContent told name (λ content. Shows content window → list_of_file content docs 0 [] at ≡ Ok x)) c.as_str.ensures.bytes c.in_ok-list.ensures.exact in
    told_again told c.args.self.now at c.requires.stands c.in_ok-list.list c.in_ok-list._end
    (subst (λ (w : WalkView). ForContent told w.name (λ content. AreFrom content w.start w.bytes → list_of_file content w.docs 0 [] at ≡ Ok x)) c.self.view_is named)

pub returns-then-kept-found-clause-counted : goal.returns-then-kept-found-clause-counted
returns-then-kept-found-clause-counted g c =
    let held = c.in_ok-list.ensures.held in
    changes_refused _ c.args.at c.refused.result _ _ c.refused.ensures (record {
      list = list_data c.in_ok-list.list;
      holds = record { front = held.front; there = record { message = held.message; there = held.there; judged = held.judged } };
      found_is = c.len-found.ensures;
      kept_is = subst (HasKept (kept_in c.self.inside.kept) c.args.at) (sym c.from-kept.ensures) c.count_at-count.ensures.count;
      other = λ same. omega (arith, same, c.if-kept-found.true);
    })

pub returns-in_err-list-clause-counted : goal.returns-in_err-list-clause-counted
returns-in_err-list-clause-counted g c =
    let fault = c.in_err-list.field-0.0 in
    let out : c.from_residual.result ≡ Err fault = search rules in
    rw out (plain_changes _ c.args.at fault c.in_err-list.ensures.given)

pub returns-clause-counted : goal.returns-clause-counted
returns-clause-counted g c =
    let held = c.in_ok-list.ensures.held in
    let same : c.count_at-count.result.0 ≡ length c.in_ok-list.list.postings = omega (arith, c.if-kept-found.false, c.from-kept.ensures, c.len-found.ensures) in
    record {
      count = subst (HasKept (kept_in c.self.inside.kept) c.args.at) same c.count_at-count.ensures.count;
      below = c.in_ok-list.ensures.given.list.below;
      holds = record { front = held.front; there = record { message = held.message; there = held.there; judged = held.judged } };
    }
