use Rattle.std.proofs.Common.{◌≡◌, List, ℕ, Option, Ok, Err, rules, sym, subst}
use Rattle.jass_base.specs.Outside.{Files, ForContent}
use Rattle.ciff_read.specs.KeptLists.{kept_in}
use Rattle.ciff_read.specs.Pieces.{header_of_file}
use Rattle.ciff_read.specs.Private.Reached.{file_header}
use Rattle.whole_files.specs.Windows.{AreFrom}
use Rattle.whole_files.specs.Windows.{Shows}
use Rattle.ciff_read.specs.Reaching.{FailsReading}
use Rattle.ciff_read.proofs.HeldFiles.{outside_fails}
use Rattle.ciff_read.proofs.Opening.{opened}
use Rattle.whole_files.proofs.Told.{for_all, for_both, for_one, for_pair}
use Rattle.whole_files.proofs.Windows.{none_from}
use Rattle.ciff_read.proofs.ciff_walk.CiffWalk.open.Goals as goal

pub returns-clause-opens : goal.returns-clause-opens
returns-clause-opens g c =
    let told : Option Files = g.C.Cabinet.told c.args.files.now in
    let first : (content : List ℕ) → Shows content c.new-window.result = λ content. subst (λ (bytes : List ℕ). AreFrom content c.new-window.result.start bytes) (sym c.new-window.ensures.bytes) (none_from content c.new-window.result.start) in
    let here : ForContent told c.args.name.now (λ content. Shows content c.reach.new.window)
    = for_one _ _ _ _ (λ content keeps. keeps (first content)) c.in_ok-reach.ensures.shown in
    let shown : ForContent told c.args.name.now (λ content. Shows content c.reach.new.window → Shows content c.reach_header.new.window)
    = subst (λ (files : Option Files). ForContent files c.args.name.now (λ content. Shows content c.reach.new.window → Shows content c.reach_header.new.window)) c.in_ok-reach.ensures.reads.stays c.in_ok-head.ensures.shown in
    let exact : ForContent told c.args.name.now (λ content. Shows content c.reach.new.window → header_of_file content ≡ Ok (file_header (c.in_ok-head.head, c.in_ok-head.at)))
    = subst (λ (files : Option Files). ForContent files c.args.name.now (λ content. Shows content c.reach.new.window → header_of_file content ≡ Ok (file_header (c.in_ok-head.head, c.in_ok-head.at)))) c.in_ok-reach.ensures.reads.stays c.in_ok-head.ensures.exact in
    for_both _ _ _ _ _ (λ content now both. λ none.
    opened content c.in-Ok.name c.in_ok-head.head c.in_ok-head.at (kept_in c.new.result) c.new-2.result.words.items c.reach_header.new.window c.new.ensures c.new-2.ensures (both.1 now) (both.0 now))
    here
    (for_pair told c.args.name.now (λ content. Shows content c.reach.new.window → Shows content c.reach_header.new.window) (λ content. Shows content c.reach.new.window → header_of_file content ≡ Ok (file_header (c.in_ok-head.head, c.in_ok-head.at))) shown exact)

pub returns-in_err-reach-clause-opens : goal.returns-in_err-reach-clause-opens
returns-in_err-reach-clause-opens g c =
    let fault = c.in_err-reach.field-0.0 in
    let out : c.from_residual.result ≡ Err fault = search rules in
    rw out (for_all _ _ _ (λ content. outside_fails fault (header_of_file content) c.in_err-reach.ensures.at))

pub returns-in_err-head-clause-opens : goal.returns-in_err-head-clause-opens
returns-in_err-head-clause-opens g c =
    let told : Option Files = g.C.Cabinet.told c.args.files.now in
    let first : (content : List ℕ) → Shows content c.new-window.result = λ content. subst (λ (bytes : List ℕ). AreFrom content c.new-window.result.start bytes) (sym c.new-window.ensures.bytes) (none_from content c.new-window.result.start) in
    let here : ForContent told c.args.name.now (λ content. Shows content c.reach.new.window)
    = for_one _ _ _ _ (λ content keeps. keeps (first content)) c.in_ok-reach.ensures.shown in
    let fault = c.in_err-head.field-0.0 in
    let exact : ForContent told c.args.name.now (λ content. Shows content c.reach.new.window → FailsReading fault (header_of_file content))
    = subst (λ (files : Option Files). ForContent files c.args.name.now (λ content. Shows content c.reach.new.window → FailsReading fault (header_of_file content))) c.in_ok-reach.ensures.reads.stays c.in_err-head.ensures.exact in
    let out : c.from_residual-in_err-head.result ≡ Err fault = search rules in
    rw out (for_both _ _ _ _ _ (λ content now fails. fails now) here exact)
