use Rattle.std.proofs.Common.{◌≡◌, ◌+◌, ◌-◌, drop, ap, ◌∙◌, arith}
use Rattle.whole_files.proofs.Windows.{later_from}
use Rattle.index_file.proofs.holding.let_go.Goals as goal

pub returns-clause-shown : goal.returns-clause-shown
returns-clause-shown c = λ content is.
    let bytes = c.args.part.now.bytes.items in
    let start = c.args.part.now.start in
    let cut : c.args.count ≡ start + c.args.count - start = omega arith in
    later_from content bytes c.drop_first.new.bytes.items start (start + c.args.count) is (omega arith) (omega (arith, c.requires.count)) (c.drop_first.ensures ∙ ap (λ n. drop n bytes) cut)
