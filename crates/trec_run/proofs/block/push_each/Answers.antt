use Rattle.shared_lemmas.proofs.Common.{rules, ℕ, List, Bor, [], ◌+◌, ◌≤◌, ◌++◌, codes, decimal, drop, length, get_or, ap, sym, subst, ◌∙◌, arith}
use Rattle.jass_base.specs.declared.answer.Hit.{Hit}
use Rattle.ranking_model.specs.Report.{run_lines}
use Rattle.trec_run.specs.Private.Columns.{IsFrame}
use Rattle.trec_run.proofs.Lines.{Ends, ends_same, ends_other, framed, line_done}
use Rattle.trec_run.proofs.Named.{name_there}
use Rattle.trec_run.proofs.block.push_each.Goals as goal
use Rattle.trec_run.proofs.block.push_each.Goals.{then-score-frame, else-score-frame}

pub loop-i-preserved : goal.loop-i-preserved
loop-i-preserved c =
    let hits : List Hit = c.args.hits.now in
    let i : ℕ = c.loop-i.i in
    let rank : ℕ = c.args.first + i in
    let d : Hit = record { doc = 0; score = 0 } in
    let e : Bor (List ℕ) = record { ref_ptr = (0, 0); now = [] } in
    let score : ℕ = (get_or hits i d).score in
    let name : List ℕ = (get_or c.args.names.now i e).now in
    let short_name : length name ≤ 128 = search rules in
    let old = c.loop-i.frame in
    let frame = c.if-score-frame.frame in
    let ends : Ends old frame score = elim c.if-score-frame.branch [
      | then-score-frame w ↦ let s = w.end_with.ensures in ends_other old frame w.end_with.new.self score w.frame-is s.score s.front s.tail s.ending
      | else-score-frame w ↦ ends_same old frame score w.frame-is w.if-score-frame.false
    ] in
    let framed_now = λ (id tag : List ℕ) (is : IsFrame c.args.frame.now id tag). ends.frame id tag (c.loop-i.invariant.frame id tag is) in
    let line = λ (id tag : List ℕ) (is : IsFrame frame id tag). c.push_line.ensures.line ∙ ap (λ (text : List ℕ). c.loop-i.buffer ++ text)
    (framed id name (decimal rank) (decimal score) tag frame.front frame.tail frame.ending is.front is.tail (is.ending ∙ ap (λ n. codes " " ++ (decimal n ++ frame.tail)) ends.scored)) in
    record {
      few = omega (arith, c.loop-i.invariant.few, c.push_line.ensures.few, short_name);
      short = subst (λ (xs : List ℕ). length xs ≤ 53) (sym ends.tail) c.loop-i.invariant.short;
      frame = framed_now;
      left = λ all id tag found is.
          line_done all id tag (c.args.buffer.now ++ run_lines all id tag c.args.first hits) c.loop-i.buffer hits i rank d name c.loop-i-test.true (name_there all hits c.args.names.now i d c.loop-i-test.true c.requires.places e found) (c.loop-i.invariant.left all id tag found is)
          ∙ ap (λ (text : List ℕ). text ++ run_lines all id tag (rank + 1) (drop (i + 1) hits)) (sym (line id tag (framed_now id tag is)))
          ∙ ap (λ n. c.push_line.new.self ++ run_lines all id tag n (drop (i + 1) hits)) (omega arith);
    }
