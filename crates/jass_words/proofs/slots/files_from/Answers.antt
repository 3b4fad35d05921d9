use Rattle.shared_lemmas.proofs.Common.{◌≡◌, [], ◌+◌, ◌-◌, ℕ, List, sym, subst, arith, take, drop}
use Rattle.jass_words.specs.Words.{texts}
use Rattle.jass_words.specs.Private.Faults.{SaysFiles}
use Rattle.jass_words.proofs.Parts.{file_fault, says_more, texts_between}
use Rattle.jass_words.proofs.slots.files_from.Goals as goal

pub returns-then-not-is_next_file-clause-fault : goal.returns-then-not-is_next_file-clause-fault
returns-then-not-is_next_file-clause-fault c = λ tail.
    file_fault c.loop-n.n c.args.count tail [] c.args.place (texts c.args.words.now) (take c.loop-n.n (drop c.args.place (texts c.args.words.now))) (omega (arith, c.loop-n-test.true)) c.loop-n.invariant.1 (c.is_next_file.ensures.none c.if-not-is_next_file.true)

pub loop-n-preserved : goal.loop-n-preserved
loop-n-preserved c = (
  (let there = c.is_next_file.ensures.there c.if-not-is_next_file.false in omega (arith, there)),
  says_more c.loop-n.n c.args.place (texts c.args.words.now) c.loop-n.invariant.1 (c.is_next_file.ensures.next c.if-not-is_next_file.false),
)

pub returns-clause-says : goal.returns-clause-says
returns-clause-says c =
    let all : c.loop-n.n ≡ c.args.count = omega (arith, c.loop-n-test.false, c.loop-n.auto.n-end) in
    subst (SaysFiles c.args.count [] c.args.place (texts c.args.words.now)) (sym (texts_between c.args.words.now c.args.place c.args.count))
    (subst (λ (n : ℕ). SaysFiles n [] c.args.place (texts c.args.words.now) (take n (drop c.args.place (texts c.args.words.now)))) all c.loop-n.invariant.1)
