use Rattle.shared_lemmas.proofs.Common.{◌≡◌, ℕ, suc, ◌+◌, ◌<◌, List, [], ◌∷◌, ◌++◌, length, take, drop, ◌-◌, sym, ap, subst, ◌∙◌, arith, append_assoc}
use Rattle.std.proofs.Common.{length-take, length-drop}
use Rattle.jass_words.specs.Options.{AreOptions}
use Rattle.jass_words.specs.Private.Reading.{AreRead, option_data}
use Rattle.jass_words.specs.Words.{texts}
use Rattle.jass_words.proofs.Faults.{bad_option}
use Rattle.jass_words.proofs.Settings.{few_options, nothing_read, read_more}
use Rattle.jass_words.proofs.Terms.{behind, next_word, size_of_texts}
use Rattle.jass_words.proofs.options.read_options.Goals as goal

pub loop-n-init : goal.loop-n-init
loop-n-init c = nothing_read c.args.allowed.now c.none-read.result c.none-read.ensures

pub overflow_cast-result : goal.overflow_cast-result
overflow_cast-result c =
    let more = drop c.args.place (texts c.args.words.now) in
    omega (arith, few_options c.args.allowed.now (take c.loop-n.n more) c.loop-n.invariant.options c.loop-n.invariant.are, length-take c.loop-n.n more, length-drop c.args.place (texts c.args.words.now), size_of_texts c.args.words.now, c.loop-n-test.true)

pub overflow_add-result-in-None : goal.overflow_add-result-in-None
overflow_add-result-in-None c =
    let more = drop c.args.place (texts c.args.words.now) in
    omega (arith, few_options c.args.allowed.now (take c.loop-n.n more) c.loop-n.invariant.options c.loop-n.invariant.are, length-take c.loop-n.n more, length-drop c.args.place (texts c.args.words.now), size_of_texts c.args.words.now, c.loop-n-test.true)

pub returns-in-None-clause-fault : goal.returns-in-None-clause-fault
returns-in-None-clause-fault c =
    let n = c.loop-n.n in let more = drop c.args.place (texts c.args.words.now) in
    let after : suc n ≡ n + 1 = omega arith in
    let next : take (suc n) more ≡ take n more ++ c.as_str.result.now ∷ [] =
    ap (λ (k : ℕ). take k more) after ∙ next_word c.args.words.now c.args.place n c.word-item.result c.loop-n-test.true c.word-item.is ∙ ap (λ (w : List ℕ). take n more ++ w ∷ []) (sym c.as_str.ensures.value) in
    let within : n < length more = omega (arith, c.loop-n-test.true, ap length (behind c.args.words.now c.args.place), size_of_texts (take (length c.args.words.now - c.args.place) (drop c.args.place c.args.words.now))) in (
      suc n,
      omega arith,
      bad_option c.args.allowed.now more n c.loop-n.read within c.loop-n.invariant
          (λ rest options are. c.next.ensures.none c.in-None.is (take n more) rest options c.loop-n.invariant
          (subst (λ (ws : List (List ℕ)). AreOptions c.args.allowed.now ws options) (ap (λ (ws : List (List ℕ)). ws ++ rest) next ∙ append_assoc (take n more) (c.as_str.result.now ∷ []) rest) are)),
    )

pub loop-n-preserved : goal.loop-n-preserved
loop-n-preserved c =
    let n = c.loop-n.n in let more = drop c.args.place (texts c.args.words.now) in
    let next : take (n + 1) more ≡ take n more ++ c.as_str.result.now ∷ [] =
    next_word c.args.words.now c.args.place n c.word-item.result c.loop-n-test.true c.word-item.is ∙ ap (λ (w : List ℕ). take n more ++ w ∷ []) (sym c.as_str.ensures.value) in
    subst (λ (ws : List (List ℕ)). AreRead c.args.allowed.now ws c.put.new.self) (sym next)
    (read_more c.args.allowed.now (take n more) c.as_str.result.now c.loop-n.read c.put.new.self (option_data c.in-Some.option) c.loop-n.invariant c.in-Some.ensures.some c.in-Some.ensures.allows c.in-Some.ensures.new c.put.ensures)
