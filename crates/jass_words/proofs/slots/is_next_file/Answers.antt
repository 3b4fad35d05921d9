use Rattle.shared_lemmas.proofs.Common.{◌≢◌, ℕ, List, ◌+◌, ◌-◌, ◌<◌, sym, subst, arith, nat_tests, length, take, drop, AllByRecursion}
use Rattle.jass_words.specs.Slots.{IsFile}
use Rattle.jass_words.specs.Words.{texts}
use Rattle.jass_words.proofs.Parts.{next_file, no_next_file}
use Rattle.jass_words.proofs.slots.is_next_file.Goals as goal

pub returns-then-is_file-clause-next : goal.returns-then-is_file-clause-next
returns-then-is_file-clause-next c = λ new. (
    let there : c.args.place + c.args.n < length c.args.words.now = grind (arith, nat_tests, c.in-Some.ensures.lookup.0) in
    next_file c.args.words.now c.args.place c.args.n c.in-Some.word.now there c.in-Some.ensures.lookup.1 (subst IsFile c.as_str.ensures.value (c.is_file.ensures.0 c.if-is_file.true))
    (subst (λ (w : List ℕ). AllByRecursion (λ other. other ≢ w) (texts (take (c.args.place + c.args.n - c.args.place) (drop c.args.place c.args.words.now)))) c.as_str-then-is_file.ensures.value (c.is_new.ensures.0 new)))

pub returns-then-is_file-clause-none : goal.returns-then-is_file-clause-none
returns-then-is_file-clause-none c = λ not. (
    let there : c.args.place + c.args.n < length c.args.words.now = grind (arith, nat_tests, c.in-Some.ensures.lookup.0) in
    no_next_file c.args.words.now c.args.place c.args.n c.in-Some.word.now there c.in-Some.ensures.lookup.1 (λ file apart. (
    let is = c.is_new.ensures.1 (subst (λ (w : List ℕ). AllByRecursion (λ other. other ≢ w) (texts (take (c.args.place + c.args.n - c.args.place) (drop c.args.place c.args.words.now)))) (sym c.as_str-then-is_file.ensures.value) apart) in
    cc)))

pub returns-else-is_file-clause-none : goal.returns-else-is_file-clause-none
returns-else-is_file-clause-none c = λ not. (
    let there : c.args.place + c.args.n < length c.args.words.now = grind (arith, nat_tests, c.in-Some.ensures.lookup.0) in
    no_next_file c.args.words.now c.args.place c.args.n c.in-Some.word.now there c.in-Some.ensures.lookup.1 (λ file apart. (let is = c.is_file.ensures.1 (subst IsFile (sym c.as_str.ensures.value) file) in cc)))
