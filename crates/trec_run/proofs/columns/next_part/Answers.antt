use Rattle.shared_lemmas.proofs.Common.{◌≡◌, ◌+◌, ◌-◌, ◌<◌, ◌∙◌, List, ℕ, true, false, sym, ap, subst, take, drop, get_or, length, arith, IsCharBoundary-after_ascii}
use Rattle.trec_run.specs.Runs.{is_blank, columns_of}
use Rattle.trec_run.specs.Private.Parts.{and_column}
use Rattle.trec_run.proofs.Parts.{parted, unparted, blank_small}
use Rattle.trec_run.proofs.columns.next_part.Goals as goal

pub range_from-requires : goal.range_from-requires
range_from-requires c = λ _.
    let same = c.as_bytes.ensures.value in
    let blank : is_blank (get_or c.args.text.now c.first_blank-end.result 0) ≡ true =
    ap (λ (l : List ℕ). is_blank (get_or l c.first_blank-end.result 0)) (sym same) ∙ c.first_blank-end.ensures.blank (subst (λ (l : List ℕ). c.first_blank-end.result < length l) (sym same) c.if-end-text.true) in
    IsCharBoundary-after_ascii c.args.text.now c.first_blank-end.result c.utf8.text c.if-end-text.true (blank_small (get_or c.args.text.now c.first_blank-end.result 0) blank)

pub returns-then-end-text-clause-columns : goal.returns-then-end-text-clause-columns
returns-then-end-text-clause-columns c =
    let same = c.as_bytes.ensures.value in
    let blank : is_blank (get_or c.args.text.now c.first_blank-end.result 0) ≡ true =
    ap (λ (l : List ℕ). is_blank (get_or l c.first_blank-end.result 0)) (sym same) ∙ c.first_blank-end.ensures.blank (subst (λ (l : List ℕ). c.first_blank-end.result < length l) (sym same) c.if-end-text.true) in
    let none : (i : ℕ) → i < c.first_blank-end.result → is_blank (get_or c.args.text.now i 0) ≡ false = λ i h. ap (λ (l : List ℕ). is_blank (get_or l i 0)) (sym same) ∙ c.first_blank-end.ensures.none i h in
    let front : take c.first_blank-end.result c.args.text.now ≡ c.range.result.now = sym (c.range.ensures.value ∙ ap (λ n. take n c.args.text.now) (let e : c.first_blank-end.result - 0 ≡ c.first_blank-end.result = omega arith in e)) in
    parted c.args.text.now c.first_blank-end.result c.if-end-text.true none blank ∙ ap (λ part. and_column part (columns_of (drop (c.first_blank-end.result + 1) c.args.text.now))) front
    ∙ ap (λ rest. and_column c.range.result.now (columns_of rest)) (sym c.range_from.ensures.value)

pub returns-else-end-text-clause-columns : goal.returns-else-end-text-clause-columns
returns-else-end-text-clause-columns c =
    unparted c.args.text.now (λ i h. ap (λ (l : List ℕ). is_blank (get_or l i 0)) (sym c.as_bytes.ensures.value) ∙ c.first_blank-end.ensures.none i (let past = c.if-end-text.false in omega arith))
