-- What is kept of the list of a term.
use Rattle.shared_lemmas.proofs.Common.{◌≡◌, ◌<◌, ◌≤◌, ℕ, List, length, sym, ap, ◌∙◌, subst, arith, All, IsStrictlyIncreasing}
use Rattle.jass_base.specs.declared.posting.Posting.{Posting}
use Rattle.jass_base.specs.Postings.{docs_of, HasTfInRange}
use Rattle.index_export.specs.Exports.{term_list, impact_sum}
use Rattle.index_export.specs.Private.Gathering.{term_with}
use Rattle.index_export.proofs.OneTerm.{list_rises, list_tf, list_below, list_count, list_sum}
use Rattle.index_export.proofs.Whole.{term_is, term_small}
use Rattle.index_export.proofs.lists.list_of.Goals as goal

pub impact_sum-requires : goal.impact_sum-requires
impact_sum-requires g c =
    let index = c.args.index.now.index in
    let t = term_with index.terms c.args.t in
    let is = ap impact_sum (c.as_slice.ensures.value ∙ c.in_ok-postings.ensures.postings) in
    let sum = list_sum (length index.names) t (term_is index c.args.t c.is_checked.ensures.index c.requires.t) in
    let small = term_small index c.args.t c.requires.t in
    omega (arith, is, sum, small, c.is_checked.ensures.postings)

pub invariant_of-result : goal.invariant_of-result
invariant_of-result g c =
    let index = c.args.index.now.index in
    let d = length index.names in
    let t = term_with index.terms c.args.t in
    let term = term_is index c.args.t c.is_checked.ensures.index c.requires.t in
    let postings : c.from_vec.result ≡ term_list t = c.from_vec.ensures ∙ c.in_ok-postings.ensures.postings in
    let Fits : List ℕ → Type 0 = λ (text : List ℕ). length text ≤ 65535 in
    let Rises : List Posting → Type 0 = λ (ps : List Posting). IsStrictlyIncreasing (docs_of ps) in
    let Have : List Posting → Type 0 = λ (ps : List Posting). All HasTfInRange ps in
    let count = list_count t in
    let small = term_small index c.args.t c.requires.t in
    let few = c.is_checked.ensures.postings in
    let is = ap impact_sum (c.as_slice.ensures.value ∙ c.in_ok-postings.ensures.postings) in
    let sum = list_sum d t term in
    record {
      term_fits = subst Fits (sym (c.in_ok-term.ensures.bytes ∙ c.term.ensures)) term.fits;
      term_is_text = c.in_ok-term.ensures.utf8;
      df_in_range = omega (arith, c.len.ensures, ap length c.in_ok-postings.ensures.postings, count, small, few);
      cf_in_range = omega (arith, c.impact_sum.ensures, is, sum, small, few);
      rising = subst Rises (sym postings) (list_rises d t term);
      tf_in_range = subst Have (sym postings) (list_tf d t term);
    }

pub returns-clause-below : goal.returns-clause-below
returns-clause-below g c =
    let index = c.args.index.now.index in
    let P : List Posting → Type 0 = λ (ps : List Posting). All (λ (doc : ℕ). doc < length index.names) (docs_of ps) in
    subst P (sym (c.from_vec.ensures ∙ c.in_ok-postings.ensures.postings)) (list_below (length index.names) (term_with index.terms c.args.t) (term_is index c.args.t c.is_checked.ensures.index c.requires.t))
