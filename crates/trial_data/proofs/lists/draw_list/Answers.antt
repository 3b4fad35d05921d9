-- What is kept of the list of a term.
use Rattle.shared_lemmas.proofs.Common.{◌≡◌, ◌<◌, ◌≤◌, ◌∙◌, ℕ, List, length, ap, sym, subst, arith, All, IsStrictlyIncreasing}
use Rattle.jass_base.specs.declared.posting.Posting.{Posting}
use Rattle.jass_base.specs.Postings.{docs_of, HasTfInRange}
use Rattle.trial_data.specs.Trials.{term_postings, tf_sum}
use Rattle.trial_data.proofs.Drawing.{term_drawn, docs_rise, docs_below, tf_fits, few_drawn, tf_sum_small}
use Rattle.trial_data.proofs.Naming.{term_short}
use Rattle.trial_data.proofs.lists.draw_list.Goals as goal

pub tf_sum-requires : goal.tf_sum-requires
tf_sum-requires c =
    let ps = (term_postings c.args.docs c.args.term c.args.draws.now).postings in
    let is = ap tf_sum (c.as_slice-2.ensures ∙ c.in_ok-postings.ensures ∙ c.as_slice.ensures.value ∙ c.in_ok-draw_postings.ensures.postings) in
    let drawn = term_drawn c.args.docs c.args.term c.args.draws.now in
    let few = few_drawn c.args.docs 0 ps drawn (omega arith) in
    omega (arith, tf_sum_small c.args.docs 0 ps drawn, c.requires.docs)

pub invariant_of-result : goal.invariant_of-result
invariant_of-result c =
    let ps = (term_postings c.args.docs c.args.term c.args.draws.now).postings in
    let row : c.in_ok-postings.postings ≡ ps = c.in_ok-postings.ensures ∙ c.as_slice.ensures.value ∙ c.in_ok-draw_postings.ensures.postings in
    let drawn = term_drawn c.args.docs c.args.term c.args.draws.now in
    let few = few_drawn c.args.docs 0 ps drawn (omega arith) in
    let small = tf_sum_small c.args.docs 0 ps drawn in
    let docs = c.requires.docs in
    let count = ap length row in
    let len = c.len.ensures in
    let sum : c.tf_sum.result ≡ tf_sum ps = c.tf_sum.ensures ∙ ap tf_sum (c.as_slice-2.ensures ∙ row) in
    let Short : List ℕ → Type 0 = λ (text : List ℕ). length text ≤ 65535 in
    let Rises : List Posting → Type 0 = λ (qs : List Posting). IsStrictlyIncreasing (docs_of qs) in
    let Have : List Posting → Type 0 = λ (qs : List Posting). All HasTfInRange qs in
    record {
      term_fits = subst Short (sym (c.in_ok-term.ensures.bytes ∙ c.as_str.ensures.value ∙ c.in_ok-put_name.ensures)) (term_short c.args.term c.requires.term);
      term_is_text = c.in_ok-term.ensures.utf8;
      df_in_range = omega arith;
      cf_in_range = omega arith;
      rising = subst Rises (sym row) (docs_rise c.args.docs 0 ps drawn);
      tf_in_range = subst Have (sym row) (tf_fits c.args.docs 0 ps drawn);
    }

pub returns-clause-below : goal.returns-clause-below
returns-clause-below c =
    let ps = (term_postings c.args.docs c.args.term c.args.draws.now).postings in
    let row : c.in_ok-postings.postings ≡ ps = c.in_ok-postings.ensures ∙ c.as_slice.ensures.value ∙ c.in_ok-draw_postings.ensures.postings in
    let Below : List Posting → Type 0 = λ (qs : List Posting). All (λ doc. doc < c.args.docs) (docs_of qs) in
    subst Below (sym row) (docs_below c.args.docs 0 ps (term_drawn c.args.docs c.args.term c.args.draws.now))
