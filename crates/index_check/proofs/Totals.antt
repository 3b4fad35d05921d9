-- The totals of a file that was checked.
use Rattle.shared_lemmas.proofs.Common.{◌≡◌, ℕ, None, List, length, Ok, ap, sym, ◌∙◌, sum_by}
use Rattle.jass_base.specs.declared.answer.Totals.{Totals}
use Rattle.index_layout.specs.Reading.{IndexRead, NamesRead, TermsRead, head_codecs, read_names, read_payloads, read_terms}
use Rattle.index_layout.specs.Totals.{index_greatest, totals_of}
use Rattle.index_layout.specs.View.{FileView, index_postings, term_postings}
use Rattle.index_file.specs.Sums.{AreSums}
use Rattle.index_file.specs.declared.sums.Sums.{Sums}
use Rattle.index_layout.specs.Heads.{all_heads, head_postings}
use Rattle.index_check.proofs.Counting.{names_count, payloads_count, payloads_greatest, terms_count}

-- the view of what was read
abbrev pub view_read : NamesRead → TermsRead → IndexRead → FileView
view_read x y z = record { index = record { names = x.names; terms = z.terms }; codecs = head_codecs y.terms }

abbrev made : ℕ → ℕ → ℕ → ℕ → Totals
made docs terms postings greatest = record { docs = docs; terms = terms; postings = postings; greatest = greatest }

pub totals_are : (content : List ℕ) (docs terms from behind : ℕ) (x : NamesRead) (y : TermsRead) (z : IndexRead) (sums : Sums) → read_names content docs 40 ≡ Ok x → read_terms content docs terms None from ≡ Ok y
    → read_payloads content docs y.terms behind ≡ Ok z → sum_by term_postings z.terms ≡ head_postings y.terms → AreSums sums (all_heads y.terms)
    → (let t : Totals = record { docs = docs; terms = terms; postings = sums.postings; greatest = sums.greatest } in t) ≡ totals_of (view_read x y z).index
totals_are content docs terms from behind x y z sums names read payloads postings are =
    let n_docs : docs ≡ length x.names = sym (names_count content docs 40 x names) in
    let n_terms : terms ≡ length z.terms = sym (payloads_count content docs y.terms behind z payloads ∙ terms_count content docs terms None from y read) in
    let n_postings : sums.postings ≡ index_postings (view_read x y z).index = are.postings ∙ sym postings in
    let most : sums.greatest ≡ index_greatest (view_read x y z).index = are.greatest ∙ sym (payloads_greatest content docs y.terms behind z payloads) in
    ap (λ n. made n terms sums.postings sums.greatest) n_docs
    ∙ ap (λ n. made (length x.names) n sums.postings sums.greatest) n_terms
    ∙ ap (λ n. made (length x.names) (length z.terms) n sums.greatest) n_postings
    ∙ ap (λ n. made (length x.names) (length z.terms) (index_postings (view_read x y z).index) n) most
