-- Where a search until final stops.
use Rattle.shared_lemmas.proofs.Common.{◌≡◌, ◌≤◌, ℕ, List, [], ◌∷◌, length, sym, subst, arith, nat_cmp, AllByRecursion}
use Rattle.jass_top.proofs.Below.{Entry, FileView, IndexData, IsFileView, IsFlat, IsWellFormed, QueryData, QueryPlan, QueryTerm, numbered_flat, plan_of}
use Rattle.index_model.proofs.WellFormed.{well_formed}
use Rattle.ranking_model.specs.Postings.{AreTerms}
use Rattle.sharp_bounds.specs.Rule.{stop_at}
use Rattle.sharp_bounds.specs.Sharpness.{IsSharpFinal, IsStop}
use Rattle.jass_words.specs.declared.until.Until.TheVariants as untils
use Rattle.jass_top.specs.SearchMeaning.{plan_over_index}
use Rattle.jass_top.specs.Until.{stop_granted}
use Rattle.jass_top.proofs.Asked.{AreAsked}
use Rattle.jass_top.proofs.Engines.{prefix_grows}
use Rattle.jass_top.proofs.Turns.{Resumes, Sizes}

abbrev Stop : ℕ → ℕ → IndexData → QueryData → Type 0
Stop k granted index query = IsStop granted (plan_over_index index query) k (stop_granted untils.Final k granted (plan_over_index index query))

pub each_stops : ((docs budget k : ℕ) (flat : List (Entry ℕ)) (terms : List QueryTerm) → IsFlat nat_cmp docs flat → AreTerms terms → IsStop budget (plan_of docs flat terms) k (stop_at budget (plan_of docs flat terms) k))
    → ((index : IndexData) → IsWellFormed index → IsFlat nat_cmp (length index.names) (numbered_flat index))
    → (k granted : ℕ) (index : IndexData) (view : FileView) → IsFileView view → index ≡ view.index → (queries : List QueryData) → AllByRecursion (λ (query : QueryData). AreAsked query.terms) queries → AllByRecursion (Stop k granted index) queries
each_stops stops flats k granted index view file is [] asked = tt
each_stops stops flats k granted index view file is (query ∷ queries) asked = (
  subst (λ (i : IndexData). Stop k granted i query) (sym is) (stops (length view.index.names) granted k (numbered_flat view.index) query.terms (flats view.index (well_formed view.index file.index)) asked.0.0),
  each_stops stops flats k granted index view file is queries asked.1,
)

-- a stop whose answer is sharply final is that of every larger grant
pub stop_stays : Resumes → Sizes → ((budget k first second : ℕ) (plan : QueryPlan) → IsStop budget plan k first → IsStop budget plan k second → first ≡ second)
    → (k granted more : ℕ) (plan : QueryPlan) → granted ≤ more → IsStop granted plan k (stop_granted untils.Final k granted plan) → IsStop more plan k (stop_granted untils.Final k more plan) → IsSharpFinal (stop_granted untils.Final k granted plan) plan k
    → stop_granted untils.Final k more plan ≡ stop_granted untils.Final k granted plan
stop_stays resumes sizes one k granted more plan less is later final =
    let here : IsStop more plan k (stop_granted untils.Final k granted plan) = record {
      within = omega (arith, is.within, prefix_grows resumes sizes granted more plan.segments less);
      none_before = is.none_before;
      final = λ before. final;
    } in
    one more k (stop_granted untils.Final k more plan) (stop_granted untils.Final k granted plan) plan later here
