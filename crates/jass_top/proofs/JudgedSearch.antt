-- What the inputs of a search are judged to be, from what opening them gave.
use Rattle.shared_lemmas.proofs.Common.{◌≡◌, ◌≤◌, ℕ, List, [], ◌∷◌, Option, refl, sym, ap, subst, inr}
use Rattle.jass_top.proofs.Below.{texts_of, FileView, Files, Mode, QueryData}
use Rattle.jass_top.specs.declared.stop.Stop.{Stop}
use Rattle.jass_top.specs.IndexJudging.{judge_index}
use Rattle.jass_top.specs.Judging.{Accepted, Judged, Shows, Untold, behind, judge_content}
use Rattle.jass_words.specs.declared.until.Until.{Until}
use Rattle.jass_top.specs.QueryJudging.{LineQuery, judge_queries_until, without_lines}
use Rattle.jass_top.specs.SearchMeaning.{SearchInputs, judge_search_until}
use Rattle.jass_top.specs.Private.Causes.{Unread}
use Rattle.jass_top.specs.Private.Inputs.{HasInput}
use Rattle.jass_top.proofs.Behind.{behind_both, shown_then, unread_first, unread_then}
use Rattle.jass_top.proofs.JudgedQueries.{untold_too}

module _ (until : Until) (index name : List ℕ) (mode : Mode) (told : Option Files) (file : FileView) where
  abbrev asked_over : FileView → Judged (List LineQuery)
  asked_over f = behind (judge_content name told) (judge_queries_until until name mode (texts_of f.index.terms))

  abbrev with_index : FileView → List LineQuery → Judged SearchInputs
  with_index f asked = Accepted (record { index = f.index; queries = asked })

  abbrev over_index : FileView → Judged SearchInputs
  over_index f = behind (asked_over f) (with_index f)

  -- the content and its queries in one step
  in_one : judge_search_until until index name mode told ≡ behind (judge_index index told) over_index
  in_one = λ i. behind (judge_index index told) (λ f. sym (behind_both (judge_content name told) (judge_queries_until until name mode (texts_of f.index.terms)) (with_index f)) i)

  pub search_had : (queries : List QueryData) → Shows (judge_index index told) (Accepted file) → HasInput (asked_over file) (λ lined. without_lines lined ≡ queries)
      → HasInput (judge_search_until until index name mode told) (λ inputs. (inputs.index ≡ file.index) × (without_lines inputs.queries ≡ queries))
  search_had queries shows had =
      let inputs : SearchInputs = record { index = file.index; queries = had.input } in
      record {
        input = inputs;
        accepted = subst (λ (j : Judged SearchInputs). Shows j (Accepted inputs)) (sym in_one)
            (shown_then (judge_index index told) file over_index (Accepted inputs) shows (shown_then (asked_over file) had.input (with_index file) (Accepted inputs) had.accepted (inr refl)));
        holds = (refl, had.holds);
      }

  untold : judge_index index told ≡ Untold → over_index file ≡ Untold
  untold is = ap (λ (j : Judged (List ℕ)). behind (behind j (judge_queries_until until name mode (texts_of file.index.terms))) (with_index file)) (untold_too index name told is)

  pub search_unread : (before mid after : ℕ) (stop : Stop) → Shows (judge_index index told) (Accepted file) → before ≤ mid → Unread (name ∷ []) (asked_over file) mid after stop
      → Unread (index ∷ name ∷ []) (judge_search_until until index name mode told) before after stop
  search_unread before mid after stop shows later why =
      subst (λ (j : Judged SearchInputs). Unread (index ∷ name ∷ []) j before after stop) (sym in_one)
      (unread_then index (name ∷ []) (judge_index index told) file over_index before mid after stop shows untold later (unread_first name [] (asked_over file) (with_index file) mid after stop why))
