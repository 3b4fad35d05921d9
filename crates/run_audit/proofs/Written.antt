-- The text of rows.
use Rattle.shared_lemmas.proofs.Common.{◌≡◌, ℕ, ◌+◌, List, [], ◌∷◌, ◌++◌, length, flat_map, refl, sym, ap, ap₂, ◌∙◌, flat_map-cons, flat_map-append}
use Rattle.std.specs.List.{slice_index_or}
use Rattle.jass_base.specs.declared.answer.Budget.{Budget}
use Rattle.jass_base.specs.declared.answer.Hit.{Hit}
use Rattle.ranking_model.specs.declared.entry.Entry.{Entry}
use Rattle.ranking_model.specs.declared.plan.QueryPlan.{QueryPlan}
use Rattle.ranking_model.specs.Plan.{plan_of}
use Rattle.ranking_model.specs.Report.{run_line, run_lines, tag_of}
use Rattle.ranking_model.specs.Search.{QueryData, first_part, prefixes_granted, query_run, run_parts, search_run}
use Rattle.trec_run.specs.declared.run_line.RunLine.{RunLine}
use Rattle.run_audit.specs.Rows.{answers_at, hit_rows, part_rows, query_rows, rows_text, search_rows}

abbrev row_text : RunLine → List ℕ
row_text row = run_line row.id row.name row.tag row.rank row.score

abbrev row_of : List (List ℕ) → List ℕ → List ℕ → ℕ → Hit → RunLine
row_of names id tag rank hit = record { id = id; name = slice_index_or names hit.doc []; rank = rank; score = hit.score; tag = tag }

lines_written : (names : List (List ℕ)) (id tag : List ℕ) (rank : ℕ) (hits : List Hit) → run_lines names id tag rank hits ≡ rows_text (hit_rows names id tag rank hits)
lines_written names id tag rank [] = refl
lines_written names id tag rank (hit ∷ hits) =
    ap (λ text. row_text (row_of names id tag rank hit) ++ text) (lines_written names id tag (rank + 1) hits)
    ∙ sym (flat_map-cons row_text (row_of names id tag rank hit) (hit_rows names id tag (rank + 1) hits))

parts_written : (names : List (List ℕ)) (id tag : List ℕ) (part : ℕ) (answers : List (List Hit)) → run_parts names id tag part answers ≡ rows_text (part_rows names id tag part answers)
parts_written names id tag part [] = refl
parts_written names id tag part (hits ∷ answers) =
    ap₂ (λ first rest. first ++ rest) (lines_written names id (tag_of tag part) 1 hits) (parts_written names id tag (part + 1) answers)
    ∙ sym (flat_map-append row_text (hit_rows names id (tag_of tag part) 1 hits) (part_rows names id tag (part + 1) answers))

module _ (names : List (List ℕ)) (flat : List (Entry ℕ)) (k : ℕ) (budgets : List Budget) (tag : List ℕ) where
  abbrev plan : QueryData → QueryPlan
  plan query = plan_of (length names) flat query.terms

  abbrev lines : QueryData → List ℕ
  lines query = query_run names (plan query) query.id k (prefixes_granted budgets (plan query)) tag

  abbrev rows : QueryData → List RunLine
  rows query = query_rows names (plan query) query.id k (prefixes_granted budgets (plan query)) tag

  pub search_written : (queries : List QueryData) → search_run names flat queries k budgets tag ≡ rows_text (search_rows names flat queries k budgets tag)
  search_written [] = refl
  search_written (query ∷ queries) =
      let answers = answers_at (plan query) k (prefixes_granted budgets (plan query)) in
      flat_map-cons lines query queries
      ∙ ap₂ (λ first rest. first ++ rest) (parts_written names query.id tag (first_part answers) answers) (search_written queries)
      ∙ sym (flat_map-append row_text (rows query) (flat_map rows queries))
      ∙ ap rows_text (sym (flat_map-cons rows query queries))
