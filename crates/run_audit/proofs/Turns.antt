-- What a search leaves of a query, from a budget on, and of queries, from one on.
use Rattle.shared_lemmas.proofs.Common.{◌≡◌, ℕ, ◌+◌, ◌<◌, ◌≤◌, List, [], ◌∷◌, ◌++◌, length, drop, map, flat_map, refl, sym, ap, ◌∙◌, arith, AllZip, drop_all, length-map, flat_map-map, ◌==◌, if◌then◌else◌, get_or, Some, slice_get, get_or_from_slice_get, drop_more}
use Rattle.std.specs.List.{slice_index_or}
use Rattle.jass_base.specs.declared.answer.Budget.{Budget}
use Rattle.jass_base.specs.declared.answer.Hit.{Hit}
use Rattle.jass_base.specs.declared.answer.Report.{Report}
use Rattle.jass_base.specs.declared.query.Query.{Query}
use Rattle.ranking_model.specs.declared.entry.Entry.{Entry}
use Rattle.ranking_model.specs.declared.plan.QueryPlan.{QueryPlan}
use Rattle.ranking_model.specs.Report.{IsReport, report_line, tag_of}
use Rattle.ranking_model.specs.Scores.{bound_after, scores_after, top_k}
use Rattle.ranking_model.specs.Search.{AreReports, IsSearchReports, QueryData, first_part, prefix_granted, prefixes_granted, query_data, report_lines}
use Rattle.trec_run.specs.declared.run_line.RunLine.{RunLine}
use Rattle.run_audit.specs.Audits.{queries_data}
use Rattle.run_audit.specs.Private.Grading.{report_by}
use Rattle.run_audit.specs.Private.Texts.{first_part_of, plan_for, queries_reports, queries_rows, query_reports, query_rows_for, reports_at, rows_at}
use Rattle.run_audit.specs.Rows.{answers_at, hit_rows, part_rows, query_rows, search_rows}
use Rattle.run_audit.proofs.Deciding.{graded_standing}

-- the laws of prefixes, one for each budget
abbrev pub ComeFrom : Type 0
ComeFrom = (budgets : List Budget) (plan : QueryPlan) (j : ℕ) → j < length budgets → drop j (prefixes_granted budgets plan) ≡ prefix_granted (j + 1) budgets plan ∷ drop (j + 1) (prefixes_granted budgets plan)

abbrev pub ForEach : Type 0
ForEach = (budgets : List Budget) (plan : QueryPlan) → length (prefixes_granted budgets plan) ≡ length budgets

-- ---- a hit more

pub hit_turn : (names : List (List ℕ)) (id tag : List ℕ) (rank : ℕ) (hits : List Hit) (i : ℕ) (d : Hit) (name : List ℕ) → i < length hits → slice_get names (get_or hits i d).doc ≡ Some name
    → hit_rows names id tag rank (drop i hits) ≡ (let row : RunLine = record { id = id; name = name; rank = rank; score = (get_or hits i d).score; tag = tag } in row ∷ []) ++ hit_rows names id tag (rank + 1) (drop (i + 1) hits)
hit_turn names id tag rank hits i d name inside is =
    let hit = get_or hits i d in
    let named : slice_index_or names hit.doc [] ≡ name = get_or_from_slice_get names hit.doc name [] is in
    ap (hit_rows names id tag rank) (drop_more hits i d inside)
    ∙ (λ k. record { id = id; name = named k; rank = rank; score = hit.score; tag = tag } ∷ hit_rows names id tag (rank + 1) (drop (i + 1) hits))

pub hits_end : (names : List (List ℕ)) (id tag : List ℕ) (rank : ℕ) (hits : List Hit) (i : ℕ) → length hits ≤ i → hit_rows names id tag rank (drop i hits) ≡ []
hits_end names id tag rank hits i outside = ap (hit_rows names id tag rank) (drop_all i hits outside)

-- ---- a budget more

module _ (from : ComeFrom) (plan : QueryPlan) (k : ℕ) (query : QueryData) (budgets : List Budget) (i : ℕ) (inside : i < length budgets) (count : ℕ) (is : count ≡ prefix_granted (i + 1) budgets plan) where
  opened : drop i (prefixes_granted budgets plan) ≡ count ∷ drop (i + 1) (prefixes_granted budgets plan)
  opened = from budgets plan i inside ∙ ap (λ n. n ∷ drop (i + 1) (prefixes_granted budgets plan)) (sym is)

  pub rows_turn : (names : List (List ℕ)) (tag : List ℕ) (part : ℕ) → rows_at names plan k tag query part (drop i (prefixes_granted budgets plan))
      ≡ hit_rows names query.id (tag_of tag part) 1 (top_k count plan k) ++ rows_at names plan k tag query (part + 1) (drop (i + 1) (prefixes_granted budgets plan))
  unfolding rows_at
  rows_turn names tag part = ap (λ ns. part_rows names query.id tag part (answers_at plan k ns)) opened

  pub reports_turn : reports_at plan k query (drop i (prefixes_granted budgets plan)) ≡ report_line query.id (report_by count plan k) query.unknown ++ reports_at plan k query (drop (i + 1) (prefixes_granted budgets plan))
  unfolding reports_at
  reports_turn = ap (flat_map (λ n. report_line query.id (report_by n plan k) query.unknown)) opened

module _ (many : ForEach) (plan : QueryPlan) (k : ℕ) (query : QueryData) (budgets : List Budget) (i : ℕ) (outside : length budgets ≤ i) where
  none_left : drop i (prefixes_granted budgets plan) ≡ []
  none_left = drop_all i (prefixes_granted budgets plan) (omega (arith, many budgets plan, outside))

  pub rows_end : (names : List (List ℕ)) (tag : List ℕ) (part : ℕ) → rows_at names plan k tag query part (drop i (prefixes_granted budgets plan)) ≡ []
  unfolding rows_at
  rows_end names tag part = ap (λ ns. part_rows names query.id tag part (answers_at plan k ns)) none_left

  pub reports_end : reports_at plan k query (drop i (prefixes_granted budgets plan)) ≡ []
  unfolding reports_at
  reports_end = ap (flat_map (λ n. report_line query.id (report_by n plan k) query.unknown)) none_left

-- ---- a query more

pub queries_turn : (queries : List Query) (i : ℕ) (item : Query) → i < length queries → item ≡ get_or queries i item → queries_data (drop i queries) ≡ query_data item ∷ queries_data (drop (i + 1) queries)
queries_turn queries i item inside is = ap queries_data (drop_more queries i item inside) ∙ ap (λ (q : Query). query_data q ∷ queries_data (drop (i + 1) queries)) (sym is)

-- ---- all queries

module _ (many : ForEach) (names : List (List ℕ)) (flat : List (Entry ℕ)) (k : ℕ) (budgets : List Budget) (tag : List ℕ) where
  first_same : (plan : QueryPlan) → first_part (answers_at plan k (prefixes_granted budgets plan)) ≡ first_part_of budgets
  first_same plan = ap (λ (n : ℕ). if n == 1 then 0 else 1) (length-map (prefixes_granted budgets plan) (λ n. top_k n plan k) ∙ many budgets plan)

  rows_same : (query : QueryData) → query_rows_for names flat k budgets tag query ≡ query_rows names (plan_for names flat query) query.id k (prefixes_granted budgets (plan_for names flat query)) tag
  unfolding rows_at
  rows_same query = ap (λ part. part_rows names query.id tag part (answers_at (plan_for names flat query) k (prefixes_granted budgets (plan_for names flat query)))) (sym (first_same (plan_for names flat query)))

  pub rows_are : (queries : List QueryData) → queries_rows names flat k budgets tag queries ≡ search_rows names flat queries k budgets tag
  rows_are queries = λ i. flat_map (λ query. rows_same query i) queries

-- ---- the reports

module _ (names : List (List ℕ)) (flat : List (Entry ℕ)) (k : ℕ) (budgets : List Budget) where
  report_is : (query : QueryData) (n : ℕ) → IsReport n (plan_for names flat query) k (report_by n (plan_for names flat query) k)
  report_is query n = record { numbers = refl; graded = graded_standing (scores_after n (plan_for names flat query)) k (bound_after n (plan_for names flat query)) }

  abbrev these : QueryData → List ℕ → List Report
  these query prefixes = map (λ n. report_by n (plan_for names flat query) k) prefixes

  these_are : (query : QueryData) (prefixes : List ℕ) → AllZip (λ n report. IsReport n (plan_for names flat query) k report) prefixes (these query prefixes)
  these_are query [] = tt
  these_are query (n ∷ prefixes) = (report_is query n, these_are query prefixes)

  abbrev reports_of : QueryData → List Report
  reports_of query = these query (prefixes_granted budgets (plan_for names flat query))

  all_are : (queries : List QueryData) → AllZip (λ query reports. AreReports (plan_for names flat query) k budgets reports) queries (map reports_of queries)
  all_are [] = tt
  all_are (query ∷ queries) = (these_are query (prefixes_granted budgets (plan_for names flat query)), all_are queries)

  lines_are : (queries : List QueryData) → queries_reports names flat k budgets queries ≡ report_lines queries (map reports_of queries)
  unfolding reports_at
  lines_are [] = refl
  lines_are (query ∷ queries) =
      let same : query_reports names flat k budgets query ≡ flat_map (λ report. report_line query.id report query.unknown) (reports_of query)
      = sym (flat_map-map (λ report. report_line query.id report query.unknown) (λ n. report_by n (plan_for names flat query) k) (prefixes_granted budgets (plan_for names flat query))) in
      λ i. same i ++ lines_are queries i

  pub reports_are : (queries : List QueryData) → IsSearchReports names flat queries k budgets (queries_reports names flat k budgets queries)
  reports_are queries = record { reports = map reports_of queries; each = all_are queries; is = lines_are queries }
