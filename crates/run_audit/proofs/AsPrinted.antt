-- The rows of a search are rows that are printed, and a search has one text of reports.
use Rattle.shared_lemmas.proofs.Common.{◌≡◌, ◌≢◌, ℕ, ◌+◌, ◌<◌, ◌≤◌, ◌^◌, ◌==◌, Bool, true, false, List, [], ◌∷◌, ◌++◌, length, flat_map, get_or, refl, sym, ap, subst, ◌∙◌, arith, codes, decimal, if◌then◌else◌}
use Rattle.shared_lemmas.proofs.Common.{All, AllByRecursion, AllZip, All-append, All-weaker, All-from_recursion, IsUtf8-from_is_utf8, is_utf8-from_IsUtf8, IsUtf8-from_ascii, length-append, length-take}
use Rattle.shared_lemmas.proofs.Lists.{all_take}
use Rattle.std.proofs.lemmas.Str.{IsUtf8-append}
use Rattle.std.specs.List.{slice_index_or}
use Rattle.jass_base.specs.Limits.{IsName, IsText}
use Rattle.jass_base.specs.declared.answer.Grade.{Grade}
use Rattle.jass_base.specs.declared.answer.Hit.{Hit}
use Rattle.jass_base.specs.declared.answer.Report.{Report}
use Rattle.ranking_model.specs.declared.entry.Entry.{Entry}
use Rattle.ranking_model.specs.declared.plan.QueryPlan.{QueryPlan}
use Rattle.ranking_model.specs.Finality.{IsGrade}
use Rattle.ranking_model.specs.Order.{sorted}
use Rattle.ranking_model.specs.Report.{IsReport, report_of, tag_of}
use Rattle.ranking_model.specs.Scores.{hits_from, rank_cmp, scores_after, top_k}
use Rattle.ranking_model.specs.Search.{AreReports, IsSearchReports, QueryData, first_part, prefixes_granted, report_lines}
use Rattle.jass_base.specs.declared.answer.Budget.{Budget}
use Rattle.jass_base.specs.declared.limits.TheConstants.{MOST_TIMES}
use Rattle.jass_base.specs.declared.query_term.QueryTerm.{QueryTerm}
use Rattle.ranking_model.specs.Plan.{plan_of}
use Rattle.ranking_model.specs.Postings.{AreTerms}
use Rattle.index_model.specs.Flat.{numbered_flat}
use Rattle.index_layout.specs.View.{FileView, IsFileView}
use Rattle.ranking_model.proofs.Candidates.{hits_each}
use Rattle.ranking_model.proofs.Documents.{scores_all}
use Rattle.ranking_model.proofs.Sorting.{all_sorted, length_sorted}
use Rattle.trec_run.specs.declared.run_line.RunLine.{RunLine}
use Rattle.run_audit.specs.Audits.{SearchData}
use Rattle.run_audit.specs.declared.search.TheConstants.{MOST_BUDGETS}
use Rattle.run_audit.specs.Rows.{IsColumn, IsLastColumn, IsPrintable, answers_at, hit_rows, part_rows, query_rows}
use Rattle.run_audit.proofs.Printed.{IsDigit, decimal_digits, digits_small, small_ascii}

-- ---- hits

abbrev Fits : ℕ → Hit → Type 0
Fits docs hit = (hit.doc < docs) × (hit.score < 2 ^ 64)

top_fits : (n : ℕ) (plan : QueryPlan) (k : ℕ) → All (λ score. score < 2 ^ 32) (scores_after n plan) → AllByRecursion (Fits plan.docs) (top_k n plan k)
top_fits n plan k small =
    let scores = scores_after n plan in
    subst (λ docs. AllByRecursion (Fits docs) (top_k n plan k)) (scores_all n plan)
    (all_take (Fits (length scores)) k (sorted rank_cmp (hits_from 0 scores)) (all_sorted rank_cmp (Fits (length scores)) (hits_from 0 scores)
    (hits_each (Fits (length scores)) 0 scores (λ i inside some. (omega (arith, inside), (let here : get_or scores i 0 < 2 ^ 32 = small i 0 inside in omega (arith, here)))))))

hits_few : (doc : ℕ) (scores : List ℕ) → length (hits_from doc scores) ≤ length scores
hits_few doc [] = omega arith
hits_few doc (score ∷ scores) = step (score == 0) (hits_few (doc + 1) scores) where
  step : (b : Bool) → length (hits_from (doc + 1) scores) ≤ length scores → length (if b then hits_from (doc + 1) scores else record { doc = doc; score = score } ∷ hits_from (doc + 1) scores) ≤ length (score ∷ scores)
  step true rest = omega (arith, rest)
  step false rest = omega (arith, rest)

top_few : (n : ℕ) (plan : QueryPlan) (k : ℕ) → length (top_k n plan k) ≤ plan.docs
top_few n plan k =
    let scores = scores_after n plan in
    let cut = length-take k (sorted rank_cmp (hits_from 0 scores)) in
    let whole = length_sorted rank_cmp (hits_from 0 scores) in
    omega (arith, cut, whole, hits_few 0 scores, scores_all n plan)

-- ---- columns

pub name_column : (name : List ℕ) → IsName name → IsText name → IsColumn name
name_column name is text = record {
  utf8 = text;
  some = is.some;
  plain = All-weaker (λ (b : ℕ). (32 < b) × (b ≢ 127)) (λ (b : ℕ). (b ≢ 9) × (b ≢ 10) × (b ≢ 32)) (λ b h. ((λ e. absurd (omega (arith, h.0, e))), (λ e. absurd (omega (arith, h.0, e))), (λ e. absurd (omega (arith, h.0, e))))) name is.visible;
}

-- a tag with a point and a number
tag_with : (tag : List ℕ) (part : ℕ) → part < 2 ^ 64 → IsLastColumn tag → IsLastColumn (tag ++ (codes "." ++ decimal part))
tag_with tag part small is =
    let digits = All-from_recursion IsDigit (decimal part) (decimal_digits part small) in
    let all = λ (P : ℕ → Type 0) (of_tag : All P tag) (point : P 46) (digit : (b : ℕ) → IsDigit b → P b).
    All-append P tag (codes "." ++ decimal part) of_tag (All-append P (codes ".") (decimal part) (All-from_recursion P (codes ".") (point, tt)) (All-weaker IsDigit P digit (decimal part) digits)) in
    record {
      column = record {
        utf8 = is_utf8-from_IsUtf8 (tag ++ (codes "." ++ decimal part)) (IsUtf8-append tag (codes "." ++ decimal part) (IsUtf8-from_is_utf8 tag is.column.utf8)
            (IsUtf8-append (codes ".") (decimal part) (IsUtf8-from_ascii (codes ".") (small_ascii (codes ".") (omega arith, tt)))
            (IsUtf8-from_ascii (decimal part) (small_ascii (decimal part) (digits_small (decimal part) (decimal_digits part small))))));
        some = (let long = length-append tag (codes "." ++ decimal part) in omega (arith, long, is.column.some));
        plain = all (λ (b : ℕ). (b ≢ 9) × (b ≢ 10) × (b ≢ 32)) is.column.plain ((λ e. absurd (omega (arith, e))), (λ e. absurd (omega (arith, e))), (λ e. absurd (omega (arith, e))))
            (λ b h. ((λ e. absurd (omega (arith, h.0, e))), (λ e. absurd (omega (arith, h.0, e))), (λ e. absurd (omega (arith, h.0, e)))));
      };
      plain = all (λ (b : ℕ). b ≢ 13) is.plain (λ e. absurd (omega (arith, e))) (λ b h e. absurd (omega (arith, h.0, e)));
    }

tag_column : (tag : List ℕ) (part : ℕ) → part < 2 ^ 64 → IsLastColumn tag → IsLastColumn (tag_of tag part)
tag_column tag part small is = by (part == 0) where
  by : (b : Bool) → IsLastColumn (if b then tag else tag ++ (codes "." ++ decimal part))
  by true = is
  by false = tag_with tag part small is

-- ---- rows

both : {A : Type 0} (P : A → Type 0) (xs ys : List A) → AllByRecursion P xs → AllByRecursion P ys → AllByRecursion P (xs ++ ys)
both P [] ys h k = k
both P (x ∷ xs) ys h k = (h.0, both P xs ys h.1 k)

module _ (names : List (List ℕ)) (docs : ℕ) (named : (doc : ℕ) → doc < docs → IsColumn (slice_index_or names doc [])) (id : List ℕ) (identified : IsColumn id) where
  hits_printed : (tag : List ℕ) (rank : ℕ) (hits : List Hit) → IsLastColumn tag → AllByRecursion (Fits docs) hits → rank + length hits ≤ 2 ^ 64 → AllByRecursion IsPrintable (hit_rows names id tag rank hits)
  hits_printed tag rank [] last fit few = tt
  hits_printed tag rank (hit ∷ hits) last fit few =
      (record { id = identified; name = named hit.doc fit.0.0; rank = omega (arith, few); score = fit.0.1; tag = last }, hits_printed tag (rank + 1) hits last fit.1 (omega (arith, few)))

  pub parts_printed : (plan : QueryPlan) (k : ℕ) (tag : List ℕ) (part : ℕ) (prefixes : List ℕ) → plan.docs ≡ docs → docs < 2 ^ 63 → IsLastColumn tag → part + length prefixes ≤ 2 ^ 63 → ((n : ℕ) → All (λ score. score < 2 ^ 32) (scores_after n plan))
      → AllByRecursion IsPrintable (part_rows names id tag part (answers_at plan k prefixes))
  parts_printed plan k tag part [] same few last parts small = tt
  parts_printed plan k tag part (n ∷ prefixes) same few last parts small =
      both IsPrintable (hit_rows names id (tag_of tag part) 1 (top_k n plan k)) (part_rows names id tag (part + 1) (answers_at plan k prefixes))
      (hits_printed (tag_of tag part) 1 (top_k n plan k) (tag_column tag part (omega (arith, parts)) last) (subst (λ d. AllByRecursion (Fits d) (top_k n plan k)) same (top_fits n plan k (small n))) (let most = top_few n plan k in omega (arith, most, same, few)))
      (parts_printed plan k tag (part + 1) prefixes same few last (omega (arith, parts)) small)

-- ---- one text of reports

zip_one : {A B : Type 0} (R : A → B → Type 0) → ((a : A) (b c : B) → R a b → R a c → b ≡ c) → (xs : List A) (ys zs : List B) → AllZip R xs ys → AllZip R xs zs → ys ≡ zs
zip_one R one [] [] [] h k = refl
zip_one R one [] [] (z ∷ zs) h k = absurd k
zip_one R one [] (y ∷ ys) zs h k = absurd h
zip_one R one (x ∷ xs) [] zs h k = absurd h
zip_one R one (x ∷ xs) (y ∷ ys) [] h k = absurd k
zip_one R one (x ∷ xs) (y ∷ ys) (z ∷ zs) h k = λ i. one x y z h.0 k.0 i ∷ zip_one R one xs ys zs h.1 k.1 i

module _ (one : (scores : List ℕ) (k bound : ℕ) (first second : Grade) → IsGrade scores k bound first → IsGrade scores k bound second → first ≡ second) where
  one_report : (n : ℕ) (plan : QueryPlan) (k : ℕ) (first second : Report) → IsReport n plan k first → IsReport n plan k second → first ≡ second
  one_report n plan k first second h j = h.numbers ∙ ap (report_of n plan) (one _ k _ first.grade second.grade h.graded j.graded) ∙ sym j.numbers

  pub one_text : (names : List (List ℕ)) (flat : List (Entry ℕ)) (queries : List QueryData) (k : ℕ) (budgets : List Budget) (first second : List ℕ)
      → IsSearchReports names flat queries k budgets first → IsSearchReports names flat queries k budgets second → first ≡ second
  one_text names flat queries k budgets first second h j =
      h.is ∙ ap (report_lines queries) (zip_one (λ query reports. AreReports (plan_of (length names) flat query.terms) k budgets reports)
      (λ query these those. zip_one (λ n report. IsReport n (plan_of (length names) flat query.terms) k report) (λ n. one_report n (plan_of (length names) flat query.terms) k) _ these those) queries h.reports j.reports h.each j.each) ∙ sym j.is

-- ---- a search

first_small : {A : Type 0} (answers : List A) → (if length answers == 1 then 0 else 1) ≤ 1
first_small answers = by (length answers == 1) where
  by : (b : Bool) → (if b then 0 else 1) ≤ 1
  by true = omega arith
  by false = omega arith

-- a query that can be asked
abbrev Asked : QueryData → Type 0
Asked query = AreTerms query.terms × All (λ (n : QueryTerm). n.times ≤ MOST_TIMES) query.terms

module _ (file : FileView) (view : IsFileView file) (search : SearchData) (last : IsLastColumn search.tag) (few : length search.budgets ≤ MOST_BUDGETS)
    (many : (budgets : List Budget) (plan : QueryPlan) → length (prefixes_granted budgets plan) ≡ length budgets)
    (docs : (docs : ℕ) (flat : List (Entry ℕ)) (terms : List QueryTerm) → (plan_of docs flat terms).docs ≡ docs)
    (small : (terms : List QueryTerm) → AreTerms terms → All (λ (n : QueryTerm). n.times ≤ MOST_TIMES) terms → (n : ℕ) → All (λ score. score < 2 ^ 32) (scores_after n (plan_of (length file.index.names) (numbered_flat file.index) terms))) where
  abbrev plan : QueryData → QueryPlan
  plan query = plan_of (length file.index.names) (numbered_flat file.index) query.terms

  abbrev rows : QueryData → List RunLine
  rows query = query_rows file.index.names (plan query) query.id search.k (prefixes_granted search.budgets (plan query)) search.tag

  named : (doc : ℕ) → doc < length file.index.names → IsColumn (slice_index_or file.index.names doc [])
  named doc inside = name_column (slice_index_or file.index.names doc []) (view.index.names doc [] inside) (view.index.names_are_text doc [] inside)

  query_printed : (query : QueryData) → IsColumn query.id → Asked query → AllByRecursion IsPrintable (rows query)
  query_printed query id asked =
      let prefixes = prefixes_granted search.budgets (plan query) in
      let answers = answers_at (plan query) search.k prefixes in
      let one = first_small answers in
      let long = many search.budgets (plan query) in
      let documents : length file.index.names ≤ 2 ^ 26 = view.index.few_names in
      parts_printed file.index.names (length file.index.names) named query.id id (plan query) search.k search.tag (first_part answers) prefixes (docs (length file.index.names) (numbered_flat file.index) query.terms)
      (omega (arith, documents)) last (omega (arith, one, long, few)) (small query.terms asked.0 asked.1)

  pub search_printed : (queries : List QueryData) → AllByRecursion (λ (query : QueryData). IsColumn query.id) queries → AllByRecursion Asked queries → AllByRecursion IsPrintable (flat_map rows queries)
  search_printed [] ids asked = tt
  search_printed (query ∷ queries) ids asked = both IsPrintable (rows query) (flat_map rows queries) (query_printed query ids.0 asked.0) (search_printed queries ids.1 asked.1)
