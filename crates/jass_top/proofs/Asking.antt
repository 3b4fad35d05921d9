-- What a session that was opened for a query of words answers after its one grant.
use Rattle.shared_lemmas.proofs.Common.{◌≡◌, [], ◌∷◌, ◌++◌, ap, subst, ◌∙◌, arith, codes, length}
use Rattle.jass_top.proofs.Below.{granted_with, plan_of, prefix_within, size_of_first, weighted_postings, IsPromised, IsReport, report_line, run_lines, top_k, query_data, numbered_flat, IndexData, PoolView, IsSessionOf, SessionStands, granted_of, k_of, plan_over, prefix_of}
use Rattle.jass_top.proofs.Below.{query_of, report_of, terms_of, Session}
use Rattle.session_engine.specs.Plans.{session_plan}
use Rattle.jass_top.specs.Answers.{OnceQuery, once_prefix, once_query, once_steps, once_text}
use Rattle.jass_top.specs.Meanings.{Output}
use Rattle.jass_top.specs.OnceMeaning.{IsOnceOutput}
use Rattle.jass_top.specs.Private.OnceTexts.{session_text}
use Rattle.jass_top.specs.SearchMeaning.{IsSearchReport}
use Rattle.jass_top.proofs.Turns.{granted_more}

module _ (index : IndexData) (query : OnceQuery) (opened s : Session) (pool : PoolView) (stands : SessionStands s index pool) (is : IsSessionOf opened s)
    (asks : query_data (query_of opened) ≡ once_query index query) (k_is : k_of opened ≡ query.k) (grants : granted_of s ≡ granted_with (granted_of opened) query.budget) (none : granted_of opened ≡ 0) where
  same : query_data (query_of s) ≡ once_query index query
  same = ap query_data is.query ∙ asks

  asked : k_of s ≡ query.k
  asked = is.k ∙ k_is

  granted : granted_of s ≡ granted_with 0 query.budget
  granted = grants ∙ ap (λ sum. granted_with sum query.budget) none

  at : prefix_of s ≡ once_prefix index query
  unfolding session_plan
  at = stands.prefix
      ∙ (λ i. prefix_within ((granted ∙ granted_more (query.budget ∷ []) 0 query.budget (omega arith)) i) (plan_of (length index.names) (numbered_flat index) (same i).terms).segments)

  text_is : session_text index s ≡ once_text index query (report_of s)
  unfolding session_plan
  text_is = λ i. report_line (same i).id (report_of s) (same i).unknown
      ++ run_lines index.names (same i).id (codes "jass") 1 (top_k (at i) (plan_of (length index.names) (numbered_flat index) (same i).terms) (asked i))

  steps_are : (report_of s).postings ≡ once_steps index query
  unfolding session_plan
  steps_are = ap (λ r. r.postings) stands.report
      ∙ (λ i. size_of_first (at i) (plan_of (length index.names) (numbered_flat index) (same i).terms).segments)

  report_is : IsReport (prefix_of s) (plan_over index s) (k_of s) (report_of s)
      → IsPromised (weighted_postings (numbered_flat index) (terms_of s)) (prefix_of s) (plan_over index s) (k_of s) (report_of s)
      → IsSearchReport index (once_query index query) query.k (once_prefix index query) (report_of s)
  unfolding session_plan
  report_is exact promised = subst (λ n. IsSearchReport index (once_query index query) query.k n (report_of s)) at
      (subst (λ k. IsSearchReport index (once_query index query) k (prefix_of s) (report_of s)) asked
      (subst (λ q. IsSearchReport index q (k_of s) (prefix_of s) (report_of s)) same (record { exact = exact; promised = promised })))

  -- the output, and that the session answers with it
  abbrev pub answered : Output
  answered = record { content = []; text = session_text index s; steps = (report_of s).postings }

  pub exact : IsReport (prefix_of s) (plan_over index s) (k_of s) (report_of s)
      → IsPromised (weighted_postings (numbered_flat index) (terms_of s)) (prefix_of s) (plan_over index s) (k_of s) (report_of s) → IsOnceOutput query index answered
  exact reported promised = record { report = report_of s; answer = report_is reported promised; whole = λ i. record { content = []; text = text_is i; steps = steps_are i } }
