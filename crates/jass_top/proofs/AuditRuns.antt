-- What an audit leaves is its output.
use Rattle.std.proofs.Common.{◌≡◌, ◌≤◌, ◌+◌, ℕ, List, [], refl, sym, subst, arith}
use Rattle.jass_top.proofs.Below.{IndexData, QueryData, numbered_flat}
use Rattle.trec_run.specs.declared.run_line.RunLine.{RunLine}
use Rattle.run_audit.specs.declared.verdict.Verdict.{Verdict}
use Rattle.run_audit.specs.Audits.{IsAudit, SearchData, queries_postings}
use Rattle.jass_top.specs.declared.audit.Audited.{Audited}
use Rattle.jass_top.specs.AuditMeaning.{AuditInputs, IsAuditOutput, audit_postings, counted_output, verdict_line}
use Rattle.jass_top.specs.QueryJudging.{without_lines}
use Rattle.jass_top.specs.Standing.{StepsAlone}
use Rattle.jass_top.specs.Worlds.{Outer}
use Rattle.jass_top.specs.Private.Audits.{AreAudited}
use Rattle.jass_top.specs.Private.SearchRuns.{asked_of}

module _ (audited : Audited) (inputs : AuditInputs) (are : AreAudited audited inputs) where
  pub audited_postings : audit_postings inputs ≡ queries_postings (numbered_flat audited.index.index) (asked_of audited.queries)
  audited_postings = λ i. queries_postings (numbered_flat (are.index i)) (are.queries i)

  pub audited_exact : (search : SearchData) (verdict : Verdict) → IsAudit audited.index.index.names (numbered_flat audited.index.index) (asked_of audited.queries) search audited.run audited.reports verdict
      → IsAuditOutput search inputs (record { content = []; text = verdict_line verdict; steps = audit_postings inputs })
  audited_exact search verdict audit = record {
    verdict = verdict;
    audit = subst (λ (index : IndexData). IsAudit index.names (numbered_flat index) (without_lines inputs.queries) search inputs.run inputs.reports verdict) (sym are.index)
        (subst (λ (queries : List QueryData). IsAudit audited.index.index.names (numbered_flat audited.index.index) queries search inputs.run inputs.reports verdict) (sym are.queries)
        (subst (λ (run : List RunLine). IsAudit audited.index.index.names (numbered_flat audited.index.index) (asked_of audited.queries) search run inputs.reports verdict) (sym are.run)
        (subst (λ (reports : List ℕ). IsAudit audited.index.index.names (numbered_flat audited.index.index) (asked_of audited.queries) search audited.run reports verdict) (sym are.reports) audit)));
    whole = refl;
  }

  pub audited_in_part : (before after : Outer) → after.told ≡ before.told → after.written ≡ before.written
      → (before.steps ≤ after.steps) × (after.steps ≤ before.steps + queries_postings (numbered_flat audited.index.index) (asked_of audited.queries)) → StepsAlone (counted_output inputs) before after
  audited_in_part before after told written steps = record {
    told = told;
    written = written;
    steps = record { never_less = steps.0; at_most = omega (arith, steps.1, audited_postings) };
  }
