-- What is audited, in memory.
use Rattle.std.specs.Prelude.{◌≡◌}
use Rattle.run_audit.specs.Audits.{SearchData}
use Rattle.jass_words.specs.Grants.{granted}
use Rattle.jass_words.specs.declared.command.Audit.{Audit}
use Rattle.jass_top.specs.AuditMeaning.{AuditInputs}
use Rattle.jass_top.specs.QueryJudging.{without_lines}
use Rattle.jass_top.specs.declared.audit.Audited.{Audited}
use Rattle.jass_top.specs.Private.SearchRuns.{asked_of}

-- the search that words ask about
abbrev pub asked_by : Audit → SearchData
asked_by audit = record { k = audit.asked.k; budgets = granted audit.budgets; tag = audit.asked.tag.now }

-- what was opened stands for the inputs
pub record AreAudited (audited : Audited) (inputs : AuditInputs) : Type 0 where
  pub index : inputs.index ≡ audited.index.index
  pub queries : without_lines inputs.queries ≡ asked_of audited.queries
  pub run : inputs.run ≡ audited.run
  pub reports : inputs.reports ≡ audited.reports
