-- What `audit` means: whether a run and its reports are those of the search, as one line on the output.
use Rattle.std.specs.Prelude.{ℕ, ◌≡◌, ◌<◌, ◌≤◌, ◌++◌, All, List, [], ◌∷◌, length, nat_le, decimal, codes, Option, Some, Result, Ok, Err, if◌then◌else◌}
use Rattle.std.specs.FinMap.{get}
use Rattle.jass_base.specs.Outside.{Files}
use Rattle.jass_base.specs.declared.limits.TheConstants.{LONGEST_FILE}
use Rattle.index_model.specs.Flat.{numbered_flat}
use Rattle.index_model.specs.Index.{IndexData}
use Rattle.query_reader.specs.declared.mode.Mode.{Mode}
use Rattle.trec_run.specs.declared.run_line.RunLine.{RunLine}
use Rattle.trec_run.specs.declared.run_line.RunWhy.{RunWhy}
use Rattle.trec_run.specs.declared.run_line.RunFault.{RunFault}
use Rattle.trec_run.specs.declared.run_line.RunFault.TheVariants as faults
use Rattle.trec_run.specs.Runs.{number_of, run_of}
use Rattle.run_audit.specs.declared.verdict.Verdict.{Verdict}
use Rattle.run_audit.specs.declared.verdict.Verdict.TheVariants.{Yes, Report, Run}
use Rattle.run_audit.specs.Audits.{IsAudit, SearchData, queries_postings}
use Rattle.jass_words.specs.declared.word_limits.TheConstants.{MOST_BUDGETS}
use Rattle.jass_words.specs.Options.{IsTag}
use Rattle.jass_top.specs.declared.stop.Place.{Place}
use Rattle.jass_top.specs.declared.stop.Place.TheVariants.{Line}
use Rattle.jass_top.specs.Judging.{Judged, Accepted, Refuses, Untold, behind, judge_content}
use Rattle.jass_top.specs.Meanings.{Output, Meaning, reading_meaning}
use Rattle.jass_top.specs.QueryJudging.{LineQuery, without_lines}
use Rattle.jass_top.specs.SearchMeaning.{IsSearchOutput, SearchInputs, judge_search, search_within}
use Rattle.jass_top.specs.Standing.{OfOutput, StepsAlone, TextPart}

-- ---- the inputs

-- an index, queries over it, and what is said to be left of their search: a run by its lines that have bytes, and reports
pub record AuditInputs : Type 0 where
  pub index : IndexData
  pub queries : List LineQuery
  pub run : List RunLine
  pub reports : List ℕ

-- a content that can be audited: 82 at line 0 where it has more than 2^32 bytes
unfoldable pub auditable : List ℕ → List ℕ → Judged (List ℕ)
auditable name content = if nat_le (length content) LONGEST_FILE then Accepted content else Refuses name 82 (Line 0)

-- the text of a file that is audited
abbrev pub judge_audited : List ℕ → Option Files → Judged (List ℕ)
judge_audited name told = behind (judge_content name told) (auditable name)

-- reading a text gives lines or a refusal, and takes no memory here
abbrev pub judged_run : List ℕ → Result (List RunLine) RunFault → Judged (List RunLine)
judged_run name (Ok lines) = Accepted lines
judged_run name (Err (faults.Refused line why)) = Refuses name (number_of why) (Line line)
judged_run name (Err faults.NoMemory) = Untold

-- the text of the run of this name, by its lines that have bytes or its first refusal
unfoldable pub judge_run : List ℕ → List ℕ → Judged (List RunLine)
judge_run name text = judged_run name (run_of text)

-- the first refusal of a text has this number and place
pub record IsRefusedRun (text : List ℕ) (number : ℕ) (at : Place) : Type 0 where
  pub line : ℕ
  pub why : RunWhy
  pub first : run_of text ≡ Err (faults.Refused line why)
  pub numbered : number ≡ number_of why
  pub placed : at ≡ Line line

-- the index file and the queries as for a search, then the run, then the reports
abbrev pub judge_audit : List ℕ → List ℕ → List ℕ → List ℕ → Mode → Option Files → Judged AuditInputs
judge_audit index queries run reports mode told =
    behind (judge_search index queries mode told) (λ asked.
    behind (behind (judge_audited run told) (judge_run run)) (λ lines.
    behind (judge_audited reports told) (λ text.
    Accepted (record { index = asked.index; queries = asked.queries; run = lines; reports = text }))))

-- ---- the output

-- the line of a verdict
abbrev pub verdict_line : Verdict → List ℕ
verdict_line Yes = codes "audit ok\n"
verdict_line (Report line) = codes "audit no report line " ++ (decimal line ++ codes "\n")
verdict_line (Run line) = codes "audit no run line " ++ (decimal line ++ codes "\n")

-- the postings of all terms of the queries
abbrev pub audit_postings : AuditInputs → ℕ
audit_postings inputs = queries_postings (numbered_flat inputs.index) (without_lines inputs.queries)

-- the line of the verdict on the run and the reports beside what this search leaves; a step is a posting of a query's term
pub record IsAuditOutput (search : SearchData) (inputs : AuditInputs) (output : Output) : Type 0 where
  pub verdict : Verdict
  pub audit : IsAudit inputs.index.names (numbered_flat inputs.index) (without_lines inputs.queries) search
      inputs.run inputs.reports verdict
  pub whole : output ≡ record { content = []; text = verdict_line verdict; steps = audit_postings inputs }

-- where memory was refused, postings were counted at the most
abbrev pub counted_output : AuditInputs → Output
counted_output inputs = record { content = []; text = []; steps = audit_postings inputs }

abbrev pub audit_meaning : List ℕ → List ℕ → List ℕ → List ℕ → SearchData → Mode → Meaning
audit_meaning index queries run reports search mode =
    record (reading_meaning (index ∷ queries ∷ run ∷ reports ∷ []) (judge_audit index queries run reports mode)
    (IsAuditOutput search) (OfOutput (IsAuditOutput search) TextPart)) {
      AtMemory = λ inputs. StepsAlone (counted_output inputs);
    }

-- ---- what a search leaves

-- files of these names hold the inputs of a search, an index file of which is bytes, and what the search leaves of them, of
-- at most 2^32 bytes each; its tag and its budgets are those that words can say
pub record HoldSearch (index queries run reports : List ℕ) (search : SearchData) (mode : Mode) (files : Files) : Type 0 where
  pub tag : IsTag search.tag
  pub few : length search.budgets ≤ MOST_BUDGETS
  pub bytes : (content : List ℕ) → get files index ≡ Some content → All (λ byte. byte < 256) content
  pub inputs : SearchInputs
  pub accepted : judge_search index queries mode (Some files) ≡ Accepted inputs
  pub left : Output
  pub exact : IsSearchOutput (search_within search.k search.budgets search.tag) inputs left
  pub run_there : get files run ≡ Some left.content
  pub reports_there : get files reports ≡ Some left.text
  pub short_run : length left.content ≤ LONGEST_FILE
  pub short_reports : length left.text ≤ LONGEST_FILE
