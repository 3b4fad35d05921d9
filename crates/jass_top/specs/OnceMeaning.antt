-- What `once` means: an answer to a query of words over a CIFF file, on the output.
use Rattle.std.specs.Prelude.{◌≡◌, List, ℕ, []}
use Rattle.jass_base.specs.declared.answer.Report.{Report}
use Rattle.weights.specs.declared.weighting.Rule.TheVariants.{Tf}
use Rattle.weights.specs.declared.quantizing.Bits.TheVariants.{Raw}
use Rattle.index_model.specs.Index.{IndexData}
use Rattle.jass_top.specs.Answers.{OnceQuery, once_prefix, once_query, once_steps, once_text}
use Rattle.impact_segments.specs.Collections.{collection_index}
use Rattle.jass_top.specs.Judging.{judge_ciff}
use Rattle.jass_top.specs.MakingMeaning.{on_made}
use Rattle.jass_top.specs.Meanings.{Output, Meaning}
use Rattle.jass_top.specs.SearchMeaning.{IsSearchReport}
use Rattle.jass_top.specs.Standing.{OfOutput, TextPart}

-- the report line and the run lines of an answer over an index, whose report keeps what it promises; a step is a posting
-- that is scored
pub record IsOnceOutput (query : OnceQuery) (index : IndexData) (output : Output) : Type 0 where
  pub report : Report
  pub answer : IsSearchReport index (once_query index query) query.k (once_prefix index query) report
  pub whole : output
      ≡ record { content = []; text = once_text index query report; steps = once_steps index query }

-- the index is the collection's, weighed by term frequency, with the weights as impacts
abbrev pub once_meaning : List ℕ → OnceQuery → Meaning
once_meaning ciff query = on_made ciff (judge_ciff ciff) (collection_index Tf Raw) (IsOnceOutput query)
    (OfOutput (IsOnceOutput query) TextPart)
