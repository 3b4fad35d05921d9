-- What a session leaves that answers a query of words, as a function of an index.
use Rattle.std.specs.Prelude.{ℕ, List, ◌++◌, codes}
use Rattle.jass_base.specs.Ciff.{CollectionData}
use Rattle.ranking_model.specs.Report.{report_line, run_lines}
use Rattle.weights.specs.declared.quantizing.Bits.TheVariants.{Raw}
use Rattle.weights.specs.declared.weighting.Rule.TheVariants.{Tf}
use Rattle.impact_segments.specs.Collections.{collection_index}
use Rattle.index_model.specs.Index.{IndexData}
use Rattle.session_engine.specs.Standing.{answer_over, query_of, report_of}
use Rattle.session_engine.specs.declared.session.Session.{Session}
use Rattle.jass_words.specs.Words.{texts}
use Rattle.jass_words.specs.declared.command.Once.{Once}
use Rattle.jass_top.specs.Answers.{OnceQuery}

-- a question as plain data
abbrev pub once_of : Once → OnceQuery
once_of question = record { k = question.k; budget = question.budget; words = texts question.terms.now }

-- the index of a collection that a query of words is asked of: impacts are term frequencies
abbrev pub once_index : CollectionData → IndexData
once_index c = collection_index Tf Raw c

-- the report line, and the run lines of the answer
abbrev pub session_text : IndexData → Session → List ℕ
session_text index s =
    report_line (query_of s).id (report_of s) (query_of s).unknown
    ++ run_lines index.names (query_of s).id (codes "jass") 1 (answer_over index s)
