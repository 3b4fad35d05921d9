-- The commands: the first word of each, what stands behind it, and what it does. This project's grammar.
use Rattle.std.specs.Prelude.{ℕ, List, [], ◌∷◌, codes}
use Rattle.jass_words.specs.Slots.{Slot, File, Number, Postings, Tail, Ends, Terms, May, Must, Parts}
use Rattle.jass_words.specs.declared.keys.Key.TheVariants as keys
use Rattle.jass_words.specs.declared.names.Name.{Name}
use Rattle.jass_words.specs.declared.names.Name.TheVariants as names
use Rattle.jass_base.specs.declared.limits.TheConstants.{MOST_HITS, MOST_TRIAL}
use Rattle.jass_words.specs.declared.word_limits.TheConstants.{MOST_QUERIES, MOST_SEED}

-- in the order of the help text
abbrev pub all_names : List Name
all_names = names.Once ∷ names.Rewrite ∷ names.Import ∷ names.Check ∷ names.Export ∷ names.Migrate ∷ names.Search
    ∷ names.Shards ∷ names.Exhaust ∷ names.Audit ∷ names.Serve ∷ names.Trial ∷ names.Help ∷ names.Version ∷ []

-- the first word
abbrev pub word_of : Name → List ℕ
word_of names.Once = codes "once"
word_of names.Rewrite = codes "rewrite"
word_of names.Import = codes "import"
word_of names.Check = codes "check"
word_of names.Export = codes "export"
word_of names.Migrate = codes "migrate"
word_of names.Search = codes "search"
word_of names.Shards = codes "shards"
word_of names.Exhaust = codes "exhaust"
word_of names.Audit = codes "audit"
word_of names.Serve = codes "serve"
word_of names.Trial = codes "trial"
word_of names.Help = codes "--help"
word_of names.Version = codes "--version"

-- the words behind it, as they are shown; * marks the file that is written
abbrev pub form_of : Name → List ℕ
form_of names.Once = codes "CIFF K BUDGET TERM.."
form_of names.Rewrite = codes "FROM TO*"
form_of names.Import = codes "CIFF INDEX* [weights=tf|bm25] [bits=raw|1..16]"
form_of names.Check = codes "INDEX"
form_of names.Export = codes "INDEX CIFF*"
form_of names.Migrate = codes "OLD NEW*"
form_of names.Search =
    codes "INDEX QUERIES RUN* [k=K] [budget=B,..] [tag=TAG] [mode=plain|folded] [until=budget|final]"
form_of names.Shards =
    codes "N INDEX1 .. INDEXN QUERIES RUN* [k=K] [budget=B,..] [tag=TAG] [mode=plain|folded]"
form_of names.Exhaust = codes "INDEX QUERIES RUN* [k=K] [tag=TAG] [mode=plain|folded]"
form_of names.Audit = codes "INDEX QUERIES RUN REPORTS [k=K] [budget=B,..] [tag=TAG] [mode=plain|folded]"
form_of names.Serve = codes "INDEX frames=N"
form_of names.Trial = codes "SEED DOCS TERMS QUERIES"
form_of names.Help = []
form_of names.Version = []

-- what it does
abbrev pub does_of : Name → List ℕ
does_of names.Once = codes "answer a query over a CIFF file"
does_of names.Rewrite = codes "write a CIFF file in the canonical spelling"
does_of names.Import = codes "make an index file of a CIFF file"
does_of names.Check = codes "check an index file, and print its totals"
does_of names.Export = codes "write a CIFF file with the impacts as frequencies"
does_of names.Migrate = codes "write an index file of version 1 in version 2"
does_of names.Search = codes "answer the queries of a file"
does_of names.Shards = codes "answer them over the parts of a collection as over one index"
does_of names.Exhaust = codes "answer them by all postings, one document after the other"
does_of names.Audit = codes "say whether a run and its reports are those of the search"
does_of names.Serve = codes "answer the lines of the input at a desk over an index file"
does_of names.Trial = codes "answer queries over a collection made from a seed, and print a summary"
does_of names.Help = codes "print this text"
does_of names.Version = codes "print the name and the version"

-- the fixed words behind it
abbrev pub slots_of : Name → List Slot
slots_of names.Once = File ∷ Number 1 MOST_HITS ∷ Postings ∷ []
slots_of names.Rewrite = File ∷ File ∷ []
slots_of names.Import = File ∷ File ∷ []
slots_of names.Check = File ∷ []
slots_of names.Export = File ∷ File ∷ []
slots_of names.Migrate = File ∷ File ∷ []
slots_of names.Search = File ∷ File ∷ File ∷ []
slots_of names.Shards = []
slots_of names.Exhaust = File ∷ File ∷ File ∷ []
slots_of names.Audit = File ∷ File ∷ File ∷ File ∷ []
slots_of names.Serve = File ∷ []
slots_of names.Trial = Number 0 MOST_SEED ∷ Number 1 MOST_TRIAL ∷ Number 1 MOST_TRIAL ∷ Number 0 MOST_QUERIES ∷ []
slots_of names.Help = []
slots_of names.Version = []

-- the words behind these
abbrev pub tail_of : Name → Tail
tail_of names.Once = Terms
tail_of names.Rewrite = Ends
tail_of names.Import = May (keys.Weights ∷ keys.Width ∷ [])
tail_of names.Check = Ends
tail_of names.Export = Ends
tail_of names.Migrate = Ends
tail_of names.Search = May (keys.Hits ∷ keys.Limits ∷ keys.Tag ∷ keys.Reading ∷ keys.Stopping ∷ [])
tail_of names.Shards = Parts (keys.Hits ∷ keys.Limits ∷ keys.Tag ∷ keys.Reading ∷ [])
tail_of names.Exhaust = May (keys.Hits ∷ keys.Tag ∷ keys.Reading ∷ [])
tail_of names.Audit = May (keys.Hits ∷ keys.Limits ∷ keys.Tag ∷ keys.Reading ∷ [])
tail_of names.Serve = Must keys.Frames
tail_of names.Trial = Ends
tail_of names.Help = Ends
tail_of names.Version = Ends
