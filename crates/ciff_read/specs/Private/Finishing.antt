-- A list whose fields were walked, and what is left to judge of it.
use Rattle.std.specs.Prelude.{ℕ, Bool, ◌||◌, Result, Ok, Err, if◌then◌else◌}
use Rattle.jass_base.specs.Ciff.{ListData}
use Rattle.ciff_read.specs.declared.refusal.CiffWhy.TheVariants.{TermTwice, Range}
use Rattle.ciff_read.specs.declared.refusal.CiffRefusal.{CiffRefusal}
use Rattle.ciff_read.specs.declared.walked_list.WalkedList.{WalkedList}
use Rattle.ciff_read.specs.Judging.{over63}
use Rattle.ciff_read.specs.Private.Places.{gathered_of}
use Rattle.ciff_read.specs.Refusals.{◌>>=◌}

-- the list, or its first refusal, where its term was seen before or wasn't
abbrev pub finished : Bool → ℕ → WalkedList → Result ListData CiffRefusal
finished seen at l =
    if seen then Err (record { at = at; why = TermTwice })
    else (if over63 l.df || over63 l.cf then Err (record { at = at; why = Range })
    else (gathered_of l.gathered >>= λ postings. Ok (record { term = l.term.now; df = l.df; cf = l.cf; postings = postings })))
