-- What is left of the text is still to be counted in.
use Rattle.std.proofs.Common.{◌≡◌, ◌+◌, ◌≤◌, length}
use Rattle.query_reader.specs.Texts.{folded_mentions}
use Rattle.query_reader.specs.Private.Tally.{all_counted_in}
use Rattle.query_reader.proofs.folded.count_characters.Given as goal

abbrev pub invariant-loop-run : goal.invariant-loop-run
invariant-loop-run g l = record {
  counted : all_counted_in (g.X.Lexicon.terms l.index) l.tally (folded_mentions l.rest) ≡ all_counted_in (g.X.Lexicon.terms l.index) l.fn.tally (folded_mentions l.text);
  room : l.tally.unknown + length l.rest ≤ l.fn.tally.unknown + length l.text;
}

abbrev pub decreases-loop-run : goal.decreases-loop-run
decreases-loop-run g l = length l.rest
