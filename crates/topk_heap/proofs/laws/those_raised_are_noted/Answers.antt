use Rattle.topk_heap.proofs.Noted.{cut_noted, more_noted, none_noted, noted_first, noted_touched}
use Rattle.topk_heap.proofs.laws.those_raised_are_noted.Goals as goal

pub returns : goal.returns
returns c = record {
  none = none_noted;
  more = λ top last weight docs scores places noted are inside. more_noted top last weight docs scores places noted are inside;
  cut = cut_noted;
  placed = λ top last scores places noted are. are.placed;
  touched = noted_touched;
  first = noted_first;
}
