use Rattle.std.proofs.Common.{◌≡◌, ◌≤◌, ◌+◌, [], take, drop, length}
use Rattle.jass_words.specs.Words.{texts}
use Rattle.jass_words.specs.Private.Faults.{SaysFiles}
use Rattle.jass_words.proofs.slots.files_from.Given as goal

abbrev pub invariant-loop-n : goal.invariant-loop-n
invariant-loop-n l = (l.place + l.n ≤ length l.words) × SaysFiles l.n [] l.place (texts l.words) (take l.n (drop l.place (texts l.words)))
