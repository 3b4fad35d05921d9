use Rattle.shared_lemmas.proofs.Common.{◌≡◌, drop, map, string_bytes}
use Rattle.asked_lists.specs.Asked.{is_asked}
use Rattle.asked_lists.proofs.asked.has_word.Given as goal

abbrev pub invariant-loop-word : goal.invariant-loop-word
invariant-loop-word l = is_asked (map string_bytes (drop l.word-index l.words)) l.term ≡ is_asked (map string_bytes l.words) l.term
