use Rattle.std.proofs.Common.{◌≡◌, ◌+◌, [], length, drop, map}
use Rattle.index_write.proofs.Below.{term_data, terms_bytes}
use Rattle.index_write.specs.Chosen.{chosen_terms}
use Rattle.index_write.proofs.lengths.terms_len.Given as goal

abbrev pub invariant-loop-term : goal.invariant-loop-term
invariant-loop-term l =
    l.len + length (terms_bytes l.before (chosen_terms (length l.index.names) (map term_data (drop l.term-index l.index.terms))))
    ≡ length (terms_bytes [] (chosen_terms (length l.index.names) (map term_data l.index.terms)))
