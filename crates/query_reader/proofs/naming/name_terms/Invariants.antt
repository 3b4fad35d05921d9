-- The words so far are named and counted.
use Rattle.shared_lemmas.proofs.Common.{◌≡◌, map, take, string_bytes}
use Rattle.query_reader.specs.Mentions.{words_as_mentions, named_of, unknown_of}
use Rattle.query_reader.proofs.naming.name_terms.Given as goal

abbrev pub invariant-loop-word : goal.invariant-loop-word
invariant-loop-word g l = record {
  named : l.named.items ≡ named_of (g.X.Lexicon.terms l.index) (words_as_mentions (map string_bytes (take l.word-index l.words)));
  unknown : l.unknown ≡ unknown_of (g.X.Lexicon.terms l.index) (words_as_mentions (map string_bytes (take l.word-index l.words)));
}
