-- What private functions say of payloads that were read without a fault, word by word, and of documents.
use Rattle.std.specs.Prelude.{ℕ, zero, suc, ◌≡◌, ◌*◌, ◌-◌, ◌/◌, ◌%◌, ◌^◌, ◌<◌, ◌==◌, ◌&&◌, ◌||◌, Bool, not, List, [], ◌++◌, length, drop, All, nat_lt}
use Rattle.codec_simple8.specs.Simple8.{count_of, width_of, takes, gaps_in, word_in}
use Rattle.jass_base.specs.declared.limits.TheConstants.{MOST_DOCUMENTS}

-- the gaps of so many words at the front of bytes
abbrev pub words_gaps : ℕ → List ℕ → List ℕ
words_gaps zero bytes = []
words_gaps (suc n) bytes = gaps_in (word_in bytes) ++ words_gaps n (drop 8 bytes)

-- the gaps of all words of bytes
unfoldable pub bytes_gaps : List ℕ → List ℕ
bytes_gaps bytes = words_gaps (length bytes / 8) bytes

-- the bytes are whole words with so many gaps, each of which a document can have
pub record AreWords (bytes : List ℕ) (left : ℕ) : Type 0 where
  pub whole : length bytes % 8 ≡ 0
  pub count : length (bytes_gaps bytes) ≡ left
  pub below : All (λ gap. gap < MOST_DOCUMENTS) (bytes_gaps bytes)

-- whether gaps that begin with a word's own are spelled with this word: it has no bit set that it doesn't use, and the selector before its own doesn't take them
unfoldable pub spells_them : ℕ → List ℕ → Bool
spells_them word gaps = nat_lt (word / 16) (2 ^ (width_of (word % 16) * count_of (word % 16))) && (word % 16 == 0 || not (takes (word % 16 - 1) gaps))
