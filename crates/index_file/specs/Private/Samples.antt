-- The sampled terms of an opened file: of each 64th term, its first bytes.
use Rattle.std.specs.Prelude.{ℕ, zero, suc, ◌≡◌, ◌+◌, ◌*◌, ◌^◌, ◌<◌, ◌≤◌, List, [], ◌∷◌, length, slice_index, slice_range, All}
use Rattle.index_file.specs.declared.term_row.TermRow.{TermRow}
use Rattle.index_file.specs.Private.Tables.{row_at}

-- the first bytes of a text as a number, the first of them the highest; a byte that it doesn't have counts 0
abbrev pub leading : ℕ → List ℕ → ℕ
leading zero text = 0
leading (suc k) [] = 0
leading (suc k) (byte ∷ text) = byte * 256 ^ k + leading k text

-- of its first eight bytes
unfoldable pub first_eight : List ℕ → ℕ
first_eight text = leading 8 text

-- the text of the term between a row and the next
abbrev pub text_at : List ℕ → List TermRow → ℕ → List ℕ
text_at text rows i = slice_range text (row_at rows i).text (row_at rows (i + 1)).text

-- each sample is of a term of the text, and there are enough of them for all terms
pub record AreSamples (text : List ℕ) (rows : List TermRow) (samples : List ℕ) : Type 0 where
  pub told : (i : ℕ) → i < length samples → slice_index samples i ≡ first_eight (text_at text rows (64 * i))
  pub bytes : All (λ byte. byte < 256) text
  pub enough : length rows ≤ 64 * length samples + 1
