-- The bytes of an index file in version 1. This project's.
use Rattle.std.specs.Prelude.{ℕ, ◌+◌, List, [], ◌∷◌, ◌++◌, length, flat_map}
use Rattle.index_layout.specs.Bytes.{u16_bytes, u32_bytes, u64_bytes}
use Rattle.index_layout.specs.Heads.{TermHeads, head_postings, payloads_size, greatest_impact}
use Rattle.index_layout.specs.Layout.{old_magic, heads_bytes}

-- where each name begins among the names, and where the last one ends
abbrev pub offsets_from : ℕ → List (List ℕ) → List ℕ
offsets_from at [] = at ∷ []
offsets_from at (name ∷ names) = at ∷ offsets_from (at + length name) names

abbrev pub offsets_bytes : List (List ℕ) → List ℕ
offsets_bytes names = flat_map u32_bytes (offsets_from 0 names)

-- the names, one behind the other
abbrev pub joined : List (List ℕ) → List ℕ
joined names = flat_map (λ (name : List ℕ). name) names

-- a term behind its length, with the number of its segments and their heads
unfoldable pub term1_bytes : TermHeads → List ℕ
term1_bytes t = u16_bytes (length t.term) ++ (t.term ++ (u32_bytes (length t.heads) ++ heads_bytes t.heads))

abbrev pub terms1_bytes : List TermHeads → List ℕ
terms1_bytes terms = flat_map term1_bytes terms

-- how many bytes the file has
abbrev pub file1_length : List (List ℕ) → List TermHeads → ℕ
file1_length names terms =
    40 + length (offsets_bytes names) + length (joined names) + length (terms1_bytes terms) + payloads_size terms

-- the first 40 bytes
unfoldable pub totals1_bytes : List (List ℕ) → List TermHeads → List ℕ
totals1_bytes names terms =
    old_magic ++ (u64_bytes (file1_length names terms) ++ (u32_bytes (length names) ++ (u32_bytes (length terms)
    ++ (u64_bytes (head_postings terms) ++ (u32_bytes (greatest_impact terms) ++ u32_bytes 0)))))

-- what stands before the payloads
unfoldable pub front1_bytes : List (List ℕ) → List TermHeads → List ℕ
front1_bytes names terms = totals1_bytes names terms ++ (offsets_bytes names ++ (joined names ++ terms1_bytes terms))
