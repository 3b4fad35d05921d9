-- Pieces of a segment that are handed out.
use Rattle.shared_lemmas.proofs.Common.{◌≡◌, ◌≢◌, ℕ, ◌+◌, ◌≤◌, ◌↔◌, List, [], ◌++◌, length, take, drop, sym, ap, ◌∙◌, arith, inl, inr, cases_lt, slice_range, take-append-drop, length-take-le, append-nil, refl, ◌-◌}
use Rattle.std.proofs.lemmas.List.{nil_from_length}
use Rattle.lane_kernels.specs.Bitmap.{set_bits}
use Rattle.plain_codecs.proofs.Bitmaps.{none_set}
use Rattle.index_layout.specs.View.{FileView, view_payloads}
use Rattle.index_file.specs.Handing.{HandsOn, IsBitmapAt}
use Rattle.index_file.specs.Sources.{HandsOut}
use Rattle.index_file.specs.declared.handing.Handing.TheVariants.{Bitmap}
use Rattle.index_file.specs.declared.piece.Piece.TheVariants.{Block}

-- nothing is handed out only where nothing is left
some_handed : (count : ℕ) (docs : List ℕ) → (count ≡ 0 → docs ≡ []) → docs ≢ [] → 1 ≤ count
some_handed count docs none some = elim (cases_lt 0 count) [
  | inl any ↦ any
  | inr nothing ↦ absurd (some (none (omega (arith, nothing))))
]

-- the documents at the front of a block, which is long enough
pub block_handed : (left : List ℕ → Type 0) (count : ℕ) (block docs : List ℕ) → count ≤ length block → take count block ≡ take count docs → left (drop count docs) → (count ≡ 0 ↔ docs ≡ [])
    → HandsOut left (Block count) block docs
block_handed left count block docs fits front stays end = record {
  rest = drop count docs;
  parted = ap (λ (l : List ℕ). l ++ drop count docs) front ∙ take-append-drop count docs;
  stays = stays;
  count = sym (length-take-le count block fits);
  some = some_handed count docs end.0;
}

nothing_between : (bytes : List ℕ) (from : ℕ) → slice_range bytes from (from + 0) ≡ []
nothing_between bytes from = let none : from + 0 - from ≡ 0 = omega arith in ap (λ n. take n (drop from bytes)) none

-- the documents of a whole bitmap
pub all_handed : (file : FileView) (from size count : ℕ) (bits docs : List ℕ) → bits ≡ slice_range (view_payloads file) from (from + size) → IsBitmapAt file from size count docs → set_bits 0 bits ++ [] ≡ docs
all_handed file from size count bits docs here is = append-nil (set_bits 0 bits) ∙ ap (set_bits 0) here ∙ is.set

pub as_many_handed : (file : FileView) (from size count : ℕ) (bits docs : List ℕ) → bits ≡ slice_range (view_payloads file) from (from + size) → IsBitmapAt file from size count docs → count ≡ length (set_bits 0 bits)
as_many_handed file from size count bits docs here is = is.counted ∙ ap (λ (l : List ℕ). length l) (sym (ap (set_bits 0) here ∙ is.set))

pub some_of_all : (file : FileView) (from size count : ℕ) (docs : List ℕ) → IsBitmapAt file from size count docs → docs ≢ [] → 1 ≤ count
some_of_all file from size count docs is = some_handed count docs (λ none. nil_from_length docs (sym is.counted ∙ none))

-- nothing is left of a bitmap behind it
pub none_left : (file : FileView) (from size count : ℕ) (docs : List ℕ) → IsBitmapAt file from size count docs → HandsOn file (Bitmap from 0 0) []
none_left file from size count docs is =
    let within = is.within in
    record {
      within = omega (arith, within);
      few = omega arith;
      set = ap (set_bits 0) (nothing_between (view_payloads file) from) ∙ none_set 0;
      counted = refl;
    }
