-- What a cursor of a bitmap gives next.
use Rattle.shared_lemmas.proofs.Common.{◌≡◌, ◌↔◌, ℕ, ◌+◌, ◌-◌, ◌*◌, ◌<◌, ◌≤◌, List, [], ◌++◌, length, take, drop, sym, ap, ◌∙◌, subst, arith, length-drop, length-append, length-take-le, drop-drop, drop_all, take-append-drop, take-append_seam, drop-append_seam}
use Rattle.lane_kernels.specs.Bitmap.{set_bits}
use Rattle.plain_codecs.specs.declared.bitmap.cursor.Cursor.{Cursor}
use Rattle.plain_codecs.specs.BitmapCursor.{Gives}
use Rattle.plain_codecs.proofs.Bitmaps.{SetParts, none_set}

module _ (parts : SetParts) (cursor : Cursor) (bytes docs : List ℕ) (gives : Gives cursor bytes docs) (end : ℕ) (up : cursor.at ≤ end) (inside : end ≤ length bytes) where
  abbrev pub size : ℕ
  size = end - cursor.at

  abbrev pub front : List ℕ
  front = take size (drop cursor.at bytes)

  abbrev pub here : List ℕ
  here = set_bits (8 * cursor.at) front

  abbrev pub behind : List ℕ
  behind = set_bits (8 * end) (drop end bytes)

  docs_parted : docs ≡ here ++ behind
  docs_parted =
      let s : List ℕ = drop cursor.at bytes in
      let front_is : List ℕ = take size s in
      let long : length front_is ≡ size = length-take-le size s (omega (arith, length-drop cursor.at bytes)) in
      let base : 8 * cursor.at + 8 * length front_is ≡ 8 * end = omega (arith, long) in
      let place : cursor.at + size ≡ end = omega arith in
      gives.docs_are
      ∙ ap (set_bits (8 * cursor.at)) (sym (take-append-drop size s))
      ∙ parts (8 * cursor.at) front_is (drop size s)
      ∙ ap (λ n. here ++ set_bits n (drop size s)) base
      ∙ ap (λ (xs : List ℕ). here ++ set_bits (8 * end) xs) (drop-drop size cursor.at bytes ∙ ap (λ n. drop n bytes) place)

  module _ (count : ℕ) (is : count ≡ length here) where
    pub block : (out : List ℕ) → take count out ≡ here → take count out ≡ take count docs
    block out same = same ∙ sym (ap (take count) docs_parted ∙ ap (λ n. take n (here ++ behind)) is ∙ take-append_seam here behind)

    rest_is : drop count docs ≡ behind
    rest_is = ap (drop count) docs_parted ∙ ap (λ n. drop n (here ++ behind)) is ∙ drop-append_seam here behind

    pub rest : Gives (record { at = end }) bytes (drop count docs)
    rest = record { docs_are = rest_is; within = inside; room = gives.room }

    pub skipped : count ≤ 0 → Gives (record { at = end }) bytes docs
    skipped none = subst (λ n. Gives (record { at = end }) bytes (drop n docs)) (let e : count ≡ 0 = omega arith in e) rest

    pub not_end : 0 < count → (count ≡ 0) ↔ (docs ≡ [])
    not_end some = (
      (λ none. absurd (omega arith)),
      (λ none. absurd (omega (arith, is, ap (λ (xs : List ℕ). length xs) none, ap (λ (xs : List ℕ). length xs) docs_parted, length-append here behind))),
    )

pub at_end : (cursor : Cursor) (bytes docs : List ℕ) → Gives cursor bytes docs → length bytes ≤ cursor.at → docs ≡ []
at_end cursor bytes docs gives past = gives.docs_are ∙ ap (set_bits (8 * cursor.at)) (drop_all cursor.at bytes past) ∙ none_set (8 * cursor.at)
