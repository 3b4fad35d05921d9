-- A message as the bytes that a window holds have it, whether or not the content is told.
use Rattle.shared_lemmas.proofs.Common.{◌≡◌, ℕ, ◌+◌, ◌-◌, ◌^◌, ◌<◌, ◌≤◌, List, length, drop, Result, Ok, refl, sym, ap, subst, ◌∙◌, arith, drop-drop, length-drop}
use Rattle.std.specs.Prelude.{slice_range}
use Rattle.jass_base.specs.Ciff.{ListData}
use Rattle.jass_base.specs.CiffViews.{list_data}
use Rattle.jass_base.specs.declared.postings_list.PostingsList.{PostingsList}
use Rattle.ciff_read.proofs.Below.{ReadsVarint, WireWhy, varint_at}
use Rattle.ciff_read.specs.Private.Reaching.{HoldsSize}
use Rattle.ciff_read.specs.Reading.{Message, message_at}
use Rattle.whole_files.specs.declared.window.Window.{Window}
use Rattle.whole_files.specs.Windows.{AreFrom, IsAt, KeepsFrom}
use Rattle.whole_files.proofs.Windows.{all_from}
use Rattle.ciff_read.proofs.HeldMessages.{size_there, message_held}

-- the length that is read among the bytes
pub size_held : (w : Window) (at : ℕ) (x : ℕ × ℕ) (bytes : List ℕ) → IsAt at w → bytes ≡ w.bytes.items → ReadsVarint bytes (at - w.start) (Ok x) → HoldsSize at w (x.0, w.start + x.1)
size_held w at x bytes place same read =
    let there : varint_at (drop (at - w.start) w.bytes.items) ≡ Ok (x.0, drop x.1 w.bytes.items) = subst (λ (s : List ℕ). varint_at (drop (at - w.start) s) ≡ Ok (x.0, drop x.1 s)) same read.0 in
    let near : x.1 ≡ w.start + x.1 - w.start = omega arith in
    record {
      is_at = place;
      read = there ∙ ap (λ n. Ok (x.0, drop n w.bytes.items)) near;
      within = omega (arith, read.2, ap length same);
    }

-- it is the same once the window holds more, and so is the body behind it
module _ (at : ℕ) (one two : Window) (x : ℕ × ℕ) (held : HoldsSize at one x) (before : at < x.1) (keeps : KeepsFrom at one two) (place : IsAt at two) where
  abbrev front : List ℕ
  front = drop (at - one.start) one.bytes.items

  kept : AreFrom two.bytes.items (at - two.start) front
  kept = keeps held.is_at

  size_front : varint_at (drop (at - two.start - (at - two.start)) front) ≡ Ok (x.0, drop (x.1 - at) front)
  size_front =
      let none : at - two.start - (at - two.start) ≡ 0 = omega arith in
      let behind : at - one.start + (x.1 - at) ≡ x.1 - one.start = omega (arith, before, held.is_at.not_before) in
      ap (λ n. varint_at (drop n front)) none ∙ held.read ∙ ap (λ (s : List ℕ). Ok (x.0, s)) (sym (drop-drop (x.1 - at) (at - one.start) one.bytes.items ∙ ap (λ n. drop n one.bytes.items) behind))

  size_on : (varint_at (drop (at - two.start) two.bytes.items) ≡ Ok (x.0, drop (at - two.start + (x.1 - at)) two.bytes.items)) × (at - two.start + (x.1 - at) ≤ length two.bytes.items)
  size_on =
      size_there two.bytes.items front (at - two.start) kept (at - two.start) (omega arith) (omega arith) (x.1 - at) x.0 size_front (omega (arith, before))
      (omega (arith, held.within, held.is_at.not_before, before, length-drop (at - one.start) one.bytes.items))

  pub body_held : (count from end : ℕ) → x.1 + x.0 ≤ 2 ^ 32 → count ≡ x.1 - at + x.0 → count ≤ length two.bytes.items - (at - two.start) → from ≡ at - two.start + (x.1 - at) → end ≡ at - two.start + count
      → message_at (at - two.start) (drop (at - two.start) two.bytes.items) ≡ Ok (record { from = from; body = slice_range two.bytes.items from end; rest = drop end two.bytes.items })
  body_held count from end fits counted long from_is end_is =
      let bytes : List ℕ = two.bytes.items in
      let Same : ℕ → ℕ → Type 0 = λ f e. message_at (at - two.start) (drop (at - two.start) bytes) ≡ Ok (record { from = f; body = slice_range bytes from end; rest = drop e bytes }) in
      let none : 0 + from ≡ from = omega arith in
      let behind : 0 + end ≡ end = omega arith in
      subst (λ n. Same n end) none (subst (λ n. Same (0 + from) n) behind
      (message_held two.bytes.items two.bytes.items 0 (all_from 0 two.bytes.items) (at - two.start) (omega arith) (omega (arith, place.not_before, place.not_behind)) (at - two.start + (x.1 - at)) x.0 size_on.0 (omega (arith, before)) size_on.1
      (omega (arith, fits, place.not_before, before)) count from end (omega (arith, counted)) (omega (arith, long)) (omega (arith, from_is)) (omega (arith, end_is))).0)
