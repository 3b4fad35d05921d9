-- Three tables that keep frames, and a write to one row of them.
use Rattle.shared_lemmas.proofs.Common.{◌≡◌, ℕ, suc, zero, ◌+◌, ◌-◌, ◌<◌, ◌++◌, take, inl, inr, true, false, List, [], ◌∷◌, length, map, get_or, set, replicate, refl, sym, ap, ◌∙◌, subst, arith, length-set, range_with_len, cases_lt, length-replicate, set-get_or, length-append, length-take}
use Rattle.shared_lemmas.proofs.Common.{get_or-take, get_or_append_left, get_or-append_right, get_or-replicate, get_or_past, get_or_read, take-append_seam}
use Rattle.frame_pool.specs.declared.store.Head.{Head}
use Rattle.frame_pool.specs.Pool.{slots_of}
use Rattle.frame_pool.specs.Frames.{Frame, blank, free_frame}
use Rattle.frame_pool.specs.Private.Tables.{AreRows, IsRow, frame_of, frames_of, free_head}

-- ---- the slots that a list makes

pub whole : (list : List ℕ) → length list ≡ 256 → slots_of list ≡ list
unfolding slots_of
whole list size = ap (λ (n : ℕ). take n (list ++ replicate 256 0)) (sym size) ∙ take-append_seam list (replicate 256 0)

pub length-slots_of : (list : List ℕ) → length (slots_of list) ≡ 256
unfolding slots_of
length-slots_of list = omega (arith, length-take 256 (list ++ replicate 256 0), length-append list (replicate 256 0), length-replicate {A = ℕ} 256 0)

pub slot-at : (list : List ℕ) (s : ℕ) → s < 256 → get_or (slots_of list) s 0 ≡ get_or list s 0
unfolding slots_of
slot-at list s small = get_or-take 256 (list ++ replicate 256 0) s 0 small
    ∙ elim (cases_lt s (length list)) as (λ _. get_or (list ++ replicate 256 0) s 0 ≡ get_or list s 0) [
      | inl within ↦ get_or_append_left list (replicate 256 0) 0 s within
      | inr past ↦ get_or-append_right list (replicate 256 0) (length list) s 0 refl past ∙ get_or-replicate 256 (s - length list) 0 0 (omega arith) ∙ sym (get_or_past list s 0 past)
    ]

no_scores : slots_of (replicate 256 0) ≡ replicate 256 0
no_scores = whole (replicate 256 0) (length-replicate {A = ℕ} 256 0)

-- ---- tables

pub counts : (heads : List Head) (scores places : List (List ℕ)) → AreRows heads scores places → (length scores ≡ length heads) × (length places ≡ length heads)
counts [] [] [] rows = (refl, refl)
counts (h ∷ heads) (s ∷ scores) (p ∷ places) rows = let rest = counts heads scores places rows.1 in (ap suc rest.0, ap suc rest.1)
counts heads scores places rows = absurd rows

pub length-frames : (heads : List Head) (scores places : List (List ℕ)) → AreRows heads scores places → length (frames_of heads scores places) ≡ length heads
length-frames [] [] [] rows = refl
length-frames (h ∷ heads) (s ∷ scores) (p ∷ places) rows = ap suc (length-frames heads scores places rows.1)
length-frames heads scores places rows = absurd rows

-- one row, and the frame that it is
pub row_at : (heads : List Head) (scores places : List (List ℕ)) (f : ℕ) (h : Head) (p : List ℕ) → AreRows heads scores places → f < length heads
    → IsRow (get_or heads f h) (get_or places f p)
row_at [] scores places f h p rows inside = absurd (omega arith)
row_at (x ∷ heads) [] places f h p rows inside = absurd rows
row_at (x ∷ heads) (y ∷ scores) [] f h p rows inside = absurd rows
row_at (x ∷ heads) (y ∷ scores) (z ∷ places) zero h p rows inside = rows.0
row_at (x ∷ heads) (y ∷ scores) (z ∷ places) (suc f) h p rows inside = row_at heads scores places f h p rows.1 (omega arith)

pub frame_at : (heads : List Head) (scores places : List (List ℕ)) (f : ℕ) (h : Head) (s p : List ℕ) → AreRows heads scores places → f < length heads
    → get_or (frames_of heads scores places) f blank ≡ frame_of (get_or heads f h) (get_or scores f s) (get_or places f p)
frame_at [] scores places f h s p rows inside = absurd (omega arith)
frame_at (x ∷ heads) [] places f h s p rows inside = absurd rows
frame_at (x ∷ heads) (y ∷ scores) [] f h s p rows inside = absurd rows
frame_at (x ∷ heads) (y ∷ scores) (z ∷ places) zero h s p rows inside = refl
frame_at (x ∷ heads) (y ∷ scores) (z ∷ places) (suc f) h s p rows inside = frame_at heads scores places f h s p rows.1 (omega arith)

-- all three rows of a frame are written
pub rows-set : (heads : List Head) (scores places : List (List ℕ)) (f : ℕ) (h : Head) (s p : List ℕ) → AreRows heads scores places → IsRow h p
    → AreRows (set heads f h) (set scores f s) (set places f p)
rows-set [] [] [] f h s p rows row = rows
rows-set (x ∷ heads) (y ∷ scores) (z ∷ places) zero h s p rows row = (row, rows.1)
rows-set (x ∷ heads) (y ∷ scores) (z ∷ places) (suc f) h s p rows row = (rows.0, rows-set heads scores places f h s p rows.1 row)
rows-set heads scores places f h s p rows row = absurd rows

frames-set : (heads : List Head) (scores places : List (List ℕ)) (f : ℕ) (h : Head) (s p : List ℕ) → AreRows heads scores places
    → frames_of (set heads f h) (set scores f s) (set places f p) ≡ set (frames_of heads scores places) f (frame_of h s p)
frames-set [] [] [] f h s p rows = refl
frames-set (x ∷ heads) (y ∷ scores) (z ∷ places) zero h s p rows = refl
frames-set (x ∷ heads) (y ∷ scores) (z ∷ places) (suc f) h s p rows = ap (λ (fs : List Frame). frame_of x y z ∷ fs) (frames-set heads scores places f h s p rows.1)
frames-set heads scores places f h s p rows = absurd rows

-- the number of a frame in the list is a place of each table
pub inside_all : (heads : List Head) (scores places : List (List ℕ)) (frames : List Frame) (f : ℕ) → AreRows heads scores places → frames_of heads scores places ≡ frames → f < length frames
    → (f < length heads) × (f < length scores) × (f < length places)
inside_all heads scores places frames f rows view inside =
    let same = counts heads scores places rows in let size = length-frames heads scores places rows in
    (omega (arith, size, ap (λ (fs : List Frame). length fs) view), omega (arith, size, same.0, ap (λ (fs : List Frame). length fs) view), omega (arith, size, same.1, ap (λ (fs : List Frame). length fs) view))

-- the frame that the list has there
pub frame_there : (heads : List Head) (scores places : List (List ℕ)) (frames : List Frame) (f : ℕ) (h : Head) (s p : List ℕ) → AreRows heads scores places → frames_of heads scores places ≡ frames → f < length frames
    → get_or frames f blank ≡ frame_of (get_or heads f h) (get_or scores f s) (get_or places f p)
frame_there heads scores places frames f h s p rows view inside =
    ap (λ (fs : List Frame). get_or fs f blank) (sym view) ∙ frame_at heads scores places f h s p rows (inside_all heads scores places frames f rows view inside).0

-- a row that is read twice
pub same_read : (rows : List (List ℕ)) (f : ℕ) (r s : List ℕ) → f < length rows → r ≡ get_or rows f r → s ≡ get_or rows f s → r ≡ s
same_read rows f r s inside first then = get_or_read rows f r inside first [] ∙ sym (get_or_read rows f s inside then [])

-- the scores of a frame are the row that was read
pub scores_read : (heads : List Head) (scores places : List (List ℕ)) (frames : List Frame) (f : ℕ) (r : List ℕ) → AreRows heads scores places → frames_of heads scores places ≡ frames → f < length frames
    → r ≡ get_or scores f r → length r ≡ 256 → r ≡ (get_or frames f blank).scores
scores_read heads scores places frames f r rows view inside is size =
    sym (whole r size) ∙ ap slots_of is ∙ sym (ap (λ (x : Frame). x.scores) (frame_there heads scores places frames f (free_head 0) r [] rows view inside))

-- ---- a write to one frame

-- tables that keep these frames
pub record Keep (heads : List Head) (scores places : List (List ℕ)) (frames : List Frame) : Type 0 where
  pub rows : AreRows heads scores places
  pub view : frames_of heads scores places ≡ frames

keep_written : (heads heads' : List Head) (scores scores' places places' : List (List ℕ)) (frames : List Frame) (f : ℕ) (h : Head) (s p : List ℕ) (new : Frame) → AreRows heads scores places
    → frames_of heads scores places ≡ frames → heads' ≡ set heads f h → scores' ≡ set scores f s → places' ≡ set places f p → IsRow h p → frame_of h s p ≡ new
    → Keep heads' scores' places' (set frames f new)
keep_written heads heads' scores scores' places places' frames f h s p new rows view heads_are scores_are places_are row new_is = record {
  rows = subst (λ (hs : List Head). AreRows hs scores' places') (sym heads_are)
      (subst (λ (ss : List (List ℕ)). AreRows (set heads f h) ss places') (sym scores_are)
      (subst (λ (ps : List (List ℕ)). AreRows (set heads f h) (set scores f s) ps) (sym places_are) (rows-set heads scores places f h s p rows row)));
  view = ap (λ (hs : List Head). frames_of hs scores' places') heads_are ∙ ap (λ (ss : List (List ℕ)). frames_of (set heads f h) ss places') scores_are
      ∙ ap (λ (ps : List (List ℕ)). frames_of (set heads f h) (set scores f s) ps) places_are ∙ frames-set heads scores places f h s p rows
      ∙ ap (λ (fs : List Frame). set fs f (frame_of h s p)) view ∙ ap (λ (x : Frame). set frames f x) new_is;
}

module _ (heads : List Head) (scores places : List (List ℕ)) (frames : List Frame) (f : ℕ) (rows : AreRows heads scores places) (view : frames_of heads scores places ≡ frames) (inside : f < length frames) where
  here : f < length heads
  here = (inside_all heads scores places frames f rows view inside).0

  pub scores_set : (slots : List ℕ) → Keep heads (set scores f slots) places (set frames f (record (get_or frames f blank) { scores = slots_of slots }))
  scores_set slots =
      let h : Head = get_or heads f (free_head 0) in
      let p : List ℕ = get_or places f [] in
      let row = row_at heads scores places f (free_head 0) [] rows here in
      keep_written heads heads scores (set scores f slots) places places frames f h slots p _ rows view
      (sym (set-get_or heads f (free_head 0))) refl (sym (set-get_or places f [])) (record { place_slots = row.place_slots; unset = row.unset })
      (sym (ap (λ (x : Frame). let y : Frame = record x { scores = slots_of slots } in y) (frame_there heads scores places frames f (free_head 0) [] [] rows view inside)))

  pub place_set : (slot v : ℕ) (head : Head) (read : List ℕ) → head ≡ get_or heads f head → read ≡ get_or places f read
      → Keep (set heads f (record head { placed = true })) scores (set places f (set read slot v)) (set frames f (record (get_or frames f blank) { places = set (get_or frames f blank).places slot v }))
  place_set slot v head read head_is is =
      let s : List ℕ = get_or scores f [] in
      let h : Head = record head { placed = true } in
      let row = row_at heads scores places f head read rows here in
      keep_written heads (set heads f h) scores scores places (set places f (set read slot v)) frames f h s (set read slot v) _ rows view
      refl (sym (set-get_or scores f [])) refl
      (record { place_slots = length-set read slot v ∙ ap (λ (xs : List ℕ). length xs) is ∙ row.place_slots; unset = λ e. absurd (not_set e) })
      (ap (λ (x : Head). frame_of (let y : Head = record x { placed = true } in y) s (set read slot v)) head_is
      ∙ ap (λ (p : List ℕ). frame_of (get_or heads f head) s (set p slot v)) is
      ∙ sym (ap (λ (x : Frame). let y : Frame = record x { places = set x.places slot v } in y) (frame_there heads scores places frames f head [] read rows view inside)))
    where
      not_set : true ≡ false → ⊥
      not_set e = cc

  pub link_set : (next : ℕ) (head : Head) → head ≡ get_or heads f head
      → Keep (set heads f (record head { next = next })) scores places (set frames f (record (get_or frames f blank) { next = next }))
  link_set next head head_is =
      let s : List ℕ = get_or scores f [] in
      let p : List ℕ = get_or places f [] in
      let h : Head = record head { next = next } in
      let row = row_at heads scores places f head [] rows here in
      keep_written heads (set heads f h) scores scores places places frames f h s p _ rows view
      refl (sym (set-get_or scores f [])) (sym (set-get_or places f []))
      (record { place_slots = row.place_slots; unset = λ e. row.unset (sym (ap (λ (x : Head). x.placed) head_is) ∙ e) })
      (ap (λ (x : Head). frame_of (let y : Head = record x { next = next } in y) s p) head_is
      ∙ sym (ap (λ (x : Frame). let y : Frame = record x { next = next } in y) (frame_there heads scores places frames f head [] [] rows view inside)))

  pub cleared_set : (page next : ℕ) (s p : List ℕ) → s ≡ replicate 256 0 → p ≡ replicate 256 0
      → Keep (set heads f (record { page = page; next = next; placed = false })) (set scores f s) (set places f p) (set frames f (record { scores = replicate 256 0; places = replicate 256 0; page = page; next = next }))
  cleared_set page next s p s_is p_is =
      let h : Head = record { page = page; next = next; placed = false } in
      keep_written heads (set heads f h) scores (set scores f s) places (set places f p) frames f h s p _ rows view refl refl refl
      (record { place_slots = ap (λ (xs : List ℕ). length xs) p_is ∙ length-replicate {A = ℕ} 256 0; unset = λ _. p_is })
      (ap (λ (xs : List ℕ). frame_of h xs p) s_is ∙ ap (λ (xs : List ℕ). frame_of h (replicate 256 0) xs) p_is
      ∙ ap (λ (xs : List ℕ). let y : Frame = record { scores = xs; places = replicate 256 0; page = page; next = next } in y) no_scores)

-- ---- new tables

new_rows : (count : ℕ) (a : ℕ) → AreRows (map free_head (range_with_len a count)) (replicate count (replicate 256 0)) (replicate count (replicate 256 0))
new_rows zero a = tt
new_rows (suc count) a = (record { place_slots = length-replicate {A = ℕ} 256 0; unset = λ _. refl }, new_rows count (a + 1))

new_frames : (count : ℕ) (a : ℕ) → frames_of (map free_head (range_with_len a count)) (replicate count (replicate 256 0)) (replicate count (replicate 256 0)) ≡ map free_frame (range_with_len a count)
new_frames zero a = refl
new_frames (suc count) a =
    let front = λ (xs : List ℕ). let y : Frame = record { scores = xs; places = replicate 256 0; page = 0; next = a } in y in
    ap (λ (fs : List Frame). front (slots_of (replicate 256 0)) ∷ fs) (new_frames count (a + 1))
    ∙ ap (λ (xs : List ℕ). front xs ∷ map free_frame (range_with_len (a + 1) count)) no_scores

pub new_tables : (count : ℕ) (heads : List Head) (scores places : List (List ℕ)) → heads ≡ map free_head (range_with_len 1 count) → scores ≡ replicate count (replicate 256 0) → places ≡ replicate count (replicate 256 0)
    → AreRows heads scores places × (frames_of heads scores places ≡ map free_frame (range_with_len 1 count))
new_tables count heads scores places heads_are scores_are places_are = (
  subst (λ (hs : List Head). AreRows hs scores places) (sym heads_are)
      (subst (λ (ss : List (List ℕ)). AreRows (map free_head (range_with_len 1 count)) ss places) (sym scores_are)
      (subst (λ (ps : List (List ℕ)). AreRows (map free_head (range_with_len 1 count)) (replicate count (replicate 256 0)) ps) (sym places_are) (new_rows count 1))),
  ap (λ (hs : List Head). frames_of hs scores places) heads_are ∙ ap (λ (ss : List (List ℕ)). frames_of (map free_head (range_with_len 1 count)) ss places) scores_are
      ∙ ap (λ (ps : List (List ℕ)). frames_of (map free_head (range_with_len 1 count)) (replicate count (replicate 256 0)) ps) places_are ∙ new_frames count 1,
)
