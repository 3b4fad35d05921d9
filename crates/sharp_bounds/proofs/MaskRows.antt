-- Rows of masks: one more row changes no mask, one more bit changes one, and the rows are those of the pages with a mask.
use Rattle.shared_lemmas.proofs.Common.{◌≡◌, ◌≢◌, ℕ, zero, suc, ◌+◌, ◌/◌, ◌%◌, ◌^◌, ◌<◌, ◌≤◌, ◌==◌, bit_or, List, [], ◌∷◌, ◌++◌, length, map, get_or, set, replicate, count_by, true, false, not, cond, refl, sym, ap, subst, ◌∙◌, arith, inl, inr, ◌⊎◌}
use Rattle.shared_lemmas.proofs.Common.{AllByRecursion, range_with_len, cases_eq, cases_lt, eqb_tells, get_or_past, get_or_read, get_or-append, get_or-append_seam, get_or-replicate, get_or-set_same, get_or-set_other, length-set, length-append, length-replicate, ext_get_or, sum_by-set, get_or-map-range_with_len, length-map-range_with_len, length-range_with_len, le_or_r, pow_pos}
use Rattle.shared_lemmas.proofs.Lists.{all_append}
use Rattle.accumulator_pages.specs.Adding.{page_count, page_is_touched, touched_pages}
use Rattle.accumulator_pages.specs.Pages.{no_frame, HasTouched}
use Rattle.accumulator_pages.proofs.Counting.{pages_counted, touched_there, untouched_there}
use Rattle.sharp_bounds.specs.Private.MaskRows.{mask_in, masks_of, AreRowsOf, MasksKept}

-- ---- one more row

zero_there : (slot : ℕ) → ◌≡◌ {A = ℕ} (get_or (replicate 256 0) slot 0) 0
zero_there slot = elim (cases_lt slot 256) [
  | inl inside ↦ get_or-replicate 256 slot 0 0 inside
  | inr past ↦ get_or_past (replicate 256 0) slot 0 (let n = length-replicate {A = ℕ} 256 0 in omega (arith, past, n))
]

nothing_past : (rows : List (List ℕ)) (entry slot : ℕ) → length rows ≤ entry → get_or (get_or rows entry []) slot 0 ≡ 0
nothing_past rows entry slot past = ap (λ (row : List ℕ). get_or row slot 0) (get_or_past rows entry [] past) ∙ get_or_past [] slot 0 (omega arith)

-- behind the others it is read like none
same_slot : (rows : List (List ℕ)) (entry slot : ℕ) → get_or (get_or (rows ++ replicate 256 0 ∷ []) entry []) slot 0 ≡ get_or (get_or rows entry []) slot 0
same_slot rows entry slot = by (cases_lt entry (length rows)) (cases_eq entry (length rows)) where
  by : (entry < length rows) ⊎ (length rows ≤ entry) → (entry ≡ length rows) ⊎ (entry ≡ length rows → ⊥) → get_or (get_or (rows ++ replicate 256 0 ∷ []) entry []) slot 0 ≡ get_or (get_or rows entry []) slot 0
  by (inl inside) other = ap (λ (row : List ℕ). get_or row slot 0) (get_or-append rows (replicate 256 0 ∷ []) [] entry inside)
  by (inr past) (inl is) = ap (λ n. get_or (get_or (rows ++ replicate 256 0 ∷ []) n []) slot 0) is ∙ ap (λ (row : List ℕ). get_or row slot 0) (get_or-append_seam rows (replicate 256 0) [] [])
      ∙ zero_there slot ∙ sym (nothing_past rows entry slot past)
  by (inr past) (inr apart) = nothing_past (rows ++ replicate 256 0 ∷ []) entry slot (let n = length-append rows (replicate 256 0 ∷ []) in omega arith) ∙ sym (nothing_past rows entry slot past)

pub same_masks : (table : List ℕ) (rows : List (List ℕ)) (page doc : ℕ) → page < length table → get_or table page 0 ≡ no_frame → length rows < no_frame
    → mask_in (set table page (length rows)) (rows ++ replicate 256 0 ∷ []) doc ≡ mask_in table rows doc
same_masks table rows page doc inside vacant few = same_slot rows (get_or (set table page (length rows)) (doc / 256) 0) (doc % 256) ∙ by (cases_eq (doc / 256) page) where
  by : (doc / 256 ≡ page) ⊎ (doc / 256 ≡ page → ⊥) → get_or (get_or rows (get_or (set table page (length rows)) (doc / 256) 0) []) (doc % 256) 0 ≡ mask_in table rows doc
  by (inl is) =
      let new : get_or (set table page (length rows)) (doc / 256) 0 ≡ length rows = ap (λ p. get_or (set table page (length rows)) p 0) is ∙ get_or-set_same table page (length rows) 0 inside in
      let old : get_or table (doc / 256) 0 ≡ no_frame = ap (λ p. get_or table p 0) is ∙ vacant in
      nothing_past rows (get_or (set table page (length rows)) (doc / 256) 0) (doc % 256) (omega (arith, new)) ∙ sym (nothing_past rows (get_or table (doc / 256) 0) (doc % 256) (omega (arith, old, few)))
  by (inr apart) = ap (λ entry. get_or (get_or rows entry []) (doc % 256) 0) (get_or-set_other table page (doc / 256) (length rows) 0 apart)

pub masks_pushed : (table : List ℕ) (rows rows' : List (List ℕ)) (page n doc : ℕ) → rows' ≡ rows ++ replicate 256 0 ∷ [] → n ≡ length rows → page < length table → get_or table page 0 ≡ no_frame → length rows < no_frame
    → mask_in (set table page n) rows' doc ≡ mask_in table rows doc
masks_pushed table rows rows' page n doc made is inside vacant few =
    ap (λ (l : List (List ℕ)). mask_in (set table page n) l doc) made ∙ ap (λ m. mask_in (set table page m) (rows ++ replicate 256 0 ∷ []) doc) is ∙ same_masks table rows page doc inside vacant few

pub with_row : (frames : ℕ) (table : List ℕ) (rows : List (List ℕ)) (page : ℕ) → AreRowsOf frames table rows → page < length table → get_or table page 0 ≡ no_frame → length rows < frames
    → AreRowsOf frames (set table page (length rows)) (rows ++ replicate 256 0 ∷ [])
with_row frames table rows page are inside vacant room = record {
  few = are.few;
  within = omega (arith, more, room);
  whole = all_append (λ row. length row ≡ 256) rows (replicate 256 0 ∷ []) are.whole (length-replicate {A = ℕ} 256 0, tt);
  entries = λ p within. entry p (omega (arith, within, same)) (cases_eq p page);
  apart = λ p q pin qin low is. differ p q (omega (arith, pin, same)) (omega (arith, qin, same)) (omega (arith, low, more)) is (cases_eq p page) (cases_eq q page);
  count =
      let changed = sum_by-set (λ (e : ℕ). cond (e == no_frame) 1 0) table page (length rows) 0 inside in
      let old : ◌≡◌ {A = ℕ} (cond (get_or table page 0 == no_frame) 1 0) 1 = ap (λ e. cond {A = ℕ} (e == no_frame) 1 0) vacant in
      let new : ◌≡◌ {A = ℕ} (cond (length rows == no_frame) 1 0) 0 = counted (eqb_tells (length rows) no_frame) in
      omega (arith, changed, old, new, more, same, are.count);
}
  where
    same : length (set table page (length rows)) ≡ length table
    same = length-set table page (length rows)

    more : length (rows ++ replicate 256 0 ∷ []) ≡ length rows + 1
    more = length-append rows (replicate 256 0 ∷ [])

    here : get_or (set table page (length rows)) page 0 ≡ length rows
    here = get_or-set_same table page (length rows) 0 inside

    there : (p : ℕ) → (p ≡ page → ⊥) → get_or (set table page (length rows)) p 0 ≡ get_or table p 0
    there p apart = get_or-set_other table page p (length rows) 0 apart

    counted : ((length rows == no_frame) ≡ true) × (length rows ≡ no_frame) ⊎ ((length rows == no_frame) ≡ false) × (length rows ≢ no_frame) → ◌≡◌ {A = ℕ} (cond (length rows == no_frame) 1 0) 0
    counted (inl alike) = absurd (omega (arith, alike.1, room, are.few))
    counted (inr other) = ap (λ b. cond {A = ℕ} b 1 0) other.0

    entry : (p : ℕ) → p < length table → (p ≡ page) ⊎ (p ≡ page → ⊥) → (get_or (set table page (length rows)) p 0 ≡ no_frame) ⊎ (get_or (set table page (length rows)) p 0 < length (rows ++ replicate 256 0 ∷ []))
    entry p within (inl is) = inr (subst (λ q. get_or (set table page (length rows)) q 0 < length (rows ++ replicate 256 0 ∷ [])) (sym is) (omega (arith, here, more)))
    entry p within (inr apart) = elim (are.entries p within) [ inl none ↦ inl (there p apart ∙ none) | inr low ↦ inr (omega (arith, low, more, there p apart)) ]

    -- an entry that isn't the new row's is another
    old_low : (p : ℕ) → p < length table → get_or table p 0 < length rows + 1 → get_or table p 0 < length rows
    old_low p within low = elim (are.entries p within) [ inl none ↦ absurd (omega (arith, none, low, room, are.few)) | inr less ↦ less ]

    differ : (p q : ℕ) → p < length table → q < length table → get_or (set table page (length rows)) p 0 < length rows + 1 → get_or (set table page (length rows)) p 0 ≡ get_or (set table page (length rows)) q 0
        → (p ≡ page) ⊎ (p ≡ page → ⊥) → (q ≡ page) ⊎ (q ≡ page → ⊥) → p ≡ q
    differ p q pin qin low is (inl a) (inl b) = a ∙ sym b
    differ p q pin qin low is (inl a) (inr b) =
        let mine : get_or (set table page (length rows)) p 0 ≡ length rows = ap (λ n. get_or (set table page (length rows)) n 0) a ∙ here in
        let other = there q b in
        absurd (let less = old_low q qin (omega (arith, mine, is, other)) in omega (arith, less, mine, is, other))
    differ p q pin qin low is (inr a) (inl b) =
        let mine : get_or (set table page (length rows)) q 0 ≡ length rows = ap (λ n. get_or (set table page (length rows)) n 0) b ∙ here in
        let other = there p a in
        absurd (let less = old_low p pin (omega (arith, mine, is, other)) in omega (arith, less, mine, is, other))
    differ p q pin qin low is (inr a) (inr b) =
        let first = there p a in
        are.apart p q pin qin (old_low p pin (omega (arith, low, first))) (sym first ∙ is ∙ there q b)

-- ---- one more bit

all_set : (rows : List (List ℕ)) (at : ℕ) (row : List ℕ) → length row ≡ 256 → AllByRecursion (λ row. length row ≡ 256) rows → AllByRecursion (λ row. length row ≡ 256) (set rows at row)
all_set [] at row is h = tt
all_set (x ∷ rows) zero row is h = (is, h.1)
all_set (x ∷ rows) (suc at) row is h = (h.0, all_set rows at row is h.1)

row_whole : (rows : List (List ℕ)) (at : ℕ) → at < length rows → AllByRecursion (λ row. length row ≡ 256) rows → length (get_or rows at []) ≡ 256
row_whole [] at inside h = absurd (omega arith)
row_whole (x ∷ rows) zero inside h = h.0
row_whole (x ∷ rows) (suc at) inside h = row_whole rows at (omega arith) h.1

module _ (docs frames : ℕ) (table : List ℕ) (rows : List (List ℕ)) (covers : length table ≡ page_count docs) (are : AreRowsOf frames table rows) (doc v : ℕ) (inside : doc < docs) (held : get_or table (doc / 256) 0 < length rows) where
  page_inside : (d : ℕ) → d < docs → d / 256 < length table
  page_inside d within = omega (arith, covers, within)

  abbrev new_rows : List (List ℕ)
  new_rows = set rows (get_or table (doc / 256) 0) (set (get_or rows (get_or table (doc / 256) 0) []) (doc % 256) v)

  mask_there : mask_in table new_rows doc ≡ v
  mask_there = ap (λ (row : List ℕ). get_or row (doc % 256) 0) (get_or-set_same rows (get_or table (doc / 256) 0) (set (get_or rows (get_or table (doc / 256) 0) []) (doc % 256) v) [] held)
      ∙ get_or-set_same (get_or rows (get_or table (doc / 256) 0) []) (doc % 256) v 0 (omega (arith, row_whole rows (get_or table (doc / 256) 0) held are.whole))

  mask_elsewhere : (d : ℕ) → d < docs → d ≢ doc → mask_in table new_rows d ≡ mask_in table rows d
  mask_elsewhere d within apart = by (cases_eq (d / 256) (doc / 256)) where
    by : (d / 256 ≡ doc / 256) ⊎ (d / 256 ≡ doc / 256 → ⊥) → mask_in table new_rows d ≡ mask_in table rows d
    by (inl same) =
        let entry : get_or table (d / 256) 0 ≡ get_or table (doc / 256) 0 = ap (λ p. get_or table p 0) same in
        let slot : d % 256 ≢ doc % 256 = (λ e. apart (omega (arith, same, e))) in
        ap (λ e. get_or (get_or new_rows e []) (d % 256) 0) entry
        ∙ ap (λ (row : List ℕ). get_or row (d % 256) 0) (get_or-set_same rows (get_or table (doc / 256) 0) (set (get_or rows (get_or table (doc / 256) 0) []) (doc % 256) v) [] held)
        ∙ get_or-set_other (get_or rows (get_or table (doc / 256) 0) []) (doc % 256) (d % 256) v 0 slot
        ∙ ap (λ e. get_or (get_or rows e []) (d % 256) 0) (sym entry)
    by (inr other) = ap (λ (row : List ℕ). get_or row (d % 256) 0) (get_or-set_other rows (get_or table (doc / 256) 0) (get_or table (d / 256) 0) (set (get_or rows (get_or table (doc / 256) 0) []) (doc % 256) v) []
        (λ e. other (sym (are.apart (doc / 256) (d / 256) (page_inside doc inside) (page_inside d within) held (sym e)))))

  old_mask : (d : ℕ) → d < docs → get_or (masks_of docs table rows) d 0 ≡ mask_in table rows d
  old_mask d within = get_or-map-range_with_len (mask_in table rows) 0 docs d d 0 within (omega arith)

  new_mask : (d : ℕ) → d < docs → get_or (masks_of docs table new_rows) d 0 ≡ mask_in table new_rows d
  new_mask d within = get_or-map-range_with_len (mask_in table new_rows) 0 docs d d 0 within (omega arith)

  pub masks_written : masks_of docs table new_rows ≡ set (masks_of docs table rows) doc v
  masks_written = ext_get_or 0 (masks_of docs table new_rows) (set (masks_of docs table rows) doc v) (size ∙ sym (length-set (masks_of docs table rows) doc v ∙ size_old)) (λ d within. at d (omega (arith, within, size)) (cases_eq d doc)) where
    size : length (masks_of docs table new_rows) ≡ docs
    size = length-map-range_with_len (mask_in table new_rows) 0 docs

    size_old : length (masks_of docs table rows) ≡ docs
    size_old = length-map-range_with_len (mask_in table rows) 0 docs

    at : (d : ℕ) → d < docs → (d ≡ doc) ⊎ (d ≡ doc → ⊥) → get_or (masks_of docs table new_rows) d 0 ≡ get_or (set (masks_of docs table rows) doc v) d 0
    at d within (inl is) = new_mask d within ∙ ap (mask_in table new_rows) is ∙ mask_there ∙ sym (ap (λ j. get_or (set (masks_of docs table rows) doc v) j 0) is ∙ get_or-set_same (masks_of docs table rows) doc v 0 (omega (arith, inside, size_old)))
    at d within (inr apart) = new_mask d within ∙ mask_elsewhere d within apart ∙ sym (get_or-set_other (masks_of docs table rows) doc d v 0 apart ∙ old_mask d within)

  -- the rows are kept where every other page with one is marked
  pub kept_written : 1 ≤ v → ((page : ℕ) → page ≢ doc / 256 → page < length table → get_or table page 0 < length rows → HasTouched (masks_of docs table rows) page) → MasksKept docs frames table new_rows
  kept_written some others = record {
    covers = covers;
    rows_of = record {
      few = are.few;
      within = omega (arith, are.within, same);
      whole = all_set rows (get_or table (doc / 256) 0) (set (get_or rows (get_or table (doc / 256) 0) []) (doc % 256) v) (length-set (get_or rows (get_or table (doc / 256) 0) []) (doc % 256) v ∙ row_whole rows (get_or table (doc / 256) 0) held are.whole) are.whole;
      entries = λ page within. elim (are.entries page within) [ inl none ↦ inl none | inr low ↦ inr (omega (arith, low, same)) ];
      apart = λ page other pin qin low is. are.apart page other pin qin (omega (arith, low, same)) is;
      count = omega (arith, are.count, same);
    };
    marked = λ page within low. mark page within (omega (arith, low, same)) (cases_eq page (doc / 256));
  }
    where
      same : length new_rows ≡ length rows
      same = length-set rows (get_or table (doc / 256) 0) (set (get_or rows (get_or table (doc / 256) 0) []) (doc % 256) v)

      mark : (page : ℕ) → page < length table → get_or table page 0 < length rows → (page ≡ doc / 256) ⊎ (page ≡ doc / 256 → ⊥) → HasTouched (masks_of docs table new_rows) page
      mark page within low (inl is) = (doc, sym is, omega (arith, some, new_mask doc inside, mask_there))
      mark page within low (inr other) =
          let had = others page other within low in
          (had.0, had.1, subst (λ (masks : List ℕ). 0 < get_or masks had.0 0) (sym masks_written) (omega (arith, had.2, get_or-set_other (masks_of docs table rows) doc had.0 v 0 (λ e. other (sym had.1 ∙ ap (λ d. d / 256) e)))))

-- ---- the rows are those of pages with a mask

module _ (docs frames : ℕ) (table : List ℕ) (rows : List (List ℕ)) (kept : MasksKept docs frames table rows) where
  unmarked : (page : ℕ) → page < length table → get_or table page 0 ≡ no_frame → page_is_touched (masks_of docs table rows) page ≡ false
  unmarked page within vacant = untouched_there (masks_of docs table rows) page (λ d here. at d here (cases_lt d docs)) where
    at : (d : ℕ) → d / 256 ≡ page → (d < docs) ⊎ (docs ≤ d) → get_or (masks_of docs table rows) d 0 ≡ 0
    at d here (inl inside) = get_or-map-range_with_len (mask_in table rows) 0 docs d d 0 inside (omega arith)
        ∙ nothing_past rows (get_or table (d / 256) 0) (d % 256) (omega (arith, kept.rows_of.within, kept.rows_of.few, ap (λ p. get_or table p 0) here, vacant))
    at d here (inr past) = get_or_past (masks_of docs table rows) d 0 (omega (arith, past, length-map-range_with_len (mask_in table rows) 0 docs))

  page_tells : (page : ℕ) → page < length table → page_is_touched (masks_of docs table rows) page ≡ not (get_or table page 0 == no_frame)
  page_tells page within = by (kept.rows_of.entries page within) (eqb_tells (get_or table page 0) no_frame) where
    by : (get_or table page 0 ≡ no_frame) ⊎ (get_or table page 0 < length rows) → ((get_or table page 0 == no_frame) ≡ true) × (get_or table page 0 ≡ no_frame) ⊎ ((get_or table page 0 == no_frame) ≡ false) × (get_or table page 0 ≢ no_frame)
        → page_is_touched (masks_of docs table rows) page ≡ not (get_or table page 0 == no_frame)
    by entry (inl vacant) = unmarked page within vacant.1 ∙ sym (ap not vacant.0)
    by (inl none) (inr other) = absurd (other.1 none)
    by (inr low) (inr other) = touched_there (masks_of docs table rows) page (kept.marked page within low) ∙ sym (ap not other.0)

  rows_are_pages : length rows ≡ touched_pages (masks_of docs table rows)
  rows_are_pages =
      let masks : List ℕ = masks_of docs table rows in
      let all : count_by (page_is_touched masks) (range_with_len 0 (length table)) + count_by (λ e. e == no_frame) table ≡ length table =
      pages_counted (page_is_touched masks) (λ e. e == no_frame) table 0 (λ i j inside is. subst (λ (k : ℕ). page_is_touched masks k ≡ not (get_or table i 0 == no_frame)) (let same : i ≡ j = omega arith in same) (page_tells i inside)) in
      let pages : length table ≡ page_count (length masks) = kept.covers ∙ ap page_count (sym (length-map-range_with_len (mask_in table rows) 0 docs)) in
      omega (arith, all, kept.rows_of.count, ap (λ (n : ℕ). count_by (page_is_touched masks) (range_with_len 0 n)) pages)

  -- a page without a row has room for one where fewer pages than frames have a mask
  pub has_room : (page : ℕ) → page < length table → (page_is_touched (masks_of docs table rows) page ≡ false → touched_pages (masks_of docs table rows) < frames) → get_or table page 0 ≡ no_frame → length rows < frames
  has_room page within room vacant = let few = room (unmarked page within vacant) in omega (arith, few, rows_are_pages)

-- ---- what the code does

-- masks without rows are 0
pub new_masks : (docs : ℕ) (table : List ℕ) (rows : List (List ℕ)) → rows ≡ [] → masks_of docs table rows ≡ replicate docs 0
new_masks docs table rows none = zeros (range_with_len 0 docs) ∙ ap (λ n. replicate n 0) (length-range_with_len 0 docs) where
  zeros : (ds : List ℕ) → map (mask_in table rows) ds ≡ replicate (length ds) 0
  zeros [] = refl
  zeros (d ∷ ds) =
      let first : mask_in table rows d ≡ 0 = nothing_past rows (get_or table (d / 256) 0) (d % 256) (let e = ap (λ (rows : List (List ℕ)). length rows) none in omega arith) in
      let rest = zeros ds in
      λ i. first i ∷ rest i

pub masks_many : (docs : ℕ) (table : List ℕ) (rows : List (List ℕ)) (masks : List ℕ) → masks_of docs table rows ≡ masks → length masks ≡ docs
masks_many docs table rows masks is = sym (ap (λ (l : List ℕ). length l) is) ∙ length-map-range_with_len (mask_in table rows) 0 docs

pub mask_read : (docs : ℕ) (table : List ℕ) (rows : List (List ℕ)) (masks : List ℕ) (doc : ℕ) → masks_of docs table rows ≡ masks → doc < length masks → mask_in table rows doc ≡ get_or masks doc 0
mask_read docs table rows masks doc is inside =
    sym (get_or-map-range_with_len (mask_in table rows) 0 docs doc doc 0 (omega (arith, inside, masks_many docs table rows masks is)) (omega arith)) ∙ ap (λ (l : List ℕ). get_or l doc 0) is

-- the mask, read in the row of its page, and 0 where there is none
pub read_row : (docs : ℕ) (table : List ℕ) (rows : List (List ℕ)) (masks : List ℕ) (doc entry : ℕ) (row : List ℕ) → masks_of docs table rows ≡ masks → doc < length masks → doc / 256 < length table → entry ≡ get_or table (doc / 256) entry
    → entry < length rows → row ≡ get_or rows entry row → get_or row (doc % 256) 0 ≡ get_or masks doc 0
read_row docs table rows masks doc entry row is inside pin read low row_read =
    ap (λ (r : List ℕ). get_or r (doc % 256) 0) (get_or_read rows entry row low row_read []) ∙ ap (λ e. get_or (get_or rows e []) (doc % 256) 0) (get_or_read table (doc / 256) entry pin read 0) ∙ mask_read docs table rows masks doc is inside

pub read_none : (docs : ℕ) (table : List ℕ) (rows : List (List ℕ)) (masks : List ℕ) (doc entry : ℕ) → masks_of docs table rows ≡ masks → doc < length masks → doc / 256 < length table → entry ≡ get_or table (doc / 256) entry
    → length rows ≤ entry → 0 ≡ get_or masks doc 0
read_none docs table rows masks doc entry is inside pin read past =
    sym (nothing_past rows entry (doc % 256) past) ∙ ap (λ e. get_or (get_or rows e []) (doc % 256) 0) (get_or_read table (doc / 256) entry pin read 0) ∙ mask_read docs table rows masks doc is inside

-- the entry of a page that isn't that of a row
pub vacant_entry : (frames : ℕ) (table : List ℕ) (rows : List (List ℕ)) (page entry : ℕ) → AreRowsOf frames table rows → page < length table → entry ≡ get_or table page entry → length rows ≤ entry → get_or table page 0 ≡ no_frame
vacant_entry frames table rows page entry are inside read past = elim (are.entries page inside) [ inl none ↦ none | inr low ↦ absurd (omega (arith, low, past, get_or_read table page entry inside read 0)) ]

pub record Marked (docs frames : ℕ) (table : List ℕ) (rows : List (List ℕ)) (masks : List ℕ) (doc place : ℕ) : Type 0 where
  pub kept : MasksKept docs frames table rows
  pub masks_are : masks_of docs table rows ≡ set masks doc (bit_or (get_or masks doc 0) (2 ^ place))

pub mark_written : (docs frames frames' : ℕ) (table table' : List ℕ) (rows rows' : List (List ℕ)) (masks : List ℕ) (doc place at v : ℕ) (row : List ℕ) → masks_of docs table rows ≡ masks → doc < length masks → MasksKept docs frames table rows
    → AreRowsOf frames' table' rows' → length table' ≡ length table → get_or table' (doc / 256) 0 ≡ at → at < length rows' → ((d : ℕ) → mask_in table' rows' d ≡ mask_in table rows d) → ((other : ℕ) → other ≢ doc / 256 → get_or table' other 0 ≡ get_or table other 0)
    → row ≡ get_or rows' at row → v ≡ bit_or (get_or row (doc % 256) 0) (2 ^ place) → Marked docs frames' table' (set rows' at (set row (doc % 256) v)) masks doc place
mark_written docs frames frames' table table' rows rows' masks doc place at v row is inside kept are size entry low same others read value =
    subst (λ (written : List (List ℕ)). Marked docs frames' table' written masks doc place) (sym here) (record {
      kept = kept_written docs frames' table' rows' covers are doc v within held (omega (arith, value, le_or_r (get_or row (doc % 256) 0) (2 ^ place), pow_pos place)) others_marked;
      masks_are = masks_written docs frames' table' rows' covers are doc v within held ∙ ap (λ (l : List ℕ). set l doc v) (all_same ∙ is) ∙ ap (set masks doc) (value ∙ ap (λ n. bit_or n (2 ^ place)) old);
    })
  where
    within : doc < docs
    within = omega (arith, inside, masks_many docs table rows masks is)

    covers : length table' ≡ page_count docs
    covers = size ∙ kept.covers

    held : get_or table' (doc / 256) 0 < length rows'
    held = omega (arith, entry, low)

    row_is : row ≡ get_or rows' at []
    row_is = get_or_read rows' at row low read []

    here : set rows' at (set row (doc % 256) v) ≡ set rows' (get_or table' (doc / 256) 0) (set (get_or rows' (get_or table' (doc / 256) 0) []) (doc % 256) v)
    here = ap (λ (r : List ℕ). set rows' at (set r (doc % 256) v)) row_is ∙ ap (λ n. set rows' n (set (get_or rows' n []) (doc % 256) v)) (sym entry)

    all_same : masks_of docs table' rows' ≡ masks_of docs table rows
    all_same = ap (λ (f : ℕ → ℕ). map f (range_with_len 0 docs)) (λ i d. same d i)

    old : get_or row (doc % 256) 0 ≡ get_or masks doc 0
    old = ap (λ (r : List ℕ). get_or r (doc % 256) 0) row_is ∙ ap (λ n. get_or (get_or rows' n []) (doc % 256) 0) (sym entry) ∙ same doc ∙ mask_read docs table rows masks doc is inside

    others_marked : (page : ℕ) → page ≢ doc / 256 → page < length table' → get_or table' page 0 < length rows' → HasTouched (masks_of docs table' rows') page
    others_marked page apart pin less = subst (λ (l : List ℕ). HasTouched l page) (sym all_same) (elim (kept.rows_of.entries page (omega (arith, pin, size))) [
      | inl none ↦ absurd (omega (arith, none, less, others page apart, are.within, are.few))
      | inr held_before ↦ kept.marked page (omega (arith, pin, size)) held_before
    ])
