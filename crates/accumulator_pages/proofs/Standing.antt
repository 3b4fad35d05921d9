-- Pages that stand in a pool.
use Rattle.shared_lemmas.proofs.Common.{◌≡◌, ◌≢◌, ℕ, suc, zero, true, not, cond, ◌==◌, ◌+◌, ◌/◌, ◌%◌, ◌<◌, ◌≤◌, min, List, [], ◌∷◌, map, length, get_or, set, replicate, count_by, Option, Some, None, refl, sym, ap, ◌∙◌, subst, inl, inr, arith, get_or-set_same, get_or_past, length-replicate}
use Rattle.shared_lemmas.proofs.Common.{get_or-replicate, get_or_read, cases_lt, div_ceil, range_with_len, eqb_tells, sum_by-replicate, length-map-range_with_len, get_or-map-range_with_len}
use Rattle.shared_lemmas.proofs.Common.{get_or-set_other, length-set, ne_eqb}
use Rattle.std.proofs.lemmas.List.Sums.{sum_by-set}
use Rattle.std.proofs.Common.{Bool, false, if◌then◌else◌, is_some, option_map, find}
use Rattle.shared_lemmas.proofs.Places.{in_range}
use Rattle.frame_pool.specs.Pool.{PoolView, FrameContent, cleared}
use Rattle.frame_pool.specs.ChainView.{ChainView, HasPage, HeldFrame, KeepsFrames, LeavesOthers, frame_with_page, number_with_page, slot_value, view_values, view_scores, with_first_held}
use Rattle.frame_pool.proofs.Pages.{none_found}
use Rattle.accumulator_pages.specs.Adding.{page_count, touched_pages, page_is_touched}
use Rattle.accumulator_pages.specs.declared.pages.Pages.{Pages}
use Rattle.accumulator_pages.specs.Pages.{TableStands, HasTouched, HasRoom, HasRoomFor, frame_of_entry, no_frame, own_chain, own_view}
use Rattle.accumulator_pages.proofs.Adding.{rises}
use Rattle.accumulator_pages.proofs.Counting.{some_counted, pages_counted, touched_there, untouched_there}

-- ---- calls on other chains

pub view_stays : (pages : Pages) (old new : PoolView) (chain : ℕ) → LeavesOthers old new chain → own_chain pages ≢ chain → own_view pages new ≡ own_view pages old
view_stays pages old new chain leaves ne = (leaves (own_chain pages) ne).view

-- ---- pages without a frame

pub length-values : (values : FrameContent → List ℕ) (docs : ℕ) (view : ChainView) → length (view_values values docs view) ≡ docs
length-values values docs view = length-map-range_with_len (λ d. slot_value values (frame_with_page view (d / 256)) (d % 256)) 0 docs

-- a document of a page without a frame has no score and no heap place
pub value-none : (values : FrameContent → List ℕ) (docs : ℕ) (view : ChainView) (d : ℕ) → d < docs → number_with_page view (d / 256) ≡ None → get_or (view_values values docs view) d 0 ≡ 0
value-none values docs view d inside none =
    get_or-map-range_with_len (λ d. slot_value values (frame_with_page view (d / 256)) (d % 256)) 0 docs d d 0 inside (omega arith)
    ∙ ap (λ (o : Option HeldFrame). slot_value values o (d % 256)) (none_found (frame_with_page view (d / 256)) none)

map-zero : (f : ℕ → ℕ) (a n : ℕ) → ((d : ℕ) → f d ≡ 0) → map f (range_with_len a n) ≡ replicate n 0
map-zero f a zero zeros = refl
map-zero f a (suc n) zeros = ap (λ (x : ℕ). x ∷ map f (range_with_len (a + 1) n)) (zeros a) ∙ ap (λ (xs : List ℕ). 0 ∷ xs) (map-zero f (a + 1) n zeros)

pub no_values : (values : FrameContent → List ℕ) (docs : ℕ) (view : ChainView) → view.frames ≡ [] → view_values values docs view ≡ replicate docs 0
no_values values docs view empty = map-zero (λ d. slot_value values (frame_with_page view (d / 256)) (d % 256)) 0 docs
    (λ d. ap (λ (hs : List HeldFrame). slot_value values (find (λ h. h.content.page == d / 256) hs) (d % 256)) empty)

pub new_stands : (table : List ℕ) (docs : ℕ) (view : ChainView) → view.frames ≡ [] → table ≡ replicate (div_ceil docs 256) 4294967295 → TableStands table docs view
new_stands table docs view empty made =
    let n : ℕ = div_ceil docs 256 in
    let len : length table ≡ n = ap (λ (xs : List ℕ). length xs) made ∙ length-replicate n 4294967295 in
    record {
      covers = len;
      entries = λ page inside. ap (λ (hs : List HeldFrame). option_map (λ (h : HeldFrame). h.number) (find (λ h. h.content.page == page) hs)) empty
          ∙ sym (ap (λ (xs : List ℕ). frame_of_entry (get_or xs page 0)) made ∙ ap frame_of_entry (get_or-replicate n page 4294967295 0 (omega arith)));
      frames = omega (arith, len, ap (λ (hs : List HeldFrame). length hs) empty, ap (λ (xs : List ℕ). count_by (λ e. e == no_frame) xs) made, sum_by-replicate (λ (e : ℕ). cond (e == no_frame) 1 0) n 4294967295);
    }

pub new_unused : (table scores : List ℕ) (n : ℕ) → table ≡ replicate n 4294967295 → (page : ℕ) → page < length table → get_or table page 0 ≢ no_frame → HasTouched scores page
new_unused table scores n made page inside other =
    let len : length table ≡ n = ap (λ (xs : List ℕ). length xs) made ∙ length-replicate n 4294967295 in
    absurd (other (ap (λ (xs : List ℕ). get_or xs page 0) made ∙ get_or-replicate n page 4294967295 0 (omega arith)))

-- ---- room for a frame

vacant_entry : (entry : ℕ) → frame_of_entry entry ≡ None → (entry == no_frame) ≡ true
vacant_entry entry none = elim (eqb_tells entry no_frame) as (λ _. (entry == no_frame) ≡ true) [
  | inl same ↦ same.0
  | inr other ↦ absurd (some_none entry (sym (ap (λ b. cond b None (Some entry)) other.0) ∙ none))
]
  where
    some_none : (e : ℕ) → Some e ≡ None → ⊥
    some_none e h = cc

pub has_room : (table : List ℕ) (docs : ℕ) (view : ChainView) (page more : ℕ) → TableStands table docs view → page < length table → 1 ≤ more → HasRoomFor view docs more → HasRoom view page
has_room table docs view page more stands inside some room lacks =
    let vacant : (get_or table page 0 == no_frame) ≡ true = vacant_entry (get_or table page 0) (sym (stands.entries page inside) ∙ lacks) in
    omega (arith, some_counted (λ e. e == no_frame) table page inside vacant, stands.frames, stands.covers, room)

pub room_left : (docs frames frames' more more' promise promise' : ℕ) → min (page_count docs) (frames + more) ≤ promise → frames' + more' ≤ frames + more → promise' ≡ promise
    → min (page_count docs) (frames' + more') ≤ promise'
room_left docs frames frames' more more' promise promise' room fewer same = omega arith

-- ---- a frame more, for a page that had none

pub frame_taken : (table : List ℕ) (docs : ℕ) (view : ChainView) (page number : ℕ) → TableStands table docs view → page < length table → get_or table page 0 ≡ no_frame → number < 1048576
    → TableStands (set table page number) docs (with_first_held view number (cleared page))
frame_taken table docs view page number stands inside vacant small =
    let some : (number == no_frame) ≡ false = ne_eqb number no_frame (λ is. absurd (omega (arith, is, small))) in
    record {
      covers = length-set table page number ∙ stands.covers;
      entries = λ other within. elim (eqb_tells page other) as (λ _. number_with_page (with_first_held view number (cleared page)) other ≡ frame_of_entry (get_or (set table page number) other 0)) [
        | inl same ↦
            ap (λ b. option_map (λ (h : HeldFrame). h.number) (cond b (Some (record { number = number; content = cleared page })) (frame_with_page view other))) same.0
            ∙ sym (ap (λ b. cond b None (Some number)) some)
            ∙ sym (ap frame_of_entry (ap (λ j. get_or (set table page number) j 0) (sym same.1) ∙ get_or-set_same table page number 0 inside))
        | inr differ ↦
            ap (λ b. option_map (λ (h : HeldFrame). h.number) (cond b (Some (record { number = number; content = cleared page })) (frame_with_page view other))) differ.0
            ∙ stands.entries other (omega (arith, within, length-set table page number))
            ∙ sym (ap frame_of_entry (get_or-set_other table page other number 0 (λ e. differ.1 (sym e))))
      ];
      frames = omega (
        arith,
        stands.frames,
        length-set table page number,
        sum_by-set (λ (e : ℕ). cond (e == no_frame) 1 0) table page number 0 inside,
        ap {B = ℕ} (λ (e : ℕ). cond (e == no_frame) 1 0) vacant,
        ap {B = ℕ} (λ b. cond b 1 0) some,
      );
    }

-- ---- after an addition

pub table_kept : (table : List ℕ) (docs : ℕ) (old new : ChainView) → KeepsFrames old new → TableStands table docs old → TableStands table docs new
table_kept table docs old new keeps stands = record {
  covers = stands.covers;
  entries = λ page inside. keeps.pages page ∙ stands.entries page inside;
  frames = omega (arith, keeps.count, stands.frames);
}

pub used_now : (table table' scores : List ℕ) (doc w : ℕ) → length table' ≡ length table → ((other : ℕ) → other ≢ doc / 256 → get_or table' other 0 ≡ get_or table other 0) → doc < length scores → 1 ≤ w
    → ((page : ℕ) → page < length table → get_or table page 0 ≢ no_frame → HasTouched scores page)
    → (page : ℕ) → page < length table' → get_or table' page 0 ≢ no_frame → HasTouched (set scores doc (get_or scores doc 0 + w)) page
used_now table table' scores doc w same others inside some used page within entry =
    elim (eqb_tells page (doc / 256)) as (λ _. HasTouched (set scores doc (get_or scores doc 0 + w)) page) [
      | inl here ↦ (doc, sym here.1, omega (arith, get_or-set_same scores doc (get_or scores doc 0 + w) 0 inside))
      | inr other ↦
          let had : HasTouched scores page = used page (omega arith) (λ e. entry (others page other.1 ∙ e)) in
          (had.0, had.1, omega (arith, rises scores doc had.0 w, had.2))
    ]

-- ---- frames are touched pages

entry_none : (table : List ℕ) (docs : ℕ) (view : ChainView) (page : ℕ) → TableStands table docs view → page < length table → get_or table page 0 ≡ no_frame → number_with_page view page ≡ None
entry_none table docs view page stands inside is = stands.entries page inside ∙ ap frame_of_entry is

page_tells : (table : List ℕ) (docs : ℕ) (view : ChainView) → TableStands table docs view
    → ((page : ℕ) → page < length table → get_or table page 0 ≢ no_frame → HasTouched (view_scores docs view) page)
    → (page : ℕ) → page < length table → page_is_touched (view_scores docs view) page ≡ not (get_or table page 0 == no_frame)
page_tells table docs view stands used page inside =
    elim (eqb_tells (get_or table page 0) no_frame) as (λ _. page_is_touched (view_scores docs view) page ≡ not (get_or table page 0 == no_frame)) [
      | inl vacant ↦
          untouched_there (view_scores docs view) page (λ d here. elim (cases_lt d docs) [
            | inl within ↦ value-none (λ x. x.scores) docs view d within (ap (number_with_page view) here ∙ entry_none table docs view page stands inside vacant.1)
            | inr past ↦ get_or_past (view_scores docs view) d 0 (omega (arith, past, length-values (λ x. x.scores) docs view))
          ]) ∙ sym (ap not vacant.0)
      | inr held ↦ touched_there (view_scores docs view) page (used page inside held.1) ∙ sym (ap not held.0)
    ]

pub frames_are_pages : (table : List ℕ) (docs frames : ℕ) (view : ChainView) → TableStands table docs view → frames ≡ length view.frames
    → ((page : ℕ) → page < length table → get_or table page 0 ≢ no_frame → HasTouched (view_scores docs view) page)
    → frames ≡ touched_pages (view_scores docs view)
frames_are_pages table docs frames view stands is used =
    let scores : List ℕ = view_scores docs view in
    let all : count_by (page_is_touched scores) (range_with_len 0 (length table)) + count_by (λ e. e == no_frame) table ≡ length table =
    pages_counted (page_is_touched scores) (λ e. e == no_frame) table 0
    (λ i j inside is. subst (λ (k : ℕ). page_is_touched scores k ≡ not (get_or table i 0 == no_frame)) (let same : i ≡ j = omega arith in same) (page_tells table docs view stands used i inside)) in
    let pages : length table ≡ page_count (length scores) = stands.covers ∙ ap page_count (sym (length-values (λ x. x.scores) docs view)) in
    omega (arith, all, stands.frames, is, ap (λ (n : ℕ). count_by (page_is_touched scores) (range_with_len 0 n)) pages)

-- a page has a frame exactly where it has a touched document
pub has_frame_where_touched : (table : List ℕ) (docs : ℕ) (view : ChainView) → TableStands table docs view
    → ((page : ℕ) → page < length table → get_or table page 0 ≢ no_frame → HasTouched (view_scores docs view) page)
    → (page : ℕ) → page < length table → is_some (number_with_page view page) ≡ page_is_touched (view_scores docs view) page
has_frame_where_touched table docs view stands used page inside =
    ap is_some (stands.entries page inside) ∙ told (get_or table page 0) (get_or table page 0 == no_frame) ∙ sym (page_tells table docs view stands used page inside)
  where
    told : (entry : ℕ) (vacant : Bool) → is_some (if vacant then None else Some entry) ≡ not vacant
    told entry true = refl
    told entry false = refl

-- a document with a score has a frame
pub held_page : (table : List ℕ) (docs : ℕ) (view : ChainView) (d number : ℕ) → TableStands table docs view → d / 256 < length table → number ≡ get_or table (d / 256) number → 0 < get_or (view_scores docs view) d 0
    → HasPage view (d / 256) number
held_page table docs view d number stands inside read some =
    let entry : ℕ = get_or table (d / 256) 0 in
    let is : number ≡ entry = get_or_read table (d / 256) number inside read 0 in
    elim (eqb_tells entry no_frame) as (λ _. HasPage view (d / 256) number) [
      | inl vacant ↦ absurd (omega (
        arith,
        some,
        value-none (λ x. x.scores) docs view d
            (omega (arith, in_range (view_scores docs view) d some, length-values (λ x. x.scores) docs view)) (entry_none table docs view (d / 256) stands inside vacant.1),
      ))
      | inr held ↦ stands.entries (d / 256) inside ∙ ap (λ b. cond b None (Some entry)) held.0 ∙ ap (λ (x : ℕ). Some x) (sym is)
    ]
