-- Chains seen through a pool's view, after a change of it.
use Rattle.shared_lemmas.proofs.Common.{◌≡◌, ◌≢◌, ℕ, suc, zero, ◌+◌, ◌-◌, ◌*◌, ◌/◌, ◌%◌, ◌<◌, ◌≤◌, ◌==◌, Bool, true, false, List, [], ◌∷◌, length, map, get_or, set, Option, Some, None, sum_by, cond, eqb, IsSome, is_some, Contains, refl, sym, ap, ◌∙◌, subst, inl, inr, arith, length-set}
use Rattle.shared_lemmas.proofs.Common.{get_or-set_same, get_or-set_other, range_with_len, ne_eqb, eqb_tells, get_or-map-range_with_len, get_or-range_with_len, length-range_with_len, length-map-range_with_len, length-map}
use Rattle.std.proofs.Common.{find, unwrap_or, option_map}
use Rattle.std.proofs.lemmas.Bool.{eq-eqb}
use Rattle.frame_pool.specs.Pool.{PoolView, ChainEntry, FrameContent, cleared, content_of, chain_of, HasFrame, with_first, promise_of, promised, spare_of}
use Rattle.frame_pool.specs.ChainView.{ChainView, HeldFrame, chain_view, held_frame, frame_with_page, number_with_page, LacksPage, slot_value, view_values, KeepsChain, KeepsFrames, HasPage, LeavesOthers, LeavesPool, with_first_held, with_page}
use Rattle.frame_pool.specs.Sound.{IsSound}
use Rattle.frame_pool.proofs.Pages.{none_found, held_by, pages_before, of_page}

-- equal on each item, equal on the list
pub map-same : {A B : Type 0} (f g : A → B) (xs : List A) → ((x : A) → Contains xs x → g x ≡ f x) → map g xs ≡ map f xs
map-same f g [] same = refl
map-same {A} {B} f g (x ∷ xs) same = ap (λ (y : B). y ∷ map g xs) (same x (0, omega arith, refl))
    ∙ ap (λ (ys : List B). f x ∷ ys) (map-same f g xs (λ y has. same y (suc has.0, (let h : has.0 < length xs = has.1 in omega arith), has.2)))

abbrev seen_as : ChainEntry → List HeldFrame → ChainView
seen_as chain frames = record { promise = chain.promise; frames = frames }

-- ---- chains that a change leaves

pub keeps-chain : (old new : PoolView) (d : ℕ) → get_or new.chains d None ≡ get_or old.chains d None → ((g : ℕ) → HasFrame old d g → content_of new g ≡ content_of old g) → KeepsChain old new d
keeps-chain old new d entry contents =
    let chain : chain_of new d ≡ chain_of old d = ap (λ (e : Option ChainEntry). unwrap_or e (record { promise = 0; frames = [] })) entry in
    record {
      in_use = ((λ h. subst (λ (e : Option ChainEntry). IsSome e) entry h), (λ h. subst (λ (e : Option ChainEntry). IsSome e) (sym entry) h));
      view = ap (λ (x : ChainEntry). seen_as x (map (held_frame new) x.frames)) chain ∙ ap (λ (hs : List HeldFrame). seen_as (chain_of old d) hs)
          (map-same (held_frame old) (held_frame new) (chain_of old d).frames (λ g has. ap (λ (x : FrameContent). held_by (λ _. x) g) (contents g has)));
    }

-- a call that writes the entry of one chain, and the content of one frame that no other chain has
pub leaves-others : (old new : PoolView) (c f : ℕ) (entry : Option ChainEntry) (content : FrameContent) → new.chains ≡ set old.chains c entry → new.frames ≡ set old.frames f content
    → ((d : ℕ) → d ≢ c → HasFrame old d f → ⊥) → LeavesOthers old new c
leaves-others old new c f entry content chains frames alone d ne = keeps-chain old new d
    (ap (λ (es : List (Option ChainEntry)). get_or es d None) chains ∙ get_or-set_other old.chains c d entry None ne)
    (λ g has. ap (λ (xs : List FrameContent). get_or xs g (cleared 0)) frames
    ∙ get_or-set_other old.frames f g content (cleared 0) (λ same. alone d ne (subst (λ x. HasFrame old d x) same has)))

-- ---- a frame is taken

pub took-view : (old new : PoolView) (c f page : ℕ) → new.chains ≡ set old.chains c (Some (with_first (chain_of old c) f)) → c < length old.chains
    → new.frames ≡ set old.frames f (cleared page) → f < length old.frames → (HasFrame old c f → ⊥)
    → chain_view new c ≡ with_first_held (chain_view old c) f (cleared page)
took-view old new c f page chains inside frames exists alone =
    let entry : get_or new.chains c None ≡ Some (with_first (chain_of old c) f) =
    ap (λ (es : List (Option ChainEntry)). get_or es c None) chains ∙ get_or-set_same old.chains c (Some (with_first (chain_of old c) f)) None inside in
    let chain : chain_of new c ≡ with_first (chain_of old c) f = ap (λ (e : Option ChainEntry). unwrap_or e (record { promise = 0; frames = [] })) entry in
    let first : content_of new f ≡ cleared page = ap (λ (xs : List FrameContent). get_or xs f (cleared 0)) frames ∙ get_or-set_same old.frames f (cleared page) (cleared 0) exists in
    ap (λ (x : ChainEntry). seen_as x (map (held_frame new) x.frames)) chain
    ∙ ap (λ (x : FrameContent). seen_as (chain_of old c) (held_by (λ _. x) f ∷ map (held_frame new) (chain_of old c).frames)) first
    ∙ ap (λ (hs : List HeldFrame). seen_as (chain_of old c) (held_by (λ _. cleared page) f ∷ hs))
    (map-same (held_frame old) (held_frame new) (chain_of old c).frames (λ g has. ap (λ (x : FrameContent). held_by (λ _. x) g)
    (ap (λ (xs : List FrameContent). get_or xs g (cleared 0)) frames
    ∙ get_or-set_other old.frames f g (cleared page) (cleared 0) (λ same. alone (subst (λ x. HasFrame old c x) same has)))))

took-slot : (values : FrameContent → List ℕ) (view : ChainView) (f : ℕ) (content : FrameContent) (p s : ℕ) → ((i : ℕ) → get_or (values content) i 0 ≡ 0) → LacksPage view content.page
    → slot_value values (frame_with_page (with_first_held view f content) p) s ≡ slot_value values (frame_with_page view p) s
took-slot values view f content p s zeros lacks =
    elim (eqb_tells content.page p) as (λ _. slot_value values (frame_with_page (with_first_held view f content) p) s ≡ slot_value values (frame_with_page view p) s) [
      | inl same ↦ ap (λ b. slot_value values (cond b (Some (held_by (λ _. content) f)) (frame_with_page view p)) s) same.0 ∙ zeros s
          ∙ sym (ap (λ (o : Option HeldFrame). slot_value values o s) (ap (frame_with_page view) (sym same.1) ∙ none_found (frame_with_page view content.page) lacks))
      | inr other ↦ ap (λ b. slot_value values (cond b (Some (held_by (λ _. content) f)) (frame_with_page view p)) s) other.0
    ]

pub took-values : (values : FrameContent → List ℕ) (docs : ℕ) (view : ChainView) (f : ℕ) (content : FrameContent) → ((i : ℕ) → get_or (values content) i 0 ≡ 0) → LacksPage view content.page
    → view_values values docs (with_first_held view f content) ≡ view_values values docs view
took-values values docs view f content zeros lacks =
    map-same (λ d. slot_value values (frame_with_page view (d / 256)) (d % 256)) (λ d. slot_value values (frame_with_page (with_first_held view f content) (d / 256)) (d % 256))
    (range_with_len 0 docs) (λ d _. took-slot values view f content (d / 256) (d % 256) zeros lacks)

-- ---- a slot is set

-- what is found for a page, where all frames keep their pages and those of this page their values
found-same : (values : FrameContent → List ℕ) (old new : ℕ → FrameContent) (p s : ℕ) (fs : List ℕ) → ((g : ℕ) → (new g).page ≡ (old g).page)
    → ((g : ℕ) → (old g).page ≡ p → get_or (values (new g)) s 0 ≡ get_or (values (old g)) s 0)
    → slot_value values (find (λ h. h.content.page == p) (map (held_by new) fs)) s ≡ slot_value values (find (λ h. h.content.page == p) (map (held_by old) fs)) s
found-same values old new p s [] pages same = refl
found-same values old new p s (g ∷ fs) pages same =
    ap (λ (q : ℕ). slot_value values (cond (eqb q p) (Some (held_by new g)) (find (λ h. h.content.page == p) (map (held_by new) fs))) s) (pages g)
    ∙ elim (eqb_tells (old g).page p) as (λ _. slot_value values (cond (eqb (old g).page p) (Some (held_by new g)) (find (λ h. h.content.page == p) (map (held_by new) fs))) s
    ≡ slot_value values (cond (eqb (old g).page p) (Some (held_by old g)) (find (λ h. h.content.page == p) (map (held_by old) fs))) s) [
      | inl here ↦ ap (λ b. slot_value values (cond b (Some (held_by new g)) (find (λ h. h.content.page == p) (map (held_by new) fs))) s) here.0 ∙ same g here.1
          ∙ sym (ap (λ b. slot_value values (cond b (Some (held_by old g)) (find (λ h. h.content.page == p) (map (held_by old) fs))) s) here.0)
      | inr other ↦ ap (λ b. slot_value values (cond b (Some (held_by new g)) (find (λ h. h.content.page == p) (map (held_by new) fs))) s) other.0
          ∙ found-same values old new p s fs pages same
          ∙ sym (ap (λ b. slot_value values (cond b (Some (held_by old g)) (find (λ h. h.content.page == p) (map (held_by old) fs))) s) other.0)
    ]

-- the frame of a chain is found by its page
found-at : (values : FrameContent → List ℕ) (content : ℕ → FrameContent) (s : ℕ) (fs : List ℕ) (k f : ℕ) → k < length fs → get_or fs k f ≡ f
    → ((j : ℕ) → j < k → (content (get_or fs j f)).page ≢ (content f).page)
    → slot_value values (find (λ h. h.content.page == (content f).page) (map (held_by content) fs)) s ≡ get_or (values (content f)) s 0
found-at values content s [] k f inside is apart = absurd (omega arith)
found-at values content s (g ∷ fs) zero f inside is apart =
    ap (λ b. slot_value values (cond b (Some (held_by content g)) (find (λ h. h.content.page == (content f).page) (map (held_by content) fs))) s)
    (eq-eqb (content g).page (content f).page (ap (λ (x : ℕ). (content x).page) is)) ∙ ap (λ (x : ℕ). get_or (values (content x)) s 0) is
found-at values content s (g ∷ fs) (suc k) f inside is apart =
    ap (λ b. slot_value values (cond b (Some (held_by content g)) (find (λ h. h.content.page == (content f).page) (map (held_by content) fs))) s)
    (ne_eqb (content g).page (content f).page (apart 0 (omega arith))) ∙ found-at values content s fs k f (omega arith) is (λ j lt. apart (suc j) (omega arith))

found-number : (old new : ℕ → FrameContent) (p : ℕ) (fs : List ℕ) → ((g : ℕ) → (new g).page ≡ (old g).page)
    → option_map (λ h. h.number) (find (λ h. h.content.page == p) (map (held_by new) fs)) ≡ option_map (λ h. h.number) (find (λ h. h.content.page == p) (map (held_by old) fs))
found-number old new p [] pages = refl
found-number old new p (g ∷ fs) pages =
    ap (λ (q : ℕ). option_map (λ (h : HeldFrame). h.number) (cond (eqb q p) (Some (held_by new g)) (find (λ h. h.content.page == p) (map (held_by new) fs)))) (pages g)
    ∙ by_test (eqb (old g).page p) (held_by new g) (held_by old g) (find (λ h. h.content.page == p) (map (held_by new) fs)) (find (λ h. h.content.page == p) (map (held_by old) fs)) refl
    (found-number old new p fs pages)
  where
    by_test : (b : Bool) (x y : HeldFrame) (o q : Option HeldFrame) → x.number ≡ y.number → option_map (λ h. h.number) o ≡ option_map (λ h. h.number) q
        → option_map (λ h. h.number) (cond b (Some x) o) ≡ option_map (λ h. h.number) (cond b (Some y) q)
    by_test true x y o q here rest = ap (λ (n : ℕ). Some n) here
    by_test false x y o q here rest = rest

-- functions of the documents that agree but at one
map-range-same : (f g : ℕ → ℕ) (a n : ℕ) → ((d : ℕ) → a ≤ d → g d ≡ f d) → map g (range_with_len a n) ≡ map f (range_with_len a n)
map-range-same f g a zero same = refl
map-range-same f g a (suc n) same = ap (λ (x : ℕ). x ∷ map g (range_with_len (a + 1) n)) (same a (omega arith))
    ∙ ap (λ (xs : List ℕ). f a ∷ xs) (map-range-same f g (a + 1) n (λ d le. same d (omega arith)))

map-range-set : (f g : ℕ → ℕ) (a n i d v : ℕ) → a + i ≡ d → g d ≡ v → ((e : ℕ) → e ≢ d → g e ≡ f e) → map g (range_with_len a n) ≡ set (map f (range_with_len a n)) i v
map-range-set f g a zero i d v is here same = refl
map-range-set f g a (suc n) zero d v is here same =
    let a_is : a ≡ d = omega arith in
    ap (λ (x : ℕ). x ∷ map g (range_with_len (a + 1) n)) (ap g a_is ∙ here)
    ∙ ap (λ (xs : List ℕ). v ∷ xs) (map-range-same f g (a + 1) n (λ e le. same e (λ h. absurd (omega arith))))
map-range-set f g a (suc n) (suc i) d v is here same = ap (λ (x : ℕ). x ∷ map g (range_with_len (a + 1) n)) (same a (λ h. absurd (omega arith)))
    ∙ ap (λ (xs : List ℕ). f a ∷ xs) (map-range-set f g (a + 1) n i d v (omega arith) here same)

-- the value of a slot is that of its document
value-own : (values : FrameContent → List ℕ) (pool : PoolView) → IsSound pool → (c f slot docs : ℕ) → HasFrame pool c f → slot < 256 → 256 * (content_of pool f).page + slot < docs
    → get_or (view_values values docs (chain_view pool c)) (256 * (content_of pool f).page + slot) 0 ≡ get_or (values (content_of pool f)) slot 0
value-own values pool sound c f slot docs has small inside =
    let page : ℕ = (content_of pool f).page in
    let d : ℕ = 256 * page + slot in
    let quotient : d / 256 ≡ page = omega arith in
    let rest : d % 256 ≡ slot = omega arith in
    get_or-map-range_with_len (λ d. slot_value values (frame_with_page (chain_view pool c) (d / 256)) (d % 256)) 0 docs d d 0 inside (omega arith)
    ∙ ap (λ (p : ℕ). slot_value values (frame_with_page (chain_view pool c) p) (d % 256)) quotient
    ∙ ap (λ (s : ℕ). slot_value values (frame_with_page (chain_view pool c) page) s) rest
    ∙ found-at values (content_of pool) slot (chain_of pool c).frames has.0 f has.1 has.2 (pages_before pool c (sound.pages_differ c) f has.0 has.1 has.2)

-- a pool whose frame f holds x now, with the same chains
pub record Writes (old new : PoolView) (f : ℕ) (x : FrameContent) : Type 0 where
  pub chains : new.chains ≡ old.chains
  pub frames : new.frames ≡ set old.frames f x
  pub exists : f < length old.frames
  pub page : x.page ≡ (content_of old f).page

written-at : (old new : PoolView) (f : ℕ) (x : FrameContent) → Writes old new f x → content_of new f ≡ x
written-at old new f x w = ap (λ (xs : List FrameContent). get_or xs f (cleared 0)) w.frames ∙ get_or-set_same old.frames f x (cleared 0) w.exists

written-other : (old new : PoolView) (f : ℕ) (x : FrameContent) → Writes old new f x → (g : ℕ) → g ≢ f → content_of new g ≡ content_of old g
written-other old new f x w g ne = ap (λ (xs : List FrameContent). get_or xs g (cleared 0)) w.frames ∙ get_or-set_other old.frames f g x (cleared 0) ne

written-page : (old new : PoolView) (f : ℕ) (x : FrameContent) → Writes old new f x → (g : ℕ) → (content_of new g).page ≡ (content_of old g).page
written-page old new f x w g = elim (eqb_tells g f) as (λ _. (content_of new g).page ≡ (content_of old g).page) [
  | inl same ↦ subst (λ (y : ℕ). (content_of new y).page ≡ (content_of old y).page) (sym same.1) (ap (λ (c : FrameContent). c.page) (written-at old new f x w) ∙ w.page)
  | inr other ↦ ap (λ (c : FrameContent). c.page) (written-other old new f x w g other.1)
]

written-chain : (old new : PoolView) (f : ℕ) (x : FrameContent) → Writes old new f x → (c : ℕ) → chain_of new c ≡ chain_of old c
written-chain old new f x w c = ap (λ (es : List (Option ChainEntry)). unwrap_or (get_or es c None) (record { promise = 0; frames = [] })) w.chains

written-view : (old new : PoolView) (f : ℕ) (x : FrameContent) → Writes old new f x → (c : ℕ)
    → chain_view new c ≡ seen_as (chain_of old c) (map (held_by (content_of new)) (chain_of old c).frames)
written-view old new f x w c = ap (λ (e : ChainEntry). seen_as e (map (held_frame new) e.frames)) (written-chain old new f x w c)

-- the values that the write leaves
pub write-keeps_values : (values : FrameContent → List ℕ) (old new : PoolView) (f : ℕ) (x : FrameContent) → Writes old new f x → values x ≡ values (content_of old f)
    → (c docs : ℕ) → view_values values docs (chain_view new c) ≡ view_values values docs (chain_view old c)
write-keeps_values values old new f x w is c docs = ap (view_values values docs) (written-view old new f x w c)
    ∙ map-same (λ d. slot_value values (frame_with_page (chain_view old c) (d / 256)) (d % 256))
    (λ d. slot_value values (find (λ h. h.content.page == d / 256) (map (held_by (content_of new)) (chain_of old c).frames)) (d % 256)) (range_with_len 0 docs)
    (λ d _. found-same values (content_of old) (content_of new) (d / 256) (d % 256) (chain_of old c).frames (written-page old new f x w)
    (λ g _. elim (eqb_tells g f) as (λ _. get_or (values (content_of new g)) (d % 256) 0 ≡ get_or (values (content_of old g)) (d % 256) 0) [
      | inl same ↦ subst (λ (y : ℕ). get_or (values (content_of new y)) (d % 256) 0 ≡ get_or (values (content_of old y)) (d % 256) 0) (sym same.1)
          (ap (λ (c : FrameContent). get_or (values c) (d % 256) 0) (written-at old new f x w) ∙ ap (λ (ys : List ℕ). get_or ys (d % 256) 0) is)
      | inr other ↦ ap (λ (c : FrameContent). get_or (values c) (d % 256) 0) (written-other old new f x w g other.1)
    ]))

-- the value that it sets
write-sets_own : (values : FrameContent → List ℕ) (old new : PoolView) (f slot v : ℕ) (x : FrameContent) → Writes old new f x → IsSound old
    → values x ≡ set (values (content_of old f)) slot v → slot < length (values (content_of old f)) → slot < 256 → (c docs : ℕ) → HasFrame old c f
    → view_values values docs (chain_view new c) ≡ set (view_values values docs (chain_view old c)) (256 * (content_of old f).page + slot) v
write-sets_own values old new f slot v x w sound is inside small c docs has =
    let fs : List ℕ = (chain_of old c).frames in
    let page : ℕ = (content_of old f).page in
    let d : ℕ = 256 * page + slot in
    let quotient : d / 256 ≡ page = omega arith in
    let rest : d % 256 ≡ slot = omega arith in
    let new_page : (content_of new f).page ≡ page = written-page old new f x w f in
    let here : slot_value values (find (λ h. h.content.page == d / 256) (map (held_by (content_of new)) fs)) (d % 256) ≡ v =
    ap (λ (p : ℕ). slot_value values (find (λ h. h.content.page == p) (map (held_by (content_of new)) fs)) (d % 256)) (quotient ∙ sym new_page)
    ∙ ap (λ (s : ℕ). slot_value values (find (λ h. h.content.page == (content_of new f).page) (map (held_by (content_of new)) fs)) s) rest
    ∙ found-at values (content_of new) slot fs has.0 f has.1 has.2
    (λ j lt same. pages_before old c (sound.pages_differ c) f has.0 has.1 has.2 j lt (sym (written-page old new f x w (get_or fs j f)) ∙ same ∙ new_page))
    ∙ ap (λ (c : FrameContent). get_or (values c) slot 0) (written-at old new f x w) ∙ ap (λ (ys : List ℕ). get_or ys slot 0) is
    ∙ get_or-set_same (values (content_of old f)) slot v 0 inside in
    let same : (e : ℕ) → e ≢ d → slot_value values (find (λ h. h.content.page == e / 256) (map (held_by (content_of new)) fs)) (e % 256)
    ≡ slot_value values (frame_with_page (chain_view old c) (e / 256)) (e % 256) =
    λ e ne. found-same values (content_of old) (content_of new) (e / 256) (e % 256) fs (written-page old new f x w)
    (λ g at. elim (eqb_tells g f) as (λ _. get_or (values (content_of new g)) (e % 256) 0 ≡ get_or (values (content_of old g)) (e % 256) 0) [
      | inl it ↦
          let here_page : page ≡ e / 256 = ap (λ (y : ℕ). (content_of old y).page) (sym it.1) ∙ at in
          let apart : e % 256 ≢ slot = λ h. ne (omega (arith, h, here_page)) in
          subst (λ (y : ℕ). get_or (values (content_of new y)) (e % 256) 0 ≡ get_or (values (content_of old y)) (e % 256) 0) (sym it.1)
          (ap (λ (c : FrameContent). get_or (values c) (e % 256) 0) (written-at old new f x w) ∙ ap (λ (ys : List ℕ). get_or ys (e % 256) 0) is
          ∙ get_or-set_other (values (content_of old f)) slot (e % 256) v 0 apart)
      | inr other ↦ ap (λ (c : FrameContent). get_or (values c) (e % 256) 0) (written-other old new f x w g other.1)
    ]) in
    ap (view_values values docs) (written-view old new f x w c)
    ∙ map-range-set (λ e. slot_value values (frame_with_page (chain_view old c) (e / 256)) (e % 256))
    (λ e. slot_value values (find (λ h. h.content.page == e / 256) (map (held_by (content_of new)) fs)) (e % 256)) 0 docs d d v (omega arith) here same

-- all values of the frame's page, where it sets those
write-sets_own_page : (values : FrameContent → List ℕ) (old new : PoolView) (f : ℕ) (slots : List ℕ) (x : FrameContent) → Writes old new f x → IsSound old
    → ((s : ℕ) → s < 256 → get_or (values x) s 0 ≡ get_or slots s 0) → (c docs : ℕ) → HasFrame old c f
    → view_values values docs (chain_view new c) ≡ with_page (content_of old f).page slots (view_values values docs (chain_view old c))
write-sets_own_page values old new f slots x w sound is c docs has =
    let fs : List ℕ = (chain_of old c).frames in
    let page : ℕ = (content_of old f).page in
    let before : ℕ → ℕ = λ d. slot_value values (frame_with_page (chain_view old c) (d / 256)) (d % 256) in
    let were : List ℕ = map before (range_with_len 0 docs) in
    let after : ℕ → ℕ = λ d. cond (eqb (d / 256) page) (get_or slots (d % 256) 0) (get_or were d 0) in
    let new_page : (content_of new f).page ≡ page = written-page old new f x w f in
    let each : (d : ℕ) → d < docs → slot_value values (find (λ h. h.content.page == d / 256) (map (held_by (content_of new)) fs)) (d % 256) ≡ after d =
    λ d inside. elim (eqb_tells (d / 256) page)
    as (λ _. slot_value values (find (λ h. h.content.page == d / 256) (map (held_by (content_of new)) fs)) (d % 256) ≡ after d) [
      | inl here ↦
          ap (λ (p : ℕ). slot_value values (find (λ h. h.content.page == p) (map (held_by (content_of new)) fs)) (d % 256)) (here.1 ∙ sym new_page)
          ∙ found-at values (content_of new) (d % 256) fs has.0 f has.1 has.2
          (λ j lt same. pages_before old c (sound.pages_differ c) f has.0 has.1 has.2 j lt (sym (written-page old new f x w (get_or fs j f)) ∙ same ∙ new_page))
          ∙ ap (λ (c : FrameContent). get_or (values c) (d % 256) 0) (written-at old new f x w) ∙ is (d % 256) (omega arith)
          ∙ sym (ap (λ b. cond b (get_or slots (d % 256) 0) (get_or were d 0)) here.0)
      | inr other ↦
          found-same values (content_of old) (content_of new) (d / 256) (d % 256) fs (written-page old new f x w)
          (λ g at. elim (eqb_tells g f) as (λ _. get_or (values (content_of new g)) (d % 256) 0 ≡ get_or (values (content_of old g)) (d % 256) 0) [
            | inl it ↦ absurd (other.1 (sym at ∙ ap (λ (y : ℕ). (content_of old y).page) it.1))
            | inr apart ↦ ap (λ (c : FrameContent). get_or (values c) (d % 256) 0) (written-other old new f x w g apart.1)
          ]) ∙ sym (get_or-map-range_with_len before 0 docs d d 0 inside (omega arith))
          ∙ sym (ap (λ b. cond b (get_or slots (d % 256) 0) (get_or were d 0)) other.0)
    ] in
    ap (view_values values docs) (written-view old new f x w c)
    ∙ map-same after (λ d. slot_value values (find (λ h. h.content.page == d / 256) (map (held_by (content_of new)) fs)) (d % 256)) (range_with_len 0 docs)
    (λ d there. each d (omega (arith, there.1, there.2, length-range_with_len 0 docs, get_or-range_with_len 0 docs there.0 d (omega (arith, there.1, length-range_with_len 0 docs)))))
    ∙ ap (λ (n : ℕ). map after (range_with_len 0 n)) (sym (length-map-range_with_len before 0 docs))

-- each page keeps its frame
pub write-keeps_numbers : (old new : PoolView) (f : ℕ) (x : FrameContent) → Writes old new f x → (c p : ℕ) → number_with_page (chain_view new c) p ≡ number_with_page (chain_view old c) p
write-keeps_numbers old new f x w c p = ap (λ (v : ChainView). number_with_page v p) (written-view old new f x w c)
    ∙ found-number (content_of old) (content_of new) p (chain_of old c).frames (written-page old new f x w)

write-leaves_own : (old new : PoolView) (f : ℕ) (x : FrameContent) → Writes old new f x → IsSound old → (c : ℕ) → HasFrame old c f → LeavesOthers old new c
write-leaves_own old new f x w sound c has d ne = keeps-chain old new d (ap (λ (es : List (Option ChainEntry)). get_or es d None) w.chains)
    (λ g at. written-other old new f x w g (λ same. ne (sound.one_chain d c f (subst (λ (y : ℕ). HasFrame old d y) same at) has)))

write-keeps_spare : (old new : PoolView) (f : ℕ) (x : FrameContent) → Writes old new f x → spare_of new ≡ spare_of old
write-keeps_spare old new f x w = ap (λ (n : ℕ). n - promised new) (ap (λ (fs : List FrameContent). length fs) w.frames ∙ length-set old.frames f x)
    ∙ ap (λ (es : List (Option ChainEntry)). length old.frames - sum_by promise_of es) w.chains

-- ---- the same by the page that a chain has the frame for

pub value-at : (values : FrameContent → List ℕ) (pool : PoolView) → IsSound pool → (c page f slot docs : ℕ) → HasPage (chain_view pool c) page f → slot < 256 → 256 * page + slot < docs
    → get_or (view_values values docs (chain_view pool c)) (256 * page + slot) 0 ≡ get_or (values (content_of pool f)) slot 0
value-at values pool sound c page f slot docs has small inside =
    let own = of_page pool c page f has in
    subst (λ (p : ℕ). get_or (view_values values docs (chain_view pool c)) (256 * p + slot) 0 ≡ get_or (values (content_of pool f)) slot 0) own.1
    (value-own values pool sound c f slot docs own.0 small (subst (λ (p : ℕ). 256 * p + slot < docs) (sym own.1) inside))

pub write-sets_value : (values : FrameContent → List ℕ) (old new : PoolView) (f slot v : ℕ) (x : FrameContent) → Writes old new f x → IsSound old
    → values x ≡ set (values (content_of old f)) slot v → slot < length (values (content_of old f)) → slot < 256 → (c page docs : ℕ) → HasPage (chain_view old c) page f
    → view_values values docs (chain_view new c) ≡ set (view_values values docs (chain_view old c)) (256 * page + slot) v
write-sets_value values old new f slot v x w sound is inside small c page docs has =
    let own = of_page old c page f has in
    subst (λ (p : ℕ). view_values values docs (chain_view new c) ≡ set (view_values values docs (chain_view old c)) (256 * p + slot) v) own.1
    (write-sets_own values old new f slot v x w sound is inside small c docs own.0)

pub write-sets_page : (values : FrameContent → List ℕ) (old new : PoolView) (f : ℕ) (slots : List ℕ) (x : FrameContent) → Writes old new f x → IsSound old
    → ((s : ℕ) → s < 256 → get_or (values x) s 0 ≡ get_or slots s 0) → (c page docs : ℕ) → HasPage (chain_view old c) page f
    → view_values values docs (chain_view new c) ≡ with_page page slots (view_values values docs (chain_view old c))
write-sets_page values old new f slots x w sound is c page docs has =
    let own = of_page old c page f has in
    subst (λ (p : ℕ). view_values values docs (chain_view new c) ≡ with_page p slots (view_values values docs (chain_view old c))) own.1
    (write-sets_own_page values old new f slots x w sound is c docs own.0)

pub write-keeps_frames : (old new : PoolView) (f : ℕ) (x : FrameContent) → Writes old new f x → (c : ℕ) → KeepsFrames (chain_view old c) (chain_view new c)
write-keeps_frames old new f x w c = record {
  promise = ap (λ (v : ChainView). v.promise) (written-view old new f x w c);
  count = ap (λ (v : ChainView). length v.frames) (written-view old new f x w c)
      ∙ length-map (chain_of old c).frames (held_by (content_of new)) ∙ sym (length-map (chain_of old c).frames (held_frame old));
  pages = λ p. write-keeps_numbers old new f x w c p;
}

pub write-leaves_pool : (old new : PoolView) (f : ℕ) (x : FrameContent) → Writes old new f x → IsSound old → (c page : ℕ) → HasPage (chain_view old c) page f → LeavesPool old new c
write-leaves_pool old new f x w sound c page has = record {
  others = write-leaves_own old new f x w sound c (of_page old c page f has).0;
  frames = ap (λ (fs : List FrameContent). length fs) w.frames ∙ length-set old.frames f x;
  in_use = ap (λ (es : List (Option ChainEntry)). map is_some es) w.chains;
  spare = write-keeps_spare old new f x w;
  promise = (write-keeps_frames old new f x w c).promise;
}
