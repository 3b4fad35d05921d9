-- A segment whose documents are marked piece by piece.
use Rattle.shared_lemmas.proofs.Common.{◌≡◌, ℕ, ◌+◌, ◌<◌, List, [], ◌∷◌, ◌++◌, length, refl, sym, ap, ◌∙◌, subst, arith, length-append, All, AllByRecursion, All-from_recursion, recursion_from_All}
use Rattle.shared_lemmas.proofs.Lists.{all_front, all_back, all_weaker}
use Rattle.session_engine.proofs.Below.{Piece, HandsOut, piece_docs}
use Rattle.sharp_bounds.specs.Marks.{marked}
use Rattle.sharp_bounds.specs.Masks.{MasksView}

-- some documents of a segment are marked, and the rest, which can be, is left to hand out
pub record IsMarked (left : List ℕ → Type 0) (can : ℕ → Type 0) (place : ℕ) (docs first now : List ℕ) (before steps : ℕ) : Type 0 where
  pub rest : List ℕ
  pub stays : left rest
  pub can_all : AllByRecursion can rest
  pub masks : marked place rest now ≡ marked place docs first
  pub counted : steps + length rest ≡ before + length docs

pub none_marked : (left : List ℕ → Type 0) (can : ℕ → Type 0) (place : ℕ) (docs first : List ℕ) (steps : ℕ) → left docs → AllByRecursion can docs → IsMarked left can place docs first first steps steps
none_marked left can place docs first steps stays can_all = record { rest = docs; stays = stays; can_all = can_all; masks = refl; counted = refl }

module _ {left : List ℕ → Type 0} {can : ℕ → Type 0} {place : ℕ} {docs first now : List ℕ} {before steps : ℕ} (part : IsMarked left can place docs first now before steps) where
  -- none is left once each has its step
  pub all_marked : before + length docs ≡ steps → now ≡ marked place docs first
  all_marked all = ended part.rest part.masks (let c = part.counted in omega (arith, all, c)) where
    ended : (rest : List ℕ) → marked place rest now ≡ marked place docs first → length rest ≡ 0 → now ≡ marked place docs first
    ended [] is none = is
    ended (doc ∷ rest) is none = absurd (omega (arith, none))

  module _ {later : List ℕ → Type 0} (piece : Piece) (block : List ℕ) (handed : HandsOut later piece block part.rest) where
    parted : AllByRecursion can (piece_docs piece block ++ handed.rest)
    parted = subst (AllByRecursion can) (sym handed.parted) part.can_all

    pub piece_can : All can (piece_docs piece block)
    piece_can = All-from_recursion can (piece_docs piece block) (all_front can (piece_docs piece block) handed.rest parted)

    pub more_marked : (still : ℕ → Type 0) (new : List ℕ) (after : ℕ) → new ≡ marked place (piece_docs piece block) now → ((doc : ℕ) → can doc → still doc) → after ≡ steps + length (piece_docs piece block)
        → ((place : ℕ) (docs more masks : List ℕ) → marked place (docs ++ more) masks ≡ marked place more (marked place docs masks))
        → IsMarked later still place docs first new before after
    more_marked still new after is stays counted parts = record {
      rest = handed.rest;
      stays = handed.stays;
      can_all = all_weaker can still (λ doc h. stays doc h) handed.rest (all_back can (piece_docs piece block) handed.rest parted);
      masks = ap (marked place handed.rest) is ∙ sym (parts place (piece_docs piece block) handed.rest now) ∙ ap (λ (l : List ℕ). marked place l now) handed.parted ∙ part.masks;
      counted =
          let was = part.counted in let split = ap (λ (l : List ℕ). length l) (sym handed.parted) ∙ length-append (piece_docs piece block) handed.rest in
          omega (arith, was, split, counted);
    }

-- nothing is marked where there are no masks
pub no_masks : (place : ℕ) (docs : List ℕ) → [] ≡ marked place docs []
no_masks place [] = refl
no_masks place (doc ∷ docs) = no_masks place docs

-- ---- documents of a bitmap, row by row

-- of some documents with masks all but these are marked
pub record IsMarkedBut (place : ℕ) (docs rest : List ℕ) (first now : MasksView) : Type 0 where
  pub masks : marked place rest now.masks ≡ marked place docs first.masks
  pub inside : AllByRecursion (λ doc. doc < length first.masks) rest
  pub same : length now.masks ≡ length first.masks
  pub frames : now.frames ≡ first.frames

pub none_but : (place : ℕ) (docs rest : List ℕ) (first : MasksView) → rest ≡ docs → All (λ doc. doc < length first.masks) docs → IsMarkedBut place docs rest first first
none_but place docs rest first is inside = record {
  masks = ap (λ (l : List ℕ). marked place l first.masks) is;
  inside = subst (λ (l : List ℕ). AllByRecursion (λ doc. doc < length first.masks) l) (sym is) (recursion_from_All (λ doc. doc < length first.masks) docs inside);
  same = refl;
  frames = refl;
}

module _ {place : ℕ} {docs rest : List ℕ} {first now : MasksView} (part : IsMarkedBut place docs rest first now) where
  pub all_but_none : rest ≡ [] → now.masks ≡ marked place docs first.masks
  all_but_none none = ap (λ (l : List ℕ). marked place l now.masks) (sym none) ∙ part.masks

  module _ (block behind row : List ℕ) where
    pub block_inside : rest ≡ block ++ behind → row ≡ block → All (λ doc. doc < length now.masks) row
    block_inside parted is =
        subst (λ n. All (λ doc. doc < n) row) (sym part.same) (subst (λ (l : List ℕ). All (λ doc. doc < length first.masks) l) (sym is)
        (All-from_recursion (λ doc. doc < length first.masks) block (all_front (λ doc. doc < length first.masks) block behind (subst (AllByRecursion (λ doc. doc < length first.masks)) parted part.inside))))

    pub more_but : (later : MasksView) → rest ≡ block ++ behind → row ≡ block → later.masks ≡ marked place row now.masks → later.frames ≡ now.frames
        → ((place : ℕ) (docs more masks : List ℕ) → marked place (docs ++ more) masks ≡ marked place more (marked place docs masks))
        → ((place : ℕ) (docs masks : List ℕ) → length (marked place docs masks) ≡ length masks) → IsMarkedBut place docs behind first later
    more_but later parted is made frames parts long = record {
      masks = ap (marked place behind) (made ∙ ap (λ (l : List ℕ). marked place l now.masks) is) ∙ sym (parts place block behind now.masks) ∙ ap (λ (l : List ℕ). marked place l now.masks) (sym parted) ∙ part.masks;
      inside = all_back (λ doc. doc < length first.masks) block behind (subst (AllByRecursion (λ doc. doc < length first.masks)) parted part.inside);
      same = ap (λ (l : List ℕ). length l) made ∙ long place row now.masks ∙ part.same;
      frames = frames ∙ part.frames;
    }
