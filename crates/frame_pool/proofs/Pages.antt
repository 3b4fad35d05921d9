-- Frames found by their pages.
use Rattle.std.proofs.Common.{◌≡◌, ◌≢◌, ℕ, suc, zero, ◌<◌, ◌==◌, List, [], ◌∷◌, length, map, get_or, refl, Option, Some, None, cond, find, option_map, AllPairs, Contains, sym, ap, ◌∙◌, subst, inl, inr, arith}
use Rattle.std.proofs.lemmas.Bool.{ne_eqb, eq-eqb}
use Rattle.std.proofs.lemmas.Bool.Decides.{eqb_tells}
use Rattle.frame_pool.specs.Pool.{PoolView, FrameContent, content_of, chain_of, HasFrame}
use Rattle.frame_pool.specs.ChainView.{HeldFrame, chain_view, HasPage}

abbrev pub held_by : (ℕ → FrameContent) → ℕ → HeldFrame
held_by content g = record { number = g; content = content g }

pub none_found : (o : Option HeldFrame) → option_map (λ h. h.number) o ≡ None → o ≡ None
none_found None h = refl
none_found (Some x) h = cc

-- what is found for a page is one of the frames, with this page
has_member : (content : ℕ → FrameContent) (p f : ℕ) (fs : List ℕ) → option_map (λ h. h.number) (find (λ h. h.content.page == p) (map (held_by content) fs)) ≡ Some f
    → Contains fs f × ((content f).page ≡ p)
has_member content p f [] has = cc
has_member content p f (g ∷ fs) has = elim (eqb_tells (content g).page p) as (λ _. Contains (g ∷ fs) f × ((content f).page ≡ p)) [
  | inl here ↦
      let is : Some g ≡ Some f =
      sym (ap (λ b. option_map (λ (h : HeldFrame). h.number) (cond b (Some (held_by content g)) (find (λ h. h.content.page == p) (map (held_by content) fs)))) here.0) ∙ has in
      let same : g ≡ f = cc in
      ((0, omega arith, same), subst (λ (x : ℕ). (content x).page ≡ p) same here.1)
  | inr other ↦
      let rest : option_map (λ (h : HeldFrame). h.number) (find (λ h. h.content.page == p) (map (held_by content) fs)) ≡ Some f =
      sym (ap (λ b. option_map (λ (h : HeldFrame). h.number) (cond b (Some (held_by content g)) (find (λ h. h.content.page == p) (map (held_by content) fs)))) other.0) ∙ has in
      let there = has_member content p f fs rest in
      ((suc there.0.0, (let h : there.0.0 < length fs = there.0.1 in omega arith), there.0.2), there.1)
]

-- a frame whose page none before it has is found by its page
number-at : (content : ℕ → FrameContent) (fs : List ℕ) (k f : ℕ) → k < length fs → get_or fs k f ≡ f → ((j : ℕ) → j < k → (content (get_or fs j f)).page ≢ (content f).page)
    → option_map (λ h. h.number) (find (λ h. h.content.page == (content f).page) (map (held_by content) fs)) ≡ Some f
number-at content [] k f inside is apart = absurd (omega arith)
number-at content (g ∷ fs) zero f inside is apart =
    ap (λ b. option_map (λ (h : HeldFrame). h.number) (cond b (Some (held_by content g)) (find (λ h. h.content.page == (content f).page) (map (held_by content) fs))))
    (eq-eqb (content g).page (content f).page (ap (λ (x : ℕ). (content x).page) is)) ∙ ap (λ (x : ℕ). Some x) is
number-at content (g ∷ fs) (suc k) f inside is apart =
    ap (λ b. option_map (λ (h : HeldFrame). h.number) (cond b (Some (held_by content g)) (find (λ h. h.content.page == (content f).page) (map (held_by content) fs))))
    (ne_eqb (content g).page (content f).page (apart 0 (omega arith))) ∙ number-at content fs k f (omega arith) is (λ j lt. apart (suc j) (omega arith))

-- the pages of a chain before that of one of its frames
pub pages_before : (pool : PoolView) (c : ℕ) → AllPairs (λ a b. (content_of pool a).page ≢ (content_of pool b).page) (chain_of pool c).frames
    → (f k : ℕ) → k < length (chain_of pool c).frames → get_or (chain_of pool c).frames k f ≡ f
    → (j : ℕ) → j < k → (content_of pool (get_or (chain_of pool c).frames j f)).page ≢ (content_of pool f).page
pages_before pool c differ f k inside is j lt same = differ j k f lt inside (same ∙ sym (ap (λ (x : ℕ). (content_of pool x).page) is))

pub of_page : (pool : PoolView) (c p f : ℕ) → HasPage (chain_view pool c) p f → HasFrame pool c f × ((content_of pool f).page ≡ p)
of_page pool c p f has = has_member (content_of pool) p f (chain_of pool c).frames has

pub by_page : (pool : PoolView) (c : ℕ) → AllPairs (λ a b. (content_of pool a).page ≢ (content_of pool b).page) (chain_of pool c).frames
    → (f : ℕ) → HasFrame pool c f → HasPage (chain_view pool c) (content_of pool f).page f
by_page pool c differ f has = number-at (content_of pool) (chain_of pool c).frames has.0 f has.1 has.2 (pages_before pool c differ f has.0 has.1 has.2)
