-- Texts that go to a file in pieces.
use Rattle.shared_lemmas.proofs.Common.{Ok, Err, inl, inr, ◌≡◌, ◌<◌, ◌≤◌, ◌+◌, ◌⊎◌, ℕ, suc, List, [], ◌∷◌, ◌++◌, length, get_or, take, take-suc, flat_map-append, arith, Bool, true, false, refl, sym, ap, subst, ◌∙◌, append-nil, append_assoc}
use Rattle.jass_base.specs.declared.cabinet.Cabinet as cabinet
use Rattle.jass_base.specs.Outside.{Rose}
use Rattle.jass_base.proofs.Writing.{Rose-earlier}
use Rattle.index_write.proofs.Below.{Extends, Sets}
use Rattle.index_write.proofs.Files.{prefix_longer, prefix_more, sets_more}
use Rattle.index_write.specs.Private.Blocks.{joined}
use Rattle.index_write.specs.Private.Pieces.{Waiting, with_more, IsSent, IsUnderWay, Adds, Makes}

-- bytes were appended to any text that was sent, unless writing had failed before
abbrev pub AppendsTo : {C : Type 0} → cabinet.Ghosts C → List ℕ → C → C → Bool → Bool → List ℕ → Type 0
AppendsTo {C} g name before after failed lost bytes = (start : C) (text : List ℕ) → IsSent g start before name failed text → IsSent g start after name lost (text ++ bytes)

-- the first blocks, and one more
pub joined_next : (blocks : List (List ℕ)) (i : ℕ) (block : List ℕ) → i < length blocks → block ≡ get_or blocks i block → joined (take (i + 1) blocks) ≡ joined (take i blocks) ++ block
joined_next blocks i block low is =
    let next : i + 1 ≡ suc i = omega arith in
    ap joined (ap (λ (n : ℕ). take n blocks) next ∙ take-suc blocks i block low ∙ ap (λ (x : List ℕ). take i blocks ++ x ∷ []) (sym is))
    ∙ flat_map-append (λ (x : List ℕ). x) (take i blocks) (block ∷ []) ∙ ap (λ (xs : List ℕ). joined (take i blocks) ++ xs) (append-nil block)

-- some parts of a text were put, and this is left
abbrev pub AddsUpTo : {C : Type 0} → cabinet.Ghosts C → C → C → List ℕ → Waiting → Waiting → List ℕ → List ℕ → Type 0
AddsUpTo g old new name before after whole left = (first : List ℕ) × Adds g old new name before after first × (whole ≡ first ++ left)

module _ {C : Type 0} (g : cabinet.Ghosts C) (name : List ℕ) where
  pub adds_none : (a : C) (x : Waiting) → Adds g a a name x x []
  adds_none a x start text was = (was.0, was.1, append-nil text ∙ was.2)

  pub adds_then : {a b c : C} {x y z : Waiting} (p q : List ℕ) → Adds g a b name x y p → Adds g b c name y z q → Adds g a c name x z (p ++ q)
  adds_then {c = c} {z = z} p q first second start text was =
      subst (IsUnderWay g start c name z) (append_assoc text p q) (second start (text ++ p) (first start text was))

  pub adds_same : {a b : C} {x y : Waiting} {p q : List ℕ} → p ≡ q → Adds g a b name x y p → Adds g a b name x y q
  adds_same {a} {b} {x} {y} is done = subst (λ (p : List ℕ). Adds g a b name x y p) is done

  -- bytes were put behind those that wait
  pub adds_pushed : {a b : C} {x y z : Waiting} (p : List ℕ) → Adds g a b name x y [] → z ≡ with_more y p → Adds g a b name x z p
  adds_pushed {a} {b} {x} {y} {z} p made is =
      subst (λ (w : Waiting). Adds g a b name x w p) (sym is)
      (λ start text was. (let m = made start text was in (m.0, m.1, ap (λ t. t ++ p) (sym (append-nil text) ∙ m.2) ∙ append_assoc m.0 y.bytes p)))

  -- what waits went to the file, and a part behind it
  pub adds_sent : {a b : C} {x z : Waiting} (p q : List ℕ) (before after : Bool) → x.bytes ++ q ≡ p → z.bytes ≡ [] → before ≡ x.failed → z.failed ≡ after
      → ((start : C) (text : List ℕ) → IsSent g start a name before text → IsSent g start b name after (text ++ p)) → Adds g a b name x z q
  adds_sent {a} {b} {x} {z} p q before after joined none was_so is_so send start text was =
      let spelled : text ++ q ≡ (was.0 ++ p) ++ z.bytes =
      ap (λ t. t ++ q) was.2 ∙ append_assoc was.0 x.bytes q ∙ ap (λ r. was.0 ++ r) joined ∙ sym (ap (λ w. (was.0 ++ p) ++ w) none ∙ append-nil (was.0 ++ p)) in
      (was.0 ++ p, subst (λ f. IsSent g start b name f (was.0 ++ p)) (sym is_so) (send start was.0 (subst (λ f. IsSent g start a name f was.0) (sym was_so) was.1)), spelled)

  pub up_to_none : (a : C) (x : Waiting) (whole : List ℕ) → AddsUpTo g a a name x x whole whole
  up_to_none a x whole = ([], adds_none a x, refl)

  pub up_to_more : {a b c : C} {x y z : Waiting} {whole : List ℕ} (left part others : List ℕ) → left ≡ part ++ others
      → AddsUpTo g a b name x y whole left → Adds g b c name y z part → AddsUpTo g a c name x z whole others
  up_to_more left part others is so last = (so.0 ++ part, adds_then so.0 part so.1 last, so.2 ∙ ap (λ s. so.0 ++ s) is ∙ sym (append_assoc so.0 part others))

  pub up_to_all : {a b : C} {x y : Waiting} {whole : List ℕ} (left : List ℕ) → left ≡ [] → AddsUpTo g a b name x y whole left → Adds g a b name x y whole
  up_to_all left none so = adds_same (sym (so.2 ∙ ap (λ s. so.0 ++ s) none ∙ append-nil so.0)) so.1

  -- no write is tried once one failed
  pub not_tried : (start a : C) (text part : List ℕ) (failed : Bool) → failed ≡ true → IsSent g start a name failed text → IsSent g start a name true (text ++ part)
  not_tried start a text part false is was = absurd (cc)
  not_tried start a text part true is was =
      record { content = prefix_longer (g.told start) (g.told a) name text part was.content; cause = was.cause; later = was.later; others = was.others }

  module _ (start a b : C) (text part : List ℕ) (later : g.write_faults a ≤ g.write_faults b) (others : g.read_faults a ≤ g.read_faults b) where
    pub tried : (failed : Bool) → failed ≡ false → IsSent g start a name failed text → Extends (g.told a) (g.told b) name part → IsSent g start b name false (text ++ part)
    tried true is was put = absurd (cc)
    tried false is was put = record {
      content = sets_more (g.told start) (g.told a) (g.told b) name text part was.content put;
      cause = λ no. absurd (cc);
      later = omega (arith, was.later, later);
      others = omega (arith, was.others, others);
    }

    pub tried_in_vain : (failed : Bool) → failed ≡ false → IsSent g start a name failed text → (g.told b ≡ g.told a) ⊎ ((n : ℕ) × Extends (g.told a) (g.told b) name (take n part)) → Rose (g.write_faults a) (g.write_faults b)
        → IsSent g start b name true (text ++ part)
    tried_in_vain true is was put rose = absurd (cc)
    tried_in_vain false is was put rose = record {
      content = prefix_more (g.told start) (g.told a) (g.told b) name text part was.content put;
      cause = λ yes. Rose-earlier (g.write_faults start) (g.write_faults a) (g.write_faults b) was.later rose;
      later = omega (arith, was.later, later);
      others = omega (arith, was.others, others);
    }

  -- a whole text was put, and nothing waits
  pub all_sent : {start a b : C} {x z : Waiting} (whole : List ℕ) → x.bytes ≡ [] → x.failed ≡ false → IsSent g start a name false []
      → Adds g a b name x z whole → z.bytes ≡ [] → IsSent g start b name z.failed whole
  all_sent {start} {a} {b} {x} {z} whole none sound made adds last =
      let m = adds start [] ([], subst (λ f. IsSent g start a name f []) (sym sound) made, sym none) in
      subst (IsSent g start b name z.failed) (sym (m.2 ∙ ap (λ w. m.0 ++ w) last ∙ append-nil m.0)) m.1

  pub appends_none : (a : C) (failed : Bool) → AppendsTo g name a a failed failed []
  appends_none a failed start text was = subst (IsSent g start a name failed) (sym (append-nil text)) was

  pub appends_same : {a b : C} {failed lost : Bool} {p q : List ℕ} → p ≡ q → AppendsTo g name a b failed lost p → AppendsTo g name a b failed lost q
  appends_same {a} {b} {failed} {lost} is done = subst (AppendsTo g name a b failed lost) is done

  pub appends_then : {a b c : C} {failed lost after : Bool} (p q : List ℕ) → AppendsTo g name a b failed lost p → AppendsTo g name b c lost after q → AppendsTo g name a c failed after (p ++ q)
  appends_then {c = c} {after = after} p q first second start text was = subst (IsSent g start c name after) (append_assoc text p q) (second start (text ++ p) (first start text was))

  -- a file was made empty
  pub created : (a b : C) → Sets (g.told a) (g.told b) name [] → g.write_faults a ≤ g.write_faults b → g.read_faults a ≤ g.read_faults b → IsSent g a b name false []
  created a b made later others = record { content = made; cause = λ no. absurd (cc); later = later; others = others }

  pub uncreated : (a b : C) → (g.told b ≡ g.told a) ⊎ Sets (g.told a) (g.told b) name [] → Rose (g.write_faults a) (g.write_faults b) → g.write_faults a ≤ g.write_faults b → g.read_faults a ≤ g.read_faults b → IsSent g a b name true []
  uncreated a b (inl same) rose later others = record { content = inl same; cause = λ yes. rose; later = later; others = others }
  uncreated a b (inr made) rose later others = record { content = inr (0, made); cause = λ yes. rose; later = later; others = others }

  -- a whole text was sent, or a write failed
  pub made : {T E : Type 0} {x : T} (a b : C) (text : List ℕ) (failed : Bool) → failed ≡ false → IsSent g a b name failed text → Makes {E = E} g a b name text (Ok x)
  made a b text true is was = absurd (cc)
  made a b text false is was = record { ok = was.content; err = tt; cause = record { later = was.later; failed = tt }; others = was.others }

  pub unmade : {T E : Type 0} {e : E} (a b : C) (text : List ℕ) (failed : Bool) → failed ≡ true → IsSent g a b name failed text → Makes {T = T} g a b name text (Err e)
  unmade a b text false is was = absurd (cc)
  unmade a b text true is was = record { ok = tt; err = was.content; cause = record { later = was.later; failed = was.cause refl }; others = was.others }
