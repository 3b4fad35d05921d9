-- The first part of a line, and the others.
use Rattle.shared_lemmas.proofs.Common.{◌≡◌, ℕ, suc, ◌+◌, ◌<◌, true, false, inl, inr, List, [], ◌∷◌, ◌++◌, length, get_or, take, drop, filter, refl, ap, sym, ◌∙◌, arith, All, ◌==◌, cases_Bool, slice_split, take-append-drop, get_or-take, length-take, get_or_default_zero, slice_split_at}
use Rattle.shared_lemmas.proofs.Common.{slice_split_none}
use Rattle.std.proofs.lemmas.Bool.{eqb-true}
use Rattle.std.proofs.Math.Seq.{drop-cons}
use Rattle.trec_run.specs.Runs.{is_blank, has_bytes, columns_of}
use Rattle.trec_run.specs.Private.Parts.{and_column}

pub no_columns : columns_of [] ≡ []
unfolding columns_of
no_columns = refl

kept : (part : List ℕ) (parts : List (List ℕ)) → filter has_bytes (part ∷ parts) ≡ and_column part (filter has_bytes parts)
kept [] parts = refl
kept (b ∷ bytes) parts = refl

pub parted : (text : List ℕ) (end : ℕ) → end < length text → ((i : ℕ) → i < end → is_blank (get_or text i 0) ≡ false) → is_blank (get_or text end 0) ≡ true → columns_of text ≡ and_column (take end text) (columns_of (drop (end + 1) text))
unfolding columns_of
parted text end inside none blank = ap (λ t. filter has_bytes (slice_split is_blank t)) opened ∙ ap (filter has_bytes) (slice_split_at is_blank (take end text) (get_or text end 0) (drop (end + 1) text) front blank) ∙ kept (take end text) (slice_split is_blank (drop (end + 1) text))
  where
    one : suc end ≡ end + 1
    one = omega arith

    opened : text ≡ take end text ++ get_or text end 0 ∷ drop (end + 1) text
    opened = sym (take-append-drop end text) ∙ ap (λ l. take end text ++ l) (drop-cons text end 0 inside ∙ ap (λ n. get_or text end 0 ∷ drop n text) one)

    front : All (λ b. is_blank b ≡ false) (take end text)
    front i d h =
        let first : i < end = omega (arith, h, length-take end text) in
        ap is_blank (get_or_default_zero (take end text) i d h ∙ get_or-take end text i 0 first) ∙ none i first

pub unparted : (text : List ℕ) → ((i : ℕ) → i < length text → is_blank (get_or text i 0) ≡ false) → columns_of text ≡ and_column text (columns_of [])
unfolding columns_of
unparted text none = ap (filter has_bytes) (slice_split_none is_blank text (λ i d h. ap is_blank (get_or_default_zero text i d h) ∙ none i h)) ∙ kept text []

pub blank_small : (b : ℕ) → is_blank b ≡ true → b < 128
blank_small b h =
    elim (cases_Bool (b == 32)) [ inl t ↦ let e : b ≡ 32 = eqb-true b 32 t in omega arith | inr f ↦ let e : b ≡ 9 = eqb-true b 9 (rw f at h) in omega arith ]

pub none_there : (text : List ℕ) → length text ≡ 0 → columns_of text ≡ []
none_there [] h = no_columns
none_there (b ∷ bytes) h = absurd (omega (arith, h))
