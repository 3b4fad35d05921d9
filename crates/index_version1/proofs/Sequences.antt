-- Parts that are read one after the other.
use Rattle.shared_lemmas.proofs.Common.{◌≡◌, ◌≤◌, ◌<◌, ◌+◌, ◌==◌, not, nat_lt, ℕ, Bool, zero, suc, length, true, false, List, [], ◌∷◌, ◌++◌, Result, Ok, Err, append_assoc, ap, sym, subst, ◌∙◌, refl, arith, IsUtf8, not-false}
use Rattle.index_version1.proofs.Below.{OpenRefusal, Names, Fails, check, judged, refuse, NamesRead, is_name_text, OpenFault, Refused, ReadFault, NoMemory, judged_ok}
use Rattle.index_version1.specs.Reading.{names_place, offset_in, offset_checks, read_offsets, read_texts, name1_in, text_checks, names_from}
use Rattle.shared_lemmas.proofs.Texts.{no_utf8}

-- all offsets are good
pub offsets_all : (bytes : List ℕ) (d place k i : ℕ) → names_place d ≤ length bytes → offset_in bytes 0 ≡ 0 → place ≡ names_place d → k ≡ 0 → judged (offset_checks bytes d 0) place ≡ judged (offset_checks bytes k i) place → read_offsets bytes d ≡ Ok place
unfolding read_offsets
offsets_all bytes d place k i inside first same none all =
    let a : nat_lt (length bytes) (names_place d) ≡ false = grind (arith, inside) in
    let b : not (offset_in bytes 0 == 0) ≡ false = rw first refl in
    rw (a, b) (ap (judged (offset_checks bytes d 0)) (sym same) ∙ all ∙ ap (λ n. judged (offset_checks bytes n i) place) none)

-- offsets that rise one by one
pub rise_to : (bytes : List ℕ) (i k j : ℕ) → i + k ≡ j → ((n : ℕ) → n < j → offset_in bytes n < offset_in bytes (n + 1)) → offset_in bytes i ≤ offset_in bytes j
rise_to bytes i zero j same rising = (let e : i ≡ j = omega (arith, same) in subst (λ n. offset_in bytes i ≤ offset_in bytes n) e (omega arith))
rise_to bytes i (suc k) j same rising = omega (arith, rising i (omega (arith, same)), rise_to bytes (i + 1) k j (omega (arith, same)) rising)

-- one name more, or a bad one
pub texts_on : (bytes : List ℕ) (place k left i : ℕ) (x : NamesRead) → k ≡ suc left → is_name_text (name1_in bytes place i) ≡ true → judged (text_checks bytes place k i) x ≡ judged (text_checks bytes place left (i + 1)) x
texts_on bytes place k left i x more good = rw (more, good) refl

pub texts_not : (bytes : List ℕ) (place k left i : ℕ) (x : NamesRead) → k ≡ suc left → is_name_text (name1_in bytes place i) ≡ false → judged (text_checks bytes place k i) x ≡ refuse (place + offset_in bytes i) Names
texts_not bytes place k left i x more bad = rw (more, bad) refl

pub names_on : (bytes : List ℕ) (place k left i : ℕ) (front : List (List ℕ)) (name : List ℕ) → k ≡ suc left → name ≡ name1_in bytes place i → (front ++ name ∷ []) ++ names_from bytes place left (i + 1) ≡ front ++ names_from bytes place k i
names_on bytes place k left i front name more is = append_assoc front (name ∷ []) (names_from bytes place left (i + 1)) ∙ ap (λ n. front ++ n ∷ names_from bytes place left (i + 1)) is ∙ ap (λ n. front ++ names_from bytes place n i) (sym more)

-- a name that was read, or refused
pub name_good : (bytes name : List ℕ) (at : ℕ) → judged (check (not (is_name_text bytes)) at Names ∷ []) bytes ≡ Ok name → (is_name_text bytes ≡ true) × (bytes ≡ name)
name_good bytes name at read = let x = judged_ok (check (not (is_name_text bytes)) at Names ∷ []) bytes name read in (not-false (is_name_text bytes) x.0.0, x.1)

pub name_fails : (e : OpenFault) (bytes : List ℕ) (at : ℕ) (total : Result NamesRead OpenRefusal) → Fails e (judged (check (not (is_name_text bytes)) at Names ∷ []) bytes) → (is_name_text bytes ≡ false → total ≡ refuse at Names) → Fails e total
name_fails (Refused refusal) bytes at total read bad = by_text (is_name_text bytes) refl read
  where
    by_text : (b : Bool) → b ≡ is_name_text bytes → judged (check (not (is_name_text bytes)) at Names ∷ []) bytes ≡ Err refusal → total ≡ Err refusal
    by_text true is read = let e = ap (λ b. judged (check (not b) at Names ∷ []) bytes) is ∙ read in absurd cc
    by_text false is read = let e = ap (λ b. judged (check (not b) at Names ∷ []) bytes) is ∙ read in let f = bad (sym is) in cc
name_fails ReadFault bytes at total read bad = read
name_fails NoMemory bytes at total read bad = tt

pub not_text : (e : OpenFault) (bytes : List ℕ) (at : ℕ) → e ≡ Refused (record { at = at; why = Names }) → (IsUtf8 bytes → ⊥) → Fails e (judged (check (not (is_name_text bytes)) at Names ∷ []) bytes)
not_text e bytes at is none =
    let no = no_utf8 bytes none in
    subst (λ e. Fails e (judged (check (not (is_name_text bytes)) at Names ∷ []) bytes)) (sym is) (rw no refl)

pub texts_open : (bytes : List ℕ) (d place : ℕ) → place + offset_in bytes d ≤ length bytes → read_texts bytes d place ≡ judged (text_checks bytes place d 0) (record { names = names_from bytes place d 0; end = place + offset_in bytes d })
unfolding read_texts
texts_open bytes d place within = let a : nat_lt (length bytes) (place + offset_in bytes d) ≡ false = grind (arith, within) in rw a refl

pub refused_at : (place m n : ℕ) → n ≡ m → (let r : Result NamesRead OpenRefusal = refuse (place + n) Names in r) ≡ refuse (place + m) Names
refused_at place m n same = ap (λ n. (let r : Result NamesRead OpenRefusal = refuse (place + n) Names in r)) same
