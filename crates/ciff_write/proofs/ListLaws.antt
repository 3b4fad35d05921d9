-- The canonical body of a postings list stands for it.
use Rattle.shared_lemmas.proofs.Common.{◌≡◌, ◌≢◌, ℕ, suc, ◌+◌, ◌-◌, ◌*◌, ◌^◌, ◌<◌, ◌≤◌, Bool, true, false, List, [], ◌∷◌, ◌++◌, length, get_or, refl, sym, ap, subst, ◌∙◌, append_assoc, append-nil, add-one, arith, ◌==◌, if◌then◌else◌, AllByRecursion, flat_map, IsStrictlyIncreasing}
use Rattle.shared_lemmas.proofs.Common.{recursion_from_All, flat_map-append}
use Rattle.std.proofs.Common.{length-append}
use Rattle.ciff_write.proofs.Below.{Posting, docs_of, HasTfInRange, WireField, Number, Text, AreFields, number_in, text_in, texts_in, number_field, texts_field, short_varint, ListData, IsPosting, ArePostings, IsList, FitsList, sized, number_spelling, text_spelling, posting_body, postings_spelling}
use Rattle.ciff_write.proofs.Below.{list_body, spells-append, short_size}
use Rattle.ciff_write.proofs.VarintLaws.{short_is_varint}
use Rattle.ciff_write.proofs.FieldLaws.{IsEntry, present, field_spelling, table_spelled, kept, kept_before, present_all, texts_skipped, absent_number, absent_text}
use Rattle.ciff_write.proofs.MessageLaws.{field, entry}

-- ---- a posting

abbrev posting_table : ℕ → Posting → List WireField
posting_table last p = field 1 (Number (p.doc - last)) ∷ field 2 (Number p.tf) ∷ []

posting_stands : (last : ℕ) (p : Posting) → last ≤ p.doc → p.doc < 2 ^ 26 → HasTfInRange p → IsPosting last (posting_body last p) p
posting_stands last p above below tf =
    let table : List WireField = posting_table last p in
    let entries : AllByRecursion IsEntry table = (entry 1 (Number (p.doc - last)) (omega arith) (omega arith) (omega (arith, below)), (entry 2 (Number p.tf) (omega arith) (omega arith) (omega (arith, tf.1)), tt)) in
    let flat : flat_map field_spelling table ≡ posting_body last p = ap (λ (s : List ℕ). number_spelling 1 (p.doc - last) ++ s) (append-nil (number_spelling 2 p.tf)) in
    let gap : number_field 1 (present table) ≡ p.doc - last = kept number_in 1 0 absent_number 0 table refl entries in
    record {
      fields = present table;
      spelled = subst (λ (s : List ℕ). AreFields s (present table)) flat (table_spelled table entries);
      doc = omega (arith, gap, above);
      tf = sym (kept number_in 2 0 absent_number 0 table refl entries);
    }

-- ---- postings

abbrev posting_bodies : ℕ → List Posting → List (List ℕ)
posting_bodies last [] = []
posting_bodies last (p ∷ ps) = posting_body last p ∷ posting_bodies p.doc ps

abbrev posting_fields : List (List ℕ) → List WireField
posting_fields [] = []
posting_fields (body ∷ bodies) = field 4 (Text body) ∷ posting_fields bodies

number_few : (i n : ℕ) → length (number_spelling i n) ≤ 20
number_few i n = go (n == 0)
  where
    go : (b : Bool) → length (if b then [] else short_varint (i * 8) ++ short_varint n) ≤ 20
    go true = omega arith
    go false = omega (arith, length-append (short_varint (i * 8)) (short_varint n), short_size (i * 8), short_size n)

posting_few : (last : ℕ) (p : Posting) → length (posting_body last p) < 2 ^ 64
posting_few last p = omega (arith, length-append (number_spelling 1 (p.doc - last)) (number_spelling 2 p.tf), number_few 1 (p.doc - last), number_few 2 p.tf)

fields_spelled : (last : ℕ) (ps : List Posting) → AreFields (postings_spelling last ps) (posting_fields (posting_bodies last ps))
fields_spelled last [] = refl
fields_spelled last (p ∷ ps) =
    let body : List ℕ = posting_body last p in (
      short_varint (4 * 8 + 2) ++ sized body,
      postings_spelling p.doc ps,
      refl,
      record {
        tag = short_varint (4 * 8 + 2);
        value = sized body;
        parts = refl;
        tagged = short_is_varint 34 (omega arith);
        numbered = (omega arith, omega arith);
        valued = record { size = short_varint (length body); parts = refl; sized = short_is_varint (length body) (posting_few last p) };
      },
      fields_spelled p.doc ps,
    )

fields_numbered : (i : ℕ) → 4 ≢ i → (bodies : List (List ℕ)) → AllByRecursion (λ (f : WireField). f.number ≢ i) (posting_fields bodies)
fields_numbered i other [] = tt
fields_numbered i other (body ∷ bodies) = (other, fields_numbered i other bodies)

texts_there : (bodies : List (List ℕ)) → texts_field 4 (posting_fields bodies) ≡ bodies
texts_there [] = refl
texts_there (body ∷ bodies) = ap (λ (bs : List (List ℕ)). body ∷ bs) (texts_there bodies)

rising_next : (xs : List ℕ) (k : ℕ) → IsStrictlyIncreasing xs → suc k < length xs → get_or xs k 0 < get_or xs (suc k) 0
rising_next xs k rising more = subst (λ (n : ℕ). get_or xs k 0 < get_or xs n 0) (add-one k) (rising k (omega (arith, more)))

rising_tail : (x : ℕ) (xs : List ℕ) → IsStrictlyIncreasing (x ∷ xs) → IsStrictlyIncreasing xs
rising_tail x xs rising k more = subst (λ (n : ℕ). get_or xs k 0 < get_or xs n 0) (sym (add-one k)) (rising_next (x ∷ xs) (suc k) rising (omega (arith, more)))

postings_stand : (last : ℕ) (ps : List Posting) → (0 < length ps → last ≤ get_or (docs_of ps) 0 0) → IsStrictlyIncreasing (docs_of ps) → AllByRecursion HasTfInRange ps → AllByRecursion (λ (doc : ℕ). doc < 2 ^ 26) (docs_of ps) →
    ArePostings last (posting_bodies last ps) ps
postings_stand last [] first rising tf below = tt
postings_stand last (p ∷ []) first rising tf below = (posting_stands last p (first (omega arith)) below.0 tf.0, tt)
postings_stand last (p ∷ q ∷ ps) first rising tf below =
    let next : p.doc < q.doc = rising_next (docs_of (p ∷ q ∷ ps)) 0 rising (omega arith) in
    (posting_stands last p (first (omega arith)) below.0 tf.0, postings_stand p.doc (q ∷ ps) (λ _. omega (arith, next)) (rising_tail p.doc (docs_of (q ∷ ps)) rising) tf.1 below.1)

-- ---- a list

abbrev list_table : ListData → List WireField
list_table l = field 1 (Text l.term) ∷ field 2 (Number l.df) ∷ field 3 (Number l.cf) ∷ []

list_flat : (a b c d : List ℕ) → (a ++ (b ++ (c ++ []))) ++ d ≡ ((a ++ b) ++ c) ++ d
list_flat a b c d = simp (append_assoc, append-nil) refl

docs_small : (docs : ℕ) (xs : List ℕ) → docs ≤ 2 ^ 26 → AllByRecursion (λ (doc : ℕ). doc < docs) xs → AllByRecursion (λ (doc : ℕ). doc < 2 ^ 26) xs
docs_small docs [] few below = tt
docs_small docs (x ∷ xs) few below = (omega (arith, few, below.0), docs_small docs xs few below.1)

pub list_stands : (docs : ℕ) (l : ListData) → docs ≤ 2 ^ 26 → FitsList docs l → IsList docs (list_body l) l
list_stands docs l few fits =
    let table : List WireField = list_table l in
    let bodies : List (List ℕ) = posting_bodies 0 l.postings in
    let later : List WireField = posting_fields bodies in
    let entries : AllByRecursion IsEntry table
    = (entry 1 (Text l.term) (omega arith) (omega arith) (omega (arith, fits.short)), (entry 2 (Number l.df) (omega arith) (omega arith) (omega (arith, fits.df)), (entry 3 (Number l.cf) (omega arith) (omega arith) (omega (arith, fits.cf)), tt))) in
    let flat : flat_map field_spelling table ++ postings_spelling 0 l.postings ≡ list_body l = list_flat (text_spelling 1 l.term) (number_spelling 2 l.df) (number_spelling 3 l.cf) (postings_spelling 0 l.postings) in
    let none : AllByRecursion (λ (f : WireField). f.number ≢ 4) (present table) = present_all (λ (f : WireField). f.number ≢ 4) table ((λ same. absurd (omega (arith, same))), ((λ same. absurd (omega (arith, same))), ((λ same. absurd (omega (arith, same))), tt))) in
    let texts : texts_field 4 (present table ++ later) ≡ bodies
    = flat_map-append (λ (f : WireField). if f.number == 4 then texts_in f.value else []) (present table) later ∙ ap (λ (bs : List (List ℕ)). bs ++ texts_field 4 later) (texts_skipped 4 (present table) none) ∙ texts_there bodies in
    record {
      fields = present table ++ later;
      spelled = subst (λ (s : List ℕ). AreFields s (present table ++ later)) flat (spells-append _ (flat_map field_spelling table) (postings_spelling 0 l.postings) (present table) later (table_spelled table entries) (fields_spelled 0 l.postings));
      term = sym (kept_before text_in 1 [] absent_text 0 table later refl entries (fields_numbered 1 (λ same. absurd (omega (arith, same))) bodies));
      df = sym (kept_before number_in 2 0 absent_number 0 table later refl entries (fields_numbered 2 (λ same. absurd (omega (arith, same))) bodies));
      cf = sym (kept_before number_in 3 0 absent_number 0 table later refl entries (fields_numbered 3 (λ same. absurd (omega (arith, same))) bodies));
      postings = subst (λ (bs : List (List ℕ)). ArePostings 0 bs l.postings) (sym texts)
          (postings_stand 0 l.postings (λ _. omega arith) fits.rising (recursion_from_All HasTfInRange l.postings fits.tf) (docs_small docs (docs_of l.postings) few (recursion_from_All (λ (doc : ℕ). doc < docs) (docs_of l.postings) fits.below)));
      fits = fits;
    }
