-- The canonical bodies of a header and of a document stand for them.
use Rattle.shared_lemmas.proofs.Common.{◌≡◌, ℕ, ◌^◌, ◌<◌, ◌≤◌, List, [], ◌∷◌, ◌++◌, length, replicate, refl, sym, subst, append_assoc, append-nil, arith, AllByRecursion, flat_map}
use Rattle.ciff_write.proofs.Below.{WireField, WireValue, Number, Eight, Text, AreFields, number_in, text_in, eight_in, number_field, text_field, eight_field, HeaderData, DocData, IsHeader, IsDoc, FitsHeader, FitsDoc, number_spelling, eight_spelling, text_spelling, header_body, doc_body}
use Rattle.ciff_write.proofs.FieldLaws.{IsEntry, CanStand, present, field_spelling, table_spelled, kept, absent_number, absent_text, absent_eight}

abbrev pub field : ℕ → WireValue → WireField
field i v = record { number = i; value = v }

pub entry : (i : ℕ) (v : WireValue) → 1 ≤ i → i ≤ 15 → CanStand v → IsEntry (field i v)
entry i v some few can = record { some = some; few = few; value = can }

-- ---- a header

abbrev header_table : HeaderData → ℕ → ℕ → List WireField
header_table h lists docs = field 1 (Number h.version) ∷ field 2 (Number lists) ∷ field 3 (Number docs) ∷ field 4 (Number h.total_lists) ∷ field 5 (Number h.total_docs) ∷ field 6 (Number h.total_terms) ∷ field 7 (Eight h.average) ∷ field 8 (Text h.description) ∷ []

eight_flat : (a b c d e f g h : List ℕ) → a ++ (b ++ (c ++ (d ++ (e ++ (f ++ (g ++ (h ++ []))))))) ≡ ((((((a ++ b) ++ c) ++ d) ++ e) ++ f) ++ g) ++ h
eight_flat a b c d e f g h = simp (append_assoc, append-nil) refl

same_header : (version total_lists total_docs total_terms : ℕ) (average description : List ℕ) (h : HeaderData) → version ≡ h.version → total_lists ≡ h.total_lists → total_docs ≡ h.total_docs → total_terms ≡ h.total_terms → average ≡ h.average → description ≡ h.description →
    h ≡ record { version = version; total_lists = total_lists; total_docs = total_docs; total_terms = total_terms; average = average; description = description }
same_header version total_lists total_docs total_terms average description h p q r s t u = rw (p, q, r, s, t, u) refl

pub header_stands : (h : HeaderData) (lists docs : ℕ) → FitsHeader h lists docs → length h.average ≡ 8 → length h.description < 2 ^ 64 → IsHeader (header_body h lists docs) h lists docs
header_stands h lists docs fits average description =
    let table : List WireField = header_table h lists docs in
    let entries : AllByRecursion IsEntry table
    = (
      entry 1 (Number h.version) (omega arith) (omega arith) (omega (arith, fits.version)),
      (
        entry 2 (Number lists) (omega arith) (omega arith) (omega
            (arith, fits.few_lists)),
        (
          entry 3 (Number docs) (omega arith) (omega arith) (omega (arith, fits.few_docs)),
          (
            entry 4 (Number h.total_lists)
                (omega arith) (omega arith) (omega (arith, fits.total_lists)),
            (
              entry 5 (Number h.total_docs) (omega arith) (omega arith) (omega
                  (arith, fits.total_docs)),
              (
                entry 6 (Number h.total_terms) (omega arith) (omega arith) (omega (arith, fits.total_terms)),
                (entry 7 (Eight h.average) (omega arith) (omega arith) average, (entry 8 (Text h.description) (omega arith) (omega arith) description, tt)),
              ),
            ),
          ),
        ),
      ),
    ) in
    let flat : flat_map field_spelling table ≡ header_body h lists docs
    = eight_flat (number_spelling 1 h.version) (number_spelling 2 lists) (number_spelling 3 docs) (number_spelling 4 h.total_lists) (number_spelling 5 h.total_docs) (number_spelling 6 h.total_terms) (eight_spelling 7 h.average) (text_spelling 8 h.description) in
    let number : (i : ℕ) → number_field i (present table) ≡ number_field i table = λ i. kept number_in i 0 absent_number 0 table refl entries in
    record {
      fields = present table;
      spelled = subst (λ (s : List ℕ). AreFields s (present table)) flat (table_spelled table entries);
      header = same_header (number_field 1 (present table)) (number_field 4 (present table)) (number_field 5 (present table)) (number_field 6 (present table)) (eight_field 7 (present table)) (text_field 8 (present table)) h
          (number 1) (number 4) (number 5) (number 6) (kept eight_in 7 (replicate 8 0) absent_eight 0 table refl entries) (kept text_in 8 [] absent_text 0 table refl entries);
      list_count = sym (number 2);
      doc_count = sym (number 3);
      fits = fits;
    }

-- ---- a document

abbrev doc_table : ℕ → DocData → List WireField
doc_table number d = field 1 (Number number) ∷ field 2 (Text d.name) ∷ field 3 (Number d.length) ∷ []

three_flat : (a b c : List ℕ) → a ++ (b ++ (c ++ [])) ≡ (a ++ b) ++ c
three_flat a b c = simp (append_assoc, append-nil) refl

pub doc_stands : (number : ℕ) (d : DocData) → number < 2 ^ 26 → FitsDoc d → IsDoc (doc_body number d) number d
doc_stands number d few fits =
    let table : List WireField = doc_table number d in
    let entries : AllByRecursion IsEntry table
    = (entry 1 (Number number) (omega arith) (omega arith) (omega (arith, few)), (entry 2 (Text d.name) (omega arith) (omega arith) (omega (arith, fits.name.fits)), (entry 3 (Number d.length) (omega arith) (omega arith) (omega (arith, fits.length)), tt))) in
    let flat : flat_map field_spelling table ≡ doc_body number d = three_flat (number_spelling 1 number) (text_spelling 2 d.name) (number_spelling 3 d.length) in
    record {
      fields = present table;
      spelled = subst (λ (s : List ℕ). AreFields s (present table)) flat (table_spelled table entries);
      numbered = sym (kept number_in 1 0 absent_number 0 table refl entries);
      name = sym (kept text_in 2 [] absent_text 0 table refl entries);
      length = sym (kept number_in 3 0 absent_number 0 table refl entries);
      fits = fits;
    }
