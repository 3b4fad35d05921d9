-- A canonical file begins no other one.
use Rattle.std.proofs.Common.{◌≡◌, ℕ, ◌+◌, ◌≤◌, List, [], ◌∷◌, ◌++◌, length, Result, Ok, refl, sym, ap, subst, ◌∙◌, append_assoc, append-nil, length-append, arith}
use Rattle.std.specs.List.{flat_map}
use Rattle.ciff_write.proofs.Below.{WireField, IsField, AreFields, number_field, CollectionData, IsCiff, IsHeader, sized, canonical_ciff, WireWhy, field_at}
use Rattle.ciff_write.specs.Keeping.{KeepsLimits}
use Rattle.ciff_write.proofs.VarintLaws.{groups_some, same_sized}
use Rattle.ciff_write.proofs.FileLaws.{header_of_file, bodies_of, list_bodies, doc_bodies, list_bodies_long, doc_bodies_long, file_messages, file_header, file_stands}

-- ---- a body has one list of fields

no_field : (first rest : List ℕ) (f : WireField) → IsField first f → [] ≡ first ++ rest → ⊥
no_field first rest f is none =
    let some : 1 ≤ length is.tag = groups_some is.tag is.tagged.groups in
    let whole : 0 ≡ length (first ++ rest) = ap (λ (s : List ℕ). length s) none in
    let front : length first ≡ length (is.tag ++ is.value) = ap (λ (s : List ℕ). length s) is.parts in
    omega (arith, some, whole, front, length-append first rest, length-append is.tag is.value)

abbrev read : WireField → List ℕ → Result (WireField × List ℕ) WireWhy
read f rest = Ok (f, rest)

same_pair : (f g : WireField) (r t : List ℕ) → read f r ≡ read g t → (let p : WireField × List ℕ = (f, r) in p) ≡ (g, t)
same_pair f g r t is = cc

module _ (only : (s rest : List ℕ) (f : WireField) → IsField s f → field_at (s ++ rest) ≡ read f rest) where
  same_fields : (s : List ℕ) (fs gs : List WireField) → AreFields s fs → AreFields s gs → fs ≡ gs
  same_fields s [] [] a b = refl
  same_fields s [] (g ∷ gs) a (first, rest, is, one, more) = absurd (no_field first rest g one (sym a ∙ is))
  same_fields s (f ∷ fs) [] (first, rest, is, one, more) b = absurd (no_field first rest f one (sym b ∙ is))
  same_fields s (f ∷ fs) (g ∷ gs) (a, r, is, one, more) (b, t, are, other, later) =
      let both = same_pair f g r t (sym (only a r f one) ∙ ap field_at (sym is ∙ are) ∙ only b t g other) in
      let first : f ≡ g = ap (λ (p : WireField × List ℕ). p.0) both in
      let rest : r ≡ t = ap (λ (p : WireField × List ℕ). p.1) both in
      ap (λ (x : WireField). x ∷ fs) first ∙ ap (λ (xs : List WireField). g ∷ xs) (same_fields t fs gs (subst (λ (u : List ℕ). AreFields u fs) rest more) later)

  -- ---- so many messages are a beginning of as many only where they are the same

  nothing_left : (xs ys : List (List ℕ)) (rest : List ℕ) → length xs ≡ length ys → flat_map sized xs ++ rest ≡ flat_map sized ys → rest ≡ []
  nothing_left [] [] rest many is = is
  nothing_left [] (y ∷ ys) rest many is = absurd (omega (arith, many))
  nothing_left (x ∷ xs) [] rest many is = absurd (omega (arith, many))
  nothing_left (x ∷ xs) (y ∷ ys) rest many is =
      let both = same_sized x y (flat_map sized xs ++ rest) (flat_map sized ys) (sym (append_assoc (sized x) (flat_map sized xs) rest) ∙ is) in
      nothing_left xs ys rest (omega (arith, many)) both.1

  many_bodies : (c : CollectionData) → length (bodies_of c) ≡ length c.lists + length c.docs
  many_bodies c = omega (arith, length-append (list_bodies c.lists) (doc_bodies 0 c.docs), list_bodies_long c.lists, doc_bodies_long 0 c.docs)

  module _ (one : (bytes : List ℕ) (c e : CollectionData) → IsCiff bytes c → IsCiff bytes e → c ≡ e) where
    pub alone : (c e : CollectionData) (rest : List ℕ) → KeepsLimits c → KeepsLimits e → canonical_ciff e ≡ canonical_ciff c ++ rest → c ≡ e
    alone c e rest keeps_c keeps_e is =
        let begins : sized (header_of_file c) ++ (flat_map sized (bodies_of c) ++ rest) ≡ sized (header_of_file e) ++ flat_map sized (bodies_of e)
        = sym (append_assoc (sized (header_of_file c)) (flat_map sized (bodies_of c)) rest) ∙ ap (λ (s : List ℕ). s ++ rest) (sym (file_messages c)) ∙ sym is ∙ file_messages e in
        let both = same_sized (header_of_file c) (header_of_file e) (flat_map sized (bodies_of c) ++ rest) (flat_map sized (bodies_of e)) begins in
        let stands_c : IsCiff (canonical_ciff c) c = file_stands c keeps_c in
        let stands_e : IsCiff (canonical_ciff e) e = file_stands e keeps_e in
        let head_c : IsHeader (header_of_file c) c.header (length c.lists) (length c.docs) = file_header c keeps_c in
        let head_e : IsHeader (header_of_file e) e.header (length e.lists) (length e.docs) = file_header e keeps_e in
        let fields : head_c.fields ≡ head_e.fields = same_fields (header_of_file e) head_c.fields head_e.fields (subst (λ (s : List ℕ). AreFields s head_c.fields) both.0 head_c.spelled) head_e.spelled in
        let lists : length c.lists ≡ length e.lists = head_c.list_count ∙ ap (number_field 2) fields ∙ sym head_e.list_count in
        let docs : length c.docs ≡ length e.docs = head_c.doc_count ∙ ap (number_field 3) fields ∙ sym head_e.doc_count in
        let none : rest ≡ [] = nothing_left (bodies_of c) (bodies_of e) rest (omega (arith, many_bodies c, many_bodies e, lists, docs)) both.1 in
        let same : canonical_ciff e ≡ canonical_ciff c = is ∙ ap (λ (s : List ℕ). canonical_ciff c ++ s) none ∙ append-nil (canonical_ciff c) in
        one (canonical_ciff c) c e stands_c (subst (λ (s : List ℕ). IsCiff s e) same stands_e)
