-- The terms between neighbouring rows, and their groups, read one after the other.
use Rattle.shared_lemmas.proofs.Common.{◌≡◌, ◌≤◌, ◌<◌, ◌+◌, ℕ, suc, take, drop, length, arith, List, [], ◌∷◌, ◌++◌, Result, Ok, append_assoc, ap, sym, subst, ◌∙◌, refl, ◌*◌, slice_index, slice_range, get_or-append, get_or-append-add, get_or-take, length-append, length-take-le, take_more, drop_more}
use Rattle.index_layout.specs.declared.refusal.OpenFault.TheVariants as faults
use Rattle.index_file.proofs.Below.{Fails, OpenFault, TermData, OpenRefusal, HeadData, ◌>>=◌, SegmentsRead, IndexRead, read_segments, read_payloads, with_index, behind_index}
use Rattle.index_file.specs.declared.term_row.TermRow.{TermRow}
use Rattle.index_file.specs.Private.Payloads.{AreGroups, ArePayloads, IsPlaced, first_payload, payload_place, row_terms, segments_from, term_between}
use Rattle.index_file.specs.Private.Tables.{group_count, heads_between, row_at, row_heads}
use Rattle.index_file.proofs.HeadLists.{place_first}

abbrev none : TermRow
none = record { text = 0; head = 0; group = 0 }

-- a group behind others
group_behind : (groups added : List ℕ) (at g : ℕ) → length groups ≡ at → slice_index (groups ++ added) (at + g) ≡ slice_index added g
group_behind groups added at g is = ap (λ n. slice_index (groups ++ added) (n + g)) (sym is) ∙ get_or-append-add groups added g 0

-- a row's term stays placed when groups follow
pub placed_stays : (bytes : List ℕ) (d : ℕ) (groups added : List ℕ) (row : TermRow) (its : List HeadData) → 1 ≤ length its → IsPlaced bytes d groups row its → IsPlaced bytes d (groups ++ added) row its
placed_stays bytes d groups added row its some is =
    let inside = is.inside in
    let first = get_or-append groups added 0 row.group (omega (arith, some, inside)) in
    let more = length-append groups added in
    record {
      payloads = subst (ArePayloads bytes d its) (sym first) is.payloads;
      inside = omega (arith, inside, more);
      told = λ g few. get_or-append groups added 0 (row.group + g) (omega (arith, inside, few)) ∙ is.told g few
          ∙ ap (λ at. payload_place its at (4 * g)) (sym first);
    }

-- the term of a row is placed by the groups that were read
pub record RowPlaced (bytes : List ℕ) (d : ℕ) (groups : List ℕ) (row : TermRow) (its : List HeadData) (at : ℕ) : Type 0 where
  pub first : first_payload groups row ≡ at
  pub placed : IsPlaced bytes d groups row its
  pub behind : length groups ≡ row.group + group_count (length its)

pub row_placed : (bytes : List ℕ) (d : ℕ) (groups added newer : List ℕ) (row : TermRow) (its : List HeadData) (at : ℕ) → newer ≡ groups ++ added → length groups ≡ row.group → 1 ≤ length its
    → ArePayloads bytes d its at → AreGroups its at added → RowPlaced bytes d newer row its at
row_placed bytes d groups added newer row its at more count some payloads are = subst (λ all. RowPlaced bytes d all row its at) (sym more) there
  where
    many : length (groups ++ added) ≡ row.group + group_count (length its)
    many = (let m = length-append groups added in let n = are.count in omega (arith, m, n, count))

    start : first_payload (groups ++ added) row ≡ at
    start =
        let zero_more : row.group ≡ row.group + 0 = omega arith in
        let n = are.count in
        ap (slice_index (groups ++ added)) zero_more ∙ group_behind groups added row.group 0 count ∙ are.told 0 (omega (arith, n, some)) ∙ place_first its at

    there : RowPlaced bytes d (groups ++ added) row its at
    there = record {
      first = start;
      placed = record {
        payloads = subst (ArePayloads bytes d its) (sym start) payloads;
        inside = omega (arith, many);
        told = λ g few. group_behind groups added row.group g count ∙ are.told g (let n = are.count in omega (arith, n, few))
            ∙ ap (λ at. payload_place its at (4 * g)) (sym start);
      };
      behind = many;
    }

-- terms before those of the added groups
terms_stay : (bytes : List ℕ) (d : ℕ) (heads : List HeadData) (text groups added : List ℕ) (rows : List TermRow) → ((t : ℕ) → t + 1 < length rows → (row_at rows t).group < length groups)
    → row_terms bytes d heads text (groups ++ added) rows ≡ row_terms bytes d heads text groups rows
terms_stay bytes d heads text groups added [] below = refl
terms_stay bytes d heads text groups added (a ∷ []) below = refl
terms_stay bytes d heads text groups added (a ∷ b ∷ rows) below =
    rw (get_or-append groups added 0 a.group (below 0 (omega arith)), terms_stay bytes d heads text groups added (b ∷ rows) (λ t inside. below (suc t) (omega (arith, inside)))) refl

terms_push : (bytes : List ℕ) (d : ℕ) (heads : List HeadData) (text groups : List ℕ) (front : List TermRow) (x y : TermRow) → row_terms bytes d heads text groups (front ++ x ∷ y ∷ []) ≡ row_terms bytes d heads text groups (front ++ x ∷ []) ++ term_between bytes d heads text groups x y ∷ []
terms_push bytes d heads text groups [] x y = refl
terms_push bytes d heads text groups (a ∷ []) x y = refl
terms_push bytes d heads text groups (a ∷ b ∷ front) x y = ap (λ terms. term_between bytes d heads text groups a b ∷ terms) (terms_push bytes d heads text groups (b ∷ front) x y)

index_on : (bytes : List ℕ) (d : ℕ) (heads : List HeadData) (text : List ℕ) (total : Result IndexRead OpenRefusal) (front : List TermData) (x y : TermRow) (rows : List TermRow) (at : ℕ) (here : SegmentsRead)
    → total ≡ with_index front (read_payloads bytes d (row_heads heads text (x ∷ y ∷ rows)) at) → read_segments bytes d [] (heads_between heads x y) at ≡ Ok here
    → total ≡ with_index (front ++ record { term = slice_range text x.text y.text; segments = here.segments } ∷ []) (read_payloads bytes d (row_heads heads text (y ∷ rows)) here.end)
index_on bytes d heads text total front x y rows at here is read =
    is
    ∙ ap (λ (r : Result SegmentsRead OpenRefusal). with_index front (r >>= λ here. (read_payloads bytes d (row_heads heads text (y ∷ rows)) here.end >>= λ later.
    Ok (record { terms = record { term = slice_range text x.text y.text; segments = here.segments } ∷ later.terms; end = later.end })))) read
    ∙ behind_index front (record { term = slice_range text x.text y.text; segments = here.segments }) (read_payloads bytes d (row_heads heads text (y ∷ rows)) here.end)

-- one term more
module _ (bytes : List ℕ) (d : ℕ) (heads : List HeadData) (rows : List TermRow) (i : ℕ) (groups added newer : List ℕ) (inside : i + 1 < length rows) (more : newer ≡ groups ++ added)
    (below : (t : ℕ) → t < i → (row_at rows t).group < length groups) where
  front_below : (t : ℕ) → t + 1 < length (take (i + 1) rows) → (row_at (take (i + 1) rows) t).group < length groups
  front_below t low =
      let n = length-take-le (i + 1) rows (omega (arith, inside)) in
      let early : t < i = omega (arith, n, low) in
      subst (λ (row : TermRow). row.group < length groups) (sym (get_or-take (i + 1) rows t none (omega (arith, early)))) (below t early)

  pub index_next : (text : List ℕ) (total : Result IndexRead OpenRefusal) (at end : ℕ) → first_payload newer (row_at rows i) ≡ at
      → total ≡ with_index (row_terms bytes d heads text groups (take (i + 1) rows)) (read_payloads bytes d (row_heads heads text (drop i rows)) at)
      → read_segments bytes d [] (heads_between heads (row_at rows i) (row_at rows (i + 1))) at
      ≡ Ok (record { segments = segments_from bytes d (heads_between heads (row_at rows i) (row_at rows (i + 1))) at; end = end })
      → total ≡ with_index (row_terms bytes d heads text newer (take (i + 1 + 1) rows)) (read_payloads bytes d (row_heads heads text (drop (i + 1) rows)) end)
  index_next text total at end first is read =
      let x = row_at rows i in
      let y = row_at rows (i + 1) in
      let rest = drop (i + 1 + 1) rows in
      let done : take (i + 1) rows ≡ take i rows ++ x ∷ [] = take_more rows i none (omega (arith, inside)) in
      let next : take (i + 1 + 1) rows ≡ take i rows ++ x ∷ y ∷ [] = take_more rows (i + 1) none inside ∙ ap (λ some. some ++ y ∷ []) done ∙ append_assoc (take i rows) (x ∷ []) (y ∷ []) in
      let left : drop i rows ≡ x ∷ y ∷ rest = drop_more rows i none (omega (arith, inside)) ∙ ap (λ more. x ∷ more) (drop_more rows (i + 1) none inside) in
      let front = row_terms bytes d heads text groups (take (i + 1) rows) in
      let read_on = index_on bytes d heads text total front x y rest at (record { segments = segments_from bytes d (heads_between heads x y) at; end = end })
      (is ∙ ap (λ some. with_index front (read_payloads bytes d (row_heads heads text some) at)) left) read in
      let here : (let term : TermData = record { term = slice_range text x.text y.text; segments = segments_from bytes d (heads_between heads x y) at } in term) ≡ term_between bytes d heads text newer x y
      = ap (λ at. (let term : TermData = record { term = slice_range text x.text y.text; segments = segments_from bytes d (heads_between heads x y) at } in term)) (sym first) in
      let same : front ≡ row_terms bytes d heads text newer (take i rows ++ x ∷ []) =
      sym (ap (λ all. row_terms bytes d heads text all (take (i + 1) rows)) more ∙ terms_stay bytes d heads text groups added (take (i + 1) rows) front_below) ∙ ap (row_terms bytes d heads text newer) done in
      let terms : front ++ term_between bytes d heads text newer x y ∷ [] ≡ row_terms bytes d heads text newer (take (i + 1 + 1) rows) =
      ap (λ some. some ++ term_between bytes d heads text newer x y ∷ []) same ∙ sym (ap (row_terms bytes d heads text newer) next ∙ terms_push bytes d heads text newer (take i rows) x y) in
      read_on
      ∙ ap (λ term. with_index (front ++ term ∷ []) (read_payloads bytes d (row_heads heads text (y ∷ rest)) end)) here
      ∙ ap (λ some. with_index some (read_payloads bytes d (row_heads heads text (y ∷ rest)) end)) terms
      ∙ ap (λ some. with_index (row_terms bytes d heads text newer (take (i + 1 + 1) rows)) (read_payloads bytes d (row_heads heads text some) end)) (sym (drop_more rows (i + 1) none inside))

-- a term that is refused
pub index_not : (bytes : List ℕ) (d : ℕ) (heads : List HeadData) (text : List ℕ) (rows : List TermRow) (i at : ℕ) (total : Result IndexRead OpenRefusal) (front : List TermData) (fault : OpenFault) → i + 1 < length rows
    → total ≡ with_index front (read_payloads bytes d (row_heads heads text (drop i rows)) at)
    → Fails fault (read_segments bytes d [] (heads_between heads (row_at rows i) (row_at rows (i + 1))) at) → Fails fault total
index_not bytes d heads text rows i at total front (faults.Refused refusal) inside is fails =
    let x = row_at rows i in
    let y = row_at rows (i + 1) in
    let rest = drop (i + 1 + 1) rows in
    let left : drop i rows ≡ x ∷ y ∷ rest = drop_more rows i none (omega (arith, inside)) ∙ ap (λ more. x ∷ more) (drop_more rows (i + 1) none inside) in
    is
    ∙ ap (λ some. with_index front (read_payloads bytes d (row_heads heads text some) at)) left
    ∙ ap (λ (r : Result SegmentsRead OpenRefusal). with_index front (r >>= λ here. (read_payloads bytes d (row_heads heads text (y ∷ rest)) here.end >>= λ later.
    Ok (record { terms = record { term = slice_range text x.text y.text; segments = here.segments } ∷ later.terms; end = later.end })))) fails
index_not bytes d heads text rows i at total front faults.ReadFault inside is fails = fails
index_not bytes d heads text rows i at total front faults.NoMemory inside is fails = tt
