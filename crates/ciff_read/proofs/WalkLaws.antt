-- What is walked is the fields of the body, and the fields of a body are walked.
use Rattle.shared_lemmas.proofs.Common.{◌≡◌, ℕ, zero, suc, ◌+◌, ◌-◌, ◌<◌, ◌≤◌, Bool, true, false, cond, List, [], ◌∷◌, ◌++◌, length, Result, Ok, refl, sym, ap, subst, ◌∙◌, arith, ◌==◌, AllZip, AllByRecursion, length-append, flat_map-cons}
use Rattle.ciff_read.proofs.Below.{WireField, WireValue, Number, Eight, Text, Four, IsField, AreFields, texts_in, texts_field, field_at}
use Rattle.ciff_read.specs.declared.posting_fields.PostingFields.{PostingFields}
use Rattle.ciff_read.specs.declared.refusal.CiffRefusal.{CiffRefusal}
use Rattle.ciff_read.specs.Refusals.{◌>>=◌, field_placed}
use Rattle.ciff_read.specs.Walking.{PlacedEntry, Walked, in_front, walk, walk_within, nothing_inside, entry_of, entry_at, entry_in, entry_inside}
use Rattle.ciff_read.proofs.Walks.{nothing, no_field, one_field}
use Rattle.ciff_read.proofs.WireLaws.{WireLaws, bound, done_is, field_unplaced, some_field}
use Rattle.shared_lemmas.proofs.Lists.{zip-append}

-- the posting of a body
pub record IsEntryOf (body : List ℕ) (x : PlacedEntry) : Type 0 where
  pub fields : List WireField
  pub spelled : AreFields body fields
  pub entry : x.entry ≡ entry_of fields

pub record HasFields (body : List ℕ) : Type 0 where
  pub fields : List WireField
  pub spelled : AreFields body fields

-- the texts of field 4 in a field
abbrev pub texts_four : WireField → List (List ℕ)
texts_four f = cond (f.number == 4) (texts_in f.value) []

module _ (laws : WireLaws) where
  -- the parts of a walk
  pub record Step (inside : ℕ → ℕ → WireField → Result (List PlacedEntry) CiffRefusal) (k at : ℕ) (s : List ℕ) (w : Walked) : Type 0 where
    pub f : WireField
    pub rest : List ℕ
    pub next : ℕ
    pub entries : List PlacedEntry
    pub later : Walked
    pub read : field_at s ≡ Ok (f, rest)
    pub found : inside at next f ≡ Ok entries
    pub walked : walk_within inside k next rest ≡ Ok later
    pub is : in_front f entries later ≡ w

  step : (inside : ℕ → ℕ → WireField → Result (List PlacedEntry) CiffRefusal) (k at b : ℕ) (s : List ℕ) (w : Walked) → walk_within inside (suc k) at (b ∷ s) ≡ Ok w → Step inside k at (b ∷ s) w
  unfolding walk_within
  step inside k at b s w is =
      let x = bound (field_placed at (field_at (b ∷ s))) (λ x. inside at (at + (length (b ∷ s) - length x.1)) x.0 >>= λ entries. walk_within inside k (at + (length (b ∷ s) - length x.1)) x.1 >>= λ later. Ok (in_front x.0 entries later)) w is in
      let next = at + (length (b ∷ s) - length x.0.1) in
      let y = bound (inside at next x.0.0) (λ entries. walk_within inside k next x.0.1 >>= λ later. Ok (in_front x.0.0 entries later)) w x.2 in
      let z = bound (walk_within inside k next x.0.1) (λ later. Ok (in_front x.0.0 y.0 later)) w y.2 in
      record { f = x.0.0; rest = x.0.1; next = next; entries = y.0; later = z.0; read = field_unplaced at (field_at (b ∷ s)) x.0 x.1; found = y.1; walked = z.1; is = done_is (in_front x.0.0 y.0 z.0) w z.2 }

  pub fields_found : (inside : ℕ → ℕ → WireField → Result (List PlacedEntry) CiffRefusal) (k at : ℕ) (s : List ℕ) (w : Walked) → length s ≤ k → walk_within inside k at s ≡ Ok w → AreFields s w.fields
  fields_found inside k at [] w enough is = subst (λ (x : Walked). AreFields [] x.fields) (done_is nothing w (sym (no_field inside k at) ∙ is)) refl
  fields_found inside zero at (b ∷ s) w enough is = absurd (omega arith)
  fields_found inside (suc k) at (b ∷ s) w enough is =
      let t = step inside k at b s w is in
      let f = laws.field_found (b ∷ s) t.rest t.f t.read in
      let some = some_field f.0 t.f f.2 in
      let size = ap (λ (x : List ℕ). length x) f.1 in
      let left : length t.rest ≤ k = omega (arith, length-append f.0 t.rest) in
      subst (λ (x : Walked). AreFields (b ∷ s) x.fields) t.is (f.0, t.rest, f.1, f.2, fields_found inside k t.next t.rest t.later left t.walked)

  none_is : (entries : List PlacedEntry) → (let r : Result (List PlacedEntry) CiffRefusal = Ok [] in r) ≡ Ok entries → AllZip IsEntryOf [] entries
  none_is entries is = subst (λ (es : List PlacedEntry). AllZip IsEntryOf [] es) (done_is [] entries is) tt

  entry_in_found : (v : WireValue) (at next : ℕ) (entries : List PlacedEntry) → entry_in v at next ≡ Ok entries → AllZip IsEntryOf (texts_in v) entries
  entry_in_found (Number n) at next entries is = none_is entries is
  entry_in_found (Eight bytes) at next entries is = none_is entries is
  entry_in_found (Text body) at next entries is =
      let x = bound (entry_at (next - length body) body) (λ entry. Ok (record { at = at; entry = entry } ∷ [])) entries is in
      let w = bound (walk nothing_inside (next - length body) body) (λ walked. Ok (entry_of walked.fields)) x.0 x.1 in
      let spelled = fields_found nothing_inside (length body) (next - length body) body w.0 (omega arith) w.1 in
      let entry = sym (done_is (entry_of w.0.fields) x.0 w.2) in
      subst (λ (es : List PlacedEntry). AllZip IsEntryOf (body ∷ []) es) (done_is (record { at = at; entry = x.0 } ∷ []) entries x.2) (record { fields = w.0.fields; spelled = spelled; entry = entry }, tt)
  entry_in_found (Four bytes) at next entries is = none_is entries is

  entry_inside_found : (f : WireField) (at next : ℕ) (entries : List PlacedEntry) → entry_inside at next f ≡ Ok entries → AllZip IsEntryOf (texts_four f) entries
  entry_inside_found f at next entries is = go (f.number == 4) is
    where
      go : (test : Bool) → cond test (entry_in f.value at next) (Ok []) ≡ Ok entries → AllZip IsEntryOf (cond test (texts_in f.value) []) entries
      go true is = entry_in_found f.value at next entries is
      go false is = none_is entries is

  pub entries_found : (k at : ℕ) (s : List ℕ) (w : Walked) → walk_within entry_inside k at s ≡ Ok w → length s ≤ k → AllZip IsEntryOf (texts_field 4 w.fields) w.entries
  entries_found k at [] w is enough = subst (λ (x : Walked). AllZip IsEntryOf (texts_field 4 x.fields) x.entries) (done_is nothing w (sym (no_field entry_inside k at) ∙ is)) tt
  entries_found zero at (b ∷ s) w is enough = absurd (omega arith)
  entries_found (suc k) at (b ∷ s) w is enough =
      let t = step entry_inside k at b s w is in
      let f = laws.field_found (b ∷ s) t.rest t.f t.read in
      let some = some_field f.0 t.f f.2 in
      let size = ap (λ (x : List ℕ). length x) f.1 in
      let left : length t.rest ≤ k = omega (arith, length-append f.0 t.rest) in
      let both = zip-append IsEntryOf (texts_four t.f) t.entries (texts_field 4 t.later.fields) t.later.entries (entry_inside_found t.f at t.next t.entries t.found) (entries_found k t.next t.rest t.later t.walked left) in
      subst (λ (x : Walked). AllZip IsEntryOf (texts_field 4 x.fields) x.entries) t.is (subst (λ (ts : List (List ℕ)). AllZip IsEntryOf ts (t.entries ++ t.later.entries)) (sym (flat_map-cons texts_four t.f t.later.fields)) both)

  -- the front field of a body
  front : (inside : ℕ → ℕ → WireField → Result (List PlacedEntry) CiffRefusal) (k at : ℕ) (s first rest : List ℕ) (f : WireField) → s ≡ first ++ rest → IsField first f
      → walk_within inside (suc k) at s ≡ (inside at (at + (length s - length rest)) f >>= λ entries. walk_within inside k (at + (length s - length rest)) rest >>= λ later. Ok (in_front f entries later))
  front inside k at s first rest f parts is =
      let some = some_field first f is in
      let size = ap (λ (x : List ℕ). length x) parts in
      let long : 0 < length s = omega (arith, length-append first rest) in
      let read : field_at s ≡ Ok (f, rest) = ap field_at parts ∙ laws.field_only first rest f is in
      one_field inside k at (at + (length s - length rest)) s rest f long read refl

  shorter : (k : ℕ) (s first rest : List ℕ) (f : WireField) → s ≡ first ++ rest → IsField first f → length s ≤ suc k → length rest ≤ k
  shorter k s first rest f parts is enough =
      let some = some_field first f is in
      let size = ap (λ (x : List ℕ). length x) parts in
      omega (arith, length-append first rest)

  pub fields_only : (fields : List WireField) (k at : ℕ) (s : List ℕ) → AreFields s fields → length s ≤ k → walk_within nothing_inside k at s ≡ Ok (record { fields = fields; entries = [] })
  fields_only [] k at s is enough = ap (walk_within nothing_inside k at) is ∙ no_field nothing_inside k at
  fields_only (f ∷ fields) zero at s is enough =
      let some = some_field is.0 f is.3 in
      let size = ap (λ (x : List ℕ). length x) is.2 in
      absurd (omega (arith, length-append is.0 is.1))
  fields_only (f ∷ fields) (suc k) at s is enough =
      let next = at + (length s - length is.1) in
      front nothing_inside k at s is.0 is.1 f is.2 is.3 ∙ ap (λ (r : Result Walked CiffRefusal). r >>= λ later. Ok (in_front f [] later)) (fields_only fields k next is.1 is.4 (shorter k s is.0 is.1 f is.2 is.3 enough))

  -- a body has one list of fields
  pub fields_same : (s : List ℕ) (fields others : List WireField) → AreFields s fields → AreFields s others → fields ≡ others
  fields_same s fields others is other =
      let a = fields_only fields (length s) 0 s is (omega arith) in
      let b = fields_only others (length s) 0 s other (omega arith) in
      ap (λ (w : Walked). w.fields) (done_is (record { fields = fields; entries = [] }) (record { fields = others; entries = [] }) (sym a ∙ b))

  pub record Found (read : Result (List PlacedEntry) CiffRefusal) (texts : List (List ℕ)) : Type 0 where
    pub entries : List PlacedEntry
    pub found : read ≡ Ok entries
    pub are : AllZip IsEntryOf texts entries

  entry_in_only : (v : WireValue) (at next : ℕ) → AllByRecursion HasFields (texts_in v) → Found (entry_in v at next) (texts_in v)
  entry_in_only (Number n) at next have = record { entries = []; found = refl; are = tt }
  entry_in_only (Eight bytes) at next have = record { entries = []; found = refl; are = tt }
  entry_in_only (Text body) at next have =
      let h = have.0 in
      let w = fields_only h.fields (length body) (next - length body) body h.spelled (omega arith) in
      let read : entry_at (next - length body) body ≡ Ok (entry_of h.fields) = ap (λ (r : Result Walked CiffRefusal). r >>= λ walked. Ok (entry_of walked.fields)) w in
      record {
        entries = record { at = at; entry = entry_of h.fields } ∷ [];
        found = ap (λ (r : Result PostingFields CiffRefusal). r >>= λ entry. Ok (record { at = at; entry = entry } ∷ [])) read;
        are = (record { fields = h.fields; spelled = h.spelled; entry = refl }, tt);
      }
  entry_in_only (Four bytes) at next have = record { entries = []; found = refl; are = tt }

  entry_inside_only : (f : WireField) (at next : ℕ) → AllByRecursion HasFields (texts_four f) → Found (entry_inside at next f) (texts_four f)
  entry_inside_only f at next have = go (f.number == 4) have
    where
      go : (test : Bool) → AllByRecursion HasFields (cond test (texts_in f.value) []) → Found (cond test (entry_in f.value at next) (Ok [])) (cond test (texts_in f.value) [])
      go true have = entry_in_only f.value at next have
      go false have = record { entries = []; found = refl; are = tt }

  all_parts : {X : Type 0} (P : X → Type 0) (xs ys : List X) → AllByRecursion P (xs ++ ys) → AllByRecursion P xs × AllByRecursion P ys
  all_parts P [] ys h = (tt, h)
  all_parts P (x ∷ xs) ys h = let t = all_parts P xs ys h.1 in ((h.0, t.0), t.1)

  pub record WalkedList (read : Result Walked CiffRefusal) (fields : List WireField) : Type 0 where
    pub entries : List PlacedEntry
    pub walked : read ≡ Ok (record { fields = fields; entries = entries })
    pub are : AllZip IsEntryOf (texts_field 4 fields) entries

  pub list_only : (fields : List WireField) (k at : ℕ) (s : List ℕ) → AreFields s fields → AllByRecursion HasFields (texts_field 4 fields) → length s ≤ k → WalkedList (walk_within entry_inside k at s) fields
  list_only [] k at s is have enough = record { entries = []; walked = ap (walk_within entry_inside k at) is ∙ no_field entry_inside k at; are = tt }
  list_only (f ∷ fields) zero at s is have enough =
      let some = some_field is.0 f is.3 in
      let size = ap (λ (x : List ℕ). length x) is.2 in
      absurd (omega (arith, length-append is.0 is.1))
  list_only (f ∷ fields) (suc k) at s is have enough =
      let next = at + (length s - length is.1) in
      let split = flat_map-cons texts_four f fields in
      let halves = all_parts HasFields (texts_four f) (texts_field 4 fields) (subst (λ (ts : List (List ℕ)). AllByRecursion HasFields ts) split have) in
      let inner = entry_inside_only f at next halves.0 in
      let later = list_only fields k next is.1 is.4 halves.1 (shorter k s is.0 is.1 f is.2 is.3 enough) in
      record {
        entries = inner.entries ++ later.entries;
        walked = front entry_inside k at s is.0 is.1 f is.2 is.3
            ∙ ap (λ (r : Result (List PlacedEntry) CiffRefusal). r >>= λ entries. walk_within entry_inside k next is.1 >>= λ later. Ok (in_front f entries later)) inner.found
            ∙ ap (λ (r : Result Walked CiffRefusal). r >>= λ later. Ok (in_front f inner.entries later)) later.walked;
        are = subst (λ (ts : List (List ℕ)). AllZip IsEntryOf ts (inner.entries ++ later.entries)) (sym split) (zip-append IsEntryOf (texts_four f) inner.entries (texts_field 4 fields) later.entries inner.are later.are);
      }
