-- Terms in a table of lists.
use Rattle.shared_lemmas.proofs.Common.{◌≡◌, ℕ, zero, suc, ◌+◌, ◌<◌, Bool, true, false, cond, List, [], ◌∷◌, ◌++◌, length, map, Some, refl, sym, ap, ◌∙◌, arith, bytes_eq, ◌||◌, is_some, slice_get, String, string_eq, list_any, lookup, Global, map-append, list_any-append}
use Rattle.std.specs.Prelude.{string_bytes}
use Rattle.std.proofs.lemmas.List.{append_assoc}
use Rattle.indexmap.specs.IndexMap.{insert_entry}
use Rattle.ciff_read.specs.declared.kept_lists.ListPlace.{ListPlace}
use Rattle.ciff_read.specs.KeptEntries.{hashed_in, kept_as, kept_from}
use Rattle.ciff_read.specs.Private.KeptEntries.{places_in, terms_in}
use Rattle.ciff_read.specs.Pieces.{KeptList}
use Rattle.ciff_read.specs.Seen.{is_seen}
use Rattle.ciff_read.proofs.RisingTerms.{terms_append}

-- an entry whose key is none of those that are there goes last
insert_new : {K V : Type 0} (eq : K → K → Bool) (entries : List (K × V)) (key : K) (value : V) → list_any (λ (e : K × V). eq key e.0) entries ≡ false → insert_entry eq entries key value ≡ entries ++ (key, value) ∷ []
insert_new eq [] key value new = refl
insert_new {K} {V} eq (e ∷ es) key value new = go (eq key e.0) new (λ none. insert_new eq es key value none)
  where
    go : (test : Bool) → (test || list_any (λ (e : K × V). eq key e.0) es) ≡ false → (list_any (λ (e : K × V). eq key e.0) es ≡ false → insert_entry eq es key value ≡ es ++ (key, value) ∷ [])
        → cond test ((e.0, value) ∷ es) (e ∷ insert_entry eq es key value) ≡ e ∷ (es ++ (key, value) ∷ [])
    go true none again = absurd cc
    go false none again = ap (λ (l : List (K × V)). e ∷ l) (again none)

abbrev pub as_kept : List ℕ × ListPlace → KeptList
as_kept e = kept_as e.0 e.1

-- a term is found exactly where one of the lists has it
pub found_is : (term : List ℕ) (entries : List (String Global × ListPlace)) → is_some (lookup (λ (k : String Global). bytes_eq term (string_bytes k)) entries) ≡ is_seen term (terms_in (hashed_in entries))
found_is term [] = refl
found_is term (e ∷ es) = go (bytes_eq term (string_bytes e.0)) (found_is term es)
  where
    go : (test : Bool) → is_some (lookup (λ (k : String Global). bytes_eq term (string_bytes k)) es) ≡ is_seen term (terms_in (hashed_in es))
        → is_some (cond test (Some e.1) (lookup (λ (k : String Global). bytes_eq term (string_bytes k)) es)) ≡ (test || is_seen term (terms_in (hashed_in es)))
    go true again = refl
    go false again = again

any_is : (key : String Global) (entries : List (String Global × ListPlace)) → list_any (λ (e : String Global × ListPlace). string_eq key e.0) entries ≡ is_seen (string_bytes key) (terms_in (hashed_in entries))
any_is key [] = refl
any_is key (e ∷ es) = ap (λ b. string_eq key e.0 || b) (any_is key es)

module _ (term : List ℕ) (xs ys : List (List ℕ × ListPlace)) where
  either_seen : is_seen term (terms_in (xs ++ ys)) ≡ (is_seen term (terms_in xs) || is_seen term (terms_in ys))
  either_seen = ap (list_any (bytes_eq term)) (terms_append xs ys) ∙ list_any-append (bytes_eq term) (terms_in xs) (terms_in ys)

  pub seen_first : is_seen term (terms_in xs) ≡ true → is_seen term (terms_in (xs ++ ys)) ≡ true
  seen_first is = either_seen ∙ ap (λ b. b || is_seen term (terms_in ys)) is

  pub seen_later : is_seen term (terms_in xs) ≡ false → is_seen term (terms_in (xs ++ ys)) ≡ is_seen term (terms_in ys)
  seen_later is = either_seen ∙ ap (λ b. b || is_seen term (terms_in ys)) is

  unseen_later : is_seen term (terms_in (xs ++ ys)) ≡ false → is_seen term (terms_in ys) ≡ false
  unseen_later is = go (is_seen term (terms_in xs)) (sym either_seen ∙ is)
    where
      go : (test : Bool) → (test || is_seen term (terms_in ys)) ≡ false → is_seen term (terms_in ys) ≡ false
      go true none = absurd cc
      go false none = none

-- a list whose term is new is kept last
pub kept_more : (key : String Global) (place : ListPlace) (xs : List (List ℕ × ListPlace)) (ys : List (String Global × ListPlace)) → is_seen (string_bytes key) (terms_in (xs ++ hashed_in ys)) ≡ false
    → kept_from (xs ++ hashed_in (insert_entry string_eq ys key place)) ≡ kept_from (xs ++ hashed_in ys) ++ kept_as (string_bytes key) place ∷ []
kept_more key place xs ys new =
    let last : hashed_in (ys ++ (key, place) ∷ []) ≡ hashed_in ys ++ (string_bytes key, place) ∷ [] = map-append (λ (e : String Global × ListPlace). (string_bytes e.0, e.1)) ys ((key, place) ∷ []) in
    ap (λ (l : List (String Global × ListPlace)). kept_from (xs ++ hashed_in l)) (insert_new string_eq ys key place (any_is key ys ∙ unseen_later (string_bytes key) xs (hashed_in ys) new))
    ∙ ap (λ (l : List (List ℕ × ListPlace)). kept_from (xs ++ l)) last
    ∙ ap kept_from (sym (append_assoc xs (hashed_in ys) ((string_bytes key, place) ∷ []))) ∙ map-append as_kept (xs ++ hashed_in ys) ((string_bytes key, place) ∷ [])

hashed_places : (ys : List (String Global × ListPlace)) → places_in (hashed_in ys) ≡ map (λ (e : String Global × ListPlace). e.1) ys
hashed_places [] = refl
hashed_places (y ∷ ys) = ap (λ (l : List ListPlace). y.1 ∷ l) (hashed_places ys)

-- the places of the first lists, and of those behind them
pub place_first : (xs ys : List (List ℕ × ListPlace)) (i : ℕ) → i < length xs → slice_get (places_in (xs ++ ys)) i ≡ slice_get (places_in xs) i
place_first [] ys i inside = absurd (omega (arith, inside))
place_first (x ∷ xs) ys zero inside = refl
place_first (x ∷ xs) ys (suc i) inside = place_first xs ys i (omega arith)

pub place_later : (xs : List (List ℕ × ListPlace)) (ys : List (String Global × ListPlace)) (i j : ℕ) → i ≡ length xs + j → slice_get (places_in (xs ++ hashed_in ys)) i ≡ slice_get (map (λ (e : String Global × ListPlace). e.1) ys) j
place_later [] ys i j is = ap (slice_get (places_in (hashed_in ys))) (omega (arith, is)) ∙ ap (λ (l : List ListPlace). slice_get l j) (hashed_places ys)
place_later (x ∷ xs) ys zero j is = absurd (omega (arith, is))
place_later (x ∷ xs) ys (suc i) j is = place_later xs ys i j (omega arith)
