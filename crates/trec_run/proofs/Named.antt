-- The names of hits, kept at their places.
use Rattle.shared_lemmas.proofs.Common.{◌≡◌, ℕ, ◌+◌, ◌<◌, ◌≤◌, List, [], ◌∷◌, ◌++◌, length, map, take, set, get_or, Some, Bor, slice_get, sym, ap, ap₂, ◌∙◌, take_more_set, map_push, map_more, get_or-map, get_or_from_slice_get, subst, All, All-push, All-weaker, arith}
use Rattle.jass_base.specs.declared.answer.Hit.{Hit}
use Rattle.std.specs.List.{slice_index_or}
use Rattle.trec_run.specs.Private.Columns.{names_of}

abbrev bytes : Bor (List ℕ) → List ℕ
bytes name = name.now

module _ (all : List (List ℕ)) (hits : List Hit) (names : List (Bor (List ℕ))) (i : ℕ) (d : Hit) (inside : i < length hits) (long : length names ≡ length hits) where
  -- a name more is kept
  pub name_more : (name : Bor (List ℕ)) → slice_get all (get_or hits i d).doc ≡ Some name.now
      → map bytes (take i names) ≡ names_of all (take i hits) → map bytes (take (i + 1) (set names i name)) ≡ names_of all (take (i + 1) hits)
  name_more name named is =
      ap (map bytes) (take_more_set names i name (subst (λ n. i < n) (sym long) inside))
      ∙ map_push bytes (take i names) name
      ∙ ap₂ (λ (xs : List (List ℕ)) (n : List ℕ). xs ++ n ∷ []) is (sym (get_or_from_slice_get all (get_or hits i d).doc name.now [] named))
      ∙ sym (map_more (λ (hit : Hit). slice_index_or all hit.doc []) hits i d inside)

  -- the name at a place is that of the hit there
  pub name_there : (e : Bor (List ℕ)) → map bytes names ≡ names_of all hits → slice_index_or all (get_or hits i d).doc [] ≡ (get_or names i e).now
  name_there e is =
      sym (get_or-map (λ (hit : Hit). slice_index_or all hit.doc []) hits i d [] inside)
      ∙ ap (λ (xs : List (List ℕ)). get_or xs i []) (sym is)
      ∙ get_or-map bytes names i e [] (subst (λ n. i < n) (sym long) inside)

-- none of them is longer than the longest so far
pub longest_more : (names : List (Bor (List ℕ))) (i longest longer : ℕ) (name : Bor (List ℕ)) → i < length names → longest ≤ longer → length name.now ≤ longer
    → All (λ (name : Bor (List ℕ)). length name.now ≤ longest) (take i names) → All (λ (name : Bor (List ℕ)). length name.now ≤ longer) (take (i + 1) (set names i name))
longest_more names i longest longer name inside more this all =
    subst (All (λ (name : Bor (List ℕ)). length name.now ≤ longer)) (sym (take_more_set names i name inside))
    (All-push (λ (name : Bor (List ℕ)). length name.now ≤ longer) (take i names) name
    (All-weaker (λ (name : Bor (List ℕ)). length name.now ≤ longest) (λ (name : Bor (List ℕ)). length name.now ≤ longer) (λ x short. omega (arith, short, more)) (take i names) all) this)
