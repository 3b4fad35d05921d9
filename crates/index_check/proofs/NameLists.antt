-- Names that are read one after the other.
use Rattle.shared_lemmas.proofs.Common.{◌≡◌, ℕ, suc, List, [], ◌∷◌, ◌++◌, Result, Ok, Err, append_assoc, ap, sym, ◌∙◌, refl}
use Rattle.index_layout.specs.Reading.{NamesRead, name_end, name_in, read_names}
use Rattle.index_layout.specs.Refusals.{◌>>=◌}
use Rattle.index_layout.specs.declared.refusal.OpenFault.{OpenFault}
use Rattle.index_layout.specs.declared.refusal.OpenRefusal.{OpenRefusal}
use Rattle.index_file.specs.Answers.{Stops}
use Rattle.index_file.proofs.Stopping.{stops_as, stops_on}

-- behind names that were read before
abbrev pub with_names : List (List ℕ) → Result NamesRead OpenRefusal → Result NamesRead OpenRefusal
with_names front read = read >>= λ x. Ok (record { names = front ++ x.names; end = x.end })

-- so many names were read, and the rest is read from a place on
abbrev pub ReadSoFar : List ℕ → Result NamesRead OpenRefusal → ℕ → ℕ → Type 0
ReadSoFar content total left at = (front : List (List ℕ)) × (total ≡ with_names front (read_names content left at))

behind : (front : List (List ℕ)) (name : List ℕ) (read : Result NamesRead OpenRefusal) → with_names front (read >>= λ later. Ok (record { names = name ∷ later.names; end = later.end })) ≡ with_names (front ++ name ∷ []) read
behind front name (Ok x) = ap (λ (names : List (List ℕ)). (let r : Result NamesRead OpenRefusal = Ok (record { names = names; end = x.end }) in r)) (sym (append_assoc front (name ∷ []) x.names))
behind front name (Err e) = refl

-- nothing was read
pub names_none : (content : List ℕ) (k at : ℕ) → ReadSoFar content (read_names content k at) k at
names_none content k at = ([], sym (all (read_names content k at)))
  where
    all : (read : Result NamesRead OpenRefusal) → with_names [] read ≡ read
    all (Ok x) = refl
    all (Err e) = refl

-- one name more
pub names_more : (content : List ℕ) (total : Result NamesRead OpenRefusal) (k left at next : ℕ) → k ≡ suc left → ReadSoFar content total k at → name_end content at ≡ Ok next → ReadSoFar content total left next
names_more content total k left at next more so_far end = (
  so_far.0 ++ name_in content at ∷ [],
  so_far.1 ∙ ap (λ n. with_names so_far.0 (read_names content n at)) more
      ∙ ap (λ (e : Result ℕ OpenRefusal). with_names so_far.0 (e >>= λ next. (read_names content left next >>= λ later. Ok (record { names = name_in content at ∷ later.names; end = later.end })))) end
      ∙ behind so_far.0 (name_in content at) (read_names content left next),
)

-- no name is left
pub names_all : (content : List ℕ) (total : Result NamesRead OpenRefusal) (k at : ℕ) → k ≡ 0 → ReadSoFar content total k at → (x : NamesRead) × (total ≡ Ok x) × (x.end ≡ at)
names_all content total k at none so_far =
    (record { names = so_far.0 ++ []; end = at }, so_far.1 ∙ ap (λ n. with_names so_far.0 (read_names content n at)) none, refl)

-- the next name stops
pub names_stop : (content : List ℕ) (total : Result NamesRead OpenRefusal) (k left at : ℕ) (fault : OpenFault) → k ≡ suc left → ReadSoFar content total k at → Stops fault (name_end content at) → Stops fault total
names_stop content total k left at fault more so_far stops =
    stops_as fault total (with_names so_far.0 (read_names content (suc left) at)) (so_far.1 ∙ ap (λ n. with_names so_far.0 (read_names content n at)) more)
    (stops_on fault (read_names content (suc left) at) (λ x. Ok (record { names = so_far.0 ++ x.names; end = x.end }))
    (stops_on fault (name_end content at) (λ next. (read_names content left next >>= λ later. Ok (record { names = name_in content at ∷ later.names; end = later.end }))) stops))
