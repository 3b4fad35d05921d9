-- Parts that are read one after the other.
use Rattle.shared_lemmas.proofs.Common.{◌≡◌, ℕ, suc, List, [], ◌∷◌, ◌++◌, Result, Ok, Err, append_assoc, ap, sym, ◌∙◌, refl}
use Rattle.index_file.proofs.Below.{OpenRefusal, ◌>>=◌, NamesRead, name_end, name_in, read_names}

-- behind names that were read before
abbrev pub with_names : List (List ℕ) → Result NamesRead OpenRefusal → Result NamesRead OpenRefusal
with_names front read = read >>= λ x. Ok (record { names = front ++ x.names; end = x.end })

behind : (front : List (List ℕ)) (name : List ℕ) (read : Result NamesRead OpenRefusal) → with_names front (read >>= λ later. Ok (record { names = name ∷ later.names; end = later.end })) ≡ with_names (front ++ name ∷ []) read
behind front name (Ok x) = ap (λ (names : List (List ℕ)). (let r : Result NamesRead OpenRefusal = Ok (record { names = names; end = x.end }) in r)) (sym (append_assoc front (name ∷ []) x.names))
behind front name (Err e) = refl

-- one name more
pub names_on : (bytes : List ℕ) (total : Result NamesRead OpenRefusal) (front : List (List ℕ)) (k left at next : ℕ) → total ≡ with_names front (read_names bytes k at) → k ≡ suc left → name_end bytes at ≡ Ok next
    → total ≡ with_names (front ++ name_in bytes at ∷ []) (read_names bytes left next)
names_on bytes total front k left at next is more end =
    is ∙ ap (λ n. with_names front (read_names bytes n at)) more
    ∙ ap (λ (e : Result ℕ OpenRefusal). with_names front (e >>= λ next. (read_names bytes left next >>= λ later. Ok (record { names = name_in bytes at ∷ later.names; end = later.end })))) end
    ∙ behind front (name_in bytes at) (read_names bytes left next)
