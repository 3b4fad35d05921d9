-- Terms behind references, and lists of terms that differ.
use Rattle.shared_lemmas.proofs.Common.{◌≡◌, ◌≢◌, ℕ, ◌<◌, Bool, true, false, List, [], ◌∷◌, ◌++◌, length, get_or, map, refl, ap, ◌∙◌, Bor, arith, inl, inr, bytes_eq, ◌||◌, AllPairs, list_any, cases_lt, nat_list_eq_equiv, length-map, length-append, get_or_append_left, get_or-map, list_any_at}
use Rattle.shared_lemmas.proofs.Common.{get_or-append_seam}
use Rattle.ciff_read.proofs.Below.{PostingsList, DifferInTerm}
use Rattle.ciff_read.specs.Seen.{is_seen}

pub any_map : (p : List ℕ → Bool) (terms : List (Bor (List ℕ))) → list_any (λ t. p t.now) terms ≡ list_any p (map (λ t. t.now) terms)
any_map p [] = refl
any_map p (t ∷ ts) = ap (λ b. p t.now || b) (any_map p ts)

-- a term that wasn't seen is none of these
unseen : (term : List ℕ) (terms : List (List ℕ)) → is_seen term terms ≡ false → (i : ℕ) (d : List ℕ) → i < length terms → get_or terms i d ≢ term
unseen term terms new i d inside same =
    let found : is_seen term terms ≡ true = list_any_at (bytes_eq term) terms i d inside (ap (bytes_eq term) same ∙ nat_list_eq_equiv.refl term) in
    absurd cc

pub differ-snoc : (lists : List PostingsList) (list : PostingsList) → AllPairs DifferInTerm lists → is_seen list.term (map (λ (l : PostingsList). l.term) lists) ≡ false → AllPairs DifferInTerm (lists ++ list ∷ [])
differ-snoc lists list apart new i j d before inside =
    elim (cases_lt j (length lists)) [
      | inl lt ↦ rw (get_or_append_left lists (list ∷ []) d i (omega arith), get_or_append_left lists (list ∷ []) d j lt) (apart i j d before lt)
      | inr le ↦
          let at : j ≡ length lists = omega (arith, length-append lists (list ∷ [])) in
          let lt : i < length lists = omega arith in
          let term_lt : i < length (map (λ (l : PostingsList). l.term) lists) = omega (arith, length-map lists (λ (l : PostingsList). l.term)) in
          rw (get_or_append_left lists (list ∷ []) d i lt, at, get_or-append_seam lists list [] d)
          (λ same. unseen list.term (map (λ (l : PostingsList). l.term) lists) new i d.term term_lt (get_or-map (λ (l : PostingsList). l.term) lists i d d.term lt ∙ same))
    ]
