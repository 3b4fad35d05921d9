-- Words that spell values, one each.
use Rattle.shared_lemmas.proofs.Common.{◌≡◌, ◌≢◌, ℕ, List, [], ◌∷◌, ◌++◌, length, refl, ap, arith, AllByRecursion}
use Rattle.jass_words.specs.Spelled.{Spell, HaveOnce}

pub spell_one : {T : Type 0} (Is : List ℕ → T → Type 0) → ((word : List ℕ) (a b : T) → Is word a → Is word b → a ≡ b) → (words : List (List ℕ)) (a b : List T) → Spell Is words a → Spell Is words b → a ≡ b
spell_one Is one [] [] [] are theirs = refl
spell_one Is one (w ∷ words) (o ∷ a) (p ∷ b) are theirs =
    let first : o ≡ p = one w o p are.0 theirs.0 in
    let rest : a ≡ b = spell_one Is one words a b are.1 theirs.1 in
    (λ i. first i ∷ rest i)
spell_one Is one [] [] (p ∷ b) are theirs = absurd theirs
spell_one Is one [] (o ∷ a) b are theirs = absurd are
spell_one Is one (w ∷ words) [] b are theirs = absurd are
spell_one Is one (w ∷ words) (o ∷ a) [] are theirs = absurd theirs

pub as_many : {T : Type 0} (Is : List ℕ → T → Type 0) (words : List (List ℕ)) (options : List T) → Spell Is words options → length words ≡ length options
as_many Is [] [] are = refl
as_many Is (w ∷ words) (o ∷ options) are = omega (arith, as_many Is words options are.1)
as_many Is [] (o ∷ options) are = absurd are
as_many Is (w ∷ words) [] are = absurd are

-- ---- one more

pub spelled_more : {T : Type 0} (Is : List ℕ → T → Type 0) (words : List (List ℕ)) (options : List T) (word : List ℕ) (option : T) → Spell Is words options → Is word option → Spell Is (words ++ word ∷ []) (options ++ option ∷ [])
spelled_more Is [] [] word option are is = (is, tt)
spelled_more Is (w ∷ words) (o ∷ options) word option are is = (are.0, spelled_more Is words options word option are.1 is)
spelled_more Is [] (o ∷ options) word option are is = absurd are
spelled_more Is (w ∷ words) [] word option are is = absurd are

pub all_more : {T : Type 0} (P : T → Type 0) (options : List T) (option : T) → AllByRecursion P options → P option → AllByRecursion P (options ++ option ∷ [])
all_more P [] option are is = (is, tt)
all_more P (o ∷ options) option are is = (are.0, all_more P options option are.1 is)

pub once_more : {T K : Type 0} (key_of : T → K) (options : List T) (option : T) → HaveOnce key_of options → AllByRecursion (λ earlier. key_of option ≢ key_of earlier) options → HaveOnce key_of (options ++ option ∷ [])
once_more key_of [] option once apart = (tt, tt)
once_more key_of (o ∷ options) option once apart = (all_more (λ later. key_of later ≢ key_of o) options option once.0 apart.0, once_more key_of options option once.1 apart.1)

-- ---- one at a place

apart_at : {T K : Type 0} (key_of : T → K) (key : K) (front : List T) (here : T) (back : List T) → AllByRecursion (λ later. key_of later ≢ key) (front ++ here ∷ back) → key_of here ≢ key
apart_at key_of key [] here back are = are.0
apart_at key_of key (o ∷ front) here back are = apart_at key_of key front here back are.1

pub once_before : {T K : Type 0} (key_of : T → K) (front : List T) (here : T) (back : List T) → HaveOnce key_of (front ++ here ∷ back) → AllByRecursion (λ earlier. key_of here ≢ key_of earlier) front
once_before key_of [] here back once = tt
once_before key_of (o ∷ front) here back once = (apart_at key_of (key_of o) front here back once.0, once_before key_of front here back once.1)

pub all_at : {T : Type 0} (P : T → Type 0) (front : List T) (here : T) (back : List T) → AllByRecursion P (front ++ here ∷ back) → P here
all_at P [] here back are = are.0
all_at P (o ∷ front) here back are = all_at P front here back are.1

-- values that spell words, a word and words
pub record Parted {T : Type 0} (Is : List ℕ → T → Type 0) (words : List (List ℕ)) (word : List ℕ) (options : List T) : Type 0 where
  pub front : List T
  pub here : T
  pub back : List T
  pub parts : options ≡ front ++ here ∷ back
  pub before : Spell Is words front
  pub is : Is word here

pub parted : {T : Type 0} (Is : List ℕ → T → Type 0) (words : List (List ℕ)) (word : List ℕ) (rest : List (List ℕ)) (options : List T) → Spell Is (words ++ word ∷ rest) options → Parted Is words word options
parted Is [] word rest [] are = absurd are
parted Is [] word rest (o ∷ options) are = record { front = []; here = o; back = options; parts = refl; before = tt; is = are.0 }
parted Is (w ∷ words) word rest [] are = absurd are
parted {T} Is (w ∷ words) word rest (o ∷ options) are =
    let more = parted Is words word rest options are.1 in
    record { front = o ∷ more.front; here = more.here; back = more.back; parts = ap (λ (os : List T). o ∷ os) more.parts; before = (are.0, more.before); is = more.is }

-- the word spells none
pub none_spelled : {T : Type 0} (Is : List ℕ → T → Type 0) (words : List (List ℕ)) (word : List ℕ) (rest : List (List ℕ)) (options : List T) → ((option : T) → ¬ Is word option) → ¬ Spell Is (words ++ word ∷ rest) options
none_spelled Is words word rest options none are = (let p = parted Is words word rest options are in none p.here p.is)
