-- The option of one key, which must be there, and nothing beside it.
use Rattle.shared_lemmas.proofs.Common.{◌≡◌, ℕ, zero, suc, List, [], ◌∷◌, ◌++◌, take, Option, Some, None, refl, sym, ap, subst, ◌∙◌, arith, append_assoc, same_Some, Contains, option_or}
use Rattle.jass_words.specs.declared.keys.Key.{Key}
use Rattle.jass_words.specs.Options.{Said, OptionData, IsOption, AreOptions, given}
use Rattle.jass_words.specs.Slots.{May, Must, IsTail}
use Rattle.jass_words.specs.Private.Faults.{Begins, IsBad, IsSomeTail}
use Rattle.jass_words.proofs.Bad.{bad_end}
use Rattle.jass_words.proofs.Forms.{an_option}
use Rattle.jass_words.proofs.Settings.{said_itself}

single : (key other : Key) → Contains (key ∷ []) other → key ≡ other
single key other (zero, within, is) = is
single key other (suc i, within, is) = absurd (omega (arith, within))

-- there is none, or the one
data IsOnly (key : Key) (words : List (List ℕ)) (options : List OptionData) : Type 0 where
  Nothing : words ≡ [] → options ≡ [] → IsOnly key words options
  Just : (word : List ℕ) (said : Said key) → words ≡ word ∷ [] → options ≡ record { key = key; said = said } ∷ [] → IsOption word (record { key = key; said = said }) → IsOnly key words options

only : (key : Key) (words : List (List ℕ)) (options : List OptionData) → AreOptions (key ∷ []) words options → IsOnly key words options
only key [] [] are = Nothing refl refl
only key [] (o ∷ options) are = absurd are.spelled
only key (w ∷ words) [] are = absurd are.spelled
only key (w ∷ words) (o ∷ p ∷ options) are = absurd (are.once.0.0 (sym (single key p.key are.allows.1.0) ∙ single key o.key are.allows.0))
only key (w ∷ []) (o ∷ []) are = at o.key (single key o.key are.allows.0) o.said are.spelled.0
  where
    at : (other : Key) → key ≡ other → (said : Said other) → IsOption w (record { key = other; said = said }) → IsOnly key (w ∷ []) (record { key = other; said = said } ∷ [])
    at other same = subst (λ (k : Key). (said : Said k) → IsOption w (record { key = k; said = said }) → IsOnly key (w ∷ []) (record { key = k; said = said } ∷ [])) same (λ said is. Just w said refl refl is)
only key (w ∷ v ∷ words) (o ∷ []) are = absurd are.spelled.1

given_only : (key : Key) (said value : Said key) → given key (record { key = key; said = said } ∷ []) ≡ Some value → said ≡ value
given_only key said value is = same_Some said value (sym (ap (λ (x : Option (Said key)). option_or x None) (said_itself key said)) ∙ is)

-- ---- it is there

pub is_alone : (key : Key) (words : List (List ℕ)) (options : List OptionData) (said : Said key) → AreOptions (key ∷ []) words options → given key options ≡ Some said → IsTail (Must key) words said
is_alone key words options said are is = at (only key words options are)
  where
    at : IsOnly key words options → IsTail (Must key) words said
    at (Nothing none empty) = (let both : None ≡ Some said = sym (ap (given key) empty) ∙ is in cc)
    at (Just word value one same spells) =
        let says : value ≡ said = given_only key value said (sym (ap (given key) same) ∙ is) in
        (word, one, subst (λ (s : Said key). IsOption word (record { key = key; said = s })) says spells)

-- ---- it is missing, or a word is at fault

may_be : (key : Key) (words : List (List ℕ)) → IsSomeTail (Must key) words → IsSomeTail (May (key ∷ [])) words
may_be key words (said, (word, is, spells)) =
    let option : OptionData = record { key = key; said = said } in
    (option ∷ [], subst (λ (ws : List (List ℕ)). AreOptions (key ∷ []) ws (option ∷ [])) (sym is) (record { spelled = (spells, tt); allows = ((0, omega arith, refl), tt); once = (tt, tt) }))

must_begin : (key : Key) (words : List (List ℕ)) → Begins (IsSomeTail (May (key ∷ []))) words → Begins (IsSomeTail (Must key)) words
must_begin key words (rest, (options, are)) = at (only key (words ++ rest) options are)
  where
    at : IsOnly key (words ++ rest) options → Begins (IsSomeTail (Must key)) words
    at (Nothing none empty) =
        let (word, said, spells) = an_option key in
        (rest ++ word ∷ [], (said, (word, sym (append_assoc words rest (word ∷ [])) ∙ ap (λ (ws : List (List ℕ)). ws ++ word ∷ []) none, spells)))
    at (Just word said one same spells) = (rest, (said, (word, one, spells)))

pub bad_alone : (key : Key) (words : List (List ℕ)) (n : ℕ) → IsBad (IsSomeTail (May (key ∷ []))) words n → IsBad (IsSomeTail (Must key)) words n
bad_alone key words n bad = record {
  none = λ is. bad.none (may_be key words is);
  before = λ m less. must_begin key (take m words) (bad.before m less);
  here = λ inside (rest, is). bad.here inside (rest, may_be key (take n words ++ rest) is);
  there = bad.there;
}

pub missing : (key : Key) (words : List (List ℕ)) (options : List OptionData) → AreOptions (key ∷ []) words options → given key options ≡ None → IsBad (IsSomeTail (Must key)) words 1
missing key words options are is = at (only key words options are)
  where
    at : IsOnly key words options → IsBad (IsSomeTail (Must key)) words 1
    at (Nothing none empty) = subst (λ (ws : List (List ℕ)). IsBad (IsSomeTail (Must key)) ws 1) (sym none)
        (bad_end (IsSomeTail (Must key)) [] (must_begin key [] ([], ([], record { spelled = tt; allows = tt; once = tt }))) (λ (said, (word, one, spells)). (let both : [] ≡ word ∷ [] = one in cc)))
    at (Just word said one same spells) =
        let both : Some said ≡ None = sym (ap (λ (x : Option (Said key)). option_or x None) (said_itself key said)) ∙ sym (ap (given key) same) ∙ is in
        cc
