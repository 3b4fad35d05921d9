-- Words that are options, those that were read, and the first that is none or stands twice.
use Rattle.shared_lemmas.proofs.Common.{◌≡◌, ◌≢◌, ℕ, ◌≤◌, Bool, true, false, List, [], ◌∷◌, ◌++◌, length, map, Option, Some, None, refl, sym, ap, subst, ◌∙◌, arith, eqb, codes, slice_split, same_Some, same_text, AllByRecursion, Contains, option_map, option_or, unwrap_or, is_some, length-map, nat_list_eq_equiv, nat_eq, ◌||◌}
use Rattle.std.specs.Str.{bytes_eq}
use Rattle.std.specs.List.{IsDistinct}
use Rattle.std.specs.Set.{is_member}
use Rattle.std.specs.Cmp.Lexicographic.{pointwise}
use Rattle.std.proofs.lemmas.Map.Made.{length-le_from_is_member}
use Rattle.jass_words.proofs.Below.{decimal_of, Budget, Mode, Plain, Folded, Rule, Tf, Bm25, Bits, Raw, Of}
use Rattle.jass_base.specs.declared.answer.Budget.TheVariants as budgets
use Rattle.jass_words.specs.declared.keys.Key.{Key}
use Rattle.jass_words.specs.declared.keys.Key.TheVariants as keys
use Rattle.jass_words.specs.declared.until.Until.{Until}
use Rattle.jass_words.specs.declared.until.Until.TheVariants as untils
use Rattle.jass_words.specs.declared.option_words.OptionWord.{OptionWord}
use Rattle.jass_words.specs.declared.options.Options.{Options}
use Rattle.jass_words.specs.Numbers.{IsNumber, IsBudget}
use Rattle.jass_words.specs.Options.{Said, OptionData, IsMode, IsUntil, IsRule, IsBits, IsValue, IsOption, AreOptions, said_as, given, key_text}
use Rattle.jass_words.specs.Spelled.{Spell, HaveOnce}
use Rattle.jass_words.specs.Private.Reading.{option_data, found, is_found, AreRead, Takes}
use Rattle.jass_words.proofs.Spelling.{spell_one, as_many, spelled_more, all_more, once_more, once_before, all_at, parted}
use Rattle.jass_words.proofs.Tables.{all_keys, one_key, one_value_behind, same_key}

-- ---- a word spells one option

pub one_budget : (word : List ℕ) (budget other : Budget) → IsBudget word budget → IsBudget word other → budget ≡ other
one_budget word (budgets.Postings m) (budgets.Postings n) is theirs = (let same : m ≡ n = cc in ap budgets.Postings same)
one_budget word budgets.All budgets.All is theirs = λ i. budgets.All
one_budget word (budgets.Postings m) budgets.All is theirs = (let none : decimal_of (codes "all") ≡ Some m = subst (λ w. decimal_of w ≡ Some m) theirs is in cc)
one_budget word budgets.All (budgets.Postings n) is theirs = (let none : decimal_of (codes "all") ≡ Some n = subst (λ w. decimal_of w ≡ Some n) is theirs in cc)

one_mode : (value : List ℕ) (a b : Mode) → IsMode value a → IsMode value b → a ≡ b
one_mode value Plain Plain is theirs = refl
one_mode value Folded Folded is theirs = refl
one_mode value Plain Folded is theirs = (let both : codes "plain" ≡ codes "folded" = sym is ∙ theirs in cc)
one_mode value Folded Plain is theirs = (let both : codes "plain" ≡ codes "folded" = sym theirs ∙ is in cc)

one_until : (value : List ℕ) (a b : Until) → IsUntil value a → IsUntil value b → a ≡ b
one_until value untils.Budget untils.Budget is theirs = refl
one_until value untils.Final untils.Final is theirs = refl
one_until value untils.Budget untils.Final is theirs = (let both : codes "budget" ≡ codes "final" = sym is ∙ theirs in cc)
one_until value untils.Final untils.Budget is theirs = (let both : codes "budget" ≡ codes "final" = sym theirs ∙ is in cc)

one_rule : (value : List ℕ) (a b : Rule) → IsRule value a → IsRule value b → a ≡ b
one_rule value Tf Tf is theirs = refl
one_rule value Bm25 Bm25 is theirs = refl
one_rule value Tf Bm25 is theirs = (let both : codes "tf" ≡ codes "bm25" = sym is ∙ theirs in cc)
one_rule value Bm25 Tf is theirs = (let both : codes "tf" ≡ codes "bm25" = sym theirs ∙ is in cc)

one_width : (value : List ℕ) (a b : Bits) → IsBits value a → IsBits value b → a ≡ b
one_width value Raw Raw is theirs = refl
one_width value (Of m) (Of n) is theirs = (let same : m ≡ n = cc in ap Of same)
one_width value Raw (Of n) is theirs = (let none : decimal_of (codes "raw") ≡ Some n = subst (λ w. decimal_of w ≡ Some n) is theirs.0 in cc)
one_width value (Of m) Raw is theirs = (let none : decimal_of (codes "raw") ≡ Some m = subst (λ w. decimal_of w ≡ Some m) theirs is.0 in cc)

pub one_number : (word : List ℕ) (least most n m : ℕ) → IsNumber word least most n → IsNumber word least most m → n ≡ m
one_number word least most n m is theirs = same_Some n m (sym is.decimal ∙ theirs.decimal)

one_said : (key : Key) (value : List ℕ) (a b : Said key) → IsValue key value a → IsValue key value b → a ≡ b
one_said keys.Hits value a b is theirs = one_number value 1 100000 a b is theirs
one_said keys.Limits value a b is theirs = spell_one IsBudget one_budget (slice_split (λ c. eqb c 44) value) a b is.each theirs.each
one_said keys.Tag value a b is theirs = sym is.0 ∙ theirs.0
one_said keys.Reading value a b is theirs = one_mode value a b is theirs
one_said keys.Stopping value a b is theirs = one_until value a b is theirs
one_said keys.Weights value a b is theirs = one_rule value a b is theirs
one_said keys.Width value a b is theirs = one_width value a b is theirs
one_said keys.Frames value a b is theirs = one_number value 1 1048576 a b is theirs

-- what an option of this key says in a word
pub one_said_in : (word : List ℕ) (key : Key) (a b : Said key) → IsOption word (record { key = key; said = a }) → IsOption word (record { key = key; said = b }) → a ≡ b
one_said_in word key a b is theirs =
    let values : is.value ≡ theirs.value = one_value_behind word key key is.value theirs.value is.parts theirs.parts in
    one_said key theirs.value a b (subst (λ (v : List ℕ). IsValue key v a) values is.says) theirs.says

pub one_option : (word : List ℕ) (a b : OptionData) → IsOption word a → IsOption word b → a ≡ b
one_option word a b is theirs = at b.key keyed b.said (subst (λ (v : List ℕ). IsValue b.key v b.said) (sym values) theirs.says)
  where
    keyed : a.key ≡ b.key
    keyed = one_key word a.key b.key is.value theirs.value is.parts theirs.parts

    values : is.value ≡ theirs.value
    values = one_value_behind word a.key b.key is.value theirs.value is.parts theirs.parts

    here : (said : Said a.key) → IsValue a.key is.value said → a ≡ record { key = a.key; said = said }
    here said says = λ i. record { key = a.key; said = one_said a.key is.value a.said said is.says says i }

    at : (key : Key) → a.key ≡ key → (said : Said key) → IsValue key is.value said → a ≡ record { key = key; said = said }
    at key same = subst (λ (k : Key). (said : Said k) → IsValue k is.value said → a ≡ record { key = k; said = said }) same here

-- ---- what options of a key say

said_key : (key other : Key) (said : Said other) (value : Said key) → said_as key other said ≡ Some value → key ≡ other
said_key keys.Hits keys.Hits said value is = refl
said_key keys.Limits keys.Limits said value is = refl
said_key keys.Tag keys.Tag said value is = refl
said_key keys.Reading keys.Reading said value is = refl
said_key keys.Stopping keys.Stopping said value is = refl
said_key keys.Weights keys.Weights said value is = refl
said_key keys.Width keys.Width said value is = refl
said_key keys.Frames keys.Frames said value is = refl
said_key key other said value is = cc

pub said_itself : (key : Key) (said : Said key) → said_as key key said ≡ Some said
said_itself keys.Hits said = refl
said_itself key said = refl

abbrev IsApart : Key → List OptionData → Type 0
IsApart key options = AllByRecursion (λ earlier. key ≢ earlier.key) options

-- no option has a key of which none says anything
apart_none : (key : Key) (options : List OptionData) → given key options ≡ None → IsApart key options
apart_none key [] none = tt
apart_none key (o ∷ options) none = at (said_as key o.key o.said) refl none (λ less. apart_none key options less)
  where
    other : (k : Key) → key ≡ k → (said : Said k) → said_as key k said ≡ None → ⊥
    other k same = subst (λ (k : Key). (said : Said k) → said_as key k said ≡ None → ⊥) same (λ said is. (let both : Some said ≡ None = sym (said_itself key said) ∙ is in cc))

    at : (x : Option (Said key)) → said_as key o.key o.said ≡ x → option_or x (given key options) ≡ None → (given key options ≡ None → IsApart key options) → IsApart key (o ∷ options)
    at (Some value) is none later = cc
    at None is none later = ((λ same. other o.key same o.said is), later none)

-- one that says something has it
given_apart : (key : Key) (options : List OptionData) (value : Said key) → given key options ≡ Some value → ¬ IsApart key options
given_apart key [] value is apart = cc
given_apart key (o ∷ options) value is apart = at (said_as key o.key o.said) refl is (λ later. given_apart key options value later apart.1)
  where
    at : (x : Option (Said key)) → said_as key o.key o.said ≡ x → option_or x (given key options) ≡ Some value → (given key options ≡ Some value → ⊥) → ⊥
    at (Some said) same is later = apart.0 (said_key key o.key o.said said same)
    at None same is later = later is

given_more : (key : Key) (options : List OptionData) (option : OptionData) → IsApart option.key options
    → option_or (said_as key option.key option.said) (given key options) ≡ given key (options ++ option ∷ [])
given_more key [] option apart = refl
given_more key (o ∷ options) option apart = at (said_as key option.key option.said) (said_as key o.key o.said) refl refl ∙ ap (λ (x : Option (Said key)). option_or (said_as key o.key o.said) x) (given_more key options option apart.1)
  where
    at : (x y : Option (Said key)) → said_as key option.key option.said ≡ x → said_as key o.key o.said ≡ y → option_or x (option_or y (given key options)) ≡ option_or y (option_or x (given key options))
    at None y first second = refl
    at (Some a) None first second = refl
    at (Some a) (Some b) first second = absurd (apart.0 (sym (said_key key option.key option.said a first) ∙ said_key key o.key o.said b second))

-- ---- options that were read so far

same_some : {A B : Type 0} (f : A → B) (x : Option A) → is_some x ≡ is_some (option_map f x)
same_some f (Some y) = refl
same_some f None = refl

found_is : (read : Options) (key : Key) → is_found read key ≡ is_some (found read key)
found_is read keys.Tag = same_some (λ tag. tag.now) read.tag
found_is read key = refl

-- an option that is taken in, whatever names it
pub takes_so : (read : Options) (option word : OptionWord) (next : (key : Key) → Option (Said key)) → option ≡ word
    → ((key : Key) → next key ≡ option_or (said_as key (option_data word).key (option_data word).said) (found read key)) → (key : Key) → next key ≡ option_or (said_as key (option_data option).key (option_data option).said) (found read key)
takes_so read option word next is takes = subst (λ (o : OptionWord). (key : Key) → next key ≡ option_or (said_as key (option_data o).key (option_data o).said) (found read key)) (sym is) takes

none_of : {A : Type 0} (x : Option A) → is_some x ≡ false → x ≡ None
none_of (Some y) is = cc
none_of None is = refl

some_of : {A : Type 0} (x : Option A) → is_some x ≡ true → (y : A) × (x ≡ Some y)
some_of (Some y) is = (y, refl)
some_of None is = cc

pub nothing_read : (allowed : List Key) (read : Options) → ((key : Key) → found read key ≡ None) → AreRead allowed [] read
nothing_read allowed read none = record { options = []; are = record { spelled = tt; allows = tt; once = tt }; gives = none }

-- one option more
pub read_more : (allowed : List Key) (words : List (List ℕ)) (word : List ℕ) (read next : Options) (option : OptionData) → AreRead allowed words read → IsOption word option → Contains allowed option.key → is_found read option.key ≡ false
    → Takes read option next → AreRead allowed (words ++ word ∷ []) next
read_more allowed words word read next option seen is allows unseen takes = record {
  options = seen.options ++ option ∷ [];
  are = record {
    spelled = spelled_more IsOption words seen.options word option seen.are.spelled is;
    allows = all_more (λ (o : OptionData). Contains allowed o.key) seen.options option seen.are.allows allows;
    once = once_more (λ (o : OptionData). o.key) seen.options option seen.are.once apart;
  };
  gives = λ key. takes key ∙ ap (λ (x : Option (Said key)). option_or (said_as key option.key option.said) x) (seen.gives key) ∙ given_more key seen.options option apart;
}
  where
    apart : IsApart option.key seen.options
    apart = apart_none option.key seen.options (sym (seen.gives option.key) ∙ none_of (found read option.key) (sym (found_is read option.key) ∙ unseen))

-- ---- a word that is none of them

pub none_more : (allowed : List Key) (words : List (List ℕ)) (word : List ℕ) (rest : List (List ℕ)) (options : List OptionData) → ((option : OptionData) → ¬ IsOption word option) → ¬ AreOptions allowed (words ++ word ∷ rest) options
none_more allowed words word rest options none are = (let p = parted IsOption words word rest options are.spelled in none p.here p.is)

-- its key isn't allowed, or stood before
pub never_more : (allowed : List Key) (words : List (List ℕ)) (word : List ℕ) (rest : List (List ℕ)) (options : List OptionData) (read : Options) (option : OptionData) → AreRead allowed words read → IsOption word option
    → (Contains allowed option.key → is_found read option.key ≡ true) → ¬ AreOptions allowed (words ++ word ∷ rest) options
never_more allowed words word rest options read option seen is barred are =
    let p = parted IsOption words word rest options are.spelled in
    let front : p.front ≡ seen.options = spell_one IsOption one_option words p.front seen.options p.before seen.are.spelled in
    let here : p.here ≡ option = one_option word p.here option p.is is in
    let allows : Contains allowed option.key = subst (λ (o : OptionData). Contains allowed o.key) here (all_at (λ (o : OptionData). Contains allowed o.key) p.front p.here p.back (subst (AllByRecursion (λ (o : OptionData). Contains allowed o.key)) p.parts are.allows)) in
    let (value, some) = some_of (found read option.key) (sym (found_is read option.key) ∙ barred allows) in
    let apart : IsApart p.here.key p.front = once_before (λ (o : OptionData). o.key) p.front p.here p.back (subst (HaveOnce (λ (o : OptionData). o.key)) p.parts are.once) in
    given_apart option.key seen.options value (sym (seen.gives option.key) ∙ some) (subst (λ (o : OptionData). IsApart o.key seen.options) here (subst (IsApart p.here.key) front apart))

-- ---- no more options than keys

abbrev letters : List OptionData → List (List ℕ)
letters options = map (λ (o : OptionData). key_text o.key) options

differs : (a b : Key) → b ≢ a → bytes_eq (key_text a) (key_text b) ≡ false
differs a b apart = at (bytes_eq (key_text a) (key_text b)) refl
  where
    at : (t : Bool) → bytes_eq (key_text a) (key_text b) ≡ t → bytes_eq (key_text a) (key_text b) ≡ false
    at true is = absurd (apart (sym (same_key a b (same_text (key_text a) (key_text b) (sym is)))))
    at false is = is

distinct : (options : List OptionData) → HaveOnce (λ (o : OptionData). o.key) options → IsDistinct (pointwise nat_eq) (letters options)
unfolding IsDistinct
distinct [] once = tt
distinct (o ∷ options) once = (others options once.0, distinct options once.1)
  where
    others : (later : List OptionData) → AllByRecursion (λ (l : OptionData). l.key ≢ o.key) later → AllByRecursion (λ y. bytes_eq (key_text o.key) y ≡ false) (letters later)
    others [] all = tt
    others (l ∷ later) all = (differs o.key l.key all.0, others later all.1)

there_is : (key : Key) → is_member bytes_eq (map key_text all_keys) (key_text key) ≡ true
there_is keys.Hits = refl
there_is key = refl

among_keys : (word : List ℕ) (options : List OptionData) → is_member bytes_eq (letters options) word ≡ true → is_member bytes_eq (map key_text all_keys) word ≡ true
among_keys word [] holds = cc
among_keys word (o ∷ options) holds = at (bytes_eq word (key_text o.key)) refl holds (λ later. among_keys word options later)
  where
    at : (t : Bool) → bytes_eq word (key_text o.key) ≡ t → (t || is_member bytes_eq (letters options) word) ≡ true → (is_member bytes_eq (letters options) word ≡ true → is_member bytes_eq (map key_text all_keys) word ≡ true) → is_member bytes_eq (map key_text all_keys) word ≡ true
    at true is holds later = subst (λ (w : List ℕ). is_member bytes_eq (map key_text all_keys) w ≡ true) (sym (same_text word (key_text o.key) (sym is))) (there_is o.key)
    at false is holds later = later holds

pub few_options : (allowed : List Key) (words : List (List ℕ)) (options : List OptionData) → AreOptions allowed words options → length words ≤ length all_keys
few_options allowed words options are =
    let few : length (letters options) ≤ length (map key_text all_keys) = length-le_from_is_member nat_list_eq_equiv (letters options) (map key_text all_keys) (distinct options are.once) (λ word holds. among_keys word options holds) in
    omega (arith, as_many IsOption words options are.spelled, length-map options (λ (o : OptionData). key_text o.key), few)

-- ---- what an option says is within its limits, and so is what stands for none

given_fits : (key : Key) (P : Said key → Type 0) → ((value : List ℕ) (said : Said key) → IsValue key value said → P said) → (words : List (List ℕ)) (options : List OptionData) → Spell IsOption words options → (said : Said key) → given key options ≡ Some said → P said
given_fits key P fits [] [] are said is = cc
given_fits key P fits [] (o ∷ options) are said is = absurd are
given_fits key P fits (w ∷ words) [] are said is = absurd are
given_fits key P fits (w ∷ words) (o ∷ options) are said is = at (said_as key o.key o.said) refl is (λ later. given_fits key P fits words options are.1 said later)
  where
    here : (k : Key) → key ≡ k → (s : Said k) → IsValue k are.0.value s → (x : Said key) → said_as key k s ≡ Some x → P x
    here k same = subst (λ (k : Key). (s : Said k) → IsValue k are.0.value s → (x : Said key) → said_as key k s ≡ Some x → P x) same
        (λ s says x is. subst P (same_Some s x (sym (said_itself key s) ∙ is)) (fits are.0.value s says))

    at : (x : Option (Said key)) → said_as key o.key o.said ≡ x → option_or x (given key options) ≡ Some said → (given key options ≡ Some said → P said) → P said
    at None same is later = later is
    at (Some value) same is later = subst P (same_Some value said is) (here o.key (said_key key o.key o.said value same) o.said are.0.says value same)

-- of options that were read
pub fits_or : (key : Key) (P : Said key → Type 0) → ((value : List ℕ) (said : Said key) → IsValue key value said → P said) → (allowed : List Key) (words : List (List ℕ)) (read : Options) → AreRead allowed words read
    → (usual : Said key) → P usual → P (unwrap_or (found read key) usual)
fits_or key P fits allowed words read seen usual holds = at (found read key) refl
  where
    at : (x : Option (Said key)) → found read key ≡ x → P (unwrap_or x usual)
    at None is = holds
    at (Some said) is = given_fits key P fits words seen.options seen.are.spelled said (sym (seen.gives key) ∙ is)
