-- The first word at fault, place by place, is the first bad word; and what is read is a command.
use Rattle.shared_lemmas.proofs.Common.{◌≡◌, ◌≢◌, ℕ, zero, ◌+◌, suc, ◌<◌, ◌≤◌, true, List, [], ◌∷◌, ◌++◌, length, take, drop, Option, Some, None, refl, sym, ap, subst, arith, inl, inr, IsSomeAnd, slice_get, list_all, append-nil, and_parts, Result, Ok, Err}
use Rattle.std.proofs.Common.{length-append}
use Rattle.std.specs.Result.{IsErrAnd}
use Rattle.jass_words.specs.declared.word_fault.WordFault.{WordFault}
use Rattle.jass_words.specs.declared.keys.Key.{Key}
use Rattle.jass_words.specs.declared.names.Name.{Name}
use Rattle.jass_words.specs.declared.names.Name.TheVariants as names
use Rattle.jass_words.specs.declared.options.Options.{Options}
use Rattle.jass_words.specs.Options.{OptionData, AreOptions}
use Rattle.jass_words.specs.Slots.{Slot, File, Value, Values, Says, files_with, Tail, Ends, May, Extra, IsForm}
use Rattle.jass_words.specs.Table.{word_of, slots_of, tail_of}
use Rattle.jass_words.specs.Words.{CommandData, Help, command_of, IsCommand, IsBegun, IsBadWord}
use Rattle.jass_words.specs.Private.Faults.{Begins, IsBad, IsSomeTail, IsSomeForm, IsRead, IsFault}
use Rattle.jass_words.specs.Private.Reading.{AreRead}
use Rattle.jass_words.proofs.Bad.{bad_at, bad_end, bad_so}
use Rattle.jass_words.proofs.Forms.{one_value, as_form, is_open, filled, opens, few_slots}

-- ---- a word at a place

pub dropped : (words : List (List ℕ)) (place : ℕ) (word : List ℕ) → slice_get words place ≡ Some word → drop place words ≡ word ∷ drop (suc place) words
dropped [] place word is = cc
dropped (w ∷ words) zero word is = let same : w ≡ word = cc in ap (λ (x : List ℕ). x ∷ words) same
dropped (w ∷ words) (suc place) word is = dropped words place word is

pub got : (words : List (List ℕ)) (place : ℕ) (word : List ℕ) (rest : List (List ℕ)) → drop place words ≡ word ∷ rest → slice_get words place ≡ Some word
got [] zero word rest is = cc
got [] (suc place) word rest is = cc
got (w ∷ words) zero word rest is = let same : w ≡ word = cc in ap Some same
got (w ∷ words) (suc place) word rest is = got words place word rest is

pub said_there : (words : List (List ℕ)) (place : ℕ) (P : List ℕ → Type 0) → IsSomeAnd (slice_get words place) P → (word : List ℕ) × (slice_get words place ≡ Some word) × P word
said_there words place P said = at (slice_get words place) refl said
  where
    at : (o : Option (List ℕ)) → slice_get words place ≡ o → IsSomeAnd o P → (word : List ℕ) × (slice_get words place ≡ Some word) × P word
    at (Some word) is holds = (word, is, holds)
    at None is holds = absurd holds

-- ---- what is read has the form

pub formed : {R : Type 0} (slots : List Slot) (tail : Tail) (before : List (List ℕ)) (place : ℕ) (words : List (List ℕ)) (made : Values slots → Extra tail → R) (result : R) → IsRead slots tail before place words made result
    → (values : Values slots) × (extra : Extra tail) × IsForm slots tail before (drop place words) values extra × (result ≡ made values extra)
formed [] tail before place words made result (extra, is, same) = (tt, extra, is, same)
formed (slot ∷ slots) tail before place words made result (value, said, read) =
    let (word, at, says) = said_there words place (λ w. Says slot before w value) said in
    let (values, extra, form, same) = formed slots tail (files_with slot value before) (suc place) words (λ vs e. made (value, vs) e) result read in
    ((value, values), extra, subst (λ (ws : List (List ℕ)). IsForm (slot ∷ slots) tail before ws (value, values) extra) (sym (dropped words place word at)) (says, form), same)

split_first : (words : List (List ℕ)) (word : List ℕ) → slice_get words 0 ≡ Some word → words ≡ word ∷ drop 1 words
split_first words word is = dropped words 0 word is

pub is_command : (name : Name) (words : List (List ℕ)) (command : CommandData) → slice_get words 0 ≡ Some (word_of name) → IsRead (slots_of name) (tail_of name) [] 1 words (command_of name) command → IsCommand words command
is_command name words command first read =
    let (values, extra, form, made) = formed (slots_of name) (tail_of name) [] 1 words (command_of name) command read in
    record { name = name; behind = drop 1 words; values = values; extra = extra; parts = split_first words (word_of name) first; form = form; made = made }

-- ---- a fault in a form

bad_first : (slot : Slot) (slots : List Slot) (tail : Tail) (before : List (List ℕ)) (words : List (List ℕ)) → Begins (IsSomeForm (slot ∷ slots) tail before) [] → ((word : List ℕ) (rest : List (List ℕ)) (value : Value slot) → words ≡ word ∷ rest → ¬ Says slot before word value)
    → IsBad (IsSomeForm (slot ∷ slots) tail before) words 1
bad_first slot slots tail before [] begins none = bad_end (IsSomeForm (slot ∷ slots) tail before) [] begins (λ (values, extra, form). absurd form)
bad_first slot slots tail before (word ∷ rest) begins none = bad_at (IsSomeForm (slot ∷ slots) tail before) (word ∷ rest) 0 (omega arith) begins (λ (more, (values, extra, form)). none word rest values.0 refl form.0)

bad_later : (slot : Slot) (slots : List Slot) (tail : Tail) (before : List (List ℕ)) (word : List ℕ) (rest : List (List ℕ)) (value : Value slot) (n : ℕ) → Begins (IsSomeForm (slot ∷ slots) tail before) [] → Says slot before word value
    → IsBad (IsSomeForm slots tail (files_with slot value before)) rest n → IsBad (IsSomeForm (slot ∷ slots) tail before) (word ∷ rest) (suc n)
bad_later slot slots tail before word rest value n begins says bad = record {
  none = λ (values, extra, form). bad.none (values.1, extra, behind rest values extra form);
  before = front;
  here = λ inside (more, (values, extra, form)). bad.here (omega (arith, inside)) (more, (values.1, extra, behind (take n rest ++ more) values extra form));
  there = (let most = bad.there in omega (arith, most));
}
  where
    behind : (words : List (List ℕ)) (values : Values (slot ∷ slots)) (extra : Extra tail) → IsForm (slot ∷ slots) tail before (word ∷ words) values extra → IsForm slots tail (files_with slot value before) words values.1 extra
    behind words values extra form = subst (λ (v : Value slot). IsForm slots tail (files_with slot v before) words values.1 extra) (one_value slot before word values.0 value form.0 says) form.1

    front : (m : ℕ) → m < suc n → Begins (IsSomeForm (slot ∷ slots) tail before) (take m (word ∷ rest))
    front zero less = begins
    front (suc m) less = (let (more, (values, extra, form)) = bad.before m (omega (arith, less)) in (more, ((value, values), extra, (says, form))))

opens_later : (slot : Slot) (slots : List Slot) → list_all is_open (slot ∷ slots) ≡ true → list_all is_open slots ≡ true
opens_later slot slots opens = (and_parts (is_open slot) (list_all is_open slots) opens).1

pub fault_is : (slots : List Slot) (tail : Tail) (before : List (List ℕ)) (place : ℕ) (words : List (List ℕ)) (which : ℕ) → list_all is_open slots ≡ true → length before + length slots ≤ 4000 → IsFault slots tail before place words which
    → (n : ℕ) × (which ≡ place + n) × IsBad (IsSomeForm slots tail before) (drop place words) n
fault_is [] tail before place words which opens few (n, is, bad) = (n, is, bad_so (IsSomeTail tail) (IsSomeForm [] tail before) (drop place words) n (λ ws (extra, whole). (tt, extra, whole)) (λ ws (values, extra, whole). (extra, whole)) bad)
fault_is (slot ∷ slots) tail before place words which opens few (inl (none, is)) =
    (1, is, bad_first slot slots tail before (drop place words) (filled (slot ∷ slots) tail before opens few) (λ word rest value same. none word value (got words place word rest same)))
fault_is (slot ∷ slots) tail before place words which opens few (inr (value, said, later)) =
    let (word, at, says) = said_there words place (λ w. Says slot before w value) said in
    let (n, is, bad) = fault_is slots tail (files_with slot value before) (suc place) words which (opens_later slot slots opens) (fits slot value) later in (
      suc n,
      omega (arith, is),
      subst (λ (ws : List (List ℕ)). IsBad (IsSomeForm (slot ∷ slots) tail before) ws (suc n)) (sym (dropped words place word at))
          (bad_later slot slots tail before word (drop (suc place) words) value n (filled (slot ∷ slots) tail before opens few) says bad),
    )
  where
    fits : (s : Slot) (v : Value s) → length (files_with s v before) + length slots ≤ 4000
    fits File file = omega (arith, few, length-append before (file ∷ []))
    fits s v = omega (arith, few)

-- ---- a fault in the words

begun_behind : (name : Name) (words : List (List ℕ)) → Begins (IsSomeForm (slots_of name) (tail_of name) []) words → IsBegun (word_of name ∷ words)
begun_behind name words (rest, (values, extra, form)) =
    (rest, command_of name values extra, record { name = name; behind = words ++ rest; values = values; extra = extra; parts = refl; form = form; made = refl })

begun_nothing : IsBegun []
begun_nothing = (word_of names.Help ∷ [], Help, record { name = names.Help; behind = []; values = tt; extra = tt; parts = refl; form = refl; made = refl })

-- the first word names no command, or there is none
pub no_name : (words : List (List ℕ)) → ((name : Name) → slice_get words 0 ≢ Some (word_of name)) → IsBadWord words 1
no_name words none = record {
  none = λ command is. none is.name (ap (λ (ws : List (List ℕ)). slice_get ws 0) is.parts);
  before = front;
  here = λ inside begun. unbegun words none inside begun;
  there = omega arith;
}
  where
    front : (n : ℕ) → n < 1 → IsBegun (take n words)
    front zero less = begun_nothing
    front (suc n) less = absurd (omega (arith, less))

    unbegun : (ws : List (List ℕ)) → ((name : Name) → slice_get ws 0 ≢ Some (word_of name)) → 1 ≤ length ws → ¬ IsBegun (take 1 ws)
    unbegun [] none inside begun = omega (arith, inside)
    unbegun (w ∷ ws) none inside (rest, command, is) = none is.name (ap (λ (ws : List (List ℕ)). slice_get ws 0) is.parts)

bad_behind : (name : Name) (behind : List (List ℕ)) (n : ℕ) → IsBad (IsSomeForm (slots_of name) (tail_of name) []) behind n → IsBadWord (word_of name ∷ behind) (suc n)
bad_behind name behind n bad = record {
  none = λ command is. bad.none (as_form name behind command is);
  before = front;
  here = λ inside (rest, command, is). bad.here (omega (arith, inside)) (rest, as_form name (take n behind ++ rest) command is);
  there = (let most = bad.there in omega (arith, most));
}
  where
    front : (m : ℕ) → m < suc n → IsBegun (take m (word_of name ∷ behind))
    front zero less = begun_nothing
    front (suc m) less = begun_behind name (take m behind) (bad.before m (omega (arith, less)))

pub is_bad_word : (name : Name) (words : List (List ℕ)) (which : ℕ) → slice_get words 0 ≡ Some (word_of name) → IsFault (slots_of name) (tail_of name) [] 1 words which → IsBadWord words which
is_bad_word name words which first fault =
    let few : length {A = List ℕ} [] + length (slots_of name) ≤ 4000 = omega (arith, few_slots name) in
    let (n, is, bad) = fault_is (slots_of name) (tail_of name) [] 1 words which (opens name) few fault in
    let after : suc n ≡ which = omega (arith, is) in
    subst (λ (ws : List (List ℕ)). IsBadWord ws which) (sym (split_first words (word_of name) first)) (subst (IsBadWord (word_of name ∷ drop 1 words)) after (bad_behind name (drop 1 words) n bad))

-- ---- faults behind the fixed words

-- a word where none may stand
pub bad_more : (words : List (List ℕ)) → 0 < length words → IsBad (IsSomeTail Ends) words 1
bad_more [] some = absurd (omega (arith, some))
bad_more (word ∷ words) some = bad_at (IsSomeTail Ends) (word ∷ words) 0 (omega arith) ([], (tt, refl)) (λ (rest, (extra, is)). (let none : word ∷ rest ≡ [] = is in cc))

-- a word that is no option
pub bad_option : (allowed : List Key) (words : List (List ℕ)) (n : ℕ) (read : Options) → n < length words → AreRead allowed (take n words) read → ((rest : List (List ℕ)) (options : List OptionData) → ¬ AreOptions allowed (take (suc n) words ++ rest) options)
    → IsBad (IsSomeTail (May allowed)) words (suc n)
bad_option allowed words n read within seen none = bad_at (IsSomeTail (May allowed)) words n within
    ([], (seen.options, subst (λ (ws : List (List ℕ)). AreOptions allowed ws seen.options) (sym (append-nil (take n words))) seen.are)) (λ (rest, (options, are)). none rest options are)

-- ---- a fault that is passed on

pub passed_on : {T : Type 0} (P : Result T WordFault → Type 0) (r : Result T WordFault) (fault : WordFault) → IsErrAnd r (λ e. e ≡ fault) → P (Err fault) → P r
passed_on P (Ok x) fault is holds = absurd is
passed_on P (Err e) fault is holds = subst (λ (f : WordFault). P (Err f)) (sym is) holds
