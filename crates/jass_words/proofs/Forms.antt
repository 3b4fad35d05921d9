-- Words of a form say one thing, and each form has words.
use Rattle.shared_lemmas.proofs.Common.{◌≡◌, ◌≢◌, ℕ, ◌+◌, suc, ◌≤◌, replicate, Bool, true, false, List, [], ◌∷◌, ◌++◌, length, get_or, refl, sym, ap, subst, ◌∙◌, arith, eqb, eqb-true, codes, if◌then◌else◌, nat_tests, same_Some, slice_get, AllByRecursion, All-from_recursion, list_all, leb, leb-true, ◌&&◌, and_parts, get_or-append_seam, append_assoc}
use Rattle.std.proofs.Common.{length-append}
use Rattle.jass_words.proofs.Below.{Plain, Tf, Raw}
use Rattle.jass_base.specs.declared.answer.Budget.TheVariants as budgets
use Rattle.jass_words.specs.declared.keys.Key.{Key}
use Rattle.jass_words.specs.declared.keys.Key.TheVariants as keys
use Rattle.jass_words.specs.declared.until.Until.TheVariants as untils
use Rattle.jass_words.specs.declared.names.Name.{Name}
use Rattle.jass_words.specs.declared.names.Name.TheVariants as names
use Rattle.jass_words.specs.Numbers.{IsNumber}
use Rattle.jass_words.specs.Options.{Said, OptionData, AreOptions, IsTag, IsOption}
use Rattle.jass_words.specs.Slots.{Slot, File, Number, Postings, Value, Values, Says, files_with, Tail, Ends, Terms, May, Must, Parts, Extra, IsTail, IsForm, IsFile, IsTerm, AreTermWords, AreFixed, PartsSaid, ArePartWords}
use Rattle.jass_words.specs.Table.{word_of, slots_of, tail_of}
use Rattle.jass_words.specs.Words.{CommandData, command_of, IsCommand}
use Rattle.jass_words.specs.Private.Faults.{IsSomeForm}
use Rattle.jass_words.proofs.Settings.{one_budget, one_number, one_option, one_said_in}
use Rattle.jass_words.proofs.Spelling.{spell_one}
use Rattle.jass_words.proofs.Tables.{same_name}

-- ---- one value, one form, one command

pub one_value : (slot : Slot) (before : List (List ℕ)) (word : List ℕ) (v w : Value slot) → Says slot before word v → Says slot before word w → v ≡ w
one_value File before word v w is theirs = sym is.0 ∙ theirs.0
one_value (Number least most) before word v w is theirs = one_number word least most v w is theirs
one_value Postings before word v w is theirs = one_budget word v w is theirs

heads : (a b : List ℕ) (more others : List (List ℕ)) → a ∷ more ≡ b ∷ others → a ≡ b
heads a b more others is = same_Some a b (ap (λ (ws : List (List ℕ)). slice_get ws 0) is)

tails : (a b : List ℕ) (more others : List (List ℕ)) → a ∷ more ≡ b ∷ others → more ≡ others
tails a b more others is = cc

one_fixed : (slots : List Slot) (before words : List (List ℕ)) (v w : Values slots) (rest others : List (List ℕ)) → AreFixed slots before words v rest → AreFixed slots before words w others → (v ≡ w) × (rest ≡ others)
one_fixed [] before words v w rest others is theirs = (refl, sym is ∙ theirs)
one_fixed (slot ∷ slots) before [] v w rest others is theirs = absurd is
one_fixed (slot ∷ slots) before (word ∷ words) v w rest others is theirs =
    let first : v.0 ≡ w.0 = one_value slot before word v.0 w.0 is.0 theirs.0 in
    let (later, same) = one_fixed slots (files_with slot w.0 before) words v.1 w.1 rest others (subst (λ (x : Value slot). AreFixed slots (files_with slot x before) words v.1 rest) first is.1) theirs.1 in
    ((λ i. (first i, later i)), same)

abbrev parts_with : (n : ℕ) → Values (replicate (suc (suc n)) File) → List OptionData → PartsSaid
parts_with n files options = record { parts = n; files = files; options = options }

same_parts : (allowed : List Key) (words : List (List ℕ)) (n m : ℕ) → n ≡ m → (v : Values (replicate (suc (suc n)) File)) (w : Values (replicate (suc (suc m)) File)) (o p : List OptionData) (rest others : List (List ℕ)) → AreFixed (replicate (suc (suc n)) File) [] words v rest → AreOptions allowed rest o
    → AreFixed (replicate (suc (suc m)) File) [] words w others → AreOptions allowed others p → parts_with n v o ≡ parts_with m w p
same_parts allowed words n m same v = subst (λ (k : ℕ). (w : Values (replicate (suc (suc k)) File)) (o p : List OptionData) (rest others : List (List ℕ)) → AreFixed (replicate (suc (suc n)) File) [] words v rest → AreOptions allowed rest o → AreFixed (replicate (suc (suc k)) File) [] words w others → AreOptions allowed others p → parts_with n v o ≡ parts_with k w p) same alike
  where
    alike : (w : Values (replicate (suc (suc n)) File)) (o p : List OptionData) (rest others : List (List ℕ)) → AreFixed (replicate (suc (suc n)) File) [] words v rest → AreOptions allowed rest o → AreFixed (replicate (suc (suc n)) File) [] words w others → AreOptions allowed others p → parts_with n v o ≡ parts_with n w p
    alike w o p rest others is are theirs other =
        let (files, behind) = one_fixed (replicate (suc (suc n)) File) [] words v w rest others is theirs in
        let options : o ≡ p = spell_one IsOption one_option others o p (subst (λ (ws : List (List ℕ)). AreOptions allowed ws o) behind are).spelled other.spelled in
        (λ i. parts_with n (files i) (options i))

one_parts : (allowed : List Key) (words : List (List ℕ)) (a b : PartsSaid) → ArePartWords allowed words a → ArePartWords allowed words b → a ≡ b
one_parts allowed words a b is theirs = same_parts allowed theirs.behind a.parts b.parts parts a.files b.files a.options b.options is.rest theirs.rest (subst (λ (ws : List (List ℕ)). AreFixed (replicate (suc (suc a.parts)) File) [] ws a.files is.rest) behind is.files) is.options theirs.files theirs.options
  where
    both : is.count ∷ is.behind ≡ theirs.count ∷ theirs.behind
    both = sym is.first ∙ theirs.first

    count : is.count ≡ theirs.count
    count = heads is.count theirs.count is.behind theirs.behind both

    behind : is.behind ≡ theirs.behind
    behind = tails is.count theirs.count is.behind theirs.behind both

    parts : a.parts ≡ b.parts
    parts = one_number theirs.count 2 16 a.parts b.parts (subst (λ (c : List ℕ). IsNumber c 2 16 a.parts) count is.counted) theirs.counted

one_extra : (tail : Tail) (words : List (List ℕ)) (a b : Extra tail) → IsTail tail words a → IsTail tail words b → a ≡ b
one_extra Ends words a b is theirs = refl
one_extra Terms words a b is theirs = sym is.0 ∙ theirs.0
one_extra (May allowed) words a b is theirs = spell_one IsOption one_option words a b is.spelled theirs.spelled
one_extra (Must key) words a b (word, is, says) (other, theirs, says') =
    let same : word ≡ other = same_Some word other (ap (λ (ws : List (List ℕ)). slice_get ws 0) (sym is ∙ theirs)) in
    one_said_in other key a b (subst (λ (w : List ℕ). IsOption w (record { key = key; said = a })) same says) says'
one_extra (Parts allowed) words a b is theirs = one_parts allowed words a b is theirs

one_form : (slots : List Slot) (tail : Tail) (before words : List (List ℕ)) (v w : Values slots) (a b : Extra tail) → IsForm slots tail before words v a → IsForm slots tail before words w b → (v ≡ w) × (a ≡ b)
one_form [] tail before words v w a b is theirs = (refl, one_extra tail words a b is theirs)
one_form (slot ∷ slots) tail before [] v w a b is theirs = absurd is
one_form (slot ∷ slots) tail before (word ∷ words) v w a b is theirs =
    let first : v.0 ≡ w.0 = one_value slot before word v.0 w.0 is.0 theirs.0 in
    let (rest, extra) = one_form slots tail (files_with slot w.0 before) words v.1 w.1 a b (subst (λ (x : Value slot). IsForm slots tail (files_with slot x before) words v.1 a) first is.1) theirs.1 in
    ((λ i. (first i, rest i)), extra)

pub one_command : (words : List (List ℕ)) (command other : CommandData) → IsCommand words command → IsCommand words other → command ≡ other
one_command words command other is theirs = at theirs.name same theirs.values theirs.extra (subst (λ (ws : List (List ℕ)). IsForm (slots_of theirs.name) (tail_of theirs.name) [] ws theirs.values theirs.extra) (sym behind) theirs.form) ∙ sym theirs.made
  where
    both : word_of is.name ∷ is.behind ≡ word_of theirs.name ∷ theirs.behind
    both = sym is.parts ∙ theirs.parts

    same : is.name ≡ theirs.name
    same = same_name is.name theirs.name (heads (word_of is.name) (word_of theirs.name) is.behind theirs.behind both)

    behind : is.behind ≡ theirs.behind
    behind = tails (word_of is.name) (word_of theirs.name) is.behind theirs.behind both

    here : (values : Values (slots_of is.name)) (extra : Extra (tail_of is.name)) → IsForm (slots_of is.name) (tail_of is.name) [] is.behind values extra → command ≡ command_of is.name values extra
    here values extra form =
        let (v, e) = one_form (slots_of is.name) (tail_of is.name) [] is.behind is.values values is.extra extra is.form form in
        is.made ∙ (λ i. command_of is.name (v i) (e i))

    at : (name : Name) → is.name ≡ name → (values : Values (slots_of name)) (extra : Extra (tail_of name)) → IsForm (slots_of name) (tail_of name) [] is.behind values extra → command ≡ command_of name values extra
    at name same = subst (λ (n : Name). (values : Values (slots_of n)) (extra : Extra (tail_of n)) → IsForm (slots_of n) (tail_of n) [] is.behind values extra → command ≡ command_of n values extra) same here

-- a command's words behind its name have the name's form
pub as_form : (name : Name) (behind : List (List ℕ)) (command : CommandData) → IsCommand (word_of name ∷ behind) command → IsSomeForm (slots_of name) (tail_of name) [] behind
as_form name behind command is = subst (λ (n : Name). IsSomeForm (slots_of n) (tail_of n) [] behind) (sym same) (is.values, is.extra, subst (λ (ws : List (List ℕ)). IsForm (slots_of is.name) (tail_of is.name) [] ws is.values is.extra) (sym (tails (word_of name) (word_of is.name) behind is.behind is.parts)) is.form)
  where
    same : name ≡ is.name
    same = same_name name is.name (heads (word_of name) (word_of is.name) behind is.behind is.parts)

-- ---- a file beside others: its byte at each place is another than that of the file in this place

abbrev other_byte : ℕ → ℕ
other_byte b = if eqb b 97 then 98 else 97

other_differs : (b : ℕ) → b ≢ other_byte b
other_differs b is = at (eqb b 97) refl is
  where
    at : (t : Bool) → eqb b 97 ≡ t → b ≡ (if t then 98 else 97) → ⊥
    at true test is = (let same : b ≡ 97 = eqb-true b 97 test in omega (arith, same, is))
    at false test is = grind (arith, nat_tests)

other_nonzero : (b : ℕ) → other_byte b ≢ 0
other_nonzero b is = at (eqb b 97) is
  where
    at : (t : Bool) → ◌≡◌ {A = ℕ} (if t then 98 else 97) 0 → ⊥
    at true is = omega (arith, is)
    at false is = omega (arith, is)

abbrev beside : ℕ → List (List ℕ) → List ℕ
beside k [] = 97 ∷ []
beside k (file ∷ files) = other_byte (get_or file k 0) ∷ beside (suc k) files

length-beside : (k : ℕ) (files : List (List ℕ)) → length (beside k files) ≡ suc (length files)
length-beside k [] = refl
length-beside k (file ∷ files) = ap suc (length-beside (suc k) files)

beside_nonzero : (k : ℕ) (files : List (List ℕ)) → AllByRecursion (λ (b : ℕ). b ≢ 0) (beside k files)
beside_nonzero k [] = ((λ is. omega (arith, is)), tt)
beside_nonzero k (file ∷ files) = (other_nonzero (get_or file k 0), beside_nonzero (suc k) files)

beside_apart : (front : List ℕ) (k : ℕ) (files : List (List ℕ)) (word : List ℕ) → k ≡ length front → word ≡ front ++ beside k files → AllByRecursion (λ (other : List ℕ). other ≢ word) files
beside_apart front k [] word size is = tt
beside_apart front k (file ∷ files) word size is = (
  (λ same. other_differs (get_or file k 0) (ap (λ (w : List ℕ). get_or w k 0) (same ∙ is) ∙ ap (λ (n : ℕ). get_or (front ++ byte ∷ beside (suc k) files) n 0) size ∙ get_or-append_seam front byte (beside (suc k) files) 0)),
  beside_apart (front ++ byte ∷ []) (suc k) files word (omega (arith, size, length-append front (byte ∷ []))) (is ∙ sym (append_assoc front (byte ∷ []) (beside (suc k) files))),
)
  where
    byte : ℕ
    byte = other_byte (get_or file k 0)

beside_file : (before : List (List ℕ)) → length before ≤ 4000 → IsFile (beside 0 before)
beside_file before few = record {
  some = omega (arith, length-beside 0 before);
  fits = omega (arith, length-beside 0 before, few);
  nonzero = All-from_recursion (λ (b : ℕ). b ≢ 0) (beside 0 before) (beside_nonzero 0 before);
}

-- ---- words of each kind

one_is : (least most : ℕ) → least ≤ 1 → 1 ≤ most → IsNumber (codes "1") least most 1
one_is least most low high = record { decimal = refl; some = low; limit = high }

one_term : AreTermWords (codes "a" ∷ [])
one_term = record { some = omega arith; few = omega arith; each = All-from_recursion IsTerm (codes "a" ∷ []) (omega arith, tt) }

a_tag : IsTag (codes "a")
a_tag = record { some = omega arith; fits = omega arith; visible = All-from_recursion (λ b. (33 ≤ b) × (b ≤ 126)) (codes "a") ((omega arith, omega arith), tt) }

pub an_option : (key : Key) → (word : List ℕ) × (said : Said key) × IsOption word (record { key = key; said = said })
an_option keys.Hits = (codes "k=1", 1, record { value = codes "1"; parts = refl; says = one_is 1 100000 (omega arith) (omega arith) })
an_option keys.Limits = (codes "budget=all", budgets.All ∷ [], record { value = codes "all"; parts = refl; says = record { each = (refl, tt); few = omega arith } })
an_option keys.Tag = (codes "tag=a", codes "a", record { value = codes "a"; parts = refl; says = (refl, a_tag) })
an_option keys.Reading = (codes "mode=plain", Plain, record { value = codes "plain"; parts = refl; says = refl })
an_option keys.Stopping = (codes "until=final", untils.Final, record { value = codes "final"; parts = refl; says = refl })
an_option keys.Weights = (codes "weights=tf", Tf, record { value = codes "tf"; parts = refl; says = refl })
an_option keys.Width = (codes "bits=raw", Raw, record { value = codes "raw"; parts = refl; says = refl })
an_option keys.Frames = (codes "frames=1", 1, record { value = codes "1"; parts = refl; says = one_is 1 1048576 (omega arith) (omega arith) })

letter_file : (b : ℕ) → b ≢ 0 → IsFile (b ∷ [])
letter_file b some = record {
  some = omega arith;
  fits = omega arith;
  nonzero = All-from_recursion (λ (c : ℕ). c ≢ 0) (b ∷ []) (some, tt);
}

other_letter : (a b : ℕ) → a ≢ b → a ∷ [] ≢ b ∷ []
other_letter a b apart same = apart (ap (λ (w : List ℕ). get_or w 0 0) same)

-- two parts, `a` and `b`, with `c` and `d` behind them
abbrev two_parts : PartsSaid
two_parts = parts_with 2 (97 ∷ [], (98 ∷ [], (99 ∷ [], (100 ∷ [], tt)))) []

two_parts_are : (allowed : List Key) → ArePartWords allowed (codes "2" ∷ (97 ∷ []) ∷ (98 ∷ []) ∷ (99 ∷ []) ∷ (100 ∷ []) ∷ []) two_parts
two_parts_are allowed = record {
  count = codes "2";
  behind = (97 ∷ []) ∷ (98 ∷ []) ∷ (99 ∷ []) ∷ (100 ∷ []) ∷ [];
  rest = [];
  first = refl;
  counted = record { decimal = refl; some = omega arith; limit = omega arith };
  files = (
    (refl, letter_file 97 (λ is. omega (arith, is)), tt),
    (
      (refl, letter_file 98 (λ is. omega (arith, is)), (other_letter 97 98 (λ is. omega (arith, is)), tt)),
      (
        (refl, letter_file 99 (λ is. omega (arith, is)), (other_letter 97 99 (λ is. omega (arith, is)), (other_letter 98 99 (λ is. omega (arith, is)), tt))),
        ((refl, letter_file 100 (λ is. omega (arith, is)), (other_letter 97 100 (λ is. omega (arith, is)), (other_letter 98 100 (λ is. omega (arith, is)), (other_letter 99 100 (λ is. omega (arith, is)), tt)))), refl),
      ),
    ),
  );
  options = record { spelled = tt; allows = tt; once = tt };
}

pub filled_tail : (tail : Tail) → (words : List (List ℕ)) × (extra : Extra tail) × IsTail tail words extra
filled_tail Ends = ([], tt, refl)
filled_tail Terms = (codes "a" ∷ [], codes "a" ∷ [], (refl, one_term))
filled_tail (May allowed) = ([], [], record { spelled = tt; allows = tt; once = tt })
filled_tail (Parts allowed) = (codes "2" ∷ (97 ∷ []) ∷ (98 ∷ []) ∷ (99 ∷ []) ∷ (100 ∷ []) ∷ [], two_parts, two_parts_are allowed)
filled_tail (Must key) = (let (word, said, is) = an_option key in (word ∷ [], said, (word, refl, is)))

-- 1 is one of a slot's numbers
abbrev pub is_open : Slot → Bool
is_open File = true
is_open (Number least most) = leb least 1 && leb 1 most
is_open Postings = true

pub filled : (slots : List Slot) (tail : Tail) (before : List (List ℕ)) → list_all is_open slots ≡ true → length before + length slots ≤ 4000 → (words : List (List ℕ)) × IsSomeForm slots tail before words
filled [] tail before opens few = (let (words, extra, is) = filled_tail tail in (words, (tt, extra, is)))
filled (File ∷ slots) tail before opens few =
    let file = beside 0 before in
    let (words, (values, extra, form)) = filled slots tail (before ++ file ∷ []) opens (omega (arith, few, length-append before (file ∷ []))) in
    (file ∷ words, ((file, values), extra, ((refl, beside_file before (omega (arith, few)), beside_apart [] 0 before file refl refl), form)))
filled (Number least most ∷ slots) tail before opens few =
    let (here, later) = and_parts (leb least 1 && leb 1 most) (list_all is_open slots) opens in
    let (low, high) = and_parts (leb least 1) (leb 1 most) here in
    let (words, (values, extra, form)) = filled slots tail before later (omega (arith, few)) in
    (codes "1" ∷ words, ((1, values), extra, (one_is least most (leb-true least 1 low) (leb-true 1 most high), form)))
filled (Postings ∷ slots) tail before opens few =
    let (words, (values, extra, form)) = filled slots tail before opens (omega (arith, few)) in
    (codes "all" ∷ words, ((budgets.All, values), extra, (refl, form)))

-- ---- the table's rows have words

pub opens : (name : Name) → list_all is_open (slots_of name) ≡ true
opens names.Once = refl
opens name = refl

pub few_slots : (name : Name) → length (slots_of name) ≤ 1000
few_slots names.Once = omega arith
few_slots name = omega arith
