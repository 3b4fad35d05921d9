-- Words that begin a command are short.
use Rattle.shared_lemmas.proofs.Common.{◌≡◌, ℕ, suc, ◌≤◌, replicate, Bool, true, false, List, [], ◌∷◌, ◌++◌, length, Some, None, sym, ap, subst, eqb, ◌*◌, ◌+◌, ◌∙◌, arith, if◌then◌else◌, ◌&&◌, nat_le, nat_lt, ◌^◌, is_ascii_digit, AllByRecursion, list_all, slice_split, join_with_byte}
use Rattle.shared_lemmas.proofs.Common.{join_with_byte-slice_split, digits_value, leb-true, recursion_from_All}
use Rattle.std.proofs.Common.{length-append}
use Rattle.jass_words.proofs.Below.{is_decimal, decimal_of, Budget, Rule, Tf, Bm25, Bits, Raw, Of, Mode, Plain, Folded}
use Rattle.jass_base.specs.declared.answer.Budget.TheVariants as budgets
use Rattle.jass_words.specs.declared.keys.Key.{Key}
use Rattle.jass_words.specs.declared.keys.Key.TheVariants as keys
use Rattle.jass_words.specs.declared.until.Until.{Until}
use Rattle.jass_words.specs.declared.until.Until.TheVariants as untils
use Rattle.jass_words.specs.declared.names.Name.{Name}
use Rattle.jass_words.specs.declared.names.Name.TheVariants as names
use Rattle.jass_words.specs.Numbers.{IsBudget}
use Rattle.jass_words.specs.Options.{Said, OptionData, AreBudgets, IsMode, IsUntil, IsRule, IsBits, IsValue, IsOption, key_text}
use Rattle.jass_words.specs.Slots.{Slot, File, Number, Postings, Value, Values, Says, files_with, Tail, Ends, Terms, May, Must, Parts, Extra, IsTail, IsForm, IsTerm, AreFixed, PartsSaid, ArePartWords}
use Rattle.jass_words.specs.Spelled.{Spell}
use Rattle.jass_words.specs.Table.{word_of, slots_of, tail_of}
use Rattle.jass_words.specs.Words.{IsBegun}

-- the second of four facts
second : (a b c d : Bool) → (a && b && c && d) ≡ true → b ≡ true
second a true c d is = λ i. true
second true false c d is = cc
second false false c d is = cc

few_digits : (word : List ℕ) (k : ℕ) → decimal_of word ≡ Some k → length word ≤ 20
few_digits word k is = at (is_decimal word) (λ i. is_decimal word) is
  where
    at : (b : Bool) → is_decimal word ≡ b → (if b then Some (digits_value 10 word) else None) ≡ Some k → length word ≤ 20
    at false same none = cc
    at true same some =
        let few : nat_le (length word) 20 ≡ true = second (nat_le 1 (length word)) (nat_le (length word) 20) (list_all is_ascii_digit word) (nat_lt (digits_value 10 word) (2 ^ 64)) same in
        let fits : length word ≤ 20 = leb-true (length word) 20 few in
        fits

few_budget : (word : List ℕ) (budget : Budget) → IsBudget word budget → length word ≤ 20
few_budget word (budgets.Postings n) is = few_digits word n is
few_budget word budgets.All is = (let size : length word ≡ 3 = ap length is in omega (arith, size))

joined : (words : List (List ℕ)) (limits : List Budget) → Spell IsBudget words limits → length (join_with_byte 44 words) ≤ 21 * length limits
joined [] [] are = omega arith
joined [] (b ∷ limits) are = absurd are
joined (w ∷ words) [] are = absurd are
joined (w ∷ []) (b ∷ limits) are = (let few = few_budget w b are.0 in omega (arith, few))
joined (w ∷ v ∷ words) (b ∷ limits) are =
    let few = few_budget w b are.0 in
    let rest = joined (v ∷ words) limits are.1 in
    let size = length-append w (44 ∷ join_with_byte 44 (v ∷ words)) in
    omega (arith, few, rest, size)

short_limits : (value : List ℕ) (limits : List Budget) → AreBudgets value limits → length value ≤ 65000
short_limits value limits are =
    let rest = joined (slice_split (λ b. eqb b 44) value) limits are.each in
    let same : length (join_with_byte 44 (slice_split (λ b. eqb b 44) value)) ≡ length value = ap length (join_with_byte-slice_split 44 value) in
    omega (arith, rest, same, are.few)

short_mode : (value : List ℕ) (mode : Mode) → IsMode value mode → length value ≤ 65000
short_mode value Plain is = (let size : length value ≡ 5 = ap length is in omega (arith, size))
short_mode value Folded is = (let size : length value ≡ 6 = ap length is in omega (arith, size))

short_until : (value : List ℕ) (until : Until) → IsUntil value until → length value ≤ 65000
short_until value untils.Budget is = (let size : length value ≡ 6 = ap length is in omega (arith, size))
short_until value untils.Final is = (let size : length value ≡ 5 = ap length is in omega (arith, size))

short_rule : (value : List ℕ) (rule : Rule) → IsRule value rule → length value ≤ 65000
short_rule value Tf is = (let size : length value ≡ 2 = ap length is in omega (arith, size))
short_rule value Bm25 is = (let size : length value ≡ 4 = ap length is in omega (arith, size))

short_bits : (value : List ℕ) (bits : Bits) → IsBits value bits → length value ≤ 65000
short_bits value Raw is = (let size : length value ≡ 3 = ap length is in omega (arith, size))
short_bits value (Of bits) is = omega (arith, few_digits value bits is.0)

short_value : (key : Key) (value : List ℕ) (said : Said key) → IsValue key value said → length value ≤ 65000
short_value keys.Hits value k is = omega (arith, few_digits value k is.decimal)
short_value keys.Limits value limits is = short_limits value limits is
short_value keys.Tag value tag is = (let same : length value ≡ length tag = ap length is.0 in omega (arith, same, is.1.fits))
short_value keys.Reading value mode is = short_mode value mode is
short_value keys.Stopping value until is = short_until value until is
short_value keys.Weights value rule is = short_rule value rule is
short_value keys.Width value bits is = short_bits value bits is
short_value keys.Frames value frames is = omega (arith, few_digits value frames is.decimal)

short_key : (key : Key) → length (key_text key) ≤ 500
short_key keys.Hits = omega arith
short_key key = omega arith

short_option : (word : List ℕ) (option : OptionData) → IsOption word option → IsTerm word
short_option word option is =
    let size : length word ≡ length (key_text option.key) + suc (length is.value) = ap length is.parts ∙ length-append (key_text option.key) (61 ∷ is.value) in
    omega (arith, size, short_key option.key, short_value option.key is.value option.said is.says)

short_options : (words : List (List ℕ)) (options : List OptionData) → Spell IsOption words options → AllByRecursion IsTerm words
short_options [] options are = tt
short_options (w ∷ words) [] are = absurd are
short_options (w ∷ words) (o ∷ options) are = (short_option w o are.0, short_options words options are.1)

short_slot : (slot : Slot) (before : List (List ℕ)) (word : List ℕ) (value : Value slot) → Says slot before word value → IsTerm word
short_slot File before word file is = (let size : length word ≤ 4096 = is.1.fits in omega (arith, size))
short_slot (Number least most) before word n is = omega (arith, few_digits word n is.decimal)
short_slot Postings before word budget is = omega (arith, few_budget word budget is)

short_fixed : (slots : List Slot) (before words : List (List ℕ)) (values : Values slots) (rest : List (List ℕ)) → AreFixed slots before words values rest → AllByRecursion IsTerm rest → AllByRecursion IsTerm words
short_fixed [] before words values rest is short = subst (AllByRecursion IsTerm) (sym is) short
short_fixed (slot ∷ slots) before [] values rest is short = tt
short_fixed (slot ∷ slots) before (word ∷ words) values rest is short = (short_slot slot before word values.0 is.0, short_fixed slots (files_with slot values.0 before) words values.1 rest is.1 short)

short_parts : (allowed : List Key) (words : List (List ℕ)) (said : PartsSaid) → ArePartWords allowed words said → AllByRecursion IsTerm words
short_parts allowed words said is = subst (AllByRecursion IsTerm) (sym is.first)
    (omega (arith, few_digits is.count said.parts is.counted.decimal), short_fixed (replicate (suc (suc said.parts)) File) [] is.behind said.files is.rest is.files (short_options is.rest said.options is.options.spelled))

short_tail : (tail : Tail) (words : List (List ℕ)) (extra : Extra tail) → IsTail tail words extra → AllByRecursion IsTerm words
short_tail Ends words extra is = subst (AllByRecursion IsTerm) (sym is) tt
short_tail Terms words terms is = subst (AllByRecursion IsTerm) (sym is.0) (recursion_from_All IsTerm terms is.1.each)
short_tail (May allowed) words options are = short_options words options are.spelled
short_tail (Parts allowed) words said is = short_parts allowed words said is
short_tail (Must key) words said (word, is, says) = subst (AllByRecursion IsTerm) (sym is) (short_option word (record { key = key; said = said }) says, tt)

short_form : (slots : List Slot) (tail : Tail) (before words : List (List ℕ)) (values : Values slots) (extra : Extra tail) → IsForm slots tail before words values extra → AllByRecursion IsTerm words
short_form [] tail before words values extra is = short_tail tail words extra is
short_form (slot ∷ slots) tail before [] values extra is = tt
short_form (slot ∷ slots) tail before (word ∷ words) values extra is = (short_slot slot before word values.0 is.0, short_form slots tail (files_with slot values.0 before) words values.1 extra is.1)

short_name : (name : Name) → IsTerm (word_of name)
short_name names.Once = omega arith
short_name name = omega arith

front : (words rest : List (List ℕ)) → AllByRecursion IsTerm (words ++ rest) → AllByRecursion IsTerm words
front [] rest all = tt
front (w ∷ words) rest all = (all.0, front words rest all.1)

pub short_words : (words : List (List ℕ)) → IsBegun words → AllByRecursion IsTerm words
short_words words (rest, command, is) = front words rest (subst (AllByRecursion IsTerm) (sym is.parts)
    (short_name is.name, short_form (slots_of is.name) (tail_of is.name) [] is.behind is.values is.extra is.form))
