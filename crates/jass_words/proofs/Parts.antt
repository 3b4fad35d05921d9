-- The files of a collection's parts: words that say them, and the first word at fault.
use Rattle.shared_lemmas.proofs.Common.{◌≡◌, ◌≢◌, ℕ, zero, suc, ◌+◌, ◌<◌, ◌≤◌, List, [], ◌∷◌, ◌++◌, length, take, drop, replicate, Option, Some, None, true, list_all, length-replicate, ◌-◌, String, AllByRecursion, string_bytes, option_map, get_or, get_or_from_slice_get, unwrap_or, codes, slice_get-get_or, take-map, drop-map, slice_get-map, refl, sym, ap, subst, ◌∙◌, arith, inl, inr, IsSomeAnd, slice_get, append_assoc, append-nil, same_Some}
use Rattle.std.proofs.Common.{Global}
use Rattle.std.specs.List.{slice_index_or}
use Rattle.jass_base.specs.declared.answer.Budget.TheVariants as budgets
use Rattle.jass_words.proofs.Below.{Budget, Mode, Plain}
use Rattle.jass_words.specs.declared.keys.Key.{Key}
use Rattle.jass_words.specs.declared.keys.Key.TheVariants as keys
use Rattle.jass_words.specs.declared.names.Name.TheVariants as names
use Rattle.jass_words.specs.declared.options.Options.{Options}
use Rattle.jass_words.specs.Private.Reading.{AreRead, found}
use Rattle.jass_words.specs.Numbers.{IsNumber}
use Rattle.jass_words.specs.Options.{OptionData, AreOptions, given}
use Rattle.jass_words.specs.Slots.{Slot, File, Number, Value, Values, Says, files_with, files_in, Tail, May, Parts, Extra, IsForm, AreFixed, IsFile, PartsSaid, ArePartWords}
use Rattle.jass_words.specs.Words.{Shards, command_of, texts}
use Rattle.jass_words.specs.Private.Faults.{Begins, IsBad, IsSomeTail, IsSomeForm, SaidAt, NoneAt, IsTailFault, IsFault, IsNextFile, SaysFiles}
use Rattle.jass_words.proofs.Bad.{bad_at, bad_end}
use Rattle.jass_words.proofs.Faults.{dropped, got, said_there, fault_is}
use Rattle.jass_words.proofs.Forms.{filled_tail, is_open}
use Rattle.jass_words.proofs.Settings.{one_number}

-- ---- the word behind some files

pub texts_between : (words : List (String Global)) (place n : ℕ) → texts (take (place + n - place) (drop place words)) ≡ take n (drop place (texts words))
texts_between words place n =
    let size : place + n - place ≡ n = omega arith in
    ap (λ (k : ℕ). texts (take k (drop place words))) size ∙ sym (take-map string_bytes n (drop place words)) ∙ ap (take n) (sym (drop-map string_bytes place words))

text_there : (words : List (String Global)) (at : ℕ) (word : String Global) → at < length words → word ≡ get_or words at word → slice_get (texts words) at ≡ Some (string_bytes word)
text_there words at word there is = slice_get-map string_bytes words at ∙ ap (option_map string_bytes) (slice_get-get_or words at word there ∙ ap Some (sym is))

one_longer : (place n : ℕ) (words : List (List ℕ)) (word : List ℕ) → slice_get words (place + n) ≡ Some word → take (n + 1) (drop place words) ≡ take n (drop place words) ++ word ∷ []
one_longer zero n words word is =
    let after : n + 1 ≡ suc n = omega arith in
    let here : 0 + n ≡ n = omega arith in
    ap (λ (k : ℕ). take k words) after ∙ at n words (subst (λ (k : ℕ). slice_get words k ≡ Some word) here is)
  where
    at : (k : ℕ) (ws : List (List ℕ)) → slice_get ws k ≡ Some word → take (suc k) ws ≡ take k ws ++ word ∷ []
    at zero [] is = cc
    at zero (w ∷ ws) is = (let same : w ≡ word = cc in ap (λ (x : List ℕ). x ∷ []) same)
    at (suc k) [] is = cc
    at (suc k) (w ∷ ws) is = ap (λ (xs : List (List ℕ)). w ∷ xs) (at k ws is)
one_longer (suc place) n [] word is = cc
one_longer (suc place) n (w ∷ words) word is =
    let later : suc place + n ≡ suc (place + n) = omega arith in
    one_longer place n words word (subst (λ (k : ℕ). slice_get (w ∷ words) k ≡ Some word) later is)

pub next_file : (words : List (String Global)) (place n : ℕ) (word : String Global) → place + n < length words → word ≡ get_or words (place + n) word → IsFile (string_bytes word) → AllByRecursion (λ other. other ≢ string_bytes word) (texts (take (place + n - place) (drop place words)))
    → IsNextFile place n (texts words)
next_file words place n word there is file apart =
    let found = text_there words (place + n) word there is in
    let before : AllByRecursion (λ other. other ≢ string_bytes word) (take n (drop place (texts words))) = subst (AllByRecursion (λ other. other ≢ string_bytes word)) (texts_between words place n) apart in
    record {
      file = string_bytes word;
      said = subst (λ (o : Option (List ℕ)). IsSomeAnd o (λ w. Says File (take n (drop place (texts words))) w (string_bytes word))) (sym found) (refl, file, before);
      longer = one_longer place n (texts words) (string_bytes word) found;
    }

-- it is no file, or one of those before it
pub no_next_file : (words : List (String Global)) (place n : ℕ) (word : String Global) → place + n < length words → word ≡ get_or words (place + n) word
    → (IsFile (string_bytes word) → AllByRecursion (λ other. other ≢ string_bytes word) (texts (take (place + n - place) (drop place words))) → ⊥) → NoneAt File (take n (drop place (texts words))) (place + n) (texts words)
no_next_file words place n word there is never other value at (says, file, apart) =
    let same : string_bytes word ≡ other = same_Some (string_bytes word) other (sym (text_there words (place + n) word there is) ∙ at) in
    never (subst IsFile (sym same) file) (subst (AllByRecursion (λ o. o ≢ string_bytes word)) (sym (texts_between words place n)) (subst (λ (w : List ℕ). AllByRecursion (λ o. o ≢ w) (take n (drop place (texts words)))) (sym same) apart))

-- ---- files that are said one after the other

-- one file more
pub more_files : (n : ℕ) (before : List (List ℕ)) (place : ℕ) (words files : List (List ℕ)) (file : List ℕ) → SaysFiles n before place words files → SaidAt File (before ++ files) (place + n) words file → SaysFiles (suc n) before place words (files ++ file ∷ [])
more_files zero before place words files file says here =
    let none : files ≡ [] = says in
    let at : place + 0 ≡ place = omega arith in
    subst (λ (fs : List (List ℕ)). SaysFiles 1 before place words (fs ++ file ∷ [])) (sym none)
    (subst (λ (p : ℕ). SaidAt File before p words file) at (subst (λ (b : List (List ℕ)). SaidAt File b (place + 0) words file) (ap (λ (fs : List (List ℕ)). before ++ fs) none ∙ append-nil before) here), refl)
more_files (suc n) before place words [] file says here = absurd says
more_files (suc n) before place words (f ∷ files) file says here =
    let at : place + suc n ≡ suc place + n = omega arith in (
      says.0,
      more_files n (before ++ f ∷ []) (suc place) words files file says.1
          (subst (λ (p : ℕ). SaidAt File ((before ++ f ∷ []) ++ files) p words file) at (subst (λ (b : List (List ℕ)). SaidAt File b (place + suc n) words file) (sym (append_assoc before (f ∷ []) files)) here)),
    )

-- a word behind them that says none
pub file_fault : (n count : ℕ) (tail : Tail) (before : List (List ℕ)) (place : ℕ) (words files : List (List ℕ)) → n < count → SaysFiles n before place words files → NoneAt File (before ++ files) (place + n) words → IsFault (replicate count File) tail before place words (place + n + 1)
file_fault n zero tail before place words files less says none = absurd (omega (arith, less))
file_fault zero (suc count) tail before place words files less says none =
    let nothing : files ≡ [] = says in
    let at : place + 0 ≡ place = omega arith in
    inl (
      subst (λ (p : ℕ). NoneAt File before p words) at (subst (λ (b : List (List ℕ)). NoneAt File b (place + 0) words) (ap (λ (fs : List (List ℕ)). before ++ fs) nothing ∙ append-nil before) none),
      omega arith,
    )
file_fault (suc n) (suc count) tail before place words [] less says none = absurd says
file_fault (suc n) (suc count) tail before place words (f ∷ files) less says none =
    let at : place + suc n ≡ suc place + n = omega arith in
    let after : suc place + n + 1 ≡ place + suc n + 1 = omega arith in
    inr (
      f,
      says.0,
      subst (λ (w : ℕ). IsFault (replicate count File) tail (before ++ f ∷ []) (suc place) words w) after
          (file_fault n count tail (before ++ f ∷ []) (suc place) words files (omega (arith, less)) says.1
          (subst (λ (p : ℕ). NoneAt File ((before ++ f ∷ []) ++ files) p words) at (subst (λ (b : List (List ℕ)). NoneAt File b (place + suc n) words) (sym (append_assoc before (f ∷ []) files)) none))),
    )

-- a fault behind all of them
pub fault_behind : (count : ℕ) (tail : Tail) (before : List (List ℕ)) (place : ℕ) (words files : List (List ℕ)) (which : ℕ) → SaysFiles count before place words files → IsTailFault tail (place + count) words which → IsFault (replicate count File) tail before place words which
fault_behind zero tail before place words files which says fault = (let at : place + 0 ≡ place = omega arith in subst (λ (p : ℕ). IsTailFault tail p words which) at fault)
fault_behind (suc count) tail before place words [] which says fault = absurd says
fault_behind (suc count) tail before place words (f ∷ files) which says fault =
    let at : place + suc count ≡ suc place + count = omega arith in
    inr (f, says.0, fault_behind count tail (before ++ f ∷ []) (suc place) words files which says.1 (subst (λ (p : ℕ). IsTailFault tail p words which) at fault))

-- they are what their slots say
pub as_fixed : (n : ℕ) (before : List (List ℕ)) (place : ℕ) (words files : List (List ℕ)) → SaysFiles n before place words files
    → (values : Values (replicate n File)) × AreFixed (replicate n File) before (drop place words) values (drop (place + n) words) × (files_in n values ≡ files)
as_fixed zero before place words files says = (let at : place ≡ place + 0 = omega arith in (tt, ap (λ (p : ℕ). drop p words) at, sym says))
as_fixed (suc n) before place words [] says = absurd says
as_fixed (suc n) before place words (f ∷ files) says =
    let (word, there, is) = said_there words place (λ w. Says File before w f) says.0 in
    let (values, fixed, same) = as_fixed n (before ++ f ∷ []) (suc place) words files says.1 in
    let at : suc place + n ≡ place + suc n = omega arith in (
      (f, values),
      subst (λ (ws : List (List ℕ)). AreFixed (replicate (suc n) File) before ws (f, values) (drop (place + suc n) words)) (sym (dropped words place word there))
          (is, subst (λ (p : ℕ). AreFixed (replicate n File) (before ++ f ∷ []) (drop (suc place) words) values (drop p words)) at fixed),
      ap (λ (fs : List (List ℕ)). f ∷ fs) same,
    )

pub says_more : (n place : ℕ) (words : List (List ℕ)) → SaysFiles n [] place words (take n (drop place words)) → IsNextFile place n words → SaysFiles (n + 1) [] place words (take (n + 1) (drop place words))
says_more n place words says next =
    let after : suc n ≡ n + 1 = omega arith in
    subst (λ (m : ℕ). SaysFiles m [] place words (take (n + 1) (drop place words))) after
    (subst (SaysFiles (suc n) [] place words) (sym next.longer) (more_files n [] place words (take n (drop place words)) next.file says next.said))

-- ---- slots with options behind them

pub form_of : (slots : List Slot) (allowed : List Key) (before words : List (List ℕ)) (values : Values slots) (rest : List (List ℕ)) (options : List OptionData) → AreFixed slots before words values rest → AreOptions allowed rest options → IsForm slots (May allowed) before words values options
form_of [] allowed before words values rest options fixed are = subst (λ (ws : List (List ℕ)). AreOptions allowed ws options) (sym fixed) are
form_of (slot ∷ slots) allowed before [] values rest options fixed are = absurd fixed
form_of (slot ∷ slots) allowed before (word ∷ words) values rest options fixed are = (fixed.0, form_of slots allowed (files_with slot values.0 before) words values.1 rest options fixed.1 are)

pub fixed_of : (slots : List Slot) (allowed : List Key) (before words : List (List ℕ)) (values : Values slots) (options : List OptionData) → IsForm slots (May allowed) before words values options → (rest : List (List ℕ)) × AreFixed slots before words values rest × AreOptions allowed rest options
fixed_of [] allowed before words values options form = (words, refl, form)
fixed_of (slot ∷ slots) allowed before [] values options form = absurd form
fixed_of (slot ∷ slots) allowed before (word ∷ words) values options form =
    let (rest, fixed, are) = fixed_of slots allowed (files_with slot values.0 before) words values.1 options form.1 in
    (rest, (form.0, fixed), are)

-- ---- the number of parts, and all behind it

begun : (allowed : List Key) → Begins (IsSomeTail (Parts allowed)) []
begun allowed = (let (words, extra, is) = filled_tail (Parts allowed) in (words, (extra, is)))

with_count : (allowed : List Key) (count : List ℕ) (n : ℕ) (behind : List (List ℕ)) → IsNumber count 2 16 n → IsSomeForm (replicate (suc (suc n)) File) (May allowed) [] behind → IsSomeTail (Parts allowed) (count ∷ behind)
with_count allowed count n behind is (values, options, form) =
    let (rest, fixed, are) = fixed_of (replicate (suc (suc n)) File) allowed [] behind values options form in
    (record { parts = n; files = values; options = options }, record { count = count; behind = behind; rest = rest; first = refl; counted = is; files = fixed; options = are })

without_count : (allowed : List Key) (count : List ℕ) (n : ℕ) (behind : List (List ℕ)) → IsNumber count 2 16 n → IsSomeTail (Parts allowed) (count ∷ behind) → IsSomeForm (replicate (suc (suc n)) File) (May allowed) [] behind
without_count allowed count n behind is (said, words) = subst (λ (m : ℕ). IsSomeForm (replicate (suc (suc m)) File) (May allowed) [] behind) same
    (subst (IsSomeForm (replicate (suc (suc said.parts)) File) (May allowed) []) (sym rest) (said.files, said.options, form_of (replicate (suc (suc said.parts)) File) allowed [] words.behind said.files words.rest said.options words.files words.options))
  where
    first : count ≡ words.count
    first = same_Some count words.count (ap (λ (ws : List (List ℕ)). slice_get ws 0) words.first)

    rest : behind ≡ words.behind
    rest = ap (λ (ws : List (List ℕ)). drop 1 ws) words.first

    same : said.parts ≡ n
    same = one_number count 2 16 said.parts n (subst (λ (c : List ℕ). IsNumber c 2 16 said.parts) (sym first) words.counted) is

behind_bad : (allowed : List Key) (count : List ℕ) (n : ℕ) (behind : List (List ℕ)) (m : ℕ) → IsNumber count 2 16 n → IsBad (IsSomeForm (replicate (suc (suc n)) File) (May allowed) []) behind m → IsBad (IsSomeTail (Parts allowed)) (count ∷ behind) (suc m)
behind_bad allowed count n behind m is bad = record {
  none = λ some. bad.none (without_count allowed count n behind is some);
  before = front;
  here = λ inside (more, some). bad.here (omega (arith, inside)) (more, without_count allowed count n (take m behind ++ more) is some);
  there = (let most = bad.there in omega (arith, most));
}
  where
    front : (k : ℕ) → k < suc m → Begins (IsSomeTail (Parts allowed)) (take k (count ∷ behind))
    front zero less = begun allowed
    front (suc k) less = (let (more, form) = bad.before k (omega (arith, less)) in (more, with_count allowed count n (take k behind ++ more) is form))

-- ---- all words

opens : (n : ℕ) → list_all is_open (replicate n File) ≡ true
opens zero = refl
opens (suc n) = opens n

-- a word behind the number is at fault
pub part_fault : (allowed : List Key) (words : List (List ℕ)) (n which : ℕ) → SaidAt (Number 2 16) [] 1 words n → IsFault (replicate (n + 2) File) (May allowed) [] 2 words which → IsTailFault (Parts allowed) 1 words which
part_fault allowed words n which said fault' =
    let two : n + 2 ≡ suc (suc n) = omega arith in
    let fault : IsFault (replicate (suc (suc n)) File) (May allowed) [] 2 words which = subst (λ (m : ℕ). IsFault (replicate m File) (May allowed) [] 2 words which) two fault' in
    let (word, there, is) = said_there words 1 (λ w. IsNumber w 2 16 n) said in
    let (m, same, bad) = fault_is (replicate (suc (suc n)) File) (May allowed) [] 2 words which (opens (suc (suc n))) (omega (arith, is.limit, length-replicate (suc (suc n)) File)) fault in
    (suc m, omega (arith, same), subst (λ (ws : List (List ℕ)). IsBad (IsSomeTail (Parts allowed)) ws (suc m)) (sym (dropped words 1 word there)) (behind_bad allowed word n (drop 2 words) m is bad))

-- the number is
pub count_fault : (allowed : List Key) (words : List (List ℕ)) → NoneAt (Number 2 16) [] 1 words → IsTailFault (Parts allowed) 1 words 2
count_fault allowed words none = (1, refl, at (drop 1 words) refl)
  where
    no_count : (word : List ℕ) (rest : List (List ℕ)) → drop 1 words ≡ word ∷ rest → ¬ Begins (IsSomeTail (Parts allowed)) (word ∷ [])
    no_count word rest is (more, (said, are)) =
        none are.count said.parts (got words 1 are.count rest (is ∙ ap (λ (w : List ℕ). w ∷ rest) (same_Some word are.count (ap (λ (ws : List (List ℕ)). slice_get ws 0) are.first)))) are.counted

    at : (ws : List (List ℕ)) → drop 1 words ≡ ws → IsBad (IsSomeTail (Parts allowed)) (drop 1 words) 1
    at [] is = subst (λ (x : List (List ℕ)). IsBad (IsSomeTail (Parts allowed)) x 1) (sym is) (bad_end (IsSomeTail (Parts allowed)) [] (begun allowed) (λ (said, are). (let both : [] ≡ are.count ∷ are.behind = are.first in cc)))
    at (word ∷ rest) is = subst (λ (x : List (List ℕ)). IsBad (IsSomeTail (Parts allowed)) x 1) (sym is) (bad_at (IsSomeTail (Parts allowed)) (word ∷ rest) 0 (omega arith) (begun allowed) (no_count word rest is))

-- the words are read
pub parts_read : (allowed : List Key) (words files : List (List ℕ)) (n : ℕ) (options : List OptionData) → SaidAt (Number 2 16) [] 1 words n → SaysFiles (suc (suc n)) [] 2 words files → AreOptions allowed (drop (2 + suc (suc n)) words) options
    → (said : PartsSaid) × ArePartWords allowed (drop 1 words) said × (said.parts ≡ n) × (files_in (suc (suc said.parts)) said.files ≡ files) × (said.options ≡ options)
parts_read allowed words files n options said says are =
    let (word, there, is) = said_there words 1 (λ w. IsNumber w 2 16 n) said in
    let (values, fixed, same) = as_fixed (suc (suc n)) [] 2 words files says in (
      record { parts = n; files = values; options = options },
      record { count = word; behind = drop 2 words; rest = drop (2 + suc (suc n)) words; first = dropped words 1 word there; counted = is; files = fixed; options = are },
      refl,
      same,
      refl,
    )

-- a file among them
pub text_at : (files : List (String Global)) (n : ℕ) (file : String Global) → n < length files → file ≡ get_or files n file → string_bytes file ≡ slice_index_or (texts files) n []
text_at files n file there is = sym (get_or_from_slice_get (texts files) n (string_bytes file) [] (text_there files n file there is))

abbrev pub asked_keys : List Key
asked_keys = keys.Hits ∷ keys.Limits ∷ keys.Tag ∷ keys.Reading ∷ []

-- what they say is the command
pub shards_made : (words files : List (List ℕ)) (n : ℕ) (read : Options) → AreRead asked_keys (drop (n + 4) words) read → SaidAt (Number 2 16) [] 1 words n → SaysFiles (n + 2) [] 2 words files
    → (indexes : List (List ℕ)) (queries run : List ℕ) (k : ℕ) (limits : List Budget) (tag : List ℕ) (mode : Mode) → indexes ≡ take n files → queries ≡ slice_index_or files n [] → run ≡ slice_index_or files (n + 1) [] → k ≡ unwrap_or (found read keys.Hits) 1000
    → limits ≡ unwrap_or (found read keys.Limits) (budgets.All ∷ []) → tag ≡ unwrap_or (found read keys.Tag) (codes "jass") → mode ≡ unwrap_or (found read keys.Reading) Plain
    → (said : PartsSaid) × ArePartWords asked_keys (drop 1 words) said × (Shards indexes queries run k limits tag mode ≡ command_of names.Shards tt said)
shards_made words files n read seen count says indexes queries run k limits tag mode first second third hits budget named reading =
    let place : n + 4 ≡ 2 + suc (suc n) = omega arith in
    let two : n + 2 ≡ suc (suc n) = omega arith in
    let one : n + 1 ≡ suc n = omega arith in
    let (said, are, parts, these, options) = parts_read asked_keys words files n seen.options count (subst (λ (m : ℕ). SaysFiles m [] 2 words files) two says) (subst (λ (p : ℕ). AreOptions asked_keys (drop p words) seen.options) place seen.are) in
    let given_so : (key : Key) → found read key ≡ given key said.options = (λ key. seen.gives key ∙ ap (given key) (sym options)) in (
      said,
      are,
      (λ i. Shards ((first ∙ (λ j. take (sym parts j) (sym these j))) i) ((second ∙ (λ j. slice_index_or (sym these j) (sym parts j) [])) i) ((third ∙ ap (λ (m : ℕ). slice_index_or files m []) one ∙ (λ j. slice_index_or (sym these j) (suc (sym parts j)) [])) i)
          ((hits ∙ ap (λ (o : Option ℕ). unwrap_or o 1000) (given_so keys.Hits)) i) ((budget ∙ ap (λ (o : Option (List Budget)). unwrap_or o (budgets.All ∷ [])) (given_so keys.Limits)) i)
          ((named ∙ ap (λ (o : Option (List ℕ)). unwrap_or o (codes "jass")) (given_so keys.Tag)) i) ((reading ∙ ap (λ (o : Option Mode). unwrap_or o Plain) (given_so keys.Reading)) i)),
    )
