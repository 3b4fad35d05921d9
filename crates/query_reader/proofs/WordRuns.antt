-- The runs of letters and digits in a text, each with its factor.
use Rattle.shared_lemmas.proofs.Common.{◌≡◌, ℕ, suc, ◌+◌, ◌-◌, ◌≤◌, Bool, true, false, not, cond, List, [], ◌∷◌, ◌++◌, length, take, drop, refl, ap, sym, subst, ◌∙◌, arith, length-drop, take_all, drop_all, Some, None, ◌==◌, AllByRecursion, position_or_len}
use Rattle.std.proofs.Common.{length-append}
use Rattle.query_reader.specs.Texts.{Part, is_word, onto_first_part, parts_of, folded_parts, folded_mentions, folded_term, with_factor, factor_of}
use Rattle.query_reader.specs.Private.Slices.{IsWordRun}
use Rattle.query_reader.specs.Slices.{BeginsWithout}

abbrev part : List ℕ → Bool → Part
part run caret = record { run = run; caret = caret }

-- what the first part of a text has behind its run, and the parts behind that
abbrev pub caret-first : List ℕ → Bool
caret-first [] = false
caret-first (c ∷ cs) = c == 94

abbrev later : List ℕ → List Part
later [] = []
later (c ∷ cs) = parts_of cs

parts-word : (c : ℕ) (cs : List ℕ) → is_word c ≡ true → parts_of (c ∷ cs) ≡ onto_first_part c (parts_of cs)
unfolding parts_of
parts-word c cs is = ap (λ (b : Bool). cond b (onto_first_part c (parts_of cs)) (part [] (c == 94) ∷ parts_of cs)) is

parts-gap : (text : List ℕ) → BeginsWithout is_word text → parts_of text ≡ part [] (caret-first text) ∷ later text
unfolding parts_of
parts-gap [] begins = refl
parts-gap (c ∷ cs) begins = ap (λ (b : Bool). cond b (onto_first_part c (parts_of cs)) (part [] (c == 94) ∷ parts_of cs)) begins

first-part : (run rest : List ℕ) → AllByRecursion (λ c. is_word c ≡ true) run → BeginsWithout is_word rest → parts_of (run ++ rest) ≡ part run (caret-first rest) ∷ later rest
first-part [] rest words begins = parts-gap rest begins
first-part (c ∷ cs) rest words begins = parts-word c (cs ++ rest) words.0 ∙ ap (onto_first_part c) (first-part cs rest words.1 begins)

-- there is a part
pub some-part : (text : List ℕ) → (p : Part) × (ps : List Part) × (parts_of text ≡ p ∷ ps)
unfolding parts_of
some-part [] = (part [] false, [], refl)
some-part (c ∷ cs) = here (is_word c) refl (some-part cs)
  where
    here : (b : Bool) → is_word c ≡ b → ((p : Part) × (ps : List Part) × (parts_of cs ≡ p ∷ ps)) → (p : Part) × (ps : List Part) × (cond b (onto_first_part c (parts_of cs)) (part [] (c == 94) ∷ parts_of cs) ≡ p ∷ ps)
    here true e (p, ps, is) = (record p { run = c ∷ p.run }, ps, ap (onto_first_part c) is)
    here false e rest = (part [] (c == 94), parts_of cs, refl)

-- a part without a run
empty-part : (caret : Bool) (p : Part) (ps : List Part) → folded_parts (part [] caret ∷ p ∷ ps) ≡ folded_parts (p ∷ ps)
unfolding folded_parts
empty-part caret p ps = refl

no-parts : (caret : Bool) → folded_parts (part [] caret ∷ []) ≡ []
unfolding folded_parts
no-parts caret = refl

last-part : (c : ℕ) (cs : List ℕ) (caret : Bool) → folded_parts (part (c ∷ cs) caret ∷ []) ≡ record { term = folded_term (c ∷ cs); factor = 1 } ∷ []
unfolding folded_parts
last-part c cs caret = refl

next-part : (c : ℕ) (cs : List ℕ) (caret : Bool) (p : Part) (ps : List Part) → folded_parts (part (c ∷ cs) caret ∷ p ∷ ps) ≡ with_factor (part (c ∷ cs) caret) (cond caret (factor_of p.run) None) (folded_parts ps) (folded_parts (p ∷ ps))
unfolding folded_parts
next-part c cs caret p ps = refl

mentions-parts : (text : List ℕ) → folded_mentions text ≡ folded_parts (parts_of text)
unfolding folded_mentions
mentions-parts text = refl

no-part : [] ≡ folded_parts []
unfolding folded_parts
no-part = refl

-- what stands behind a run
behind-run : (text : List ℕ) → BeginsWithout is_word text → folded_mentions text ≡ folded_parts (later text)
behind-run [] begins = mentions-parts [] ∙ ap folded_parts (parts-gap [] begins) ∙ no-parts false ∙ no-part
behind-run (c ∷ cs) begins =
    let (p, ps, is) = some-part cs in
    mentions-parts (c ∷ cs) ∙ ap folded_parts (parts-gap (c ∷ cs) begins) ∙ ap (λ qs. folded_parts (part [] (c == 94) ∷ qs)) is ∙ empty-part (c == 94) p ps ∙ ap folded_parts (sym is)

-- a character that is neither letter nor digit
pub gap-first : (c : ℕ) (cs : List ℕ) → is_word c ≡ false → folded_mentions (c ∷ cs) ≡ folded_mentions cs
gap-first c cs other = behind-run (c ∷ cs) other ∙ sym (mentions-parts cs)

pub no-characters : folded_mentions [] ≡ []
no-characters = mentions-parts [] ∙ ap folded_parts (parts-gap [] tt) ∙ no-parts false

-- a run that no `^` follows
pub without-caret : (text : List ℕ) → BeginsWithout is_word text → caret-first text ≡ false → (run : List ℕ) → IsWordRun run → folded_mentions (run ++ text) ≡ record { term = folded_term run; factor = 1 } ∷ folded_mentions text
without-caret text begins plain [] is = absurd (omega (arith, is.some))
without-caret [] begins plain (r ∷ rs) is = mentions-parts ((r ∷ rs) ++ []) ∙ ap folded_parts (first-part (r ∷ rs) [] is.words tt) ∙ last-part r rs false
    ∙ ap (λ ms. record { term = folded_term (r ∷ rs); factor = 1 } ∷ ms) (sym no-characters)
without-caret (c ∷ cs) begins plain (r ∷ rs) is =
    let (p, ps, parts) = some-part cs in
    mentions-parts ((r ∷ rs) ++ c ∷ cs) ∙ ap folded_parts (first-part (r ∷ rs) (c ∷ cs) is.words begins)
    ∙ ap (λ qs. folded_parts (part (r ∷ rs) (c == 94) ∷ qs)) parts ∙ next-part r rs (c == 94) p ps
    ∙ ap (λ (b : Bool). with_factor (part (r ∷ rs) (c == 94)) (cond b (factor_of p.run) None) (folded_parts ps) (folded_parts (p ∷ ps))) plain
    ∙ ap (λ ms. record { term = folded_term (r ∷ rs); factor = 1 } ∷ ms) (ap folded_parts (sym parts) ∙ sym (behind-run (c ∷ cs) begins))

-- a run that a `^` follows, and this a run that may be a factor
with-caret : (run digits rest : List ℕ) → IsWordRun run → is_word 94 ≡ false → AllByRecursion (λ c. is_word c ≡ true) digits → BeginsWithout is_word rest
    → folded_mentions (run ++ 94 ∷ (digits ++ rest)) ≡ with_factor (part run true) (factor_of digits) (folded_mentions rest) (folded_mentions (94 ∷ (digits ++ rest)))
with-caret [] digits rest is caret words begins = absurd (omega (arith, is.some))
with-caret (r ∷ rs) digits rest is caret words begins =
    let parts = first-part digits rest words begins in
    mentions-parts ((r ∷ rs) ++ 94 ∷ (digits ++ rest)) ∙ ap folded_parts (first-part (r ∷ rs) (94 ∷ (digits ++ rest)) is.words caret)
    ∙ ap (λ qs. folded_parts (part (r ∷ rs) true ∷ qs)) parts ∙ next-part r rs true (part digits (caret-first rest)) (later rest)
    ∙ ap (λ ms. with_factor (part (r ∷ rs) true) (factor_of digits) ms (folded_parts (part digits (caret-first rest) ∷ later rest))) (sym (behind-run rest begins))
    ∙ ap (λ ms. with_factor (part (r ∷ rs) true) (factor_of digits) (folded_mentions rest) ms) (ap folded_parts (sym parts) ∙ sym (behind-run (94 ∷ (digits ++ rest)) caret))

pub with-factor : (text digits rest : List ℕ) (factor : ℕ) → text ≡ 94 ∷ (digits ++ rest) → BeginsWithout is_word text → AllByRecursion (λ c. is_word c ≡ true) digits → BeginsWithout is_word rest → factor_of digits ≡ Some factor
    → (run : List ℕ) → IsWordRun run → folded_mentions (run ++ text) ≡ record { term = folded_term run; factor = factor } ∷ folded_mentions rest
with-factor text digits rest factor text_is caret words begins some run is =
    ap (λ t. folded_mentions (run ++ t)) text_is ∙ with-caret run digits rest is (subst (BeginsWithout is_word) text_is caret) words begins
    ∙ ap (λ o. with_factor (part run true) o (folded_mentions rest) (folded_mentions (94 ∷ (digits ++ rest)))) some

pub without-factor : (text digits rest : List ℕ) → text ≡ 94 ∷ (digits ++ rest) → BeginsWithout is_word text → AllByRecursion (λ c. is_word c ≡ true) digits → BeginsWithout is_word rest → factor_of digits ≡ None
    → (run : List ℕ) → IsWordRun run → folded_mentions (run ++ text) ≡ record { term = folded_term run; factor = 1 } ∷ folded_mentions text
without-factor text digits rest text_is caret words begins none run is =
    ap (λ t. folded_mentions (run ++ t)) text_is ∙ with-caret run digits rest is (subst (BeginsWithout is_word) text_is caret) words begins
    ∙ ap (λ o. with_factor (part run true) o (folded_mentions rest) (folded_mentions (94 ∷ (digits ++ rest)))) none
    ∙ ap (λ t. record { term = folded_term run; factor = 1 } ∷ folded_mentions t) (sym text_is)

-- from the first letter or digit on
gap-mentions : (text : List ℕ) → folded_mentions (drop (position_or_len is_word text) text) ≡ folded_mentions text
gap-mentions [] = refl
gap-mentions (c ∷ cs) = here (is_word c) refl (gap-mentions cs)
  where
    here : (b : Bool) → is_word c ≡ b → folded_mentions (drop (position_or_len is_word cs) cs) ≡ folded_mentions cs → folded_mentions (drop (cond (not b) (1 + position_or_len is_word cs) 0) (c ∷ cs)) ≡ folded_mentions (c ∷ cs)
    here true e rest = refl
    here false e rest =
        let more : suc (position_or_len is_word cs) ≡ 1 + position_or_len is_word cs = omega arith in
        subst (λ n. folded_mentions (drop n (c ∷ cs)) ≡ folded_mentions (c ∷ cs)) more (rest ∙ sym (gap-first c cs e))

-- a text that doesn't begin with a `^`
pub no-caret-first : (text : List ℕ) → BeginsWithout (λ c. c == 94) text → caret-first text ≡ false
no-caret-first [] begins = refl
no-caret-first (c ∷ cs) begins = begins

pub caret-text : (text behind digits rest : List ℕ) → text ≡ 94 ∷ behind → behind ≡ digits ++ rest → text ≡ 94 ∷ (digits ++ rest)
caret-text text behind digits rest is parts = is ∙ ap (λ xs. 94 ∷ xs) parts

pub shorter-behind : (text digits rest : List ℕ) → text ≡ 94 ∷ (digits ++ rest) → length rest ≤ length text
shorter-behind text digits rest is = omega (arith, ap length is, length-append digits rest)

pub gap-from : (text : List ℕ) (start : ℕ) → position_or_len is_word text ≡ start → folded_mentions (take (length text - start) (drop start text)) ≡ folded_mentions text
gap-from text start is = ap folded_mentions (take_all (length text - start) (drop start text) (omega (arith, length-drop start text)))
    ∙ ap (λ n. folded_mentions (drop n text)) (sym is) ∙ gap-mentions text

pub gap-whole : (text : List ℕ) → length text ≤ position_or_len is_word text → folded_mentions [] ≡ folded_mentions text
gap-whole text whole = ap folded_mentions (sym (drop_all (position_or_len is_word text) text whole)) ∙ gap-mentions text

pub none-left : (text : List ℕ) → length text ≡ 0 → folded_mentions text ≡ []
none-left [] empty = no-characters
none-left (c ∷ cs) empty = absurd (omega (arith, empty))
