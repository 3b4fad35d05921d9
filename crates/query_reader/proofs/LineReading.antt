-- The checks of a line in their order.
use Rattle.shared_lemmas.proofs.Common.{◌≡◌, ℕ, zero, suc, ◌<◌, ◌≤◌, Bool, true, false, not, cond, List, [], ◌∷◌, length, take, drop, get_or, refl, ap, sym, ◌∙◌, arith, ltb-true, ltb-false, position_or_len_is, is_utf8-from_IsUtf8, Option, Some, None, Err, nat_lt, position_or_len, unwrap_or}
use Rattle.shared_lemmas.proofs.Common.{is_utf8, IsUtf8}
use Rattle.shared_lemmas.proofs.Texts.{no_utf8}
use Rattle.memchr.specs.Find.{IsFirstByte, is_byte2}
use Rattle.query_reader.specs.declared.mode.Mode.{Mode}
use Rattle.query_reader.specs.declared.refusal.QueryWhy.{QueryWhy}
use Rattle.query_reader.specs.declared.refusal.QueryWhy.TheVariants.{Text, NoId, LineLong}
use Rattle.query_reader.specs.Texts.{has_items, is_blank, mentions_of}
use Rattle.query_reader.specs.Refusals.{◌>>=◌}
use Rattle.query_reader.specs.Queries.{id_of, text_of}
use Rattle.query_reader.specs.Reading.{unless, line_fault, read_line, read_mentions}

abbrev pub checks : Bool → Bool → Bool → Option QueryWhy
checks long utf8 id = cond long (Some LineLong) (cond (not utf8) (Some Text) (cond (not id) (Some NoId) None))

pub checked : (line : List ℕ) (long utf8 id : Bool) → nat_lt 1048576 (length line) ≡ long → is_utf8 line ≡ utf8 → has_items (id_of line) ≡ id → line_fault line ≡ checks long utf8 id
unfolding line_fault
checked line long utf8 id a b c = ap (λ (x : Bool). checks x (is_utf8 line) (has_items (id_of line))) a ∙ ap (λ (x : Bool). checks long x (has_items (id_of line))) b ∙ ap (checks long utf8) c

judged : (mode : Mode) (terms : List (List ℕ)) (line : List ℕ) → read_line mode terms line ≡ (unless (line_fault line) (mentions_of mode (text_of line)) >>= λ mentions. read_mentions terms (id_of line) mentions)
unfolding read_line
judged mode terms line = refl

pub after-fault : (mode : Mode) (terms : List (List ℕ)) (line : List ℕ) (o : Option QueryWhy) → line_fault line ≡ o → read_line mode terms line ≡ (unless o (mentions_of mode (text_of line)) >>= λ mentions. read_mentions terms (id_of line) mentions)
after-fault mode terms line o is = judged mode terms line ∙ ap (λ f. unless f (mentions_of mode (text_of line)) >>= λ mentions. read_mentions terms (id_of line) mentions) is

is-long : (n : ℕ) → 1048576 < n → nat_lt 1048576 n ≡ true
is-long n more = here (nat_lt 1048576 n) refl
  where
    here : (b : Bool) → nat_lt 1048576 n ≡ b → b ≡ true
    here true e = refl
    here false e = absurd (omega (arith, more, ltb-false 1048576 n e))

pub is-short : (n : ℕ) → n ≤ 1048576 → nat_lt 1048576 n ≡ false
is-short n few = here (nat_lt 1048576 n) refl
  where
    here : (b : Bool) → nat_lt 1048576 n ≡ b → b ≡ false
    here true e = absurd (omega (arith, few, ltb-true 1048576 n e))
    here false e = refl

pub long-line : (mode : Mode) (terms : List (List ℕ)) (line : List ℕ) → 1048576 < length line → read_line mode terms line ≡ Err LineLong
long-line mode terms line more = after-fault mode terms line (Some LineLong) (checked line true (is_utf8 line) (has_items (id_of line)) (is-long (length line) more) refl refl)

pub bad-text : (mode : Mode) (terms : List (List ℕ)) (line : List ℕ) → length line ≤ 1048576 → ¬ IsUtf8 line → read_line mode terms line ≡ Err Text
bad-text mode terms line few never = after-fault mode terms line (Some Text) (checked line false false (has_items (id_of line)) (is-short (length line) few) (no_utf8 line never) refl)

-- where the id ends
pub id-end : (line : List ℕ) (found : Option ℕ) → IsFirstByte (is_byte2 32 9) line found → position_or_len is_blank line ≡ unwrap_or found (length line)
id-end line None first = position_or_len_is is_blank line (length line) 0 (omega arith) (λ k less. other (get_or line k 0) (first k (omega arith) less)) (λ less. absurd (omega (arith, less)))
  where
    other : (b : ℕ) → ¬ (is_blank b ≡ true) → is_blank b ≡ false
    other b never = here (is_blank b) refl
      where
        here : (x : Bool) → is_blank b ≡ x → x ≡ false
        here true e = absurd (never e)
        here false e = refl
id-end line (Some at) first = position_or_len_is is_blank line at 0 (omega (arith, first.0.high)) (λ k less. other (get_or line k 0) (first.0.before k (omega arith) less)) (λ less. first.1)
  where
    other : (b : ℕ) → ¬ (is_blank b ≡ true) → is_blank b ≡ false
    other b never = here (is_blank b) refl
      where
        here : (x : Bool) → is_blank b ≡ x → x ≡ false
        here true e = absurd (never e)
        here false e = refl

no-id-items : (line : List ℕ) (end : ℕ) → position_or_len is_blank line ≡ end → end ≡ 0 → has_items (id_of line) ≡ false
no-id-items line end is nothing = ap (λ n. has_items (take n line)) (is ∙ nothing)

id-items : (line : List ℕ) (end : ℕ) → position_or_len is_blank line ≡ end → ¬ (end ≡ 0) → has_items (id_of line) ≡ true
id-items [] end is some = absurd (some (sym is))
id-items (b ∷ bs) end is some = at end some (ap (λ n. has_items (take n (b ∷ bs))) is)
  where
    at : (n : ℕ) → ¬ (n ≡ 0) → has_items (id_of (b ∷ bs)) ≡ has_items (take n (b ∷ bs)) → has_items (id_of (b ∷ bs)) ≡ true
    at zero some e = absurd (some refl)
    at (suc n) some e = e

pub no-id : (mode : Mode) (terms : List (List ℕ)) (line : List ℕ) (end : ℕ) → length line ≤ 1048576 → IsUtf8 line → position_or_len is_blank line ≡ end → end ≡ 0 → read_line mode terms line ≡ Err NoId
no-id mode terms line end few utf8 is nothing =
    after-fault mode terms line (Some NoId) (checked line false true false (is-short (length line) few) (is_utf8-from_IsUtf8 line utf8) (no-id-items line end is nothing))

pub good-line : (mode : Mode) (terms : List (List ℕ)) (line : List ℕ) (end : ℕ) (id text : List ℕ) → length line ≤ 1048576 → IsUtf8 line → position_or_len is_blank line ≡ end → ¬ (end ≡ 0) → id ≡ take end line → text ≡ drop end line
    → read_mentions terms id (mentions_of mode text) ≡ read_line mode terms line
good-line mode terms line end id text few utf8 is some id_is text_is =
    ap (λ t. read_mentions terms t (mentions_of mode text)) (id_is ∙ ap (λ n. take n line) (sym is))
    ∙ ap (λ t. read_mentions terms (id_of line) (mentions_of mode t)) (text_is ∙ ap (λ n. drop n line) (sym is))
    ∙ sym (after-fault mode terms line None (checked line false true true (is-short (length line) few) (is_utf8-from_IsUtf8 line utf8) (id-items line end is some)))
