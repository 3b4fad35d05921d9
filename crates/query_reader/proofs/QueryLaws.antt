-- Reading gives the queries that mentions, lines and files stand for, and no others.
use Rattle.shared_lemmas.proofs.Common.{◌≡◌, ◌≢◌, ℕ, suc, ◌+◌, ◌≤◌, ◌^◌, Bool, true, false, eqb, cond, List, [], ◌∷◌, ◌++◌, length, refl, ap, sym, subst, ◌∙◌, arith, append_assoc, ltb-true, ltb-false, or_parts, or_from, All-from_recursion, recursion_from_All, IsUtf8-from_is_utf8}
use Rattle.shared_lemmas.proofs.Common.{is_utf8-from_IsUtf8, Option, Some, None, Result, Ok, Err, nat_lt, ◌||◌, All, AllByRecursion, list_any, is_utf8}
use Rattle.std.proofs.lemmas.Bool.{true≢false}
use Rattle.std.proofs.lemmas.List.{append-nil}
use Rattle.jass_base.specs.declared.query_term.QueryTerm.{QueryTerm}
use Rattle.text_lines.specs.Lines.{LineData}
use Rattle.query_reader.specs.declared.mode.Mode.{Mode}
use Rattle.query_reader.specs.declared.refusal.QueryWhy.{QueryWhy}
use Rattle.query_reader.specs.declared.refusal.QueryRefusal.{QueryRefusal}
use Rattle.query_reader.specs.Mentions.{Mention, term_number, named_of, unknown_of}
use Rattle.query_reader.specs.Texts.{has_items, mentions_of}
use Rattle.query_reader.specs.Refusals.{◌>>=◌, at_line}
use Rattle.query_reader.specs.Queries.{QueryData, IsQuery, IsQueryLine, IsQueryFile, AreQueryLines, id_of, text_of, query_lines}
use Rattle.query_reader.specs.Reading.{broken_limit, first_of, first_broken, unless, read_mentions, read_line, read_lines, read_query_file}
use Rattle.query_reader.specs.Private.Tally.{tallied}
use Rattle.query_reader.proofs.NamedTerms.{named-known, named-unknown}
use Rattle.query_reader.proofs.Limits.{over, limit-none, within-limits}
use Rattle.query_reader.proofs.Tallying.{with_one, broken-first, broken-none}
use Rattle.query_reader.proofs.LineReading.{checks, checked, after-fault, is-short}
use Rattle.query_reader.proofs.FileReading.{judged-file, short-file, one-line, no-line}

-- one mention more leaves no fewer terms, and none named less often
longer : (ns : List QueryTerm) (k f : ℕ) → length ns ≤ length (tallied ns k f)
longer [] k f = omega arith
longer (n ∷ ns) k f = here (eqb n.term k) (longer ns k f)
  where
    here : (b : Bool) → length ns ≤ length (tallied ns k f) → suc (length ns) ≤ length (cond b (record n { times = n.times + f } ∷ ns) (n ∷ tallied ns k f))
    here true rest = omega arith
    here false rest = omega (arith, rest)

less-often : (n f : ℕ) → nat_lt 255 (n + f) ≡ false → nat_lt 255 n ≡ false
less-often n f e = here (nat_lt 255 n) refl
  where
    here : (b : Bool) → nat_lt 255 n ≡ b → b ≡ false
    here true more = absurd (omega (arith, ltb-true 255 n more, ltb-false 255 (n + f) e))
    here false more = refl

as-often : (ns : List QueryTerm) (k f : ℕ) → list_any over (tallied ns k f) ≡ false → list_any over ns ≡ false
as-often [] k f none = refl
as-often (n ∷ ns) k f none = here (eqb n.term k) none (as-often ns k f)
  where
    here : (b : Bool) → list_any over (cond b (record n { times = n.times + f } ∷ ns) (n ∷ tallied ns k f)) ≡ false → (list_any over (tallied ns k f) ≡ false → list_any over ns ≡ false) → (over n || list_any over ns) ≡ false
    here true e rest = let h = or_parts (nat_lt 255 (n.times + f)) (list_any over ns) e in or_from (over n) (list_any over ns) (less-often n.times f h.0) h.1
    here false e rest = let h = or_parts (over n) (list_any over (tallied ns k f)) e in or_from (over n) (list_any over ns) h.0 (rest h.1)

tallied-within : (ns : List QueryTerm) (k f : ℕ) → broken_limit (tallied ns k f) ≡ None → broken_limit ns ≡ None
tallied-within ns k f none = let h = within-limits (tallied ns k f) none in limit-none ns (omega (arith, h.0, longer ns k f)) (as-often ns k f h.1)

one-within : (terms : List (List ℕ)) (before : List Mention) (m : Mention) → broken_limit (named_of terms (with_one before m)) ≡ None → broken_limit (named_of terms before) ≡ None
one-within terms before m none = at (term_number terms m) refl
  where
    at : (o : Option ℕ) → term_number terms m ≡ o → broken_limit (named_of terms before) ≡ None
    at None e = ap broken_limit (sym (named-unknown (term_number terms) before m e)) ∙ none
    at (Some k) e = tallied-within (named_of terms before) k m.factor (ap broken_limit (sym (named-known (term_number terms) before m k e)) ∙ none)

front-within : (terms : List (List ℕ)) (before ms : List Mention) → broken_limit (named_of terms (before ++ ms)) ≡ None → broken_limit (named_of terms before) ≡ None
front-within terms before [] none = ap (λ ms. broken_limit (named_of terms ms)) (sym (append-nil before)) ∙ none
front-within terms before (m ∷ ms) none =
    one-within terms before m (front-within terms (with_one before m) ms (ap (λ xs. broken_limit (named_of terms xs)) (append_assoc before (m ∷ []) ms) ∙ none))

-- where all mentions together break no limit, none does on the way, and the other way round
unbroken : (terms : List (List ℕ)) (before ms : List Mention) → broken_limit (named_of terms (before ++ ms)) ≡ None → first_broken terms before ms ≡ None
unbroken terms before [] none = broken-none terms before
unbroken terms before (m ∷ ms) none =
    let whole = ap (λ xs. broken_limit (named_of terms xs)) (append_assoc before (m ∷ []) ms) ∙ none in
    broken-first terms before m ms ∙ ap (λ o. first_of o (first_broken terms (with_one before m) ms)) (front-within terms (with_one before m) ms whole)
    ∙ unbroken terms (with_one before m) ms whole

no-first : (a b : Option QueryWhy) → first_of a b ≡ None → (a ≡ None) × (b ≡ None)
no-first None b e = (refl, e)
no-first (Some why) b e = cc

all-within : (terms : List (List ℕ)) (before ms : List Mention) → broken_limit (named_of terms before) ≡ None → first_broken terms before ms ≡ None → broken_limit (named_of terms (before ++ ms)) ≡ None
all-within terms before [] none first = ap (λ xs. broken_limit (named_of terms xs)) (append-nil before) ∙ none
all-within terms before (m ∷ ms) none first =
    let h = no-first (broken_limit (named_of terms (with_one before m))) (first_broken terms (with_one before m) ms) (sym (broken-first terms before m ms) ∙ first) in
    ap (λ xs. broken_limit (named_of terms xs)) (sym (append_assoc before (m ∷ []) ms)) ∙ all-within terms (with_one before m) ms h.0 h.1

-- the limit on times
few-times : (ns : List QueryTerm) → list_any over ns ≡ false → AllByRecursion (λ (n : QueryTerm). n.times ≤ 255) ns
few-times [] none = tt
few-times (n ∷ ns) none = let h = or_parts (over n) (list_any over ns) none in (ltb-false 255 n.times h.0, few-times ns h.1)

pub few-over : (ns : List QueryTerm) → AllByRecursion (λ (n : QueryTerm). n.times ≤ 255) ns → list_any over ns ≡ false
few-over [] few = refl
few-over (n ∷ ns) few = or_from (over n) (list_any over ns) (at (over n) refl) (few-over ns few.1)
  where
    at : (b : Bool) → nat_lt 255 n.times ≡ b → b ≡ false
    at true e = absurd (omega (arith, few.0, ltb-true 255 n.times e))
    at false e = refl

-- queries
abbrev query-of : List (List ℕ) → List ℕ → List Mention → QueryData
query-of terms id ms = record { id = id; terms = named_of terms ms; unknown = unknown_of terms ms }

read-is : (terms : List (List ℕ)) (id : List ℕ) (ms : List Mention) → read_mentions terms id ms ≡ unless (first_broken terms [] ms) (query-of terms id ms)
unfolding read_mentions
read-is terms id ms = refl

read-all : (terms : List (List ℕ)) (id : List ℕ) (ms : List Mention) (q : QueryData) → read_mentions terms id ms ≡ Ok q → (first_broken terms [] ms ≡ None) × (query-of terms id ms ≡ q)
read-all terms id ms q is = at (first_broken terms [] ms) (sym (read-is terms id ms) ∙ is)
  where
    at : (o : Option QueryWhy) → unless o (query-of terms id ms) ≡ Ok q → (o ≡ None) × (query-of terms id ms ≡ q)
    at None e = (refl, cc)
    at (Some why) e = cc

pub query-read : (terms : List (List ℕ)) (id : List ℕ) (ms : List Mention) (q : QueryData) → read_mentions terms id ms ≡ Ok q → IsQuery terms ms q
query-read terms id ms q is =
    let h = read-all terms id ms q is in
    let w = within-limits (named_of terms ms) (all-within terms [] ms refl h.0) in
    subst (IsQuery terms ms) h.1 (record { named = refl; unknown = refl; few = w.0; times = All-from_recursion (λ (n : QueryTerm). n.times ≤ 255) (named_of terms ms) (few-times (named_of terms ms) w.1) })

id-read : (terms : List (List ℕ)) (id : List ℕ) (ms : List Mention) (q : QueryData) → read_mentions terms id ms ≡ Ok q → q.id ≡ id
id-read terms id ms q is = ap (λ (x : QueryData). x.id) (sym (read-all terms id ms q is).1)

same-query : (terms : List (List ℕ)) (ms : List Mention) (q : QueryData) → q.terms ≡ named_of terms ms → q.unknown ≡ unknown_of terms ms → query-of terms q.id ms ≡ q
same-query terms ms q named unknown = ap (λ ns. let r : QueryData = record { id = q.id; terms = ns; unknown = unknown_of terms ms } in r) (sym named)
    ∙ ap (λ n. let r : QueryData = record { id = q.id; terms = q.terms; unknown = n } in r) (sym unknown)

pub query-only : (terms : List (List ℕ)) (ms : List Mention) (q : QueryData) → IsQuery terms ms q → read_mentions terms q.id ms ≡ Ok q
query-only terms ms q is =
    let few = subst (λ (ns : List QueryTerm). length ns ≤ 256) is.named is.few in
    let times = subst (All (λ (n : QueryTerm). n.times ≤ 255)) is.named is.times in
    let none = limit-none (named_of terms ms) few (few-over (named_of terms ms) (recursion_from_All (λ (n : QueryTerm). n.times ≤ 255) (named_of terms ms) times)) in
    read-is terms q.id ms ∙ ap (λ o. unless o (query-of terms q.id ms)) (unbroken terms [] ms none)
    ∙ ap (λ x. let r : Result QueryData QueryWhy = Ok x in r) (same-query terms ms q is.named is.unknown)

-- lines
some-items : (xs : List ℕ) → has_items xs ≡ true → xs ≢ []
some-items [] some = absurd (true≢false (sym some))
some-items (x ∷ xs) some = λ e. omega (arith, ap length e)

items-some : (xs : List ℕ) → xs ≢ [] → has_items xs ≡ true
items-some [] some = absurd (some refl)
items-some (x ∷ xs) some = refl

pub line-is : (mode : Mode) (terms : List (List ℕ)) (line : List ℕ) (q : QueryData) → read_line mode terms line ≡ Ok q → IsQueryLine mode terms line q
line-is mode terms line q is = at (nat_lt 1048576 (length line)) (is_utf8 line) (has_items (id_of line)) refl refl refl
  where
    behind : Option QueryWhy → Result QueryData QueryWhy
    behind o = unless o (mentions_of mode (text_of line)) >>= λ mentions. read_mentions terms (id_of line) mentions

    read : (long utf8 id : Bool) → nat_lt 1048576 (length line) ≡ long → is_utf8 line ≡ utf8 → has_items (id_of line) ≡ id → behind (checks long utf8 id) ≡ Ok q
    read long utf8 id a b c = sym (after-fault mode terms line (checks long utf8 id) (checked line long utf8 id a b c)) ∙ is

    at : (long utf8 id : Bool) → nat_lt 1048576 (length line) ≡ long → is_utf8 line ≡ utf8 → has_items (id_of line) ≡ id → IsQueryLine mode terms line q
    at true utf8 id a b c = let e = read true utf8 id a b c in cc
    at false false id a b c = let e = read false false id a b c in cc
    at false true false a b c = let e = read false true false a b c in cc
    at false true true a b c =
        let e : read_mentions terms (id_of line) (mentions_of mode (text_of line)) ≡ Ok q = read false true true a b c in
        let same = id-read terms (id_of line) (mentions_of mode (text_of line)) q e in
        record {
          fits = ltb-false 1048576 (length line) a;
          utf8 = IsUtf8-from_is_utf8 line b;
          id = same;
          begins = subst (λ (xs : List ℕ). xs ≢ []) (sym same) (some-items (id_of line) c);
          mentions = query-read terms (id_of line) (mentions_of mode (text_of line)) q e;
        }

pub line-only : (mode : Mode) (terms : List (List ℕ)) (line : List ℕ) (q : QueryData) → IsQueryLine mode terms line q → read_line mode terms line ≡ Ok q
line-only mode terms line q is =
    let some = items-some (id_of line) (subst (λ (xs : List ℕ). xs ≢ []) is.id is.begins) in
    after-fault mode terms line None (checked line false true true (is-short (length line) is.fits) (is_utf8-from_IsUtf8 line is.utf8) some)
    ∙ ap (λ id. read_mentions terms id (mentions_of mode (text_of line))) (sym is.id) ∙ query-only terms (mentions_of mode (text_of line)) q is.mentions

-- files
lines-are : (mode : Mode) (terms : List (List ℕ)) (lines : List LineData) (qs : List QueryData) → read_lines mode terms lines ≡ Ok qs → AreQueryLines mode terms lines qs
lines-are mode terms [] qs is = at qs (sym (no-line mode terms) ∙ is)
  where
    at : (xs : List QueryData) → (let r : Result (List QueryData) QueryRefusal = Ok [] in r) ≡ Ok xs → AreQueryLines mode terms [] xs
    at [] e = tt
    at (x ∷ xs) e = cc
lines-are mode terms (line ∷ lines) qs is = first (read_line mode terms line.bytes) refl (sym (one-line mode terms line lines) ∙ is) (lines-are mode terms lines)
  where
    rest : (q : QueryData) (later : Result (List QueryData) QueryRefusal) (xs : List QueryData) → read_line mode terms line.bytes ≡ Ok q → read_lines mode terms lines ≡ later → (later >>= λ more. Ok (q ∷ more)) ≡ Ok xs
        → ((more : List QueryData) → read_lines mode terms lines ≡ Ok more → AreQueryLines mode terms lines more) → AreQueryLines mode terms (line ∷ lines) xs
    rest q (Ok more) [] e f g onward = cc
    rest q (Ok more) (x ∷ xs) e f g onward =
        let same : q ≡ x = cc in
        let others : more ≡ xs = cc in
        (line-is mode terms line.bytes x (e ∙ ap (λ y. let r : Result QueryData QueryWhy = Ok y in r) same), onward xs (f ∙ ap (λ ys. let r : Result (List QueryData) QueryRefusal = Ok ys in r) others))
    rest q (Err refusal) xs e f g onward = cc

    first : (r : Result QueryData QueryWhy) → read_line mode terms line.bytes ≡ r → (at_line line.number r >>= λ q. read_lines mode terms lines >>= λ more. Ok (q ∷ more)) ≡ Ok qs
        → ((more : List QueryData) → read_lines mode terms lines ≡ Ok more → AreQueryLines mode terms lines more) → AreQueryLines mode terms (line ∷ lines) qs
    first (Ok q) e f onward = rest q (read_lines mode terms lines) qs e refl f onward
    first (Err why) e f onward = cc

lines-only : (mode : Mode) (terms : List (List ℕ)) (lines : List LineData) (qs : List QueryData) → AreQueryLines mode terms lines qs → read_lines mode terms lines ≡ Ok qs
lines-only mode terms [] [] are = no-line mode terms
lines-only mode terms [] (q ∷ qs) are = absurd are
lines-only mode terms (line ∷ lines) [] are = absurd are
lines-only mode terms (line ∷ lines) (q ∷ qs) are = one-line mode terms line lines
    ∙ ap (λ r. at_line line.number r >>= λ x. read_lines mode terms lines >>= λ more. Ok (x ∷ more)) (line-only mode terms line.bytes q are.0)
    ∙ ap (λ (r : Result (List QueryData) QueryRefusal). r >>= λ more. Ok (q ∷ more)) (lines-only mode terms lines qs are.1)

pub file-is : (bytes : List ℕ) (mode : Mode) (terms : List (List ℕ)) (qs : List QueryData) → read_query_file bytes mode terms ≡ Ok qs → IsQueryFile bytes mode terms qs
file-is bytes mode terms qs is = at (nat_lt (2 ^ 28) (length bytes)) refl
  where
    at : (long : Bool) → nat_lt (2 ^ 28) (length bytes) ≡ long → IsQueryFile bytes mode terms qs
    at true e = let bad = sym (judged-file bytes mode terms true e) ∙ is in cc
    at false e = record { fits = ltb-false (2 ^ 28) (length bytes) e; lines = lines-are mode terms (query_lines bytes) qs (sym (judged-file bytes mode terms false e) ∙ is) }

pub file-only : (bytes : List ℕ) (mode : Mode) (terms : List (List ℕ)) (qs : List QueryData) → IsQueryFile bytes mode terms qs → read_query_file bytes mode terms ≡ Ok qs
file-only bytes mode terms qs is = short-file bytes mode terms is.fits ∙ lines-only mode terms (query_lines bytes) qs is.lines
