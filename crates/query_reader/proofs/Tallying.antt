-- Mentions counted in one after the other name what all of them name.
use Rattle.shared_lemmas.proofs.Common.{◌≡◌, ℕ, ◌+◌, cond, List, [], ◌∷◌, ◌++◌, refl, ap, sym, subst, ◌∙◌, arith, append_assoc, sum_by-append, Option, Some, None, Result, Ok, Err, is_none, IsErrAnd}
use Rattle.std.proofs.lemmas.List.{append-nil}
use Rattle.jass_base.specs.declared.query_term.QueryTerm.{QueryTerm}
use Rattle.query_reader.specs.declared.refusal.QueryWhy.{QueryWhy}
use Rattle.query_reader.specs.declared.refusal.LineFault.{LineFault}
use Rattle.query_reader.specs.declared.refusal.LineFault.TheVariants.{Refused, NoMemory}
use Rattle.query_reader.specs.Mentions.{Mention, term_number, named_of, unknown_of}
use Rattle.query_reader.specs.Refusals.{◌>>=◌}
use Rattle.query_reader.specs.Private.Lines.{LineFails, LineAnswers}
use Rattle.query_reader.specs.Queries.{QueryData}
use Rattle.query_reader.specs.Reading.{broken_limit, first_of, first_broken, unless, read_mentions}
use Rattle.query_reader.specs.Private.Tally.{TallyData, counted_in, all_counted_in}
use Rattle.query_reader.proofs.NamedTerms.{named-known, named-unknown}
use Rattle.query_reader.proofs.Counting.{then-counted, none-counted}

-- the tally of mentions
abbrev pub tally_of : List (List ℕ) → List Mention → TallyData
tally_of terms mentions = record { named = named_of terms mentions; unknown = unknown_of terms mentions }

abbrev pub with_one : List Mention → Mention → List Mention
with_one before m = before ++ m ∷ []

unknown-one : (terms : List (List ℕ)) (before : List Mention) (m : Mention) (number : Option ℕ) → term_number terms m ≡ number → unknown_of terms (with_one before m) ≡ unknown_of terms before + cond (is_none number) 1 0
unknown-one terms before m number is = sum_by-append (λ x. cond (is_none (term_number terms x)) 1 0) before (m ∷ [])
    ∙ ap (λ o. unknown_of terms before + (0 + cond (is_none o) 1 0)) is ∙ omega arith

same-tally : (named other : List QueryTerm) (unknown count : ℕ) → named ≡ other → unknown ≡ count → (let a : TallyData = record { named = named; unknown = unknown } in a) ≡ record { named = other; unknown = count }
same-tally named other unknown count first second = cc

-- one mention more
one-more : (terms : List (List ℕ)) (before : List Mention) (m : Mention) → broken_limit (named_of terms before) ≡ None
    → counted_in (tally_of terms before) (term_number terms m) m.factor ≡ unless (broken_limit (named_of terms (with_one before m))) (tally_of terms (with_one before m))
one-more terms before m none = at (term_number terms m) refl
  where
    at : (o : Option ℕ) → term_number terms m ≡ o → counted_in (tally_of terms before) o m.factor ≡ unless (broken_limit (named_of terms (with_one before m))) (tally_of terms (with_one before m))
    at None e =
        let named = named-unknown (term_number terms) before m e in
        let count : unknown_of terms before + 1 ≡ unknown_of terms (with_one before m) = sym (unknown-one terms before m None e) in
        ap (λ t. let r : Result TallyData QueryWhy = Ok t in r) (same-tally _ _ _ _ (sym named) count)
        ∙ ap (λ o. unless o (tally_of terms (with_one before m))) (sym (ap broken_limit named ∙ none))
    at (Some k) e =
        let named = named-known (term_number terms) before m k e in
        let zero_more : unknown_of terms (with_one before m) ≡ unknown_of terms before + 0 = unknown-one terms before m (Some k) e in
        let count : unknown_of terms before ≡ unknown_of terms (with_one before m) = omega (arith, zero_more) in
        ap (λ ns. unless (broken_limit ns) (let t : TallyData = record { named = ns; unknown = unknown_of terms before } in t)) (sym named)
        ∙ ap (λ n. unless (broken_limit (named_of terms (with_one before m))) (let t : TallyData = record { named = named_of terms (with_one before m); unknown = n } in t)) count

pub broken-first : (terms : List (List ℕ)) (before : List Mention) (m : Mention) (ms : List Mention) → first_broken terms before (m ∷ ms) ≡ first_of (broken_limit (named_of terms (with_one before m))) (first_broken terms (with_one before m) ms)
unfolding first_broken
broken-first terms before m ms = refl

pub broken-none : (terms : List (List ℕ)) (before : List Mention) → first_broken terms before [] ≡ None
unfolding first_broken
broken-none terms before = refl

all-counted : (terms : List (List ℕ)) (before ms : List Mention) → broken_limit (named_of terms before) ≡ None → all_counted_in terms (tally_of terms before) ms ≡ unless (first_broken terms before ms) (tally_of terms (before ++ ms))
all-counted terms before [] none = none-counted terms (tally_of terms before)
    ∙ ap (λ xs. let r : Result TallyData QueryWhy = Ok (tally_of terms xs) in r) (sym (append-nil before))
    ∙ ap (λ o. unless o (tally_of terms (before ++ []))) (sym (broken-none terms before))
all-counted terms before (m ∷ ms) none = then-counted terms (tally_of terms before) m ms
    ∙ ap (λ (r : Result TallyData QueryWhy). r >>= λ more. all_counted_in terms more ms) (one-more terms before m none)
    ∙ at (broken_limit (named_of terms (with_one before m))) refl (all-counted terms (with_one before m) ms)
    ∙ ap (λ o. unless o (tally_of terms (before ++ m ∷ ms))) (sym (broken-first terms before m ms))
  where
    at : (o : Option QueryWhy) → broken_limit (named_of terms (with_one before m)) ≡ o
        → (broken_limit (named_of terms (with_one before m)) ≡ None → all_counted_in terms (tally_of terms (with_one before m)) ms ≡ unless (first_broken terms (with_one before m) ms) (tally_of terms (with_one before m ++ ms)))
        → (unless o (tally_of terms (with_one before m)) >>= λ more. all_counted_in terms more ms) ≡ unless (first_of o (first_broken terms (with_one before m) ms)) (tally_of terms (before ++ m ∷ ms))
    at None e rest = rest e ∙ ap (λ xs. unless (first_broken terms (with_one before m) ms) (tally_of terms xs)) (append_assoc before (m ∷ []) ms)
    at (Some why) e rest = refl

abbrev pub empty_tally : TallyData
empty_tally = record { named = []; unknown = 0 }

counted-all : (terms : List (List ℕ)) (ms : List Mention) → all_counted_in terms empty_tally ms ≡ unless (first_broken terms [] ms) (tally_of terms ms)
counted-all terms ms = all-counted terms [] ms refl

-- what a tally of all mentions holds, and the query that it makes
pub counted-is : (terms : List (List ℕ)) (ms : List Mention) (tally : TallyData) → all_counted_in terms empty_tally ms ≡ Ok tally → tally ≡ tally_of terms ms
counted-is terms ms tally is = at (first_broken terms [] ms) (sym (counted-all terms ms) ∙ is)
  where
    at : (o : Option QueryWhy) → unless o (tally_of terms ms) ≡ Ok tally → tally ≡ tally_of terms ms
    at None e = cc
    at (Some why) e = cc

pub counted-read : (terms : List (List ℕ)) (id : List ℕ) (ms : List Mention) (tally : TallyData) → all_counted_in terms empty_tally ms ≡ Ok tally → read_mentions terms id ms ≡ Ok (record { id = id; terms = tally.named; unknown = tally.unknown })
unfolding read_mentions
counted-read terms id ms tally is = at (first_broken terms [] ms) (sym (counted-all terms ms) ∙ is)
  where
    at : (o : Option QueryWhy) → unless o (tally_of terms ms) ≡ Ok tally → unless o (let q : QueryData = record { id = id; terms = named_of terms ms; unknown = unknown_of terms ms } in q) ≡ Ok (record { id = id; terms = tally.named; unknown = tally.unknown })
    at None e =
        let same : tally_of terms ms ≡ tally = cc in
        ap (λ t. let r : Result QueryData QueryWhy = Ok (record { id = id; terms = t.named; unknown = t.unknown }) in r) same
    at (Some why) e = cc

pub counted-fails : (terms : List (List ℕ)) (id : List ℕ) (ms : List Mention) (fault : LineFault) → LineFails fault (all_counted_in terms empty_tally ms) → LineFails fault (read_mentions terms id ms)
unfolding read_mentions
counted-fails terms id ms (Refused why) is = at (first_broken terms [] ms) (sym (counted-all terms ms) ∙ is)
  where
    at : (o : Option QueryWhy) → unless o (tally_of terms ms) ≡ Err why → unless o (let q : QueryData = record { id = id; terms = named_of terms ms; unknown = unknown_of terms ms } in q) ≡ Err why
    at None e = cc
    at (Some other) e = cc
counted-fails terms id ms NoMemory is = tt

-- a fault handed on
pub line-handed-on : {X : Type 0} (view : X → QueryData) (read : Result QueryData QueryWhy) (fault : LineFault) (result : Result X LineFault) → IsErrAnd result (λ e. e ≡ fault) → LineFails fault read → LineAnswers view result read
line-handed-on view read fault (Ok x) is fails = absurd is
line-handed-on view read fault (Err e) is fails = subst (λ f. LineFails f read) (sym is) fails

-- the query that is made of a tally
pub query-made : (terms : List (List ℕ)) (id : List ℕ) (ms : List Mention) (tally : TallyData) (given : List ℕ) (row : List QueryTerm) → all_counted_in terms empty_tally ms ≡ Ok tally → given ≡ id → row ≡ tally.named
    → read_mentions terms id ms ≡ Ok (record { id = given; terms = row; unknown = tally.unknown })
query-made terms id ms tally given row is same_id same_row = counted-read terms id ms tally is
    ∙ ap (λ text. let r : Result QueryData QueryWhy = Ok (record { id = text; terms = tally.named; unknown = tally.unknown }) in r) (sym same_id)
    ∙ ap (λ ns. let r : Result QueryData QueryWhy = Ok (record { id = given; terms = ns; unknown = tally.unknown }) in r) (sym same_row)

pub row-is : (terms : List (List ℕ)) (ms : List Mention) (tally : TallyData) (row : List QueryTerm) → all_counted_in terms empty_tally ms ≡ Ok tally → row ≡ tally.named → row ≡ named_of terms ms
row-is terms ms tally row is same = same ∙ ap (λ (t : TallyData). t.named) (counted-is terms ms tally is)

pub from-start : (terms : List (List ℕ)) (ms : List Mention) (start new seen : TallyData) → all_counted_in terms start ms ≡ Ok new → start ≡ empty_tally → seen ≡ new → all_counted_in terms empty_tally ms ≡ Ok seen
from-start terms ms start new seen is at_start same = ap (λ t. all_counted_in terms t ms) (sym at_start) ∙ is ∙ ap (λ t. let r : Result TallyData QueryWhy = Ok t in r) (sym same)
