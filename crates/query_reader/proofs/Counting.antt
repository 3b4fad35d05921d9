-- Mentions counted in one after the other.
use Rattle.shared_lemmas.proofs.Common.{◌≡◌, ℕ, ◌+◌, ◌≤◌, List, [], ◌∷◌, map, refl, ap, sym, subst, ◌∙◌, arith, Option, Some, None, Result, Ok, Err, IsErrAnd}
use Rattle.query_reader.specs.declared.refusal.QueryWhy.{QueryWhy}
use Rattle.query_reader.specs.declared.refusal.LineFault.{LineFault}
use Rattle.query_reader.specs.declared.refusal.LineFault.TheVariants.{Refused, NoMemory}
use Rattle.query_reader.specs.Mentions.{Mention, term_number}
use Rattle.query_reader.specs.Texts.{plain_mention, plain_mentions, blank_runs}
use Rattle.query_reader.specs.Refusals.{◌>>=◌}
use Rattle.query_reader.specs.Private.Lines.{LineFails}
use Rattle.query_reader.specs.Reading.{broken_limit, unless}
use Rattle.query_reader.specs.Private.Tally.{TallyData, tallied, CountsIn, counted_in, all_counted_in}

pub then-counted : (terms : List (List ℕ)) (tally : TallyData) (m : Mention) (ms : List Mention) → all_counted_in terms tally (m ∷ ms) ≡ (counted_in tally (term_number terms m) m.factor >>= λ more. all_counted_in terms more ms)
unfolding all_counted_in
then-counted terms tally m ms = refl

pub none-counted : (terms : List (List ℕ)) (tally : TallyData) → all_counted_in terms tally [] ≡ Ok tally
unfolding all_counted_in
none-counted terms tally = refl

-- one mention more
pub one-counted : (terms : List (List ℕ)) (tally new : TallyData) (m : Mention) (ms : List Mention) (number : Option ℕ) → number ≡ term_number terms m → counted_in tally number m.factor ≡ Ok new → all_counted_in terms tally (m ∷ ms) ≡ all_counted_in terms new ms
one-counted terms tally new m ms number known is =
    then-counted terms tally m ms ∙ ap (λ o. counted_in tally o m.factor >>= λ more. all_counted_in terms more ms) (sym known)
    ∙ ap (λ (r : Result TallyData QueryWhy). r >>= λ more. all_counted_in terms more ms) is

-- a mention that breaks a limit
pub one-refused : (terms : List (List ℕ)) (tally : TallyData) (m : Mention) (ms : List Mention) (number : Option ℕ) (fault : LineFault) → number ≡ term_number terms m → LineFails fault (counted_in tally number m.factor) → LineFails fault (all_counted_in terms tally (m ∷ ms))
one-refused terms tally m ms number fault known fails = at fault fails
  where
    at : (f : LineFault) → LineFails f (counted_in tally number m.factor) → LineFails f (all_counted_in terms tally (m ∷ ms))
    at (Refused why) is = then-counted terms tally m ms ∙ ap (λ o. counted_in tally o m.factor >>= λ more. all_counted_in terms more ms) (sym known)
        ∙ ap (λ (r : Result TallyData QueryWhy). r >>= λ more. all_counted_in terms more ms) is
    at NoMemory is = tt

-- a fault handed on
pub handed-on : (counted : Result TallyData QueryWhy) (new : TallyData) (fault : LineFault) (result : Result (Unit {0}) LineFault) → IsErrAnd result (λ e. e ≡ fault) → LineFails fault counted → CountsIn counted new result
handed-on counted new fault (Ok done) is fails = absurd is
handed-on counted new fault (Err e) is fails = subst (λ f. LineFails f counted) (sym is) fails

-- the runs of a text as its mentions
pub first-mention : (text run rest : List ℕ) → blank_runs text ≡ run ∷ blank_runs rest → plain_mentions text ≡ plain_mention run ∷ plain_mentions rest
unfolding plain_mentions
first-mention text run rest is = ap (map plain_mention) is

pub no-mentions : (text : List ℕ) → blank_runs text ≡ [] → plain_mentions text ≡ []
unfolding plain_mentions
no-mentions text is = ap (map plain_mention) is

-- the number of mentions of no term rises by one at most
pub few-more : (tally new : TallyData) (number : Option ℕ) (factor : ℕ) → counted_in tally number factor ≡ Ok new → new.unknown ≤ tally.unknown + 1
few-more tally new None factor is =
    let one : TallyData = record tally { unknown = tally.unknown + 1 } in
    let same : one ≡ new = cc in
    omega (arith, ap (λ (t : TallyData). t.unknown) same)
few-more tally new (Some number) factor is = at (broken_limit (tallied tally.named number factor)) is
  where
    at : (o : Option QueryWhy) → unless o (record tally { named = tallied tally.named number factor }) ≡ Ok new → new.unknown ≤ tally.unknown + 1
    at None e =
        let one : TallyData = record tally { named = tallied tally.named number factor } in
        let same : one ≡ new = cc in
        omega (arith, ap (λ (t : TallyData). t.unknown) same)
    at (Some why) e = cc
