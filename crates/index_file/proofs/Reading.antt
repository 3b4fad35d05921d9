-- What is read of a file, step by step.
use Rattle.std.specs.Result.{IsErrOf}
use Rattle.shared_lemmas.proofs.Common.{◌≡◌, ◌≤◌, ◌==◌, ℕ, not, false, List, length, None, Result, Ok, Err, ap, refl, ◌∙◌, arith, nat_tests}
use Rattle.index_file.proofs.Below.{u32_in, u64_in, OpenRefusal, OpenFault, TermHeads, head_postings, greatest_impact, Front, NamesRead, TermsRead, IndexRead, read_front, read_names, read_terms, read_payloads, after_front, after_names, after_terms, after_payloads, ◌>>=◌}
use Rattle.index_file.proofs.Below.{Fails, judged, FileView}
use Rattle.index_layout.proofs.Judging.{judged_ok}
use Rattle.index_layout.specs.declared.refusal.OpenFault.TheVariants as faults
use Rattle.index_layout.specs.Reading.{end_checks, read_index}
use Rattle.index_file.specs.Answers.{Stops}

-- a step that fails makes the whole fail
pub fails_on : {A B : Type 0} (fault : OpenFault) (read : Result A OpenRefusal) (f : A → Result B OpenRefusal) → Fails fault read → Fails fault (read >>= f)
fails_on (faults.Refused refusal) read f is = ap (λ r. r >>= f) is
fails_on faults.ReadFault read f is = is
fails_on faults.NoMemory read f is = tt

pub fails_as : {A : Type 0} (fault : OpenFault) (x y : Result A OpenRefusal) → x ≡ y → Fails fault y → Fails fault x
fails_as (faults.Refused refusal) x y same is = same ∙ is
fails_as faults.ReadFault x y same is = is
fails_as faults.NoMemory x y same is = tt

-- a step that stops fails, but where a read fails
pub fails_stopped : {A B : Type 0} (fault : OpenFault) (read : Result A OpenRefusal) → ¬ (let result : Result B OpenFault = Err fault in IsErrOf result faults.ReadFault) → Stops fault read → Fails fault read
fails_stopped (faults.Refused refusal) read unread is = is
fails_stopped faults.ReadFault read unread is = absurd (unread refl)
fails_stopped faults.NoMemory read unread is = tt

module _ (bytes : List ℕ) where
  pub front_not : (fault : OpenFault) → Fails fault (read_front bytes) → Fails fault (read_index bytes)
  unfolding read_index
  front_not fault is = fails_on fault (read_front bytes) (after_front bytes) is

  pub front_there : (front : Front) → read_front bytes ≡ Ok front → read_index bytes ≡ after_front bytes front
  unfolding read_index
  front_there front is = ap (λ (r : Result Front OpenRefusal). r >>= after_front bytes) is

  pub names_there : (front : Front) (x : NamesRead) → read_names bytes front.docs 40 ≡ Ok x → after_front bytes front ≡ after_names bytes front x
  names_there front x is = ap (λ (r : Result NamesRead OpenRefusal). r >>= after_names bytes front) is

  pub terms_there : (front : Front) (x : NamesRead) (y : TermsRead) → read_terms bytes front.docs front.terms None x.end ≡ Ok y → after_names bytes front x ≡ after_terms bytes front x.names y
  terms_there front x y is = ap (λ (r : Result TermsRead OpenRefusal). r >>= after_terms bytes front x.names) is

  pub payloads_there : (d : ℕ) (names : List (List ℕ)) (terms : List TermHeads) (at : ℕ) (z : IndexRead) → read_payloads bytes d terms at ≡ Ok z
      → (read_payloads bytes d terms at >>= after_payloads bytes names terms) ≡ after_payloads bytes names terms z
  payloads_there d names terms at z is = ap (λ (r : Result IndexRead OpenRefusal). r >>= after_payloads bytes names terms) is

-- what the last checks tell where they are passed
pub record EndsTold (bytes : List ℕ) (terms : List TermHeads) (end : ℕ) : Type 0 where
  pub whole : length bytes ≤ end
  pub postings : u64_in bytes 24 ≡ head_postings terms
  pub greatest : u32_in bytes 32 ≡ greatest_impact terms

same_number : (a b : ℕ) → not (a == b) ≡ false → a ≡ b
same_number a b is = grind (arith, nat_tests, is)

pub ends_told : (bytes : List ℕ) (terms : List TermHeads) (end : ℕ) (v : FileView) → judged (end_checks bytes terms end) v ≡ Ok v → EndsTold bytes terms end
unfolding end_checks
ends_told bytes terms end v is =
    let told = (judged_ok (end_checks bytes terms end) v v is).0 in
    let last = told.0 in
    record {
      whole = grind (arith, nat_tests, last);
      postings = same_number (u64_in bytes 24) (head_postings terms) told.1.0;
      greatest = same_number (u32_in bytes 32) (greatest_impact terms) told.1.1.0;
    }
