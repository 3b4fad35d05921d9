-- Names of terms and documents.
use Rattle.shared_lemmas.proofs.Common.{◌≡◌, ◌≢◌, ℕ, ◌+◌, ◌%◌, ◌^◌, ◌<◌, ◌≤◌, List, [], length, arith, All, decimal, decimal_by_steps, decimal_injective, length-decimal-le, All-nil, All-cons, All-push}
use Rattle.jass_base.specs.Limits.{IsName}
use Rattle.trial_data.specs.Trials.{term_name, doc_name}

abbrev IsVisible : ℕ → Type 0
IsVisible b = (32 < b) × (b ≢ 127)

digit : (n : ℕ) → n < 10 → IsVisible (48 + n)
digit n low = (omega arith, λ e. omega arith)

digits : (n : ℕ) → n < 2 ^ 64 → All IsVisible (decimal n)
digits n low = decimal_by_steps (λ (n : ℕ) (ds : List ℕ). All IsVisible ds)
    (λ n low. All-cons IsVisible (48 + n) [] (digit n low) (All-nil IsVisible))
    (λ n ds large h. All-push IsVisible ds (48 + n % 10) h (digit (n % 10) (omega arith)))
    n low

pub is_name : (doc : ℕ) → doc < 1048576 → IsName (doc_name doc)
is_name doc low =
    let short = length-decimal-le 7 doc (omega arith) (omega arith) (omega arith) in
    record {
      some = omega arith;
      fits = omega arith;
      visible = All-cons IsVisible 68 (decimal doc) (omega arith, λ e. omega arith) (digits doc (omega arith));
    }

pub term_short : (term : ℕ) → term < 1048576 → length (term_name term) ≤ 65535
term_short term low = let short = length-decimal-le 7 term (omega arith) (omega arith) (omega arith) in omega arith

pub terms_apart : (a b : ℕ) → a < 1048576 → b < 1048576 → a ≢ b → term_name a ≢ term_name b
terms_apart a b low small apart is = let same : decimal a ≡ decimal b = cc in apart (decimal_injective a b (omega arith) (omega arith) same)
