-- The small file is one.
use Rattle.shared_lemmas.proofs.Common.{◌≡◌, ◌≢◌, ℕ, suc, zero, ◌<◌, ◌≤◌, ◌^◌, List, [], ◌∷◌, length, All, None, subst, sym, refl, arith, codes, IsAscii, All-cons, All-nil, is_utf8-from_IsUtf8, IsUtf8-from_ascii}
use Rattle.jass_base.specs.Limits.{IsName, IsText}
use Rattle.index_model.specs.Examples.{one_term, term_segment}
use Rattle.index_model.specs.Index.{IsIndex, IsSegment}
use Rattle.index_layout.specs.Examples.{small_view, small_file}
use Rattle.index_layout.specs.View.{IsFileView, file_bytes}
use Rattle.index_layout.proofs.IndexFacts.{TermsStand, index_only}

one_letter : (a : ℕ) → a < 128 → IsAscii (a ∷ [])
one_letter a first zero = first
one_letter a first (suc i) = omega arith

two_letters : (a b : ℕ) → a < 128 → b < 128 → IsAscii (a ∷ b ∷ [])
two_letters a b first second zero = first
two_letters a b first second (suc zero) = second
two_letters a b first second (suc (suc i)) = omega arith

ascii_text : (text : List ℕ) → IsAscii text → IsText text
ascii_text text ascii = is_utf8-from_IsUtf8 text (IsUtf8-from_ascii text ascii)

abbrev Visible : ℕ → Type 0
Visible b = (32 < b) × (b ≢ 127)

short_name : (a b : ℕ) → Visible a → Visible b → IsName (a ∷ b ∷ [])
short_name a b first second = record { some = omega arith; fits = omega arith; visible = All-cons Visible a (b ∷ []) first (All-cons Visible b [] second (All-nil Visible)) }

one_document : (impact doc : ℕ) → 1 ≤ impact → impact ≤ 65535 → doc < 3 → IsSegment 3 (term_segment impact (doc ∷ []))
one_document impact doc some fits below = record {
  impact = (some, fits);
  docs = record { some = omega arith; rising = λ i inside. absurd (omega (arith, inside)); below = All-cons (λ doc. doc < 3) doc [] below (All-nil (λ doc. doc < 3)); limit = omega arith };
}

terms_stand : TermsStand 3 None one_term.terms
terms_stand = (
  record { fits = omega arith; text = ascii_text (codes "a") (one_letter 97 (omega arith)); rises = refl },
  omega arith,
  (
    one_document 9 0 (omega arith) (omega arith) (omega arith),
    omega arith,
    (
      one_document 5 1 (omega arith) (omega arith) (omega arith),
      omega arith,
      (one_document 1 2 (omega arith) (omega arith) (omega arith), omega arith, tt),
    ),
  ),
  (refl, (refl, (refl, tt))),
  tt,
)

three : (P : List ℕ → Type 0) → P (codes "d0") → P (codes "d1") → P (codes "d2") → All P one_term.names
three P a b c = All-cons P (codes "d0") (codes "d1" ∷ codes "d2" ∷ []) a (All-cons P (codes "d1") (codes "d2" ∷ []) b (All-cons P (codes "d2") [] c (All-nil P)))

is_index : IsIndex one_term
is_index =
    let facts = index_only 3 one_term.terms terms_stand in
    record {
      few_names = omega arith;
      names = three IsName (short_name 100 48 (omega arith, λ h. absurd (omega (arith, h))) (omega arith, λ h. absurd (omega (arith, h))))
          (short_name 100 49 (omega arith, λ h. absurd (omega (arith, h))) (omega arith, λ h. absurd (omega (arith, h))))
          (short_name 100 50 (omega arith, λ h. absurd (omega (arith, h))) (omega arith, λ h. absurd (omega (arith, h))));
      names_are_text = three IsText (ascii_text (codes "d0") (two_letters 100 48 (omega arith) (omega arith)))
          (ascii_text (codes "d1") (two_letters 100 49 (omega arith) (omega arith)))
          (ascii_text (codes "d2") (two_letters 100 50 (omega arith) (omega arith)));
      few_terms = omega arith;
      rising = facts.1;
      terms = facts.0;
    }

pub is_view : file_bytes small_view ≡ small_file → IsFileView small_view
is_view spelled = record { index = is_index; codecs = refl; postings = omega arith; fits = subst (λ (bytes : List ℕ). length bytes ≤ 2 ^ 32) (sym spelled) (omega arith) }
