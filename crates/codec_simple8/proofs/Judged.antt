-- What the faults of the words and the spelling decide.
use Rattle.std.proofs.Common.{◌≡◌, ℕ, Bool, cond, List, Ok, Err, refl, sym, ap, ◌∙◌, arith}
use Rattle.std.specs.Str.{bytes_eq}
use Rattle.jass_base.specs.Gaps.{Judges, docs_from, ◌>>=◌}
use Rattle.jass_base.specs.declared.payload_fault.PayloadFault.{PayloadFault}
use Rattle.jass_base.specs.declared.payload_fault.PayloadFault.TheVariants.{Shape}
use Rattle.codec_simple8.specs.Simple8.{read_words, read_simple8, spelled_words}
use Rattle.codec_simple8.specs.Private.Words.{bytes_gaps}
use Rattle.codec_simple8.proofs.Reading.{Read, words_read}

-- the judgement of the words, where there was no fault
pub judged_ok : (r : Read) → Judges {T = Unit {0}} r (Ok tt) → (gaps : List ℕ) × (r ≡ Ok gaps)
judged_ok (Ok gaps) is = (gaps, refl)
judged_ok (Err fault) is = absurd cc

-- a fault of the words is one of the payload
pub judged_err : (d count : ℕ) (bytes : List ℕ) (fault : PayloadFault) → Judges {T = Unit {0}} (read_words count d 0 count bytes) (Err fault) → Judges {T = Unit {0}} (read_simple8 d count bytes) (Err fault)
unfolding read_simple8
judged_err d count bytes fault is = go (read_words count d 0 count bytes) is
  where
    go : (r : Read) → Judges {T = Unit {0}} r (Err fault) → Judges {T = Unit {0}} (r >>= λ gaps. cond (bytes_eq bytes (spelled_words gaps)) (Ok (docs_from 0 gaps)) (Err Shape)) (Err fault)
    go (Ok gaps) is = absurd cc
    go (Err fault') is = is

-- and otherwise the spelling decides
pub read_is : (d count : ℕ) (bytes gaps : List ℕ) (test : Bool) → read_words count d 0 count bytes ≡ Ok gaps → bytes_eq bytes (spelled_words (bytes_gaps bytes)) ≡ test
    → read_simple8 d count bytes ≡ cond test (Ok (docs_from 0 gaps)) (Err Shape)
unfolding read_simple8
read_is d count bytes gaps test is so =
    let r = words_read count d 0 count bytes gaps (omega arith) is in
    let same : bytes_eq bytes (spelled_words gaps) ≡ test = ap (λ (gs : List ℕ). bytes_eq bytes (spelled_words gs)) (sym r.gaps_are) ∙ so in
    rw is (rw same refl)
