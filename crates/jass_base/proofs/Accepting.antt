-- A check that judges by what is read accepts exactly the payloads.
use Rattle.shared_lemmas.proofs.Common.{◌≡◌, ℕ, ◌<◌, List, length, take, get_or, subst, Result, Ok, Err, refl, IfOk, All, get_or_default}
use Rattle.jass_base.specs.declared.payload_fault.PayloadFault.{PayloadFault}
use Rattle.jass_base.specs.Codecs.{Checks, ChecksInto}
use Rattle.jass_base.specs.Gaps.{AreDocs, Accepts, Judges}

refused : (fault : PayloadFault) (docs : List ℕ) → (let r : Result (List ℕ) PayloadFault = Err fault in r) ≡ Ok docs → ⊥
refused fault docs is = cc

pub accepts : {T : Type 0} (payload : List ℕ → List ℕ) (d count : ℕ) (bytes : List ℕ) (read : Result (List ℕ) PayloadFault) (result : Result T PayloadFault) → Judges read result
    → ((docs : List ℕ) → AreDocs d docs → length docs ≡ count → bytes ≡ payload docs → read ≡ Ok docs)
    → ((docs : List ℕ) → read ≡ Ok docs → AreDocs d docs × (length docs ≡ count) × (bytes ≡ payload docs))
    → Accepts payload d count bytes result
accepts payload d count bytes (Ok docs) (Ok x) judged found only = ((λ is. let o = only docs refl in (docs, o.0, o.1, o.2)), (λ there. judged))
accepts payload d count bytes (Ok docs) (Err e) judged found only = ((λ is. let o = only docs refl in (docs, o.0, o.1, o.2)), (λ there. judged))
accepts payload d count bytes (Err fault) (Ok x) judged found only = absurd cc
accepts payload d count bytes (Err fault) (Err e) judged found only = ((λ is. absurd cc), (λ there. absurd (refused fault there.0 (found there.0 there.1 there.2 there.3))))

module _ {T : Type 0} (payload : List ℕ → List ℕ) (read : ℕ → ℕ → List ℕ → Result (List ℕ) PayloadFault) (d count : ℕ) (bytes : List ℕ) where
  pub checks : (result : Result T PayloadFault) → Judges (read d count bytes) result
      → ((docs : List ℕ) → AreDocs d docs → length docs ≡ count → bytes ≡ payload docs → read d count bytes ≡ Ok docs)
      → ((docs : List ℕ) → read d count bytes ≡ Ok docs → AreDocs d docs × (length docs ≡ count) × (bytes ≡ payload docs))
      → Checks payload read d count bytes result
  checks result judged found only = record { accepted = accepts payload d count bytes (read d count bytes) result judged found only; judged = judged }

  pub checks_into : (old new : List ℕ) (result : Result T PayloadFault) → Judges (read d count bytes) result
      → IfOk result (λ _. read d count bytes ≡ Ok (take count new)) → length new ≡ length old
      → ((docs : List ℕ) → AreDocs d docs → length docs ≡ count → bytes ≡ payload docs → read d count bytes ≡ Ok docs)
      → ((docs : List ℕ) → read d count bytes ≡ Ok docs → AreDocs d docs × (length docs ≡ count) × (bytes ≡ payload docs))
      → ChecksInto payload read d count bytes old new result
  checks_into old new result judged docs long found only = record {
    accepted = accepts payload d count bytes (read d count bytes) result judged found only;
    judged = judged;
    docs = docs;
    length = long;
  }

-- bytes that fit at each place are below 256
pub all_bytes : (bytes : List ℕ) → ((k : ℕ) → get_or bytes k 0 < 256) → All (λ byte. byte < 256) bytes
all_bytes bytes fit k d inside = subst (λ byte. byte < 256) (get_or_default bytes k 0 d inside) (fit k)
