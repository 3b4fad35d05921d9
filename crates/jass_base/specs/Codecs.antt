-- What the calls of every codec say of a list and its payload.
use Rattle.std.specs.Prelude.{ℕ, ◌≡◌, ◌≤◌, ◌↔◌, List, [], ◌++◌, length, take, drop, Result, Ok, OnOk, OnErr, IfOk}
use Rattle.jass_base.specs.Gaps.{AreDocs, Accepts, Judges}
use Rattle.jass_base.specs.declared.payload_fault.PayloadFault.{PayloadFault}
use Rattle.jass_base.specs.declared.limits.TheConstants.{MOST_DOCUMENTS}

-- a payload was put behind the bytes that there were, or nothing where the call failed
pub record Encodes {T E : Type 0} (payload old new : List ℕ) (result : Result T E) : Type 0 where
  pub ok : OnOk result (new ≡ old ++ payload)
  pub err : OnErr result (new ≡ old)

-- an index of d documents can have a list of so many
pub record IsDocCount (count d : ℕ) : Type 0 where
  pub some : 1 ≤ count
  pub few : count ≤ d
  pub limit : d ≤ MOST_DOCUMENTS

-- an answer that is Ok exactly for the payload of so many documents below d, and else the first fault of reading
pub record Checks {T : Type 0} (payload : List ℕ → List ℕ) (read : ℕ → ℕ → List ℕ → Result (List ℕ) PayloadFault) (d count : ℕ) (bytes : List ℕ) (result : Result T PayloadFault) : Type 0 where
  pub accepted : Accepts payload d count bytes result
  pub judged : Judges (read d count bytes) result

-- such an answer, and where it is Ok the documents at the front of an output, whose length stays
pub record ChecksInto {T : Type 0} (payload : List ℕ → List ℕ) (read : ℕ → ℕ → List ℕ → Result (List ℕ) PayloadFault) (d count : ℕ) (bytes old new : List ℕ) (result : Result T PayloadFault) : Type 0 where
  pub accepted : Accepts payload d count bytes result
  pub judged : Judges (read d count bytes) result
  pub docs : IfOk result (λ _. read d count bytes ≡ Ok (take count new))
  pub length : length new ≡ length old

-- a cursor gives any list of so many documents below d from its payload
abbrev pub GivesAll : {C : Type 0} → (C → List ℕ → List ℕ → Type 0) → (List ℕ → List ℕ) → ℕ → ℕ → C → Type 0
GivesAll gives payload d count cursor = (bytes docs : List ℕ) → AreDocs d docs → length docs ≡ count → bytes ≡ payload docs → gives cursor bytes docs

-- a cursor handed over the first of the documents that it still gave, at the front of a block, and gives those behind them; none exactly at the end
pub record HandsOver {C : Type 0} (gives : C → List ℕ → List ℕ → Type 0) (old new : C) (bytes out : List ℕ) (result : ℕ) : Type 0 where
  pub most : result ≤ 128
  pub block : (docs : List ℕ) → gives old bytes docs → take result out ≡ take result docs
  pub rest : (docs : List ℕ) → gives old bytes docs → gives new bytes (drop result docs)
  pub end : (docs : List ℕ) → gives old bytes docs → (result ≡ 0 ↔ docs ≡ [])
