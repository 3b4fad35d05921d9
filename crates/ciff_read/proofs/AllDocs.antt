-- So many documents that are read are those of their messages, in order, and those of such messages are read.
use Rattle.std.proofs.Common.{◌≡◌, ℕ, ◌+◌, ◌^◌, ◌≤◌, List, [], ◌++◌, length, map, Result, Ok, sym, ap, subst, ◌∙◌}
use Rattle.ciff_read.proofs.Below.{DocData, AreRecords, Spells, IsSized}
use Rattle.ciff_read.specs.declared.refusal.CiffRefusal.{CiffRefusal}
use Rattle.ciff_read.specs.Judging.{NumberedDoc}
use Rattle.ciff_read.specs.Reading.{DocsRead, DocsInOrder, docs_at, docs_in_order, all_docs_at}
use Rattle.ciff_read.specs.Refusals.{◌>>=◌}
use Rattle.ciff_read.specs.Private.Table.{values_of}
use Rattle.ciff_read.proofs.DocLaws.{Puts, docs_found, docs_stand, docs_are_read, docs_all}
use Rattle.ciff_read.proofs.Numbered.{docs_from}
use Rattle.ciff_read.proofs.WireLaws.{WireLaws, bound, done_is}

pub record AllDocsFound (count at : ℕ) (s : List ℕ) (y : DocsInOrder) : Type 0 where
  pub front : List ℕ
  pub bodies : List (List ℕ)
  pub parts : s ≡ front ++ y.rest
  pub messages : Spells IsSized front bodies
  pub are : AreRecords y.docs bodies
  pub count_is : length y.docs ≡ count
  pub ends : y.at ≡ at + length front
  pub short : y.at ≤ 2 ^ 32

module _ (laws : WireLaws) where
  pub all_docs_found : (count at : ℕ) (s : List ℕ) (y : DocsInOrder) → at ≤ 2 ^ 32 → all_docs_at count at s ≡ Ok y → AllDocsFound count at s y
  all_docs_found count at s y short is =
      let g = bound (docs_at count count [] at s) (λ z. Ok (docs_in_order z)) y is in
      let in_order = done_is (docs_in_order g.0) y g.2 in
      let docs = docs_found laws count count [] at s g.0 short g.1 in
      let puts = subst (λ n. Puts n [] docs.bodies docs.docs_put docs.final) (sym docs.count) docs.puts in
      let stand = docs_stand docs.bodies docs.docs_put docs.final puts in
      let same : values_of docs.final ≡ y.docs = sym (docs_from 0 docs.final) ∙ ap (map (λ (r : NumberedDoc). r.doc)) (sym docs.final_is) ∙ ap (λ (w : DocsInOrder). w.docs) in_order in
      record {
        front = docs.front;
        bodies = docs.bodies;
        parts = docs.parts ∙ ap (λ (w : DocsInOrder). docs.front ++ w.rest) in_order;
        messages = docs.messages;
        are = subst (λ (ds : List DocData). AreRecords ds docs.bodies) same stand.0;
        count_is = ap (λ (ds : List DocData). length ds) (sym same) ∙ stand.1 ∙ docs.count;
        ends = ap (λ (w : DocsInOrder). w.at) (sym in_order) ∙ docs.ends;
        short = subst (λ n. n ≤ 2 ^ 32) (ap (λ (w : DocsInOrder). w.at) in_order) docs.short;
      }

  pub all_docs_read : (ds : List DocData) (at : ℕ) (front rest : List ℕ) (bodies : List (List ℕ)) → length ds ≤ 2 ^ 26 → Spells IsSized front bodies → AreRecords ds bodies → at + length front ≤ 2 ^ 32
      → all_docs_at (length ds) at (front ++ rest) ≡ Ok (record { docs = ds; at = at + length front; rest = rest })
  all_docs_read ds at front rest bodies few messages are short =
      let docs = docs_are_read laws ds at front rest bodies few messages are short in
      let same = docs_from 0 docs.final ∙ docs_all laws ds docs.final docs.part docs.count_is in
      ap (λ (r : Result DocsRead CiffRefusal). r >>= λ z. Ok (docs_in_order z)) docs.read
      ∙ ap (λ (ds : List DocData). Ok (record { docs = ds; at = at + length front; rest = rest })) same
