-- What was begun is a writer, none of whose terms was written.
use Rattle.std.proofs.Common.{ℕ, ◌≤◌, ◌∙◌, List, ap, ap₂, arith, length, map, refl, subst, sym}
use Rattle.shared_lemmas.proofs.Common.{length-map}
use Rattle.index_write.proofs.Below.{Sets, all_heads, file_length, front_bytes, greatest_impact, head_postings, payloads_size}
use Rattle.index_write.specs.Saving.{LeavesPrefix}
use Rattle.index_write.specs.Streaming.{AreEntries, AreNames, Unbegun, entry_data}
use Rattle.index_write.specs.declared.term_heads.TermHeads.{TermHeads}
use Rattle.jass_base.specs.declared.limits.TheConstants.{LONGEST_FILE, MOST_DOCUMENTS, MOST_POSTINGS}
use Rattle.index_write.proofs.Begun.{few_bytes, none_failed, still_fault, totals_summed}
use Rattle.index_write.proofs.writer.IndexWriter.new.Goals as goal

pub returns-in-Err-clause-name : goal.returns-in-Err-clause-name
returns-in-Err-clause-name g c = tt

pub returns-in-Err-clause-docs : goal.returns-in-Err-clause-docs
returns-in-Err-clause-docs g c = tt

pub returns-in-Err-clause-entries : goal.returns-in-Err-clause-entries
returns-in-Err-clause-entries g c = tt

pub returns-in-Err-clause-left : goal.returns-in-Err-clause-left
returns-in-Err-clause-left g c = tt

pub returns-in-Err-clause-content : goal.returns-in-Err-clause-content
returns-in-Err-clause-content g c = tt

pub returns-in-Err-clause-fits : goal.returns-in-Err-clause-fits
returns-in-Err-clause-fits g c = tt

pub returns-in-Err-clause-fault : goal.returns-in-Err-clause-fault
returns-in-Err-clause-fault g c = subst (λ (size : ℕ). Unbegun size c.in-Err.fault) (ap₂ (λ (ns : List (List ℕ)) (ts : List TermHeads). file_length ns (map entry_data ts)) c.as_slice-2.ensures c.as_slice-3.ensures) c.in-Err.ensures.begun.fault

pub returns-in-Err-clause-untouched : goal.returns-in-Err-clause-untouched
returns-in-Err-clause-untouched g c = c.in-Err.ensures.begun.untouched

pub returns-in-Err-clause-front : goal.returns-in-Err-clause-front
returns-in-Err-clause-front g c = subst (LeavesPrefix (g.C.Cabinet.told c.args.files.now) (g.C.Cabinet.told c.begin-begun.new.files) c.args.name.now) (ap₂ (λ (ns : List (List ℕ)) (ts : List TermHeads). front_bytes ns (map entry_data ts)) c.as_slice-2.ensures c.as_slice-3.ensures) c.in-Err.ensures.begun.front

pub returns-in-Err-clause-cause : goal.returns-in-Err-clause-cause
returns-in-Err-clause-cause g c = λ is. c.in-Err.ensures.begun.cause (still_fault is)

pub returns-in-Err-clause-later : goal.returns-in-Err-clause-later
returns-in-Err-clause-later g c = c.in-Err.ensures.begun.later

pub returns-in-Err-clause-others : goal.returns-in-Err-clause-others
returns-in-Err-clause-others g c = c.in-Err.ensures.begun.others

pub returns-in-Ok-clause-name : goal.returns-in-Ok-clause-name
returns-in-Ok-clause-name g c = c.in-Ok.ensures.name

pub returns-in-Ok-clause-content : goal.returns-in-Ok-clause-content
returns-in-Ok-clause-content g c = subst (Sets (g.C.Cabinet.told c.args.files.now) (g.C.Cabinet.told c.begin-begun.new.files) c.args.name.now) (ap₂ (λ (ns : List (List ℕ)) (ts : List TermHeads). front_bytes ns (map entry_data ts)) c.as_slice-2.ensures c.as_slice-3.ensures) c.in-Ok.ensures.begun.content

pub returns-in-Ok-clause-fits : goal.returns-in-Ok-clause-fits
returns-in-Ok-clause-fits g c = subst (λ (size : ℕ). size ≤ LONGEST_FILE) (ap₂ (λ (ns : List (List ℕ)) (ts : List TermHeads). file_length ns (map entry_data ts)) c.as_slice-2.ensures c.as_slice-3.ensures) c.in-Ok.ensures.begun.fits

pub returns-in-Ok-clause-fault : goal.returns-in-Ok-clause-fault
returns-in-Ok-clause-fault g c = tt

pub returns-in-Ok-clause-untouched : goal.returns-in-Ok-clause-untouched
returns-in-Ok-clause-untouched g c = tt

pub returns-in-Ok-clause-front : goal.returns-in-Ok-clause-front
returns-in-Ok-clause-front g c = tt

pub returns-in-Ok-clause-cause : goal.returns-in-Ok-clause-cause
returns-in-Ok-clause-cause g c = λ is. absurd (none_failed is)

pub returns-in-Ok-clause-later : goal.returns-in-Ok-clause-later
returns-in-Ok-clause-later g c = c.in-Ok.ensures.begun.later

pub returns-in-Ok-clause-others : goal.returns-in-Ok-clause-others
returns-in-Ok-clause-others g c = c.in-Ok.ensures.begun.others

pub begin-begun-requires-clause-names : goal.begin-begun-requires-clause-names
begin-begun-requires-clause-names g c = subst AreNames (sym c.as_slice-2.ensures) c.requires.names

pub begin-begun-requires-clause-entries : goal.begin-begun-requires-clause-entries
begin-begun-requires-clause-entries g c = subst (λ (ts : List TermHeads). AreEntries (map entry_data ts)) (sym c.as_slice-3.ensures) c.requires.terms

pub heads_sums-sums-requires : goal.heads_sums-sums-requires
heads_sums-sums-requires g c = subst (λ (ts : List TermHeads). length (all_heads (map entry_data ts)) ≤ MOST_POSTINGS) (sym c.as_slice.ensures) (c.entries_are_small.ensures.heads (map entry_data c.args.terms) c.requires.terms)

pub overflow_cast-totals : goal.overflow_cast-totals
overflow_cast-totals g c = omega (arith, c.len.ensures, c.requires.names.few)

pub overflow_cast-totals-2 : goal.overflow_cast-totals-2
overflow_cast-totals-2 g c = omega (arith, c.len-2.ensures, c.requires.terms.few, length-map c.args.terms entry_data)

pub begin-begun-requires-clause-totals : goal.begin-begun-requires-clause-totals
begin-begun-requires-clause-totals g c =
    totals_summed c.len.result c.len-2.result c.heads_sums-sums.result.postings c.heads_sums-sums.result.greatest (length c.as_slice-2.result.now) (map entry_data c.as_slice-3.result.now)
    (c.len.ensures ∙ ap (λ (ns : List (List ℕ)). length ns) (sym c.as_slice-2.ensures))
    (c.len-2.ensures ∙ sym (length-map c.args.terms entry_data) ∙ ap (λ (ts : List TermHeads). length (map entry_data ts)) (sym c.as_slice-3.ensures))
    (c.heads_sums-sums.ensures.postings ∙ ap (λ (ts : List TermHeads). head_postings (map entry_data ts)) (c.as_slice.ensures ∙ sym c.as_slice-3.ensures))
    (c.heads_sums-sums.ensures.greatest ∙ ap (λ (ts : List TermHeads). greatest_impact (map entry_data ts)) (c.as_slice.ensures ∙ sym c.as_slice-3.ensures))

pub begin-begun-requires-clause-payloads : goal.begin-begun-requires-clause-payloads
begin-begun-requires-clause-payloads g c = c.heads_sums-sums.ensures.payloads ∙ ap (λ (ts : List TermHeads). payloads_size (map entry_data ts)) (c.as_slice.ensures ∙ sym c.as_slice-3.ensures)

pub begin-begun-requires-clause-few : goal.begin-begun-requires-clause-few
begin-begun-requires-clause-few g c =
    few_bytes c.heads_sums-sums.result.payloads (length (all_heads (map entry_data c.as_slice.result.now))) c.heads_sums-sums.ensures.few_bytes
    (subst (λ (ts : List TermHeads). length (all_heads (map entry_data ts)) ≤ MOST_POSTINGS) (sym c.as_slice.ensures) (c.entries_are_small.ensures.heads (map entry_data c.args.terms) c.requires.terms))

pub invariant_of-result : goal.invariant_of-result
invariant_of-result g c = (
  totals_summed c.len.result c.len-2.result c.heads_sums-sums.result.postings c.heads_sums-sums.result.greatest c.len.result (map entry_data c.args.terms) refl
      (c.len-2.ensures ∙ sym (length-map c.args.terms entry_data)) (c.heads_sums-sums.ensures.postings ∙ ap (λ (ts : List TermHeads). head_postings (map entry_data ts)) c.as_slice.ensures)
      (c.heads_sums-sums.ensures.greatest ∙ ap (λ (ts : List TermHeads). greatest_impact (map entry_data ts)) c.as_slice.ensures),
  tt,
)

pub invariant_of-result-in-Ok : goal.invariant_of-result-in-Ok
invariant_of-result-in-Ok g c = record {
  docs = subst (λ (n : ℕ). n ≤ MOST_DOCUMENTS) (sym c.len.ensures) c.requires.names.few;
  entries = c.requires.terms;
  left = omega (arith, c.len-in-Ok.ensures, length-map c.args.terms entry_data);
}

pub returns-in-Ok-clause-docs : goal.returns-in-Ok-clause-docs
returns-in-Ok-clause-docs g c = c.len.ensures

pub returns-in-Ok-clause-entries : goal.returns-in-Ok-clause-entries
returns-in-Ok-clause-entries g c = refl

pub returns-in-Ok-clause-left : goal.returns-in-Ok-clause-left
returns-in-Ok-clause-left g c = c.len-in-Ok.ensures
