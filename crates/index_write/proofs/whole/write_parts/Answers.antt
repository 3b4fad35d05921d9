-- The parts are those of the file.
use Rattle.shared_lemmas.proofs.Common.{ℕ, ◌≤◌, List, length, ap, arith, refl, subst, ◌∙◌}
use Rattle.index_write.proofs.Below.{Sets}
use Rattle.index_write.specs.Saving.{LeavesPrefix}
use Rattle.index_write.proofs.Spelling.{length_of_parts, parts_joined, totals_of_parts}
use Rattle.jass_base.specs.declared.limits.TheConstants.{LONGEST_FILE}
use Rattle.index_write.proofs.whole.write_parts.Goals as goal

pub returns-in-Ok-put-clause-content : goal.returns-in-Ok-put-clause-content
returns-in-Ok-put-clause-content g c = λ all entries named has.
    subst (λ (text : List ℕ). Sets (g.C.Cabinet.told c.args.files.now) (g.C.Cabinet.told c.put_parts-put.new.files) c.args.name.now text)
    (parts_joined c.args.names.now all c.args.terms.now entries c.args.payloads.now named has c.len.result c.file_len-len.result c.totals-totals.result c.as_slice.result.now c.as_slice-docs.result.now c.args.terms.now.bytes
    c.len.ensures c.totals-totals.ensures (c.as_slice.ensures ∙ c.in-Ok.ensures) c.as_slice-docs.ensures refl c.file_len-len.ensures.len c.if-len-gt-LONGEST_FILE.false)
    c.in-Ok-put.ensures.ok

pub returns-then-len-gt-LONGEST_FILE-clause-fault : goal.returns-then-len-gt-LONGEST_FILE-clause-fault
returns-then-len-gt-LONGEST_FILE-clause-fault g c = λ all entries named has.
    let judged = c.file_len-len.ensures in
    let small = c.entries_are_small.ensures.terms entries has.are in
    (omega (arith, judged.len, judged.few, ap length c.as_slice-docs.ensures, ap length named.spelled.bytes, ap length has.spelled.bytes, has.sizes, small), omega (arith, c.if-len-gt-LONGEST_FILE.true))

pub returns-in-Err-put-clause-front : goal.returns-in-Err-put-clause-front
returns-in-Err-put-clause-front g c = λ all entries named has.
    subst (λ (text : List ℕ). LeavesPrefix (g.C.Cabinet.told c.args.files.now) (g.C.Cabinet.told c.put_parts-put.new.files) c.args.name.now text)
    (parts_joined c.args.names.now all c.args.terms.now entries c.args.payloads.now named has c.len.result c.file_len-len.result c.totals-totals.result c.as_slice.result.now c.as_slice-docs.result.now c.args.terms.now.bytes
    c.len.ensures c.totals-totals.ensures (c.as_slice.ensures ∙ c.in-Ok.ensures) c.as_slice-docs.ensures refl c.file_len-len.ensures.len c.if-len-gt-LONGEST_FILE.false)
    c.in-Err-put.ensures.err

pub returns-in-Err-clause-fault : goal.returns-in-Err-clause-fault
returns-in-Err-clause-fault g c = λ all entries named has.
    let fit : c.file_len-len.result ≤ LONGEST_FILE = c.if-len-gt-LONGEST_FILE.false in
    subst (λ (n : ℕ). n ≤ LONGEST_FILE)
    (length_of_parts c.args.names.now all c.args.terms.now entries c.args.payloads.now named has c.file_len-len.result c.as_slice-docs.result.now c.args.terms.now.bytes c.as_slice-docs.ensures refl c.file_len-len.ensures.len fit) fit

pub returns-in-Ok-put-clause-fits : goal.returns-in-Ok-put-clause-fits
returns-in-Ok-put-clause-fits g c = λ all entries named has.
    let fit : c.file_len-len.result ≤ LONGEST_FILE = c.if-len-gt-LONGEST_FILE.false in
    subst (λ (n : ℕ). n ≤ LONGEST_FILE)
    (length_of_parts c.args.names.now all c.args.terms.now entries c.args.payloads.now named has c.file_len-len.result c.as_slice-docs.result.now c.args.terms.now.bytes c.as_slice-docs.ensures refl c.file_len-len.ensures.len fit) fit

pub returns-in-Err-put-clause-fault : goal.returns-in-Err-put-clause-fault
returns-in-Err-put-clause-fault g c = λ all entries named has.
    let fit : c.file_len-len.result ≤ LONGEST_FILE = c.if-len-gt-LONGEST_FILE.false in
    subst (λ (n : ℕ). n ≤ LONGEST_FILE)
    (length_of_parts c.args.names.now all c.args.terms.now entries c.args.payloads.now named has c.file_len-len.result c.as_slice-docs.result.now c.args.terms.now.bytes c.as_slice-docs.ensures refl c.file_len-len.ensures.len fit) fit

pub returns-in-Ok-put-clause-totals : goal.returns-in-Ok-put-clause-totals
returns-in-Ok-put-clause-totals g c = λ all entries named has.
    totals_of_parts c.args.names.now all c.args.terms.now entries c.args.payloads.now named has c.len.result c.totals-totals.result c.len.ensures c.totals-totals.ensures
