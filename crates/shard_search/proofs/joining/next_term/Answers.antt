use Rattle.std.proofs.Common.{List, slice_index_or, length, ap, ap₂, sym, ◌∙◌, arith, [], ◌<◌}
use Rattle.shared_lemmas.proofs.Common.{slice_cmp, nat_cmp}
use Rattle.index_model.specs.Index.{TermData}
use Rattle.index_file.specs.Places.{term_at}
use Rattle.shard_search.proofs.Joins.{both_next, first_next, second_next, terms_counted, text_at}
use Rattle.shard_search.specs.Parts.{index_at}
use Rattle.shard_search.specs.Private.Tables.{told_terms}
use Rattle.shard_search.specs.declared.rows.TermRow.{TermRow}
use Rattle.shard_search.proofs.joining.next_term.Goals as goal

abbrev none : TermRow
none = record { part = 0; term = 0; span = record { from = 0; to = 0 } }

abbrev nothing : TermData
nothing = record { term = []; segments = [] }

pub returns-then-i-len-clause-order : goal.returns-then-i-len-clause-order
returns-then-i-len-clause-order c =
    let files = c.args.parts.now in
    let count = terms_counted files c.args.first.now in
    sym (second_next (told_terms files c.args.first.now) (told_terms files c.args.second.now) c.args.i c.args.j (omega (arith, count, c.len.ensures, c.if-i-len.true)))

pub returns-then-j-len-clause-order : goal.returns-then-j-len-clause-order
returns-then-j-len-clause-order c =
    let files = c.args.parts.now in
    let count = terms_counted files c.args.first.now in
    let others = terms_counted files c.args.second.now in
    sym (first_next (told_terms files c.args.first.now) (told_terms files c.args.second.now) c.args.i c.args.j nothing
    (omega (arith, count, c.len.ensures, c.if-i-len.false)) (omega (arith, others, c.len-2.ensures, c.if-j-len.true)))

pub returns-clause-order : goal.returns-clause-order
returns-clause-order c =
    let files = c.args.parts.now in
    let first = c.args.first.now in
    let second = c.args.second.now in
    let count = terms_counted files first in
    let others = terms_counted files second in
    let some : c.args.i < length first.terms = omega (arith, c.len.ensures, c.if-i-len.false) in
    let more : c.args.j < length second.terms = omega (arith, c.len-2.ensures, c.if-j-len.false) in
    c.cmp.ensures
    ∙ ap₂ (slice_cmp nat_cmp)
    (c.as_bytes.ensures.value ∙ c.text_of-term.ensures
    ∙ ap (λ (rows : List TermRow). term_at (index_at files (slice_index_or rows c.args.i none).part).terms (slice_index_or rows c.args.i none).term) c.as_slice.ensures
    ∙ sym (text_at files first c.args.i none nothing some))
    (c.as_bytes-2.ensures.value ∙ c.text_of-other.ensures
    ∙ ap (λ (rows : List TermRow). term_at (index_at files (slice_index_or rows c.args.j none).part).terms (slice_index_or rows c.args.j none).term) c.as_slice-2.ensures
    ∙ sym (text_at files second c.args.j none nothing more))
    ∙ sym (both_next (told_terms files first) (told_terms files second) c.args.i c.args.j nothing (omega (arith, count, some)) (omega (arith, others, more)))
