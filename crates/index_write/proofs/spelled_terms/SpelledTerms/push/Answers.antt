-- The term stands behind the others.
use Rattle.shared_lemmas.proofs.Common.{◌++◌, ◌+◌, ◌-◌, ◌^◌, ap, length-map, map, subst, sym, ◌∙◌, max, min}
use Rattle.index_write.specs.Chosen.{head_data}
use Rattle.index_write.specs.Spelled.{AreSpelled, SpelledView}
use Rattle.index_write.proofs.Spelling.{joined_put, part_put, spelled_more}
use Rattle.index_write.proofs.spelled_terms.SpelledTerms.push.Goals as goal

pub returns : goal.returns
returns c = λ entries are few.
    let f = c.self.inside in
    let heads = map head_data c.args.heads.now in
    let old : SpelledView = record { bytes = f.blocks ++ f.block; last = f.last; terms = f.count; postings = f.postings; greatest = f.greatest } in
    let new : SpelledView = record { bytes = c.push_full.new.self ++ c.push_full.new.block; last = c.extend.new.self; terms = c.saturating_add-self-inside.result; postings = c.saturating_add-self-inside-2.result; greatest = c.max-self-inside.result } in
    let sums = c.term_sums-sums.ensures in
    spelled_more old new entries (record { term = c.args.term.now; heads = heads }) (subst (λ (v : SpelledView). AreSpelled v entries) (sym c.self.view_is) are) few
    (joined_put c.push_full.new.self c.push_full.new.block f.blocks f.block c.put_entry.new.out _ c.in_ok-push_full.ensures
    (part_put c.put_entry.new.out f.block c.as_slice.result.now f.last c.as_bytes-text.result.now c.args.term.now _ heads c.as_slice.ensures c.as_bytes-text.ensures.value (sym (length-map c.args.heads.now head_data)) c.in_ok-put_entry.ensures))
    (c.in_ok-extend.ensures.ok ∙ ap (λ xs. xs ++ c.as_bytes-text.result.now) c.truncate.ensures ∙ c.as_bytes-text.ensures.value)
    c.saturating_add-self-inside.ensures (c.saturating_add-self-inside-2.ensures ∙ ap (λ n. min (f.postings + n) (2 ^ 64 - 1)) sums.postings) (c.max-self-inside.ensures ∙ ap (max f.greatest) sums.greatest)
