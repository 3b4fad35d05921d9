-- What was appended are the payloads of the writer's next term.
use Rattle.std.proofs.Common.{ℕ, ◌≡◌, ◌≤◌, ◌⊎◌, ◌∙◌, All, List, Option, ap, ap₂, arith, length, map, subst, sym, take}
use Rattle.shared_lemmas.proofs.Common.{length-map}
use Rattle.index_write.proofs.Below.{AreDocs, Extends, Segment, segment_data}
use Rattle.index_write.specs.Chosen.{chosen_heads, chosen_payloads}
use Rattle.index_write.specs.Streaming.{Unappended, WriterView, behind_term, change_of, entry_data, heads_left, next_heads}
use Rattle.index_write.specs.declared.change.Change.{Change}
use Rattle.index_write.specs.declared.term_heads.TermHeads.{TermHeads}
use Rattle.index_write.proofs.Begun.{still_fault}
use Rattle.index_write.proofs.writer.IndexWriter.term.Goals as goal

pub heads_left-heads-requires-clause-some : goal.heads_left-heads-requires-clause-some
heads_left-heads-requires-clause-some g c = subst (λ (w : WriterView). 1 ≤ w.left) (sym c.self.view_is) c.requires.left

pub heads_left-heads-requires-clause-within : goal.heads_left-heads-requires-clause-within
heads_left-heads-requires-clause-within g c = omega (arith, c.self.invariant.left, length-map c.self.inside.entries entry_data, ap length c.as_slice.ensures)

pub append_payloads-appended-requires : goal.append_payloads-appended-requires
append_payloads-appended-requires g c = subst (λ (w : WriterView). All (λ (s : Segment). AreDocs w.docs s.docs) c.args.segments.now) (sym c.self.view_is) c.requires.docs

pub overflow_sub-result : goal.overflow_sub-result
overflow_sub-result g c = subst (λ (w : WriterView). 1 ≤ w.left) (sym c.self.view_is) c.requires.left

pub invariant_of-result : goal.invariant_of-result
invariant_of-result g c = (c.self.inside.totals_are, tt)

pub returns-in-Ok-clause-writer : goal.returns-in-Ok-clause-writer
returns-in-Ok-clause-writer g c = ap behind_term c.self.view_is

pub returns-in-Ok-clause-heads : goal.returns-in-Ok-clause-heads
returns-in-Ok-clause-heads g c =
    let segments = map segment_data c.args.segments.now in
    sym (ap (λ (w : WriterView). chosen_heads w.docs segments) c.self.view_is) ∙ c.in-Ok.ensures.heads ∙ c.heads_left-heads.ensures
    ∙ ap (λ (ts : List TermHeads). heads_left (map entry_data ts) c.self.inside.left) c.as_slice.ensures ∙ ap (λ (w : WriterView). next_heads w) c.self.view_is

pub returns-in-Ok-clause-content : goal.returns-in-Ok-clause-content
returns-in-Ok-clause-content g c =
    let segments = map segment_data c.args.segments.now in
    let old = g.C.Cabinet.told c.args.files.now in
    let new = g.C.Cabinet.told c.append_payloads-appended.new.files in
    subst (λ (w : WriterView). Extends old new w.name (chosen_payloads w.docs segments)) c.self.view_is
    (subst (λ (name : List ℕ). Extends old new name (chosen_payloads c.self.inside.totals.docs segments)) c.as_str.ensures.bytes c.in-Ok.ensures.content)

pub returns-in-Err-clause-content : goal.returns-in-Err-clause-content
returns-in-Err-clause-content g c =
    let segments = map segment_data c.args.segments.now in
    let old = g.C.Cabinet.told c.args.files.now in
    let new = g.C.Cabinet.told c.append_payloads-appended.new.files in
    subst (λ (w : WriterView). (new ≡ old) ⊎ ((n : ℕ) × Extends old new w.name (take n (chosen_payloads w.docs segments)))) c.self.view_is
    (subst (λ (name : List ℕ). (new ≡ old) ⊎ ((n : ℕ) × Extends old new name (take n (chosen_payloads c.self.inside.totals.docs segments)))) c.as_str.ensures.bytes c.in-Err.ensures.content)

pub returns-in-Err-clause-fault : goal.returns-in-Err-clause-fault
returns-in-Err-clause-fault g c =
    let segments = map segment_data c.args.segments.now in
    subst (λ (change : Option Change). Unappended change c.in-Err.fault) (ap₂ change_of (c.heads_left-heads.ensures
    ∙ ap (λ (ts : List TermHeads). heads_left (map entry_data ts) c.self.inside.left) c.as_slice.ensures ∙ ap (λ (w : WriterView). next_heads w) c.self.view_is)
    (ap (λ (w : WriterView). chosen_heads w.docs segments) c.self.view_is)) c.in-Err.ensures.fault

pub returns-in-Err-clause-cause : goal.returns-in-Err-clause-cause
returns-in-Err-clause-cause g c = λ is. c.in-Err.ensures.cause (still_fault is)
