use Rattle.shared_lemmas.proofs.Common.{◌≡◌, ◌+◌, ◌≤◌, ℕ, List, ◌∷◌, ◌++◌, [], Some, All, All-append, subst, length, ap, refl, sym, ◌∙◌, arith, length-append}
use Rattle.index_file.proofs.Below.{HeadsRead, all_heads, heads_in, read_heads, term_in}
use Rattle.index_file.specs.declared.span.Span.{Span}
use Rattle.index_file.specs.declared.term_row.TermRow.{TermRow}
use Rattle.index_file.specs.Parts.{IsCounted, heads_from}
use Rattle.index_file.specs.Private.Gathered.{last_read, terms_read}
use Rattle.index_file.specs.Private.Tables.{group_count}
use Rattle.index_file.proofs.HeadsFrom.{heads_length}
use Rattle.index_file.proofs.TermRows.{rows_next}
use Rattle.index_file.proofs.TermSteps.{end_behind, one_read}
use Rattle.index_file.proofs.term_reader.TermReader.read_one.Goals as goal

pub returns-clause-one : goal.returns-clause-one
returns-clause-one c =
    let bytes = c.args.bytes.now in
    let d = c.args.docs in
    let old = c.args.self.now in
    let at = c.args.at in
    let was = c.requires.reader in
    let before = last_read old in
    let term = term_in bytes before at in
    let newer = c.read_term.new.text in
    let newest = c.push.new.self in
    let longer = c.append.new.self in
    let place = c.in_ok-place.place in
    let n = c.in_ok-place.count in
    let more = heads_from bytes n place in
    let many : length more ≡ n = heads_length bytes n place in
    let row : TermRow = record { text = c.len-start.result; head = c.len-head.result; group = old.groups } in
    let span : Span = record { from = c.len-start.result; to = c.len-2.result } in
    let here : HeadsRead = record { heads = more; end = c.in_ok-end.end } in
    let behind = end_behind bytes before at place c.in_ok-place.ensures.exact in
    let next = old.groups + c.div_ceil.result in
    let grouped : next ≡ old.groups + group_count (length more) = omega (arith, many, c.div_ceil.ensures) in
    let some : 1 ≤ length more = omega (arith, many, c.in_ok-place.ensures.some) in
    let wider : longer ≡ old.heads ++ more = c.in-Ok.ensures in
    let put : newest ≡ old.rows ++ row ∷ [] = c.in-Ok-push.ensures.ok in
    let read : read_heads bytes d (heads_in bytes at) 65536 place ≡ _ = ap (λ n. read_heads bytes d n 65536 place) (sym c.in_ok-place.ensures.heads) ∙ c.in_ok-end.ensures.exact in
    let after = rows_next old.heads more longer old.text term newer old.rows newest row old.groups next c.read_heads.new.sums span wider c.in_ok-place.ensures.term put was.rows
    c.len-start.ensures c.len-head.ensures refl some grouped (c.in_ok-end.ensures.sums (all_heads (terms_read old)) was.sums) c.len-start.ensures c.len-2.ensures in
    let count = ap length wider ∙ length-append old.heads more in (
      record { term = term; heads = more },
      record {
        reader = record {
          rows = after.are;
          counted = subst (All (IsCounted d)) (sym wider) (All-append (IsCounted d) old.heads more was.counted c.in_ok-end.ensures.counted);
          sums = after.sums_are;
          before = after.span_is;
          small = omega (arith, count, many, c.in_ok-end.ensures.small, c.in_ok-end.ensures.place, was.small);
          groups = omega (arith, count, many, c.div_ceil.ensures, was.groups);
          few = omega (arith, c.len.ensures, c.if-len-most_text.false, c.requires.most);
        };
        read = one_read bytes d before at place here c.in_ok-place.ensures.exact read;
        terms = after.terms_are;
        last = ap (λ (t : List ℕ). Some t) after.part;
        count = ap length put ∙ length-append old.rows (row ∷ []);
        heads = omega (arith, count, many, c.in_ok-end.ensures.place, behind);
        rises = omega (arith, c.in_ok-end.ensures.place, behind);
      },
    )
