use Rattle.shared_lemmas.proofs.Common.{rules, ◌≡◌, ◌+◌, ◌-◌, suc, List, Some, None, Result, Ok, Err, ap, sym, ◌∙◌, arith}
use Rattle.index_file.specs.declared.term_table.TermTable.{TermTable}
use Rattle.index_file.proofs.Below.{OpenRefusal, TermHeads, TermsRead, read_terms, with_terms}
use Rattle.index_file.specs.Private.Gathered.{last_read, terms_read}
use Rattle.index_file.specs.Private.Tables.{row_heads}
use Rattle.index_file.proofs.TermSteps.{all_terms, one_not, one_on, terms_end}
use Rattle.index_file.proofs.terms.read_terms.Goals as goal

pub terms-init : goal.terms-init
terms-init c =
    let bytes = c.args.bytes.now in
    let none = c.new-reader.ensures.none in
    let r = c.new-reader.result in
    let left : c.args.count ≡ c.args.count - 0 = omega arith in
    record {
      read = all_terms bytes c.args.docs c.args.count c.args.from (terms_read r) (last_read r) none.0 none.1
          ∙ ap (λ n. with_terms (terms_read r) (read_terms bytes c.args.docs n (last_read r) c.args.from)) left;
      start = omega arith;
      at = c.requires.from;
      reader = c.new-reader.ensures.reader c.args.docs;
      heads = omega (arith, c.new-reader.ensures.heads);
      count = c.new-reader.ensures.rows;
    }

pub terms-preserved : goal.terms-preserved
terms-preserved c =
    let bytes = c.args.bytes.now in
    let d = c.args.docs in
    let old = c.terms.reader in
    let new = c.read_one.new.self in
    let was = c.terms.invariant in
    let one = c.in_ok-at.ensures.one.1 in
    let term : TermHeads = c.in_ok-at.ensures.one.0 in
    let left = c.args.count - (c.terms.counter + 1) in
    let more : c.args.count - c.terms.counter ≡ suc left = omega arith in
    record {
      read = one_on bytes d left (last_read old) c.terms.at c.in_ok-at.at term (read_terms bytes d c.args.count None c.args.from) (terms_read old) (c.args.count - c.terms.counter) one.read was.read more
          ∙ ap (λ (front : List TermHeads). with_terms front (read_terms bytes d left (Some term.term) c.in_ok-at.at)) (sym one.terms)
          ∙ ap (λ before. with_terms (terms_read new) (read_terms bytes d left before c.in_ok-at.at)) (sym one.last);
      start = omega (arith, was.start, one.rises);
      at = c.in_ok-at.ensures.end;
      reader = one.reader;
      heads = omega (arith, was.heads, one.heads);
      count = omega (arith, was.count, one.count);
    }

pub returns-in_err-at-clause-exact : goal.returns-in_err-at-clause-exact
returns-in_err-at-clause-exact c =
    let fault = c.in_err-at.field-0.0 in
    let out : c.from_residual.result ≡ Err fault = search rules in
    let left = c.args.count - (c.terms.counter + 1) in
    rw out (one_not c.args.bytes.now c.args.docs left (last_read c.terms.reader) c.terms.at fault (read_terms c.args.bytes.now c.args.docs c.args.count None c.args.from)
    (terms_read c.terms.reader) (c.args.count - c.terms.counter) c.in_err-at.ensures.refused c.terms.invariant.read (omega arith))

pub returns-clause-exact : goal.returns-clause-exact
returns-clause-exact c =
    terms_end c.args.bytes.now c.args.docs (read_terms c.args.bytes.now c.args.docs c.args.count None c.args.from) (terms_read c.terms.reader) (c.args.count - c.terms.counter)
    (last_read c.terms.reader) c.terms.at c.terms.invariant.read (omega arith)
    ∙ ap (λ (t : TermTable). (let r : Result TermsRead OpenRefusal = Ok (record { terms = row_heads t.heads t.text t.rows; end = c.terms.at }) in r)) (sym c.in_ok-table.ensures.table)
