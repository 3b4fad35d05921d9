use Rattle.shared_lemmas.proofs.Common.{◌≡◌, ◌+◌, ◌<◌, ◌≤◌, ℕ, Err, drop, length, take, inl, inr, sym, subst, ◌∙◌, ap, arith, cases_lt, rules}
use Rattle.index_layout.specs.Reading.{read_payloads}
use Rattle.index_file.specs.Private.Payloads.{IsPlaced, row_terms}
use Rattle.index_file.specs.Private.Tables.{group_count, heads_between, row_at, row_heads}
use Rattle.index_file.proofs.HeadLists.{part_length}
use Rattle.index_file.proofs.RowLists.{index_next, index_not, placed_stays, row_placed}
use Rattle.index_file.proofs.RowOrder.{rows_in_order}
use Rattle.index_file.proofs.payloads.read_payloads.Goals as goal

pub read_term_payloads-requires-clause-some : goal.read_term_payloads-requires-clause-some
read_term_payloads-requires-clause-some c = (rows_in_order c.args.heads.now c.requires.rows.0 c.args.rows.now c.terms.i c.requires.rows.1 (omega (arith, c.terms-test.true))).heads_rise

pub read_term_payloads-requires-clause-there : goal.read_term_payloads-requires-clause-there
read_term_payloads-requires-clause-there c = (rows_in_order c.args.heads.now c.requires.rows.0 c.args.rows.now c.terms.i c.requires.rows.1 (omega (arith, c.terms-test.true))).heads_within

pub returns-in_err-at-clause-exact : goal.returns-in_err-at-clause-exact
returns-in_err-at-clause-exact c = λ text.
    let bytes = c.args.bytes.now in
    let heads = c.args.heads.now in
    let rows = c.args.rows.now in
    let out : c.from_residual.result ≡ Err c.in_err-at.field-0.0 = search rules in
    rw out (index_not bytes c.args.docs heads text rows c.terms.i c.terms.at (read_payloads bytes c.args.docs (row_heads heads text rows) 0)
    (row_terms bytes c.args.docs heads text c.terms.groups (take (c.terms.i + 1) rows)) c.in_err-at.field-0.0 (omega (arith, c.terms-test.true)) (c.terms.invariant.read text) c.in_err-at.ensures.exact)

pub terms-preserved : goal.terms-preserved
terms-preserved c =
    let bytes = c.args.bytes.now in
    let d = c.args.docs in
    let heads = c.args.heads.now in
    let rows = c.args.rows.now in
    let i = c.terms.i in
    let row = row_at rows i in
    let its = heads_between heads row (row_at rows (i + 1)) in
    let groups = c.terms.groups in
    let newer = c.read_term_payloads.new.groups in
    let added = drop (length groups) newer in
    let stands = c.terms.invariant in
    let inside : i + 1 < length rows = omega (arith, c.terms-test.true) in
    let order = rows_in_order heads c.requires.rows.0 rows i c.requires.rows.1 inside in
    let rise = order.heads_rise in
    let long = part_length heads row.head (row_at rows (i + 1)).head (omega (arith, rise)) order.heads_within in
    let here = row_placed bytes d groups added newer row its c.terms.at c.in_ok-at.ensures.kept stands.groups (omega (arith, rise, long)) c.in_ok-at.ensures.payloads c.in_ok-at.ensures.groups in
    let some : (t : ℕ) → t < i → 1 ≤ length (heads_between heads (row_at rows t) (row_at rows (t + 1))) = λ t low.
    let order = rows_in_order heads c.requires.rows.0 rows t c.requires.rows.1 (omega (arith, low, inside)) in
    let rise = order.heads_rise in
    let long = part_length heads (row_at rows t).head (row_at rows (t + 1)).head (omega (arith, rise)) order.heads_within in
    omega (arith, rise, long) in
    let below : (t : ℕ) → t < i → (row_at rows t).group < length groups = λ t low.
    let some = some t low in
    let in_groups = (stands.placed t low).inside in
    omega (arith, some, in_groups) in
    record {
      read = λ text. index_next bytes d heads rows i groups added newer inside c.in_ok-at.ensures.kept below text (read_payloads bytes d (row_heads heads text rows) 0) c.terms.at c.in_ok-at.at here.first (stands.read text) c.in_ok-at.ensures.exact;
      placed = λ t low. elim (cases_lt t i) [
        | inl l ↦ subst (λ all. IsPlaced bytes d all (row_at rows t) (heads_between heads (row_at rows t) (row_at rows (t + 1)))) (sym c.in_ok-at.ensures.kept)
            (placed_stays bytes d groups added (row_at rows t) (heads_between heads (row_at rows t) (row_at rows (t + 1))) (some t l) (stands.placed t l))
        | inr g ↦ (let last : i ≡ t = omega (arith, low, g) in subst (λ t. IsPlaced bytes d newer (row_at rows t) (heads_between heads (row_at rows t) (row_at rows (t + 1)))) last here.placed)
      ];
      groups = here.behind ∙ ap (λ n. row.group + group_count n) long ∙ sym order.groups;
      marks = c.in_ok-at.ensures.marks.1;
      count = c.in_ok-at.ensures.marks.0;
      at = c.in_ok-at.ensures.end;
    }
