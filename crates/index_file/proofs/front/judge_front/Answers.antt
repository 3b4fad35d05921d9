use Rattle.shared_lemmas.proofs.Common.{◌≡◌, ◌==◌, true, false, nat_lt, nat_eq, length, sym, ◌∙◌, refl, arith, nat_tests}
use Rattle.std.specs.List.{starts_with}
use Rattle.index_layout.specs.Bytes.{u32_in, u64_in}
use Rattle.index_layout.specs.Layout.{magic, old_magic}
use Rattle.index_file.proofs.FrontMoves.{above_is, below_is, front_as, front_fits, short_or_other, size_as, totals_as}
use Rattle.jass_base.specs.declared.limits.TheConstants.{MOST_DOCUMENTS, MOST_POSTINGS, MOST_TERMS}
use Rattle.index_file.proofs.front.judge_front.Goals as goal

pub returns-then-is_long-clause-exact : goal.returns-then-is_long-clause-exact
returns-then-is_long-clause-exact c = λ content piece long fits.
    rw c.refused.ensures (front_as content c.args.bytes.now c.args.is_long c.args.fits piece long fits ∙ rw c.if-is_long.true refl)

pub returns-then-starts_with-clause-exact : goal.returns-then-starts_with-clause-exact
returns-then-starts_with-clause-exact c = λ content piece long fits.
    let bytes = c.args.bytes.now in
    let old : starts_with nat_eq bytes old_magic ≡ true = sym c.starts_with.ensures.value ∙ c.if-starts_with.true in
    rw c.refused-then-starts_with.ensures (front_as content bytes c.args.is_long c.args.fits piece long fits ∙ rw (c.if-is_long.false, old) refl)

pub returns-then-not-starts_with-clause-exact : goal.returns-then-not-starts_with-clause-exact
returns-then-not-starts_with-clause-exact c = λ content piece long fits.
    let bytes = c.args.bytes.now in
    let old : starts_with nat_eq bytes old_magic ≡ false = sym c.starts_with.ensures.value ∙ c.if-starts_with.false in
    let new : starts_with nat_eq bytes magic ≡ false = sym c.starts_with-2.ensures.value ∙ c.if-not-starts_with.true in
    rw c.refused-then-not-starts_with.ensures (front_as content bytes c.args.is_long c.args.fits piece long fits ∙ rw (c.if-is_long.false, old, new) refl)

pub returns-then-bytes-lt40-clause-exact : goal.returns-then-bytes-lt40-clause-exact
returns-then-bytes-lt40-clause-exact c = λ content piece long fits.
    let bytes = c.args.bytes.now in
    let old : starts_with nat_eq bytes old_magic ≡ false = sym c.starts_with.ensures.value ∙ c.if-starts_with.false in
    let new : starts_with nat_eq bytes magic ≡ true = sym c.starts_with-2.ensures.value ∙ c.if-not-starts_with.false in
    rw c.refused-then-bytes-lt40.ensures (front_as content bytes c.args.is_long c.args.fits piece long fits ∙ rw (c.if-is_long.false, old, new, short_or_other (length bytes) c.args.fits c.then-bytes-lt40.either) refl)

pub returns-then-docs-gt-MOST_DOCUMENTS-clause-exact : goal.returns-then-docs-gt-MOST_DOCUMENTS-clause-exact
returns-then-docs-gt-MOST_DOCUMENTS-clause-exact c = λ content piece long fits.
    let bytes = c.args.bytes.now in
    let old : starts_with nat_eq bytes old_magic ≡ false = sym c.starts_with.ensures.value ∙ c.if-starts_with.false in
    let new : starts_with nat_eq bytes magic ≡ true = sym c.starts_with-2.ensures.value ∙ c.if-not-starts_with.false in
    let begins = front_as content bytes c.args.is_long c.args.fits piece long fits ∙ front_fits bytes c.args.is_long c.args.fits c.if-is_long.false old new c.if-bytes-lt40.false c.if-not-fits.false in
    let docs : nat_lt MOST_DOCUMENTS (u32_in bytes 16) ≡ true = above_is MOST_DOCUMENTS (u32_in bytes 16) c.u32_at-docs.result c.u32_at-docs.ensures c.if-docs-gt-MOST_DOCUMENTS.true in
    rw c.refused-then-docs-gt-MOST_DOCUMENTS.ensures (begins ∙ rw (docs) refl)

pub returns-then-terms-gt-MOST_TERMS-clause-exact : goal.returns-then-terms-gt-MOST_TERMS-clause-exact
returns-then-terms-gt-MOST_TERMS-clause-exact c = λ content piece long fits.
    let bytes = c.args.bytes.now in
    let old : starts_with nat_eq bytes old_magic ≡ false = sym c.starts_with.ensures.value ∙ c.if-starts_with.false in
    let new : starts_with nat_eq bytes magic ≡ true = sym c.starts_with-2.ensures.value ∙ c.if-not-starts_with.false in
    let begins = front_as content bytes c.args.is_long c.args.fits piece long fits ∙ front_fits bytes c.args.is_long c.args.fits c.if-is_long.false old new c.if-bytes-lt40.false c.if-not-fits.false in
    let docs : nat_lt MOST_DOCUMENTS (u32_in bytes 16) ≡ false = below_is MOST_DOCUMENTS (u32_in bytes 16) c.u32_at-docs.result c.u32_at-docs.ensures c.if-docs-gt-MOST_DOCUMENTS.false in
    let terms : nat_lt MOST_TERMS (u32_in bytes 20) ≡ true = above_is MOST_TERMS (u32_in bytes 20) c.u32_at-terms.result c.u32_at-terms.ensures c.if-terms-gt-MOST_TERMS.true in
    rw c.refused-then-terms-gt-MOST_TERMS.ensures (begins ∙ rw (docs, terms) refl)

pub returns-then-postings-gt-MOST_POSTINGS-clause-exact : goal.returns-then-postings-gt-MOST_POSTINGS-clause-exact
returns-then-postings-gt-MOST_POSTINGS-clause-exact c = λ content piece long fits.
    let bytes = c.args.bytes.now in
    let old : starts_with nat_eq bytes old_magic ≡ false = sym c.starts_with.ensures.value ∙ c.if-starts_with.false in
    let new : starts_with nat_eq bytes magic ≡ true = sym c.starts_with-2.ensures.value ∙ c.if-not-starts_with.false in
    let begins = front_as content bytes c.args.is_long c.args.fits piece long fits ∙ front_fits bytes c.args.is_long c.args.fits c.if-is_long.false old new c.if-bytes-lt40.false c.if-not-fits.false in
    let docs : nat_lt MOST_DOCUMENTS (u32_in bytes 16) ≡ false = below_is MOST_DOCUMENTS (u32_in bytes 16) c.u32_at-docs.result c.u32_at-docs.ensures c.if-docs-gt-MOST_DOCUMENTS.false in
    let terms : nat_lt MOST_TERMS (u32_in bytes 20) ≡ false = below_is MOST_TERMS (u32_in bytes 20) c.u32_at-terms.result c.u32_at-terms.ensures c.if-terms-gt-MOST_TERMS.false in
    let postings : nat_lt MOST_POSTINGS (u64_in bytes 24) ≡ true = above_is MOST_POSTINGS (u64_in bytes 24) c.u64_at-postings.result c.u64_at-postings.ensures c.if-postings-gt-MOST_POSTINGS.true in
    rw c.refused-then-postings-gt-MOST_POSTINGS.ensures (begins ∙ rw (docs, terms, postings) refl)

pub returns-then-u32_at-ne0-clause-exact : goal.returns-then-u32_at-ne0-clause-exact
returns-then-u32_at-ne0-clause-exact c = λ content piece long fits.
    let bytes = c.args.bytes.now in
    let old : starts_with nat_eq bytes old_magic ≡ false = sym c.starts_with.ensures.value ∙ c.if-starts_with.false in
    let new : starts_with nat_eq bytes magic ≡ true = sym c.starts_with-2.ensures.value ∙ c.if-not-starts_with.false in
    let begins = front_as content bytes c.args.is_long c.args.fits piece long fits ∙ front_fits bytes c.args.is_long c.args.fits c.if-is_long.false old new c.if-bytes-lt40.false c.if-not-fits.false in
    let docs : nat_lt MOST_DOCUMENTS (u32_in bytes 16) ≡ false = below_is MOST_DOCUMENTS (u32_in bytes 16) c.u32_at-docs.result c.u32_at-docs.ensures c.if-docs-gt-MOST_DOCUMENTS.false in
    let terms : nat_lt MOST_TERMS (u32_in bytes 20) ≡ false = below_is MOST_TERMS (u32_in bytes 20) c.u32_at-terms.result c.u32_at-terms.ensures c.if-terms-gt-MOST_TERMS.false in
    let postings : nat_lt MOST_POSTINGS (u64_in bytes 24) ≡ false = below_is MOST_POSTINGS (u64_in bytes 24) c.u64_at-postings.result c.u64_at-postings.ensures c.if-postings-gt-MOST_POSTINGS.false in
    let last : (u32_in bytes 36 == 0) ≡ false = (let e = c.u32_at.ensures in let some = c.if-u32_at-ne0.true in grind (arith, nat_tests, e, some)) in
    rw c.refused-then-u32_at-ne0.ensures (begins ∙ rw (docs, terms, postings, last) refl)

pub returns-clause-exact : goal.returns-clause-exact
returns-clause-exact c = λ content piece long fits.
    let bytes = c.args.bytes.now in
    let old : starts_with nat_eq bytes old_magic ≡ false = sym c.starts_with.ensures.value ∙ c.if-starts_with.false in
    let new : starts_with nat_eq bytes magic ≡ true = sym c.starts_with-2.ensures.value ∙ c.if-not-starts_with.false in
    let begins = front_as content bytes c.args.is_long c.args.fits piece long fits ∙ front_fits bytes c.args.is_long c.args.fits c.if-is_long.false old new c.if-bytes-lt40.false c.if-not-fits.false in
    let docs : nat_lt MOST_DOCUMENTS (u32_in bytes 16) ≡ false = below_is MOST_DOCUMENTS (u32_in bytes 16) c.u32_at-docs.result c.u32_at-docs.ensures c.if-docs-gt-MOST_DOCUMENTS.false in
    let terms : nat_lt MOST_TERMS (u32_in bytes 20) ≡ false = below_is MOST_TERMS (u32_in bytes 20) c.u32_at-terms.result c.u32_at-terms.ensures c.if-terms-gt-MOST_TERMS.false in
    let postings : nat_lt MOST_POSTINGS (u64_in bytes 24) ≡ false = below_is MOST_POSTINGS (u64_in bytes 24) c.u64_at-postings.result c.u64_at-postings.ensures c.if-postings-gt-MOST_POSTINGS.false in
    let last : (u32_in bytes 36 == 0) ≡ true = (let e = c.u32_at.ensures in let none = c.if-u32_at-ne0.false in grind (arith, nat_tests, e, none)) in
    let totals = totals_as content bytes piece c.if-bytes-lt40.false in (
      rw (c.u32_at-docs.ensures, c.u32_at-terms.ensures) (begins ∙ rw (docs, terms, postings, last) refl),
      c.u64_at.ensures ∙ size_as content bytes piece c.if-bytes-lt40.false (λ enough. sym c.if-not-fits.false ∙ fits c.if-is_long.false enough),
      c.u64_at-postings.ensures ∙ totals.0,
      c.u32_at-2.ensures ∙ totals.1,
    )
