use Rattle.std.proofs.Common.{◌≡◌, ◌+◌, ℕ, List, sym, subst, ap, ◌∙◌, Err, rules}
use Rattle.index_file.proofs.Below.{FileView, file_bytes, IsFileView, u32_in, u64_in}
use Rattle.index_file.proofs.Assembled.{ArePlaced, PassesEnds, ReadsPayloads, ends_refused, greatest_told, is_read, its_heads, payloads_refused, postings_told, same_view, sizes, stands, whole_view}
use Rattle.index_file.proofs.file.IndexFile.of_parts.Goals as goal

pub returns-in-Err-clause-refused : goal.returns-in-Err-clause-refused
returns-in-Err-clause-refused c = λ bytes parts.
    rw c.moved.ensures (payloads_refused bytes c.args.outline c.args.front c.args.payloads c.args.place parts c.in-Err.fault
    (rw (sym c.as_slice.ensures, sym c.as_slice-2.ensures, sym c.len-docs.ensures) (c.in-Err.ensures.exact c.args.outline.terms.text)))

pub returns-in_err-check_ends-clause-refused : goal.returns-in_err-check_ends-clause-refused
returns-in_err-check_ends-clause-refused c =
    let o = c.args.outline in
    let fault = c.in_err-check_ends.field-0.0 in
    let out : c.from_residual.result ≡ Err fault = search rules in
    rw out (λ bytes parts.
    let groups = c.in-Ok.read.0 in
    let end = c.in-Ok.read.1 in
    let read : ReadsPayloads c.args.payloads o groups end = rw (sym c.as_slice.ensures, sym c.as_slice-2.ensures, sym c.len-docs.ensures) (c.in-Ok.ensures.exact o.terms.text) in
    let w = whole_view bytes o groups c.args.payloads in
    ends_refused bytes o c.args.front c.args.payloads c.args.place parts groups end read fault
    (c.in_err-check_ends.ensures bytes (its_heads o) w
    (sizes bytes o c.args.front c.args.payloads c.args.place parts ∙ ap (λ n. c.args.place + n) (sym c.len.ensures))
    (postings_told bytes o c.args.front c.args.payloads c.args.place parts ∙ ap (λ (xs : List ℕ). u64_in xs 24) (sym c.as_slice-3.ensures))
    (greatest_told bytes o c.args.front c.args.payloads c.args.place parts ∙ ap (λ (xs : List ℕ). u32_in xs 32) (sym c.as_slice-3.ensures))
    parts.outline.sums))

pub sample_terms-requires : goal.sample_terms-requires
sample_terms-requires c = rw (c.as_slice-4.ensures, c.as_slice-5.ensures) (record { rows = (c.args.outline.terms.heads, c.requires.parts.1.outline.rows) })

pub invariant_of-result : goal.invariant_of-result
invariant_of-result c =
    let o = c.args.outline in
    let bytes = c.requires.parts.0 in
    let parts = c.requires.parts.1 in
    let front = c.args.front in
    let payloads = c.args.payloads in
    let place = c.args.place in
    let groups = c.in-Ok.read.0 in
    let end = c.in-Ok.read.1 in
    let read : ReadsPayloads payloads o groups end = rw (sym c.as_slice.ensures, sym c.as_slice-2.ensures, sym c.len-docs.ensures) (c.in-Ok.ensures.exact o.terms.text) in
    let placed : ArePlaced payloads o groups = rw (sym c.as_slice.ensures, sym c.as_slice-2.ensures, sym c.len-docs.ensures) c.in-Ok.ensures.placed in
    let passed : PassesEnds bytes o groups payloads (place + end) = c.in_ok-check_ends.ensures bytes (its_heads o) (whole_view bytes o groups payloads)
    (sizes bytes o front payloads place parts ∙ ap (λ n. place + n) (sym c.len.ensures))
    (postings_told bytes o front payloads place parts ∙ ap (λ (xs : List ℕ). u64_in xs 24) (sym c.as_slice-3.ensures))
    (greatest_told bytes o front payloads place parts ∙ ap (λ (xs : List ℕ). u32_in xs 32) (sym c.as_slice-3.ensures))
    parts.outline.sums in
    let law = c.files_are_read.ensures.only (whole_view bytes o groups payloads) bytes parts.small (is_read bytes o front payloads place parts groups end read passed) in
    record {
      stands = stands bytes o front payloads place parts groups end read passed c.payloads_are_read.ensures.only c.codecs_have_their_numbers.ensures.only law.1 placed;
      sampled = rw (sym c.as_slice-4.ensures, sym c.as_slice-5.ensures) c.in-Ok-sample_terms.ensures;
    }

pub returns-clause-accepted : goal.returns-clause-accepted
returns-clause-accepted c = λ bytes parts.
    let o = c.args.outline in
    let front = c.args.front in
    let payloads = c.args.payloads in
    let place = c.args.place in
    let groups = c.in-Ok.read.0 in
    let end = c.in-Ok.read.1 in
    let read : ReadsPayloads payloads o groups end = rw (sym c.as_slice.ensures, sym c.as_slice-2.ensures, sym c.len-docs.ensures) (c.in-Ok.ensures.exact o.terms.text) in
    let passed : PassesEnds bytes o groups payloads (place + end) = c.in_ok-check_ends.ensures bytes (its_heads o) (whole_view bytes o groups payloads)
    (sizes bytes o front payloads place parts ∙ ap (λ n. place + n) (sym c.len.ensures))
    (postings_told bytes o front payloads place parts ∙ ap (λ (xs : List ℕ). u64_in xs 24) (sym c.as_slice-3.ensures))
    (greatest_told bytes o front payloads place parts ∙ ap (λ (xs : List ℕ). u32_in xs 32) (sym c.as_slice-3.ensures))
    parts.outline.sums in
    let law = c.files_are_read.ensures.only (whole_view bytes o groups payloads) bytes parts.small (is_read bytes o front payloads place parts groups end read passed) in
    subst (λ (v : FileView). (bytes ≡ file_bytes v) × IsFileView v) (sym (same_view bytes o front payloads place parts groups end read passed)) law
