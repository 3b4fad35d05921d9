-- What the sampled terms of an opened file tell.
use Rattle.shared_lemmas.proofs.Common.{◌≡◌, ◌<◌, ◌+◌, ◌-◌, ◌*◌, ◌/◌, ◌%◌, ℕ, List, length, drop, All, ap, sym, subst, ◌∙◌, slice_index, arith, nat_cmp, ordering_reverse, slice_cmp, nat_list_cmp_total, All-take}
use Rattle.shared_lemmas.proofs.Common.{All-drop}
use Rattle.std.proofs.Common.{Less, Greater}
use Rattle.index_layout.specs.View.{FileView}
use Rattle.index_file.specs.declared.term_row.TermRow.{TermRow}
use Rattle.index_file.specs.declared.term_table.TermTable.{TermTable}
use Rattle.index_file.specs.Private.Opened.{IsOpened}
use Rattle.index_file.specs.Places.{term_at}
use Rattle.index_file.specs.Private.Samples.{first_eight, text_at}
use Rattle.index_file.specs.Private.Tables.{row_at}
use Rattle.index_file.proofs.Leading.{eight_below}
use Rattle.index_file.proofs.Standing.{there}

abbrev Byte : ℕ → Type 0
Byte b = b < 256

text_bytes : (text : List ℕ) (rows : List TermRow) (t : ℕ) → All Byte text → All Byte (text_at text rows t)
text_bytes text rows t bytes =
    let from = (row_at rows t).text in
    let to = (row_at rows (t + 1)).text in
    All-take Byte (to - from) (drop from text) (All-drop Byte from text bytes)

module _ (front places : List ℕ) (terms : TermTable) (groups payloads samples : List ℕ) (v : FileView) (is : IsOpened front places terms groups payloads samples v) (t : ℕ) (inside : t < length v.index.terms) where
  pub sample_inside : t / 64 < length samples
  sample_inside = (let count = is.stands.count in let enough = is.sampled.enough in omega (arith, inside, count, enough))

  term_bytes : All Byte (term_at v.index.terms t)
  term_bytes = subst (All Byte) (sym (there front places terms groups payloads v is.stands t inside).term) (text_bytes terms.text terms.rows t is.sampled.bytes)

  sample_is : t % 64 ≡ 0 → slice_index samples (t / 64) ≡ first_eight (term_at v.index.terms t)
  sample_is even =
      let whole : 64 * (t / 64) ≡ t = omega (arith, even) in
      is.sampled.told (t / 64) sample_inside
      ∙ ap (λ i. first_eight (text_at terms.text terms.rows i)) whole
      ∙ ap first_eight (sym (there front places terms groups payloads v is.stands t inside).term)

  pub sample_lower : t % 64 ≡ 0 → (query : List ℕ) → All Byte query → slice_index samples (t / 64) < first_eight query → slice_cmp nat_cmp (term_at v.index.terms t) query ≡ Less
  sample_lower even query others less = eight_below (term_at v.index.terms t) query term_bytes others (subst (λ n. n < first_eight query) (sample_is even) less)

  pub sample_higher : t % 64 ≡ 0 → (query : List ℕ) → All Byte query → first_eight query < slice_index samples (t / 64) → slice_cmp nat_cmp (term_at v.index.terms t) query ≡ Greater
  sample_higher even query others less =
      nat_list_cmp_total.antisymm (term_at v.index.terms t) query
      ∙ ap ordering_reverse (eight_below query (term_at v.index.terms t) others term_bytes (subst (λ n. first_eight query < n) (sample_is even) less))
