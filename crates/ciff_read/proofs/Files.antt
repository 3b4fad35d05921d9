-- A file that is read part by part.
use Rattle.shared_lemmas.proofs.Common.{◌≡◌, ℕ, ◌+◌, ◌-◌, ◌<◌, ◌≤◌, ◌⊎◌, inl, inr, List, [], length, drop, Result, Ok, Err, refl, sym, ap, ◌∙◌, drop-cons, drop_all, arith}
use Rattle.jass_base.specs.Ciff.{CollectionData}
use Rattle.ciff_read.specs.declared.refusal.CiffWhy.TheVariants.{Trailing}
use Rattle.ciff_read.specs.declared.refusal.CiffRefusal.{CiffRefusal}
use Rattle.ciff_read.specs.declared.refusal.CiffFault.{CiffFault}
use Rattle.ciff_read.specs.Judging.{FileStart}
use Rattle.ciff_read.specs.Reading.{Message, ListsRead, DocsInOrder, message_end, message_at, header_at, lists_at, all_docs_at, at_end, read_ciff}
use Rattle.ciff_read.specs.Refusals.{◌>>=◌, Fails}
use Rattle.ciff_read.proofs.Answering.{fails_on, fails_as}

pub at_last : {A : Type 0} (bytes : List ℕ) (at : ℕ) (x : A) → length bytes ≤ at → at_end at (drop at bytes) x ≡ Ok x
at_last bytes at x past = rw (drop_all at bytes past) refl

pub past_end : (at start held size : ℕ) → start ≤ at → held ≤ at - start → (at + 1 ≤ start + held) ⊎ (size ≤ start + held) → size ≤ at
past_end at start held size first short (inl more) = absurd (omega (arith, more))
past_end at start held size first short (inr all) = omega (arith, all)

pub at_more : {A : Type 0} (bytes : List ℕ) (at : ℕ) (x : A) → at < length bytes → at_end at (drop at bytes) x ≡ Err (record { at = at; why = Trailing })
at_more bytes at x inside = rw (drop-cons bytes at 0 inside) refl

-- what follows each part
abbrev after_docs : FileStart → ListsRead → DocsInOrder → Result CollectionData CiffRefusal
after_docs start x y = at_end y.at y.rest (record { header = start.header; lists = x.lists; docs = y.docs })

abbrev after_lists : FileStart → ListsRead → Result CollectionData CiffRefusal
after_lists start x = all_docs_at start.docs x.at x.rest >>= after_docs start x

abbrev after_header : Message → FileStart → Result CollectionData CiffRefusal
after_header m start = lists_at start.lists start.docs 0 [] (message_end m) m.rest >>= after_lists start

abbrev after_message : Message → Result CollectionData CiffRefusal
after_message m = header_at 0 m >>= after_header m

module _ (bytes : List ℕ) where
  begun : read_ciff bytes ≡ (message_at 0 bytes >>= after_message)
  unfolding read_ciff
  begun = refl

  pub file_message_not : (answer : CiffFault) → Fails answer (message_at 0 bytes) → Fails answer (read_ciff bytes)
  file_message_not answer fails = fails_as answer _ _ (sym begun) (fails_on answer (message_at 0 bytes) after_message fails)

  module _ (m : Message) (there : message_at 0 bytes ≡ Ok m) where
    with_message : read_ciff bytes ≡ after_message m
    with_message = begun ∙ ap (λ (r : Result Message CiffRefusal). r >>= after_message) there

    pub file_header_not : (answer : CiffFault) → Fails answer (header_at 0 m) → Fails answer (read_ciff bytes)
    file_header_not answer fails = fails_as answer _ _ (sym with_message) (fails_on answer (header_at 0 m) (after_header m) fails)

    module _ (start : FileStart) (is : header_at 0 m ≡ Ok start) where
      with_header : read_ciff bytes ≡ after_header m start
      with_header = with_message ∙ ap (λ (r : Result FileStart CiffRefusal). r >>= after_header m) is

      pub file_lists_not : (answer : CiffFault) → Fails answer (lists_at start.lists start.docs 0 [] (message_end m) m.rest) → Fails answer (read_ciff bytes)
      file_lists_not answer fails = fails_as answer _ _ (sym with_header) (fails_on answer (lists_at start.lists start.docs 0 [] (message_end m) m.rest) (after_lists start) fails)

      module _ (x : ListsRead) (lists : lists_at start.lists start.docs 0 [] (message_end m) m.rest ≡ Ok x) where
        with_the_lists : read_ciff bytes ≡ after_lists start x
        with_the_lists = with_header ∙ ap (λ (r : Result ListsRead CiffRefusal). r >>= after_lists start) lists

        pub file_docs_not : (answer : CiffFault) → Fails answer (all_docs_at start.docs x.at x.rest) → Fails answer (read_ciff bytes)
        file_docs_not answer fails = fails_as answer _ _ (sym with_the_lists) (fails_on answer (all_docs_at start.docs x.at x.rest) (after_docs start x) fails)

        pub file_ends : (y : DocsInOrder) → all_docs_at start.docs x.at x.rest ≡ Ok y → read_ciff bytes ≡ at_end y.at y.rest (record { header = start.header; lists = x.lists; docs = y.docs })
        file_ends y docs = with_the_lists ∙ ap (λ (r : Result DocsInOrder CiffRefusal). r >>= after_docs start x) docs
