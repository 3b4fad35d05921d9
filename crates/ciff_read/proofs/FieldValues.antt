-- What a message's values are behind one field more.
use Rattle.shared_lemmas.proofs.Common.{◌≡◌, ℕ, List, [], ◌∷◌, ◌++◌, refl, sym, ap, ◌∙◌, replicate, fold-append}
use Rattle.jass_base.specs.Wire.{WireField, number_after, text_after, eight_after, number_field, text_field, eight_field}
use Rattle.ciff_read.specs.declared.posting_fields.PostingFields.{PostingFields}
use Rattle.ciff_read.specs.declared.doc_fields.DocFields.{DocFields}
use Rattle.ciff_read.specs.declared.file_head.HeadFields.{HeadFields}
use Rattle.ciff_read.specs.declared.list_fields.ListFields.{ListFields}
use Rattle.ciff_read.specs.Judging.{start_of, list_start_of, numbered_of}
use Rattle.ciff_read.specs.Private.Places.{start_in, list_start_in, numbered_in}
use Rattle.ciff_read.specs.Walking.{Walked, entry_of}

pub number_more : (i : ℕ) (fields : List WireField) (f : WireField) (before now : ℕ) → before ≡ number_field i fields → now ≡ number_after i before f → now ≡ number_field i (fields ++ f ∷ [])
number_more i fields f before now was is = is ∙ ap (λ n. number_after i n f) was ∙ sym (fold-append (number_after i) 0 fields (f ∷ []))

pub text_more : (i : ℕ) (fields : List WireField) (f : WireField) (before now : List ℕ) → before ≡ text_field i fields → now ≡ text_after i before f → now ≡ text_field i (fields ++ f ∷ [])
text_more i fields f before now was is = is ∙ ap (λ (n : List ℕ). text_after i n f) was ∙ sym (fold-append (text_after i) [] fields (f ∷ []))

pub eight_more : (i : ℕ) (fields : List WireField) (f : WireField) (before now : List ℕ) → before ≡ eight_field i fields → now ≡ eight_after i before f → now ≡ eight_field i (fields ++ f ∷ [])
eight_more i fields f before now was is = is ∙ ap (λ (n : List ℕ). eight_after i n f) was ∙ sym (fold-append (eight_after i) (replicate 8 0) fields (f ∷ []))

-- the posting so far
abbrev pub IsEntry : PostingFields → Walked → Type 0
IsEntry entry done = (entry.docid ≡ number_field 1 done.fields) × (entry.tf ≡ number_field 2 done.fields)

pub entry_is : (entry : PostingFields) (done : Walked) → IsEntry entry done → entry_of done.fields ≡ entry
entry_is entry done is = rw (← is.0, ← is.1) refl

-- the record so far
abbrev pub IsNumbered : DocFields → Walked → Type 0
IsNumbered d done = (d.docid ≡ number_field 1 done.fields) × (d.name.now ≡ text_field 2 done.fields) × (d.length ≡ number_field 3 done.fields)

pub numbered_is : (d : DocFields) (done : Walked) → IsNumbered d done → numbered_of done.fields ≡ numbered_in d
numbered_is d done is = rw (← is.0, ← is.1, ← is.2) refl

-- the start of a list so far
abbrev pub IsListStart : ListFields → Walked → Type 0
IsListStart l done = (l.term.now ≡ text_field 1 done.fields) × (l.df ≡ number_field 2 done.fields) × (l.cf ≡ number_field 3 done.fields)

pub list_start_is : (l : ListFields) (done : Walked) → IsListStart l done → list_start_of done.fields ≡ list_start_in l
list_start_is l done is = rw (← is.0, ← is.1, ← is.2) refl

-- the header so far
pub record IsHead (h : HeadFields) (done : Walked) : Type 0 where
  pub version : h.version ≡ number_field 1 done.fields
  pub lists : h.lists ≡ number_field 2 done.fields
  pub docs : h.docs ≡ number_field 3 done.fields
  pub total_lists : h.total_lists ≡ number_field 4 done.fields
  pub total_docs : h.total_docs ≡ number_field 5 done.fields
  pub total_terms : h.total_terms ≡ number_field 6 done.fields
  pub average : h.average ≡ eight_field 7 done.fields
  pub description : h.description.now ≡ text_field 8 done.fields

pub head_is : (h : HeadFields) (done : Walked) → IsHead h done → start_of done.fields ≡ start_in h
head_is h done is = rw (← is.version, ← is.lists, ← is.docs, ← is.total_lists, ← is.total_docs, ← is.total_terms, ← is.average, ← is.description) refl
