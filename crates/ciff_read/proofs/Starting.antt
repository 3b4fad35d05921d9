-- A file of which the header isn't given yet was given nothing of.
use Rattle.std.proofs.Common.{◌≡◌, ℕ, zero, suc, Bool, true, false, cond, List, drop, Option, Some, None, Result, Ok, refl, sym, ap, subst, ◌∙◌, length, nat_lt}
use Rattle.jass_base.specs.Ciff.{HeaderData}
use Rattle.ciff_read.specs.declared.refusal.CiffRefusal.{CiffRefusal}
use Rattle.ciff_read.specs.Assembling.{Assembles, only_header}
use Rattle.ciff_read.specs.Pieces.{Progress, ListPiece, DocPiece, EndPiece, StartPiece, Step, FileHeader, postings_kept, terms_kept, header_of_file, begun, with_list, with_doc, list_of_file, doc_of_file, list_next, doc_next, end_next, without_header, next_behind, next_of, after, IsReached}
use Rattle.ciff_read.specs.Refusals.{◌>>=◌}
use Rattle.ciff_read.proofs.Assembling.{header_given}
use Rattle.ciff_read.proofs.WireLaws.{WireLaws, bound, done_is, ended_with}

module _ (content : List ℕ) (p : Progress) where
  -- what a step leads to has no header left
  abbrev Bare : Result Step CiffRefusal → Type 0
  Bare next = (s : Step) → next ≡ Ok s → s.later.header ≡ None

  list_bare : Bare (list_next content p)
  list_bare s is =
      let a = bound (list_of_file content p.docs (postings_kept p.kept) (terms_kept p.kept) p.at) (λ x. Ok (record { piece = ListPiece p.at x.list; later = with_list p x.list x.end })) s is in
      ap (λ (t : Step). t.later.header) (sym (done_is (record { piece = ListPiece p.at a.0.list; later = with_list p a.0.list a.0.end }) s a.2))

  doc_bare : Bare (doc_next content p)
  doc_bare s is =
      let a = bound (doc_of_file content p.docs p.numbers p.at) (λ x. Ok (record { piece = DocPiece x.doc; later = with_doc p x.doc.number x.end })) s is in
      ap (λ (t : Step). t.later.header) (sym (done_is (record { piece = DocPiece a.0.doc; later = with_doc p a.0.doc.number a.0.end }) s a.2))

  end_bare : p.header ≡ None → Bare (end_next content p)
  end_bare none s is = ap (λ (t : Step). t.later.header) (sym (ended_with p.at (drop p.at content) (record { piece = EndPiece; later = p }) s is)) ∙ none

  next_bare : Bare (next_of content p)
  unfolding next_of
  next_bare = go p.header refl
    where
      messages : p.header ≡ None → (a b : Bool) → Bare (cond a (list_next content p) (cond b (doc_next content p) (end_next content p)))
      messages none true b = list_bare
      messages none false true = doc_bare
      messages none false false = end_bare none

      go : (header : Option HeaderData) → p.header ≡ header → Bare (next_behind header content p)
      go (Some h) is = λ s next. ap (λ (t : Step). t.later.header) (sym (done_is (record { piece = StartPiece h p.lists p.docs; later = without_header p }) s next))
      go None none = messages none (nat_lt (length p.kept) p.lists) (nat_lt (length p.numbers) p.docs)

header_is : (g : FileHeader) (p : Progress) (h : HeaderData) → begun g ≡ p → p.header ≡ Some h → g.start.header ≡ h
header_is g p h is there = some_is (ap (λ (q : Progress). q.header) is ∙ there)
  where
    some_is : Some g.start.header ≡ Some h → g.start.header ≡ h
    some_is same = cc

pub nothing_given : (laws : WireLaws) (content : List ℕ) (p : Progress) (h : HeaderData) → IsReached content p → p.header ≡ Some h → Assembles content p (only_header h)
nothing_given laws content p h reached there =
    let a = bound (header_of_file content) (λ g. after reached.count content (begun g)) p reached.reached in
    go a.0 a.1 reached.count a.2
  where
    go : (g : FileHeader) → header_of_file content ≡ Ok g → (count : ℕ) → after count content (begun g) ≡ Ok p → Assembles content p (only_header h)
    go g is zero at =
        let same = done_is (begun g) p at in
        subst (λ (q : Progress). Assembles content q (only_header h)) same (subst (λ (k : HeaderData). Assembles content (begun g) (only_header k)) (header_is g p h same there) (header_given laws content g is))
    go g is (suc n) at =
        let b = bound (after n content (begun g)) (λ q. next_of content q >>= λ s. Ok s.later) p at in
        let d = bound (next_of content b.0) (λ s. Ok s.later) p b.2 in
        absurd (let some = sym (ap (λ (q : Progress). q.header) (done_is d.0.later p d.2)) ∙ next_bare content b.0 d.0 d.1 in let both = sym there ∙ some in cc)
