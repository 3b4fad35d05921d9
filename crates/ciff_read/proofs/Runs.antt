-- Postings in their usual spelling, one behind the other.
use Rattle.shared_lemmas.proofs.Common.{◌≡◌, ℕ, ◌+◌, ◌^◌, ◌<◌, ◌≤◌, List, [], ◌∷◌, ◌++◌, length, drop, Result, Ok, refl, sym, ap, subst, ◌∙◌, arith, fold, length-drop, drop-drop}
use Rattle.ciff_read.proofs.Below.{Posting, WireField, Text}
use Rattle.ciff_read.specs.declared.posting_fields.PostingFields.{PostingFields}
use Rattle.ciff_read.specs.declared.gathered.Gathered.{Gathered}
use Rattle.ciff_read.specs.declared.list_fields.ListFields.{ListFields}
use Rattle.ciff_read.specs.declared.refusal.CiffRefusal.{CiffRefusal}
use Rattle.ciff_read.specs.declared.refusal.CiffWhy.{CiffWhy}
use Rattle.ciff_read.specs.Judging.{gather}
use Rattle.ciff_read.specs.Private.Kept.{AreKept}
use Rattle.ciff_read.specs.Private.Places.{GathersRun, gathered_of}
use Rattle.ciff_read.specs.Refusals.{◌>>=◌, placed}
use Rattle.ciff_read.specs.Private.Usual.{IsPosting, IsUsual, IsRun}
use Rattle.ciff_read.specs.Walking.{PlacedEntry, entry_inside}
use Rattle.ciff_read.proofs.FieldValues.{IsListStart, number_more, text_more}
use Rattle.ciff_read.proofs.Parts.{gathers_more}
use Rattle.ciff_read.proofs.PostingLaws.{judged_ok}
use Rattle.ciff_read.proofs.Postings.{Follows, kept-snoc}
use Rattle.ciff_read.proofs.ShortEntries.{entry_there}
use Rattle.ciff_read.proofs.Walks.{Walks, walks_on}

-- ---- one posting more

-- a posting whose tests all pass
pub record Passes (docs before last : ℕ) (ps : List Posting) (entry : PostingFields) (p : Posting) : Type 0 where
  pub usual : IsUsual entry
  pub doc : p.doc ≡ last + entry.docid
  pub tf : p.tf ≡ entry.tf
  pub below : p.doc < docs
  pub room : before + length ps < 2 ^ 29

module _ (docs before last : ℕ) (ps : List Posting) (entry : PostingFields) (p : Posting) (kept : AreKept docs before last ps) (passes : Passes docs before last ps entry p) where
  follows : Follows docs before last ps p
  follows = record {
    above = λ some. omega (arith, passes.doc, passes.usual.some_gap);
    rises = omega (arith, passes.doc);
    below = passes.below;
    room = passes.room;
    tf = (omega (arith, passes.tf, passes.usual.some_tf), omega (arith, passes.tf, passes.usual.small_tf));
  }

  pub kept_usual : AreKept docs before p.doc (ps ++ p ∷ [])
  kept_usual = kept-snoc docs before last ps p kept follows

  pub gathers_usual : (at : ℕ) → gather docs before (Ok ps) (record { at = at; entry = entry }) ≡ Ok (ps ++ p ∷ [])
  gathers_usual at =
      let doc = passes.doc ∙ ap (λ n. n + entry.docid) kept.last_is in
      let judged = judged_ok docs before ps entry p kept.few_docs doc passes.tf (λ some. omega (arith, passes.doc, kept.last_is, passes.usual.some_gap)) passes.below follows.tf passes.room in
      ap (λ (r : Result Posting CiffWhy). placed at r >>= λ p. Ok (ps ++ p ∷ [])) judged

-- ---- one posting more in a run

run-snoc : (bytes : List ℕ) (from at next : ℕ) (entries : List PlacedEntry) (entry : PostingFields) → IsRun bytes from entries at → IsPosting bytes at entry next → IsRun bytes from (entries ++ record { at = at; entry = entry } ∷ []) next
run-snoc bytes from at next [] entry run p = (sym run, (next, subst (λ n. IsPosting bytes n entry next) (sym run) p, refl))
run-snoc bytes from at next (x ∷ xs) entry run p = (run.0, (run.1.0, run.1.1, run-snoc bytes run.1.0 at next xs entry run.1.2 p))

-- ---- the walk behind a run

walks_run : (bytes : List ℕ) (from at next docs before : ℕ) (start so_far : Result (List Posting) CiffRefusal) (l : ListFields) (entries : List PlacedEntry) → IsRun bytes at entries next
    → Walks entry_inside bytes from at (λ done. IsListStart l done × (so_far ≡ fold (gather docs before) start done.entries))
    → Walks entry_inside bytes from next (λ done. IsListStart l done × (fold (gather docs before) so_far entries ≡ fold (gather docs before) start done.entries))
walks_run bytes from at next docs before start so_far l [] run w = subst (λ n. Walks entry_inside bytes from n (λ done. IsListStart l done × (so_far ≡ fold (gather docs before) start done.entries))) run w
walks_run bytes from at next docs before start so_far l (x ∷ xs) run w =
    let behind = run.1.0 in
    let p : IsPosting bytes at x.entry behind = run.1.1 in
    let f : WireField = record { number = 4; value = Text p.body } in
    let later = gather docs before so_far x in
    let there : entry_inside at behind f ≡ Ok (x ∷ []) = entry_there bytes at x.entry behind p ∙ ap (λ n. Ok (record { at = n; entry = x.entry } ∷ [])) (sym run.0) in
    walks_run bytes from behind next docs before start later l xs run.1.2
    (walks_on entry_inside bytes from at behind _ w f (x ∷ []) (λ done. IsListStart l done × (later ≡ fold (gather docs before) start done.entries)) p.before p.within p.read there
    (λ done was. (
      (text_more 1 done.fields f l.term.now l.term.now was.0.0 refl, number_more 2 done.fields f l.df l.df was.0.1 refl, number_more 3 done.fields f l.cf l.cf was.0.2 refl),
      gathers_more docs before start so_far later done.entries (x ∷ []) was.1 refl,
    )))

pub walks_behind : (bytes : List ℕ) (from at next : ℕ) (start old now : Gathered) (l : ListFields) → GathersRun bytes at next old now → old.docs ≡ start.docs → old.before ≡ start.before
    → Walks entry_inside bytes from at (λ done. IsListStart l done × (gathered_of old ≡ fold (gather start.docs start.before) (gathered_of start) done.entries))
    → Walks entry_inside bytes from next (λ done. IsListStart l done × (gathered_of now ≡ fold (gather start.docs start.before) (gathered_of start) done.entries))
walks_behind bytes from at next start old now l run docs before w =
    let gathered : gathered_of now ≡ fold (gather start.docs start.before) (gathered_of old) run.entries = run.gathered ∙ ap (λ d. fold (gather d old.before) (gathered_of old) run.entries) docs ∙ ap (λ b. fold (gather start.docs b) (gathered_of old) run.entries) before in
    subst (λ (r : Result (List Posting) CiffRefusal). Walks entry_inside bytes from next (λ done. IsListStart l done × (r ≡ fold (gather start.docs start.before) (gathered_of start) done.entries))) (sym gathered)
    (walks_run bytes from at next start.docs start.before (gathered_of start) (gathered_of old) l run.entries run.run w)

-- ---- a run while its postings are in hand

-- the postings up to a place with those of the run before it
pub record InHand (bytes : List ℕ) (from at docs before last : ℕ) (start : Result (List Posting) CiffRefusal) (ps : List Posting) : Type 0 where
  pub entries : List PlacedEntry
  pub run : IsRun bytes from entries at
  pub forward : from ≤ at
  pub within : at ≤ length bytes
  pub gathered : Ok ps ≡ fold (gather docs before) start entries
  pub kept : AreKept docs before last ps

pub next_in_hand : (bytes : List ℕ) (from at next docs before last : ℕ) (start : Result (List Posting) CiffRefusal) (ps now : List Posting) (entry : PostingFields) (p : Posting) → InHand bytes from at docs before last start ps
    → Passes docs before last ps entry p → IsPosting bytes at entry next → now ≡ ps ++ p ∷ [] → InHand bytes from next docs before p.doc start now
next_in_hand bytes from at next docs before last start ps now entry p h passes posting now_is =
    let x : PlacedEntry = record { at = at; entry = entry } in
    let more = gathers_usual docs before last ps entry p h.kept passes at in
    record {
      entries = h.entries ++ x ∷ [];
      run = run-snoc bytes from at next h.entries entry h.run posting;
      forward = omega (arith, h.forward, posting.before);
      within = posting.within;
      gathered = gathers_more docs before start (Ok ps) (Ok now) h.entries (x ∷ []) h.gathered (ap (λ (qs : List Posting). Ok qs) now_is ∙ sym more);
      kept = subst (AreKept docs before p.doc) (sym now_is) (kept_usual docs before last ps entry p h.kept passes);
    }
