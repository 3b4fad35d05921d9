-- The postings that are gathered are those of the bodies, and those of the bodies are gathered.
use Rattle.shared_lemmas.proofs.Common.{◌≡◌, ℕ, suc, ◌+◌, ◌^◌, ◌<◌, ◌≤◌, Bool, true, false, List, [], ◌∷◌, ◌++◌, length, get_or, All, Result, Ok, Err, refl, sym, ap, subst, ◌∙◌, append_assoc, arith, fold, ◌==◌, ◌&&◌, nat_lt, nat_le, ⊤, AllZip, AllByRecursion, IsStrictlyIncreasing, nat_tests}
use Rattle.shared_lemmas.proofs.Common.{length-append, length-map}
use Rattle.std.proofs.lemmas.List.{append-nil}
use Rattle.ciff_read.proofs.Below.{Posting, ArePostings, docs_of, HasTfInRange}
use Rattle.ciff_read.specs.declared.posting_fields.PostingFields.{PostingFields}
use Rattle.ciff_read.specs.declared.refusal.CiffWhy.{CiffWhy}
use Rattle.ciff_read.specs.declared.refusal.CiffRefusal.{CiffRefusal}
use Rattle.ciff_read.specs.Judging.{last_from, judge, gather, over31}
use Rattle.ciff_read.specs.Private.Kept.{AreKept}
use Rattle.ciff_read.specs.Refusals.{◌>>=◌, placed}
use Rattle.ciff_read.specs.Walking.{PlacedEntry, entry_of}
use Rattle.ciff_read.proofs.Postings.{Follows, judge_follows, judge_is, kept-snoc, last_from-snoc}
use Rattle.ciff_read.proofs.WalkLaws.{IsEntryOf, HasFields, fields_same}
use Rattle.ciff_read.proofs.WireLaws.{WireLaws, done_is}

pub refused_stays : (docs before : ℕ) (refusal : CiffRefusal) (entries : List PlacedEntry) → fold (gather docs before) (Err refusal) entries ≡ Err refusal
refused_stays docs before refusal [] = refl
refused_stays docs before refusal (x ∷ xs) = refused_stays docs before refusal xs

-- the postings behind those of before
pub record Gathered (docs before last : ℕ) (bodies : List (List ℕ)) (old ps : List Posting) : Type 0 where
  pub more : List Posting
  pub parts : ps ≡ old ++ more
  pub are : ArePostings last bodies more
  pub last_now : ℕ
  pub kept : AreKept docs before last_now ps

pub gather_found : (docs before : ℕ) (bodies : List (List ℕ)) (entries : List PlacedEntry) (last : ℕ) (old ps : List Posting) → AllZip IsEntryOf bodies entries → AreKept docs before last old → fold (gather docs before) (Ok old) entries ≡ Ok ps → Gathered docs before last bodies old ps
gather_found docs before [] [] last old ps zip kept is =
    let e = done_is old ps is in
    record { more = []; parts = sym e ∙ sym (append-nil old); are = tt; last_now = last; kept = subst (AreKept docs before last) e kept }
gather_found docs before [] (x ∷ xs) last old ps zip kept is = absurd zip
gather_found docs before (body ∷ bodies) [] last old ps zip kept is = absurd zip
gather_found docs before (body ∷ bodies) (x ∷ xs) last old ps zip kept is = go (judge docs before old x.entry) refl is (λ p k h. gather_found docs before bodies xs p.doc (old ++ p ∷ []) ps zip.1 k h)
  where
    go : (r : Result Posting CiffWhy) → judge docs before old x.entry ≡ r → fold (gather docs before) (placed x.at r >>= λ p. Ok (old ++ p ∷ [])) xs ≡ Ok ps
        → ((p : Posting) → AreKept docs before p.doc (old ++ p ∷ []) → fold (gather docs before) (Ok (old ++ p ∷ [])) xs ≡ Ok ps → Gathered docs before p.doc bodies (old ++ p ∷ []) ps) → Gathered docs before last (body ∷ bodies) old ps
    go (Err why) judged is rest = absurd (let e = sym (refused_stays docs before (record { at = x.at; why = why }) xs) ∙ is in cc)
    go (Ok p) judged is rest =
        let next = subst (λ n. Follows docs before n old p) (sym kept.last_is) (judge_follows docs before old x.entry p judged) in
        let g = rest p (kept-snoc docs before last old p kept next) is in
        let e = zip.0 in
        let j = judge_is docs before old x.entry p judged in
        record {
          more = p ∷ g.more;
          parts = g.parts ∙ append_assoc old (p ∷ []) g.more;
          are = (record { fields = e.fields; spelled = e.spelled; doc = j.0 ∙ ap (λ n. n + x.entry.docid) (sym kept.last_is) ∙ ap (λ (y : PostingFields). last + y.docid) e.entry; tf = j.1 ∙ ap (λ (y : PostingFields). y.tf) e.entry }, g.are);
          last_now = g.last_now;
          kept = g.kept;
        }

-- postings rise from a last one on, where there is one, and are in their ranges
abbrev pub Rise : ℕ → ℕ → Bool → List Posting → Type 0
Rise docs last some [] = ⊤
Rise docs last some (p ∷ ps) = (some ≡ true → last < p.doc) × (p.doc < docs) × HasTfInRange p × Rise docs p.doc true ps

pub rise_there : (docs last : ℕ) (some : Bool) (ps : List Posting) → IsStrictlyIncreasing (docs_of ps) → All HasTfInRange ps → All (λ doc. doc < docs) (docs_of ps) → (some ≡ true → 0 < length ps → last < get_or (docs_of ps) 0 0) → Rise docs last some ps
rise_there docs last some [] rising tf below above = tt
rise_there docs last some (p ∷ ps) rising tf below above =
    let size = length-map ps (λ (q : Posting). q.doc) in (
      (λ is. above is (omega arith)),
      below 0 0 (omega arith),
      tf 0 p (omega arith),
      rise_there docs p.doc true ps
          (λ k inside. let e : suc k + 1 ≡ suc (k + 1) = omega arith in subst (λ n. get_or (docs_of ps) k 0 < get_or (docs_of (p ∷ ps)) n 0) e (rising (suc k) (omega arith)))
          (λ k d inside. tf (suc k) d (omega arith))
          (λ k d inside. below (suc k) d (omega arith))
          (λ is more. rising 0 (omega arith)),
    )

pub judged_ok : (docs before : ℕ) (old : List Posting) (e : PostingFields) (p : Posting) → docs ≤ 2 ^ 26 → p.doc ≡ last_from 0 old + e.docid → p.tf ≡ e.tf
    → (nat_lt 0 (length old) ≡ true → last_from 0 old < p.doc) → p.doc < docs → HasTfInRange p → before + length old < 2 ^ 29
    → judge docs before old e ≡ Ok p
judged_ok docs before old e p few doc tf above below range room =
    let low = range.0 in
    let high = range.1 in
    let a : over31 e.docid ≡ false = grind (arith, nat_tests) in
    let b : over31 e.tf ≡ false = grind (arith, nat_tests) in
    let c : (e.tf == 0) ≡ false = grind (arith, nat_tests) in
    let d : (e.docid == 0 && nat_lt 0 (length old)) ≡ false = gap (nat_lt 0 (length old)) refl in
    let f : nat_le docs (last_from 0 old + e.docid) ≡ false = grind (arith, nat_tests) in
    let g : nat_le (2 ^ 29) (before + length old) ≡ false = grind (arith, nat_tests) in
    rw (a, b, c, d, f, g) (ap (λ n. Ok (record { doc = n; tf = e.tf })) (sym doc) ∙ ap (λ n. Ok (record { doc = p.doc; tf = n })) (sym tf))
  where
    gap : (test : Bool) → nat_lt 0 (length old) ≡ test → (e.docid == 0 && test) ≡ false
    gap true some = let rises = above some in grind (arith, nat_tests)
    gap false none = grind (arith, nat_tests)

module _ (laws : WireLaws) where
  pub gather_only : (docs before : ℕ) (bodies : List (List ℕ)) (entries : List PlacedEntry) (old more : List Posting) → docs ≤ 2 ^ 26 → AllZip IsEntryOf bodies entries → ArePostings (last_from 0 old) bodies more
      → Rise docs (last_from 0 old) (nat_lt 0 (length old)) more → before + length (old ++ more) ≤ 2 ^ 29 → fold (gather docs before) (Ok old) entries ≡ Ok (old ++ more)
  gather_only docs before [] [] old [] few zip are rise count = ap (λ (ps : List Posting). Ok ps) (sym (append-nil old))
  gather_only docs before [] [] old (p ∷ more) few zip are rise count = absurd are
  gather_only docs before [] (x ∷ xs) old more few zip are rise count = absurd zip
  gather_only docs before (body ∷ bodies) [] old more few zip are rise count = absurd zip
  gather_only docs before (body ∷ bodies) (x ∷ xs) old [] few zip are rise count = absurd are
  gather_only docs before (body ∷ bodies) (x ∷ xs) old (p ∷ more) few zip are rise count =
      let e = zip.0 in
      let is = are.0 in
      let same = fields_same laws body e.fields is.fields e.spelled is.spelled in
      let entry : x.entry ≡ entry_of is.fields = e.entry ∙ ap entry_of same in
      let doc : p.doc ≡ last_from 0 old + x.entry.docid = is.doc ∙ ap (λ (y : PostingFields). last_from 0 old + y.docid) (sym entry) in
      let tf : p.tf ≡ x.entry.tf = is.tf ∙ ap (λ (y : PostingFields). y.tf) (sym entry) in
      let room : before + length old < 2 ^ 29 = omega (arith, length-append old (p ∷ more), count) in
      let judged = judged_ok docs before old x.entry p few doc tf rise.0 rise.1 rise.2 room in
      let last = last_from-snoc 0 old p in
      let some : nat_lt 0 (length (old ++ p ∷ [])) ≡ true = let l = length-append old (p ∷ []) in grind (arith, nat_tests) in
      let are_next = subst (λ n. ArePostings n bodies more) (sym last) are.1 in
      let rise_next = subst (λ n. Rise docs n (nat_lt 0 (length (old ++ p ∷ []))) more) (sym last) (subst (λ b. Rise docs p.doc b more) (sym some) rise.3) in
      let count_next = subst (λ (ps : List Posting). before + length ps ≤ 2 ^ 29) (sym (append_assoc old (p ∷ []) more)) count in
      ap (λ (r : Result Posting CiffWhy). fold (gather docs before) (placed x.at r >>= λ p. Ok (old ++ p ∷ [])) xs) judged
      ∙ gather_only docs before bodies xs (old ++ p ∷ []) more few zip.1 are_next rise_next count_next
      ∙ ap (λ (ps : List Posting). Ok ps) (append_assoc old (p ∷ []) more)

pub have_fields : (last : ℕ) (bodies : List (List ℕ)) (ps : List Posting) → ArePostings last bodies ps → AllByRecursion HasFields bodies
have_fields last [] [] are = tt
have_fields last [] (p ∷ ps) are = absurd are
have_fields last (body ∷ bodies) [] are = absurd are
have_fields last (body ∷ bodies) (p ∷ ps) are = (record { fields = are.0.fields; spelled = are.0.spelled }, have_fields p.doc bodies ps are.1)
