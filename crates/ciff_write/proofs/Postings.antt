-- The postings of a list from a place on.
use Rattle.shared_lemmas.proofs.Common.{◌≡◌, ℕ, ◌+◌, ◌<◌, ◌≤◌, ◌^◌, List, ◌++◌, length, drop, get_or, sym, ap, ◌∙◌, drop-cons, add-one, arith, All, IsStrictlyIncreasing, length-map, get_or-map}
use Rattle.std.proofs.Common.{length-append}
use Rattle.ciff_write.proofs.Below.{Posting, PostingsList, HasDocsBelow, docs_of, short_varint, sized, posting_body, postings_spelling, one_group_written}
use Rattle.shared_lemmas.proofs.Rising.{few_below}

-- the posting at a place, and those behind it
pub postings_next : (last : ℕ) (ps : List Posting) (i : ℕ) (d : Posting) → i < length ps → postings_spelling last (drop i ps) ≡ (short_varint 34 ++ sized (posting_body last (get_or ps i d))) ++ postings_spelling (get_or ps i d).doc (drop (i + 1) ps)
postings_next last ps i d inside = rw (add-one i) (ap (postings_spelling last) (drop-cons ps i d inside))

-- and how many bytes they have
pub postings_size : (last : ℕ) (ps : List Posting) (i : ℕ) (d : Posting) (size : ℕ) → i < length ps → size ≡ length (posting_body last (get_or ps i d)) → size < 128 →
    length (postings_spelling last (drop i ps)) ≡ 2 + size + length (postings_spelling (get_or ps i d).doc (drop (i + 1) ps))
postings_size last ps i d size inside is small =
    let p : Posting = get_or ps i d in
    let rest : List ℕ = postings_spelling p.doc (drop (i + 1) ps) in
    let whole : length (postings_spelling last (drop i ps)) ≡ length ((short_varint 34 ++ sized (posting_body last p)) ++ rest) = ap length (postings_next last ps i d inside) in
    let tag : length (short_varint 34) ≡ 1 = ap length (one_group_written 34 (omega arith)) in
    let head : length (short_varint (length (posting_body last p))) ≡ 1 = ap (λ (n : ℕ). length (short_varint n)) (sym is) ∙ ap length (one_group_written size small) in
    omega (arith, whole, tag, head, is, length-append (short_varint 34 ++ sized (posting_body last p)) rest, length-append (short_varint 34) (sized (posting_body last p)), length-append (short_varint (length (posting_body last p))) (posting_body last p))

-- the document of a posting is not above that of the next one
pub doc_is : (ps : List Posting) (i : ℕ) (d : Posting) → i < length ps → get_or (docs_of ps) i 0 ≡ (get_or ps i d).doc
doc_is ps i d inside = get_or-map (λ (p : Posting). p.doc) ps i d 0 inside

pub next_above : (ps : List Posting) (i : ℕ) (d : Posting) → IsStrictlyIncreasing (docs_of ps) → i < length ps → i + 1 < length ps → (get_or ps i d).doc ≤ get_or (docs_of ps) (i + 1) 0
next_above ps i d rising here inside = omega (arith, doc_is ps i d here, rising i (omega (arith, length-map ps (λ (p : Posting). p.doc))))

pub few_postings : (docs : ℕ) (lists : List PostingsList) → docs ≤ 2 ^ 26 → All (HasDocsBelow docs) lists → All (λ (l : PostingsList). length l.postings ≤ 2 ^ 26) lists
few_postings docs lists small below k d inside =
    let l : PostingsList = get_or lists k d in
    let few : length (docs_of l.postings) ≤ docs = few_below (docs_of l.postings) docs l.rising (below k d inside) in
    omega (arith, few, small, length-map l.postings (λ (p : Posting). p.doc))
