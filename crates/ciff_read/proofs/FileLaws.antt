-- A file that is read stands for the collection that is given, and each such file is read.
use Rattle.shared_lemmas.proofs.Common.{◌≡◌, ℕ, ◌+◌, ◌^◌, ◌≤◌, List, [], ◌∷◌, ◌++◌, length, Result, Ok, refl, sym, ap, subst, ◌∙◌, append_assoc, arith, AllZip, length-append}
use Rattle.std.proofs.lemmas.List.{append-nil}
use Rattle.ciff_read.proofs.Below.{CollectionData, IsCiff, IsHeader, IsList, Spells, IsSized}
use Rattle.ciff_read.specs.declared.refusal.CiffRefusal.{CiffRefusal}
use Rattle.ciff_read.specs.Judging.{FileStart}
use Rattle.ciff_read.specs.Reading.{Message, ListsRead, DocsInOrder, message_end, message_at, header_at, lists_at, all_docs_at, at_end, read_ciff}
use Rattle.ciff_read.specs.Refusals.{◌>>=◌}
use Rattle.ciff_read.proofs.AllDocs.{all_docs_found, all_docs_read}
use Rattle.ciff_read.proofs.ListLaws.{lists_found, lists_read, distinct_found, new_there, all_unseen}
use Rattle.ciff_read.proofs.MessageLaws.{message_found, message_only}
use Rattle.ciff_read.proofs.PartLaws.{header_found, header_only}
use Rattle.ciff_read.proofs.WireLaws.{WireLaws, bound, done_is}

pub spells-append : {X : Type 0} (IsOne : List ℕ → X → Type 0) (s t : List ℕ) (xs ys : List X) → Spells IsOne s xs → Spells IsOne t ys → Spells IsOne (s ++ t) (xs ++ ys)
spells-append IsOne s t [] ys h k = subst (λ (u : List ℕ). Spells IsOne (u ++ t) ys) (sym h) k
spells-append IsOne s t (x ∷ xs) ys h k = (h.0, h.1 ++ t, ap (λ (u : List ℕ). u ++ t) h.2 ∙ append_assoc h.0 h.1 t, h.3, spells-append IsOne h.1 t xs ys h.4 k)

record Halves {X : Type 0} (IsOne : List ℕ → X → Type 0) (s : List ℕ) (xs ys : List X) : Type 0 where
  front : List ℕ
  back : List ℕ
  parts : s ≡ front ++ back
  first : Spells IsOne front xs
  second : Spells IsOne back ys

spells-split : {X : Type 0} (IsOne : List ℕ → X → Type 0) (s : List ℕ) (xs ys : List X) → Spells IsOne s (xs ++ ys) → Halves IsOne s xs ys
spells-split IsOne s [] ys h = record { front = []; back = s; parts = refl; first = refl; second = h }
spells-split IsOne s (x ∷ xs) ys h =
    let t = spells-split IsOne h.1 xs ys h.4 in
    record { front = h.0 ++ t.front; back = t.back; parts = h.2 ∙ ap (λ (u : List ℕ). h.0 ++ u) t.parts ∙ sym (append_assoc h.0 t.front t.back); first = (h.0, t.front, refl, h.3, t.first); second = t.second }

ended : {A : Type 0} (at : ℕ) (rest : List ℕ) (x y : A) → at_end at rest x ≡ Ok y → (rest ≡ []) × (x ≡ y)
ended at [] x y is = (refl, done_is x y is)
ended at (b ∷ s) x y is = absurd cc

-- the bounds that the two proofs need, over plain numbers
no_postings : 0 ≤ 2 ^ 29
no_postings = omega arith

few_found : (n : ℕ) → 0 + n ≤ 2 ^ 29 → n ≤ 2 ^ 29
few_found n few = omega arith

short_found : (bytes first rest front back m x y : ℕ) → bytes ≡ first + rest → rest ≡ front + back → m ≡ 0 + first → x ≡ m + front → y ≡ x + back → y ≤ 2 ^ 32 → bytes ≤ 2 ^ 32
short_found bytes first rest front back m x y parts halves one two three short = omega arith

few_read : (n : ℕ) → n ≤ 2 ^ 29 → 0 + n ≤ 2 ^ 29
few_read n few = omega arith

whole_read : (bytes first rest front back : ℕ) → bytes ≡ first + rest → rest ≡ front + back → bytes ≤ 2 ^ 32 → first + front + back ≤ 2 ^ 32
whole_read bytes first rest front back parts halves short = omega arith

first_read : (first front back : ℕ) → first + front + back ≤ 2 ^ 32 → 0 + first ≤ 2 ^ 32
first_read first front back short = omega arith

front_read : (first front back : ℕ) → first + front + back ≤ 2 ^ 32 → first + front ≤ 2 ^ 32
front_read first front back short = omega arith

message_ends : (first size body : ℕ) → first ≡ size + body → 0 + size + body ≡ first
message_ends first size body parts = omega arith

module _ (laws : WireLaws) where
  pub file_found : (bytes : List ℕ) (c : CollectionData) → read_ciff bytes ≡ Ok c → IsCiff bytes c
  unfolding read_ciff
  file_found bytes c is =
      let a = bound (message_at 0 bytes) (λ m. header_at 0 m >>= λ start. lists_at start.lists start.docs 0 [] (message_end m) m.rest >>= λ x. all_docs_at start.docs x.at x.rest >>= λ y. at_end y.at y.rest (record { header = start.header; lists = x.lists; docs = y.docs })) c is in
      let m = a.0 in
      let b = bound (header_at 0 m) (λ start. lists_at start.lists start.docs 0 [] (message_end m) m.rest >>= λ x. all_docs_at start.docs x.at x.rest >>= λ y. at_end y.at y.rest (record { header = start.header; lists = x.lists; docs = y.docs })) c a.2 in
      let start = b.0 in
      let d = bound (lists_at start.lists start.docs 0 [] (message_end m) m.rest) (λ x. all_docs_at start.docs x.at x.rest >>= λ y. at_end y.at y.rest (record { header = start.header; lists = x.lists; docs = y.docs })) c b.2 in
      let x = d.0 in
      let e = bound (all_docs_at start.docs x.at x.rest) (λ y. at_end y.at y.rest (record { header = start.header; lists = x.lists; docs = y.docs })) c d.2 in
      let y = e.0 in
      let last = ended y.at y.rest (record { header = start.header; lists = x.lists; docs = y.docs }) c e.2 in
      let message = message_found laws 0 bytes m a.1 in
      let header = header_found laws 0 m start b.1 in
      let lists = lists_found laws start.lists start.docs 0 [] (message_end m) m.rest x header.fits.few_docs no_postings message.short d.1 in
      let docs = all_docs_found laws start.docs x.at x.rest y lists.short e.1 in
      let doc_count : start.docs ≡ length y.docs = sym docs.count_is in
      let back : x.rest ≡ docs.front = docs.parts ∙ ap (λ (u : List ℕ). docs.front ++ u) last.0 ∙ append-nil docs.front in
      let parts : m.rest ≡ lists.front ++ docs.front = lists.parts ∙ ap (λ (u : List ℕ). lists.front ++ u) back in
      let size : length bytes ≡ length message.first + length m.rest = ap (λ (u : List ℕ). length u) message.parts ∙ length-append message.first m.rest in
      let rest_size : length m.rest ≡ length lists.front + length docs.front = ap (λ (u : List ℕ). length u) parts ∙ length-append lists.front docs.front in
      let more = subst (λ (u : List ℕ). Spells IsSized u (lists.bodies ++ docs.bodies)) (sym parts) (spells-append IsSized lists.front docs.front lists.bodies docs.bodies lists.messages docs.messages) in
      subst (IsCiff bytes) last.1 (record {
        header_body = m.body;
        list_bodies = lists.bodies;
        doc_bodies = docs.bodies;
        messages = (message.first, m.rest, message.parts, message.sized, more);
        header = subst (λ n. IsHeader m.body start.header n (length y.docs)) (sym lists.count) (subst (λ n. IsHeader m.body start.header start.lists n) doc_count header);
        lists = subst (λ n. AllZip (IsList n) lists.bodies x.lists) doc_count lists.are;
        docs = docs.are;
        terms_differ = distinct_found [] x.lists lists.new;
        few_postings = few_found _ lists.few;
        short = short_found _ _ _ _ _ (message_end m) x.at y.at size rest_size message.ends lists.ends docs.ends docs.short;
      })

  pub file_read : (bytes : List ℕ) (c : CollectionData) → IsCiff bytes c → read_ciff bytes ≡ Ok c
  unfolding read_ciff
  file_read bytes c is =
      let first = is.messages.0 in
      let rest = is.messages.1 in
      let sized = is.messages.3 in
      let halves = spells-split IsSized rest is.list_bodies is.doc_bodies is.messages.4 in
      let size : length bytes ≡ length first + length rest = ap (λ (u : List ℕ). length u) is.messages.2 ∙ length-append first rest in
      let rest_size : length rest ≡ length halves.front + length halves.back = ap (λ (u : List ℕ). length u) halves.parts ∙ length-append halves.front halves.back in
      let all : length first + length halves.front + length halves.back ≤ 2 ^ 32 = whole_read (length bytes) (length first) (length rest) (length halves.front) (length halves.back) size rest_size is.short in
      let m : Message = record { from = 0 + length sized.size; body = is.header_body; rest = rest } in
      let read : message_at 0 bytes ≡ Ok m = ap (message_at 0) is.messages.2 ∙ message_only laws 0 first is.header_body rest sized (first_read (length first) (length halves.front) (length halves.back) all) in
      let ends : message_end m ≡ length first = message_ends (length first) (length sized.size) (length is.header_body) (ap (λ (u : List ℕ). length u) sized.parts ∙ length-append sized.size is.header_body) in
      let start : FileStart = record { header = c.header; lists = length c.lists; docs = length c.docs } in
      let header : header_at 0 m ≡ Ok start = header_only laws 0 (0 + length sized.size) is.header_body rest c.header (length c.lists) (length c.docs) is.header in
      let few = is.header.fits.few_docs in
      let new = new_there [] c.lists (all_unseen c.lists) is.terms_differ in
      let x : ListsRead = record { lists = c.lists; at = length first + length halves.front; rest = halves.back } in
      let lists : lists_at (length c.lists) (length c.docs) 0 [] (message_end m) rest ≡ Ok x =
      ap (λ n. lists_at (length c.lists) (length c.docs) 0 [] n rest) ends ∙ ap (lists_at (length c.lists) (length c.docs) 0 [] (length first)) halves.parts
      ∙ lists_read laws (length c.docs) 0 [] (length first) halves.front halves.back is.list_bodies c.lists few halves.first is.lists new (few_read _ is.few_postings) (front_read (length first) (length halves.front) (length halves.back) all) in
      let y : DocsInOrder = record { docs = c.docs; at = x.at + length halves.back; rest = [] } in
      let docs : all_docs_at (length c.docs) x.at halves.back ≡ Ok y =
      ap (all_docs_at (length c.docs) x.at) (sym (append-nil halves.back)) ∙ all_docs_read laws c.docs x.at halves.back [] is.doc_bodies few halves.second is.docs all in
      ap (λ (r : Result Message CiffRefusal). r >>= λ m. header_at 0 m >>= λ start. lists_at start.lists start.docs 0 [] (message_end m) m.rest >>= λ x. all_docs_at start.docs x.at x.rest >>= λ y. at_end y.at y.rest (record { header = start.header; lists = x.lists; docs = y.docs })) read
      ∙ ap (λ (r : Result FileStart CiffRefusal). r >>= λ start. lists_at start.lists start.docs 0 [] (message_end m) m.rest >>= λ x. all_docs_at start.docs x.at x.rest >>= λ y. at_end y.at y.rest (record { header = start.header; lists = x.lists; docs = y.docs })) header
      ∙ ap (λ (r : Result ListsRead CiffRefusal). r >>= λ x. all_docs_at start.docs x.at x.rest >>= λ y. at_end y.at y.rest (record { header = start.header; lists = x.lists; docs = y.docs })) lists
      ∙ ap (λ (r : Result DocsInOrder CiffRefusal). r >>= λ y. at_end y.at y.rest (record { header = start.header; lists = x.lists; docs = y.docs })) docs
