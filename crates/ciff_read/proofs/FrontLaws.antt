-- What stands behind place 2^32 + 16 changes nothing of what is read.
use Rattle.shared_lemmas.proofs.Common.{◌≡◌, ℕ, zero, suc, ◌+◌, ◌-◌, ◌^◌, ◌<◌, ◌≤◌, Bool, true, false, cond, List, [], ◌∷◌, ◌++◌, length, map, take, drop, Result, Ok, Err, refl, sym, ap, subst, ◌∙◌, arith, nat_lt, le-ltb, ltb-false, ltb-true, length-take, length-drop, take-take, drop-take}
use Rattle.shared_lemmas.proofs.Common.{take_all}
use Rattle.ciff_read.proofs.Below.{ListData, CollectionData, WireWhy, varint_at}
use Rattle.ciff_read.proofs.VarintFront.{Alike, ReadAlike, varint_front}
use Rattle.ciff_read.specs.declared.refusal.CiffWhy.{CiffWhy}
use Rattle.ciff_read.specs.declared.refusal.CiffWhy.TheVariants.{Cut, Limit}
use Rattle.ciff_read.specs.declared.refusal.CiffRefusal.{CiffRefusal}
use Rattle.ciff_read.specs.Reading.{Message, message_end, message_at, body_at, ListsRead, DocsRead, DocsInOrder, docs_in_order, all_docs_at, at_end, header_at, list_at, doc_at, lists_at, docs_at, inserted, read_ciff}
use Rattle.ciff_read.specs.Judging.{FileStart, NumberedDoc, numbers_of}
use Rattle.ciff_read.specs.Refusals.{◌>>=◌, why_of, placed, field_placed}

alike_then : {A B C D : Type 0} (R : A → B → Type 0) (S : C → D → Type 0) (x : Result A CiffRefusal) (y : Result B CiffRefusal) (f : A → Result C CiffRefusal) (g : B → Result D CiffRefusal)
    → Alike R x y → ((a : A) (b : B) → R a b → Alike S (f a) (g b)) → Alike S (x >>= f) (y >>= g)
alike_then R S (Ok x) (Ok y) f g is more = more x y is
alike_then R S (Ok x) (Err e) f g is more = absurd is
alike_then R S (Err e) (Ok y) f g is more = absurd is
alike_then R S (Err e) (Err d) f g is more = is

alike_itself : {E A : Type 0} (x : Result A E) → Alike (λ a b. a ≡ b) x x
alike_itself (Ok x) = refl
alike_itself (Err e) = refl

alike_same : {E A : Type 0} (x y : Result A E) → Alike (λ a b. a ≡ b) x y → x ≡ y
alike_same (Ok x) (Ok y) is = ap Ok is
alike_same (Ok x) (Err e) is = absurd is
alike_same (Err e) (Ok y) is = absurd is
alike_same (Err e) (Err f) is = ap Err is

alike_placed : {A B : Type 0} (R : A → B → Type 0) (at : ℕ) (x : Result A CiffWhy) (y : Result B CiffWhy) → Alike R x y → Alike R (placed at x) (placed at y)
alike_placed R at (Ok x) (Ok y) is = is
alike_placed R at (Ok x) (Err e) is = absurd is
alike_placed R at (Err e) (Ok y) is = absurd is
alike_placed R at (Err e) (Err f) is = ap (λ (why : CiffWhy). record { at = at; why = why }) is

alike_field : {A B : Type 0} (R : A → B → Type 0) (at : ℕ) (x : Result A WireWhy) (y : Result B WireWhy) → Alike R x y → Alike R (field_placed at x) (field_placed at y)
alike_field R at (Ok x) (Ok y) is = is
alike_field R at (Ok x) (Err e) is = absurd is
alike_field R at (Err e) (Ok y) is = absurd is
alike_field R at (Err e) (Err f) is = ap (λ (why : CiffWhy). record { at = at; why = why }) (ap why_of is)

-- ---- messages

-- a message of all bytes from a place on, and the one of the first so many
pub record SameMessage (r size at : ℕ) (whole front : Message) : Type 0 where
  pub from : front.from ≡ whole.from
  pub body : front.body ≡ whole.body
  pub used : ℕ
  pub behind : length whole.rest + used ≡ size
  pub rest : front.rest ≡ take (r - used) whole.rest
  pub ends : message_end whole ≡ at + used
  pub near : message_end whole ≤ 2 ^ 32

picked : (R : Message → Message → Type 0) (a b c : Bool) (m n : Message) → (a ≡ false → (b ≡ false) × (c ≡ false) × R m n)
    → Alike R (let x : Result Message CiffWhy = cond a (Err Limit) (cond b (Err Cut) (Ok m)) in x) (let y : Result Message CiffWhy = cond a (Err Limit) (cond c (Err Cut) (Ok n)) in y)
picked R true b c m n is = refl
picked R false true c m n is = (let t : true ≡ false = (is refl).0 in cc)
picked R false false true m n is = (let t : true ≡ false = (is refl).1 in cc)
picked R false false false m n is = (is refl).2

-- the body of a message that ends by place 2^32, of all bytes and of the first so many
body_front : (at from used n q size r : ℕ) (t : List ℕ) → from ≡ at + used → from + q ≡ 4294967312 → q < length t → length t + used ≡ size → q ≡ r - used
    → Alike (SameMessage r size at) (body_at at from n t) (body_at at from n (take q t))
body_front at from used n q size r t starts whole long behind is =
    picked (SameMessage r size at) (nat_lt (2 ^ 32) (from + n)) (nat_lt (length t) n) (nat_lt (length (take q t)) n) (record { from = from; body = take n t; rest = drop n t }) (record { from = from; body = take n (take q t); rest = drop n (take q t) })
    (λ fits.
    let near : from + n ≤ 2 ^ 32 = ltb-false (2 ^ 32) (from + n) fits in
    let inside : n ≤ q = omega (arith, near, whole) in
    let split : q ≡ n + (q - n) = omega (arith, inside) in
    let size_is : length (take n t) ≡ n = omega (arith, length-take n t, inside, long) in (
      le-ltb _ _ (omega (arith, inside, long)),
      le-ltb _ _ (omega (arith, length-take q t, inside, long)),
      record {
        from = refl;
        body = take-take n q t inside;
        used = used + n;
        behind = omega (arith, length-drop n t, behind, inside, long);
        rest = ap (λ k. drop n (take k t)) split ∙ drop-take n (q - n) t ∙ ap (λ k. take k (drop n t)) (omega (arith, is));
        ends = omega (arith, size_is, starts);
        near = omega (arith, size_is, near);
      },
    ))

message_front : (at r : ℕ) (s : List ℕ) → at ≤ 2 ^ 32 → at + r ≡ 4294967312 → r < length s → Alike (SameMessage r (length s) at) (message_at at s) (message_at at (take r s))
unfolding message_at
message_front at r s near whole long =
    alike_then (ReadAlike 10 (length s) r) (SameMessage r (length s) at) (field_placed at (varint_at s)) (field_placed at (varint_at (take r s)))
    (λ x. placed at (body_at at (at + (length s - length x.1)) x.0 x.1)) (λ x. placed at (body_at at (at + (length (take r s) - length x.1)) x.0 x.1))
    (alike_field (ReadAlike 10 (length s) r) at (varint_at s) (varint_at (take r s)) (varint_front r s (omega (arith, near, whole))))
    (λ x y is. alike_placed (SameMessage r (length s) at) at (body_at at (at + (length s - length x.1)) x.0 x.1) (body_at at (at + (length (take r s) - length y.1)) y.0 y.1) (bodies x y is))
  where
    bodies : (x y : ℕ × List ℕ) → ReadAlike 10 (length s) r x y → Alike (SameMessage r (length s) at) (body_at at (at + (length s - length x.1)) x.0 x.1) (body_at at (at + (length (take r s) - length y.1)) y.0 y.1)
    bodies x y is =
        let R : Message → Message → Type 0 = SameMessage r (length s) at in
        let q : ℕ = r - is.used in
        let front : length (take r s) ≡ r = omega (arith, length-take r s, long) in
        let rest : length y.1 ≡ q = omega (arith, ap length is.rest, length-take q x.1, is.behind, long) in
        let first : at + (length s - length x.1) ≡ at + is.used = omega (arith, is.behind) in
        let second : at + (length (take r s) - length y.1) ≡ at + is.used = omega (arith, front, rest, is.few, near, whole) in
        let made : Alike R (body_at at (at + is.used) x.0 x.1) (body_at at (at + is.used) x.0 (take q x.1))
        = body_front at (at + is.used) is.used x.0 q (length s) r x.1 refl (omega (arith, is.few, near, whole)) (omega (arith, is.behind, long, is.few, near, whole)) is.behind refl in
        let one : Alike R (body_at at (at + (length s - length x.1)) x.0 x.1) (body_at at (at + is.used) x.0 (take q x.1)) = subst (λ k. Alike R (body_at at k x.0 x.1) (body_at at (at + is.used) x.0 (take q x.1))) (sym first) made in
        let two : Alike R (body_at at (at + (length s - length x.1)) x.0 x.1) (body_at at (at + is.used) y.0 (take q x.1)) = subst (λ k. Alike R (body_at at (at + (length s - length x.1)) x.0 x.1) (body_at at (at + is.used) k (take q x.1))) (sym is.number) one in
        let three : Alike R (body_at at (at + (length s - length x.1)) x.0 x.1) (body_at at (at + is.used) y.0 y.1) = subst (λ k. Alike R (body_at at (at + (length s - length x.1)) x.0 x.1) (body_at at (at + is.used) y.0 k)) (sym is.rest) two in
        subst (λ k. Alike R (body_at at (at + (length s - length x.1)) x.0 x.1) (body_at at k y.0 y.1)) (sym second) three

-- ---- lists, documents, and the file

-- what stands behind is the same bytes, of which the front has those up to place 2^32 + 16
pub record SameRest (at : ℕ) (whole front : List ℕ) : Type 0 where
  pub near : at ≤ 2 ^ 32
  pub rest : front ≡ take (4294967312 - at) whole
  pub long : 4294967312 - at < length whole

same_rest : (at r : ℕ) (s : List ℕ) (m n : Message) → at ≤ 2 ^ 32 → at + r ≡ 4294967312 → r < length s → SameMessage r (length s) at m n → SameRest (message_end m) m.rest n.rest
same_rest at r s m n near whole long is = record {
  near = is.near;
  rest = is.rest ∙ ap (λ k. take k m.rest) (omega (arith, is.ends, whole, is.near));
  long = omega (arith, is.ends, whole, is.behind, long, is.near);
}

same_message : (m n : Message) → n.from ≡ m.from → n.body ≡ m.body → n ≡ record { from = m.from; body = m.body; rest = n.rest }
same_message m n from body i = record { from = from i; body = body i; rest = n.rest }

alike_equal : {E A : Type 0} (x y : Result A E) → x ≡ y → Alike (λ a b. a ≡ b) x y
alike_equal x y is = subst (λ z. Alike (λ a b. a ≡ b) x z) is (alike_itself x)

module _ (at : ℕ) (m n : Message) (from : n.from ≡ m.from) (body : n.body ≡ m.body) where
  ends : message_end n ≡ message_end m
  ends i = from i + length (body i)

  pub header_same : header_at at m ≡ header_at at n
  unfolding header_at
  header_same = sym (ap (header_at at) (same_message m n from body))

  pub list_same : (docs before : ℕ) (terms : List (List ℕ)) → list_at docs before terms at m ≡ list_at docs before terms at n
  unfolding list_at
  list_same docs before terms = sym (ap (list_at docs before terms at) (same_message m n from body))

  pub doc_same : (docs : ℕ) (numbers : List ℕ) → doc_at docs numbers at m ≡ doc_at docs numbers at n
  unfolding doc_at
  doc_same docs numbers = sym (ap (doc_at docs numbers at) (same_message m n from body))

-- the message at the front, where the rest is known
message_there : (at : ℕ) (s t : List ℕ) → SameRest at s t → Alike (SameMessage (4294967312 - at) (length s) at) (message_at at s) (message_at at t)
message_there at s t is =
    subst (λ k. Alike (SameMessage (4294967312 - at) (length s) at) (message_at at s) (message_at at k)) (sym is.rest) (message_front at (4294967312 - at) s is.near (omega (arith, is.near)) is.long)

rest_there : (at : ℕ) (s t : List ℕ) (m n : Message) → SameRest at s t → SameMessage (4294967312 - at) (length s) at m n → SameRest (message_end m) m.rest n.rest
rest_there at s t m n is message = same_rest at (4294967312 - at) s m n is.near (omega (arith, is.near)) is.long message

pub record SameLists (whole front : ListsRead) : Type 0 where
  pub lists : front.lists ≡ whole.lists
  pub at : front.at ≡ whole.at
  pub rest : SameRest whole.at whole.rest front.rest

lists_front : (n docs before : ℕ) (terms : List (List ℕ)) (at : ℕ) (s t : List ℕ) → SameRest at s t → Alike SameLists (lists_at n docs before terms at s) (lists_at n docs before terms at t)
unfolding lists_at
lists_front zero docs before terms at s t is = record { lists = refl; at = refl; rest = is }
lists_front (suc n) docs before terms at s t is =
    alike_then (SameMessage (4294967312 - at) (length s) at) SameLists (message_at at s) (message_at at t)
    (λ m. list_at docs before terms at m >>= λ list. lists_at n docs (before + length list.postings) (terms ++ list.term ∷ []) (message_end m) m.rest >>= λ later. Ok (record { lists = list ∷ later.lists; at = later.at; rest = later.rest }))
    (λ m. list_at docs before terms at m >>= λ list. lists_at n docs (before + length list.postings) (terms ++ list.term ∷ []) (message_end m) m.rest >>= λ later. Ok (record { lists = list ∷ later.lists; at = later.at; rest = later.rest }))
    (message_there at s t is) (λ m k message. behind (lists_front n docs) m k message)
  where
    more : ℕ → List ℕ → ListData → Result ListsRead CiffRefusal
    more end rest list = lists_at n docs (before + length list.postings) (terms ++ list.term ∷ []) end rest >>= λ later. Ok (record { lists = list ∷ later.lists; at = later.at; rest = later.rest })

    after :
        ((before : ℕ) (terms : List (List ℕ)) (at : ℕ) (s t : List ℕ) → SameRest at s t → Alike SameLists (lists_at n docs before terms at s) (lists_at n docs before terms at t))
        → (m k : Message) → SameMessage (4294967312 - at) (length s) at m k → (list : ListData)
        → Alike SameLists (more (message_end m) m.rest list) (more (message_end m) k.rest list)
    after again m k message list =
        alike_then SameLists SameLists (lists_at n docs (before + length list.postings) (terms ++ list.term ∷ []) (message_end m) m.rest) (lists_at n docs (before + length list.postings) (terms ++ list.term ∷ []) (message_end m) k.rest)
        (λ later. Ok (record { lists = list ∷ later.lists; at = later.at; rest = later.rest })) (λ later. Ok (record { lists = list ∷ later.lists; at = later.at; rest = later.rest }))
        (again (before + length list.postings) (terms ++ list.term ∷ []) (message_end m) m.rest k.rest (rest_there at s t m k is message))
        (λ x y same. record { lists = ap (λ (ls : List ListData). list ∷ ls) same.lists; at = same.at; rest = same.rest })

    behind :
        ((before : ℕ) (terms : List (List ℕ)) (at : ℕ) (s t : List ℕ) → SameRest at s t → Alike SameLists (lists_at n docs before terms at s) (lists_at n docs before terms at t))
        → (m k : Message) → SameMessage (4294967312 - at) (length s) at m k → Alike SameLists (list_at docs before terms at m >>= more (message_end m) m.rest)
        (list_at docs before terms at k >>= more (message_end k) k.rest)
    behind again m k message =
        alike_then (λ a b. a ≡ b) SameLists (list_at docs before terms at m) (list_at docs before terms at k) (more (message_end m) m.rest) (more (message_end k) k.rest)
        (alike_equal (list_at docs before terms at m) (list_at docs before terms at k) (list_same at m k message.from message.body docs before terms))
        (λ a b same. subst (λ (l : ListData). Alike SameLists (more (message_end m) m.rest a) (more (message_end k) k.rest l)) same
        (subst (λ end. Alike SameLists (more (message_end m) m.rest a) (more end k.rest a)) (sym (ends at m k message.from message.body)) (after again m k message a)))

pub record SameDocs (whole front : DocsRead) : Type 0 where
  pub records : front.records ≡ whole.records
  pub at : front.at ≡ whole.at
  pub rest : SameRest whole.at whole.rest front.rest

docs_front : (n docs : ℕ) (records : List NumberedDoc) (at : ℕ) (s t : List ℕ) → SameRest at s t → Alike SameDocs (docs_at n docs records at s) (docs_at n docs records at t)
unfolding docs_at
docs_front zero docs records at s t is = record { records = refl; at = refl; rest = is }
docs_front (suc n) docs records at s t is =
    alike_then (SameMessage (4294967312 - at) (length s) at) SameDocs (message_at at s) (message_at at t)
    (λ m. doc_at docs (numbers_of records) at m >>= λ x. docs_at n docs (inserted x records) (message_end m) m.rest)
    (λ m. doc_at docs (numbers_of records) at m >>= λ x. docs_at n docs (inserted x records) (message_end m) m.rest)
    (message_there at s t is) (λ m k message. behind (docs_front n docs) m k message)
  where
    more : ℕ → List ℕ → NumberedDoc → Result DocsRead CiffRefusal
    more end rest x = docs_at n docs (inserted x records) end rest

    behind :
        ((records : List NumberedDoc) (at : ℕ) (s t : List ℕ) → SameRest at s t → Alike SameDocs (docs_at n docs records at s) (docs_at n docs records at t))
        → (m k : Message) → SameMessage (4294967312 - at) (length s) at m k → Alike SameDocs
        (doc_at docs (numbers_of records) at m >>= more (message_end m) m.rest) (doc_at docs (numbers_of records) at k >>= more (message_end k) k.rest)
    behind again m k message =
        alike_then (λ a b. a ≡ b) SameDocs (doc_at docs (numbers_of records) at m) (doc_at docs (numbers_of records) at k) (more (message_end m) m.rest) (more (message_end k) k.rest)
        (alike_equal (doc_at docs (numbers_of records) at m) (doc_at docs (numbers_of records) at k) (doc_same at m k message.from message.body docs (numbers_of records)))
        (λ a b same. subst (λ (x : NumberedDoc). Alike SameDocs (more (message_end m) m.rest a) (more (message_end k) k.rest x)) same
        (subst (λ end. Alike SameDocs (more (message_end m) m.rest a) (more end k.rest a)) (sym (ends at m k message.from message.body))
        (again (inserted a records) (message_end m) m.rest k.rest (rest_there at s t m k is message))))

-- documents in order, and where they end
record SameOrder (whole front : DocsInOrder) : Type 0 where
  docs : front.docs ≡ whole.docs
  at : front.at ≡ whole.at
  rest : SameRest whole.at whole.rest front.rest

-- something stands behind the last message of both
end_front : {A : Type 0} (at : ℕ) (s t : List ℕ) (x y : A) → SameRest at s t → at_end at s x ≡ at_end at t y
end_front at [] t x y is = absurd (omega (arith, is.long, is.near))
end_front at (b ∷ s) [] x y is =
    let size : length {A = ℕ} [] ≡ length (take (4294967312 - at) (b ∷ s)) = ap length is.rest in
    absurd (omega (arith, size, length-take (4294967312 - at) (b ∷ s), is.long, is.near))
end_front at (b ∷ s) (c ∷ t) x y is = refl

long_front : (bytes : List ℕ) → 4294967312 < length bytes → read_ciff bytes ≡ read_ciff (take 4294967312 bytes)
unfolding read_ciff
long_front bytes long =
    alike_same (read_ciff bytes) (read_ciff (take 4294967312 bytes))
    (alike_then (SameMessage 4294967312 (length bytes) 0) (λ a b. a ≡ b) (message_at 0 bytes) (message_at 0 (take 4294967312 bytes)) (λ m. header_at 0 m >>= file m) (λ m. header_at 0 m >>= file m)
    (message_front 0 4294967312 bytes (omega arith) refl long)
    (λ m k message. alike_then (λ a b. a ≡ b) (λ a b. a ≡ b) (header_at 0 m) (header_at 0 k) (file m) (file k)
    (alike_equal (header_at 0 m) (header_at 0 k) (header_same 0 m k message.from message.body))
    (λ a b same. subst (λ (x : FileStart). Alike (λ a b. a ≡ b) (file m a) (file k x)) same (files m k a message))))
  where
    docs : FileStart → List ListData → ℕ → List ℕ → Result CollectionData CiffRefusal
    docs start lists at rest = all_docs_at start.docs at rest >>= λ y. at_end y.at y.rest (record { header = start.header; lists = lists; docs = y.docs })

    file : Message → FileStart → Result CollectionData CiffRefusal
    file m start = lists_at start.lists start.docs 0 [] (message_end m) m.rest >>= λ x. docs start x.lists x.at x.rest

    all : (start : FileStart) (lists : List ListData) (at : ℕ) (s t : List ℕ) → SameRest at s t → Alike (λ a b. a ≡ b) (docs start lists at s) (docs start lists at t)
    all start lists at s t is =
        alike_then SameOrder (λ a b. a ≡ b) (all_docs_at start.docs at s) (all_docs_at start.docs at t)
        (λ y. at_end y.at y.rest (record { header = start.header; lists = lists; docs = y.docs })) (λ y. at_end y.at y.rest (record { header = start.header; lists = lists; docs = y.docs }))
        (alike_then SameDocs SameOrder (docs_at start.docs start.docs [] at s) (docs_at start.docs start.docs [] at t) (λ x. Ok (docs_in_order x)) (λ x. Ok (docs_in_order x))
        (docs_front start.docs start.docs [] at s t is)
        (λ x y same. record { docs = ap (map (λ (r : NumberedDoc). r.doc)) same.records; at = same.at; rest = same.rest }))
        (λ x y same.
        alike_equal (at_end x.at x.rest (record { header = start.header; lists = lists; docs = x.docs })) (at_end y.at y.rest (record { header = start.header; lists = lists; docs = y.docs }))
        (end_front x.at x.rest y.rest (record { header = start.header; lists = lists; docs = x.docs }) (record { header = start.header; lists = lists; docs = y.docs }) same.rest
        ∙ ap (λ at. at_end at y.rest (record { header = start.header; lists = lists; docs = y.docs })) (sym same.at)))

    files : (m k : Message) (start : FileStart) → SameMessage 4294967312 (length bytes) 0 m k → Alike (λ a b. a ≡ b) (file m start) (file k start)
    files m k start message =
        subst (λ end. Alike (λ a b. a ≡ b) (file m start) (lists_at start.lists start.docs 0 [] end k.rest >>= λ x. docs start x.lists x.at x.rest)) (sym (ends 0 m k message.from message.body))
        (alike_then SameLists (λ a b. a ≡ b) (lists_at start.lists start.docs 0 [] (message_end m) m.rest) (lists_at start.lists start.docs 0 [] (message_end m) k.rest)
        (λ x. docs start x.lists x.at x.rest) (λ x. docs start x.lists x.at x.rest)
        (lists_front start.lists start.docs 0 [] (message_end m) m.rest k.rest (same_rest 0 4294967312 bytes m k (omega arith) refl long message))
        (λ x y same.
        subst (λ (lists : List ListData). Alike (λ a b. a ≡ b) (docs start x.lists x.at x.rest) (docs start lists y.at y.rest)) (sym same.lists)
        (subst (λ at. Alike (λ a b. a ≡ b) (docs start x.lists x.at x.rest) (docs start x.lists at y.rest)) (sym same.at) (all start x.lists x.at x.rest y.rest same.rest))))

-- the first 2^32 + 16 bytes decide
pub front_enough : (bytes : List ℕ) → read_ciff (take 4294967312 bytes) ≡ read_ciff bytes
front_enough bytes = go (nat_lt 4294967312 (length bytes)) refl
  where
    go : (test : Bool) → nat_lt 4294967312 (length bytes) ≡ test → read_ciff (take 4294967312 bytes) ≡ read_ciff bytes
    go true is = sym (long_front bytes (ltb-true 4294967312 (length bytes) is))
    go false is = ap read_ciff (take_all 4294967312 bytes (ltb-false 4294967312 (length bytes) is))
