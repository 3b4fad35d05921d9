-- Fields whose tag is one byte.
use Rattle.shared_lemmas.proofs.Common.{◌≡◌, ◌≢◌, ℕ, suc, ◌+◌, ◌*◌, ◌<◌, ◌≤◌, false, List, [], ◌∷◌, ◌++◌, length, map, drop, get_or, refl, sym, ap, ◌∙◌, append_assoc, drop-cons, add-one, arith, ◌==◌, nat_le, nat_tests, list_all, flat_map, length-map}
use Rattle.std.proofs.Common.{length-append}
use mir.Val.{bool_byte}
use Rattle.ciff_write.proofs.Below.{short_varint, Posting, PostingsList, DocRecord, Collection, HeaderData, ListData, DocData, header_data, list_data, doc_data, collection_data, sized, number_spelling, text_spelling, eight_spelling, postings_spelling, header_body, list_body, doc_body}
use Rattle.ciff_write.proofs.Below.{docs_spelling, one_group_written}
use Rattle.jass_base.specs.CiffText.{canonical_ciff}
use Rattle.ciff_write.proofs.Varints.{few_groups}

pub number_some : (i n : ℕ) → n ≢ 0 → i < 16 → number_spelling i n ≡ (i * 8) ∷ short_varint n
number_some i n some small =
    let is : (n == 0) ≡ false = grind (arith, nat_tests) in
    rw is (ap (λ (tag : List ℕ). tag ++ short_varint n) (one_group_written (i * 8) (omega arith)))

pub text_some : (i : ℕ) (text : List ℕ) → length text ≢ 0 → i < 15 → text_spelling i text ≡ (i * 8 + 2) ∷ sized text
text_some i text some small =
    let is : (length text == 0) ≡ false = grind (arith, nat_tests) in
    rw is (ap (λ (tag : List ℕ). tag ++ sized text) (one_group_written (i * 8 + 2) (omega arith)))

-- the bytes of a posting one after the other
pub posting_put : (old a b : List ℕ) (size : ℕ) → size ≡ length (a ++ b) → size < 128 → (((old ++ 34 ∷ []) ++ size ∷ []) ++ a) ++ b ≡ old ++ (short_varint 34 ++ sized (a ++ b))
posting_put old a b size is small =
    let spelled : short_varint (length (a ++ b)) ≡ size ∷ [] = ap short_varint (sym is) ∙ one_group_written size small in
    rw (spelled, one_group_written 34 (omega arith)) (simp append_assoc refl)

pub eight_some : (i : ℕ) (bytes : List ℕ) → list_all (λ b. b == 0) bytes ≡ false → i < 15 → eight_spelling i bytes ≡ (i * 8 + 1) ∷ bytes
eight_some i bytes some small = rw some (ap (λ (tag : List ℕ). tag ++ bytes) (one_group_written (i * 8 + 1) (omega arith)))

-- pieces that are put one after another
pub six_put : (old s1 s2 s3 s4 s5 s6 a b c d e f : List ℕ) → s1 ≡ old ++ a → s2 ≡ s1 ++ b → s3 ≡ s2 ++ c → s4 ≡ s3 ++ d → s5 ≡ s4 ++ e → s6 ≡ s5 ++ f → s6 ≡ old ++ (((((a ++ b) ++ c) ++ d) ++ e) ++ f)
six_put old s1 s2 s3 s4 s5 s6 a b c d e f p1 p2 p3 p4 p5 p6 = rw (p6, p5, p4, p3, p2, p1) (simp append_assoc refl)

three_parts : (a b c : List ℕ) → a ++ (b ++ c) ≡ (a ++ b) ++ c
three_parts a b c = sym (append_assoc a b c)

four_parts : (a b c d : List ℕ) → a ++ (b ++ (c ++ d)) ≡ ((a ++ b) ++ c) ++ d
four_parts a b c d = sym (append_assoc a b (c ++ d)) ∙ sym (append_assoc (a ++ b) c d)

pub three_long : (a b c : List ℕ) → length ((a ++ b) ++ c) ≡ (length a + length b) + length c
three_long a b c = length-append (a ++ b) c ∙ ap (λ (n : ℕ). n + length c) (length-append a b)

pub four_long : (a b c d : List ℕ) → length (((a ++ b) ++ c) ++ d) ≡ ((length a + length b) + length c) + length d
four_long a b c d = length-append ((a ++ b) ++ c) d ∙ ap (λ (n : ℕ). n + length d) (three_long a b c)

pub eight_long : (a b c d e f g h : List ℕ) → length (((((((a ++ b) ++ c) ++ d) ++ e) ++ f) ++ g) ++ h) ≡ ((((((length a + length b) + length c) + length d) + length e) + length f) + length g) + length h
eight_long a b c d e f g h = four_long ((((a ++ b) ++ c) ++ d) ++ e) f g h ∙ ap (λ (n : ℕ). ((n + length f) + length g) + length h) (three_long ((a ++ b) ++ c) d e ∙ ap (λ (n : ℕ). (n + length d) + length e) (three_long a b c))

-- messages in their parts, as they are put
pub header_spelled : (h : HeaderData) (lists docs n : ℕ) (description : List ℕ) → n ≡ length (header_body h lists docs) → description ≡ h.description →
    short_varint n ++
    (((number_spelling 1 h.version ++ number_spelling 2 lists ++ number_spelling 3 docs ++ number_spelling 4 h.total_lists ++ number_spelling 5 h.total_docs ++ number_spelling 6 h.total_terms) ++ eight_spelling 7 h.average)
    ++ text_spelling 8 description) ≡ sized (header_body h lists docs)
header_spelled h lists docs n description size is =
    let front : List ℕ = (number_spelling 1 h.version ++ number_spelling 2 lists ++ number_spelling 3 docs ++ number_spelling 4 h.total_lists ++ number_spelling 5 h.total_docs ++ number_spelling 6 h.total_terms) ++ eight_spelling 7 h.average in
    ap (λ (k : ℕ). short_varint k ++ (front ++ text_spelling 8 description)) size ∙ ap (λ (text : List ℕ). short_varint (length (header_body h lists docs)) ++ (front ++ text_spelling 8 text)) is

pub list_spelled : (l : ListData) (n : ℕ) (term : List ℕ) (postings : List Posting) → n ≡ length (list_body l) → term ≡ l.term → postings ≡ l.postings →
    short_varint n ++ (text_spelling 1 term ++ (number_spelling 2 l.df ++ (number_spelling 3 l.cf ++ postings_spelling 0 postings))) ≡ sized (list_body l)
list_spelled l n term postings size t p =
    ap (λ (k : ℕ). short_varint k ++ (text_spelling 1 term ++ (number_spelling 2 l.df ++ (number_spelling 3 l.cf ++ postings_spelling 0 postings)))) size
    ∙ ap (λ (text : List ℕ). short_varint (length (list_body l)) ++ (text_spelling 1 text ++ (number_spelling 2 l.df ++ (number_spelling 3 l.cf ++ postings_spelling 0 postings)))) t
    ∙ ap (λ (ps : List Posting). short_varint (length (list_body l)) ++ (text_spelling 1 l.term ++ (number_spelling 2 l.df ++ (number_spelling 3 l.cf ++ postings_spelling 0 ps)))) p
    ∙ ap (λ (body : List ℕ). short_varint (length (list_body l)) ++ body) (four_parts (text_spelling 1 l.term) (number_spelling 2 l.df) (number_spelling 3 l.cf) (postings_spelling 0 l.postings))

pub doc_spelled : (number : ℕ) (d : DocData) (n : ℕ) (name : List ℕ) (size : ℕ) → n ≡ length (doc_body number d) → name ≡ d.name → size ≡ d.length →
    short_varint n ++ (number_spelling 1 number ++ (text_spelling 2 name ++ number_spelling 3 size)) ≡ sized (doc_body number d)
doc_spelled number d n name size len is s =
    ap (λ (k : ℕ). short_varint k ++ (number_spelling 1 number ++ (text_spelling 2 name ++ number_spelling 3 size))) len
    ∙ ap (λ (text : List ℕ). short_varint (length (doc_body number d)) ++ (number_spelling 1 number ++ (text_spelling 2 text ++ number_spelling 3 size))) is
    ∙ ap (λ (m : ℕ). short_varint (length (doc_body number d)) ++ (number_spelling 1 number ++ (text_spelling 2 d.name ++ number_spelling 3 m))) s
    ∙ ap (λ (body : List ℕ). short_varint (length (doc_body number d)) ++ body) (three_parts (number_spelling 1 number) (text_spelling 2 d.name) (number_spelling 3 d.length))

-- the first of the lists and of the documents from a place on
pub lists_next : (lists : List PostingsList) (i : ℕ) (list : PostingsList) → i < length lists → list ≡ get_or lists i list →
    flat_map (λ (l : PostingsList). sized (list_body (list_data l))) (drop i lists) ≡ sized (list_body (list_data list)) ++ flat_map (λ (l : PostingsList). sized (list_body (list_data l))) (drop (i + 1) lists)
lists_next lists i list inside is = rw (add-one i) (ap (flat_map (λ (l : PostingsList). sized (list_body (list_data l)))) (drop-cons lists i list inside ∙ ap (λ (l : PostingsList). l ∷ drop (suc i) lists) (sym is)))

pub docs_next : (number : ℕ) (docs : List DocRecord) (i : ℕ) (doc : DocRecord) → i < length docs → doc ≡ get_or docs i doc →
    docs_spelling number (map doc_data (drop i docs)) ≡ sized (doc_body number (doc_data doc)) ++ docs_spelling (number + 1) (map doc_data (drop (i + 1) docs))
docs_next number docs i doc inside is = rw (add-one i) (ap (λ (ds : List DocRecord). docs_spelling number (map doc_data ds)) (drop-cons docs i doc inside ∙ ap (λ (d : DocRecord). d ∷ drop (suc i) docs) (sym is)))

-- the messages of a file
lists_of : (lists : List PostingsList) → flat_map (λ (l : PostingsList). sized (list_body (list_data l))) lists ≡ flat_map (λ (l : ListData). sized (list_body l)) (map list_data lists)
lists_of [] = refl
lists_of (l ∷ ls) = ap (λ (s : List ℕ). sized (list_body (list_data l)) ++ s) (lists_of ls)

pub file_spelled : (c : Collection) (n m : ℕ) (lists : List PostingsList) (docs : List DocRecord) → lists ≡ c.lists → docs ≡ c.docs → n ≡ length lists → m ≡ length docs →
    sized (header_body (header_data c.header) n m) ++ (flat_map (λ (l : PostingsList). sized (list_body (list_data l))) lists ++ docs_spelling 0 (map doc_data docs)) ≡ canonical_ciff (collection_data c)
unfolding canonical_ciff
file_spelled c n m lists docs l d size_l size_d =
    let head : List ℕ = sized (header_body (header_data c.header) (length (map list_data c.lists)) (length (map doc_data c.docs))) in
    let many : n ≡ length (map list_data c.lists) = size_l ∙ ap (λ (ls : List PostingsList). length ls) l ∙ sym (length-map c.lists list_data) in
    let most : m ≡ length (map doc_data c.docs) = size_d ∙ ap (λ (ds : List DocRecord). length ds) d ∙ sym (length-map c.docs doc_data) in
    let all : List ℕ → List ℕ = λ (h : List ℕ). h ++ (flat_map (λ (l : PostingsList). sized (list_body (list_data l))) lists ++ docs_spelling 0 (map doc_data docs)) in
    ap (λ (k : ℕ). all (sized (header_body (header_data c.header) k m))) many
    ∙ ap (λ (k : ℕ). all (sized (header_body (header_data c.header) (length (map list_data c.lists)) k))) most
    ∙ ap (λ (ls : List PostingsList). head ++ (flat_map (λ (l : PostingsList). sized (list_body (list_data l))) ls ++ docs_spelling 0 (map doc_data docs))) l
    ∙ ap (λ (ds : List DocRecord). head ++ (flat_map (λ (l : PostingsList). sized (list_body (list_data l))) c.lists ++ docs_spelling 0 (map doc_data ds))) d
    ∙ ap (λ (s : List ℕ). head ++ (s ++ docs_spelling 0 (map doc_data c.docs))) (lists_of c.lists)
    ∙ sym (append_assoc head (flat_map (λ (l : ListData). sized (list_body l)) (map list_data c.lists)) (docs_spelling 0 (map doc_data c.docs)))

-- a posting whose tf has one byte
pub posting_spelled : (gap tf : ℕ) (groups : List ℕ) → gap ≢ 0 → tf ≢ 0 → tf < 128 → length groups ≤ 10 → short_varint gap ≡ groups →
    short_varint 34 ++ sized (number_spelling 1 gap ++ number_spelling 2 tf) ≡ 34 ∷ (3 + length groups) ∷ 8 ∷ (groups ++ 16 ∷ tf ∷ [])
posting_spelled gap tf groups some often small few is =
    let first : number_spelling 1 gap ≡ 8 ∷ groups = number_some 1 gap some (omega arith) ∙ ap (λ (s : List ℕ). 8 ∷ s) is in
    let second : number_spelling 2 tf ≡ 16 ∷ tf ∷ [] = number_some 2 tf often (omega arith) ∙ ap (λ (s : List ℕ). 16 ∷ s) (one_group_written tf small) in
    let body : number_spelling 1 gap ++ number_spelling 2 tf ≡ 8 ∷ (groups ++ 16 ∷ tf ∷ []) = ap (λ (s : List ℕ). s ++ number_spelling 2 tf) first ∙ ap (λ (s : List ℕ). 8 ∷ (groups ++ s)) second in
    let size : length (8 ∷ (groups ++ 16 ∷ tf ∷ [])) ≡ 3 + length groups = omega (arith, length-append groups (16 ∷ tf ∷ [])) in
    let head : short_varint (length (8 ∷ (groups ++ 16 ∷ tf ∷ []))) ≡ (3 + length groups) ∷ [] = ap short_varint size ∙ one_group_written (3 + length groups) (omega (arith, few)) in
    ap (λ (s : List ℕ). s ++ sized (number_spelling 1 gap ++ number_spelling 2 tf)) (one_group_written 34 (omega arith))
    ∙ ap (λ (s : List ℕ). 34 ∷ sized s) body
    ∙ ap (λ (s : List ℕ). 34 ∷ (s ++ 8 ∷ (groups ++ 16 ∷ tf ∷ []))) head

-- and how many bytes its body has
pub posting_long : (gap tf a b : ℕ) → gap ≢ 0 → gap < 2097152 → tf ≢ 0 → tf < 128 → a ≡ bool_byte (nat_le 128 gap) → b ≡ bool_byte (nat_le 16384 gap) → 4 + a + b ≡ length (number_spelling 1 gap ++ number_spelling 2 tf)
posting_long gap tf a b some short often small p q =
    let first : length (number_spelling 1 gap) ≡ suc (length (short_varint gap)) = ap length (number_some 1 gap some (omega arith)) in
    let second : length (number_spelling 2 tf) ≡ 2 = ap length (number_some 2 tf often (omega arith)) ∙ ap (λ (s : List ℕ). suc (length s)) (one_group_written tf small) in
    omega (arith, p, q, first, second, few_groups gap short, length-append (number_spelling 1 gap) (number_spelling 2 tf))
