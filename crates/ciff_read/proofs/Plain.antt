-- No refusal of a message says that something changed: it is read once.
use Rattle.shared_lemmas.proofs.Common.{◌≡◌, ℕ, zero, suc, ◌+◌, ◌^◌, ◌-◌, Bool, true, false, cond, List, [], ◌∷◌, ◌++◌, length, Result, Ok, Err, sym, subst, ◌==◌, ◌||◌, ◌&&◌, not, nat_lt, nat_le, ⊤, fold, is_utf8}
use Rattle.ciff_read.proofs.Below.{Posting, WireField, WireValue, Number, Eight, Text, Four, WireWhy, field_at}
use Rattle.wire_fields.specs.declared.fault.WireWhy.TheVariants as wire
use Rattle.ciff_read.specs.declared.posting_fields.PostingFields.{PostingFields}
use Rattle.ciff_read.specs.declared.refusal.CiffWhy.{CiffWhy}
use Rattle.ciff_read.specs.declared.refusal.CiffWhy.TheVariants as whys
use Rattle.ciff_read.specs.declared.refusal.CiffRefusal.{CiffRefusal}
use Rattle.ciff_read.specs.declared.refusal.CiffFault.{CiffFault}
use Rattle.ciff_read.specs.declared.refusal.CiffFault.TheVariants as faults
use Rattle.ciff_read.specs.Judging.{FileStart, ListStart, NumberedDoc, start_of, list_start_of, numbered_of, is_among, is_name, over31, over63, last_from, judge_header, judge_list, judge_doc, judge, gather, postings_of}
use Rattle.ciff_read.specs.Private.Moving.{fault_moved}
use Rattle.ciff_read.specs.Private.Places.{numbered_in}
use Rattle.ciff_read.specs.Private.Recording.{judge_rest, recorded}
use Rattle.ciff_read.specs.declared.walked_doc.WalkedDoc.{WalkedDoc}
use Rattle.ciff_read.specs.Reading.{Message, start_at, list_walk_at, numbered_at, header_at, list_at, doc_at}
use Rattle.ciff_read.specs.Refusals.{◌>>=◌, placed, field_placed, why_of, Fails}
use Rattle.ciff_read.specs.Plain.{SaysNoChange, IsPlain}
use Rattle.ciff_read.specs.Seen.{is_seen}
use Rattle.ciff_read.specs.Walking.{PlacedEntry, in_front, walk, walk_within, nothing_inside, entry_of, entry_at, entry_in, entry_inside}

-- what is read, or a refusal that says no change
abbrev Plain : {A : Type 0} → Result A CiffRefusal → Type 0
Plain (Ok x) = ⊤
Plain (Err e) = SaysNoChange e.why

abbrev IsPlainWhy : {A : Type 0} → Result A CiffWhy → Type 0
IsPlainWhy (Ok x) = ⊤
IsPlainWhy (Err why) = SaysNoChange why

then_plain : {A B : Type 0} (r : Result A CiffRefusal) (f : A → Result B CiffRefusal) → Plain r → ((x : A) → Plain (f x)) → Plain (r >>= f)
then_plain (Ok x) f plain each = each x
then_plain (Err e) f plain each = plain

placed_plain : {A : Type 0} (at : ℕ) (r : Result A CiffWhy) → IsPlainWhy r → Plain (placed at r)
placed_plain at (Ok x) plain = tt
placed_plain at (Err why) plain = plain

why_plain : (why : WireWhy) → SaysNoChange (why_of why)
why_plain wire.Cut = tt
why_plain wire.LongVarint = tt
why_plain wire.BadWire = tt
why_plain wire.FieldNumber = tt

field_plain : {A : Type 0} (at : ℕ) (r : Result A WireWhy) → Plain (field_placed at r)
field_plain at (Ok x) = tt
field_plain at (Err why) = why_plain why

abbrev Inside : (ℕ → ℕ → WireField → Result (List PlacedEntry) CiffRefusal) → Type 0
Inside inside = (at next : ℕ) (f : WireField) → Plain (inside at next f)

walk_plain : (inside : ℕ → ℕ → WireField → Result (List PlacedEntry) CiffRefusal) → Inside inside → (k at : ℕ) (s : List ℕ) → Plain (walk_within inside k at s)
unfolding walk_within
walk_plain inside plain k at [] = tt
walk_plain inside plain zero at (b ∷ s) = tt
walk_plain inside plain (suc k) at (b ∷ s) =
    then_plain (field_placed at (field_at (b ∷ s))) (λ x. inside at (at + (length (b ∷ s) - length x.1)) x.0 >>= λ entries. walk_within inside k (at + (length (b ∷ s) - length x.1)) x.1 >>= λ later. Ok (in_front x.0 entries later)) (field_plain at (field_at (b ∷ s)))
    (λ x. let next : ℕ = at + (length (b ∷ s) - length x.1) in
    then_plain (inside at next x.0) (λ entries. walk_within inside k next x.1 >>= λ later. Ok (in_front x.0 entries later)) (plain at next x.0)
    (λ entries. then_plain (walk_within inside k next x.1) (λ later. Ok (in_front x.0 entries later)) (walk_plain inside plain k next x.1) (λ later. tt)))

entry_at_plain : (from : ℕ) (body : List ℕ) → Plain (entry_at from body)
entry_at_plain from body = then_plain (walk nothing_inside from body) (λ walked. Ok (entry_of walked.fields)) (walk_plain nothing_inside (λ at next f. tt) (length body) from body) (λ w. tt)

entry_in_plain : (v : WireValue) (at next : ℕ) → Plain (entry_in v at next)
entry_in_plain (Number m) at next = tt
entry_in_plain (Eight bytes) at next = tt
entry_in_plain (Text body) at next = then_plain (entry_at (next - length body) body) (λ entry. Ok (record { at = at; entry = entry } ∷ [])) (entry_at_plain (next - length body) body) (λ entry. tt)
entry_in_plain (Four bytes) at next = tt

entry_plain : Inside entry_inside
entry_plain at next f = go (f.number == 4)
  where
    go : (test : Bool) → Plain (cond test (entry_in f.value at next) (Ok []))
    go true = entry_in_plain f.value at next
    go false = tt

five : (a b c d e : Bool) (x : Posting) → IsPlainWhy (cond a (Err whys.Range) (cond b (Err whys.Tf) (cond c (Err whys.Gap) (cond d (Err whys.DocRange) (cond e (Err whys.Limit) (Ok x))))))
five true b c d e x = tt
five false true c d e x = tt
five false false true d e x = tt
five false false false true e x = tt
five false false false false true x = tt
five false false false false false x = tt

judge_plain : (docs before : ℕ) (ps : List Posting) (e : PostingFields) → IsPlainWhy (judge docs before ps e)
judge_plain docs before ps e =
    five (over31 e.docid || over31 e.tf) (e.tf == 0) (e.docid == 0 && nat_lt 0 (length ps)) (nat_le docs (last_from 0 ps + e.docid)) (nat_le (2 ^ 29) (before + length ps)) (record { doc = last_from 0 ps + e.docid; tf = e.tf })

gather_plain : (docs before : ℕ) (r : Result (List Posting) CiffRefusal) (x : PlacedEntry) → Plain r → Plain (gather docs before r x)
gather_plain docs before r x plain =
    then_plain r (λ ps. placed x.at (judge docs before ps x.entry) >>= λ p. Ok (ps ++ p ∷ [])) plain
    (λ ps. then_plain (placed x.at (judge docs before ps x.entry)) (λ p. Ok (ps ++ p ∷ [])) (placed_plain x.at (judge docs before ps x.entry) (judge_plain docs before ps x.entry)) (λ p. tt))

fold_plain : (docs before : ℕ) (xs : List PlacedEntry) (r : Result (List Posting) CiffRefusal) → Plain r → Plain (fold (gather docs before) r xs)
fold_plain docs before [] r plain = plain
fold_plain docs before (x ∷ xs) r plain = fold_plain docs before xs (gather docs before r x) (gather_plain docs before r x plain)

four : (a b c d : Bool) (x : ListStart) → IsPlainWhy (cond a (Err whys.Text) (cond b (Err whys.Limit) (cond c (Err whys.TermTwice) (cond d (Err whys.Range) (Ok x)))))
four true b c d x = tt
four false true c d x = tt
four false false true d x = tt
four false false false true x = tt
four false false false false x = tt

three : (a b c : Bool) (x : FileStart) → IsPlainWhy (cond a (Err whys.Range) (cond b (Err whys.Text) (cond c (Err whys.Limit) (Ok x))))
three true b c x = tt
three false true c x = tt
three false false true x = tt
three false false false x = tt

rest : (c d e f : Bool) (x : NumberedDoc) → IsPlainWhy (cond c (Err whys.DocTwice) (cond d (Err whys.Text) (cond e (Err whys.NameText) (cond f (Err whys.Range) (Ok x)))))
rest true d e f x = tt
rest false true e f x = tt
rest false false true f x = tt
rest false false false true x = tt
rest false false false false x = tt

six : (a b c d e f : Bool) (x : NumberedDoc) → IsPlainWhy (cond a (Err whys.Range) (cond b (Err whys.DocRange) (cond c (Err whys.DocTwice) (cond d (Err whys.Text) (cond e (Err whys.NameText) (cond f (Err whys.Range) (Ok x)))))))
six true b c d e f x = tt
six false true c d e f x = tt
six false false c d e f x = rest c d e f x

start_plain : (terms : List (List ℕ)) (x : ListStart) → IsPlainWhy (judge_list terms x)
start_plain terms x = four (not (is_utf8 x.term)) (nat_lt 65535 (length x.term)) (is_seen x.term terms) (over63 x.df || over63 x.cf) x

list_plain : (docs before : ℕ) (terms : List (List ℕ)) (at : ℕ) (m : Message) → Plain (list_at docs before terms at m)
unfolding list_at
list_plain docs before terms at m =
    then_plain (list_walk_at m.from m.body) (λ walked. placed at (judge_list terms walked.start) >>= λ start. postings_of docs before walked.entries >>= λ postings. Ok (record { term = start.term; df = start.df; cf = start.cf; postings = postings }))
    (then_plain (walk entry_inside m.from m.body) (λ walked. Ok (record { start = list_start_of walked.fields; entries = walked.entries })) (walk_plain entry_inside entry_plain (length m.body) m.from m.body) (λ w. tt))
    (λ w. then_plain (placed at (judge_list terms w.start)) (λ start. postings_of docs before w.entries >>= λ postings. Ok (record { term = start.term; df = start.df; cf = start.cf; postings = postings })) (placed_plain at (judge_list terms w.start) (start_plain terms w.start))
    (λ start. then_plain (postings_of docs before w.entries) (λ postings. Ok (record { term = start.term; df = start.df; cf = start.cf; postings = postings })) (fold_plain docs before w.entries (Ok []) tt) (λ ps. tt)))

header_plain : (at : ℕ) (m : Message) → Plain (header_at at m)
unfolding header_at
header_plain at m =
    then_plain (start_at m.from m.body) (λ start. placed at (judge_header start))
    (then_plain (walk nothing_inside m.from m.body) (λ walked. Ok (start_of walked.fields)) (walk_plain nothing_inside (λ at next f. tt) (length m.body) m.from m.body) (λ w. tt))
    (λ x. placed_plain at (judge_header x)
    (three (over31 x.header.version || over31 x.lists || over31 x.docs || over31 x.header.total_lists || over31 x.header.total_docs || over63 x.header.total_terms) (not (is_utf8 x.header.description)) (nat_lt 16777216 x.lists || nat_lt 67108864 x.docs) x))

doc_plain : (docs : ℕ) (numbers : List ℕ) (at : ℕ) (m : Message) → Plain (doc_at docs numbers at m)
unfolding doc_at
doc_plain docs numbers at m =
    then_plain (numbered_at m.from m.body) (λ x. placed at (judge_doc docs numbers x))
    (then_plain (walk nothing_inside m.from m.body) (λ walked. Ok (numbered_of walked.fields)) (walk_plain nothing_inside (λ at next f. tt) (length m.body) m.from m.body) (λ w. tt))
    (λ x. placed_plain at (judge_doc docs numbers x)
    (six (over31 x.number) (nat_le docs x.number) (is_among x.number numbers) (not (is_utf8 x.doc.name)) (not (is_name x.doc.name)) (over31 x.doc.length) x))

-- what fails as the reading of a list does is plain, also further on in the file
fails_plain : {A : Type 0} (fault : CiffFault) (read : Result A CiffRefusal) → Fails fault read → Plain read → IsPlain fault
fails_plain {A} (faults.Refused refusal) read fails plain = subst (λ (r : Result A CiffRefusal). Plain r) fails plain
fails_plain faults.ReadFault read fails plain = tt
fails_plain faults.NoMemory read fails plain = tt

pub moved_plain : (base : ℕ) (fault answer : CiffFault) → IsPlain fault → answer ≡ fault_moved base fault → IsPlain answer
moved_plain base fault answer plain is = subst IsPlain (sym is) (at fault plain)
  where
    at : (f : CiffFault) → IsPlain f → IsPlain (fault_moved base f)
    at (faults.Refused refusal) plain = plain
    at faults.ReadFault plain = tt
    at faults.NoMemory plain = tt

pub list_fault_plain : (docs before : ℕ) (terms : List (List ℕ)) (at : ℕ) (m : Message) (fault : CiffFault) → Fails fault (list_at docs before terms at m) → IsPlain fault
list_fault_plain docs before terms at m fault fails = fails_plain fault (list_at docs before terms at m) fails (list_plain docs before terms at m)

pub header_fault_plain : (at : ℕ) (m : Message) (fault : CiffFault) → Fails fault (header_at at m) → IsPlain fault
header_fault_plain at m fault fails = fails_plain fault (header_at at m) fails (header_plain at m)

pub doc_fault_plain : (docs : ℕ) (numbers : List ℕ) (at : ℕ) (m : Message) (fault : CiffFault) → Fails fault (doc_at docs numbers at m) → IsPlain fault
doc_fault_plain docs numbers at m fault fails = fails_plain fault (doc_at docs numbers at m) fails (doc_plain docs numbers at m)

pub rest_fault_plain : (seen : Bool) (at : ℕ) (d : WalkedDoc) (fault : CiffFault) → Fails fault (recorded seen at d) → IsPlain fault
rest_fault_plain seen at d fault fails =
    let x = numbered_in d.fields in
    fails_plain fault (recorded seen at d) fails (placed_plain at (judge_rest seen x) (rest seen (not (is_utf8 x.doc.name)) (not (is_name x.doc.name)) (over31 x.doc.length) x))
