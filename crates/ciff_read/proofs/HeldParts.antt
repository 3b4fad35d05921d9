-- Parts of a file that are read through a window.
use Rattle.std.proofs.Common.{◌≡◌, ◌≢◌, ℕ, ◌+◌, ◌-◌, ◌^◌, ◌<◌, ◌≤◌, Bool, true, false, not, List, length, drop, Result, Ok, Err, refl, sym, ap, subst, ◌∙◌, length-take, length-drop, arith}
use Rattle.std.specs.Prelude.{slice_range}
use Rattle.jass_base.specs.Ciff.{ListData}
use Rattle.ciff_read.specs.declared.body.Body.{Body}
use Rattle.ciff_read.specs.declared.refusal.CiffWhy.{CiffWhy}
use Rattle.ciff_read.specs.declared.refusal.CiffRefusal.{CiffRefusal}
use Rattle.ciff_read.specs.declared.refusal.CiffFault.{CiffFault}
use Rattle.ciff_read.specs.declared.refusal.CiffFault.TheVariants as faults
use Rattle.whole_files.specs.declared.window.Window.{Window}
use Rattle.ciff_read.specs.Judging.{FileStart, NumberedDoc}
use Rattle.ciff_read.specs.Moving.{refusal_moved, moved}
use Rattle.ciff_read.specs.Private.Moving.{fault_moved}
use Rattle.ciff_read.specs.Pieces.{FileHeader, ListInFile, DocInFile, header_of_file, list_of_file, doc_of_file}
use Rattle.ciff_read.specs.Private.Places.{message_in}
use Rattle.ciff_read.specs.Private.Plain.{IsNearFault}
use Rattle.ciff_read.specs.Reaching.{FailsReading}
use Rattle.ciff_read.specs.Private.Reaching.{HoldsMessage, message_shown}
use Rattle.ciff_read.specs.Reading.{Message, message_end, message_at, header_at, list_at, doc_at}
use Rattle.ciff_read.specs.Refusals.{◌>>=◌, placed, Fails}
use Rattle.ciff_read.proofs.FrontLaws.{header_same}
use Rattle.ciff_read.proofs.HeldFiles.{reading_fails}

-- a step that fails lets all fail
pub reading_fails_on : {A B : Type 0} (answer : CiffFault) (read : Result A CiffRefusal) (f : A → Result B CiffRefusal) → FailsReading answer read → FailsReading answer (read >>= f)
reading_fails_on (faults.Refused refusal) read f fails = ap (λ r. r >>= f) fails
reading_fails_on faults.ReadFault read f fails = tt
reading_fails_on faults.NoMemory read f fails = tt

pub reading_as : {A : Type 0} (answer : CiffFault) (read other : Result A CiffRefusal) → read ≡ other → FailsReading answer read → FailsReading answer other
reading_as {A} answer read other same fails = subst (λ (r : Result A CiffRefusal). FailsReading answer r) same fails

-- what can't be read of a message can't be read of what it holds
pub header_unread : (content : List ℕ) (fault : CiffFault) → FailsReading fault (message_at 0 (drop 0 content)) → FailsReading fault (header_of_file content)
header_unread content fault fails = reading_fails_on {B = FileHeader} fault (message_at 0 (drop 0 content)) (λ m. header_at 0 m >>= λ start. Ok (record { start = start; end = message_end m })) fails

pub list_unread : (content : List ℕ) (docs before : ℕ) (terms : List (List ℕ)) (at : ℕ) (fault : CiffFault) → FailsReading fault (message_at at (drop at content)) → FailsReading fault (list_of_file content docs before terms at)
list_unread content docs before terms at fault fails = reading_fails_on {B = ListInFile} fault (message_at at (drop at content)) (λ m. list_at docs before terms at m >>= λ list. Ok (record { list = list; end = message_end m })) fails

pub doc_unread : (content : List ℕ) (docs : ℕ) (numbers : List ℕ) (at : ℕ) (fault : CiffFault) → FailsReading fault (message_at at (drop at content)) → FailsReading fault (doc_of_file content docs numbers at)
doc_unread content docs numbers at fault fails = reading_fails_on {B = DocInFile} fault (message_at at (drop at content)) (λ m. doc_at docs numbers at m >>= λ doc. Ok (record { doc = doc; end = message_end m })) fails

-- a message ends where its body does
pub shown_end : (content : List ℕ) (w : Window) (from end : ℕ) → from ≤ end → end ≤ length w.bytes.items → message_end (message_shown content w from end) ≡ w.start + end
shown_end content w from end order within = omega (arith, order, within, length-take (end - from) (drop from w.bytes.items), length-drop from w.bytes.items)

abbrev behind : Message → Result FileHeader CiffRefusal
behind m = header_at 0 m >>= λ start. Ok (record { start = start; end = message_end m })

module _ (content : List ℕ) (w : Window) (body : Body) (bytes : List ℕ) (same : bytes ≡ w.bytes.items) (first : w.start ≤ 0) (holds : HoldsMessage content 0 w body.from body.end) where
  there : header_of_file content ≡ behind (message_shown content w body.from body.end)
  there = ap (λ (r : Result Message CiffRefusal). r >>= behind) holds.0

  judged : header_at 0 (message_in bytes body) ≡ header_at 0 (message_shown content w body.from body.end)
  judged =
      header_same 0 (message_in bytes body) (message_shown content w body.from body.end) (omega (arith, first)) (ap (λ (s : List ℕ). slice_range s body.from body.end) (sym same))

  pub header_given : (start : FileStart) → body.from ≤ body.end → body.end ≤ length w.bytes.items → header_at 0 (message_in bytes body) ≡ Ok start → header_of_file content ≡ Ok (record { start = start; end = body.end })
  header_given start order within is =
      let end : message_end (message_shown content w body.from body.end) ≡ body.end = omega (arith, shown_end content w body.from body.end order within, first) in
      there ∙ ap (λ (r : Result FileStart CiffRefusal). r >>= λ start. Ok (record { start = start; end = message_end (message_shown content w body.from body.end) })) (sym judged ∙ is)
      ∙ ap (λ n. Ok (record { start = start; end = n })) end

  pub header_not : (answer : CiffFault) → Fails answer (header_at 0 (message_in bytes body)) → FailsReading answer (header_of_file content)
  header_not answer fails =
      reading_as answer (behind (message_shown content w body.from body.end)) (header_of_file content) (sym there)
      (reading_fails_on answer (header_at 0 (message_shown content w body.from body.end)) (λ start. Ok (record { start = start; end = message_end (message_shown content w body.from body.end) }))
      (reading_as answer (header_at 0 (message_in bytes body)) (header_at 0 (message_shown content w body.from body.end)) judged (reading_fails answer (header_at 0 (message_in bytes body)) fails)))

-- what is refused of bytes of a file is refused in the file, so many places further on
pub fails_moved : {A : Type 0} (base : ℕ) (answer : CiffFault) (read : Result A CiffRefusal) → Fails answer read → FailsReading (fault_moved base answer) (moved base read)
fails_moved base (faults.Refused refusal) read fails = ap (moved base) fails
fails_moved base faults.ReadFault read fails = absurd fails
fails_moved base faults.NoMemory read fails = tt

pub not_not : (b : Bool) → not (not b) ≡ b
not_not true = refl
not_not false = refl

module _ (content : List ℕ) (w : Window) (body : Body) (bytes : List ℕ) (at place : ℕ) (same : bytes ≡ w.bytes.items) (placed_at : w.start + place ≡ at) (holds : HoldsMessage content at w body.from body.end) (docs before : ℕ) (terms : List (List ℕ))
    (moves : (base at : ℕ) (m n : Message) → n.from ≡ base + m.from → n.body ≡ m.body → (docs before : ℕ) (terms : List (List ℕ)) → list_at docs before terms (base + at) n ≡ moved base (list_at docs before terms at m)) where
  abbrev list_behind : Result ListData CiffRefusal → Result ListInFile CiffRefusal
  list_behind r = r >>= λ list. Ok (record { list = list; end = message_end (message_shown content w body.from body.end) })

  list_there : list_of_file content docs before terms at ≡ list_behind (list_at docs before terms at (message_shown content w body.from body.end))
  list_there = ap (λ (r : Result Message CiffRefusal). r >>= λ m. list_at docs before terms at m >>= λ list. Ok (record { list = list; end = message_end m })) holds.0

  list_is : list_at docs before terms at (message_shown content w body.from body.end) ≡ moved w.start (list_at docs before terms place (message_in bytes body))
  list_is =
      ap (λ n. list_at docs before terms n (message_shown content w body.from body.end)) (sym placed_at)
      ∙ moves w.start place (message_in bytes body) (message_shown content w body.from body.end) refl (ap (λ (s : List ℕ). slice_range s body.from body.end) (sym same)) docs before terms

  pub list_given : (list : ListData) → body.from ≤ body.end → body.end ≤ length w.bytes.items → list_at docs before terms place (message_in bytes body) ≡ Ok list → list_of_file content docs before terms at ≡ Ok (record { list = list; end = w.start + body.end })
  list_given list order within is =
      list_there ∙ ap list_behind (list_is ∙ ap (moved w.start) is) ∙ ap (λ n. Ok (record { list = list; end = n })) (shown_end content w body.from body.end order within)

  pub list_not : (answer : CiffFault) → Fails answer (list_at docs before terms place (message_in bytes body)) → FailsReading (fault_moved w.start answer) (list_of_file content docs before terms at)
  list_not answer fails =
      reading_as (fault_moved w.start answer) (list_behind (list_at docs before terms at (message_shown content w body.from body.end))) (list_of_file content docs before terms at) (sym list_there)
      (reading_fails_on (fault_moved w.start answer) (list_at docs before terms at (message_shown content w body.from body.end)) (λ list. Ok (record { list = list; end = message_end (message_shown content w body.from body.end) }))
      (reading_as (fault_moved w.start answer) (moved w.start (list_at docs before terms place (message_in bytes body))) (list_at docs before terms at (message_shown content w body.from body.end)) (sym list_is)
      (fails_moved w.start answer (list_at docs before terms place (message_in bytes body)) fails)))

-- the body of a message ends where it says
pub cut_end : (bytes : List ℕ) (body : Body) → message_end (message_in bytes body) ≤ body.end
cut_end bytes body = omega (arith, body.in_order, length-take (body.end - body.from) (drop body.from bytes))

-- what is refused of bytes that are held is near, and no read fault, also further on in the file
pub near_fault : {A : Type 0} (n : ℕ) (fault : CiffFault) (read : Result A CiffRefusal) → Fails fault read → ((e : CiffRefusal) → read ≡ Err e → e.at ≤ n) → IsNearFault n fault
near_fault n (faults.Refused refusal) read fails near = near refusal fails
near_fault n faults.ReadFault read fails near = fails
near_fault n faults.NoMemory read fails near = tt

pub near_moved : (base n : ℕ) (fault : CiffFault) → IsNearFault n fault → base + n < 2 ^ 64 → (refusal : CiffRefusal) → fault ≡ faults.Refused refusal → base + refusal.at < 2 ^ 64
near_moved base n fault near fits refusal is = omega (arith, subst (IsNearFault n) is near)

pub moved_other : (base n : ℕ) (fault answer : CiffFault) → IsNearFault n fault → answer ≡ fault_moved base fault → answer ≢ faults.ReadFault
moved_other base n (faults.Refused e) answer near is says = let t : faults.Refused (refusal_moved base e) ≡ faults.ReadFault = sym is ∙ says in cc
moved_other base n faults.ReadFault answer near is says = near
moved_other base n faults.NoMemory answer near is says = let t : faults.NoMemory ≡ faults.ReadFault = sym is ∙ says in cc

refused_is : {A : Type 0} (x y : CiffRefusal) → (let r : Result A CiffRefusal = Err x in r) ≡ Err y → x ≡ y
refused_is x y is = cc

-- a refusal that is placed stands there
pub placed_place : {A : Type 0} (at : ℕ) (r : Result A CiffWhy) (e : CiffRefusal) → placed at r ≡ Err e → e.at ≡ at
placed_place at (Ok x) e is = absurd cc
placed_place {A} at (Err why) e is = ap (λ (x : CiffRefusal). x.at) (sym (refused_is {A = A} (record { at = at; why = why }) e is))

module _ (content : List ℕ) (w : Window) (body : Body) (bytes : List ℕ) (at place : ℕ) (same : bytes ≡ w.bytes.items) (placed_at : w.start + place ≡ at) (holds : HoldsMessage content at w body.from body.end) (docs : ℕ) (numbers : List ℕ)
    (moves : (base at : ℕ) (m n : Message) → n.from ≡ base + m.from → n.body ≡ m.body → (docs : ℕ) (numbers : List ℕ) → doc_at docs numbers (base + at) n ≡ moved base (doc_at docs numbers at m)) where
  abbrev doc_behind : Result NumberedDoc CiffRefusal → Result DocInFile CiffRefusal
  doc_behind r = r >>= λ doc. Ok (record { doc = doc; end = message_end (message_shown content w body.from body.end) })

  doc_there : doc_of_file content docs numbers at ≡ doc_behind (doc_at docs numbers at (message_shown content w body.from body.end))
  doc_there = ap (λ (r : Result Message CiffRefusal). r >>= λ m. doc_at docs numbers at m >>= λ doc. Ok (record { doc = doc; end = message_end m })) holds.0

  doc_is : doc_at docs numbers at (message_shown content w body.from body.end) ≡ moved w.start (doc_at docs numbers place (message_in bytes body))
  doc_is =
      ap (λ n. doc_at docs numbers n (message_shown content w body.from body.end)) (sym placed_at)
      ∙ moves w.start place (message_in bytes body) (message_shown content w body.from body.end) refl (ap (λ (s : List ℕ). slice_range s body.from body.end) (sym same)) docs numbers

  pub doc_given : (doc : NumberedDoc) → body.from ≤ body.end → body.end ≤ length w.bytes.items → doc_at docs numbers place (message_in bytes body) ≡ Ok doc → doc_of_file content docs numbers at ≡ Ok (record { doc = doc; end = w.start + body.end })
  doc_given doc order within is =
      doc_there ∙ ap doc_behind (doc_is ∙ ap (moved w.start) is) ∙ ap (λ n. Ok (record { doc = doc; end = n })) (shown_end content w body.from body.end order within)

  pub doc_not : (answer : CiffFault) → Fails answer (doc_at docs numbers place (message_in bytes body)) → FailsReading (fault_moved w.start answer) (doc_of_file content docs numbers at)
  doc_not answer fails =
      reading_as (fault_moved w.start answer) (doc_behind (doc_at docs numbers at (message_shown content w body.from body.end))) (doc_of_file content docs numbers at) (sym doc_there)
      (reading_fails_on (fault_moved w.start answer) (doc_at docs numbers at (message_shown content w body.from body.end)) (λ doc. Ok (record { doc = doc; end = message_end (message_shown content w body.from body.end) }))
      (reading_as (fault_moved w.start answer) (moved w.start (doc_at docs numbers place (message_in bytes body))) (doc_at docs numbers at (message_shown content w body.from body.end)) (sym doc_is)
      (fails_moved w.start answer (doc_at docs numbers place (message_in bytes body)) fails)))
