-- A list that was given is found again at its place.
use Rattle.shared_lemmas.proofs.Common.{◌≡◌, ◌≢◌, ◌∙◌, ℕ, zero, suc, Bool, true, false, cond, List, [], ◌∷◌, length, drop, All, Option, Some, None, Result, Ok, Err, refl, sym, ap, subst, nat_lt, Contains, All-append, All-nil}
use Rattle.ciff_read.proofs.Below.{HeaderData, ListData, PostingsList, list_data, Files, ForContent}
use Rattle.ciff_read.specs.declared.refusal.CiffWhy.{CiffWhy}
use Rattle.ciff_read.specs.declared.refusal.CiffWhy.TheVariants as whys
use Rattle.ciff_read.specs.Plain.{SaysNoChange, IsPlain}
use Rattle.ciff_read.specs.declared.refusal.CiffRefusal.{CiffRefusal}
use Rattle.ciff_read.specs.declared.refusal.CiffFault.{CiffFault}
use Rattle.ciff_read.specs.declared.refusal.CiffFault.TheVariants as faults
use Rattle.ciff_read.specs.Pieces.{KeptList, Progress, EndPiece, ListPiece, DocPiece, StartPiece, Step, ListInFile, DocInFile, header_of_file, begun, with_list, with_doc, without_header, list_of_file, doc_of_file, list_next, doc_next, end_next, next_behind, next_of, postings_kept, terms_kept, after, IsReached}
use Rattle.ciff_read.specs.Reaching.{FailsReading}
use Rattle.ciff_read.specs.Reading.{Message, message_end, message_at, list_at}
use Rattle.ciff_read.specs.Refusals.{◌>>=◌}
use Rattle.ciff_read.specs.Walk.{WalkView, Stands, StandsFor, StandsTold, IsListAt, HasKept, HoldsOther, IsGiven, IsOutside, FindsAgain, ChangesOnly, SaysChange}
use Rattle.whole_files.specs.Windows.{AreFrom}
use Rattle.ciff_read.proofs.Fewer.{list_alone}
use Rattle.ciff_read.proofs.Postings.{All-one}
use Rattle.whole_files.proofs.Told.{for_both}
use Rattle.ciff_read.proofs.WireLaws.{bound, done_is, ended_with}

-- a list that was given stands at its place, with as many postings as are kept
record IsThere (content : List ℕ) (docs : ℕ) (k : KeptList) : Type 0 where
  list : ListData
  there : IsListAt content docs k.at list
  count : k.count ≡ length list.postings

abbrev AreThere : List ℕ → Progress → Type 0
AreThere content p = All (IsThere content p.docs) p.kept

module _ (content : List ℕ) (q : Progress) (s : Step) (there : AreThere content q) where
  there_as : (later : Progress) → later ≡ s.later → AreThere content later → AreThere content s.later
  there_as later is are = subst (AreThere content) is are

  list_there : list_next content q ≡ Ok s → AreThere content s.later
  list_there is =
      let a = bound (list_of_file content q.docs (postings_kept q.kept) (terms_kept q.kept) q.at) (λ (x : ListInFile). Ok (record { piece = ListPiece q.at x.list; later = with_list q x.list x.end })) s is in
      let b = bound (message_at q.at (drop q.at content)) (λ m. list_at q.docs (postings_kept q.kept) (terms_kept q.kept) q.at m >>= λ list. Ok (record { list = list; end = message_end m })) a.0 a.1 in
      let d = bound (list_at q.docs (postings_kept q.kept) (terms_kept q.kept) q.at b.0) (λ list. Ok (record { list = list; end = message_end b.0 })) a.0 b.2 in
      let read : ListInFile = record { list = d.0; end = message_end b.0 } in
      let same : read ≡ a.0 = done_is read a.0 d.2 in
      let k : KeptList = record { term = d.0.term; at = q.at; count = length d.0.postings } in
      let one : IsThere content q.docs k = record { list = d.0; there = record { message = b.0; there = b.1; judged = list_alone q.docs (postings_kept q.kept) (terms_kept q.kept) q.at b.0 d.0 d.1 }; count = refl } in
      let made : Step = record { piece = ListPiece q.at a.0.list; later = with_list q a.0.list a.0.end } in
      there_as (with_list q d.0 (message_end b.0)) (ap (λ (x : ListInFile). with_list q x.list x.end) same ∙ ap (λ (x : Step). x.later) (done_is made s a.2))
      (All-append (IsThere content q.docs) q.kept (k ∷ []) there (All-one (IsThere content q.docs) k one))

  doc_there : doc_next content q ≡ Ok s → AreThere content s.later
  doc_there is =
      let a = bound (doc_of_file content q.docs q.numbers q.at) (λ (x : DocInFile). Ok (record { piece = DocPiece x.doc; later = with_doc q x.doc.number x.end })) s is in
      let made : Step = record { piece = DocPiece a.0.doc; later = with_doc q a.0.doc.number a.0.end } in
      there_as (with_doc q a.0.doc.number a.0.end) (ap (λ (x : Step). x.later) (done_is made s a.2)) there

  end_there : end_next content q ≡ Ok s → AreThere content s.later
  end_there is =
      let made : Step = record { piece = EndPiece; later = q } in
      there_as q (ap (λ (x : Step). x.later) (ended_with q.at (drop q.at content) made s is)) there

  message_there : (a b : Bool) → cond a (list_next content q) (cond b (doc_next content q) (end_next content q)) ≡ Ok s → AreThere content s.later
  message_there true b is = list_there is
  message_there false true is = doc_there is
  message_there false false is = end_there is

  header_there : (header : Option HeaderData) → next_behind header content q ≡ Ok s → AreThere content s.later
  header_there (Some h) is =
      let made : Step = record { piece = StartPiece h q.lists q.docs; later = without_header q } in
      there_as (without_header q) (ap (λ (x : Step). x.later) (done_is made s is)) there
  header_there None is = message_there (nat_lt (length q.kept) q.lists) (nat_lt (length q.numbers) q.docs) is

  step_there : next_of content q ≡ Ok s → AreThere content s.later
  unfolding next_of
  step_there is = header_there q.header is

after_there : (n : ℕ) (content : List ℕ) (p q : Progress) → after n content p ≡ Ok q → AreThere content p → AreThere content q
after_there zero content p q is there = subst (AreThere content) (done_is p q is) there
after_there (suc n) content p q is there =
    let a = bound (after n content p) (λ r. next_of content r >>= λ s. Ok s.later) q is in
    let b = bound (next_of content a.0) (λ s. Ok s.later) q a.2 in
    subst (AreThere content) (done_is b.0.later q b.2) (step_there content a.0 b.0 (after_there n content p a.0 a.1 there) b.1)

reached_there : (content : List ℕ) (p : Progress) → IsReached content p → AreThere content p
reached_there content p r =
    let a = bound (header_of_file content) (λ h. after r.count content (begun h)) p r.reached in
    after_there r.count content (begun a.0) p a.2 (All-nil (IsThere content a.0.start.docs))

kept_there : (content : List ℕ) (w : WalkView) → Stands content w → (k : KeptList) → Contains w.kept k → IsThere content w.docs k
kept_there content w stands k among =
    let p = stands.progress in
    let all : All (IsThere content w.docs) w.kept = subst (λ (kept : List KeptList). All (IsThere content w.docs) kept) (sym stands.keeps.kept) (subst (λ docs. All (IsThere content docs) p.kept) (sym stands.keeps.docs) (reached_there content p stands.reached)) in
    subst (IsThere content w.docs) among.2 (all among.0 k among.1)

-- one list stands at a place
one_list : (content : List ℕ) (docs at : ℕ) (l other : ListData) → IsListAt content docs at l → IsListAt content docs at other → l ≡ other
one_list content docs at l other is are =
    let same : is.message ≡ are.message = done_is is.message are.message (sym is.there ∙ are.there) in
    done_is l other (sym is.judged ∙ ap (λ (m : Message). list_at docs 0 [] at m) same ∙ are.judged)

read_alone : (content : List ℕ) (docs at : ℕ) (x : ListInFile) → list_of_file content docs 0 [] at ≡ Ok x → IsListAt content docs at x.list
read_alone content docs at x is =
    let a = bound (message_at at (drop at content)) (λ m. list_at docs 0 [] at m >>= λ list. Ok (record { list = list; end = message_end m })) x is in
    let b = bound (list_at docs 0 [] at a.0) (λ list. Ok (record { list = list; end = message_end a.0 })) x a.2 in
    let read : ListInFile = record { list = b.0; end = message_end a.0 } in
    subst (IsListAt content docs at) (ap (λ (y : ListInFile). y.list) (done_is read x b.2)) (record { message = a.0; there = a.1; judged = b.1 })

alone_read : (content : List ℕ) (docs at : ℕ) (l : ListData) (is : IsListAt content docs at l) → list_of_file content docs 0 [] at ≡ Ok (record { list = l; end = message_end is.message })
alone_read content docs at l is =
    ap (λ (r : Result Message CiffRefusal). r >>= λ m. list_at docs 0 [] at m >>= λ list. Ok (record { list = list; end = message_end m })) is.there
    ∙ ap (λ (r : Result ListData CiffRefusal). r >>= λ list. Ok (record { list = list; end = message_end is.message })) is.judged

not_refused : (fault : CiffFault) (read : Result ListInFile CiffRefusal) (x : ListInFile) → read ≡ Ok x → FailsReading fault read → IsOutside fault
not_refused (faults.Refused refusal) read x is fails = absurd (let e = sym is ∙ fails in cc)
not_refused faults.ReadFault read x is fails = tt
not_refused faults.NoMemory read x is fails = tt

says_none : (now : WalkView) (at : ℕ) (refusal : CiffRefusal) (why : CiffWhy) → SaysNoChange why → SaysChange now at refusal why
says_none now at refusal (whys.Changed k f) none = absurd none
says_none now at refusal why none = tt

pub plain_changes : (now : WalkView) (at : ℕ) (fault : CiffFault) → IsPlain fault → ChangesOnly now at fault
plain_changes now at (faults.Refused refusal) plain = says_none now at refusal refusal.why plain
plain_changes now at faults.ReadFault plain = tt
plain_changes now at faults.NoMemory plain = tt

pub changes_refused : (now : WalkView) (at : ℕ) (fault : CiffFault) (kept found : ℕ) → fault ≡ faults.Refused (record { at = at; why = whys.Changed kept found }) → HoldsOther now at kept found → ChangesOnly now at fault
changes_refused now at fault kept found is holds = subst (ChangesOnly now at) (sym is) (refl, holds)

-- no list that was given is refused, and each has as many postings as are kept
module _ (content : List ℕ) (w : WalkView) (stands : Stands content w) (at : ℕ) where
  given_outside : (fault : CiffFault) → IsGiven w.kept at → FailsReading fault (list_of_file content w.docs 0 [] at) → IsOutside fault
  given_outside fault given fails =
      let is = kept_there content w stands given.0 given.1 in
      let there : IsListAt content w.docs at is.list = subst (λ n. IsListAt content w.docs n is.list) given.2 is.there in
      not_refused fault (list_of_file content w.docs 0 [] at) (record { list = is.list; end = message_end there.message }) (alone_read content w.docs at is.list there) fails

  given_counts : (count : ℕ) (l : ListData) → HasKept w.kept at count → IsListAt content w.docs at l → count ≡ length l.postings
  given_counts count l kept there =
      let is = kept_there content w stands kept.0 kept.1 in
      let same : is.list ≡ l = one_list content w.docs at is.list l (subst (λ n. IsListAt content w.docs n is.list) kept.2 is.there) there in
      sym kept.3 ∙ is.count ∙ ap (λ (x : ListData). length x.postings) same

-- the same where the content is told
module _ (told : Option Files) (w : WalkView) (at : ℕ) (stands : StandsTold told w) where
  abbrev alone : List ℕ → Result ListInFile CiffRefusal
  alone content = list_of_file content w.docs 0 [] at

  pub told_outside : (fault : CiffFault) → IsGiven w.kept at → ForContent told w.name (λ content. AreFrom content w.start w.bytes → FailsReading fault (alone content)) → FindsAgain told w at (Err fault)
  told_outside fault given fails =
      for_both told w.name (λ content. StandsFor content w) (λ content. AreFrom content w.start w.bytes → FailsReading fault (alone content)) (λ content. w.answered ≡ None → IsOutside fault)
      (λ content stand failing. λ fresh. let s = stand fresh in given_outside content w s at fault given (failing s.over.shows)) stands fails

  pub told_counts : (fault : CiffFault) (count : ℕ) (x : ListInFile) → HasKept w.kept at count → count ≢ length x.list.postings → ForContent told w.name (λ content. AreFrom content w.start w.bytes → alone content ≡ Ok x) → FindsAgain told w at (Err fault)
  told_counts fault count x kept other reads =
      for_both told w.name (λ content. StandsFor content w) (λ content. AreFrom content w.start w.bytes → alone content ≡ Ok x) (λ content. w.answered ≡ None → IsOutside fault)
      (λ content stand read. λ fresh. let s = stand fresh in absurd (other (given_counts content w s at count x.list kept (read_alone content w.docs at x (read s.over.shows))))) stands reads

  pub told_again : (list : PostingsList) (end : ℕ) → ForContent told w.name (λ content. AreFrom content w.start w.bytes → alone content ≡ Ok (record { list = list_data list; end = end })) → FindsAgain told w at (Ok list)
  told_again list end reads =
      for_both told w.name (λ content. StandsFor content w) (λ content. AreFrom content w.start w.bytes → alone content ≡ Ok (record { list = list_data list; end = end })) (λ content. w.answered ≡ None → IsListAt content w.docs at (list_data list))
      (λ content stand read. λ fresh. read_alone content w.docs at (record { list = list_data list; end = end }) (read (stand fresh).over.shows)) stands reads
