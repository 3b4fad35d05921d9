use Rattle.shared_lemmas.proofs.Common.{ℕ, ◌≡◌, ◌<◌, ◌-◌, List, [], ◌∷◌, ◌++◌, length, map, take, get_or, suc, Option, None, Err, refl, sym, ap, ap₂, subst, ◌∙◌, ◌⊎◌, arith, append-nil, append_assoc, All, into_iter_items, length-append, length-map}
use Rattle.index_import.proofs.Below.{Extends, Files, ForContent, Sets, content_there, CiffFault, KeptList, HasKept, IsGiven, SegmentData, TermData, front_bytes, chosen_heads, chosen_payloads, table_payloads, WriterView, change_of, entries_totals}
use Rattle.index_import.proofs.Below.{entry_data, next_heads, Unappended, TermFault, Bits, Range}
use Rattle.ciff_read.specs.declared.refusal.CiffFault.TheVariants as reading
use Rattle.index_layout.specs.Heads.{TermHeads as EntryData}
use Rattle.jass_base.specs.Gaps.{AreDocs}
use Rattle.index_import.specs.Private.Writing.{Writes}
use Rattle.index_import.specs.Private.Rereading.{FailsOf, IsInside}
use Rattle.index_import.specs.Private.Outlining.{list_there}
use Rattle.index_import.specs.Private.Surveying.{IsReady}
use Rattle.index_import.specs.declared.fault.ImportFault.{ImportFault}
use Rattle.index_import.specs.declared.list_entry.Place.{Place}
use Rattle.index_import.specs.declared.weighing.Weighing.{Weighing}
use Rattle.index_import.proofs.Beside.{beside}
use Rattle.index_import.proofs.Changing.{at_given, has_given, unappended_as, unread_as}
use Rattle.index_import.proofs.Finished.{as_many, fits, found_here, left_is, never_changed, next_is, not_appended, not_begun, not_read, only_untold, same_payloads, totals_are, turn_low, whole_text, writer_is}
use Rattle.index_import.proofs.Ready.{leaves_same, leaves_then, ready_beside}
use Rattle.index_import.proofs.Turns.{middle, parted, whole}
use Rattle.index_import.proofs.Written.{extends_sets, payloads_more, sets_wanted}
use Rattle.std.proofs.Math.Nat.{le_trans}
use Rattle.index_import.proofs.Again.{rose_before}
use Rattle.index_import.proofs.Unread.{no_fault, unappended_read, unappended_write, unbegun_read, unbegun_write, unread_read, unread_write}
use Rattle.index_import.proofs.writing.write_index.Goals as goal

-- the list at a place is refused only for a weight outside the range
abbrev FailsInside : List ℕ → ℕ → Weighing → Bits → Range → ℕ → CiffFault → Type 0
FailsInside content docs w bits range at fault = FailsOf w bits range (list_there content docs at).postings fault

abbrev no_term : TermData
no_term = record { term = []; segments = [] }

pub returns-in-Err-clause-written : goal.returns-in-Err-clause-written
returns-in-Err-clause-written g c = λ made has.
    subst (λ (f : ImportFault). Writes (g.C.Cabinet.told c.args.files.now) (g.C.Cabinet.told c.new.new.files) c.args.walk.now.name c.args.index.now (record { names = c.args.names; terms = made }) (Err f)) (sym c.not_begun.ensures)
    (not_begun (g.C.Cabinet.told c.args.files.now) c.args.walk.now.name c.args.index.now c.args.walk.now.docs c.args.names (map entry_data c.args.heads.terms) made c.requires.as_many has.heads_are c.appended_payloads_make_the_text.ensures.text c.appended_payloads_make_the_text.ensures.length
    g.C.Cabinet.told c.args.files.now c.new.new.files c.in-Err.fault refl c.in-Err.ensures.fault c.in-Err.ensures.untouched c.in-Err.ensures.front)

pub places-init : goal.places-init
places-init g c =
    let front : List ℕ = front_bytes c.args.names (map entry_data c.args.heads.terms) in
    record {
      later = c.in-Ok.ensures.others;
      others = c.in-Ok.ensures.later;
      ready = ready_beside (g.C.Cabinet.told c.args.files.now) (g.C.Cabinet.told c.new.new.files) c.args.walk.now.name c.args.index.now front c.args.walk.now c.requires.apart c.in-Ok.ensures.content c.requires.ready;
      leaves = leaves_same c.args.walk.now;
      writer = writer_is c.in-Ok.writer c.args.index.now c.args.walk.now.docs (map entry_data c.args.heads.terms) (length c.args.heads.terms - 0) c.in-Ok.ensures.name (c.in-Ok.ensures.docs ∙ c.requires.as_many) c.in-Ok.ensures.entries (c.in-Ok.ensures.left ∙ omega arith);
      fits = c.in-Ok.ensures.fits;
      written = λ made has. subst (λ (bytes : List ℕ). Sets (g.C.Cabinet.told c.args.files.now) (g.C.Cabinet.told c.new.new.files) c.args.index.now bytes) (sym (append-nil front)) c.in-Ok.ensures.content;
    }

pub read_segments-requires-clause-given : goal.read_segments-requires-clause-given
read_segments-requires-clause-given g c =
    let is : c.args.heads.places.items ≡ c.places.yielded ++ c.in-Some.place ∷ into_iter_items c.next.new.self
    = parted c.into_iter-place-iterator.result c.places.place-iterator c.next.new.self c.args.heads.places.items c.places.yielded c.in-Some.place c.into_iter-place-iterator.ensures.into_iter_gives.0 c.places.yielded_by c.in-Some.ensures.steps in
    let kept : HasKept c.args.walk.now.kept c.in-Some.place.at c.in-Some.place.count
    = middle (λ (p : Place). HasKept c.args.walk.now.kept p.at p.count) c.places.yielded (into_iter_items c.next.new.self) c.in-Some.place (subst (All (λ (p : Place). HasKept c.args.walk.now.kept p.at p.count)) is c.requires.given) in
    subst (λ (kept : List KeptList). HasKept kept c.in-Some.place.at c.in-Some.place.count) (sym c.places.invariant.leaves.kept) kept

pub returns-in-Err-read_segments-clause-written : goal.returns-in-Err-read_segments-clause-written
returns-in-Err-read_segments-clause-written g c = λ made has.
    let old : Option Files = g.C.Cabinet.told c.args.files.now in
    let now : Option Files = g.C.Cabinet.told c.places.files in
    let name : List ℕ = c.args.walk.now.name in
    let d : ℕ = c.args.walk.now.docs in
    let place : Place = c.in-Some.place in
    let set = c.places.invariant.written made has in
    let is : c.args.heads.places.items ≡ c.places.yielded ++ place ∷ into_iter_items c.next.new.self
    = parted c.into_iter-place-iterator.result c.places.place-iterator c.next.new.self c.args.heads.places.items c.places.yielded place c.into_iter-place-iterator.ensures.into_iter_gives.0 c.places.yielded_by c.in-Some.ensures.steps in
    let same : content_there now name ≡ content_there old name = beside old now c.args.index.now (front_bytes c.args.names (map entry_data c.args.heads.terms) ++ table_payloads d (take (length c.places.yielded) made)) name c.requires.apart set in
    let told : ForContent now name (λ content. FailsInside content d c.args.weighing c.args.bits c.args.range place.at c.in-Err-read_segments.fault)
    = subst (λ (n : List ℕ). ForContent now n (λ content. FailsInside content d c.args.weighing c.args.bits c.args.range place.at c.in-Err-read_segments.fault)) c.places.invariant.leaves.name
    (subst (λ (k : ℕ). ForContent now c.places.walk.name (λ content. FailsInside content k c.args.weighing c.args.bits c.args.range place.at c.in-Err-read_segments.fault)) c.places.invariant.leaves.docs c.in-Err-read_segments.ensures.told) in
    subst (λ (f : ImportFault). Writes old (g.C.Cabinet.told c.read_segments.new.files) name c.args.index.now (record { names = c.args.names; terms = made }) (Err f)) (sym c.from_ciff.ensures)
    (not_read old name c.args.index.now d c.args.names (map entry_data c.args.heads.terms) made c.requires.as_many has.heads_are c.appended_payloads_make_the_text.ensures.text c.appended_payloads_make_the_text.ensures.length
    now (g.C.Cabinet.told c.read_segments.new.files) (length c.places.yielded) c.in-Err-read_segments.fault c.in-Err-read_segments.ensures.stays c.places.invariant.fits set
    (λ refusal refused. only_untold old now name (λ content. FailsInside content d c.args.weighing c.args.bits c.args.range place.at (reading.Refused refusal)) (λ content. All (λ (p : Place). IsInside content d c.args.weighing c.args.bits c.args.range p.at) c.args.heads.places.items)
    same c.requires.ready.there (subst (λ (f : CiffFault). ForContent now name (λ content. FailsInside content d c.args.weighing c.args.bits c.args.range place.at f)) refused told) has.inside
    (λ content outside inside. outside (middle (λ (p : Place). IsInside content d c.args.weighing c.args.bits c.args.range p.at) c.places.yielded (into_iter_items c.next.new.self) place (subst (All (λ (p : Place). IsInside content d c.args.weighing c.args.bits c.args.range p.at)) is inside)))))

pub append_segments-requires-clause-docs : goal.append_segments-requires-clause-docs
append_segments-requires-clause-docs g c =
    let docs : c.places.walk.docs ≡ c.places.writer.docs = c.places.invariant.leaves.docs ∙ sym (ap (λ (w : WriterView). w.docs) c.places.invariant.writer) in
    subst (λ (d : ℕ). All (λ (s : SegmentData). AreDocs d s.docs) c.read_segments.new.segments) docs c.in-Ok-read_segments.ensures.segments.docs_are

pub returns-in-Err-append_segments-clause-written : goal.returns-in-Err-append_segments-clause-written
returns-in-Err-append_segments-clause-written g c = λ made has.
    let old : Option Files = g.C.Cabinet.told c.args.files.now in
    let now : Option Files = g.C.Cabinet.told c.places.files in
    let read : Option Files = g.C.Cabinet.told c.read_segments.new.files in
    let name : List ℕ = c.args.walk.now.name in
    let d : ℕ = c.args.walk.now.docs in
    let place : Place = c.in-Some.place in
    let i : ℕ = length c.places.yielded in
    let entries = map entry_data c.args.heads.terms in
    let writer : WriterView = c.places.writer in
    let set = c.places.invariant.written made has in
    let is : c.args.heads.places.items ≡ c.places.yielded ++ place ∷ into_iter_items c.next.new.self
    = parted c.into_iter-place-iterator.result c.places.place-iterator c.next.new.self c.args.heads.places.items c.places.yielded place c.into_iter-place-iterator.ensures.into_iter_gives.0 c.places.yielded_by c.in-Some.ensures.steps in
    let same : content_there now name ≡ content_there old name = beside old now c.args.index.now (front_bytes c.args.names entries ++ table_payloads d (take i made)) name c.requires.apart set in
    let segments : List SegmentData = c.read_segments.new.segments in
    let here : (old ≡ None) ⊎ (segments ≡ (get_or made i no_term).segments)
    = found_here old now name d c.args.weighing c.args.bits c.args.range c.args.heads.places.items c.places.yielded (into_iter_items c.next.new.self) place made c.places.walk.name c.places.walk.docs c.read_segments.new.segments
    c.places.invariant.leaves.name c.places.invariant.leaves.docs same c.requires.ready.there is c.in-Ok-read_segments.ensures.told has.told in
    let low : i < length entries = turn_low c.args.heads.places.items c.places.yielded (into_iter_items c.next.new.self) place c.args.heads.terms is c.requires.places in
    let docs : writer.docs ≡ d = ap (λ (w : WriterView). w.docs) c.places.invariant.writer in
    let next : next_heads writer ≡ chosen_heads d (get_or made i no_term).segments
    = next_is writer d i entries made no_term (ap (λ (w : WriterView). w.entries) c.places.invariant.writer) (ap (λ (w : WriterView). w.left) c.places.invariant.writer ∙ left_is c.args.heads.terms i) low has.heads_are in
    subst (λ (f : ImportFault). Writes old (g.C.Cabinet.told c.append_segments.new.files) name c.args.index.now (record { names = c.args.names; terms = made }) (Err f)) (sym c.not_appended.ensures)
    (not_appended old name c.args.index.now d c.args.names entries made c.requires.as_many has.heads_are c.appended_payloads_make_the_text.ensures.text c.appended_payloads_make_the_text.ensures.length
    g.C.Cabinet.told c.read_segments.new.files c.append_segments.new.files i place.at (chosen_payloads writer.docs segments) (chosen_payloads d (get_or made i no_term).segments) c.in-Err-append_segments.fault c.places.invariant.fits
    (subst (λ (m : Option Files). Sets old m c.args.index.now (front_bytes c.args.names entries ++ table_payloads d (take i made))) (sym c.in-Ok-read_segments.ensures.stays) set)
    c.in-Err-append_segments.ensures.untouched (payloads_more d i made no_term (omega (arith, low, as_many d c.args.names entries made c.requires.as_many has.heads_are))) c.appended_payloads_make_the_text.ensures.prefix
    (subst (λ (n : List ℕ). (g.C.Cabinet.told c.append_segments.new.files ≡ read) ⊎ ((k : ℕ) × Extends read (g.C.Cabinet.told c.append_segments.new.files) n (take k (chosen_payloads writer.docs segments)))) (ap (λ (w : WriterView). w.name) c.places.invariant.writer) c.in-Err-append_segments.ensures.content)
    (same_payloads old writer.docs d segments (get_or made i no_term).segments docs here)
    (λ kept found changed. never_changed old writer.docs d segments (get_or made i no_term).segments (next_heads writer) docs next here c.changes_are_found.ensures.same kept found
    (subst (λ (f : TermFault). Unappended (change_of (next_heads writer) (chosen_heads writer.docs segments)) f) changed c.in-Err-append_segments.ensures.fault)))

pub places-preserved : goal.places-preserved
places-preserved g c =
    let old : Option Files = g.C.Cabinet.told c.args.files.now in
    let now : Option Files = g.C.Cabinet.told c.places.files in
    let read : Option Files = g.C.Cabinet.told c.read_segments.new.files in
    let after : Option Files = g.C.Cabinet.told c.append_segments.new.files in
    let name : List ℕ = c.args.walk.now.name in
    let d : ℕ = c.args.walk.now.docs in
    let place : Place = c.in-Some.place in
    let i : ℕ = length c.places.yielded in
    let entries = map entry_data c.args.heads.terms in
    let writer : WriterView = c.places.writer in
    let is : c.args.heads.places.items ≡ c.places.yielded ++ place ∷ into_iter_items c.next.new.self
    = parted c.into_iter-place-iterator.result c.places.place-iterator c.next.new.self c.args.heads.places.items c.places.yielded place c.into_iter-place-iterator.ensures.into_iter_gives.0 c.places.yielded_by c.in-Some.ensures.steps in
    let segments : List SegmentData = c.read_segments.new.segments in
    let low : i < length entries = turn_low c.args.heads.places.items c.places.yielded (into_iter_items c.next.new.self) place c.args.heads.terms is c.requires.places in
    let docs : writer.docs ≡ d = ap (λ (w : WriterView). w.docs) c.places.invariant.writer in
    let one : length (c.places.yielded ++ place ∷ []) ≡ suc i = omega (arith, length-append c.places.yielded (place ∷ [])) in
    let put : Extends read after c.args.index.now (chosen_payloads writer.docs segments)
    = subst (λ (n : List ℕ). Extends read after n (chosen_payloads writer.docs segments)) (ap (λ (w : WriterView). w.name) c.places.invariant.writer) c.in-Ok-append_segments.ensures.content in
    let written = extends_sets read after c.args.index.now (chosen_payloads writer.docs segments) put in
    let ready = subst (λ (n : List ℕ). IsReady now n c.read_segments.new.walk) c.places.invariant.leaves.name c.in-Ok-read_segments.ensures.ready in
    let ready_read = subst (λ (m : Option Files). IsReady m name c.read_segments.new.walk) (sym c.in-Ok-read_segments.ensures.stays) ready in
    record {
      later = omega (arith, c.places.invariant.later, c.in-Ok-read_segments.ensures.later, c.in-Ok-append_segments.ensures.others);
      others = omega (arith, c.places.invariant.others, c.in-Ok-read_segments.ensures.others, c.in-Ok-append_segments.ensures.later);
      ready = ready_beside read after name c.args.index.now written.0 c.read_segments.new.walk c.requires.apart written.1 ready_read;
      leaves = leaves_then c.args.walk.now c.places.walk c.read_segments.new.walk c.places.invariant.leaves c.in-Ok-read_segments.ensures.leaves;
      writer = writer_is c.in-Ok-append_segments.writer c.args.index.now d entries (length c.args.heads.terms - length (c.places.yielded ++ place ∷ []))
          (ap (λ (w : WriterView). w.name) c.in-Ok-append_segments.ensures.writer ∙ ap (λ (w : WriterView). w.name) c.places.invariant.writer)
          (ap (λ (w : WriterView). w.docs) c.in-Ok-append_segments.ensures.writer ∙ docs)
          (ap (λ (w : WriterView). w.entries) c.in-Ok-append_segments.ensures.writer ∙ ap (λ (w : WriterView). w.entries) c.places.invariant.writer)
          (ap (λ (w : WriterView). w.left) c.in-Ok-append_segments.ensures.writer ∙ omega (arith, ap (λ (w : WriterView). w.left) c.places.invariant.writer, one));
      fits = c.places.invariant.fits;
      written = λ made has.
          let set = c.places.invariant.written made has in
          let same : content_there now name ≡ content_there old name = beside old now c.args.index.now (front_bytes c.args.names entries ++ table_payloads d (take i made)) name c.requires.apart set in
          let here : (old ≡ None) ⊎ (segments ≡ (get_or made i no_term).segments)
          = found_here old now name d c.args.weighing c.args.bits c.args.range c.args.heads.places.items c.places.yielded (into_iter_items c.next.new.self) place made c.places.walk.name c.places.walk.docs c.read_segments.new.segments
          c.places.invariant.leaves.name c.places.invariant.leaves.docs same c.requires.ready.there is c.in-Ok-read_segments.ensures.told has.told in
          let more = sets_wanted c.appended_payloads_make_the_text.ensures.file old read after c.args.index.now (front_bytes c.args.names entries ++ table_payloads d (take i made)) (chosen_payloads writer.docs segments) (chosen_payloads d (get_or made i no_term).segments)
          (subst (λ (m : Option Files). Sets old m c.args.index.now (front_bytes c.args.names entries ++ table_payloads d (take i made))) (sym c.in-Ok-read_segments.ensures.stays) set) put
          (same_payloads old writer.docs d segments (get_or made i no_term).segments docs here) in
          let joined : (front_bytes c.args.names entries ++ table_payloads d (take i made)) ++ chosen_payloads d (get_or made i no_term).segments ≡ front_bytes c.args.names entries ++ table_payloads d (take (length (c.places.yielded ++ place ∷ [])) made)
          = append_assoc (front_bytes c.args.names entries) (table_payloads d (take i made)) (chosen_payloads d (get_or made i no_term).segments)
          ∙ ap (λ (bytes : List ℕ). front_bytes c.args.names entries ++ bytes) (sym (payloads_more d i made no_term (omega (arith, low, as_many d c.args.names entries made c.requires.as_many has.heads_are))))
          ∙ ap (λ (n : ℕ). front_bytes c.args.names entries ++ table_payloads d (take n made)) (sym one) in
          subst (λ (bytes : List ℕ). Sets old after c.args.index.now bytes) joined more;
    }

pub returns-clause-written : goal.returns-clause-written
returns-clause-written g c = λ made has.
    let old : Option Files = g.C.Cabinet.told c.args.files.now in
    let d : ℕ = c.args.walk.now.docs in
    let entries = map entry_data c.args.heads.terms in
    let all : c.places.yielded ≡ c.args.heads.places.items
    = whole c.into_iter-place-iterator.result c.places.place-iterator c.next.new.self c.args.heads.places.items c.places.yielded
    c.into_iter-place-iterator.ensures.into_iter_gives.0 (omega (arith, c.into_iter-place-iterator.ensures.into_iter_gives.1, c.args.heads.places.ok.0))
    c.places.yielded_by c.in-None.ensures.steps in
    let count : length c.places.yielded ≡ length entries = ap length all ∙ c.requires.places ∙ sym (length-map c.args.heads.terms entry_data) in (
      whole_text d c.args.names entries made c.requires.as_many has.heads_are old (g.C.Cabinet.told c.places.files) c.args.index.now (length c.places.yielded) count c.appended_payloads_make_the_text.ensures.text (c.places.invariant.written made has),
      fits d c.args.names entries made c.requires.as_many has.heads_are c.appended_payloads_make_the_text.ensures.length c.places.invariant.fits,
      c.finish.ensures ∙ ap₂ (λ (n : ℕ) (es : List EntryData). entries_totals n es) (ap (λ (w : WriterView). w.docs) c.places.invariant.writer) (ap (λ (w : WriterView). w.entries) c.places.invariant.writer)
          ∙ totals_are d c.args.names entries made c.requires.as_many has.heads_are c.appended_payloads_make_the_text.ensures.totals,
    )

pub returns-in-Err-clause-read_fault : goal.returns-in-Err-clause-read_fault
returns-in-Err-clause-read_fault g c = λ is. absurd (unbegun_read c.in-Err.fault c.not_begun.result c.not_begun.ensures is)

pub returns-in-Err-clause-write_fault : goal.returns-in-Err-clause-write_fault
returns-in-Err-clause-write_fault g c = λ is. c.in-Err.ensures.cause (unbegun_write c.in-Err.fault c.not_begun.result c.not_begun.ensures is)

pub returns-in-Err-clause-later : goal.returns-in-Err-clause-later
returns-in-Err-clause-later g c = c.in-Err.ensures.others

pub returns-in-Err-clause-others : goal.returns-in-Err-clause-others
returns-in-Err-clause-others g c = c.in-Err.ensures.later

pub returns-in-Err-read_segments-clause-read_fault : goal.returns-in-Err-read_segments-clause-read_fault
returns-in-Err-read_segments-clause-read_fault g c = λ is. rose_before (g.C.Cabinet.read_faults c.args.files.now) (g.C.Cabinet.read_faults c.places.files) (g.C.Cabinet.read_faults c.read_segments.new.files) c.places.invariant.later (c.in-Err-read_segments.ensures.fault (unread_read c.in-Err-read_segments.fault c.from_ciff.result c.from_ciff.ensures is))

pub returns-in-Err-read_segments-clause-write_fault : goal.returns-in-Err-read_segments-clause-write_fault
returns-in-Err-read_segments-clause-write_fault g c = λ is. absurd (unread_write c.in-Err-read_segments.fault c.from_ciff.result c.from_ciff.ensures is)

pub returns-in-Err-read_segments-clause-later : goal.returns-in-Err-read_segments-clause-later
returns-in-Err-read_segments-clause-later g c = le_trans c.places.invariant.later c.read_segments.ensures.later

pub returns-in-Err-read_segments-clause-others : goal.returns-in-Err-read_segments-clause-others
returns-in-Err-read_segments-clause-others g c = le_trans c.places.invariant.others c.read_segments.ensures.others

pub returns-in-Err-append_segments-clause-read_fault : goal.returns-in-Err-append_segments-clause-read_fault
returns-in-Err-append_segments-clause-read_fault g c = λ is. absurd (unappended_read c.in-Some.place.at c.in-Err-append_segments.fault c.not_appended.result c.not_appended.ensures is)

pub returns-in-Err-append_segments-clause-write_fault : goal.returns-in-Err-append_segments-clause-write_fault
returns-in-Err-append_segments-clause-write_fault g c = λ is. rose_before (g.C.Cabinet.write_faults c.args.files.now) (g.C.Cabinet.write_faults c.read_segments.new.files) (g.C.Cabinet.write_faults c.append_segments.new.files) (le_trans c.places.invariant.others c.read_segments.ensures.others) (c.in-Err-append_segments.ensures.cause (unappended_write c.in-Some.place.at c.in-Err-append_segments.fault c.not_appended.result c.not_appended.ensures is))

pub returns-in-Err-append_segments-clause-later : goal.returns-in-Err-append_segments-clause-later
returns-in-Err-append_segments-clause-later g c = le_trans (le_trans c.places.invariant.later c.read_segments.ensures.later) c.append_segments.ensures.others

pub returns-in-Err-append_segments-clause-others : goal.returns-in-Err-append_segments-clause-others
returns-in-Err-append_segments-clause-others g c = le_trans (le_trans c.places.invariant.others c.read_segments.ensures.others) c.append_segments.ensures.later

pub returns-clause-read_fault : goal.returns-clause-read_fault
returns-clause-read_fault g c = λ is. absurd (no_fault is)

pub returns-clause-write_fault : goal.returns-clause-write_fault
returns-clause-write_fault g c = λ is. absurd (no_fault is)

pub returns-clause-later : goal.returns-clause-later
returns-clause-later g c = c.places.invariant.later

pub returns-clause-others : goal.returns-clause-others
returns-clause-others g c = c.places.invariant.others

pub read_segments-requires-clause-ready : goal.read_segments-requires-clause-ready
read_segments-requires-clause-ready g c = subst (λ (n : List ℕ). IsReady (g.C.Cabinet.told c.places.files) n c.places.walk) (sym c.places.invariant.leaves.name) c.places.invariant.ready

pub read_segments-requires-clause-docs : goal.read_segments-requires-clause-docs
read_segments-requires-clause-docs g c = c.requires.docs ∙ sym c.places.invariant.leaves.docs

pub read_segments-requires-clause-width : goal.read_segments-requires-clause-width
read_segments-requires-clause-width g c = c.requires.width

pub read_segments-requires-clause-low : goal.read_segments-requires-clause-low
read_segments-requires-clause-low g c = c.requires.low

pub append_segments-requires-clause-once : goal.append_segments-requires-clause-once
append_segments-requires-clause-once g c = c.in-Ok-read_segments.ensures.segments.once

pub returns-in-Err-read_segments-clause-changed : goal.returns-in-Err-read_segments-clause-changed
returns-in-Err-read_segments-clause-changed g c =
    let place : Place = c.in-Some.place in
    let is : c.args.heads.places.items ≡ c.places.yielded ++ place ∷ into_iter_items c.next.new.self
    = parted c.into_iter-place-iterator.result c.places.place-iterator c.next.new.self c.args.heads.places.items c.places.yielded place c.into_iter-place-iterator.ensures.into_iter_gives.0 c.places.yielded_by c.in-Some.ensures.steps in
    let kept : HasKept c.args.walk.now.kept place.at place.count
    = middle (λ (p : Place). HasKept c.args.walk.now.kept p.at p.count) c.places.yielded (into_iter_items c.next.new.self) place (subst (All (λ (p : Place). HasKept c.args.walk.now.kept p.at p.count)) is c.requires.given) in
    unread_as (λ at kept. IsGiven c.args.walk.now.kept at) c.in-Err-read_segments.fault c.from_ciff.result c.from_ciff.ensures
    (at_given c.args.walk.now.kept place.at place.count c.in-Err-read_segments.fault kept c.in-Err-read_segments.ensures.changed)

pub returns-in-Err-append_segments-clause-changed : goal.returns-in-Err-append_segments-clause-changed
returns-in-Err-append_segments-clause-changed g c =
    let place : Place = c.in-Some.place in
    let is : c.args.heads.places.items ≡ c.places.yielded ++ place ∷ into_iter_items c.next.new.self
    = parted c.into_iter-place-iterator.result c.places.place-iterator c.next.new.self c.args.heads.places.items c.places.yielded place c.into_iter-place-iterator.ensures.into_iter_gives.0 c.places.yielded_by c.in-Some.ensures.steps in
    let kept : HasKept c.args.walk.now.kept place.at place.count
    = middle (λ (p : Place). HasKept c.args.walk.now.kept p.at p.count) c.places.yielded (into_iter_items c.next.new.self) place (subst (All (λ (p : Place). HasKept c.args.walk.now.kept p.at p.count)) is c.requires.given) in
    let writer : WriterView = c.places.writer in
    unappended_as (λ at kept. IsGiven c.args.walk.now.kept at) place.at (next_heads writer) (chosen_heads writer.docs c.read_segments.new.segments) c.in-Err-append_segments.fault c.not_appended.result c.not_appended.ensures
    c.in-Err-append_segments.ensures.fault (λ n. has_given c.args.walk.now.kept place.at place.count kept)
