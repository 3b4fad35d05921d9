use Rattle.shared_lemmas.proofs.Common.{ℕ, ◌≡◌, List, [], ◌∷◌, ◌++◌, length, map, Option, refl, sym, ap, subst, ◌∙◌, arith, All, into_iter_items, length-map, map-append}
use Rattle.index_import.proofs.Below.{AreEntries, Files, KeptList, HasKept, for_one, entry_data, TermHeads}
use Rattle.index_import.specs.Private.Heading.{AreHeads, HasOneMore, places_of}
use Rattle.index_import.specs.Private.Surveying.{HoldsMost, KeepsAll}
use Rattle.index_import.specs.declared.heads.Heads.{Heads}
use Rattle.index_import.specs.declared.list_entry.ListEntry.{ListEntry}
use Rattle.index_import.specs.declared.list_entry.Place.{Place}
use Rattle.std.proofs.Math.Nat.{le_refl, le_trans}
use Rattle.index_import.proofs.Again.{memory_unread, nothing_told, ok_unread, ready_now, ready_then, rose_before, still_fault, told_now}
use Rattle.index_import.proofs.Changing.{at_given}
use Rattle.index_import.proofs.Headed.{HaveEntries, all_entries, as_many, fails_one, headed_then, heads_more, no_entries, no_heads, rows_more, entry_is}
use Rattle.index_import.proofs.Ready.{leaves_same, leaves_then}
use Rattle.index_import.proofs.Turns.{middle, parted, whole}
use Rattle.index_import.proofs.heads.read_heads.Goals as goal

pub read-requires-clause-given : goal.read-requires-clause-given
read-requires-clause-given g c =
    let is : c.args.lists.items ≡ c.lists.yielded ++ c.in-Some.entry ∷ into_iter_items c.next.new.self
    = parted c.into_iter-entry-iterator.result c.lists.entry-iterator c.next.new.self c.args.lists.items c.lists.yielded c.in-Some.entry c.into_iter-entry-iterator.ensures.into_iter_gives.0 c.lists.yielded_by c.in-Some.ensures.steps in
    let kept : HasKept c.args.walk.now.kept c.in-Some.entry.place.at c.in-Some.entry.place.count
    = middle (λ (e : ListEntry). HasKept c.args.walk.now.kept e.place.at e.place.count) c.lists.yielded (into_iter_items c.next.new.self) c.in-Some.entry (subst (All (λ (e : ListEntry). HasKept c.args.walk.now.kept e.place.at e.place.count)) is c.requires.given) in
    subst (λ (kept : List KeptList). HasKept kept c.in-Some.entry.place.at c.in-Some.entry.place.count) (sym c.lists.invariant.leaves.kept) kept

pub read-requires-clause-keeps : goal.read-requires-clause-keeps
read-requires-clause-keeps g c =
    let d : ℕ = c.args.walk.now.docs in
    let is : c.args.lists.items ≡ c.lists.yielded ++ c.in-Some.entry ∷ into_iter_items c.next.new.self
    = parted c.into_iter-entry-iterator.result c.lists.entry-iterator c.next.new.self c.args.lists.items c.lists.yielded c.in-Some.entry c.into_iter-entry-iterator.ensures.into_iter_gives.0 c.lists.yielded_by c.in-Some.ensures.steps in
    subst (λ (n : ℕ). KeepsAll n c.in-Some.entry) (sym c.lists.invariant.leaves.docs)
    (middle (KeepsAll d) c.lists.yielded (into_iter_items c.next.new.self) c.in-Some.entry (subst (All (KeepsAll d)) is c.requires.keep_all))

pub read-requires-clause-told : goal.read-requires-clause-told
read-requires-clause-told g c =
    let told : Option Files = g.C.Cabinet.told c.args.files.now in
    let d : ℕ = c.args.walk.now.docs in
    let is : c.args.lists.items ≡ c.lists.yielded ++ c.in-Some.entry ∷ into_iter_items c.next.new.self
    = parted c.into_iter-entry-iterator.result c.lists.entry-iterator c.next.new.self c.args.lists.items c.lists.yielded c.in-Some.entry c.into_iter-entry-iterator.ensures.into_iter_gives.0 c.lists.yielded_by c.in-Some.ensures.steps in
    told_now told (g.C.Cabinet.told c.lists.files) c.args.walk.now c.lists.walk (λ (docs : ℕ) (content : List ℕ). HoldsMost content docs c.in-Some.entry) c.lists.invariant.same c.lists.invariant.leaves
    (for_one told c.args.walk.now.name (λ content. All (HoldsMost content d) c.args.lists.items) (λ content. HoldsMost content d c.in-Some.entry)
    (λ content all. middle (HoldsMost content d) c.lists.yielded (into_iter_items c.next.new.self) c.in-Some.entry (subst (All (HoldsMost content d)) is all)) c.requires.told)

pub lists-init : goal.lists-init
lists-init g c =
    let none = c.in-Ok.ensures in
    record {
      same = refl;
      later = omega arith;
      others = omega arith;
      ready = c.requires.ready;
      leaves = leaves_same c.args.walk.now;
      heads = no_heads (g.C.Cabinet.told c.args.files.now) c.args.walk.now.name c.args.walk.now.docs c.args.weighing c.args.bits c.args.range c.in-Ok.reader.heads.terms none.terms;
      entries = subst (λ (hs : List TermHeads). HaveEntries [] (map entry_data hs)) (sym none.terms) no_entries;
      places = none.places;
    }

pub returns-in-Err-read-clause-told : goal.returns-in-Err-read-clause-told
returns-in-Err-read-clause-told g c =
    let is : c.args.lists.items ≡ c.lists.yielded ++ c.in-Some.entry ∷ into_iter_items c.next.new.self
    = parted c.into_iter-entry-iterator.result c.lists.entry-iterator c.next.new.self c.args.lists.items c.lists.yielded c.in-Some.entry c.into_iter-entry-iterator.ensures.into_iter_gives.0 c.lists.yielded_by c.in-Some.ensures.steps in
    fails_one (g.C.Cabinet.told c.args.files.now) (g.C.Cabinet.told c.lists.files) c.args.walk.now c.lists.walk c.args.weighing c.args.bits c.args.range c.args.lists.items c.lists.yielded (into_iter_items c.next.new.self) c.in-Some.entry is
    c.in-Err-read.fault c.lists.invariant.same c.lists.invariant.leaves c.in-Err-read.ensures.told

pub lists-preserved : goal.lists-preserved
lists-preserved g c =
    let told : Option Files = g.C.Cabinet.told c.args.files.now in
    let name : List ℕ = c.args.walk.now.name in
    let d : ℕ = c.args.walk.now.docs in
    let entry : ListEntry = c.in-Some.entry in
    let before = c.lists.invariant in
    let old : List TermHeads = c.lists.reader.heads.terms in
    let new : List TermHeads = c.read.new.self.heads.terms in
    let one : HasOneMore told name d c.args.weighing c.args.bits c.args.range entry old new
    = headed_then told (g.C.Cabinet.told c.lists.files) c.args.walk.now c.lists.walk c.args.weighing c.args.bits c.args.range entry old new before.same before.leaves c.in-Ok-read.ensures.heads in
    record {
      same = c.in-Ok-read.ensures.stays ∙ before.same;
      later = omega (arith, before.later, c.in-Ok-read.ensures.later);
      others = omega (arith, before.others, c.in-Ok-read.ensures.others);
      ready = ready_then told (g.C.Cabinet.told c.lists.files) name c.lists.walk.name c.read.new.walk before.same before.leaves.name c.in-Ok-read.ensures.ready;
      leaves = leaves_then c.args.walk.now c.lists.walk c.read.new.walk before.leaves c.in-Ok-read.ensures.leaves;
      heads = subst (λ (hs : List TermHeads). AreHeads told name d c.args.weighing c.args.bits c.args.range (c.lists.yielded ++ entry ∷ []) hs) (sym one.longer)
          (heads_more told name d c.args.weighing c.args.bits c.args.range c.lists.yielded old entry one.own one.segments one.term one.made one.told before.heads);
      entries = subst (λ (hs : List TermHeads). HaveEntries (c.lists.yielded ++ entry ∷ []) (map entry_data hs)) (sym one.longer)
          (rows_more d c.lists.yielded old entry one.own one.segments one.term one.made (entry_is d entry.place.count entry one.segments one.are one.positive (c.made_heads_are_entries.ensures.heads d one.segments) (c.made_heads_are_entries.ensures.falling d one.segments)) one.are.postings before.entries);
      places = c.in-Ok-read.ensures.places ∙ ap (λ (ps : List Place). ps ++ entry.place ∷ []) before.places ∙ sym (map-append (λ (e : ListEntry). e.place) c.lists.yielded (entry ∷ []));
    }

pub returns-clause-heads : goal.returns-clause-heads
returns-clause-heads g c =
    let all : c.lists.yielded ≡ c.args.lists.items
    = whole c.into_iter-entry-iterator.result c.lists.entry-iterator c.next.new.self c.args.lists.items c.lists.yielded
    c.into_iter-entry-iterator.ensures.into_iter_gives.0 (omega (arith, c.into_iter-entry-iterator.ensures.into_iter_gives.1, c.args.lists.ok.0))
    c.lists.yielded_by c.in-None.ensures.steps in
    let Are : List ListEntry → List TermHeads → Type 0 = AreHeads (g.C.Cabinet.told c.args.files.now) c.args.walk.now.name c.args.walk.now.docs c.args.weighing c.args.bits c.args.range in
    subst (Are c.args.lists.items) (sym (ap (λ (h : Heads). h.terms) c.into_heads.ensures)) (subst (λ (ls : List ListEntry). Are ls c.lists.reader.heads.terms) all c.lists.invariant.heads)

pub returns-clause-as_many : goal.returns-clause-as_many
returns-clause-as_many g c =
    let terms : List TermHeads = c.lists.reader.heads.terms in
    let all : c.lists.yielded ≡ c.args.lists.items
    = whole c.into_iter-entry-iterator.result c.lists.entry-iterator c.next.new.self c.args.lists.items c.lists.yielded
    c.into_iter-entry-iterator.ensures.into_iter_gives.0 (omega (arith, c.into_iter-entry-iterator.ensures.into_iter_gives.1, c.args.lists.ok.0))
    c.lists.yielded_by c.in-None.ensures.steps in
    ap (λ (h : Heads). length h.terms) c.into_heads.ensures
    ∙ sym (length-map terms entry_data) ∙ as_many c.args.lists.items (map entry_data terms) (subst (λ (ls : List ListEntry). HaveEntries ls (map entry_data terms)) all c.lists.invariant.entries)

pub returns-clause-entries : goal.returns-clause-entries
returns-clause-entries g c =
    let terms : List TermHeads = c.lists.reader.heads.terms in
    let all : c.lists.yielded ≡ c.args.lists.items
    = whole c.into_iter-entry-iterator.result c.lists.entry-iterator c.next.new.self c.args.lists.items c.lists.yielded
    c.into_iter-entry-iterator.ensures.into_iter_gives.0 (omega (arith, c.into_iter-entry-iterator.ensures.into_iter_gives.1, c.args.lists.ok.0))
    c.lists.yielded_by c.in-None.ensures.steps in
    subst (λ (hs : List TermHeads). AreEntries (map entry_data hs)) (sym (ap (λ (h : Heads). h.terms) c.into_heads.ensures))
    (all_entries c.args.lists.items (map entry_data terms) c.requires.rising c.requires.few c.requires.postings (subst (λ (ls : List ListEntry). HaveEntries ls (map entry_data terms)) all c.lists.invariant.entries))

pub returns-clause-places : goal.returns-clause-places
returns-clause-places g c =
    let all : c.lists.yielded ≡ c.args.lists.items
    = whole c.into_iter-entry-iterator.result c.lists.entry-iterator c.next.new.self c.args.lists.items c.lists.yielded
    c.into_iter-entry-iterator.ensures.into_iter_gives.0 (omega (arith, c.into_iter-entry-iterator.ensures.into_iter_gives.1, c.args.lists.ok.0))
    c.lists.yielded_by c.in-None.ensures.steps in
    ap (λ (h : Heads). h.places.items) c.into_heads.ensures ∙ c.lists.invariant.places ∙ ap (λ (ls : List ListEntry). places_of ls) all

pub returns-in-Err-read-clause-ready : goal.returns-in-Err-read-clause-ready
returns-in-Err-read-clause-ready g c = tt

pub returns-in-Err-read-clause-heads : goal.returns-in-Err-read-clause-heads
returns-in-Err-read-clause-heads g c = tt

pub returns-in-Err-read-clause-as_many : goal.returns-in-Err-read-clause-as_many
returns-in-Err-read-clause-as_many g c = tt

pub returns-in-Err-read-clause-entries : goal.returns-in-Err-read-clause-entries
returns-in-Err-read-clause-entries g c = tt

pub returns-in-Err-read-clause-places : goal.returns-in-Err-read-clause-places
returns-in-Err-read-clause-places g c = tt

pub returns-in-Err-read-clause-leaves : goal.returns-in-Err-read-clause-leaves
returns-in-Err-read-clause-leaves g c = leaves_then c.args.walk.now c.lists.walk c.read.new.walk c.lists.invariant.leaves c.read.ensures.leaves

pub returns-in-Err-read-clause-fault : goal.returns-in-Err-read-clause-fault
returns-in-Err-read-clause-fault g c = λ is. rose_before (g.C.Cabinet.read_faults c.args.files.now) (g.C.Cabinet.read_faults c.lists.files) (g.C.Cabinet.read_faults c.read.new.files) c.lists.invariant.later (c.in-Err-read.ensures.fault (still_fault is))

pub returns-in-Err-read-clause-stays : goal.returns-in-Err-read-clause-stays
returns-in-Err-read-clause-stays g c = c.read.ensures.stays ∙ c.lists.invariant.same

pub returns-in-Err-read-clause-later : goal.returns-in-Err-read-clause-later
returns-in-Err-read-clause-later g c = le_trans c.lists.invariant.later c.read.ensures.later

pub returns-in-Err-read-clause-others : goal.returns-in-Err-read-clause-others
returns-in-Err-read-clause-others g c = le_trans c.lists.invariant.others c.read.ensures.others

pub returns-clause-told : goal.returns-clause-told
returns-clause-told g c = nothing_told (g.C.Cabinet.told c.args.files.now) c.args.walk.now.name

pub returns-clause-fault : goal.returns-clause-fault
returns-clause-fault g c = λ is. absurd (ok_unread is)

pub returns-clause-stays : goal.returns-clause-stays
returns-clause-stays g c = c.lists.invariant.same

pub returns-clause-later : goal.returns-clause-later
returns-clause-later g c = c.lists.invariant.later

pub returns-clause-others : goal.returns-clause-others
returns-clause-others g c = c.lists.invariant.others

pub read-requires-clause-ready : goal.read-requires-clause-ready
read-requires-clause-ready g c = ready_now (g.C.Cabinet.told c.args.files.now) (g.C.Cabinet.told c.lists.files) c.args.walk.now c.lists.walk c.lists.invariant.same c.lists.invariant.leaves c.lists.invariant.ready

pub read-requires-clause-docs : goal.read-requires-clause-docs
read-requires-clause-docs g c = c.requires.docs ∙ sym c.lists.invariant.leaves.docs

pub read-requires-clause-width : goal.read-requires-clause-width
read-requires-clause-width g c = c.requires.width

pub read-requires-clause-low : goal.read-requires-clause-low
read-requires-clause-low g c = c.requires.low

pub returns-in-Err-clause-ready : goal.returns-in-Err-clause-ready
returns-in-Err-clause-ready g c = tt

pub returns-in-Err-clause-heads : goal.returns-in-Err-clause-heads
returns-in-Err-clause-heads g c = tt

pub returns-in-Err-clause-as_many : goal.returns-in-Err-clause-as_many
returns-in-Err-clause-as_many g c = tt

pub returns-in-Err-clause-entries : goal.returns-in-Err-clause-entries
returns-in-Err-clause-entries g c = tt

pub returns-in-Err-clause-places : goal.returns-in-Err-clause-places
returns-in-Err-clause-places g c = tt

pub returns-in-Err-clause-leaves : goal.returns-in-Err-clause-leaves
returns-in-Err-clause-leaves g c = leaves_same c.args.walk.now

pub returns-in-Err-clause-told : goal.returns-in-Err-clause-told
returns-in-Err-clause-told g c = nothing_told (g.C.Cabinet.told c.args.files.now) c.args.walk.now.name

pub returns-in-Err-clause-fault : goal.returns-in-Err-clause-fault
returns-in-Err-clause-fault g c = λ is. absurd (memory_unread is)

pub returns-in-Err-clause-stays : goal.returns-in-Err-clause-stays
returns-in-Err-clause-stays g c = refl

pub returns-in-Err-clause-later : goal.returns-in-Err-clause-later
returns-in-Err-clause-later g c = le_refl (g.C.Cabinet.read_faults c.args.files.now)

pub returns-in-Err-clause-others : goal.returns-in-Err-clause-others
returns-in-Err-clause-others g c = le_refl (g.C.Cabinet.write_faults c.args.files.now)

pub returns-clause-ready : goal.returns-clause-ready
returns-clause-ready g c = c.lists.invariant.ready

pub returns-clause-leaves : goal.returns-clause-leaves
returns-clause-leaves g c = c.lists.invariant.leaves

pub returns-in-Err-read-clause-changed : goal.returns-in-Err-read-clause-changed
returns-in-Err-read-clause-changed g c =
    let is : c.args.lists.items ≡ c.lists.yielded ++ c.in-Some.entry ∷ into_iter_items c.next.new.self
    = parted c.into_iter-entry-iterator.result c.lists.entry-iterator c.next.new.self c.args.lists.items c.lists.yielded c.in-Some.entry c.into_iter-entry-iterator.ensures.into_iter_gives.0 c.lists.yielded_by c.in-Some.ensures.steps in
    let kept : HasKept c.args.walk.now.kept c.in-Some.entry.place.at c.in-Some.entry.place.count
    = middle (λ (e : ListEntry). HasKept c.args.walk.now.kept e.place.at e.place.count) c.lists.yielded (into_iter_items c.next.new.self) c.in-Some.entry (subst (All (λ (e : ListEntry). HasKept c.args.walk.now.kept e.place.at e.place.count)) is c.requires.given) in
    at_given c.args.walk.now.kept c.in-Some.entry.place.at c.in-Some.entry.place.count c.in-Err-read.fault kept c.in-Err-read.ensures.changed
