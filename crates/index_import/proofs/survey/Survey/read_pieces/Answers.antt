-- Each piece keeps what was kept so far.
use Rattle.shared_lemmas.proofs.Common.{ℕ, List, Option, Ok, Err, refl, sym, subst, ◌∙◌, arith, All}
use Rattle.index_import.proofs.Below.{Files, ForContent, NumberedDoc, PieceRanges, StandsFor, StandsTold, WalkView, Piece, for_one}
use Rattle.index_import.specs.Private.KeptDocs.{numbered}
use Rattle.index_import.specs.Private.Surveying.{HoldsMost, KeepsAll}
use Rattle.index_import.specs.declared.list_entry.ListEntry.{ListEntry}
use Rattle.index_import.proofs.Again.{memory_unread, nothing_told, ok_unread, reads_on, rose_here, still_fault}
use Rattle.index_import.proofs.Surveying.{Follows, Holds, PieceLaws, all_kept, doc_held, doc_told, end_told, fault_told, gives_there, keeps_list, list_kept_held, list_told, most_kept, start_told}
use Rattle.index_import.proofs.Surveying.{keeps_none, keeps_same, no_most, nothing_follows, nothing_held, same_held, same_most}
use Rattle.index_import.proofs.survey.Survey.read_pieces.Goals as goal

pub pieces-init : goal.pieces-init
pieces-init g c =
    let told : Option Files = g.C.Cabinet.told c.args.files.now in
    let law = c.pieces_make_the_collection.ensures in
    let laws : PieceLaws = record { bad_header = law.bad_header; start = law.start; piece = law.piece; end = law.end; refused = law.refused } in
    let w = c.args.self.now.walk in
    let begins = c.requires.begins in
    record {
      same = refl;
      later = omega arith;
      others = omega arith;
      there = c.requires.there;
      stands = c.requires.stands;
      holds = nothing_held w.name w c.args.self.now.docs c.args.self.now.lists.items begins c.requires.ranges c.requires.docs c.requires.lists;
      keeps = keeps_none w.docs c.args.self.now.lists.items c.requires.lists;
      follows = for_one told w.name (λ content. StandsFor content w) (λ content. Follows content w c.args.self.now.docs)
          (λ content stands. nothing_follows laws content w c.args.self.now.docs begins.header begins.answered c.requires.docs stands) c.requires.stands;
      most = no_most told w.name w.docs c.args.self.now.lists.items c.requires.lists;
    }

pub returns-in-Err-clause-told : goal.returns-in-Err-clause-told
returns-in-Err-clause-told g c =
    let told : Option Files = g.C.Cabinet.told c.args.files.now in
    let law = c.pieces_make_the_collection.ensures in
    let laws : PieceLaws = record { bad_header = law.bad_header; start = law.start; piece = law.piece; end = law.end; refused = law.refused } in
    let before = c.pieces.invariant in
    let given = gives_there told (g.C.Cabinet.told c.pieces.files) c.args.self.now.walk.name c.pieces.self.walk c.next_piece.new.self (Err c.in-Err.fault) before.same before.holds.name_is before.holds.unanswered before.stands c.in-Err.ensures.told in
    fault_told laws told c.args.self.now.walk.name c.pieces.self.walk c.next_piece.new.self c.pieces.self.docs before.follows c.in-Err.fault given

pub pieces-preserved-in-Start : goal.pieces-preserved-in-Start
pieces-preserved-in-Start g c =
    let told : Option Files = g.C.Cabinet.told c.args.files.now in
    let law = c.pieces_make_the_collection.ensures in
    let laws : PieceLaws = record { bad_header = law.bad_header; start = law.start; piece = law.piece; end = law.end; refused = law.refused } in
    let before = c.pieces.invariant in
    let next = c.in-Ok.ensures in
    let given = gives_there told (g.C.Cabinet.told c.pieces.files) c.args.self.now.walk.name c.pieces.self.walk c.next_piece.new.self (Ok c.in-Ok.piece) before.same before.holds.name_is before.holds.unanswered before.stands next.told in
    let ranges = subst (λ (x : Piece). PieceRanges c.pieces.self.walk c.next_piece.new.self x) c.in-Start.is next.ranges in
    record {
      same = next.stays ∙ before.same;
      later = omega (arith, next.later, before.later);
      others = omega (arith, next.others, before.others);
      there = before.there;
      stands = subst (λ (files : Option Files). StandsTold files c.next_piece.new.self) before.same next.stands;
      holds = same_held c.args.self.now.walk.name c.pieces.self.walk c.next_piece.new.self c.pieces.self.docs c.pieces.self.lists.items before.holds next.name next.ok next.within ranges.4 ranges.5;
      keeps = keeps_same c.pieces.self.walk.docs c.next_piece.new.self.docs c.pieces.self.lists.items next.totals.1 before.keeps;
      follows = start_told laws told c.args.self.now.walk.name c.pieces.self.walk c.next_piece.new.self c.pieces.self.docs before.follows c.in-Ok.piece given c.in-Start._header c.in-Start.lists c.in-Start.docs c.in-Start.is;
      most = same_most told c.args.self.now.walk.name c.pieces.self.walk.docs c.next_piece.new.self.docs c.pieces.self.lists.items next.totals.1 before.most;
    }

pub pieces-preserved-in-Ok-keep_list : goal.pieces-preserved-in-Ok-keep_list
pieces-preserved-in-Ok-keep_list g c =
    let told : Option Files = g.C.Cabinet.told c.args.files.now in
    let law = c.pieces_make_the_collection.ensures in
    let laws : PieceLaws = record { bad_header = law.bad_header; start = law.start; piece = law.piece; end = law.end; refused = law.refused } in
    let before = c.pieces.invariant in
    let next = c.in-Ok.ensures in
    let docs : List NumberedDoc = c.pieces.self.docs in
    let longer : List ListEntry = c.keep_list.new.self.lists.items in
    let walked = sym c.keep_list.ensures.walk in
    let same = sym c.keep_list.ensures.docs in
    let given = gives_there told (g.C.Cabinet.told c.pieces.files) c.args.self.now.walk.name c.pieces.self.walk c.next_piece.new.self (Ok c.in-Ok.piece) before.same before.holds.name_is before.holds.unanswered before.stands next.told in
    let ranges = subst (λ (x : Piece). PieceRanges c.pieces.self.walk c.next_piece.new.self x) c.in-List.is next.ranges in
    record {
      same = next.stays ∙ before.same;
      later = omega (arith, next.later, before.later);
      others = omega (arith, next.others, before.others);
      there = before.there;
      stands = subst (StandsTold told) walked (subst (λ (files : Option Files). StandsTold files c.next_piece.new.self) before.same next.stands);
      holds = subst (λ (ds : List NumberedDoc). Holds c.args.self.now.walk.name c.keep_list.new.self.walk ds longer) same (subst (λ (w : WalkView). Holds c.args.self.now.walk.name w docs longer) walked
          (list_kept_held c.args.self.now.walk.name c.pieces.self.walk c.next_piece.new.self docs c.pieces.self.lists.items longer c.in-List.at c.in-List.list before.holds next.name next.ok next.within ranges.4 ranges.1 ranges.3 c.in-Ok-keep_list.ensures.lists));
      keeps = subst (λ (w : WalkView). All (KeepsAll w.docs) longer) walked
          (keeps_list c.pieces.self.walk.docs c.next_piece.new.self.docs c.in-List.at c.in-List.list c.pieces.self.lists.items longer next.totals.1 ranges.5 c.in-Ok-keep_list.ensures.lists before.keeps);
      follows = subst (λ (ds : List NumberedDoc). ForContent told c.args.self.now.walk.name (λ (content : List ℕ). Follows content c.keep_list.new.self.walk ds)) same
          (subst (λ (w : WalkView). ForContent told c.args.self.now.walk.name (λ (content : List ℕ). Follows content w docs)) walked
          (list_told laws told c.args.self.now.walk.name c.pieces.self.walk c.next_piece.new.self docs before.follows c.in-Ok.piece given c.in-List.at c.in-List.list c.in-List.is));
      most = subst (λ (w : WalkView). ForContent told c.args.self.now.walk.name (λ (content : List ℕ). All (HoldsMost content w.docs) longer)) walked
          (most_kept laws told c.args.self.now.walk.name c.pieces.self.walk c.next_piece.new.self docs before.follows c.in-Ok.piece given c.in-List.at c.in-List.list c.pieces.self.lists.items longer c.in-List.is
          next.totals.1 ranges.4 ranges.5 c.in-Ok-keep_list.ensures.lists before.most);
    }

pub pieces-preserved : goal.pieces-preserved
pieces-preserved g c =
    let told : Option Files = g.C.Cabinet.told c.args.files.now in
    let law = c.pieces_make_the_collection.ensures in
    let laws : PieceLaws = record { bad_header = law.bad_header; start = law.start; piece = law.piece; end = law.end; refused = law.refused } in
    let before = c.pieces.invariant in
    let next = c.in-Ok.ensures in
    let given = gives_there told (g.C.Cabinet.told c.pieces.files) c.args.self.now.walk.name c.pieces.self.walk c.next_piece.new.self (Ok c.in-Ok.piece) before.same before.holds.name_is before.holds.unanswered before.stands next.told in
    let ranges = subst (λ (x : Piece). PieceRanges c.pieces.self.walk c.next_piece.new.self x) c.in-Doc.is next.ranges in
    record {
      same = next.stays ∙ before.same;
      later = omega (arith, next.later, before.later);
      others = omega (arith, next.others, before.others);
      there = before.there;
      stands = subst (λ (files : Option Files). StandsTold files c.next_piece.new.self) before.same next.stands;
      holds = doc_held c.args.self.now.walk.name c.pieces.self.walk c.next_piece.new.self c.pieces.self.docs c.pieces.self.lists.items before.holds next.name next.ok next.within
          (numbered (c.in-Doc.number, c.in-Doc.item)) c.push.new.self ranges.1 ranges.5 c.in-Ok-push.ensures;
      keeps = keeps_same c.pieces.self.walk.docs c.next_piece.new.self.docs c.pieces.self.lists.items next.totals.1 before.keeps;
      follows = doc_told laws told c.args.self.now.walk.name c.pieces.self.walk c.next_piece.new.self c.pieces.self.docs before.follows c.in-Ok.piece given c.in-Doc.number c.in-Doc.item c.push.new.self c.in-Doc.is ranges.3 c.in-Ok-push.ensures;
      most = same_most told c.args.self.now.walk.name c.pieces.self.walk.docs c.next_piece.new.self.docs c.pieces.self.lists.items next.totals.1 before.most;
    }

pub returns-in-End-clause-kept : goal.returns-in-End-clause-kept
returns-in-End-clause-kept g c =
    let before = c.pieces.invariant in
    let next = c.in-Ok.ensures in
    let ranges = subst (λ (x : Piece). PieceRanges c.pieces.self.walk c.next_piece.new.self x) c.in-End.is next.ranges in
    all_kept c.args.self.now.walk.name c.pieces.self.walk c.next_piece.new.self c.pieces.self.docs c.pieces.self.lists.items before.holds before.keeps next.within ranges.0 ranges.3 next.totals.1

pub returns-in-End-clause-told : goal.returns-in-End-clause-told
returns-in-End-clause-told g c =
    let told : Option Files = g.C.Cabinet.told c.args.files.now in
    let law = c.pieces_make_the_collection.ensures in
    let laws : PieceLaws = record { bad_header = law.bad_header; start = law.start; piece = law.piece; end = law.end; refused = law.refused } in
    let before = c.pieces.invariant in
    let next = c.in-Ok.ensures in
    let given = gives_there told (g.C.Cabinet.told c.pieces.files) c.args.self.now.walk.name c.pieces.self.walk c.next_piece.new.self (Ok c.in-Ok.piece) before.same before.holds.name_is before.holds.unanswered before.stands next.told in
    let ranges = subst (λ (x : Piece). PieceRanges c.pieces.self.walk c.next_piece.new.self x) c.in-End.is next.ranges in
    end_told laws told c.args.self.now.walk.name c.pieces.self.walk c.next_piece.new.self c.pieces.self.docs before.follows c.in-Ok.piece given c.pieces.self.lists.items c.in-End.is ranges.0 next.totals.1 before.most

pub returns-in-Err-clause-ready : goal.returns-in-Err-clause-ready
returns-in-Err-clause-ready g c = tt

pub returns-in-Err-clause-kept : goal.returns-in-Err-clause-kept
returns-in-Err-clause-kept g c = tt

pub returns-in-Err-clause-reads : goal.returns-in-Err-clause-reads
returns-in-Err-clause-reads g c =
    let before = c.pieces.invariant in
    let next = c.in-Err.ensures in
    reads_on (g.C.Cabinet.told c.args.files.now) (g.C.Cabinet.told c.pieces.files) (g.C.Cabinet.told c.next_piece.new.files)
    (g.C.Cabinet.read_faults c.args.files.now) (g.C.Cabinet.read_faults c.pieces.files) (g.C.Cabinet.read_faults c.next_piece.new.files)
    (g.C.Cabinet.write_faults c.args.files.now) (g.C.Cabinet.write_faults c.pieces.files) (g.C.Cabinet.write_faults c.next_piece.new.files) _ before.same before.later before.others next.stays next.later next.others
    (λ is. rose_here (g.C.Cabinet.read_faults c.pieces.files) (g.C.Cabinet.read_faults c.next_piece.new.files) c.pieces.self.walk.answered before.holds.unanswered (next.fault (still_fault is)))

pub returns-in-Err-keep_list-clause-ready : goal.returns-in-Err-keep_list-clause-ready
returns-in-Err-keep_list-clause-ready g c = tt

pub returns-in-Err-keep_list-clause-kept : goal.returns-in-Err-keep_list-clause-kept
returns-in-Err-keep_list-clause-kept g c = tt

pub returns-in-Err-keep_list-clause-told : goal.returns-in-Err-keep_list-clause-told
returns-in-Err-keep_list-clause-told g c = nothing_told (g.C.Cabinet.told c.args.files.now) c.args.self.now.walk.name

pub returns-in-Err-keep_list-clause-reads : goal.returns-in-Err-keep_list-clause-reads
returns-in-Err-keep_list-clause-reads g c =
    let before = c.pieces.invariant in
    let next = c.in-Ok.ensures in
    reads_on (g.C.Cabinet.told c.args.files.now) (g.C.Cabinet.told c.pieces.files) (g.C.Cabinet.told c.next_piece.new.files)
    (g.C.Cabinet.read_faults c.args.files.now) (g.C.Cabinet.read_faults c.pieces.files) (g.C.Cabinet.read_faults c.next_piece.new.files)
    (g.C.Cabinet.write_faults c.args.files.now) (g.C.Cabinet.write_faults c.pieces.files) (g.C.Cabinet.write_faults c.next_piece.new.files) _ before.same before.later before.others next.stays next.later next.others
    (λ is. absurd (memory_unread is))

pub returns-in-Err-push-clause-ready : goal.returns-in-Err-push-clause-ready
returns-in-Err-push-clause-ready g c = tt

pub returns-in-Err-push-clause-kept : goal.returns-in-Err-push-clause-kept
returns-in-Err-push-clause-kept g c = tt

pub returns-in-Err-push-clause-told : goal.returns-in-Err-push-clause-told
returns-in-Err-push-clause-told g c = nothing_told (g.C.Cabinet.told c.args.files.now) c.args.self.now.walk.name

pub returns-in-Err-push-clause-reads : goal.returns-in-Err-push-clause-reads
returns-in-Err-push-clause-reads g c =
    let before = c.pieces.invariant in
    let next = c.in-Ok.ensures in
    reads_on (g.C.Cabinet.told c.args.files.now) (g.C.Cabinet.told c.pieces.files) (g.C.Cabinet.told c.next_piece.new.files)
    (g.C.Cabinet.read_faults c.args.files.now) (g.C.Cabinet.read_faults c.pieces.files) (g.C.Cabinet.read_faults c.next_piece.new.files)
    (g.C.Cabinet.write_faults c.args.files.now) (g.C.Cabinet.write_faults c.pieces.files) (g.C.Cabinet.write_faults c.next_piece.new.files) _ before.same before.later before.others next.stays next.later next.others
    (λ is. absurd (memory_unread is))

pub returns-in-End-clause-reads : goal.returns-in-End-clause-reads
returns-in-End-clause-reads g c =
    let before = c.pieces.invariant in
    let next = c.in-Ok.ensures in
    reads_on (g.C.Cabinet.told c.args.files.now) (g.C.Cabinet.told c.pieces.files) (g.C.Cabinet.told c.next_piece.new.files)
    (g.C.Cabinet.read_faults c.args.files.now) (g.C.Cabinet.read_faults c.pieces.files) (g.C.Cabinet.read_faults c.next_piece.new.files)
    (g.C.Cabinet.write_faults c.args.files.now) (g.C.Cabinet.write_faults c.pieces.files) (g.C.Cabinet.write_faults c.next_piece.new.files) _ before.same before.later before.others next.stays next.later next.others
    (λ is. absurd (ok_unread is))

pub returns-in-End-clause-ready : goal.returns-in-End-clause-ready
returns-in-End-clause-ready g c =
    let before = c.pieces.invariant in
    let next = c.in-Ok.ensures in
    record {
      there = before.there;
      name_is = next.name ∙ before.holds.name_is;
      stands = subst (λ (files : Option Files). StandsTold files c.next_piece.new.self) before.same next.stands;
      unanswered = next.ok;
      ranges = next.within;
    }
