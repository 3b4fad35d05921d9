use Rattle.std.proofs.Common.{◌≡◌, ap, refl, ◌∙◌, arith}
use Rattle.jass_top.proofs.ServedLines.{answered, emptied, filled, first_piece, piece_still, piece_taken, told_as, served_cut, served_end, served_fault, served_last, served_limit, served_memory, serving_left, serving_on, serving_still, still_free, still_left}
use Rattle.jass_top.proofs.serve_lines.serve_lines.Goals as goal
use Rattle.jass_words.specs.declared.word_limits.TheConstants.{MOST_TAKEN}

pub pieces-init : goal.pieces-init
pieces-init g c = record {
  index = refl;
  empty = c.new-buffer.ensures;
  later = omega arith;
  serving = first_piece c.lines_are_passed.ensures.none (c.pending_bytes_wait.ensures.none MOST_TAKEN) c.args.out.now (g.S.Source.index c.args.desk.now.source) c.args.desk.now.state.frames (g.I.Feed.left c.args.input.now) c.args.steps.now c.args.lines.now c.args.desk.now.state c.requires.nothing c.requires.new
      c.lines_are_passed.ensures.ended;
}

pub pieces-preserved : goal.pieces-preserved
pieces-preserved g c = record {
  index = ap g.S.Source.index c.serve_waiting.ensures.source ∙ c.pieces.invariant.index;
  empty = c.in-Ok-On.ensures.empty;
  later = omega (arith, c.pieces.invariant.later, c.fill.ensures.cause.later);
  serving = piece_taken c.pending_bytes_wait.ensures.free c.lines_are_passed.ensures.ended c.lines_are_passed.ensures.taken c.pending_bytes_wait.ensures.taken
      (serving_on c.pieces.invariant.index c.pieces.invariant.serving.serving (answered c.pieces.invariant.empty c.in-Ok-On.field-0-is c.in-Ok-On.ensures.answers))
      (filled (g.I.Feed.left c.pieces.input) (g.I.Feed.left c.fill.new.input) c.serve_waiting.new.lines c.fill.new.self c.in-Ok-More.field-0-is c.in-Ok-More.ensures.fills)
      (c.serve_waiting.ensures.free (told_as c.in-Ok-On.is c.in-Ok-On.field-0-is));
}

pub returns-in-Ok-End-clause-served : goal.returns-in-Ok-End-clause-served
returns-in-Ok-End-clause-served g c =
    λ beside. served_end c.pieces.invariant.index c.pieces.invariant.serving.serving (answered c.pieces.invariant.empty c.in-Ok-End.field-0-is c.in-Ok-End.ensures.answers) beside _ _

pub returns-in-Ok-NoMemory-clause-served : goal.returns-in-Ok-NoMemory-clause-served
returns-in-Ok-NoMemory-clause-served g c =
    λ beside. served_memory c.pieces.invariant.index c.pieces.invariant.serving.serving (answered c.pieces.invariant.empty c.in-Ok-NoMemory.field-0-is c.in-Ok-NoMemory.ensures.answers) beside _ _

pub returns-in-Err-clause-served : goal.returns-in-Err-clause-served
returns-in-Err-clause-served g c = λ beside. served_cut c.pieces.invariant.index c.pieces.invariant.serving (emptied c.pieces.invariant.empty c.in-Err.ensures.answers) beside _ _

pub pieces-smaller : goal.pieces-smaller
pieces-smaller g c =
    let takes = filled (g.I.Feed.left c.pieces.input) (g.I.Feed.left c.fill.new.input) c.serve_waiting.new.lines c.fill.new.self c.in-Ok-More.field-0-is c.in-Ok-More.ensures.fills in
    let left : c.serve_waiting.new.lines.left ≡ c.pieces.lines.left =
    serving_left c.pieces.invariant.index c.pieces.invariant.serving.serving (answered c.pieces.invariant.empty c.in-Ok-On.field-0-is c.in-Ok-On.ensures.answers) in
    omega (arith, takes.some, takes.counted, left)

pub returns-in-Ok-End-fill-clause-served : goal.returns-in-Ok-End-fill-clause-served
returns-in-Ok-End-fill-clause-served g c = λ beside.
    let ends = filled (g.I.Feed.left c.pieces.input) (g.I.Feed.left c.fill.new.input) c.serve_waiting.new.lines c.fill.new.self c.in-Ok-End-fill.field-0-is c.in-Ok-End-fill.ensures.fills in
    let free = c.serve_waiting.ensures.free (told_as c.in-Ok-On.is c.in-Ok-On.field-0-is) in
    served_last c.answer_last.result (ap g.S.Source.index c.serve_waiting.ensures.source ∙ c.pieces.invariant.index) (piece_still c.pending_bytes_wait.ensures.free c.lines_are_passed.ensures.ended (serving_still c.pending_bytes_wait.ensures.stays
    (serving_on c.pieces.invariant.index c.pieces.invariant.serving.serving (answered c.pieces.invariant.empty c.in-Ok-On.field-0-is c.in-Ok-On.ensures.answers)) ends.0 free) (still_free ends.0 free))
    ends.2 (omega (arith, still_left ends.0, ends.1)) c.answer_last.ensures.answers beside _ _

pub returns-in-Ok-Limit-clause-served : goal.returns-in-Ok-Limit-clause-served
returns-in-Ok-Limit-clause-served g c = λ beside.
    let full = filled (g.I.Feed.left c.pieces.input) (g.I.Feed.left c.fill.new.input) c.serve_waiting.new.lines c.fill.new.self c.in-Ok-Limit.field-0-is c.in-Ok-Limit.ensures.fills in
    let free = c.serve_waiting.ensures.free (told_as c.in-Ok-On.is c.in-Ok-On.field-0-is) in
    served_limit c.pending_bytes_wait.ensures.free c.lines_are_passed.ensures.ended (serving_still c.pending_bytes_wait.ensures.stays
    (serving_on c.pieces.invariant.index c.pieces.invariant.serving.serving (answered c.pieces.invariant.empty c.in-Ok-On.field-0-is c.in-Ok-On.ensures.answers)) full.0 free)
    (still_free full.0 free) (still_left full.0 ∙ full.1) beside _ _

pub returns-in-Err-fill-clause-served : goal.returns-in-Err-fill-clause-served
returns-in-Err-fill-clause-served g c = λ beside.
    let nothing = c.in-Err-fill.ensures.fills in
    let free = c.serve_waiting.ensures.free (told_as c.in-Ok-On.is c.in-Ok-On.field-0-is) in
    served_fault c.pending_bytes_wait.ensures.free c.lines_are_passed.ensures.ended (serving_still c.pending_bytes_wait.ensures.stays
    (serving_on c.pieces.invariant.index c.pieces.invariant.serving.serving (answered c.pieces.invariant.empty c.in-Ok-On.field-0-is c.in-Ok-On.ensures.answers)) nothing free)
    (still_free nothing free) beside _ _

pub answer_last-requires-clause-free : goal.answer_last-requires-clause-free
answer_last-requires-clause-free g c =
    let ends = filled (g.I.Feed.left c.pieces.input) (g.I.Feed.left c.fill.new.input) c.serve_waiting.new.lines c.fill.new.self c.in-Ok-End-fill.field-0-is c.in-Ok-End-fill.ensures.fills in
    still_free ends.0 (c.serve_waiting.ensures.free (told_as c.in-Ok-On.is c.in-Ok-On.field-0-is))
