use Rattle.std.proofs.Common.{rules, arith, ◌≤◌, ◌+◌, ◌⊎◌, length, ℕ, List, sym, subst, ◌∙◌}
use Rattle.whole_files.specs.Windows.{Reaches, Shows}
use Rattle.index_layout.specs.Reading.{read_front}
use Rattle.index_file.specs.declared.front.Front.{Front}
use Rattle.index_file.specs.Pieces.{IsPiece}
use Rattle.index_file.proofs.Fronts.{size_fits, front_piece}
use Rattle.index_file.proofs.ContentReads.{content_same, given, nothing_from, stops_unread, there_unread}
use Rattle.index_file.proofs.front.check_front.Goals as goal

pub returns-in_err-is_long-clause-exact : goal.returns-in_err-is_long-clause-exact
returns-in_err-is_long-clause-exact g c = λ content is. search (rules, stops_unread _ (read_front content) c.in_err-is_long.ensures.unrefused)

pub returns-in_err-is_long-clause-there : goal.returns-in_err-is_long-clause-there
returns-in_err-is_long-clause-there g c = search (rules, there_unread Front (g.C.Cabinet.told c.args.files.now) c.args.name.now _ c.in_err-is_long.ensures.unrefused)

pub returns-in_err-fits-clause-exact : goal.returns-in_err-fits-clause-exact
returns-in_err-fits-clause-exact g c = λ content is. search (rules, stops_unread _ (read_front content) c.in_err-fits.ensures.unrefused)

pub returns-clause-exact : goal.returns-clause-exact
returns-clause-exact g c =
    λ content is.
    let name = c.args.name.now in
    let empty = c.new-window.result in
    let window = c.fill.new.self in
    let then = content_same _ _ name content (sym c.in_ok-is_long.ensures.reads.stays) is in
    let last = content_same _ _ name content (sym c.in-Ok.ensures.stays) then in
    let held : List ℕ = c.as_slice-2.result.now in
    let nothing : Shows content empty = nothing_from content empty.bytes.items empty.start c.new-window.ensures.bytes in
    let shown : Shows content window = given _ name content (λ content. Shows content empty → Shows content window) c.in-Ok.ensures.shown then nothing in
    let reached : Reaches content window empty.start 40 = given _ name content (λ content. Shows content empty → Reaches content window empty.start 40) c.in-Ok.ensures.reached then nothing in
    let start : window.start ≤ 0 = omega (arith, c.in-Ok.ensures.start, c.new-window.ensures.start) in
    let reach : (0 + 40 ≤ window.start + length window.bytes.items) ⊎ (length content ≤ window.start + length window.bytes.items) = subst (λ n. (n + 40 ≤ window.start + length window.bytes.items) ⊎ (length content ≤ window.start + length window.bytes.items)) c.new-window.ensures.start reached in
    let piece : IsPiece content 0 40 held = front_piece content window.bytes.items held window.start shown start c.as_slice-2.ensures.value reach in
    let long = c.in_ok-is_long.ensures.has content is in
    c.judge_front.ensures.exact content piece long
    (size_fits content held c.as_slice.result.now c.told_size-size.result c.in_ok-is_long.is_long c.in_ok-fits.fits piece (c.as_slice.ensures.value ∙ sym c.as_slice-2.ensures.value)
    c.told_size-size.ensures.told long (c.in_ok-fits.ensures.has content last))

pub returns-clause-reads : goal.returns-clause-reads
returns-clause-reads g c = record {
  stays = c.in_ok-fits.ensures.reads.stays ∙ c.in-Ok.ensures.stays ∙ c.in_ok-is_long.ensures.reads.stays;
  later = omega (arith, c.in_ok-is_long.ensures.reads.later, c.in-Ok.ensures.later, c.in_ok-fits.ensures.reads.later);
  others = omega (arith, c.in_ok-is_long.ensures.reads.others, c.in-Ok.ensures.others, c.in_ok-fits.ensures.reads.others);
  fault = λ is. absurd (c.judge_front.ensures.unread is);
}
