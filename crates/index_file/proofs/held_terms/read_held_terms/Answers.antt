use Rattle.shared_lemmas.proofs.Common.{◌≡◌, ◌≤◌, ◌+◌, ◌-◌, ◌++◌, ℕ, [], List, IfSome, length, drop, sym, ap, subst, ◌∙◌, arith, slice_range, length-drop, length-take-le}
use Rattle.whole_files.specs.Windows.{AreFrom, Shows}
use Rattle.index_file.specs.Contents.{IsContent}
use Rattle.index_file.proofs.ContentReads.{content_same, reads_none}
use Rattle.index_file.proofs.Gathering.{Gathers, are_none, are_on, gathers_all, gathers_none, gathers_on, held_from}
use Rattle.index_file.proofs.held_terms.read_held_terms.Goals as goal

pub terms-init : goal.terms-init
terms-init g c = record {
  at = omega arith;
  place = omega (arith, c.requires.start);
  reader = c.new-reader.ensures.reader c.args.docs;
  gathered = (
    [],
    are_none (g.C.Cabinet.told c.args.files.now) c.args.name.now c.args.part.now.start (c.args.part.now.start + 0) (omega arith),
    gathers_none c.args.docs c.new-reader.result c.new-reader.ensures.none.0 c.new-reader.ensures.none.1 c.new-reader.ensures.rows c.new-reader.ensures.heads,
  );
  shown = λ content told. c.requires.shown content;
  reads = reads_none _ c.args.name.now 0;
}

pub terms-preserved : goal.terms-preserved
terms-preserved g c =
    let was = c.terms.invariant in
    let told = g.C.Cabinet.told c.args.files.now in
    let name = c.args.name.now in
    let old = c.terms.part in
    let at = old.start + c.terms.at in
    let part = c.next_term.new.part in
    let bytes = part.bytes.items in
    let from = c.in-Some.from in
    let to = c.in-Some.to in
    let next = c.in_ok-from.ensures in
    let place : part.start + from ≡ at = subst (λ o. IfSome o (λ x. part.start + x.0 ≡ at)) c.in-Some.is next.place in
    let some : from + 8 ≤ to = subst (λ o. IfSome o (λ x. x.0 + 8 ≤ x.1)) c.in-Some.is next.some in
    let held : to ≤ length bytes = subst (λ o. IfSome o (λ x. x.1 ≤ length bytes)) c.in-Some.is next.held in
    let within : part.start + to ≤ c.args.size = subst (λ o. IfSome o (λ x. part.start + x.1 ≤ c.args.size)) c.in-Some.is next.within in
    let here : List ℕ = slice_range c.as_slice.result.now from to in
    let here_is : here ≡ slice_range bytes from to = ap (λ (xs : List ℕ). slice_range xs from to) c.as_slice.ensures.value in
    let size : length here ≡ to - from = ap (λ (xs : List ℕ). length xs) here_is ∙ length-take-le (to - from) (drop from bytes) (omega (arith, held, length-drop from bytes)) in
    let order : from ≤ to = omega (arith, some) in
    let read = c.in_ok-read_whole.ensures.one c.if-not-branch.false in
    let gathered = was.gathered in
    let shows : (content : List ℕ) → IsContent told name content → Shows content part =
    λ content is. next.shown content (content_same _ _ name content (sym was.reads.stays) is) (was.shown content is) in
    record {
      at = held;
      place = within;
      reader = read.1.reader;
      gathered = (
        gathered.0 ++ here,
        are_on told name gathered.0 here c.args.part.now.start at (part.start + to) gathered.1 c.are_bytes.ensures (omega (arith, place, size, order))
            (λ content is. subst (λ (xs : List ℕ). AreFrom content at xs) (sym here_is)
            (subst (λ n. AreFrom content n (slice_range bytes from to)) place (held_from content bytes part.start from to (shows content is) order held))),
        gathers_on gathered.0 here c.args.docs c.terms.counter c.terms.reader c.read_whole.new.self read.0 gathered.2 read.1 (omega (arith, size, some)),
      );
      shown = shows;
      reads = record {
        stays = next.reads.stays ∙ was.reads.stays;
        later = omega (arith, was.reads.later, next.reads.later);
        others = omega (arith, was.reads.others, next.reads.others);
        fault = λ is. (let bad : ⊥ = cc in absurd bad);
      };
    }

pub returns-clause-terms : goal.returns-clause-terms
returns-clause-terms g c =
    let gathered = c.terms.invariant.gathered in
    let all : c.terms.counter ≡ c.args.count = omega arith in (
      gathered.0,
      gathered.1,
      gathers_all gathered.0 c.args.docs c.args.count c.terms.reader c.in_ok-table.table c.in_ok-table.sums (subst (λ n. Gathers gathered.0 c.args.docs n c.terms.reader) all gathered.2)
          c.terms.invariant.reader c.in_ok-table.ensures.table c.in_ok-table.ensures.sums,
    )
