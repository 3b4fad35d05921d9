use Rattle.shared_lemmas.proofs.Common.{◌≡◌, ◌+◌, ◌++◌, ◌<◌, [], ◌∷◌, Ok, Err, rules, length, take, drop, slice_range, ap, sym, subst, ◌∙◌, arith, flat_map}
use Rattle.index_file.proofs.Below.{HeadData, docs_in, payload_end, read_segments, with_segments}
use Rattle.index_file.specs.Marks.{AreMarks}
use Rattle.index_file.specs.Private.Payloads.{segment_in, segments_from}
use Rattle.index_file.specs.Private.Tables.{head_at}
use Rattle.index_file.specs.Parts.{told, IsCounted, IsPayloadAt}
use Rattle.index_file.proofs.HeadLists.{part_length, part_there, place_more, segments_more}
use Rattle.index_file.proofs.SegmentLists.{all_docs, docs_of, groups_end, groups_pushed, groups_stay, payloads_on, segments_ahead, segments_end, segments_not, segments_on}
use Rattle.index_file.proofs.term_payloads.read_apart.Goals.{then-i-eq0+in-Ok, else-i-eq0}
use Rattle.index_file.proofs.term_payloads.read_apart.Goals as goal

pub check_apart-requires-clause-counted : goal.check_apart-requires-clause-counted
check_apart-requires-clause-counted c =
    let n = c.args.first + c.segments.i in
    subst (IsCounted c.args.docs) (sym c.at-head.ensures)
    (c.requires.counted n (head_at [] 0) (let there = c.requires.there in let test = c.segments-test.true in omega (arith, there, test)))

pub returns-in_err-check_apart-clause-exact : goal.returns-in_err-check_apart-clause-exact
returns-in_err-check_apart-clause-exact c =
    let bytes = c.args.bytes.now in
    let d = c.args.docs in
    let i = c.segments.i in
    let its = slice_range c.args.heads.now c.args.first c.args.last in
    let some = c.requires.some in
    let long = part_length c.args.heads.now c.args.first c.args.last (omega (arith, some)) c.requires.there in
    let test = c.segments-test.true in
    let inside : i < length its = omega (arith, long, test) in
    let front = segments_from bytes d (take i its) c.args.from in
    let total = read_segments bytes d [] its c.args.from in
    let head : told c.at-head.result ≡ head_at its i = c.at-head.ensures ∙ sym (part_there c.args.heads.now c.args.first c.args.last i test) in
    let is = segments_ahead bytes d total front its i c.segments.at inside c.segments.invariant.read in
    let out : c.from_residual.result ≡ Err c.in_err-check_apart.field-0.0 = search rules in
    rw out (segments_not bytes d total front (head_at its i) c.segments.at (drop (i + 1) its) c.in_err-check_apart.field-0.0 is
    (rw (sym head) (c.in_err-check_apart.ensures.exact (flat_map docs_of front) c.segments.invariant.marks)))

pub segments-preserved : goal.segments-preserved
segments-preserved c =
    let bytes = c.args.bytes.now in
    let d = c.args.docs in
    let i = c.segments.i in
    let at = c.segments.at in
    let from = c.args.from in
    let stands = c.segments.invariant in
    let its = slice_range c.args.heads.now c.args.first c.args.last in
    let some = c.requires.some in
    let long = part_length c.args.heads.now c.args.first c.args.last (omega (arith, some)) c.requires.there in
    let test = c.segments-test.true in
    let inside : i < length its = omega (arith, long, test) in
    let h = head_at its i in
    let front = segments_from bytes d (take i its) from in
    let left = drop (i + 1) its in
    let total = read_segments bytes d [] its from in
    let head : told c.at-head.result ≡ h = c.at-head.ensures ∙ sym (part_there c.args.heads.now c.args.first c.args.last i test) in
    let next = at + c.at-head.result.size in
    let is = segments_ahead bytes d total front its i at inside stands.read in
    let end : payload_end bytes d (flat_map docs_of front) h at ≡ Ok next = subst (λ h. payload_end bytes d (flat_map docs_of front) h at ≡ Ok next) head (c.in_ok-check_apart.ensures.exact (flat_map docs_of front) stands.marks) in
    let on = segments_on bytes d total front h at left next is end in
    let same = ap (λ place. front ++ segment_in bytes d h place ∷ []) stands.place ∙ sym (segments_more bytes d its from i inside) in
    let size = ap (λ (h : HeadData). h.size) head in
    let more = place_more its from i inside in
    let here : IsPayloadAt bytes d h at = subst (λ h. IsPayloadAt bytes d h at) head c.in_ok-check_apart.ensures.payload in
    let marked = subst (λ docs. AreMarks c.args.now docs c.check_apart.new.marks) (sym (all_docs bytes d total front h at)) (subst (λ h. AreMarks c.args.now (flat_map docs_of front ++ docs_in bytes d h at) c.check_apart.new.marks) head (c.in_ok-check_apart.ensures.marks (flat_map docs_of front) stands.marks)) in
    record {
      read = on ∙ ap (λ all. with_segments all (read_segments bytes d (flat_map docs_of all) left next)) same;
      payloads = payloads_on bytes d its from i stands.payloads (subst (IsPayloadAt bytes d h) stands.place here);
      groups = elim c.if-i-eq0.branch [
        | then-i-eq0+in-Ok w ↦ groups_pushed its from i c.args.groups.now c.segments.groups c.if-i-eq0.groups at w.if-i-eq0.true stands.place (w.groups-is ∙ w.in-Ok.ensures.ok) stands.groups
        | else-i-eq0 w ↦ (let odd = w.if-i-eq0.false in groups_stay its from i c.args.groups.now c.segments.groups c.if-i-eq0.groups (omega (arith, odd)) w.groups-is stands.groups)
      ];
      marks = subst (λ all. AreMarks c.args.now (flat_map docs_of all) c.check_apart.new.marks) same marked;
      count = (let l = c.in_ok-check_apart.ensures.count in let m = stands.count in omega (arith, l, m));
      place = (let place = stands.place in omega (arith, place, size, more));
      at = c.in_ok-check_apart.ensures.payload.within;
    }

pub returns-clause-exact : goal.returns-clause-exact
returns-clause-exact c =
    let its = slice_range c.args.heads.now c.args.first c.args.last in
    let some = c.requires.some in
    let long = part_length c.args.heads.now c.args.first c.args.last (omega (arith, some)) c.requires.there in
    let last : c.segments.i ≡ length its = (let test = c.segments-test.false in let end = c.segments.auto.i-end in omega (arith, test, end, long)) in
    segments_end c.args.bytes.now c.args.docs its c.args.from c.segments.at c.segments.i last c.segments.invariant.read

pub returns-clause-payloads : goal.returns-clause-payloads
returns-clause-payloads c = λ s inside.
    let some = c.requires.some in
    let long = part_length c.args.heads.now c.args.first c.args.last (omega (arith, some)) c.requires.there in
    c.segments.invariant.payloads s (let test = c.segments-test.false in omega (arith, test, inside, long))

pub returns-clause-groups : goal.returns-clause-groups
returns-clause-groups c =
    let its = slice_range c.args.heads.now c.args.first c.args.last in
    let some = c.requires.some in
    let long = part_length c.args.heads.now c.args.first c.args.last (omega (arith, some)) c.requires.there in
    let last : c.segments.i ≡ length its = (let test = c.segments-test.false in let end = c.segments.auto.i-end in omega (arith, test, end, long)) in
    groups_end its c.args.from c.segments.i c.args.groups.now c.segments.groups last c.segments.invariant.groups
