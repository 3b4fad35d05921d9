use Rattle.shared_lemmas.proofs.Common.{rules, ℕ, List, All-weaker, ◌≡◌, ◌≤◌, ◌<◌, ◌+◌, ◌∙◌, refl, sym, length, drop, Result, Ok, Err, arith}
use Rattle.index_layout.specs.Heads.{HeadData}
use Rattle.index_layout.specs.declared.refusal.OpenFault.{OpenFault}
use Rattle.index_file.specs.Contents.{IsContent, Outside}
use Rattle.index_file.specs.Parts.{heads_from, told}
use Rattle.index_file.proofs.ContentReads.{content_same, reads_none, reads_then}
use Rattle.index_check.proofs.SegmentLists.{heads_length, next_counted, next_head, segments_begin, segments_end, segments_more, segments_stop}
use Rattle.index_check.proofs.segments.check_segments.Goals as goal

pub segments-init : goal.segments-init
segments-init g c =
    let before : Outside = record { told = g.C.Cabinet.told c.args.files.now; read_faults = g.C.Cabinet.read_faults c.args.files.now; write_faults = g.C.Cabinet.write_faults c.args.files.now } in
    record {
      stand = λ content place is holds from counted. segments_begin content c.args.docs c.args.now (heads_from content c.args.count place) c.args.from c.args.marks.now c.requires.marks.1;
      held = λ content is holds. holds;
      size = refl;
      at = c.requires.from;
      count = c.requires.marks.0;
      most = All-weaker (λ mark. mark < c.args.now) (λ mark. mark ≤ c.args.now) (λ mark less. omega (arith, less)) c.args.marks.now c.requires.marks.1;
      reads = reads_none before c.args.name.now c.args.from;
    }

pub returns-in_err-at-clause-exact : goal.returns-in_err-at-clause-exact
returns-in_err-at-clause-exact g c = λ content place is holds from counted.
    let stands = c.segments.invariant in
    let all : List HeadData = heads_from content c.args.count place in
    let h : HeadData = told c.head_of-head.result in
    let i = c.segments.i in
    let inside = c.segments-test.true in
    let there : IsContent (g.C.Cabinet.told c.segments.files) c.args.name.now content
    = content_same (g.C.Cabinet.told c.args.files.now) (g.C.Cabinet.told c.segments.files) c.args.name.now content (sym stands.reads.stays) is in
    let one = next_counted content c.args.heads.now place c.args.count i h from c.requires.heads inside c.head_of-head.ensures c.args.docs counted in
    let next = next_head content c.args.heads.now place c.args.count i h from c.requires.heads inside c.head_of-head.ensures in
    let out : c.from_residual.result ≡ Err c.in_err-at.field-0.0 = search rules in
    rw out (segments_stop content c.args.docs c.args.now all c.args.from i c.segments.at c.segments.marks (stands.stand content place is holds from counted) h (drop (i + 1) all) next c.in_err-at.field-0.0
    (λ earlier are. c.in_err-at.ensures.exact content earlier there (stands.held content is holds) one are))

pub segments-preserved : goal.segments-preserved
segments-preserved g c =
    let stands = c.segments.invariant in
    let h : HeadData = told c.head_of-head.result in
    let i = c.segments.i in
    let inside = c.segments-test.true in
    let first : Outside = record { told = g.C.Cabinet.told c.args.files.now; read_faults = g.C.Cabinet.read_faults c.args.files.now; write_faults = g.C.Cabinet.write_faults c.args.files.now } in
    let before : Outside = record { told = g.C.Cabinet.told c.segments.files; read_faults = g.C.Cabinet.read_faults c.segments.files; write_faults = g.C.Cabinet.write_faults c.segments.files } in
    let after : Outside = record { told = g.C.Cabinet.told c.next_payload.new.files; read_faults = g.C.Cabinet.read_faults c.next_payload.new.files; write_faults = g.C.Cabinet.write_faults c.next_payload.new.files } in
    let there : (content : List ℕ) → IsContent first.told c.args.name.now content → IsContent before.told c.args.name.now content
    = λ content is. content_same first.told before.told c.args.name.now content (sym stands.reads.stays) is in
    let more = c.in_ok-at.ensures in
    let answer : Result ℕ OpenFault = Ok c.in_ok-at.at in
    record {
      stand = λ content place is holds from counted.
          let all : List HeadData = heads_from content c.args.count place in
          let one = next_counted content c.args.heads.now place c.args.count i h from c.requires.heads inside c.head_of-head.ensures c.args.docs counted in
          let next = next_head content c.args.heads.now place c.args.count i h from c.requires.heads inside c.head_of-head.ensures in
          segments_more content c.args.docs c.args.now all c.args.from i c.segments.at c.in_ok-at.at c.segments.marks c.next_payload.new.marks h (stands.stand content place is holds from counted) next
          (λ earlier are. more.exact content earlier (there content is) (stands.held content is holds) one are)
          (λ earlier are. more.marks content earlier (there content is) (stands.held content is holds) are)
          (more.docs content (there content is) (stands.held content is holds));
      held = λ content is holds. more.held content (there content is) (stands.held content is holds);
      size = more.size ∙ stands.size;
      at = (let size = more.size in let within = more.within in omega (arith, size, within));
      count = (let size = more.count in let count = stands.count in omega (arith, size, count));
      most = more.most;
      reads = reads_then first before after c.args.name.now c.segments.at answer stands.reads more.reads;
    }

pub returns-clause-exact : goal.returns-clause-exact
returns-clause-exact g c = λ content place is holds from counted.
    let all : List HeadData = heads_from content c.args.count place in
    let size = heads_length content c.args.count place in
    let last : length all ≤ c.segments.i = (let test = c.segments-test.false in omega (arith, size, test)) in
    segments_end content c.args.docs c.args.now all c.args.from c.segments.i c.segments.at c.segments.marks (c.segments.invariant.stand content place is holds from counted) last
