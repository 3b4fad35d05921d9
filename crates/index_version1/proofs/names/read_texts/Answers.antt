use Rattle.std.proofs.Common.{◌≡◌, ◌≤◌, ◌+◌, ◌-◌, ◌++◌, suc, length, ap, sym, arith, ◌∙◌, Err, rules}
use Rattle.index_layout.specs.Reading.{NamesRead, is_name_text}
use Rattle.index_version1.specs.Reading.{offset_in, names_from}
use Rattle.index_version1.proofs.Sequences.{rise_to, texts_on, texts_not, names_on, name_good, name_fails, texts_open, refused_at}
use Rattle.index_version1.proofs.names.read_texts.Goals as goal

pub name_at-requires-clause-within : goal.name_at-requires-clause-within
name_at-requires-clause-within c =
    let i = c.names.i in
    omega (arith, c.offset_at-last.ensures, rise_to c.args.bytes.now (i + 1) (c.args.docs - (i + 1)) c.args.docs (omega arith) c.requires.rising)

pub returns-in_err-name-clause-exact : goal.returns-in_err-name-clause-exact
returns-in_err-name-clause-exact c =
    let bytes = c.args.bytes.now in
    let d = c.args.docs in
    let place = c.args.place in
    let i = c.names.i in
    let left = d - (i + 1) in
    let more : d - i ≡ suc left = omega arith in
    let x : NamesRead = record { names = names_from bytes place d 0; end = place + offset_in bytes d } in
    let within : place + offset_in bytes d ≤ length bytes = omega (arith, c.offset_at-last.ensures) in
    let is : c.from_residual.result ≡ Err c.in_err-name.field-0.0 = search rules in
    rw is (name_fails c.in_err-name.field-0.0 c.name_at.result.now (place + c.offset_at.result) _ c.in_err-name.ensures
    (λ bad. texts_open bytes d place within ∙ c.names.invariant.read x
    ∙ texts_not bytes place (d - i) left i x more (ap is_name_text (sym c.name_at.ensures) ∙ bad)
    ∙ refused_at place c.offset_at.result (offset_in bytes i) (sym c.offset_at.ensures)))

pub names-preserved : goal.names-preserved
names-preserved c =
    let bytes = c.args.bytes.now in
    let d = c.args.docs in
    let place = c.args.place in
    let i = c.names.i in
    let left = d - (i + 1) in
    let more : d - i ≡ suc left = omega arith in
    let good = name_good c.name_at.result.now c.in_ok-name.name (place + c.offset_at.result) c.in_ok-name.ensures in
    record {
      read = λ x. c.names.invariant.read x ∙ texts_on bytes place (d - i) left i x more (ap is_name_text (sym c.name_at.ensures) ∙ good.0);
      names = ap (λ names. names ++ names_from bytes place left (i + 1)) c.in-Ok.ensures.ok
          ∙ names_on bytes place (d - i) left i c.names.names c.in_ok-name.name more (sym good.1 ∙ c.name_at.ensures) ∙ c.names.invariant.names;
    }
