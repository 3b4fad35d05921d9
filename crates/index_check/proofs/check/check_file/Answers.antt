use Rattle.std.proofs.Common.{Option, Result, Err, None, rules, ap, sym, ◌∙◌, ◌≡◌}
use Rattle.jass_base.specs.Outside.{Files}
use Rattle.jass_base.specs.declared.answer.Totals.{Totals}
use Rattle.index_layout.specs.Reading.{Front, end_checks, read_index, read_payloads, read_terms}
use Rattle.index_layout.specs.Refusals.{judged}
use Rattle.index_layout.specs.declared.refusal.OpenFault.{OpenFault}
use Rattle.index_file.specs.declared.front.Front.{Front as Checked}
use Rattle.index_check.specs.Private.Pieces.{Holds}
use Rattle.index_check.proofs.Checked.{checks_err, checks_ok, front_stops, made_view, names_stop, payloads_stop, terms_stop, up_to_ends}
use Rattle.index_file.proofs.ContentReads.{content_same, there_as, there_else}
use Rattle.index_file.proofs.Stopping.{stops_as}
use Rattle.index_check.proofs.Totals.{totals_are, view_read}
use Rattle.index_check.proofs.check.check_file.Goals as goal

pub returns-in_err-front-clause-exact : goal.returns-in_err-front-clause-exact
returns-in_err-front-clause-exact g c =
    let told : Option Files = g.C.Cabinet.told c.args.files.now in
    let name = c.args.name.now in
    let out : c.from_residual.result ≡ Err c.in_err-front.field-0.0 = search rules in
    rw out (checks_err told name c.in_err-front.field-0.0 (there_else Checked Totals told name c.in_err-front.field-0.0 c.in_err-front.ensures.there) (λ content is. front_stops content c.in_err-front.field-0.0 (c.in_err-front.ensures.exact content is)))

pub returns-in_err-behind_names-clause-exact : goal.returns-in_err-behind_names-clause-exact
returns-in_err-behind_names-clause-exact g c =
    let told : Option Files = g.C.Cabinet.told c.args.files.now in
    let name = c.args.name.now in
    let one : Option Files = g.C.Cabinet.told c.check_front.new.files in
    let front : Front = record { docs = c.in_ok-front.front.docs; terms = c.in_ok-front.front.terms } in
    let out : c.from_residual-in_err-behind_names.result ≡ Err c.in_err-behind_names.field-0.0 = search rules in
    rw out (checks_err told name c.in_err-behind_names.field-0.0 (there_as told name (let result : Result Totals OpenFault = Err c.in_err-behind_names.field-0.0 in result) c.in_ok-front.ensures.there) (λ content is.
    let exact = c.in_ok-front.ensures.exact content is in
    let is1 = content_same told one name content (sym c.in_ok-front.ensures.reads.stays) is in
    let held : Holds content c.new-held.result = (c.new-held.ensures.nothing content, c.new-held.ensures.size ∙ exact.1) in
    names_stop content c.in_err-behind_names.field-0.0 front exact.0 (c.in_err-behind_names.ensures.exact content is1 held)))

pub returns-in_err-sums-clause-exact : goal.returns-in_err-sums-clause-exact
returns-in_err-sums-clause-exact g c =
    let told : Option Files = g.C.Cabinet.told c.args.files.now in
    let name = c.args.name.now in
    let one : Option Files = g.C.Cabinet.told c.check_front.new.files in
    let front : Front = record { docs = c.in_ok-front.front.docs; terms = c.in_ok-front.front.terms } in
    let out : c.from_residual-in_err-sums.result ≡ Err c.in_err-sums.field-0.0 = search rules in
    rw out (checks_err told name c.in_err-sums.field-0.0 (there_as told name (let result : Result Totals OpenFault = Err c.in_err-sums.field-0.0 in result) c.in_ok-front.ensures.there) (λ content is.
    let exact = c.in_ok-front.ensures.exact content is in
    let is1 = content_same told one name content (sym c.in_ok-front.ensures.reads.stays) is in
    let held : Holds content c.new-held.result = (c.new-held.ensures.nothing content, c.new-held.ensures.size ∙ exact.1) in
    let two : Option Files = g.C.Cabinet.told c.check_names.new.files in
    let is2 = content_same one two name content (sym c.in_ok-behind_names.ensures.reads.stays) is1 in
    let held1 : Holds content c.check_names.new.held = c.in_ok-behind_names.ensures.held content is1 held in
    let names = c.in_ok-behind_names.ensures.exact content is1 held in
    terms_stop content c.in_err-sums.field-0.0 front names.0 exact.0 names.1
    (stops_as c.in_err-sums.field-0.0 (read_terms content front.docs front.terms None names.0.end) (read_terms content front.docs front.terms None c.in_ok-behind_names.behind_names) (ap (λ n. read_terms content front.docs front.terms None n) names.2)
    (c.in_err-sums.ensures.exact content is2 held1))))

pub returns-in_err-end-clause-exact : goal.returns-in_err-end-clause-exact
returns-in_err-end-clause-exact g c =
    let told : Option Files = g.C.Cabinet.told c.args.files.now in
    let name = c.args.name.now in
    let one : Option Files = g.C.Cabinet.told c.check_front.new.files in
    let front : Front = record { docs = c.in_ok-front.front.docs; terms = c.in_ok-front.front.terms } in
    let out : c.from_residual-in_err-end.result ≡ Err c.in_err-end.field-0.0 = search rules in
    rw out (checks_err told name c.in_err-end.field-0.0 (there_as told name (let result : Result Totals OpenFault = Err c.in_err-end.field-0.0 in result) c.in_ok-front.ensures.there) (λ content is.
    let exact = c.in_ok-front.ensures.exact content is in
    let is1 = content_same told one name content (sym c.in_ok-front.ensures.reads.stays) is in
    let held : Holds content c.new-held.result = (c.new-held.ensures.nothing content, c.new-held.ensures.size ∙ exact.1) in
    let two : Option Files = g.C.Cabinet.told c.check_names.new.files in
    let is2 = content_same one two name content (sym c.in_ok-behind_names.ensures.reads.stays) is1 in
    let held1 : Holds content c.check_names.new.held = c.in_ok-behind_names.ensures.held content is1 held in
    let names = c.in_ok-behind_names.ensures.exact content is1 held in
    let three : Option Files = g.C.Cabinet.told c.check_terms.new.files in
    let is3 = content_same two three name content (sym c.in_ok-sums.ensures.reads.stays) is2 in
    let held2 : Holds content c.check_terms.new.held = c.in_ok-sums.ensures.held content is2 held1 in
    let terms = c.in_ok-sums.ensures.exact content is2 held1 in
    let terms_read = ap (λ n. read_terms content front.docs front.terms None n) names.2 ∙ terms.1 in
    payloads_stop content c.in_err-end.field-0.0 front names.0 terms.0 exact.0 names.1 terms_read
    (stops_as c.in_err-end.field-0.0 (read_payloads content front.docs terms.0.terms terms.0.end) (read_payloads content front.docs terms.0.terms c.in_ok-sums.behind_terms) (ap (λ n. read_payloads content front.docs terms.0.terms n) terms.2)
    (c.in_err-end.ensures.exact content terms.0 is3 held2 terms.1))))

pub returns-clause-exact : goal.returns-clause-exact
returns-clause-exact g c =
    let told : Option Files = g.C.Cabinet.told c.args.files.now in
    let name = c.args.name.now in
    let one : Option Files = g.C.Cabinet.told c.check_front.new.files in
    let front : Front = record { docs = c.in_ok-front.front.docs; terms = c.in_ok-front.front.terms } in
    checks_err told name c.in-Err.fault (there_as told name (let result : Result Totals OpenFault = Err c.in-Err.fault in result) c.in_ok-front.ensures.there) (λ content is.
    let exact = c.in_ok-front.ensures.exact content is in
    let is1 = content_same told one name content (sym c.in_ok-front.ensures.reads.stays) is in
    let held : Holds content c.new-held.result = (c.new-held.ensures.nothing content, c.new-held.ensures.size ∙ exact.1) in
    let two : Option Files = g.C.Cabinet.told c.check_names.new.files in
    let is2 = content_same one two name content (sym c.in_ok-behind_names.ensures.reads.stays) is1 in
    let held1 : Holds content c.check_names.new.held = c.in_ok-behind_names.ensures.held content is1 held in
    let names = c.in_ok-behind_names.ensures.exact content is1 held in
    let three : Option Files = g.C.Cabinet.told c.check_terms.new.files in
    let is3 = content_same two three name content (sym c.in_ok-sums.ensures.reads.stays) is2 in
    let held2 : Holds content c.check_terms.new.held = c.in_ok-sums.ensures.held content is2 held1 in
    let terms = c.in_ok-sums.ensures.exact content is2 held1 in
    let terms_read = ap (λ n. read_terms content front.docs front.terms None n) names.2 ∙ terms.1 in
    let index = c.in_ok-end.ensures.exact content terms.0 is3 held2 terms.1 in
    let index_read = ap (λ n. read_payloads content front.docs terms.0.terms n) terms.2 ∙ index.1 in
    let before = up_to_ends content front names.0 terms.0 index.0 exact.0 names.1 terms_read index_read ∙ ap (λ n. judged (end_checks content terms.0.terms n) (view_read names.0 terms.0 index.0)) index.2 in
    stops_as c.in-Err.fault (read_index content) (judged (end_checks content terms.0.terms c.in_ok-end.end) (view_read names.0 terms.0 index.0)) before
    (c.in-Err.ensures.exact content terms.0.terms (view_read names.0 terms.0 index.0) exact.1 exact.2 exact.3 terms.3))

pub returns-in-Ok-clause-exact : goal.returns-in-Ok-clause-exact
returns-in-Ok-clause-exact g c =
    let told : Option Files = g.C.Cabinet.told c.args.files.now in
    let name = c.args.name.now in
    let one : Option Files = g.C.Cabinet.told c.check_front.new.files in
    let front : Front = record { docs = c.in_ok-front.front.docs; terms = c.in_ok-front.front.terms } in
    let made = c.in-Ok.ensures.totals in
    checks_ok told name c.in-Ok.totals c.in_ok-front.ensures.there
    (made_view c.in-Ok.totals (λ none. (let zero : c.in_ok-front.front.terms ≡ 0 = sym (ap (λ (t : Totals). t.terms) made) ∙ none in
    let sums = c.in_ok-sums.ensures.none zero in
    (ap (λ (t : Totals). t.postings) made ∙ sums.0, ap (λ (t : Totals). t.greatest) made ∙ sums.1))))
    (λ content is.
    let exact = c.in_ok-front.ensures.exact content is in
    let is1 = content_same told one name content (sym c.in_ok-front.ensures.reads.stays) is in
    let held : Holds content c.new-held.result = (c.new-held.ensures.nothing content, c.new-held.ensures.size ∙ exact.1) in
    let two : Option Files = g.C.Cabinet.told c.check_names.new.files in
    let is2 = content_same one two name content (sym c.in_ok-behind_names.ensures.reads.stays) is1 in
    let held1 : Holds content c.check_names.new.held = c.in_ok-behind_names.ensures.held content is1 held in
    let names = c.in_ok-behind_names.ensures.exact content is1 held in
    let three : Option Files = g.C.Cabinet.told c.check_terms.new.files in
    let is3 = content_same two three name content (sym c.in_ok-sums.ensures.reads.stays) is2 in
    let held2 : Holds content c.check_terms.new.held = c.in_ok-sums.ensures.held content is2 held1 in
    let terms = c.in_ok-sums.ensures.exact content is2 held1 in
    let terms_read = ap (λ n. read_terms content front.docs front.terms None n) names.2 ∙ terms.1 in
    let index = c.in_ok-end.ensures.exact content terms.0 is3 held2 terms.1 in
    let index_read = ap (λ n. read_payloads content front.docs terms.0.terms n) terms.2 ∙ index.1 in
    let before = up_to_ends content front names.0 terms.0 index.0 exact.0 names.1 terms_read index_read ∙ ap (λ n. judged (end_checks content terms.0.terms n) (view_read names.0 terms.0 index.0)) index.2 in (
      view_read names.0 terms.0 index.0,
      made ∙ totals_are content front.docs front.terms c.in_ok-behind_names.behind_names c.in_ok-sums.behind_terms names.0 terms.0 index.0 c.in_ok-sums.sums names.1 terms.1 index.1 index.3 terms.3,
      before ∙ c.in-Ok.ensures.exact content terms.0.terms (view_read names.0 terms.0 index.0) exact.1 exact.2 exact.3 terms.3,
    ))
