use Rattle.shared_lemmas.proofs.Common.{arith, sym, ◌∙◌, ◌<◌, map, ◌≡◌, Err, rules, All-from_get_or}
use Rattle.index_version1.proofs.Below.{IndexData, term_data}
use Rattle.index_version1.proofs.NeverOld.{never_old}
use Rattle.index_version1.proofs.Indexes.{fails_found, in_memory}
use Rattle.shared_lemmas.proofs.Results.{ok_same}
use Rattle.index_version1.proofs.reading.read_version1.Goals as goal

pub invariant_of-result : goal.invariant_of-result
invariant_of-result c =
    let bytes = c.args.bytes.now in
    let index : IndexData = record { names = c.in_ok-parts.parts.names; terms = map term_data c.in_ok-parts.parts.terms } in
    let file = c.indexes_are_read.ensures.only index bytes (All-from_get_or (λ byte. byte < 256) bytes 0 (λ i inside. (let h = c.type_inv.bytes i in omega (arith, h)))) c.in_ok-parts.ensures.exact in
    let keeps = in_memory c.in_ok-parts.parts.names c.in_ok-parts.parts.terms file.view.index in
    record {
      few_names = keeps.few_names;
      names_fit = keeps.names_fit;
      names_are_text = keeps.names_are_text;
      few_terms = keeps.few_terms;
      rising = keeps.rising;
      docs_below = keeps.docs_below;
      greatest_is = c.in_ok-parts.ensures.greatest;
    }

pub returns-in_err-parts-clause-only : goal.returns-in_err-parts-clause-only
returns-in_err-parts-clause-only c =
    let out : c.from_residual.result ≡ Err c.in_err-parts.field-0.0 = search rules in
    rw out (λ index is. fails_found c.args.bytes.now index c.in_err-parts.field-0.0 c.in_err-parts.ensures.exact (c.indexes_are_read.ensures.found index c.args.bytes.now is))

pub returns-clause-found : goal.returns-clause-found
returns-clause-found c =
    let bytes = c.args.bytes.now in
    let index : IndexData = record { names = c.in_ok-parts.parts.names; terms = map term_data c.in_ok-parts.parts.terms } in
    c.indexes_are_read.ensures.only index bytes (All-from_get_or (λ byte. byte < 256) bytes 0 (λ i inside. (let h = c.type_inv.bytes i in omega (arith, h)))) c.in_ok-parts.ensures.exact

pub returns-clause-only : goal.returns-clause-only
returns-clause-only c = λ index is.
    let mine : IndexData = record { names = c.in_ok-parts.parts.names; terms = map term_data c.in_ok-parts.parts.terms } in
    ok_same mine index (sym c.in_ok-parts.ensures.exact ∙ c.indexes_are_read.ensures.found index c.args.bytes.now is)

pub returns-in_err-parts-clause-fault : goal.returns-in_err-parts-clause-fault
returns-in_err-parts-clause-fault c =
    let out : c.from_residual.result ≡ Err c.in_err-parts.field-0.0 = search rules in
    rw out (never_old c.args.bytes.now c.in_err-parts.field-0.0 c.in_err-parts.ensures.exact)
