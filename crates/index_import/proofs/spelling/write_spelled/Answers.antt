-- The parts are those of the index.
use Rattle.shared_lemmas.proofs.Common.{ℕ, List, length, refl}
use Rattle.index_import.proofs.Below.{chosen_terms}
use Rattle.index_write.specs.Spelled.{HasNames, HasParts}
use Rattle.index_import.specs.Private.KeptDocs.{names_in}
use Rattle.index_import.proofs.Finished.{parts_written}
use Rattle.index_import.proofs.spelling.write_spelled.Goals as goal

pub returns-in-Ok-written-clause-written : goal.returns-in-Ok-written-clause-written
returns-in-Ok-written-clause-written g c = λ name made are.
    let names : List (List ℕ) = names_in c.args.docs.now in
    let entries = chosen_terms (length names) made in
    let law = c.appended_payloads_make_the_text.ensures in
    let named : HasNames c.in-Ok.names names = record { spelled = c.in-Ok.ensures; are = c.requires } in
    let parts : HasParts c.args.spelling.now.terms c.args.spelling.now.payloads entries = are.parts in
    let put = c.in-Ok-written.ensures in
    parts_written (g.C.Cabinet.told c.args.files.now) name c.args.index.now (length names) names entries made refl refl law.text law.length
    (g.C.Cabinet.told c.write_parts-written.new.files) c.args.spelling.now.payloads c.in-Ok-written.totals are.payloads_are law.totals
    (put.totals names entries named parts) (put.content names entries named parts) (put.fits names entries named parts)
