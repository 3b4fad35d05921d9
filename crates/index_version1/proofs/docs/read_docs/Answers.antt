use Rattle.shared_lemmas.proofs.Common.{arith, sym, subst, ◌<◌, All-from_get_or}
use Rattle.jass_base.specs.Gaps.{AreDocs}
use Rattle.index_version1.proofs.Marking.{judged_docs, docs_placed}
use Rattle.index_version1.proofs.docs.read_docs.Goals as goal

pub returns-in-Ok-give_all : goal.returns-in-Ok-give_all
returns-in-Ok-give_all c =
    let payload = c.args.payload.now in
    let read = judged_docs c.in-Ok.field-0 _ c.in-Ok.ensures.judged in
    let law = c.payloads_are_read.ensures.only c.args.head.codec c.args.d c.args.head.count read.0 payload c.requires.some c.requires.limit
    (All-from_get_or (λ byte. byte < 256) payload 0 (λ i inside. (let h = c.type_inv.payload i in omega (arith, h)))) read.1 in
    let same = c.in-Ok-give_all.ensures read.0 (c.new-cursor.ensures payload read.0 law.0 law.1 law.2) in
    record { docs = subst (AreDocs c.args.d) (sym same) law.0; exact = docs_placed c.args.at _ read.0 c.in-Ok-give_all.docs read.1 same }
