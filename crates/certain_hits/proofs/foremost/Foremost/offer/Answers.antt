use Rattle.shared_lemmas.proofs.Common.{◌≡◌, ◌∙◌, ◌+◌, ◌∷◌, ◌++◌, [], List, ap, arith, map, map_push, subst, sym, take}
use Rattle.jass_base.specs.declared.answer.Hit.{Hit}
use Rattle.ranking_model.specs.Scores.{hits_from}
use Rattle.certain_hits.specs.Private.Foremost.{Holds}
use Rattle.certain_hits.specs.Private.Reach.{hit_of}
use Rattle.certain_hits.proofs.Choosing.{missed, taken_in, chosen}
use Rattle.certain_hits.proofs.foremost.Foremost.offer.Goals as goal

pub returns-then-next-self-clause-holds : goal.returns-then-next-self-clause-holds
returns-then-next-self-clause-holds c = λ scores inside is holds.
    missed c.args.self.now.count c.args.self.now.floor (map hit_of c.args.self.now.kept.items) (hit_of c.args.next) scores inside is holds c.if-next-self.true

pub returns-then-len-self-clause-holds : goal.returns-then-len-self-clause-holds
returns-then-len-self-clause-holds c = λ scores inside is holds.
    let all = hits_from 0 (take (c.args.next.doc + 1) scores) in
    let pushed : map hit_of c.push_reserved.new.self.items ≡ map hit_of c.args.self.now.kept.items ++ hit_of c.args.next ∷ [] = ap (map hit_of) c.push_reserved.ensures.items ∙ map_push hit_of c.args.self.now.kept.items c.args.next in
    subst (λ n. Holds n c.cut-last.result.reach (map hit_of c.cut-last.new.self.kept.items) all) (sym c.cut-last.ensures.count)
    (chosen (map hit_of c.push_reserved.new.self.items) (map hit_of c.cut-last.new.self.kept.items) c.args.self.now.count (hit_of c.cut-last.result) c.cut-last.ensures.first c.args.self.now.floor all
    (subst (λ (l : List Hit). Holds c.args.self.now.count c.args.self.now.floor l all) (sym pushed)
    (taken_in c.args.self.now.count c.args.self.now.floor (map hit_of c.args.self.now.kept.items) (hit_of c.args.next) scores inside is holds (let a = c.if-next-self.false in omega arith))))

pub returns-else-len-self-clause-holds : goal.returns-else-len-self-clause-holds
returns-else-len-self-clause-holds c = λ scores inside is holds.
    let all = hits_from 0 (take (c.args.next.doc + 1) scores) in
    let pushed : map hit_of c.push_reserved.new.self.items ≡ map hit_of c.args.self.now.kept.items ++ hit_of c.args.next ∷ [] = ap (map hit_of) c.push_reserved.ensures.items ∙ map_push hit_of c.args.self.now.kept.items c.args.next in
    subst (λ (l : List Hit). Holds c.args.self.now.count c.args.self.now.floor l all) (sym pushed)
    (taken_in c.args.self.now.count c.args.self.now.floor (map hit_of c.args.self.now.kept.items) (hit_of c.args.next) scores inside is holds (let a = c.if-next-self.false in omega arith))
