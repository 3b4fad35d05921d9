use Rattle.shared_lemmas.proofs.Common.{arith, length-map, map}
use Rattle.certain_hits.specs.Private.Reach.{hit_of}
use Rattle.certain_hits.proofs.Choosing.{last_is, none_is}
use Rattle.certain_hits.proofs.foremost.Foremost.last.Goals as goal

pub returns-then-len-self-clause-last : goal.returns-then-len-self-clause-last
returns-then-len-self-clause-last c = λ scores k is holds. none_is c.args.self.now.count c.args.self.now.floor k (map hit_of c.args.self.now.kept.items) scores
    (let a = c.if-len-self.true in let b = c.len.ensures in let d = length-map c.args.self.now.kept.items hit_of in omega arith) is holds

pub returns-clause-last : goal.returns-clause-last
returns-clause-last c = λ scores k is holds. last_is (map hit_of c.args.self.now.kept.items) (map hit_of c.cut.new.self.kept.items) c.args.self.now.count (hit_of c.cut.result) c.cut.ensures.first c.args.self.now.floor k scores is holds
