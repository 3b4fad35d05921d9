use Rattle.shared_lemmas.proofs.Common.{◌≡◌, ◌+◌, ◌++◌, ◌∷◌, [], List, ap, arith, length, subst, sym, take, ◌∙◌}
use Rattle.std.proofs.lemmas.List.{length_push}
use Rattle.jass_words.specs.Words.{texts}
use Rattle.jass_top.proofs.Below.{FileView}
use Rattle.jass_top.specs.ShardsMeaning.{judge_parts}
use Rattle.jass_top.specs.Private.Inputs.{HasInput}
use Rattle.shard_search.specs.Sums.{indexes_of}
use Rattle.jass_top.proofs.JudgedShards.{parts_more, parts_stopped}
use Rattle.jass_top.proofs.shards_input.open_parts.Goals as goal

pub returns-in-Err-clause-unread : goal.returns-in-Err-clause-unread
returns-in-Err-clause-unread g c =
    parts_stopped c.args.names.now c.names.name-index c.name-item.result c.as_str.result.now c.name-item.is c.as_str.ensures.value (g.C.Cabinet.told c.args.files.now) (g.C.Cabinet.told c.names.files) (λ parts. parts ≡ indexes_of c.names.parts)
    (g.C.Cabinet.read_faults c.args.files.now) (g.C.Cabinet.read_faults c.names.files) (g.C.Cabinet.read_faults c.open_index.new.files) c.in-Err.stop c.names-test.true c.names.invariant.stays c.names.invariant.had c.names.invariant.later c.in-Err.ensures.unread

pub names-preserved : goal.names-preserved
names-preserved g c =
    let before : List FileView = c.names.parts in
    let more : c.push.new.self ≡ before ++ c.in-Ok.part ∷ [] = c.in-Ok-push.ensures.ok in
    let one : length (before ++ c.in-Ok.part ∷ []) ≡ length before + 1 = length_push before c.in-Ok.part in
    record {
      count = ap length more ∙ one ∙ ap (λ n. n + 1) c.names.invariant.count;
      had = subst (λ (all : List FileView). HasInput (judge_parts (take (c.names.name-index + 1) (texts c.args.names.now)) (g.C.Cabinet.told c.args.files.now)) (λ indexes. indexes ≡ indexes_of all)) (sym more)
          (parts_more c.args.names.now c.names.name-index c.name-item.result c.as_str.result.now c.name-item.is c.as_str.ensures.value (g.C.Cabinet.told c.args.files.now) (g.C.Cabinet.told c.names.files) before c.in-Ok.part c.names-test.true
          c.names.invariant.stays c.names.invariant.had c.in-Ok.ensures.accepted);
      stays = c.in-Ok.ensures.stays ∙ c.names.invariant.stays;
      later = omega (arith, c.names.invariant.later, c.in-Ok.ensures.later);
      others = omega (arith, c.names.invariant.others, c.in-Ok.ensures.others);
    }
