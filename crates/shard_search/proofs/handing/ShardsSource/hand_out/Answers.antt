use Rattle.std.proofs.Common.{sym, arith}
use Rattle.shared_lemmas.proofs.Common.{length-take-le}
use Rattle.shard_search.proofs.handing.ShardsSource.hand_out.Goals as goal

pub returns-clause-piece : goal.returns-clause-piece
returns-clause-piece g c = λ docs leaves.
    let gives = c.give.ensures.gives docs (c.ready.ensures.leaves docs leaves) in
    record {
      rest = gives.0;
      parted = gives.2;
      stays = gives.1;
      count = sym (length-take-le c.give.result c.give.new.block (omega (arith, c.give.array_long, c.give.ensures.most)));
      some = λ filled. c.give.ensures.some (c.ready.ensures.some docs leaves filled);
    }
