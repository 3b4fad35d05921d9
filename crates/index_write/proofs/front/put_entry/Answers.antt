use Rattle.std.proofs.Common.{◌++◌, length, map}
use Rattle.std.proofs.lemmas.Result.{on_ok_weaker}
use Rattle.index_write.proofs.Below.{u32_bytes, term_bytes, heads_bytes}
use Rattle.index_write.specs.Chosen.{head_data}
use Rattle.index_write.proofs.Joining.{both_put}
use Rattle.index_write.proofs.front.put_entry.Goals as goal

pub returns : goal.returns
returns c =
    on_ok_weaker c.put_heads.result (λ last.
    both_put c.args.out.now (term_bytes c.args.before.now c.args.term.now) (u32_bytes (length c.args.heads.now) ++ heads_bytes (map head_data c.args.heads.now))
    c.put_term.new.out c.put_heads.new.out c.in_ok-put_term.ensures last)
    c.put_heads.ensures
