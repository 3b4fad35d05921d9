use Rattle.std.proofs.Common.{◌≡◌, ◌+◌, ◌∙◌, [], ap, subst, arith, slice_range}
use Rattle.index_layout.specs.View.{view_payloads}
use Rattle.index_file.specs.Handing.{HandsOn}
use Rattle.index_file.specs.declared.handing.Handing.{Handing}
use Rattle.index_file.proofs.Handed.{all_handed, as_many_handed, block_handed, none_left, some_of_all}
use Rattle.index_file.proofs.handing.IndexFileSource.hand_out.Goals as goal

pub returns-in-Bitmap-clause-piece : goal.returns-in-Bitmap-clause-piece
returns-in-Bitmap-clause-piece g c = λ docs on.
    let file = c.args.self.now in
    let from = c.in-Bitmap.from in let size = c.in-Bitmap.size in let count = c.in-Bitmap.count in
    let is = subst (λ (h : Handing). HandsOn file h docs) c.in-Bitmap.is on in
    let bits = slice_range c.as_slice.result.now from (from + size) in
    let whole : c.as_slice.result.now ≡ view_payloads file = c.as_slice.ensures ∙ c.self.invariant.stands.payloads_are ∙ ap view_payloads c.self.view_is in
    let here : bits ≡ slice_range (view_payloads file) from (from + size) = ap (λ bytes. slice_range bytes from (from + size)) whole in
    record {
      rest = [];
      parted = all_handed file from size count bits docs here is;
      stays = none_left file from size count docs is;
      count = as_many_handed file from size count bits docs here is;
      some = some_of_all file from size count docs is;
    }

pub returns-in-Blocks-clause-piece : goal.returns-in-Blocks-clause-piece
returns-in-Blocks-clause-piece g c = λ docs on.
    let file = c.args.self.now in let given = c.next_block.ensures in
    let is = subst (λ (h : Handing). HandsOn file h docs) c.in-Blocks.is on in
    let long = c.next_block.array_long in
    block_handed _ c.next_block.result c.next_block.new.out docs (omega (arith, given.most, long)) (given.block docs is) (given.rest docs is) (given.end docs is)
