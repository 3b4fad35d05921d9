use Rattle.std.proofs.Common.{◌∙◌, ap}
use Rattle.index_layout.specs.Layout.{file_length}
use Rattle.index_layout.specs.View.{chosen_view, index_text}
use Rattle.index_write.proofs.Texts.{text_in_parts, view_heads_chosen, table_is}
use Rattle.index_write.proofs.laws.texts_have_their_parts.Goals as goal

pub returns : goal.returns
unfolding index_text
returns c = record {
  text = text_in_parts;
  length = λ index. c.lengths_are_known.ensures (chosen_view index) ∙ ap (file_length index.names) (view_heads_chosen index);
  heads = λ d index. table_is d index.terms;
}
