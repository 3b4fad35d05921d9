use Rattle.std.proofs.Common.{sym}
use Rattle.index_layout.proofs.Greatest.{greatest_kept}
use Rattle.index_write.proofs.Memory.{terms_counted}
use Rattle.index_write.proofs.Texts.{all_sized, all_counted, greatest_chosen}
use Rattle.index_write.proofs.laws.tables_have_their_sums.Goals as goal

pub returns : goal.returns
returns c = record {
  sizes = λ d index. all_sized d index.terms;
  counts = λ d index. all_counted d index.terms;
  impacts = λ d index. greatest_chosen d index.terms;
  greatest = λ index. greatest_kept index.terms;
  postings = λ index. sym (terms_counted index.terms);
}
