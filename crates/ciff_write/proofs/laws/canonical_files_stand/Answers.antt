use Rattle.ciff_write.proofs.FileLaws.{file_stands}
use Rattle.ciff_write.proofs.PrefixLaws.{alone}
use Rattle.ciff_write.proofs.laws.canonical_files_stand.Goals as goal

pub returns : goal.returns
returns c = record {
  stands = file_stands;
  alone = alone (λ s rest f is. c.fields_are_read.ensures.only s rest f is) (λ bytes x y p q. c.files_are_read.ensures.one bytes x y p q);
}
