use Rattle.std.proofs.Common.{◌∷◌, []}
use Rattle.ciff_read.proofs.Parts.{entry_inside_there}
use Rattle.ciff_read.proofs.postings_list.gather.Goals as goal

pub returns-in-Ok-clause-read : goal.returns-in-Ok-clause-read
returns-in-Ok-clause-read c =
    record {
      entries = record { at = c.args.at; entry = c.in_ok-entry.entry } ∷ [];
      read = entry_inside_there _ _ _ _ _ _ _ _ c.if-field-ne4.false c.in-Bytes.is c.requires.value c.requires.within c.in_ok-entry.ensures;
      gathered = c.in-Ok.ensures.gathered;
    }
