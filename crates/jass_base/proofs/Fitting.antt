-- What the types of a collection keep fits a file.
use Rattle.shared_lemmas.proofs.Common.{ℕ, IsUtf8-from_is_utf8}
use Rattle.jass_base.specs.declared.postings_list.PostingsList.{PostingsList}
use Rattle.jass_base.specs.Ciff.{FitsList}
use Rattle.jass_base.specs.CiffViews.{list_data}
use Rattle.jass_base.specs.Lists.{HasDocsBelow}

pub list_fits : (docs : ℕ) (l : PostingsList) → HasDocsBelow docs l → FitsList docs (list_data l)
list_fits docs l below = record { text = IsUtf8-from_is_utf8 l.term l.term_is_text; short = l.term_fits; df = l.df_in_range; cf = l.cf_in_range; rising = l.rising; tf = l.tf_in_range; below = below }
