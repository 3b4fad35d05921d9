use Rattle.shared_lemmas.proofs.Common.{◌∙◌, ap, List, String, Global, nil_from_length}
use Rattle.ciff_read.specs.declared.kept_lists.ListPlace.{ListPlace}
use Rattle.ciff_read.specs.KeptEntries.{hashed_in}
use Rattle.ciff_read.specs.Private.KeptEntries.{terms_in}
use Rattle.ciff_read.specs.Seen.{is_seen}
use Rattle.ciff_read.proofs.KeptTerms.{seen_later}
use Rattle.ciff_read.proofs.RisingTerms.{not_seen}
use Rattle.ciff_read.proofs.kept_lists.KeptLists.rises.Goals as goal

pub returns-then-is_empty : goal.returns-then-is_empty
returns-then-is_empty c =
    let term = c.args.term.now in
    let first = c.args.self.now.rising in
    let later = c.args.self.now.hashed.entries in
    let none = nil_from_length later (c.is_empty.ensures.0 c.if-is_empty.true) in
    record {
      rises = λ is. record { none_hashed = none; greatest = c.are_before.ensures is };
      new = λ is. seen_later term first (hashed_in later) (not_seen (terms_in first) term (c.are_before.ensures is))
          ∙ ap (λ (entries : List (String Global × ListPlace)). is_seen term (terms_in (hashed_in entries))) none;
    }
