use Rattle.shared_lemmas.proofs.Common.{◌∙◌, sym, ap, List, String, Global, nil_from_length}
use Rattle.ciff_read.specs.declared.kept_lists.ListPlace.{ListPlace}
use Rattle.ciff_read.specs.KeptEntries.{hashed_in}
use Rattle.ciff_read.specs.Private.KeptEntries.{terms_in}
use Rattle.ciff_read.specs.Seen.{is_seen}
use Rattle.ciff_read.proofs.KeptTerms.{found_is, seen_first, seen_later}
use Rattle.ciff_read.proofs.kept_lists.KeptLists.has.Goals as goal

pub returns-then-has : goal.returns-then-has
returns-then-has c = sym (seen_first c.args.term.now c.args.self.now.rising (hashed_in c.args.self.now.hashed.entries) (sym c.has.ensures ∙ c.if-has.true))

pub returns-then-is_empty : goal.returns-then-is_empty
returns-then-is_empty c =
    let later = c.args.self.now.hashed.entries in
    sym (
    seen_later c.args.term.now c.args.self.now.rising (hashed_in later) (sym c.has.ensures ∙ c.if-has.false)
    ∙ ap (λ (entries : List (String Global × ListPlace)). is_seen c.args.term.now (terms_in (hashed_in entries))) (nil_from_length later (c.is_empty.ensures.0 c.if-is_empty.true))
    )

pub returns : goal.returns
returns c =
    let later = c.args.self.now.hashed.entries in
    c.contains_key.ensures ∙ found_is c.args.term.now later ∙ sym (seen_later c.args.term.now c.args.self.now.rising (hashed_in later) (sym c.has.ensures ∙ c.if-has.false))
