use Rattle.std.proofs.Common.{◌≡◌, ◌∙◌, ◌++◌, ◌∷◌, [], List, ℕ, false, ap, String, string_bytes}
use Rattle.std.specs.declared.alloc.Global.{Global}
use Rattle.ciff_read.specs.declared.kept_lists.ListPlace.{ListPlace}
use Rattle.ciff_read.specs.KeptEntries.{hashed_in, kept_as, kept_from}
use Rattle.ciff_read.specs.Private.KeptEntries.{terms_in}
use Rattle.ciff_read.specs.KeptLists.{kept_in}
use Rattle.ciff_read.specs.Seen.{is_seen}
use Rattle.ciff_read.proofs.KeptTerms.{kept_more}
use Rattle.ciff_read.proofs.kept_lists.KeptLists.add.Goals as goal

pub returns-clause-ok : goal.returns-clause-ok
returns-clause-ok c =
    let first = c.args.self.now.rising in
    let later = c.args.self.now.hashed.entries in
    let new : is_seen (string_bytes c.in-Ok.term) (terms_in (first ++ hashed_in later)) ≡ false = ap (λ (t : List ℕ). is_seen t (terms_in (first ++ hashed_in later))) c.in-Ok.ensures.ok ∙ c.requires.new in
    ap (λ (entries : List (String Global × ListPlace)). kept_from (first ++ hashed_in entries)) c.in-Ok-insert.ensures.entries ∙ kept_more _ _ _ _ new
    ∙ ap (λ (t : List ℕ). kept_in c.args.self.now ++ kept_as t c.args.place ∷ []) c.in-Ok.ensures.ok
