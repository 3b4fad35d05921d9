use Rattle.shared_lemmas.proofs.Common.{sym, subst, ap, ◌∙◌, inr, arith}
use Rattle.jass_words.specs.Options.{IsTag}
use Rattle.jass_words.proofs.Limits.{IsHits, hits_within, tag_within, now_or}
use Rattle.jass_words.proofs.readers.read_exhaust.Goals as goal

pub invariant_of-result : goal.invariant_of-result
invariant_of-result c =
    let seen = c.in-Ok.ensures.options in
    record {
      hits = subst IsHits (sym c.unwrap_or.ensures) (hits_within 1000 (omega arith, omega arith) _ _ c.in-Ok.options seen);
      tagged = subst IsTag (sym (ap (λ t. t.now) c.unwrap_or-in-Ok.ensures ∙ now_or c.in-Ok.options.tag _)) (tag_within _ _ c.in-Ok.options seen);
    }

pub returns-in-Err : goal.returns-in-Err
returns-in-Err c = inr (
  c.in-Some.index.now,
  c.in-Some.ensures.says,
  inr (c.in-Some-file_at.queries.now, c.in-Some-file_at.ensures.says, inr (c.in-Some-file_at-2.run'.now, c.in-Some-file_at-2.ensures.says, c.in-Err.ensures.fault)),
)
