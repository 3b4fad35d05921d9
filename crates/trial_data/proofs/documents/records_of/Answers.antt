use Rattle.std.proofs.Common.{ℕ, ◌∙◌, sym, subst, arith}
use Rattle.jass_base.specs.Limits.{IsName}
use Rattle.trial_data.proofs.Naming.{is_name}
use Rattle.trial_data.proofs.documents.records_of.Goals as goal

pub invariant_of-push : goal.invariant_of-push
invariant_of-push c =
    let few = c.requires.few in
    record {
      name_fits = subst IsName (sym (c.in_ok-name.ensures.bytes ∙ c.as_str.ensures.value ∙ c.in_ok-put_name.ensures)) (is_name _ (omega arith));
      name_is_text = c.in_ok-name.ensures.utf8;
      length_in_range = c.requires.small c.loop-length.length-index 0 c.loop-length-test.true;
    }
