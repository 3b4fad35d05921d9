use Rattle.std.proofs.Common.{refl, sym, ap, subst, ◌∙◌, inl, inr}
use Rattle.jass_top.proofs.Below.{index_data, index_text, SaveFault, Unmade}
use Rattle.jass_top.specs.declared.stop.Place.TheVariants.{Byte}
use Rattle.jass_top.specs.Judging.{Refuses}
use Rattle.jass_top.proofs.JudgedFiles.{too_large}
use Rattle.jass_top.proofs.memory_file.text_in_memory.Goals as goal

pub returns-in-Err-TooLarge-clause-unmade : goal.returns-in-Err-TooLarge-clause-unmade
returns-in-Err-TooLarge-clause-unmade c =
    let made = index_data c.args.index.now in
    let fault = subst (λ (f : SaveFault). Unmade (index_text made) f) c.in-Err-TooLarge.field-0-is c.in-Err-TooLarge.ensures.fault in
    (inl refl, inr (too_large c.args.input.now made c.in-Err-TooLarge.length fault.0 fault.1 ∙ ap (λ n. Refuses c.args.input.now 49 (Byte n)) (sym c.in-Err-TooLarge.length-is)))
