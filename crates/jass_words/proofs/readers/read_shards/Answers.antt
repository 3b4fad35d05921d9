use Rattle.shared_lemmas.proofs.Common.{[], ◌≡◌, ◌+◌, ℕ, sym, subst, ap, ◌∙◌, arith, string_bytes, take-map}
use Rattle.std.proofs.Common.{unwrap_or}
use Rattle.jass_words.specs.Options.{IsTag}
use Rattle.jass_words.specs.Slots.{May}
use Rattle.jass_words.specs.Words.{texts}
use Rattle.jass_words.specs.Private.Faults.{IsTailFault}
use Rattle.jass_words.proofs.Limits.{IsHits, IsFew, hits_within, budgets_within, tag_within, now_or}
use Rattle.jass_words.proofs.Parts.{asked_keys, count_fault, fault_behind, part_fault, shards_made, text_at}
use Rattle.jass_words.proofs.readers.read_shards.Goals as goal

pub returns-in_default : goal.returns-in_default
returns-in_default c = count_fault _ (texts c.args.words.now) c.in_default.ensures.says

pub returns-in-Err : goal.returns-in-Err
returns-in-Err c = part_fault _ (texts c.args.words.now) c.in-Some.parts c.in-Err.fault.which c.in-Some.ensures.says (c.in-Err.ensures.fault (May _))

pub returns-in-Err-read_options : goal.returns-in-Err-read_options
returns-in-Err-read_options c = part_fault _ (texts c.args.words.now) c.in-Some.parts c.in-Err-read_options.fault.which c.in-Some.ensures.says
    (fault_behind (c.in-Some.parts + 2) (May asked_keys) [] 2 (texts c.args.words.now) (texts c.in-Ok.files.now) c.in-Err-read_options.fault.which c.in-Ok.ensures.says
    (let place : c.in-Some.parts + 4 ≡ 2 + (c.in-Some.parts + 2) = omega arith in subst (λ (p : ℕ). IsTailFault (May asked_keys) p (texts c.args.words.now) c.in-Err-read_options.fault.which) place c.in-Err-read_options.ensures.fault))

pub grants-requires : goal.grants-requires
grants-requires c = (subst IsFew (sym (c.unwrap_or-in-Ok-read_options-3.ensures ∙ ap (λ usual. unwrap_or c.in-Ok-read_options.options.limits usual) c.all.ensures)) (budgets_within _ _ c.in-Ok-read_options.options c.in-Ok-read_options.ensures.options)).0

pub invariant_of-result : goal.invariant_of-result
invariant_of-result c =
    let seen = c.in-Ok-read_options.ensures.options in
    record {
      hits = subst IsHits (sym c.unwrap_or.ensures) (hits_within 1000 (omega arith, omega arith) _ _ c.in-Ok-read_options.options seen);
      tagged = subst IsTag (sym (ap (λ t. t.now) c.unwrap_or-in-Ok-read_options.ensures ∙ now_or c.in-Ok-read_options.options.tag _)) (tag_within _ _ c.in-Ok-read_options.options seen);
    }

pub returns-in-Ok-read_options : goal.returns-in-Ok-read_options
returns-in-Ok-read_options c =
    let read = c.in-Ok-read_options.options in
    let many = c.in-Ok.ensures.files in
    shards_made (texts c.args.words.now) (texts c.in-Ok.files.now) c.in-Some.parts read c.in-Ok-read_options.ensures.options c.in-Some.ensures.says c.in-Ok.ensures.says
    _ _ _ _ _ _ _
    (sym (take-map string_bytes c.in-Some.parts c.in-Ok.files.now))
    (c.as_str.ensures.value ∙ text_at c.in-Ok.files.now c.in-Some.parts c.index-files-parts.result (omega (arith, many)) c.index-files-parts.is)
    (c.as_str-in-Ok-read_options.ensures.value ∙ text_at c.in-Ok.files.now _ c.index-files-parts-in-Ok-read_options.result (omega (arith, many)) c.index-files-parts-in-Ok-read_options.is)
    c.unwrap_or.ensures
    (c.grants.ensures ∙ c.unwrap_or-in-Ok-read_options-3.ensures ∙ ap (λ usual. unwrap_or read.limits usual) c.all.ensures)
    (ap (λ t. t.now) c.unwrap_or-in-Ok-read_options.ensures ∙ now_or read.tag _)
    c.unwrap_or-in-Ok-read_options-2.ensures
