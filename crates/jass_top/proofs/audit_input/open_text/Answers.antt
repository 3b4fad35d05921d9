use Rattle.std.proofs.Common.{◌≡◌, ◌^◌, Bool, true, false, Option, length, take, nat_lt, refl, subst, inl}
use Rattle.jass_top.proofs.Below.{Files}
use Rattle.jass_top.specs.Judging.{judge_content}
use Rattle.jass_top.specs.Private.Inputs.{AcceptsSuch}
use Rattle.jass_top.proofs.JudgedAudit.{text_refused, text_shown}
use Rattle.jass_top.proofs.audit_input.open_text.Goals as goal

pub returns-in-Ok-true-clause-unread : goal.returns-in-Ok-true-clause-unread
returns-in-Ok-true-clause-unread g c =
    let told : Option Files = g.C.Cabinet.told c.args.files.now in
    let long : AcceptsSuch (judge_content c.args.name.now told) (λ content. true ≡ nat_lt (2 ^ 32) (length content))
    = subst (λ (b : Bool). AcceptsSuch (judge_content c.args.name.now told) (λ content. b ≡ nat_lt (2 ^ 32) (length content))) c.in-Ok-true.field-0-test c.in-Ok-true.ensures.long in
    (inl refl, text_refused c.args.name.now told long)

pub returns-in-Ok-clause-accepted : goal.returns-in-Ok-clause-accepted
returns-in-Ok-clause-accepted g c =
    let told : Option Files = g.C.Cabinet.told c.args.files.now in
    let short : AcceptsSuch (judge_content c.args.name.now told) (λ content. false ≡ nat_lt (2 ^ 32) (length content))
    = subst (λ (b : Bool). AcceptsSuch (judge_content c.args.name.now told) (λ content. b ≡ nat_lt (2 ^ 32) (length content))) c.in-Ok-false.field-0-test c.in-Ok-false.ensures.long in
    let front : AcceptsSuch (judge_content c.args.name.now told) (λ content. c.in-Ok.text ≡ take (2 ^ 32) content)
    = subst (λ (files : Option Files). AcceptsSuch (judge_content c.args.name.now files) (λ content. c.in-Ok.text ≡ take (2 ^ 32) content)) c.in-Ok-false.ensures.stays c.in-Ok.ensures.accepted in
    text_shown c.args.name.now told c.in-Ok.text short front
