use Rattle.std.proofs.Common.{◌≡◌, ℕ, ◌+◌, ◌-◌, ◌^◌, ◌<◌, Option, Err, rules, subst, refl, arith}
use Rattle.jass_base.specs.Outside.{Files, ForContent}
use Rattle.whole_files.specs.Windows.{Shows, Reaches}
use Rattle.ciff_read.proofs.HeldFiles.{message_past, message_not, message_ok, outside_fails, outside_plain}
use Rattle.ciff_read.proofs.HeldBodies.{body_held}
use Rattle.ciff_read.proofs.ReadingOn.{shown_on}
use Rattle.whole_files.proofs.Told.{for_all, for_one, for_both, for_pair}
use Rattle.ciff_read.proofs.reaching.reach_message.Goals as goal
use Rattle.ciff_read.proofs.reaching.reach_message.Goals.{then-from-gt-LONGEST_FILE-via-then-from-gt-LONGEST_FILE, then-from-gt-LONGEST_FILE-via-else-from-gt-LONGEST_FILE+then-size-from}

pub returns-then-from-gt-LONGEST_FILE-clause-exact : goal.returns-then-from-gt-LONGEST_FILE-clause-exact
returns-then-from-gt-LONGEST_FILE-clause-exact g c =
    let over : 2 ^ 32 < c.in_ok-size.from + c.in_ok-size.size = elim c.then-from-gt-LONGEST_FILE.branch [
      | then-from-gt-LONGEST_FILE-via-then-from-gt-LONGEST_FILE w ↦ omega arith
      | then-from-gt-LONGEST_FILE-via-else-from-gt-LONGEST_FILE+then-size-from w ↦ omega arith
    ] in
    for_one _ _ _ _ (λ content read shows. message_past _ _ _ (read shows) c.in_ok-size.ensures.place _ over c.refused.ensures) c.in_ok-size.ensures.exact

pub returns-then-len-front-clause-exact : goal.returns-then-len-front-clause-exact
returns-then-len-front-clause-exact g c =
    let told : Option Files = g.C.Cabinet.told c.args.files.now in
    let count : ℕ = c.in_ok-size.from - c.args.at + c.in_ok-size.size in
    let shown : ForContent told c.args.name.now (λ content. Shows content c.reach_size.new.window → Shows content c.reach.new.window)
    = subst (λ (files : Option Files). ForContent files c.args.name.now (λ content. Shows content c.reach_size.new.window → Shows content c.reach.new.window)) c.in_ok-size.ensures.reads.stays c.in_ok-reach.ensures.shown in
    let reached : ForContent told c.args.name.now (λ content. Shows content c.reach_size.new.window → Reaches content c.reach.new.window c.args.at count)
    = subst (λ (files : Option Files). ForContent files c.args.name.now (λ content. Shows content c.reach_size.new.window → Reaches content c.reach.new.window c.args.at count)) c.in_ok-size.ensures.reads.stays c.in_ok-reach.ensures.reached in
    for_both _ _ _ _ _ (λ content first second shows. let one = first.1 shows in
    message_not _ _ _ (first.0 shows) c.in_ok-size.ensures.place _ (second.0 one) c.in_ok-reach.ensures.at (omega (arith, c.if-from-gt-LONGEST_FILE.false, c.if-size-from.false)) _ refl
    _ (second.1 one) (omega (arith, c.if-len-front.true, c.len.ensures, c.reach.new.window.bytes.ok.0)) c.refused-then-len-front.ensures)
    (for_pair _ _ _ _ c.in_ok-size.ensures.exact c.in_ok-size.ensures.shown) (for_pair _ _ _ _ shown reached)

pub returns-clause-exact : goal.returns-clause-exact
returns-clause-exact g c =
    let told : Option Files = g.C.Cabinet.told c.args.files.now in
    let shown : ForContent told c.args.name.now (λ content. Shows content c.reach_size.new.window → Shows content c.reach.new.window)
    = subst (λ (files : Option Files). ForContent files c.args.name.now (λ content. Shows content c.reach_size.new.window → Shows content c.reach.new.window)) c.in_ok-size.ensures.reads.stays c.in_ok-reach.ensures.shown in
    for_both _ _ _ _ _ (λ content first second shows.
    message_ok _ _ _ (first.0 shows) c.in_ok-size.ensures.place _ (second (first.1 shows)) c.in_ok-reach.ensures.at (omega (arith, c.if-from-gt-LONGEST_FILE.false, c.if-size-from.false)) _ refl
    _ _ (omega (arith, c.if-len-front.false, c.len.ensures, c.reach.new.window.bytes.ok.0)) refl refl)
    (for_pair _ _ _ _ c.in_ok-size.ensures.exact c.in_ok-size.ensures.shown) shown

pub returns-in_err-size-clause-exact : goal.returns-in_err-size-clause-exact
returns-in_err-size-clause-exact g c =
    let fault = c.in_err-size.field-0.0 in
    let out : c.from_residual.result ≡ Err fault = search rules in
    rw out c.in_err-size.ensures.exact

pub returns-in_err-size-clause-held : goal.returns-in_err-size-clause-held
returns-in_err-size-clause-held g c =
    let fault = c.in_err-size.field-0.0 in
    let out : c.from_residual.result ≡ Err fault = search rules in
    rw out c.in_err-size.ensures.place

pub returns-in_err-reach-clause-exact : goal.returns-in_err-reach-clause-exact
returns-in_err-reach-clause-exact g c =
    let fault = c.in_err-reach.field-0.0 in
    let out : c.from_residual-in_err-reach.result ≡ Err fault = search rules in
    rw out (for_all _ _ _ (λ content shows. outside_fails fault _ c.in_err-reach.ensures.at))

pub returns-in_err-reach-clause-held : goal.returns-in_err-reach-clause-held
returns-in_err-reach-clause-held g c =
    let fault = c.in_err-reach.field-0.0 in
    let out : c.from_residual-in_err-reach.result ≡ Err fault = search rules in
    rw out (outside_plain fault c.in_err-reach.ensures.at)

pub returns-in_err-reach-clause-shown : goal.returns-in_err-reach-clause-shown
returns-in_err-reach-clause-shown g c = shown_on _ _ _ c.args.window.now c.reach_size.new.window c.reach.new.window c.in_ok-size.ensures.reads.stays c.in_ok-size.ensures.shown c.in_err-reach.ensures.shown

pub returns-then-len-front-clause-shown : goal.returns-then-len-front-clause-shown
returns-then-len-front-clause-shown g c = shown_on _ _ _ c.args.window.now c.reach_size.new.window c.reach.new.window c.in_ok-size.ensures.reads.stays c.in_ok-size.ensures.shown c.in_ok-reach.ensures.shown

pub returns-clause-shown : goal.returns-clause-shown
returns-clause-shown g c = shown_on _ _ _ c.args.window.now c.reach_size.new.window c.reach.new.window c.in_ok-size.ensures.reads.stays c.in_ok-size.ensures.shown c.in_ok-reach.ensures.shown

pub returns-clause-message : goal.returns-clause-message
returns-clause-message g c =
    body_held c.args.at c.reach_size.new.window c.reach.new.window (c.in_ok-size.size, c.in_ok-size.from) c.in_ok-size.ensures.held c.in_ok-size.ensures.place c.in_ok-reach.ensures.keeps c.in_ok-reach.ensures.at _ _ _
    (omega (arith, c.if-from-gt-LONGEST_FILE.false, c.if-size-from.false)) refl (omega (arith, c.if-len-front.false, c.len.ensures, c.reach.new.window.bytes.ok.0)) refl refl
