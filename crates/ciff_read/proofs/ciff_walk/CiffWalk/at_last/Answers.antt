use Rattle.std.proofs.Common.{◌≡◌, ◌<◌, ◌≤◌, ◌-◌, List, ℕ, length, length-drop, Option, Ok, Err, rules, subst, arith}
use Rattle.jass_base.specs.Outside.{Files, ForContent}
use Rattle.ciff_read.specs.Pieces.{EndPiece}
use Rattle.ciff_read.specs.Walk.{WalkView}
use Rattle.ciff_read.specs.Private.Walk.{EndGiven}
use Rattle.whole_files.specs.Windows.{AreFrom, Reaches, Shows, StaysShown}
use Rattle.ciff_read.proofs.Files.{at_more, at_last, past_end}
use Rattle.ciff_read.proofs.HeldFiles.{reading_refuses, outside_fails}
use Rattle.whole_files.proofs.Told.{for_all, for_one}
use Rattle.ciff_read.proofs.ciff_walk.CiffWalk.at_last.Goals as goal

pub returns-then-len-self-clause-exact : goal.returns-then-len-self-clause-exact
returns-then-len-self-clause-exact g c =
    let told : Option Files = g.C.Cabinet.told c.args.files.now in
    let at : ℕ = c.self.inside.at in
    let old = c.self.inside.window in
    let new = c.reach.new.window in
    let shown : StaysShown told c.self.inside.name old new = subst (λ (name : List ℕ). StaysShown told name old new) c.as_str.ensures.bytes c.in_ok-reach.ensures.shown in
    let more : (content : List ℕ) → AreFrom content new.start new.bytes.items → at < length content = λ content is. omega (arith, is.within, length-drop new.start content, c.in_ok-reach.ensures.at.not_before, c.if-len-self.true, c.len.ensures, new.bytes.ok.0) in
    subst (λ (w : WalkView). EndGiven told w (Err c.refused.result)) c.self.view_is
    (for_one _ _ _ _ (λ content keeps over. reading_refuses _ _ _ c.refused.ensures (at_more _ at _ (more content (keeps over.shows)))) shown)

pub returns-in_err-reach-clause-exact : goal.returns-in_err-reach-clause-exact
returns-in_err-reach-clause-exact g c =
    let fault = c.in_err-reach.field-0.0 in
    let out : c.from_residual.result ≡ Err fault = search rules in
    rw out (for_all _ _ _ (λ content over. outside_fails fault _ c.in_err-reach.ensures.at))

pub returns-clause-exact : goal.returns-clause-exact
returns-clause-exact g c =
    let told : Option Files = g.C.Cabinet.told c.args.files.now in
    let at : ℕ = c.self.inside.at in
    let old = c.self.inside.window in
    let new = c.reach.new.window in
    let short : length new.bytes.items ≤ at - new.start = omega (arith, c.if-len-self.false, c.len.ensures, new.bytes.ok.0) in
    let reached = subst (λ (name : List ℕ). ForContent told name (λ content. Shows content old → Reaches content new at 1)) c.as_str.ensures.bytes c.in_ok-reach.ensures.reached in
    subst (λ (w : WalkView). EndGiven told w (Ok tt)) c.self.view_is
    (for_one _ _ _ _ (λ content near over. at_last content at EndPiece (past_end at new.start (length new.bytes.items) (length content) c.in_ok-reach.ensures.at.not_before short (near over.shows))) reached)
