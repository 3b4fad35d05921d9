use Rattle.std.proofs.Common.{◌≡◌, Err, rules}
use Rattle.ciff_read.proofs.HeldFiles.{size_ok, size_not, outside_fails, outside_plain}
use Rattle.ciff_read.proofs.HeldBodies.{size_held}
use Rattle.whole_files.proofs.Told.{for_all, for_one, for_both}
use Rattle.ciff_read.proofs.reaching.reach_size.Goals as goal

pub returns-in-Ok-clause-exact : goal.returns-in-Ok-clause-exact
returns-in-Ok-clause-exact g c =
    for_one _ _ _ _ (λ content shown shows. size_ok _ _ _ _ _ (shown shows) c.in_ok-reach.ensures.at c.as_slice.ensures.value c.in-Ok.ensures)
    c.in_ok-reach.ensures.shown

pub returns-in-Err-clause-exact : goal.returns-in-Err-clause-exact
returns-in-Err-clause-exact g c =
    for_both _ _ _ _ _ (λ content shown reached shows. size_not _ _ _ _ _ _ (shown shows) (reached shows) c.in_ok-reach.ensures.at c.as_slice.ensures.value c.in-Err.ensures.0 c.refused_field.ensures)
    c.in_ok-reach.ensures.shown c.in_ok-reach.ensures.reached

pub returns-in_err-reach-clause-exact : goal.returns-in_err-reach-clause-exact
returns-in_err-reach-clause-exact g c =
    let fault = c.in_err-reach.field-0.0 in
    let out : c.from_residual.result ≡ Err fault = search rules in
    rw out (for_all _ _ _ (λ content shows. outside_fails fault _ c.in_err-reach.ensures.at))

pub returns-in_err-reach-clause-place : goal.returns-in_err-reach-clause-place
returns-in_err-reach-clause-place g c =
    let fault = c.in_err-reach.field-0.0 in
    let out : c.from_residual.result ≡ Err fault = search rules in
    rw out (outside_plain fault c.in_err-reach.ensures.at)

pub returns-in-Ok-clause-held : goal.returns-in-Ok-clause-held
returns-in-Ok-clause-held g c = size_held _ _ _ _ c.in_ok-reach.ensures.at c.as_slice.ensures.value c.in-Ok.ensures
