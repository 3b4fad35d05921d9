use Rattle.shared_lemmas.proofs.Common.{sym, refl, ◌∙◌}
use Rattle.jass_words.specs.declared.keys.Key.TheVariants as keys
use Rattle.jass_words.proofs.Alone.{is_alone, bad_alone, missing}
use Rattle.jass_words.proofs.Limits.{frames_within}
use Rattle.jass_words.proofs.options.read_frames.Goals as goal

pub returns-in-Err-clause-fault : goal.returns-in-Err-clause-fault
returns-in-Err-clause-fault c = (let (n, is, bad) = c.in-Err.ensures.fault in (n, is, bad_alone keys.Frames _ n bad))

pub returns-in-Some-clause-frames : goal.returns-in-Some-clause-frames
returns-in-Some-clause-frames c = let seen = c.in-Ok.ensures.options in is_alone keys.Frames _ seen.options c.in-Some.frames seen.are (sym (seen.gives keys.Frames) ∙ c.in-Some.is)

pub returns-in-Some-clause-limits : goal.returns-in-Some-clause-limits
returns-in-Some-clause-limits c = frames_within _ _ c.in-Ok.options c.in-Some.frames c.in-Ok.ensures.options c.in-Some.is

pub returns-in-None-clause-fault : goal.returns-in-None-clause-fault
returns-in-None-clause-fault c = let seen = c.in-Ok.ensures.options in (1, refl, missing keys.Frames _ seen.options seen.are (sym (seen.gives keys.Frames) ∙ c.in-None.is))
