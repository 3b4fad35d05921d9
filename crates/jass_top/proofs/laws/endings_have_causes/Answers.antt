use Rattle.jass_top.specs.Commands.{meaning_of}
use Rattle.jass_top.proofs.EndingCauses.{answered_whole, complete, never_limited, refuses, unaccepted}
use Rattle.jass_top.proofs.laws.endings_have_causes.Goals as goal

pub returns-clause-unaccepted : goal.returns-clause-unaccepted
returns-clause-unaccepted c = λ command before after result ends. unaccepted (meaning_of command) before after result ends

pub returns-clause-refuses : goal.returns-clause-refuses
returns-clause-refuses c = λ command before after result ends name number at is. refuses (meaning_of command) before after name number at is result ends

pub returns-clause-complete : goal.returns-clause-complete
returns-clause-complete c = λ command before after result ends. complete (meaning_of command) before after result ends

pub returns-clause-feeds : goal.returns-clause-feeds
returns-clause-feeds c = never_limited

pub returns-clause-answered : goal.returns-clause-answered
returns-clause-answered c = answered_whole
