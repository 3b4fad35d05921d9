-- What a document may reach, as a hit.
use Rattle.jass_base.specs.declared.answer.Hit.{Hit}
use Rattle.certain_hits.specs.declared.foremost.Reach.{Reach}

abbrev pub hit_of : Reach → Hit
hit_of r = record { doc = r.doc; score = r.reach }
