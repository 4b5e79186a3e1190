use Rattle.chunk.specs.RunLaws.{ended-shown}
use Rattle.chunk.proofs.walk.ModulesVisitsArrays.has_ended.Goals as goal

pub returns : goal.returns
returns c p s h = ended-shown h.shows
