use Rattle.cover_split.proofs.Outcomes.{accepts, causes}
use Rattle.cover_split.proofs.text.parse.Goals as goal

pub returns-clause-accepted : goal.returns-clause-accepted
returns-clause-accepted c blocks is cover = accepts c.args.n c.args.text.now blocks c.read_cover.result c.requires.1 c.read_cover.ensures is cover

pub returns-clause-caused : goal.returns-clause-caused
returns-clause-caused c fail fault = causes c.args.n c.args.text.now fail c.read_cover.result c.requires.1 c.read_cover.ensures fault
