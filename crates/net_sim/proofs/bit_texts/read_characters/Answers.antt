use Rattle.net_sim.proofs.Texts.{other_character}
use Rattle.net_sim.proofs.bit_texts.read_characters.Goals as goal

pub returns-in-None-clause-refused : goal.returns-in-None-clause-refused
returns-in-None-clause-refused c = λ _ others. other_character c.args.text.now others c.loop-place.place c.loop-place-test.true c.in-None.ensures.none
