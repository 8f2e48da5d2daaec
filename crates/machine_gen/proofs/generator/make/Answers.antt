use Rattle.std.proofs.Common.{refl}
use Rattle.machine_gen.specs.Words.{word}
use Rattle.machine_gen.proofs.Accepting.{accepted}
use Rattle.machine_gen.proofs.Lawfully.{lawful}
use Rattle.machine_gen.proofs.generator.make.Goals as goal

pub returns-clause-lawful : goal.returns-clause-lawful
returns-clause-lawful c =
    lawful (word c.args.seed) c.args.a c.args.b c.args.k _ c.requires
    (record { inputs = refl; outputs = refl; reset = refl; states = c.in_ok-numbered_names.ensures.names; rows = c.in_ok-rows.ensures; input_names = refl; output_names = refl })

pub returns-clause-accepted : goal.returns-clause-accepted
returns-clause-accepted c =
    accepted (word c.args.seed) c.args.a c.args.b c.args.k _ c.requires
    (record { inputs = refl; outputs = refl; reset = refl; states = c.in_ok-numbered_names.ensures.names; rows = c.in_ok-rows.ensures; input_names = refl; output_names = refl })
