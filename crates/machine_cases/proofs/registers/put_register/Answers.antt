use Rattle.std.proofs.Common.{ℕ, ◌*◌, ap, sym, ◌∙◌, subst, arith}
use Rattle.kiss_file.specs.declared.file.KissFile.{KissFile}
use Rattle.realise.specs.Names.{AreNames}
use Rattle.machine_cases.proofs.registers.put_register.Goals as goal

pub put_register_with-requires-clause-names : goal.put_register_with-requires-clause-names
put_register_with-requires-clause-names c =
    let own : AreNames c.args.file.now (c.in-Some.k * c.args.m.now.inputs) c.in-Ok.names =
    subst (λ (bits : ℕ). AreNames c.args.file.now bits c.in-Ok.names) (ap (λ (n : ℕ). c.in-Some.k * n) (c.from.ensures ∙ c.inputs.ensures.count)) c.in-Ok.ensures in
    let apart = c.names_apart.ensures c.args.file.now (c.in-Some.k * c.args.m.now.inputs) c.in-Ok.names c.requires.lawful (omega (arith, c.in-Some.ensures.short)) own in
    record {
      inputs = apart.0.inputs ∙ ap (λ (F : KissFile). F.inputs) (sym c.requires.machine);
      outputs = apart.0.outputs ∙ ap (λ (F : KissFile). F.outputs) (sym c.requires.machine);
      latch_inputs = apart.0.latch_inputs;
      latch_outputs = apart.0.latch_outputs;
      distinct = apart.1;
    }
