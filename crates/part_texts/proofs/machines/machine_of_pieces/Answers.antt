use Rattle.std.proofs.Common.{◌≡◌, ◌+◌, ◌≤◌, ◌∙◌, ℕ, List, Some, length, get_or, refl, sym, ap, subst, arith}
use Rattle.part_machines.specs.PartRows.{ArePartRows}
use Rattle.part_machines.specs.Which.{partition_of}
use Rattle.state_codes.specs.declared.split.Part.{Part}
use Rattle.part_texts.specs.Inner.PartHere.{IsThere}
use Rattle.part_texts.proofs.Making.{inputs_low, latches_small, made_of, outputs_few, reads_some}
use Rattle.part_texts.proofs.machines.machine_of_pieces.Goals as goal

pub partition_of-requires-clause-there : goal.partition_of-requires-clause-there
partition_of-requires-clause-there c = (
  c.args.made.now.codes,
  subst (λ (list : List Part). IsThere list c.args.made.now.codes c.args.which) (sym c.as_slice.ensures) c.requires.set.there,
)

pub rows_of_part-requires-clause-inputs : goal.rows_of_part-requires-clause-inputs
rows_of_part-requires-clause-inputs c =
    inputs_low c.args.work.now.file.now c.args.work.now c.args.made.now c.requires.made c.requires.lawful c.requires.no_conflict c.requires.work.0 c.requires.work.1 c.args.which c.args.set.now c.requires.set

pub rows_of_part-requires-clause-latches : goal.rows_of_part-requires-clause-latches
rows_of_part-requires-clause-latches c =
    latches_small c.args.work.now.file.now c.args.work.now c.args.made.now c.requires.made c.requires.lawful c.requires.no_conflict c.requires.work.0 c.requires.work.1 c.args.which c.args.set.now c.requires.set

pub rows_of_part-requires-clause-some : goal.rows_of_part-requires-clause-some
rows_of_part-requires-clause-some c =
    reads_some c.args.work.now.file.now c.args.work.now c.args.made.now c.requires.made c.requires.lawful c.requires.no_conflict c.requires.work.0 c.requires.work.1 c.args.which c.args.set.now c.requires.set

pub overflow_cast-result-2 : goal.overflow_cast-result-2
overflow_cast-result-2 c =
    let few : length c.args.names.outputs ≤ 64 =
    outputs_few c.args.work.now.file.now c.args.work.now c.args.made.now c.requires.made c.requires.lawful c.requires.no_conflict c.requires.work.0 c.requires.work.1 c.args.which c.args.set.now c.requires.set c.args.names c.requires.names in
    omega (arith, few, ap length c.as_slice-4.ensures)

pub returns : goal.returns
returns c =
    let blocks : partition_of c.args.work.now.machine c.args.made.now.split.parts c.args.which ≡ Some c.in_ok-p.p =
    subst (λ (list : List Part). partition_of c.args.work.now.machine list c.args.which ≡ Some c.in_ok-p.p) c.as_slice.ensures c.in_ok-p.ensures.partition in
    let rows : ArePartRows c.args.work.now.machine c.args.made.now.codes c.in_ok-p.p c.args.set.now c.args.which c.from.result =
    subst (ArePartRows c.args.work.now.machine c.args.made.now.codes c.in_ok-p.p c.args.set.now c.args.which) (sym c.from.ensures) c.in_ok-rows.ensures in
    made_of c.args.work.now.file.now c.args.work.now c.args.made.now c.requires.made c.requires.lawful c.requires.no_conflict c.requires.work.0 c.requires.work.1 c.args.which c.args.set.now c.requires.set c.args.names c.requires.names
    c.in_ok-p.p
    (record {
      inputs = length c.as_slice-2.result.now + length c.as_slice-3.result.now;
      outputs = length c.as_slice-4.result.now;
      reset = c.label.result;
      states = c.in_ok-states.states;
      rows = c.from.result;
      input_names = Some c.args.names.inputs;
      output_names = Some c.args.names.outputs;
    })
    blocks (omega (arith, ap length c.as_slice-2.ensures, ap length c.as_slice-3.ensures)) (ap length c.as_slice-4.ensures) refl refl c.in_ok-states.ensures
    (c.label.ensures ∙ ap (λ (s : ℕ). get_or c.in_ok-p.p s 0) c.reset.ensures.number) rows
