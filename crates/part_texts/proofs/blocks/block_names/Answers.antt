use Rattle.std.proofs.Common.{◌<◌, ◌∙◌, length, take, ap, sym, arith}
use Rattle.partition.specs.Laws.Labels.{blocks_of-take-le}
use Rattle.partition.specs.Partition.{blocks_of}
use Rattle.part_texts.proofs.BlockNames.{length-first_names, name_added, none_added}
use Rattle.part_texts.proofs.blocks.block_names.Goals as goal
use Rattle.part_texts.proofs.blocks.block_names.Goals.{then-from-count+in_ok-add, else-from-count}

pub add-requires : goal.add-requires
add-requires c =
    omega (
      arith,
      ap length c.loop-s.invariant,
      length-first_names c.args.work.now.machine.states c.args.p.now (blocks_of (take c.loop-s.s c.args.p.now)),
      blocks_of-take-le c.args.p.now c.len-s-end.ensures.lawful.numbered c.loop-s.s (omega (arith, c.loop-s-test.true, c.len-s-end.ensures.len)),
      c.loop-s-test.true,
      c.len-s-end.ensures.lawful.count.1,
    )

pub loop-s-preserved : goal.loop-s-preserved
loop-s-preserved c =
    let within : c.loop-s.s < length c.args.p.now = omega (arith, c.loop-s-test.true, c.len-s-end.ensures.len) in
    elim c.if-from-count.branch [
      | then-from-count+in_ok-add w ↦
          w.names-is
          ∙ name_added c.args.p.now c.len-s-end.ensures.lawful.numbered c.args.work.now.machine.states c.keeps_its_states.ensures.names c.requires.size c.loop-s.s c.loop-s.names w.add.new.self w.state_name.result.now
          within c.loop-s.invariant w.state_name.ensures (sym c.label.ensures ∙ sym c.from.ensures ∙ w.if-from-count.true ∙ c.count.ensures.count) w.in_ok-add.ensures.last
      | else-from-count w ↦
          w.names-is
          ∙ none_added c.args.p.now c.len-s-end.ensures.lawful.numbered c.args.work.now.machine.states c.keeps_its_states.ensures.names c.requires.size c.loop-s.s c.loop-s.names within c.loop-s.invariant
          (λ same. w.if-from-count.false (c.from.ensures ∙ c.label.ensures ∙ same ∙ sym c.count.ensures.count))
    ]
