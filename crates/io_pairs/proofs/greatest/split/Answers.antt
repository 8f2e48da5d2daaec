use Rattle.std.proofs.Common.{arith}
use Rattle.partition.specs.Laws.Outcomes.{IfOk-from_both}
use Rattle.io_pairs.proofs.Parting.{numbers_below, split_by}
use Rattle.io_pairs.proofs.greatest.split.Goals as goal

pub numbered-requires-clause-room : goal.numbered-requires-clause-room
numbered-requires-clause-room c x within =
    omega (
      arith,
      numbers_below c.args.q.now c.args.classes.now c.args.function.now c.in_ok-numbers.numbers.items c.as_slice.result.now c.requires.lawful c.requires.classes c.requires.values c.as_slice.ensures.value
          c.in_ok-numbers.ensures.count c.in_ok-numbers.ensures.numbers x within,
      c.requires.room,
    )

pub returns-clause-split : goal.returns-clause-split
returns-clause-split c =
    IfOk-from_both c.numbered.result c.numbered.ensures.lawful c.numbered.ensures.together
    (λ new lawful same. split_by c.args.q.now c.args.classes.now c.args.function.now c.in_ok-numbers.numbers.items c.as_slice.result.now new.items c.requires.lawful c.requires.values c.as_slice.ensures.value
    c.in_ok-numbers.ensures.count c.in_ok-numbers.ensures.numbers lawful same)
