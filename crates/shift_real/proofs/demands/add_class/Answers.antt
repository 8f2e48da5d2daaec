use Rattle.std.proofs.Common.{ap, sym, ◌∙◌, arith, inl, inr}
use Rattle.shift_real.proofs.ClassDemands.{class_done, class_more, class_skip}
use Rattle.shift_real.proofs.demands.add_class.Goals as goal
use Rattle.shift_real.proofs.demands.add_class.Goals.{then-from-class+then-number-mask+in_ok-add_rows, else-from-class, else-from-class-via-then-from-class+else-number-mask, else-from-class-via-else-from-class}

pub loop-number-preserved : goal.loop-number-preserved
loop-number-preserved c = elim c.if-from-class.branch [
  | then-from-class+then-number-mask+in_ok-add_rows w ↦
      class_more c.args.m.now c.args.b c.requires.output c.args.classes.now c.args.mask c.args.class c.loop-number.number c.loop-number-test.true _ c.in_ok-rows.rows.items c.loop-number.demands.items c.if-from-class.demands.items
      (sym c.from.ensures ∙ w.if-from-class.true) w.deref.ensures.value c.in_ok-rows.ensures.each c.in_ok-rows.ensures.right
      (ap (λ v. v.items) w.demands-is ∙ w.in_ok-add_rows.ensures) c.loop-number.invariant
  | else-from-class w ↦
      class_skip c.args.m.now c.args.b c.requires.output c.args.classes.now c.args.mask c.args.class c.loop-number.number c.loop-number-test.true c.loop-number.demands.items c.if-from-class.demands.items
      (λ masked is. elim w.else-from-class.branch [
        | else-from-class-via-then-from-class+else-number-mask v ↦ v.if-number-mask.false masked
        | else-from-class-via-else-from-class v ↦ v.if-from-class.false (c.from.ensures ∙ is)
      ])
      (ap (λ v. v.items) w.demands-is) c.loop-number.invariant
]

pub returns : goal.returns
returns c = class_done c.args.m.now c.args.b c.args.classes.now c.args.mask c.args.class c.loop-number.number c.loop-number.demands.items c.loop-number-test.false c.loop-number.invariant

pub loop-number-init : goal.loop-number-init
loop-number-init c = record {
  right = c.requires.before.right;
  each = λ number x low either small. elim either [
    | inl before ↦ c.requires.before.each number x low before small
    | inr far ↦ absurd (omega (arith, far.before))
  ];
}

pub add_rows-requires : goal.add_rows-requires
add_rows-requires c = omega (arith, c.requires.output, c.keeps_its_states.ensures.table.outputs)
