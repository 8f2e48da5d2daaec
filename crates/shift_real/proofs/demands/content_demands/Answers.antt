use Rattle.std.proofs.Common.{ap, sym, ◌∙◌, ◌+◌, subst, arith}
use Rattle.std.proofs.lemmas.Bool.{true≢false}
use Rattle.shift_real.specs.Inner.ContentDemands.{AreClassDemands, IsOfClassBelow}
use Rattle.shift_real.proofs.ClassDemands.{class_none, classes_done, no_classes}
use Rattle.shift_real.proofs.demands.content_demands.Goals as goal
use Rattle.shift_real.proofs.demands.content_demands.Goals.{then-is_among+in_ok-add_class, else-is_among}

pub loop-class-init : goal.loop-class-init
loop-class-init c = no_classes c.args.m.now c.args.b c.args.classes.now c.args.mask c.new-demands.result.items c.new-demands.ensures.items

pub loop-class-preserved : goal.loop-class-preserved
loop-class-preserved c = elim c.if-is_among.branch [
  | then-is_among+in_ok-add_class w ↦
      subst (λ v. AreClassDemands c.args.m.now c.args.b c.args.classes.now (IsOfClassBelow c.args.classes.now c.args.mask (c.loop-class.class + 1)) v.items) (sym w.demands-is) w.in_ok-add_class.ensures
  | else-is_among w ↦
      class_none c.args.m.now c.args.b c.args.classes.now c.args.mask c.loop-class.class c.loop-class.demands.items c.if-is_among.demands.items
      (λ among. true≢false (sym (c.is_among.ensures.1 among) ∙ w.if-is_among.false)) (ap (λ v. v.items) w.demands-is) c.loop-class.invariant
]

pub returns : goal.returns
returns c = classes_done c.args.m.now c.args.b c.args.classes.now c.args.mask c.loop-class.class c.loop-class.demands.items c.requires.classes (omega (arith, c.states-class-end.ensures.count)) c.loop-class.invariant
