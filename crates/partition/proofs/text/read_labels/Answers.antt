use Rattle.std.proofs.Common.{◌==◌, ◌+◌, ℕ, inl, inr, refl, sym, ap, ◌∙◌, rules, arith}
use Rattle.std.proofs.lemmas.List.{length_push}
use Rattle.std.proofs.lemmas.Iterator.Consumers.{YieldsList-turn, YieldsList-end}
use Rattle.std.proofs.lemmas.Iterator.Splits.{YieldsList-from_slice_split}
use Rattle.partition.specs.Laws.Labels.{IsPartition-of}
use Rattle.partition.proofs.Reading.{reading_turn, reading_end, reading_step, reading_bad, reading_other, reading_all, reading_short, reading_blocks}
use Rattle.partition.proofs.text.read_labels.Goals as goal
use Rattle.partition.proofs.text.read_labels.Goals.{then-found-n+in_ok-push, else-found-n}

pub returns-in_default : goal.returns-in_default
returns-in_default c =
    let gives = YieldsList-from_slice_split _ (λ byte. byte == 44) c.args.text.now (cc) (cc) (cc) (λ x b q called. search rules) in
    let turn = YieldsList-turn gives c.loop-piece.yielded _ c.loop-piece.yielded_by _ _ c.in-Some.piece c.in-Some.is c.next.ensures.steps in
    let so_far = reading_turn c.args.text.now c.args.n c.loop-piece.labels.items c.loop-piece.found _ _ c.in-Some.piece.now c.loop-piece.invariant.count turn c.loop-piece.invariant.so_far in
    inr (reading_bad _ _ _ _ _ c.in-Some.piece.now _ so_far c.in_default.ensures.none)

pub overflow_add-label : goal.overflow_add-label
overflow_add-label c =
    let gives = YieldsList-from_slice_split _ (λ byte. byte == 44) c.args.text.now (cc) (cc) (cc) (λ x b q called. search rules) in
    let turn = YieldsList-turn gives c.loop-piece.yielded _ c.loop-piece.yielded_by _ _ c.in-Some.piece c.in-Some.is c.next.ensures.steps in
    let so_far = reading_turn c.args.text.now c.args.n c.loop-piece.labels.items c.loop-piece.found _ _ c.in-Some.piece.now c.loop-piece.invariant.count turn c.loop-piece.invariant.so_far in
    omega (arith, c.in-Some-label_of.ensures.some.0, reading_blocks _ _ _ _ _ _ so_far, reading_short _ _ _ _ _ _ _ so_far)

pub overflow_cast-label : goal.overflow_cast-label
overflow_cast-label c =
    let gives = YieldsList-from_slice_split _ (λ byte. byte == 44) c.args.text.now (cc) (cc) (cc) (λ x b q called. search rules) in
    let turn = YieldsList-turn gives c.loop-piece.yielded _ c.loop-piece.yielded_by _ _ c.in-Some.piece c.in-Some.is c.next.ensures.steps in
    let so_far = reading_turn c.args.text.now c.args.n c.loop-piece.labels.items c.loop-piece.found _ _ c.in-Some.piece.now c.loop-piece.invariant.count turn c.loop-piece.invariant.so_far in
    omega (arith, c.in-Some-label_of.ensures.some.0, reading_blocks _ _ _ _ _ _ so_far)

pub loop-piece-preserved : goal.loop-piece-preserved
loop-piece-preserved c =
    let gives = YieldsList-from_slice_split _ (λ byte. byte == 44) c.args.text.now (cc) (cc) (cc) (λ x b q called. search rules) in
    let turn = YieldsList-turn gives c.loop-piece.yielded _ c.loop-piece.yielded_by _ _ c.in-Some.piece c.in-Some.is c.next.ensures.steps in
    let so_far = reading_turn c.args.text.now c.args.n c.loop-piece.labels.items c.loop-piece.found _ _ c.in-Some.piece.now c.loop-piece.invariant.count turn c.loop-piece.invariant.so_far in
    record {
      count = ap (λ (k : ℕ). k + 1) c.loop-piece.invariant.count ∙ sym (length_push c.loop-piece.yielded c.in-Some.piece);
      so_far = reading_step c.args.text.now c.args.n c.loop-piece.labels.items c.if-found-n.labels.items c.loop-piece.found _ c.max-blocks.result c.in-Some.piece.now _ c.in-Some-label_of.label so_far
          c.in-Some-label_of.ensures.some.1 c.in-Some-label_of.ensures.some.0 c.max-blocks.ensures
          (elim c.if-found-n.branch [
            | then-found-n+in_ok-push w ↦ inl (w.if-found-n.true, rw w.labels-is w.in_ok-push.ensures.items)
            | else-found-n w ↦ inr (w.if-found-n.false, rw w.labels-is refl)
          ]);
    }

pub returns-then-found-n-2 : goal.returns-then-found-n-2
returns-then-found-n-2 c =
    let gives = YieldsList-from_slice_split _ (λ byte. byte == 44) c.args.text.now (cc) (cc) (cc) (λ x b q called. search rules) in
    let end = YieldsList-end gives c.loop-piece.yielded _ c.loop-piece.yielded_by _ _ c.in-None.is c.next.ensures.steps in
    let so_far = reading_end c.args.text.now c.args.n c.loop-piece.labels.items c.loop-piece.found _ (omega (arith, end.1, c.loop-piece.invariant.count)) c.loop-piece.invariant.so_far in
    inr (reading_other _ _ _ _ _ so_far c.if-found-n-2.true)

pub returns : goal.returns
returns c =
    let gives = YieldsList-from_slice_split _ (λ byte. byte == 44) c.args.text.now (cc) (cc) (cc) (λ x b q called. search rules) in
    let end = YieldsList-end gives c.loop-piece.yielded _ c.loop-piece.yielded_by _ _ c.in-None.is c.next.ensures.steps in
    let so_far = reading_end c.args.text.now c.args.n c.loop-piece.labels.items c.loop-piece.found _ (omega (arith, end.1, c.loop-piece.invariant.count)) c.loop-piece.invariant.so_far in
    let read = reading_all _ _ _ _ _ c.requires so_far c.if-found-n-2.false in
    (read.lawful, read.spelled)

pub invariant_of-result : goal.invariant_of-result
invariant_of-result c =
    let gives = YieldsList-from_slice_split _ (λ byte. byte == 44) c.args.text.now (cc) (cc) (cc) (λ x b q called. search rules) in
    let end = YieldsList-end gives c.loop-piece.yielded _ c.loop-piece.yielded_by _ _ c.in-None.is c.next.ensures.steps in
    let so_far = reading_end c.args.text.now c.args.n c.loop-piece.labels.items c.loop-piece.found _ (omega (arith, end.1, c.loop-piece.invariant.count)) c.loop-piece.invariant.so_far in
    let read = reading_all _ _ _ _ _ c.requires so_far c.if-found-n-2.false in
    (IsPartition-of (sym read.lawful.length) read.lawful, read.count)
