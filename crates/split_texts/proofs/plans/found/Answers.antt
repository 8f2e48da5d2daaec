use Rattle.std.proofs.lemmas.Result.{err_from_is_err_and}
use Rattle.state_codes.specs.declared.split.Kind.TheVariants as kinds
use Rattle.split_texts.proofs.Planning.{found_here, planned_here}
use Rattle.split_texts.proofs.plans.found.Goals as goal

pub returns-in_ok-natural-in-Code : goal.returns-in_ok-natural-in-Code
returns-in_ok-natural-in-Code c =
    planned_here c.args.kind kinds.Code c.args.text.now c.args.machine.now c.in_ok-natural-in-Code.field-0 c.in-Code.is (λ refusal h. h) (λ none. none) (c.in_ok-natural-in-Code.ensures c.args.text.now)

pub returns-in_ok-assigned-in-Assign : goal.returns-in_ok-assigned-in-Assign
returns-in_ok-assigned-in-Assign c =
    planned_here c.args.kind kinds.Assign c.args.text.now c.args.machine.now c.in_ok-assigned-in-Assign.field-0 c.in-Assign.is c.in_ok-assigned-in-Assign.ensures.0 (λ none. none) c.in_ok-assigned-in-Assign.ensures.1

pub returns-in_ok-split-in-Parallel : goal.returns-in_ok-split-in-Parallel
returns-in_ok-split-in-Parallel c =
    found_here c.args.kind kinds.Parallel c.args.text.now c.args.machine.now c.in_ok-split-in-Parallel.field-0 c.in-Parallel.is (λ refusal h. h) c.in_ok-split-in-Parallel.ensures.none c.in_ok-split-in-Parallel.ensures.kind c.in_ok-split-in-Parallel.ensures.parallel c.in_ok-split-in-Parallel.ensures.best c.in_ok-split-in-Parallel.ensures.choice
    c.in_ok-split-in-Parallel.ensures.few c.in_ok-split-in-Parallel.ensures.lawful

pub returns-in_ok-split-in-Serial : goal.returns-in_ok-split-in-Serial
returns-in_ok-split-in-Serial c =
    found_here c.args.kind kinds.Serial c.args.text.now c.args.machine.now c.in_ok-split-in-Serial.field-0 c.in-Serial.is (λ refusal h. h) c.in_ok-split-in-Serial.ensures.none c.in_ok-split-in-Serial.ensures.kind c.in_ok-split-in-Serial.ensures.serial c.in_ok-split-in-Serial.ensures.best c.in_ok-split-in-Serial.ensures.choice
    c.in_ok-split-in-Serial.ensures.few c.in_ok-split-in-Serial.ensures.lawful

pub returns-in_ok-cascade-in-Cascade : goal.returns-in_ok-cascade-in-Cascade
returns-in_ok-cascade-in-Cascade c =
    found_here c.args.kind kinds.Cascade c.args.text.now c.args.machine.now c.in_ok-cascade-in-Cascade.field-0 c.in-Cascade.is (λ refusal h. h) c.in_ok-cascade-in-Cascade.ensures.none c.in_ok-cascade-in-Cascade.ensures.kind c.in_ok-cascade-in-Cascade.ensures.cascade c.in_ok-cascade-in-Cascade.ensures.best c.in_ok-cascade-in-Cascade.ensures.choice
    c.in_ok-cascade-in-Cascade.ensures.few c.in_ok-cascade-in-Cascade.ensures.lawful

pub returns-in_ok-split-in-Feedback : goal.returns-in_ok-split-in-Feedback
returns-in_ok-split-in-Feedback c =
    found_here c.args.kind kinds.Feedback c.args.text.now c.args.machine.now c.in_ok-split-in-Feedback.field-0 c.in-Feedback.is (λ refusal h. h) c.in_ok-split-in-Feedback.ensures.none c.in_ok-split-in-Feedback.ensures.kind c.in_ok-split-in-Feedback.ensures.feedback c.in_ok-split-in-Feedback.ensures.best c.in_ok-split-in-Feedback.ensures.choice
    c.in_ok-split-in-Feedback.ensures.few c.in_ok-split-in-Feedback.ensures.lawful

pub returns-in_ok-least-in-Least : goal.returns-in_ok-least-in-Least
returns-in_ok-least-in-Least c =
    planned_here c.args.kind kinds.Least c.args.text.now c.args.machine.now c.in_ok-least-in-Least.field-0 c.in-Least.is (c.in_ok-least-in-Least.ensures c.args.text.now).0 (λ none. none) (c.in_ok-least-in-Least.ensures c.args.text.now).1

pub returns-in_err-least-in-Least : goal.returns-in_err-least-in-Least
returns-in_err-least-in-Least c =
    let p = err_from_is_err_and c.from_residual-in_err-least-in-Least.result c.from_residual-in_err-least-in-Least.ensures.1 in
    rw (c.in-Least.is, p.1, p.2) (c.in_err-least-in-Least.ensures c.args.text.now)
