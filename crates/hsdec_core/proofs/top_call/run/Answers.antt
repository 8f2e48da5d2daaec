use Rattle.std.proofs.Common.{◌≡◌}
use Rattle.hs_io.specs.Counts.{Rose}
use Rattle.hsdec_core.proofs.Runs.{IsDelivered, all_of, complete_of, evidence_of, first_of, front_of, refused_of, usage_if_err}
use Rattle.hsdec_core.proofs.top_call.run.Goals as goal
use Rattle.job_words.specs.Job.{JobOf}

pub returns-clause-refused : goal.returns-clause-refused
returns-clause-refused g c = λ undone.
    let told = c.deliver.ensures.refused undone in
    (told.0, told.1, refused_of _ _ _ (c.deliver.new.out ≡ c.args.out.now) _ _ (JobOf c.args.words.now) c.perform-made.result told.0 c.perform-made.ensures.made told.2, told.3)

pub returns-clause-comes : goal.returns-clause-comes
returns-clause-comes g c =
    let delivered : IsDelivered c.perform-made.result (g.O.Sink.given c.args.out.now) (g.O.Sink.given c.deliver.new.out) (Rose (g.O.Sink.faults c.args.out.now) (g.O.Sink.faults c.deliver.new.out)) (c.deliver.new.out ≡ c.args.out.now) c.deliver.result =
    record { done = c.deliver.ensures.done; refused = λ undone. let told = c.deliver.ensures.refused undone in (told.0, told.1, told.2) } in
    first_of _ _ _ _ _ _ (JobOf c.args.words.now) c.perform-made.result _ c.perform-made.ensures.made delivered

pub returns-clause-all_come : goal.returns-clause-all_come
returns-clause-all_come g c =
    let delivered : IsDelivered c.perform-made.result (g.O.Sink.given c.args.out.now) (g.O.Sink.given c.deliver.new.out) (Rose (g.O.Sink.faults c.args.out.now) (g.O.Sink.faults c.deliver.new.out)) (c.deliver.new.out ≡ c.args.out.now) c.deliver.result =
    record { done = c.deliver.ensures.done; refused = λ undone. let told = c.deliver.ensures.refused undone in (told.0, told.1, told.2) } in
    all_of _ _ _ _ _ _ (JobOf c.args.words.now) c.perform-made.result _ c.perform-made.ensures.made delivered

pub returns-clause-complete : goal.returns-clause-complete
returns-clause-complete g c =
    let delivered : IsDelivered c.perform-made.result (g.O.Sink.given c.args.out.now) (g.O.Sink.given c.deliver.new.out) (Rose (g.O.Sink.faults c.args.out.now) (g.O.Sink.faults c.deliver.new.out)) (c.deliver.new.out ≡ c.args.out.now) c.deliver.result =
    record { done = c.deliver.ensures.done; refused = λ undone. let told = c.deliver.ensures.refused undone in (told.0, told.1, told.2) } in
    complete_of _ _ _ _ _ _ (JobOf c.args.words.now) c.perform-made.result _ c.perform-made.ensures.made delivered

pub returns-clause-evidence : goal.returns-clause-evidence
returns-clause-evidence g c =
    let delivered : IsDelivered c.perform-made.result (g.O.Sink.given c.args.out.now) (g.O.Sink.given c.deliver.new.out) (Rose (g.O.Sink.faults c.args.out.now) (g.O.Sink.faults c.deliver.new.out)) (c.deliver.new.out ≡ c.args.out.now) c.deliver.result =
    record { done = c.deliver.ensures.done; refused = λ undone. let told = c.deliver.ensures.refused undone in (told.0, told.1, told.2) } in
    evidence_of _ _ _ _ _ _ (JobOf c.args.words.now) c.perform-made.result _ c.perform-made.ensures.made delivered

pub returns-clause-front : goal.returns-clause-front
returns-clause-front g c =
    let delivered : IsDelivered c.perform-made.result (g.O.Sink.given c.args.out.now) (g.O.Sink.given c.deliver.new.out) (Rose (g.O.Sink.faults c.args.out.now) (g.O.Sink.faults c.deliver.new.out)) (c.deliver.new.out ≡ c.args.out.now) c.deliver.result =
    record { done = c.deliver.ensures.done; refused = λ undone. let told = c.deliver.ensures.refused undone in (told.0, told.1, told.2) } in
    front_of _ _ _ _ _ _ (JobOf c.args.words.now) c.perform-made.result _ c.perform-made.ensures.made delivered

pub returns-clause-usage : goal.returns-clause-usage
returns-clause-usage g c =
    let delivered : IsDelivered c.perform-made.result (g.O.Sink.given c.args.out.now) (g.O.Sink.given c.deliver.new.out) (Rose (g.O.Sink.faults c.args.out.now) (g.O.Sink.faults c.deliver.new.out)) (c.deliver.new.out ≡ c.args.out.now) c.deliver.result =
    record { done = c.deliver.ensures.done; refused = λ undone. let told = c.deliver.ensures.refused undone in (told.0, told.1, told.2) } in
    usage_if_err _ _ _ _ _ _ (JobOf c.args.words.now) c.perform-made.result _ c.perform-made.ensures.made delivered
