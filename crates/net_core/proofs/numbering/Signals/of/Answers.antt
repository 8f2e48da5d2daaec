use Rattle.std.proofs.Common.{◌≡◌, ◌++◌, List, ℕ, map, ◌∙◌, ap, subst}
use Rattle.std.proofs.lemmas.List.{append_assoc}
use Rattle.net_core.specs.declared.Latch.{Latch}
use Rattle.net_core.specs.Inner.Failures.{TellsAgain}
use Rattle.net_core.specs.SoundNetwork.{driven_by, drivers_of}
use Rattle.net_core.proofs.Numbered.{again_more, at_exit}
use Rattle.net_core.proofs.numbering.Signals.of.Goals as goal

pub returns-in_err-add_latches-clause-err : goal.returns-in_err-add_latches-clause-err
returns-in_err-add_latches-clause-err c =
    let N = c.args.net.now in
    let fail = c.in_err-add_latches.field-0.0 in
    let latches : List (List ℕ) = map (λ latch. latch.output) N.latches in
    let inputs : c.add_inputs.new.self ≡ N.inputs =
    c.in_ok-add_inputs.ensures.ok ∙ (ap (λ (names : List (List ℕ)). names ++ c.as_slice.result.now) c.new-signals.ensures ∙ c.as_slice.ensures) in
    at_exit (TellsAgain (drivers_of N)) c.from_residual-in_err-add_latches.result fail c.from_residual-in_err-add_latches.ensures.1
    (subst (λ (names : List (List ℕ)). TellsAgain names fail) (append_assoc N.inputs latches (driven_by N.gates))
    (again_more (N.inputs ++ latches) (driven_by N.gates) fail
    (subst (λ (names : List (List ℕ)). TellsAgain (names ++ latches) fail) inputs
    (subst (λ (list : List Latch). TellsAgain (c.add_inputs.new.self ++ map (λ latch. latch.output) list) fail) c.as_slice-2.ensures c.in_err-add_latches.ensures.err))))
