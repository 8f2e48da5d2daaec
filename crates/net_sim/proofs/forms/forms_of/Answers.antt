use Rattle.std.proofs.Common.{◌≡◌, ◌+◌, ◌++◌, ◌∷◌, [], ℕ, List, take, sym, ◌∙◌, ap, subst, add-one}
use Rattle.std.specs.List.{AllZip}
use Rattle.std.proofs.Math.Seq.{take-suc}
use Rattle.std.proofs.lemmas.List.{take_all}
use Rattle.net_core.specs.declared.gate_order.NumberedGate.{NumberedGate}
use Rattle.net_sim.specs.declared.forms.GateForm.{GateForm}
use Rattle.net_core.specs.Laws.Zipped.{zip_push}
use Rattle.net_sim.specs.Inner.Forms.{IsForm}
use Rattle.net_sim.proofs.FormValues.{forms_at}
use Rattle.net_sim.proofs.forms.forms_of.Goals as goal

pub loop-gate-preserved : goal.loop-gate-preserved
loop-gate-preserved c =
    let gates = c.args.gates.now in
    let i = c.loop-gate.gate-index in
    let gate = c.gate-item.result in
    let front : take (i + 1) gates ≡ take i gates ++ gate ∷ [] =
    ap (λ (n : ℕ). take n gates) (add-one i) ∙ (take-suc gates i gate c.loop-gate-test.true ∙ ap (λ (g : NumberedGate). take i gates ++ g ∷ []) (sym c.gate-item.is)) in
    subst (λ (list : List NumberedGate). AllZip IsForm list c.push.new.self) (sym front)
    (subst (λ (forms : List GateForm). AllZip IsForm (take i gates ++ gate ∷ []) forms) (sym c.in_ok-push.ensures.ok)
    (zip_push IsForm (take i gates) c.loop-gate.forms gate c.in_ok-form_of.field-0 c.loop-gate.invariant c.in_ok-form_of.ensures))

pub returns : goal.returns
returns c =
    let gates = c.args.gates.now in
    forms_at gates c.loop-gate.forms
    (subst (λ (list : List NumberedGate). AllZip IsForm list c.loop-gate.forms) (take_all c.loop-gate.gate-index gates c.loop-gate-test.false) c.loop-gate.invariant)
