-- A network's answers are determined, and what a text denotes is.
use Rattle.std.proofs.Common.{◌≡◌, [], ◌∷◌, sym, ◌∙◌, ap, subst}
use Rattle.net_core.specs.declared.Network.{Network}
use Rattle.net_core.specs.Blif.{BlifOnce}
use Rattle.net_core.specs.Denotation.{DenotesOnce}
use Rattle.net_core.specs.Step.{NetAnswers, AnswersAreDetermined}

pub same_network : (N M : Network) → N.inputs ≡ M.inputs → N.outputs ≡ M.outputs → N.latches ≡ M.latches → N.gates ≡ M.gates → N ≡ M
same_network N M inputs outputs latches gates =
    ap (λ x. record { inputs = x; outputs = N.outputs; latches = N.latches; gates = N.gates }) inputs
    ∙ (ap (λ x. record { inputs = M.inputs; outputs = x; latches = N.latches; gates = N.gates }) outputs
    ∙ (ap (λ x. record { inputs = M.inputs; outputs = M.outputs; latches = x; gates = N.gates }) latches
    ∙ ap (λ x. record { inputs = M.inputs; outputs = M.outputs; latches = M.latches; gates = x }) gates))

pub denotes_one : DenotesOnce
denotes_one bytes N M n m = same_network N M (n.inputs ∙ sym m.inputs) (n.outputs ∙ sym m.outputs) (n.latches ∙ sym m.latches) (n.gates ∙ sym m.gates)

pub blif_one : BlifOnce
blif_one bytes N M n m = denotes_one bytes N M n.denotes m.denotes

pub same_answers : AnswersAreDetermined
same_answers N state [] answers others h k = h ∙ sym k
same_answers N state (symbol ∷ word) answers others (answer, next, more, is, step, rest) (answer', next', more', is', step', rest') =
    let given = step.some.2 in
    let given' = step'.every step.some.0 step.some.1 in
    let one : answer ≡ answer' = sym given.outputs ∙ given'.outputs in
    let same : next' ≡ next = sym given'.latch_inputs ∙ given.latch_inputs in
    let later : more ≡ more' = same_answers N next word more more' rest (subst (λ s. NetAnswers N s word more') same rest') in
    is ∙ (ap (λ a. a ∷ more) one ∙ (ap (λ m. answer' ∷ m) later ∙ sym is'))
