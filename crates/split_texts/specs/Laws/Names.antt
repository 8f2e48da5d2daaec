-- A law of names: a file and a number of latches have only one list of names.
use Rattle.std.proofs.Common.{◌≡◌, ◌∙◌, ℕ, ◌≤◌, List, unwrap_or, sym, ap, arith}
use Rattle.kiss_file.specs.declared.file.KissFile.{KissFile}
use Rattle.net_core.specs.declared.SignalNames.{SignalNames}
use Rattle.realise.specs.Names.{AreNames, input_letter, next_letter, output_letter, own_names, state_letter}

same_names : (a b c d e f g h : List (List ℕ)) → a ≡ b → c ≡ d → e ≡ f → g ≡ h
    → ◌≡◌ {A = SignalNames} (record { inputs = a; outputs = c; latch_inputs = e; latch_outputs = g }) (record { inputs = b; outputs = d; latch_inputs = f; latch_outputs = h })
same_names a b c d e f g h p q r s = cc

-- the file and the number of latches determine the names
pub names_once : (F : KissFile) (latches : ℕ) (names more : SignalNames) → AreNames F latches names → AreNames F latches more → names ≡ more
names_once F latches names more one other =
    let low : one.count ≤ other.count = one.apart.least other.count other.apart.free in
    let high : other.count ≤ one.count = other.apart.least one.count one.apart.free in
    let same : one.count ≡ other.count = omega (arith, low, high) in
    same_names names.inputs more.inputs names.outputs more.outputs names.latch_inputs more.latch_inputs names.latch_outputs more.latch_outputs
    (one.inputs ∙ ap (λ (count : ℕ). unwrap_or F.input_names (own_names count input_letter F.inputs)) same ∙ sym other.inputs)
    (one.outputs ∙ ap (λ (count : ℕ). unwrap_or F.output_names (own_names count output_letter F.outputs)) same ∙ sym other.outputs)
    (one.latch_inputs ∙ ap (λ (count : ℕ). own_names count next_letter latches) same ∙ sym other.latch_inputs)
    (one.latch_outputs ∙ ap (λ (count : ℕ). own_names count state_letter latches) same ∙ sym other.latch_outputs)
