-- The gates of the outputs, one by one.
use Rattle.std.proofs.Common.{◌≡◌, ℕ, ◌+◌, inl, inr, List, [], ◌∷◌, ◌++◌, length, slice_get, ap, sym, ◌∙◌, subst, arith, length-append}
use Rattle.std.proofs.lemmas.Bool.{cases_lt}
use Rattle.list_facts.specs.Laws.Places.{get_behind, get_first}
use Rattle.dependence.specs.declared.sets.ReadSet.{ReadSet}
use Rattle.kiss_file.specs.declared.file.KissFile.{KissFile}
use Rattle.net_core.specs.declared.Gate.{Gate}
use Rattle.net_core.specs.declared.SignalNames.{SignalNames}
use Rattle.shift_real.specs.Gates.{IsOutputGate}
use Rattle.shift_real.specs.Inner.Latches.{AddsOutputGates}

-- one gate of an output more
pub gates_more : (F : KissFile) (k : ℕ) (names : SignalNames) (b : ℕ) (old new pushed : List Gate) (gate : Gate) → AddsOutputGates F k names b old new → (set : ReadSet) × IsOutputGate F k names b set gate → pushed ≡ new ++ gate ∷ []
    → AddsOutputGates F k names (b + 1) old pushed
gates_more F k names b old new pushed gate before (set, is) is_pushed =
    subst (AddsOutputGates F k names (b + 1) old) (sym is_pushed) (record {
      count = omega (arith, before.count, length-append new (gate ∷ []));
      kept = λ at other there. get_first new (gate ∷ []) at other (before.kept at other there);
      each = λ i within. elim (cases_lt i b) [
        | inl below ↦
            let found = before.each i below in
            (found.0, found.1, get_first new (gate ∷ []) (length old + i) found.1 found.2, found.3)
        | inr last ↦
            let same : b ≡ i = omega arith in
            let there : length new + 0 ≡ length old + i = omega (arith, before.count, same) in (
              set,
              gate,
              sym (ap (λ (n : ℕ). slice_get (new ++ gate ∷ []) n) there) ∙ get_behind new (gate ∷ []) 0,
              subst (λ (j : ℕ). IsOutputGate F k names j set gate) same is,
            )
      ];
    })
