use Rattle.std.proofs.Common.{[], ◌∷◌, codes, inr, refl}
use Rattle.blif_laws.proofs.Structures.{cycle_is_told, driven_again, not_from_later_gate, used_undriven}
use Rattle.blif_laws.proofs.worked.worked_structures.Goals as goal

pub returns-clause-undriven : goal.returns-clause-undriven
returns-clause-undriven c = inr (refl, used_undriven _ [] [] (codes "z") refl refl refl refl)

pub returns-clause-two_drivers : goal.returns-clause-two_drivers
returns-clause-two_drivers c = inr (refl, driven_again _ (codes "z" ∷ []) [] (codes "z") refl refl refl)

pub returns-clause-two_drivers_before_undriven : goal.returns-clause-two_drivers_before_undriven
returns-clause-two_drivers_before_undriven c = inr (refl, driven_again _ (codes "z" ∷ []) [] (codes "z") refl refl refl)

pub returns-clause-second_time_first : goal.returns-clause-second_time_first
returns-clause-second_time_first c = inr (refl, driven_again _ (codes "a" ∷ codes "b" ∷ []) (codes "a" ∷ []) (codes "b") refl refl refl)

pub returns-clause-inputs_drive_first : goal.returns-clause-inputs_drive_first
returns-clause-inputs_drive_first c = inr (refl, driven_again _ (codes "c" ∷ []) (codes "p" ∷ codes "p" ∷ []) (codes "c") refl refl refl)

pub returns-clause-latches_drive_before_gates : goal.returns-clause-latches_drive_before_gates
returns-clause-latches_drive_before_gates c = inr (refl, driven_again _ (codes "p" ∷ []) (codes "y" ∷ codes "y" ∷ []) (codes "p") refl refl refl)

pub returns-clause-outputs_use_first : goal.returns-clause-outputs_use_first
returns-clause-outputs_use_first c = inr (refl, used_undriven _ [] (codes "x" ∷ codes "a" ∷ []) (codes "z") refl refl refl refl)

pub returns-clause-latches_use_before_gates : goal.returns-clause-latches_use_before_gates
returns-clause-latches_use_before_gates c = inr (refl, used_undriven _ [] (codes "b" ∷ []) (codes "a") refl refl refl refl)

pub returns-clause-gates_use_in_order : goal.returns-clause-gates_use_in_order
returns-clause-gates_use_in_order c = inr (refl, used_undriven _ (codes "a" ∷ []) (codes "b" ∷ []) (codes "c") refl refl refl refl)

pub returns-clause-undriven_before_cycle : goal.returns-clause-undriven_before_cycle
returns-clause-undriven_before_cycle c = inr (refl, used_undriven _ [] (codes "y" ∷ []) (codes "z") refl refl refl refl)

pub returns-clause-cycle : goal.returns-clause-cycle
returns-clause-cycle c = inr (refl, cycle_is_told)

pub returns-clause-cycle_from_later_gate : goal.returns-clause-cycle_from_later_gate
returns-clause-cycle_from_later_gate c = not_from_later_gate
