-- A fault of the text of a part calls for its refusal.
use Rattle.std.proofs.Common.{◌≡◌, ◌⊎◌, inl, inr, ℕ, List, refl, subst}
use Rattle.answers.specs.declared.refusals.Refusal.TheVariants.{PartLabel, PartLength}
use Rattle.answers.specs.Outcome.{IsStop}
use Rattle.partition.specs.declared.PartFail.{PartFail}
use Rattle.partition.specs.declared.PartFail.TheVariants.{BadText, NoMemory, WrongLength}
use Rattle.partition.specs.Text.{TextFault}
use Rattle.operands.specs.PartFaults.{BadPartAt}

pub bad_label : (part states : ℕ) (text : List ℕ) (place : ℕ) (fail : PartFail) → fail ≡ BadText place → (fail ≡ NoMemory) ⊎ TextFault states text fail → IsStop (BadPartAt part states text) (PartLabel part place)
bad_label part states text place fail is (inl wanting) = cc
bad_label part states text place fail is (inr fault) = inr (inl (place, refl, subst (TextFault states text) is fault))

pub other_length : (part states : ℕ) (text : List ℕ) (found : ℕ) (fail : PartFail) → fail ≡ WrongLength found → (fail ≡ NoMemory) ⊎ TextFault states text fail → IsStop (BadPartAt part states text) (PartLength part found states)
other_length part states text found fail is (inl wanting) = cc
other_length part states text found fail is (inr fault) = inr (inr (found, refl, subst (TextFault states text) is fault))
