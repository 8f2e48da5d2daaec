-- Rows of gates, and the bits that they hold.
use Rattle.std.proofs.Common.{◌≡◌, ◌≢◌, ℕ, suc, Bool, true, false, ◌&&◌, List, [], ◌∷◌, length, refl, ap}
use Rattle.net_core.specs.Step.{character_holds, row_holds}

-- a row holds no bits of another number
pub row_holds_other : (row : List ℕ) (bits : List Bool) → length row ≢ length bits → row_holds row bits ≡ false
row_holds_other [] [] other = absurd (other refl)
row_holds_other [] (bit ∷ bits) other = refl
row_holds_other (c ∷ cs) [] other = refl
row_holds_other (c ∷ cs) (bit ∷ bits) other =
    elim (character_holds c bit) as (λ b. (b && row_holds cs bits) ≡ false) [
      | true ↦ row_holds_other cs bits (λ e. other (ap suc e))
      | false ↦ refl
    ]
