-- Bytes that are too long, where those of the shelf are known and where they are not.
use Rattle.std.proofs.Common.{◌≡◌, ℕ, ◌<◌, List, Option, Some, None, IfSome, length, inl, inr, refl, arith, replicate}
use Rattle.std.proofs.lemmas.List.{length-replicate}
use Rattle.answers.specs.declared.refusals.Refusal.{Refusal}
use Rattle.hs_io.specs.declared.shelf.LoadFail.{LoadFail}
use Rattle.hs_io.specs.declared.shelf.LoadFail.TheVariants as fails
use Rattle.operands.specs.Inner.LoadRefusal.{IsLoadRefusal}
use Rattle.operands.specs.Load.{IsStopAt}
use Rattle.operands.specs.OperandText.{Lengthy, MayBe, most_bytes}

-- there are bytes of every number
some_of : (n : ℕ) → (bytes : List ℕ) × (length bytes ≡ n)
some_of n = (replicate n 0, length-replicate n 0)

-- some bytes are too long, and those that are told are these
long_bytes : (held : Option (List ℕ)) → IfSome held (λ told. most_bytes < length told) → (bytes : List ℕ) × MayBe held bytes × (most_bytes < length bytes)
long_bytes (Some told) long = (told, refl, long)
long_bytes None long = let (bytes, count) = some_of 4194305 in (bytes, tt, omega (arith, count))

-- an operand that was not loaded is refused with its cause
pub stop_of_fail : (held : Option (List ℕ)) (Faulted : Type 0) (name : List ℕ) (fail : LoadFail) (refusal : Refusal) → IsLoadRefusal name fail refusal → (fail ≡ fails.Failed → Faulted)
    → (fail ≡ fails.TooLong → IfSome held (λ told. most_bytes < length told)) → IsStopAt held Faulted name (Lengthy name) refusal
stop_of_fail held Faulted name fail refusal (inl none) failed long = inl none
stop_of_fail held Faulted name fail refusal (inr (inl (is, unreadable))) failed long = inr (inl (unreadable, failed is))
stop_of_fail held Faulted name fail refusal (inr (inr (is, lengthy))) failed long = let (bytes, may, more) = long_bytes held (long is) in inr (inr (bytes, may, (lengthy, more)))
