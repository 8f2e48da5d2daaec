-- Clauses on the value of an `Ok`.
use Rattle.std.proofs.Common.{Result, Ok, Err, IfOk}

-- what follows from two facts of the value
pub IfOk-from_both : {X E : Type 0} (r : Result X E) {P Q R : X → Type 0} → IfOk r P → IfOk r Q → ((x : X) → P x → Q x → R x) → IfOk r R
IfOk-from_both (Ok x) p q both = both x p q
IfOk-from_both (Err e) p q both = tt
