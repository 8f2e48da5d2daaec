-- The latch values before the first symbol.
use Rattle.std.proofs.Common.{◌≡◌, ℕ, zero, suc, ◌<◌, Bool, List, [], ◌∷◌, Option, Some, Result, Ok, Err, IfErr, IsErrAnd, IsSome, length, map, take, slice_get, refl, sym, ◌∙◌, ap, subst, arith}
use Rattle.std.proofs.lemmas.Option.{none-some, same_Some}
use Rattle.net_core.specs.declared.Latch.{Latch}
use Rattle.net_core.specs.declared.Network.{Network}
use Rattle.net_core.specs.Step.{bit_of_start}
use Rattle.net_sim.specs.declared.causes.SimFail.{SimFail}
use Rattle.net_sim.specs.declared.causes.SimFail.TheVariants.{BadStart, UnknownStart, BadSymbol, NoMemory}
use Rattle.net_sim.specs.Inner.Failures.{TellsStart, TellsText}

-- what an answer tells, in other words
pub told_as : {T : Type 0} (r : Result T SimFail) (P Q : SimFail → Type 0) → ((fail : SimFail) → P fail → Q fail) → IfErr r P → IfErr r Q
told_as (Ok x) P Q turn told = tt
told_as (Err fail) P Q turn told = turn fail told

pub text_told : (N : Network) (start : Option (List ℕ)) (text : List ℕ) (count : ℕ) → start ≡ Some text → count ≡ length N.latches → (fail : SimFail) → TellsText count text fail → TellsStart N start fail
text_told N start text count is same BadStart told = (text, is, subst (λ n. TellsText n text BadStart) same told)
text_told N start text count is same (UnknownStart latch) told = absurd told
text_told N start text count is same (BadSymbol line) told = absurd told
text_told N start text count is same NoMemory told = tt

-- a bit was found for each of these latches
pub known_before : (latches : List Latch) (i : ℕ) (bits : List Bool) (k : ℕ) (other : Latch) → map (λ latch. bit_of_start latch.start) (take i latches) ≡ map Some bits → k < i → slice_get latches k ≡ Some other → IsSome (bit_of_start other.start)
known_before [] i bits k other all lt at = absurd (none-some other at)
known_before (l ∷ ls) zero bits k other all lt at = absurd (omega arith)
known_before (l ∷ ls) (suc i) [] k other all lt at = cc
known_before (l ∷ ls) (suc i) (b ∷ bits) zero other all lt at =
    let here : bit_of_start l.start ≡ Some b = cc in
    let same : l ≡ other = same_Some l other at in
    subst (λ (o : Option Bool). IsSome o) (sym (ap (λ latch. bit_of_start latch.start) (sym same) ∙ here)) refl
known_before (l ∷ ls) (suc i) (b ∷ bits) (suc k) other all lt at =
    let more : map (λ latch. bit_of_start latch.start) (take i ls) ≡ map Some bits = cc in
    known_before ls i bits k other more (omega arith) at

-- what is told at an exit
pub at_exit : {T E : Type 0} (P : E → Type 0) (r : Result T E) (fail : E) → IsErrAnd r (λ e. e ≡ fail) → P fail → IfErr r P
at_exit P (Ok x) fail is p = tt
at_exit P (Err e) fail is p = subst P (sym is) p
