-- The refusals, each by its one cause.
use Rattle.std.proofs.Common.{◌≡◌, ℕ, ◌≤◌, List, length, sym, ap, ◌∙◌, arith}
use Rattle.state_codes.specs.declared.split.Part.{Part}
use Rattle.state_codes.specs.declared.CodeFail.{CodeFail}
use Rattle.state_codes.specs.declared.CodeFail.TheVariants.{NotApart, CodeTooLong, NoMemory}
use Rattle.state_codes.specs.Code.{AreInside, places_of, IsLength}
use Rattle.state_codes.specs.Fault.{AreApart, FirstTogether, CodeFault}
use Rattle.state_codes.specs.Laws.Places.{AreInside-once}

-- a code has one length
length_once : (parts : List Part) (inners : List (List ℕ)) (bits : ℕ) → AreInside parts inners → IsLength parts bits → bits ≡ length (places_of 0 parts inners)
length_once parts inners bits inside other =
    other.size ∙ ap (λ (list : List (List ℕ)). length (places_of 0 parts list)) (AreInside-once parts other.inners inners other.inside inside)

apart_not_together : (n : ℕ) (parts : List Part) (s t : ℕ) → AreApart n parts → FirstTogether n parts s t → ⊥
apart_not_together n parts s t apart first = apart s t first.partner.above first.partner.within first.partner.together

-- where all states are apart and the code is too long, that is the one fault
pub only_too_long : (n : ℕ) (parts : List Part) (inners : List (List ℕ)) (bits : ℕ) → AreApart n parts → AreInside parts inners → bits ≡ length (places_of 0 parts inners) → (fail : CodeFail) → CodeFault n parts fail → CodeTooLong bits ≡ fail
only_too_long n parts inners bits apart inside size (NotApart s t) fault = absurd (apart_not_together n parts s t apart fault)
only_too_long n parts inners bits apart inside size (CodeTooLong other) fault = ap CodeTooLong (size ∙ sym (length_once parts inners other inside fault.1))
only_too_long n parts inners bits apart inside size NoMemory fault = absurd fault

-- where all states are apart and the code is short, there is none
pub no_fault : (n : ℕ) (parts : List Part) (inners : List (List ℕ)) (bits : ℕ) → AreApart n parts → AreInside parts inners → bits ≡ length (places_of 0 parts inners) → bits ≤ 64 → (fail : CodeFail) → CodeFault n parts fail → ⊥
no_fault n parts inners bits apart inside size short (NotApart s t) fault = apart_not_together n parts s t apart fault
no_fault n parts inners bits apart inside size short (CodeTooLong other) fault = absurd (omega (arith, length_once parts inners other inside fault.1, fault.2))
no_fault n parts inners bits apart inside size short NoMemory fault = fault
