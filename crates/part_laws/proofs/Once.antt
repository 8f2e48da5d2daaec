-- Machines that are stepped together answer in one way.
use Rattle.std.proofs.Common.{◌≡◌, ◌∙◌, ℕ, Bool, List, [], ◌∷◌, sym, subst}
use Rattle.kiss_file.specs.declared.file.KissFile.{KissFile}
use Rattle.part_laws.specs.OneMachine.{TogetherOnce}
use Rattle.part_laws.specs.Together.{AnswerTogether, GoesBy, MachineAt, StepTogether}

cons_same : (x y : List Bool) (xs ys : List (List Bool)) → x ≡ y → xs ≡ ys → ◌≡◌ {A = List (List Bool)} (x ∷ xs) (y ∷ ys)
cons_same x y xs ys head tail = cc

-- one step
step_once : (inputs : List (List ℕ)) (Z : KissFile) (places : List MachineAt) (x answer other : List Bool) (nexts more : List MachineAt)
    → StepTogether inputs Z places x answer nexts → StepTogether inputs Z places x other more → (answer ≡ other) × (nexts ≡ more)
step_once inputs Z places x answer other nexts more one two =
    let also : GoesBy Z places one.some.0 other more = two.every one.some.0 one.some.1 in
    let is : GoesBy Z places one.some.0 answer nexts = one.some.2 in
    (sym is.gives ∙ also.gives, sym is.goes ∙ also.goes)

pub together_once : TogetherOnce
together_once inputs Z places [] answers others lasts more one two = (one.0 ∙ sym two.0, one.1 ∙ sym two.1)
together_once inputs Z places (x ∷ word) answers others lasts more (answer, nexts, rest, are, step, one) (other, nexts_too, rest_too, are_too, step_too, two) =
    let here = step_once inputs Z places x answer other nexts nexts_too step step_too in
    let later = together_once inputs Z nexts word rest rest_too lasts more one
    (subst (λ (at : List MachineAt). AnswerTogether inputs Z at word rest_too more) (sym here.1) two) in
    (are ∙ (cons_same answer other rest rest_too here.0 later.0 ∙ sym are_too), later.1)
