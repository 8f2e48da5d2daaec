use Rattle.std.proofs.Common.{◌≡◌, ◌↔◌, ◌⊎◌, ℕ, Contains, List, get_or, take, subst, sym}
use Rattle.std.proofs.lemmas.List.{take_all, take_more}
use Rattle.dependence.specs.SufficientBits.{InWord}
use Rattle.part_machines.proofs.Gathering.{numbers_more, numbers_none}
use Rattle.part_machines.proofs.part_inputs.with_numbers.Goals as goal

pub loop-number-init : goal.loop-number-init
loop-number-init c = numbers_none c.args.word

pub loop-number-preserved : goal.loop-number-preserved
loop-number-preserved c =
    let numbers : List ℕ = c.args.numbers.now in
    let number : ℕ = get_or numbers c.loop-number.number-index 0 in
    let all : ℕ = c.loop-number.all in
    let new : ℕ = c.with_bit-all.result in
    let step : ((d : ℕ) → InWord new d ↔ (InWord all d ⊎ (d ≡ number))) = subst (λ (n : ℕ). (d : ℕ) → InWord new d ↔ (InWord all d ⊎ (d ≡ n))) c.from.ensures c.with_bit-all.ensures in
    subst (λ (list : List ℕ). (d : ℕ) → InWord new d ↔ (InWord c.args.word d ⊎ Contains list d)) (sym (take_more numbers c.loop-number.number-index 0 c.loop-number-test.true))
    (numbers_more c.args.word all new (take c.loop-number.number-index numbers) number c.loop-number.invariant step)

pub returns : goal.returns
returns c =
    subst (λ (list : List ℕ). (d : ℕ) → InWord c.loop-number.all d ↔ (InWord c.args.word d ⊎ Contains list d))
    (take_all c.loop-number.number-index c.args.numbers.now c.loop-number-test.false) c.loop-number.invariant
