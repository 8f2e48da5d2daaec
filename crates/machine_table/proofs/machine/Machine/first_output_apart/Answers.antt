use Rattle.std.proofs.Common.{ℕ, ◌≡◌, ◌<◌, true, Option, subst, arith}
use Rattle.kiss_file.specs.declared.file.KissFile.{KissFile}
use Rattle.state_pairs.specs.Pairs.{IsFoundInBits}
use Rattle.machine_table.proofs.OutputLabels.{first_more, first_of_all, none_of_all}
use Rattle.machine_table.proofs.machine.Machine.first_output_apart.Goals as goal

-- what the rows say of their file is so of the machine's
placed : (F G : KissFile) → G ≡ F → (s t : ℕ) (found : Option ℕ) → IsFoundInBits G s t G.outputs true found → IsFoundInBits F s t F.outputs true found
placed F G view s t found = subst (λ (H : KissFile). IsFoundInBits H s t H.outputs true found) view

pub loop-b-preserved : goal.loop-b-preserved
loop-b-preserved c =
    let inside : c.loop-b.b < c.args.self.now.outputs = omega (arith, c.loop-b-test.true) in
    first_more c.args.self.now c.args.s c.args.t c.loop-b.b c.loop-b.first c.first_bit_apart.result c.lesser-first.result inside c.loop-b.invariant c.lesser-first.ensures
    c.first_bit_apart.ensures.some c.first_bit_apart.ensures.none

pub returns-clause-some : goal.returns-clause-some
returns-clause-some c =
    let all : c.loop-b.b ≡ c.args.self.now.outputs = omega arith in
    first_of_all c.args.self.now c.args.s c.args.t c.loop-b.first (subst (λ (n : ℕ). IsFoundInBits c.args.self.now c.args.s c.args.t n true c.loop-b.first) all c.loop-b.invariant)

pub returns-clause-none : goal.returns-clause-none
returns-clause-none c =
    let all : c.loop-b.b ≡ c.args.self.now.outputs = omega arith in
    none_of_all c.args.self.now c.args.s c.args.t true c.loop-b.first (subst (λ (n : ℕ). IsFoundInBits c.args.self.now c.args.s c.args.t n true c.loop-b.first) all c.loop-b.invariant)

pub returns-in-Some-clause-some : goal.returns-in-Some-clause-some
returns-in-Some-clause-some c = first_of_all c.args.self.now c.args.s c.args.t c.in-Some.found (placed c.args.self.now _ c.self.view_is c.args.s c.args.t c.in-Some.found c.in-Some.ensures)

pub returns-in-Some-clause-none : goal.returns-in-Some-clause-none
returns-in-Some-clause-none c = none_of_all c.args.self.now c.args.s c.args.t true c.in-Some.found (placed c.args.self.now _ c.self.view_is c.args.s c.args.t c.in-Some.found c.in-Some.ensures)
