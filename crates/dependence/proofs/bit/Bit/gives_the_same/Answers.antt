use Rattle.std.proofs.Common.{◌↔◌, ℕ, List, Bool, IsTrue, sym, subst}
use Rattle.dependence.specs.declared.bit.Bit.{Bit}
use Rattle.dependence.specs.Bit.{GiveTheSame, value_of}
use Rattle.dependence.specs.SufficientBits.{next_value, output_value}
use Rattle.dependence.specs.Laws.Agreeing.{each_same, same_each}
use Rattle.dependence.proofs.bit.Bit.gives_the_same.Goals as goal

pub returns-in-Latch : goal.returns-in-Latch
returns-in-Latch c =
    let value : ℕ → List Bool → Bool = next_value c.args.m.now c.args.words.now c.in-Latch.i in
    subst (λ (g : Bit). IsTrue c.bit_goes.result ↔ GiveTheSame c.args.m.now (value_of c.args.m.now c.args.words.now g) c.args.s c.args.t) (sym c.in-Latch.is)
    ((λ is. same_each c.args.m.now value c.args.s c.args.t (c.bit_goes.ensures.0 is)), (λ same. c.bit_goes.ensures.1 (each_same c.args.m.now value c.args.s c.args.t same)))

pub returns-in-Output : goal.returns-in-Output
returns-in-Output c =
    let value : ℕ → List Bool → Bool = output_value c.args.m.now c.in-Output.b in
    subst (λ (g : Bit). IsTrue c.bit_agrees.result ↔ GiveTheSame c.args.m.now (value_of c.args.m.now c.args.words.now g) c.args.s c.args.t) (sym c.in-Output.is)
    ((λ is. same_each c.args.m.now value c.args.s c.args.t (c.bit_agrees.ensures.0 is)), (λ same. c.bit_agrees.ensures.1 (each_same c.args.m.now value c.args.s c.args.t same)))
