use Rattle.std.proofs.Common.{ℕ, ◌≡◌, ◌+◌, sym, subst, inl, inr, arith}
use Rattle.std.proofs.lemmas.Bool.{cases_lt}
use Rattle.machine_table.specs.OpenEntries.{IsSaid}
use Rattle.machine_table.specs.Inner.OpenSymbol.{IsFirstAmong}
use Rattle.machine_table.proofs.OpenParts.{first_of_file}
use Rattle.machine_table.proofs.machine.Machine.first_open.Goals as goal

pub returns-in-Some-clause-some : goal.returns-in-Some-clause-some
returns-in-Some-clause-some c =
    first_of_file c.args.self.now c.loop-s.s c.in-Some.symbol c.in-Some.part (omega (arith, c.loop-s-test.true, c.states-s-end.ensures.count)) c.loop-s.invariant
    (subst (IsFirstAmong c.args.self.now c.loop-s.s (c.args.self.now.outputs + 1)) c.in-Some.is c.in_ok-symbol.ensures)

pub loop-s-preserved : goal.loop-s-preserved
loop-s-preserved c t below number part within counted =
    elim (cases_lt t c.loop-s.s) [
      | inl before ↦ c.loop-s.invariant t before number part within counted
      | inr now ↦
          let at : t ≡ c.loop-s.s = omega arith in
          subst (λ (u : ℕ). IsSaid c.args.self.now u number part) (sym at)
          (subst (IsFirstAmong c.args.self.now c.loop-s.s (c.args.self.now.outputs + 1)) c.in_default.is c.in_ok-symbol.ensures number part within counted)
    ]
