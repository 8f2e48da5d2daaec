-- What is demanded of states that are together, over symbols as lists of bits.
use Rattle.std.proofs.Common.{◌≡◌, ℕ, inl, inr, Bool, List, length, refl, sym, subst, arith}
use Rattle.std.proofs.lemmas.Bool.{cases_order}
use Rattle.cubes.specs.Symbol.{symbol_of}
use Rattle.cubes.specs.Laws.Numbers.{length-symbol_of}
use Rattle.kiss_file.specs.declared.file.KissFile.{KissFile}
use Rattle.kiss_file.specs.Machine.{next, out}
use Rattle.pair_operators.specs.Consistency.{Consistent}
use Rattle.pair_operators.specs.Pair.{Closed}
use Rattle.partition.specs.Partition.{Together}
use Rattle.state_reduce.specs.declared.demands.Demand.TheVariants.{NextStates, Outputs}
use Rattle.state_reduce.specs.Inner.Demands.{IsMetByAll}
use Rattle.machine_table.specs.NextStates.{NeverLeaves}
use Rattle.state_reduce.specs.Laws.Alike.{at_symbol}
use Rattle.state_reduce.proofs.Rounds.{together_turned}

-- the partition is closed
pub closed_from_demand : (F : KissFile) (p : List ℕ) → length p ≡ length F.states → NeverLeaves F → IsMetByAll NextStates F p → Closed F p
closed_from_demand F p size inside met s t x held symbol =
    elim (cases_order s t) [
      | inl same ↦ subst (λ (u : ℕ). Together p (next F s x) (next F u x)) same
          (at_symbol F (λ (y : List Bool). Together p (next F s y) (next F s y)) x symbol
          (λ y below. let stays = inside s (symbol_of F.inputs y) (omega (arith, held.0, size)) (length-symbol_of F.inputs y) in (omega (arith, stays, size), omega (arith, stays, size), refl)))
      | inr apart ↦ elim apart [
        | inl order ↦ at_symbol F (λ (y : List Bool). Together p (next F s y) (next F t y)) x symbol (met s t order held)
        | inr order ↦ together_turned p (next F t x) (next F s x) (at_symbol F (λ (y : List Bool). Together p (next F t y) (next F s y)) x symbol (met t s order (together_turned p s t held)))
      ]
    ]

-- the partition is consistent
pub consistent_from_demand : (F : KissFile) (p : List ℕ) → IsMetByAll Outputs F p → Consistent F p
consistent_from_demand F p met s t x held symbol =
    elim (cases_order s t) [
      | inl same ↦ subst (λ (u : ℕ). out F s x ≡ out F u x) same refl
      | inr apart ↦ elim apart [
        | inl order ↦ at_symbol F (λ (y : List Bool). out F s y ≡ out F t y) x symbol (met s t order held)
        | inr order ↦ sym (at_symbol F (λ (y : List Bool). out F t y ≡ out F s y) x symbol (met t s order (together_turned p s t held)))
      ]
    ]
