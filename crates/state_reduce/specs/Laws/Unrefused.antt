-- The partition of alike states is closed and consistent, so it is refused for want of memory alone.
use Rattle.std.proofs.Common.{◌≡◌, ℕ, Bool, List, refl, arith}
use Rattle.cubes.specs.Symbol.{symbol_of}
use Rattle.cubes.specs.Laws.Numbers.{length-symbol_of}
use Rattle.kiss_file.specs.declared.file.KissFile.{KissFile}
use Rattle.kiss_file.specs.Machine.{next, out}
use Rattle.machine_table.specs.NextStates.{NeverLeaves}
use Rattle.pair_operators.specs.Consistency.{Consistent}
use Rattle.pair_operators.specs.Pair.{Closed}
use Rattle.partition.specs.Partition.{Together}
use Rattle.state_reduce.specs.declared.demands.QuotientFail.{QuotientFail}
use Rattle.state_reduce.specs.declared.demands.QuotientFail.TheVariants.{NotClosed, NotConsistent, NoMemory}
use Rattle.state_reduce.specs.AlikeStates.{Alike, IsEquivalence}
use Rattle.state_reduce.specs.Cause.{Caused}
use Rattle.state_reduce.specs.Laws.Alike.{alike_agree, alike_next, at_symbol}

module _ (F : KissFile) (p : List ℕ) (is : IsEquivalence F p) where
  alike_of : (s t : ℕ) → Together p s t → Alike F s t
  alike_of s t held = (is.together s t (omega (arith, held.0, is.lawful.length)) (omega (arith, held.1, is.lawful.length))).0 held

  pub alike_consistent : Consistent F p
  alike_consistent s t x held size =
      at_symbol F (λ (y : List Bool). out F s y ≡ out F t y) x size (alike_agree F s t (alike_of s t held))

  pub alike_closed : NeverLeaves F → Closed F p
  alike_closed inside s t x held size =
      at_symbol F (λ (y : List Bool). Together p (next F s y) (next F t y)) x size
      (λ y within. (is.together _ _ (inside s (symbol_of F.inputs y) (omega (arith, held.0, is.lawful.length)) (length-symbol_of F.inputs y)) (inside t (symbol_of F.inputs y) (omega (arith, held.1, is.lawful.length)) (length-symbol_of F.inputs y))).1 (alike_next F s t y (alike_of s t held)))

  pub unrefused : (fail : QuotientFail) → NeverLeaves F → Caused F p fail → fail ≡ NoMemory
  unrefused (NotClosed s t x) inside first =
      absurd (first.symbol.without (alike_closed inside s t (symbol_of F.inputs x) first.together (length-symbol_of F.inputs x)))
  unrefused (NotConsistent s t x) inside first =
      absurd (first.1.symbol.without (alike_consistent s t (symbol_of F.inputs x) first.1.together (length-symbol_of F.inputs x)))
  unrefused NoMemory inside both = refl
