use Rattle.std.proofs.Common.{ℕ, ◌≡◌, ◌<◌, ◌⊎◌, inl, inr, List, length, sym, subst, arith}
use Rattle.kiss_file.specs.declared.file.KissFile.{KissFile}
use Rattle.machine_table.specs.Pairs.{AtEachSymbol}
use Rattle.partition.specs.Partition.{Together}
use Rattle.state_reduce.specs.declared.demands.Demand.{Demand}
use Rattle.state_reduce.specs.declared.demands.Demand.TheVariants.{NextStates, Outputs}
use Rattle.state_reduce.specs.Inner.Demands.{IsFirstBehind, IsFirstUnmet, IsMet, IsMetBehind}
use Rattle.state_reduce.proofs.Leasts.{all_met, met_by_all}
use Rattle.state_reduce.proofs.demands.first_against.Goals as goal

module _ (demand : Demand) (F : KissFile) (p : List ℕ) (s t x : ℕ) (size : length p ≡ length F.states) (before : (u : ℕ) → u < s → IsMetBehind demand F p u (length F.states)) (found : IsFirstBehind demand F p s t x) where
  -- two states before s and t meet the demand
  earlier_meet : (u v : ℕ) → u < v → Together p u v → (u < s) ⊎ ((u ≡ s) × (v < t)) → AtEachSymbol F.inputs (IsMet demand F p u v)
  earlier_meet u v order held (inl lower) = before u lower v order (omega (arith, held.1, size)) held
  earlier_meet u v order held (inr here) =
      subst (λ (w : ℕ). AtEachSymbol F.inputs (IsMet demand F p w v)) (sym here.0)
      (found.before v (omega (arith, here.0, order)) here.1 (subst (λ (w : ℕ). Together p w v) here.0 held))

-- the first state with a later one that does not meet the demand, and the first such
first_two : (demand : Demand) (F : KissFile) (p : List ℕ) (s t x : ℕ) → length p ≡ length F.states → ((u : ℕ) → u < s → IsMetBehind demand F p u (length F.states))
    → IsFirstBehind demand F p s t x → IsFirstUnmet demand F p s t x
first_two NextStates F p s t x size before found =
    record { order = found.order; together = found.together; symbol = found.symbol; before = earlier_meet NextStates F p s t x size before found }
first_two Outputs F p s t x size before found =
    record { order = found.order; together = found.together; symbol = found.symbol; before = earlier_meet Outputs F p s t x size before found }

pub returns-in-Some-clause-some : goal.returns-in-Some-clause-some
returns-in-Some-clause-some c =
    first_two c.args.demand c.args.m.now c.args.p.now c.loop-s.s c.in-Some.t c.in-Some.x c.requires
    (all_met c.args.demand c.args.m.now c.args.p.now c.requires c.loop-s.s c.loop-s.invariant) c.in-Some.ensures.some

pub returns-clause-none : goal.returns-clause-none
returns-clause-none c =
    met_by_all c.args.demand c.args.m.now c.args.p.now c.requires (λ u below. c.loop-s.invariant u (omega (arith, c.loop-s-test.false, c.len-s-end.ensures.len)))
