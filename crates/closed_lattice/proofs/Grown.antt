-- What growth over the least closed partitions gives.
use Rattle.std.proofs.Common.{ℕ, ◌<◌, inl, inr, List, length, subst, arith}
use Rattle.std.proofs.lemmas.Bool.{cases_eq, cases_lt}
use Rattle.kiss_file.specs.declared.file.KissFile.{KissFile}
use Rattle.partition.specs.Partition.{Together, Le}
use Rattle.partition.specs.Laws.Chains.{together_itself, together_turned}
use Rattle.pair_operators.specs.Growth.{IsGrowth, pairs_of}
use Rattle.pair_operators.specs.Laws.Growth.{grown_above, grown_keeps, grown_meets, growth_is_full}
use Rattle.closed_lattice.specs.ClosedPartitions.{IsClosedPartition, IsPrincipal}
use Rattle.closed_lattice.specs.Limits.{IsGreatestGrown}
use Rattle.closed_lattice.specs.Laws.Generating.{join_closed}

-- no closed partition strictly above the last one meets the condition
pub grown_greatest : (F : KissFile) (Meets : List ℕ → Type 0) → ((p q : List ℕ) → Le q p → Meets p → Meets q) → (start last : List ℕ) → IsClosedPartition F start → Meets start → IsGrowth (IsPrincipal F) Meets (length F.states) start last → IsGreatestGrown F Meets start last
grown_greatest F Meets down start last closed met growth = record {
  closed = ended;
  above = grown_above (length F.states) (IsPrincipal F) Meets (λ s t g is. is.lawful) start last (pairs_of (length F.states)) closed.0 growth;
  meets = grown_meets (length F.states) (IsPrincipal F) Meets start last (pairs_of (length F.states)) met growth;
  maximal = λ q is above q_meets s t held.
      elim (cases_lt s t) [
        | inl less ↦ reached q is above q_meets s t less held
        | inr more ↦ elim (cases_eq s t) [
          | inl same ↦ subst (λ (u : ℕ). Together last s u) same (together_itself last s (omega (arith, held.0, is.0.length, ended.0.length)))
          | inr other ↦ together_turned last t s (reached q is above q_meets t s (omega arith) (together_turned q s t held))
        ]
      ];
}
  where
    ended : IsClosedPartition F last
    ended =
        grown_keeps (length F.states) (IsPrincipal F) Meets (IsClosedPartition F)
        (λ p s t g joined is generates joins. join_closed F p g joined is (generates.lawful, generates.closed) joins)
        start last (pairs_of (length F.states)) closed growth

    reached : (q : List ℕ) → IsClosedPartition F q → Le last q → Meets q → (s t : ℕ) → s < t → Together q s t → Together last s t
    reached q is above q_meets s t less held =
        let cover = growth_is_full (length F.states) (IsPrincipal F) Meets (λ s t g is. is.lawful) (λ p q' one other le. down p q' le) start last closed.0 growth s t less (omega (arith, held.1, is.0.length)) in
        cover.2 q is.0 above (cover.1.least q is held) q_meets s t cover.1.together
