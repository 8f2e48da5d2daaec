-- What the least state of each block meets with the others, all states of the block meet.
use Rattle.std.proofs.Common.{◌≡◌, ℕ, ◌+◌, ◌<◌, ◌≤◌, inl, inr, List, length, sym, ◌∙◌, subst, arith}
use Rattle.std.proofs.lemmas.Bool.{cases_eq}
use Rattle.kiss_file.specs.declared.file.KissFile.{KissFile}
use Rattle.partition.specs.NestedBlocks.{least_of}
use Rattle.partition.specs.Partition.{Together}
use Rattle.state_reduce.specs.declared.demands.Demand.{Demand}
use Rattle.state_reduce.specs.declared.demands.Demand.TheVariants.{NextStates, Outputs}
use Rattle.state_reduce.specs.Inner.Demands.{IsMet, IsMetBehind, IsMetByAll}
use Rattle.state_reduce.proofs.Numbers.{least_again, least_below, least_together}

-- by way of a third state
met_by_third : (demand : Demand) (F : KissFile) (p : List ℕ) (w s t x : ℕ) → IsMet demand F p w s x → IsMet demand F p w t x → IsMet demand F p s t x
met_by_third NextStates F p w s t x one two = (one.1, two.1, sym one.2 ∙ two.2)
met_by_third Outputs F p w s t x one two = sym one ∙ two

-- the least states below s meet it with all later ones of their blocks
abbrev pub AreLeastsMet : Demand → KissFile → List ℕ → ℕ → Type 0
AreLeastsMet demand F p s = (u : ℕ) → u < s → least_of p u ≡ u → IsMetBehind demand F p u (length F.states)

module _ (demand : Demand) (F : KissFile) (p : List ℕ) (size : length p ≡ length F.states) where
  -- so all states below s do
  pub all_met : (s : ℕ) → AreLeastsMet demand F p s → (u : ℕ) → u < s → IsMetBehind demand F p u (length F.states)
  all_met s leasts u below t order within held x symbol =
      let in_p : u < length p = held.0 in
      let low : least_of p u ≤ u = least_below p u in_p in
      let least : Together p (least_of p u) u = least_together p u in_p in
      elim (cases_eq (least_of p u) u) [
        | inl same ↦ leasts u below same t order within held x symbol
        | inr other ↦
            let behind = leasts (least_of p u) (omega arith) (least_again p u in_p) in
            met_by_third demand F p (least_of p u) u t x
            (behind u (omega arith) (omega arith) least x symbol)
            (behind t (omega arith) within (least.0, held.1, least.2 ∙ held.2) x symbol)
      ]

  -- one state more, which is no least one or meets it
  pub leasts_more : (s : ℕ) → AreLeastsMet demand F p s → (least_of p s ≡ s → IsMetBehind demand F p s (length F.states)) → AreLeastsMet demand F p (s + 1)
  leasts_more s leasts here u below least =
      elim (cases_eq u s) [
        | inl at ↦ subst (λ (v : ℕ). IsMetBehind demand F p v (length F.states)) (sym at) (here (subst (λ (v : ℕ). least_of p v ≡ v) at least))
        | inr other ↦ leasts u (omega arith) least
      ]

  pub met_by_all : AreLeastsMet demand F p (length p) → IsMetByAll demand F p
  met_by_all leasts s t order held x symbol = all_met (length p) leasts s held.0 t order (omega (arith, held.1)) held x symbol
