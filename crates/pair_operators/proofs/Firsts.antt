-- A pair by the least states of blocks.
use Rattle.std.proofs.Common.{ℕ, ◌+◌, ◌<◌, List, length, sym, subst, inl, inr, arith}
use Rattle.std.proofs.lemmas.Bool.{cases_eq}
use Rattle.kiss_file.specs.declared.file.KissFile.{KissFile}
use Rattle.partition.specs.NestedBlocks.{least_of}
use Rattle.partition.specs.Laws.Least.{least_of-same, least_of-together}
use Rattle.pair_operators.specs.Pair.{Pair}
use Rattle.pair_operators.specs.NextBlocks.{Goes}
use Rattle.pair_operators.specs.Laws.Going.{goes_each, goes_in_pair, goes_turned, goes_on}

-- each state goes with the least state of its block
abbrev pub FirstsGo : KissFile → List ℕ → List ℕ → ℕ → Type 0
FirstsGo F p q count = (s : ℕ) → s < count → Goes F q (least_of p s) s

pub firsts_more : (F : KissFile) (p q : List ℕ) (count : ℕ) → FirstsGo F p q count → Goes F q (least_of p count) count → FirstsGo F p q (count + 1)
firsts_more F p q count before here s within =
    elim (cases_eq s count) [
      | inl at ↦ subst (λ (u : ℕ). Goes F q (least_of p u) u) (sym at) here
      | inr other ↦ before s (omega arith)
    ]

pub pair_from_firsts : (F : KissFile) (p q : List ℕ) → FirstsGo F p q (length p) → Pair F p q
pair_from_firsts F p q firsts s t x held size =
    let one : Goes F q (least_of p s) s = firsts s held.0 in
    let two : Goes F q (least_of p s) t = subst (λ (u : ℕ). Goes F q u t) (sym (least_of-same p s t held.2)) (firsts t held.1) in
    goes_each F q s t (goes_on F q s (least_of p s) t (goes_turned F q (least_of p s) s one) two) x size

pub firsts_from_pair : (F : KissFile) (p q : List ℕ) → Pair F p q → (s : ℕ) → s < length p → Goes F q (least_of p s) s
firsts_from_pair F p q pair s within = goes_in_pair F p q (least_of p s) s pair (least_of-together p s within)
