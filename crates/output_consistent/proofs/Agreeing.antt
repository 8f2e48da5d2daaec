-- Equal outputs: at each number of a symbol, and so for each symbol; and of all states of a block, by its least one.
use Rattle.std.proofs.Common.{◌≡◌, ◌∙◌, ℕ, ◌+◌, ◌<◌, ◌^◌, Bool, List, length, sym, subst, inl, inr, arith}
use Rattle.std.proofs.lemmas.Bool.{cases_eq}
use Rattle.cubes.specs.Symbol.{number_of, symbol_of}
use Rattle.cubes.specs.Laws.Numbers.{length-symbol_of, number_below, symbol_of-number_of}
use Rattle.kiss_file.specs.declared.file.KissFile.{KissFile}
use Rattle.kiss_file.specs.Machine.{out}
use Rattle.machine_table.specs.Pairs.{AgreeAt, AtEachSymbol}
use Rattle.pair_operators.specs.Consistency.{Consistent}
use Rattle.partition.specs.Laws.Least.{least_of-together, least_of-same}
use Rattle.partition.specs.NestedBlocks.{least_of}

-- what holds at each number of a symbol holds for each symbol
pub at_symbol : (inputs : ℕ) (P : List Bool → Type 0) → AtEachSymbol inputs (λ x. P (symbol_of inputs x)) → (x : List Bool) → length x ≡ inputs → P x
at_symbol inputs P each x size =
    let written : symbol_of inputs (number_of x) ≡ x = subst (λ (k : ℕ). symbol_of k (number_of x) ≡ x) size (symbol_of-number_of x) in
    let below : number_of x < 2 ^ inputs = subst (λ (k : ℕ). number_of x < 2 ^ k) size (number_below x) in
    subst P written (each (number_of x) below)

-- each of the first states has the outputs of the least state of its block
abbrev pub FirstsAgree : KissFile → List ℕ → ℕ → Type 0
FirstsAgree F p count = (s : ℕ) → s < count → AtEachSymbol F.inputs (AgreeAt F (least_of p s) s)

pub firsts_more : (F : KissFile) (p : List ℕ) (count : ℕ) → FirstsAgree F p count → AtEachSymbol F.inputs (AgreeAt F (least_of p count) count) → FirstsAgree F p (count + 1)
firsts_more F p count before here s within =
    elim (cases_eq s count) [
      | inl at ↦ subst (λ (u : ℕ). AtEachSymbol F.inputs (AgreeAt F (least_of p u) u)) (sym at) here
      | inr other ↦ before s (omega arith)
    ]

pub consistent_from_firsts : (F : KissFile) (p : List ℕ) → FirstsAgree F p (length p) → Consistent F p
consistent_from_firsts F p firsts s t x held size =
    let one : out F (least_of p s) x ≡ out F s x = at_symbol F.inputs (λ y. out F (least_of p s) y ≡ out F s y) (firsts s held.0) x size in
    let two : out F (least_of p t) x ≡ out F t x = at_symbol F.inputs (λ y. out F (least_of p t) y ≡ out F t y) (firsts t held.1) x size in
    sym one ∙ subst (λ (u : ℕ). out F u x ≡ out F t x) (sym (least_of-same p s t held.2)) two

pub firsts_from_consistent : (F : KissFile) (p : List ℕ) → Consistent F p → (s : ℕ) → s < length p → AtEachSymbol F.inputs (AgreeAt F (least_of p s) s)
firsts_from_consistent F p consistent s within x below = consistent (least_of p s) s (symbol_of F.inputs x) (least_of-together p s within) (length-symbol_of F.inputs x)
