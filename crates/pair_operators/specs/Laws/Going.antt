-- Two states go together: for each number of a symbol, and so for each symbol.
use Rattle.std.proofs.Common.{◌≡◌, ℕ, ◌<◌, ◌^◌, Bool, List, length, ◌∙◌, subst, refl, arith}
use Rattle.cubes.specs.Symbol.{number_of, symbol_of}
use Rattle.cubes.specs.Laws.Numbers.{length-symbol_of, number_below, symbol_of-number_of}
use Rattle.kiss_file.specs.declared.file.KissFile.{KissFile}
use Rattle.kiss_file.specs.Machine.{next}
use Rattle.machine_table.specs.Pieces.{IsImage}
use Rattle.machine_table.specs.MergedStates.{MergesImages}
use Rattle.machine_table.specs.NextStates.{NeverLeaves}
use Rattle.partition.specs.Partition.{Together, Le}
use Rattle.partition.specs.Laws.Chains.{together_turned}
use Rattle.pair_operators.specs.Pair.{Pair}
use Rattle.pair_operators.specs.NextBlocks.{Goes}

-- at each symbol
pub goes_each : (F : KissFile) (q : List ℕ) (s t : ℕ) → Goes F q s t → (x : List Bool) → length x ≡ F.inputs → Together q (next F s x) (next F t x)
goes_each F q s t goes x size =
    let written : symbol_of F.inputs (number_of x) ≡ x = subst (λ (k : ℕ). symbol_of k (number_of x) ≡ x) size (symbol_of-number_of x) in
    let below : number_of x < 2 ^ F.inputs = subst (λ (k : ℕ). number_of x < 2 ^ k) size (number_below x) in
    subst (λ (y : List Bool). Together q (next F s y) (next F t y)) written (goes (number_of x) below)

pub goes_from : (F : KissFile) (q : List ℕ) (s t : ℕ) → ((x : List Bool) → length x ≡ F.inputs → Together q (next F s x) (next F t x)) → Goes F q s t
goes_from F q s t each x below = each (symbol_of F.inputs x) (length-symbol_of F.inputs x)

-- states that are together in the left side of a pair
pub goes_in_pair : (F : KissFile) (p q : List ℕ) (s t : ℕ) → Pair F p q → Together p s t → Goes F q s t
goes_in_pair F p q s t pair held = goes_from F q s t (λ x size. pair s t x held size)

-- the next states of two states that are merged
pub goes_merged : (F : KissFile) (q r : List ℕ) (s t : ℕ) → MergesImages F s t q r → Goes F r s t
goes_merged F q r s t merged x below = merged.held _ _ (x, below, refl, refl)

pub images_going : (F : KissFile) (q : List ℕ) (s t : ℕ) → Goes F q s t → (u v : ℕ) → IsImage F s t u v → Together q u v
images_going F q s t goes u v (x, below, first, second) =
    subst (λ (w : ℕ). Together q u w) second (subst (λ (w : ℕ). Together q w (next F t (symbol_of F.inputs x))) first (goes x below))

pub goes_itself : (F : KissFile) (q : List ℕ) (s : ℕ) → NeverLeaves F → length q ≡ length F.states → s < length F.states → Goes F q s s
goes_itself F q s stays size within x below =
    let inside : next F s (symbol_of F.inputs x) < length q = omega (arith, size, stays s (symbol_of F.inputs x) within (length-symbol_of F.inputs x)) in
    (inside, inside, refl)

pub goes_turned : (F : KissFile) (q : List ℕ) (s t : ℕ) → Goes F q s t → Goes F q t s
goes_turned F q s t goes x below = together_turned q _ _ (goes x below)

pub goes_on : (F : KissFile) (q : List ℕ) (s t u : ℕ) → Goes F q s t → Goes F q t u → Goes F q s u
goes_on F q s t u front back x below =
    let one = front x below in
    let two = back x below in
    (one.0, two.1, one.2 ∙ two.2)

pub goes_above : (F : KissFile) (q r : List ℕ) (s t : ℕ) → Le q r → Goes F q s t → Goes F r s t
goes_above F q r s t above goes x below = above _ _ (goes x below)
