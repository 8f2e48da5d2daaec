-- Codes that are tried one after another, in the order of their texts.
use Rattle.std.specs.Prelude.{◌≡◌, ◌⊎◌, ℕ, ◌^◌, ◌<◌, ◌≤◌, ⊤, List, Option, Some, None, length, slice_index}
use Rattle.std.specs.Int.{bit_at}
use Rattle.kiss_file.specs.declared.file.KissFile.{KissFile}
use Rattle.least_codes.specs.declared.code.Best.{Best}
use Rattle.least_codes.specs.Cost.{IsCost}
use Rattle.least_codes.specs.Inner.Table.{IsImageTable}
use Rattle.least_codes.specs.LeastCode.{AreCodeWords, TextsBefore}
use Rattle.least_codes.specs.declared.table.Images.{Images}

-- a state before s has the same code
abbrev pub IsUsed : List ℕ → ℕ → Type 0
IsUsed words s = (u : ℕ) × (u < s) × (slice_index words u ≡ slice_index words s)

-- a draft of codes: those of the states before s, all different, and the first i bits of the code of s; all
-- other bits are 0
pub record IsDraft (bits : ℕ) (words : List ℕ) (s i : ℕ) : Type 0 where
  pub state : s ≤ length words
  pub bit : i ≤ bits
  pub short : (u : ℕ) → u < s → slice_index words u < 2 ^ bits
  pub distinct : (u v : ℕ) → u < s → v < s → slice_index words u ≡ slice_index words v → u ≡ v
  pub begun : (c : ℕ) → i ≤ c → bit_at (slice_index words s) c ≡ 0
  pub later : (u : ℕ) → s < u → slice_index words u ≡ 0

-- these codes have a 0 at a place before bit i of s where the words have a 1, and are the same as the words
-- before that place
pub record AreBefore (words : List ℕ) (s i : ℕ) (others : List ℕ) : Type 0 where
  pub order : TextsBefore others words
  pub early : (order.state < s) ⊎ ((order.state ≡ s) × (order.bit < i))

-- these codes are the same as the words before bit i of s
pub record BeginSame (words : List ℕ) (s i : ℕ) (others : List ℕ) : Type 0 where
  pub states : (u : ℕ) → u < s → slice_index others u ≡ slice_index words u
  pub bits : (c : ℕ) → c < i → bit_at (slice_index others s) c ≡ bit_at (slice_index words s) c

abbrev pub AreSeen : List ℕ → (s i : ℕ) → List ℕ → Type 0
AreSeen words s i others = AreBefore words s i others ⊎ BeginSame words s i others

-- of the codes that were seen these cost the least, and of those that cost the same they have the first texts
pub record IsBest (F : KissFile) (bits : ℕ) (Seen : List ℕ → Type 0) (best : Best) : Type 0 where
  pub codes : AreCodeWords (length F.states) bits best.words.items
  pub seen : Seen best.words.items
  pub cost : IsCost F best.words.items bits best.cost
  pub least : (others : List ℕ) (other : ℕ) → AreCodeWords (length F.states) bits others → Seen others → IsCost F others bits other → best.cost ≤ other
  pub first : (others : List ℕ) → AreCodeWords (length F.states) bits others → Seen others → IsCost F others bits best.cost → (others ≡ best.words.items) ⊎ TextsBefore best.words.items others

-- the best of the codes that were seen, or None if none were seen
abbrev pub IsBestSeen : KissFile → ℕ → (List ℕ → Type 0) → Option Best → Type 0
IsBestSeen F bits Seen None = (others : List ℕ) → AreCodeWords (length F.states) bits others → Seen others → ⊥
IsBestSeen F bits Seen (Some best) = IsBest F bits Seen best

-- the cost is below that of the best, if there is one
abbrev pub IsLessThan : ℕ → Option Best → Type 0
IsLessThan cost None = ⊤
IsLessThan cost (Some best) = cost < best.cost

-- codes that cost less replace the best
pub record Takes (words : List ℕ) (cost : ℕ) (old new : Option Best) : Type 0 where
  pub less : IsLessThan cost old
  pub best : Best
  pub is : new ≡ Some best
  pub words_are : best.words.items ≡ words
  pub cost_is : best.cost ≡ cost

-- the best stays, where the codes do not cost less
pub record Stays (cost : ℕ) (old new : Option Best) : Type 0 where
  pub not_less : IsLessThan cost old → ⊥
  pub same : new ≡ old

abbrev pub IsBestWith : List Images → ℕ → List ℕ → Option Best → Option Best → Type 0
IsBestWith table bits words old new =
    (cost : ℕ) × ((F : KissFile) → IsImageTable F table → length F.states ≡ length words → IsCost F words bits cost) × (Takes words cost old new ⊎ Stays cost old new)
