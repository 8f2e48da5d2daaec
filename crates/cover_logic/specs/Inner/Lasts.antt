-- The last row that holds each value. Private functions need it; no public contract cites it.
use Rattle.std.specs.Prelude.{◌≡◌, ℕ, ◌+◌, ◌<◌, ◌≤◌, ◌^◌, ◌⊎◌, List, length, slice_index_or}
use Rattle.cover_terms.specs.declared.term.Term.{Term}
use Rattle.cover_terms.specs.Term.{Holds, IsCovered}

-- of the first `count` rows, a value has one more than the number of the last row that holds it, or 0 where none does
pub record AreLasts (width : ℕ) (rows : List Term) (count : ℕ) (chart : List ℕ) : Type 0 where
  pub size : length chart ≡ 2 ^ width
  pub bound : (x : ℕ) → x < 2 ^ width → slice_index_or chart x 0 ≤ count
  pub last : (x k : ℕ) (d : Term) → x < 2 ^ width → slice_index_or chart x 0 ≡ k + 1 → Holds (slice_index_or rows k d) x
  pub later : (x k : ℕ) (d : Term) → x < 2 ^ width → k < count → Holds (slice_index_or rows k d) x → k < slice_index_or chart x 0

-- of all rows, and at the values of on alone
pub record AreLastsOn (width : ℕ) (rows on : List Term) (chart : List ℕ) : Type 0 where
  pub size : length chart ≡ 2 ^ width
  pub bound : (x : ℕ) → x < 2 ^ width → slice_index_or chart x 0 ≤ length rows
  pub among : (x : ℕ) → x < 2 ^ width → (slice_index_or chart x 0 ≡ 0) ⊎ IsCovered on x
  pub last : (x k : ℕ) (d : Term) → x < 2 ^ width → slice_index_or chart x 0 ≡ k + 1 → Holds (slice_index_or rows k d) x
  pub later : (x k : ℕ) (d : Term) → x < 2 ^ width → IsCovered on x → k < length rows → Holds (slice_index_or rows k d) x → k < slice_index_or chart x 0
