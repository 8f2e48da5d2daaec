-- Least states of blocks, and the numbers of blocks.
use Rattle.std.proofs.Common.{◌≡◌, ℕ, ◌<◌, ◌≤◌, inl, inr, Some, List, [], Contains, length, get_or, slice_get, refl, sym, ap, ◌∙◌, arith}
use Rattle.std.specs.Prelude.{◌==◌}
use Rattle.std.specs.List.{position_or_len}
use Rattle.std.specs.Str.{bytes_eq}
use Rattle.std.proofs.lemmas.Bool.{cases_lt, eqb-true, false≢true}
use Rattle.std.proofs.lemmas.List.Sums.{fails_before_first, passes_at_first}
use Rattle.std.proofs.lemmas.Option.{same_Some, slice_get-get_or, slice_get_within}
use Rattle.std.proofs.lemmas.Slice.Eq.{bytes_eq-Decides}
use Rattle.kiss_file.specs.declared.file.KissFile.{KissFile}
use Rattle.kiss_file.specs.Names.{AreDistinct, name_of}
use Rattle.kiss2.specs.Laws.SameRecord.{number_once}
use Rattle.partition.specs.NestedBlocks.{least_of}
use Rattle.partition.specs.Partition.{Together}
use Rattle.state_reduce.specs.Inner.BlockNames.{AreAllNamed}
use Rattle.state_reduce.specs.Quotient.{block_name, block_names, block_number}
use Rattle.partition.specs.Laws.Least.{least_of-le, least_of-same}

-- the place of a name that is there
place_within : (names : List (List ℕ)) (name : List ℕ) → Contains names name → position_or_len (bytes_eq name) names < length names
place_within names name (k, within, here) =
    elim (cases_lt k (position_or_len (bytes_eq name) names)) [
      | inl before ↦ absurd (false≢true (sym (fails_before_first (bytes_eq name) names k name before) ∙ (bytes_eq-Decides name (get_or names k name)).1 (sym here)))
      | inr behind ↦ omega arith
    ]

pub place_has : (names : List (List ℕ)) (name : List ℕ) → Contains names name → slice_get names (position_or_len (bytes_eq name) names) ≡ Some name
place_has names name there =
    let within = place_within names name there in
    slice_get-get_or names (position_or_len (bytes_eq name) names) name within
    ∙ ap (λ (n : List ℕ). Some n) (sym ((bytes_eq-Decides name (get_or names (position_or_len (bytes_eq name) names) name)).0 (passes_at_first (bytes_eq name) names name within)))

module _ (p : List ℕ) (s : ℕ) (inside : s < length p) where
  -- the least state of a block is in it
  pub least_below : least_of p s ≤ s
  least_below = least_of-le p s s refl

  pub least_label : get_or p (least_of p s) 0 ≡ get_or p s 0
  least_label =
      let low = least_below in
      eqb-true (get_or p (least_of p s) 0) (get_or p s 0) (passes_at_first (λ label. label == get_or p s 0) p 0 (omega arith))

  pub least_again : least_of p (least_of p s) ≡ least_of p s
  least_again = least_of-same p (least_of p s) s least_label

  pub least_together : Together p (least_of p s) s
  least_together = let low = least_below in (omega arith, inside, least_label)

module _ (F : KissFile) (p : List ℕ) (distinct : AreDistinct F.states) where
  -- blocks with one name are one
  pub block_one : (s t : ℕ) → s < length F.states → t < length F.states → block_name F p s ≡ block_name F p t → least_of p s ≡ least_of p t
  block_one s t in_s in_t same =
      let low_s = least_of-le p s s refl in
      let low_t = least_of-le p t t refl in
      number_once F.states (block_name F p s) (least_of p s) (least_of p t) distinct
      (slice_get-get_or F.states (least_of p s) [] (omega arith))
      (slice_get-get_or F.states (least_of p t) [] (omega arith) ∙ ap (λ (n : List ℕ). Some n) (sym same))

  module _ (named : AreAllNamed F p) where
    -- at the number of a block stands its name
    pub number_has : (s : ℕ) → s < length F.states → slice_get (block_names F p) (block_number F p s) ≡ Some (block_name F p s)
    number_has s inside = place_has (block_names F p) (block_name F p s) (named s inside)

    pub number_within : (s : ℕ) → s < length F.states → block_number F p s < length (block_names F p)
    number_within s inside = slice_get_within (block_names F p) (block_number F p s) (block_name F p s) (number_has s inside)

    -- blocks with one number are one
    pub number_one : (s t : ℕ) → s < length F.states → t < length F.states → block_number F p s ≡ block_number F p t → least_of p s ≡ least_of p t
    number_one s t in_s in_t same =
        block_one s t in_s in_t
        (same_Some (block_name F p s) (block_name F p t) (sym (number_has s in_s) ∙ ap (slice_get (block_names F p)) same ∙ number_has t in_t))

-- states of one block have its number
pub number_same : (F : KissFile) (p : List ℕ) (s t : ℕ) → least_of p s ≡ least_of p t → block_number F p s ≡ block_number F p t
number_same F p s t same = ap (λ (u : ℕ). position_or_len (bytes_eq (name_of F.states u)) (block_names F p)) same

pub together_same : (F : KissFile) (p : List ℕ) (s t : ℕ) → Together p s t → block_number F p s ≡ block_number F p t
together_same F p s t held = number_same F p s t (least_of-same p s t held.2)
