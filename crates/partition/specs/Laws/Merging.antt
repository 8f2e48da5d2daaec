-- Two blocks put together give the least partition above that holds the two states together.
use Rattle.std.proofs.Common.{ℕ, ◌<◌, List, length, sym, ◌∙◌, refl, inl, inr}
use Rattle.partition.specs.Partition.{Together, Le}
use Rattle.partition.specs.MergedBlocks.{IsMerged}

pub merged_above : (p r : List ℕ) (s t : ℕ) → IsMerged p s t r → Le p r
merged_above p r s t is u v held = (is.together u v).1 (inl held)

pub merged_held : (p r : List ℕ) (s t : ℕ) → s < length p → t < length p → IsMerged p s t r → Together r s t
merged_held p r s t in_s in_t is = (is.together s t).1 (inr (inl ((in_s, in_s, refl), (in_t, in_t, refl))))

pub merged_least : (p r other : List ℕ) (s t : ℕ) → IsMerged p s t r → Le p other → Together other s t → Le r other
merged_least p r other s t is above held u v both =
    elim ((is.together u v).0 both) [
      | inl old ↦ above u v old
      | inr new ↦
          elim new [
            | inl way ↦
                let front = above u s way.0 in
                let back = above t v way.1 in
                (front.0, back.1, front.2 ∙ held.2 ∙ back.2)
            | inr way ↦
                let front = above u t way.0 in
                let back = above s v way.1 in
                (front.0, back.1, front.2 ∙ sym held.2 ∙ back.2)
          ]
    ]
