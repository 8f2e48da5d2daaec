-- What two states go to, put together, is m of the partition that holds them together.
use Rattle.std.proofs.Common.{◌≡◌, ℕ, ◌<◌, inl, inr, List, ◌∷◌, length, sym, ◌∙◌, subst, arith}
use Rattle.kiss_file.specs.declared.file.KissFile.{KissFile}
use Rattle.machine_table.specs.MergedStates.{MergesImages}
use Rattle.machine_table.specs.NextStates.{NeverLeaves}
use Rattle.partition.specs.Laws.Extremes.{zero_of_is_partition, zero_of_below}
use Rattle.partition.specs.Laws.Labels.{IsPartition-of}
use Rattle.partition.specs.Partition.{IsHold, IsPartition, IsStateCount, Together, zero_of}
use Rattle.pair_operators.specs.Laws.Going.{goes_each, goes_in_pair, goes_itself, goes_merged, goes_turned, images_going}
use Rattle.pair_operators.specs.NextBlocks.{Goes}
use Rattle.partition.specs.Laws.Holds.{hold_exists}
use Rattle.mm_lattice.specs.Generators.{IsRightOf}

pub right_held : (F : KissFile) (s t : ℕ) (zeros right : List ℕ) → NeverLeaves F → IsStateCount (length F.states) → s < t → t < length F.states → zeros ≡ zero_of (length F.states) → MergesImages F s t zeros right → IsRightOf F s t right
right_held F s t zeros right stays count order within is merged =
    let found = hold_exists (length F.states) s t count order within in
    record {
      hold = found.0;
      holds = found.1;
      low = record {
        lawful = lawful;
        pair = λ u v x held width. goes_each F right u v (goes found.0 found.1 u v held) x width;
        least = λ other other_lawful pair.
            merged.least other (IsPartition-of (sym size) other_lawful)
            (λ u v held. zero_of_below (length F.states) other other_lawful u v (subst (λ (p : List ℕ). Together p u v) is held))
            (images_going F other s t (goes_in_pair F found.0 other s t pair found.1.held));
      };
    }
  where
    size : length zeros ≡ length F.states
    size = subst (λ (p : List ℕ). length p ≡ length F.states) (sym is) (zero_of_is_partition (length F.states) count).length

    lawful : IsPartition (length F.states) right
    lawful = IsPartition-of size merged.lawful

    together : Goes F right s t
    together = goes_merged F zeros right s t merged

    goes : (hold : List ℕ) → IsHold (length F.states) s t hold → (u v : ℕ) → Together hold u v → Goes F right u v
    goes hold holds u v held =
        elim (holds.nothing_else u v held) [
          | inl same ↦ subst (λ (k : ℕ). Goes F right u k) same (goes_itself F right u stays lawful.length (omega (arith, held.0, holds.lawful.length)))
          | inr rest ↦ elim rest [
            | inl (first, second) ↦ subst (λ (k : ℕ). Goes F right u k) (sym second) (subst (λ (k : ℕ). Goes F right k t) (sym first) together)
            | inr (first, second) ↦ subst (λ (k : ℕ). Goes F right u k) (sym second) (subst (λ (k : ℕ). Goes F right k s) (sym first) (goes_turned F right s t together))
          ]
        ]
