-- Partitions in which pairs of states are merged, one kind after another.
use Rattle.std.proofs.Common.{◌≡◌, ℕ, ◌+◌, ◌<◌, ◌↔◌, ◌⊎◌, List, ◌++◌, length, get_or, drop, Some, Contains, inl, inr, sym, ◌∙◌, subst, refl, arith, ap}
use Rattle.std.proofs.lemmas.List.{drop_at, get_or_default}
use Rattle.std.proofs.lemmas.List.Elements.{Contains-append_cases, Contains-append_right}
use Rattle.cubes.specs.Symbol.{symbol_of}
use Rattle.cubes.specs.Laws.Numbers.{length-symbol_of}
use Rattle.kiss_file.specs.declared.file.KissFile.{KissFile}
use Rattle.kiss_file.specs.Machine.{Conflicting}
use Rattle.state_pairs.specs.Pairs.{IsImage}
use Rattle.state_pairs.specs.AddedPairs.{AddsPairs, AreNamed, BelowCount, IsFound, IsListedPair, IsOpenImage, IsPairAt}
use Rattle.state_pairs.specs.SeenPairs.{AreStates}
use Rattle.state_pairs.specs.MergedStates.{MergesPairs}
use Rattle.state_pairs.specs.NextStates.{NeverLeaves}
use Rattle.state_pairs.specs.Table.{IsTable}
use Rattle.state_pairs.specs.Laws.AddedPairs.{below_more, none_below}
use Rattle.state_pairs.specs.Laws.NamedPairs.{image_from_named, image_from_open}
use Rattle.state_pairs.specs.Laws.Staying.{never_leaves}
use Rattle.partition.specs.Partition.{IsOne, IsPartition, Le, Together, blocks_of}
use Rattle.partition.specs.MergedBlocks.{IsMerged}
use Rattle.partition.specs.Laws.Labels.{IsPartition-of, label-lt-blocks_of}
use Rattle.partition.specs.Laws.Merging.{merged_above, merged_held, merged_least}

-- the states of an image
pub image_states : (F : KissFile) (s t : ℕ) → NeverLeaves F → s < length F.states → t < length F.states → AreStates (length F.states) (IsImage F s t)
image_states F s t stays in_s in_t u v (x, below, first, second) = (
  subst (λ (n : ℕ). n < length F.states) first (stays s (symbol_of F.inputs x) in_s (length-symbol_of F.inputs x)),
  subst (λ (n : ℕ). n < length F.states) second (stays t (symbol_of F.inputs x) in_t (length-symbol_of F.inputs x)),
)

-- the same of the pairs that rows name, and of those at symbols that they leave open
module _ (F : KissFile) (table : IsTable F) (no_conflict : Conflicting F → ⊥) (s t : ℕ) (in_s : s < length F.states) (in_t : t < length F.states) where
  pub named_are_states : AreStates (length F.states) (AreNamed F s t)
  named_are_states u v named = image_states F s t (never_leaves F table no_conflict) in_s in_t u v (image_from_named F table no_conflict s t u v named)

  pub open_are_states : AreStates (length F.states) (IsOpenImage F s t)
  open_are_states u v left = image_states F s t (never_leaves F table no_conflict) in_s in_t u v (image_from_open F table no_conflict s t u v left)

-- the states of one block are all together
pub one_block : (p : List ℕ) → blocks_of p ≡ 1 → IsOne p
one_block p one s t in_s in_t = (in_s, in_t, omega (arith, label-lt-blocks_of p s in_s, label-lt-blocks_of p t in_t))

-- pairs of which there are none
pub merges_none : (P : ℕ → ℕ → Type 0) (q : List ℕ) → IsPartition (length q) q → ((u v : ℕ) → P u v → ⊥) → MergesPairs P q q
merges_none P q lawful none = record {
  lawful = lawful;
  above = λ s t held. held;
  held = λ u v has. absurd (none u v has);
  least = λ other lawful above all. above;
}

-- the same pairs, told in another way
pub merges_as : (P Q : ℕ → ℕ → Type 0) (q r : List ℕ) → ((u v : ℕ) → P u v ↔ Q u v) → MergesPairs P q r → MergesPairs Q q r
merges_as P Q q r same is = record {
  lawful = is.lawful;
  above = is.above;
  held = λ u v has. is.held u v ((same u v).1 has);
  least = λ other lawful above all. is.least other lawful above (λ u v has. all u v ((same u v).0 has));
}

-- pairs of one kind, and then those of another
pub merges_then : (P Q : ℕ → ℕ → Type 0) (q r o : List ℕ) → MergesPairs P q r → MergesPairs Q r o → MergesPairs (λ u v. P u v ⊎ Q u v) q o
merges_then P Q q r o first second = record {
  lawful = IsPartition-of first.lawful.length second.lawful;
  above = λ s t held. second.above s t (first.above s t held);
  held = both;
  least = λ other lawful above all.
      second.least other (IsPartition-of (sym first.lawful.length) lawful) (first.least other lawful above (λ u v has. all u v (inl has)))
      (λ u v has. all u v (inr has));
}
  where
    both : (u v : ℕ) → P u v ⊎ Q u v → Together o u v
    both u v (inl has) = second.above u v (first.held u v has)
    both u v (inr has) = second.held u v has

-- where all states are one block, the states of any more pairs are together
pub merges_rest : (P Q : ℕ → ℕ → Type 0) (q r : List ℕ) → blocks_of r ≡ 1 → ((u v : ℕ) → P u v → Q u v) → AreStates (length q) Q → MergesPairs P q r → MergesPairs Q q r
merges_rest P Q q r one more states is = record {
  lawful = is.lawful;
  above = is.above;
  held = λ u v has.
      let both = states u v has in
      one_block r one u v (omega (arith, both.0, is.lawful.length)) (omega (arith, both.1, is.lawful.length));
  least = λ other lawful above all. is.least other lawful above (λ u v has. all u v (more u v has));
}

-- one pair
pub merges_pair : (q r : List ℕ) (pair : ℕ × ℕ) → pair.0 < length q → pair.1 < length q → IsMerged q pair.0 pair.1 r → MergesPairs (IsFound (Some pair)) q r
merges_pair q r pair first second is = record {
  lawful = is.lawful;
  above = merged_above q r pair.0 pair.1 is;
  held = λ u v found.
      let same : pair ≡ (u, v) = cc in
      subst (λ (p : ℕ × ℕ). Together r p.0 p.1) same (merged_held q r pair.0 pair.1 first second is);
  least = λ other lawful above all. merged_least q r other pair.0 pair.1 is above (all pair.0 pair.1 refl);
}

-- ---- what is told of numbers below a count
pub merges_below_none : (R : ℕ → ℕ → ℕ → Type 0) (q : List ℕ) → IsPartition (length q) q → MergesPairs (BelowCount R 0) q q
merges_below_none R q lawful = merges_none (BelowCount R 0) q lawful (none_below R)

pub merges_more : (R : ℕ → ℕ → ℕ → Type 0) (i : ℕ) (P : ℕ → ℕ → Type 0) (q r o : List ℕ) → ((u v : ℕ) → P u v ↔ R i u v)
    → MergesPairs (BelowCount R i) q r → MergesPairs P r o → MergesPairs (BelowCount R (i + 1)) q o
merges_more R i P q r o same first second =
    merges_as (λ u v. BelowCount R i u v ⊎ P u v) (BelowCount R (i + 1)) q o (below_more R i P same) (merges_then (BelowCount R i) P q r o first second)

-- the pair at a place of a list
pub at_this_pair : (pairs : List (ℕ × ℕ)) (i : ℕ) (pair : ℕ × ℕ) → pair ≡ get_or pairs i pair → i < length pairs → (u v : ℕ) → IsFound (Some pair) u v ↔ IsPairAt pairs i u v
at_this_pair pairs i pair here within u v = (there, back) where
  there : IsFound (Some pair) u v → IsPairAt pairs i u v
  there found = let same : pair ≡ (u, v) = cc in subst (λ (p : ℕ × ℕ). get_or pairs i p ≡ p) same (sym here)

  back : IsPairAt pairs i u v → IsFound (Some pair) u v
  back is = ap (λ (p : ℕ × ℕ). Some p) (here ∙ get_or_default pairs i pair (u, v) within ∙ is)

-- ---- pairs that were added to a list of pairs that are together
module _ (P : ℕ → ℕ → Type 0) (old more : List (ℕ × ℕ)) (adds : AddsPairs P old more) where
  abbrev new_pairs : List (ℕ × ℕ)
  new_pairs = drop (length old) more

  whole : more ≡ old ++ new_pairs
  whole = adds.longer.1 ∙ ap (λ (list : List (ℕ × ℕ)). old ++ list) (sym (ap (λ (list : List (ℕ × ℕ)). drop (length old) list) adds.longer.1 ∙ drop_at old adds.longer.0 (length old) refl))

  old_or_new : (u v : ℕ) → Contains more (u, v) → Contains old (u, v) ⊎ Contains (drop (length old) more) (u, v)
  old_or_new u v among = Contains-append_cases old new_pairs (u, v) (subst (λ (list : List (ℕ × ℕ)). Contains list (u, v)) whole among)

  -- a new pair was in the list, or is one of the relation
  known_or_added : (u v : ℕ) → IsListedPair (drop (length old) more) u v → Contains old (u, v) ⊎ P u v
  known_or_added u v among = (adds.each u v).0 (subst (λ (list : List (ℕ × ℕ)). Contains list (u, v)) (sym whole) (Contains-append_right old new_pairs (u, v) among))

  module _ (q : List ℕ) (known : (u v : ℕ) → Contains old (u, v) → Together q u v) where
    pub new_are_states : AreStates (length q) P → AreStates (length q) (IsListedPair (drop (length old) more))
    new_are_states states u v new =
        elim (known_or_added u v new) [
          | inl before ↦ let held = known u v before in (held.0, held.1)
          | inr has ↦ states u v has
        ]

    module _ (r : List ℕ) (merged : MergesPairs (IsListedPair (drop (length old) more)) q r) where
      pub all_known : (u v : ℕ) → Contains more (u, v) → Together r u v
      all_known u v among =
          elim (old_or_new u v among) [
            | inl before ↦ merged.above u v (known u v before)
            | inr new ↦ merged.held u v new
          ]

      pub merges_added : MergesPairs P q r
      merges_added = record {
        lawful = merged.lawful;
        above = merged.above;
        held = λ u v has. all_known u v ((adds.each u v).1 (inr has));
        least = λ other lawful above all. merged.least other lawful above (λ u v new. others other above all u v (known_or_added u v new));
      }
        where
          others : (other : List ℕ) → Le q other → ((u v : ℕ) → P u v → Together other u v) → (u v : ℕ) → Contains old (u, v) ⊎ P u v → Together other u v
          others other above all u v (inl before) = above u v (known u v before)
          others other above all u v (inr has) = all u v has
