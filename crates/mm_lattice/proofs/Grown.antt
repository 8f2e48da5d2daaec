-- What the next states of two states make of a partition is its join with their right side.
use Rattle.std.proofs.Common.{◌≡◌, ℕ, zero, suc, ◌+◌, ◌^◌, ◌<◌, ◌≤◌, ◌⊎◌, inl, inr, List, length, get_or, Some, refl, sym, ap, ◌∙◌, subst, arith}
use Rattle.cubes.specs.Symbol.{symbol_of}
use Rattle.cubes.specs.Laws.Numbers.{length-symbol_of}
use Rattle.kiss_file.specs.declared.file.KissFile.{KissFile}
use Rattle.kiss_file.specs.Machine.{next}
use Rattle.machine_table.specs.Pieces.{IsImage}
use Rattle.state_pairs.specs.AddedPairs.{BelowCount, IsFound}
use Rattle.machine_table.specs.MergedStates.{MergesImages, MergesPairs}
use Rattle.machine_table.specs.NextStates.{NeverLeaves}
use Rattle.state_pairs.specs.Laws.MergedPairs.{merges_as, merges_below_none, merges_more, merges_pair}
use Rattle.mm_lattice.specs.Generators.{IsRightOf}
use Rattle.mm_lattice.proofs.Holds.{right_held}
use Rattle.partition.specs.Laws.Chains.{chain_keeps, chain_link, chain_on, chain_within, together_turned}
use Rattle.partition.specs.Laws.Extremes.{zero_of_below, zero_of_is_partition}
use Rattle.partition.specs.Laws.Labels.{IsPartition-of}
use Rattle.partition.specs.MeetAndJoin.{Chain, IsJoin}
use Rattle.partition.specs.Partition.{IsPartition, Together, zero_of}
use Rattle.partition.specs.Laws.Holds.{merged_stands}

-- ---- the next states of two states, symbol by symbol
module _ (F : KissFile) (s t : ℕ) (stays : NeverLeaves F) (in_s : s < length F.states) (in_t : t < length F.states) where
  abbrev GoTo : ℕ → ℕ → ℕ → Type 0
  GoTo x u v = (next F s (symbol_of F.inputs x) ≡ u) × (next F t (symbol_of F.inputs x) ≡ v)

  of_image : (u v : ℕ) → IsImage F s t u v → BelowCount GoTo (2 ^ F.inputs) u v
  of_image u v (x, below, first, second) = (x, below, (first, second))

  as_image : (u v : ℕ) → BelowCount GoTo (2 ^ F.inputs) u v → IsImage F s t u v
  as_image u v (x, below, goes) = (x, below, goes.0, goes.1)

  -- r holds them together up to a count of symbols, and nothing else that no chain over p and g does
  record IsMade (p g : List ℕ) (count : ℕ) (r : List ℕ) : Type 0 where
    merges : MergesPairs (BelowCount GoTo count) p r
    chained : (u v : ℕ) → Together r u v → Chain p g u v

  made : (p g : List ℕ) → IsPartition (length F.states) p → ((u v : ℕ) → IsImage F s t u v → Together g u v) → (count : ℕ) → count ≤ 2 ^ F.inputs → (r : List ℕ) × IsMade p g count r
  made p g lawful images zero few = (
    p,
    record {
      merges = merges_below_none GoTo p (IsPartition-of (sym lawful.length) lawful);
      chained = λ u v held. chain_link p g u v held.0 (inl held);
    },
  )
  made p g lawful images (suc count) few =
      let (r, so_far) = made p g lawful images count (omega (arith, few)) in
      let u : ℕ = next F s (symbol_of F.inputs count) in
      let v : ℕ = next F t (symbol_of F.inputs count) in
      let long : length r ≡ length F.states = so_far.merges.lawful.length ∙ lawful.length in
      let in_u : u < length r = omega (arith, long, stays s (symbol_of F.inputs count) in_s (length-symbol_of F.inputs count)) in
      let in_v : v < length r = omega (arith, long, stays t (symbol_of F.inputs count) in_t (length-symbol_of F.inputs count)) in
      let (o, merged) = merged_stands r u v (IsPartition-of (sym (so_far.merges.lawful.length)) so_far.merges.lawful) in_u in_v in
      let link : Together g u v = images u v (count, omega (arith, few), refl, refl) in
      let there : Chain p g u v = chain_link p g u v (omega (arith, in_u, long, lawful.length)) (inr link) in
      let back : Chain p g v u = chain_link p g v u (omega (arith, in_v, long, lawful.length)) (inr (together_turned g u v link)) in (
        o,
        record {
          merges = subst (λ (k : ℕ). MergesPairs (BelowCount GoTo k) p o) one_more
              (merges_more GoTo count (IsFound (Some (u, v))) p r o (λ a b. (here count a b, found count a b)) so_far.merges (merges_pair r o (u, v) in_u in_v merged));
          chained = λ a b held. elim ((merged.together a b).0 held) [
            | inl before ↦ so_far.chained a b before
            | inr (inl two) ↦ chain_on p g a u b (so_far.chained a u two.0) (chain_on p g u v b there (so_far.chained v b two.1))
            | inr (inr two) ↦ chain_on p g a v b (so_far.chained a v two.0) (chain_on p g v u b back (so_far.chained u b two.1))
          ];
        },
      )
    where
      one_more : count + 1 ≡ suc count
      one_more = omega arith

      here : (x a b : ℕ) → IsFound (Some (next F s (symbol_of F.inputs x), next F t (symbol_of F.inputs x))) a b → GoTo x a b
      here x a b is = let same : (next F s (symbol_of F.inputs x), next F t (symbol_of F.inputs x)) ≡ (a, b) = cc in (ap (λ (q : ℕ × ℕ). q.0) same, ap (λ (q : ℕ × ℕ). q.1) same)

      found : (x a b : ℕ) → GoTo x a b → IsFound (Some (next F s (symbol_of F.inputs x), next F t (symbol_of F.inputs x))) a b
      found x a b is = let both : (next F s (symbol_of F.inputs x), next F t (symbol_of F.inputs x)) ≡ (a, b) = cc in ap Some both

  -- some right side, and what is made of p is the join with it
  pub grown_join : (p joined : List ℕ) → IsPartition (length F.states) p → s < t → MergesImages F s t p joined → (right : List ℕ) × IsRightOf F s t right × IsJoin p right joined
  grown_join p joined lawful order grown =
      let zeros : List ℕ = zero_of (length F.states) in
      let at_zero : IsPartition (length F.states) zeros = zero_of_is_partition (length F.states) lawful.count in
      let (right, is) = made zeros joined at_zero grown.held (2 ^ F.inputs) (omega arith) in
      let right_merges : MergesImages F s t zeros right = merges_as (BelowCount GoTo (2 ^ F.inputs)) (IsImage F s t) zeros right (λ u v. (as_image u v, of_image u v)) is.merges in
      let right_size : length right ≡ length F.states = is.merges.lawful.length ∙ at_zero.length in
      let (same, chain) = made p right lawful right_merges.held (2 ^ F.inputs) (omega arith) in (
        right,
        right_held F s t zeros right stays lawful.count order in_t refl right_merges,
        record {
          lawful = grown.lawful;
          together = λ u v. (
            λ held. chain.chained u v (grown.least same chain.merges.lawful chain.merges.above (λ a b image. chain.merges.held a b (of_image a b image)) u v held),
            λ linked. (
              omega (arith, linked.0, grown.lawful.length),
              omega (arith, chain_within p right u v (right_size ∙ sym lawful.length) linked, grown.lawful.length),
              chain_keeps p right (λ k. get_or joined k 0) (λ a b held. (grown.above a b held).2)
                  (λ a b held. (right_merges.least joined (IsPartition-of (lawful.length ∙ sym at_zero.length) grown.lawful) (zero_of_below (length F.states) joined (IsPartition-of lawful.length grown.lawful)) grown.held a b held).2)
                  u v linked,
            ),
          );
        },
      )
