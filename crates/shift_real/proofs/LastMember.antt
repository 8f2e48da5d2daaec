-- The order from the chain, or two states that stay apart.
use Rattle.std.proofs.Common.{◌≡◌, ◌≢◌, ℕ, ◌+◌, ◌-◌, ◌<◌, inl, inr, Some, List, length, get_or, slice_get, slice_index, ap, sym, ◌∙◌, subst, arith}
use Rattle.std.proofs.lemmas.Bool.{cases_lt}
use Rattle.std.proofs.lemmas.Option.{slice_get-get_or, slice_get_within}
use Rattle.kiss_file.specs.declared.file.KissFile.{KissFile}
use Rattle.machine_table.specs.NextStates.{NeverLeaves}
use Rattle.pair_operators.specs.Extremes.{IsHigh}
use Rattle.partition.specs.Partition.{IsPartition}
use Rattle.shift_real.specs.Chain.{AreTogetherAfter, IsChain, TellsAfter}
use Rattle.shift_real.specs.DefiniteMachine.{AreFirstApart, Definite, IsOrder}
use Rattle.shift_real.proofs.Telling.{kept_apart}

-- there is a member
pub some_member : (F : KissFile) (members : List (List ℕ)) → IsChain F members → 0 < length members
some_member F members chain = slice_get_within members 0 chain.first.0 chain.first.1

module _ (F : KissFile) (members : List (List ℕ)) (p : List ℕ) (chain : IsChain F members) (tell : AreTogetherAfter F members) (is_last : slice_get members (length members - 1) ≡ Some p) where
  lawful : IsPartition (length F.states) p
  lawful = (tell (length members - 1) p is_last).0

  tells : TellsAfter F (length members - 1) p
  tells = (tell (length members - 1) p is_last).1

  fixed : IsHigh F p p
  fixed =
      let same : chain.last.0 ≡ p = (let both : Some chain.last.0 ≡ Some p = sym chain.last.1 ∙ is_last in cc) in
      subst (λ (r : List ℕ). IsHigh F r r) same chain.last.2

  -- where the last member is one, its place is the order
  pub order_is : ((u : ℕ) → u < length p → slice_index p u ≡ slice_index p 0) → IsOrder F (length members - 1)
  order_is all =
      record {
        definite = λ s t in_s in_t.
            let low_s : s < length p = omega (arith, in_s, lawful.length) in
            let low_t : t < length p = omega (arith, in_t, lawful.length) in
            (tells s t in_s in_t).0 (low_s, low_t, all s low_s ∙ sym (all t low_t));
        least = λ fewer definite.
            elim (cases_lt fewer (length members - 1)) [
              | inl early ↦ absurd (not_before fewer definite early)
              | inr late ↦ late
            ];
      }
    where
      not_before : (fewer : ℕ) → Definite F fewer → fewer < length members - 1 → ⊥
      not_before fewer definite early =
          let r : List ℕ = get_or members fewer p in
          let q : List ℕ = get_or members (fewer + 1) p in
          let at : slice_get members fewer ≡ Some r = slice_get-get_or members fewer p (omega arith) in
          let behind : slice_get members (fewer + 1) ≡ Some q = slice_get-get_or members (fewer + 1) p (omega arith) in
          let step = chain.each fewer r q at behind in
          let below = tell fewer r at in
          let above = tell (fewer + 1) q behind in
          step.1.1 (λ s t held.
          let in_s : s < length F.states = omega (arith, held.0, above.0.length) in
          let in_t : t < length F.states = omega (arith, held.1, above.0.length) in
          (below.1 s t in_s in_t).1 (definite s t in_s in_t))

  -- and else the first state apart from state 0 stays apart from it
  pub first_apart_is : (t : ℕ) → NeverLeaves F → t < length p → slice_index p t ≢ slice_index p 0 → ((u : ℕ) → u < t → slice_index p u ≡ slice_index p 0) → AreFirstApart F 0 t
  first_apart_is t stays within other first =
      record {
        first_state = omega (arith, within, lawful.length);
        second_state = omega (arith, within, lawful.length);
        apart = kept_apart F (length members - 1) p 0 t stays lawful fixed tells (omega (arith, within, lawful.length)) (omega (arith, within, lawful.length)) (λ held. other (sym held.2));
        least = λ u v in_u in_v before.
            elim before [
              | inl less ↦ absurd (omega arith)
              | inr (same, less) ↦ (
                length members - 1,
                (let low_u : u < length p = omega (arith, in_u, lawful.length) in
                    let low_v : v < length p = omega (arith, in_v, lawful.length) in
                    (tells u v in_u in_v).0 (low_u, low_v, ap (slice_index p) same ∙ sym (first v less))),
              )
            ];
      }

-- ---- with the values of a call
module _ (F : KissFile) (members lent : List (List ℕ)) (p : List ℕ) (chain : IsChain F members) (tell : AreTogetherAfter F members) (same : lent ≡ members) (is : p ≡ get_or lent (length lent - 1) p) where
  is_last : slice_get members (length members - 1) ≡ Some p
  is_last =
      let some : length lent - 1 < length lent = omega (arith, some_member F members chain, ap length same) in
      subst (λ (list : List (List ℕ)). slice_get list (length list - 1) ≡ Some p) same
      (slice_get-get_or lent (length lent - 1) p some ∙ ap (λ (q : List ℕ). Some q) (sym is))

  pub last_lawful : IsPartition (length F.states) p
  last_lawful = lawful F members p chain tell is_last

  pub order_found : ((u : ℕ) → u < length p → slice_index p u ≡ slice_index p 0) → IsOrder F (length lent - 1)
  order_found all = subst (λ (list : List (List ℕ)). IsOrder F (length list - 1)) (sym same) (order_is F members p chain tell is_last all)

  pub apart_found : (t : ℕ) → NeverLeaves F → t < length p → slice_index p t ≢ slice_index p 0 → ((u : ℕ) → u < t → slice_index p u ≡ slice_index p 0) → AreFirstApart F 0 t
  apart_found t stays within other first = first_apart_is F members p chain tell is_last t stays within other first
