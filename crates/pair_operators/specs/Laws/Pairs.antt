-- Pairs are kept by smaller left sides and greater right sides, and by joins and meets on both sides.
use Rattle.std.proofs.Common.{◌≡◌, ℕ, ◌<◌, Bool, List, [], ◌∷◌, length, refl, subst, inl, inr, arith}
use Rattle.kiss_file.specs.declared.file.KissFile.{KissFile}
use Rattle.kiss_file.specs.Machine.{next}
use Rattle.machine_table.specs.NextStates.{NeverLeaves}
use Rattle.partition.specs.Partition.{IsPartition, Together, Le, IsZero, IsOne}
use Rattle.partition.specs.MeetAndJoin.{IsMeet, IsJoin, Leads, Chain}
use Rattle.partition.specs.Laws.Chains.{chain_none, chain_link, chain_on}
use Rattle.pair_operators.specs.Pair.{Pair}

pub pair_monotone : (F : KissFile) (p q smaller greater : List ℕ) → Le smaller p → Le q greater → Pair F p q → Pair F smaller greater
pair_monotone F p q smaller greater below above pair s t x held size = above (next F s x) (next F t x) (pair s t x (below s t held) size)

module _ (F : KissFile) (p q a b : List ℕ) (left : length a ≡ length p) (right : length b ≡ length q) (first : Pair F p q) (second : Pair F a b) (x : List Bool) (size : length x ≡ F.inputs) where
  -- at a symbol, a chain of states leads to a chain of next states
  chain_goes : (s t : ℕ) (us : List ℕ) → s < length p → Leads p a s us t → Chain q b (next F s x) (next F t x)
  chain_goes s t [] within here =
      subst (λ (u : ℕ). Chain q b (next F s x) (next F u x)) here (chain_none q b (next F s x) (first s s x (within, within, refl) size).0)
  chain_goes s t (u ∷ us) within link =
      elim link.0 [
        | inl held ↦
            let goes = first s u x held size in
            chain_on q b (next F s x) (next F u x) (next F t x) (chain_link q b (next F s x) (next F u x) goes.0 (inl goes)) (chain_goes u t us held.1 link.1)
        | inr held ↦
            let goes = second s u x held size in
            chain_on q b (next F s x) (next F u x) (next F t x) (chain_link q b (next F s x) (next F u x) (omega (arith, goes.0, right)) (inr goes)) (chain_goes u t us (omega (arith, held.1, left)) link.1)
      ]

-- the joins of the sides of two pairs are a pair
pub joins_pair : (F : KissFile) (p q a b r o : List ℕ) → length a ≡ length p → length b ≡ length q → Pair F p q → Pair F a b → IsJoin p a r → IsJoin q b o → Pair F r o
joins_pair F p q a b r o left right first second lower upper s t x held size =
    let chain = (lower.together s t).0 held in
    (upper.together (next F s x) (next F t x)).1 (chain_goes F p q a b left right first second x size s t chain.1.0 chain.0 chain.1.1)

-- and so are their meets
pub meets_pair : (F : KissFile) (p q a b r o : List ℕ) → Pair F p q → Pair F a b → IsMeet p a r → IsMeet q b o → Pair F r o
meets_pair F p q a b r o first second lower upper s t x held size =
    let both = (lower.together s t).0 held in
    (upper.together (next F s x) (next F t x)).1 (first s t x both.0 size, second s t x both.1 size)

-- zero makes a pair with each partition, and each partition with one
pub zero_pairs : (F : KissFile) (zero q : List ℕ) → NeverLeaves F → IsPartition (length F.states) zero → IsPartition (length F.states) q → IsZero zero → Pair F zero q
zero_pairs F zero q stays left right is s t x held size =
    let inside : next F s x < length q = omega (arith, right.length, stays s x (omega (arith, held.0, left.length)) size) in
    subst (λ (u : ℕ). Together q (next F s x) (next F u x)) (is s t held) (inside, inside, refl)

pub one_pairs : (F : KissFile) (p one : List ℕ) → NeverLeaves F → IsPartition (length F.states) p → IsPartition (length F.states) one → IsOne one → Pair F p one
one_pairs F p one stays left right is s t x held size =
    is (next F s x) (next F t x) (omega (arith, right.length, stays s x (omega (arith, held.0, left.length)) size)) (omega (arith, right.length, stays t x (omega (arith, held.1, left.length)) size))
