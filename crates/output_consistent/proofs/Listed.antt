-- The closed and consistent partitions are the joins of the least closed partitions of pairs of alike states.
use Rattle.std.proofs.Common.{◌≡◌, ◌∙◌, ℕ, ◌<◌, inl, inr, All, Bool, List, [], ◌∷◌, length, refl, ap, subst, arith}
use Rattle.std.proofs.lemmas.List.Elements.{All-head, All-tail}
use Rattle.hs_lattice.specs.JoinWorld.{HaveJoins}
use Rattle.hs_lattice.specs.Laws.{IsGenerated-has}
use Rattle.kiss_file.specs.declared.file.KissFile.{KissFile}
use Rattle.kiss_file.specs.Machine.{answers, next, out}
use Rattle.machine_table.specs.NextStates.{NeverLeaves}
use Rattle.pair_operators.specs.Consistency.{Consistent}
use Rattle.partition.specs.Partition.{IsStateCount, Le, Together}
use Rattle.partition.specs.MeetAndJoin.{IsJoin, Leads}
use Rattle.partition.specs.Laws.Extremes.{zero_of_is_zero}
use Rattle.partition.specs.Laws.Generating.{IsZeroOf}
use Rattle.closed_lattice.specs.ClosedPartitions.{HasPrincipal, IsPrincipalWithin}
use Rattle.closed_lattice.specs.Laws.Generating.{IsMade, join_closed, made_by_pairs, zero_closed}
use Rattle.state_reduce.specs.AlikeStates.{IsEquivalence, IsWord}
use Rattle.state_reduce.specs.Laws.Unrefused.{alike_closed, alike_consistent}
use Rattle.output_consistent.specs.Outputs.{IsClosedAndConsistent}

zero_consistent : (F : KissFile) (p : List ℕ) → IsZeroOf (length F.states) p → Consistent F p
zero_consistent F p is s t x held size =
    ap (λ (u : ℕ). out F u x) (zero_of_is_zero (length F.states) s t (subst (λ (q : List ℕ). Together q s t) is held))

-- outputs stay equal along a chain
chain_agrees : (F : KissFile) (p q : List ℕ) (x : List Bool) → length x ≡ F.inputs → Consistent F p → Consistent F q → (s t : ℕ) (us : List ℕ) → Leads p q s us t → out F s x ≡ out F t x
chain_agrees F p q x size left right s t [] here = ap (λ (u : ℕ). out F u x) here
chain_agrees F p q x size left right s t (u ∷ us) first =
    elim first.0 [ inl held ↦ left s u x held size | inr held ↦ right s u x held size ] ∙ chain_agrees F p q x size left right u t us first.1

join_consistent : (F : KissFile) (p q r : List ℕ) → Consistent F p → Consistent F q → IsJoin p q r → Consistent F r
join_consistent F p q r left right is s t x held size =
    let chain = (is.together s t).0 held in
    chain_agrees F p q x size left right s t chain.1.0 chain.1.1

-- joins of closed and consistent partitions are closed and consistent
pub made_consistent : (F : KissFile) (generators : List (List ℕ)) (p : List ℕ) → NeverLeaves F → IsStateCount (length F.states) → All (IsClosedAndConsistent F) generators → IsMade F generators p → IsClosedAndConsistent F p
made_consistent F generators p inside count all made =
    IsGenerated-has (IsZeroOf (length F.states)) IsJoin (IsClosedAndConsistent F) generators p
    (λ q is. (zero_closed F q inside count is, zero_consistent F q is))
    (λ a b c left right joined. (join_closed F a b c left.0 right.0 joined, join_consistent F a b c left.1 right.1 joined)) all made

-- states that are together in such a partition answer each word alike
same_answers : (F : KissFile) (p : List ℕ) → IsClosedAndConsistent F p → (word : List (List Bool)) (s t : ℕ) → Together p s t → IsWord F.inputs word → answers F s word ≡ answers F t word
same_answers F p is [] s t held words = refl
same_answers F p is (x ∷ word) s t held words =
    let size = All-head (λ y. length y ≡ F.inputs) x word words in
    let rest : IsWord F.inputs word = All-tail (λ y. length y ≡ F.inputs) x word words in
    let outputs : out F s x ≡ out F t x = is.1 s t x held size in
    let later : answers F (next F s x) word ≡ answers F (next F t x) word = same_answers F p is word (next F s x) (next F t x) (is.0.1 s t x held size) rest in
    cc

-- so it is below the partition of alike states
below_alike : (F : KissFile) (alike p : List ℕ) → IsEquivalence F alike → IsClosedAndConsistent F p → Le p alike
below_alike F alike p equivalence is s t held =
    (equivalence.together s t (omega (arith, held.0, is.0.0.length)) (omega (arith, held.1, is.0.0.length))).1 (λ word words. same_answers F p is word s t held words)

-- and each closed partition below that one is consistent
pub principals_consistent : (F : KissFile) (alike : List ℕ) (found : List (List ℕ)) → NeverLeaves F → IsEquivalence F alike → All (IsPrincipalWithin F alike) found → All (IsClosedAndConsistent F) found
principals_consistent F alike found inside equivalence members k d within =
    let is = members k d within in
    let under = is.4.least alike (equivalence.lawful, alike_closed F alike equivalence inside) is.3 in
    ((is.4.lawful, is.4.closed), λ s t x held size. alike_consistent F alike equivalence s t x (under s t held) size)

-- and each such partition is a join of least closed partitions of pairs of alike states
pub consistent_made : (F : KissFile) (alike : List ℕ) (generators : List (List ℕ)) → IsEquivalence F alike → IsStateCount (length F.states)
    → ((s t : ℕ) → s < t → Together alike s t → HasPrincipal F generators s t) → HaveJoins (IsZeroOf (length F.states)) IsJoin generators → (p : List ℕ) → IsClosedAndConsistent F p → IsMade F generators p
consistent_made F alike generators equivalence count each joins p is =
    made_by_pairs F generators p is.0 (λ s t order below held. each s t order (below_alike F alike p equivalence is s t held)) count joins
