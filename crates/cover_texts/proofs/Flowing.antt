-- Information flows through the parts of the machine of the pairs as they say.
use Rattle.std.proofs.Common.{◌≡◌, ℕ, zero, suc, ◌<◌, All, Bool, Contains, List, [], ◌∷◌, Some, length, refl, sym, ap, ◌∙◌, subst, arith}
use Rattle.std.specs.List.{slice_get}
use Rattle.std.proofs.lemmas.List.Elements.{All-cons, All-nil}
use Rattle.std.proofs.lemmas.Option.{none-some, same_Some}
use Rattle.list_facts.specs.Laws.Everywhere.{all_at}
use Rattle.cover_split.specs.Expansion.{IsExpansion, pairs_of}
use Rattle.cover_texts.specs.Inner.Steps.{AreParts}
use Rattle.decomposition.specs.Flow.{Flows}
use Rattle.kiss_file.specs.declared.file.KissFile.{KissFile}
use Rattle.kiss_file.specs.Machine.{next}
use Rattle.machine_table.specs.NextStates.{NeverLeaves}
use Rattle.kiss_file.specs.Laws.NumberedNames.{length-numbered_names}
use Rattle.pair_operators.specs.Pair.{Closed}
use Rattle.partition.specs.Partition.{IsPartition, Together}
use Rattle.state_codes.specs.declared.split.Part.{Part}
use Rattle.state_codes.specs.Kinds.{IsOwnCarrier, PartsMeetInZero}
use Rattle.state_codes.specs.Split.{IsPart}

-- one state goes to one state
same_state : (W : KissFile) (p : List ℕ) (s t : ℕ) (x : List Bool) → NeverLeaves W → IsPartition (length W.states) p → s < length W.states → length x ≡ W.inputs → s ≡ t → Together p (next W s x) (next W t x)
same_state W p s t x stays lawful in_s symbol same =
    let here : next W s x < length p = omega (arith, stays s x in_s symbol, lawful.length) in
    subst (λ (u : ℕ). Together p (next W s x) (next W u x)) same (here, here, refl)

-- the first part is closed, and the second and the first tell all states apart
two_flow : (W : KissFile) (first second : Part) → NeverLeaves W → IsPartition (length W.states) second.partition → IsOwnCarrier first → Closed W first.partition → PartsMeetInZero (first ∷ second ∷ []) → second.reads ≡ 0 ∷ [] → Flows W (first ∷ second ∷ [])
two_flow W first second stays lawful own closed in_zero second_reads zero part s t x at in_s in_t symbol held reads =
    let same : first ≡ part = same_Some first part at in
    subst (λ (p : Part). Together p.partition s t → Together p.partition (next W s x) (next W t x)) same (λ together. closed s t x together symbol) held
two_flow W first second stays lawful own closed in_zero second_reads (suc zero) part s t x at in_s in_t symbol held reads =
    let same : second ≡ part = same_Some second part at in
    let among : Contains part.reads 0 = subst (λ (list : List ℕ). Contains list 0) (sym second_reads ∙ ap (λ (p : Part). p.reads) same) (0, omega arith, refl) in
    let in_first : Together first.partition s t = subst (λ (p : List ℕ). Together p s t) own (reads 0 first among refl) in
    let in_second : Together second.partition s t = subst (λ (p : Part). Together p.partition s t) (sym same) held in
    let P : Part → Type 0 = λ p. Together p.partition s t in
    let one : s ≡ t = in_zero s t (All-cons P first (second ∷ []) in_first (All-cons P second [] in_second (All-nil P))) in
    subst (λ (p : Part). Together p.partition (next W s x) (next W t x)) same (same_state W second.partition s t x stays lawful in_s symbol one)
two_flow W first second stays lawful own closed in_zero second_reads (suc (suc j)) part s t x at in_s in_t symbol held reads = absurd (none-some part at)

-- the machine has a state for each pair
pub states_counted : (F E : KissFile) (blocks : List (List ℕ)) → IsExpansion F blocks E → length E.states ≡ length (pairs_of blocks)
states_counted F E blocks is = ap length is.states ∙ length-numbered_names (length (pairs_of blocks))

module _ (F E : KissFile) (blocks : List (List ℕ)) (parts : List Part) (is : IsExpansion F blocks E) (are : AreParts blocks parts) where
  pub parts_lawful : All (IsPart (length E.states)) parts
  parts_lawful = subst (λ (n : ℕ). All (IsPart n) parts) (sym (states_counted F E blocks is)) are.lawful

  pub parts_flow : NeverLeaves E → Flows E parts
  parts_flow stays =
      let two = (are.split).two in
      let first_there : slice_get parts 0 ≡ Some (are.split).first = ap (λ (list : List Part). slice_get list 0) two in
      let second_there : slice_get parts 1 ≡ Some (are.split).second = ap (λ (list : List Part). slice_get list 1) two in
      let in_second : IsPart (length E.states) (are.split).second = all_at (IsPart (length E.states)) parts 1 (are.split).second parts_lawful second_there in
      let own : IsOwnCarrier (are.split).first = all_at IsOwnCarrier parts 0 (are.split).first (are.split).own first_there in
      subst (Flows E) (sym two) (two_flow E (are.split).first (are.split).second stays in_second.partition own (are.closed F E (are.split).first is first_there) (subst PartsMeetInZero two are.in_zero) (are.split).second_reads)
