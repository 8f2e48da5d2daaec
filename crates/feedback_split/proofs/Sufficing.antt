-- Partitions that suffice for another one, and what their growth gives.
use Rattle.std.proofs.Common.{◌≡◌, ℕ, ◌<◌, ◌↔◌, inl, inr, List, length, refl, subst, arith}
use Rattle.std.proofs.lemmas.Bool.{cases_eq, cases_lt}
use Rattle.kiss_file.specs.declared.file.KissFile.{KissFile}
use Rattle.kiss_file.specs.Machine.{next}
use Rattle.machine_table.specs.NextStates.{NeverLeaves}
use Rattle.partition.specs.Partition.{IsHold, IsPartition, Le, Together}
use Rattle.partition.specs.MeetAndJoin.{IsMeet}
use Rattle.partition.specs.Laws.Chains.{together_turned}
use Rattle.partition.specs.Laws.Labels.{IsPartition-of}
use Rattle.partition.specs.Laws.Merging.{merged_above, merged_held}
use Rattle.partition.specs.Laws.World.{join_fits}
use Rattle.pair_operators.specs.Extremes.{IsHigh}
use Rattle.pair_operators.specs.Growth.{pairs_of}
use Rattle.pair_operators.specs.Laws.Extremes.{below_high}
use Rattle.pair_operators.specs.Laws.Growth.{grown_above, grown_keeps, grown_meets, growth_is_full}
use Rattle.pair_operators.specs.Pair.{Pair}
use Rattle.partition.specs.Laws.Holds.{hold_below}
use Rattle.feedback_split.specs.Best.{BreaksWhenJoined}
use Rattle.feedback_split.specs.Carrier.{IsCarrierGrowth, IsGreatestCarrier, Suffices}

-- c suffices for own where the meet of both makes a pair with own
pub suffices_pair : (F : KissFile) (own c meet : List ℕ) → IsMeet own c meet → Suffices F own c ↔ Pair F meet own
suffices_pair F own c meet is = (
  (λ suffices s t x held width. let both = (is.together s t).0 held in suffices s t x both.0 both.1 width),
  (λ pair s t x in_own in_c width. pair s t x ((is.together s t).1 (in_own, in_c)) width),
)

-- that is, where the meet is below M(own)
pub suffices_below : (F : KissFile) (own c meet going : List ℕ) → length own ≡ length F.states → IsMeet own c meet → IsHigh F own going → Le meet going ↔ Suffices F own c
suffices_below F own c meet going size is high =
    let pair : Suffices F own c ↔ Pair F meet own = suffices_pair F own c meet is in
    let below : Le meet going ↔ Pair F meet own = below_high F meet own going (IsPartition-of size is.lawful) high in
    ((λ le. pair.1 (below.0 le)), (λ suffices. below.1 (pair.0 suffices)))

-- a smaller partition suffices too
suffices_down : (F : KissFile) (own p q : List ℕ) → Le q p → Suffices F own p → Suffices F own q
suffices_down F own p q le suffices s t x in_own in_q width = suffices s t x in_own (le s t in_q) width

-- one that meets own in zero suffices
zero_suffices : (F : KissFile) (own c : List ℕ) → NeverLeaves F → length own ≡ length F.states → ((s t : ℕ) → Together own s t → Together c s t → s ≡ t) → Suffices F own c
zero_suffices F own c stays size in_zero s t x in_own in_c width =
    let inside : next F s x < length own = omega (arith, size, stays s x (omega (arith, in_own.0, size)) width) in
    subst (λ (u : ℕ). Together own (next F s x) (next F u x)) (in_zero s t in_own in_c) (inside, inside, refl)

module _ (F : KissFile) (own other c : List ℕ) (stays : NeverLeaves F) (size : length own ≡ length F.states) (lawful : IsPartition (length F.states) other) (in_zero : (s t : ℕ) → Together own s t → Together other s t → s ≡ t) (growth : IsCarrierGrowth F own other c) where
  ended : IsPartition (length F.states) c
  ended =
      grown_keeps (length F.states) (IsHold (length F.states)) (Suffices F own) (IsPartition (length F.states))
      (λ p s t g joined fits holds joins. join_fits (length F.states) p g joined fits joins) other c (pairs_of (length F.states)) lawful growth

  reached : (q : List ℕ) → IsPartition (length F.states) q → Le c q → Suffices F own q → (s t : ℕ) → s < t → Together q s t → Together c s t
  reached q fits above suffices s t less held =
      let cover = growth_is_full (length F.states) (IsHold (length F.states)) (Suffices F own) (λ s t g holds. holds.lawful) (λ p smaller one two le. suffices_down F own p smaller le)
      other c lawful growth s t less (omega (arith, held.1, fits.length)) in
      cover.2 q fits above (hold_below (length F.states) s t cover.0 q cover.1 fits.length held) suffices s t cover.1.held

  -- no partition strictly above a carrier suffices
  pub carrier_greatest : IsGreatestCarrier F own other c
  carrier_greatest = record {
    lawful = ended;
    above = grown_above (length F.states) (IsHold (length F.states)) (Suffices F own) (λ s t g holds. holds.lawful) other c (pairs_of (length F.states)) lawful growth;
    suffices = grown_meets (length F.states) (IsHold (length F.states)) (Suffices F own) other c (pairs_of (length F.states)) (zero_suffices F own other stays size in_zero) growth;
    maximal = λ q fits above suffices s t held.
        elim (cases_lt s t) [
          | inl less ↦ reached q fits above suffices s t less held
          | inr more ↦ elim (cases_eq s t) [
            | inl same ↦ let inside : s < length c = omega (arith, held.0, fits.length, ended.length) in subst (λ (u : ℕ). Together c s u) same (inside, inside, refl)
            | inr apart ↦ together_turned c t s (reached q fits above suffices t s (omega arith) (together_turned q s t held))
          ]
        ];
  }

-- so with two blocks of it put together it does not
pub greatest_breaks : (F : KissFile) (own other c : List ℕ) → IsGreatestCarrier F own other c → BreaksWhenJoined F own c
greatest_breaks F own other c greatest s t joined in_s in_t apart merged suffices =
    apart (greatest.maximal joined (IsPartition-of greatest.lawful.length merged.lawful) (merged_above c joined s t merged) suffices s t (merged_held c joined s t in_s in_t merged))
