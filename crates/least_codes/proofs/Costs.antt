-- What the latches of a code read at least.
use Rattle.std.proofs.Common.{◌≡◌, ◌↔◌, ◌∙◌, ℕ, ◌+◌, ◌<◌, ◌≤◌, All, List, [], ◌∷◌, ◌++◌, length, get_or, inl, inr, refl, ap, sym, subst, arith}
use Rattle.std.proofs.lemmas.Bool.{cases_eq}
use Rattle.std.proofs.lemmas.List.{ext_get_or, get_or_append_left, get_or_push, length_push}
use Rattle.std.proofs.lemmas.List.Elements.{All-contains}
use Rattle.std.proofs.lemmas.List.Sums.{sum_by_push}
use Rattle.std.proofs.lemmas.Nat.Bits.{same_from_bits_below}
use Rattle.std.specs.List.{sum}
use Rattle.kiss_file.specs.declared.file.KissFile.{KissFile}
use Rattle.dependence.specs.SufficientBits.{InWord, next_value}
use Rattle.least_codes.specs.declared.choice.Choice.{Choice}
use Rattle.least_codes.specs.declared.choice.Question.{Question}
use Rattle.least_codes.specs.declared.table.Images.{Images}
use Rattle.least_codes.specs.declared.two_states.TwoStates.{TwoStates}
use Rattle.least_codes.specs.Cost.{IsCost, IsLatchCost}
use Rattle.least_codes.specs.Inner.StatePairs.{IsPair, TellsApart}
use Rattle.least_codes.specs.Inner.Choice.{IsLeastChoice}
use Rattle.least_codes.specs.Inner.Costs.{AreCosts}
use Rattle.least_codes.specs.Inner.Table.{AreApartIn, IsInside, IsSplitBy, IsImageTable}
use Rattle.least_codes.specs.LeastCode.{AreCodeWords}
use Rattle.least_codes.proofs.LeastSets.{fewest_from_choice}
use Rattle.least_codes.proofs.Rows.{apart_from_table}

latch_once : (F : KissFile) (words : List ℕ) (bits i one other : ℕ) → IsLatchCost F words bits i one → IsLatchCost F words bits i other → one ≡ other
latch_once F words bits i one other first second =
    let below : length first.reads ≤ length second.reads = first.fewest.fewest second.reads second.fewest.enough in
    let above : length second.reads ≤ length first.reads = second.fewest.fewest first.reads first.fewest.enough in
    omega (arith, below, above, first.size, second.size)

-- a code has one cost
pub cost_once : (F : KissFile) (words : List ℕ) (bits one other : ℕ) → IsCost F words bits one → IsCost F words bits other → one ≡ other
cost_once F words bits one other first second =
    let same : first.costs ≡ second.costs = ext_get_or 0 first.costs second.costs (first.count ∙ sym second.count) (λ i within.
    let below : i < bits = omega (arith, within, first.count) in
    latch_once F words bits i (get_or first.costs i 0) (get_or second.costs i 0) (first.each i below) (second.each i below)) in
    sym first.total ∙ ap (λ (costs : List ℕ). sum costs) same ∙ second.total

pub costs_none : (F : KissFile) (words : List ℕ) (bits : ℕ) → AreCosts F words bits 0 0
costs_none F words bits = record { costs = []; count = refl; each = λ k below. absurd (omega (arith, below)); total = refl }

-- one latch more
pub costs_more : (F : KissFile) (words : List ℕ) (bits i cost more : ℕ) → AreCosts F words bits i cost → IsLatchCost F words bits i more → AreCosts F words bits (i + 1) (cost + more)
costs_more F words bits i cost more before here = record {
  costs = before.costs ++ more ∷ [];
  count = omega (arith, length_push before.costs more, before.count);
  each = λ k below. elim (cases_eq k i) [
    | inl at ↦
        let last : get_or (before.costs ++ more ∷ []) k 0 ≡ more = get_or_push before.costs more 0 k (omega (arith, at, before.count)) in
        subst (IsLatchCost F words bits k) (sym last) (subst (λ (j : ℕ). IsLatchCost F words bits j more) (sym at) here)
    | inr other ↦
        let low : k < i = omega (arith, below, other) in
        subst (IsLatchCost F words bits k) (sym (get_or_append_left before.costs (more ∷ []) 0 k (omega (arith, low, before.count)))) (before.each k low)
  ];
  total = sum_by_push (λ (x : ℕ). x) before.costs more ∙ ap (λ (x : ℕ). x + more) before.total;
}

pub costs_all : (F : KissFile) (words : List ℕ) (bits i cost : ℕ) → i ≡ bits → AreCosts F words bits i cost → IsCost F words bits cost
costs_all F words bits i cost all are = record {
  costs = are.costs;
  count = are.count ∙ all;
  each = λ k below. are.each k (omega (arith, below, all));
  total = are.total;
}

-- the states that a table has apart are two of them
pub apart_pairs : (n : ℕ) (table : List Images) (words : List ℕ) (i : ℕ) (apart : List TwoStates) → All (IsInside n) table → AreApartIn table words i apart → All (IsPair n) apart
apart_pairs n table words i apart inside are k d within =
    let split : IsSplitBy table words i (get_or apart k d) = are.split k d within in
    subst (IsPair n) split.of (All-contains (IsInside n) table split.row inside split.listed).pair

-- all bits tell all states apart
pub codes_tell : (bits : ℕ) (words : List ℕ) (apart : List TwoStates) (candidates : ℕ) → AreCodeWords (length words) bits words → All (IsPair (length words)) apart → ((c : ℕ) → InWord candidates c ↔ (c < bits)) → TellsApart words apart (InWord candidates)
codes_tell bits words apart candidates codes pairs same k d within agree =
    let pair : TwoStates = get_or apart k d in
    let lawful = pairs k d within in
    let in_s : pair.s < length words = omega (arith, lawful.0, lawful.1) in
    let equal : get_or words pair.s 0 ≡ get_or words pair.t 0 = same_from_bits_below bits (get_or words pair.s 0) (get_or words pair.t 0) (codes.short pair.s in_s) (codes.short pair.t lawful.1) (λ c below. agree c ((same c).1 below)) in
    let at : pair.s ≡ pair.t = codes.distinct pair.s pair.t in_s lawful.1 equal in
    omega (arith, at, lawful.0)

-- what the least choice says of a latch
pub latch_from_choice : (F : KissFile) (q : Question) (bits i : ℕ) (table : List Images) (choice : Choice) → IsImageTable F table → AreApartIn table q.words.now i q.apart.now → ((c : ℕ) → InWord q.candidates c ↔ (c < bits)) → IsLeastChoice q choice
    → IsLatchCost F q.words.now bits i choice.size
latch_from_choice F q bits i table choice of apart same least = record {
  reads = least.reads;
  fewest = fewest_from_choice F (next_value F q.words.now i) q (apart_from_table F q.words.now i table of q.apart.now apart) (λ c. c < bits) same choice least;
  size = least.of.size;
}
