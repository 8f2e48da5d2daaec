-- The rule of reads gives least reads where codes are short.
use Rattle.std.proofs.Common.{◌≡◌, ◌↔◌, ℕ, ◌<◌, ◌≤◌, Bool, Contains, List, [], ◌∷◌, length, get_or, inl, inr, subst, sym, arith}
use Rattle.std.proofs.lemmas.Bool.{cases_lt}
use Rattle.std.proofs.lemmas.List.Elements.{All-contains, All-from_get_or, Contains-get_or}
use Rattle.std.specs.List.Sorted.{IsStrictlyIncreasing}
use Rattle.list_facts.specs.Laws.Members.{among_or_not}
use Rattle.kiss_file.specs.declared.file.KissFile.{KissFile}
use Rattle.state_codes.specs.Code.{need}
use Rattle.state_codes.specs.Laws.Need.{need-least}
use Rattle.dependence.specs.SufficientBits.{InWord, PermitsValue}
use Rattle.dependence.specs.ReadRule.{Beside, IsIrredundant, IsReadRule}
use Rattle.dependence.specs.Laws.Judged.{permits_more}
use Rattle.dependence.specs.Laws.Irredundant.{rule_least}
use Rattle.least_codes.specs.Inner.Choice.{Ascend}
use Rattle.least_codes.specs.Laws.{RuleGivesLeast, RuleGivesLeastSet}
use Rattle.least_codes.specs.LeastCode.{AreCodeWords}
use Rattle.least_codes.specs.LeastReads.{AreEnoughBits, AreLeastReads}
use Rattle.least_codes.proofs.Ascending.{contains_head, increasing_ascend}
use Rattle.least_codes.specs.Laws.Chosen.{least_list_is_one}
use Rattle.least_codes.proofs.Greedy.{AreBelow, IsOdd, NeverHas, fewest, first}
use Rattle.least_codes.proofs.Least.{need_of_eight, need_of_four}
use Rattle.least_codes.proofs.Reading.{all_bits_permit}
use Rattle.least_codes.proofs.Sharing.{same_at_all}

module _ (F : KissFile) (words : List ℕ) (value : ℕ → List Bool → Bool) (reads : List ℕ) (some : 3 ≤ length F.states) (most : length F.states ≤ 8) (codes : AreCodeWords (length F.states) (need (length F.states)) words)
    (ascending : IsStrictlyIncreasing reads) (rule : IsReadRule F words (λ c. c < need (length F.states)) (Contains reads) value) where
  abbrev Candidate : ℕ → Type 0
  Candidate c = c < need (length F.states)

  three : need (length F.states) ≤ 3
  three = need-least (length F.states) 3 (omega (arith, most))

  up : (list : List ℕ) → IsStrictlyIncreasing list → Ascend 0 list
  up list increasing = increasing_ascend 0 list increasing (λ any. omega arith)

  enough : AreEnoughBits F words Candidate value reads
  enough = record {
    ascending = ascending;
    candidates = All-from_get_or Candidate reads 0 (λ k within. rule.candidates (get_or reads k 0) (Contains-get_or reads k 0 within));
    permit = least.permits;
  } where
    least : IsIrredundant F words (Contains reads) value
    least = rule_least F words Candidate (Contains reads) value (among_or_not reads) rule (need (length F.states)) (λ c is. is) (all_bits_permit F words (need (length F.states)) value codes)

  -- no others that permit the value are among the bits below a read one and the read ones above it
  never : (others : List ℕ) → AreEnoughBits F words Candidate value others → NeverHas (need (length F.states)) reads others
  never others permit c is covered = rule.needed c is (permits_more F words (Contains others) (Beside Candidate (Contains reads) c) value covered permit.permit)

  below : (others : List ℕ) → AreEnoughBits F words Candidate value others → AreBelow (need (length F.states)) others
  below others permit c is = All-contains Candidate others c permit.candidates is

  never_odd : (others : List ℕ) → AreEnoughBits F words Candidate value others → IsOdd reads others → ⊥
  never_odd others permit odd =
      elim (cases_lt 4 (length F.states)) [
        | inl many ↦ rule.needed 0 (subst (λ (list : List ℕ). Contains list 0) (sym odd.two) (contains_head 0 (1 ∷ [])))
            (same_at_all F words value many (subst (λ (k : ℕ). AreCodeWords (length F.states) k words) (sym (need_of_eight (length F.states) many most)) codes)
            (subst (λ (list : List ℕ). PermitsValue F words (Contains list) value) odd.two enough.permit)
            (subst (λ (list : List ℕ). PermitsValue F words (Contains list) value) odd.one permit.permit)
            (Beside Candidate (Contains reads) 0))
        | inr few ↦
            let high : 2 < need (length F.states) = below others permit 2 (subst (λ (list : List ℕ). Contains list 2) (sym odd.one) (contains_head 2 [])) in
            omega (arith, high, need_of_four (length F.states) some few)
      ]

pub rule_gives_least : RuleGivesLeast
rule_gives_least F words value reads some most codes ascending rule = record {
  fewest = record {
    enough = own;
    fewest = λ others permit. elim (fewest (need (length F.states)) small reads others (up_here reads own) (up_here others permit) (below_here reads own) (below_here others permit) (never_here others permit)) [
      | inl no_fewer ↦ no_fewer
      | inr odd ↦ absurd (never_odd F words value reads some most codes ascending rule others permit odd)
    ];
  };
  first = λ others permit size. first (need (length F.states)) small reads others (up_here reads own) (up_here others permit) (below_here reads own) (below_here others permit) (never_here others permit) size;
} where
  small : need (length F.states) ≤ 3
  small = three F words value reads some most codes ascending rule

  own : AreEnoughBits F words (λ c. c < need (length F.states)) value reads
  own = enough F words value reads some most codes ascending rule

  up_here : (others : List ℕ) → AreEnoughBits F words (λ c. c < need (length F.states)) value others → Ascend 0 others
  up_here others permit = up F words value reads some most codes ascending rule others permit.ascending

  below_here : (others : List ℕ) → AreEnoughBits F words (λ c. c < need (length F.states)) value others → AreBelow (need (length F.states)) others
  below_here others permit = below F words value reads some most codes ascending rule others permit

  never_here : (others : List ℕ) → AreEnoughBits F words (λ c. c < need (length F.states)) value others → NeverHas (need (length F.states)) reads others
  never_here others permit = never F words value reads some most codes ascending rule others permit

-- least reads ask nothing of candidates but which they are
enough_of : (F : KissFile) (words : List ℕ) (Candidate Other : ℕ → Type 0) (value : ℕ → List Bool → Bool) (reads : List ℕ) → ((c : ℕ) → Candidate c → Other c) → AreEnoughBits F words Candidate value reads → AreEnoughBits F words Other value reads
enough_of F words Candidate Other value reads to permit = record {
  ascending = permit.ascending;
  candidates = All-from_get_or Other reads 0 (λ k within. to (get_or reads k 0) (All-contains Candidate reads (get_or reads k 0) permit.candidates (Contains-get_or reads k 0 within)));
  permit = permit.permit;
}

least_of : (F : KissFile) (words : List ℕ) (Candidate Other : ℕ → Type 0) (value : ℕ → List Bool → Bool) (reads : List ℕ) → ((c : ℕ) → Candidate c → Other c) → ((c : ℕ) → Other c → Candidate c) → AreLeastReads F words Candidate value reads → AreLeastReads F words Other value reads
least_of F words Candidate Other value reads to from least = record {
  fewest = record {
    enough = enough_of F words Candidate Other value reads to least.fewest.enough;
    fewest = λ others permit. least.fewest.fewest others (enough_of F words Other Candidate value others from permit);
  };
  first = λ others permit size. least.first others (enough_of F words Other Candidate value others from permit) size;
}

pub rule_gives_least_set : RuleGivesLeastSet
rule_gives_least_set F words value reads candidates set some most codes ascending rule all is c =
    let least : AreLeastReads F words (InWord candidates) value reads = least_of F words (λ c. c < need (length F.states)) (InWord candidates) value reads (λ c. (all c).1) (λ c. (all c).0) (rule_gives_least F words value reads some most codes ascending rule) in
    let same : is.reads ≡ reads = least_list_is_one F words (InWord candidates) value is.reads reads is.least least in
    subst (λ (list : List ℕ). InWord set c ↔ Contains list c) same (is.bits c)
