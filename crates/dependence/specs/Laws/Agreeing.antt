-- A set permits a value where each state gives the same as the first one like it.
use Rattle.std.proofs.Common.{◌≡◌, ◌∙◌, ℕ, ◌+◌, ◌^◌, ◌<◌, ◌≤◌, min, Bool, List, length, get_or, inl, inr, ap, sym, subst, arith, bit_and}
use Rattle.std.proofs.lemmas.Bool.{cases_eq, cases_order}
use Rattle.std.proofs.lemmas.Nat.Bits.{bit_at_and, bit_at-lt, same_from_bits}
use Rattle.std.specs.Int.{bit_at}
use Rattle.cubes.specs.Symbol.{number_of, symbol_of}
use Rattle.cubes.specs.Laws.Numbers.{length-symbol_of, number_below, symbol_of-number_of}
use Rattle.kiss_file.specs.declared.file.KissFile.{KissFile}
use Rattle.machine_table.specs.Pairs.{AtEachSymbol}
use Rattle.dependence.specs.SufficientBits.{AgreeOn, InWord, PermitsValue}
use Rattle.dependence.specs.Bit.{GiveTheSame}
use Rattle.dependence.specs.Inner.LikeStates.{IsFirstLike}

-- the same bits of a set, by one mask
pub agree_from_masks : (words : List ℕ) (set s t : ℕ) → bit_and (get_or words s 0) set ≡ bit_and (get_or words t 0) set → AgreeOn words (InWord set) s t
agree_from_masks words set s t same c in_set =
    let first : bit_at (bit_and (get_or words s 0) set) c ≡ min (bit_at (get_or words s 0) c) (bit_at set c) = bit_at_and (get_or words s 0) set c in
    let second : bit_at (bit_and (get_or words t 0) set) c ≡ min (bit_at (get_or words t 0) c) (bit_at set c) = bit_at_and (get_or words t 0) set c in
    let masks : bit_at (bit_and (get_or words s 0) set) c ≡ bit_at (bit_and (get_or words t 0) set) c = ap (λ n. bit_at n c) same in
    omega (arith, first, second, masks, in_set, bit_at-lt (get_or words s 0) c, bit_at-lt (get_or words t 0) c)

pub masks_from_agree : (words : List ℕ) (set s t : ℕ) → AgreeOn words (InWord set) s t → bit_and (get_or words s 0) set ≡ bit_and (get_or words t 0) set
masks_from_agree words set s t agree = same_from_bits (bit_and (get_or words s 0) set) (bit_and (get_or words t 0) set) each where
  each : (c : ℕ) → bit_at (bit_and (get_or words s 0) set) c ≡ bit_at (bit_and (get_or words t 0) set) c
  each c =
      let first : bit_at (bit_and (get_or words s 0) set) c ≡ min (bit_at (get_or words s 0) c) (bit_at set c) = bit_at_and (get_or words s 0) set c in
      let second : bit_at (bit_and (get_or words t 0) set) c ≡ min (bit_at (get_or words t 0) c) (bit_at set c) = bit_at_and (get_or words t 0) set c in
      let small : bit_at set c < 2 = bit_at-lt set c in
      elim (cases_eq (bit_at set c) 1) [
        | inl in_set ↦ first ∙ ap (λ n. min n (bit_at set c)) (agree c in_set) ∙ sym second
        | inr out ↦
            let none : bit_at set c ≡ 0 = omega (arith, small, out) in
            omega (arith, first, second, none)
      ]

-- for each number of a symbol, and so for each symbol
pub same_each : (F : KissFile) (value : ℕ → List Bool → Bool) (s t : ℕ) → AtEachSymbol F.inputs (λ x. value s (symbol_of F.inputs x) ≡ value t (symbol_of F.inputs x)) → GiveTheSame F value s t
same_each F value s t each x size =
    let written : symbol_of F.inputs (number_of x) ≡ x = subst (λ (k : ℕ). symbol_of k (number_of x) ≡ x) size (symbol_of-number_of x) in
    let below : number_of x < 2 ^ F.inputs = subst (λ (k : ℕ). number_of x < 2 ^ k) size (number_below x) in
    subst (λ (y : List Bool). value s y ≡ value t y) written (each (number_of x) below)

pub each_same : (F : KissFile) (value : ℕ → List Bool → Bool) (s t : ℕ) → GiveTheSame F value s t → AtEachSymbol F.inputs (λ x. value s (symbol_of F.inputs x) ≡ value t (symbol_of F.inputs x))
each_same F value s t same x below = same (symbol_of F.inputs x) (length-symbol_of F.inputs x)

-- some first state like s gives the same as s
pub record FirstGives (F : KissFile) (words : List ℕ) (set : ℕ) (value : ℕ → List Bool → Bool) (s : ℕ) : Type 0 where
  pub first : ℕ
  pub is : IsFirstLike words set s first
  pub same : GiveTheSame F value first s

abbrev pub FirstsGive : KissFile → List ℕ → ℕ → (ℕ → List Bool → Bool) → ℕ → Type 0
FirstsGive F words set value count = (s : ℕ) → s < count → FirstGives F words set value s

-- a state is like itself
pub first_itself : (F : KissFile) (words : List ℕ) (set : ℕ) (value : ℕ → List Bool → Bool) (s first : ℕ) → IsFirstLike words set s first → s ≤ first → FirstGives F words set value s
first_itself F words set value s first is late = record {
  first = first;
  is = is;
  same = λ x size. let at : first ≡ s = omega (arith, is.among) in ap (λ (t : ℕ). value t x) at;
}

pub firsts_more : (F : KissFile) (words : List ℕ) (set : ℕ) (value : ℕ → List Bool → Bool) (count : ℕ) → FirstsGive F words set value count → FirstGives F words set value count → FirstsGive F words set value (count + 1)
firsts_more F words set value count before here s within =
    elim (cases_eq s count) [
      | inl at ↦ subst (FirstGives F words set value) (sym at) here
      | inr other ↦ before s (omega arith)
    ]

-- states that are like one another have one first state
one_first : (words : List ℕ) (set s t first other : ℕ) → bit_and (get_or words s 0) set ≡ bit_and (get_or words t 0) set → IsFirstLike words set s first → IsFirstLike words set t other → first ≡ other
one_first words set s t first other same of_s of_t =
    elim (cases_order first other) [
      | inl at ↦ at
      | inr apart ↦ elim apart [
        | inl below ↦ absurd (of_t.before first below (of_s.like ∙ same))
        | inr above ↦ absurd (of_s.before other above (of_t.like ∙ sym same))
      ]
    ]

pub permits_from_firsts : (F : KissFile) (words : List ℕ) (set : ℕ) (value : ℕ → List Bool → Bool) → FirstsGive F words set value (length F.states) → PermitsValue F words (InWord set) value
permits_from_firsts F words set value firsts s t x in_s in_t agree size =
    let of_s : FirstGives F words set value s = firsts s in_s in
    let of_t : FirstGives F words set value t = firsts t in_t in
    let at : of_s.first ≡ of_t.first = one_first words set s t of_s.first of_t.first (masks_from_agree words set s t agree) of_s.is of_t.is in
    sym (of_s.same x size) ∙ ap (λ (u : ℕ). value u x) at ∙ of_t.same x size

-- where the set permits the value, each state gives the same as the first one like it
pub same_from_permits : (F : KissFile) (words : List ℕ) (set : ℕ) (value : ℕ → List Bool → Bool) (s first : ℕ) → PermitsValue F words (InWord set) value → s < length F.states → IsFirstLike words set s first → GiveTheSame F value first s
same_from_permits F words set value s first permits within is x size =
    permits first s x (omega (arith, is.among)) within (agree_from_masks words set first s is.like) size
