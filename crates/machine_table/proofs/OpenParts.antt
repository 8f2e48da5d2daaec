-- The first open entry of a state when one more part is looked at.
use Rattle.std.proofs.Common.{◌≡◌, ℕ, ◌+◌, ◌<◌, ◌≤◌, ◌^◌, ◌⊎◌, Option, Some, None, length, inl, inr, sym, subst, arith}
use Rattle.std.proofs.lemmas.Bool.{cases_lt}
use Rattle.kiss_file.specs.declared.file.KissFile.{KissFile}
use Rattle.machine_table.specs.declared.open_part.Missing.{Missing}
use Rattle.machine_table.specs.declared.open_part.Missing.TheVariants.{Next, Output}
use Rattle.machine_table.specs.OpenEntries.{IsEntry, IsFirstOpen, IsSaid, StandsBefore, place_of}
use Rattle.machine_table.specs.Laws.Parts.{one_part}
use Rattle.machine_table.specs.Inner.OpenSymbol.{IsFirstAmong, IsFirstOpenAt, IsFirstOpenOf, IsSaidEverywhere, SaysAll}

module _ (F : KissFile) (s : ℕ) (part : Missing) where
  -- what is said of the parts before it and of the part itself is said of all up to it
  said_up_to : (number : ℕ) (other : Missing) → place_of other < place_of part + 1 → (place_of other < place_of part → IsSaid F s number other)
      → IsSaid F s number part → IsSaid F s number other
  said_up_to number other below before there =
      elim (cases_lt (place_of other) (place_of part)) [
        | inl lower ↦ before lower
        | inr same ↦ let it : part ≡ other = one_part part other (omega arith) in subst (λ p. IsSaid F s number p) it there
      ]

  -- nothing is open of the part
  pub with_none : (first : Option (ℕ × Missing)) → IsFirstAmong F s (place_of part) first → ((number : ℕ) → number < 2 ^ F.inputs → IsSaid F s number part)
      → IsFirstAmong F s (place_of part + 1) first
  with_none None known all = λ number other within below. said_up_to number other below (λ lower. known number other within lower) (all number within)
  with_none (Some (symbol, kept)) known all = record {
    within = known.within;
    counted = omega (arith, known.counted);
    not_said = known.not_said;
    first = λ number other within below before. said_up_to number other below (λ lower. known.first number other within lower before) (all number within);
  }

  -- the part is open, but no earlier than what is known
  pub with_later : (symbol : ℕ) (kept : Missing) (other : ℕ) → IsFirstOpenAt F s (place_of part) symbol kept → IsFirstOpenOf F s part other → symbol ≤ other
      → IsFirstOpenAt F s (place_of part + 1) symbol kept
  with_later symbol kept other known gap order = record {
    within = known.within;
    counted = omega (arith, known.counted);
    not_said = known.not_said;
    first = λ number next within below before. up_to number next within below before;
  }
    where
      up_to : (number : ℕ) (next : Missing) → number < 2 ^ F.inputs → place_of next < place_of part + 1
          → (number < symbol) ⊎ ((number ≡ symbol) × (place_of next < place_of kept)) → IsSaid F s number next
      up_to number next within below before =
          elim (cases_lt (place_of next) (place_of part)) [
            | inl lower ↦ known.first number next within lower before
            | inr same ↦
                elim before [
                  | inl less ↦
                      let it : part ≡ next = one_part part next (omega arith) in
                      let lower : number < other = omega arith in
                      subst (λ p. IsSaid F s number p) it (gap.least number lower)
                  | inr at ↦ absurd (omega (arith, at.1, known.counted))
                ]
          ]

  -- the part is open, and nothing before it
  pub with_first : (other : ℕ) → IsSaidEverywhere F s (place_of part) → IsFirstOpenOf F s part other → IsFirstOpenAt F s (place_of part + 1) other part
  with_first other known gap = record {
    within = gap.within;
    counted = omega arith;
    not_said = gap.not_said;
    first = λ number next within below before. up_to number next within below before;
  }
    where
      up_to : (number : ℕ) (next : Missing) → number < 2 ^ F.inputs → place_of next < place_of part + 1
          → (number < other) ⊎ ((number ≡ other) × (place_of next < place_of part)) → IsSaid F s number next
      up_to number next within below before =
          elim before [
            | inl less ↦ said_up_to number next below (λ lower. known number next within lower) (gap.least number less)
            | inr at ↦ known number next within at.1
          ]

  -- the part is open earlier than what is known
  pub with_earlier : (symbol : ℕ) (kept : Missing) (other : ℕ) → IsFirstOpenAt F s (place_of part) symbol kept → IsFirstOpenOf F s part other → other < symbol
      → IsFirstOpenAt F s (place_of part + 1) other part
  with_earlier symbol kept other known gap order = record {
    within = gap.within;
    counted = omega arith;
    not_said = gap.not_said;
    first = λ number next within below before. up_to number next within below before;
  }
    where
      up_to : (number : ℕ) (next : Missing) → number < 2 ^ F.inputs → place_of next < place_of part + 1
          → (number < other) ⊎ ((number ≡ other) × (place_of next < place_of part)) → IsSaid F s number next
      up_to number next within below before =
          elim before [
            | inl less ↦
                let lower : number < symbol = omega arith in
                said_up_to number next below (λ lesser. known.first number next within lesser (inl lower)) (gap.least number less)
            | inr at ↦
                let lower : number < symbol = omega (arith, at.0) in
                known.first number next within at.1 (inl lower)
          ]

-- where each row of the state says all, what one row says of a symbol is the next state and each output
module _ (F : KissFile) (s : ℕ) (all : SaysAll F s) where
  said_each : (number : ℕ) (part : Missing) → place_of part < F.outputs + 1 → IsSaid F s number Next → IsSaid F s number part
  said_each number Next within said = said
  said_each number (Output b) within (row, at, next) = (row, at, (all row at.among at.from).1 b (omega arith))

  pub with_all_said : (first : Option (ℕ × Missing)) → IsFirstAmong F s 1 first → IsFirstAmong F s (F.outputs + 1) first
  with_all_said None known = λ number part within counted. said_each number part counted (known number Next within (omega arith))
  with_all_said (Some (symbol, kept)) known = record {
    within = known.within;
    counted = omega (arith, known.counted);
    not_said = known.not_said;
    first = up_to;
  }
    where
      up_to : (number : ℕ) (other : Missing) → number < 2 ^ F.inputs → place_of other < F.outputs + 1
          → (number < symbol) ⊎ ((number ≡ symbol) × (place_of other < place_of kept)) → IsSaid F s number other
      up_to number other within counted before =
          elim before [
            | inl less ↦ said_each number other counted (known.first number Next within (omega arith) (inl less))
            | inr at ↦ absurd (omega (arith, at.1, known.counted))
          ]

-- the first open entry of a state, with all that stands before it in other states said, is the first of the file
pub first_of_file : (F : KissFile) (s symbol : ℕ) (part : Missing) → s < length F.states → ((t : ℕ) → t < s → IsSaidEverywhere F t (F.outputs + 1))
    → IsFirstOpenAt F s (F.outputs + 1) symbol part → IsFirstOpen F s symbol part
first_of_file F s symbol part within before here = record {
  entry = record { among_states = within; among_symbols = here.within; kind = here.counted };
  open_there = here.not_said;
  first = earlier_said;
}
  where
    earlier_said : (t other : ℕ) (earlier : Missing) → IsEntry F t other earlier → StandsBefore t other earlier s symbol part → IsSaid F t other earlier
    earlier_said t other earlier entry order =
        elim order [
          | inl lesser ↦ before t lesser other earlier entry.among_symbols entry.kind
          | inr same_state ↦
              elim same_state [
                | inl at ↦ subst (λ u. IsSaid F u other earlier) (sym at.0) (here.first other earlier entry.among_symbols entry.kind (inl at.1))
                | inr at ↦ subst (λ u. IsSaid F u other earlier) (sym at.0) (here.first other earlier entry.among_symbols entry.kind (inr (at.1, at.2)))
              ]
        ]
