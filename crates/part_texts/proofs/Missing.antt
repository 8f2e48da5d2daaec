-- Which parts are not there, and which have no inputs for a machine.
use Rattle.std.proofs.Common.{◌≡◌, ◌+◌, ◌<◌, ◌≤◌, ℕ, Contains, List, [], ◌∷◌, inl, inr, length, refl, sym, ap, ◌∙◌, subst, arith}
use Rattle.std.proofs.lemmas.List.{get_or_default}
use Rattle.answers.specs.declared.refusals.PartFlaw.TheVariants as flaws
use Rattle.answers.specs.declared.refusals.Refusal.TheVariants.{NoPart}
use Rattle.answers.specs.Cause.{CallsForNone}
use Rattle.answers.specs.Outcome.{IsStop}
use Rattle.answers.specs.Laws.Causes.{Within, none_first}
use Rattle.dependence.specs.declared.sets.ReadSet.{ReadSet}
use Rattle.dependence.specs.declared.sets.Reads.{Reads}
use Rattle.list_facts.specs.Laws.Members.{Contains-here}
use Rattle.part_machines.specs.PartSet.{IsPartSet}
use Rattle.part_machines.specs.Which.{own_bits}
use Rattle.part_machines.specs.Laws.Blocks.{own_bit, own_from}
use Rattle.state_codes.specs.declared.Codes.{Codes}
use Rattle.state_codes.specs.declared.split.Part.{Part}
use Rattle.state_codes.specs.declared.which.Which.{Which}
use Rattle.state_codes.specs.declared.which.Which.TheVariants.{Part as Numbered, Outputs}
use Rattle.part_texts.specs.PartCauses.{HasManyInputs, LacksBits, LacksPart}
use Rattle.part_texts.specs.Inner.PartHere.{HasNoSet, IsMissing, IsSmallSet, IsThere}
use Rattle.part_texts.specs.Laws.OneSplit.{set_once}

-- ---- the bits of a part
-- a list without items
without_items : (xs : List ℕ) → ((x : ℕ) → Contains xs x → ⊥) → xs ≡ []
without_items [] none = refl
without_items (x ∷ xs) none = absurd (none x (Contains-here x xs))

module _ (codes : Codes) (j : ℕ) (count : length codes.owner ≡ codes.bits) where
  some_bits : Contains codes.owner j → 0 < length (own_bits codes (Numbered j))
  some_bits owned =
      let among = own_from codes j owned.0 (omega (arith, owned.1, count)) (get_or_default codes.owner owned.0 0 j owned.1 ∙ owned.2) in
      omega (arith, among.1)

  no_bits : (Contains codes.owner j → ⊥) → own_bits codes (Numbered j) ≡ []
  no_bits none =
      without_items (own_bits codes (Numbered j))
      (λ c among. let own = own_bit codes j c among in
      none (c, omega (arith, own.0, count), get_or_default codes.owner c j 0 (omega (arith, own.0, count)) ∙ own.1))

-- ---- the part
module _ (which : Which) (parts : List Part) (codes : Codes) (j : ℕ) (is : which ≡ Numbered j) where
  pub missing : length parts ≤ j → IsStop (IsMissing which parts codes) (NoPart (flaws.Missing j))
  missing past = inr (inl (j, refl, is, past))

  has_part : j < length parts → CallsForNone (LacksPart which parts)
  has_part low refusal (k, equal, numbered, past) = let same : j ≡ k = cc in absurd (omega (arith, same, low, past))

  pub bitless : length codes.owner ≡ codes.bits → j < length parts → (Contains codes.owner j → ⊥) → IsStop (IsMissing which parts codes) (NoPart (flaws.NoBits j))
  bitless count low none = inr (inr (has_part low, inl (j, refl, is, subst (λ (w : Which). own_bits codes w ≡ []) (sym is) (no_bits codes j count none))))

  has_bits : 0 < length (own_bits codes (Numbered j)) → CallsForNone (LacksBits which codes)
  has_bits some refusal (k, equal, numbered, none) =
      let empty : own_bits codes (Numbered j) ≡ [] = subst (λ (w : Which). own_bits codes w ≡ []) is none in
      absurd (omega (arith, some, ap length empty))

  pub part_there : length codes.owner ≡ codes.bits → j < length parts → Contains codes.owner j → CallsForNone (IsMissing which parts codes) × IsThere parts codes which
  part_there count low owned =
      let some : 0 < length (own_bits codes (Numbered j)) = some_bits codes j count owned in (
        none_first (LacksPart which parts ∷ LacksBits which codes ∷ []) (has_part low, (has_bits some, tt)),
        subst (IsThere parts codes) (sym is) (low, some),
      )

pub outputs_there : (which : Which) (parts : List Part) (codes : Codes) → which ≡ Outputs → CallsForNone (IsMissing which parts codes) × IsThere parts codes which
outputs_there which parts codes is = (
  none_first (LacksPart which parts ∷ LacksBits which codes ∷ []) ((λ refusal (k, equal, numbered, past). absurd (cc)), ((λ refusal (k, equal, numbered, none). absurd (cc)), tt)),
  subst (IsThere parts codes) (sym is) tt,
)

-- ---- what it reads
module _ (which : Which) (parts : List Part) (codes : Codes) (sets : Reads) where
  pub missing_has_no_set : Within (IsMissing which parts codes) (HasNoSet which parts codes sets)
  missing_has_no_set refusal (inl part) = inl part
  missing_has_no_set refusal (inr (a, inl bits)) = inr (a, inl bits)
  missing_has_no_set refusal (inr (a, inr later)) = absurd later.1

  module _ (none : CallsForNone (IsMissing which parts codes)) (set : ReadSet) (reads : IsPartSet codes sets which set) where
    has_a_part : CallsForNone (LacksPart which parts)
    has_a_part refusal h = none refusal (inl h)

    has_a_bit : CallsForNone (LacksBits which codes)
    has_a_bit refusal h = none refusal (inr (has_a_part, inl h))

    pub many_inputs : (inputs : ℕ) → inputs ≡ length set.inputs + length set.latches → 32 < inputs → IsStop (HasNoSet which parts codes sets) (NoPart (flaws.ManyInputs which inputs))
    many_inputs inputs count many =
        inr (inr (has_a_part, inr (has_a_bit, inl (set, ap (λ (n : ℕ). NoPart (flaws.ManyInputs which n)) count, reads, omega (arith, count, many)))))

    few_read : length set.inputs + length set.latches ≤ 32 → CallsForNone (HasManyInputs which codes sets)
    few_read few refusal (other, equal, others, many) =
        let same : other ≡ set = set_once codes sets which other set others reads in
        omega (arith, few, many, ap (λ (s : ReadSet). length s.inputs + length s.latches) same)

    pub small_set : IsThere parts codes which → length set.inputs + length set.latches ≤ 32 → CallsForNone (HasNoSet which parts codes sets) × IsSmallSet parts codes sets which set
    small_set there few = (
      none_first (LacksPart which parts ∷ LacksBits which codes ∷ HasManyInputs which codes sets ∷ []) (has_a_part, (has_a_bit, (few_read few, tt))),
      record { there = there; reads = reads; few = few },
    )
