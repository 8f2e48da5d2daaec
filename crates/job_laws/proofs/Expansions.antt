-- Two machines of the pairs of one cover go and answer alike.
use Rattle.std.proofs.Common.{◌≡◌, ◌∙◌, ℕ, ◌+◌, ◌<◌, All, Bool, false, List, length, get_or, inl, inr, sym, ap, subst, arith}
use Rattle.std.proofs.lemmas.Bool.{cases_order}
use Rattle.std.proofs.lemmas.List.FromFn.{get_or-map-range_with_len}
use Rattle.cover_split.specs.Expansion.{IsExpansion, IsFirstCopy, IsFirstWith, IsPair, IsTarget, pairs_of}
use Rattle.cover_split.specs.Laws.Pairs.{one_pair, some_pair}
use Rattle.cover_split.specs.StateCover.{IsBlock}
use Rattle.dependence.specs.SufficientBits.{next_value, output_value}
use Rattle.job_laws.proofs.ReadAlike.{GiveAlike}
use Rattle.kiss_file.specs.declared.file.KissFile.{KissFile}
use Rattle.kiss_file.specs.Laws.NumberedNames.{length-numbered_names}
use Rattle.kiss_file.specs.Machine.{next, out, output_bit}
use Rattle.cubes.specs.Symbol.{bit}

-- the first block with a property is one
target_once : (F : KissFile) (blocks : List (List ℕ)) (j : ℕ) (x : List Bool) (one other : ℕ) → IsTarget F blocks j x one → IsTarget F blocks j x other → one ≡ other
target_once F blocks j x one other is also =
    elim (cases_order one other) [
      | inl same ↦ same
      | inr (inl before) ↦ absurd (also.first one before is.has)
      | inr (inr after) ↦ absurd (is.first other after also.has)
    ]

first_once : (blocks : List (List ℕ)) (s one other : ℕ) → IsFirstWith blocks s one → IsFirstWith blocks s other → one ≡ other
first_once blocks s one other is also =
    elim (cases_order one other) [
      | inl same ↦ same
      | inr (inl before) ↦ absurd (also.first one before is.has)
      | inr (inr after) ↦ absurd (is.first other after also.has)
    ]

module _ (F : KissFile) (blocks : List (List ℕ)) (lawful : All (IsBlock (length F.states)) blocks) (E D : KissFile) (one : IsExpansion F blocks E) (two : IsExpansion F blocks D) where
  pub same_inputs : E.inputs ≡ D.inputs
  same_inputs = one.inputs ∙ sym two.inputs

  pub same_outputs : E.outputs ≡ D.outputs
  same_outputs = one.outputs ∙ sym two.outputs

  pub same_states : length E.states ≡ length D.states
  same_states = ap (λ (names : List (List ℕ)). length names) (one.states ∙ sym two.states)

  -- as many states as pairs
  pub states_counted : length E.states ≡ length (pairs_of blocks)
  states_counted = ap (λ (names : List (List ℕ)). length names) one.states ∙ length-numbered_names (length (pairs_of blocks))

  pub same_reset : E.reset ≡ D.reset
  same_reset =
      let (j, first, pair) = one.reset in
      let (k, also, pair_too) = two.reset in
      one_pair (length F.states) blocks lawful E.reset D.reset j F.reset pair
      (subst (λ (n : ℕ). IsPair blocks D.reset n F.reset) (first_once blocks F.reset k j also first) pair_too)

  same_next : (i : ℕ) (x : List Bool) → i < length E.states → length x ≡ E.inputs → next E i x ≡ next D i x
  same_next i x within size =
      let (j, s, pair) = some_pair blocks i (omega (arith, within, states_counted)) in
      let (target, is, goes) = one.next_pairs i x (size ∙ one.inputs) j s pair in
      let (more, also, goes_too) = two.next_pairs i x (size ∙ one.inputs) j s pair in
      one_pair (length F.states) blocks lawful (next E i x) (next D i x) target (next F s x) goes
      (subst (λ (n : ℕ). IsPair blocks (next D i x) n (next F s x)) (target_once F blocks j x more target also is) goes_too)

  same_out : (i : ℕ) (x : List Bool) → i < length E.states → length x ≡ E.inputs → out E i x ≡ out D i x
  same_out i x within size =
      let (j, s, pair) = some_pair blocks i (omega (arith, within, states_counted)) in
      one.outs i j s x pair (size ∙ one.inputs) ∙ sym (two.outs i j s x pair (size ∙ one.inputs))

  same_bit : (b i : ℕ) (x : List Bool) → b < E.outputs → i < length E.states → length x ≡ E.inputs → output_bit E i x b ≡ output_bit D i x b
  same_bit b i x low within size =
      sym (get_or-map-range_with_len (output_bit E i x) 0 E.outputs b b false low (omega arith))
      ∙ (ap (λ (bits : List Bool). get_or bits b false) (same_out i x within size)
      ∙ get_or-map-range_with_len (output_bit D i x) 0 D.outputs b b false (omega (arith, low, same_outputs)) (omega arith))

  pub next_alike : (words : List ℕ) (i : ℕ) → GiveAlike E D (next_value E words i) (next_value D words i)
  next_alike words i = record {
    inputs = same_inputs;
    states = same_states;
    same = λ s x within size. ap (λ (t : ℕ). bit (get_or words t 0) i) (same_next s x within size);
  }

  pub output_alike : (b : ℕ) → b < E.outputs → GiveAlike E D (output_value E b) (output_value D b)
  output_alike b low = record { inputs = same_inputs; states = same_states; same = λ s x within size. same_bit b s x low within size }
