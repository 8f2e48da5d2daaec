-- Two machines that go and answer alike have the same read sets.
use Rattle.std.proofs.Common.{◌≡◌, ◌∙◌, ℕ, ◌<◌, Bool, Contains, List, Some, length, slice_get, sym, subst, arith}
use Rattle.std.proofs.lemmas.Option.{slice_get_within}
use Rattle.dependence.specs.Candidates.{IsBitOfCode, IsCandidate}
use Rattle.dependence.specs.declared.sets.Reads.{Reads}
use Rattle.dependence.specs.declared.sets.ReadSet.{ReadSet}
use Rattle.dependence.specs.Inputs.{Matters}
use Rattle.dependence.specs.ReadRule.{Beside, IsReadRule}
use Rattle.dependence.specs.Reads.{AreReads, IsReadSet}
use Rattle.dependence.specs.SufficientBits.{PermitsValue, next_value, output_value}
use Rattle.kiss_file.specs.declared.file.KissFile.{KissFile}
use Rattle.state_codes.specs.declared.Codes.{Codes}
use Rattle.state_codes.specs.declared.split.Part.{Part}

-- machines with as many inputs and states, of which values are the same at each state and symbol
pub record GiveAlike (E D : KissFile) (value given : ℕ → List Bool → Bool) : Type 0 where
  pub inputs : E.inputs ≡ D.inputs
  pub states : length E.states ≡ length D.states
  pub same : (s : ℕ) (x : List Bool) → s < length E.states → length x ≡ E.inputs → value s x ≡ given s x

turned : (E D : KissFile) (value given : ℕ → List Bool → Bool) → GiveAlike E D value given → GiveAlike D E given value
turned E D value given alike = record {
  inputs = sym alike.inputs;
  states = sym alike.states;
  same = λ s x within size. sym (alike.same s x (omega (arith, within, alike.states)) (size ∙ sym alike.inputs));
}

permits_as : (E D : KissFile) (words : List ℕ) (R : ℕ → Type 0) (value given : ℕ → List Bool → Bool) → GiveAlike E D value given → PermitsValue E words R value → PermitsValue D words R given
permits_as E D words R value given alike permits s t x in_s in_t agree size =
    let wide : length x ≡ E.inputs = size ∙ sym alike.inputs in
    sym (alike.same s x (omega (arith, in_s, alike.states)) wide)
    ∙ (permits s t x (omega (arith, in_s, alike.states)) (omega (arith, in_t, alike.states)) agree wide ∙ alike.same t x (omega (arith, in_t, alike.states)) wide)

matters_as : (E D : KissFile) (value given : ℕ → List Bool → Bool) (a : ℕ) → GiveAlike E D value given → Matters E value a → Matters D given a
matters_as E D value given a alike is = record {
  s = is.s;
  x = is.x;
  y = is.y;
  state = omega (arith, is.state, alike.states);
  symbol = is.symbol ∙ alike.inputs;
  differ = is.differ;
  values = λ same. is.values
      (alike.same is.s is.x is.state is.symbol ∙ (same ∙ sym (alike.same is.s is.y is.state (sym is.differ.lengths ∙ is.symbol))));
}

rule_as : (E D : KissFile) (words : List ℕ) (Candidate R : ℕ → Type 0) (value given : ℕ → List Bool → Bool) → GiveAlike E D value given → IsReadRule E words Candidate R value → IsReadRule D words Candidate R given
rule_as E D words Candidate R value given alike is = record {
  candidates = is.candidates;
  needed = λ c reads permits. is.needed c reads (permits_as D E words (Beside Candidate R c) given value (turned E D value given alike) permits);
  spared = λ c candidate out. permits_as E D words (Beside Candidate R c) value given alike (is.spared c candidate out);
}

set_as : (E D : KissFile) (words : List ℕ) (Candidate : ℕ → Type 0) (value given : ℕ → List Bool → Bool) (set : ReadSet) → GiveAlike E D value given → IsReadSet E words Candidate value set → IsReadSet D words Candidate given set
set_as E D words Candidate value given set alike is = record {
  latches = rule_as E D words Candidate (Contains set.latches) value given alike is.latches;
  latches_ascend = is.latches_ascend;
  inputs = λ a. (
    (λ among. let (low, matters) = (is.inputs a).0 among in (omega (arith, low, alike.inputs), matters_as E D value given a alike matters)),
    (λ both. (is.inputs a).1 (omega (arith, both.0, alike.inputs), matters_as D E given value a (turned E D value given alike) both.1)),
  );
  inputs_ascend = is.inputs_ascend;
}

-- what one machine's gates read by the rule, the other's do
pub reads_as : (E D : KissFile) (parts : List Part) (codes : Codes) (reads : Reads) → E.outputs ≡ D.outputs → ((i : ℕ) → GiveAlike E D (next_value E codes.words i) (next_value D codes.words i))
    → ((b : ℕ) → b < E.outputs → GiveAlike E D (output_value E b) (output_value D b)) → AreReads E parts codes reads → AreReads D parts codes reads
reads_as E D parts codes reads outputs nexts outs is = record {
  latch_count = is.latch_count;
  latches = λ i set there. set_as E D codes.words (IsCandidate parts codes i) (next_value E codes.words i) (next_value D codes.words i) set (nexts i) (is.latches i set there);
  output_count = is.output_count ∙ outputs;
  outputs = λ b set there.
      set_as E D codes.words (IsBitOfCode codes) (output_value E b) (output_value D b) set
      (outs b (omega (arith, is.output_count, slice_get_within reads.outputs b set there))) (is.outputs b set there);
}
