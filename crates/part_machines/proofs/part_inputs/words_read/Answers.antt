use Rattle.std.proofs.Common.{◌≡◌, ◌↔◌, ◌-◌, ◌^◌, ℕ, Contains, List, length, subst, sym}
use Rattle.dependence.specs.declared.sets.ReadSet.{ReadSet}
use Rattle.dependence.specs.declared.sets.Reads.{Reads}
use Rattle.dependence.specs.SufficientBits.{InWord}
use Rattle.state_codes.specs.declared.Codes.{Codes}
use Rattle.part_machines.specs.declared.part_inputs.ReadWords.{ReadWords}
use Rattle.state_codes.specs.declared.which.Which.{Which}
use Rattle.state_codes.specs.declared.which.Which.TheVariants.{Part as Numbered}
use Rattle.part_machines.specs.Inner.Gathered.{AreWordsOf}
use Rattle.part_machines.specs.PartSet.{HasGateThat}
use Rattle.part_machines.specs.Which.{own_bits}
use Rattle.part_machines.proofs.PartSets.{outputs_from_sets, part_from_sets, sets_from_outputs, sets_from_part}
use Rattle.part_machines.proofs.part_inputs.words_read.Goals as goal

-- the words of a part with a number
module _ (code : Codes) (sets : Reads) (which : Which) (j own : ℕ) (list : List ReadSet) (read : ReadWords) (is : which ≡ Numbered j)
    (known : (d : ℕ) → InWord own d ↔ Contains (own_bits code which) d) (of_latches : list ≡ sets.latches) (given : AreWordsOf list own (length list) read) where
  owned : (d : ℕ) → InWord own d ↔ Contains (own_bits code (Numbered j)) d
  owned d = subst (λ (w : Which). InWord own d ↔ Contains (own_bits code w) d) is (known d)

  words : AreWordsOf sets.latches own (length sets.latches) read
  words = subst (λ (l : List ReadSet). AreWordsOf l own (length l) read) of_latches given

  part_inputs : (a : ℕ) → InWord read.inputs a ↔ HasGateThat code sets which (λ set. Contains set.inputs a)
  part_inputs a =
      subst (λ (w : Which). InWord read.inputs a ↔ HasGateThat code sets w (λ set. Contains set.inputs a)) (sym is) (
        (λ in_word. part_from_sets code sets (λ set. Contains set.inputs a) j own owned ((words.inputs a).0 in_word)),
        (λ has. (words.inputs a).1 (sets_from_part code sets (λ set. Contains set.inputs a) j own owned has)),
      )

  part_latches : (c : ℕ) → InWord read.latches c ↔ HasGateThat code sets which (λ set. Contains set.latches c)
  part_latches c =
      subst (λ (w : Which). InWord read.latches c ↔ HasGateThat code sets w (λ set. Contains set.latches c)) (sym is) (
        (λ in_word. part_from_sets code sets (λ set. Contains set.latches c) j own owned ((words.latches c).0 in_word)),
        (λ has. (words.latches c).1 (sets_from_part code sets (λ set. Contains set.latches c) j own owned has)),
      )

pub returns-in-Part-clause-inputs : goal.returns-in-Part-clause-inputs
returns-in-Part-clause-inputs c =
    part_inputs c.args.codes.now c.args.reads.now c.args.which c.in-Part.field-0 c.own_word.result c.as_slice.result.now c.words_of_gates.result c.in-Part.is
    c.own_word.ensures c.as_slice.ensures c.words_of_gates.ensures

pub returns-in-Part-clause-latches : goal.returns-in-Part-clause-latches
returns-in-Part-clause-latches c =
    part_latches c.args.codes.now c.args.reads.now c.args.which c.in-Part.field-0 c.own_word.result c.as_slice.result.now c.words_of_gates.result c.in-Part.is
    c.own_word.ensures c.as_slice.ensures c.words_of_gates.ensures

pub returns-in-Outputs-clause-inputs : goal.returns-in-Outputs-clause-inputs
returns-in-Outputs-clause-inputs c a =
    let all : AreWordsOf c.args.reads.now.outputs (2 ^ 64 - 1) (length c.args.reads.now.outputs) c.words_of_gates-in-Outputs.result =
    subst (λ (list : List ReadSet). AreWordsOf list (2 ^ 64 - 1) (length list) c.words_of_gates-in-Outputs.result) c.as_slice-in-Outputs.ensures c.words_of_gates-in-Outputs.ensures in
    subst (λ (which : Which). InWord c.words_of_gates-in-Outputs.result.inputs a ↔ HasGateThat c.args.codes.now c.args.reads.now which (λ set. Contains set.inputs a)) (sym c.in-Outputs.is) (
      (λ is. outputs_from_sets c.args.codes.now c.args.reads.now (λ set. Contains set.inputs a) (2 ^ 64 - 1) ((all.inputs a).0 is)),
      (λ has. (all.inputs a).1 (sets_from_outputs c.args.codes.now c.args.reads.now (λ set. Contains set.inputs a) c.requires.output_count has)),
    )

pub returns-in-Outputs-clause-latches : goal.returns-in-Outputs-clause-latches
returns-in-Outputs-clause-latches c a =
    let all : AreWordsOf c.args.reads.now.outputs (2 ^ 64 - 1) (length c.args.reads.now.outputs) c.words_of_gates-in-Outputs.result =
    subst (λ (list : List ReadSet). AreWordsOf list (2 ^ 64 - 1) (length list) c.words_of_gates-in-Outputs.result) c.as_slice-in-Outputs.ensures c.words_of_gates-in-Outputs.ensures in
    subst (λ (which : Which). InWord c.words_of_gates-in-Outputs.result.latches a ↔ HasGateThat c.args.codes.now c.args.reads.now which (λ set. Contains set.latches a)) (sym c.in-Outputs.is) (
      (λ is. outputs_from_sets c.args.codes.now c.args.reads.now (λ set. Contains set.latches a) (2 ^ 64 - 1) ((all.latches a).0 is)),
      (λ has. (all.latches a).1 (sets_from_outputs c.args.codes.now c.args.reads.now (λ set. Contains set.latches a) c.requires.output_count has)),
    )
