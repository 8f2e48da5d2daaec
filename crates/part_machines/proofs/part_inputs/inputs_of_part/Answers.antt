use Rattle.std.proofs.Common.{◌≤◌, ◌<◌, ℕ, arith}
use Rattle.std.proofs.lemmas.List.Elements.{All-weaker}
use Rattle.dependence.specs.declared.sets.ReadSet.{ReadSet}
use Rattle.realise.specs.CodeNetwork.{IsWithin}
use Rattle.part_machines.specs.Inner.Gathered.{IsSmall}
use Rattle.part_machines.proofs.PartSets.{part_set}
use Rattle.part_machines.proofs.part_inputs.inputs_of_part.Goals as goal

-- inputs and bits within their limits are small
small : (inputs bits : ℕ) → inputs ≤ 32 → bits ≤ 64 → (set : ReadSet) → IsWithin inputs bits set → IsSmall set
small inputs bits low short set within = record {
  inputs = All-weaker (λ a. a < inputs) (λ a. a < 64) (λ a below. omega (arith, below, low)) set.inputs within.inputs_within;
  latches = All-weaker (λ c. c < bits) (λ c. c < 64) (λ c below. omega (arith, below, short)) set.latches within.latches_within;
}

pub words_read-read-requires-clause-latches : goal.words_read-read-requires-clause-latches
words_read-read-requires-clause-latches c =
    let W = c.requires.enough.0 in
    All-weaker (IsWithin W.inputs c.args.codes.now.bits) IsSmall (small W.inputs c.args.codes.now.bits c.requires.enough.1.inputs c.requires.short) c.args.reads.now.latches
    c.requires.enough.2.latches_within

pub words_read-read-requires-clause-outputs : goal.words_read-read-requires-clause-outputs
words_read-read-requires-clause-outputs c =
    let W = c.requires.enough.0 in
    All-weaker (IsWithin W.inputs c.args.codes.now.bits) IsSmall (small W.inputs c.args.codes.now.bits c.requires.enough.1.inputs c.requires.short) c.args.reads.now.outputs
    c.requires.enough.2.outputs_within

pub returns : goal.returns
returns c =
    let W = c.requires.enough.0 in
    let bits : ℕ = c.args.codes.now.bits in
    part_set c.args.codes.now c.args.reads.now c.args.which
    (All-weaker (IsWithin W.inputs bits) IsSmall (small W.inputs bits c.requires.enough.1.inputs c.requires.short) c.args.reads.now.latches c.requires.enough.2.latches_within)
    (All-weaker (IsWithin W.inputs bits) IsSmall (small W.inputs bits c.requires.enough.1.inputs c.requires.short) c.args.reads.now.outputs c.requires.enough.2.outputs_within)
    c.own_word-own.result c.words_read-read.result.inputs c.words_read-read.result.latches c.without-others.result c.some_input-inputs.result
    c.own_word-own.ensures c.words_read-read.ensures.inputs c.words_read-read.ensures.latches c.without-others.ensures c.some_input-inputs.ensures
    (record { inputs = c.in_ok-inputs.inputs; latches = c.in_ok-latches.latches }) c.in_ok-inputs.ensures c.in_ok-latches.ensures
