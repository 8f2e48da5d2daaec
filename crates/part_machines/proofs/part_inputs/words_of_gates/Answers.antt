use Rattle.std.proofs.Common.{◌≡◌, ◌+◌, ℕ, List, Some, length, refl, slice_get, subst, sym, ◌∙◌}
use Rattle.std.proofs.lemmas.Bool.{true≢false}
use Rattle.std.proofs.lemmas.Option.{slice_get_read}
use Rattle.dependence.specs.declared.sets.ReadSet.{ReadSet}
use Rattle.part_machines.specs.Inner.Gathered.{AreWordsOf, IsSmall}
use Rattle.part_machines.proofs.Gathering.{words_more, words_none, words_past}
use Rattle.part_machines.proofs.part_inputs.words_of_gates.Goals as goal
use Rattle.part_machines.proofs.part_inputs.words_of_gates.Goals.{then-has_bit, else-has_bit}

pub loop-i-init : goal.loop-i-init
loop-i-init c = words_none c.args.sets.now c.args.gates (record { inputs = 0; latches = 0 }) refl refl

pub loop-i-preserved : goal.loop-i-preserved
loop-i-preserved c =
    let sets : List ReadSet = c.args.sets.now in
    let gates : ℕ = c.args.gates in
    let i : ℕ = c.loop-i.i in
    let set : ReadSet = c.index-sets-i.result in
    let there : slice_get sets i ≡ Some set = slice_get_read sets (length sets) i set refl c.loop-i-test.true c.index-sets-i.is in
    elim c.if-has_bit.branch [
      | then-has_bit w ↦
          subst (AreWordsOf sets gates (i + 1)) (sym w.read-is)
          (words_more sets gates i c.loop-i.read set there c.loop-i.invariant w.with_set-read.result (c.has_bit.ensures.0 w.if-has_bit.true)
          w.with_set-read.ensures.inputs w.with_set-read.ensures.latches)
      | else-has_bit w ↦
          subst (AreWordsOf sets gates (i + 1)) (sym w.read-is)
          (words_past sets gates i c.loop-i.read set there c.loop-i.invariant (λ is. true≢false (sym (c.has_bit.ensures.1 is) ∙ w.if-has_bit.false)))
    ]

pub with_set-read-requires : goal.with_set-read-requires
with_set-read-requires c = subst IsSmall (sym c.index-sets-i.is) (c.requires.small c.loop-i.i c.index-sets-i.result c.loop-i-test.true)
