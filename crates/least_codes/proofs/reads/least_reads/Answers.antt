use Rattle.std.proofs.Common.{List, ℕ, sym, subst, arith}
use Rattle.dependence.specs.SufficientBits.{InWord, PermitsValue}
use Rattle.dependence.specs.Laws.Words.{bit_within}
use Rattle.dependence.specs.Bit.{value_of}
use Rattle.least_codes.specs.Inner.StatePairs.{AreToldApart}
use Rattle.least_codes.specs.LeastReads.{IsLeastReadSet}
use Rattle.least_codes.proofs.LeastSets.{set_from_choice}
use Rattle.least_codes.proofs.Telling.{tells_from_permits}
use Rattle.least_codes.proofs.reads.least_reads.Goals as goal

pub least_choice-requires-clause-below : goal.least_choice-requires-clause-below
least_choice-requires-clause-below c k is = bit_within c.args.candidates k (omega arith) is

pub least_choice-requires-clause-enough : goal.least_choice-requires-clause-enough
least_choice-requires-clause-enough c =
    let apart : AreToldApart c.args.m.now (value_of c.args.m.now c.as_slice-words.result.now c.args.bit) c.as_slice.result.now =
    subst (AreToldApart c.args.m.now (value_of c.args.m.now c.as_slice-words.result.now c.args.bit)) (sym c.as_slice.ensures.value) c.in_ok-apart.ensures in
    tells_from_permits c.args.m.now c.as_slice-words.result.now (value_of c.args.m.now c.as_slice-words.result.now c.args.bit) c.as_slice.result.now apart (InWord c.args.candidates)
    (subst (λ (words : List ℕ). PermitsValue c.args.m.now words (InWord c.args.candidates) (value_of c.args.m.now words c.args.bit)) (sym c.as_slice-words.ensures) c.requires.enough)

pub returns : goal.returns
returns c =
    let words : List ℕ = c.as_slice-words.result.now in
    let apart : AreToldApart c.args.m.now (value_of c.args.m.now c.as_slice-words.result.now c.args.bit) c.as_slice.result.now =
    subst (AreToldApart c.args.m.now (value_of c.args.m.now c.as_slice-words.result.now c.args.bit)) (sym c.as_slice.ensures.value) c.in_ok-apart.ensures in
    subst (λ (list : List ℕ). IsLeastReadSet c.args.m.now list (InWord c.args.candidates) (value_of c.args.m.now list c.args.bit) c.least_choice.result.set) c.as_slice-words.ensures
    (set_from_choice c.args.m.now (value_of c.args.m.now c.as_slice-words.result.now c.args.bit) (record { words = c.as_slice-words.result; apart = c.as_slice.result; candidates = c.args.candidates; bits = 64 }) c.least_choice.result apart c.least_choice.ensures.least)
