use Rattle.std.proofs.Common.{length, sym, subst}
use Rattle.least_codes.specs.Inner.Table.{AreApartIn}
use Rattle.least_codes.proofs.Costs.{apart_pairs, codes_tell, latch_from_choice}
use Rattle.least_codes.proofs.cost.latch_cost.Goals as goal

pub least_choice-requires-clause-pairs : goal.least_choice-requires-clause-pairs
least_choice-requires-clause-pairs c =
    apart_pairs (length c.args.words.now) c.args.table.now c.args.words.now c.args.i c.as_slice.result.now c.requires.inside
    (subst (AreApartIn c.args.table.now c.args.words.now c.args.i) (sym c.as_slice.ensures.value) c.in_ok-apart.ensures)

pub least_choice-requires-clause-enough : goal.least_choice-requires-clause-enough
least_choice-requires-clause-enough c =
    codes_tell c.args.bits c.args.words.now c.as_slice.result.now c.bits_below.result c.requires.codes
    (apart_pairs (length c.args.words.now) c.args.table.now c.args.words.now c.args.i c.as_slice.result.now c.requires.inside
    (subst (AreApartIn c.args.table.now c.args.words.now c.args.i) (sym c.as_slice.ensures.value) c.in_ok-apart.ensures)) c.bits_below.ensures

pub returns-clause-cost : goal.returns-clause-cost
returns-clause-cost c F of size =
    latch_from_choice F (record { words = c.args.words; apart = c.as_slice.result; candidates = c.bits_below.result; bits = c.args.bits }) c.args.bits c.args.i c.args.table.now c.least_choice.result of
    (subst (AreApartIn c.args.table.now c.args.words.now c.args.i) (sym c.as_slice.ensures.value) c.in_ok-apart.ensures) c.bits_below.ensures c.least_choice.ensures.least
