use Rattle.std.proofs.Common.{◌∙◌, ℕ, List, ◌++◌, ap, sym}
use Rattle.std.proofs.lemmas.List.{get_or_default, take_all}
use Rattle.std.specs.List.{flat_map}
use Rattle.list_facts.specs.Laws.Appending.{item_more}
use Rattle.blif_out.specs.Inner.Pieces.{comma_number}
use Rattle.blif_out.proofs.fields.append_others.Goals as goal

pub loop-number-preserved : goal.loop-number-preserved
loop-number-preserved c = item_more comma_number c.args.text.now.items c.loop-number.text.items c.append_other.new.text.items c.args.numbers.now c.loop-number.number-index c.from.result c.loop-number-test.true
    (get_or_default c.args.numbers.now c.loop-number.number-index c.from.result 0 c.loop-number-test.true ∙ sym c.from.ensures) c.loop-number.invariant c.in_ok-append_other.ensures

pub returns : goal.returns
returns c = c.loop-number.invariant ∙ ap (λ (numbers : List ℕ). c.args.text.now.items ++ flat_map comma_number numbers) (take_all c.loop-number.number-index c.args.numbers.now c.loop-number-test.false)
