use Rattle.gate_rows.specs.Laws.Ranges.{map-range-push}
use Rattle.realise.specs.Names.{own_name}
use Rattle.realise.proofs.own_names.push_own.Goals as goal

pub loop-number-preserved : goal.loop-number-preserved
loop-number-preserved c =
    map-range-push (own_name c.args.count c.args.letter) _ _ _ _ _ c.loop-number.invariant c.in_ok-push.ensures.ok c.in_ok-name_of.ensures
