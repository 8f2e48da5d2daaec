use Rattle.std.proofs.lemmas.Result.{IfOk-from_err}
use Rattle.std.proofs.Common.{List, subst}
use Rattle.cover_logic.specs.declared.index.Node.{Node}
use Rattle.cover_logic.specs.Inner.Nodes.{IsAdded}
use Rattle.cover_logic.proofs.Nodes.{same_terms}
use Rattle.cover_logic.proofs.index.Index.new.Goals as goal

pub returns : goal.returns
returns c =
    same_terms c.args.terms.now c.add.new.nodes.items
    (subst (λ (ns : List Node). IsAdded ns c.args.terms.now c.add.new.nodes.items) c.new-nodes.ensures.items c.in_ok-add.ensures)

pub add-requires-clause-width : goal.add-requires-clause-width
add-requires-clause-width c = c.requires

pub invariant_of-result : goal.invariant_of-result
invariant_of-result c = record { nested = c.in_ok-add.ensures.nested }

pub returns-in_err-add : goal.returns-in_err-add
returns-in_err-add c = IfOk-from_err c.from_residual.result _ c.from_residual.ensures.0
