use Rattle.std.proofs.Common.{◌∙◌, subst, sym}
use Rattle.dependence.specs.Inner.FilledRows.{AreRowsOf}
use Rattle.dependence.proofs.FilledRows.{own_say}
use Rattle.dependence.proofs.OwnRows.{own_are}
use Rattle.dependence.proofs.whole_rows.filled_rows.Goals as goal

pub fill-requires-clause-rows : goal.fill-requires-clause-rows
fill-requires-clause-rows c =
    subst (AreRowsOf c.args.m.now c.args.s) (sym c.in_ok-rows.ensures) (own_are c.args.m.now c.is_complete.ensures.table c.is_complete.ensures.no_conflict c.args.s)

pub returns-then-is_complete : goal.returns-then-is_complete
returns-then-is_complete c =
    let F = c.args.m.now in
    let s = c.args.s in
    let rows : AreRowsOf F s c.in_ok-rows.rows.items = subst (AreRowsOf F s) (sym c.in_ok-rows.ensures) (own_are F c.is_complete.ensures.table c.is_complete.ensures.no_conflict s) in
    record {
      right = rows.right;
      each = λ x part within counted. own_say F c.is_complete.ensures.table c.is_complete.ensures.no_conflict s (λ symbol. c.is_complete.ensures.specified c.if-is_complete.true s symbol c.requires)
          c.in_ok-rows.rows.items rows x part counted;
      own = λ specified. c.in_ok-rows.ensures;
    }

pub returns : goal.returns
returns c = record {
  right = c.in_ok-fill.ensures.rows.right;
  each = λ x part within. c.in_ok-fill.ensures.each x part;
  own = λ specified. c.in_ok-fill.ensures.own specified ∙ c.in_ok-rows.ensures;
}
