use Rattle.std.proofs.Common.{◌∙◌, ◌+◌, ◌∷◌, ◌++◌, [], List, ap, subst, sym, take, arith}
use Rattle.std.proofs.lemmas.Bool.{true≢false}
use Rattle.std.proofs.lemmas.List.{take_all}
use Rattle.least_codes.specs.declared.table.Images.{Images}
use Rattle.least_codes.specs.Inner.Table.{AreApartIn, KeepsBit}
use Rattle.least_codes.proofs.Rows.{split_added, split_kept}
use Rattle.least_codes.proofs.table.apart_at.Goals as goal
use Rattle.least_codes.proofs.table.apart_at.Goals.{then-not-keeps_bit+in_ok-push, else-not-keeps_bit}

pub loop-row-preserved : goal.loop-row-preserved
loop-row-preserved c =
    elim c.if-not-keeps_bit.branch [
      | then-not-keeps_bit+in_ok-push w ↦
          subst (AreApartIn (take (c.loop-row.row-index + 1) c.args.table.now) c.args.words.now c.args.i) (sym (ap (λ v. v.items) w.apart-is ∙ w.in_ok-push.ensures.items))
          (subst (λ (row : Images). AreApartIn (take (c.loop-row.row-index + 1) c.args.table.now) c.args.words.now c.args.i (c.loop-row.apart.items ++ row.pair ∷ [])) (sym c.row-item.is)
          (split_added c.args.words.now c.args.i c.args.table.now c.loop-row.apart.items c.loop-row.row-index c.row-item.result c.loop-row-test.true c.loop-row.invariant
          (λ keeps. true≢false (sym (c.keeps_bit.ensures.1 (subst (KeepsBit c.args.words.now c.args.i) (sym c.row-item.is) keeps)) ∙ w.if-not-keeps_bit.true))))
      | else-not-keeps_bit w ↦
          subst (AreApartIn (take (c.loop-row.row-index + 1) c.args.table.now) c.args.words.now c.args.i) (ap (λ v. v.items) (sym w.apart-is))
          (split_kept c.args.words.now c.args.i c.args.table.now c.loop-row.apart.items c.loop-row.row-index c.row-item.result c.loop-row-test.true c.loop-row.invariant
          (subst (KeepsBit c.args.words.now c.args.i) c.row-item.is (c.keeps_bit.ensures.0 w.if-not-keeps_bit.false)))
    ]

pub returns : goal.returns
returns c = subst (λ (list : List Images). AreApartIn list c.args.words.now c.args.i c.loop-row.apart.items) (take_all c.loop-row.row-index c.args.table.now (omega arith)) c.loop-row.invariant
