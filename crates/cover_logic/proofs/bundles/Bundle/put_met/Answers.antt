use Rattle.std.proofs.Common.{◌≡◌, ◌<◌, ◌^◌, ◌∙◌, List, ◌∷◌, [], ◌++◌, length, sym, subst, arith, rules}
use Rattle.std.specs.Int.{trailing_zeros, w128}
use Rattle.std.proofs.lemmas.Nat.Bits.{bit_at-trailing_zeros}
use Rattle.std.proofs.lemmas.Result.{IfOk-from_err}
use Rattle.cover_logic.specs.declared.bundles.Entry.{Entry}
use Rattle.cover_logic.specs.Inner.Entries.{IsPutAt}
use Rattle.cover_logic.proofs.Planes.{cleared_less, open_all, open_first, open_less, put_beyond, put_passed, put_there}
use Rattle.cover_logic.proofs.bundles.Bundle.put_met.Goals as goal

pub loop-open-init : goal.loop-open-init
loop-open-init c =
    open_first c.args.row c.args.self.now.entries.items c.args.met.now.items c.against-open.result c.args.self.now.told.by_column.few (search rules) (c.against-open.ensures c.args.row c.requires)

pub loop-open-smaller-then-place-len : goal.loop-open-smaller-then-place-len
loop-open-smaller-then-place-len c =
    let open' = c.loop-open.open in
    let fits : open' < 2 ^ 128 = search rules in
    let lowest = bit_at-trailing_zeros w128 open' (omega arith) fits in
    cleared_less open' (trailing_zeros w128 open') lowest.0 lowest.1

pub loop-open-smaller-in-Continue-1 : goal.loop-open-smaller-in-Continue-1
loop-open-smaller-in-Continue-1 c =
    let open' = c.loop-open.open in
    let fits : open' < 2 ^ 128 = search rules in
    let lowest = bit_at-trailing_zeros w128 open' (omega arith) fits in
    cleared_less open' (trailing_zeros w128 open') lowest.0 lowest.1

pub loop-open-smaller : goal.loop-open-smaller
loop-open-smaller c =
    let open' = c.loop-open.open in
    let fits : open' < 2 ^ 128 = search rules in
    let lowest = bit_at-trailing_zeros w128 open' (omega arith) fits in
    cleared_less open' (trailing_zeros w128 open') lowest.0 lowest.1

pub loop-open-preserved-then-place-len : goal.loop-open-preserved-then-place-len
loop-open-preserved-then-place-len c =
    let row = c.args.row in
    let entries = c.args.self.now.entries.items in
    let open' = c.loop-open.open in
    let fits : open' < 2 ^ 128 = search rules in
    let lowest = bit_at-trailing_zeros w128 open' (omega arith) fits in
    let place = trailing_zeros w128 open' in
    let met = c.loop-open.met.items in
    open_less row entries c.args.met.now.items met met open' place c.args.self.now.told.by_column.few lowest.0 c.loop-open.invariant
    (put_beyond row entries met place (search rules))

pub loop-open-preserved-in-Continue-1 : goal.loop-open-preserved-in-Continue-1
loop-open-preserved-in-Continue-1 c =
    let row = c.args.row in
    let entries = c.args.self.now.entries.items in
    let open' = c.loop-open.open in
    let fits : open' < 2 ^ 128 = search rules in
    let lowest = bit_at-trailing_zeros w128 open' (omega arith) fits in
    let place = trailing_zeros w128 open' in
    let met = c.loop-open.met.items in
    let below : place < length entries = search rules in
    let entry = c.index-entry.result.now in
    let pushed : c.push.new.self.items ≡ met ++ entry ∷ [] = c.in_ok-push.ensures.items in
    open_less row entries c.args.met.now.items met c.push.new.self.items open' place c.args.self.now.told.by_column.few lowest.0 c.loop-open.invariant
    (subst (λ (es : List Entry). IsPutAt row entries place met es) (sym pushed)
    (put_there row entries met place entry below c.index-entry.ensures (sym c.touches.ensures.test ∙ c.if-touches.true)))

pub loop-open-preserved : goal.loop-open-preserved
loop-open-preserved c =
    let row = c.args.row in
    let entries = c.args.self.now.entries.items in
    let open' = c.loop-open.open in
    let fits : open' < 2 ^ 128 = search rules in
    let lowest = bit_at-trailing_zeros w128 open' (omega arith) fits in
    let place = trailing_zeros w128 open' in
    let met = c.loop-open.met.items in
    let below : place < length entries = search rules in
    let entry = c.index-entry.result.now in
    open_less row entries c.args.met.now.items met met open' place c.args.self.now.told.by_column.few lowest.0 c.loop-open.invariant
    (put_passed row entries met place entry below c.index-entry.ensures (sym c.touches.ensures.test ∙ c.if-touches.false))

pub returns-in_err-push : goal.returns-in_err-push
returns-in_err-push c = IfOk-from_err c.from_residual.result _ c.from_residual.ensures.0

pub returns : goal.returns
returns c = open_all c.args.row c.args.self.now.entries.items c.args.met.now.items c.loop-open.met.items c.loop-open.open c.loop-open-test.false c.loop-open.invariant
