use Rattle.std.proofs.Common.{◌≡◌, ◌↔◌, ◌<◌, ◌≤◌, ◌∙◌, false, List, length, subst, sym, arith}
use Rattle.std.proofs.lemmas.List.{with_items_is}
use Rattle.std.proofs.lemmas.Result.{IfOk-from_err}
use Rattle.cover_logic.specs.declared.bundles.Literal.{Literal}
use Rattle.cover_terms.specs.declared.term.Term.{Term}
use Rattle.cover_logic.specs.declared.waiting_terms.Group.{Group}
use Rattle.cover_logic.specs.Inner.Groups.{IsDropped, IsLiveInSome, all_live}
use Rattle.cover_terms.specs.Pair.{refines}
use Rattle.cover_logic.specs.Inner.Planes.{AreLiteralsOf}
use Rattle.cover_logic.proofs.Groups.{AreFirstDropped, dropped_more, dropped_all, dropped_none}
use Rattle.cover_logic.proofs.waiting_terms.Waiting.drop_included.Goals as goal

pub literals_of-requires-clause-width : goal.literals_of-requires-clause-width
literals_of-requires-clause-width c = c.requires.width

pub literals_of-requires-clause-fits : goal.literals_of-requires-clause-fits
literals_of-requires-clause-fits c = c.requires.fits

pub returns-in_err-literals : goal.returns-in_err-literals
returns-in_err-literals c = IfOk-from_err c.from_residual.result _ c.from_residual.ensures.0

pub loop-group-init : goal.loop-group-init
loop-group-init c =
    let before = c.args.self.now.groups.items in
    subst (λ (gs : List Group). AreFirstDropped c.args.row before gs 0) (sym c.deref_mut-group-items.ensures.value) (dropped_none c.args.row before)

pub loop-group-preserved : goal.loop-group-preserved
loop-group-preserved c =
    let row = c.args.row in
    let size = c.loop-group.auto.group-items in
    let below : c.loop-group.group-index < length c.loop-group.group-items = (let t = c.loop-group-test.true in omega (arith, size, t)) in
    let all : AreLiteralsOf row c.deref.result.now = subst (λ (ls : List Literal). AreLiteralsOf row ls) (sym c.deref.ensures.value) c.in_ok-literals.ensures in
    dropped_more row c.args.self.now.groups.items c.loop-group.group-items c.loop-group.group-index c.group-item.result c.drop_included.new.self below c.group-item.is
    (subst (λ (g : Group). IsDropped row g c.drop_included.new.self) (sym c.group-item.is) (c.drop_included.ensures row all)) c.loop-group.invariant

pub returns : goal.returns
returns c =
    let row = c.args.row in
    let before = c.args.self.now.groups.items in
    let after = c.loop-group.group-items in
    let size = c.loop-group.auto.group-items in
    let past : length after ≤ c.loop-group.group-index = (let t = c.loop-group-test.false in omega (arith, size, t)) in
    let same = with_items_is c.args.self.now.groups after (c.loop-group.auto.group-items ∙ c.deref_mut-group-items.ensures.len) in
    let d = dropped_all row before after c.loop-group.group-index past c.loop-group.invariant in
    record {
      left = subst (λ (gs : List Group). (t : Term) → IsLiveInSome gs t ↔ (IsLiveInSome before t × (refines row t ≡ false))) (sym same) d.left;
      less = subst (λ (gs : List Group). all_live gs ≤ all_live before) (sym same) d.less;
    }
