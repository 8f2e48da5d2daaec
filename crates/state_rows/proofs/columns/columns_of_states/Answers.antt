use Rattle.std.proofs.Common.{ℕ, ◌≡◌, ◌+◌, ◌∷◌, [], ◌++◌, List, length, get_or, sym, ◌∙◌, ap, subst, arith, length-append}
use Rattle.std.proofs.lemmas.Result.{IfOk-from_err}
use Rattle.state_rows.specs.Columns.{ArePicked}
use Rattle.state_rows.specs.Places.{places_of}
use Rattle.list_facts.specs.Laws.Places.{each_pushed}
use Rattle.state_rows.proofs.KeptColumns.{are_columns, kept_within}
use Rattle.state_rows.proofs.columns.columns_of_states.Goals as goal

pub picked-requires : goal.picked-requires
picked-requires c =
    kept_within c.args.rows.now c.args.places.now c.args.leaders.now c.in_ok-kept.kept.items c.requires.size c.requires.inside c.requires.alike c.in_ok-kept.ensures
    c.loop-s.s c.loop-s-test.true c.list_of-numbers.result.now c.list_of.result.now c.list_of-numbers.ensures
    (c.list_of.ensures ∙ ap (λ (lists : List (List ℕ)). places_of lists (get_or c.args.leaders.now c.loop-s.s 0)) c.deref.ensures.value)

pub returns : goal.returns
returns c =
    let all : c.loop-s.s ≡ length c.args.places.now = omega (arith, c.loop-s-test.false, c.loop-s.auto.s-end, c.requires.size) in
    are_columns c.args.rows.now c.args.places.now c.requires.rows c.args.leaders.now c.in_ok-kept.kept.items c.loop-s.columns.items c.requires.size c.requires.inside
    c.requires.alike c.in_ok-kept.ensures (c.loop-s.invariant.count ∙ all) (λ s below. c.loop-s.invariant.each s (omega (arith, below, all)))

pub kept_of_leaders-requires : goal.kept_of_leaders-requires
kept_of_leaders-requires c = record { size = c.requires.size }

pub loop-s-init : goal.loop-s-init
loop-s-init c = record { count = ap length c.in_ok-columns.ensures.items; each = λ t below. absurd (omega (arith, below)) }

pub list_of-numbers-requires : goal.list_of-numbers-requires
list_of-numbers-requires c = omega (arith, c.requires.size, c.loop-s-test.true)

pub list_of-requires : goal.list_of-requires
list_of-requires c = omega (arith, c.requires.inside c.loop-s.s 0 c.loop-s-test.true, c.in_ok-kept.ensures.size, ap length c.deref.ensures.value)

pub loop-s-preserved : goal.loop-s-preserved
loop-s-preserved c =
    let places = c.args.places.now in
    let leaders = c.args.leaders.now in
    let kept = c.in_ok-kept.kept.items in
    let columns = c.loop-s.columns.items in
    let s = c.loop-s.s in
    let own = c.from.result in
    let pushed : c.push.new.self.items ≡ columns ++ own ∷ [] = c.in_ok-push.ensures.items in
    let first : ArePicked (places_of places s) c.list_of.result.now c.in_ok-picked.field-0.items =
    subst (λ (numbers : List ℕ). ArePicked numbers c.list_of.result.now c.in_ok-picked.field-0.items) c.list_of-numbers.ensures c.in_ok-picked.ensures in
    let second : ArePicked (places_of places s) (places_of kept (get_or leaders s 0)) c.in_ok-picked.field-0.items =
    subst (λ (list : List ℕ). ArePicked (places_of places s) list c.in_ok-picked.field-0.items) (c.list_of.ensures ∙ ap (λ (lists : List (List ℕ)). places_of lists (get_or leaders s 0)) c.deref.ensures.value) first in
    let now : ArePicked (places_of places s) (places_of kept (get_or leaders s 0)) own =
    subst (ArePicked (places_of places s) (places_of kept (get_or leaders s 0))) (sym c.from.ensures) second in
    record {
      count = subst (λ (all : List (List ℕ)). length all ≡ s + 1) (sym pushed) (omega (arith, length-append columns (own ∷ []), c.loop-s.invariant.count));
      each = each_pushed columns c.push.new.self.items own [] s (λ t list. ArePicked (places_of places t) (places_of kept (get_or leaders t 0)) list) c.loop-s.invariant.count
          pushed c.loop-s.invariant.each now;
    }

pub returns-in_err-kept : goal.returns-in_err-kept
returns-in_err-kept c = IfOk-from_err c.from_residual.result _ c.from_residual.ensures.0

pub returns-in_err-columns : goal.returns-in_err-columns
returns-in_err-columns c = IfOk-from_err c.from_residual-in_err-columns.result _ c.from_residual-in_err-columns.ensures.0

pub returns-in_err-picked : goal.returns-in_err-picked
returns-in_err-picked c = IfOk-from_err c.from_residual-in_err-picked.result _ c.from_residual-in_err-picked.ensures.0

pub returns-in_err-push : goal.returns-in_err-push
returns-in_err-push c = IfOk-from_err c.from_residual-in_err-push.result _ c.from_residual-in_err-push.ensures.0
