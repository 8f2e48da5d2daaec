use Rattle.std.proofs.Common.{ℕ, ◌≡◌, ◌+◌, List, [], ◌∷◌, ◌++◌, Contains, length, get_or, sym, ◌∙◌, subst, ap, arith}
use Rattle.std.proofs.lemmas.List.Elements.{Contains-get_or}
use Rattle.std.proofs.lemmas.Result.{IfOk-from_err}
use Rattle.state_rows.specs.Columns.{AreKept, IsLedBy, RepresentColumns}
use Rattle.state_rows.proofs.KeptColumns.{kept_more, represent_fewer}
use Rattle.state_rows.proofs.columns.kept_of_leaders.Goals as goal

pub kept_places-requires : goal.kept_places-requires
kept_places-requires c k d below =
    let s = get_or c.deref.result.now k d in
    let led = (c.in_ok-states.ensures s).0 (subst (λ (all : List ℕ). Contains all s) c.deref.ensures.value (Contains-get_or c.deref.result.now k d below)) in
    omega (arith, led.0, c.requires.size)

pub loop-leader-preserved : goal.loop-leader-preserved
loop-leader-preserved c =
    let rows = c.args.rows.now in
    let places = c.args.places.now in
    let leaders = c.args.leaders.now in
    let n = c.loop-leader.leader in
    let kept = c.loop-leader.kept.items in
    let list = c.in_ok-kept_places.field-0.items in
    let states = c.deref.result.now in
    let own = c.list_of-count.result.now in
    let pushed : c.push.new.self.items ≡ kept ++ list ∷ [] = c.in_ok-push.ensures.items ∙ ap (λ (one : List ℕ). kept ++ one ∷ []) c.from.ensures in
    let narrow : RepresentColumns rows places (IsLedBy leaders n) (length own) list =
    represent_fewer rows places (Contains states) (IsLedBy leaders n) (length own) list c.in_ok-kept_places.ensures
    (λ s led. subst (λ (all : List ℕ). Contains all s) (sym c.deref.ensures.value) ((c.in_ok-states.ensures s).1 led)) in
    subst (λ (all : List (List ℕ)). AreKept rows places leaders (n + 1) all) (sym pushed)
    (kept_more rows places leaders n kept list c.loop-leader.invariant
    (subst (λ (numbers : List ℕ). RepresentColumns rows places (IsLedBy leaders n) (length numbers) list) c.list_of-count.ensures narrow))

pub returns-in_err-kept : goal.returns-in_err-kept
returns-in_err-kept c = IfOk-from_err c.from_residual.result _ c.from_residual.ensures.0

pub returns-in_err-states : goal.returns-in_err-states
returns-in_err-states c = IfOk-from_err c.from_residual-in_err-states.result _ c.from_residual-in_err-states.ensures.0

pub returns-in_err-kept_places : goal.returns-in_err-kept_places
returns-in_err-kept_places c = IfOk-from_err c.from_residual-in_err-kept_places.result _ c.from_residual-in_err-kept_places.ensures.0

pub returns-in_err-push : goal.returns-in_err-push
returns-in_err-push c = IfOk-from_err c.from_residual-in_err-push.result _ c.from_residual-in_err-push.ensures.0
