use Rattle.std.proofs.Common.{ℕ, ◌<◌, ◌↔◌, List, Contains, sym, subst}
use Rattle.state_rows.proofs.KeptColumns.{represent_kept}
use Rattle.state_rows.proofs.columns.kept_places.Goals as goal

pub returns : goal.returns
returns c =
    represent_kept c.args.rows.now c.args.places.now c.args.states.now c.deref.result.now c.in_ok-kept.kept.items c.args.count
    (subst (λ (all : List ℕ). (k : ℕ) → Contains all k ↔ (k < c.args.count)) (sym c.deref.ensures.value) c.in_ok-order.ensures)
    c.in_ok-kept.ensures.within c.in_ok-kept.ensures.each
