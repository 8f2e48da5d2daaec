use Rattle.std.proofs.Common.{◌≡◌, ℕ, ◌<◌, ◌||◌, false, eqb, ◌++◌, length, get_or, map, take}
use Rattle.std.specs.List.{filter_map, list_any}
use Rattle.kiss2.proofs.writer.mark_states.Given as goal

abbrev pub invariant-loop-row : goal.invariant-loop-row
invariant-loop-row l =
    (s : ℕ) → s < length l.standing
    → get_or l.standing s false ≡ (get_or l.initial.standing s false || list_any (λ t. eqb t s) (map (λ row. row.from) (take l.row-index l.rows) ++ filter_map (λ row. row.to) (take l.row-index l.rows)))
