use Rattle.std.proofs.Common.{◌≡◌, ◌∙◌, Some, ℕ, ap, option_map, sym}
use Rattle.state_reduce.specs.Quotient.{block_number}
use Rattle.state_reduce.proofs.Names.{row_made}
use Rattle.state_reduce.proofs.block_machine.row_of.Goals as goal
use Rattle.state_reduce.proofs.block_machine.row_of.Goals.{in-Some, in-None}

pub returns : goal.returns
returns c =
    let F = c.args.file.now in
    let p = c.args.p.now in
    let row = c.args.row.now in
    let to : c.match-row.to ≡ option_map (block_number F p) row.to =
    elim c.match-row.branch [
      | in-Some w ↦ w.to-is ∙ ap (λ (n : ℕ). Some n) w.number_of.ensures ∙ sym (ap (option_map (block_number F p)) w.in-Some.is)
      | in-None w ↦ w.to-is ∙ sym (ap (option_map (block_number F p)) w.in-None.is)
    ] in
    row_made row _ _ _ _ c.number_of-from.ensures to
