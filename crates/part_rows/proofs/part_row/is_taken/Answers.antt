use Rattle.std.proofs.Common.{◌≡◌, not, nat_eq, subst, sym}
use Rattle.part_machines.specs.PartRows.{is_taken}
use Rattle.part_rows.proofs.Taken.{gives_is}
use Rattle.part_rows.proofs.part_row.is_taken.Goals as goal
use Rattle.state_codes.specs.declared.which.Which.{Which}

pub returns-in-Outputs : goal.returns-in-Outputs
returns-in-Outputs c outputs counted =
    let row = c.args.row.now in
    subst (λ (which : Which). not (nat_eq row.care 0) ≡ is_taken outputs which row) (sym c.in-Outputs.is) (gives_is row outputs counted)
