use Rattle.std.proofs.Common.{◌≡◌, length, arith, List, [], Bool, ℕ, subst}
use Rattle.net_sim.specs.Inner.ValueTables.{HasAdded}
use Rattle.net_sim.proofs.ValueTables.{whole_table}
use Rattle.net_sim.proofs.value_tables.table_of.Goals as goal

pub returns : goal.returns
returns c =
    let gate = c.args.gate.now in
    let wide : c.len.result ≡ length gate.inputs.items = omega (arith, c.len.ensures) in
    whole_table gate c.args.cubes.now c.add_values.new.table c.requires.few c.requires.cubes
    (subst (λ (n : ℕ). HasAdded gate.on c.args.cubes.now n [] c.add_values.new.table) wide
    (subst (λ (old : List Bool). HasAdded gate.on c.args.cubes.now c.len.result old c.add_values.new.table) c.new-table.ensures c.in_ok-add_values.ensures))
