use Rattle.net_sim.proofs.value_tables.+add_values.Given as goal

abbrev pub decreases-add_values : goal.decreases-add_values
decreases-add_values l = l.places
