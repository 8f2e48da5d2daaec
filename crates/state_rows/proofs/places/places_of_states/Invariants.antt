use Rattle.state_rows.specs.Places.{ArePlaces}
use Rattle.state_rows.proofs.places.places_of_states.Given as goal

abbrev pub invariant-loop-number : goal.invariant-loop-number
invariant-loop-number l = ArePlaces l.rows l.states l.number l.places.items
