-- The bits so far, and then those of the places that are left, are the whole symbol.
use Rattle.std.proofs.Common.{◌≡◌, ◌-◌, ◌++◌, map}
use Rattle.answers.proofs.digits.symbol_text.Given as goal
use Rattle.cubes.specs.Symbol.{digit, symbol_of}

abbrev pub invariant-loop-place : goal.invariant-loop-place
invariant-loop-place l = l.text.items ++ map digit (symbol_of (l.inputs - l.place) l.symbol) ≡ map digit (symbol_of l.inputs l.symbol)
