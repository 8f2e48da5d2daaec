-- Laws of the causes: their answers, and what excludes them.
use Rattle.std.specs.Prelude.{ℕ, Bool, List, [], ◌∷◌, Option}
use Rattle.std.proofs.Common.{inl, inr, ap}
use Rattle.answers.specs.declared.numbers.Answer.TheVariants.{SymbolRefused}
use Rattle.answers.specs.Cause.{CallsForNone}
use Rattle.answers.specs.Refusal.{answer_of}
use Rattle.answers.specs.Laws.Causes.{IsOf, none_first}
use Rattle.hs_io.specs.Lines.{lines_of}
use Rattle.net_core.specs.declared.Network.{Network}
use Rattle.net_sim.specs.Symbols.{IsSymbolFile}
use Rattle.net_sim.proofs.Exclusive as exclusive
use Rattle.symbol_runs.specs.Causes.{BadStartRow, BadSymbolRow, NoStart, UnknownStartRow}
use Rattle.symbol_runs.specs.Starts.{HasStart}

-- ---- the answers
pub bad_symbol_is_of : (width : ℕ) (symbols : List ℕ) → IsOf SymbolRefused (BadSymbolRow width symbols)
bad_symbol_is_of width symbols refusal (number, is, fault) = ap answer_of is

pub bad_start_is_of : (N : Network) (start : Option (List ℕ)) → IsOf SymbolRefused (BadStartRow N start)
bad_start_is_of N start refusal (text, given, is, none) = ap answer_of is

pub unknown_start_is_of : (N : Network) (start : Option (List ℕ)) → IsOf SymbolRefused (UnknownStartRow N start)
unknown_start_is_of N start refusal (latch, given, is, first) = ap answer_of is

pub no_start_is_of : (N : Network) (start : Option (List ℕ)) → IsOf SymbolRefused (NoStart N start)
no_start_is_of N start refusal (inl bad) = bad_start_is_of N start refusal bad
no_start_is_of N start refusal (inr (none_bad, inl unknown)) = unknown_start_is_of N start refusal unknown
no_start_is_of N start refusal (inr (none_bad, inr (none_unknown, more))) = absurd more

-- ---- what excludes them
-- a file of symbols has no line that is refused
pub symbols_none : (width : ℕ) (symbols : List ℕ) (word : List (List Bool)) → IsSymbolFile width symbols word → CallsForNone (BadSymbolRow width symbols)
symbols_none width symbols word file refusal (number, is, fault) = exclusive.none_refused width (lines_of symbols) word number file fault

-- a network that has a start is refused for none
pub bad_start_none : (N : Network) (start : Option (List ℕ)) → HasStart N start → CallsForNone (BadStartRow N start)
bad_start_none N start (state, begins) refusal (text, given, is, none) = (exclusive.start_none N start state [] begins).0 (text, given, none)

pub unknown_start_none : (N : Network) (start : Option (List ℕ)) → HasStart N start → CallsForNone (UnknownStartRow N start)
unknown_start_none N start (state, begins) refusal (latch, given, is, first) = (exclusive.start_none N start state [] begins).1 latch (given, first)

pub start_none : (N : Network) (start : Option (List ℕ)) → HasStart N start → CallsForNone (NoStart N start)
start_none N start has = none_first (BadStartRow N start ∷ UnknownStartRow N start ∷ []) (bad_start_none N start has, (unknown_start_none N start has, tt))
