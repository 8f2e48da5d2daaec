-- What a run, or its cause of failing, says of the causes of a refusal.
use Rattle.std.proofs.Common.{ℕ, List, [], ◌∷◌, Option, Result, length, inl, inr, refl}
use Rattle.answers.specs.declared.refusals.Refusal.{Refusal}
use Rattle.answers.specs.declared.refusals.Refusal.TheVariants as refusals
use Rattle.answers.specs.Cause.{CallsForNone}
use Rattle.answers.specs.Outcome.{IsJudged, IsStop}
use Rattle.answers.specs.Laws.Causes.{Within, judged_within, none_first, none_within}
use Rattle.net_core.specs.declared.Network.{Network}
use Rattle.net_sim.specs.declared.causes.SimFail.TheVariants as fails
use Rattle.net_sim.specs.Run.{IsRun, IsRunCause}
use Rattle.symbol_runs.specs.Causes.{BadStartRow, BadSymbolRow, NoStart, UnknownStartRow}
use Rattle.symbol_runs.specs.Starts.{HasStart}
use Rattle.symbol_runs.specs.Inner.Runs.{NoRun}
use Rattle.symbol_runs.specs.Laws.Causes.{bad_start_none, symbols_none, unknown_start_none}

module _ (N : Network) (start : Option (List ℕ)) (symbols : List ℕ) where
  -- ---- of a run
  pub ran_none : (text : List ℕ) → IsRun N start symbols text → CallsForNone (NoRun N start symbols)
  ran_none text ran =
      let begins : HasStart N start = (ran.state, ran.begins) in
      none_first (BadStartRow N start ∷ UnknownStartRow N start ∷ BadSymbolRow (length N.inputs) symbols ∷ [])
      (bad_start_none N start begins, (unknown_start_none N start begins, (symbols_none (length N.inputs) symbols ran.word ran.reads, tt)))

  pub bad_symbol : (number : ℕ) → IsRunCause N start symbols (fails.BadSymbol number) → IsStop (NoRun N start symbols) (refusals.BadSymbol number)
  bad_symbol number (state, begins, fault) =
      inr (inr (bad_start_none N start (state, begins), inr (unknown_start_none N start (state, begins), inl (number, refl, fault))))

  -- ---- of its start alone
  start_within : Within (NoStart N start) (NoRun N start symbols)
  start_within refusal (inl bad) = inl bad
  start_within refusal (inr (none_bad, inl unknown)) = inr (none_bad, inl unknown)
  start_within refusal (inr (none_bad, inr (none_unknown, more))) = absurd more

  pub start_judged : (text : List ℕ) → IsRun N start symbols text → CallsForNone (NoStart N start)
  start_judged text ran = none_within (NoRun N start symbols) (NoStart N start) start_within (ran_none text ran)

  -- ---- of its symbols alone
  symbol_within : HasStart N start → Within (BadSymbolRow (length N.inputs) symbols) (NoRun N start symbols)
  symbol_within has refusal bad = inr (bad_start_none N start has, inr (unknown_start_none N start has, inl bad))

  within_symbol : HasStart N start → Within (NoRun N start symbols) (BadSymbolRow (length N.inputs) symbols)
  within_symbol has refusal (inl bad) = absurd (bad_start_none N start has refusal bad)
  within_symbol has refusal (inr (none_bad, inl unknown)) = absurd (unknown_start_none N start has refusal unknown)
  within_symbol has refusal (inr (none_bad, inr (none_unknown, inl bad))) = bad
  within_symbol has refusal (inr (none_bad, inr (none_unknown, inr (none_here, more)))) = absurd more

  pub symbol_judged : {V : Type 0} (IsRight : V → Type 0) (result : Result V Refusal) → HasStart N start → IsJudged (NoRun N start symbols) IsRight result → IsJudged (BadSymbolRow (length N.inputs) symbols) IsRight result
  symbol_judged IsRight result has judged =
      judged_within (NoRun N start symbols) (BadSymbolRow (length N.inputs) symbols) IsRight IsRight result (within_symbol has) (none_within (NoRun N start symbols) (BadSymbolRow (length N.inputs) symbols) (symbol_within has)) (λ value right. right) judged
