-- For private functions and proofs alone: codes as they are made.
use Rattle.std.specs.Prelude.{ℕ, List, ◌++◌}
use Rattle.state_codes.specs.declared.draft.Draft.{Draft}
use Rattle.state_codes.specs.Code.{Place, IsLaidOut}

-- the draft has the bits of these places of n states
abbrev pub IsDrafted : ℕ → List Place → Draft → Type 0
IsDrafted n places draft = IsLaidOut n places draft.bits draft.words.items draft.owner draft.carried

-- if the old draft has some places, the new draft has those places and then these
abbrev pub Adds : Draft → Draft → List Place → Type 0
Adds old new more = (n : ℕ) (places : List Place) → IsDrafted n places old → IsDrafted n (places ++ more) new
