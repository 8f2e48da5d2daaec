use Rattle.std.proofs.Common.{take}
use Rattle.state_codes.specs.Code.{places_of, IsLaidOut}
use Rattle.state_codes.proofs.draft.written.Given as goal

abbrev pub invariant-loop-j : goal.invariant-loop-j
invariant-loop-j l = IsLaidOut l.n (places_of 0 (take l.j l.parts) (take l.j l.inners)) l.draft.bits l.draft.words.items l.draft.owner l.draft.carried
