use Rattle.std.proofs.Common.{ℕ, ◌<◌, List, [], AllPairs, subst, sym}
use Rattle.std.proofs.lemmas.Bool.{false≢true}
use Rattle.std.proofs.lemmas.List.Elements.{All-get_or}
use Rattle.cover_split.specs.StateCover.{IsBlock}
use Rattle.cover_split.proofs.Holding.{in_from_within, within_from_in}
use Rattle.cover_split.proofs.holders.lies_within.Goals as goal

pub is_within-requires-clause-first : goal.is_within-requires-clause-first
is_within-requires-clause-first c =
    let lawful = c.requires.lawful in
    subst (λ (xs : List ℕ). AllPairs (λ s t. s < t) xs) (sym c.states_at.ensures) (All-get_or (IsBlock lawful.0) c.args.blocks.now c.args.a [] c.requires.a lawful.1).ascending

pub is_within-requires-clause-second : goal.is_within-requires-clause-second
is_within-requires-clause-second c =
    let lawful = c.requires.lawful in
    subst (λ (xs : List ℕ). AllPairs (λ s t. s < t) xs) (sym c.states_at-2.ensures) (All-get_or (IsBlock lawful.0) c.args.blocks.now c.args.b [] c.requires.b lawful.1).ascending

pub returns-then-a-b : goal.returns-then-a-b
returns-then-a-b c = ((λ no. absurd (false≢true no)), (λ it. absurd (it.two c.if-a-b.true)))

pub returns : goal.returns
returns c = (
  (λ yes. within_from_in c.args.blocks.now c.args.a c.args.b c.states_at.result.now c.states_at-2.result.now c.states_at.ensures c.states_at-2.ensures c.requires.a c.requires.b c.if-a-b.false (c.is_within.ensures.0 yes)),
  (λ it. c.is_within.ensures.1 (in_from_within c.args.blocks.now c.args.a c.args.b c.states_at.result.now c.states_at-2.result.now c.states_at.ensures c.states_at-2.ensures it)),
)
