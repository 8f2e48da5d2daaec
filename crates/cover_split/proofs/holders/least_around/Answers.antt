use Rattle.std.proofs.Common.{ℕ, ◌≡◌, ◌<◌, List, get_or, length, subst, sym, ap, ◌∙◌}
use Rattle.std.proofs.lemmas.Bool.{false≢true}
use Rattle.std.proofs.lemmas.List.Elements.{Contains-get_or}
use Rattle.cover_split.specs.StateCover.{block_at}
use Rattle.cover_split.specs.Inner.Holders.{AreHolders, AreHoldersOf}
use Rattle.cover_split.proofs.Holding.{around_more, first_below, first_of, least_found, none_around}
use Rattle.cover_split.proofs.holders.least_around.Goals as goal

-- the first state of the block
first_is : (blocks : List (List ℕ)) (a first : ℕ) (states : List ℕ) → states ≡ block_at blocks a → first ≡ get_or states 0 0 → first ≡ first_of blocks a
first_is blocks a first states same is = is ∙ ap (λ (xs : List ℕ). get_or xs 0 0) same

-- the holders that are walked
walked : (blocks lists : List (List ℕ)) (a first : ℕ) (holders : List ℕ) → AreHoldersOf blocks (length lists) lists → first ≡ first_of blocks a → first_of blocks a < length lists
    → holders ≡ block_at lists first → AreHolders blocks (first_of blocks a) (length blocks) holders
walked blocks lists a first holders are is below same =
    subst (AreHolders blocks (first_of blocks a) (length blocks)) (sym (same ∙ ap (block_at lists) is)) (are.right (first_of blocks a) below)

pub returns-clause-none : goal.returns-clause-none
returns-clause-none c =
    let blocks = c.args.blocks.now in
    let lists = c.args.lists.now in
    let is = first_is blocks c.args.a c.from-first.result c.states_at.result.now c.states_at.ensures c.from-first.ensures in
    let below = first_below blocks c.args.a (length lists) c.requires.a c.requires.lawful in
    none_around blocks c.args.a (length lists) c.requires.a c.requires.lawful c.holders_at-b-items.result.now
    (walked blocks lists c.args.a c.from-first.result c.holders_at-b-items.result.now c.requires.lists is below c.holders_at-b-items.ensures) c.loop-b.b-index c.loop-b-test.false c.loop-b.invariant

pub loop-b-preserved : goal.loop-b-preserved
loop-b-preserved c =
    around_more c.args.blocks.now c.args.a c.holders_at-b-items.result.now c.loop-b.b-index c.loop-b.invariant
    (λ it. false≢true (sym c.if-lies_within.false ∙ c.lies_within.ensures.1 it))

pub returns-then-lies_within-clause-some : goal.returns-then-lies_within-clause-some
returns-then-lies_within-clause-some c =
    let blocks = c.args.blocks.now in
    let lists = c.args.lists.now in
    let is = first_is blocks c.args.a c.from-first.result c.states_at.result.now c.states_at.ensures c.from-first.ensures in
    let below = first_below blocks c.args.a (length lists) c.requires.a c.requires.lawful in
    least_found blocks c.args.a (length lists) c.requires.a c.requires.lawful c.holders_at-b-items.result.now
    (walked blocks lists c.args.a c.from-first.result c.holders_at-b-items.result.now c.requires.lists is below c.holders_at-b-items.ensures) c.loop-b.b-index c.loop-b-test.true c.loop-b.invariant
    (c.lies_within.ensures.0 c.if-lies_within.true)

pub lies_within-requires-clause-b : goal.lies_within-requires-clause-b
lies_within-requires-clause-b c =
    let blocks = c.args.blocks.now in
    let lists = c.args.lists.now in
    let is = first_is blocks c.args.a c.from-first.result c.states_at.result.now c.states_at.ensures c.from-first.ensures in
    let below = first_below blocks c.args.a (length lists) c.requires.a c.requires.lawful in
    ((walked blocks lists c.args.a c.from-first.result c.holders_at-b-items.result.now c.requires.lists is below c.holders_at-b-items.ensures).own
    (get_or c.holders_at-b-items.result.now c.loop-b.b-index 0) (Contains-get_or c.holders_at-b-items.result.now c.loop-b.b-index 0 c.loop-b-test.true)).0
