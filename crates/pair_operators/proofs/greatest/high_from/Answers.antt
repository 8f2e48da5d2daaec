use Rattle.std.proofs.Common.{◌<◌, ◌+◌, ◌≡◌, ◌∙◌, ℕ, List, ap, length, sym, subst, arith}
use Rattle.std.proofs.lemmas.Result.{IfOk-from_err, err_from_is_err_and}
use Rattle.kiss_file.specs.declared.file.KissFile.{KissFile}
use Rattle.partition.specs.RelationBlocks.{IsSplitUpTo}
use Rattle.partition.specs.Laws.Labels.{IsPartition-of}
use Rattle.partition.specs.Laws.Splitting.{split_none, split_joined, split_alone, split_all}
use Rattle.pair_operators.specs.NextColumns.{AreAsked}
use Rattle.pair_operators.specs.NextBlocks.{Goes}
use Rattle.pair_operators.specs.Inner.Keys.{AreKeys}
use Rattle.pair_operators.proofs.Classes.{high_all}
use Rattle.pair_operators.specs.Laws.Going.{goes_on, goes_turned}
use Rattle.pair_operators.proofs.greatest.high_from.Goals as goal
use Rattle.pair_operators.proofs.greatest.high_from.Goals.{in-Some, in-Some-alike_by_keys+in_ok-keys-2, in_default, in_default-alike_by_keys}

pub loop-s-init : goal.loop-s-init
loop-s-init c =
    let F : KissFile = c.args.m.now in
    record {
      split = split_none (Goes F c.args.q.now) (length F.states) c.in_ok-p.p (IsPartition-of c.states.ensures.count c.in_ok-p.ensures.lawful) c.in_ok-p.ensures.zero;
      keys = c.in_ok-keys.ensures;
      asked = c.requires.asked;
    }

pub loop-s-preserved : goal.loop-s-preserved
loop-s-preserved c =
    let F : KissFile = c.args.m.now in
    let q : List ℕ = c.args.q.now in
    let n : ℕ = length F.states in
    let s : ℕ = c.loop-s.s in
    let within : s < n = omega (arith, c.states-s-end.ensures.count) in
    record {
      split = elim c.match-joins.branch [
        | in-Some w ↦
            let found = w.in-Some.ensures in
            subst (λ (r : List ℕ). IsSplitUpTo (Goes F q) n (s + 1) r) (sym w.p-is)
            (split_joined (Goes F q) (goes_turned F q) (goes_on F q) n s w.in-Some.first c.loop-s.p w.merge.new.self within found.below found.goes c.loop-s.invariant.split w.merge.ensures)
        | in_default w ↦
            let found = w.in_default.ensures in
            subst (λ (r : List ℕ). IsSplitUpTo (Goes F q) n (s + 1) r) (sym w.p-is)
            (split_alone (Goes F q) (goes_turned F q) (goes_on F q) n s c.loop-s.p within found.none c.loop-s.invariant.split)
      ];
      keys = elim c.match-alike_by_keys.branch [
        | in-Some-alike_by_keys+in_ok-keys-2 w ↦ subst (AreKeys F q) (sym w.keys-is) w.in_ok-keys-2.ensures.keys
        | in_default-alike_by_keys w ↦ subst (AreKeys F q) (sym w.keys-is) c.loop-s.invariant.keys
      ];
      asked = elim c.match-alike_by_keys.branch [
        | in-Some-alike_by_keys+in_ok-keys-2 w ↦ subst (AreAsked F) (sym w.asked-is) w.in_ok-keys-2.ensures.asked
        | in_default-alike_by_keys w ↦ subst (AreAsked F) (sym w.asked-is) c.loop-s.invariant.asked
      ];
    }

pub returns-clause-high : goal.returns-clause-high
returns-clause-high c =
    let F : KissFile = c.args.m.now in
    let q : List ℕ = c.args.q.now in
    high_all F q c.loop-s.p c.states.ensures.inside c.requires.states
    (split_all (Goes F q) (length F.states) c.loop-s.s c.loop-s.p (omega (arith, c.states-s-end.ensures.count, c.loop-s-test.false)) c.loop-s.invariant.split)

pub keys-requires-clause-asked : goal.keys-requires-clause-asked
keys-requires-clause-asked c = c.requires.asked

pub joins-requires-clause-left : goal.joins-requires-clause-left
joins-requires-clause-left c = c.loop-s.invariant.split.lawful

pub joins-requires-clause-related : goal.joins-requires-clause-related
joins-requires-clause-related c = c.loop-s.invariant.split.related

pub joins-requires-clause-size : goal.joins-requires-clause-size
joins-requires-clause-size c = c.requires.size

pub joins-requires-clause-pair : goal.joins-requires-clause-pair
joins-requires-clause-pair c = c.requires.pair

pub joins-requires-clause-keys : goal.joins-requires-clause-keys
joins-requires-clause-keys c = c.loop-s.invariant.keys

pub merge-requires-clause-s : goal.merge-requires-clause-s
merge-requires-clause-s c = omega (arith, c.in-Some.ensures.below, c.loop-s-test.true, c.states-s-end.ensures.count, c.loop-s.invariant.split.lawful.length)

pub merge-requires-clause-t : goal.merge-requires-clause-t
merge-requires-clause-t c = omega (arith, c.loop-s-test.true, c.states-s-end.ensures.count, c.loop-s.invariant.split.lawful.length)

size_now : (c : goal.After-keys-in-loop-s-2-1) → length c.match-joins.p ≡ length c.args.m.now.states
size_now c =
    let so_far = c.loop-s.invariant.split.lawful.length in
    elim c.match-joins.branch [
      | in-Some w ↦ ap (λ (list : List ℕ). length list) w.p-is ∙ w.merge.ensures.lawful.length ∙ so_far
      | in_default w ↦ ap (λ (list : List ℕ). length list) w.p-is ∙ so_far
    ]

pub alike_by_keys-requires-clause-s : goal.alike_by_keys-requires-clause-s
alike_by_keys-requires-clause-s c = omega (arith, size_now c, c.loop-s-test.true, c.states-s-end.ensures.count)

pub alike_by_keys-requires-clause-size : goal.alike_by_keys-requires-clause-size
alike_by_keys-requires-clause-size c = c.loop-s.invariant.keys.size ∙ sym (size_now c)

pub learn-requires-clause-s : goal.learn-requires-clause-s
learn-requires-clause-s c = omega (arith, c.in-Some-alike_by_keys.ensures, c.loop-s-test.true, c.states-s-end.ensures.count)

pub learn-requires-clause-t : goal.learn-requires-clause-t
learn-requires-clause-t c = omega (arith, c.loop-s-test.true, c.states-s-end.ensures.count)

pub learn-requires-clause-asked : goal.learn-requires-clause-asked
learn-requires-clause-asked c = c.loop-s.invariant.asked

pub learn-requires-clause-keys : goal.learn-requires-clause-keys
learn-requires-clause-keys c = c.loop-s.invariant.keys

pub returns-in_err-keys-clause-asked : goal.returns-in_err-keys-clause-asked
returns-in_err-keys-clause-asked c = let p = err_from_is_err_and c.from_residual.result c.from_residual.ensures.1 in rw p.1 tt

pub returns-in_err-p-clause-asked : goal.returns-in_err-p-clause-asked
returns-in_err-p-clause-asked c = let p = err_from_is_err_and c.from_residual-in_err-p.result c.from_residual-in_err-p.ensures.1 in rw p.1 tt

pub returns-in_err-p-clause-high : goal.returns-in_err-p-clause-high
returns-in_err-p-clause-high c = IfOk-from_err _ _ c.from_residual-in_err-p.ensures.0

pub returns-in_err-keys-2-clause-asked : goal.returns-in_err-keys-2-clause-asked
returns-in_err-keys-2-clause-asked c = let p = err_from_is_err_and c.from_residual-in_err-keys-2.result c.from_residual-in_err-keys-2.ensures.1 in rw p.1 tt

pub returns-in_err-keys-2-clause-high : goal.returns-in_err-keys-2-clause-high
returns-in_err-keys-2-clause-high c = IfOk-from_err _ _ c.from_residual-in_err-keys-2.ensures.0

pub returns-clause-asked : goal.returns-clause-asked
returns-clause-asked c = c.loop-s.invariant.asked
