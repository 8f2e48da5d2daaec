use Rattle.std.proofs.Common.{◌≡◌, ℕ, List, length, subst, arith}
use Rattle.std.specs.List.{flat_map, range_with_len}
use Rattle.partition.specs.Partition.{IsHold, IsPartition}
use Rattle.partition.specs.Laws.Labels.{IsPartition-of}
use Rattle.pair_operators.specs.Growth.{GrowsOver, pairs_from}
use Rattle.pair_operators.specs.Laws.Growth.{row_taken}
use Rattle.feedback_split.specs.Carrier.{IsCarrierGrowth, Suffices}
use Rattle.feedback_split.proofs.Sufficing.{carrier_greatest}
use Rattle.feedback_split.proofs.carriers.carrier.Goals as goal

pub loop-s-preserved : goal.loop-s-preserved
loop-s-preserved c =
    let n = length c.args.m.now.states in
    record {
      lawful = c.in_ok-carrier-2.ensures.lawful;
      grown = row_taken n (IsHold n) (Suffices c.args.m.now c.args.own.now) c.args.other.now c.loop-s.carrier c.in_ok-carrier-2.carrier c.loop-s.s c.loop-s.invariant.grown c.in_ok-carrier-2.ensures.grown;
    }

pub returns-clause-greatest : goal.returns-clause-greatest
returns-clause-greatest c =
    let F = c.args.m.now in
    let n : ℕ = length F.states in
    let own : List ℕ = c.args.own.now in
    let other : List ℕ = c.args.other.now in
    let carrier : List ℕ = c.loop-s.carrier in
    let start : IsPartition (length other) other = subst (IsPartition (length other)) c.in_ok-carrier.ensures.same c.in_ok-carrier.ensures.lawful in
    let end : c.loop-s.s ≡ n = omega (arith, c.loop-s-test.false, c.loop-s.auto.s-end, c.states-s-end.ensures.count) in
    let growth : IsCarrierGrowth F own other carrier = subst (λ (k : ℕ). GrowsOver (IsHold n) (Suffices F own) other (flat_map (pairs_from n) (range_with_len 0 k)) carrier) end c.loop-s.invariant.grown in
    carrier_greatest F own other carrier c.states-s-end.ensures.inside c.requires.own (IsPartition-of c.requires.other start) c.requires.in_zero growth
