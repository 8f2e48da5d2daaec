use Rattle.std.proofs.Common.{◌<◌, ◌+◌, ℕ, List, length, sym, subst, arith}
use Rattle.kiss_file.specs.declared.file.KissFile.{KissFile}
use Rattle.partition.specs.RelationBlocks.{IsSplitUpTo}
use Rattle.partition.specs.Laws.Labels.{IsPartition-of}
use Rattle.partition.specs.Laws.Splitting.{split_none, split_joined, split_alone, split_all}
use Rattle.state_reduce.specs.Inner.Refinement.{StayTogether}
use Rattle.state_reduce.proofs.Rounds.{stay_on, stay_turned}
use Rattle.state_reduce.proofs.refinement.refined.Goals as goal
use Rattle.state_reduce.proofs.refinement.refined.Goals.{in-Some, in_default}

pub loop-s-init : goal.loop-s-init
loop-s-init c =
    let F : KissFile = c.args.m.now in
    split_none (StayTogether F c.args.p.now) (length F.states) c.in_ok-finer.finer (IsPartition-of c.states.ensures.count c.in_ok-finer.ensures.lawful) c.in_ok-finer.ensures.zero

pub loop-s-preserved : goal.loop-s-preserved
loop-s-preserved c =
    let F : KissFile = c.args.m.now in
    let n : ℕ = length F.states in
    let s : ℕ = c.loop-s.s in
    let within : s < n = omega (arith, c.states-s-end.ensures.count) in
    elim c.match-first_staying.branch [
      | in-Some w ↦
          let found = w.in-Some.ensures in
          subst (λ (r : List ℕ). IsSplitUpTo (StayTogether F c.args.p.now) n (s + 1) r) (sym w.finer-is)
          (split_joined (StayTogether F c.args.p.now) (stay_turned F c.args.p.now) (stay_on F c.args.p.now) n s w.in-Some.first c.loop-s.finer w.merge.new.self within found.below found.stays c.loop-s.invariant w.merge.ensures)
      | in_default w ↦
          let found = w.in_default.ensures in
          subst (λ (r : List ℕ). IsSplitUpTo (StayTogether F c.args.p.now) n (s + 1) r) (sym w.finer-is)
          (split_alone (StayTogether F c.args.p.now) (stay_turned F c.args.p.now) (stay_on F c.args.p.now) n s c.loop-s.finer within found.none c.loop-s.invariant)
    ]

pub returns : goal.returns
returns c =
    let F : KissFile = c.args.m.now in
    split_all (StayTogether F c.args.p.now) (length F.states) c.loop-s.s c.loop-s.finer (omega (arith, c.states-s-end.ensures.count, c.loop-s-test.false)) c.loop-s.invariant
