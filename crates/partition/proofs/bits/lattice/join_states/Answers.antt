use Rattle.std.proofs.Common.{◌<◌, ℕ, List, refl, sym, arith}
use Rattle.partition.proofs.Counting.{ones_more}
use Rattle.partition.proofs.JoinedStates.{joining_first, joining_step, joining_all, joined_none, kept_both}
use Rattle.partition.proofs.bits.lattice.join_states.Goals as goal

pub returns-in_default-clause-joined : goal.returns-in_default-clause-joined
returns-in_default-clause-joined c = joined_none c.args.partition.now c.args.states.now c.requires.lawful c.in_default.ensures.none

pub loop-t-init : goal.loop-t-init
loop-t-init c = record { joining = joining_first c.args.partition.now c.args.states.now c.in-Some.s c.requires.lawful; kept = refl }

pub loop-t-smaller : goal.loop-t-smaller
loop-t-smaller c =
    let t : ℕ = c.in-Some-first.t in
    let small : t < 256 = omega (arith, c.requires.states t (c.loop-t.invariant.joining.part t c.in-Some-first.ensures.some), c.requires.lawful.count.1) in
    omega (arith, ones_more c.remove.new.self c.loop-t.left t 256 small c.remove.ensures.out c.in-Some-first.ensures.some (λ u other. sym (c.remove.ensures.others u other)))

pub loop-t-preserved : goal.loop-t-preserved
loop-t-preserved c =
    let p : List ℕ = c.args.partition.now in
    let t : ℕ = c.in-Some-first.t in
    let joining = c.loop-t.invariant.joining in
    record {
      joining = joining_step p c.args.states.now c.in-Some.s t c.loop-t.left c.remove.new.self c.loop-t.partition c.join_two-changed.new.partition joining c.in-Some.ensures.some c.in-Some-first.ensures.some (c.requires.states c.in-Some.s c.in-Some.ensures.some) (c.requires.states t (joining.part t c.in-Some-first.ensures.some)) c.join_two-changed.ensures.merged c.remove.ensures.out c.remove.ensures.others;
      kept = kept_both c.loop-t.changed c.join_two-changed.result p c.loop-t.partition c.join_two-changed.new.partition c.loop-t.invariant.kept c.join_two-changed.ensures.kept;
    }

pub returns-clause-joined : goal.returns-clause-joined
returns-clause-joined c = joining_all c.args.partition.now c.args.states.now c.in-Some.s c.loop-t.left c.loop-t.partition c.loop-t.invariant.joining c.in_default-first.ensures.none
