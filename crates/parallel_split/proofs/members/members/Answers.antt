use Rattle.std.proofs.Common.{ℕ, ◌<◌, List, length, get_or, sym, ◌∙◌, subst, arith}
use Rattle.std.proofs.lemmas.Result.{IfOk-from_err}
use Rattle.partition.specs.Partition.{IsPartition, IsZero, blocks_of}
use Rattle.partition.specs.MeetAndJoin.{IsMeet}
use Rattle.partition.specs.Laws.Labels.{blocks_of-le, IsPartition-of}
use Rattle.closed_lattice.specs.Limits.{HoldsApart}
use Rattle.partition.specs.Laws.Blocks.{strictly_fewer, zero_blocks, zero_by_blocks}
use Rattle.parallel_split.specs.Choice.{IsFirstHeld}
use Rattle.parallel_split.proofs.Gathering.{member_new, members_begun, members_more}
use Rattle.parallel_split.proofs.Separating.{zero_alone}
use Rattle.parallel_split.proofs.members.members.Goals as goal

pub loop-s-init : goal.loop-s-init
loop-s-init c =
    record {
      members = rw c.new-found.ensures.items
          (members_begun c.args.m.now c.in_ok-common.common (subst (λ (n : ℕ). IsPartition n c.in_ok-common.common) c.states-n.ensures.count c.in_ok-common.ensures.lawful) c.in_ok-common.ensures.one);
      kept = c.in_ok-kept.ensures c.args.m.now;
    }

pub separating-requires-clause-t : goal.separating-requires-clause-t
separating-requires-clause-t c = omega (arith, c.in-Some.ensures.some.held.1, c.loop-s.invariant.members.lawful.length)

pub returns-then-blocks-n-clause-none : goal.returns-then-blocks-n-clause-none
returns-then-blocks-n-clause-none c =
    let greatest = c.in_ok-member.ensures.greatest in
    zero_alone c.args.m.now c.in-Some.s c.in-Some.t c.in_ok-member.member greatest c.in-Some.ensures.some.order
    (zero_by_blocks (length c.args.m.now.states) c.in_ok-member.member greatest.closed.0 (omega (arith, c.blocks-in-Some.ensures, c.if-blocks-n.true, c.states-n.ensures.count)))

pub meet-requires : goal.meet-requires
meet-requires c = c.in_ok-member.ensures.greatest.closed.0.length ∙ sym c.loop-s.invariant.members.lawful.length

pub put_in_order-requires-clause-found : goal.put_in_order-requires-clause-found
put_in_order-requires-clause-found c k d within =
    subst (λ (n : ℕ). IsPartition n (get_or c.loop-s.found.items k d)) (sym c.in_ok-member.ensures.greatest.closed.0.length) (c.loop-s.invariant.members.members k d within).greatest.closed.0

pub put_in_order-requires-clause-ascending : goal.put_in_order-requires-clause-ascending
put_in_order-requires-clause-ascending c = c.loop-s.invariant.members.ascending

pub put_in_order-requires-clause-new : goal.put_in_order-requires-clause-new
put_in_order-requires-clause-new c =
    member_new c.args.m.now c.loop-s.common c.loop-s.found.items c.in-Some.s c.in-Some.t c.in_ok-member.member c.loop-s.invariant.members c.in-Some.ensures.some c.in_ok-member.ensures.greatest.meets

-- the meet with a member that holds apart two states which were together has more blocks
more_blocks : (n : ℕ) (c p next : List ℕ) (s t : ℕ) → IsPartition n c → IsMeet c p next → IsFirstHeld c s t → HoldsApart s t p → blocks_of c < blocks_of next
more_blocks n c p next s t lawful meet first apart =
    strictly_fewer n next c (IsPartition-of lawful.length meet.lawful) lawful (λ u v held. ((meet.together u v).0 held).0) (λ above. apart ((meet.together s t).0 (above s t first.held)).1)

pub loop-s-smaller : goal.loop-s-smaller
loop-s-smaller c =
    let lawful = c.loop-s.invariant.members.lawful in
    let meet = c.in_ok-common-2.ensures.meet in
    let next : IsPartition (length c.args.m.now.states) c.in_ok-common-2.common = IsPartition-of lawful.length meet.lawful in
    omega (
      arith,
      more_blocks (length c.args.m.now.states) c.loop-s.common c.in_ok-member.member c.in_ok-common-2.common c.in-Some.s c.in-Some.t lawful meet c.in-Some.ensures.some c.in_ok-member.ensures.greatest.meets,
      blocks_of-le c.in_ok-common-2.common next.numbered,
      next.length,
      c.states-n.ensures.count,
    )

pub loop-s-preserved : goal.loop-s-preserved
loop-s-preserved c =
    let F = c.args.m.now in
    let p = c.in_ok-member.member in
    let not_zero : IsZero p → ⊥ = λ zero. omega (arith, zero_blocks (length F.states) p c.in_ok-member.ensures.greatest.closed.0 zero, c.blocks-in-Some.ensures, c.if-blocks-n.false, c.states-n.ensures.count) in
    record {
      members = members_more F c.loop-s.common c.loop-s.found.items c.in-Some.s c.in-Some.t p c.in_ok-common-2.common c.put_in_order.new.found.items
          c.loop-s.invariant.members c.in-Some.ensures.some c.in_ok-member.ensures.growth c.in_ok-member.ensures.greatest not_zero c.in_ok-common-2.ensures.meet c.in_ok-put_in_order.ensures;
      kept = c.in_ok-member.ensures.kept;
    }

pub returns-clause-some : goal.returns-clause-some
returns-clause-some c = (c.loop-s.common, c.in_default.ensures.none, c.loop-s.invariant.members)

pub one-requires : goal.one-requires
one-requires c = (c.states-n.ensures.some, c.states-n.ensures.limit)

pub separating-requires-clause-kept : goal.separating-requires-clause-kept
separating-requires-clause-kept c = c.loop-s.invariant.kept

pub separating-requires-clause-order : goal.separating-requires-clause-order
separating-requires-clause-order c = c.in-Some.ensures.some.order

pub put_in_order-requires-clause-lawful : goal.put_in_order-requires-clause-lawful
put_in_order-requires-clause-lawful c =
    let lawful = c.in_ok-member.ensures.greatest.closed.0 in
    subst (λ (n : ℕ). IsPartition n c.in_ok-member.member) (sym lawful.length) lawful

pub returns-in_err-common-clause-some : goal.returns-in_err-common-clause-some
returns-in_err-common-clause-some c = IfOk-from_err _ _ c.from_residual.ensures.0

pub returns-in_err-common-clause-none : goal.returns-in_err-common-clause-none
returns-in_err-common-clause-none c = IfOk-from_err _ _ c.from_residual.ensures.0

pub returns-in_err-kept-clause-some : goal.returns-in_err-kept-clause-some
returns-in_err-kept-clause-some c = IfOk-from_err _ _ c.from_residual-in_err-kept.ensures.0

pub returns-in_err-kept-clause-none : goal.returns-in_err-kept-clause-none
returns-in_err-kept-clause-none c = IfOk-from_err _ _ c.from_residual-in_err-kept.ensures.0

pub returns-in_err-common-2-clause-some : goal.returns-in_err-common-2-clause-some
returns-in_err-common-2-clause-some c = IfOk-from_err _ _ c.from_residual-in_err-common-2.ensures.0

pub returns-in_err-common-2-clause-none : goal.returns-in_err-common-2-clause-none
returns-in_err-common-2-clause-none c = IfOk-from_err _ _ c.from_residual-in_err-common-2.ensures.0

pub returns-in_err-put_in_order-clause-some : goal.returns-in_err-put_in_order-clause-some
returns-in_err-put_in_order-clause-some c = IfOk-from_err _ _ c.from_residual-in_err-put_in_order.ensures.0

pub returns-in_err-put_in_order-clause-none : goal.returns-in_err-put_in_order-clause-none
returns-in_err-put_in_order-clause-none c = IfOk-from_err _ _ c.from_residual-in_err-put_in_order.ensures.0
