use Rattle.std.proofs.Common.{suc, ◌<◌, length, take, drop, sym, ap, ◌∙◌, arith}
use Rattle.std.specs.List.{remove}
use Rattle.std.proofs.lemmas.Bool.{false≢true}
use Rattle.std.proofs.lemmas.List.Elements.{All-append, All-drop, All-take}
use Rattle.partition.specs.Partition.{IsPartition}
use Rattle.parallel_split.specs.Choice.{AllMeetInZero}
use Rattle.parallel_split.proofs.Spared.{leaving_begun, leaving_ended, leaving_kept, leaving_spared}
use Rattle.parallel_split.proofs.spare_members.leave_out.Goals as goal

pub loop-place-init : goal.loop-place-init
loop-place-init c = record { lawful = c.requires.lawful; leaving = leaving_begun c.args.n c.args.list.now.items }

pub can_spare-requires-clause-lawful : goal.can_spare-requires-clause-lawful
can_spare-requires-clause-lawful c = rw c.as_slice.ensures.value c.loop-place.invariant.lawful

pub loop-place-preserved-then-branch : goal.loop-place-preserved-then-branch
loop-place-preserved-then-branch c =
    let list = c.loop-place.list.items in
    let within : c.loop-place.place < length list = omega (arith, c.loop-place-test.true, c.len.ensures, c.as_slice.ensures.len, ap length c.as_slice.ensures.value) in
    let spared : AllMeetInZero c.args.n (remove list c.loop-place.place) = rw c.as_slice.ensures.value at (c.in_ok-can_spare.ensures.0 c.if-branch.true) in
    rw c.remove.ensures.items (record {
      lawful = All-append (IsPartition c.args.n) (take c.loop-place.place list) (drop (suc c.loop-place.place) list) (All-take (IsPartition c.args.n) c.loop-place.place list c.loop-place.invariant.lawful) (All-drop (IsPartition c.args.n) (suc c.loop-place.place) list c.loop-place.invariant.lawful);
      leaving = leaving_spared c.args.n c.args.list.now.items list c.loop-place.place within c.loop-place.invariant.leaving spared;
    })

pub loop-place-smaller : goal.loop-place-smaller
loop-place-smaller c = omega (arith, c.loop-place-test.true, c.len.ensures, c.as_slice.ensures.len, ap length c.as_slice.ensures.value)

pub loop-place-preserved : goal.loop-place-preserved
loop-place-preserved c =
    let list = c.loop-place.list.items in
    let within : c.loop-place.place < length list = omega (arith, c.loop-place-test.true, c.len.ensures, c.as_slice.ensures.len, ap length c.as_slice.ensures.value) in
    let needed : AllMeetInZero c.args.n (remove list c.loop-place.place) → ⊥ = λ zero. false≢true (sym c.if-branch.false ∙ c.in_ok-can_spare.ensures.1 (rw c.as_slice.ensures.value zero)) in
    record {
      lawful = c.loop-place.invariant.lawful;
      leaving = leaving_kept c.args.n c.args.list.now.items list c.loop-place.place within c.loop-place.invariant.leaving needed;
    }

pub returns : goal.returns
returns c = leaving_ended c.args.n c.args.list.now.items c.loop-place.list.items c.loop-place.place (omega (arith, c.loop-place-test.false, c.len.ensures, c.loop-place.list.ok)) c.loop-place.invariant.leaving
