use Rattle.std.proofs.Common.{◌≡◌, ℕ, List, length, sym, ap, subst, ◌∙◌}
use Rattle.partition.specs.Laws.Chains.{join_is_least}
use Rattle.partition.specs.MeetAndJoin.{IsJoin}
use Rattle.partition.specs.Partition.{IsPartition}
use Rattle.partition.specs.Inner.Rows.{AreRowsOf}
use Rattle.partition.proofs.Gathering.{rows_within, joined_in_row}
use Rattle.partition.proofs.bits.BitPart.join_onto.Goals as goal

-- the join of the copy is that of the partition
joined_labels : (p copy q r labels : List ℕ) → copy ≡ p → labels ≡ r → IsJoin copy q r → IsJoin p q labels
joined_labels p copy q r labels same is joined = subst (IsJoin p q) (sym is) (subst (λ (left : List ℕ). IsJoin left q r) same joined)

pub gathered_rows-requires-clause-front : goal.gathered_rows-requires-clause-front
gathered_rows-requires-clause-front c =
    let p : List ℕ = c.args.self.now in
    let q : List ℕ = c.args.q.now in
    let r : List ℕ = c.labels.result.now in
    let of_p : AreRowsOf p c.self.inside.rows.items = rw (← c.self.view_is) c.self.invariant.1 in
    let joined : IsJoin p q r = joined_labels p c.in_ok-partition.partition q c.join_into.new.partition r (c.in_ok-partition.ensures.same ∙ c.self.view_is) c.labels.ensures.labels c.join_into.ensures.join in
    rows_within p r c.self.inside.rows.items c.as_slice-front.result.now of_p c.as_slice-front.ensures.value joined.lawful.length (join_is_least p q r c.requires joined).left

pub gathered_rows-requires-clause-back : goal.gathered_rows-requires-clause-back
gathered_rows-requires-clause-back c =
    let p : List ℕ = c.args.self.now in
    let q : List ℕ = c.args.q.now in
    let r : List ℕ = c.labels.result.now in
    let of_q : AreRowsOf q c.q.inside.rows.items = rw (← c.q.view_is) c.q.invariant.1 in
    let joined : IsJoin p q r = joined_labels p c.in_ok-partition.partition q c.join_into.new.partition r (c.in_ok-partition.ensures.same ∙ c.self.view_is) c.labels.ensures.labels c.join_into.ensures.join in
    rows_within q r c.q.inside.rows.items c.as_slice-back.result.now of_q c.as_slice-back.ensures.value (joined.lawful.length ∙ sym c.requires) (join_is_least p q r c.requires joined).right

pub gathered_rows-requires-clause-all : goal.gathered_rows-requires-clause-all
gathered_rows-requires-clause-all c =
    let p : List ℕ = c.args.self.now in
    let q : List ℕ = c.args.q.now in
    let r : List ℕ = c.labels.result.now in
    let of_p : AreRowsOf p c.self.inside.rows.items = rw (← c.self.view_is) c.self.invariant.1 in
    let of_q : AreRowsOf q c.q.inside.rows.items = rw (← c.q.view_is) c.q.invariant.1 in
    let joined : IsJoin p q r = joined_labels p c.in_ok-partition.partition q c.join_into.new.partition r (c.in_ok-partition.ensures.same ∙ c.self.view_is) c.labels.ensures.labels c.join_into.ensures.join in
    joined_in_row p q r c.self.inside.rows.items c.q.inside.rows.items c.as_slice-front.result.now c.as_slice-back.result.now joined of_p of_q c.as_slice-front.ensures.value c.as_slice-back.ensures.value joined.lawful.length (joined.lawful.length ∙ sym c.requires)

pub join_into-requires-clause-lawful : goal.join_into-requires-clause-lawful
join_into-requires-clause-lawful c = subst (λ (n : ℕ). IsPartition n c.in_ok-partition.partition) (ap length (sym c.in_ok-partition.ensures.same)) c.in_ok-partition.ensures.lawful

pub join_into-requires-clause-length : goal.join_into-requires-clause-length
join_into-requires-clause-length c = ap length (c.in_ok-partition.ensures.same ∙ c.self.view_is) ∙ sym c.requires

pub gathered_rows-requires-clause-lawful : goal.gathered_rows-requires-clause-lawful
gathered_rows-requires-clause-lawful c =
    let r : List ℕ = c.labels.result.now in
    let joined : IsJoin c.args.self.now c.args.q.now r = joined_labels c.args.self.now c.in_ok-partition.partition c.args.q.now c.join_into.new.partition r (c.in_ok-partition.ensures.same ∙ c.self.view_is) c.labels.ensures.labels c.join_into.ensures.join in
    subst (λ (n : ℕ). IsPartition n r) (sym joined.lawful.length) joined.lawful

pub returns-then-join_into : goal.returns-then-join_into
returns-then-join_into c = subst (λ (left : List ℕ). IsJoin left c.args.q.now c.join_into.new.partition) (c.in_ok-partition.ensures.same ∙ c.self.view_is) c.join_into.ensures.join

pub returns : goal.returns
returns c = subst (λ (left : List ℕ). IsJoin left c.args.q.now c.join_into.new.partition) (c.in_ok-partition.ensures.same ∙ c.self.view_is) c.join_into.ensures.join
