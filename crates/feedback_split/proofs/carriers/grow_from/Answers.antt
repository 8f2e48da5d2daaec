use Rattle.std.proofs.Common.{◌≡◌, ℕ, ◌⊎◌, inl, inr, List, length, sym, ◌∙◌, subst}
use Rattle.std.proofs.lemmas.Bool.{false≢true}
use Rattle.partition.specs.Partition.{IsHold}
use Rattle.pair_operators.specs.Laws.Growth.{pair_taken}
use Rattle.feedback_split.specs.Carrier.{Suffices}
use Rattle.feedback_split.proofs.Sufficing.{suffices_below}
use Rattle.feedback_split.proofs.carriers.grow_from.Goals as goal
use Rattle.feedback_split.proofs.carriers.grow_from.Goals.{then-le, else-le}

pub loop-t-preserved : goal.loop-t-preserved
loop-t-preserved c =
    let F = c.args.m.now in
    let n : ℕ = length F.states in
    let own : List ℕ = c.args.own.now in
    let p : List ℕ = c.loop-t.grown in
    let joined : List ℕ = c.in_ok-joined.joined in
    let fits = suffices_below F own joined c.in_ok-meet.meet c.args.going.now c.requires.own c.in_ok-meet.ensures.meet c.requires.going in
    let taken : (Suffices F own joined × (c.if-le.grown ≡ joined)) ⊎ ((Suffices F own joined → ⊥) × (c.if-le.grown ≡ p)) =
    elim c.if-le.branch [
      | then-le w ↦ inl (fits.0 (c.le.ensures.0 w.if-le.true), w.grown-is)
      | else-le w ↦ inr ((λ suffices. false≢true (sym w.if-le.false ∙ c.le.ensures.1 (fits.1 suffices))), w.grown-is)
    ] in
    let hold : IsHold n c.args.s c.loop-t.t c.in_ok-hold.hold = subst (λ (k : ℕ). IsHold k c.args.s c.loop-t.t c.in_ok-hold.hold) c.states-n.ensures.count c.in_ok-hold.ensures in
    let more = pair_taken n (IsHold n) (Suffices F own) c.args.start p c.args.s c.loop-t.t c.in_ok-hold.hold joined c.if-le.grown
    c.loop-t.invariant.lawful c.loop-t.invariant.grown hold c.in_ok-joined.ensures.join taken c.loop-t.auto.t in
    record { lawful = more.0; grown = more.1 }
