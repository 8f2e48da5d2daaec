use Rattle.std.proofs.Common.{ℕ, Vec, Global, ◌≡◌, ◌+◌, ◌<◌, ◌↔◌, List, Contains, length, slice_index, sym, ◌∙◌, subst, ap, arith}
use Rattle.state_rows.proofs.KeptColumns.{led_passed, led_pushed}
use Rattle.state_rows.proofs.columns.states_of.Goals as goal
use Rattle.state_rows.proofs.columns.states_of.Goals.{then-other-leader+in_ok-push, else-other-leader}

pub loop-s-preserved : goal.loop-s-preserved
loop-s-preserved c =
    let leaders = c.args.leaders.now in
    let leader = c.args.leader in
    elim c.if-other-leader.branch [
      | then-other-leader+in_ok-push w ↦
          subst (λ (all : List ℕ). (i : ℕ) → Contains all i ↔ ((i < c.loop-s.s + 1) × (slice_index leaders i ≡ leader))) (sym (ap (λ (v : Vec ℕ Global). v.items) w.states-is ∙ w.in_ok-push.ensures.items))
          (led_pushed leaders leader c.loop-s.s c.loop-s.states.items c.loop-s.invariant w.if-other-leader.true)
      | else-other-leader w ↦
          subst (λ (all : List ℕ). (i : ℕ) → Contains all i ↔ ((i < c.loop-s.s + 1) × (slice_index leaders i ≡ leader))) (sym (ap (λ (v : Vec ℕ Global). v.items) w.states-is))
          (led_passed leaders leader c.loop-s.s c.loop-s.states.items c.loop-s.invariant w.if-other-leader.false)
    ]

pub returns : goal.returns
returns c =
    let all : c.loop-s.s ≡ length c.args.leaders.now = omega (arith, c.loop-s-test.false, c.loop-s.auto.s-end) in
    subst (λ (n : ℕ). (i : ℕ) → Contains c.loop-s.states.items i ↔ ((i < n) × (slice_index c.args.leaders.now i ≡ c.args.leader))) all c.loop-s.invariant
