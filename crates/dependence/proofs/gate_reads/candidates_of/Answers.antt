use Rattle.std.proofs.Common.{◌≡◌, ◌⊎◌, ◌↔◌, ℕ, ◌+◌, ◌<◌, refl, sym, subst, arith, slice_index}
use Rattle.std.proofs.lemmas.Bool.{false≢true}
use Rattle.dependence.specs.Candidates.{IsOpenTo}
use Rattle.dependence.specs.SufficientBits.{InWord}
use Rattle.dependence.specs.Laws.Words.{set_more, set_same}
use Rattle.dependence.proofs.gate_reads.candidates_of.Goals as goal
use Rattle.dependence.proofs.gate_reads.candidates_of.Goals.{then-is_open, else-is_open}

pub returns : goal.returns
returns c = λ d. (
  (λ in_word. record { bit = omega (arith, ((c.loop-c.invariant d).0 in_word).0, c.loop-c.auto.c-end); open_to = ((c.loop-c.invariant d).0 in_word).1 }),
  (λ candidate. (c.loop-c.invariant d).1 (omega (arith, candidate.bit, c.loop-c-test.false), candidate.open_to)),
)

pub loop-c-preserved : goal.loop-c-preserved
loop-c-preserved c =
    let P : ℕ → Type 0 = λ d. IsOpenTo c.args.split.now.parts c.args.codes.now (slice_index c.args.codes.now.owner c.args.i) d in
    elim c.if-is_open.branch [
      | then-is_open w ↦
          set_more P c.loop-c.candidates c.if-is_open.candidates c.loop-c.c c.loop-c.invariant
          (subst (λ (n : ℕ). (d : ℕ) → InWord n d ↔ (InWord c.loop-c.candidates d ⊎ (d ≡ c.loop-c.c))) (sym w.candidates-is) w.with_bit-candidates.ensures)
          (w.if-is_open.ensures.0 refl)
      | else-is_open w ↦
          subst (λ (n : ℕ). (d : ℕ) → InWord n d ↔ (d < c.loop-c.c + 1 × P d)) (sym w.candidates-is)
          (set_same P c.loop-c.candidates c.loop-c.c c.loop-c.invariant (λ open_to. false≢true (w.if-is_open.ensures.1 open_to)))
    ]
