use Rattle.std.proofs.Common.{◌≡◌, ℕ, inl, inr, get_or, ap, sym, ◌∙◌, arith}
use Rattle.std.proofs.lemmas.Bool.{cases_eq}
use Rattle.std.proofs.lemmas.List.{set-get_or}
use Rattle.std.proofs.lemmas.Nat.Bits.{shr_and_one, bit_at-lt}
use Rattle.std.specs.Int.{bit_at}
use Rattle.state_codes.proofs.Setting.{setting_set, setting_keep}
use Rattle.state_codes.proofs.draft.set_bits.Goals as goal
use Rattle.state_codes.proofs.draft.set_bits.Goals.{then-from-weight-eq1, else-from-weight-eq1}

pub loop-s-preserved : goal.loop-s-preserved
loop-s-preserved c =
    let label : ℕ = get_or c.args.labels.now c.loop-s.s 0 in
    let is : c.from.result ≡ label = c.from.ensures ∙ c.label.ensures in
    elim c.if-from-weight-eq1.branch [
      | then-from-weight-eq1 w ↦
          let has : bit_at label c.args.weight ≡ 1 = ap (λ (k : ℕ). bit_at k c.args.weight) (sym is) ∙ sym (shr_and_one c.from.result c.args.weight) ∙ w.if-from-weight-eq1.true in
          rw w.words-is (setting_set c.args.at c.args.weight c.args.labels.now c.args.words.now c.loop-s.words c.loop-s.s c.loop-s.invariant c.requires.at (omega arith) has)
      | else-from-weight-eq1 w ↦
          let same : bit_at label c.args.weight ≡ bit_at c.from.result c.args.weight = ap (λ (k : ℕ). bit_at k c.args.weight) (sym is) in
          let lacks : bit_at label c.args.weight ≡ 0 = elim (cases_eq (bit_at label c.args.weight) 1) [
            | inl one ↦ absurd (w.if-from-weight-eq1.false (shr_and_one c.from.result c.args.weight ∙ sym same ∙ one))
            | inr other ↦ omega (arith, bit_at-lt label c.args.weight)
          ] in
          rw (w.words-is, set-get_or c.loop-s.words c.loop-s.s 0) (setting_keep c.args.at c.args.weight c.args.labels.now c.args.words.now c.loop-s.words c.loop-s.s c.loop-s.invariant lacks)
    ]
