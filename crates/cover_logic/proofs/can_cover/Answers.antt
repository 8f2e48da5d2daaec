use Rattle.std.proofs.Common.{◌≡◌, ◌≤◌, ◌<◌, ◌∙◌, ℕ, nat_le, true, sym, arith}
use Rattle.std.proofs.lemmas.Bool.Decides.{nat_tests}
use Rattle.std.specs.List.{All}
use Rattle.std.proofs.lemmas.Bool.{false≢true}
use Rattle.cover_terms.specs.Term.{FitsWidth}
use Rattle.cover_logic.proofs.Width.{clear_from_apart, apart_from_clear}
use Rattle.cover_logic.proofs.can_cover.Goals as goal
use Rattle.cover_logic.proofs.can_cover.Goals.{then-width-le128, else-width-le128, then-all_fit, else-all_fit}

above : (width : ℕ) → 128 < width → (nat_le width 128) ≡ true → ⊥
above width h e = grind (arith, nat_tests)

pub returns-then-all_fit-2 : goal.returns-then-all_fit-2
returns-then-all_fit-2 c =
    let both : c.if-all_fit.value ≡ true = c.if-all_fit-2.true in
    let facts : (c.args.width ≤ 128) × All (FitsWidth c.args.width) c.args.on.now × All (FitsWidth c.args.width) c.args.off.now =
    elim c.if-all_fit.branch [
      | then-all_fit w ↦
          elim c.if-width-le128.branch [
            | then-width-le128 v ↦
                (v.if-width-le128.true, v.all_fit.ensures.0 (sym v.value-is ∙ w.if-all_fit.true), w.all_fit-then-all_fit.ensures.0 (sym w.value-is ∙ both))
            | else-width-le128 v ↦ absurd (above c.args.width v.if-width-le128.false (sym v.value-is ∙ w.if-all_fit.true))
          ]
      | else-all_fit w ↦ absurd (false≢true (sym w.if-all_fit.false ∙ (sym w.value-is ∙ both)))
    ] in (
      λ h. record {
        columns = facts.0;
        on_fits = facts.1;
        off_fits = facts.2;
        apart = apart_from_clear c.args.width c.args.on.now c.args.off.now (c.are_apart.ensures.0 h);
      },
      λ can. c.are_apart.ensures.1 (clear_from_apart c.args.width c.args.on.now c.args.off.now can.on_fits can.off_fits can.apart),
    )
