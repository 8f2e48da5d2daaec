-- Filled rows of states.
use Rattle.std.proofs.Common.{◌≡◌, ℕ, ◌+◌, ◌^◌, ◌<◌, inl, inr, List, ◌++◌, All, sym, ◌∙◌, subst, arith}
use Rattle.std.proofs.lemmas.Bool.{cases_lt}
use Rattle.std.proofs.lemmas.List.Elements.{All-append, All-contains, All-weaker, Contains-append_left, Contains-append_right}
use Rattle.kiss_file.specs.declared.file.KissFile.{KissFile}
use Rattle.kiss_file.specs.declared.file.KissRow.{KissRow}
use Rattle.machine_table.specs.declared.open_part.Missing.{Missing}
use Rattle.machine_table.specs.Pieces.{IsRightRow, IsSaidBy}
use Rattle.machine_table.specs.OpenEntries.{place_of}
use Rattle.realise.specs.Inner.FilledRows.{AreFilledBelow, IsRight}

-- rows of one state more
pub rows_added : (F : KissFile) (s : ℕ) (own old new : List KissRow) → new ≡ old ++ own → AreFilledBelow F s old
    → ((x : ℕ) (part : Missing) → x < 2 ^ F.inputs → place_of part < F.outputs + 1 → IsSaidBy own x part) → All (IsRightRow F s) own → AreFilledBelow F (s + 1) new
rows_added F s own old new is before each right =
    subst (AreFilledBelow F (s + 1)) (sym is)
    (record {
      right = All-append (IsRight F) old own before.right (All-weaker (IsRightRow F s) (IsRight F) (λ row here. subst (λ (t : ℕ). IsRightRow F t row) (sym here.state) here) own right);
      each = λ t x part low within counted.
          elim (cases_lt t s) [
            | inl below ↦
                let found = before.each t x part below within counted in
                (found.0, Contains-append_left old own found.0 found.1, found.2, found.3, found.4)
            | inr above ↦
                let same : s ≡ t = omega arith in
                let found = each x part within counted in
                (found.0, Contains-append_right old own found.0 found.1, (All-contains (IsRightRow F s) own found.0 right found.1).state ∙ same, found.2, found.3)
          ];
    })
