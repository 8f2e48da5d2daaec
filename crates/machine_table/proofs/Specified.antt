-- Where each entry of a file is said by some row, nothing is left open.
use Rattle.std.proofs.Common.{◌≡◌, ℕ, ◌+◌, ◌<◌, ◌^◌, Bool, List, sym, ◌∙◌, subst, arith, ap}
use Rattle.cubes.specs.Symbol.{number_of, symbol_of}
use Rattle.cubes.specs.Laws.Numbers.{number_below, symbol_of-number_of}
use Rattle.kiss_file.specs.declared.file.KissFile.{KissFile}
use Rattle.kiss_file.specs.declared.file.KissRow.{KissRow}
use Rattle.kiss_file.specs.Machine.{IsRowAt, Specified}
use Rattle.machine_table.specs.declared.open_part.Missing.{Missing}
use Rattle.machine_table.specs.declared.open_part.Missing.TheVariants.{Next, Output}
use Rattle.machine_table.specs.OpenEntries.{IsEntry, IsSaid, Says, place_of}

pub specified : (F : KissFile) → ((s number : ℕ) (part : Missing) → IsEntry F s number part → IsSaid F s number part) → Specified F
specified F said s x within width = record {
  next = at_symbol Next (omega arith);
  outputs = λ b below. at_symbol (Output b) (omega arith);
}
  where
    below_inputs : number_of x < 2 ^ F.inputs
    below_inputs = subst (λ (w : ℕ). number_of x < 2 ^ w) width (number_below x)

    same : symbol_of F.inputs (number_of x) ≡ x
    same = ap (λ (w : ℕ). symbol_of w (number_of x)) (sym width) ∙ symbol_of-number_of x

    at_symbol : (part : Missing) → place_of part < F.outputs + 1 → (row : KissRow) × IsRowAt F s x row × Says part row
    at_symbol part counted =
        let found = said s (number_of x) part (record { among_states = within; among_symbols = below_inputs; kind = counted }) in
        (found.0, subst (λ (y : List Bool). IsRowAt F s y found.0) same found.1, found.2)
