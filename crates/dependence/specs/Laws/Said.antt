-- What a row says of a bit is what the gate of the bit gives.
use Rattle.std.proofs.Common.{◌≡◌, ◌∙◌, ℕ, ◌+◌, ◌^◌, ◌<◌, Bool, IsSome, List, Option, Some, None, get_or, ap, refl, arith}
use Rattle.std.proofs.lemmas.Bool.{false≢true}
use Rattle.std.specs.Option.{option_map}
use Rattle.cubes.specs.Symbol.{bit, symbol_of}
use Rattle.cubes.specs.Cube.{HoldsNumber}
use Rattle.kiss_file.specs.declared.file.KissFile.{KissFile}
use Rattle.kiss_file.specs.declared.file.KissRow.{KissRow}
use Rattle.kiss_file.specs.Machine.{given_bit}
use Rattle.machine_table.specs.declared.open_part.Missing.{Missing}
use Rattle.machine_table.specs.declared.open_part.Missing.TheVariants.{Next, Output as MissingOutput}
use Rattle.machine_table.specs.Pieces.{IsRightRow}
use Rattle.machine_table.specs.OpenEntries.{Says, place_of}
use Rattle.dependence.specs.declared.bit.Bit.{Bit}
use Rattle.dependence.specs.declared.bit.Bit.TheVariants.{Latch, Output}
use Rattle.dependence.specs.Bit.{IsBit, value_of}
use Rattle.dependence.specs.RowBits.{row_value}

-- the part of which a gate tells
abbrev pub part_of : Bit → Missing
part_of (Latch i) = Next
part_of (Output b) = MissingOutput b

pub part_counted : (F : KissFile) (gate : Bit) → IsBit F gate → place_of (part_of gate) < F.outputs + 1
part_counted F (Latch i) gate = omega arith
part_counted F (Output b) gate = omega (arith, gate)

-- a value behind another
pub mapped : {X Y : Type 0} (f : X → Y) (o : Option X) (y : Y) → option_map f o ≡ Some y → (x : X) × (o ≡ Some x) × (f x ≡ y)
mapped f None y is = absurd (cc)
mapped f (Some x) y is = (x, refl, (cc))

some_mapped : (f : ℕ → Bool) (o : Option ℕ) → IsSome o → (v : Bool) × (option_map f o ≡ Some v)
some_mapped f None some = absurd (false≢true some)
some_mapped f (Some t) some = (f t, refl)

some_bit : (o : Option Bool) → IsSome o → (v : Bool) × (o ≡ Some v)
some_bit None some = absurd (false≢true some)
some_bit (Some v) some = (v, refl)

-- a row that says the part says what the gate gives
pub says_value : (words : List ℕ) (gate : Bit) (row : KissRow) → Says (part_of gate) row → (v : Bool) × (row_value words gate row ≡ Some v)
says_value words (Latch i) row says = some_mapped (λ t. bit (get_or words t 0) i) row.to says
says_value words (Output b) row says = some_bit (given_bit b row) says

-- what a gate gives at each symbol of a row that says it, by its number
pub row_gives : (F : KissFile) (words : List ℕ) (gate : Bit) (s x : ℕ) (row : KissRow) (v : Bool) → IsRightRow F s row → x < 2 ^ F.inputs → HoldsNumber row.cube x → row_value words gate row ≡ Some v
    → value_of F words gate s (symbol_of F.inputs x) ≡ v
row_gives F words (Latch i) s x row v is within held says =
    let state = mapped (λ t. bit (get_or words t 0) i) row.to v says in
    ap (λ (t : ℕ). bit (get_or words t 0) i) (is.next_state x state.0 within held state.1) ∙ state.2
row_gives F words (Output b) s x row v is within held says = is.output x b v within held says
