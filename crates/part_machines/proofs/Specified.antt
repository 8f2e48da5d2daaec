-- Nothing is open in the machine of a part.
use Rattle.std.proofs.Common.{◌≡◌, ℕ, ◌+◌, ◌<◌, Bool, true, All, List, None, Option, Some, get_or, length, map, option_map, refl, sym, ◌∙◌, ap, subst, arith}
use Rattle.std.specs.Option.{IsSome, is_some}
use Rattle.std.proofs.lemmas.List.{get_or-map}
use Rattle.std.proofs.lemmas.List.FromFn.{get_or-map-range_with_len, get_or-range_with_len, length-range_with_len}
use Rattle.std.proofs.lemmas.List.Folds.{list_any_at}
use Rattle.std.specs.List.{range_with_len}
use Rattle.std.specs.List.Sorted.{IsStrictlyIncreasing}
use Rattle.cubes.specs.Cube.{Holds}
use Rattle.cubes.specs.Symbol.{bit}
use Rattle.dependence.specs.declared.sets.ReadSet.{ReadSet}
use Rattle.kiss_file.specs.declared.file.KissFile.{KissFile}
use Rattle.kiss_file.specs.declared.file.KissRow.{KissRow}
use Rattle.kiss_file.specs.Machine.{IsRowAt, Specified, given_bit}
use Rattle.machine_table.specs.declared.open_part.Missing.{Missing}
use Rattle.machine_table.specs.declared.open_part.Missing.TheVariants.{Next, Output}
use Rattle.machine_table.specs.OpenEntries.{Says, place_of}
use Rattle.state_codes.specs.declared.Codes.{Codes}
use Rattle.state_codes.specs.declared.which.Which.{Which}
use Rattle.state_codes.specs.declared.which.Which.TheVariants.{Part as Numbered, Outputs}
use Rattle.part_machines.specs.PartRows.{ArePartRows, given_outputs, is_taken, next_block, output_count}
use Rattle.part_machines.specs.Which.{own_bits}
use Rattle.part_machines.proofs.Conflicts.{given_same}
use Rattle.part_machines.proofs.Found.{IsFound, row_found}
use Rattle.part_machines.proofs.Reached.{IsReached, reached}

-- the part of a row that decides about an output of the machine: a row of a part names a next state
abbrev pub deciding : Which → ℕ → Missing
deciding (Numbered j) b = Next
deciding Outputs b = Output b

pub decides_inside : (W : KissFile) (code : Codes) (which : Which) (b : ℕ) → b < output_count W code which → place_of (deciding which b) < W.outputs + 1
decides_inside W code (Numbered j) b below = omega arith
decides_inside W code Outputs b below = omega (arith, below)

pub decides_taken : (W : KissFile) (code : Codes) (which : Which) (b : ℕ) → b < output_count W code which → (row : KissRow) → Says (deciding which b) row → is_taken W.outputs which row ≡ true
decides_taken W code (Numbered j) b below row says = says
decides_taken W code Outputs b below row says =
    let at : get_or (range_with_len 0 W.outputs) b 0 ≡ b = omega (arith, get_or-range_with_len 0 W.outputs b 0 below) in
    list_any_at (λ k. is_some (given_bit k row)) (range_with_len 0 W.outputs) b 0 (omega (arith, length-range_with_len 0 W.outputs, below))
    (ap (λ (k : ℕ). is_some (given_bit k row)) at ∙ says)

some_mapped : (f : ℕ → ℕ) (o : Option ℕ) → is_some o ≡ true → is_some (option_map f o) ≡ true
some_mapped f None is = is
some_mapped f (Some t) is = refl

some_next : (p : List ℕ) (which : Which) (b : ℕ) (source row : KissRow) → Says (deciding which b) source → row.to ≡ next_block p which source → IsSome row.to
some_next p (Numbered j) b source row says is = ap is_some is ∙ some_mapped (λ (n : ℕ). get_or p n 0) source.to says
some_next p Outputs b source row says is = ap is_some is

-- the bit of a part that a row gives
pub own_given : (W : KissFile) (code : Codes) (j s b : ℕ) (source row : KissRow) → b < output_count W code (Numbered j)
    → map (λ k. given_bit k row) (range_with_len 0 (output_count W code (Numbered j))) ≡ given_outputs W code (Numbered j) s source
    → given_bit b row ≡ Some (bit (get_or code.words s 0) (get_or (own_bits code (Numbered j)) b 0))
own_given W code j s b source row below output =
    sym (get_or-map-range_with_len (λ k. given_bit k row) 0 (output_count W code (Numbered j)) b b None below (omega arith))
    ∙ (ap (λ (list : List (Option Bool)). get_or list b None) output
    ∙ get_or-map (λ c. Some (bit (get_or code.words s 0) c)) (own_bits code (Numbered j)) b 0 None below)

some_given : (W : KissFile) (code : Codes) (which : Which) (s b : ℕ) (source row : KissRow) → b < output_count W code which → Says (deciding which b) source
    → map (λ k. given_bit k row) (range_with_len 0 (output_count W code which)) ≡ given_outputs W code which s source → IsSome (given_bit b row)
some_given W code (Numbered j) s b source row below says output = ap is_some (own_given W code j s b source row below output)
some_given W code Outputs s b source row below says output = ap is_some (given_same row source W.outputs output b below) ∙ says

module _ (W : KissFile) (code : Codes) (p : List ℕ) (set : ReadSet) (which : Which) (P : KissFile) (are : ArePartRows W code p set which P.rows) (inputs : All (λ a. a < W.inputs) set.inputs) where
  -- a row of the machine at a symbol that is reached
  pub record IsDecided (t : ℕ) (y : List Bool) (at : IsReached W code p set t y) (b : ℕ) : Type 0 where
    pub row : KissRow
    pub found : IsFound W code p set which P.rows at.s at.x at.values (deciding which b) row
    pub there : IsRowAt P t y row
    pub names : IsSome row.to
    pub gives : IsSome (given_bit b row)

  pub decided : (t : ℕ) (y : List Bool) (at : IsReached W code p set t y) (b : ℕ) → b < output_count W code which → IsDecided t y at b
  decided t y at b below =
      let found =
      row_found W code p set which inputs at.s at.x at.values at.long at.held (deciding which b) (decides_inside W code which b below) (decides_taken W code which b below)
      P.rows are at.least in
      record {
        row = found.0;
        found = found.1;
        there = record { among = found.1.among; from = found.1.made.from ∙ at.block; held = subst (Holds found.0.cube) at.read found.1.held };
        names = some_next p which b found.1.source found.0 found.1.says found.1.made.to;
        gives = some_given W code which at.s b found.1.source found.0 below found.1.says found.1.made.output;
      }

  module _ (ascend : IsStrictlyIncreasing set.inputs) (wide : P.inputs ≡ length set.inputs + length set.latches) (outputs : P.outputs ≡ output_count W code which) (some : 0 < P.outputs)
      (stands : (t : ℕ) → t < length P.states → (s : ℕ) × (s < length p) × (get_or p s 0 ≡ t)) where
    pub reached_at : (t : ℕ) (y : List Bool) → t < length P.states → length y ≡ P.inputs → IsReached W code p set t y
    reached_at t y low long =
        let state = stands t low in
        subst (λ (block : ℕ). IsReached W code p set block y) state.2 (reached W code p set inputs ascend state.0 state.1 y (long ∙ wide))

    pub specified : Specified P
    specified t y low long =
        let at = reached_at t y low long in
        let first = decided t y at 0 (omega (arith, some, outputs)) in
        record {
          next = (first.row, first.there, first.names);
          outputs = λ b below. let own = decided t y at b (omega (arith, below, outputs)) in (own.row, own.there, own.gives);
        }
