-- A row of a part, made of a row of a state.
use Rattle.std.proofs.Common.{◌≡◌, ◌∙◌, ℕ, suc, ◌+◌, ◌<◌, Bool, false, true, List, [], ◌∷◌, ◌++◌, None, Option, Some, IfSome, get_or, length, map, slice_get, inl, inr, refl, sym, ap, subst, arith}
use Rattle.std.proofs.lemmas.Bool.{cases_Bool, false≢true}
use Rattle.std.proofs.lemmas.List.{length-map}
use Rattle.std.proofs.lemmas.Option.{same_Some, slice_get_within}
use Rattle.std.specs.List.{range_with_len}
use Rattle.std.specs.Option.{option_map}
use Rattle.cubes.specs.Cube.{field_of}
use Rattle.cubes.specs.Field.{character, characters}
use Rattle.cubes.specs.Symbol.{bit}
use Rattle.dependence.specs.declared.sets.ReadSet.{ReadSet}
use Rattle.kiss_file.specs.declared.file.KissFile.{KissFile}
use Rattle.kiss_file.specs.declared.file.KissRow.{KissRow}
use Rattle.kiss_file.specs.LawfulFile.{IsLawfulRow}
use Rattle.list_facts.specs.Laws.Places.{get_map}
use Rattle.partition.specs.Laws.Labels.{label-lt-blocks_of}
use Rattle.partition.specs.Partition.{blocks_of}
use Rattle.part_machines.specs.PartRows.{IsPartRow, characters_at, given_outputs, next_block, output_count}
use Rattle.part_machines.specs.Which.{own_bits}
use Rattle.part_rows.proofs.Fields.{cons_same}
use Rattle.part_rows.specs.Inner.Given.{GivesAsRow, GivesBits}
use Rattle.part_rows.specs.Inner.Shown.{HasBits, IsShown}
use Rattle.part_rows.specs.declared.part_row.Given.{Given}
use Rattle.part_rows.specs.declared.shown.Bits.{Bits}
use Rattle.part_rows.specs.declared.shown.Shown.{Shown}
use Rattle.state_codes.specs.declared.Codes.{Codes}
use Rattle.state_codes.specs.declared.which.Which.{Which}
use Rattle.state_codes.specs.declared.which.Which.TheVariants.{Part as Numbered, Outputs}

-- ---- outputs
-- what is given at each place of a list
each_place : {X Y : Type 0} (f : ℕ → Y) (g : X → Y) (a : ℕ) (xs : List X) → ((k : ℕ) (x : X) → slice_get xs k ≡ Some x → f (a + k) ≡ g x) → map f (range_with_len a (length xs)) ≡ map g xs
each_place f g a [] each = refl
each_place f g a (x ∷ xs) each =
    let here : a + 0 ≡ a = omega arith in
    let first : f a ≡ g x = ap f (sym here) ∙ each 0 x refl in
    let later : (k : ℕ) (y : _) → slice_get xs k ≡ Some y → f (a + 1 + k) ≡ g y = λ k y is. let at : a + 1 + k ≡ a + suc k = omega arith in ap f at ∙ each (suc k) y is in
    cons_same (f a) (g x) (map f (range_with_len (a + 1) (length xs))) (map g xs) first (each_place f g (a + 1) xs later)

module _ (word : ℕ) (own : List ℕ) (bits : Bits) (given : Given) (are : HasBits (map (bit word) own) bits) (gives : GivesBits bits given) where
  count_is : bits.count ≡ length own
  count_is = are.count ∙ length-map own (bit word)

  value_is : (k c : ℕ) → slice_get own k ≡ Some c → bit given.value k ≡ bit word c
  value_is k c there = by (bit word c) refl where
    shown : slice_get (map (bit word) own) k ≡ Some (bit word c)
    shown = get_map (bit word) own k c there

    by : (b : Bool) → bit word c ≡ b → bit given.value k ≡ b
    by true one = ap (λ (n : ℕ). bit n k) gives.value ∙ (are.word k).1 (shown ∙ ap (λ (d : Bool). Some d) one)
    by false none =
        elim (cases_Bool (bit given.value k)) [
          | inl one ↦
              absurd (false≢true (sym none ∙ same_Some (bit word c) true (sym shown ∙ (are.word k).0 (ap (λ (n : ℕ). bit n k) (sym gives.value) ∙ one))))
          | inr zero_there ↦ zero_there
        ]

  pub bits_given : map (character given.care given.value) (range_with_len 0 (length own)) ≡ map (λ c. Some (bit word c)) own
  bits_given = each_place (character given.care given.value) (λ c. Some (bit word c)) 0 own each where
    each : (k c : ℕ) → slice_get own k ≡ Some c → character given.care given.value (0 + k) ≡ Some (bit word c)
    each k c there =
        let at : 0 + k ≡ k = omega arith in
        let cares : bit given.care k ≡ true = (gives.care k).1 (omega (arith, count_is, slice_get_within own k c there)) in
        ap (character given.care given.value) at ∙ rw cares (ap (λ (d : Bool). Some d) (value_is k c there))

  pub care_counted : (b : ℕ) → bit given.care b ≡ true → b < length own
  care_counted b cares = omega (arith, count_is, (gives.care b).0 cares)

  pub value_cared : (b : ℕ) → bit given.value b ≡ true → bit given.care b ≡ true
  value_cared b one =
      let there = (are.word b).0 (ap (λ (n : ℕ). bit n b) (sym gives.value) ∙ one) in
      (gives.care b).1 (omega (arith, are.count, slice_get_within (map (bit word) own) b true there))

-- what a row has to give
record AreGiven (W : KissFile) (code : Codes) (which : Which) (s : ℕ) (row : KissRow) (given : Given) : Type 0 where
  outputs : map (character given.care given.value) (range_with_len 0 (output_count W code which)) ≡ given_outputs W code which s row
  care : (b : ℕ) → bit given.care b ≡ true → b < output_count W code which
  value : (b : ℕ) → bit given.value b ≡ true → bit given.care b ≡ true

module _ (W : KissFile) (code : Codes) (s : ℕ) (row : KissRow) (lawful : IsLawfulRow W.inputs W.outputs (length W.states) row) (bits : Bits) (given : Given) where
  are_given : (which : Which) → HasBits (map (bit (get_or code.words s 0)) (own_bits code which)) bits → ((j : ℕ) → which ≡ Numbered j → GivesBits bits given)
      → (which ≡ Outputs → GivesAsRow row given) → AreGiven W code which s row given
  are_given (Numbered j) are part outputs =
      let word : ℕ = get_or code.words s 0 in
      let own : List ℕ = own_bits code (Numbered j) in
      record {
        outputs = bits_given word own bits given are (part j refl);
        care = care_counted word own bits given are (part j refl);
        value = value_cared word own bits given are (part j refl);
      }
  are_given Outputs are part outputs =
      let as_row = outputs refl in
      record {
        outputs = ap (λ (n : ℕ). map (character n given.value) (range_with_len 0 W.outputs)) as_row.care ∙ ap (λ (n : ℕ). map (character row.care n) (range_with_len 0 W.outputs)) as_row.value;
        care = λ b cares. lawful.care b (ap (λ (n : ℕ). bit n b) (sym as_row.care) ∙ cares);
        value = λ b one. ap (λ (n : ℕ). bit n b) as_row.care ∙ lawful.value b (ap (λ (n : ℕ). bit n b) (sym as_row.value) ∙ one);
      }

-- ---- the next block
mapped_within : (p : List ℕ) (next : Option ℕ) → IfSome next (λ t. t < length p) → IfSome (option_map (λ t. get_or p t 0) next) (λ b. b < blocks_of p)
mapped_within p None inside = tt
mapped_within p (Some t) inside = label-lt-blocks_of p t inside

next_within : (p : List ℕ) (which : Which) (row : KissRow) (s : ℕ) → s < length p → IfSome row.to (λ t. t < length p) → IfSome (next_block p which row) (λ b. b < blocks_of p)
next_within p (Numbered j) row s state inside = mapped_within p row.to inside
next_within p Outputs row s state inside = let low = label-lt-blocks_of p s state in omega (arith, low)

-- ---- the whole row
pub row_made : (W : KissFile) (code : Codes) (p : List ℕ) (set : ReadSet) (which : Which) (cell : Shown) (row made : KissRow) (given : Given)
    → IsLawfulRow W.inputs W.outputs (length W.states) row → IsShown code p set.latches which cell → IfSome row.to (λ t. t < length p)
    → made.cube.width ≡ length set.inputs + length set.latches
    → field_of made.cube ≡ characters_at (field_of row.cube) set.inputs ++ characters (length set.latches) cell.field.care cell.field.value
    → made.from ≡ cell.block → made.to ≡ next_block p which row → made.care ≡ given.care → made.value ≡ given.value
    → ((j : ℕ) → which ≡ Numbered j → GivesBits cell.bits given) → (which ≡ Outputs → GivesAsRow row given)
    → IsPartRow W code p set which cell.state (characters (length set.latches) cell.field.care cell.field.value) row made
row_made W code p set which cell row made given lawful shown inside width input from to care value part outputs =
    let are : AreGiven W code which cell.state row given = are_given W code cell.state row lawful cell.bits given which shown.bits part outputs in
    record {
      input = input;
      from = from ∙ shown.block;
      to = to;
      output =
          ap (λ (n : ℕ). map (character n made.value) (range_with_len 0 (output_count W code which))) care
          ∙ ap (λ (n : ℕ). map (character given.care n) (range_with_len 0 (output_count W code which))) value
          ∙ are.outputs;
      lawful = record {
        width = width;
        from = subst (λ (b : ℕ). b < blocks_of p) (sym (from ∙ shown.block)) (label-lt-blocks_of p cell.state shown.state);
        to = subst (λ (b : Option ℕ). IfSome b (λ t. t < blocks_of p)) (sym to) (next_within p which row cell.state shown.state inside);
        care = λ b cares. are.care b (ap (λ (n : ℕ). bit n b) (sym care) ∙ cares);
        value = λ b one. ap (λ (n : ℕ). bit n b) care ∙ are.value b (ap (λ (n : ℕ). bit n b) (sym value) ∙ one);
      };
    }

-- the same, where the inputs and the bits that are read were lent
pub row_made_of : (W : KissFile) (code : Codes) (p : List ℕ) (set : ReadSet) (which : Which) (cell : Shown) (row made : KissRow) (given : Given) (inputs latches : List ℕ)
    → inputs ≡ set.inputs → latches ≡ set.latches
    → IsLawfulRow W.inputs W.outputs (length W.states) row → IsShown code p set.latches which cell → IfSome row.to (λ t. t < length p)
    → made.cube.width ≡ length inputs + length latches
    → field_of made.cube ≡ characters_at (field_of row.cube) inputs ++ characters (length latches) cell.field.care cell.field.value
    → made.from ≡ cell.block → made.to ≡ next_block p which row → made.care ≡ given.care → made.value ≡ given.value
    → ((j : ℕ) → which ≡ Numbered j → GivesBits cell.bits given) → (which ≡ Outputs → GivesAsRow row given)
    → IsPartRow W code p set which cell.state (characters (length set.latches) cell.field.care cell.field.value) row made
row_made_of W code p set which cell row made given inputs latches inputs_are latches_are lawful shown inside width input =
    row_made W code p set which cell row made given lawful shown inside
    (subst (λ (list : List ℕ). made.cube.width ≡ length set.inputs + length list) latches_are (subst (λ (list : List ℕ). made.cube.width ≡ length list + length latches) inputs_are width))
    (subst (λ (list : List ℕ). field_of made.cube ≡ characters_at (field_of row.cube) set.inputs ++ characters (length list) cell.field.care cell.field.value) latches_are
    (subst (λ (list : List ℕ). field_of made.cube ≡ characters_at (field_of row.cube) list ++ characters (length latches) cell.field.care cell.field.value) inputs_are input))
