-- The demands of the classes of contents, as they are added.
use Rattle.std.proofs.Common.{◌≡◌, ◌⊎◌, ℕ, ◌+◌, ◌^◌, ◌<◌, ◌≤◌, inl, inr, All, Bool, true, false, if◌then◌else◌, Contains, Some, None, List, [], ◌∷◌, ◌++◌, length, get_or, slice_index, refl, ap, sym, ◌∙◌, subst, arith, append_assoc}
use Rattle.std.specs.List.{cons_option, filter_map}
use Rattle.std.specs.Option.{option_map}
use Rattle.std.proofs.lemmas.Bool.{cases_eq}
use Rattle.std.proofs.lemmas.List.Elements.{All-append, All-contains, Contains-append_left, Contains-append_right, Contains-get_or, filter_map-append}
use Rattle.list_facts.specs.Laws.Members.{Contains-filter_map, Contains-from_filter_map}
use Rattle.cubes.specs.Symbol.{bit, symbol_of}
use Rattle.dependence.specs.declared.bit.Bit.TheVariants.{Output}
use Rattle.dependence.specs.Laws.Said.{mapped, says_value}
use Rattle.gate_rows.specs.declared.demands.Demand.{Demand}
use Rattle.gate_rows.specs.Demands.{demand_at}
use Rattle.kiss_file.specs.declared.file.KissFile.{KissFile}
use Rattle.kiss_file.specs.declared.file.KissRow.{KissRow}
use Rattle.kiss_file.specs.Machine.{given_bit, output_bit}
use Rattle.machine_table.specs.declared.open_part.Missing.{Missing}
use Rattle.machine_table.specs.declared.open_part.Missing.TheVariants.{Output as OutputPart}
use Rattle.machine_table.specs.Pieces.{IsRightRow, IsSaidBy}
use Rattle.machine_table.specs.OpenEntries.{place_of}
use Rattle.shift_real.specs.Inner.ContentDemands.{AreClassDemands, IsClassDemand, IsHeldAfter, IsOfClassAsFar, IsOfClassBelow, IsWithinMask, asked_by}

-- ---- rows that are asked one by one
pub asked_one : (b number : ℕ) (row : KissRow) → bit row.care b ≡ true → cons_option (asked_by b number row) [] ≡ demand_at row.cube number (bit row.value b) ∷ []
asked_one b number row is = ap (λ (care : Bool). cons_option (option_map (demand_at row.cube number) (if care then Some (bit row.value b) else None)) []) is

pub asked_none : (b number : ℕ) (row : KissRow) → bit row.care b ≡ false → cons_option (asked_by b number row) [] ≡ []
asked_none b number row is = ap (λ (care : Bool). cons_option (option_map (demand_at row.cube number) (if care then Some (bit row.value b) else None)) []) is

pub asked_more : (b number : ℕ) (rows more : List KissRow) (row : KissRow) (start old new added : List Demand) → more ≡ rows ++ row ∷ [] → old ≡ start ++ filter_map (asked_by b number) rows → new ≡ old ++ added
    → cons_option (asked_by b number row) [] ≡ added → new ≡ start ++ filter_map (asked_by b number) more
asked_more b number rows more row start old new added is_more before pushed one =
    pushed
    ∙ (ap (λ (list : List Demand). list ++ added) before
    ∙ (append_assoc start (filter_map (asked_by b number) rows) added
    ∙ (ap (λ (list : List Demand). start ++ (filter_map (asked_by b number) rows ++ list)) (sym one)
    ∙ (ap (λ (list : List Demand). start ++ list) (sym (filter_map-append (asked_by b number) rows (row ∷ [])))
    ∙ ap (λ (list : List KissRow). start ++ filter_map (asked_by b number) list) (sym is_more)))))

-- ---- demands of contents
-- demands of fewer contents
fewer : (F : KissFile) (b : ℕ) (classes : List ℕ) (Known Fewer : ℕ → Type 0) (demands : List Demand) → ((n : ℕ) → n < length classes → Fewer n → Known n) → AreClassDemands F b classes Known demands → AreClassDemands F b classes Fewer demands
fewer F b classes Known Fewer demands are known = record { right = known.right; each = λ number x lt is low. known.each number x lt (are number lt is) low }

-- the class as far as a number, and those below it
abbrev so_far : List ℕ → ℕ → ℕ → ℕ → ℕ → Type 0
so_far classes mask class number n = IsOfClassBelow classes mask class n ⊎ IsOfClassAsFar classes mask class number n

module _ (F : KissFile) (b : ℕ) (of_output : b < F.outputs) (classes : List ℕ) (mask class number : ℕ) (lt : number < length classes) where
  -- what a row asks for is what the first state of the class gives
  asked : (row : KissRow) (at : Demand) → slice_index classes number ≡ class → IsRightRow F class row → asked_by b number row ≡ Some at → IsClassDemand F b classes at
  asked row at is right asks =
      let found = mapped (demand_at row.cube number) (given_bit b row) at asks in
      subst (IsClassDemand F b classes) found.2 (record {
        number = lt;
        width = right.lawful.width;
        gives = λ x low held. subst (λ (s : ℕ). output_bit F s (symbol_of F.inputs x) b ≡ found.0) (sym is) (right.output x b found.0 low held found.1);
      })

  all_asked : (own : List KissRow) → slice_index classes number ≡ class → All (IsRightRow F class) own → All (IsClassDemand F b classes) (filter_map (asked_by b number) own)
  all_asked own is right k d inside =
      let asks = Contains-from_filter_map (asked_by b number) own (get_or (filter_map (asked_by b number) own) k d) (Contains-get_or (filter_map (asked_by b number) own) k d inside) in
      asked asks.0 (get_or (filter_map (asked_by b number) own) k d) is (All-contains (IsRightRow F class) own asks.0 right asks.1) asks.2

  held_here : (own : List KissRow) (x : ℕ) → IsSaidBy own x (OutputPart b) → IsHeldAfter (filter_map (asked_by b number) own) number x
  held_here own x said =
      let value = says_value [] (Output b) said.0 said.3 in
      let at : Demand = demand_at said.0.cube number value.0 in
      (at, Contains-filter_map (asked_by b number) own said.0 at said.1 (ap (option_map (demand_at said.0.cube number)) value.1), refl, said.2)

  -- the demands of one content more
  pub class_more : (lent own : List KissRow) (old new : List Demand) → slice_index classes number ≡ class → lent ≡ own → ((x : ℕ) (part : Missing) → x < 2 ^ F.inputs → place_of part < F.outputs + 1 → IsSaidBy own x part) → All (IsRightRow F class) own
      → new ≡ old ++ filter_map (asked_by b number) lent → AreClassDemands F b classes (so_far classes mask class number) old → AreClassDemands F b classes (so_far classes mask class (number + 1)) new
  class_more lent own old new is is_lent said rows pushed before =
      subst (AreClassDemands F b classes (so_far classes mask class (number + 1)))
      (sym (pushed ∙ ap (λ (list : List KissRow). old ++ filter_map (asked_by b number) list) is_lent)) (record {
        right = All-append (IsClassDemand F b classes) old (filter_map (asked_by b number) own) before.right (all_asked own is rows);
        each = λ n x within some low. elim (cases_eq n number) [
          | inl same ↦
              let found = held_here own x (said x (OutputPart b) low (omega (arith, of_output))) in
              (found.0, Contains-append_right old (filter_map (asked_by b number) own) found.0 found.1, found.2 ∙ sym same, found.3)
          | inr other ↦ later n x (before.each n x within (earlier n other some) low)
        ];
      }) where
        earlier : (n : ℕ) → (n ≡ number → ⊥) → so_far classes mask class (number + 1) n → so_far classes mask class number n
        earlier n other some = elim some [ inl below ↦ inl below | inr far ↦ inr (record { masked = far.masked; of_class = far.of_class; before = omega (arith, far.before, other) }) ]

        later : (n x : ℕ) → IsHeldAfter old n x → IsHeldAfter (old ++ filter_map (asked_by b number) own) n x
        later n x h = (h.0, Contains-append_left old (filter_map (asked_by b number) own) h.0 h.1, h.2, h.3)

  -- a content of another class, or outside the mask
  pub class_skip : (old new : List Demand) → (IsWithinMask mask number → slice_index classes number ≡ class → ⊥) → new ≡ old
      → AreClassDemands F b classes (so_far classes mask class number) old → AreClassDemands F b classes (so_far classes mask class (number + 1)) new
  class_skip old new none same before =
      subst (AreClassDemands F b classes (so_far classes mask class (number + 1))) (sym same)
      (fewer F b classes (so_far classes mask class number) (so_far classes mask class (number + 1)) old
      (λ n within some. elim some [
        | inl below ↦ inl below
        | inr far ↦ elim (cases_eq n number) [
          | inl at ↦ absurd (none (subst (IsWithinMask mask) at far.masked) (subst (λ (i : ℕ). slice_index classes i ≡ class) at far.of_class))
          | inr other ↦ inr (record { masked = far.masked; of_class = far.of_class; before = omega (arith, far.before, other) })
        ]
      ]) before)

-- the class is done
pub class_done : (F : KissFile) (b : ℕ) (classes : List ℕ) (mask class number : ℕ) (demands : List Demand) → length classes ≤ number → AreClassDemands F b classes (so_far classes mask class number) demands
    → AreClassDemands F b classes (IsOfClassBelow classes mask (class + 1)) demands
class_done F b classes mask class number demands all known =
    fewer F b classes (so_far classes mask class number) (IsOfClassBelow classes mask (class + 1)) demands
    (λ n within some. elim (cases_eq (slice_index classes n) class) [
      | inl same ↦ inr (record { masked = some.masked; of_class = same; before = omega (arith, within, all) })
      | inr other ↦ inl (record { masked = some.masked; of_class = omega (arith, some.of_class, other) })
    ]) known

-- there is no content of the class
pub class_none : (F : KissFile) (b : ℕ) (classes : List ℕ) (mask class : ℕ) (old new : List Demand) → (Contains classes class → ⊥) → new ≡ old → AreClassDemands F b classes (IsOfClassBelow classes mask class) old
    → AreClassDemands F b classes (IsOfClassBelow classes mask (class + 1)) new
class_none F b classes mask class old new none same known =
    subst (AreClassDemands F b classes (IsOfClassBelow classes mask (class + 1))) (sym same)
    (fewer F b classes (IsOfClassBelow classes mask class) (IsOfClassBelow classes mask (class + 1)) old
    (λ n within some. elim (cases_eq (slice_index classes n) class) [
      | inl at ↦ absurd (none (subst (Contains classes) at (Contains-get_or classes n 0 within)))
      | inr other ↦ record { masked = some.masked; of_class = omega (arith, some.of_class, other) }
    ]) known)

-- all classes are done
pub classes_done : (F : KissFile) (b : ℕ) (classes : List ℕ) (mask class : ℕ) (demands : List Demand) → All (λ c. c < length F.states) classes → length F.states ≤ class → AreClassDemands F b classes (IsOfClassBelow classes mask class) demands
    → AreClassDemands F b classes (IsWithinMask mask) demands
classes_done F b classes mask class demands few all known =
    fewer F b classes (IsOfClassBelow classes mask class) (IsWithinMask mask) demands
    (λ n within some. record { masked = some; of_class = omega (arith, few n 0 within, all) }) known

pub no_classes : (F : KissFile) (b : ℕ) (classes : List ℕ) (mask : ℕ) (demands : List Demand) → demands ≡ [] → AreClassDemands F b classes (IsOfClassBelow classes mask 0) demands
no_classes F b classes mask demands none =
    subst (AreClassDemands F b classes (IsOfClassBelow classes mask 0)) (sym none)
    (record { right = λ k d lt. absurd (omega arith); each = λ n x lt some low. absurd (let bad = some.of_class in omega arith) })
