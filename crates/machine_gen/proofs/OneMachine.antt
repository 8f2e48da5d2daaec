-- Words and sizes have one machine.
use Rattle.std.proofs.Common.{◌≡◌, ℕ, ◌*◌, ◌^◌, ◌<◌, Bool, Option, List, length, map, get_or, sym, subst, ap, ◌∙◌}
use Rattle.std.proofs.lemmas.List.{same_lists}
use Rattle.std.proofs.lemmas.Option.{get_or_from_slice_get}
use Rattle.cubes.specs.declared.cube.Cube.{Cube}
use Rattle.cubes.specs.Field.{byte_of}
use Rattle.kiss_file.specs.declared.file.KissFile.{KissFile}
use Rattle.kiss_file.specs.declared.file.KissRow.{KissRow}
use Rattle.kiss2.specs.Laws.SameRecord.{same_cube}
use Rattle.machine_gen.specs.WordMachine.{AreRows, AreSizes, HaveOneMachine, IsDrawnRow}
use Rattle.machine_gen.proofs.Standing.{row_at_number}

same_row : (b k i j x state : ℕ) (row other : KissRow) → IsDrawnRow b k i j x state row → IsDrawnRow b k i j x state other → row ≡ other
same_row b k i j x state row other is also =
    make_same row.cube other.cube row.from other.from row.to other.to row.care other.care row.value other.value cube
    (is.from ∙ sym also.from) (is.to ∙ sym also.to) (is.care ∙ sym also.care) (is.value ∙ sym also.value) where
      cube : row.cube ≡ other.cube
      cube = same_cube row.cube other.cube (ap (λ (field : List (Option Bool)). map byte_of field) (is.symbol ∙ sym also.symbol))

      make_same : (a b : Cube) (f g : ℕ) (t u : Option ℕ) (c d v w : ℕ) → a ≡ b → f ≡ g → t ≡ u → c ≡ d → v ≡ w
          → ◌≡◌ {A = KissRow} (record { cube = a; from = f; to = t; care = c; value = v }) (record { cube = b; from = g; to = u; care = d; value = w })
      make_same a b f g t u c d v w p q r s x = cc

module _ (word : ℕ → ℕ) (a b k : ℕ) (rows others : List KissRow) (sizes : AreSizes a b k) (are : AreRows word a b k rows) (also : AreRows word a b k others) where
  same_at : (n : ℕ) (d : KissRow) → n < length rows → get_or rows n d ≡ get_or others n d
  same_at n d within =
      let inside : n < a * b * 2 ^ k = subst (λ m. n < m) are.count within in
      let one = row_at_number word a b k rows sizes are n inside in
      let two = row_at_number word a b k others sizes also n inside in
      get_or_from_slice_get rows n one.0 d one.1 ∙ same_row b k _ _ _ _ one.0 two.0 one.2 two.2 ∙ sym (get_or_from_slice_get others n two.0 d two.1)

  same_rows : rows ≡ others
  same_rows = same_lists rows others (are.count ∙ sym also.count) same_at

pub one_machine : HaveOneMachine
one_machine word a b k F G sizes is also =
    make_same F.inputs G.inputs F.outputs G.outputs F.reset G.reset F.states G.states F.rows G.rows F.input_names G.input_names F.output_names G.output_names
    (is.inputs ∙ sym also.inputs) (is.outputs ∙ sym also.outputs) (is.reset ∙ sym also.reset) (is.states ∙ sym also.states)
    (same_rows word a b k F.rows G.rows sizes is.rows also.rows) (is.input_names ∙ sym also.input_names) (is.output_names ∙ sym also.output_names) where
      make_same : (a b c d e f : ℕ) (g h : List (List ℕ)) (i j : List KissRow) (k l m n : Option (List (List ℕ))) → a ≡ b → c ≡ d → e ≡ f → g ≡ h → i ≡ j → k ≡ l → m ≡ n
          → ◌≡◌ {A = KissFile} (record { inputs = a; outputs = c; reset = e; states = g; rows = i; input_names = k; output_names = m })
          (record { inputs = b; outputs = d; reset = f; states = h; rows = j; input_names = l; output_names = n })
      make_same a b c d e f g h i j k l m n p q r s t u v = cc
