-- The file of a machine of words has a machine: no two rows contradict each other, and nothing is left open.
use Rattle.std.proofs.Common.{◌≡◌, ℕ, ◌+◌, ◌*◌, ◌/◌, ◌%◌, ◌^◌, ◌<◌, Bool, true, false, cond, Some, None, List, Contains, IsSome, is_some, length, slice_get, inl, inr, sym, subst, ap, ◌∙◌}
use Rattle.std.proofs.lemmas.Nat.{div-add-mod'}
use Rattle.std.proofs.lemmas.Option.{same_Some}
use Rattle.cubes.specs.Cube.{Holds}
use Rattle.cubes.specs.Symbol.{bit, symbol_of}
use Rattle.kiss_file.specs.declared.fill.Fill.TheVariants.{Refuse}
use Rattle.kiss_file.specs.declared.file.KissFile.{KissFile}
use Rattle.kiss_file.specs.declared.file.KissRow.{KissRow}
use Rattle.kiss_file.specs.Machine.{Accepted, Conflicting, GiveBoth, IsRowAt, NameTwo, Specified, given_bit}
use Rattle.kiss_file.specs.Laws.NumberedNames.{length-numbered_names}
use Rattle.machine_gen.specs.WordMachine.{AreSizes, IsMachineOf}
use Rattle.machine_gen.proofs.Standing.{both_given, held_symbol, row_at_symbol, row_known, symbol_number}

-- a row does not contradict itself
names_one : (row : KissRow) → NameTwo row row → ⊥
names_one row (t, u, one, two, apart) = apart (same_Some t u (sym one ∙ two))

gives_one : (row : KissRow) → GiveBoth row row → ⊥
gives_one row (b, one, two) = let same : false ≡ true = same_Some false true (sym one ∙ two) in absurd (cc)

module _ (word : ℕ → ℕ) (a b k : ℕ) (F : KissFile) (sizes : AreSizes a b k) (is : IsMachineOf word a b k F) where
  pub state_count : length F.states ≡ a * b
  state_count = ap length is.states ∙ length-numbered_names (a * b)

  -- rows of one state that share a symbol are one row
  one_row : (row other : KissRow) (symbol : List Bool) → Contains F.rows row → Contains F.rows other → row.from ≡ other.from
      → Holds row.cube symbol → Holds other.cube symbol → row ≡ other
  one_row row other symbol among also from held too =
      let one = row_known word a b k F.rows sizes is.rows row among in
      let two = row_known word a b k F.rows sizes is.rows other also in
      let n = one.0 in
      let m = two.0 in
      let states : n / 2 ^ k ≡ m / 2 ^ k = sym (div-add-mod' (n / 2 ^ k) b) ∙ sym one.3.from ∙ from ∙ two.3.from ∙ div-add-mod' (m / 2 ^ k) b in
      let symbols : symbol_of k (n % 2 ^ k) ≡ symbol_of k (m % 2 ^ k) =
      sym (held_symbol b k _ _ (n % 2 ^ k) _ row one.3 symbol held) ∙ held_symbol b k _ _ (m % 2 ^ k) _ other two.3 symbol too in
      let numbers : n % 2 ^ k ≡ m % 2 ^ k = symbol_number k n m symbols in
      let same : n ≡ m = sym (div-add-mod' n (2 ^ k)) ∙ ap (λ s. s * 2 ^ k + n % 2 ^ k) states ∙ ap (λ x. m / 2 ^ k * 2 ^ k + x) numbers ∙ div-add-mod' m (2 ^ k) in
      same_Some row other (sym one.2 ∙ ap (slice_get F.rows) same ∙ two.2)

  pub no_conflict : Conflicting F → ⊥
  no_conflict (row, other, among, also, from, (symbol, held, too), what) =
      let same : row ≡ other = one_row row other symbol among also from held too in
      elim what [
        | inl names ↦ names_one other (subst (λ (r : KissRow). NameTwo r other) same names)
        | inr gives ↦ gives_one other (subst (λ (r : KissRow). GiveBoth r other) same gives)
      ]

  specified : Specified F
  specified s symbol within long =
      let there = row_at_symbol word a b k F.rows sizes is.rows s symbol (subst (λ n. s < n) state_count within) (long ∙ is.inputs) in
      let at : IsRowAt F s symbol there.0 = record { among = there.1; from = there.2; held = there.3 } in
      record {
        next = (there.0, at, ap is_some there.4.to);
        outputs = λ output low. (there.0, at, gives output (there.0) there.4.care (subst (λ n. output < n) is.outputs low));
      } where
        gives : (output : ℕ) (row : KissRow) → row.care ≡ 3 → output < 2 → IsSome (given_bit output row)
        gives output row care low = ap (λ given. is_some (cond given (Some (bit row.value output)) None)) (ap (λ n. bit n output) care ∙ both_given output low)

  pub accepted : Accepted F Refuse
  accepted = record { no_conflict = no_conflict; filled = inl specified }
