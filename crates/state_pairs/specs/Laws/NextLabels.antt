-- Next states by their labels.
use Rattle.std.proofs.Common.{◌≡◌, ℕ, ◌<◌, List, Option, Some, None, IsNone, IfSome, true, length, slice_index, inl, inr, sym, ◌∙◌, subst, refl, ap, is_some}
use Rattle.std.proofs.lemmas.Bool.{true≢false}
use Rattle.std.specs.Option.{option_map}
use Rattle.cubes.specs.Symbol.{symbol_of}
use Rattle.cubes.specs.Laws.Numbers.{length-symbol_of}
use Rattle.kiss_file.specs.declared.file.KissFile.{KissFile}
use Rattle.kiss_file.specs.declared.file.KissRow.{KissRow}
use Rattle.kiss_file.specs.Machine.{Conflicting, Specified, next}
use Rattle.kiss_file.specs.Laws.Machine.{next_not_said, next_said}
use Rattle.partition.specs.Partition.{Together}
use Rattle.state_pairs.specs.RowLabels.{HaveOneLabel, NoneIsOpen, IsLabelAt, IsOpenAt}
use Rattle.state_pairs.specs.Pairs.{GoInto}
use Rattle.state_pairs.specs.Table.{IsTable}
use Rattle.state_pairs.specs.Laws.Asking.{lawful_row, number_of_row}
use Rattle.state_pairs.specs.Laws.Labels.{AreLabels, label_or_open}

-- the value behind a label
mapped : (f : ℕ → ℕ) (o : Option ℕ) (v : ℕ) → option_map f o ≡ Some v → (u : ℕ) × (o ≡ Some u) × (f u ≡ v)
mapped f None v is = absurd (cc)
mapped f (Some u) v is = (u, refl, (cc))

not_mapped : (f : ℕ → ℕ) (o : Option ℕ) → IsNone (option_map f o) → IsNone o
not_mapped f None none = refl
not_mapped f (Some u) none = none

below_of_some : (o : Option ℕ) (n v : ℕ) → o ≡ Some v → IfSome o (λ state. state < n) → v < n
below_of_some None n v is below = absurd (cc)
below_of_some (Some u) n v is below = let same : u ≡ v = cc in subst (λ k. k < n) same below

-- the label of what a row names
abbrev pub named : (ℕ → ℕ) → KissRow → Option ℕ
named f row = option_map f row.to

module _ (F : KissFile) (table : IsTable F) (no_conflict : Conflicting F → ⊥) where
  -- a machine never leaves its states
  pub next_in_states : (s x : ℕ) → s < length F.states → next F s (symbol_of F.inputs x) < length F.states
  next_in_states s x within =
      elim (label_or_open F table (λ row. row.to) s x) [
        | inl (v, (row, at, says)) ↦
            subst (λ (n : ℕ). n < length F.states) (sym (next_said F s (symbol_of F.inputs x) no_conflict row v at says))
            (below_of_some row.to (length F.states) v says (lawful_row F table at.among.0 row (number_of_row F row at.among)).to)
        | inr silent ↦ subst (λ (n : ℕ). n < length F.states) (sym (next_not_said F s (symbol_of F.inputs x) silent)) within
      ]

abbrev pub label_of_next : (ℕ → ℕ) → KissFile → (s x : ℕ) → ℕ
label_of_next f F s x = f (next F s (symbol_of F.inputs x))

module _ (F : KissFile) (no_conflict : Conflicting F → ⊥) (f : ℕ → ℕ) where
  when_named : (s x v : ℕ) → IsLabelAt (named f) F s x v → label_of_next f F s x ≡ v
  when_named s x v (row, at, says) =
      let state = mapped f row.to v says in
      ap f (next_said F s (symbol_of F.inputs x) no_conflict row state.0 at state.1) ∙ state.2

  when_silent : (s x : ℕ) → IsOpenAt (named f) F s x → label_of_next f F s x ≡ f s
  when_silent s x silent = ap f (next_not_said F s (symbol_of F.inputs x) (λ row at. not_mapped f row.to (silent row at)))

-- labels of next states
pub next_labels : (F : KissFile) → (Conflicting F → ⊥) → (f : ℕ → ℕ) → AreLabels F (named f) f (label_of_next f F)
next_labels F no_conflict f = record { when_said = when_named F no_conflict f; when_open = when_silent F no_conflict f }

-- equal labels of a partition are states that are together
pub together_in : (F : KissFile) → IsTable F → (Conflicting F → ⊥) → (q : List ℕ) (s t : ℕ) → s < length F.states → t < length F.states → length q ≡ length F.states
    → (x : ℕ) → label_of_next (slice_index q) F s x ≡ label_of_next (slice_index q) F t x → GoInto (Together q) F s t x
together_in F table no_conflict q s t first second states x same = (
  subst (λ (n : ℕ). next F s (symbol_of F.inputs x) < n) (sym states) (next_in_states F table no_conflict s x first),
  subst (λ (n : ℕ). next F t (symbol_of F.inputs x) < n) (sym states) (next_in_states F table no_conflict t x second),
  same,
)

some_mapped : (f : ℕ → ℕ) (o : Option ℕ) → is_some o ≡ true → is_some (option_map f o) ≡ true
some_mapped f None some = some
some_mapped f (Some u) some = refl

-- rows of a state at one symbol name states of one label
pub one_named : (F : KissFile) → (Conflicting F → ⊥) → (f : ℕ → ℕ) → HaveOneLabel (named f) F
one_named F no_conflict f s x v w first second = sym (when_named F no_conflict f s x v first) ∙ when_named F no_conflict f s x w second

-- where nothing is open some row names a state
pub named_everywhere : (F : KissFile) (f : ℕ → ℕ) (s t : ℕ) → s < length F.states → t < length F.states → Specified F → NoneIsOpen (named f) F s t
named_everywhere F f s t first second specified x = (at s first, at t second) where
  at : (u : ℕ) → u < length F.states → IsOpenAt (named f) F u x → ⊥
  at u within silent =
      let there = (specified u (symbol_of F.inputs x) within (length-symbol_of F.inputs x)).next in
      true≢false (sym (some_mapped f there.0.to there.2) ∙ silent there.0 there.1)
