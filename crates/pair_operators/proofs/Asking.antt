-- Numbers of states after the labels of one more column.
use Rattle.std.proofs.Common.{ℕ, ◌≡◌, ◌<◌, All, List, length, get_or, ap, sym, ◌∙◌, subst}
use Rattle.cubes.specs.Symbol.{symbol_of}
use Rattle.kiss_file.specs.declared.file.KissFile.{KissFile}
use Rattle.pair_operators.specs.NextColumns.{IsNextColumn}
use Rattle.pair_operators.specs.declared.next_columns.Keys.{Keys}
use Rattle.pair_operators.specs.declared.next_columns.NextColumn.{NextColumn}
use Rattle.pair_operators.specs.NextBlocks.{Goes}
use Rattle.pair_operators.specs.Inner.Keys.{AreKeys, AreMixed, mixed}

-- states that go together have one label at the symbol of a column
one_label : (F : KissFile) (q : List ℕ) (column : NextColumn) → IsNextColumn F column → (s t : ℕ) → s < length F.states → t < length F.states → Goes F q s t
    → get_or q (get_or column.states.items s 0) 0 ≡ get_or q (get_or column.states.items t 0) 0
one_label F q column right s t inside also goes =
    let x = symbol_of F.inputs right.symbol in
    ap (λ (u : ℕ). get_or q u 0) (right.next_state s inside) ∙ (goes right.symbol right.within).2 ∙ sym (ap (λ (u : ℕ). get_or q u 0) (right.next_state t also))

pub keys_after : (F : KissFile) (q : List ℕ) (column : NextColumn) (keys more : Keys) → IsNextColumn F column → AreKeys F q keys
    → AreMixed keys.numbers.items q column.states.items more.numbers.items → AreKeys F q more
keys_after F q column keys more right known mix = record {
  size = mix.size ∙ known.size;
  one = λ s t inside also goes.
      mix.each s (subst (λ (n : ℕ). s < n) (sym known.size) inside)
      ∙ ap (λ (key : ℕ). mixed key (get_or q (get_or column.states.items s 0) 0)) (known.one s t inside also goes)
      ∙ ap (λ (label : ℕ). mixed (get_or keys.numbers.items t 0) label) (one_label F q column right s t inside also goes)
      ∙ sym (mix.each t (subst (λ (n : ℕ). t < n) (sym known.size) also));
}

-- the states of a column are those of a partition
pub inside_labels : (F : KissFile) (q : List ℕ) (column : NextColumn) → length q ≡ length F.states → IsNextColumn F column → All (λ t. t < length q) column.states.items
inside_labels F q column size right = subst (λ (n : ℕ). All (λ t. t < n) column.states.items) (sym size) right.inside
