-- The machine of the blocks answers as the machine.
use Rattle.std.proofs.Common.{◌≡◌, ◌≢◌, ℕ, ◌<◌, ◌&&◌, inl, inr, Bool, true, false, cond, Option, Some, None, List, [], ◌∷◌, All, filter, length, get_or, map, option_map, refl, sym, ap, ◌∙◌, arith}
use Rattle.std.specs.Prelude.{◌==◌}
use Rattle.std.specs.List.{cons_option, filter_map, range_with_len}
use Rattle.std.proofs.lemmas.Bool.{cases_Bool, cases_eq, eq-eqb, eqb-true, false≢true, ne_eqb}
use Rattle.std.proofs.lemmas.List.Elements.{All-head, All-tail}
use Rattle.kiss_file.specs.declared.file.KissFile.{KissFile}
use Rattle.kiss_file.specs.declared.file.KissRow.{KissRow}
use Rattle.kiss_file.specs.LawfulFile.{IsLawfulRow}
use Rattle.kiss_file.specs.Machine.{answers, given_bit, next, out, output_bit, rows_at}
use Rattle.kiss_file.specs.Names.{AreDistinct}
use Rattle.machine_table.specs.Table.{IsTable}
use Rattle.pair_operators.specs.Consistency.{Consistent}
use Rattle.pair_operators.specs.Pair.{Closed}
use Rattle.partition.specs.NestedBlocks.{least_of}
use Rattle.partition.specs.Partition.{Together}
use Rattle.state_reduce.specs.AlikeStates.{IsWord}
use Rattle.state_reduce.specs.Inner.BlockNames.{AreAllNamed, kept_of}
use Rattle.state_reduce.specs.Quotient.{AnswersAsMembers, IsQuotient, block_number, row_of_blocks}
use Rattle.state_reduce.proofs.Numbers.{least_again, least_below, least_together, number_one, number_same, together_same}

-- what is given of changed items
given_same : {X V : Type 0} (change : X → X) (gives : X → Option V) → ((x : X) → gives (change x) ≡ gives x) → (xs : List X) → filter_map gives (map change xs) ≡ filter_map gives xs
given_same change gives same [] = refl
given_same change gives same (x ∷ xs) =
    ap (λ o. cons_option o (filter_map gives (map change xs))) (same x) ∙ ap (cons_option (gives x)) (given_same change gives same xs)

pub given_mapped : {X V : Type 0} (change : X → X) (gives : X → Option V) (f : V → V) → ((x : X) → gives (change x) ≡ option_map f (gives x)) → (xs : List X)
    → filter_map gives (map change xs) ≡ map f (filter_map gives xs)
given_mapped change gives f same [] = refl
given_mapped {V = V} change gives f same (x ∷ xs) =
    ap (λ o. cons_option o (filter_map gives (map change xs))) (same x) ∙ put (gives x) (given_mapped change gives f same xs)
  where
    put : (o : Option V) → filter_map gives (map change xs) ≡ map f (filter_map gives xs) → cons_option (option_map f o) (filter_map gives (map change xs)) ≡ map f (cons_option o (filter_map gives xs))
    put None rest = rest
    put (Some v) rest = ap (λ vs. f v ∷ vs) rest

first_mapped : (f : ℕ → ℕ) (xs : List ℕ) (d : ℕ) → get_or (map f xs) 0 (f d) ≡ f (get_or xs 0 d)
first_mapped f [] d = refl
first_mapped f (x ∷ xs) d = refl

map_agree : {X Y : Type 0} (f g : X → Y) → ((x : X) → f x ≡ g x) → (xs : List X) → map f xs ≡ map g xs
map_agree f g same [] = refl
map_agree f g same (x ∷ xs) = ap (λ y. y ∷ map f xs) (same x) ∙ ap (λ ys. g x ∷ ys) (map_agree f g same xs)

module _ (F : KissFile) (p : List ℕ) (distinct : AreDistinct F.states) (size : length p ≡ length F.states) (named : AreAllNamed F p) where
  -- a row is one of a least state where the row of its blocks is one of that block
  same_state : (row : KissRow) (a : ℕ) → row.from < length F.states → a < length F.states → least_of p row.from ≡ row.from → least_of p a ≡ a
      → (block_number F p row.from == block_number F p a) ≡ (row.from == a)
  same_state row a in_row in_a least_row least_a =
      elim (cases_eq row.from a) [
        | inl same ↦ eq-eqb _ _ (ap (block_number F p) same) ∙ sym (eq-eqb row.from a same)
        | inr other ↦
            ne_eqb _ _ (λ equal. other (sym least_row ∙ number_one F p distinct named row.from a in_row in_a equal ∙ least_a))
            ∙ sym (ne_eqb row.from a other)
      ]

  module _ (held : KissRow → Bool) (holds_same : (row : KissRow) → held (row_of_blocks F p row) ≡ held row) (a : ℕ) (in_a : a < length F.states) (least_a : least_of p a ≡ a) where
    abbrev of_state : KissRow → Bool
    of_state row = (row.from == a) && held row

    abbrev of_block : KissRow → Bool
    of_block row = (row.from == block_number F p a) && held row

    -- the rows of a block are those of its least state
    rows_match : (rows : List KissRow) → All (IsLawfulRow F.inputs F.outputs (length F.states)) rows
        → filter of_block (map (row_of_blocks F p) (kept_of p rows)) ≡ map (row_of_blocks F p) (filter of_state rows)
    rows_match [] lawful = refl
    rows_match (row ∷ rows) lawful =
        let rest : filter of_block (map (row_of_blocks F p) (kept_of p rows)) ≡ map (row_of_blocks F p) (filter of_state rows) =
        rows_match rows (All-tail (IsLawfulRow F.inputs F.outputs (length F.states)) row rows lawful) in
        let in_row : row.from < length F.states = (All-head (IsLawfulRow F.inputs F.outputs (length F.states)) row rows lawful).from in
        elim (cases_Bool (least_of p row.from == row.from)) [
          | inl kept ↦
              ap (λ b. filter of_block (map (row_of_blocks F p) (cond b (row ∷ kept_of p rows) (kept_of p rows)))) kept
              ∙ with_row row rows in_row (eqb-true (least_of p row.from) row.from kept) rest
          | inr gone ↦
              let other : row.from ≢ a = λ same. false≢true (sym gone ∙ eq-eqb (least_of p row.from) row.from (ap (least_of p) same ∙ least_a ∙ sym same)) in
              ap (λ b. filter of_block (map (row_of_blocks F p) (cond b (row ∷ kept_of p rows) (kept_of p rows)))) gone
              ∙ rest
              ∙ sym (ap (λ b. map (row_of_blocks F p) (cond (b && held row) (row ∷ filter of_state rows) (filter of_state rows))) (ne_eqb row.from a other))
        ]
      where
        with_row : (row : KissRow) (rows : List KissRow) → row.from < length F.states → least_of p row.from ≡ row.from
            → filter of_block (map (row_of_blocks F p) (kept_of p rows)) ≡ map (row_of_blocks F p) (filter of_state rows)
            → filter of_block (row_of_blocks F p row ∷ map (row_of_blocks F p) (kept_of p rows)) ≡ map (row_of_blocks F p) (filter of_state (row ∷ rows))
        with_row row rows in_row least_row rest =
            let test : of_block (row_of_blocks F p row) ≡ of_state row =
            ap (λ b. b && held (row_of_blocks F p row)) (same_state row a in_row in_a least_row least_a) ∙ ap (λ b. (row.from == a) && b) (holds_same row) in
            ap (λ b. cond b (row_of_blocks F p row ∷ filter of_block (map (row_of_blocks F p) (kept_of p rows))) (filter of_block (map (row_of_blocks F p) (kept_of p rows)))) test
            ∙ ap (λ rs. cond (of_state row) (row_of_blocks F p row ∷ rs) rs) rest
            ∙ put (of_state row)
          where
            put : (b : Bool) → cond b (row_of_blocks F p row ∷ map (row_of_blocks F p) (filter of_state rows)) (map (row_of_blocks F p) (filter of_state rows))
                ≡ map (row_of_blocks F p) (cond b (row ∷ filter of_state rows) (filter of_state rows))
            put true = refl
            put false = refl

  module _ (table : IsTable F) (Q : KissFile) (made : IsQuotient F p Q) where
    -- the rows of a block at a symbol
    rows_of_block : (a : ℕ) (x : List Bool) → a < length F.states → least_of p a ≡ a → rows_at Q (block_number F p a) x ≡ map (row_of_blocks F p) (rows_at F a x)
    rows_of_block a x in_a least_a = ap (filter _) made.rows ∙ rows_match _ (λ row. refl) a in_a least_a F.rows table.rows

    next_of_least : (a : ℕ) (x : List Bool) → a < length F.states → least_of p a ≡ a → next Q (block_number F p a) x ≡ block_number F p (next F a x)
    next_of_least a x in_a least_a =
        ap (λ rows. get_or (filter_map (λ (row : KissRow). row.to) rows) 0 (block_number F p a)) (rows_of_block a x in_a least_a)
        ∙ ap (λ states. get_or states 0 (block_number F p a)) (given_mapped (row_of_blocks F p) (λ (row : KissRow). row.to) (block_number F p) (λ row. refl) (rows_at F a x))
        ∙ first_mapped (block_number F p) (filter_map (λ (row : KissRow). row.to) (rows_at F a x)) a

    output_of_least : (a : ℕ) (x : List Bool) (b : ℕ) → a < length F.states → least_of p a ≡ a → output_bit Q (block_number F p a) x b ≡ output_bit F a x b
    output_of_least a x b in_a least_a =
        ap (λ rows. get_or (filter_map (given_bit b) rows) 0 false) (rows_of_block a x in_a least_a)
        ∙ ap (λ bits. get_or bits 0 false) (given_same (row_of_blocks F p) (given_bit b) (λ row. refl) (rows_at F a x))

    out_of_least : (a : ℕ) (x : List Bool) → a < length F.states → least_of p a ≡ a → out Q (block_number F p a) x ≡ out F a x
    out_of_least a x in_a least_a =
        ap (λ o. map (output_bit Q (block_number F p a) x) (range_with_len 0 o)) made.outputs
        ∙ map_agree (output_bit Q (block_number F p a) x) (output_bit F a x) (λ b. output_of_least a x b in_a least_a) (range_with_len 0 F.outputs)

    -- a block and its least state
    by_least : (s : ℕ) → s < length F.states → (least_of p s < length F.states) × (least_of p (least_of p s) ≡ least_of p s) × Together p (least_of p s) s × (block_number F p s ≡ block_number F p (least_of p s))
    by_least s inside =
        let in_p : s < length p = omega arith in
        let low = least_below p s in_p in
        (omega arith, least_again p s in_p, least_together p s in_p, number_same F p s (least_of p s) (sym (least_again p s in_p)))

    pub next_of_block : Closed F p → (s : ℕ) (x : List Bool) → s < length F.states → length x ≡ F.inputs → next Q (block_number F p s) x ≡ block_number F p (next F s x)
    next_of_block closed s x inside symbol =
        let least = by_least s inside in
        ap (λ c. next Q c x) least.3 ∙ next_of_least (least_of p s) x least.0 least.1 ∙ together_same F p _ _ (closed (least_of p s) s x least.2 symbol)

    pub out_of_block : Consistent F p → (s : ℕ) (x : List Bool) → s < length F.states → length x ≡ F.inputs → out Q (block_number F p s) x ≡ out F s x
    out_of_block consistent s x inside symbol =
        let least = by_least s inside in
        ap (λ c. out Q c x) least.3 ∙ out_of_least (least_of p s) x least.0 least.1 ∙ consistent (least_of p s) s x least.2 symbol

    -- each block answers every word as its members do
    pub answers_as_members : Closed F p → Consistent F p → AnswersAsMembers F p Q
    answers_as_members closed consistent s [] inside is = refl
    answers_as_members closed consistent s (x ∷ word) inside is =
        let symbol = All-head (λ y. length y ≡ F.inputs) x word is in
        let rest : IsWord F.inputs word = All-tail (λ y. length y ≡ F.inputs) x word is in
        let held = closed (least_of p s) s x (by_least s inside).2 symbol in
        let stays : next F s x < length F.states = omega (arith, held.1) in
        ap (λ o. o ∷ answers Q (next Q (block_number F p s) x) word) (out_of_block consistent s x inside symbol)
        ∙ ap (λ c. out F s x ∷ answers Q c word) (next_of_block closed s x inside symbol)
        ∙ ap (λ later. out F s x ∷ later) (answers_as_members closed consistent (next F s x) word stays rest)
