-- With each fill with which the file has a machine the file of the blocks has one; and where the blocks are those of
-- alike states, no two of them are alike.
use Rattle.std.proofs.Common.{◌≡◌, ℕ, ◌<◌, ◌≤◌, ◌⊎◌, inl, inr, Bool, Option, None, Some, IfSome, List, [], Contains, length, get_or, slice_get, sym, ap, ◌∙◌, subst, arith}
use Rattle.std.specs.Prelude.{◌==◌}
use Rattle.std.specs.List.{filter_map}
use Rattle.std.proofs.lemmas.Bool.{eq-eqb, eqb-true}
use Rattle.std.proofs.lemmas.List.Elements.{All-contains, Contains-append_cases, Contains-get_or}
use Rattle.std.proofs.lemmas.Option.{slice_get-get_or}
use Rattle.list_facts.specs.Laws.Members.{Contains-filter, Contains-from_filter, Contains-from_filter_map, Contains-from_map, Contains-map}
use Rattle.cubes.specs.Cube.{Meets}
use Rattle.kiss_file.specs.declared.fill.Fill.{Fill}
use Rattle.kiss_file.specs.declared.file.KissFile.{KissFile}
use Rattle.kiss_file.specs.declared.file.KissRow.{KissRow}
use Rattle.kiss_file.specs.LawfulFile.{IsLawfulRow}
use Rattle.kiss_file.specs.Machine.{Accepted, Conflicting, GiveBoth, IsRowAt, NameTwo, Specified, answers}
use Rattle.kiss_file.specs.Names.{AreDistinct}
use Rattle.machine_table.specs.Table.{IsTable}
use Rattle.partition.specs.Laws.Least.{least_of-same}
use Rattle.partition.specs.NestedBlocks.{least_of}
use Rattle.state_reduce.specs.AlikeStates.{Alike, AreUnlike, IsEquivalence, IsWord}
use Rattle.state_reduce.specs.Inner.BlockNames.{AreAllNamed, currents_of, kept_of, nexts_of}
use Rattle.state_reduce.specs.Quotient.{AnswersAsMembers, IsQuotient, block_name, block_names, block_number, row_of_blocks}
use Rattle.state_reduce.proofs.Appearing.{place_at}
use Rattle.state_reduce.proofs.Lawfully.{all_names, mapped, some_mapped}
use Rattle.state_reduce.proofs.Names.{has_once}
use Rattle.state_reduce.proofs.Numbers.{least_again, least_below, number_one, number_same}

-- the state that an option names
named_state : (n t : ℕ) (o : Option ℕ) → o ≡ Some t → IfSome o (λ s. s < n) → t < n
named_state n t None says below = absurd (cc)
named_state n t (Some s) says below = let same : s ≡ t = cc in subst (λ u. u < n) same below

module _ (F : KissFile) (p : List ℕ) (Q : KissFile) (made : IsQuotient F p Q) (distinct : AreDistinct F.states) (size : length p ≡ length F.states) (table : IsTable F) (named : AreAllNamed F p) where
  lawful_row : (row : KissRow) → Contains F.rows row → IsLawfulRow F.inputs F.outputs (length F.states) row
  lawful_row row among = All-contains (IsLawfulRow F.inputs F.outputs (length F.states)) F.rows row table.rows among

  -- the row of the file behind a row of the blocks
  row_behind : (row : KissRow) → Contains Q.rows row → (old : KissRow) × Contains F.rows old × (least_of p old.from ≡ old.from) × (row_of_blocks F p old ≡ row)
  row_behind row among =
      let found = Contains-from_map (row_of_blocks F p) (kept_of p F.rows) row (subst (λ (rows : List KissRow). Contains rows row) made.rows among) in
      let kept = Contains-from_filter (λ (r : KissRow). least_of p r.from == r.from) F.rows found.0 found.1 in
      (found.0, kept.0, eqb-true (least_of p (found.0).from) (found.0).from kept.1, found.2)

  -- what two rows of blocks say, the rows behind them say
  conflict_behind : (old other : KissRow) → Contains F.rows old → Contains F.rows other → least_of p old.from ≡ old.from → least_of p other.from ≡ other.from
      → block_number F p old.from ≡ block_number F p other.from → Meets old.cube other.cube → NameTwo (row_of_blocks F p old) (row_of_blocks F p other) ⊎ GiveBoth old other → Conflicting F
  conflict_behind old other in_old in_other least_old least_other same meets (inl (t, u, says, also, differ)) =
      let one : old.from ≡ other.from = sym least_old ∙ number_one F p distinct named old.from other.from (lawful_row old in_old).from (lawful_row other in_other).from same ∙ least_other in
      let first = mapped (block_number F p) old.to t says in
      let second = mapped (block_number F p) other.to u also in
      (old, other, in_old, in_other, one, meets, inl (first.0, second.0, first.1, second.1, λ equal. differ (sym first.2 ∙ ap (block_number F p) equal ∙ second.2)))
  conflict_behind old other in_old in_other least_old least_other same meets (inr both) =
      let one : old.from ≡ other.from = sym least_old ∙ number_one F p distinct named old.from other.from (lawful_row old in_old).from (lawful_row other in_other).from same ∙ least_other in
      (old, other, in_old, in_other, one, meets, inr both)

  abbrev Contradict : KissRow → KissRow → Type 0
  Contradict row other = (row.from ≡ other.from) → Meets row.cube other.cube → NameTwo row other ⊎ GiveBoth row other → Conflicting F

  blocks_agree : (Conflicting F → ⊥) → Conflicting Q → ⊥
  blocks_agree no_conflict (row, other, in_row, in_other, same, meets, either) =
      let first = row_behind row in_row in
      let second = row_behind other in_other in
      let behind : Contradict (row_of_blocks F p first.0) (row_of_blocks F p second.0) =
      λ same meets either. conflict_behind first.0 second.0 first.1 second.1 first.2 second.2 same meets either in
      no_conflict (subst (λ (r : KissRow). Contradict r other) first.3 (subst (Contradict (row_of_blocks F p first.0)) second.3 behind) same meets either)

  -- the least state behind a number
  from_state : (c s : ℕ) → s < length F.states → slice_get (block_names F p) c ≡ Some (block_name F p s)
      → (a : ℕ) × (a < length F.states) × (least_of p a ≡ a) × (block_number F p a ≡ c)
  from_state c s inside here =
      let in_p : s < length p = omega (arith, inside, size) in
      let low : least_of p s ≤ s = least_below p s in_p in
      let again : least_of p (least_of p s) ≡ least_of p s = least_again p s in_p in
      (least_of p s, omega arith, again, number_same F p (least_of p s) s again ∙ place_at (all_names F p) (block_name F p s) c here)

  pub block_at : (c : ℕ) → c < length (block_names F p) → (a : ℕ) × (a < length F.states) × (least_of p a ≡ a) × (block_number F p a ≡ c)
  block_at c within =
      let name : List ℕ = get_or (block_names F p) c [] in
      let here : slice_get (block_names F p) c ≡ Some name = slice_get-get_or (block_names F p) c [] within in
      elim (Contains-append_cases (currents_of F p F.rows) (nexts_of F p F.rows) name (has_once (all_names F p) name (Contains-get_or (block_names F p) c [] within))) [
        | inl current ↦
            let found = Contains-from_map (λ (row : KissRow). block_name F p row.from) (kept_of p F.rows) name current in
            let kept = Contains-from_filter (λ (row : KissRow). least_of p row.from == row.from) F.rows found.0 found.1 in
            from_state c (found.0).from (lawful_row found.0 kept.0).from (here ∙ ap (λ (n : List ℕ). Some n) (sym found.2))
        | inr next_one ↦
            let found = Contains-from_map (block_name F p) (filter_map (λ (row : KissRow). row.to) (kept_of p F.rows)) name next_one in
            let given = Contains-from_filter_map (λ (row : KissRow). row.to) (kept_of p F.rows) found.0 found.1 in
            let kept = Contains-from_filter (λ (row : KissRow). least_of p row.from == row.from) F.rows given.0 given.1 in
            from_state c found.0 (named_state (length F.states) found.0 (given.0).to given.2 (lawful_row given.0 kept.0).to) (here ∙ ap (λ (n : List ℕ). Some n) (sym found.2))
      ]

  -- a row of a least state stands for its block
  row_ahead : (a c : ℕ) (x : List Bool) (row : KissRow) → least_of p a ≡ a → block_number F p a ≡ c → IsRowAt F a x row → IsRowAt Q c x (row_of_blocks F p row)
  row_ahead a c x row least number at = record {
    among = subst (λ (rows : List KissRow). Contains rows (row_of_blocks F p row)) (sym made.rows)
        (Contains-map (row_of_blocks F p) (kept_of p F.rows) row
        (Contains-filter (λ (r : KissRow). least_of p r.from == r.from) F.rows row at.among (eq-eqb (least_of p row.from) row.from (ap (least_of p) at.from ∙ least ∙ sym at.from))));
    from = ap (block_number F p) at.from ∙ number;
    held = at.held;
  }

  blocks_specified : Specified F → Specified Q
  blocks_specified all c x within symbol =
      let behind = block_at c (subst (λ (names : List (List ℕ)). c < length names) made.states within) in
      let said = all behind.0 x behind.1 (symbol ∙ made.inputs) in
      record {
        next = (row_of_blocks F p (said.next).0, row_ahead behind.0 c x (said.next).0 behind.2 behind.3 (said.next).1, some_mapped (block_number F p) ((said.next).0).to (said.next).2);
        outputs = λ b below. let given = said.outputs b (subst (λ (o : ℕ). b < o) made.outputs below) in
            (row_of_blocks F p given.0, row_ahead behind.0 c x given.0 behind.2 behind.3 given.1, given.2);
      }

  pub blocks_accepted : (fill : Fill) → Accepted F fill → Accepted Q fill
  blocks_accepted fill accepted = record {
    no_conflict = blocks_agree accepted.no_conflict;
    filled = elim accepted.filled [ inl all ↦ inl (blocks_specified all) | inr holds ↦ inr holds ];
  }

  -- blocks of alike states are not alike
  pub blocks_apart : AnswersAsMembers F p Q → IsEquivalence F p → AreUnlike Q
  blocks_apart as_members alike_blocks c d in_c in_d alike =
      let first = block_at c (subst (λ (names : List (List ℕ)). c < length names) made.states in_c) in
      let second = block_at d (subst (λ (names : List (List ℕ)). d < length names) made.states in_d) in
      let members : Alike F first.0 second.0 =
      λ word is. sym (as_members first.0 word first.1 is) ∙ ap (λ (s : ℕ). answers Q s word) first.3
      ∙ alike word (subst (λ (k : ℕ). IsWord k word) (sym made.inputs) is)
      ∙ ap (λ (s : ℕ). answers Q s word) (sym second.3) ∙ as_members second.0 word second.1 is in
      let held = (alike_blocks.together first.0 second.0 first.1 second.1).1 members in
      let one : first.0 ≡ second.0 = sym first.2 ∙ least_of-same p first.0 second.0 held.2 ∙ second.2 in
      sym first.3 ∙ ap (block_number F p) one ∙ second.3
