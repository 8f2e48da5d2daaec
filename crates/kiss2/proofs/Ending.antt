-- The lines before the ending word, and faults among them.
use Rattle.std.proofs.Common.{◌≡◌, ℕ, suc, ◌+◌, ◌<◌, ◌≤◌, ◌^◌, true, false, not, List, [], ◌∷◌, ◌++◌, length, get_or, take, drop, drop-cons, length-drop, add-one, Some, ap, sym, ◌∙◌, refl, subst, inl, inr, arith}
use Rattle.std.specs.Prelude.{slice_get}
use Rattle.std.specs.List.{prefix_len}
use Rattle.std.proofs.lemmas.Bool.{cases_lt, false≢true, not_from_false, not_from_true}
use Rattle.std.proofs.lemmas.List.{get_or_read, get_or-take, length-take-le, take_more, take-take, take_all}
use Rattle.std.proofs.lemmas.List.Sums.{prefix_len-le-length, prefix_len_is, prefix_len_stops}
use Rattle.std.proofs.lemmas.Option.{slice_get-get_or}
use Rattle.std.proofs.lemmas.List.Elements.{All-weaker}
use Rattle.hs_io.specs.declared.lines.Line.{Line}
use Rattle.hs_io.specs.Lines.{lines_of}
use Rattle.kiss2.specs.declared.fault.KissFault.{KissFault}
use Rattle.kiss2.specs.declared.fault.KissFail.TheVariants.{Refused}
use Rattle.kiss2.specs.declared.line_operands.LineFail.{LineFail}
use Rattle.kiss2.specs.declared.line_operands.LineFail.TheVariants.{Fault, NoMemory}
use Rattle.kiss2.specs.declared.standing.Said.{Said}
use Rattle.kiss2.specs.Faults.{fault_in}
use Rattle.kiss2.specs.Kiss.{HaveNoFault, IsLineFault, before_end, lines_read}
use Rattle.kiss2.specs.Inner.ReaderState.{FailsWith, HasShortFields, Keeps, fail_at}
use Rattle.kiss2.specs.Inner.ReaderPlace.{GoesOn, HasCome}
use Rattle.kiss2.specs.Words.{is_ending}
use Rattle.kiss2.specs.Laws.FieldBytes.{HasGoodFields, fields_good}

pub goes_more : (lines : List Line) (i : ℕ) (line : Line) → i < length lines → line ≡ get_or lines i line → is_ending line ≡ false → GoesOn lines i → GoesOn lines (i + 1)
goes_more lines i line inside here passes before k d lt =
    elim (cases_lt k i) [
      | inl less ↦ before k d less
      | inr more ↦ let same : k ≡ i = omega arith in
          subst (λ n. is_ending (get_or lines n d) ≡ false) (sym same) (subst (λ l. is_ending l ≡ false) (get_or_read lines i line inside here d) passes)
    ]

module _ (lines : List Line) (i : ℕ) (line : Line) (inside : i < length lines) (here : line ≡ get_or lines i line) (before : GoesOn lines i) where
  -- the text ends at a line
  pub end_at : is_ending line ≡ true → before_end lines ≡ take i lines
  end_at ends =
      let count : prefix_len (λ l. not (is_ending l)) lines ≡ i =
      prefix_len_is (λ l. not (is_ending l)) lines i line (omega arith) (λ k lt. not_from_false _ (before k line lt)) (λ _. not_from_true _ (subst (λ l. is_ending l ≡ true) here ends)) in
      ap (λ n. take n lines) count

  -- it does not
  longer : is_ending line ≡ false → i < prefix_len (λ l. not (is_ending l)) lines
  longer passes =
      let n = prefix_len (λ l. not (is_ending l)) lines in
      elim (cases_lt i n) [
        | inl less ↦ less
        | inr more ↦
            let stops = prefix_len_stops (λ l. not (is_ending l)) lines line (omega arith) in
            absurd (false≢true (sym stops ∙ not_from_false _ (goes_more lines i line inside here passes before n line (omega arith))))
      ]

  pub front_taken : is_ending line ≡ false → take i (before_end lines) ≡ take i lines
  front_taken passes = let h = longer passes in take-take i (prefix_len (λ l. not (is_ending l)) lines) lines (omega arith)

  pub line_there : is_ending line ≡ false → slice_get (before_end lines) i ≡ Some line
  line_there passes =
      let n = prefix_len (λ l. not (is_ending l)) lines in
      let h = longer passes in
      let whole = prefix_len-le-length (λ l. not (is_ending l)) lines in
      let count : length (take n lines) ≡ n = length-take-le n lines whole in
      slice_get-get_or (take n lines) i line (omega arith) ∙ ap Some (get_or-take n lines i line h ∙ sym here)

-- it ends at no line
pub no_end : (lines : List Line) → GoesOn lines (length lines) → before_end lines ≡ lines
no_end lines before = all lines before where
  all : (ls : List Line) → GoesOn ls (length ls) → before_end ls ≡ ls
  all [] h = refl
  all (l ∷ ls) h =
      let count : prefix_len (λ m. not (is_ending m)) (l ∷ ls) ≡ length (l ∷ ls) =
      prefix_len_is (λ m. not (is_ending m)) (l ∷ ls) (length (l ∷ ls)) l (omega arith) (λ k lt. not_from_false _ (h k l lt)) (λ lt. absurd (omega arith)) in
      ap (λ n. take n (l ∷ ls)) count ∙ take_all (length (l ∷ ls)) (l ∷ ls) (omega arith)

-- the first of the lines that are left
pub left_first : (lines : List Line) (count : ℕ) (line : Line) (more : List Line) → drop count lines ≡ line ∷ more → (count < length lines) × (line ≡ get_or lines count line) × (drop (count + 1) lines ≡ more)
left_first lines count line more is =
    let inside : count < length lines = omega (arith, length-drop count lines, ap length is) in
    let step : drop count lines ≡ get_or lines count line ∷ drop (suc count) lines = drop-cons lines count line inside in
    let next : drop (count + 1) lines ≡ drop (suc count) lines = ap (λ (n : ℕ). drop n lines) (add-one count) in
    let both : line ∷ more ≡ get_or lines count line ∷ drop (suc count) lines = sym is ∙ step in
    let first : line ≡ get_or lines count line = cc in
    let rest : drop (suc count) lines ≡ more = cc in (inside, first, next ∙ rest)

-- no line is left
pub left_none : (lines : List Line) (count : ℕ) → drop count lines ≡ [] → GoesOn lines count → (take count lines ≡ lines) × (before_end lines ≡ lines)
left_none lines count is going =
    let all : length lines ≤ count = omega (arith, length-drop count lines, ap length is) in
    (take_all count lines all, no_end lines (λ k d lt. going k d (omega arith)))

same_fault : (f g : KissFault) → Refused f ≡ Refused g → f ≡ g
same_fault f g e = cc

-- the failure at a line is its fault
pub line_fault :
    (lines : List Line) (i : ℕ) (line : Line) (fail : LineFail) (fault : KissFault) → i < length lines → line ≡ get_or lines i line → GoesOn lines i → is_ending line ≡ false
    → HaveNoFault (take i lines) → FailsWith (fault_in (take i lines) line) fail → fail_at line.number fail ≡ Refused fault → IsLineFault (before_end lines) fault.line fault.kind
line_fault lines i line (Fault kind) fault inside here before passes faultless fails same =
    let is : record { line = line.number; kind = kind } ≡ fault = same_fault _ fault same in
    let front = front_taken lines i line inside here before passes in (
      i,
      line,
      record {
        stands = line_there lines i line inside here before passes;
        fault = ap (λ ls. fault_in ls line) front ∙ (fails ∙ ap (λ f. Some f.kind) is);
        none_before = subst HaveNoFault (sym front) faultless;
      },
      sym (ap (λ f. f.line) is),
    )
line_fault lines i line NoMemory fault inside here before passes faultless fails same = absurd (cc)

-- the reader has taken no line yet
pub not_begun : (lines : List Line) (said : Said) (kept left : List Line) → Keeps said kept [] → left ≡ lines → HasCome lines said kept left 0
not_begun lines said kept left keeps is = record { left_is = sym is; going = λ k d lt. absurd (omega arith); keeps = keeps }

pub all_read : (bytes : List ℕ) (said : Said) (kept : List Line) (count : ℕ) → HasCome (lines_of bytes) said kept [] count → Keeps said kept (lines_read bytes)
unfolding lines_read
all_read bytes said kept count come =
    let none = left_none (lines_of bytes) count come.left_is come.going in
    subst (Keeps said kept) (none.0 ∙ sym none.1) come.keeps

module _ (bytes : List ℕ) (said : Said) (kept : List Line) (line : Line) (more : List Line) (count : ℕ) (come : HasCome (lines_of bytes) said kept (line ∷ more) count) where
  first : (count < length (lines_of bytes)) × (line ≡ get_or (lines_of bytes) count line) × (drop (count + 1) (lines_of bytes) ≡ more)
  first = left_first (lines_of bytes) count line more come.left_is

  pub ended_here : is_ending line ≡ true → Keeps said kept (lines_read bytes)
  unfolding lines_read
  ended_here ends = subst (Keeps said kept) (sym (end_at (lines_of bytes) count line first.0 first.1 come.going ends)) come.keeps

  pub fault_here : (fail : LineFail) (fault : KissFault) → is_ending line ≡ false → FailsWith (fault_in (take count (lines_of bytes)) line) fail → fail_at line.number fail ≡ Refused fault
      → IsLineFault (lines_read bytes) fault.line fault.kind
  unfolding lines_read
  fault_here fail fault passes fails same = line_fault (lines_of bytes) count line fail fault first.0 first.1 come.going passes come.keeps.faultless fails same

  pub goes_on : (after : Said) (rows : List Line) → is_ending line ≡ false → Keeps after rows (take count (lines_of bytes) ++ line ∷ []) → HasCome (lines_of bytes) after rows more (count + 1)
  goes_on after rows passes keeps =
      let taken : take (count + 1) (lines_of bytes) ≡ take count (lines_of bytes) ++ line ∷ [] =
      take_more (lines_of bytes) count line first.0 ∙ ap (λ l. take count (lines_of bytes) ++ l ∷ []) (sym first.1) in
      record { left_is = first.2; going = goes_more (lines_of bytes) count line first.0 first.1 passes come.going; keeps = subst (Keeps after rows) (sym taken) keeps }

  pub short_here : length bytes < 2 ^ 32 → HasShortFields line
  short_here few =
      let good : HasGoodFields (length bytes) line = subst (HasGoodFields (length bytes)) (sym first.1) (fields_good bytes count line first.0) in
      All-weaker (λ field. length field ≤ length bytes) (λ field. length field < 2 ^ 32) (λ field short. omega arith) line.fields good.short
