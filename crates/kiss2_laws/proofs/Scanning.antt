-- The first fault of lines that are written out.
use Rattle.std.proofs.Common.{◌≡◌, ℕ, List, [], ◌∷◌, ◌++◌, length, Option, Some, None, ap, sym, ◌∙◌, refl, subst, inl, inr, append_assoc, append-nil, map}
use Rattle.hs_io.specs.declared.lines.Line.{Line}
use Rattle.kiss2.specs.declared.fault.KissFault.{KissFault}
use Rattle.kiss2.specs.declared.fault.KissKind.{KissKind}
use Rattle.kiss2.specs.Faults.{fault_in}
use Rattle.kiss_file.specs.declared.file.KissRow.{KissRow}
use Rattle.kiss2.specs.Kiss.{HaveNoFault, IsFaultOf, IsRowOf, closing_fault}
use Rattle.kiss2.specs.Laws.Faultless.{faultless_push}
use Rattle.std.specs.Prelude.{slice_get, take}
use Rattle.std.specs.List.{AllZip}
use Rattle.std.proofs.lemmas.List.{take_at}
use Rattle.std.proofs.lemmas.Option.{none-some, same_Some}

-- the fault of a line, or what the lines after it give
abbrev pub scan_line : Option KissKind → ℕ → Option KissFault → Option KissFault
scan_line None number later = later
scan_line (Some kind) number later = Some (record { line = number; kind = kind })

-- the first fault of lines behind others
abbrev pub scan : List Line → List Line → Option KissFault
scan front [] = closing_fault front
scan front (line ∷ lines) = scan_line (fault_in front line) line.number (scan (front ++ line ∷ []) lines)

get_middle : (xs : List Line) (y : Line) (ys : List Line) → slice_get (xs ++ y ∷ ys) (length xs) ≡ Some y
get_middle [] y ys = refl
get_middle (x ∷ xs) y ys = get_middle xs y ys

-- it is their first fault
pub scanned : (front lines : List Line) (fault : KissFault) → HaveNoFault front → scan front lines ≡ Some fault → IsFaultOf (front ++ lines) fault.line fault.kind
scanned front [] fault none is = subst (λ ls. IsFaultOf ls fault.line fault.kind) (sym (append-nil front)) (inr (none, is))
scanned front (line ∷ lines) fault none is = at (fault_in front line) refl is (λ fine later. subst (λ ls. IsFaultOf ls fault.line fault.kind) (append_assoc front (line ∷ []) lines) (scanned (front ++ line ∷ []) lines fault (faultless_push front line none fine) later)) where
  at : (found : Option KissKind) → fault_in front line ≡ found → scan_line found line.number (scan (front ++ line ∷ []) lines) ≡ Some fault
      → (fault_in front line ≡ None → scan (front ++ line ∷ []) lines ≡ Some fault → IsFaultOf (front ++ line ∷ lines) fault.line fault.kind) → IsFaultOf (front ++ line ∷ lines) fault.line fault.kind
  at None e is rest = rest e is
  at (Some kind) e is rest =
      let same : record { line = line.number; kind = kind } ≡ fault = same_Some (record { line = line.number; kind = kind }) fault is in
      let before : take (length front) (front ++ line ∷ lines) ≡ front = take_at front (line ∷ lines) (length front) refl in
      inl (length front, line, record { stands = get_middle front line lines; fault = ap (λ ls. fault_in ls line) before ∙ (e ∙ ap (λ f. Some f.kind) same); none_before = subst HaveNoFault (sym before) none }, sym (ap (λ f. f.line) same))

-- and where there is none, they have none
pub scanned_none : (front lines : List Line) → HaveNoFault front → scan front lines ≡ None → HaveNoFault (front ++ lines) × (closing_fault (front ++ lines) ≡ None)
scanned_none front [] none is = subst (λ ls. HaveNoFault ls × (closing_fault ls ≡ None)) (sym (append-nil front)) (none, is)
scanned_none front (line ∷ lines) none is = at (fault_in front line) refl is (λ fine later. subst (λ ls. HaveNoFault ls × (closing_fault ls ≡ None)) (append_assoc front (line ∷ []) lines) (scanned_none (front ++ line ∷ []) lines (faultless_push front line none fine) later)) where
  at : (found : Option KissKind) → fault_in front line ≡ found → scan_line found line.number (scan (front ++ line ∷ []) lines) ≡ None
      → (fault_in front line ≡ None → scan (front ++ line ∷ []) lines ≡ None → HaveNoFault (front ++ line ∷ lines) × (closing_fault (front ++ line ∷ lines) ≡ None)) → HaveNoFault (front ++ line ∷ lines) × (closing_fault (front ++ line ∷ lines) ≡ None)
  at None e is rest = rest e is
  at (Some kind) e is rest = absurd (none-some (record { line = line.number; kind = kind }) (sym is))

-- three rows of three lines
pub record AreThree (states : List (List ℕ)) (a b c : Line) (rows : List KissRow) (x y z : KissRow) : Type 0 where
  pub are : rows ≡ x ∷ y ∷ z ∷ []
  pub first : IsRowOf states a x
  pub second : IsRowOf states b y
  pub third : IsRowOf states c z

pub three_rows : (states : List (List ℕ)) (a b c : Line) (rows : List KissRow) → AllZip (IsRowOf states) (a ∷ b ∷ c ∷ []) rows → (x : KissRow) × (y : KissRow) × (z : KissRow) × AreThree states a b c rows x y z
three_rows states a b c [] all = absurd all
three_rows states a b c (x ∷ []) all = absurd all.1
three_rows states a b c (x ∷ y ∷ []) all = absurd all.1.1
three_rows states a b c (x ∷ y ∷ z ∷ []) all = (x, y, z, record { are = refl; first = all.0; second = all.1.0; third = all.1.1.0 })
three_rows states a b c (x ∷ y ∷ z ∷ w ∷ rows) all = absurd all.1.1.1

-- what a list of three rows is mapped to
pub three_mapped : {A : Type 0} (f : KissRow → A) (list : List KissRow) (x y z : KissRow) (a b c : A) → list ≡ x ∷ y ∷ z ∷ [] → f x ≡ a → f y ≡ b → f z ≡ c → map f list ≡ a ∷ b ∷ c ∷ []
three_mapped f list x y z a b c is p q r = ap (map f) is ∙ (ap (λ n. n ∷ f y ∷ f z ∷ []) p ∙ (ap (λ n. a ∷ n ∷ f z ∷ []) q ∙ ap (λ n. a ∷ b ∷ n ∷ []) r))
