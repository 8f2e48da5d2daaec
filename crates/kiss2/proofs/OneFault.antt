-- At most one first fault, and none where there is a record.
use Rattle.std.proofs.Common.{◌≡◌, ℕ, zero, suc, ◌<◌, ◌≤◌, ◌⊎◌, List, [], ◌∷◌, length, take, Option, Some, None, ap, sym, ◌∙◌, refl, subst, inl, inr, arith}
use Rattle.std.specs.Prelude.{slice_get}
use Rattle.std.proofs.lemmas.Bool.{cases_order}
use Rattle.std.proofs.lemmas.List.{take-take, take_all}
use Rattle.std.proofs.lemmas.Option.{none-some, same_Some}
use Rattle.hs_io.specs.declared.lines.Line.{Line}
use Rattle.kiss2.specs.declared.fault.KissFault.{KissFault}
use Rattle.kiss2.specs.declared.fault.KissKind.{KissKind}
use Rattle.kiss2.specs.Faults.{fault_in}
use Rattle.kiss2.specs.Kiss.{HaveNoFault, IsFaultOf, IsFirstFault, IsLineFault, closing_fault}
use Rattle.kiss2.specs.Laws.Faultless.{faultless_push}
use Rattle.kiss2.specs.Laws.GoodLines.{take_step}

-- a place among the first ones
get_front : {X : Type 0} (xs : List X) (place count : ℕ) (x : X) → place < count → slice_get xs place ≡ Some x → slice_get (take count xs) place ≡ Some x
get_front xs place count x lt stands = front xs place count lt ∙ stands where
  front : {X : Type 0} (ys : List X) (i n : ℕ) → i < n → slice_get (take n ys) i ≡ slice_get ys i
  front ys i zero lt = absurd (omega arith)
  front [] i (suc n) lt = refl
  front (y ∷ ys) zero (suc n) lt = refl
  front (y ∷ ys) (suc i) (suc n) lt = front ys i n (omega arith)

module _ (lines : List Line) where
  earlier : (place later : ℕ) (line : Line) (kind : KissKind) → place < later → IsFirstFault lines place line kind → HaveNoFault (take later lines) → ⊥
  earlier place later line kind lt first none =
      let here = none place line (get_front lines place later line lt first.stands) in
      none-some kind (sym here ∙ (ap (λ ls. fault_in ls line) (take-take place later lines (omega arith)) ∙ first.fault))

  one_line : (number other : ℕ) (kind another : KissKind) → IsLineFault lines number kind → IsLineFault lines other another → (number ≡ other) × (kind ≡ another)
  one_line number other kind another (place, line, first, is) (place', line', first', is') =
      elim (cases_order place place') [
        | inl same ↦
            let same_line : line ≡ line' = same_Some line line' (sym first.stands ∙ (ap (λ p. slice_get lines p) same ∙ first'.stands)) in (
              is ∙ (ap (λ l. l.number) same_line ∙ sym is'),
              same_Some kind another (sym first.fault ∙ (ap (λ p. fault_in (take p lines) line) same ∙ (ap (λ l. fault_in (take place' lines) l) same_line ∙ first'.fault))),
            )
        | inr (inl less) ↦ absurd (earlier place place' line kind less first first'.none_before)
        | inr (inr more) ↦ absurd (earlier place' place line' another more first' first.none_before)
      ]

  no_line_fault : (number : ℕ) (kind : KissKind) → IsLineFault lines number kind → HaveNoFault lines → ⊥
  no_line_fault number kind (place, line, first, is) none = none-some kind (sym (none place line first.stands) ∙ first.fault)

  pub one_fault : (number other : ℕ) (kind another : KissKind) → IsFaultOf lines number kind → IsFaultOf lines other another → (number ≡ other) × (kind ≡ another)
  one_fault number other kind another (inl first) (inl second) = one_line number other kind another first second
  one_fault number other kind another (inl first) (inr second) = absurd (no_line_fault number kind first second.0)
  one_fault number other kind another (inr first) (inl second) = absurd (no_line_fault other another second first.0)
  one_fault number other kind another (inr first) (inr second) =
      let same = same_Some (record { line = number; kind = kind }) (record { line = other; kind = another }) (sym first.1 ∙ second.1) in
      (ap (λ f. f.line) same, ap (λ f. f.kind) same)

  pub never_both : (number : ℕ) (kind : KissKind) → HaveNoFault lines → closing_fault lines ≡ None → IsFaultOf lines number kind → ⊥
  never_both number kind none closed (inl first) = no_line_fault number kind first none
  never_both number kind none closed (inr last) = none-some (record { line = number; kind = kind }) (sym closed ∙ last.1)

  -- the first fault of the first lines, if there is one
  first_up_to : (count : ℕ) → count ≤ length lines → HaveNoFault (take count lines) ⊎ ((place : ℕ) × (line : Line) × (kind : KissKind) × IsFirstFault lines place line kind)
  first_up_to zero le = inl (λ place line stands. absurd (none-some line stands))
  first_up_to (suc count) le =
      elim (first_up_to count (omega arith)) [
        | inr found ↦ inr found
        | inl none ↦
            let line = at_place lines count (omega arith) in
            next none line.0 line.1 (fault_in (take count lines) line.0) refl
      ] where
        at_place : (xs : List Line) (i : ℕ) → i < length xs → (x : Line) × (slice_get xs i ≡ Some x)
        at_place [] i lt = absurd (omega arith)
        at_place (x ∷ xs) zero lt = (x, refl)
        at_place (x ∷ xs) (suc i) lt = at_place xs i (omega arith)

        next : HaveNoFault (take count lines) → (line : Line) → slice_get lines count ≡ Some line → (fault : Option KissKind) → fault_in (take count lines) line ≡ fault
            → HaveNoFault (take (suc count) lines) ⊎ ((place : ℕ) × (line : Line) × (kind : KissKind) × IsFirstFault lines place line kind)
        next none line stands (Some kind) is = inr (count, line, kind, record { stands = stands; fault = is; none_before = none })
        next none line stands None is = inl (subst HaveNoFault (sym (take_step lines count line stands)) (faultless_push (take count lines) line none is))

  -- a fault, or none
  pub fault_or_none : ((number : ℕ) × (kind : KissKind) × IsFaultOf lines number kind) ⊎ (HaveNoFault lines × (closing_fault lines ≡ None))
  fault_or_none =
      elim (first_up_to (length lines) (omega arith)) [
        | inr found ↦ inl (found.1.number, found.2, inl (found.0, found.1, found.3, refl))
        | inl none ↦
            let all : HaveNoFault lines = subst HaveNoFault (take_all (length lines) lines (omega arith)) none in
            last all (closing_fault lines) refl
      ] where
        last : HaveNoFault lines → (fault : Option KissFault) → closing_fault lines ≡ fault → ((number : ℕ) × (kind : KissKind) × IsFaultOf lines number kind) ⊎ (HaveNoFault lines × (closing_fault lines ≡ None))
        last none None is = inr (none, is)
        last none (Some fault) is = inl (fault.line, fault.kind, inr (none, is))
