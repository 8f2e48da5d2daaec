-- Numbers by first appearance, over marks by turns.
use Rattle.std.proofs.Common.{◌≡◌, ◌≢◌, ℕ, ◌+◌, ◌<◌, List, [], ◌∷◌, ◌++◌, length, get_or, set, MatchOption, Option, None, Some, cond, refl, sym, ap, ◌∙◌, subst, inl, inr, arith}
use Rattle.std.proofs.lemmas.Bool.{cases_eq, cases_lt, eq-eqb}
use Rattle.std.proofs.lemmas.Bool.Decides.{eqb_tells}
use Rattle.std.proofs.lemmas.List.{get_or-map, get_or-set_same, get_or-set_other, get_or_past, length-map, length-set, map-set}
use Rattle.partition.specs.Laws.FirstAppearance.{IsNumbering, numbering_step}
use Rattle.io_pairs.specs.declared.marks.Mark.{Mark}
use Rattle.io_pairs.specs.Inner.Marks.{AreMarksBefore, class_in, seen_in}

-- a mark of this turn, and one of another
class_here : (turn : ℕ) (mark : Mark) → mark.turn ≡ turn → class_in turn mark ≡ Some mark.class
class_here turn mark same = ap (λ b. cond b (Some mark.class) None) (eq-eqb mark.turn turn same)

class_none : (turn : ℕ) (mark : Mark) → mark.turn ≢ turn → class_in turn mark ≡ None
class_none turn mark other =
    elim (eqb_tells mark.turn turn) [
      | inl same ↦ absurd (other same.1)
      | inr differs ↦ ap (λ b. cond b (Some mark.class) None) differs.0
    ]

no_mark : Mark
no_mark = record { turn = 0; class = 0 }

-- in a new turn nothing has been seen
pub none_seen : (turn : ℕ) (marks : List Mark) → AreMarksBefore turn marks → (value : ℕ) → get_or (seen_in turn marks) value None ≡ None
none_seen turn marks are value =
    elim (cases_lt value (length marks)) [
      | inl within ↦
          let low = are value no_mark within in
          let other : (get_or marks value no_mark).turn ≢ turn = omega arith in
          get_or-map (class_in turn) marks value no_mark None within ∙ class_none turn (get_or marks value no_mark) other
      | inr past ↦ get_or_past (seen_in turn marks) value None (omega (arith, length-map marks (class_in turn)))
    ]

-- marks of earlier turns are none of a later one
pub marks_turned : (turn : ℕ) (marks : List Mark) → AreMarksBefore turn marks → AreMarksBefore (turn + 1) marks
marks_turned turn marks are value d within = let low = are value d within in omega arith

-- what the code does at a value: the mark of this turn says the class, or the next class is marked
pub record Takes (turn : ℕ) (marks new_marks : List Mark) (value count new_count class : ℕ) : Type 0 where
  pub known : (d : Mark) → (get_or marks value d).turn ≡ turn → (class ≡ (get_or marks value d).class) × (new_count ≡ count) × (new_marks ≡ marks)
  pub fresh : (d : Mark) → (get_or marks value d).turn ≢ turn → (class ≡ count) × (new_count ≡ count + 1) × (new_marks ≡ set marks value (record { turn = turn; class = class }))

-- what a class is that comes of a value not seen, and of one that was
abbrev New : (turn : ℕ) → List Mark → List Mark → (count new_count class value : ℕ) → Type 0
New turn marks new_marks count new_count class value = (class ≡ count) × (new_count ≡ count + 1) × (seen_in turn new_marks ≡ set (seen_in turn marks) value (Some class))

abbrev Known : (turn : ℕ) → List Mark → List Mark → (count new_count class known : ℕ) → Type 0
Known turn marks new_marks count new_count class known = (class ≡ known) × (new_count ≡ count) × (seen_in turn new_marks ≡ seen_in turn marks)

abbrev Took : (turn : ℕ) → List Mark → List Mark → (count new_count class value : ℕ) → Type 0
Took turn marks new_marks count new_count class value =
    MatchOption (get_or (seen_in turn marks) value None) (New turn marks new_marks count new_count class value) (Known turn marks new_marks count new_count class)

pub marks_step : (values : List ℕ) (i turn value : ℕ) (marks new_marks : List Mark) (classes : List ℕ) (count new_count class : ℕ) → value ≡ get_or values i 0 → IsNumbering values i (seen_in turn marks) classes count
    → value < length marks → Takes turn marks new_marks value count new_count class → IsNumbering values (i + 1) (seen_in turn new_marks) (classes ++ class ∷ []) new_count
marks_step values i turn value marks new_marks classes count new_count class is so_far room takes =
    numbering_step values i (seen_in turn marks) (seen_in turn new_marks) classes count new_count class so_far
    (omega (arith, length-map marks (class_in turn)))
    (subst (λ (v : ℕ). Took turn marks new_marks count new_count class v) is (elim (cases_eq (get_or marks value no_mark).turn turn) [
      | inl same ↦
          let took = takes.known no_mark same in
          let seen : get_or (seen_in turn marks) value None ≡ Some (get_or marks value no_mark).class =
          get_or-map (class_in turn) marks value no_mark None room ∙ class_here turn (get_or marks value no_mark) same in
          subst (λ (o : Option ℕ). MatchOption o (New turn marks new_marks count new_count class value) (Known turn marks new_marks count new_count class)) (sym seen) (took.0, took.1, ap (λ (ms : List Mark). seen_in turn ms) took.2)
      | inr other ↦
          let took = takes.fresh no_mark other in
          let mark : Mark = record { turn = turn; class = class } in
          let seen : get_or (seen_in turn marks) value None ≡ None =
          get_or-map (class_in turn) marks value no_mark None room ∙ class_none turn (get_or marks value no_mark) other in
          let put : seen_in turn (set marks value mark) ≡ set (seen_in turn marks) value (Some class) =
          map-set (class_in turn) marks value mark ∙ ap (λ (o : Option ℕ). set (seen_in turn marks) value o) (class_here turn mark refl) in
          subst (λ (o : Option ℕ). MatchOption o (New turn marks new_marks count new_count class value) (Known turn marks new_marks count new_count class)) (sym seen) (took.0, took.1, ap (λ (ms : List Mark). seen_in turn ms) took.2 ∙ put)
    ]))

-- the marks stay of this turn or an earlier one, and as many
pub marks_kept : (turn value : ℕ) (marks new_marks : List Mark) (count new_count class : ℕ) → AreMarksBefore (turn + 1) marks → value < length marks → Takes turn marks new_marks value count new_count class
    → AreMarksBefore (turn + 1) new_marks
marks_kept turn value marks new_marks count new_count class are room takes =
    elim (cases_eq (get_or marks value no_mark).turn turn) [
      | inl same ↦ subst (λ (ms : List Mark). AreMarksBefore (turn + 1) ms) (sym (takes.known no_mark same).2) are
      | inr other ↦
          let mark : Mark = record { turn = turn; class = class } in
          subst (λ (ms : List Mark). AreMarksBefore (turn + 1) ms) (sym (takes.fresh no_mark other).2) (put mark refl)
    ]
  where
    put : (mark : Mark) → mark.turn ≡ turn → AreMarksBefore (turn + 1) (set marks value mark)
    put mark of v d within =
        elim (cases_eq v value) [
          | inl at ↦
              let here : get_or (set marks value mark) v d ≡ mark = ap (λ (n : ℕ). get_or (set marks value mark) n d) at ∙ get_or-set_same marks value mark d room in
              let turned : (get_or (set marks value mark) v d).turn ≡ turn = ap (λ (m : Mark). m.turn) here ∙ of in
              omega arith
          | inr differs ↦
              let there : get_or (set marks value mark) v d ≡ get_or marks v d = get_or-set_other marks value v mark d differs in
              let turned : (get_or (set marks value mark) v d).turn ≡ (get_or marks v d).turn = ap (λ (m : Mark). m.turn) there in
              let low = are v d (omega (arith, length-set marks value mark)) in
              omega arith
        ]
