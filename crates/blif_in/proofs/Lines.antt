-- Lines that go on, and what is joined to them.
use Rattle.std.proofs.Common.{◌≡◌, ℕ, ◌+◌, ◌-◌, ◌<◌, ◌≤◌, ◌||◌, Bool, true, false, cond, List, [], ◌∷◌, ◌++◌, length, get_or, take, append_assoc, arith, Option, Some, None, sym, ◌∙◌, refl, ap, subst}
use Rattle.std.specs.Prelude.{IfNone, IfSome}
use Rattle.std.proofs.lemmas.List.{take_all, take_more}
use Rattle.hs_io.specs.declared.lines.Line.{Line}
use Rattle.hs_io.specs.Lines.{fields_in}
use Rattle.net_core.specs.JoinedLines.{ends_in_backslash, in_front, is_continued, joined, part_of, without_backslash}
use Rattle.blif_in.specs.Inner.JoinedLines.{behind, lines_behind, merged}

-- the last field decides whether a line goes on
pub continued_last : (front : List (List ℕ)) (last : List ℕ) → is_continued (front ++ last ∷ []) ≡ ends_in_backslash last
continued_last [] last = refl
continued_last (field ∷ []) last = refl
continued_last (field ∷ next ∷ more) last = continued_last (next ∷ more) last

-- and is the one that loses its backslash
pub without_last : (front : List (List ℕ)) (last : List ℕ) → without_backslash (front ++ last ∷ []) ≡ front ++ fields_in (take (length last - 1) last ∷ [])
without_last [] last = refl
without_last (field ∷ []) last = refl
without_last (field ∷ next ∷ more) last = ap (λ fields. field ∷ fields) (without_last (next ∷ more) last)

or_assoc : (a b c : Bool) → (a || (b || c)) ≡ ((a || b) || c)
or_assoc true b c = refl
or_assoc false b c = refl

-- two parts in front are one
pub in_front_twice : (front part : Line) (lines : List Line) → in_front front (in_front part lines) ≡ in_front (merged front part) lines
in_front_twice front part [] = refl
in_front_twice front part (line ∷ lines) =
    same (front.fields ++ (part.fields ++ line.fields)) ((front.fields ++ part.fields) ++ line.fields) (front.bad || (part.bad || line.bad)) ((front.bad || part.bad) || line.bad) (sym (append_assoc front.fields part.fields line.fields)) (or_assoc front.bad part.bad line.bad) where
      with : List (List ℕ) → Bool → List Line
      with fields bad = record { number = front.number; fields = fields; bad = bad } ∷ lines

      same : (f g : List (List ℕ)) (a b : Bool) → f ≡ g → a ≡ b → with f a ≡ with g b
      same f g a b p q = cc

-- one line more
pub behind_more : (front : Option Line) (line : Line) (lines : List Line)
    → lines_behind front (joined (line ∷ lines)) ≡ cond (is_continued line.fields) (lines_behind (Some (behind front (part_of line))) (joined lines)) (behind front (part_of line) ∷ joined lines)
behind_more None line lines = by (is_continued line.fields) where
  by : (goes_on : Bool) → cond goes_on (in_front (part_of line) (joined lines)) (part_of line ∷ joined lines) ≡ cond goes_on (in_front (part_of line) (joined lines)) (part_of line ∷ joined lines)
  by goes_on = refl
behind_more (Some front) line lines = by (is_continued line.fields) where
  by : (goes_on : Bool) → in_front front (cond goes_on (in_front (part_of line) (joined lines)) (part_of line ∷ joined lines)) ≡ cond goes_on (in_front (merged front (part_of line)) (joined lines)) (merged front (part_of line) ∷ joined lines)
  by true = in_front_twice front (part_of line) (joined lines)
  by false = refl

-- a line that goes on is the front of the next joined line
pub joined_more : (front after : Option Line) (line : Line) (items lines all : List Line) → lines_behind front (joined items) ≡ all → items ≡ line ∷ lines → after ≡ Some (behind front (part_of line)) → is_continued line.fields ≡ true
    → lines_behind after (joined lines) ≡ all
joined_more front after line items lines all so_far first is more =
    ap (λ w. lines_behind w (joined lines)) is
    ∙ sym (behind_more front line lines ∙ ap (λ b. cond b (lines_behind (Some (behind front (part_of line))) (joined lines)) (behind front (part_of line) ∷ joined lines)) more)
    ∙ ap (λ (ls : List Line). lines_behind front (joined ls)) (sym first)
    ∙ so_far

-- any other line ends it
pub joined_here : (front after : Option Line) (line : Line) (items lines all : List Line) → lines_behind front (joined items) ≡ all → items ≡ line ∷ lines → after ≡ Some (behind front (part_of line)) → is_continued line.fields ≡ false
    → IfSome after (λ whole. all ≡ whole ∷ joined lines)
joined_here front after line items lines all so_far first is alone =
    subst (λ whole. IfSome whole (λ w. all ≡ w ∷ joined lines)) (sym is)
    (sym so_far
    ∙ ap (λ (ls : List Line). lines_behind front (joined ls)) first
    ∙ behind_more front line lines
    ∙ ap (λ b. cond b (lines_behind (Some (behind front (part_of line))) (joined lines)) (behind front (part_of line) ∷ joined lines)) alone)

-- and then there is a joined line
pub some_here : (front after : Option Line) (line : Line) (all : List Line) → after ≡ Some (behind front (part_of line)) → IfNone after (all ≡ [])
some_here front after line all is = subst (λ whole. IfNone whole (all ≡ [])) (sym is) tt

-- at the end of the text the front is the last joined line
pub joined_last : (front : Option Line) (items ended all : List Line) → lines_behind front (joined items) ≡ all → items ≡ [] → ended ≡ [] → IfSome front (λ line. all ≡ line ∷ joined ended)
joined_last None items ended all so_far none empty = tt
joined_last (Some front) items ended all so_far none empty =
    sym so_far ∙ ap (λ (ls : List Line). in_front front (joined ls)) none ∙ ap (λ (ls : List Line). front ∷ joined ls) (sym empty)

pub joined_none : (front : Option Line) (items all : List Line) → lines_behind front (joined items) ≡ all → items ≡ [] → IfNone front (all ≡ [])
joined_none None items all so_far none = sym so_far ∙ ap (λ (ls : List Line). joined ls) none
joined_none (Some front) items all so_far none = tt

-- a list up to its last item, and that item
split_last : {X : Type 0} (xs : List X) (x : X) → 1 ≤ length xs → x ≡ get_or xs (length xs - 1) x → xs ≡ take (length xs - 1) xs ++ x ∷ []
split_last xs x some is =
    let n = length xs - 1 in
    let lt : n < length xs = omega arith in
    sym (take_all (n + 1) xs (omega arith)) ∙ take_more xs n x lt ∙ ap (λ y. take n xs ++ y ∷ []) (sym is)

pub continued_at : (fields : List (List ℕ)) (last : List ℕ) → 1 ≤ length fields → last ≡ get_or fields (length fields - 1) last → is_continued fields ≡ ends_in_backslash last
continued_at fields last some is = ap is_continued (split_last fields last some is) ∙ continued_last (take (length fields - 1) fields) last

pub without_at : (fields : List (List ℕ)) (last : List ℕ) → 1 ≤ length fields → last ≡ get_or fields (length fields - 1) last
    → without_backslash fields ≡ take (length fields - 1) fields ++ fields_in (take (length last - 1) last ∷ [])
without_at fields last some is = ap without_backslash (split_last fields last some is) ∙ without_last (take (length fields - 1) fields) last
