-- The names of the states of a block and the blocks of a partition, one more at a time.
use Rattle.std.proofs.Common.{◌≡◌, ◌≢◌, ℕ, zero, suc, ltb, ◌+◌, ◌==◌, ◌<◌, ◌≤◌, Bool, true, false, cond, min, List, [], ◌∷◌, ◌++◌, Some, length, take, get_or, map, filter, slice_get, refl, sym, ap, ◌∙◌, arith, append_assoc}
use Rattle.std.specs.List.{range_with_len, zip}
use Rattle.std.proofs.lemmas.Bool.{lt-ltb}
use Rattle.std.proofs.lemmas.Bool.Decides.{nat_tests}
use Rattle.std.proofs.lemmas.List.{append-nil, flat_map_more, map-append, take_all}
use Rattle.std.proofs.lemmas.List.Elements.{filter_more}
use Rattle.std.proofs.lemmas.Option.{get_or_from_slice_get}
use Rattle.std.proofs.lemmas.Slice.Zip.{length-zip, get_or-zip}
use Rattle.hs_io.specs.Spelling.{line_text, spaced}
use Rattle.machine_reports.specs.Inner.Blanks.{blank_if}
use Rattle.machine_reports.specs.StateTexts.{block_text, names_with}

-- a list is not empty
abbrev pub has_some : {X : Type 0} → List X → Bool
has_some [] = false
has_some (x ∷ xs) = true

pub has_more : {X : Type 0} (xs : List X) (x : X) → has_some (xs ++ x ∷ []) ≡ true
has_more [] x = refl
has_more (first ∷ xs) x = refl

-- a line with one field more
line_more : (fields : List (List ℕ)) (field : List ℕ) → line_text (fields ++ field ∷ []) ≡ line_text fields ++ (blank_if (has_some fields) ++ field)
line_more [] field = append-nil field
line_more (first ∷ fields) field = sym (flat_map_more spaced first fields field)

pub joined_more : (start text before new : List ℕ) (fields : List (List ℕ)) (field : List ℕ) (some : Bool) → some ≡ has_some fields → text ≡ start ++ line_text fields → before ≡ text ++ blank_if some → new ≡ before ++ field → new ≡ start ++ line_text (fields ++ field ∷ [])
joined_more start text before new fields field some is joined blanked pushed =
    let blank = blank_if (has_some fields) in
    pushed
    ∙ ap (λ (t : List ℕ). t ++ field) (blanked ∙ ap (λ (b : Bool). text ++ blank_if b) is)
    ∙ append_assoc text blank field
    ∙ ap (λ (t : List ℕ). t ++ (blank ++ field)) joined
    ∙ append_assoc start (line_text fields) (blank ++ field)
    ∙ ap (λ (t : List ℕ). start ++ t) (sym (line_more fields field))

-- states, with their names and labels
abbrev first : List ℕ × ℕ → List ℕ
first state = state.0

abbrev labelled : ℕ → List ℕ × ℕ → Bool
labelled label state = state.1 == label

-- the names of the first states that have a label
abbrev pub names_within : List (List ℕ) → List ℕ → ℕ → ℕ → List (List ℕ)
names_within names labels label s = map first (filter (labelled label) (take s (zip names labels)))

pub same_label : (a b : ℕ) → a ≡ b → (a == b) ≡ true
same_label a b same = grind (arith, nat_tests)

pub other_label : (a b : ℕ) → a ≢ b → (a == b) ≡ false
other_label a b other = grind (arith, nat_tests)

-- the name of a state, if it has the label
abbrev name_if : Bool → List ℕ × ℕ → List (List ℕ)
name_if has state = map first (cond has (state ∷ []) [])

module _ (names : List (List ℕ)) (labels : List ℕ) (label s : ℕ) (name : List ℕ) (named : s < length names) (has_label : s < length labels) where
  -- the names of one state more
  more : names_within names labels label (s + 1) ≡ names_within names labels label s ++ name_if (get_or labels s 0 == label) (get_or names s name, get_or labels s 0)
  more =
      let states = zip names labels in
      let state = get_or states s (name, 0) in
      ap (map first) (filter_more (labelled label) states s (name, 0) (omega (arith, named, has_label, length-zip names labels)))
      ∙ map-append first (filter (labelled label) (take s states)) (cond (labelled label state) (state ∷ []) [])
      ∙ ap (λ (state : List ℕ × ℕ). names_within names labels label s ++ name_if (labelled label state) state) (get_or-zip names labels s (name, 0) named has_label)

  -- a state that has the label
  pub name_more : slice_get names s ≡ Some name → get_or labels s 0 ≡ label → names_within names labels label (s + 1) ≡ names_within names labels label s ++ name ∷ []
  name_more is has =
      more
      ∙ ap (λ (b : Bool). names_within names labels label s ++ name_if b (get_or names s name, get_or labels s 0)) (same_label (get_or labels s 0) label has)
      ∙ ap (λ (n : List ℕ). names_within names labels label s ++ n ∷ []) (get_or_from_slice_get names s name name is)

  -- and one that has another
  pub name_passed : get_or labels s 0 ≢ label → names_within names labels label (s + 1) ≡ names_within names labels label s
  name_passed other =
      more
      ∙ ap (λ (b : Bool). names_within names labels label s ++ name_if b (get_or names s name, get_or labels s 0)) (other_label (get_or labels s 0) label other)
      ∙ append-nil (names_within names labels label s)

-- all states
all_named : (names : List (List ℕ)) (labels : List ℕ) (label s : ℕ) → min (length names) (length labels) ≤ s → names_within names labels label s ≡ names_with names labels label
all_named names labels label s done =
    ap (λ (states : List (List ℕ × ℕ)). map first (filter (labelled label) states)) (take_all s (zip names labels) (omega (arith, done, length-zip names labels)))

-- a block between its braces
pub block_ended : (old text new : List ℕ) (names : List (List ℕ)) (labels : List ℕ) (label s : ℕ) → min (length names) (length labels) ≤ s → text ≡ (old ++ 123 ∷ []) ++ line_text (names_within names labels label s) → new ≡ text ++ 125 ∷ [] → new ≡ old ++ block_text names labels label
block_ended old text new names labels label s done before pushed =
    let line = line_text (names_with names labels label) in
    pushed
    ∙ ap (λ (t : List ℕ). t ++ 125 ∷ []) (before ∙ ap (λ (fields : List (List ℕ)). (old ++ 123 ∷ []) ++ line_text fields) (all_named names labels label s done))
    ∙ append_assoc (old ++ 123 ∷ []) line (125 ∷ [])
    ∙ append_assoc old (123 ∷ []) (line ++ 125 ∷ [])

-- a block is the first, or blocks are before it
pub blocks_before : {X : Type 0} (f : ℕ → X) (block : ℕ) → ltb 0 block ≡ has_some (map f (range_with_len 0 block))
blocks_before f zero = refl
blocks_before f (suc block) = lt-ltb 0 (suc block) (omega arith)
