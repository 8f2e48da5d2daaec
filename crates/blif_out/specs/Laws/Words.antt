-- The fields of a network's statements can stand in a text.
use Rattle.std.proofs.Common.{◌≡◌, ◌≢◌, ℕ, ◌<◌, ◌&&◌, Bool, true, false, not, eqb, leb, List, [], ◌∷◌, ◌++◌, length, map, refl, arith, IsTrue, IfSome, Option, Some, None}
use Rattle.std.specs.List.{flat_map, list_all, AllByRecursion}
use Rattle.std.proofs.lemmas.Bool.{false≢true}
use Rattle.std.proofs.lemmas.Bool.Decides.{nat_tests}
use Rattle.list_facts.specs.Laws.Everywhere.{each_append}
use Rattle.hs_io.specs.Spelling.{IsFieldByte}
use Rattle.net_core.specs.declared.Gate.{Gate}
use Rattle.net_core.specs.declared.Latch.{Latch}
use Rattle.net_core.specs.declared.Network.{Network}
use Rattle.net_core.specs.declared.Start.{Start}
use Rattle.net_core.specs.declared.Start.TheVariants.{Zero, One, Free, Unknown}
use Rattle.net_core.specs.Statements.{is_plane_character}
use Rattle.net_core.specs.Start.{start_digit}
use Rattle.net_core.specs.Words.{model_word, inputs_word, outputs_word, latch_word, names_word, rising_edge}
use Rattle.blif_out.specs.declared.design.Design.{Design}
use Rattle.blif_out.specs.Design.{IsClockOf, IsDesignOf, control_fields}
use Rattle.blif_out.specs.NetText.{row_fields, gate_fields, latch_fields, net_fields, one_digit}
use Rattle.blif_out.specs.Writable.{IsSignalName, IsPlane, IsWritable, IsWritableGate, IsWritableLatch}
use Rattle.blif_out.specs.Laws.Reading.{HasWord, GoesOn}

-- a byte that a signal's name may have
abbrev pub is_name_byte : ℕ → Bool
is_name_byte b = leb 33 b && (leb b 126 && (not (eqb b 35) && not (eqb b 92)))

name_byte : (b : ℕ) → is_name_byte b ≡ true → IsFieldByte b × (b ≢ 92)
name_byte b h = (record { low = grind (arith, nat_tests); high = grind (arith, nat_tests); no_comment = grind (arith, nat_tests) }, grind (arith, nat_tests))

name_bytes : (w : List ℕ) → AllByRecursion (λ b. is_name_byte b ≡ true) w → AllByRecursion IsFieldByte w × AllByRecursion (λ b. b ≢ 92) w
name_bytes [] p = (tt, tt)
name_bytes (b ∷ bs) (p, ps) = let one = name_byte b p in let rest = name_bytes bs ps in ((one.0, rest.0), (one.1, rest.1))

-- a text of such bytes is a name
pub name_from_bytes : (w : List ℕ) → 0 < length w → AllByRecursion (λ b. is_name_byte b ≡ true) w → IsSignalName w
name_from_bytes w some p = let both = name_bytes w p in record { field = record { some = some; visible = both.0 }; no_backslash = both.1 }

abbrev pub AreNames : List (List ℕ) → Type 0
AreNames fields = AllByRecursion IsSignalName fields

and_parts : (a b : Bool) → (a && b) ≡ true → (a ≡ true) × (b ≡ true)
and_parts true b h = (refl, h)
and_parts false b h = absurd (false≢true h)

each_passes : (p : ℕ → Bool) (w : List ℕ) → list_all p w ≡ true → AllByRecursion (λ b. p b ≡ true) w
each_passes p [] h = tt
each_passes p (b ∷ bs) h = let both = and_parts (p b) (list_all p bs) h in (both.0, each_passes p bs both.1)

-- a word of the format is one
pub name_word : (w : List ℕ) → 0 < length w → list_all is_name_byte w ≡ true → IsSignalName w
name_word w some h = name_from_bytes w some (each_passes is_name_byte w h)

start_name : (start : Start) → IsSignalName (start_digit start ∷ [])
start_name Zero = name_word (48 ∷ []) (omega arith) refl
start_name One = name_word (49 ∷ []) (omega arith) refl
start_name Free = name_word (50 ∷ []) (omega arith) refl
start_name Unknown = name_word (51 ∷ []) (omega arith) refl

plane_byte : (c : ℕ) → IsTrue (is_plane_character c) → is_name_byte c ≡ true
plane_byte c h = grind (arith, nat_tests)

plane_bytes : (row : List ℕ) → AllByRecursion (λ c. IsTrue (is_plane_character c)) row → AllByRecursion (λ b. is_name_byte b ≡ true) row
plane_bytes [] p = tt
plane_bytes (c ∷ cs) (p, ps) = (plane_byte c p, plane_bytes cs ps)

row_names : (row : List ℕ) (inputs : ℕ) → IsPlane inputs row → AreNames (row_fields row)
row_names [] inputs p = (name_word one_digit (omega arith) refl, tt)
row_names (c ∷ cs) inputs p = (name_from_bytes (c ∷ cs) (omega arith) (plane_bytes (c ∷ cs) p.characters), (name_word one_digit (omega arith) refl, tt))

control_names : (N : Network) (clock : Option (List ℕ)) → IfSome clock (IsClockOf N) → AreNames (control_fields clock)
control_names N None is = tt
control_names N (Some name) is = (name_word rising_edge (omega arith) refl, (is.signal, tt))

latch_names : (N : Network) (design : Design) → IsDesignOf N design → (latch : Latch) → IsWritableLatch latch → AreNames (latch_fields design latch)
latch_names N design is latch p = (
  name_word latch_word (omega arith) refl,
  (
    p.input,
    (p.output, each_append IsSignalName (control_fields design.clock) ((start_digit latch.start ∷ []) ∷ []) (control_names N design.clock is.clock) (start_name latch.start, tt)),
  ),
)

-- what holds of the statements of a row, a gate and a latch
pub record OfParts (design : Design) (P : List (List ℕ) → Type 0) : Type 0 where
  pub row : (row : List ℕ) (inputs : ℕ) → IsPlane inputs row → P (row_fields row)
  pub gate : (gate : Gate) → IsWritableGate gate → P (names_word ∷ (gate.inputs ++ gate.output ∷ []))
  pub latch : (latch : Latch) → IsWritableLatch latch → P (latch_fields design latch)

-- holds of all behind the first three
pub each_row : (design : Design) (P : List (List ℕ) → Type 0) → OfParts design P → (rows : List (List ℕ)) (inputs : ℕ) (rest : List (List (List ℕ))) → AllByRecursion (IsPlane inputs) rows → AllByRecursion P rest → AllByRecursion P (map row_fields rows ++ rest)
each_row design P of [] inputs rest p t = t
each_row design P of (r ∷ rs) inputs rest (p, ps) t = (of.row r inputs p, each_row design P of rs inputs rest ps t)

pub each_gate : (design : Design) (P : List (List ℕ) → Type 0) → OfParts design P → (gates : List Gate) → AllByRecursion IsWritableGate gates → AllByRecursion P (flat_map gate_fields gates)
each_gate design P of [] p = tt
each_gate design P of (g ∷ gs) (p, ps) = (of.gate g p, each_row design P of g.rows (length g.inputs) (flat_map gate_fields gs) p.rows (each_gate design P of gs ps))

pub each_latch : (design : Design) (P : List (List ℕ) → Type 0) → OfParts design P → (latches : List Latch) (rest : List (List (List ℕ))) → AllByRecursion IsWritableLatch latches → AllByRecursion P rest → AllByRecursion P (map (latch_fields design) latches ++ rest)
each_latch design P of [] rest p t = t
each_latch design P of (l ∷ ls) rest (p, ps) t = (of.latch l p, each_latch design P of ls rest ps t)

pub each_behind : (design : Design) (P : List (List ℕ) → Type 0) → OfParts design P → (N : Network) → IsWritable N → AllByRecursion P (map (latch_fields design) N.latches ++ flat_map gate_fields N.gates)
each_behind design P of N w = each_latch design P of N.latches (flat_map gate_fields N.gates) w.latches (each_gate design P of N.gates w.gates)

-- each field of each statement is a name
pub all_names : (design : Design) (N : Network) → IsWritable N → IsDesignOf N design → AllByRecursion AreNames (net_fields design N)
all_names design N w is =
    let gate : (g : Gate) → IsWritableGate g → AreNames (names_word ∷ (g.inputs ++ g.output ∷ [])) =
    λ g p. (name_word names_word (omega arith) refl, each_append IsSignalName g.inputs (g.output ∷ []) p.inputs (p.output, tt)) in (
      (name_word model_word (omega arith) refl, (is.model, tt)),
      (
        (name_word inputs_word (omega arith) refl, w.inputs),
        (
          (name_word outputs_word (omega arith) refl, w.outputs),
          each_behind design AreNames (record { row = row_names; gate = gate; latch = latch_names N design is }) N w,
        ),
      ),
    )

-- each statement has a first field, which does not end the text
row_goes_on : (row : List ℕ) (inputs : ℕ) → IsPlane inputs row → GoesOn (row_fields row)
row_goes_on [] inputs p = refl
row_goes_on (c ∷ cs) inputs p =
    let character = p.characters.0 in
    let no_word : eqb c 46 ≡ false = grind (arith, nat_tests) in
    rw no_word refl

pub all_go_on : (design : Design) (N : Network) → IsWritable N → AllByRecursion GoesOn (net_fields design N)
all_go_on design N w =
    (refl, (refl, (refl, each_behind design GoesOn (record { row = row_goes_on; gate = λ g p. refl; latch = λ l p. refl }) N w)))

row_has_word : (row : List ℕ) (inputs : ℕ) → IsPlane inputs row → HasWord (row_fields row)
row_has_word [] inputs p = omega arith
row_has_word (c ∷ cs) inputs p = omega arith

pub all_have_words : (design : Design) (N : Network) → IsWritable N → AllByRecursion HasWord (net_fields design N)
all_have_words design N w =
    (omega arith, (omega arith, (omega arith, each_behind design HasWord (record { row = row_has_word; gate = λ g p. omega arith; latch = λ l p. omega arith }) N w)))
