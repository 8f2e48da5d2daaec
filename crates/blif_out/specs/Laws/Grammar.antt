-- The statements of a network: none has a fault, and they are the record of the network.
use Rattle.std.proofs.Common.{◌≡◌, ℕ, ◌+◌, ◌-◌, ◌&&◌, ◌||◌, Bool, true, false, cond, not, eqb, leb, List, [], ◌∷◌, ◌++◌, length, length-append, map, sym, ◌∙◌, refl, ap, arith, IsTrue, IfSome, Option, Some, None}
use Rattle.std.specs.List.{flat_map, filter_map, list_all, list_any, AllByRecursion}
use Rattle.std.specs.Str.{bytes_eq}
use Rattle.std.proofs.Math.Seq.{take-append_seam, get_or-append_seam}
use Rattle.std.proofs.lemmas.Bool.Decides.{nat_tests}
use Rattle.std.proofs.lemmas.Slice.Eq.{bytes_eq-Decides}
use Rattle.net_core.specs.declared.Gate.{Gate}
use Rattle.net_core.specs.declared.Latch.{Latch}
use Rattle.net_core.specs.declared.Network.{Network}
use Rattle.net_core.specs.declared.Start.{Start}
use Rattle.net_core.specs.declared.Start.TheVariants.{Zero, One, Free, Unknown}
use Rattle.net_core.specs.Start.{start_digit}
use Rattle.net_core.specs.Statements.{Statement, Model, Inputs, Outputs, LatchLine, Names, Row, NumberedStatement, statement_of, latch_in, start_of, is_plane_character, clocks_in, rows_of, gates_of, gate_from, plane_of, bit_of, lists_on, open_gate}
use Rattle.net_core.specs.Words.{no_control}
use Rattle.net_core.specs.Faults.{BadByte, BadFields, BadRow, Clocks, MixedCover, IsFaultless, AreFaultless, is_row_for, differs_from, is_bad_row_of, mixes_cover_of}
use Rattle.blif_out.specs.declared.design.Design.{Design}
use Rattle.blif_out.specs.Design.{IsClockOf, control_fields}
use Rattle.blif_out.specs.NetText.{row_fields, gate_fields, latch_fields, net_fields}
use Rattle.blif_out.specs.Writable.{IsPlane, IsWritable, IsWritableGate}

abbrev pub latch_statement : Option (List ℕ) → Latch → Statement
latch_statement clock latch = LatchLine (latch.input ∷ latch.output ∷ (control_fields clock ++ (start_digit latch.start ∷ []) ∷ []))

abbrev pub row_statement : List ℕ → Statement
row_statement row = Row (row_fields row)

abbrev pub gate_statements : Gate → List Statement
gate_statements gate = Names (gate.inputs ++ gate.output ∷ []) ∷ map row_statement gate.rows

-- what stands behind the first three statements
abbrev pub tail_statements : Option (List ℕ) → List Latch → List Gate → List Statement
tail_statements clock latches gates = map (latch_statement clock) latches ++ flat_map gate_statements gates

abbrev pub net_statements : Design → Network → List Statement
net_statements design N = Model (design.model ∷ []) ∷ Inputs N.inputs ∷ Outputs N.outputs ∷ tail_statements design.clock N.latches N.gates

-- a row's first field is no word, so it is read as a row
row_said : (plane : List ℕ) (inputs : ℕ) → IsPlane inputs plane → statement_of (row_fields plane) ≡ row_statement plane
row_said [] inputs p = refl
row_said (c ∷ cs) inputs p =
    let character = p.characters.0 in
    let no_word : eqb c 46 ≡ false = grind (arith, nat_tests) in
    rw no_word refl

rows_said : (rows : List (List ℕ)) (inputs : ℕ) (rest : List (List (List ℕ))) → AllByRecursion (IsPlane inputs) rows → map statement_of (map row_fields rows ++ rest) ≡ map row_statement rows ++ map statement_of rest
rows_said [] inputs rest p = refl
rows_said (row ∷ rows) inputs rest (p, ps) = rw (row_said row inputs p) (ap (λ ss. row_statement row ∷ ss) (rows_said rows inputs rest ps))

gates_said : (gates : List Gate) → AllByRecursion IsWritableGate gates → map statement_of (flat_map gate_fields gates) ≡ flat_map gate_statements gates
gates_said [] p = refl
gates_said (gate ∷ gates) (p, ps) =
    let first : Statement = Names (gate.inputs ++ gate.output ∷ []) in
    ap (λ ss. first ∷ ss) (rows_said gate.rows (length gate.inputs) (flat_map gate_fields gates) p.rows)
    ∙ ap (λ ss. first ∷ (map row_statement gate.rows ++ ss)) (gates_said gates ps)

latches_said : (design : Design) (latches : List Latch) (rest : List (List (List ℕ))) (said : List Statement) → map statement_of rest ≡ said
    → map statement_of (map (latch_fields design) latches ++ rest) ≡ map (latch_statement design.clock) latches ++ said
latches_said design [] rest said e = e
latches_said design (latch ∷ latches) rest said e = ap (λ ss. latch_statement design.clock latch ∷ ss) (latches_said design latches rest said e)

-- the fields of a network are read as its statements
pub net_said : (design : Design) (N : Network) → IsWritable N → map statement_of (net_fields design N) ≡ net_statements design N
net_said design N w =
    ap (λ ss. Model (design.model ∷ []) ∷ Inputs N.inputs ∷ Outputs N.outputs ∷ ss)
    (latches_said design N.latches (flat_map gate_fields N.gates) (flat_map gate_statements N.gates) (gates_said N.gates w.gates))

-- statements on clean lines, numbered from one on
abbrev pub on_lines : ℕ → List Statement → List NumberedStatement
on_lines n [] = []
on_lines n (statement ∷ more) = record { number = n; bad = false; says = statement } ∷ on_lines (n + 1) more

pub said-on_lines : (n : ℕ) (statements : List Statement) → map (λ s. s.says) (on_lines n statements) ≡ statements
said-on_lines n [] = refl
said-on_lines n (s ∷ ss) = ap (λ xs. s ∷ xs) (said-on_lines (n + 1) ss)

-- a statement behind others, on a clean line
abbrev IsFaultlessBehind : Statement → List Statement → Statement → Type 0
IsFaultlessBehind last earlier statement = (n : ℕ) → IsFaultless (last ∷ earlier) (record { number = n; bad = false; says = statement })

-- these statements have no fault, whatever stands before them
abbrev AreFaultlessAnywhere : List Statement → Type 0
AreFaultlessAnywhere statements = (n : ℕ) (last : Statement) (earlier : List Statement) → AreFaultless (last ∷ earlier) (on_lines n statements)

-- a start is read as it is written
start_of-digit : (start : Start) → start_of (start_digit start ∷ []) ≡ Some start
start_of-digit Zero = refl
start_of-digit One = refl
start_of-digit Free = refl
start_of-digit Unknown = refl

-- and so is a latch
latch_in-statement : (clock : Option (List ℕ)) (latch : Latch) → latch_in (latch_statement clock latch) ≡ Some latch
latch_in-statement None latch = rw (start_of-digit latch.start) refl
latch_in-statement (Some name) latch = rw (start_of-digit latch.start) refl

-- a clock is not the word for no control
abbrev pub Controls : Option (List ℕ) → Type 0
Controls clock = IfSome clock (λ name. bytes_eq name no_control ≡ false)

pub controls_of : (N : Network) (clock : Option (List ℕ)) → IfSome clock (IsClockOf N) → Controls clock
controls_of N None is = tt
controls_of N (Some name) is =
    elim (bytes_eq name no_control) as (λ test. bytes_eq name no_control ≡ test → test ≡ false) [
      | true ↦ λ same. absurd (is.controls ((bytes_eq-Decides name no_control).0 same))
      | false ↦ λ other. refl
    ] refl

-- the clocks of these statements are no other than this one
abbrev HasOneClock : Option (List ℕ) → List Statement → Type 0
HasOneClock clock statements = IfSome clock (λ name. list_any (λ other. not (bytes_eq name other)) (flat_map clocks_in statements) ≡ false)

latch_faultless : (clock : Option (List ℕ)) (latch : Latch) (last : Statement) (earlier : List Statement) → Controls clock → HasOneClock clock (last ∷ earlier)
    → IsFaultlessBehind last earlier (latch_statement clock latch)
latch_faultless None latch last earlier controls one n BadFields = rw (latch_in-statement None latch) refl
latch_faultless None latch last earlier controls one n _ = refl
latch_faultless (Some name) latch last earlier controls one n BadFields = rw (latch_in-statement (Some name) latch) refl
latch_faultless (Some name) latch last earlier controls one n Clocks = rw (controls, one) refl
latch_faultless (Some name) latch last earlier controls one n _ = refl

-- behind a latch there is no other clock either
still_one : (clock : Option (List ℕ)) (latch : Latch) (statements : List Statement) → Controls clock → HasOneClock clock statements → HasOneClock clock (latch_statement clock latch ∷ statements)
still_one None latch statements controls one = tt
still_one (Some name) latch statements controls one =
    let same : bytes_eq name name ≡ true = (bytes_eq-Decides name name).1 refl in
    rw (controls, same, one) refl

names_faultless : (gate : Gate) (last : Statement) (earlier : List Statement) → IsFaultlessBehind last earlier (Names (gate.inputs ++ gate.output ∷ []))
names_faultless gate last earlier n BadFields = let some = length-append gate.inputs (gate.output ∷ []) in grind (arith, nat_tests)
names_faultless gate last earlier n _ = refl

-- behind these statements a row of a gate with so many inputs may stand, if it lists the on-set
abbrev TakesRow : ℕ → List Statement → Type 0
TakesRow inputs statements = (bit : Option Bool) × (open_gate statements ≡ Some (record { inputs = inputs; bit = bit })) × (differs_from bit true ≡ false)

plane_all : (row : List ℕ) → AllByRecursion (λ c. IsTrue (is_plane_character c)) row → list_all is_plane_character row ≡ true
plane_all [] p = refl
plane_all (c ∷ cs) (p, ps) = ap (λ b. b && list_all is_plane_character cs) p ∙ plane_all cs ps

row_fits : (row : List ℕ) (inputs : ℕ) → IsPlane inputs row → is_row_for inputs (row_fields row) ≡ true
row_fits [] inputs p = let width = p.width in let none : eqb inputs 0 ≡ true = grind (arith, nat_tests) in ap (λ b. b && true) none
row_fits (c ∷ cs) inputs p =
    let width = p.width in
    let some : leb 1 inputs ≡ true = grind (arith, nat_tests) in
    let same : eqb (length (c ∷ cs)) inputs ≡ true = grind (arith, nat_tests) in
    rw (some, same, plane_all (c ∷ cs) p.characters) refl

bit_of-row : (row : List ℕ) → bit_of (row_fields row) ≡ true
bit_of-row [] = refl
bit_of-row (c ∷ cs) = refl

row_faultless : (row : List ℕ) (inputs : ℕ) (last : Statement) (earlier : List Statement) → IsPlane inputs row → TakesRow inputs (last ∷ earlier) → IsFaultlessBehind last earlier (row_statement row)
row_faultless row inputs last earlier p (bit, gate, same) n BadFields = rw gate refl
row_faultless row inputs last earlier p (bit, gate, same) n BadRow =
    ap (λ g. is_bad_row_of g (row_fields row)) gate ∙ ap not (row_fits row inputs p)
row_faultless row inputs last earlier p (bit, gate, same) n MixedCover =
    ap (λ g. mixes_cover_of g (bit_of (row_fields row))) gate ∙ (ap (differs_from bit) (bit_of-row row) ∙ same)
row_faultless row inputs last earlier p takes n _ = refl

-- behind a row that lists the on-set another may stand
takes_more : (row : List ℕ) (inputs : ℕ) (statements : List Statement) → TakesRow inputs statements → TakesRow inputs (row_statement row ∷ statements)
takes_more row inputs statements (None, gate, same) = (Some true, rw (gate, bit_of-row row) refl, refl)
takes_more row inputs statements (Some first, gate, same) = (Some first, rw gate refl, same)

rows_faultless : (n : ℕ) (last : Statement) (earlier : List Statement) (rows : List (List ℕ)) (inputs : ℕ) (rest : List Statement) → AllByRecursion (IsPlane inputs) rows → TakesRow inputs (last ∷ earlier) → AreFaultlessAnywhere rest → AreFaultless (last ∷ earlier) (on_lines n (map row_statement rows ++ rest))
rows_faultless n last earlier [] inputs rest p takes more = more n last earlier
rows_faultless n last earlier (row ∷ rows) inputs rest (p, ps) takes more = (
  row_faultless row inputs last earlier p takes n,
  rows_faultless (n + 1) (row_statement row) (last ∷ earlier) rows inputs rest ps (takes_more row inputs (last ∷ earlier) takes) more,
)

gates_faultless : (gates : List Gate) → AllByRecursion IsWritableGate gates → AreFaultlessAnywhere (flat_map gate_statements gates)
gates_faultless [] p n last earlier = tt
gates_faultless (gate ∷ gates) (p, ps) n last earlier =
    let names : List (List ℕ) = gate.inputs ++ gate.output ∷ [] in
    let width : length names - 1 ≡ length gate.inputs = omega (arith, length-append gate.inputs (gate.output ∷ [])) in
    let takes : TakesRow (length gate.inputs) (Names names ∷ last ∷ earlier) = (None, rw width refl, refl) in (
      names_faultless gate last earlier n,
      rows_faultless (n + 1) (Names names) (last ∷ earlier) gate.rows (length gate.inputs) (flat_map gate_statements gates) p.rows takes (gates_faultless gates ps),
    )

latches_faultless : (clock : Option (List ℕ)) (latches : List Latch) (rest : List Statement) → Controls clock → AreFaultlessAnywhere rest
    → (n : ℕ) (last : Statement) (earlier : List Statement) → HasOneClock clock (last ∷ earlier) → AreFaultless (last ∷ earlier) (on_lines n (map (latch_statement clock) latches ++ rest))
latches_faultless clock [] rest controls more n last earlier one = more n last earlier
latches_faultless clock (latch ∷ latches) rest controls more n last earlier one = (
  latch_faultless clock latch last earlier controls one n,
  latches_faultless clock latches rest controls more (n + 1) (latch_statement clock latch) (last ∷ earlier) (still_one clock latch (last ∷ earlier) controls one),
)

model_faultless : (n : ℕ) (name : List ℕ) → IsFaultless [] (record { number = n; bad = false; says = Model (name ∷ []) })
model_faultless n name BadByte = refl
model_faultless n name _ = refl

inputs_faultless : (names : List (List ℕ)) (last : Statement) (earlier : List Statement) → IsFaultlessBehind last earlier (Inputs names)
inputs_faultless names last earlier n BadByte = refl
inputs_faultless names last earlier n _ = refl

outputs_faultless : (names : List (List ℕ)) (last : Statement) (earlier : List Statement) → IsFaultlessBehind last earlier (Outputs names)
outputs_faultless names last earlier n BadByte = refl
outputs_faultless names last earlier n _ = refl

-- the first three statements name no clock
none_yet : (clock : Option (List ℕ)) (model inputs outputs : List (List ℕ)) → HasOneClock clock (Outputs outputs ∷ Inputs inputs ∷ Model model ∷ [])
none_yet None model inputs outputs = tt
none_yet (Some name) model inputs outputs = refl

-- no statement of a network has a fault
pub net_faultless : (n : ℕ) (design : Design) (N : Network) → IsWritable N → Controls design.clock → AreFaultless [] (on_lines n (net_statements design N))
net_faultless n design N w controls =
    let model : Statement = Model (design.model ∷ []) in (
      model_faultless n design.model,
      (
        inputs_faultless N.inputs model [] (n + 1),
        (
          outputs_faultless N.outputs (Inputs N.inputs) (model ∷ []) (n + 1 + 1),
          latches_faultless design.clock N.latches (flat_map gate_statements N.gates) controls (gates_faultless N.gates w.gates) (n + 1 + 1 + 1) (Outputs N.outputs) (Inputs N.inputs ∷ model ∷ [])
              (none_yet design.clock (design.model ∷ []) N.inputs N.outputs),
        ),
      ),
    )

-- what no row gives, no rows give
flat_map-rows : {X : Type 0} (f : Statement → List X) (rows : List (List ℕ)) (rest : List Statement) → ((fields : List (List ℕ)) → f (Row fields) ≡ []) → flat_map f (map row_statement rows ++ rest) ≡ flat_map f rest
flat_map-rows f [] rest none = refl
flat_map-rows f (row ∷ rows) rest none = rw (none (row_fields row)) (flat_map-rows f rows rest none)

flat_map-gates : {X : Type 0} (f : Statement → List X) (gates : List Gate) → ((names : List (List ℕ)) → f (Names names) ≡ []) → ((fields : List (List ℕ)) → f (Row fields) ≡ []) → flat_map f (flat_map gate_statements gates) ≡ []
flat_map-gates f [] no_names no_rows = refl
flat_map-gates f (gate ∷ gates) no_names no_rows =
    rw (no_names (gate.inputs ++ gate.output ∷ [])) (flat_map-rows f gate.rows (flat_map gate_statements gates) no_rows ∙ flat_map-gates f gates no_names no_rows)

-- what no latch, no names and no row give, the tail does not
pub flat_map-tail : {X : Type 0} (f : Statement → List X) (clock : Option (List ℕ)) (latches : List Latch) (gates : List Gate) → ((latch : Latch) → f (latch_statement clock latch) ≡ [])
    → ((names : List (List ℕ)) → f (Names names) ≡ []) → ((fields : List (List ℕ)) → f (Row fields) ≡ []) → flat_map f (tail_statements clock latches gates) ≡ []
flat_map-tail f clock [] gates no_latch no_names no_rows = flat_map-gates f gates no_names no_rows
flat_map-tail f clock (latch ∷ latches) gates no_latch no_names no_rows = rw (no_latch latch) (flat_map-tail f clock latches gates no_latch no_names no_rows)

-- the clocks of the statements: all are the one clock
pub all_clocks : (name : List ℕ) (latches : List Latch) (gates : List Gate) → bytes_eq name no_control ≡ false → AllByRecursion (λ clock. clock ≡ name) (flat_map clocks_in (tail_statements (Some name) latches gates))
all_clocks name [] gates controls = rw (flat_map-gates clocks_in gates (λ _. refl) (λ _. refl)) tt
all_clocks name (latch ∷ latches) gates controls = rw controls (refl, all_clocks name latches gates controls)

filter_map-rows : (rows : List (List ℕ)) (rest : List Statement) → filter_map latch_in (map row_statement rows ++ rest) ≡ filter_map latch_in rest
filter_map-rows [] rest = refl
filter_map-rows (row ∷ rows) rest = filter_map-rows rows rest

filter_map-gates : (gates : List Gate) → filter_map latch_in (flat_map gate_statements gates) ≡ []
filter_map-gates [] = refl
filter_map-gates (gate ∷ gates) = filter_map-rows gate.rows (flat_map gate_statements gates) ∙ filter_map-gates gates

-- the latches are read as they are written
pub latches_read : (clock : Option (List ℕ)) (latches : List Latch) (gates : List Gate) → filter_map latch_in (tail_statements clock latches gates) ≡ latches
latches_read clock [] gates = filter_map-gates gates
latches_read clock (latch ∷ latches) gates = rw (latch_in-statement clock latch) (ap (λ ls. latch ∷ ls) (latches_read clock latches gates))

-- the planes of the rows
map-plane_of : (rows : List (List ℕ)) → map plane_of (map row_fields rows) ≡ rows
map-plane_of [] = refl
map-plane_of ([] ∷ rows) = ap (λ rs. [] ∷ rs) (map-plane_of rows)
map-plane_of ((c ∷ cs) ∷ rows) = ap (λ rs. (c ∷ cs) ∷ rs) (map-plane_of rows)

lists_on-rows : (rows : List (List ℕ)) → lists_on (map row_fields rows) ≡ true
lists_on-rows [] = refl
lists_on-rows (row ∷ rows) = bit_of-row row

-- a gate is read as it is written
gate_from-fields : (gate : Gate) → gate.on ≡ true → gate_from (gate.inputs ++ gate.output ∷ []) (map row_fields gate.rows) ≡ gate
gate_from-fields gate on =
    let n : length (gate.inputs ++ gate.output ∷ []) - 1 ≡ length gate.inputs = omega (arith, length-append gate.inputs (gate.output ∷ [])) in
    rw (n, take-append_seam gate.inputs (gate.output ∷ []), get_or-append_seam gate.inputs gate.output [] [], map-plane_of gate.rows, lists_on-rows gate.rows)
    (ap (λ on. record { inputs = gate.inputs; output = gate.output; rows = gate.rows; on = on }) (sym on))

-- the rows of a gate are those before the next statement that is none
rows_of-rows : (rows : List (List ℕ)) (rest : List Statement) → rows_of rest ≡ [] → rows_of (map row_statement rows ++ rest) ≡ map row_fields rows
rows_of-rows [] rest stop = stop
rows_of-rows (row ∷ rows) rest stop = ap (λ rs. row_fields row ∷ rs) (rows_of-rows rows rest stop)

rows_of-gates : (gates : List Gate) → rows_of (flat_map gate_statements gates) ≡ []
rows_of-gates [] = refl
rows_of-gates (gate ∷ gates) = refl

gates_of-rows : (rows : List (List ℕ)) (rest : List Statement) → gates_of (map row_statement rows ++ rest) ≡ gates_of rest
gates_of-rows [] rest = refl
gates_of-rows (row ∷ rows) rest = gates_of-rows rows rest

gates_of-gates : (gates : List Gate) → AllByRecursion IsWritableGate gates → gates_of (flat_map gate_statements gates) ≡ gates
gates_of-gates [] p = refl
gates_of-gates (gate ∷ gates) (p, ps) =
    let rest : List Statement = flat_map gate_statements gates in
    rw (rows_of-rows gate.rows rest (rows_of-gates gates), gates_of-rows gate.rows rest)
    (ap (λ g. g ∷ gates_of rest) (gate_from-fields gate p.on) ∙ ap (λ gs. gate ∷ gs) (gates_of-gates gates ps))

-- the gates are read as they are written
pub gates_read : (clock : Option (List ℕ)) (latches : List Latch) (gates : List Gate) → AllByRecursion IsWritableGate gates → gates_of (tail_statements clock latches gates) ≡ gates
gates_read clock [] gates p = gates_of-gates gates p
gates_read clock (latch ∷ latches) gates p = gates_read clock latches gates p
