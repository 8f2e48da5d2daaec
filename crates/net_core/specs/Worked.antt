-- Small networks, whose names are letters, and small BLIF texts.
use Rattle.std.specs.Prelude.{ℕ, Bool, true, false, List, [], ◌∷◌, map, codes, replicate}
use Rattle.net_core.specs.declared.Gate.{Gate}
use Rattle.net_core.specs.declared.Latch.{Latch}
use Rattle.net_core.specs.declared.Network.{Network}
use Rattle.net_core.specs.declared.Start.{Start}
use Rattle.net_core.specs.declared.Start.TheVariants.{Zero, One, Free, Unknown}
use Rattle.net_core.specs.Denotation.{Denotes}
use Rattle.net_core.specs.Step.{Step}

-- the bytes denote no network
abbrev pub DenotesNothing : List ℕ → Type 0
DenotesNothing bytes = (N : Network) → Denotes bytes N → ⊥

-- each byte as a name
abbrev pub letters : List ℕ → List (List ℕ)
letters text = map (λ letter. letter ∷ []) text

abbrev pub latch : List ℕ → List ℕ → Start → Latch
latch input output start = record { input = input; output = output; start = start }

abbrev pub gate : List ℕ → List ℕ → List (List ℕ) → Bool → Gate
gate inputs output rows on = record { inputs = letters inputs; output = output; rows = rows; on = on }

abbrev pub network : List ℕ → List ℕ → List Latch → List Gate → Network
network inputs outputs latches gates = record { inputs = letters inputs; outputs = letters outputs; latches = latches; gates = gates }

abbrev pub empty_network : Network
empty_network = network [] [] [] []

-- a name of 65 bytes, and a network with this input
abbrev pub long_name : List ℕ
long_name = replicate 65 97

abbrev pub one_input : List ℕ → Network
one_input name = record { inputs = name ∷ []; outputs = []; latches = []; gates = [] }

-- Comments, blank lines, and lines that end in a backslash: before a comment and a carriage return, before a line without
-- fields, and at the end of the text.
abbrev pub joined_text : List ℕ
joined_text =
    codes "# \u{1}\n\n.model m # \u{1}\n.inputs a \\ # and\r\n\tb\\\n c\n.outputs z \\\n\n.names a b c z\n1-1 1\n.outputs y\\"

abbrev pub joined_network : Network
joined_network = network (codes "abc") (codes "zy") [] (gate (codes "abc") (codes "z") (codes "1-1" ∷ []) true ∷ [])

-- a latch of each start, and one without
abbrev pub starts_text : List ℕ
starts_text = codes ".model m\n.inputs a\n.latch a p 0\n.latch a q 1\n.latch a r 2\n.latch a s 3\n.latch a t\n.end\n"

abbrev pub starts_network : Network
starts_network =
    network (codes "a") []
    (latch (codes "a") (codes "p") Zero ∷ latch (codes "a") (codes "q") One ∷ latch (codes "a") (codes "r") Free ∷ latch (codes "a") (codes "s") Unknown ∷ latch (codes "a") (codes "t") Unknown ∷ [])
    []

-- latches with a type and a control, and with or without a start
abbrev pub controls_text : List ℕ
controls_text = codes ".model m\n.inputs a c\n.latch a p re c 1\n.clock c\n.latch a q re c\n.latch a r re NIL 0\n.latch a s 1\n"

abbrev pub controls_network : Network
controls_network =
    network (codes "ac") []
    (latch (codes "a") (codes "p") One ∷ latch (codes "a") (codes "q") Unknown ∷ latch (codes "a") (codes "r") Zero ∷ latch (codes "a") (codes "s") One ∷ [])
    []

-- gates that list their on-set or their off-set, and gates without rows or without inputs
abbrev pub gates_text : List ℕ
gates_text =
    codes ".model m\n.inputs a b\n.names a b u\n1- 1\n-1 1\n.names b a v\n0- 0\n-0 0\n.names a w\n.names x\n.names y\n1\n.names z\n0\n"

abbrev pub gates_network : Network
gates_network =
    network (codes "ab") [] []
    (gate (codes "ab") (codes "u") (codes "1-" ∷ codes "-1" ∷ []) true
    ∷ gate (codes "ba") (codes "v") (codes "0-" ∷ codes "-0" ∷ []) false
    ∷ gate (codes "a") (codes "w") [] true
    ∷ gate [] (codes "x") [] true
    ∷ gate [] (codes "y") ([] ∷ []) true
    ∷ gate [] (codes "z") ([] ∷ []) false
    ∷ [])

-- the network has no step for these latch values and this symbol
abbrev pub HasNoStep : Network → List Bool → List Bool → Type 0
HasNoStep N state symbol = (answer next : List Bool) → Step N state symbol answer next → ⊥

-- the latch changes where the input is 1, and the output is its next value
abbrev pub toggle : Network
toggle =
    network (codes "a") (codes "d") (latch (codes "c") (codes "b") Zero ∷ [])
    (gate (codes "ab") (codes "c") (codes "01" ∷ codes "10" ∷ []) true ∷ gate (codes "ab") (codes "d") (codes "01" ∷ codes "10" ∷ []) true ∷ [])

-- the first output is 1 where the first input is 1 and the second is 0, and the second output is the second input
abbrev pub unlike : Network
unlike =
    network (codes "ab") (codes "yz") []
    (gate (codes "ab") (codes "y") (codes "10" ∷ []) true ∷ gate (codes "b") (codes "z") (codes "1" ∷ []) true ∷ [])

-- a gate that reads a later one
abbrev pub reads_later : Network
reads_later =
    network (codes "a") (codes "c") []
    (gate (codes "b") (codes "c") (codes "0" ∷ []) true ∷ gate (codes "a") (codes "b") (codes "1" ∷ []) true ∷ [])

-- a gate that has the opposite of its own value, and one that has its own value
abbrev pub own_contrary : Network
own_contrary = network (codes "a") (codes "b") [] (gate (codes "b") (codes "b") (codes "0" ∷ []) true ∷ [])

abbrev pub own_value : Network
own_value = network (codes "a") (codes "b") [] (gate (codes "b") (codes "b") (codes "1" ∷ []) true ∷ [])
