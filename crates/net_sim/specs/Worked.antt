-- Small networks, whose names are letters, and the only text of a run.
use Rattle.std.specs.Prelude.{◌≡◌, ℕ, Bool, true, List, [], ◌∷◌, Option, codes}
use Rattle.net_core.specs.declared.Network.{Network}
use Rattle.net_core.specs.declared.Start.{Start}
use Rattle.net_core.specs.declared.Start.TheVariants.{Zero}
use Rattle.net_core.specs.Worked.{gate, latch, network}
use Rattle.net_sim.specs.Run.{IsRun}

-- the text is that of a run, and no other text is
abbrev pub RunsOnlyTo : Network → Option (List ℕ) → List ℕ → List ℕ → Type 0
RunsOnlyTo N start symbols text = IsRun N start symbols text × ((other : List ℕ) → IsRun N start symbols other → other ≡ text)

-- a gate of one input with these rows, listed before the buffer whose output it reads
abbrev pub behind_buffer : List (List ℕ) → Bool → Network
behind_buffer rows on =
    network (codes "a") (codes "z") []
    (gate (codes "y") (codes "z") rows on ∷ gate (codes "a") (codes "y") (codes "1" ∷ []) true ∷ [])

-- the latch changes if the input is 1, and the output is the latch's value
abbrev pub latched : Network
latched =
    network (codes "x") (codes "z") (latch (codes "d") (codes "q") Zero ∷ [])
    (gate (codes "xq") (codes "d") (codes "01" ∷ codes "10" ∷ []) true ∷ gate (codes "q") (codes "z") (codes "1" ∷ []) true ∷ [])

-- two latches in a row with these starts, the second of which reads the first, and these outputs
abbrev pub started : List ℕ → Start → Start → Network
started outputs first second =
    network (codes "a") outputs (latch (codes "a") (codes "p") first ∷ latch (codes "p") (codes "q") second ∷ []) []

-- the second is the output
abbrev pub shifted : Network
shifted = started (codes "q") Zero Zero
