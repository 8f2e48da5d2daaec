-- Worked texts, and the faults for which they are refused.
use Rattle.std.specs.Prelude.{ℕ, List, [], ◌∷◌, codes, replicate}
use Rattle.std.specs.List.{flat_map}
use Rattle.hs_io.specs.Spelling.{ended}
use Rattle.net_core.specs.declared.Network.{Network}
use Rattle.net_core.specs.Blif.{Blif}
use Rattle.blif_in.specs.declared.fault.BlifKind.{BlifKind}
use Rattle.blif_in.specs.Text.{IsBlifFault}

-- the text of these lines
abbrev pub text : List (List ℕ) → List ℕ
text lines = flat_map ended lines

-- the text is refused for a fault of this kind at this line
abbrev pub IsRefused : List (List ℕ) → ℕ → BlifKind → Type 0
IsRefused lines number kind = IsBlifFault (text lines) (record { line = number; kind = kind })

-- the text is that of this network, which is sound and within the limits
abbrev pub IsRead : List (List ℕ) → Network → Type 0
IsRead lines N = Blif (text lines) N

-- a name of n bytes
abbrev pub long : ℕ → List ℕ
long bytes = replicate bytes 97

-- n names of one byte, each after a space
abbrev pub many : ℕ → List ℕ
many names = flat_map (λ name. 32 ∷ name) (replicate names (97 ∷ []))

-- three gates, each of which reads the next one, and the last the first
abbrev pub cycle_lines : List (List ℕ)
cycle_lines = codes ".model m" ∷ codes ".names b a" ∷ codes "1 1" ∷ codes ".names c b" ∷ codes "1 1" ∷ codes ".names a c" ∷ codes "1 1" ∷ []
