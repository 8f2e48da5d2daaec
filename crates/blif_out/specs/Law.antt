-- What the text that is written denotes.
use Rattle.std.specs.Prelude.{ℕ, List, ◌++◌}
use Rattle.std.specs.List.{flat_map, AllByRecursion}
use Rattle.hs_io.specs.Spelling.{ended, IsComment}
use Rattle.net_core.specs.declared.Network.{Network}
use Rattle.net_core.specs.Denotation.{Denotes}
use Rattle.blif_out.specs.declared.design.Design.{Design}
use Rattle.blif_out.specs.Design.{IsDesignOf}
use Rattle.blif_out.specs.NetText.{net_text}
use Rattle.blif_out.specs.Writable.{IsWritable}

-- the text of a network in a lawful design, after lines that are comments, denotes it
abbrev pub NetTextDenotes : Type 0
NetTextDenotes =
    (design : Design) (N : Network) (comments : List (List ℕ)) → IsWritable N → IsDesignOf N design → AllByRecursion IsComment comments
    → Denotes (flat_map ended comments ++ net_text design N) N
