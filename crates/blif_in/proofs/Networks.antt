-- Networks by their lists.
use Rattle.std.proofs.Common.{◌≡◌, ℕ, List}
use Rattle.net_core.specs.declared.Gate.{Gate}
use Rattle.net_core.specs.declared.Latch.{Latch}
use Rattle.net_core.specs.declared.Network.{Network}

abbrev pub net : List (List ℕ) → List (List ℕ) → List Latch → List Gate → Network
net inputs outputs latches gates = record { inputs = inputs; outputs = outputs; latches = latches; gates = gates }

pub same_network : (inputs inputs' outputs outputs' : List (List ℕ)) (latches latches' : List Latch) (gates gates' : List Gate) → inputs ≡ inputs' → outputs ≡ outputs' → latches ≡ latches' → gates ≡ gates'
    → net inputs outputs latches gates ≡ net inputs' outputs' latches' gates'
same_network inputs inputs' outputs outputs' latches latches' gates gates' p q r s = cc
