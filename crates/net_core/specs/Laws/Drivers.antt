-- The names that a network drives, counted.
use Rattle.std.proofs.Common.{◌≡◌, ◌+◌, ◌++◌, length, length-append, map, arith}
use Rattle.std.proofs.lemmas.List.{length-map}
use Rattle.net_core.specs.declared.Network.{Network}
use Rattle.net_core.specs.SoundNetwork.{driven_by, drivers_of}

-- each input, latch and gate drives one name
pub count_drivers : (N : Network) → length (drivers_of N) ≡ (length N.inputs + length N.latches) + length N.gates
count_drivers N =
    let outs = map (λ latch. latch.output) N.latches in
    omega (
      arith,
      length-append N.inputs (outs ++ driven_by N.gates),
      length-append outs (driven_by N.gates),
      length-map N.latches (λ latch. latch.output),
      length-map N.gates (λ gate. gate.output),
    )
