-- What the parts of the work tell, put together.
use Rattle.std.proofs.Common.{◌≡◌, ℕ, zero, suc, ◌+◌, ◌<◌, List, [], ◌∷◌, ◌++◌, length, map, All, Contains, subst, arith}
use Rattle.std.specs.List.{AllZip, flat_map}
use Rattle.std.specs.List.Sorted.{IsPermutation}
use Rattle.std.proofs.lemmas.List.{get_or-map, length-map}
use Rattle.std.proofs.lemmas.List.Elements.{All-append, All-map}
use Rattle.net_core.specs.declared.Gate.{Gate}
use Rattle.net_core.specs.declared.Network.{Network}
use Rattle.net_core.specs.declared.gate_order.NumberedGate.{NumberedGate}
use Rattle.net_core.specs.declared.causes.NetFail.{NetFail}
use Rattle.net_core.specs.declared.causes.NetFail.TheVariants.{TwoDrivers, Undriven, Cycle, NoMemory}
use Rattle.net_core.specs.Causes.{AreOnce, IsCause, IsCycle, uses_of}
use Rattle.net_core.specs.Order.{AreAt, IsNumbered}
use Rattle.net_core.specs.SoundNetwork.{IsOrdered, Sound, driven_by, drivers_of}
use Rattle.net_core.specs.Inner.Failures.{TellsAgain, TellsOutside}
use Rattle.net_core.specs.Inner.Walk.{reads_of, ReadsWithin}
use Rattle.net_core.specs.Laws.Drivers.{count_drivers}
use Rattle.net_core.specs.Laws.Zipped.{zip_lengths}
use Rattle.net_core.proofs.Numbered.{all_stand, all_within, numbered_stand, outside_behind, outside_more}

pub inputs_within : (drivers : List (List ℕ)) (gates : List Gate) (numbered : List NumberedGate) → AllZip (IsNumbered drivers) gates numbered → All (λ gate. All (λ s. s < length drivers) gate.inputs.items) numbered
inputs_within drivers [] [] zip k d lt = absurd (omega arith)
inputs_within drivers [] (n ∷ numbered) zip k d lt = absurd zip
inputs_within drivers (g ∷ gates) [] zip k d lt = absurd zip
inputs_within drivers (g ∷ gates) (n ∷ numbered) (here, zip) zero d lt = all_within drivers n.inputs.items g.inputs here.inputs
inputs_within drivers (g ∷ gates) (n ∷ numbered) (here, zip) (suc k) d lt = inputs_within drivers gates numbered zip k d (omega arith)

gates_driven : (drivers : List (List ℕ)) (gates : List Gate) (numbered : List NumberedGate) → AllZip (IsNumbered drivers) gates numbered → All (λ gate. All (Contains drivers) gate.inputs) gates
gates_driven drivers [] [] zip k d lt = absurd (omega arith)
gates_driven drivers [] (n ∷ numbered) zip k d lt = absurd zip
gates_driven drivers (g ∷ gates) [] zip k d lt = absurd zip
gates_driven drivers (g ∷ gates) (n ∷ numbered) (here, zip) zero d lt = all_stand drivers n.inputs.items g.inputs here.inputs
gates_driven drivers (g ∷ gates) (n ∷ numbered) (here, zip) (suc k) d lt = gates_driven drivers gates numbered zip k d (omega arith)

pub cause_again : (N : Network) (fail : NetFail) → TellsAgain (drivers_of N) fail → IsCause N fail
cause_again N (TwoDrivers name) told = told
cause_again N (Undriven name) told = absurd told
cause_again N (Cycle names) told = absurd told
cause_again N NoMemory told = tt

pub cause_outside : (N : Network) (fail : NetFail) → AreOnce (drivers_of N) → TellsOutside (drivers_of N) (uses_of N) fail → IsCause N fail
cause_outside N (TwoDrivers name) once told = absurd told
cause_outside N (Undriven name) once told = (once, told)
cause_outside N (Cycle names) once told = absurd told
cause_outside N NoMemory once told = tt

pub told_moved : (these others names more : List (List ℕ)) (fail : NetFail) → these ≡ others → names ≡ more → TellsOutside these names fail → TellsOutside others more fail
told_moved these others names more fail is is' told =
    subst (λ list. TellsOutside others list fail) is' (subst (λ list. TellsOutside list names fail) is told)

pub at_moved : (these others names more : List (List ℕ)) (places : List ℕ) → these ≡ others → names ≡ more → AreAt these places names → AreAt others places more
at_moved these others names more places is is' at =
    subst (λ list. AreAt others places list) is' (subst (λ list. AreAt list places names) is at)

pub zip_moved : (these others : List (List ℕ)) (gates more : List Gate) (numbered : List NumberedGate) → these ≡ others → gates ≡ more → AllZip (IsNumbered these) gates numbered → AllZip (IsNumbered others) more numbered
zip_moved these others gates more numbered is is' zip =
    subst (λ list. AllZip (IsNumbered others) list numbered) is' (subst (λ list. AllZip (IsNumbered list) gates numbered) is zip)

-- all that numbered gates read is a signal
pub signals_within : (N : Network) (base : ℕ) (numbered : List NumberedGate) → base ≡ length N.inputs + length N.latches → AllZip (IsNumbered (drivers_of N)) N.gates numbered → ReadsWithin (base + length numbered) (reads_of numbered)
signals_within N base numbered is zip =
    let same : length (drivers_of N) ≡ base + length numbered = omega (arith, count_drivers N, is, zip_lengths (IsNumbered (drivers_of N)) N.gates numbered zip) in
    subst (λ n. ReadsWithin n (reads_of numbered)) same
    (All-map (λ inputs. All (λ s. s < length (drivers_of N)) inputs) (λ gate. gate.inputs.items) numbered (inputs_within (drivers_of N) N.gates numbered zip))

module _ (N : Network) (once : AreOnce (drivers_of N)) where
  pub cause_outputs : (fail : NetFail) → TellsOutside (drivers_of N) N.outputs fail → IsCause N fail
  cause_outputs fail told =
      cause_outside N fail once (outside_more (drivers_of N) N.outputs (map (λ latch. latch.input) N.latches ++ flat_map (λ gate. gate.inputs) N.gates) fail told)

  pub cause_latches : (outputs : List ℕ) (fail : NetFail) → AreAt (drivers_of N) outputs N.outputs → TellsOutside (drivers_of N) (map (λ latch. latch.input) N.latches) fail → IsCause N fail
  cause_latches outputs fail at told =
      let latches = map (λ latch. latch.input) N.latches in
      let gates = flat_map (λ gate. gate.inputs) N.gates in
      cause_outside N fail once (outside_behind (drivers_of N) N.outputs (latches ++ gates) fail (all_stand (drivers_of N) outputs N.outputs at)
      (outside_more (drivers_of N) latches gates fail told))

  pub cause_gates : (outputs latches : List ℕ) (fail : NetFail) → AreAt (drivers_of N) outputs N.outputs → AreAt (drivers_of N) latches (map (λ latch. latch.input) N.latches) → TellsOutside (drivers_of N) (flat_map (λ gate. gate.inputs) N.gates) fail → IsCause N fail
  cause_gates outputs latches fail at at_latches told =
      let names = map (λ latch. latch.input) N.latches in
      let gates = flat_map (λ gate. gate.inputs) N.gates in
      cause_outside N fail once (outside_behind (drivers_of N) N.outputs (names ++ gates) fail (all_stand (drivers_of N) outputs N.outputs at)
      (outside_behind (drivers_of N) names gates fail (all_stand (drivers_of N) latches names at_latches) told))

  module _ (outputs latches : List ℕ) (numbered : List NumberedGate) (at : AreAt (drivers_of N) outputs N.outputs) (at_latches : AreAt (drivers_of N) latches (map (λ latch. latch.input) N.latches)) (zip : AllZip (IsNumbered (drivers_of N)) N.gates numbered) where
    pub cause_cycle : (names : List (List ℕ)) → IsCycle N names → IsCause N (Cycle names)
    cause_cycle names cycle =
        let latch_names = map (λ latch. latch.input) N.latches in
        let gates = flat_map (λ gate. gate.inputs) N.gates in (
          once,
          All-append (Contains (drivers_of N)) N.outputs (latch_names ++ gates) (all_stand (drivers_of N) outputs N.outputs at)
              (All-append (Contains (drivers_of N)) latch_names gates (all_stand (drivers_of N) latches latch_names at_latches) (numbered_stand (drivers_of N) N.gates numbered zip)),
          cycle,
        )

    pub sound_from_order : (gates : List Gate) → IsPermutation N.gates gates → IsOrdered (driven_by N.gates) [] gates → Sound N
    sound_from_order gates moved ordered =
        let latch_names = map (λ latch. latch.input) N.latches in
        record {
          driven_once = once;
          outputs = all_stand (drivers_of N) outputs N.outputs at;
          latch_inputs = λ k d lt. subst (Contains (drivers_of N)) (get_or-map (λ latch. latch.input) N.latches k d [] lt)
              (all_stand (drivers_of N) latches latch_names at_latches k [] (omega (arith, lt, length-map N.latches (λ latch. latch.input))));
          gate_inputs = gates_driven (drivers_of N) N.gates numbered zip;
          order = (gates, moved, ordered);
        }
