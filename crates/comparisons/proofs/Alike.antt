-- Networks that are equal except for the rows of their gates have the same reads.
use Rattle.std.proofs.Common.{◌≡◌, ℕ, cond, List, [], ◌∷◌, count_by, get_or, map, sum, refl, ap, ◌∙◌, arith}
use Rattle.std.specs.List.{AllZip, list_any, zip}
use Rattle.std.specs.Str.{bytes_eq}
use Rattle.list_facts.specs.Laws.Everywhere.{map_same}
use Rattle.blif_out.specs.declared.header.LatchNote.{LatchNote}
use Rattle.comparisons.proofs.Sums.{sum_of-cons}
use Rattle.comparisons.specs.Counts.{latch_reads, outputs_apart, outputs_of, reads_across, reads_by, reads_of}
use Rattle.net_core.specs.declared.Gate.{Gate}
use Rattle.net_core.specs.declared.Latch.{Latch}
use Rattle.net_core.specs.declared.Network.{Network}
use Rattle.text_laws.specs.Rows.{EqualButForRows, HasSameSignals}

module _ (signal : List ℕ) (outputs : List (List ℕ)) where
  same_by : (gate other : Gate) → HasSameSignals gate other → reads_by signal outputs gate ≡ reads_by signal outputs other
  same_by gate other same =
      ap (λ (output : List ℕ). cond (bytes_eq output signal) (count_by (λ (name : List ℕ). list_any (bytes_eq name) outputs) gate.inputs) 0) same.output
      ∙ ap (λ (inputs : List (List ℕ)). cond (bytes_eq other.output signal) (count_by (λ (name : List ℕ). list_any (bytes_eq name) outputs) inputs) 0) same.inputs

  same_reads : (gates more : List Gate) → AllZip HasSameSignals gates more → reads_of gates signal outputs ≡ reads_of more signal outputs
  same_reads [] [] all = refl
  same_reads [] (other ∷ more) all = absurd all
  same_reads (gate ∷ gates) [] all = absurd all
  same_reads (gate ∷ gates) (other ∷ more) (here, rest) =
      omega (arith, sum_of-cons (reads_by signal outputs) gate gates, sum_of-cons (reads_by signal outputs) other more, same_by gate other here, same_reads gates more rest)

module _ (N M : Network) (equal : EqualButForRows N M) where
  pub reads_once : latch_reads N ≡ latch_reads M
  reads_once =
      ap (λ (counts : List ℕ). sum counts)
      (map_same (λ (latch : Latch). reads_of N.gates latch.input (outputs_of N.latches)) (λ (latch : Latch). reads_of M.gates latch.input (outputs_of N.latches)) N.latches
      (λ i latch within. same_reads (get_or N.latches i latch).input (outputs_of N.latches) N.gates M.gates equal.gates))
      ∙ ap (λ (latches : List Latch). sum (map (λ (latch : Latch). reads_of M.gates latch.input (outputs_of latches)) latches)) equal.latches

  pub across_once : (notes : List LatchNote) → reads_across N.gates N.latches notes ≡ reads_across M.gates M.latches notes
  across_once notes =
      ap (λ (counts : List ℕ). sum counts)
      (map_same (λ (noted : Latch × LatchNote). reads_of N.gates noted.0.input (outputs_apart noted.1.part N.latches notes))
      (λ (noted : Latch × LatchNote). reads_of M.gates noted.0.input (outputs_apart noted.1.part N.latches notes))
      (zip N.latches notes)
      (λ i noted within.
      let at : Latch × LatchNote = get_or (zip N.latches notes) i noted in
      same_reads at.0.input (outputs_apart at.1.part N.latches notes) N.gates M.gates equal.gates))
      ∙ ap (λ (latches : List Latch). reads_across M.gates latches notes) equal.latches
