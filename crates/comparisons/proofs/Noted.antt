-- Latches with their notes, as far as a loop has come.
use Rattle.std.proofs.Common.{◌≡◌, ℕ, ◌+◌, ◌<◌, ◌≤◌, List, [], ◌∷◌, ◌++◌, length, map, take, get_or, sum, sym, ap, ◌∙◌, arith}
use Rattle.std.specs.List.{flat_map, zip}
use Rattle.std.proofs.lemmas.List.{flat_map_more, take_all, take_more}
use Rattle.std.proofs.lemmas.Slice.Zip.{get_or-zip, length-zip}
use Rattle.blif_out.specs.declared.header.LatchNote.{LatchNote}
use Rattle.comparisons.proofs.Sums.{sum_all, sum_more}
use Rattle.comparisons.specs.Counts.{latch_reads, output_apart, outputs_apart, outputs_of, reads_across, reads_of}
use Rattle.net_core.specs.declared.Gate.{Gate}
use Rattle.net_core.specs.declared.Latch.{Latch}
use Rattle.net_core.specs.declared.Network.{Network}

module _ (latches : List Latch) (notes : List LatchNote) (same : length latches ≡ length notes) (i : ℕ) (latch : Latch) (note : LatchNote) (within : i < length latches)
    (is_latch : get_or latches i latch ≡ latch) (is_note : get_or notes i note ≡ note) where
  within_notes : i < length notes
  within_notes = omega (arith, within, same)

  pub noted_within : i < length (zip latches notes)
  noted_within = omega (arith, within, same, length-zip latches notes)

  pub noted_is : get_or (zip latches notes) i (latch, note) ≡ (latch, note)
  noted_is =
      get_or-zip latches notes i (latch, note) within within_notes
      ∙ ap (λ (other : Latch). (other, get_or notes i note)) is_latch
      ∙ ap (λ (other : LatchNote). (latch, other)) is_note

  -- one latch more
  pub apart_more : (part : ℕ) (outputs new : List (List ℕ)) → outputs ≡ flat_map (output_apart part) (take i (zip latches notes)) → new ≡ outputs ++ output_apart part (latch, note) → new ≡ flat_map (output_apart part) (take (i + 1) (zip latches notes))
  apart_more part outputs new before pushed =
      pushed
      ∙ ap (λ (list : List (List ℕ)). list ++ output_apart part (latch, note)) before
      ∙ flat_map_more (output_apart part) [] (take i (zip latches notes)) (latch, note)
      ∙ ap (λ (list : List (Latch × LatchNote)). flat_map (output_apart part) list)
      (sym (take_more (zip latches notes) i (latch, note) noted_within ∙ ap (λ (noted : Latch × LatchNote). take i (zip latches notes) ++ noted ∷ []) noted_is))

  pub across_more : (gates : List Gate) (count more new : ℕ) → count ≡ sum (map (λ noted. reads_of gates noted.0.input (outputs_apart noted.1.part latches notes)) (take i (zip latches notes)))
      → more ≡ reads_of gates latch.input (outputs_apart note.part latches notes) → new ≡ count + more
      → new ≡ sum (map (λ noted. reads_of gates noted.0.input (outputs_apart noted.1.part latches notes)) (take (i + 1) (zip latches notes)))
  across_more gates count more new before here added =
      sum_more (λ (noted : Latch × LatchNote). reads_of gates noted.0.input (outputs_apart noted.1.part latches notes)) (zip latches notes) i (latch, note) count more new noted_within noted_is before here added

-- no latch more
module _ (latches : List Latch) (notes : List LatchNote) (i : ℕ) (done : length latches ≤ i) where
  all_noted : length (zip latches notes) ≤ i
  all_noted = omega (arith, done, length-zip latches notes)

  pub apart_all : (part : ℕ) (outputs : List (List ℕ)) → outputs ≡ flat_map (output_apart part) (take i (zip latches notes)) → outputs ≡ outputs_apart part latches notes
  apart_all part outputs before = before ∙ ap (λ (list : List (Latch × LatchNote)). flat_map (output_apart part) list) (take_all i (zip latches notes) all_noted)

  pub across_all : (gates : List Gate) (count : ℕ) → count ≡ sum (map (λ noted. reads_of gates noted.0.input (outputs_apart noted.1.part latches notes)) (take i (zip latches notes))) → count ≡ reads_across gates latches notes
  across_all gates count before =
      sum_all (λ (noted : Latch × LatchNote). reads_of gates noted.0.input (outputs_apart noted.1.part latches notes)) (zip latches notes) i count all_noted before

-- the reads of gates and latches that are those of a network
pub reads_counted : (N : Network) (gates : List Gate) (latches : List Latch) (outputs : List (List ℕ)) (count : ℕ) → gates ≡ N.gates → latches ≡ N.latches → outputs ≡ outputs_of latches
    → count ≡ sum (map (λ latch. reads_of gates latch.input outputs) latches) → count ≡ latch_reads N
reads_counted N gates latches outputs count same_gates same_latches are before =
    before
    ∙ ap (λ (list : List (List ℕ)). sum (map (λ (latch : Latch). reads_of gates latch.input list) latches)) are
    ∙ ap (λ (list : List Gate). sum (map (λ (latch : Latch). reads_of list latch.input (outputs_of latches)) latches)) same_gates
    ∙ ap (λ (list : List Latch). sum (map (λ (latch : Latch). reads_of N.gates latch.input (outputs_of list)) list)) same_latches
