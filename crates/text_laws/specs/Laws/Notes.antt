-- What the gates of latches read, and the codes, determine the notes of the latches, also where they are of two machines
-- with as many states.
use Rattle.std.proofs.Common.{◌≡◌, ◌↔◌, ◌∙◌, ℕ, ◌<◌, ◌≤◌, Contains, List, Some, length, slice_get, sym, subst, arith}
use Rattle.std.proofs.lemmas.Option.{slice_get_within}
use Rattle.list_facts.specs.Laws.Places.{item_at}
use Rattle.blif_out.specs.declared.header.LatchNote.{LatchNote}
use Rattle.decomposition.specs.OwnPairs.{HasOwnPair, IsReadPartition, OwnPairs, ReadsLatch}
use Rattle.decomposition.specs.Laws.Lists.{same_items}
use Rattle.dependence.specs.SufficientBits.{AgreeOn}
use Rattle.kiss_file.specs.declared.file.KissFile.{KissFile}
use Rattle.net_core.specs.declared.Gate.{Gate}
use Rattle.net_core.specs.declared.Latch.{Latch}
use Rattle.net_core.specs.declared.Network.{Network}
use Rattle.partition.specs.Partition.{IsPartition, Together}
use Rattle.partition.specs.Laws.Labels.{same_labels}
use Rattle.state_codes.specs.Agreement.{CodesAgreeAt, IsBitPartition}

-- a partition is one where it is told which states it holds together
pub partition_once : (n : ℕ) (p q : List ℕ) (Held : ℕ → ℕ → Type 0) → IsPartition n p → IsPartition n q
    → ((s t : ℕ) → s < n → t < n → Together p s t ↔ Held s t) → ((s t : ℕ) → s < n → t < n → Together q s t ↔ Held s t) → p ≡ q
partition_once n p q Held lawful also one other =
    same_labels p q lawful.numbered also.numbered (lawful.length ∙ sym also.length) (λ s t. (
      (λ held. let in_s : s < n = omega (arith, held.0, lawful.length) in let in_t : t < n = omega (arith, held.1, lawful.length) in
          (other s t in_s in_t).1 ((one s t in_s in_t).0 held)),
      (λ held. let in_s : s < n = omega (arith, held.0, also.length) in let in_t : t < n = omega (arith, held.1, also.length) in
          (one s t in_s in_t).1 ((other s t in_s in_t).0 held)),
    ))

same_note : (a b : ℕ) (c d e f : List ℕ) → a ≡ b → c ≡ d → e ≡ f
    → ◌≡◌ {A = LatchNote} (record { part = a; from = c; to = e }) (record { part = b; from = d; to = f })
same_note a b c d e f p q r = cc

-- gates with the same inputs, in networks with the same latches, read the same bits
same_bits : (N M : Network) (gate other : Gate) → N.latches ≡ M.latches → gate.inputs ≡ other.inputs → (c : ℕ) → ReadsLatch N gate c → ReadsLatch M other c
same_bits N M gate other latches inputs c (latch, there, is) = (
  latch,
  subst (λ (list : List Latch). slice_get list c ≡ Some latch) latches there,
  subst (λ (list : List (List ℕ)). Contains list latch.output) inputs is,
)

-- partitions by the bits that such gates read
from_once : (n : ℕ) (words p q : List ℕ) (N M : Network) (gate other : Gate) → N.latches ≡ M.latches → gate.inputs ≡ other.inputs
    → IsReadPartition n N gate words p → IsReadPartition n M other words q → p ≡ q
from_once n words p q N M gate other latches inputs one also =
    partition_once n p q (AgreeOn words (ReadsLatch N gate)) one.lawful also.lawful one.together
    (λ s t in_s in_t. (
      (λ held c reads. (also.together s t in_s in_t).0 held c (same_bits N M gate other latches inputs c reads)),
      (λ agree. (also.together s t in_s in_t).1 (λ c reads. agree c (same_bits M N other gate (sym latches) (sym inputs) c reads))),
    ))

-- partitions by one bit
to_once : (n : ℕ) (words : List ℕ) (i : ℕ) (p q : List ℕ) → IsBitPartition n words i p → IsBitPartition n words i q → p ≡ q
to_once n words i p q one also = partition_once n p q (CodesAgreeAt words i) one.lawful also.lawful one.together also.together

module _ (E D : KissFile) (states : length E.states ≡ length D.states) (words : List ℕ) (N M : Network) (latches : N.latches ≡ M.latches)
    (gates : (i : ℕ) (gate other : Gate) → slice_get N.gates i ≡ Some gate → slice_get M.gates i ≡ Some other → gate.inputs ≡ other.inputs) where
  -- the notes of latch i, with the part that owns its bit
  note_once : (i : ℕ) (note more : LatchNote) (gate other : Gate) → note.part ≡ more.part → gate.inputs ≡ other.inputs → HasOwnPair E N words i note gate → HasOwnPair D M words i more other → note ≡ more
  note_once i note more gate other part inputs one also =
      same_note note.part more.part note.from more.from note.to more.to part
      (from_once (length E.states) words note.from more.from N M gate other latches inputs one.from
      (subst (λ (n : ℕ). IsReadPartition n M other words more.from) (sym states) also.from))
      (to_once (length E.states) words i note.to more.to one.to (subst (λ (n : ℕ). IsBitPartition n words i more.to) (sym states) also.to))

  pub notes_once : (notes more : List LatchNote) → length notes ≡ length more → length N.gates ≡ length M.gates → length notes ≤ length N.gates
      → ((i : ℕ) (note another : LatchNote) → slice_get notes i ≡ Some note → slice_get more i ≡ Some another → note.part ≡ another.part)
      → OwnPairs E N words notes → OwnPairs D M words more → notes ≡ more
  notes_once notes more as_many size enough parts pairs also =
      same_items notes more as_many (λ i note another there there_too.
      let low : i < length notes = slice_get_within notes i note there in
      let gate = item_at N.gates i (omega (arith, low, enough)) in
      let twin = item_at M.gates i (omega (arith, low, enough, size)) in
      note_once i note another gate.0 twin.0 (parts i note another there there_too) (gates i gate.0 twin.0 gate.1 twin.1)
      (pairs.pairs i note gate.0 there gate.1) (also.pairs i another twin.0 there_too twin.1))
