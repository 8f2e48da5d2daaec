-- Where information flows as the parts say, the candidates of a latch permit it.
use Rattle.std.proofs.Common.{◌≡◌, ℕ, ◌<◌, refl, inl, inr, Bool, All, Contains, List, Some, length, get_or, slice_get, sym, subst}
use Rattle.list_facts.specs.Laws.Places.{item_at}
use Rattle.cubes.specs.Laws.Bits.{same_bits}
use Rattle.dependence.specs.Candidates.{IsCandidate}
use Rattle.dependence.specs.SufficientBits.{AgreeOn, next_value}
use Rattle.kiss_file.specs.declared.file.KissFile.{KissFile}
use Rattle.kiss_file.specs.Machine.{next}
use Rattle.machine_table.specs.NextStates.{NeverLeaves}
use Rattle.partition.specs.Partition.{Together}
use Rattle.state_codes.specs.declared.Codes.{Codes}
use Rattle.state_codes.specs.declared.split.Part.{Part}
use Rattle.state_codes.specs.Agreement.{CodesAgreeAt, AgreeOnPart}
use Rattle.state_codes.specs.Code.{IsCode}
use Rattle.state_codes.specs.Laws.Codes.{carrier_bits_tell, owner-lt, part_bits_tell}
use Rattle.state_codes.specs.Split.{IsPart}
use Rattle.decomposition.specs.Flow.{FlowPermits, Flows, TogetherInReads}
use Rattle.decomposition.specs.OwnPairs.{OwnPairsPermit}

module _ (W : KissFile) (parts : List Part) (codes : Codes) (lawful : All (IsPart (length W.states)) parts) (code : IsCode (length W.states) parts codes) (i : ℕ) (s t : ℕ) (in_s : s < length W.states) (in_t : t < length W.states)
    (agree : AgreeOn codes.words (IsCandidate parts codes i) s t) where
  abbrev owner : ℕ
  owner = get_or codes.owner i 0

  -- such states agree on the bits of the latch's part
  on_part : AgreeOnPart codes owner s t
  on_part c below owned = agree c (record { bit = below; open_to = inl owned })

  -- and are in one block of each carrier that it reads
  in_reads : (part : Part) → slice_get parts owner ≡ Some part → TogetherInReads parts part s t
  in_reads part at l other reads stands =
      (carrier_bits_tell (length W.states) parts codes lawful code l other stands s t in_s in_t).0
      (λ c below owned carried. agree c (record {
        bit = below;
        open_to = inr (record { carried = carried; reads = (part, at, subst (Contains part.reads) (sym owned) reads) });
      }))

  -- so their next states agree at the latch
  agree_next : NeverLeaves W → Flows W parts → i < codes.bits → (x : List Bool) → length x ≡ W.inputs → next_value W codes.words i s x ≡ next_value W codes.words i t x
  agree_next stays flows below x symbol =
      let found = item_at parts owner (owner-lt (length W.states) parts codes code i below) in
      let part : Part = found.0 in
      let tells = part_bits_tell (length W.states) parts codes lawful code owner part found.1 in
      let together : Together part.partition s t = (tells s t in_s in_t).0 on_part in
      let after : Together part.partition (next W s x) (next W t x) = flows owner part s t x found.1 in_s in_t symbol together (in_reads part found.1) in
      let at : CodesAgreeAt codes.words i (next W s x) (next W t x) = (tells (next W s x) (next W t x) (stays s x in_s symbol) (stays t x in_t symbol)).1 after i below refl in
      same_bits (get_or codes.words (next W s x) 0) (get_or codes.words (next W t x) 0) i i at

pub flow_permits : FlowPermits
flow_permits W parts codes lawful code stays flows i below s t x in_s in_t agree symbol =
    agree_next W parts codes lawful code i s t in_s in_t agree stays flows below x symbol

-- the bits that a gate reads permit what its pair leads to
pub own_pairs_permit : OwnPairsPermit
own_pairs_permit W N words i note gate stays own s t x in_s in_t agree symbol =
    let held : Together note.from s t = (own.from.together s t in_s in_t).1 agree in
    let after : Together note.to (next W s x) (next W t x) = own.pair s t x held symbol in
    same_bits (get_or words (next W s x) 0) (get_or words (next W t x) 0) i i ((own.to.together (next W s x) (next W t x) (stays s x in_s symbol) (stays t x in_t symbol)).0 after)
