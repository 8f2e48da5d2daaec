-- Partitions that tell which states words bring to one, and M of them.
use Rattle.std.proofs.Common.{◌≡◌, ℕ, zero, suc, ◌+◌, ◌<◌, inl, inr, List, length, refl, sym, subst, arith}
use Rattle.std.proofs.lemmas.Bool.{cases_eq, cases_lt}
use Rattle.kiss_file.specs.declared.file.KissFile.{KissFile}
use Rattle.kiss_file.specs.Machine.{next}
use Rattle.machine_table.specs.NextStates.{NeverLeaves}
use Rattle.partition.specs.Laws.Holds.{hold_exists}
use Rattle.pair_operators.specs.Extremes.{IsHigh}
use Rattle.pair_operators.specs.NextBlocks.{Goes}
use Rattle.pair_operators.specs.Laws.Going.{goes_each, goes_from, goes_itself, goes_turned}
use Rattle.partition.specs.Laws.Chains.{together_turned}
use Rattle.partition.specs.Partition.{IsHold, IsPartition, IsZero, Le, Together}
use Rattle.shift_real.specs.Chain.{TellsAfter}
use Rattle.shift_real.specs.Words.{MeetAfter}
use Rattle.shift_real.proofs.Meeting.{meet_at_once, meets_from_steps, meets_long, meets_next, same_meet, steps_from_meets}

itself : (n : ℕ) (p : List ℕ) (s t : ℕ) → IsPartition n p → s < n → s ≡ t → Together p s t
itself n p s t lawful within same =
    let inside : s < length p = omega (arith, within, lawful.length) in
    subst (λ (u : ℕ). Together p s u) same (inside, inside, refl)

-- ---- two states that go together in p are together in M(p)
held_go : (F : KissFile) (p hold : List ℕ) (s t : ℕ) → NeverLeaves F → length p ≡ length F.states → Goes F p s t → IsHold (length F.states) s t hold → (u v : ℕ) → Together hold u v → Goes F p u v
held_go F p hold s t stays size goes is u v held =
    elim (is.nothing_else u v held) [
      | inl same ↦ subst (λ (k : ℕ). Goes F p u k) same (goes_itself F p u stays size (omega (arith, held.0, is.lawful.length)))
      | inr rest ↦ elim rest [
        | inl (first, second) ↦ subst (λ (k : ℕ). Goes F p u k) (sym second) (subst (λ (k : ℕ). Goes F p k t) (sym first) goes)
        | inr (first, second) ↦ subst (λ (k : ℕ). Goes F p u k) (sym second) (subst (λ (k : ℕ). Goes F p k s) (sym first) (goes_turned F p s t goes))
      ]
    ]

high_ordered : (F : KissFile) (p q : List ℕ) (s t : ℕ) → NeverLeaves F → length p ≡ length F.states → IsHigh F p q → s < t → t < length F.states → Goes F p s t → Together q s t
high_ordered F p q s t stays size high order within goes =
    let hold = hold_exists (length F.states) s t high.lawful.count order within in
    high.greatest hold.0 hold.1.lawful (λ u v x held long. goes_each F p u v (held_go F p hold.0 s t stays size goes hold.1 u v held) x long) s t hold.1.held

high_holds : (F : KissFile) (p q : List ℕ) (s t : ℕ) → NeverLeaves F → length p ≡ length F.states → IsHigh F p q → s < length F.states → t < length F.states → Goes F p s t → Together q s t
high_holds F p q s t stays size high in_s in_t goes =
    elim (cases_eq s t) [
      | inl same ↦ itself (length F.states) q s t high.lawful in_s same
      | inr other ↦ elim (cases_lt s t) [
        | inl before ↦ high_ordered F p q s t stays size high before in_t goes
        | inr behind ↦ together_turned q t s (high_ordered F p q t s stays size high (omega arith) in_s (goes_turned F p s t goes))
      ]
    ]

-- ---- zero tells of no symbols, and M of one symbol more
pub zero_tells : (F : KissFile) (p : List ℕ) → IsPartition (length F.states) p → IsZero p → TellsAfter F 0 p
zero_tells F p lawful none s t in_s in_t = (λ held. same_meet F 0 s t (none s t held), λ meets. itself (length F.states) p s t lawful in_s (meet_at_once F s t meets))

pub high_tells : (F : KissFile) (j : ℕ) (p q : List ℕ) → NeverLeaves F → IsPartition (length F.states) p → IsHigh F p q → TellsAfter F j p → TellsAfter F (j + 1) q
high_tells F j p q stays lawful high tells s t in_s in_t =
    let e : suc j ≡ j + 1 = omega arith in (
      λ held.
          subst (λ (n : ℕ). MeetAfter F n s t) e
          (meets_from_steps F j s t (λ x long. (tells (next F s x) (next F t x) (stays s x in_s long) (stays t x in_t long)).0 (high.pair s t x held long))),
      λ meets.
          let meets' : MeetAfter F (suc j) s t = subst (λ (n : ℕ). MeetAfter F n s t) (sym e) meets in
          high_holds F p q s t stays lawful.length high in_s in_t
          (goes_from F p s t (λ x long. (tells (next F s x) (next F t x) (stays s x in_s long) (stays t x in_t long)).1 (steps_from_meets F j s t meets' x long))),
    )

-- so each is below the next
pub tells_below : (F : KissFile) (j : ℕ) (p q : List ℕ) → IsPartition (length F.states) p → TellsAfter F j p → TellsAfter F (j + 1) q → Le p q
tells_below F j p q lawful tells later s t held =
    let in_s : s < length F.states = omega (arith, held.0, lawful.length) in
    let in_t : t < length F.states = omega (arith, held.1, lawful.length) in
    (later s t in_s in_t).1 (meets_next F j s t ((tells s t in_s in_t).0 held))

-- ---- what M leaves as it is tells of all longer words
fixed_tells : (F : KissFile) (j i : ℕ) (p : List ℕ) → NeverLeaves F → IsPartition (length F.states) p → IsHigh F p p → TellsAfter F j p → TellsAfter F (i + j) p
fixed_tells F j zero p stays lawful high tells = let e : j ≡ 0 + j = omega arith in subst (λ (n : ℕ). TellsAfter F n p) e tells
fixed_tells F j (suc i) p stays lawful high tells =
    let e : i + j + 1 ≡ suc i + j = omega arith in
    subst (λ (n : ℕ). TellsAfter F n p) e (high_tells F (i + j) p p stays lawful high (fixed_tells F j i p stays lawful high tells))

-- so words of every length keep apart what it holds apart
pub kept_apart : (F : KissFile) (j : ℕ) (p : List ℕ) (s t : ℕ) → NeverLeaves F → IsPartition (length F.states) p → IsHigh F p p → TellsAfter F j p → s < length F.states → t < length F.states
    → (Together p s t → ⊥) → (k : ℕ) → MeetAfter F k s t → ⊥
kept_apart F j p s t stays lawful high tells in_s in_t apart k meets =
    let e : j + k ≡ k + j = omega arith in
    apart ((fixed_tells F j k p stays lawful high tells s t in_s in_t).1 (subst (λ (n : ℕ). MeetAfter F n s t) e (meets_long F k j s t meets)))
