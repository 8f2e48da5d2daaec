-- A text has one fault at most, none where it is that of a partition, and it is the text of one partition.
use Rattle.std.proofs.Common.{◌≡◌, ℕ, suc, ◌+◌, ◌*◌, ◌^◌, ◌<◌, ◌≤◌, ◌⊎◌, List, [], ◌∷◌, Some, Result, Ok, Err, MatchResult, length, get_or, take, map, sym, ap, ◌∙◌, subst, inl, inr, arith}
use Rattle.std.proofs.lemmas.Bool.{cases_order}
use Rattle.std.proofs.lemmas.List.{length-append, length-map, get_or-map, take_all, get_or-take, length-take-le, ext_get_or}
use Rattle.std.proofs.lemmas.Option.{slice_get-get_or, slice_get_within, same_Some}
use Rattle.std.proofs.lemmas.Fmt.{decimal_injective, length-decimal-le}
use Rattle.std.specs.List.{slice_get}
use Rattle.std.specs.Fmt.{decimal}
use Rattle.partition.specs.declared.PartFail.{PartFail}
use Rattle.partition.specs.declared.PartFail.TheVariants.{Empty, NotCanonical, BadText, WrongLength, NoMemory}
use Rattle.partition.specs.Partition.{blocks_of, IsNumbered, IsPartition}
use Rattle.partition.specs.Text.{labels_text, pieces_of, BeginsWith, FirstBadPiece, OtherLength, TextFault}
use Rattle.partition.specs.Laws.Labels.{label-le}
use Rattle.partition.specs.Laws.Pieces.{length-pieces_of-le, pieces_of-labels_text}

-- a text that a slice can have
abbrev pub IsShort : List ℕ → Type 0
IsShort text = length text + 1 < 2 ^ 64

spelled_small : (text labels : List ℕ) → IsShort text → BeginsWith text labels → (place : ℕ) → place < length labels → get_or labels place 0 < 2 ^ 64
spelled_small text labels short begins place within =
    omega (arith, label-le labels begins.numbered place within, slice_get_within (pieces_of text) place (decimal (get_or labels place 0)) (begins.spelled place within), length-pieces_of-le text)

-- of two readings the shorter is the front of the longer
begins_front : (text xs ys : List ℕ) → IsShort text → BeginsWith text xs → BeginsWith text ys → length xs ≤ length ys → xs ≡ take (length xs) ys
begins_front text xs ys short one two fewer =
    ext_get_or 0 xs (take (length xs) ys) (sym (length-take-le (length xs) ys fewer)) (λ place within.
    decimal_injective (get_or xs place 0) (get_or ys place 0) (spelled_small text xs short one place within) (spelled_small text ys short two place (omega arith)) (same_Some (decimal (get_or xs place 0)) (decimal (get_or ys place 0)) (sym (one.spelled place within) ∙ two.spelled place (omega arith))) ∙ sym (get_or-take (length xs) ys place 0 within))

-- no reading goes past a bad piece
bad_stops : (text : List ℕ) (place : ℕ) (ys : List ℕ) → IsShort text → FirstBadPiece text place → BeginsWith text ys → place < length ys → ⊥
bad_stops text place ys short fault begins within =
    let front : fault.labels ≡ take place ys = subst (λ (k : ℕ). fault.labels ≡ take k ys) fault.size (begins_front text fault.labels ys short fault.begins begins (omega (arith, fault.size))) in
    fault.bad (get_or ys place 0) (omega (arith, begins.numbered place within, ap blocks_of front)) (begins.spelled place within)

length-labels_text-ge : (labels : List ℕ) → length labels ≤ length (labels_text labels) + 1
length-labels_text-ge [] = omega arith
length-labels_text-ge (label ∷ []) = omega arith
length-labels_text-ge (label ∷ next ∷ labels) =
    omega (arith, length-append (decimal label) (44 ∷ labels_text (next ∷ labels)), length-labels_text-ge (next ∷ labels))

-- how a text of labels is read
record IsSpelled (text labels : List ℕ) : Type 0 where
  begins : BeginsWith text labels
  size : length (pieces_of text) ≡ length labels

is_spelled : (text labels : List ℕ) → IsShort text → IsNumbered labels → 0 < length labels → text ≡ labels_text labels → IsSpelled text labels
is_spelled text labels short numbered some is =
    let pieces : pieces_of text ≡ map decimal labels = ap pieces_of is ∙ pieces_of-labels_text labels some (λ place within. omega (arith, label-le labels numbered place within, length-labels_text-ge labels, ap length is)) in
    let size : length (pieces_of text) ≡ length labels = ap length pieces ∙ length-map labels decimal in
    record {
      begins = record {
        numbered = numbered;
        spelled = λ place within. ap (λ (all : List (List ℕ)). slice_get all place) pieces ∙ slice_get-get_or (map decimal labels) place [] (omega (arith, length-map labels decimal)) ∙ ap (λ (piece : List ℕ). Some piece) (get_or-map decimal labels place 0 [] within);
      };
      size = size;
    }

partition_spelled : (n : ℕ) (text p : List ℕ) → IsShort text → IsPartition n p → text ≡ labels_text p → IsSpelled text p
partition_spelled n text p short lawful is = is_spelled text p short lawful.numbered (omega (arith, lawful.length, lawful.count.0)) is

other_spelled : (n : ℕ) (text : List ℕ) (found : ℕ) → IsShort text → (other : OtherLength n text found) → IsSpelled text other.labels
other_spelled n text found short other = is_spelled text other.labels short other.numbered (omega (arith, other.size, other.some)) other.spelled

-- the text of a partition has no fault
pub no_fault : (n : ℕ) (text p : List ℕ) (fail : PartFail) → IsShort text → IsPartition n p → text ≡ labels_text p → TextFault n text fail → ⊥
no_fault n text p Empty short lawful is fault = fault
no_fault n text p (NotCanonical place) short lawful is fault = fault
no_fault n text p (BadText place) short lawful is fault =
    let spelled = partition_spelled n text p short lawful is in
    bad_stops text place p short fault spelled.begins (omega (arith, fault.within, spelled.size))
no_fault n text p (WrongLength found) short lawful is fault =
    let spelled = partition_spelled n text p short lawful is in
    let other = other_spelled n text found short fault in
    fault.other (omega (arith, spelled.size, other.size, fault.size, lawful.length))
no_fault n text p NoMemory short lawful is fault = fault

-- the text of a partition is one that a slice can have
small_text : (labels : List ℕ) → ((place : ℕ) → place < length labels → get_or labels place 0 < 1000) → length (labels_text labels) ≤ 4 * length labels
small_text [] small = omega arith
small_text (label ∷ []) small = omega (arith, length-decimal-le 3 label (omega arith) (small 0 (omega arith)) (omega (arith, small 0 (omega arith))))
small_text (label ∷ next ∷ labels) small =
    omega (arith, length-append (decimal label) (44 ∷ labels_text (next ∷ labels)), length-decimal-le 3 label (omega arith) (small 0 (omega arith)) (omega (arith, small 0 (omega arith))), small_text (next ∷ labels) (λ place within. small (suc place) (omega arith)))

partition_short : (n : ℕ) (text p : List ℕ) → IsPartition n p → text ≡ labels_text p → IsShort text
partition_short n text p lawful is =
    omega (arith, ap length is, lawful.length, lawful.count.1, small_text p (λ place within. omega (arith, label-le p lawful.numbered place within, lawful.length, lawful.count.1)))

pub no_fault_of_partition : (n : ℕ) (text p : List ℕ) (fail : PartFail) → IsPartition n p → text ≡ labels_text p → TextFault n text fail → ⊥
no_fault_of_partition n text p fail lawful is fault = no_fault n text p fail (partition_short n text p lawful is) lawful is fault

bad_once : (text : List ℕ) (one two : ℕ) → IsShort text → FirstBadPiece text one → FirstBadPiece text two → one ≡ two
bad_once text one two short here there =
    elim (cases_order one two) [
      | inl same ↦ same
      | inr apart ↦ elim apart [
        | inl before ↦ absurd (bad_stops text one there.labels short here there.begins (omega (arith, there.size)))
        | inr after ↦ absurd (bad_stops text two here.labels short there here.begins (omega (arith, here.size)))
      ]
    ]

bad_or_other : (n : ℕ) (text : List ℕ) (place found : ℕ) → IsShort text → FirstBadPiece text place → OtherLength n text found → ⊥
bad_or_other n text place found short fault other =
    let spelled = other_spelled n text found short other in
    bad_stops text place other.labels short fault spelled.begins (omega (arith, fault.within, spelled.size))

other_once : (n : ℕ) (text : List ℕ) (one two : ℕ) → IsShort text → OtherLength n text one → OtherLength n text two → one ≡ two
other_once n text one two short here there =
    let left = other_spelled n text one short here in
    let right = other_spelled n text two short there in
    omega (arith, left.size, right.size, here.size, there.size)

-- a text has one fault
pub fault_once : (n : ℕ) (text : List ℕ) (one two : PartFail) → IsShort text → TextFault n text one → TextFault n text two → one ≡ two
fault_once n text (BadText one) (BadText two) short here there = ap BadText (bad_once text one two short here there)
fault_once n text (WrongLength one) (WrongLength two) short here there = ap WrongLength (other_once n text one two short here there)
fault_once n text (BadText one) (WrongLength two) short here there = absurd (bad_or_other n text one two short here there)
fault_once n text (WrongLength one) (BadText two) short here there = absurd (bad_or_other n text two one short there here)
fault_once n text Empty two short here there = absurd here
fault_once n text (NotCanonical place) two short here there = absurd here
fault_once n text NoMemory two short here there = absurd here
fault_once n text (BadText one) Empty short here there = absurd there
fault_once n text (BadText one) (NotCanonical place) short here there = absurd there
fault_once n text (BadText one) NoMemory short here there = absurd there
fault_once n text (WrongLength one) Empty short here there = absurd there
fault_once n text (WrongLength one) (NotCanonical place) short here there = absurd there
fault_once n text (WrongLength one) NoMemory short here there = absurd there

-- two partitions of one number of states with one text are one
pub text_once : (n : ℕ) (text p q : List ℕ) → IsShort text → IsPartition n p → IsPartition n q → text ≡ labels_text p → text ≡ labels_text q → p ≡ q
text_once n text p q short left right p_is q_is =
    begins_front text p q short (partition_spelled n text p short left p_is).begins (partition_spelled n text q short right q_is).begins (omega (arith, left.length, right.length)) ∙ take_all (length p) q (omega (arith, left.length, right.length))

-- what reading answers, and what follows of it
pub accepts : (n : ℕ) (text p : List ℕ) (r : Result (List ℕ) PartFail) → IsShort text → MatchResult r (λ q. IsPartition n q × (text ≡ labels_text q)) (λ fail. (fail ≡ NoMemory) ⊎ TextFault n text fail) → IsPartition n p → text ≡ labels_text p → MatchResult r (λ q. q ≡ p) (λ fail. fail ≡ NoMemory)
accepts n text p (Ok q) short read lawful is = text_once n text q p short read.0 lawful read.1 is
accepts n text p (Err fail) short (inl memory) lawful is = memory
accepts n text p (Err fail) short (inr fault) lawful is = absurd (no_fault n text p fail short lawful is fault)

pub causes : (n : ℕ) (text : List ℕ) (fail : PartFail) (r : Result (List ℕ) PartFail) → IsShort text → MatchResult r (λ q. IsPartition n q × (text ≡ labels_text q)) (λ other. (other ≡ NoMemory) ⊎ TextFault n text other) → TextFault n text fail → (r ≡ Err fail) ⊎ (r ≡ Err NoMemory)
causes n text fail (Ok q) short read fault = absurd (no_fault n text q fail short read.0 read.1 fault)
causes n text fail (Err other) short (inl memory) fault = inr (ap Err memory)
causes n text fail (Err other) short (inr is) fault = inl (ap Err (fault_once n text other fail short is fault))
