-- There is one serial split that is chosen, and one cascade.
use Rattle.std.proofs.Common.{◌≡◌, ℕ, zero, suc, ◌+◌, All, List, [], ◌∷◌, Some, length, refl, sym, ap, ◌∙◌, subst, arith}
use Rattle.std.specs.List.{range_with_len, slice_get}
use Rattle.std.proofs.lemmas.List.Elements.{All-head, All-tail}
use Rattle.std.proofs.lemmas.Option.{none-some, same_Some}
use Rattle.kiss_file.specs.declared.file.KissFile.{KissFile}
use Rattle.partition.specs.Partition.{IsZero, Lt, zero_of}
use Rattle.partition.specs.NestedBlocks.{IsComplement, IsInside}
use Rattle.pair_operators.specs.Laws.Growth.{grown_once}
use Rattle.pair_operators.specs.Growth.{pairs_of}
use Rattle.closed_lattice.specs.ClosedPartitions.{IsPrincipal}
use Rattle.closed_lattice.specs.Laws.Generating.{principals_are_one}
use Rattle.state_codes.specs.declared.split.Part.{Part}
use Rattle.state_codes.specs.Kinds.{IsOwnCarrier}
use Rattle.state_codes.specs.Laws.InnerLabels.{inside_once}
use Rattle.serial_split.specs.Choice.{IsBelow, IsCascadeChoice, IsSerialChoice, StepsDown, partitions_of}
use Rattle.serial_split.specs.Kind.{IsCascade, IsSerial}
use Rattle.serial_split.specs.Laws.{CascadeChoiceIsOne, SerialChoiceIsOne}
use Rattle.serial_split.specs.Laws.Greatest.{ones_are_one}

below_once : (F : KissFile) (top p other : List ℕ) → IsBelow F top p → IsBelow F top other → p ≡ other
below_once F top p other one two =
    grown_once (IsPrincipal F) (λ p. Lt p top) (principals_are_one F) (zero_of (length F.states)) p other (pairs_of (length F.states)) one two

-- each part reads those before it, where so many stand ahead of the list
abbrev ReadFrom : ℕ → List Part → Type 0
ReadFrom j parts = (k : ℕ) (part : Part) → slice_get parts k ≡ Some part → part.reads ≡ range_with_len 0 (j + k)

read_later : (j : ℕ) (part : Part) (parts : List Part) → ReadFrom j (part ∷ parts) → ReadFrom (suc j) parts
read_later j part parts reads k other at =
    let place : j + suc k ≡ suc j + k = omega arith in
    reads (suc k) other at ∙ ap (range_with_len 0) place

same_part : (part other : Part) → part.partition ≡ other.partition → IsOwnCarrier part → IsOwnCarrier other → part.reads ≡ other.reads → part ≡ other
same_part part other same own other_own reads =
    let carrier : part.carrier ≡ other.carrier = own ∙ same ∙ sym other_own in
    ap (λ (p : List ℕ). record { partition = p; carrier = part.carrier; reads = part.reads }) same
    ∙ ap (λ (p : List ℕ). record { partition = other.partition; carrier = p; reads = part.reads }) carrier
    ∙ ap (λ (numbers : List ℕ). record { partition = other.partition; carrier = other.carrier; reads = numbers }) reads

-- so the partitions decide the parts
same_parts : (j : ℕ) (parts others : List Part) → partitions_of parts ≡ partitions_of others → All IsOwnCarrier parts → All IsOwnCarrier others → ReadFrom j parts → ReadFrom j others → parts ≡ others
same_parts j [] [] same own other_own reads other_reads = refl
same_parts j [] (other ∷ others) same own other_own reads other_reads = cc
same_parts j (part ∷ parts) [] same own other_own reads other_reads = cc
same_parts j (part ∷ parts) (other ∷ others) same own other_own reads other_reads =
    let head : part.partition ≡ other.partition = cc in
    let tail : partitions_of parts ≡ partitions_of others = cc in
    let first : part ≡ other = same_part part other head (All-head IsOwnCarrier part parts own) (All-head IsOwnCarrier other others other_own) (reads 0 part refl ∙ sym (other_reads 0 other refl)) in
    let rest : parts ≡ others =
    same_parts (suc j) parts others tail (All-tail IsOwnCarrier part parts own) (All-tail IsOwnCarrier other others other_own) (read_later j part parts reads) (read_later j other others other_reads) in
    ap (λ (p : Part). p ∷ parts) first ∙ ap (λ (list : List Part). other ∷ list) rest

two_read : (first second : Part) → first.reads ≡ [] → second.reads ≡ 0 ∷ [] → ReadFrom 0 (first ∷ second ∷ [])
two_read first second none one zero part at = subst (λ (p : Part). p.reads ≡ []) (same_Some first part at) none
two_read first second none one (suc zero) part at = subst (λ (p : Part). p.reads ≡ 0 ∷ []) (same_Some second part at) one
two_read first second none one (suc (suc k)) part at = absurd (none-some part at)

serial_reads : (F : KissFile) (parts : List Part) → IsSerial F parts → ReadFrom 0 parts
serial_reads F parts serial = subst (ReadFrom 0) (sym serial.two) (two_read serial.first serial.second serial.first_reads serial.second_reads)

cascade_reads : (F : KissFile) (parts : List Part) → IsCascade F parts → ReadFrom 0 parts
cascade_reads F parts cascade k part at = let place : k ≡ 0 + k = omega arith in cascade.reads k part at ∙ ap (range_with_len 0) place

serial_partitions : (F : KissFile) (parts others : List Part) → IsSerialChoice F parts → IsSerialChoice F others → partitions_of parts ≡ partitions_of others
serial_partitions F parts others one two =
    let top : one.one ≡ two.one = ones_are_one (length F.states) one.one two.one one.one_lawful one.one_is two.one_lawful two.one_is in
    let first : one.first ≡ two.first = below_once F two.one one.first two.first (subst (λ (c : List ℕ). IsBelow F c one.first) top one.grown) two.grown in
    let second : one.second ≡ two.second = inside_once two.first (zero_of (length two.first)) one.second two.second (subst (λ (p : List ℕ). IsComplement p one.second) first one.complement) two.complement in
    one.partitions ∙ ap (λ (p : List ℕ). p ∷ one.second ∷ []) first ∙ ap (λ (p : List ℕ). two.first ∷ p ∷ []) second ∙ sym two.partitions

pub serial_choice_is_one : SerialChoiceIsOne
serial_choice_is_one F one other serial other_serial choice other_choice =
    same_parts 0 one other (serial_partitions F one other choice other_choice) serial.own other_serial.own (serial_reads F one serial) (serial_reads F other other_serial)

-- the steps from one partition down to zero
steps_once : (F : KissFile) (c d e : List ℕ) (partitions others : List (List ℕ)) → IsZero d → IsZero e → StepsDown F c partitions d → StepsDown F c others e → partitions ≡ others
steps_once F c d e [] [] is_zero other_is_zero here there = refl
steps_once F c d e [] (q ∷ others) is_zero other_is_zero here (not_zero, rest) = absurd (not_zero (subst IsZero (sym here) is_zero))
steps_once F c d e (p ∷ partitions) [] is_zero other_is_zero (not_zero, rest) there = absurd (not_zero (subst IsZero (sym there) other_is_zero))
steps_once F c d e (p ∷ partitions) (q ∷ others) is_zero other_is_zero (not_zero, (next, grown, inside, rest)) (other_not_zero, (other_next, other_grown, other_inside, other_rest)) =
    let same : next ≡ other_next = below_once F c next other_next grown other_grown in
    let head : p ≡ q = inside_once c other_next p q (subst (λ (x : List ℕ). IsInside c x p) same inside) other_inside in
    ap (λ (x : List ℕ). x ∷ partitions) head
    ∙ ap (λ (list : List (List ℕ)). q ∷ list) (steps_once F other_next d e partitions others is_zero other_is_zero (subst (λ (x : List ℕ). StepsDown F x partitions d) same rest) other_rest)

cascade_partitions : (F : KissFile) (parts others : List Part) → IsCascadeChoice F parts → IsCascadeChoice F others → partitions_of parts ≡ partitions_of others
cascade_partitions F parts others one two =
    let top : two.one ≡ one.one = ones_are_one (length F.states) two.one one.one two.one_lawful two.one_is one.one_lawful one.one_is in
    steps_once F one.one one.zero two.zero (partitions_of parts) (partitions_of others) one.zero_is two.zero_is one.steps (subst (λ (c : List ℕ). StepsDown F c (partitions_of others) two.zero) top two.steps)

pub cascade_choice_is_one : CascadeChoiceIsOne
cascade_choice_is_one F one other cascade other_cascade choice other_choice =
    same_parts 0 one other (cascade_partitions F one other choice other_choice) cascade.own other_cascade.own (cascade_reads F one cascade) (cascade_reads F other other_cascade)
