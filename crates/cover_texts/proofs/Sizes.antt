-- The length of the codes that the split by blocks gives.
use Rattle.std.proofs.Common.{◌≡◌, ℕ, suc, ◌+◌, ◌≤◌, All, List, [], ◌∷◌, length, refl, ap, subst, arith, length-append}
use Rattle.std.proofs.lemmas.List.Elements.{All-head, All-tail}
use Rattle.cover_split.specs.Parts.{IsSplitByBlock}
use Rattle.state_codes.specs.Laws.OwnCarriers.{no_inner}
use Rattle.partition.specs.Partition.{blocks_of}
use Rattle.partition.specs.Laws.Labels.{blocks_of-le}
use Rattle.state_codes.specs.declared.Codes.{Codes}
use Rattle.state_codes.specs.declared.split.Part.{Part}
use Rattle.state_codes.specs.Code.{AreInside, IsCode, IsLength, need, part_places, places_of}
use Rattle.state_codes.specs.Kinds.{IsOwnCarrier}
use Rattle.state_codes.specs.Laws.Need.{need-least}
use Rattle.state_codes.specs.Laws.Places.{length-part_places}
use Rattle.state_codes.specs.Split.{IsPart}

-- the bits that parts need
abbrev needs : List Part → ℕ
needs [] = 0
needs (part ∷ parts) = need (blocks_of part.partition) + needs parts

-- which is what the codes of parts with their own carriers have
own_length : (n j : ℕ) (parts : List Part) (inners : List (List ℕ)) → All (IsPart n) parts → All IsOwnCarrier parts → AreInside parts inners → length (places_of j parts inners) ≡ needs parts
own_length n j [] inners lawful own inside = refl
own_length n j (part ∷ parts) [] lawful own inside = absurd inside
own_length n j (part ∷ parts) (inner ∷ inners) lawful own (here, rest) =
    let is : IsPart n part = All-head (IsPart n) part parts lawful in
    let itself : IsOwnCarrier part = All-head IsOwnCarrier part parts own in
    let carried : need (blocks_of part.carrier) ≡ need (blocks_of part.partition) = ap (λ (p : List ℕ). need (blocks_of p)) itself in
    omega (
      arith,
      length-append (part_places j part.carrier inner) (places_of (suc j) parts inners),
      length-part_places j part.carrier inner,
      carried,
      no_inner n part inner is.partition itself here,
      own_length n (suc j) parts inners (All-tail (IsPart n) part parts lawful) (All-tail IsOwnCarrier part parts own) rest,
    )

-- ---- the two parts
module _ (n : ℕ) (blocks : List (List ℕ)) (parts : List Part) (split : IsSplitByBlock blocks parts) (lawful : All (IsPart n) parts) where
  -- bits of the block, and bits of the place in it
  length_of_parts : (bits : ℕ) → IsLength parts bits → bits ≡ need (length blocks) + need (blocks_of (split.second).partition)
  length_of_parts bits is =
      let two : needs parts ≡ need (blocks_of (split.first).partition) + (need (blocks_of (split.second).partition) + 0) = ap needs split.two in
      omega (arith, is.size, own_length n 0 parts is.inners lawful split.own is.inside, two, ap need split.first_blocks)

  pub length_of_code : (codes : Codes) → IsCode n parts codes → codes.bits ≡ need (length blocks) + need (blocks_of (split.second).partition)
  length_of_code codes code = length_of_parts codes.bits (record { inners = code.inners; inside = code.inside; size = code.written.size })

  second_is : IsPart n split.second
  second_is = All-head (IsPart n) split.second [] (All-tail (IsPart n) split.first (split.second ∷ []) (subst (All (IsPart n)) split.two lawful))

  -- there are 16 of them at most
  need_small : (b : ℕ) → b ≤ 256 → need b ≤ 8
  need_small b small = need-least b 8 small

  pub short_length : (bits : ℕ) → length blocks ≤ 256 → IsLength parts bits → bits ≤ 16
  short_length bits few is =
      let inner : blocks_of (split.second).partition ≤ 256 =
      omega (arith, blocks_of-le (split.second).partition (second_is.partition).numbered, (second_is.partition).length, ((second_is.partition).count).1) in
      omega (arith, length_of_parts bits is, need_small (length blocks) few, need_small (blocks_of (split.second).partition) inner)
