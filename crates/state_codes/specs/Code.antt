-- The code of a state: bits of its labels, part by part.
use Rattle.std.specs.Prelude.{◌≡◌, ℕ, zero, suc, ◌^◌, ◌<◌, ◌≤◌, nat_le, Bool, true, false, List, [], ◌∷◌, ◌++◌, length, map, slice_index}
use Rattle.std.specs.List.{AllZip, position_or_len, range_with_len}
use Rattle.std.specs.Int.{bit_at}
use Rattle.partition.specs.Partition.{blocks_of}
use Rattle.partition.specs.NestedBlocks.{IsInside}
use Rattle.state_codes.specs.declared.split.Part.{Part}
use Rattle.state_codes.specs.declared.Codes.{Codes}

-- the least number of bits that distinguish the given number of blocks
pub record IsNeed (blocks bits : ℕ) : Type 0 where
  pub enough : blocks ≤ 2 ^ bits
  pub least : (fewer : ℕ) → blocks ≤ 2 ^ fewer → bits ≤ fewer

-- that number: the first of the numbers 0, 1, 2 and so on that is enough
unfoldable pub need : ℕ → ℕ
need blocks = position_or_len (λ bits. nat_le blocks (2 ^ bits)) (range_with_len 0 blocks)

-- that number is the least that is enough
abbrev pub NeedIsLeast : Type 0
NeedIsLeast = (blocks : ℕ) → IsNeed blocks (need blocks)

-- One bit of a code: the part that it belongs to, whether it codes the carrier, the labels that it is a bit of,
-- and which bit of them it is. Bit w is at 2 ^ w.
pub record Place : Type 0 where
  pub part : ℕ
  pub carried : Bool
  pub labels : List ℕ
  pub weight : ℕ

-- the given number of lowest bits of the labels, the most significant first
abbrev pub label_places : ℕ → Bool → List ℕ → ℕ → List Place
label_places part carried labels zero = []
label_places part carried labels (suc weight) = record { part = part; carried = carried; labels = labels; weight = weight } ∷ label_places part carried labels weight

-- the bits of a part: those of the label in its carrier, then those of the label inside the carrier
abbrev pub part_places : ℕ → List ℕ → List ℕ → List Place
part_places part carrier inner = label_places part true carrier (need (blocks_of carrier)) ++ label_places part false inner (need (blocks_of inner))

-- the bits of parts that are numbered from j on, where the labels inside their carriers are given
abbrev pub places_of : ℕ → List Part → List (List ℕ) → List Place
places_of j [] inners = []
places_of j (part ∷ parts) [] = []
places_of j (part ∷ parts) (inner ∷ inners) = part_places j part.carrier inner ++ places_of (suc j) parts inners

-- for each part, the labels of its partition inside its carrier
abbrev pub AreInside : List Part → List (List ℕ) → Type 0
AreInside parts inners = AllZip (λ (part : Part) (inner : List ℕ). IsInside part.carrier part.partition inner) parts inners

-- the bit of a state at this place of its code
abbrev pub bit_of : ℕ → Place → ℕ
bit_of s place = bit_at (slice_index place.labels s) place.weight

-- the code of a state, bit 0 first
abbrev pub state_code : List Place → ℕ → List ℕ
state_code places s = map (bit_of s) places

-- bit i is at 2 ^ i in the word, and the word has no other bits
abbrev pub Spells : ℕ → List ℕ → Type 0
Spells word bits = (i : ℕ) → bit_at word i ≡ slice_index bits i

-- words, owners and marks are those of codes of n states with these places
pub record IsLaidOut (n : ℕ) (places : List Place) (bits : ℕ) (words owner : List ℕ) (carried : List Bool) : Type 0 where
  pub size : bits ≡ length places
  pub states : length words ≡ n
  pub spelled : (s : ℕ) → s < n → Spells (slice_index words s) (state_code places s)
  pub owners : owner ≡ map (λ place. place.part) places
  pub marks : carried ≡ map (λ place. place.carried) places

-- these are the codes of n states that the parts give
pub record IsCode (n : ℕ) (parts : List Part) (codes : Codes) : Type 0 where
  pub inners : List (List ℕ)
  pub inside : AreInside parts inners
  pub written : IsLaidOut n (places_of 0 parts inners) codes.bits codes.words codes.owner codes.carried

-- a code that the parts give has this number of bits
pub record IsLength (parts : List Part) (bits : ℕ) : Type 0 where
  pub inners : List (List ℕ)
  pub inside : AreInside parts inners
  pub size : bits ≡ length (places_of 0 parts inners)

-- the parts determine the codes
abbrev pub CodesAreOne : Type 0
CodesAreOne = (n : ℕ) (parts : List Part) (one other : Codes) → IsCode n parts one → IsCode n parts other → one ≡ other
