-- Cubes on which each state of a block has one next state and one list of outputs.
use Rattle.std.specs.Prelude.{◌≡◌, ℕ, ◌<◌, ◌≤◌, ◌^◌, ◌⊎◌, All, Contains, false, List, [], MatchOption, None, Option, Some, length, slice_get, slice_index_or}
use Rattle.cubes.specs.declared.cube.Cube.{Cube}
use Rattle.cubes.specs.Cube.{HoldsNumber, Meets}
use Rattle.cubes.specs.Symbol.{bit}
use Rattle.kiss_file.specs.declared.file.KissFile.{KissFile}
use Rattle.machine_table.specs.declared.pieces.Piece.{Piece}
use Rattle.machine_table.specs.Pieces.{IsHeldByPiece, IsPiece}
use Rattle.cover_split.specs.StateCover.{block_at}
use Rattle.cover_split.specs.declared.joint.Joint.{Joint}
use Rattle.cover_split.specs.declared.joint.Division.{Division}
use Rattle.cover_split.specs.declared.joint.Division.TheVariants.{Halve, Whole}

-- the piece has each symbol of the cube
abbrev pub HoldsAllOf : Cube → Piece → Type 0
HoldsAllOf cube piece = (x : ℕ) → HoldsNumber cube x → HoldsNumber piece.cube x

-- it is one of these pieces, and has each symbol of the cube
abbrev pub IsWholePiece : Cube → List Piece → Piece → Type 0
IsWholePiece cube pieces piece = Contains pieces piece × HoldsAllOf cube piece

-- pieces that hold each symbol of the cube
pub record AreSpread (cube : Cube) (pieces : List Piece) : Type 0 where
  pub width : (piece : Piece) → Contains pieces piece → piece.cube.width ≡ cube.width
  pub each : (x : ℕ) → x < 2 ^ cube.width → HoldsNumber cube x → IsHeldByPiece pieces x

-- the list with the number k
abbrev pub list_at : List (List Piece) → ℕ → List Piece
list_at lists k = slice_index_or lists k []

-- for each list, one of its pieces that holds the whole cube
pub record AreSettled (cube : Cube) (lists : List (List Piece)) (pieces : List Piece) : Type 0 where
  pub size : length pieces ≡ length lists
  pub own : (k : ℕ) (piece : Piece) → slice_get pieces k ≡ Some piece → IsWholePiece cube (list_at lists k) piece

-- a place of the cube with a dash
pub record IsDash (cube : Cube) (place : ℕ) : Type 0 where
  pub within : place < cube.width
  pub dash : bit cube.care place ≡ false

-- for each list a piece that holds the whole cube, or a place at which the cube has a dash
abbrev pub IsSettled : Cube → List (List Piece) → Division → Type 0
IsSettled cube lists (Whole pieces) = AreSettled cube lists pieces
IsSettled cube lists (Halve place) = IsDash cube place

-- those of the pieces that meet the cube
pub record AreMet (cube : Cube) (pieces met : List Piece) : Type 0 where
  pub own : (piece : Piece) → Contains met piece → Contains pieces piece
  pub each : (piece : Piece) → Contains pieces piece → Meets cube piece.cube → Contains met piece

-- for each list, those of its pieces that meet the cube
pub record AreListsMet (cube : Cube) (lists met : List (List Piece)) : Type 0 where
  pub size : length met ≡ length lists
  pub each : (k : ℕ) → k < length lists → AreMet cube (list_at lists k) (list_at met k)

-- the block has the next state of each piece
abbrev pub HasEachNext : List Piece → List ℕ → Type 0
HasEachNext pieces block = All (λ piece. Contains block piece.next) pieces

-- the first block that has the next state of each piece
pub record IsFirstOf (blocks : List (List ℕ)) (pieces : List Piece) (target : ℕ) : Type 0 where
  pub block : target < length blocks
  pub has : HasEachNext pieces (block_at blocks target)
  pub first : (earlier : ℕ) → earlier < target → HasEachNext pieces (block_at blocks earlier) → ⊥

-- no block has the next state of each piece
abbrev pub NoneHasEach : List (List ℕ) → List Piece → Type 0
NoneHasEach blocks pieces = (j : ℕ) → j < length blocks → HasEachNext pieces (block_at blocks j) → ⊥

-- the target is the first block that has the next state of each piece, or None if no block has
abbrev pub IsTargetOf : List (List ℕ) → List Piece → Option ℕ → Type 0
IsTargetOf blocks pieces target = MatchOption target (NoneHasEach blocks pieces) (IsFirstOf blocks pieces)

-- a joint piece made of pieces of these lists
pub record IsJointOf (blocks : List (List ℕ)) (lists : List (List Piece)) (width : ℕ) (joint : Joint) : Type 0 where
  pub width_is : joint.cube.width ≡ width
  pub settled : AreSettled joint.cube lists joint.pieces
  pub target : IsTargetOf blocks joint.pieces joint.target

-- some joint piece holds the symbol with the number x
abbrev pub IsHeldByJoint : List Joint → ℕ → Type 0
IsHeldByJoint joints x = (joint : Joint) × Contains joints joint × HoldsNumber joint.cube x

-- a list with its old joint pieces and new ones that hold each symbol of the cube
pub record AddsJoints (blocks : List (List ℕ)) (lists : List (List Piece)) (cube : Cube) (old more : List Joint) : Type 0 where
  pub right : (joint : Joint) → Contains more joint → Contains old joint ⊎ IsJointOf blocks lists cube.width joint
  pub kept : (joint : Joint) → Contains old joint → Contains more joint
  pub each : (x : ℕ) → HoldsNumber cube x → IsHeldByJoint more x

-- for each state, its pieces
pub record AreListsFor (F : KissFile) (states : List ℕ) (lists : List (List Piece)) : Type 0 where
  pub size : length lists ≡ length states
  pub right : (k s : ℕ) → slice_get states k ≡ Some s → All (IsPiece F s) (list_at lists k)
  pub each : (k x : ℕ) → k < length states → x < 2 ^ F.inputs → IsHeldByPiece (list_at lists k) x

-- what the states of a block do on a cube, and the first block that has all of their next states
pub record IsJoint (F : KissFile) (blocks : List (List ℕ)) (states : List ℕ) (joint : Joint) : Type 0 where
  pub width : joint.cube.width ≡ F.inputs
  pub size : length joint.pieces ≡ length states
  pub pieces_are : (k s : ℕ) (piece : Piece) → slice_get states k ≡ Some s → slice_get joint.pieces k ≡ Some piece → IsPiece F s piece × HoldsAllOf joint.cube piece
  pub target : IsTargetOf blocks joint.pieces joint.target

-- the joint pieces of states, which hold all symbols
pub record AreJoints (F : KissFile) (blocks : List (List ℕ)) (states : List ℕ) (joints : List Joint) : Type 0 where
  pub right : All (IsJoint F blocks states) joints
  pub each : (x : ℕ) → x < 2 ^ F.inputs → IsHeldByJoint joints x

-- each joint piece leads to a block
abbrev pub AllLead : List Joint → Type 0
AllLead joints = (joint : Joint) → Contains joints joint → (target : ℕ) × (joint.target ≡ Some target)

-- the joint pieces of the first blocks, each of which leads to a block
pub record AreJointsOfEach (F : KissFile) (blocks : List (List ℕ)) (lists : List (List Joint)) : Type 0 where
  pub right : (j : ℕ) (joints : List Joint) → slice_get lists j ≡ Some joints → AreJoints F blocks (block_at blocks j) joints
  pub lead : (j : ℕ) (joints : List Joint) → slice_get lists j ≡ Some joints → AllLead joints

-- x is the least symbol of a joint piece that leads to no block, and no other such piece has a lesser symbol
pub record IsLeastLeaving (joints : List Joint) (x : ℕ) : Type 0 where
  pub joint : Joint
  pub among : Contains joints joint
  pub leads_nowhere : joint.target ≡ None
  pub least_of_it : joint.cube.value ≡ x
  pub least : (other : Joint) → Contains joints other → other.target ≡ None → x ≤ other.cube.value
