-- Right sides of a family are the joins of the right sides of two members.
use Rattle.std.proofs.Common.{ℕ, List, length, refl, arith}
use Rattle.hs_lattice.specs.JoinWorld.{IsGenerated, HaveJoins}
use Rattle.partition.specs.Laws.Generating.{IsGoing, IsZeroOf, right_generated_by}
use Rattle.partition.specs.MeetAndJoin.{IsJoin}
use Rattle.io_pairs.specs.Inner.RightSides.{HaveRights, IsRightSide}
use Rattle.io_pairs.specs.Inner.Families.{Go}
use Rattle.io_pairs.proofs.Going.{go_above, go_on, go_turned}

family_going : (functions : List (List ℕ)) → IsGoing (Go functions)
family_going functions = record {
  above = λ q r x y le go. go_above functions q r x y le go;
  itself = λ q r x same go k below. let held = go k below in (omega (arith, held.0, same), omega (arith, held.0, same), refl);
  by_third = λ q third x y one two. go_on functions q x third y (go_turned functions q third x one) two;
}

pub right_generated : (members values : ℕ) (functions found : List (List ℕ)) → HaveRights values functions members found
    → HaveJoins (IsZeroOf values) IsJoin found → (q : List ℕ) → IsRightSide members values functions q → IsGenerated (IsZeroOf values) IsJoin found q
right_generated members values functions found have joins q (p, is) =
    right_generated_by members values (Go functions) (family_going functions) found have joins (p, q) is
