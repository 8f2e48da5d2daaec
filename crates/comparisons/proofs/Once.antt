-- What the file determines of counts, and what has no reason.
use Rattle.std.proofs.Common.{◌≡◌, ℕ, Bool, List, [], length, sym, ap, ◌∙◌, subst}
use Rattle.blif_out.specs.declared.header.Header.{Header}
use Rattle.blif_out.specs.declared.networks.HeadedNetwork.{HeadedNetwork}
use Rattle.comparisons.proofs.Alike.{across_once, reads_once}
use Rattle.comparisons.specs.Comparison.{AreCountsOf}
use Rattle.comparisons.specs.Counts.{AreCounts, reads_across}
use Rattle.comparisons.specs.CountLaws.{CountsAreOne, HaveSameReads, NeverBoth, NeverBothOfRegister, RegisterCountsAreOne}
use Rattle.hs_texts.specs.declared.comparisons.NetworkCounts.{NetworkCounts}
use Rattle.kiss_file.specs.declared.file.KissFile.{KissFile}
use Rattle.net_core.specs.declared.Latch.{Latch}
use Rattle.net_core.specs.declared.Network.{Network}
use Rattle.shift_real.specs.DefiniteMachine.{IsOrder}
use Rattle.shift_real.specs.Laws.StartContent.{order_once}
use Rattle.state_reduce.specs.Laws.Works.{one_work}
use Rattle.state_reduce.specs.Work.{OnWork}
use Rattle.text_laws.proofs.Registers.{registers_differ_in_rows}
use Rattle.text_laws.proofs.Texts.{networks_differ_in_rows}
use Rattle.text_laws.specs.Rows.{EqualButForRows}

-- ---- counts
-- counts of two networks that are equal except for the rows of their gates
same_counts : (N M : Network) (counts more : NetworkCounts) → EqualButForRows N M → AreCounts N counts → AreCounts M more → counts.across ≡ more.across → HaveSameReads counts more
same_counts N M counts more equal one two across = record {
  latches = one.latches ∙ ap (λ (latches : List Latch). length latches) equal.latches ∙ sym two.latches;
  reads = one.reads ∙ reads_once N M equal ∙ sym two.reads;
  across = across;
}

-- the same with their header
same_counted : (made also : HeadedNetwork) (parts others : ℕ) (counts more : NetworkCounts) → (made.header ≡ also.header) × EqualButForRows made.network also.network → AreCountsOf made parts counts → AreCountsOf also others more → (parts ≡ others) × HaveSameReads counts more
same_counted made also parts others counts more (headers, equal) one two = (
  one.parts_are ∙ ap (λ (header : Header). length header.parts) headers ∙ sym two.parts_are,
  same_counts made.network also.network counts more equal one.counted two.counted
      (one.across
      ∙ across_once made.network also.network equal made.header.latches
      ∙ ap (λ (header : Header). reads_across also.network.gates also.network.latches header.latches) headers
      ∙ sym two.across),
)

pub counts_are_one : CountsAreOne
counts_are_one kind reduce F parts others counts more one two =
    same_counted one.is_written.0 two.is_written.0 parts others counts more
    (networks_differ_in_rows kind [] reduce F one.is_written.0 two.is_written.0 one.is_written.1 two.is_written.1)
    one.counted two.counted

-- ---- registers
-- a command works on one machine, which has one order
same_order : (reduce : Bool) (F : KissFile) (order other : ℕ) → OnWork reduce F (λ W. IsOrder W order) → OnWork reduce F (λ W. IsOrder W other) → order ≡ other
same_order reduce F order other (W, work, one) (V, also_work, two) =
    order_once W order other one (subst (λ (machine : KissFile). IsOrder machine other) (one_work reduce F V W also_work work) two)

pub register_counts_are_one : RegisterCountsAreOne
register_counts_are_one reduce F order other counts more one two = (
  same_order reduce F order other one.order_is two.order_is,
  same_counts one.is_written.0.network two.is_written.0.network counts more
      (registers_differ_in_rows reduce F one.is_written.0 two.is_written.0 one.is_written.1 two.is_written.1).1
      one.counted two.counted (one.across ∙ sym two.across),
)

-- ---- counts or a reason
pub never_both : NeverBoth
never_both kind reduce F parts counts line has (refusal, calls, is) = has.fits refusal calls

pub never_both_of_register : NeverBothOfRegister
never_both_of_register reduce F order counts line has (refusal, calls, is) = has.fits refusal calls
