-- The texts of machines that are determined.
use Rattle.std.proofs.Common.{◌≡◌, ◌∙◌, ℕ, ◌++◌, Bool, true, List, Some, length, slice_get, refl, sym, ap, subst}
use Rattle.std.proofs.lemmas.Option.{same_Some}
use Rattle.hs_texts.specs.Reports.{counts_text}
use Rattle.io_pairs.specs.Outputs.{IsOutMmPair}
use Rattle.job_laws.proofs.Ascending.{lists_once}
use Rattle.job_laws.proofs.Chains.{chain_once}
use Rattle.job_laws.proofs.Orders.{right_before_apart}
use Rattle.kiss2.specs.KissText.{kiss_text}
use Rattle.kiss_file.specs.declared.fill.Fill.{Fill}
use Rattle.kiss_file.specs.declared.file.KissFile.{KissFile}
use Rattle.machine_reports.specs.CheckText.{IsChecked}
use Rattle.machine_reports.specs.declared.state_texts.Shown.{Shown}
use Rattle.machine_reports.specs.DefiniteText.{IsChainText, IsWholeChain}
use Rattle.machine_reports.specs.ListTexts.{IsListText, lines_of, pair_line}
use Rattle.machine_reports.specs.OutputTexts.{IsOutputText, output_lines}
use Rattle.machine_reports.specs.PartnerTexts.{IsHighText, IsLowText}
use Rattle.machine_reports.specs.ReducedText.{IsReducedText}
use Rattle.machine_reports.specs.StateTexts.{state_line}
use Rattle.operands.specs.Laws.Parts.{one_part}
use Rattle.pair_operators.specs.Extremes.{IsHigh, IsLow}
use Rattle.pair_operators.specs.Laws.Extremes.{high_once, low_once}
use Rattle.partition.specs.Sides.{RightBefore}
use Rattle.state_reduce.specs.Laws.Works.{one_work}
use Rattle.state_reduce.specs.Quotient.{block_number}

-- ---- counts, and the reduced machine
pub check_once : (F : KissFile) (text other : List ℕ) → IsChecked F text → IsChecked F other → text ≡ other
check_once F text other (reset, at, is) (more, at_too, is_too) =
    is ∙ (ap (counts_text (length F.states) F.inputs F.outputs (length F.rows)) (same_Some reset more (sym at ∙ at_too)) ∙ sym is_too)

-- it is the machine that a command works on with `--reduce`
pub reduced_once : (F : KissFile) (fill : Fill) (text other : List ℕ) → IsReducedText F fill text → IsReducedText F fill other → text ≡ other
reduced_once F fill text other (classes, Q, one, is, kiss) (more, R, two, is_too, kiss_too) =
    let same : Q ≡ R =
    one_work true F Q R
    (block_number F classes, record { classes = classes; alike = one.alike; quotient = one.quotient; in_order = one.in_order; class_of = λ s. refl })
    (block_number F more, record { classes = more; alike = two.alike; quotient = two.quotient; in_order = two.in_order; class_of = λ s. refl }) in
    is ∙ (ap kiss_text same ∙ sym is_too)

-- ---- lists
pub list_once : {M : Type 0} (line : M → List ℕ) (precedes : M → M → Type 0) (P : M → Type 0) (limit : ℕ) (text other : List ℕ)
    → ((x y : M) → precedes x y → precedes y x → ⊥) → IsListText line precedes P limit text → IsListText line precedes P limit other → text ≡ other
list_once line precedes P limit text other apart (members, lists, few, is) (more, lists_too, few_too, is_too) =
    is ∙ (ap (lines_of line) (lists_once precedes apart P members more lists lists_too) ∙ sym is_too)

pub outputs_once : (F : KissFile) (limit : ℕ) (text other : List ℕ) → IsOutputText F limit text → IsOutputText F limit other → text ≡ other
outputs_once F limit text other (pairs, listed, is) (more, listed_too, is_too) =
    is
    ∙ (ap (λ (list : List ℕ). output_lines F ++ list) (list_once pair_line RightBefore (IsOutMmPair F) limit pairs more right_before_apart listed listed_too) ∙ sym is_too)

-- ---- partners of a partition
pub low_text_once : (shown : Shown) (F : KissFile) (part text other : List ℕ) → IsLowText shown F part text → IsLowText shown F part other → text ≡ other
low_text_once shown F part text other (p, q, told, low, is) (a, b, told_too, low_too, is_too) =
    let same : a ≡ p = one_part (length F.states) part a p told_too told in
    is ∙ (ap (state_line shown F.states) (low_once F p q b low (subst (λ (r : List ℕ). IsLow F r b) same low_too)) ∙ sym is_too)

pub high_text_once : (shown : Shown) (F : KissFile) (part text other : List ℕ) → IsHighText shown F part text → IsHighText shown F part other → text ≡ other
high_text_once shown F part text other (q, p, told, high, is) (b, a, told_too, high_too, is_too) =
    let same : b ≡ q = one_part (length F.states) part b q told_too told in
    is ∙ (ap (state_line shown F.states) (high_once F q p a high (subst (λ (r : List ℕ). IsHigh F r a) same high_too)) ∙ sym is_too)

-- ---- the chain of the machine that a command works on
of_one_machine : (shown : Shown) (W : KissFile) (members more : List (List ℕ)) (text other : List ℕ) → IsWholeChain W members → IsWholeChain W more
    → text ≡ lines_of (state_line shown W.states) members → other ≡ lines_of (state_line shown W.states) more → text ≡ other
of_one_machine shown W members more text other one two is is_too =
    is ∙ (ap (lines_of (state_line shown W.states)) (chain_once W members more one.chain two.chain) ∙ sym is_too)

pub chain_text_once : (shown : Shown) (reduce : Bool) (F : KissFile) (text other : List ℕ) → IsChainText shown reduce F text → IsChainText shown reduce F other → text ≡ other
chain_text_once shown reduce F text other (W, work, (members, one, is)) (V, also, (more, two, is_too)) =
    let same : V ≡ W = one_work reduce F V W also work in
    of_one_machine shown W members more text other one (subst (λ (M : KissFile). IsWholeChain M more) same two) is
    (subst (λ (M : KissFile). other ≡ lines_of (state_line shown M.states) more) same is_too)
