-- Laws of the causes: their answers, and what excludes them.
use Rattle.std.specs.Prelude.{◌≡◌, ℕ, List, [], ◌∷◌}
use Rattle.std.proofs.Common.{inl, inr, sym, ◌∙◌, ap, subst, arith}
use Rattle.answers.specs.declared.numbers.Answer.TheVariants as answers
use Rattle.answers.specs.Cause.{CallsForNone, Cause}
use Rattle.answers.specs.Laws.Causes.{HasOneAnswer, IsOf, first_has_one, none_first, one_of}
use Rattle.answers.specs.Refusal.{answer_of}
use Rattle.blif_in.proofs.Texts.{never_both}
use Rattle.kiss_file.specs.declared.fill.Fill.{Fill}
use Rattle.kiss_file.specs.declared.fill.Fill.TheVariants.{Hold, Refuse}
use Rattle.kiss_file.specs.declared.file.KissFile.{KissFile}
use Rattle.kiss2.specs.Kiss.{Kiss}
use Rattle.kiss_file.specs.Machine.{Accepted, Conflicting}
use Rattle.machine_table.specs.Conflict.{IsFirstConflict}
use Rattle.machine_table.specs.Laws.Conflicts.{conflicting_at}
use Rattle.machine_table.specs.Laws.Unrefused.{none_open}
use Rattle.net_core.specs.declared.Network.{Network}
use Rattle.net_core.specs.Blif.{Blif}
use Rattle.net_core.specs.Laws.Determined.{blif_one}
use Rattle.operands.specs.Causes.{Conflicts, LeavesOpen, Never, NoMachineOf, NoNetworkOf, OfFile, OfMachine, OfNetwork, SaysNoMachine, SaysNoNetwork}
use Rattle.kiss2.proofs.Exact.{machine_or_fault, one_file}
use Rattle.operands.specs.OperandText.{IsShortText, Lengthy}

-- ---- the answers
pub lengthy_is_of : (name bytes : List ℕ) → IsOf answers.TooLong (Lengthy name bytes)
lengthy_is_of name bytes refusal h = ap answer_of h.0

pub no_machine_is_of : (bytes : List ℕ) → IsOf answers.KissRefused (SaysNoMachine bytes)
no_machine_is_of bytes refusal (fault, is, at) = ap answer_of is

pub conflict_is_of : (bytes : List ℕ) → IsOf answers.Conflict (OfFile bytes Conflicts)
conflict_is_of bytes refusal (F, kiss, (row, other, is, first)) = ap answer_of is

pub open_is_of : (bytes : List ℕ) (fill : Fill) → IsOf answers.Unspecified (OfFile bytes (LeavesOpen fill))
open_is_of bytes fill refusal (F, kiss, (s, x, part, name, is, at)) = ap answer_of is

pub no_network_is_of : (bytes : List ℕ) → IsOf answers.NetRefused (SaysNoNetwork bytes)
no_network_is_of bytes refusal (fault, is, at) = ap answer_of is

-- ---- FILE and NET
pub machine_has_one : (name bytes : List ℕ) (fill : Fill) → HasOneAnswer (NoMachineOf name fill bytes)
machine_has_one name bytes fill =
    first_has_one (Lengthy name bytes ∷ SaysNoMachine bytes ∷ OfFile bytes Conflicts ∷ OfFile bytes (LeavesOpen fill) ∷ []) (
      one_of answers.TooLong (Lengthy name bytes) (lengthy_is_of name bytes),
      (
        one_of answers.KissRefused (SaysNoMachine bytes) (no_machine_is_of bytes),
        (
          one_of answers.Conflict (OfFile bytes Conflicts) (conflict_is_of bytes),
          (one_of answers.Unspecified (OfFile bytes (LeavesOpen fill)) (open_is_of bytes fill), tt),
        ),
      ),
    )

pub network_has_one : (name bytes : List ℕ) → HasOneAnswer (NoNetworkOf name bytes)
network_has_one name bytes =
    first_has_one (Lengthy name bytes ∷ SaysNoNetwork bytes ∷ [])
    (one_of answers.TooLong (Lengthy name bytes) (lengthy_is_of name bytes), (one_of answers.NetRefused (SaysNoNetwork bytes) (no_network_is_of bytes), tt))

-- bytes say one machine, and one network
pub of_machine_has_one : (fill : Fill) (bytes : List ℕ) (cause : KissFile → Cause) → ((F : KissFile) → HasOneAnswer (cause F)) → HasOneAnswer (OfMachine fill bytes cause)
of_machine_has_one fill bytes cause each one other (F, kiss, accepted, h) (G, other_kiss, other_accepted, k) =
    each F one other h (subst (λ (H : KissFile). cause H other) (one_file bytes G F other_kiss kiss) k)

pub of_network_has_one : (bytes : List ℕ) (cause : Network → Cause) → ((N : Network) → HasOneAnswer (cause N)) → HasOneAnswer (OfNetwork bytes cause)
of_network_has_one bytes cause each one other (N, blif, h) (M, other_blif, k) =
    each N one other h (subst (λ (K : Network). cause K other) (blif_one bytes M N other_blif blif) k)

pub never_has_one : HasOneAnswer Never
never_has_one one other h k = absurd h

-- ---- what excludes them
pub not_long : (name bytes : List ℕ) → IsShortText bytes → CallsForNone (Lengthy name bytes)
not_long name bytes within refusal h = absurd (let long = h.1 in omega (arith, long, within))

pub no_fault : (bytes : List ℕ) (F : KissFile) → Kiss bytes F → CallsForNone (SaysNoMachine bytes)
no_fault bytes F kiss refusal (fault, is, at) = machine_or_fault bytes F fault.line fault.kind kiss at

-- the first two rows that conflict are two rows that do
pub conflicting_of : (F : KissFile) (row other : ℕ) → IsFirstConflict F row other → Conflicting F
conflicting_of F row other (i, j, first, second, two) = conflicting_at F i j two.contradict

pub no_conflict : (bytes : List ℕ) (F : KissFile) → Kiss bytes F → (Conflicting F → ⊥) → CallsForNone (OfFile bytes Conflicts)
no_conflict bytes F kiss none refusal (G, other_kiss, (row, other, is, first)) =
    none (subst Conflicting (one_file bytes G F other_kiss kiss) (conflicting_of G row other first))

no_open_here : (F : KissFile) (fill : Fill) → Accepted F fill → CallsForNone (LeavesOpen fill F)
no_open_here F fill accepted refusal (s, x, part, name, is, at) =
    elim accepted.filled [ inl specified ↦ none_open F s x part at.entry specified | inr hold ↦ absurd (let e : Refuse ≡ Hold = sym at.refused ∙ hold in cc) ]

pub no_open : (bytes : List ℕ) (F : KissFile) (fill : Fill) → Kiss bytes F → Accepted F fill → CallsForNone (OfFile bytes (LeavesOpen fill))
no_open bytes F fill kiss accepted refusal (G, other_kiss, h) =
    no_open_here F fill accepted refusal (subst (λ (H : KissFile). LeavesOpen fill H refusal) (one_file bytes G F other_kiss kiss) h)

-- bytes of a machine that is accepted call for no refusal
pub machine_passes : (name bytes : List ℕ) (F : KissFile) (fill : Fill) → IsShortText bytes → Kiss bytes F → Accepted F fill → CallsForNone (NoMachineOf name fill bytes)
machine_passes name bytes F fill within kiss accepted =
    none_first (Lengthy name bytes ∷ SaysNoMachine bytes ∷ OfFile bytes Conflicts ∷ OfFile bytes (LeavesOpen fill) ∷ [])
    (not_long name bytes within, (no_fault bytes F kiss, (no_conflict bytes F kiss accepted.no_conflict, (no_open bytes F fill kiss accepted, tt))))

pub no_net_fault : (bytes : List ℕ) (N : Network) → Blif bytes N → CallsForNone (SaysNoNetwork bytes)
no_net_fault bytes N blif refusal (fault, is, at) = never_both bytes N fault blif at

pub network_passes : (name bytes : List ℕ) (N : Network) → IsShortText bytes → Blif bytes N → CallsForNone (NoNetworkOf name bytes)
network_passes name bytes N within blif =
    none_first (Lengthy name bytes ∷ SaysNoNetwork bytes ∷ []) (not_long name bytes within, (no_net_fault bytes N blif, tt))
