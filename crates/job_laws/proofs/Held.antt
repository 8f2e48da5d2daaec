-- What a shelf holds is one, where its bytes are known.
use Rattle.std.proofs.Common.{◌≡◌, ◌∙◌, ℕ, List, Option, None, Some, IsSome, sym, subst}
use Rattle.std.proofs.lemmas.Bool.{false≢true}
use Rattle.kiss2.specs.Kiss.{Kiss, OneFile}
use Rattle.kiss_file.specs.declared.fill.Fill.{Fill}
use Rattle.kiss_file.specs.declared.file.KissFile.{KissFile}
use Rattle.net_core.specs.Blif.{Blif, BlifOnce}
use Rattle.net_core.specs.declared.Network.{Network}
use Rattle.operands.specs.OpenedOperands.{HoldsMachine, HoldsNetwork}
use Rattle.operands.specs.OperandText.{IsText}

pub bytes_once : (held : Option (List ℕ)) (bytes more : List ℕ) → IsSome held → IsText held bytes → IsText held more → bytes ≡ more
bytes_once None bytes more known one two = absurd (false≢true known)
bytes_once (Some told) bytes more known one two = one.1 ∙ sym two.1

pub machine_once : OneFile → (held : Option (List ℕ)) (fill : Fill) (bytes more : List ℕ) (F G : KissFile) → IsSome held → HoldsMachine held fill bytes F → HoldsMachine held fill more G → F ≡ G
machine_once one_file held fill bytes more F G known one two =
    one_file bytes F G one.kiss (subst (λ (list : List ℕ). Kiss list G) (sym (bytes_once held bytes more known one.text two.text)) two.kiss)

pub network_once : BlifOnce → (held : Option (List ℕ)) (bytes more : List ℕ) (N M : Network) → IsSome held → HoldsNetwork held bytes N → HoldsNetwork held more M → N ≡ M
network_once blif_once held bytes more N M known (text, blif) (text_too, blif_too) =
    blif_once bytes N M blif (subst (λ (list : List ℕ). Blif list M) (sym (bytes_once held bytes more known text text_too)) blif_too)
