-- What an answer says of its text.
use Rattle.std.proofs.Common.{◌≡◌, ℕ, List, [], Option, None, Result, Ok, Err, map, inr, sym, ◌∙◌, refl, ap, subst}
use Rattle.std.specs.Prelude.{IfOk, MatchResult, OnOk}
use Rattle.std.specs.Option.{option_or}
use Rattle.hs_io.specs.declared.lines.Line.{Line}
use Rattle.net_core.specs.declared.Network.{Network}
use Rattle.net_core.specs.Blif.{Blif}
use Rattle.net_core.specs.SoundNetwork.{Sound}
use Rattle.net_core.specs.Statements.{said_in, statements_of}
use Rattle.blif_in.specs.declared.fault.BlifFail.{BlifFail}
use Rattle.blif_in.specs.declared.fault.BlifFail.TheVariants.{NoMemory, Refused}
use Rattle.blif_in.specs.declared.fault.BlifFault.{BlifFault}
use Rattle.blif_in.specs.declared.reader.OrderedNetwork.{OrderedNetwork}
use Rattle.blif_in.specs.Inner.JoinedLines.{lines_read}
use Rattle.blif_in.specs.Inner.LineStatements.{numbered, says}
use Rattle.blif_in.specs.Text.{IsBlifFault, IsFaultOf, IsStructureFault, TellsOf, closing_fault, first_fault, network_of, text_fault}
use Rattle.blif_in.proofs.Closing.{said_numbered}
use Rattle.blif_in.proofs.Measured.{statements_are}
use Rattle.blif_in.proofs.Texts.{denoted_is, faultless_text, never_both, one_fault}

-- an answer that is right wherever it is one of the text
pub record IsRight (bytes : List ℕ) (result : Result OrderedNetwork BlifFail) : Type 0 where
  pub read : IfOk result (λ ordered. Blif bytes ordered.net)
  pub refused : (fault : BlifFault) → result ≡ Err (Refused fault) → IsBlifFault bytes fault

-- a network that lines say, where they have no fault and it is sound
good : (bytes : List ℕ) (lines : List Line) (result : Result OrderedNetwork BlifFail) → lines ≡ lines_read bytes → OnOk result (text_fault (numbered lines) ≡ None) → IfOk result (λ ordered. ordered.net ≡ network_of (map says lines)) → IfOk result (λ ordered. Sound ordered.net)
    → IfOk result (λ ordered. Blif bytes ordered.net)
good bytes lines (Err fail) are faultless is sound = tt
good bytes lines (Ok ordered) are faultless is sound =
    let same : numbered lines ≡ statements_of bytes = ap numbered are ∙ statements_are bytes in
    let said : map says lines ≡ said_in bytes = sym (said_numbered lines) ∙ ap (map (λ statement. statement.says)) same in
    let whole : ordered.net ≡ network_of (said_in bytes) = is ∙ ap network_of said in
    let none : text_fault (statements_of bytes) ≡ None = ap text_fault (sym same) ∙ faultless in
    let text = (faultless_text bytes).denotes none in
    subst (Blif bytes) (sym whole) (record { denotes = text.0; sound = subst Sound whole sound; within = text.1 })

pub right : (bytes : List ℕ) (lines : List Line) (result : Result OrderedNetwork BlifFail) → lines ≡ lines_read bytes → OnOk result (text_fault (numbered lines) ≡ None) → IfOk result (λ ordered. ordered.net ≡ network_of (map says lines)) → IfOk result (λ ordered. Sound ordered.net)
    → ((fault : BlifFault) → result ≡ Err (Refused fault) → IsFaultOf (numbered lines) fault) → IsRight bytes result
right bytes lines result are faultless is sound refused =
    record {
      read = good bytes lines result are faultless is sound;
      refused = λ fault told. subst (λ statements. IsFaultOf statements fault) (ap numbered are ∙ statements_are bytes) (refused fault told);
    }

pub never_refused : (bytes : List ℕ) (result : Result OrderedNetwork BlifFail) → IsRight bytes result → (net : Network) → Blif bytes net → MatchResult result (λ ordered. ordered.net ≡ net) (λ fail. fail ≡ NoMemory)
never_refused bytes (Ok ordered) is net blif = denoted_is bytes ordered.net is.read.denotes ∙ sym (denoted_is bytes net blif.denotes)
never_refused bytes (Err (Refused fault)) is net blif = absurd (never_both bytes net fault blif (is.refused fault refl))
never_refused bytes (Err NoMemory) is net blif = refl

pub never_read : (bytes : List ℕ) (result : Result OrderedNetwork BlifFail) → IsRight bytes result → (fault : BlifFault) → IsBlifFault bytes fault → MatchResult result (λ _. ⊥) (TellsOf fault)
never_read bytes (Ok ordered) is fault has = never_both bytes ordered.net fault is.read has
never_read bytes (Err (Refused other)) is fault has = one_fault bytes fault other has (is.refused other refl)
never_read bytes (Err NoMemory) is fault has = tt

-- statements without a fault whose network is not sound
pub unsound : (lines : List Line) (closing : Option BlifFault) (N : Network) (fault : BlifFault) → first_fault [] (numbered lines) ≡ None → closing ≡ closing_fault (numbered lines) → closing ≡ None → N ≡ network_of (map says lines) → IsStructureFault N fault
    → IsFaultOf (numbered lines) fault
unsound lines closing N fault none closing_is closed is structure =
    inr (
      ap (λ (found : Option BlifFault). option_or found (closing_fault (numbered lines))) none ∙ sym closing_is ∙ closed,
      subst (λ M. IsStructureFault M fault) (is ∙ sym (ap network_of (said_numbered lines))) structure,
    )

-- a refusal of the network with its order is one of the network alone
pub same_refusal : (P : OrderedNetwork → Type 0) (ordered : Result OrderedNetwork BlifFail) (read : Result Network BlifFail) (fault : BlifFault) → MatchResult ordered P (λ fail. read ≡ Err fail) → MatchResult ordered (λ _. ⊥) (TellsOf fault) → MatchResult read (λ _. ⊥) (TellsOf fault)
same_refusal P (Ok ordered) read fault same told = absurd told
same_refusal P (Err fail) read fault same told = subst (λ (r : Result Network BlifFail). MatchResult r (λ _. ⊥) (TellsOf fault)) (sym same) told
