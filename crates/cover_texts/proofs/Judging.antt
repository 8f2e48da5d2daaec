-- The refusals of a text have their cause.
use Rattle.std.proofs.Common.{◌≡◌, ◌⊎◌, ◌<◌, ℕ, List, Result, Ok, Err, MatchResult, inl, inr, length, refl, sym, ap, ◌∙◌, subst}
use Rattle.answers.specs.declared.refusals.CoverFlaw.{CoverFlaw}
use Rattle.answers.specs.declared.refusals.CoverFlaw.TheVariants.{Lacks, Leaves, Place, Places, Trivial, Within}
use Rattle.answers.specs.declared.refusals.Refusal.{Refusal}
use Rattle.answers.specs.declared.refusals.Refusal.TheVariants.{NoMemory}
use Rattle.answers.specs.Cause.{CallsForNone}
use Rattle.answers.specs.Outcome.{IsStop}
use Rattle.cover_split.specs.declared.state_cover.Cover.{Cover}
use Rattle.cover_split.specs.declared.state_cover.CoverFail.{CoverFail}
use Rattle.cover_split.specs.declared.state_cover.CoverFail.TheVariants as fails
use Rattle.cover_split.specs.StateCover.{IsStateCover}
use Rattle.cover_split.specs.Expansion.{IsClosedCover, IsFirstLeaving}
use Rattle.cover_split.specs.Refusal.{CoverFault, SpellsBlocks}
use Rattle.cover_texts.specs.Flaws.{BadCoverRow, IsFlaw}
use Rattle.cover_texts.specs.Inner.Steps.{IsRead, IsFailRefusal, LeavesWith}
use Rattle.kiss_file.specs.declared.file.KissFile.{KissFile}

-- ---- a text that is no cover
stop_of_fault : (F : KissFile) (text : List ℕ) (fail : CoverFail) (refusal : Refusal) → IsFailRefusal F fail refusal → CoverFault (length F.states) text fail → IsStop (BadCoverRow F text) refusal
stop_of_fault F text (fails.BadText block place) refusal is fault = inr (Place block place, is, fault)
stop_of_fault F text (fails.Contained a b) refusal is fault = inr (Within a b, is, fault)
stop_of_fault F text (fails.Missing state) refusal (name, is, named) fault = inr (Lacks name, is, record { state = state; missing = fault; named = named })
stop_of_fault F text (fails.TooMany found) refusal is fault = inr (Places found, is, fault)
stop_of_fault F text fails.Trivial refusal is fault = inr (Trivial, is, fault)
stop_of_fault F text fails.NoMemory refusal is fault = inl is

pub stop_of_fail : (F : KissFile) (text : List ℕ) (fail : CoverFail) (refusal : Refusal) → IsFailRefusal F fail refusal → (fail ≡ fails.NoMemory) ⊎ CoverFault (length F.states) text fail → IsStop (BadCoverRow F text) refusal
stop_of_fail F text fail refusal is (inl wanting) = inl (subst (λ (f : CoverFail). IsFailRefusal F f refusal) wanting is)
stop_of_fail F text fail refusal is (inr fault) = stop_of_fault F text fail refusal is fault

-- the state that is missing is one
pub missing_below : (n : ℕ) (text : List ℕ) (fail : CoverFail) (state : ℕ) → (fail ≡ fails.NoMemory) ⊎ CoverFault n text fail → fail ≡ fails.Missing state → state < n
missing_below n text fail state (inl wanting) is = let both : fails.NoMemory ≡ fails.Missing state = sym wanting ∙ is in cc
missing_below n text fail state (inr fault) is =
    let here : CoverFault n text (fails.Missing state) = subst (λ (f : CoverFail). CoverFault n text f) is fault in
    ((here.2).1).state

-- ---- a text that is one
module _ (n : ℕ) (text : List ℕ) (result : Result Cover CoverFail) (cover : Cover) (is : result ≡ Ok cover) where
  pub alone_from : ((blocks : List (List ℕ)) → SpellsBlocks n text blocks → IsStateCover n blocks → MatchResult result (λ (c : Cover). c.blocks ≡ blocks) (λ fail. fail ≡ fails.NoMemory))
      → (others : List (List ℕ)) → SpellsBlocks n text others → IsStateCover n others → cover.blocks ≡ others
  alone_from accepted others told lawful = subst (λ (r : Result Cover CoverFail). MatchResult r (λ (c : Cover). c.blocks ≡ others) (λ fail. fail ≡ fails.NoMemory)) is (accepted others told lawful)

  pub faultless_from : ((fail : CoverFail) → CoverFault n text fail → (result ≡ Err fail) ⊎ (result ≡ Err fails.NoMemory)) → (fail : CoverFail) → CoverFault n text fail → ⊥
  faultless_from caused fail fault =
      elim (caused fail fault) [
        | inl one ↦ let both : Ok cover ≡ Err fail = sym is ∙ one in cc
        | inr one ↦ let both : Ok cover ≡ Err fails.NoMemory = sym is ∙ one in cc
      ]

-- ---- where a cover is not closed
module _ (F : KissFile) (text : List ℕ) (blocks : List (List ℕ)) (read : IsRead (length F.states) text blocks) where
  pub stop_of_leaving : (refusal : Refusal) → (refusal ≡ NoMemory) ⊎ LeavesWith F blocks refusal → IsStop (BadCoverRow F text) refusal
  stop_of_leaving refusal (inl wanting) = inl wanting
  stop_of_leaving refusal (inr (block, symbol, first, is)) =
      inr (Leaves block _, is, record { blocks = blocks; spelled = read.spelled; cover = read.cover; symbol = symbol; first = first; shown = refl })

  -- where it is, nothing is wrong
  no_flaw : IsClosedCover F blocks → (flaw : CoverFlaw) → IsFlaw F text flaw → ⊥
  no_flaw closed (Place block place) wrong = read.faultless (fails.BadText block place) wrong
  no_flaw closed (Within block other) wrong = read.faultless (fails.Contained block other) wrong
  no_flaw closed (Lacks name) wrong = read.faultless (fails.Missing wrong.state) wrong.missing
  no_flaw closed (Places found) wrong = read.faultless (fails.TooMany found) wrong
  no_flaw closed Trivial wrong = read.faultless fails.Trivial wrong
  no_flaw closed (Leaves block digits) wrong =
      let same : wrong.blocks ≡ blocks = sym (read.alone wrong.blocks wrong.spelled wrong.cover) in
      let first : IsFirstLeaving F blocks block wrong.symbol = subst (λ (list : List (List ℕ)). IsFirstLeaving F list block wrong.symbol) same wrong.first in
      (first.symbol).without (closed block first.block wrong.symbol (first.symbol).within)

  pub none_called : IsClosedCover F blocks → CallsForNone (BadCoverRow F text)
  none_called closed refusal (flaw, is, wrong) = no_flaw closed flaw wrong

-- ---- over the machine of the file
module _ (F M : KissFile) (n : ℕ) (same : M ≡ F) (count : n ≡ length M.states) (text : List ℕ) where
  counted : n ≡ length F.states
  counted = count ∙ ap (λ (H : KissFile). length H.states) same

  fault_here : (fail : CoverFail) → (fail ≡ fails.NoMemory) ⊎ CoverFault n text fail → (fail ≡ fails.NoMemory) ⊎ CoverFault (length F.states) text fail
  fault_here fail = subst (λ (k : ℕ). (fail ≡ fails.NoMemory) ⊎ CoverFault n text fail → (fail ≡ fails.NoMemory) ⊎ CoverFault k text fail) counted (λ h. h)

  pub missing_here : (fail : CoverFail) (state : ℕ) → (fail ≡ fails.NoMemory) ⊎ CoverFault n text fail → fail ≡ fails.Missing state → state < length F.states
  missing_here fail state refused is = missing_below (length F.states) text fail state (fault_here fail refused) is

  pub stop_here : (fail : CoverFail) (refusal : Refusal) → IsFailRefusal F fail refusal → (fail ≡ fails.NoMemory) ⊎ CoverFault n text fail → IsStop (BadCoverRow F text) refusal
  stop_here fail refusal is refused = stop_of_fail F text fail refusal is (fault_here fail refused)

  pub read_from : (result : Result Cover CoverFail) (cover : Cover) → result ≡ Ok cover → SpellsBlocks n text cover.blocks → IsStateCover n cover.blocks
      → ((blocks : List (List ℕ)) → SpellsBlocks n text blocks → IsStateCover n blocks → MatchResult result (λ (c : Cover). c.blocks ≡ blocks) (λ fail. fail ≡ fails.NoMemory))
      → ((fail : CoverFail) → CoverFault n text fail → (result ≡ Err fail) ⊎ (result ≡ Err fails.NoMemory)) → IsRead (length F.states) text cover.blocks
  read_from result cover is told lawful accepted caused =
      subst (λ (k : ℕ). IsRead k text cover.blocks) counted
      (record { spelled = told; cover = lawful; alone = alone_from n text result cover is accepted; faultless = faultless_from n text result cover is caused })

  -- a refusal of the machine of the file
  pub stop_of_machine : (blocks : List (List ℕ)) (refusal : Refusal) → IsRead (length F.states) text blocks → (refusal ≡ NoMemory) ⊎ LeavesWith M blocks refusal → IsStop (BadCoverRow F text) refusal
  stop_of_machine blocks refusal read h = stop_of_leaving F text blocks read refusal (subst (λ (H : KissFile). (refusal ≡ NoMemory) ⊎ LeavesWith H blocks refusal) same h)
