-- From a network that is made, or a refusal, to the line, and from lines to the text.
use Rattle.std.proofs.Common.{◌≡◌, ◌≢◌, ◌⊎◌, ℕ, ◌+◌, ◌<◌, ◌≤◌, inl, inr, Bool, IsSome, List, [], ◌∷◌, ◌++◌, Option, None, Some, length, take, get_or, sym, ap, ◌∙◌, subst}
use Rattle.std.specs.List.{AllZip, flat_map}
use Rattle.std.specs.Option.{option_map}
use Rattle.std.proofs.lemmas.Grind.{flat_map-append}
use Rattle.std.proofs.lemmas.List.{append-nil, take_all, take_more}
use Rattle.std.proofs.lemmas.Bool.{false≢true}
use Rattle.std.proofs.lemmas.Option.{none-some}
use Rattle.answers.specs.Cause.{CallsForNone, Cause}
use Rattle.answers.specs.Outcome.{IsStop}
use Rattle.answers.specs.declared.refusals.Refusal.{Refusal}
use Rattle.answers.specs.declared.refusals.Refusal.TheVariants.{NoMemory}
use Rattle.blif_out.specs.declared.networks.HeadedNetwork.{HeadedNetwork}
use Rattle.blif_out.specs.Design.{plain_design}
use Rattle.blif_out.specs.Head.{header_text, kind_word}
use Rattle.blif_out.specs.NetText.{net_text}
use Rattle.blif_out.specs.NetworkText.{CanBeHeaded, CanBeText, IsHeadedText}
use Rattle.blif_out.specs.Laws.Designs.{plain_design_is_lawful}
use Rattle.blif_out.proofs.NetworkTexts.{header_is_comments, network_has_text, text_has_head}
use Rattle.comparisons.proofs.Reasons.{refusals_have_reasons, register_refusals_have_reasons}
use Rattle.comparisons.specs.Comparison.{AreKindLines, HasReason, IsCompared, IsKindLine, IsRegisterLine, compared_kinds}
use Rattle.comparisons.specs.Inner.KindLines.{HasKindLines, IsMadeLine, IsMadeRegisterLine}
use Rattle.comparisons.specs.Lines.{reason_of, register_word, short_line}
use Rattle.decomposition.specs.Decomposition.{IsDecomposed}
use Rattle.hs_io.specs.Spelling.{ended, line_text}
use Rattle.hs_texts.specs.Comparisons.{short_fields}
use Rattle.hs_texts.specs.declared.comparisons.Reason.{Reason}
use Rattle.kiss_file.specs.declared.file.KissFile.{KissFile}
use Rattle.shift_texts.specs.declared.registers.OrderedRegister.{OrderedRegister}
use Rattle.shift_texts.specs.Causes.{RefusesShift}
use Rattle.shift_texts.specs.ShiftText.{IsOrderedRegister, shift_comments, with_comments}
use Rattle.split_texts.specs.Causes.{IsNotWritten}
use Rattle.split_texts.specs.SplitText.{IsOfKind}
use Rattle.state_codes.specs.declared.split.Kind.{Kind}
use Rattle.state_codes.specs.declared.split.Kind.TheVariants.{Assign}
use Rattle.state_codes.specs.declared.split.Part.{Part}

-- ---- networks
-- there is a note for each latch
noted_latches : (reduce : Bool) (F W : KissFile) (kind : Kind) (parts : List Part) (made : HeadedNetwork) → IsDecomposed reduce F W kind parts made → length made.network.latches ≡ length made.header.latches
unfolding IsDecomposed
noted_latches reduce F W kind parts made (class, codes, work, is_kind, are_parts, is) = is.latches

pub latches_noted : (kind : Kind) (text : List ℕ) (reduce : Bool) (F : KissFile) (made : HeadedNetwork) → IsOfKind kind text reduce F made → length made.network.latches ≡ length made.header.latches
latches_noted kind text reduce F made (W, parts, split, is, kept) = noted_latches reduce F W kind parts made is

-- a network with its header has a text
headed_text : (made : HeadedNetwork) → CanBeHeaded made → IsHeadedText plain_design made.header made.network (header_text made.header ++ net_text plain_design made.network)
headed_text made ready =
    text_has_head plain_design made.header made.network (header_text made.header ++ net_text plain_design made.network)
    (network_has_text plain_design (header_text made.header) made.network (header_is_comments made.header ready.header) ready.network (plain_design_is_lawful made.network))

pub kind_counted : (kind : Kind) (reduce : Bool) (F : KissFile) (made : HeadedNetwork) (line : List ℕ) → CallsForNone (IsNotWritten kind [] reduce F) → CanBeHeaded made → IsOfKind kind [] reduce F made
    → IsMadeLine kind made line → IsKindLine reduce F kind line
kind_counted kind reduce F made line none ready of_kind (parts, counts, counted, is) =
    inl (
      parts,
      counts,
      record { fits = none; written = header_text made.header ++ net_text plain_design made.network; is_written = (made, of_kind, headed_text made ready); counted = counted },
      is,
    )

pub register_counted : (reduce : Bool) (F : KissFile) (made : OrderedRegister) (line : List ℕ) → CallsForNone (RefusesShift reduce F) → CanBeText (with_comments made) → IsOrderedRegister reduce F made
    → IsMadeRegisterLine made line → IsRegisterLine reduce F line
register_counted reduce F made line none ready (W, names, is) (counts, across, counted, told) =
    inl (
      made.order,
      counts,
      record {
        fits = none;
        written = shift_comments made.order ++ net_text plain_design made.network;
        is_written = (
          with_comments made,
          (W, made.order, names, is),
          network_has_text plain_design (shift_comments made.order) made.network ready.comments ready.network (plain_design_is_lawful made.network),
        );
        order_is = (W, is.work, is.order);
        across = across;
        counted = counted;
      },
      told,
    )

-- ---- refusals
-- a refusal that stops a command is want of memory, or it has a line
pub kind_refused : (kind : Kind) (reduce : Bool) (F : KissFile) (word : List ℕ) (refusal : Refusal) → kind ≢ Assign → word ≡ kind_word kind → IsStop (IsNotWritten kind [] reduce F) refusal
    → (refusal ≡ NoMemory) ⊎ IsSome (short_line word refusal)
kind_refused kind reduce F word refusal other is (inl wanting) = inl wanting
kind_refused kind reduce F word refusal other is (inr calls) =
    inr (subst (λ (name : List ℕ). IsSome (short_line name refusal)) (sym is) (refusals_have_reasons kind reduce F refusal other calls))

pub register_refused : (reduce : Bool) (F : KissFile) (word : List ℕ) (refusal : Refusal) → word ≡ register_word → IsStop (RefusesShift reduce F) refusal → (refusal ≡ NoMemory) ⊎ IsSome (short_line word refusal)
register_refused reduce F word refusal is (inl wanting) = inl wanting
register_refused reduce F word refusal is (inr calls) =
    inr (subst (λ (name : List ℕ). IsSome (short_line name refusal)) (sym is) (register_refusals_have_reasons reduce F refusal calls))

-- want of memory has no line, so a line is that of a refusal that is called for
pub reason_told : (cause : Cause) (word name line : List ℕ) (refusal : Refusal) → word ≡ name → IsStop cause refusal → short_line word refusal ≡ Some line → HasReason cause name line
reason_told cause word name line refusal is (inl wanting) told = absurd (none-some line (sym (ap (short_line word) wanting) ∙ told))
reason_told cause word name line refusal is (inr calls) told = (refusal, calls, ap (λ (w : List ℕ). short_line w refusal) (sym is) ∙ told)

-- a refusal without a reason is want of memory
pub no_reason : (word : List ℕ) (refusal : Refusal) → (refusal ≡ NoMemory) ⊎ IsSome (short_line word refusal) → None ≡ reason_of refusal → refusal ≡ NoMemory
no_reason word refusal (inl wanting) none = wanting
no_reason word refusal (inr some) none = absurd (false≢true (subst (λ (found : Option Reason). IsSome (option_map (λ reason. line_text (short_fields word reason)) found)) (sym none) some))

-- the line of a reason
pub reason_line_is : (word line : List ℕ) (refusal : Refusal) (reason : Reason) → Some reason ≡ reason_of refusal → line ≡ line_text (short_fields word reason) → short_line word refusal ≡ Some line
reason_line_is word line refusal reason is told =
    ap (λ (found : Option Reason). option_map (λ reason. line_text (short_fields word reason)) found) (sym is) ∙ ap (λ (text : List ℕ). Some text) (sym told)

-- ---- lines
zip_more : {X Y : Type 0} (R : X → Y → Type 0) (xs : List X) (ys : List Y) (x : X) (y : Y) → AllZip R xs ys → R x y → AllZip R (xs ++ x ∷ []) (ys ++ y ∷ [])
zip_more R [] [] x y all here = (here, tt)
zip_more R [] (b ∷ ys) x y all here = absurd all
zip_more R (a ∷ xs) [] x y all here = absurd all
zip_more R (a ∷ xs) (b ∷ ys) x y (first, all) here = (first, zip_more R xs ys x y all here)

-- one line more
pub text_more : (lines : List (List ℕ)) (line text new : List ℕ) → text ≡ flat_map ended lines → new ≡ text ++ ended line → new ≡ flat_map ended (lines ++ line ∷ [])
text_more lines line text new before pushed =
    pushed ∙ ap (λ (t : List ℕ). t ++ ended line) before ∙ ap (λ (t : List ℕ). flat_map ended lines ++ t) (sym (append-nil (ended line))) ∙ sym (flat_map-append ended lines (line ∷ []))

pub kinds_more : (reduce : Bool) (F : KissFile) (kinds : List Kind) (i : ℕ) (first : Kind) (line text new : List ℕ) → i < length kinds → HasKindLines reduce F (take i kinds) text → IsKindLine reduce F (get_or kinds i first) line
    → new ≡ text ++ ended line → HasKindLines reduce F (take (i + 1) kinds) new
kinds_more reduce F kinds i first line text new within (lines, are, is) here pushed = (
  lines ++ line ∷ [],
  subst (λ (list : List Kind). AreKindLines reduce F list (lines ++ line ∷ [])) (sym (take_more kinds i first within))
      (zip_more (IsKindLine reduce F) (take i kinds) lines (get_or kinds i first) line are here),
  text_more lines line text new is pushed,
)

pub kinds_all : (reduce : Bool) (F : KissFile) (kinds : List Kind) (i : ℕ) (text : List ℕ) → length kinds ≤ i → HasKindLines reduce F (take i kinds) text → HasKindLines reduce F kinds text
kinds_all reduce F kinds i text done has = subst (λ (list : List Kind). HasKindLines reduce F list text) (take_all i kinds done) has

-- and the last line
pub compared_is : (reduce : Bool) (F : KissFile) (text new last : List ℕ) → HasKindLines reduce F compared_kinds text → IsRegisterLine reduce F last → new ≡ text ++ ended last → IsCompared reduce F new
compared_is reduce F text new last (lines, are, is) register pushed = (lines, last, are, register, text_more lines last text new is pushed)
