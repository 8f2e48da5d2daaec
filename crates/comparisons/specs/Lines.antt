-- The lines of a comparison: of the network of a kind, of a register, and of a refusal.
use Rattle.std.specs.Prelude.{ℕ, List, Option, None, Some, codes}
use Rattle.std.specs.Option.{option_map}
use Rattle.answers.specs.declared.refusals.Refusal.{Refusal}
use Rattle.answers.specs.declared.refusals.Refusal.TheVariants.{CodeTooLong, NoSplit, NotDefinite, NotReached, StateCount}
use Rattle.blif_out.specs.Head.{kind_word}
use Rattle.hs_io.specs.Spelling.{line_text}
use Rattle.hs_texts.specs.Comparisons.{counted_fields, short_fields}
use Rattle.hs_texts.specs.declared.comparisons.NetworkCounts.{NetworkCounts}
use Rattle.hs_texts.specs.declared.comparisons.Reason.{Reason}
use Rattle.hs_texts.specs.declared.comparisons.Reason.TheVariants.{Bits, Lacking, States, Unreached}
use Rattle.state_codes.specs.declared.split.Kind.{Kind}

-- ---- counts
-- the line of a decomposition: its kind, and how many parts it has
abbrev pub parts_line : Kind → ℕ → NetworkCounts → List ℕ
parts_line kind parts counts = line_text (counted_fields (kind_word kind) (codes "parts") parts counts)

-- the word of the register, as of the command that writes it
abbrev pub register_word : List ℕ
register_word = codes "shift"

-- the line of a register: the order of the machine
abbrev pub order_line : ℕ → NetworkCounts → List ℕ
order_line order counts = line_text (counted_fields register_word (codes "order") order counts)

-- ---- reasons
-- the table of the refusals that have a reason
abbrev pub reason_of : Refusal → Option Reason
reason_of (NoSplit kind) = Some Lacking
reason_of (CodeTooLong bits) = Some (Bits bits)
reason_of (StateCount states) = Some (States states)
reason_of (NotDefinite state other) = Some Lacking
reason_of (NotReached reset) = Some Unreached
reason_of _ = None

-- the line of a refusal after a word, if the refusal has a reason
abbrev pub short_line : List ℕ → Refusal → Option (List ℕ)
short_line word refusal = option_map (λ reason. line_text (short_fields word reason)) (reason_of refusal)
