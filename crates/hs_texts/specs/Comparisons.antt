-- The lines of a comparison, by their fields.
use Rattle.std.specs.Prelude.{ℕ, List, [], ◌∷◌, codes}
use Rattle.std.specs.Fmt.{decimal}
use Rattle.hs_texts.specs.declared.comparisons.NetworkCounts.{NetworkCounts}
use Rattle.hs_texts.specs.declared.comparisons.Reason.{Reason}
use Rattle.hs_texts.specs.declared.comparisons.Reason.TheVariants.{Bits, Lacking, States, Unreached}

-- the fields of the line of a network: its word, and then figures, each after its label
abbrev pub counted_fields : List ℕ → List ℕ → ℕ → NetworkCounts → List (List ℕ)
counted_fields word measure number counts =
    word
    ∷ measure ∷ decimal number
    ∷ codes "latches" ∷ decimal counts.latches
    ∷ codes "reads" ∷ decimal counts.reads
    ∷ codes "across" ∷ decimal counts.across
    ∷ codes "rows" ∷ decimal counts.rows
    ∷ codes "literals" ∷ decimal counts.literals
    ∷ []

-- the fields of a reason
abbrev pub reason_fields : Reason → List (List ℕ)
reason_fields Lacking = codes "none" ∷ []
reason_fields (Bits bits) = codes "bits" ∷ decimal bits ∷ []
reason_fields (States states) = codes "states" ∷ decimal states ∷ []
reason_fields Unreached = codes "unreached" ∷ []

-- the fields of the line of a network that there is not
abbrev pub short_fields : List ℕ → Reason → List (List ℕ)
short_fields word reason = word ∷ reason_fields reason
