-- What happens to what a command made: what is put, which refusal is answered, and how much of a line a sink takes.
use Rattle.std.specs.Prelude.{◌≡◌, ◌≢◌, ◌⊎◌, ℕ, List, [], Option, Result, Ok, Err}
use Rattle.hs_io.specs.Counts.{Rose}
use Rattle.hs_io.specs.Pieces.{Appends, AppendsFront}
use Rattle.answers.specs.declared.refusals.Refusal.{Refusal}
use Rattle.answers.specs.declared.refusals.Refusal.TheVariants.{More, NoMemory, Unwritable}
use Rattle.answers.specs.declared.reports.Page.{Page}
use Rattle.answers.specs.declared.reports.Page.TheVariants.{Evidence, Whole}

-- a line was handed to a sink: it took the line whole, or there was a fault and it took a front of the line
abbrev pub LinePut : List ℕ → Option (List ℕ) → Option (List ℕ) → ℕ → ℕ → Type 0
LinePut line given given' faults faults' =
    Appends given line given' ⊎ (AppendsFront given line given' × Rose faults faults')

-- the text that goes to out
abbrev pub IsPut : Result Page Refusal → List ℕ → Type 0
IsPut (Ok (Whole whole)) text = text ≡ whole
IsPut (Ok (Evidence evidence limit)) text = text ≡ evidence
IsPut (Err refusal) text = ⊥

-- a whole text is put; if it is empty, nothing is put and the sink stays as it was
abbrev pub IsDone : Result Page Refusal → Option (List ℕ) → Option (List ℕ) → Type 0 → Type 0
IsDone (Ok (Whole text)) given given' Stays = Appends given text given' × (text ≡ [] → Stays)
IsDone _ given given' Stays = ⊥

-- a front of a text that is not empty is put, and there was a fault
abbrev pub IsCut : Result Page Refusal → Option (List ℕ) → Option (List ℕ) → Type 0 → Type 0
IsCut made given given' Faulted = (text : List ℕ) × IsPut made text × (text ≢ []) × AppendsFront given text given' × Faulted

-- the refusal that is answered instead of Done, with what out was given before and after
abbrev pub IsRefusedWith : Result Page Refusal → Option (List ℕ) → Option (List ℕ) → Type 0 → Refusal → Type 0
IsRefusedWith (Ok (Whole text)) given given' Faulted refusal = (refusal ≡ Unwritable) × IsCut (Ok (Whole text)) given given' Faulted
IsRefusedWith (Ok (Evidence text limit)) given given' Faulted refusal =
    ((refusal ≡ More limit) × Appends given text given')
    ⊎ ((refusal ≡ Unwritable) × IsCut (Ok (Evidence text limit)) given given' Faulted)
    ⊎ (refusal ≡ NoMemory)
IsRefusedWith (Err made) given given' Faulted refusal = (refusal ≡ made) ⊎ (refusal ≡ NoMemory)
