-- What the words after the command are: operands, and options with the words that they take.
use Rattle.std.specs.Prelude.{ℕ, Bool, true, false, if◌then◌else◌, nat_eq, List, [], ◌∷◌, Option, Some, None, codes}
use Rattle.std.specs.List.{starts_with}
use Rattle.std.specs.Str.{bytes_eq}
use Rattle.job_words.specs.declared.table.CommandOption.{CommandOption}
use Rattle.job_words.specs.declared.table.CommandOption.TheVariants.{Limit, Reduce, Start, Fill, Names, Clock, Model}

-- an operand; an option with the word that it takes (empty if it takes none); an option whose word is missing; or a
-- word that begins as an option and is not one
pub data Item : Type 0 where
  Operand : List ℕ → Item
  Chosen : CommandOption → List ℕ → Item
  Lacking : CommandOption → Item
  Unknown : Item

-- a word that begins as an option
abbrev pub begins_option : List ℕ → Bool
begins_option word = starts_with nat_eq word (codes "--")

abbrev pub option_named : List ℕ → Option CommandOption
option_named word =
    if bytes_eq word (codes "--limit") then Some Limit
    else (if bytes_eq word (codes "--reduce") then Some Reduce
    else (if bytes_eq word (codes "--start") then Some Start
    else (if bytes_eq word (codes "--fill") then Some Fill
    else (if bytes_eq word (codes "--names") then Some Names
    else (if bytes_eq word (codes "--clock") then Some Clock
    else (if bytes_eq word (codes "--model") then Some Model else None))))))

-- whether an option takes the next word, whatever that is
abbrev pub takes_word : CommandOption → Bool
takes_word Limit = true
takes_word Reduce = false
takes_word Start = true
takes_word Fill = true
takes_word Names = false
takes_word Clock = true
takes_word Model = true

abbrev pub option_takes : Option CommandOption → Bool
option_takes None = false
option_takes (Some option) = takes_word option

-- the item of a word on its own, by the option that it names, if it names one
abbrev pub named_alone : Option CommandOption → List ℕ → Item
named_alone None word = if begins_option word then Unknown else Operand word
named_alone (Some option) word = if takes_word option then Lacking option else Chosen option []

abbrev pub alone : List ℕ → Item
alone word = named_alone (option_named word) word

-- the item of an option and the word after it
abbrev pub option_with : Option CommandOption → List ℕ → Item
option_with None next = Unknown
option_with (Some option) next = Chosen option next

-- the items of words
abbrev pub items_of : List (List ℕ) → List Item
items_of [] = []
items_of (word ∷ []) = alone word ∷ []
items_of (word ∷ next ∷ words) =
    if option_takes (option_named word) then option_with (option_named word) next ∷ items_of words else alone word ∷ items_of (next ∷ words)

-- the number of words of an item
abbrev pub width_of : Item → ℕ
width_of (Operand word) = 1
width_of (Chosen option word) = if takes_word option then 2 else 1
width_of (Lacking option) = 1
width_of Unknown = 1
