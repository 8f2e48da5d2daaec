-- What holds of a draft of a job. Only private functions cite this.
use Rattle.std.specs.Prelude.{◌≡◌, ℕ, Bool, true, List, Option, Some}
use Rattle.job_words.specs.declared.draft.Draft.{Draft}
use Rattle.job_words.specs.declared.draft.Refusal.{Refusal}
use Rattle.job_words.specs.declared.draft.Refusal.TheVariants.{Word, Taken, NoMemory}
use Rattle.job_words.specs.declared.draft.Stood.{Stood}
use Rattle.job_words.specs.declared.items.Entry.{Entry}
use Rattle.job_words.specs.declared.items.Entry.TheVariants as entries
use Rattle.job_words.specs.declared.table.CommandOption.{CommandOption}
use Rattle.job_words.specs.declared.table.CommandOption.TheVariants.{Limit, Reduce, Start, Fill, Names, Clock, Model}
use Rattle.job_words.specs.Item.{Item, Operand, Chosen, Lacking, Unknown}
use Rattle.job_words.specs.Job.{job_of, operands_in, stands}
use Rattle.job_words.specs.Table.{Row}

-- the item of an entry
abbrev pub item_of : Entry → Item
item_of (entries.Operand word) = Operand word.now
item_of (entries.Chosen option word) = Chosen option word.now
item_of (entries.Lacking option) = Lacking option
item_of entries.Unknown = Unknown

-- an option occurs
abbrev pub stood : Stood → CommandOption → Bool
stood options Limit = options.limit
stood options Reduce = options.reduce
stood options Start = options.start
stood options Fill = options.fill
stood options Names = options.names
stood options Clock = options.clock
stood options Model = options.model

abbrev pub stood_with : CommandOption → Stood → Stood
stood_with Limit options = record options { limit = true }
stood_with Reduce options = record options { reduce = true }
stood_with Start options = record options { start = true }
stood_with Fill options = record options { fill = true }
stood_with Names options = record options { names = true }
stood_with Clock options = record options { clock = true }
stood_with Model options = record options { model = true }

-- a draft is what the items before give, the last one first
pub record IsDraft (row : Row) (before : List Item) (draft : Draft) : Type 0 where
  pub operands : draft.operands ≡ operands_in before
  pub options : (option : CommandOption) → stood draft.stood option ≡ stands option before
  pub job : draft.job ≡ job_of row before

-- the place of the word, counted from 0 in its item, for which the item is refused
abbrev pub IsRefusal : Option ℕ → Refusal → Type 0
IsRefusal place Word = place ≡ Some 0
IsRefusal place Taken = place ≡ Some 1
IsRefusal place NoMemory = Unit
