-- The results of the definitions of a job in small cases: a table with every kind of operand and every option,
-- lines of words, and what they are to give.
use Rattle.std.specs.Prelude.{◌≡◌, ℕ, ◌==◌, true, List, [], ◌∷◌, Some, Result, Ok, Err, codes, replicate}
use Prim.Native.String.{String}
use Rattle.std.specs.List.{slice_split}
use Rattle.job_words.specs.declared.command.Command.TheVariants as commands
use Rattle.job_words.specs.declared.jobs.Job.{Job}
use Rattle.job_words.specs.declared.table.CommandOption.TheVariants.{Limit, Reduce, Start, Fill}
use Rattle.job_words.specs.declared.table.OperandKind.TheVariants.{File, Net, Part, Parts, Symbols, Seed, A, B, K}
use Rattle.job_words.specs.Job.{JobOf, empty_job, judgement}
use Rattle.job_words.specs.Table.{Row, row}

-- some rows
abbrev pub example_rows : List Row
example_rows =
    row commands.Closed (File ∷ []) (Limit ∷ Fill ∷ [])
    ∷ row commands.Low (File ∷ Part ∷ []) (Fill ∷ [])
    ∷ row commands.Assign (File ∷ Parts ∷ []) (Reduce ∷ Fill ∷ [])
    ∷ row commands.Sim (Net ∷ Symbols ∷ []) (Start ∷ [])
    ∷ row commands.Gen (Seed ∷ A ∷ B ∷ K ∷ []) []
    ∷ []

-- the words of a line, cut at each space
abbrev pub words_of : String → List (List ℕ)
words_of line = slice_split (λ byte. byte == 32) (codes line)

-- the result of a line by these rows
abbrev pub judged_line : String → Result Job ℕ
judged_line line = judgement example_rows (words_of line)

-- the result of a line by the commands that are built
abbrev pub job_of_line : String → Result Job ℕ
job_of_line line = JobOf (words_of line)

-- a text of this number of slashes
abbrev pub slashes : ℕ → List ℕ
slashes count = replicate count 47

-- the command decides what may follow, and the first word that is not allowed is refused
pub record RefusesWords : Type 0 where
  pub no_words : judgement example_rows [] ≡ Err 1
  pub no_command : judged_line "draw f" ≡ Err 1
  pub option_first : judged_line "--limit 5" ≡ Err 1
  pub empty_operand : judged_line "closed " ≡ Err 2
  pub too_many : judged_line "closed f g --limit 0" ≡ Err 3
  pub missing : judged_line "low f" ≡ Err 3
  pub no_option : judged_line "closed --limits 5 f" ≡ Err 2
  pub with_equals : judged_line "closed f --limit=5" ≡ Err 3
  pub dashes : judged_line "closed -- f" ≡ Err 2
  pub of_another : judged_line "closed f --reduce" ≡ Err 3
  pub of_another_first : judged_line "closed f --start --limit 0" ≡ Err 3

-- an option may occur once, anywhere, and takes the next word whatever it is
pub record TakesOptions : Type 0 where
  pub last : judged_line "closed f --limit 10" ≡ Ok (record (empty_job commands.Closed) { file = codes "f"; limit = 10 })
  pub first : judged_line "closed --limit 10 f" ≡ Ok (record (empty_job commands.Closed) { file = codes "f"; limit = 10 })
  pub twice : judged_line "closed f --limit 10 --limit 10" ≡ Err 5
  pub twice_bare : judged_line "assign f 0 --reduce --reduce" ≡ Err 5
  pub lacking : judged_line "closed f --limit" ≡ Err 4
  pub lacking_of_another : judged_line "closed f --start" ≡ Err 3
  pub hold : judged_line "low --fill hold f 0,1" ≡ Ok (record (empty_job commands.Low) { file = codes "f"; second = codes "0,1"; hold = true })
  pub keep : judged_line "low f 0,1 --fill keep" ≡ Err 5
  pub reduce : judged_line "assign f --reduce 0/0" ≡ Ok (record (empty_job commands.Assign) { file = codes "f"; second = codes "0/0"; reduce = true })
  pub start : judged_line "sim n s --start --start" ≡ Ok (record (empty_job commands.Sim) { file = codes "n"; second = codes "s"; start = Some (codes "--start") })
  pub empty_start : judged_line "sim n s --start " ≡ Ok (record (empty_job commands.Sim) { file = codes "n"; second = codes "s"; start = Some [] })

-- numbers have one to nine digits, and lie in their ranges
pub record ReadsNumbers : Type 0 where
  pub least : judged_line "closed f --limit 0" ≡ Err 4
  pub most : judged_line "closed f --limit 10000" ≡ Ok (record (empty_job commands.Closed) { file = codes "f"; limit = 10000 })
  pub above : judged_line "closed f --limit 10001" ≡ Err 4
  pub zeros : judged_line "closed f --limit 000000012" ≡ Ok (record (empty_job commands.Closed) { file = codes "f"; limit = 12 })
  pub ten_digits : judged_line "closed f --limit 0000000012" ≡ Err 4
  pub plus : judged_line "closed f --limit +12" ≡ Err 4
  pub no_digits : judged_line "closed f --limit " ≡ Err 4
  pub generator : judged_line "gen 999999999 2 128 8" ≡ Ok (record (empty_job commands.Gen) { seed = 999999999; a = 2; b = 128; k = 8 })
  pub seed : judged_line "gen 1000000000 2 2 1" ≡ Err 2
  pub small : judged_line "gen 7 1 2 1" ≡ Err 3
  pub large : judged_line "gen 7 129 2 1" ≡ Err 3
  pub product : judged_line "gen 7 128 3 9" ≡ Err 4
  pub inputs : judged_line "gen 7 128 2 9" ≡ Err 5
  pub no_inputs : judged_line "gen 7 128 2" ≡ Err 5
  pub pieces : judgement example_rows (codes "assign" ∷ codes "f" ∷ slashes 255 ∷ []) ≡ Ok (record (empty_job commands.Assign) { file = codes "f"; second = slashes 255 })
  pub more_pieces : judgement example_rows (codes "assign" ∷ codes "f" ∷ slashes 256 ∷ []) ≡ Err 3

-- a walk and a simulation read symbols
pub record ReadsSymbols : Type 0 where
  pub walk : job_of_line "walk f g --fill hold" ≡ Ok (record (empty_job commands.Walk) { file = codes "f"; second = codes "g"; hold = true })
  pub no_symbols : job_of_line "walk f" ≡ Err 3
  pub walk_keep : job_of_line "walk f g --fill keep" ≡ Err 5
  pub sim : job_of_line "sim f g --start 01" ≡ Ok (record (empty_job commands.Sim) { file = codes "f"; second = codes "g"; start = Some (codes "01") })
  pub no_start : job_of_line "sim f g --start" ≡ Err 5
  pub sim_fill : job_of_line "sim f g --fill hold" ≡ Err 4

-- `gen` and `trial` take the numbers of a machine of at most 256 states
pub record TakesSizes : Type 0 where
  pub gen : job_of_line "gen 1 2 2 1" ≡ Ok (record (empty_job commands.Gen) { seed = 1; a = 2; b = 2; k = 1 })
  pub trial : job_of_line "trial 1 128 2 8" ≡ Ok (record (empty_job commands.Trial) { seed = 1; a = 128; b = 2; k = 8 })
  pub numbers_missing : job_of_line "gen 1 2" ≡ Err 4
  pub second_above : job_of_line "gen 1 2 129 1" ≡ Err 4
  pub states_above : job_of_line "gen 1 16 17 1" ≡ Err 4
  pub inputs_above : job_of_line "trial 1 2 2 9" ≡ Err 5
  pub option : job_of_line "trial 1 2 2 1 --reduce" ≡ Err 6

-- a text of this number of commas
abbrev pub commas : ℕ → List ℕ
commas count = replicate count 44

-- a network has a model and may have a clock; partitions may be printed by names
pub record TakesNames : Type 0 where
  pub both : job_of_line "code f --clock clk --model counter"
      ≡ Ok (record (empty_job commands.Code) { file = codes "f"; clock = Some (codes "clk"); model = Some (codes "counter") })
  pub with_others : job_of_line "shift --model m --reduce --clock c f --fill hold"
      ≡ Ok (record (empty_job commands.Shift) { file = codes "f"; reduce = true; hold = true; clock = Some (codes "c"); model = Some (codes "m") })
  pub as_option : job_of_line "cover f 0 --clock --model"
      ≡ Ok (record (empty_job commands.Cover) { file = codes "f"; second = codes "0"; clock = Some (codes "--model") })
  pub model_nil : job_of_line "least f --model NIL" ≡ Ok (record (empty_job commands.Least) { file = codes "f"; model = Some (codes "NIL") })
  pub clock_nil : job_of_line "least f --clock NIL" ≡ Err 4
  pub clock_nils : job_of_line "least f --clock NILS" ≡ Ok (record (empty_job commands.Least) { file = codes "f"; clock = Some (codes "NILS") })
  pub empty_clock : job_of_line "code f --clock " ≡ Err 4
  pub empty_model : job_of_line "code f --model " ≡ Err 4
  pub longest : JobOf (codes "code" ∷ codes "f" ∷ codes "--clock" ∷ commas 64 ∷ [])
      ≡ Ok (record (empty_job commands.Code) { file = codes "f"; clock = Some (commas 64) })
  pub longer_clock : JobOf (codes "code" ∷ codes "f" ∷ codes "--clock" ∷ commas 65 ∷ []) ≡ Err 4
  pub longer_model : JobOf (codes "code" ∷ codes "f" ∷ codes "--model" ∷ commas 65 ∷ []) ≡ Err 4
  pub comment : job_of_line "code f --clock c#k" ≡ Err 4
  pub backslash : job_of_line "code f --model m\\" ≡ Err 4
  pub ends : job_of_line "code f --model !~" ≡ Ok (record (empty_job commands.Code) { file = codes "f"; model = Some (codes "!~") })
  pub delete : JobOf (codes "code" ∷ codes "f" ∷ codes "--model" ∷ (109 ∷ 127 ∷ []) ∷ []) ≡ Err 4
  pub twice : job_of_line "code f --clock c --clock d" ≡ Err 5
  pub lacking : job_of_line "code f --clock" ≡ Err 4
  pub of_another : job_of_line "walk f s --clock c" ≡ Err 4
  pub of_another_nil : job_of_line "compare f --clock NIL" ≡ Err 3
  pub names : job_of_line "low --names f 0,1" ≡ Ok (record (empty_job commands.Low) { file = codes "f"; second = codes "0,1"; names = true })
  pub names_twice : job_of_line "closed f --names --names" ≡ Err 4
  pub no_names : job_of_line "ispairs f --names" ≡ Err 3
  pub compare : job_of_line "compare f --reduce" ≡ Ok (record (empty_job commands.Compare) { file = codes "f"; reduce = true })

-- `part` takes a split, by the word of its kind or by partitions, and which of its machines is asked for
pub record TakesSplits : Type 0 where
  pub zeros : job_of_line "part f serial 007" ≡ Ok (record (empty_job commands.Part) { file = codes "f"; second = codes "serial"; part = Some 7 })
  pub outputs : job_of_line "part f --fill hold least outputs --reduce"
      ≡ Ok (record (empty_job commands.Part) { file = codes "f"; second = codes "least"; hold = true; reduce = true })
  pub given : job_of_line "part f 0,1/1,1 0" ≡ Ok (record (empty_job commands.Part) { file = codes "f"; second = codes "0,1/1,1"; part = Some 0 })
  pub most : job_of_line "part f cascade 999" ≡ Ok (record (empty_job commands.Part) { file = codes "f"; second = codes "cascade"; part = Some 999 })
  pub code : job_of_line "part f code 10" ≡ Ok (record (empty_job commands.Part) { file = codes "f"; second = codes "code"; part = Some 10 })
  pub parallel : job_of_line "part f parallel 2" ≡ Ok (record (empty_job commands.Part) { file = codes "f"; second = codes "parallel"; part = Some 2 })
  pub feedback : job_of_line "part f feedback 1" ≡ Ok (record (empty_job commands.Part) { file = codes "f"; second = codes "feedback"; part = Some 1 })
  pub last_digit : job_of_line "part f 9 3" ≡ Ok (record (empty_job commands.Part) { file = codes "f"; second = codes "9"; part = Some 3 })
  pub misspelt : job_of_line "part f searial 0" ≡ Err 3
  pub longer : job_of_line "part f serials 0" ≡ Err 3
  pub assign : job_of_line "part f assign 0" ≡ Err 3
  pub cover : job_of_line "part f cover 0" ≡ Err 3
  pub shift : job_of_line "part f shift 0" ≡ Err 3
  pub no_label : job_of_line "part f /0,1 0" ≡ Err 3
  pub no_digit : job_of_line "part f :0 0" ≡ Err 3
  pub pieces : JobOf (codes "part" ∷ codes "f" ∷ (48 ∷ slashes 255) ∷ codes "5" ∷ [])
      ≡ Ok (record (empty_job commands.Part) { file = codes "f"; second = 48 ∷ slashes 255; part = Some 5 })
  pub more_pieces : JobOf (codes "part" ∷ codes "f" ∷ (48 ∷ slashes 256) ∷ codes "5" ∷ []) ≡ Err 3
  pub four_digits : job_of_line "part f code 0007" ≡ Err 4
  pub plus : job_of_line "part f code +7" ≡ Err 4
  pub minus : job_of_line "part f code -7" ≡ Err 4
  pub output : job_of_line "part f code output" ≡ Err 4
  pub no_number : job_of_line "part f code serial" ≡ Err 4
  pub empty_part : job_of_line "part f code " ≡ Err 4
  pub lacks_part : job_of_line "part f code" ≡ Err 4
  pub lacks_split : job_of_line "part f --reduce" ≡ Err 4
  pub clock : job_of_line "part f code 0 --clock c" ≡ Err 5
  pub names : job_of_line "part f code --names 0" ≡ Err 4
