-- What the operands of `part` name.
use Rattle.std.specs.Prelude.{ℕ, if◌then◌else◌, List, Option, None, Some}
use Rattle.std.specs.Str.{bytes_eq}
use Rattle.blif_out.specs.Head.{kind_word}
use Rattle.state_codes.specs.declared.split.Kind.{Kind}
use Rattle.state_codes.specs.declared.split.Kind.TheVariants.{Assign, Cascade, Code, Feedback, Least, Parallel, Serial}
use Rattle.state_codes.specs.declared.which.Which.{Which}
use Rattle.state_codes.specs.declared.which.Which.TheVariants.{Outputs, Part}

-- the kind of split that SPLIT names by its word; any other text gives the partitions
abbrev pub split_kind : List ℕ → Kind
split_kind word =
    if bytes_eq word (kind_word Code) then Code
    else (if bytes_eq word (kind_word Parallel) then Parallel
    else (if bytes_eq word (kind_word Serial) then Serial
    else (if bytes_eq word (kind_word Cascade) then Cascade
    else (if bytes_eq word (kind_word Feedback) then Feedback
    else (if bytes_eq word (kind_word Least) then Least else Assign)))))

-- the machine that J names
abbrev pub which_of : Option ℕ → Which
which_of (Some part) = Part part
which_of None = Outputs
