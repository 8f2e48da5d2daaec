-- What a machine is made for: one part of a split, or the outputs.
use Rattle.std.specs.Prelude.{◌==◌, ℕ, List, [], Option, Some, codes, filter, length, option_map, slice_get, slice_index}
use Rattle.std.specs.List.{range_with_len}
use Rattle.kiss_file.specs.declared.file.KissFile.{KissFile}
use Rattle.partition.specs.Partition.{one_of}
use Rattle.state_codes.specs.declared.split.Part.{Part}
use Rattle.state_codes.specs.declared.Codes.{Codes}
use Rattle.state_codes.specs.declared.which.Which.{Which}
use Rattle.state_codes.specs.declared.which.Which.TheVariants.{Part as Numbered, Outputs}

-- the partition whose blocks are the states of the machine, if the part is there: that of the part, and one for the outputs
abbrev pub partition_of : KissFile → List Part → Which → Option (List ℕ)
partition_of W parts (Numbered j) = option_map (λ part. part.partition) (slice_get parts j)
partition_of W parts Outputs = Some (one_of (length W.states))

-- the bits of the part, ascending; for the outputs each bit is one of another part
abbrev pub own_bits : Codes → Which → List ℕ
own_bits code (Numbered j) = filter (λ c. slice_index code.owner c == j) (range_with_len 0 code.bits)
own_bits code Outputs = []

-- the name of the one state of the machine of the outputs
abbrev pub outputs_name : List ℕ
outputs_name = codes "outputs"
