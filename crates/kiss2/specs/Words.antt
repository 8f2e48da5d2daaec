-- What a line of a KISS2 text is, and its fields (source: SIS manual, KISS2, narrowed to this product's profile).
use Rattle.std.specs.Prelude.{ℕ, ◌+◌, ◌*◌, ◌==◌, Bool, true, false, not, ◌&&◌, ◌||◌, nat_le, if◌then◌else◌, List, [], ◌∷◌, codes, drop, length, slice_index, slice_index_or}
use Rattle.std.specs.Char.{is_ascii_digit}
use Rattle.std.specs.List.{list_all, list_any}
use Rattle.std.specs.Str.{bytes_eq}
use Rattle.std.specs.Str.Parse.{digits_value}
use Rattle.hs_io.specs.declared.lines.Line.{Line}
use Rattle.kiss2.specs.declared.line_kind.LineKind.{LineKind}
use Rattle.kiss2.specs.declared.line_kind.LineKind.TheVariants.{Blank, End, InputCount, OutputCount, RowCount, StateCount, Reset, InputNames, OutputNames, Unknown, Row}

-- the field begins with a dot
abbrev pub is_dotted : List ℕ → Bool
is_dotted field = slice_index field 0 == 46

-- what a line with this first field is
unfoldable pub kind_of_field : List ℕ → LineKind
kind_of_field field =
    if bytes_eq field (codes ".e") || bytes_eq field (codes ".end") then End
    else if bytes_eq field (codes ".i") then InputCount
    else if bytes_eq field (codes ".o") then OutputCount
    else if bytes_eq field (codes ".p") then RowCount
    else if bytes_eq field (codes ".s") then StateCount
    else if bytes_eq field (codes ".r") then Reset
    else if bytes_eq field (codes ".ilb") then InputNames
    else if bytes_eq field (codes ".ob") then OutputNames
    else if is_dotted field then Unknown
    else Row

abbrev pub kind_of_fields : List (List ℕ) → LineKind
kind_of_fields [] = Blank
kind_of_fields (first ∷ fields) = kind_of_field first

-- what a line is
abbrev pub line_kind_of : Line → LineKind
line_kind_of line = kind_of_fields line.fields

-- whether two kinds are one
abbrev pub same_kind : LineKind → LineKind → Bool
same_kind Blank Blank = true
same_kind End End = true
same_kind InputCount InputCount = true
same_kind OutputCount OutputCount = true
same_kind RowCount RowCount = true
same_kind StateCount StateCount = true
same_kind Reset Reset = true
same_kind InputNames InputNames = true
same_kind OutputNames OutputNames = true
same_kind Unknown Unknown = true
same_kind Row Row = true
same_kind _ _ = false

abbrev pub is_of_kind : LineKind → Line → Bool
is_of_kind kind line = same_kind kind (line_kind_of line)

-- its first field is the ending word, and it is not bad
abbrev pub is_ending : Line → Bool
is_ending line = not line.bad && is_of_kind End line

-- the field at a place; place 0 is the word, or the input field of a row
abbrev pub field_at : ℕ → Line → List ℕ
field_at place line = slice_index_or line.fields place []

-- the fields after the word
abbrev pub operands : Line → List (List ℕ)
operands line = drop 1 line.fields

-- the fields of a row
abbrev pub input_field : Line → List ℕ
input_field line = field_at 0 line

abbrev pub current_field : Line → List ℕ
current_field line = field_at 1 line

abbrev pub next_field : Line → List ℕ
next_field line = field_at 2 line

abbrev pub output_field : Line → List ℕ
output_field line = field_at 3 line

-- a number: one to nine decimal digits
abbrev pub is_decimal : List ℕ → Bool
is_decimal field = (nat_le 1 (length field) && nat_le (length field) 9) && list_all is_ascii_digit field

-- its value
abbrev pub decimal_value : List ℕ → ℕ
decimal_value field = digits_value 10 field

-- a `*` or a `-` instead of the name of a state
abbrev pub is_open : List ℕ → Bool
is_open field = bytes_eq field (codes "*") || bytes_eq field (codes "-")

abbrev pub is_name : List ℕ → Bool
is_name field = not (is_open field)

abbrev pub has_backslash : List ℕ → Bool
has_backslash name = list_any (λ byte. byte == 92) name

-- a character of an input or output field: `0`, `1` or `-`
abbrev pub is_character : ℕ → Bool
is_character byte = byte == 48 || (byte == 49 || byte == 45)

-- a field of that many characters
abbrev pub is_character_field : ℕ → List ℕ → Bool
is_character_field count field = length field == count && list_all is_character field

-- the outputs that an output field specifies; output b is the bit 2 ^ b, and the first character is that of output 0
unfoldable pub care_in : List ℕ → ℕ
care_in [] = 0
care_in (byte ∷ field) = (if byte == 45 then 0 else 1) + 2 * care_in field

-- the outputs that it specifies as 1
unfoldable pub value_in : List ℕ → ℕ
value_in [] = 0
value_in (byte ∷ field) = (if byte == 49 then 1 else 0) + 2 * value_in field
