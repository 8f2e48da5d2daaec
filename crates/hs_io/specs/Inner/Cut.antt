-- For private functions and proofs only: what a text is cut at.
use Rattle.std.specs.Prelude.{ℕ, Bool}
use Rattle.hs_io.specs.Lines.{begins_comment, ends_line, is_blank}
use Rattle.hs_io.specs.declared.lines.line_text.Cut.{Cut}
use Rattle.hs_io.specs.declared.lines.line_text.Cut.TheVariants.{Line, Comment, Field}

-- the bytes at which a text is cut
abbrev pub cuts : Cut → ℕ → Bool
cuts Line = ends_line
cuts Comment = begins_comment
cuts Field = is_blank
