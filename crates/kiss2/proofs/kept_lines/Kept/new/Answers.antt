use Rattle.std.proofs.Common.{refl, arith}
use Rattle.kiss2.specs.Inner.ReaderState.{names_seen}
use Rattle.kiss2.specs.Standing.{each_once}
use Rattle.kiss2.specs.Laws.Faultless.{faultless_none}
use Rattle.kiss2.proofs.kept_lines.Kept.new.Goals as goal

pub returns : goal.returns
unfolding names_seen each_once
returns c = record {
  stands = record { inputs = refl; outputs = refl; row_word = refl; state_word = refl; reset = refl; input_names = refl; output_names = refl; rows = refl; states = c.new.ensures };
  small = record { states = rw c.new.ensures (omega arith); input_names = omega arith; output_names = omega arith };
  rows = c.new-2.ensures.items;
  faultless = faultless_none;
}
