use Rattle.std.proofs.Common.{arith, refl}
use Rattle.blif_out.proofs.WorkedTexts.{can_be_clock, is_driven}
use Rattle.blif_out.proofs.worked.worked_clocks.Goals as goal

pub returns : goal.returns
returns c = record {
  other = can_be_clock _ (omega arith) refl refl refl;
  input = can_be_clock _ (omega arith) refl refl refl;
  latch = is_driven _ refl;
  gate = is_driven _ refl;
  none = λ is. is.controls refl;
  signals = refl;
}
