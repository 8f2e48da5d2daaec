-- What the register of a machine can hold.
use Rattle.std.specs.Prelude.{◌*◌, ◌≤◌}
use Rattle.kiss_file.specs.declared.file.KissFile.{KissFile}
use Rattle.shift_real.specs.declared.starts.RegisterContents.{RegisterContents}
use Rattle.shift_real.specs.DefiniteMachine.{IsOrder}
use Rattle.shift_real.specs.Inner.Contents.{AreContents}

-- the contents of as many symbols as the order, which have few bits
pub record AreRegisterContents (F : KissFile) (held : RegisterContents) : Type 0 where
  pub order : IsOrder F held.order
  pub short : held.order * F.inputs ≤ 12
  pub contents : AreContents F held.order held.contents.items
