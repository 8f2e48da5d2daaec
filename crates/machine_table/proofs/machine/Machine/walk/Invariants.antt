use Rattle.std.proofs.Common.{◌≡◌, ◌<◌, ◌^◌, ◌++◌, All, drop, length, map}
use Rattle.cubes.specs.Symbol.{symbol_of, lowest_bits}
use Rattle.kiss_file.specs.Machine.{answers}
use Rattle.machine_table.specs.Inner.Step.{IsRightStep}
use Rattle.machine_table.proofs.machine.Machine.walk.Given as goal

abbrev pub invariant-loop-x : goal.invariant-loop-x
invariant-loop-x l = record {
  state : l.s < length l.self.states;
  met : All (IsRightStep l.self) l.met.items;
  below : All (λ word. word < 2 ^ l.self.outputs) l.words.items;
  outputs : map (lowest_bits l.self.outputs) l.words.items ++ answers l.self l.s (map (symbol_of l.self.inputs) (drop l.x-index l.symbols))
      ≡ answers l.self l.self.reset (map (symbol_of l.self.inputs) l.symbols);
}
