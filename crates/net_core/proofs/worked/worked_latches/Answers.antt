use Rattle.std.proofs.Common.{refl, arith, sym, subst, codes, Contains, map, []}
use Rattle.list_facts.specs.Laws.Members.{Contains-here}
use Rattle.net_core.specs.Worked.{controls_text, controls_network}
use Rattle.net_core.proofs.Judged.{denotes_from_test, nothing_from_fault}
use Rattle.net_core.proofs.worked.worked_latches.Goals as goal

pub returns-clause-clock_named_nil : goal.returns-clause-clock_named_nil
returns-clause-clock_named_nil c = nothing_from_fault _ refl

pub returns-clause-falling_edge : goal.returns-clause-falling_edge
returns-clause-falling_edge c = nothing_from_fault _ refl

pub returns-clause-falling_edge_alone : goal.returns-clause-falling_edge_alone
returns-clause-falling_edge_alone c = nothing_from_fault _ refl

pub returns-clause-other_start : goal.returns-clause-other_start
returns-clause-other_start c = nothing_from_fault _ refl

pub returns-clause-no_control : goal.returns-clause-no_control
returns-clause-no_control c = nothing_from_fault _ refl

pub returns-clause-no_output : goal.returns-clause-no_output
returns-clause-no_output c = nothing_from_fault _ refl

pub returns-clause-too_many : goal.returns-clause-too_many
returns-clause-too_many c = nothing_from_fault _ refl

pub returns-clause-two_controls : goal.returns-clause-two_controls
returns-clause-two_controls c = nothing_from_fault _ refl

pub returns-clause-other_clock : goal.returns-clause-other_clock
returns-clause-other_clock c = nothing_from_fault _ refl

pub returns-clause-second_clock : goal.returns-clause-second_clock
returns-clause-second_clock c = nothing_from_fault _ refl

pub returns-clause-two_clocks : goal.returns-clause-two_clocks
returns-clause-two_clocks c = nothing_from_fault _ refl

pub returns-clause-clock_of_gate : goal.returns-clause-clock_of_gate
returns-clause-clock_of_gate c =
    λ N d. d.clock_no_gate (codes "c") (Contains-here (codes "c") []) (subst (λ gates. Contains (map (λ gate. gate.output) gates) (codes "c")) (sym d.gates) (Contains-here (codes "c") []))

pub returns-clause-clock_of_latch : goal.returns-clause-clock_of_latch
returns-clause-clock_of_latch c =
    λ N d. d.clock_no_latch (codes "p") (Contains-here (codes "p") []) (subst (λ latches. Contains (map (λ latch. latch.output) latches) (codes "p")) (sym d.latches) (Contains-here (codes "p") []))

pub returns-clause-controls : goal.returns-clause-controls
returns-clause-controls c = denotes_from_test controls_text controls_network (omega arith) refl refl refl refl refl refl refl

pub returns-clause-no_clock_name : goal.returns-clause-no_clock_name
returns-clause-no_clock_name c = nothing_from_fault _ refl

pub returns-clause-small_nil : goal.returns-clause-small_nil
returns-clause-small_nil c = nothing_from_fault _ refl

pub returns-clause-capital_type : goal.returns-clause-capital_type
returns-clause-capital_type c = nothing_from_fault _ refl
