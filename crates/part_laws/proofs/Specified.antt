-- Where nothing is open in a file, nothing is open in the machine that a job works on.
use Rattle.std.proofs.Common.{◌≡◌, ◌∙◌, ℕ, ◌<◌, Bool, true, false, Contains, List, eqb, length, take, sym, ap, subst, arith}
use Rattle.std.proofs.lemmas.Bool.{eq-eqb}
use Rattle.std.proofs.lemmas.List.{take_all}
use Rattle.kiss_file.specs.declared.file.KissFile.{KissFile}
use Rattle.kiss_file.specs.declared.file.KissRow.{KissRow}
use Rattle.kiss_file.specs.Machine.{IsRowAt, Specified}
use Rattle.list_facts.specs.Laws.Members.{Contains-filter, Contains-map}
use Rattle.partition.specs.NestedBlocks.{least_of}
use Rattle.partition.specs.Laws.Labels.{block_stands}
use Rattle.partition.specs.Partition.{blocks_of}
use Rattle.state_reduce.specs.Quotient.{block_number, kept_rows, row_of_blocks}
use Rattle.state_reduce.specs.WorkMachine.{IsMachineOfClasses, IsWorkMachine}
use Rattle.state_reduce.proofs.Lawfully.{some_mapped}
use Rattle.state_reduce.proofs.Numbers.{least_again, least_together}

module _ (F W : KissFile) (class : ℕ → ℕ) (work : IsMachineOfClasses F W class) where
  abbrev p : List ℕ
  p = work.classes

  size : length p ≡ length F.states
  size = work.alike.lawful.length

  -- the least state of a block
  record IsLeastAt (s a : ℕ) : Type 0 where
    low : a < length F.states
    least : least_of p a ≡ a
    number : block_number F p a ≡ s

  least_at : (s : ℕ) → s < length W.states → (a : ℕ) × IsLeastAt s a
  least_at s low =
      let few : s < blocks_of (take (length p) p) = subst (λ (list : List ℕ). s < blocks_of list) (sym (take_all (length p) p (omega arith))) (omega (arith, low, (work.in_order).count)) in
      let found = block_stands p work.alike.lawful.numbered (length p) (omega arith) s few in
      let near = least_together p found.0 found.1 in
      let inside : least_of p found.0 < length F.states = omega (arith, near.0, size) in (
        least_of p found.0,
        record {
          low = inside;
          least = least_again p found.0 found.1;
          number = (work.in_order).numbers (least_of p found.0) inside ∙ (near.2 ∙ found.2);
        },
      )

  -- a row of it is a row of the block
  row_there : (s a : ℕ) (x : List Bool) (row : KissRow) → IsLeastAt s a → IsRowAt F a x row → IsRowAt W s x (row_of_blocks F p row)
  row_there s a x row least at =
      let kept : least_of p row.from ≡ row.from = ap (least_of p) at.from ∙ (least.least ∙ sym at.from) in
      record {
        among = subst (λ (rows : List KissRow). Contains rows (row_of_blocks F p row)) (sym (work.quotient).rows)
            (Contains-map (row_of_blocks F p) (kept_rows F p) row
            (Contains-filter (λ (r : KissRow). eqb (least_of p r.from) r.from) F.rows row at.among (eq-eqb (least_of p row.from) row.from kept)));
        from = ap (block_number F p) at.from ∙ least.number;
        held = at.held;
      }

  specified_blocks : Specified F → Specified W
  specified_blocks specified s x low long =
      let least = least_at s low in
      let at = specified least.0 x least.1.low (long ∙ (work.quotient).inputs) in
      record {
        next = (row_of_blocks F p at.next.0, row_there s least.0 x at.next.0 least.1 at.next.1, some_mapped (block_number F p) at.next.0.to at.next.2);
        outputs = λ b few.
            let gives = at.outputs b (omega (arith, few, (work.quotient).outputs)) in
            (row_of_blocks F p gives.0, row_there s least.0 x gives.0 least.1 gives.1, gives.2);
      }

pub specified_work : (reduce : Bool) (F W : KissFile) (class : ℕ → ℕ) → IsWorkMachine reduce F W class → Specified F → Specified W
specified_work true F W class work specified = specified_blocks F W class work specified
specified_work false F W class work specified = subst Specified (sym work.file) specified
