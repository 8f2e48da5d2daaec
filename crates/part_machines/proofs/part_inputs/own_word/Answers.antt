use Rattle.std.proofs.Common.{◌≡◌, ◌↔◌, ℕ, Contains, List, length, subst, sym, arith}
use Rattle.dependence.specs.SufficientBits.{InWord}
use Rattle.state_codes.specs.declared.Codes.{Codes}
use Rattle.state_codes.specs.declared.which.Which.{Which}
use Rattle.state_codes.specs.declared.which.Which.TheVariants.{Part as Numbered}
use Rattle.part_machines.specs.Inner.Gathered.{IsWordOfOwner}
use Rattle.part_machines.specs.Which.{own_bits}
use Rattle.part_machines.specs.Laws.Blocks.{own_bit, own_from}
use Rattle.part_machines.proofs.part_inputs.own_word.Goals as goal

-- the bits whose owner is the part are those of the part
owned : (code : Codes) (j word : ℕ) → length code.owner ≡ code.bits → IsWordOfOwner code.owner j (length code.owner) word
    → (c : ℕ) → InWord word c ↔ Contains (own_bits code (Numbered j)) c
owned code j word count known c = (
  (λ is. let own = (known c).0 is in own_from code j c (omega (arith, own.0, count)) own.1),
  (λ among. let own = own_bit code j c among in (known c).1 (omega (arith, own.0, count), own.1)),
)

pub returns-in-Part : goal.returns-in-Part
returns-in-Part c =
    let code : Codes = c.args.codes.now in
    let word : ℕ = c.word_of_owner.result in
    let known : IsWordOfOwner code.owner c.in-Part.j (length code.owner) word =
    subst (λ (owners : List ℕ). IsWordOfOwner owners c.in-Part.j (length owners) word) c.as_slice.ensures c.word_of_owner.ensures in
    subst (λ (which : Which). (d : ℕ) → InWord word d ↔ Contains (own_bits code which) d) (sym c.in-Part.is) (owned code c.in-Part.j word c.requires.owner known)
