-- A text has a first fault, or denotes a network within the limits.
use Rattle.std.proofs.Common.{◌≡◌, ℕ, ◌≤◌, false, cond, eqb, List, [], ◌∷◌, length, map, Option, Some, None, inl, inr, sym, ◌∙◌, refl, ap, subst, arith}
use Rattle.std.specs.Prelude.{find}
use Rattle.std.specs.Option.{option_map, option_or}
use Rattle.std.proofs.lemmas.Bool.Decides.{nat_tests}
use Rattle.std.proofs.lemmas.List.Elements.{Contains-append_cases, Contains-append_left, Contains-append_right}
use Rattle.net_core.specs.declared.Network.{Network}
use Rattle.net_core.specs.Blif.{IsWithinLimits}
use Rattle.net_core.specs.Denotation.{Denotes}
use Rattle.net_core.specs.Faults.{AreFaultless}
use Rattle.net_core.specs.Limits.{KeepsLimit, StatementLimit}
use Rattle.net_core.specs.SoundNetwork.{Sound, driven_by}
use Rattle.net_core.specs.Statements.{NumberedStatement, Statement, said_in, statements_of}
use Rattle.net_core.proofs.Exclusive.{causes_alike, sound_none}
use Rattle.net_core.proofs.Limits.{within_each}
use Rattle.blif_in.specs.declared.fault.BlifFault.{BlifFault}
use Rattle.blif_in.specs.declared.fault.BlifKind.{BlifKind}
use Rattle.blif_in.specs.declared.fault.BlifKind.TheVariants.{NoModel, Structure}
use Rattle.blif_in.specs.Faults.{fault_in}
use Rattle.blif_in.specs.Text.{AreFaultsAlike, FaultlessDenotes, IsStructureFault, NeverBoth, OneFault, clock_fault, closing_fault, first_fault, names_clock, network_of, text_fault}
use Rattle.blif_in.proofs.Clocks.{said, undriven, undriven_none}
use Rattle.blif_in.proofs.Forms.{IsBounded, bounded_more, nothing_bounded, statement_good, statement_none}
use Rattle.blif_in.proofs.Networks.{same_network}

neither_found : {X : Type 0} (found more : Option X) → option_or found more ≡ None → (found ≡ None) × (more ≡ None)
neither_found None more h = (refl, h)
neither_found (Some x) more h = absurd (cc)

abbrev at_line : ℕ → BlifKind → BlifFault
at_line number kind = record { line = number; kind = kind }

none_mapped : (number : ℕ) (found : Option BlifKind) → option_map (at_line number) found ≡ None → found ≡ None
none_mapped number None h = refl
none_mapped number (Some kind) h = absurd (cc)

-- statements without a first fault
statements_good : (earlier : List Statement) (statements : List NumberedStatement) → IsBounded earlier → first_fault earlier statements ≡ None → AreFaultless earlier statements × ((limit : StatementLimit) → KeepsLimit limit earlier (said statements))
statements_good earlier [] bounded none = (tt, λ limit. tt)
statements_good earlier (s ∷ ss) bounded none =
    let parts = neither_found (option_map (at_line s.number) (fault_in earlier s)) (first_fault (s.says ∷ earlier) ss) none in
    let here = statement_good earlier s bounded (none_mapped s.number (fault_in earlier s) parts.0) in
    let later = statements_good (s.says ∷ earlier) ss (bounded_more earlier s.says here.1) parts.1 in
    ((here.0, later.0), λ limit. (here.1 limit, later.1 limit))

statements_none : (earlier : List Statement) (statements : List NumberedStatement) → AreFaultless earlier statements → ((limit : StatementLimit) → KeepsLimit limit earlier (said statements)) → first_fault earlier statements ≡ None
statements_none earlier [] faultless keeps = refl
statements_none earlier (s ∷ ss) (here, faultless) keeps =
    ap (λ (found : Option BlifKind). option_or (option_map (at_line s.number) found) (first_fault (s.says ∷ earlier) ss)) (statement_none earlier s here (λ limit. (keeps limit).0))
    ∙ statements_none (s.says ∷ earlier) ss faultless (λ limit. (keeps limit).1)

some_none : (s : NumberedStatement) (ss : List NumberedStatement) → eqb (length (s ∷ ss)) 0 ≡ false
some_none s ss = grind (arith, nat_tests)

closing_parts : (statements : List NumberedStatement) → closing_fault statements ≡ None → (1 ≤ length statements) × (clock_fault (network_of (said statements)) (find names_clock statements) ≡ None)
closing_parts [] none = absurd (cc)
closing_parts (s ∷ ss) none =
    (omega arith, sym (ap (λ b. cond b (Some (at_line 0 NoModel)) (clock_fault (network_of (said (s ∷ ss))) (find names_clock (s ∷ ss)))) (some_none s ss)) ∙ none)

closing_none : (statements : List NumberedStatement) → 1 ≤ length statements → clock_fault (network_of (said statements)) (find names_clock statements) ≡ None → closing_fault statements ≡ None
closing_none [] some none = absurd (omega arith)
closing_none (s ∷ ss) some none = ap (λ b. cond b (Some (at_line 0 NoModel)) (clock_fault (network_of (said (s ∷ ss))) (find names_clock (s ∷ ss)))) (some_none s ss) ∙ none

denotes_it : (bytes : List ℕ) → text_fault (statements_of bytes) ≡ None → Denotes bytes (network_of (said_in bytes)) × ((limit : StatementLimit) → KeepsLimit limit [] (said_in bytes))
denotes_it bytes none =
    let statements = statements_of bytes in
    let N = network_of (said_in bytes) in
    let parts = neither_found (first_fault [] statements) (closing_fault statements) none in
    let good = statements_good [] statements nothing_bounded parts.0 in
    let closed = closing_parts statements parts.1 in (
      record {
        begun = closed.0;
        faultless = good.0;
        clock_no_gate = λ clock among driven. undriven N statements clock good.0 closed.1 among (Contains-append_right (map (λ latch. latch.output) N.latches) (driven_by N.gates) clock driven);
        clock_no_latch = λ clock among driven. undriven N statements clock good.0 closed.1 among (Contains-append_left (map (λ latch. latch.output) N.latches) (driven_by N.gates) clock driven);
        inputs = refl;
        outputs = refl;
        latches = refl;
        gates = refl;
      },
      good.1,
    )

pub denoted_is : (bytes : List ℕ) (N : Network) → Denotes bytes N → N ≡ network_of (said_in bytes)
denoted_is bytes N d = same_network _ _ _ _ _ _ _ _ d.inputs d.outputs d.latches d.gates

no_fault : (bytes : List ℕ) (N : Network) → Denotes bytes N → IsWithinLimits bytes N → text_fault (statements_of bytes) ≡ None
no_fault bytes N denotes within =
    let statements = statements_of bytes in
    let M = network_of (said_in bytes) in
    let d = subst (Denotes bytes) (denoted_is bytes N denotes) denotes in
    let first = statements_none [] statements denotes.faultless ((within_each bytes N denotes).0 within) in
    let quiet =
    undriven_none M statements (λ clock among driven.
    elim (Contains-append_cases (map (λ latch. latch.output) M.latches) (driven_by M.gates) clock driven) [
      | inl by_latch ↦ d.clock_no_latch clock among by_latch
      | inr by_gate ↦ d.clock_no_gate clock among by_gate
    ]) in
    ap (λ (found : Option BlifFault). option_or found (closing_fault statements)) first ∙ closing_none statements denotes.begun quiet

pub faultless_text : FaultlessDenotes
faultless_text bytes =
    record {
      denotes = λ none. let d = denotes_it bytes none in (d.0, (within_each bytes (network_of (said_in bytes)) d.0).1 d.1);
      faultless = no_fault bytes;
    }

pub never_both : NeverBoth
never_both bytes N fault blif is =
    let none = no_fault bytes N blif.denotes blif.within in
    elim is [
      | inl found ↦ let same : Some fault ≡ None = sym found ∙ none in absurd (cc)
      | inr (closed, structure) ↦ sound_none (network_of (said_in bytes)) structure.fail structure.of_network structure.cause (subst Sound (denoted_is bytes N blif.denotes) blif.sound)
    ]

alike_itself : (fault other : BlifFault) → fault ≡ other → AreFaultsAlike fault other
alike_itself fault other same = record { line = ap (λ (f : BlifFault). f.line) same; kind = inl (ap (λ (f : BlifFault). f.kind) same) }

structures_alike : (N : Network) (fault other : BlifFault) → IsStructureFault N fault → IsStructureFault N other → AreFaultsAlike fault other
structures_alike N fault other a b =
    let alike = causes_alike N a.fail b.fail a.of_network b.of_network a.cause b.cause in
    subst (λ f. AreFaultsAlike f other) (sym a.is)
    (subst (λ f. AreFaultsAlike (at_line 0 (Structure a.fail)) f) (sym b.is) (record { line = refl; kind = inr alike }))

pub one_fault : OneFault
one_fault bytes fault other is another =
    elim is [
      | inl found ↦
          elim another [
            | inl also ↦ let same : Some fault ≡ Some other = sym found ∙ also in let one : fault ≡ other = cc in alike_itself fault other one
            | inr (none, structure) ↦ let same : Some fault ≡ None = sym found ∙ none in absurd (cc)
          ]
      | inr (none, structure) ↦
          elim another [
            | inl also ↦ let same : None ≡ Some other = sym none ∙ also in absurd (cc)
            | inr (closed, second) ↦ structures_alike (network_of (said_in bytes)) fault other structure second
          ]
    ]
