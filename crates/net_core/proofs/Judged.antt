-- Tests that a text denotes a network, and that it denotes none.
use Rattle.std.proofs.Common.{◌≡◌, ℕ, ◌≤◌, ◌&&◌, ◌||◌, Bool, true, false, not, List, [], ◌∷◌, length, map, Contains, inl, inr, sym, ◌∙◌, refl, ap, subst}
use Rattle.std.specs.List.{filter_map, flat_map, list_any}
use Rattle.std.specs.Str.{bytes_eq}
use Rattle.std.proofs.lemmas.Bool.{false≢true}
use Rattle.list_facts.specs.Laws.Members.{Contains-cons, Contains-none}
use Rattle.net_core.specs.declared.Network.{Network}
use Rattle.net_core.specs.Denotation.{Denotes}
use Rattle.net_core.specs.Faults.{StatementFault, BadByte, NoModel, Unsupported, BadFields, BadRow, MixedCover, LatchKind, Clocks, has_fault, AreFaultless}
use Rattle.net_core.specs.Statements.{Statement, NumberedStatement, statements_of, said_in, inputs_in, outputs_in, latch_in, clocks_in, gates_of}
use Rattle.net_core.specs.Worked.{DenotesNothing}
use Rattle.net_core.specs.Laws.Members.{is_same_name}

-- none of the faults
abbrev none_of : (StatementFault → Bool) → Bool
none_of has =
    not (has BadByte) && (not (has NoModel) && (not (has Unsupported) && (not (has BadFields) && (not (has BadRow) && (not (has MixedCover) && (not (has LatchKind) && not (has Clocks)))))))

abbrev pub are_faultless : List Statement → List NumberedStatement → Bool
are_faultless earlier [] = true
are_faultless earlier (statement ∷ statements) = none_of (λ fault. has_fault fault earlier statement) && are_faultless (statement.says ∷ earlier) statements

both : (a b : Bool) → (a && b) ≡ true → (a ≡ true) × (b ≡ true)
both true b h = (refl, h)
both false b h = absurd (false≢true h)

both_from : (a b : Bool) → a ≡ true → b ≡ true → (a && b) ≡ true
both_from a b h k = ap (λ c. c && b) h ∙ k

no_more : (a : Bool) → not a ≡ true → a ≡ false
no_more true h = absurd (false≢true h)
no_more false h = refl

none_each : (has : StatementFault → Bool) → none_of has ≡ true → (fault : StatementFault) → has fault ≡ false
none_each has h fault =
    let a = both (not (has BadByte)) _ h in
    let b = both (not (has NoModel)) _ a.1 in
    let c = both (not (has Unsupported)) _ b.1 in
    let d = both (not (has BadFields)) _ c.1 in
    let e = both (not (has BadRow)) _ d.1 in
    let f = both (not (has MixedCover)) _ e.1 in
    let g = both (not (has LatchKind)) (not (has Clocks)) f.1 in
    elim fault as (λ f. has f ≡ false) [
      | BadByte ↦ no_more (has BadByte) a.0
      | NoModel ↦ no_more (has NoModel) b.0
      | Unsupported ↦ no_more (has Unsupported) c.0
      | BadFields ↦ no_more (has BadFields) d.0
      | BadRow ↦ no_more (has BadRow) e.0
      | MixedCover ↦ no_more (has MixedCover) f.0
      | LatchKind ↦ no_more (has LatchKind) g.0
      | Clocks ↦ no_more (has Clocks) g.1
    ]

none_from_each : (has : StatementFault → Bool) → ((fault : StatementFault) → has fault ≡ false) → none_of has ≡ true
none_from_each has h = rw (h BadByte, h NoModel, h Unsupported, h BadFields, h BadRow, h MixedCover, h LatchKind, h Clocks) refl

faultless_from_test : (earlier : List Statement) (statements : List NumberedStatement) → are_faultless earlier statements ≡ true → AreFaultless earlier statements
faultless_from_test earlier [] h = tt
faultless_from_test earlier (s ∷ ss) h =
    let parts = both (none_of (λ fault. has_fault fault earlier s)) (are_faultless (s.says ∷ earlier) ss) h in
    (none_each (λ fault. has_fault fault earlier s) parts.0, faultless_from_test (s.says ∷ earlier) ss parts.1)

test_of_faultless : (earlier : List Statement) (statements : List NumberedStatement) → AreFaultless earlier statements → are_faultless earlier statements ≡ true
test_of_faultless earlier [] p = refl
test_of_faultless earlier (s ∷ ss) (p, ps) =
    both_from (none_of (λ fault. has_fault fault earlier s)) (are_faultless (s.says ∷ earlier) ss) (none_from_each (λ fault. has_fault fault earlier s) p) (test_of_faultless (s.says ∷ earlier) ss ps)

-- a text with a fault denotes nothing
pub nothing_from_fault : (bytes : List ℕ) → are_faultless [] (statements_of bytes) ≡ false → DenotesNothing bytes
nothing_from_fault bytes h N d = false≢true (sym h ∙ test_of_faultless [] (statements_of bytes) d.faultless)

-- no name of the one list stands in the other
abbrev pub shares_none : List (List ℕ) → List (List ℕ) → Bool
shares_none [] others = true
shares_none (name ∷ names) others = not (list_any (bytes_eq name) others) && shares_none names others

later : (a b : Bool) → (a || b) ≡ false → b ≡ false
later true b h = absurd (false≢true (sym h))
later false b h = h

not_among : (name : List ℕ) (others : List (List ℕ)) → list_any (bytes_eq name) others ≡ false → Contains others name → ⊥
not_among name [] h k = Contains-none name k
not_among name (other ∷ others) h k =
    elim (Contains-cons other name others k) [
      | inl here ↦ false≢true (sym h ∙ ap (λ b. b || list_any (bytes_eq name) others) (is_same_name name other (sym here)))
      | inr there ↦ not_among name others (later (bytes_eq name other) (list_any (bytes_eq name) others) h) there
    ]

apart : (names others : List (List ℕ)) → shares_none names others ≡ true → (name : List ℕ) → Contains names name → Contains others name → ⊥
apart [] others h name among there = Contains-none name among
apart (first ∷ names) others h name among there =
    let parts = both (not (list_any (bytes_eq first) others)) (shares_none names others) h in
    elim (Contains-cons first name names among) [
      | inl here ↦ not_among first others (no_more (list_any (bytes_eq first) others) parts.0) (subst (λ n. Contains others n) (sym here) there)
      | inr later ↦ apart names others parts.1 name later there
    ]

-- a text without faults and clocks denotes the record of its statements
pub denotes_from_test : (bytes : List ℕ) (N : Network) → 1 ≤ length (statements_of bytes) → are_faultless [] (statements_of bytes) ≡ true → shares_none (flat_map clocks_in (said_in bytes)) (map (λ gate. gate.output) N.gates) ≡ true → shares_none (flat_map clocks_in (said_in bytes)) (map (λ latch. latch.output) N.latches) ≡ true → N.inputs ≡ flat_map inputs_in (said_in bytes) → N.outputs ≡ flat_map outputs_in (said_in bytes) → N.latches ≡ filter_map latch_in (said_in bytes) → N.gates ≡ gates_of (said_in bytes) → Denotes bytes N
denotes_from_test bytes N begun faultless no_gate no_latch inputs outputs latches gates =
    record {
      begun = begun;
      faultless = faultless_from_test [] (statements_of bytes) faultless;
      clock_no_gate = apart (flat_map clocks_in (said_in bytes)) (map (λ gate. gate.output) N.gates) no_gate;
      clock_no_latch = apart (flat_map clocks_in (said_in bytes)) (map (λ latch. latch.output) N.latches) no_latch;
      inputs = inputs;
      outputs = outputs;
      latches = latches;
      gates = gates;
    }
