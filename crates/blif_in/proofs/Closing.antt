-- The fault of statements as a whole.
use Rattle.std.proofs.Common.{◌≡◌, ℕ, ◌<◌, ◌||◌, Bool, true, false, cond, eqb, List, [], ◌∷◌, length, map, Some, sym, ◌∙◌, refl, ap, arith}
use Rattle.std.specs.Prelude.{find}
use Rattle.std.specs.List.{list_any}
use Rattle.std.specs.Str.{bytes_eq}
use Rattle.std.proofs.lemmas.Bool.Decides.{nat_tests}
use Rattle.std.proofs.lemmas.List.Folds.{list_any-append}
use Rattle.hs_io.specs.declared.lines.Line.{Line}
use Rattle.net_core.specs.declared.Network.{Network}
use Rattle.net_core.specs.declared.Gate.{Gate}
use Rattle.net_core.specs.declared.Latch.{Latch}
use Rattle.net_core.specs.Statements.{Statement}
use Rattle.net_core.specs.SoundNetwork.{driven_by}
use Rattle.blif_in.specs.declared.fault.BlifKind.TheVariants.{NoModel}
use Rattle.blif_in.specs.Inner.LineStatements.{numbered, says}
use Rattle.blif_in.specs.Text.{clock_fault, closing_fault, driven_within, names_clock, network_of}

-- a test of what is made of items
list_any-map : {X Y : Type 0} (p : Y → Bool) (f : X → Y) (xs : List X) → list_any p (map f xs) ≡ list_any (λ x. p (f x)) xs
list_any-map p f [] = refl
list_any-map p f (x ∷ xs) = ap (λ b. p (f x) || b) (list_any-map p f xs)

drives_either : (N : Network) (name : List ℕ) → list_any (bytes_eq name) (driven_within N) ≡ (list_any (λ latch. bytes_eq name latch.output) N.latches || list_any (λ gate. bytes_eq name gate.output) N.gates)
drives_either N name =
    list_any-append (bytes_eq name) (map (λ latch. latch.output) N.latches) (driven_by N.gates)
    ∙ ap (λ b. b || list_any (bytes_eq name) (driven_by N.gates)) (list_any-map (bytes_eq name) (λ (latch : Latch). latch.output) N.latches)
    ∙ ap (λ b. list_any (λ latch. bytes_eq name latch.output) N.latches || b) (list_any-map (bytes_eq name) (λ (gate : Gate). gate.output) N.gates)

pub latch_drives : (N : Network) (name : List ℕ) (latches : List Latch) (found : Bool) → latches ≡ N.latches → found ≡ list_any (λ latch. bytes_eq name latch.output) latches → found ≡ true → found ≡ list_any (bytes_eq name) (driven_within N)
latch_drives N name latches found same is does =
    let here : list_any (λ latch. bytes_eq name latch.output) N.latches ≡ true = ap (λ (ls : List Latch). list_any (λ latch. bytes_eq name latch.output) ls) (sym same) ∙ sym is ∙ does in
    does ∙ sym (drives_either N name ∙ ap (λ b. b || list_any (λ gate. bytes_eq name gate.output) N.gates) here)

pub gate_drives : (N : Network) (name : List ℕ) (latches : List Latch) (gates : List Gate) (by_latch found : Bool) → latches ≡ N.latches → by_latch ≡ list_any (λ latch. bytes_eq name latch.output) latches → by_latch ≡ false
    → gates ≡ N.gates → found ≡ list_any (λ gate. bytes_eq name gate.output) gates → found ≡ list_any (bytes_eq name) (driven_within N)
gate_drives N name latches gates by_latch found same is lacks same_gates found_is =
    let here : list_any (λ latch. bytes_eq name latch.output) N.latches ≡ false = ap (λ (ls : List Latch). list_any (λ latch. bytes_eq name latch.output) ls) (sym same) ∙ sym is ∙ lacks in
    found_is
    ∙ ap (λ (gs : List Gate). list_any (λ gate. bytes_eq name gate.output) gs) same_gates
    ∙ sym (drives_either N name ∙ ap (λ b. b || list_any (λ gate. bytes_eq name gate.output) N.gates) here)

pub said_numbered : (lines : List Line) → map (λ statement. statement.says) (numbered lines) ≡ map says lines
said_numbered [] = refl
said_numbered (line ∷ lines) = ap (λ (said : List Statement). says line ∷ said) (said_numbered lines)

pub some_lines : (lines : List Line) → 0 < length lines → closing_fault (numbered lines) ≡ clock_fault (network_of (map says lines)) (find names_clock (numbered lines))
some_lines [] some = absurd (omega arith)
some_lines (line ∷ lines) some =
    let none : eqb (length (numbered (line ∷ lines))) 0 ≡ false = grind (arith, nat_tests) in
    ap (λ b. cond b (Some (record { line = 0; kind = NoModel })) (clock_fault (network_of (map (λ statement. statement.says) (numbered (line ∷ lines)))) (find names_clock (numbered (line ∷ lines))))) none
    ∙ ap (λ (said : List Statement). clock_fault (network_of said) (find names_clock (numbered (line ∷ lines)))) (said_numbered (line ∷ lines))
