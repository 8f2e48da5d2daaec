use Rattle.std.proofs.Common.{◌≡◌, ℕ, ◌-◌, List, [], ◌∷◌, ◌++◌, Some, length, length-append, take, Contains, nat_cmp, sym, ◌∙◌, ap, subst, arith}
use Rattle.std.proofs.lemmas.Slice.Eq.{bytes_eq-Decides}
use Rattle.std.specs.BTreeMap.{UpdatesBy}
use Rattle.std.specs.Cmp.Lexicographic.{slice_cmp}
use Rattle.std.specs.Str.{bytes_eq}
use Rattle.net_core.specs.Causes.{AreOnce}
use Rattle.net_core.specs.Inner.NameNumbers.{AreKeyed}
use Rattle.net_core.specs.Laws.Counted.{once_push}
use Rattle.net_core.proofs.Keyed.{front_taken, keyed_after, keyed_same}
use Rattle.net_core.proofs.numbering.Signals.insert.Goals as goal

pub invariant_of-self-in_err-push : goal.invariant_of-self-in_err-push
invariant_of-self-in_err-push c =
    subst (λ (names : List (List ℕ)). AreOnce names × AreKeyed names c.self.inside.numbers) (sym c.in_err-push.ensures.items) c.self.invariant

pub invariant_of-self-in-Ok : goal.invariant_of-self-in-Ok
invariant_of-self-in-Ok c =
    let names = c.self.inside.names.items in
    let name = c.args.name.now in
    let none : Contains names name → ⊥ = λ h. c.requires (subst (λ (list : List (List ℕ)). Contains list name) c.self.view_is h) in
    let pushed : c.push.new.self.items ≡ names ++ name ∷ [] = c.in_ok-push.ensures.items ∙ ap (λ (n : List ℕ). names ++ n ∷ []) c.in_ok-new.ensures in
    let updates : UpdatesBy (λ x y. slice_cmp nat_cmp x.items y.items) (λ y. slice_cmp nat_cmp name y.items) c.self.inside.numbers c.insert.new.self (Some (length names)) =
    subst (λ (bytes : List ℕ). UpdatesBy (λ x y. slice_cmp nat_cmp x.items y.items) (λ y. slice_cmp nat_cmp bytes y.items) c.self.inside.numbers c.insert.new.self (Some (length names))) c.in_ok-key.ensures.items
    (subst (λ (number : ℕ). UpdatesBy (λ x y. slice_cmp nat_cmp x.items y.items) (λ y. slice_cmp nat_cmp c.in_ok-key.key.items y.items) c.self.inside.numbers c.insert.new.self (Some number)) (c.len-number.ensures ∙ c.self.inside.names.ok.0) c.in-Ok.ensures.updates) in
    subst (λ (list : List (List ℕ)). AreOnce list × AreKeyed list c.insert.new.self) (sym pushed)
    (once_push bytes_eq bytes_eq-Decides names name c.self.invariant.0 none, keyed_after names c.self.inside.numbers c.self.invariant.1 name c.insert.new.self none updates)

pub invariant_of-self-in-Err : goal.invariant_of-self-in-Err
invariant_of-self-in-Err c =
    let names = c.self.inside.names.items in
    let name = c.in_ok-new.field-0 in
    let popped : c.pop.new.self.items ≡ names =
    c.pop.ensures.rest
    ∙ ap (λ n. take (n - 1) c.push.new.self.items) c.push.new.self.ok.0
    ∙ (ap (λ (list : List (List ℕ)). take (length list - 1) list) c.in_ok-push.ensures.items ∙ (ap (λ n. take n (names ++ name ∷ [])) (omega (arith, length-append names (name ∷ []))) ∙ front_taken names name)) in
    subst (λ (list : List (List ℕ)). AreOnce list × AreKeyed list c.insert.new.self) (sym popped)
    (c.self.invariant.0, keyed_same names c.self.inside.numbers c.self.invariant.1 [] c.insert.new.self c.in-Err.ensures.err)
