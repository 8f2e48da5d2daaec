use Rattle.std.proofs.Common.{◌≡◌, ◌≢◌, ◌++◌, ◌∷◌, [], refl, sym, ◌∙◌, ap, subst, List, ℕ, map, slice_get, length, Some, Contains, Vec, Global, arith}
use Rattle.std.proofs.lemmas.List.{length-map}
use Rattle.std.proofs.lemmas.List.Elements.{Contains-get_or}
use Rattle.std.proofs.lemmas.List.Quantifiers.{all_pairs_push}
use Rattle.std.proofs.lemmas.Result.{IfOk-from_err}
use Rattle.kiss_file.specs.Names.{AreDistinct}
use Rattle.hs_io.specs.Laws.Known.{last_at, names_with}
use Rattle.kiss_file.proofs.state_names.StateNames.add.Goals as goal

-- the bytes of a key
items_of : Vec ℕ Global → List ℕ
items_of v = v.items

-- a new name keeps the names distinct
distinct_with : (names : List (List ℕ)) (name : List ℕ) → AreDistinct names → (Contains names name → ⊥) → AreDistinct (names ++ name ∷ [])
distinct_with names name distinct new =
    all_pairs_push (λ a b. a ≢ b) names name distinct
    (λ k d lt same. new (subst (Contains names) same (Contains-get_or names k d lt)))

-- a new name goes last
names_after : (c : goal.In_ok-insert_full) → map items_of c.insert_full.new.self.keys ≡ c.args.self.now ++ c.args.name.now ∷ []
unfolding items_of
names_after c =
    ap (map items_of) c.in_ok-insert_full.ensures.keys
    ∙ names_with items_of c.args.name.now c.self.inside.names.keys c.in_ok-name.name c.in_ok-name.ensures.items
    (λ h. c.in_default.ensures.none (subst (λ (names : List (List ℕ)). Contains names c.args.name.now) c.self.view_is h))
    ∙ ap (λ names. names ++ c.args.name.now ∷ []) c.self.view_is

distinct_after : (c : goal.In_ok-insert_full) → AreDistinct (map items_of c.insert_full.new.self.keys)
unfolding items_of
distinct_after c =
    subst AreDistinct (sym (names_after c))
    (distinct_with c.args.self.now c.args.name.now (subst AreDistinct c.self.view_is c.self.invariant) c.in_default.ensures.none)

pub invariant_of-self-2 : goal.invariant_of-self-2
unfolding items_of
invariant_of-self-2 c = distinct_after c

pub returns-clause-number : goal.returns-clause-number
unfolding items_of
returns-clause-number c =
    let place : length c.args.self.now ≡ c.len-number.result =
    ap length (sym c.self.view_is) ∙ length-map c.self.inside.names.keys items_of ∙ sym c.len-number.ensures.len in
    subst (λ (i : ℕ). slice_get (map items_of c.insert_full.new.self.keys) i ≡ Some c.args.name.now) place
    (ap (λ names. slice_get names (length c.args.self.now)) (names_after c) ∙ last_at c.args.self.now c.args.name.now)

pub returns-clause-last : goal.returns-clause-last
unfolding items_of
returns-clause-last c new = names_after c

pub returns-clause-distinct : goal.returns-clause-distinct
unfolding items_of
returns-clause-distinct c = distinct_after c

pub returns-in-Some-clause-known : goal.returns-in-Some-clause-known
returns-in-Some-clause-known c known = refl

pub returns-in-Some-clause-distinct : goal.returns-in-Some-clause-distinct
returns-in-Some-clause-distinct c = subst AreDistinct c.self.view_is c.self.invariant

pub returns-in_err-name-clause-distinct : goal.returns-in_err-name-clause-distinct
returns-in_err-name-clause-distinct c = subst AreDistinct c.self.view_is c.self.invariant

pub returns-clause-known : goal.returns-clause-known
returns-clause-known c known = absurd (c.in_default.ensures.none known)

pub overflow_cast-number : goal.overflow_cast-number
unfolding items_of
overflow_cast-number c =
    let place : length c.args.self.now ≡ c.len-number.result =
    ap length (sym c.self.view_is) ∙ length-map c.self.inside.names.keys items_of ∙ sym c.len-number.ensures.len in
    omega (arith, place, c.requires)

pub returns-in_err-name-clause-number : goal.returns-in_err-name-clause-number
returns-in_err-name-clause-number c = IfOk-from_err c.from_residual.result _ c.from_residual.ensures.0

pub returns-in_err-name-clause-known : goal.returns-in_err-name-clause-known
returns-in_err-name-clause-known c known = IfOk-from_err c.from_residual.result _ c.from_residual.ensures.0

pub returns-in_err-name-clause-last : goal.returns-in_err-name-clause-last
returns-in_err-name-clause-last c new = IfOk-from_err c.from_residual.result _ c.from_residual.ensures.0

pub returns-in_err-insert_full-clause-number : goal.returns-in_err-insert_full-clause-number
returns-in_err-insert_full-clause-number c = IfOk-from_err c.from_residual-in_err-insert_full.result _ c.from_residual-in_err-insert_full.ensures.0

pub returns-in_err-insert_full-clause-known : goal.returns-in_err-insert_full-clause-known
returns-in_err-insert_full-clause-known c known = IfOk-from_err c.from_residual-in_err-insert_full.result _ c.from_residual-in_err-insert_full.ensures.0

pub returns-in_err-insert_full-clause-last : goal.returns-in_err-insert_full-clause-last
returns-in_err-insert_full-clause-last c new = IfOk-from_err c.from_residual-in_err-insert_full.result _ c.from_residual-in_err-insert_full.ensures.0
