-- A statement without a first fault has none, and goes over no limit.
use Rattle.std.proofs.Common.{◌≡◌, ℕ, ◌+◌, ◌||◌, Bool, true, false, cond, ltb, List, [], ◌∷◌, length, count_by, zero-add, Option, Some, None, ◌∙◌, refl, ap}
use Rattle.std.specs.Prelude.{find}
use Rattle.std.specs.List.{filter_map, flat_map, list_any}
use Rattle.std.specs.Option.{option_map}
use Rattle.std.proofs.lemmas.List.Sums.{sum_by-append}
use Rattle.net_core.specs.Blif.{names_in}
use Rattle.net_core.specs.Faults.{StatementFault, IsFaultless, brings_clock, has_bad_fields, has_fault, is_bad_latch, is_bad_row, is_unsupported, lacks_model, mixes_cover}
use Rattle.net_core.specs.Faults as faults
use Rattle.net_core.specs.Limits.{StatementLimit, InputCount, OutputCount, LatchCount, GateCount, GateInputs, NameBytes, goes_over, is_names}
use Rattle.net_core.specs.Statements.{Statement, Model, Inputs, Outputs, Clock, LatchLine, Names, Row, Other, NumberedStatement, inputs_in, latch_in, outputs_in}
use Rattle.blif_in.specs.declared.fault.BlifKind.{BlifKind}
use Rattle.blif_in.specs.declared.fault.BlifKind.TheVariants.{OverLimit}
use Rattle.blif_in.specs.declared.fault.NetLimit.TheVariants as over
use Rattle.blif_in.specs.Faults.{fault_in, fault_where, first_of, form_fault, long_name}

-- a list of faults without a first one
pub first_none : (found : Option BlifKind) (more : List (Option BlifKind)) → first_of (found ∷ more) ≡ None → (found ≡ None) × (first_of more ≡ None)
first_none None more h = (refl, h)
first_none (Some kind) more h = absurd (cc)

pub none_first : (found : Option BlifKind) (more : List (Option BlifKind)) → found ≡ None → first_of more ≡ None → first_of (found ∷ more) ≡ None
none_first None more h hs = hs
none_first (Some kind) more h hs = absurd (cc)

pub where_none : (test : Bool) (kind : BlifKind) → fault_where test kind ≡ None → test ≡ false
where_none true kind h = absurd (cc)
where_none false kind h = refl

pub none_where : (test : Bool) (kind : BlifKind) → test ≡ false → fault_where test kind ≡ None
none_where test kind h = ap (λ b. cond b (Some kind) None) h

long_none : (names : List (List ℕ)) → long_name names ≡ None → list_any (λ name. ltb 64 (length name)) names ≡ false
long_none [] h = refl
long_none (name ∷ names) h = by (ltb 64 (length name)) (long_none names) h where
  by : (long : Bool) → (long_name names ≡ None → list_any (λ n. ltb 64 (length n)) names ≡ false) → option_map (λ (n : List ℕ). OverLimit over.NameBytes (length n)) (cond long (Some name) (find (λ n. ltb 64 (length n)) names)) ≡ None → (long || list_any (λ n. ltb 64 (length n)) names) ≡ false
  by true later none = absurd (cc)
  by false later none = later none

none_long : (names : List (List ℕ)) → list_any (λ name. ltb 64 (length name)) names ≡ false → long_name names ≡ None
none_long [] h = refl
none_long (name ∷ names) h = by (ltb 64 (length name)) (none_long names) h where
  by : (long : Bool) → (list_any (λ n. ltb 64 (length n)) names ≡ false → long_name names ≡ None) → (long || list_any (λ n. ltb 64 (length n)) names) ≡ false → option_map (λ (n : List ℕ). OverLimit over.NameBytes (length n)) (cond long (Some name) (find (λ n. ltb 64 (length n)) names)) ≡ None
  by true later none = absurd (cc)
  by false later none = later none

-- the statements so far are within the limits that count
pub record IsBounded (earlier : List Statement) : Type 0 where
  pub inputs : ltb 256 (length (flat_map inputs_in earlier)) ≡ false
  pub outputs : ltb 256 (length (flat_map outputs_in earlier)) ≡ false
  pub latches : ltb 256 (length (filter_map latch_in earlier)) ≡ false
  pub gates : ltb 65536 (count_by is_names earlier) ≡ false

abbrev pub KeepsAll : List Statement → Statement → Type 0
KeepsAll earlier statement = (limit : StatementLimit) → goes_over limit earlier statement ≡ false

pub nothing_bounded : IsBounded []
nothing_bounded = record { inputs = refl; outputs = refl; latches = refl; gates = refl }

pub bounded_more : (earlier : List Statement) (statement : Statement) → KeepsAll earlier statement → IsBounded (statement ∷ earlier)
bounded_more earlier statement keeps = record { inputs = keeps InputCount; outputs = keeps OutputCount; latches = keeps LatchCount; gates = keeps GateCount }

-- a statement that is no gate's names brings no gate
pub no_gate : (statement : Statement) (earlier : List Statement) → is_names statement ≡ false → count_by is_names (statement ∷ earlier) ≡ count_by is_names earlier
no_gate statement earlier other =
    sum_by-append (λ s. cond (is_names s) 1 0) (statement ∷ []) earlier
    ∙ ap (λ n. n + count_by is_names earlier) (zero-add (cond (is_names statement) 1 0) ∙ ap (λ b. cond b 1 0) other)
    ∙ zero-add (count_by is_names earlier)

gates_stay : (statement : Statement) (earlier : List Statement) → is_names statement ≡ false → IsBounded earlier → goes_over GateCount earlier statement ≡ false
gates_stay statement earlier other bounded = ap (λ n. ltb 65536 n) (no_gate statement earlier other) ∙ bounded.gates

-- a statement has none of the faults of its form
pub record IsWellFormed (earlier : List Statement) (statement : Statement) : Type 0 where
  pub supported : is_unsupported earlier statement ≡ false
  pub fields : has_bad_fields earlier statement ≡ false
  pub row : is_bad_row earlier statement ≡ false
  pub cover : mixes_cover earlier statement ≡ false
  pub latch : is_bad_latch statement ≡ false
  pub clocks : brings_clock earlier statement ≡ false

-- the limits at a statement whose inputs, outputs, latches, names and gates are looked at so
keeps_by : (earlier : List Statement) (statement : Statement) → list_any (λ name. ltb 64 (length name)) (names_in statement) ≡ false → goes_over InputCount earlier statement ≡ false → goes_over OutputCount earlier statement ≡ false
    → goes_over LatchCount earlier statement ≡ false → goes_over GateCount earlier statement ≡ false → goes_over GateInputs earlier statement ≡ false → KeepsAll earlier statement
keeps_by earlier statement names inputs outputs latches gates reads NameBytes = names
keeps_by earlier statement names inputs outputs latches gates reads InputCount = inputs
keeps_by earlier statement names inputs outputs latches gates reads OutputCount = outputs
keeps_by earlier statement names inputs outputs latches gates reads LatchCount = latches
keeps_by earlier statement names inputs outputs latches gates reads GateCount = gates
keeps_by earlier statement names inputs outputs latches gates reads GateInputs = reads

pub form_good : (earlier : List Statement) (statement : Statement) → IsBounded earlier → form_fault earlier statement ≡ None → IsWellFormed earlier statement × KeepsAll earlier statement
form_good earlier (Model names) bounded none =
    let a = first_none _ _ none in
    let b = first_none _ _ a.1 in (
      record { supported = where_none _ _ a.0; fields = where_none _ _ b.0; row = refl; cover = refl; latch = refl; clocks = refl },
      keeps_by earlier (Model names) refl bounded.inputs bounded.outputs bounded.latches (gates_stay (Model names) earlier refl bounded) refl,
    )
form_good earlier (Inputs names) bounded none =
    let a = first_none _ _ none in
    let b = first_none _ _ a.1 in (
      record { supported = refl; fields = refl; row = refl; cover = refl; latch = refl; clocks = refl },
      keeps_by earlier (Inputs names) (long_none names a.0) (where_none _ _ b.0) bounded.outputs bounded.latches (gates_stay (Inputs names) earlier refl bounded) refl,
    )
form_good earlier (Outputs names) bounded none =
    let a = first_none _ _ none in
    let b = first_none _ _ a.1 in (
      record { supported = refl; fields = refl; row = refl; cover = refl; latch = refl; clocks = refl },
      keeps_by earlier (Outputs names) (long_none names a.0) bounded.inputs (where_none _ _ b.0) bounded.latches (gates_stay (Outputs names) earlier refl bounded) refl,
    )
form_good earlier (Clock names) bounded none =
    let a = first_none _ _ none in
    let b = first_none _ _ a.1 in
    let d = first_none _ _ b.1 in (
      record { supported = refl; fields = where_none _ _ a.0; row = refl; cover = refl; latch = refl; clocks = where_none _ _ d.0 },
      keeps_by earlier (Clock names) (long_none names b.0) bounded.inputs bounded.outputs bounded.latches (gates_stay (Clock names) earlier refl bounded) refl,
    )
form_good earlier (LatchLine operands) bounded none =
    let a = first_none _ _ none in
    let b = first_none _ _ a.1 in
    let d = first_none _ _ b.1 in
    let e = first_none _ _ d.1 in
    let f = first_none _ _ e.1 in (
      record { supported = refl; fields = where_none _ _ a.0; row = refl; cover = refl; latch = where_none _ _ b.0; clocks = where_none _ _ e.0 },
      keeps_by earlier (LatchLine operands) (long_none (names_in (LatchLine operands)) d.0) bounded.inputs bounded.outputs (where_none _ _ f.0) (gates_stay (LatchLine operands) earlier refl bounded) refl,
    )
form_good earlier (Names names) bounded none =
    let a = first_none _ _ none in
    let b = first_none _ _ a.1 in
    let d = first_none _ _ b.1 in
    let e = first_none _ _ d.1 in (
      record { supported = refl; fields = where_none _ _ a.0; row = refl; cover = refl; latch = refl; clocks = refl },
      keeps_by earlier (Names names) (long_none names b.0) bounded.inputs bounded.outputs bounded.latches (where_none _ _ e.0) (where_none _ _ d.0),
    )
form_good earlier (Row fields) bounded none =
    let a = first_none _ _ none in
    let b = first_none _ _ a.1 in
    let d = first_none _ _ b.1 in (
      record { supported = refl; fields = where_none _ _ a.0; row = where_none _ _ b.0; cover = where_none _ _ d.0; latch = refl; clocks = refl },
      keeps_by earlier (Row fields) refl bounded.inputs bounded.outputs bounded.latches (gates_stay (Row fields) earlier refl bounded) refl,
    )
form_good earlier Other bounded none = absurd (cc)

pub form_none : (earlier : List Statement) (statement : Statement) → IsWellFormed earlier statement → KeepsAll earlier statement → form_fault earlier statement ≡ None
form_none earlier (Model names) well keeps = none_first _ _ (none_where _ _ well.supported) (none_first _ _ (none_where _ _ well.fields) refl)
form_none earlier (Inputs names) well keeps = none_first _ _ (none_long names (keeps NameBytes)) (none_first _ _ (none_where _ _ (keeps InputCount)) refl)
form_none earlier (Outputs names) well keeps = none_first _ _ (none_long names (keeps NameBytes)) (none_first _ _ (none_where _ _ (keeps OutputCount)) refl)
form_none earlier (Clock names) well keeps = none_first _ _ (none_where _ _ well.fields) (none_first _ _ (none_long names (keeps NameBytes)) (none_first _ _ (none_where _ _ well.clocks) refl))
form_none earlier (LatchLine operands) well keeps =
    none_first _ _ (none_where _ _ well.fields)
    (none_first _ _ (none_where _ _ well.latch)
    (none_first _ _ (none_long (names_in (LatchLine operands)) (keeps NameBytes))
    (none_first _ _ (none_where _ _ well.clocks) (none_first _ _ (none_where _ _ (keeps LatchCount)) refl))))
form_none earlier (Names names) well keeps =
    none_first _ _ (none_where _ _ well.fields)
    (none_first _ _ (none_long names (keeps NameBytes)) (none_first _ _ (none_where _ _ (keeps GateInputs)) (none_first _ _ (none_where _ _ (keeps GateCount)) refl)))
form_none earlier (Row fields) well keeps = none_first _ _ (none_where _ _ well.fields) (none_first _ _ (none_where _ _ well.row) (none_first _ _ (none_where _ _ well.cover) refl))
form_none earlier Other well keeps = absurd (true_not_false well.supported) where
  true_not_false : true ≡ false → ⊥
  true_not_false h = cc

pub statement_good : (earlier : List Statement) (statement : NumberedStatement) → IsBounded earlier → fault_in earlier statement ≡ None → IsFaultless earlier statement × KeepsAll earlier statement.says
statement_good earlier statement bounded none =
    let a = first_none _ _ none in
    let b = first_none _ _ a.1 in
    let d = first_none _ _ b.1 in
    let good = form_good earlier statement.says bounded d.0 in
    (each earlier statement (where_none _ _ a.0) (where_none _ _ b.0) good.0, good.1) where
      each : (earlier : List Statement) (statement : NumberedStatement) → statement.bad ≡ false → lacks_model earlier statement.says ≡ false → IsWellFormed earlier statement.says → IsFaultless earlier statement
      each earlier statement clean model well faults.BadByte = clean
      each earlier statement clean model well faults.NoModel = model
      each earlier statement clean model well faults.Unsupported = well.supported
      each earlier statement clean model well faults.BadFields = well.fields
      each earlier statement clean model well faults.BadRow = well.row
      each earlier statement clean model well faults.MixedCover = well.cover
      each earlier statement clean model well faults.LatchKind = well.latch
      each earlier statement clean model well faults.Clocks = well.clocks

pub statement_none : (earlier : List Statement) (statement : NumberedStatement) → IsFaultless earlier statement → KeepsAll earlier statement.says → fault_in earlier statement ≡ None
statement_none earlier statement faultless keeps =
    none_first _ _ (none_where _ _ (faultless faults.BadByte))
    (none_first _ _ (none_where _ _ (faultless faults.NoModel))
    (none_first _ _
    (form_none earlier statement.says
    (record {
      supported = faultless faults.Unsupported;
      fields = faultless faults.BadFields;
      row = faultless faults.BadRow;
      cover = faultless faults.MixedCover;
      latch = faultless faults.LatchKind;
      clocks = faultless faults.Clocks;
    }) keeps)
    refl))
