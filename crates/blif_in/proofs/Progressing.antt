-- What is kept of a text, line after line.
use Rattle.std.proofs.lemmas.Bool.Decides.{nat_tests}
use Rattle.std.proofs.lemmas.List.{append-nil}
use Rattle.std.proofs.Common.{All, Err, suc, ◌≡◌, ℕ, ◌<◌, ◌||◌, Bool, true, false, cond, List, [], ◌∷◌, ◌++◌, length, map, Option, Some, None, not, eqb, sym, ◌∙◌, refl, ap, subst, arith}
use Rattle.std.specs.Prelude.{find}
use Rattle.std.specs.List.{AllByRecursion, flat_map, list_any}
use Rattle.std.specs.Option.{option_map, option_or}
use Rattle.std.specs.Str.{bytes_eq}
use Rattle.hs_io.specs.declared.lines.Line.{Line}
use Rattle.net_core.specs.declared.Network.{Network}
use Rattle.net_core.specs.Statements.{Statement, clocks_in, numbered_of}
use Rattle.blif_in.specs.declared.draft.Draft.{Draft}
use Rattle.blif_in.specs.declared.fault.BlifFail.{BlifFail}
use Rattle.blif_in.specs.declared.fault.BlifFail.TheVariants.{NoMemory, Refused}
use Rattle.blif_in.specs.declared.fault.BlifFault.{BlifFault}
use Rattle.blif_in.specs.declared.fault.BlifKind.{BlifKind}
use Rattle.blif_in.specs.declared.fault.BlifKind.TheVariants.{Clocks, NoModel}
use Rattle.blif_in.specs.declared.standing.Summary.{Summary}
use Rattle.blif_in.specs.declared.progress.FirstClock.{FirstClock}
use Rattle.blif_in.specs.declared.progress.Progress.{Progress}
use Rattle.blif_in.specs.Faults.{fault_in}
use Rattle.blif_in.specs.Inner.Draft.{Adds, network_by}
use Rattle.blif_in.specs.Inner.Standing.{IsClock, IsSmall, Stands}
use Rattle.blif_in.specs.Inner.ShortFields.{AreMeasurable}
use Rattle.blif_in.specs.Inner.Progress.{IsFirstClock, IsReadTo, Tells, clock_at, clock_name, fault_of}
use Rattle.blif_in.specs.Inner.LineStatements.{numbered, says}
use Rattle.blif_in.specs.Text.{clock_fault, closing_fault, driven_within, first_fault, names_clock, network_of}
use Rattle.blif_in.proofs.Closing.{some_lines}

-- the clock of more names is that of the names before
same_clock : (clock : List ℕ) (now : Option (List ℕ)) (more names : List (List ℕ)) → IsClock (Some clock) names → IsClock now (more ++ names) → IsClock (Some clock) (more ++ names)
same_clock clock now more [] h k = absurd h
same_clock clock None [] (n ∷ ns) h k = absurd (cc)
same_clock clock None (m ∷ ms) (n ∷ ns) h k = absurd (cc)
same_clock clock (Some other) more (n ∷ ns) (is, all) k = joined_up more k where
  first_of : (more : List (List ℕ)) → AllByRecursion (λ o. o ≡ other) (more ++ n ∷ ns) → n ≡ other
  first_of [] (same, rest) = same
  first_of (m ∷ ms) (same, rest) = first_of ms rest

  all_of : (names : List (List ℕ)) → other ≡ clock → AllByRecursion (λ o. o ≡ other) names → AllByRecursion (λ o. o ≡ clock) names
  all_of names same h = subst (λ c. AllByRecursion (λ o. o ≡ c) names) same h

  joined_up : (more : List (List ℕ)) → IsClock (Some other) (more ++ n ∷ ns) → IsClock (Some clock) (more ++ n ∷ ns)
  joined_up [] k = all_of (n ∷ ns) (sym (first_of [] k) ∙ is) k
  joined_up (m ∷ ms) k = all_of (m ∷ ms ++ n ∷ ns) (sym (first_of (m ∷ ms) k) ∙ is) k

-- the clock after a line, given the one before it and the one that was judged
clock_stands : (old new : Option FirstClock) (named now : Option (List ℕ)) (line : ℕ) (more names : List (List ℕ)) → IsClock (clock_name old) names → IsClock now (more ++ names) → (old ≡ None → named ≡ now) → new ≡ option_or old (option_map (clock_at line) named)
    → IsClock (clock_name new) (more ++ names)
clock_stands (Some clock) new named now line more names h k first is = subst (λ o. IsClock (clock_name o) (more ++ names)) (sym is) (same_clock clock.name now more names h k)
clock_stands None new named now line more names h k first is =
    subst (λ o. IsClock (clock_name o) (more ++ names)) (sym (is ∙ ap (option_map (clock_at line)) (first refl))) (same now k) where
      same : (now : Option (List ℕ)) → IsClock now (more ++ names) → IsClock (clock_name (option_map (clock_at line) now)) (more ++ names)
      same None k = k
      same (Some name) k = k

or_same : (b : Bool) → (b || b) ≡ b
or_same true = refl
or_same false = refl

or_false : (b : Bool) → (b || false) ≡ b
or_false true = refl
or_false false = refl

-- a test of names that are all the same
all_same : (p : List ℕ → Bool) (name first : List ℕ) (names : List (List ℕ)) → AllByRecursion (λ o. o ≡ name) (first ∷ names) → list_any p (first ∷ names) ≡ p name
all_same p name first [] (is, all) = or_false (p first) ∙ ap p is
all_same p name first (next ∷ names) (is, all) = ap (λ b. p first || b) (all_same p name next names all) ∙ ap (λ o. p o || p name) is ∙ or_same (p name)

no_more : (more names : List (List ℕ)) → more ++ names ≡ [] → more ≡ []
no_more [] names h = refl
no_more (m ∷ ms) names h = absurd (cc)

some_names : (name : List ℕ) (names : List (List ℕ)) → eqb (length (name ∷ names)) 0 ≡ false
some_names name names = grind (arith, nat_tests)

-- where no clock was named before, the line that was judged names the clock of all names so far
newly_first : (now : Option (List ℕ)) (lines rest : List Line) (line : Line) → find names_clock (numbered lines) ≡ find names_clock (numbered (line ∷ rest)) → IsClock now (clocks_in (says line) ++ [])
    → IsFirstClock (option_map (clock_at line.number) now) lines rest
newly_first None lines rest line same k =
    same ∙ ap (λ (clocks : List (List ℕ)). cond (not (eqb (length clocks) 0)) (Some (numbered_of line)) (find names_clock (numbered rest))) (no_more (clocks_in (says line)) [] k)
newly_first (Some name) lines rest line same k = λ N. ap (clock_fault N) same ∙ by N (clocks_in (says line)) refl k where
  drives : Network → List ℕ → Bool
  drives N clock = list_any (bytes_eq clock) (driven_within N)

  told : Bool → Option BlifFault
  told driven = cond driven (Some (record { line = line.number; kind = Clocks })) None

  test_same : (N : Network) (c : List ℕ) (cs : List (List ℕ)) → AllByRecursion (λ o. o ≡ name) (c ∷ cs ++ []) → list_any (drives N) (c ∷ cs) ≡ drives N name
  test_same N c cs k = all_same (drives N) name c cs (subst (λ ns. AllByRecursion (λ o. o ≡ name) (c ∷ ns)) (append-nil cs) k)

  by : (N : Network) (clocks : List (List ℕ)) → clocks_in (says line) ≡ clocks → IsClock (Some name) (clocks ++ [])
      → clock_fault N (find names_clock (numbered (line ∷ rest))) ≡ fault_of N (clock_at line.number name)
  by N [] is k = absurd k
  by N (c ∷ cs) is k =
      let names : names_clock (numbered_of line) ≡ true = ap (λ (clocks : List (List ℕ)). not (eqb (length clocks) 0)) is ∙ ap not (some_names c cs) in
      ap (λ b. clock_fault N (cond b (Some (numbered_of line)) (find names_clock (numbered rest)))) names ∙ ap told (ap (list_any (drives N)) is ∙ test_same N c cs k)

first_clock_more : (old new : Option FirstClock) (named now : Option (List ℕ)) (names : List (List ℕ)) (lines rest : List Line) (line : Line) → IsFirstClock old lines (line ∷ rest) → IsClock (clock_name old) names → IsClock now (clocks_in (says line) ++ names)
    → (old ≡ None → named ≡ now) → new ≡ option_or old (option_map (clock_at line.number) named) → IsFirstClock new lines rest
first_clock_more (Some clock) new named now names lines rest line is h k first new_is = subst (λ o. IsFirstClock o lines rest) (sym new_is) is
first_clock_more None new named now names lines rest line is h k first new_is =
    subst (λ o. IsFirstClock o lines rest) (sym (new_is ∙ ap (option_map (clock_at line.number)) (first refl)))
    (newly_first now lines rest line is (subst (λ ns. IsClock now (clocks_in (says line) ++ ns)) h k))

abbrev at_line : ℕ → BlifKind → BlifFault
at_line number kind = record { line = number; kind = kind }

-- the same summary with the clock of the same names
stands_with : (summary : Summary) (clock other : Option (List ℕ)) (earlier : List Statement) → Stands summary clock earlier → IsClock other (flat_map clocks_in earlier) → Stands summary other earlier
stands_with summary clock other earlier s is =
    record {
      begun = s.begun;
      model = s.model;
      clock_word = s.clock_word;
      clock = is;
      gate = s.gate;
      inputs = s.inputs;
      outputs = s.outputs;
      latches = s.latches;
      gates = s.gates;
    }

-- one line more that has no fault
pub read_more : (lines rest : List Line) (line : Line) (before next : Progress) (named now : Option (List ℕ)) → (is : IsReadTo lines (line ∷ rest) before)
    → (fault_in is.earlier (numbered_of line) ≡ None) × Stands next.summary now (says line ∷ is.earlier) → (before.clock ≡ None → named ≡ now) → next.clock ≡ option_or before.clock (option_map (clock_at line.number) named)
    → IsReadTo lines rest next
read_more lines rest line before next named now is (none, stands) first clock =
    record {
      earlier = says line ∷ is.earlier;
      stands =
          stands_with next.summary now (clock_name next.clock) (says line ∷ is.earlier) stands
          (clock_stands before.clock next.clock named now line.number (clocks_in (says line)) (flat_map clocks_in is.earlier) is.stands.clock stands.clock first clock);
      first = is.first ∙ ap (λ (found : Option BlifKind). option_or (option_map (λ kind. at_line line.number kind) found) (first_fault (says line ∷ is.earlier) (numbered rest))) none;
      clock = first_clock_more before.clock next.clock named now (flat_map clocks_in is.earlier) lines rest line is.clock is.stands.clock stands.clock first clock;
      nothing = λ lacks. let both : true ≡ false = sym stands.begun ∙ lacks in absurd (cc);
      some = λ begun. by before.summary.begun refl;
    } where
      by : (begun : Bool) → before.summary.begun ≡ begun → 0 < length lines
      by true b = is.some b
      by false b = subst (λ ls. 0 < length ls) (is.nothing b) (omega arith)

-- one line more that has a fault
pub fault_here : (lines rest : List Line) (line : Line) (before : Progress) (kind : BlifKind) → (is : IsReadTo lines (line ∷ rest) before) → fault_in is.earlier (numbered_of line) ≡ Some kind → first_fault [] (numbered lines) ≡ Some (at_line line.number kind)
fault_here lines rest line before kind is some = is.first ∙ ap (λ (found : Option BlifKind). option_or (option_map (λ kind. at_line line.number kind) found) (first_fault (says line ∷ is.earlier) (numbered rest))) some

-- at the end there is no fault of a statement
pub faultless : (lines : List Line) (progress : Progress) → IsReadTo lines [] progress → first_fault [] (numbered lines) ≡ None
faultless lines progress is = is.first

-- at the end without a statement
pub closed_empty : (lines : List Line) (progress : Progress) → IsReadTo lines [] progress → progress.summary.begun ≡ false → Some (at_line 0 NoModel) ≡ closing_fault (numbered lines)
closed_empty lines progress is lacks = ap (λ (ls : List Line). closing_fault (numbered ls)) (is.nothing lacks)

-- at the end of some statements
pub closed_some : (lines : List Line) (progress : Progress) (N : Network) → IsReadTo lines [] progress → progress.summary.begun ≡ true → N ≡ network_of (map says lines)
    → clock_fault N (find names_clock (numbered lines)) ≡ closing_fault (numbered lines)
closed_some lines progress N is begun net =
    ap (λ M. clock_fault M (find names_clock (numbered lines))) net ∙ sym (some_lines lines (is.some begun))

-- and a clock or none
pub closed_none : (lines : List Line) (N : Network) (clock : Option FirstClock) → IsFirstClock clock lines [] → clock ≡ None → clock_fault N (find names_clock (numbered lines)) ≡ None
closed_none lines N clock is none = ap (clock_fault N) (subst (λ c. IsFirstClock c lines []) none is)

pub closed_clock : (lines : List Line) (N : Network) (clock : Option FirstClock) (first : FirstClock) → IsFirstClock clock lines [] → clock ≡ Some first → clock_fault N (find names_clock (numbered lines)) ≡ fault_of N first
closed_clock lines N clock first is some = subst (λ c. IsFirstClock c lines []) some is N

-- what is kept of the text and the draft of its network, before the rest of the lines
pub record IsReadBy (lines rest : List Line) (progress : Progress) (draft : Draft) : Type 0 where
  pub read : IsReadTo lines rest progress
  pub small : IsSmall progress.summary
  pub measurable : All (λ line. AreMeasurable line.fields) rest
  pub net : network_by draft (map says rest) ≡ network_of (map says lines)

pub read_by_none : (lines items : List Line) (progress : Progress) (draft : Draft) → items ≡ lines → IsReadTo lines lines progress → IsSmall progress.summary → All (λ line. AreMeasurable line.fields) lines
    → ((said : List Statement) → network_by draft said ≡ network_of said) → IsReadBy lines items progress draft
read_by_none lines items progress draft all read small measurable empty =
    subst (λ ls. IsReadBy lines ls progress draft) (sym all) (record { read = read; small = small; measurable = measurable; net = empty (map says lines) })

-- a failure says the same of any value
pub tells_same : {S T : Type 0} (fail : BlifFail) (fault : Option BlifFault) (P : S → Type 0) (Q : T → Type 0) → Tells (Err fail) fault P → Tells (Err fail) fault Q
tells_same (Refused told) fault P Q h = h
tells_same NoMemory fault P Q h = h

-- the first of the lines that are left can be measured
pub first_measurable : (lines items rest : List Line) (line : Line) (progress : Progress) (draft : Draft) → IsReadBy lines items progress draft → items ≡ line ∷ rest → AreMeasurable line.fields
first_measurable lines items rest line progress draft is first = (subst (All (λ line. AreMeasurable line.fields)) first is.measurable) 0 line (omega arith)

pub read_by_more : (lines items rest : List Line) (line : Line) (before next : Progress) (draft more : Draft) → IsReadBy lines items before draft → items ≡ line ∷ rest → (IsReadTo lines (line ∷ rest) before → IsReadTo lines rest next) → IsSmall next.summary
    → Adds (says line) draft more → IsReadBy lines rest next more
read_by_more lines items rest line before next draft more is first read small adds =
    let here = subst (λ ls. IsReadBy lines ls before draft) first is in
    record { read = read here.read; small = small; measurable = λ k d lt. here.measurable (suc k) d (omega arith); net = adds (map says rest) ∙ here.net }
