-- What the steps of a walk from gate to gate keep.
use Rattle.std.proofs.Common.{◌≡◌, ◌≢◌, ℕ, zero, suc, ◌+◌, ◌-◌, ◌<◌, ◌≤◌, ◌^◌, ◌⊎◌, List, [], ◌∷◌, ◌++◌, get_or, set, length, map, take, sum, Contains, Some, Result, Ok, Err, IfErr, IsErrAnd, slice_get, inl, inr, sym, ◌∙◌, ap, subst, arith, nat_eq}
use Rattle.std.proofs.lemmas.Bool.{cases_eq}
use Rattle.std.proofs.lemmas.Bool.Decides.{Decides-eqb}
use Rattle.std.proofs.lemmas.List.{get_or-set_same, get_or-set_other, get_or-map, get_or_default, length-map, length-set, take_more, take_all}
use Rattle.std.proofs.lemmas.List.Elements.{Contains-append_left, Contains-get_or, Contains-push, Contains-push_cases}
use Rattle.std.proofs.lemmas.List.Sums.{sum_by-cons, sum_by-set}
use Rattle.std.proofs.lemmas.Option.{get_or_from_slice_get, slice_get_within}
use Rattle.list_facts.specs.Laws.Members.{Contains-cons, Contains-here, Contains-none, Contains-there}
use Rattle.net_core.specs.declared.gate_order.NumberedGate.{NumberedGate}
use Rattle.net_core.specs.declared.walk.Walk.{Walk}
use Rattle.net_core.specs.declared.walk.Stop.{Stop}
use Rattle.net_core.specs.declared.walk.Look.{Look}
use Rattle.net_core.specs.declared.walk.Look.TheVariants.{Whole, Settled, New, Open}
use Rattle.net_core.specs.Inner.Walk.{read_by, reads_of, Needs, IsPath, IsBehind, IsWalk, IsLook, IsStanding, IsSequence, TellsCycle, last_stage}
use Rattle.net_core.specs.Laws.Counted.{once_left, once_push, twice}

-- a list whose last item is known
pub split_last : (xs : List ℕ) (x : ℕ) → slice_get xs (length xs - 1) ≡ Some x → xs ≡ take (length xs - 1) xs ++ x ∷ []
split_last xs x is =
    let n = length xs - 1 in
    let within : n < length xs = slice_get_within xs n x is in
    let here : get_or xs n x ≡ x = get_or_from_slice_get xs n x x is in
    sym (take_all (n + 1) xs (omega (arith, within))) ∙ (take_more xs n x within ∙ ap (λ y. take n xs ++ y ∷ []) here)

-- smaller numbers have a smaller sum
pub sum_below : (xs ys : List ℕ) → length xs ≡ length ys → ((k : ℕ) → k < length xs → get_or xs k 0 ≤ get_or ys k 0) → sum xs ≤ sum ys
sum_below [] [] same below = omega arith
sum_below [] (y ∷ ys) same below = absurd (omega arith)
sum_below (x ∷ xs) [] same below = absurd (omega arith)
sum_below (x ∷ xs) (y ∷ ys) same below =
    let here : x ≤ y = below 0 (omega arith) in
    let rest = sum_below xs ys (omega arith) (λ k lt. below (suc k) (omega arith)) in
    omega (arith, sum_by-cons (λ n. n) x xs, sum_by-cons (λ n. n) y ys, here, rest)

-- a gate reads fewer signals than memory holds
pub short_reads : (gates : List NumberedGate) (g : ℕ) → length (read_by (reads_of gates) g) < 2 ^ 63
short_reads [] g = omega arith
short_reads (gate ∷ gates) zero = omega (arith, gate.inputs.ok.0, gate.inputs.ok.1, gate.inputs.small)
short_reads (gate ∷ gates) (suc g) = short_reads gates g

-- what a gate reads, by its place
pub reads_at : (gates : List NumberedGate) (g : ℕ) (gate : NumberedGate) → g < length gates → gate ≡ get_or gates g gate → read_by (reads_of gates) g ≡ gate.inputs.items
reads_at gates g gate within is = get_or-map (λ x. x.inputs.items) gates g gate [] within ∙ ap (λ x. x.inputs.items) (sym is)

module _ (base : ℕ) (reads : List (List ℕ)) where
  pub behind_push : (earlier xs : List ℕ) (g : ℕ) → IsBehind base reads earlier xs → ((h : ℕ) → Needs base reads g h → Contains xs h ⊎ Contains earlier h) → IsBehind base reads earlier (xs ++ g ∷ [])
  behind_push earlier [] g behind needs =
      (λ h n. elim (needs h n) [ inl none ↦ absurd (Contains-none h none) | inr there ↦ there ], tt)
  behind_push earlier (x ∷ xs) g (here, behind) needs = (
    here,
    behind_push (x ∷ earlier) xs g behind (λ h n.
        elim (needs h n) [
          | inl among ↦ elim (Contains-cons x h xs among) [
            | inl is ↦ inr (subst (Contains (x ∷ earlier)) is (Contains-here x earlier))
            | inr later ↦ inl later
          ]
          | inr there ↦ inr (Contains-there x h earlier there)
        ]),
  )

  pub path_front : (xs ys : List ℕ) → IsPath base reads (xs ++ ys) → IsPath base reads xs
  path_front [] ys path = tt
  path_front (x ∷ []) ys path = tt
  path_front (x ∷ y ∷ xs) ys (needs, path) = (needs, path_front (y ∷ xs) ys path)

  pub path_push : (front : List ℕ) (top g : ℕ) → IsPath base reads (front ++ top ∷ []) → Needs base reads top g → IsPath base reads ((front ++ top ∷ []) ++ g ∷ [])
  path_push [] top g path needs = (needs, tt)
  path_push (x ∷ []) top g path needs = (path.0, (needs, tt))
  path_push (x ∷ y ∷ front) top g path needs = (path.0, path_push (y ∷ front) top g path.1 needs)

  -- a stage after one stage was set
  stage_after : (S : List ℕ) (g v : ℕ) → g < length S → (k : ℕ) → ((k ≡ g) × (get_or (set S g v) k 0 ≡ v)) ⊎ ((k ≢ g) × (get_or (set S g v) k 0 ≡ get_or S k 0))
  stage_after S g v within k =
      elim (cases_eq k g) [
        | inl is ↦ inl (is, ap (λ i. get_or (set S g v) i 0) is ∙ get_or-set_same S g v 0 within)
        | inr other ↦ inr (other, get_or-set_other S g k v 0 other)
      ]

  last_same : (k g : ℕ) → k ≡ g → last_stage reads k ≡ last_stage reads g
  last_same k g is = ap (last_stage reads) is

  pub advanced : (S P Q : List ℕ) (g : ℕ) → IsWalk base reads S P Q → Contains P g → get_or S g 0 + 1 < last_stage reads g
      → ((h : ℕ) → get_or (read_by reads g) (get_or S g 0 - 1) 0 ≡ base + h → Contains Q h) → IsWalk base reads (set S g (get_or S g 0 + 1)) P Q
  advanced S P Q g w on below settled =
      let v = get_or S g 0 + 1 in
      let here = w.path_are g on in
      let split = stage_after S g v (omega (arith, w.count, here.0)) in
      record {
        count = length-set S g v ∙ w.count;
        bounded = λ k lt. elim (split k) [
          | inl is ↦ omega (arith, is.1, last_same k g is.0, below)
          | inr other ↦ omega (arith, other.1, w.bounded k lt)
        ];
        placed_are = λ k among. let old = w.placed_are k among in elim (split k) [
          | inl is ↦ absurd (omega (arith, old.1, last_same k g is.0, below, ap (λ i. get_or S i 0) is.0))
          | inr other ↦ (old.0, other.1 ∙ old.1)
        ];
        all_placed = λ k lt last. elim (split k) [
          | inl is ↦ absurd (omega (arith, last, is.1, last_same k g is.0, below))
          | inr other ↦ w.all_placed k lt (sym other.1 ∙ last)
        ];
        placed_once = w.placed_once;
        behind = w.behind;
        path_are = λ k among. let old = w.path_are k among in elim (split k) [
          | inl is ↦ (old.0, omega (arith, is.1), omega (arith, is.1, last_same k g is.0, below))
          | inr other ↦ (old.0, omega (arith, other.1, old.1), omega (arith, other.1, old.2))
        ];
        all_path = λ k lt some early. elim (split k) [
          | inl is ↦ subst (Contains P) (sym is.0) on
          | inr other ↦ w.all_path k lt (omega (arith, other.1, some)) (omega (arith, other.1, early))
        ];
        path_once = w.path_once;
        path_needs = w.path_needs;
        looked_at = λ k i h lt before inside is_h. elim (split k) [
          | inl is ↦ elim (cases_eq i (get_or S g 0 - 1)) [
            | inl at ↦ settled h (ap (λ j. get_or (read_by reads g) j 0) (sym at) ∙ (ap (λ j. get_or (read_by reads j) i 0) (sym is.0) ∙ is_h))
            | inr past ↦ w.looked_at k i h lt (omega (arith, before, is.1, past, here.1, ap (λ j. get_or S j 0) is.0)) inside is_h
          ]
          | inr other ↦ w.looked_at k i h lt (omega (arith, before, other.1)) inside is_h
        ];
      }

  pub entered : (S P Q : List ℕ) (g : ℕ) → IsWalk base reads S P Q → g < length reads → get_or S g 0 ≡ 0 → IsPath base reads (P ++ g ∷ []) → IsWalk base reads (set S g 1) (P ++ g ∷ []) Q
  entered S P Q g w within new path =
      let split = stage_after S g 1 (omega (arith, w.count, within)) in
      record {
        count = length-set S g 1 ∙ w.count;
        bounded = λ k lt. elim (split k) [
          | inl is ↦ omega (arith, is.1)
          | inr other ↦ omega (arith, other.1, w.bounded k lt)
        ];
        placed_are = λ k among. let old = w.placed_are k among in elim (split k) [
          | inl is ↦ absurd (omega (arith, old.1, new, ap (λ i. get_or S i 0) is.0))
          | inr other ↦ (old.0, other.1 ∙ old.1)
        ];
        all_placed = λ k lt last. elim (split k) [
          | inl is ↦ absurd (omega (arith, last, is.1))
          | inr other ↦ w.all_placed k lt (sym other.1 ∙ last)
        ];
        placed_once = w.placed_once;
        behind = w.behind;
        path_are = λ k among. elim (split k) [
          | inl is ↦ (subst (λ i. i < length reads) (sym is.0) within, omega (arith, is.1), omega (arith, is.1))
          | inr other ↦ elim (Contains-push_cases P g k among) [
            | inl old_among ↦ let old = w.path_are k old_among in (old.0, omega (arith, other.1, old.1), omega (arith, other.1, old.2))
            | inr is ↦ absurd (other.0 (sym is))
          ]
        ];
        all_path = λ k lt some early. elim (split k) [
          | inl is ↦ subst (Contains (P ++ g ∷ [])) (sym is.0) (Contains-push P g)
          | inr other ↦ Contains-append_left P (g ∷ []) k (w.all_path k lt (omega (arith, other.1, some)) (omega (arith, other.1, early)))
        ];
        path_once = once_push nat_eq Decides-eqb P g w.path_once (λ among. let old = w.path_are g among in absurd (omega (arith, old.1, new)));
        path_needs = path;
        looked_at = λ k i h lt before inside is_h. elim (split k) [
          | inl is ↦ absurd (omega (arith, before, is.1))
          | inr other ↦ w.looked_at k i h lt (omega (arith, before, other.1)) inside is_h
        ];
      }

  pub finished : (S P Q : List ℕ) (g : ℕ) → IsWalk base reads S (P ++ g ∷ []) Q → get_or S g 0 + 1 ≡ last_stage reads g → IsWalk base reads (set S g (get_or S g 0 + 1)) P (Q ++ g ∷ [])
  finished S P Q g w last =
      let v = get_or S g 0 + 1 in
      let here = w.path_are g (Contains-push P g) in
      let split = stage_after S g v (omega (arith, w.count, here.0)) in
      let absent : Contains P g → ⊥ = λ among. twice nat_eq Decides-eqb P g [] among w.path_once in
      record {
        count = length-set S g v ∙ w.count;
        bounded = λ k lt. elim (split k) [
          | inl is ↦ omega (arith, is.1, last_same k g is.0, last)
          | inr other ↦ omega (arith, other.1, w.bounded k lt)
        ];
        placed_are = λ k among. elim (split k) [
          | inl is ↦ (subst (λ i. i < length reads) (sym is.0) here.0, is.1 ∙ (last ∙ sym (last_same k g is.0)))
          | inr other ↦ elim (Contains-push_cases Q g k among) [
            | inl old_among ↦ let old = w.placed_are k old_among in (old.0, other.1 ∙ old.1)
            | inr is ↦ absurd (other.0 (sym is))
          ]
        ];
        all_placed = λ k lt at_last. elim (split k) [
          | inl is ↦ subst (Contains (Q ++ g ∷ [])) (sym is.0) (Contains-push Q g)
          | inr other ↦ Contains-append_left Q (g ∷ []) k (w.all_placed k lt (sym other.1 ∙ at_last))
        ];
        placed_once = once_push nat_eq Decides-eqb Q g w.placed_once (λ among. let old = w.placed_are g among in absurd (omega (arith, old.1, here.2)));
        behind = behind_push [] Q g w.behind
            (λ h needs. inl (w.looked_at g needs.0 h here.0 (omega (arith, needs.1, last)) needs.1
            (get_or_default (read_by reads g) needs.0 0 (base + h) needs.1 ∙ needs.2)));
        path_are = λ k among. let old = w.path_are k (Contains-append_left P (g ∷ []) k among) in elim (split k) [
          | inl is ↦ absurd (absent (subst (Contains P) is.0 among))
          | inr other ↦ (old.0, omega (arith, other.1, old.1), omega (arith, other.1, old.2))
        ];
        all_path = λ k lt some early. elim (split k) [
          | inl is ↦ absurd (omega (arith, early, is.1, last_same k g is.0, last))
          | inr other ↦ elim (Contains-push_cases P g k (w.all_path k lt (omega (arith, other.1, some)) (omega (arith, other.1, early)))) [
            | inl among ↦ among
            | inr is ↦ absurd (other.0 (sym is))
          ]
        ];
        path_once = once_left nat_eq Decides-eqb P (g ∷ []) w.path_once;
        path_needs = path_front P (g ∷ []) w.path_needs;
        looked_at = λ k i h lt before inside is_h. elim (split k) [
          | inl is ↦ Contains-append_left Q (g ∷ []) h (w.looked_at k i h lt (omega (arith, inside, last, last_same k g is.0, ap (λ j. get_or S j 0) is.0)) inside is_h)
          | inr other ↦ Contains-append_left Q (g ∷ []) h (w.looked_at k i h lt (omega (arith, before, other.1)) inside is_h)
        ];
      }

  -- the measure of a walk falls where a stage rises
  abbrev pub limits : List ℕ
  limits = map (λ inputs. length inputs + 2) reads

  -- what is found at the gate that drives the next input of a gate of the path
  pub found_standing : (walk : Walk) (top next : ℕ) (look : Look) → IsWalk base reads walk.stages.items walk.path.items walk.placed.items → Contains walk.path.items top → next < length reads
      → get_or walk.stages.items top 0 - 1 < length (read_by reads top) → get_or (read_by reads top) (get_or walk.stages.items top 0 - 1) 0 ≡ base + next
      → IsStanding reads walk next look → IsLook base reads walk top look
  found_standing walk top next Whole w on within inside is standing = absurd standing
  found_standing walk top next Settled w on within inside is standing =
      let here = w.path_are top on in (
        omega (arith, here.1, inside),
        λ h is_h.
            let same : next ≡ h = omega (arith, is, is_h) in
            subst (Contains walk.placed.items) same (w.all_placed next within (omega (arith, standing, w.bounded next within))),
      )
  found_standing walk top next (New gate) w on within inside is standing =
      subst (λ g. (g < length reads) × Needs base reads top g × (get_or walk.stages.items g 0 ≡ 0)) (sym standing.0)
      (within, (get_or walk.stages.items top 0 - 1, inside, sym (get_or_default (read_by reads top) (get_or walk.stages.items top 0 - 1) 0 (base + next) inside) ∙ is), standing.1)
  found_standing walk top next (Open gate) w on within inside is standing =
      subst (λ g. Needs base reads top g × Contains walk.path.items g) (sym standing.0) (
        (get_or walk.stages.items top 0 - 1, inside, sym (get_or_default (read_by reads top) (get_or walk.stages.items top 0 - 1) 0 (base + next) inside) ∙ is),
        w.all_path next within standing.1 standing.2,
      )

  pub rises_below : (S : List ℕ) (g k : ℕ) → g < length S → get_or S k 0 ≤ get_or (set S g (get_or S g 0 + 1)) k 0
  rises_below S g k within =
      elim (stage_after S g (get_or S g 0 + 1) within k) [
        | inl is ↦ omega (arith, is.1, ap (λ i. get_or S i 0) is.0)
        | inr other ↦ omega (arith, other.1)
      ]

  pub work_falls : (S P Q : List ℕ) (T : List ℕ) (g : ℕ) → IsWalk base reads T P Q → g < length reads → length S ≡ length reads → T ≡ set S g (get_or S g 0 + 1) → sum limits - sum T < sum limits - sum S
  work_falls S P Q T g w within count is =
      let risen : sum T + get_or S g 0 ≡ sum S + (get_or S g 0 + 1) = ap (λ list. sum list + get_or S g 0) is ∙ sum_by-set (λ n. n) S g (get_or S g 0 + 1) 0 (omega (arith, within, count)) in
      let below : sum T ≤ sum limits =
      sum_below T limits (w.count ∙ sym (length-map reads (λ inputs. length inputs + 2)))
      (λ k lt. let lt' : k < length reads = omega (arith, lt, w.count) in omega (arith, w.bounded k lt', get_or-map (λ inputs. length inputs + 2) reads k [] 0 lt')) in
      omega (arith, risen, below)

  -- a walk that came to all gates and has no path has placed them all
  pub sequence_from_walk : (S P Q : List ℕ) → IsWalk base reads S P Q → P ≡ [] → ((g : ℕ) → g < length reads → 0 < get_or S g 0) → IsSequence base reads Q
  sequence_from_walk S P Q w none started =
      record {
        within = λ k d lt. (w.placed_are (get_or Q k d) (Contains-get_or Q k d lt)).0;
        whole = λ g lt. elim (cases_eq (get_or S g 0) (last_stage reads g)) [
          | inl last ↦ w.all_placed g lt last
          | inr early ↦ absurd (Contains-none g (subst (λ path. Contains path g) none (w.all_path g lt (started g lt) (omega (arith, early, w.bounded g lt)))))
        ];
        once = w.placed_once;
        behind = w.behind;
      }

  -- what a walk tells at its exit
  pub cycle_exit : {T : Type 0} (r : Result T Stop) (stop : Stop) → IsErrAnd r (λ e. e ≡ stop) → TellsCycle base reads stop → IfErr r (TellsCycle base reads)
  cycle_exit (Ok x) stop is told = tt
  cycle_exit (Err e) stop is told = subst (TellsCycle base reads) (sym is) told
