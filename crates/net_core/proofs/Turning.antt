-- The cycle at the end of a path.
use Rattle.std.proofs.Common.{◌≡◌, ℕ, zero, suc, ◌+◌, ◌-◌, ◌<◌, ◌≤◌, List, [], ◌∷◌, ◌++◌, get_or, length, take, drop, All, Some, slice_get, sym, ◌∙◌, ap, subst, arith, nat_eq}
use Rattle.std.proofs.lemmas.Bool.Decides.{Decides-eqb}
use Rattle.std.proofs.lemmas.List.{append-nil, drop_more, drop-append-le, take-append-drop}
use Rattle.std.proofs.lemmas.List.Elements.{All-append, All-drop, All-take, Contains-get_or}
use Rattle.net_core.specs.Inner.Cycle.{IsTurned}
use Rattle.net_core.specs.Inner.Walk.{Needs, NeedsAlong, StandOnce, IsPath, IsGateCycle, IsWalk}
use Rattle.net_core.specs.Laws.Counted.{once_right, once_turned}
use Rattle.net_core.proofs.Stages.{path_push, split_last}

module _ (base : ℕ) (reads : List (List ℕ)) where
  path_drop : (n : ℕ) (xs : List ℕ) → IsPath base reads xs → IsPath base reads (drop n xs)
  path_drop zero xs path = path
  path_drop (suc n) [] path = tt
  path_drop (suc zero) (x ∷ []) path = tt
  path_drop (suc (suc n)) (x ∷ []) path = tt
  path_drop (suc n) (x ∷ y ∷ xs) path = path_drop n (y ∷ xs) path.1

  along_path : (x : ℕ) (xs : List ℕ) (z : ℕ) → IsPath base reads ((x ∷ xs) ++ z ∷ []) → NeedsAlong base reads x xs z
  along_path x [] z path = path.0
  along_path x (y ∷ ys) z path = (path.0, along_path y ys z path.1)

  along_split : (a : List ℕ) (x m : ℕ) (b : List ℕ) (z : ℕ) → NeedsAlong base reads x (a ++ m ∷ b) z → NeedsAlong base reads x a m × NeedsAlong base reads m b z
  along_split [] x m b z (needs, along) = (needs, along)
  along_split (y ∷ a) x m b z (needs, along) =
      let parts = along_split a y m b z along in
      ((needs, parts.0), parts.1)

  along_join : (b : List ℕ) (m x : ℕ) (a : List ℕ) (z : ℕ) → NeedsAlong base reads m b x → NeedsAlong base reads x a z → NeedsAlong base reads m (b ++ x ∷ a) z
  along_join [] m x a z to_x from_x = (to_x, from_x)
  along_join (y ∷ b) m x a z (needs, to_x) from_x = (needs, along_join b y x a z to_x from_x)

  -- a cycle that is turned is a cycle
  turned : (x : ℕ) (xs : List ℕ) (turn : ℕ) → turn < length (x ∷ xs) → NeedsAlong base reads x xs x
      → (others : List ℕ) × (drop turn (x ∷ xs) ++ take turn (x ∷ xs) ≡ get_or (x ∷ xs) turn 0 ∷ others) × NeedsAlong base reads (get_or (x ∷ xs) turn 0) others (get_or (x ∷ xs) turn 0)
  turned x xs zero within along = (xs, append-nil (x ∷ xs), along)
  turned x xs (suc n) within along =
      let m = get_or xs n 0 in
      let rest : drop n xs ≡ m ∷ drop (n + 1) xs = drop_more xs n 0 (omega arith) in
      let whole : xs ≡ take n xs ++ m ∷ drop (n + 1) xs = sym (take-append-drop n xs) ∙ ap (λ list. take n xs ++ list) rest in
      let parts = along_split (take n xs) x m (drop (n + 1) xs) x (subst (λ list. NeedsAlong base reads x list x) whole along) in
      (drop (n + 1) xs ++ x ∷ take n xs, ap (λ list. list ++ x ∷ take n xs) rest, along_join (drop (n + 1) xs) m x (take n xs) m parts.1 parts.0)

  pub cycle_from_path : (S P Q : List ℕ) (top next : ℕ) (cycle : List ℕ) → IsWalk base reads S P Q → slice_get P (length P - 1) ≡ Some top → Needs base reads top next → IsTurned P next cycle → IsGateCycle base reads cycle
  cycle_from_path S P Q top next cycle w last needs t =
      let split = split_last P top last in
      let front = take (length P - 1) P in
      let back = drop t.from P in
      let rest = drop (t.from + 1) P in
      let starts : back ≡ next ∷ rest = drop_more P t.from 0 t.within ∙ ap (λ g. g ∷ rest) t.starts in
      let longer : IsPath base reads (P ++ next ∷ []) =
      subst (λ path. IsPath base reads (path ++ next ∷ [])) (sym split) (path_push base reads front top next (subst (IsPath base reads) split w.path_needs) needs) in
      let back_path : IsPath base reads ((next ∷ rest) ++ next ∷ []) =
      subst (λ path. IsPath base reads (path ++ next ∷ [])) starts
      (subst (IsPath base reads) (drop-append-le t.from P (next ∷ []) (omega (arith, t.within))) (path_drop t.from (P ++ next ∷ []) longer)) in
      let along = along_path next rest next back_path in
      let turn_within : t.turn < length (next ∷ rest) = subst (λ list. t.turn < length list) starts t.turn_within in
      let made = turned next rest t.turn turn_within along in
      let first = get_or (next ∷ rest) t.turn 0 in
      let cycle_is : cycle ≡ first ∷ made.0 = t.is ∙ (ap (λ list. drop t.turn list ++ take t.turn list) starts ∙ made.1) in
      let inside : All (λ g. g < length reads) back = All-drop (λ g. g < length reads) t.from P (λ k d lt. (w.path_are (get_or P k d) (Contains-get_or P k d lt)).0) in
      let once : StandOnce back = once_right nat_eq Decides-eqb (take t.from P) back (subst StandOnce (sym (take-append-drop t.from P)) w.path_once) in
      let least : All (λ g. first ≤ g) back = subst (λ list. All (λ g. get_or list t.turn 0 ≤ g) back) starts t.least in
      record {
        first = first;
        others = made.0;
        is = cycle_is;
        within = subst (All (λ g. g < length reads)) (sym t.is)
            (All-append (λ g. g < length reads) (drop t.turn back) (take t.turn back) (All-drop (λ g. g < length reads) t.turn back inside) (All-take (λ g. g < length reads) t.turn back inside));
        once = subst StandOnce (sym t.is) (once_turned nat_eq Decides-eqb (take t.turn back) (drop t.turn back) (subst StandOnce (sym (take-append-drop t.turn back)) once));
        needs = made.2;
        least = subst (All (λ g. first ≤ g)) (sym t.is)
            (All-append (λ g. first ≤ g) (drop t.turn back) (take t.turn back) (All-drop (λ g. first ≤ g) t.turn back least) (All-take (λ g. first ≤ g) t.turn back least));
      }
