use Rattle.std.proofs.Common.{◌≡◌, ◌≢◌, ℕ, ◌+◌, ◌-◌, ◌<◌, ◌≤◌, ◌∙◌, Bool, true, false, List, [], ◌∷◌, ◌++◌, length, drop, set, replicate, get_or, ap, sym, subst, refl, ⊎_elim, length-drop, arith}
use Rattle.std.specs.List.{All, Contains}
use Rattle.std.proofs.lemmas.Bool.{false≢true, cases_lt}
use Rattle.std.proofs.lemmas.List.{get_or_default, get_or-drop, get_or-replicate, get_or-set_same, get_or-set_other, length-replicate, length-set}
use Rattle.std.proofs.lemmas.List.Elements.{All-contains, All-nil, All-push, All-weaker, Contains-append_left, Contains-append_right, Contains-append_cases, Contains-get_or, Contains-push}
use Rattle.cover_logic.specs.declared.bundles.Entry.{Entry}
use Rattle.cover_terms.specs.declared.term.Term.{Term}
use Rattle.cover_terms.specs.Term.{Holds, IsCovered}
use Rattle.cover_logic.specs.Inner.Entries.{HasNumber, HoldsRivals, IsMet, IsNumbered, IsRival}
use Rattle.cover_terms.specs.Pair.{agree}
use Rattle.cover_logic.proofs.NeededRows.{HoldAlike}
use Rattle.cover_terms.specs.Laws.Terms.{agree_from_shared}

-- the term is that of an entry of another row that is left
abbrev pub IsRivalTerm : ℕ → List Bool → List Entry → Term → Type 0
IsRivalTerm row left near t = (e : Entry) × Contains near e × IsRival row left e × (e.term ≡ t)

-- what is a rival is among the others
abbrev pub IsKnownRival : ℕ → List Bool → List Term → Entry → Type 0
IsKnownRival row left others e = IsRival row left e → Contains others e.term

pub rivals_none : (row : ℕ) (left : List Bool) → HoldsRivals row left [] []
rivals_none row left = record { among = All-nil (IsRivalTerm row left []); all = All-nil (IsKnownRival row left []) }

pub rivals_more : (row : ℕ) (left : List Bool) (near : List Entry) (others : List Term) (e : Entry) → HoldsRivals row left near others → IsRival row left e → HoldsRivals row left (near ++ e ∷ []) (others ++ e.term ∷ [])
rivals_more row left near others e h is = record {
  among = All-push (IsRivalTerm row left (near ++ e ∷ [])) others e.term
      (All-weaker (IsRivalTerm row left near) (IsRivalTerm row left (near ++ e ∷ [])) (λ t k. (k.0, Contains-append_left near (e ∷ []) k.0 k.1, k.2, k.3)) others h.among)
      (e, Contains-push near e, is, refl);
  all = All-push (IsKnownRival row left (others ++ e.term ∷ [])) near e
      (All-weaker (IsKnownRival row left others) (IsKnownRival row left (others ++ e.term ∷ [])) (λ f k r. Contains-append_left others (e.term ∷ []) f.term (k r)) near h.all)
      (λ r. Contains-push others e.term);
}

pub rivals_passed : (row : ℕ) (left : List Bool) (near : List Entry) (others : List Term) (e : Entry) → HoldsRivals row left near others → (IsRival row left e → ⊥) → HoldsRivals row left (near ++ e ∷ []) others
rivals_passed row left near others e h none = record {
  among = All-weaker (IsRivalTerm row left near) (IsRivalTerm row left (near ++ e ∷ [])) (λ t k. (k.0, Contains-append_left near (e ∷ []) k.0 k.1, k.2, k.3)) others h.among;
  all = All-push (IsKnownRival row left others) near e h.all (λ r. absurd (none r));
}

-- the row has a number below `count`, is left, and is that term
abbrev pub IsLeftBefore : List Term → List Bool → ℕ → Term → Type 0
IsLeftBefore rows left count t = (j : ℕ) × (j < count) × (j < length rows) × (get_or left j false ≡ true) × (get_or rows j t ≡ t)

-- of the first `count` rows those that are kept are left, and so are all later rows
pub record AreLeft (rows : List Term) (left : List Bool) (kept : List Term) (count : ℕ) : Type 0 where
  pub size : length left ≡ length rows
  pub later : (j : ℕ) → count ≤ j → j < length rows → get_or left j false ≡ true
  pub among : All (IsLeftBefore rows left count) kept
  pub all : (j : ℕ) (d : Term) → j < count → j < length rows → get_or left j false ≡ true → Contains kept (get_or rows j d)

pub left_all : (rows : List Term) (left : List Bool) → left ≡ replicate (length rows) true → AreLeft rows left [] 0
left_all rows left e = record {
  size = ap length e ∙ length-replicate (length rows) true;
  later = λ j low below. ap (λ bs. get_or bs j false) e ∙ get_or-replicate (length rows) j true false below;
  among = All-nil (IsLeftBefore rows left 0);
  all = λ j d low. absurd (omega arith);
}

-- the next row stays
pub left_kept : (rows : List Term) (left : List Bool) (kept : List Term) (i : ℕ) (row : Term) → i < length rows → row ≡ get_or rows i row → AreLeft rows left kept i → AreLeft rows left (kept ++ row ∷ []) (i + 1)
left_kept rows left kept i row below is s = record {
  size = s.size;
  later = λ j low within. s.later j (omega arith) within;
  among = All-push (IsLeftBefore rows left (i + 1)) kept row
      (All-weaker (IsLeftBefore rows left i) (IsLeftBefore rows left (i + 1)) (λ t k. let low = k.1 in (k.0, omega arith, k.2, k.3, k.4)) kept s.among)
      (i, omega arith, below, s.later i (omega arith) below, sym is);
  all = λ j d low within stand. ⊎_elim
      (λ lt. Contains-append_left kept (row ∷ []) (get_or rows j d) (s.all j d lt within stand))
      (λ ge.
      let same : j ≡ i = omega arith in
      let term : get_or rows j d ≡ row = ap (λ k. get_or rows k d) same ∙ (get_or_default rows i d row below ∙ sym is) in
      subst (λ (t : Term). Contains (kept ++ row ∷ []) t) (sym term) (Contains-push kept row))
      (cases_lt j i);
}

-- the next row goes
pub left_without : (rows : List Term) (left : List Bool) (kept : List Term) (i : ℕ) → i < length rows → AreLeft rows left kept i → AreLeft rows (set left i false) kept (i + 1)
left_without rows left kept i below s = record {
  size = length-set left i false ∙ s.size;
  later = λ j low within. other j (omega arith) ∙ s.later j (omega arith) within;
  among = All-weaker (IsLeftBefore rows left i) (IsLeftBefore rows (set left i false) (i + 1))
      (λ t k. let low = k.1 in (k.0, omega arith, k.2, other k.0 (omega arith) ∙ k.3, k.4)) kept s.among;
  all = λ j d low within stand. ⊎_elim
      (λ lt. s.all j d lt within (sym (other j (omega arith)) ∙ stand))
      (λ ge.
      let same : j ≡ i = omega arith in
      absurd (false≢true (sym (ap (λ k. get_or (set left i false) k false) same ∙ get_or-set_same left i false false (let z = s.size in omega arith)) ∙ stand)))
      (cases_lt j i);
}
  where
    other : (j : ℕ) → j ≢ i → get_or (set left i false) j false ≡ get_or left j false
    other j ne = get_or-set_other left i j false false ne

-- the rivals of a row hold the same of its values as the rows that are kept and those after it
module _ (rows : List Term) (left : List Bool) (kept : List Term) (i : ℕ) (row : Term) (entries near : List Entry) (others : List Term) (numbered : IsNumbered rows entries) (met : IsMet row entries near) (rivals : HoldsRivals i left near others) (s : AreLeft rows left kept i) where
  held_by : (j : ℕ) (t : Term) (x : ℕ) → j < length rows → j ≢ i → get_or left j false ≡ true → get_or rows j t ≡ t → Holds row x → Holds t x → IsCovered others x
  held_by j t x below ne stand is p q =
      let e : Entry = record { term = get_or rows j t; number = j } in
      let agrees : agree row (get_or rows j t) ≡ true = subst (λ (u : Term). agree row u ≡ true) (sym is) (agree_from_shared row t x p q) in
      let in' = All-contains (IsKnownRival i left others) near e rivals.all ((met e).1 (numbered.all j t below, agrees)) (ne, stand) in
      (t, subst (λ (u : Term). Contains others u) is in', q)

  inside : (x : ℕ) → Holds row x → IsCovered (kept ++ drop (i + 1) rows) x → IsCovered others x
  inside x p h = ⊎_elim
      (λ k.
      let at = All-contains (IsLeftBefore rows left i) kept h.0 s.among k in
      let low = at.1 in
      held_by at.0 h.0 x at.2 (omega arith) at.3 at.4 p h.2)
      (λ k.
      let low = k.1 in
      let below : (i + 1) + k.0 < length rows = omega (arith, length-drop (i + 1) rows) in
      held_by ((i + 1) + k.0) h.0 x below (omega arith) (s.later ((i + 1) + k.0) (omega arith) below)
      (sym (get_or-drop (i + 1) rows k.0 h.0) ∙ k.2) p h.2)
      (Contains-append_cases kept (drop (i + 1) rows) h.0 h.1)

  behind : (j : ℕ) (d : Term) → i < j → j < length rows → Contains (drop (i + 1) rows) (get_or rows j d)
  behind j d low below =
      let k : j ≡ (i + 1) + (j - (i + 1)) = omega arith in
      let e : get_or (drop (i + 1) rows) (j - (i + 1)) d ≡ get_or rows j d = get_or-drop (i + 1) rows (j - (i + 1)) d ∙ ap (λ n. get_or rows n d) (sym k) in
      subst (λ (t : Term). Contains (drop (i + 1) rows) t) e
      (Contains-get_or (drop (i + 1) rows) (j - (i + 1)) d (omega (arith, length-drop (i + 1) rows)))

  back : (x : ℕ) → IsCovered others x → IsCovered (kept ++ drop (i + 1) rows) x
  back x h =
      let r = All-contains (IsRivalTerm i left near) others h.0 rivals.among h.1 in
      let n = All-contains (HasNumber rows) entries r.0 numbered.among ((met r.0).0 r.1).0 in
      let is : get_or rows r.0.number h.0 ≡ h.0 = n.1 h.0 ∙ r.3 in
      let found : Contains (kept ++ drop (i + 1) rows) (get_or rows r.0.number h.0) = ⊎_elim
      (λ lt. Contains-append_left kept (drop (i + 1) rows) _ (s.all r.0.number h.0 lt n.0 r.2.1))
      (λ ge. let ne = r.2.0 in Contains-append_right kept (drop (i + 1) rows) _ (behind r.0.number h.0 (omega arith) n.0))
      (cases_lt r.0.number i) in
      (h.0, subst (λ (t : Term). Contains (kept ++ drop (i + 1) rows) t) is found, h.2)

  pub rivals_alike : HoldAlike row (kept ++ drop (i + 1) rows) others
  rivals_alike = record { inside = inside; back = back }
