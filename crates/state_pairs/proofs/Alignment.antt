-- Lists of rows of two states that are aligned: all their rows, or those at the kept places.
use Rattle.std.proofs.Common.{◌≡◌, ℕ, ◌<◌, Bool, false, List, length, get_or, Option, Some, Contains, slice_get, slice_index, All, sym, ◌∙◌, subst, refl, arith, ap}
use Rattle.std.proofs.lemmas.Bool.{false≢true}
use Rattle.std.proofs.lemmas.List.{get_or_default}
use Rattle.std.proofs.lemmas.List.Elements.{Contains-get_or}
use Rattle.std.proofs.lemmas.Option.{slice_get_within}
use Rattle.kiss_file.specs.declared.file.KissFile.{KissFile}
use Rattle.kiss_file.specs.declared.file.KissRow.{KissRow}
use Rattle.state_pairs.specs.RowLabels.{IsOfState}
use Rattle.state_pairs.specs.AlignedRows.{AreAligned, HoldAllRows}
use Rattle.state_rows.specs.Columns.{AreColumns, ArePicked, HaveSameCubes, RepresentBoth, IsAtPlace}
use Rattle.state_rows.specs.Places.{IsNumberOf, ListRows, places_of}
use Rattle.state_pairs.specs.Laws.Asking.{number_of_row}
use Rattle.state_pairs.specs.Laws.Sought.{row_of}

module _ (F : KissFile) (places : List (List ℕ)) (stand : ListRows F.rows (length F.states) places) where
  -- a row of a state is at a place of its list
  stands : (s : ℕ) (row : KissRow) → IsOfState F s row → (k : ℕ) × IsAtPlace F.rows (places_of places s) k row
  stands s row (among, from) =
      let at_number = number_of_row F row among in
      let place = subst (λ (n : ℕ). Contains (places_of places n) among.0) from (stand.each among.0 row at_number) in
      let same : get_or (places_of places s) place.0 0 ≡ among.0 = sym (get_or_default (places_of places s) place.0 among.0 0 place.1) ∙ place.2 in
      (place.0, (place.1, subst (λ (n : ℕ). slice_get F.rows n ≡ Some row) (sym same) at_number))

  -- at each place of a list is a row of the state
  row_there : (s k : ℕ) → k < length (places_of places s) → (row : KissRow) × IsOfState F s row × IsAtPlace F.rows (places_of places s) k row
  row_there s k below =
      let own = stand.own s (get_or (places_of places s) k 0) (Contains-get_or (places_of places s) k 0 below) in
      (own.0, row_of F s (get_or (places_of places s) k 0) own.0 own own.1, (below, own.1))

  module _ (s t : ℕ) (said : KissRow → Option ℕ) (same : HaveSameCubes F.rows (places_of places s) (places_of places t)) where
    pub all_aligned : (least : Bool) → AreAligned F s t (places_of places s) (places_of places t) said least
    all_aligned least = record {
      own_first = stand.own s;
      own_second = stand.own t;
      count = same.count;
      each = λ row of_state.
          let k = stands s row of_state in
          let like = row_there t k.0 (omega (arith, k.1.0, same.count)) in
          let cubes = same.cubes k.0 row like.0 k.1 like.2 in (
            like.0,
            like.1,
            cubes,
            record {
              place = k.0;
              shown = row;
              partner = like.0;
              at_first = k.1;
              at_second = like.2;
              cubes = cubes;
              represents_first = record { label = refl; itself = λ _. refl };
              represents_second = record { label = refl; itself = λ _. refl };
            },
          );
    }

    pub all_held : HoldAllRows F s t (places_of places s) (places_of places t)
    all_held = record { own_first = stand.own s; own_second = stand.own t; each_first = stands s; each_second = stands t; cubes = same }

    pub columns_aligned : (few others : List ℕ) → RepresentBoth F.rows (places_of places s) (places_of places t) few others
        → ((row other : KissRow) → row.to ≡ other.to → said row ≡ said other) → AreAligned F s t few others said false
    columns_aligned few others show of_next = record {
      own_first = picked_own s few show.picked_first (λ j among. show.within j among);
      own_second = picked_own t others show.picked_second (λ j among. omega (arith, show.within j among, same.count));
      count = show.picked_first.count ∙ sym show.picked_second.count;
      each = λ row of_state.
          let k = stands s row of_state in
          let like = row_there t k.0 (omega (arith, k.1.0, same.count)) in
          let one = show.each k.0 k.1.0 in
          let a = row_there s one.0 (show.within one.0 one.1) in
          let b = row_there t one.0 (omega (arith, show.within one.0 one.1, same.count)) in (
            like.0,
            like.1,
            same.cubes k.0 row like.0 k.1 like.2,
            record {
              place = one.1.0;
              shown = a.0;
              partner = b.0;
              at_first = picked_stands (places_of places s) few show.picked_first one.0 one.1 a.0 a.2;
              at_second = picked_stands (places_of places t) others show.picked_second one.0 one.1 b.0 b.2;
              cubes = same.cubes one.0 a.0 b.0 a.2 b.2;
              represents_first = record { label = of_next a.0 row (sym (one.2 row a.0 k.1 a.2)); itself = λ asked. absurd (false≢true asked) };
              represents_second = record { label = of_next b.0 like.0 (sym (one.3 like.0 b.0 like.2 b.2)); itself = λ asked. absurd (false≢true asked) };
            },
          );
    }
      where
        picked_own : (s : ℕ) (few : List ℕ) → ArePicked (places_of places s) show.kept few → ((j : ℕ) → Contains show.kept j → j < length (places_of places s))
            → (i : ℕ) → Contains few i → IsNumberOf F s i
        picked_own s few picked within i (p, below, is) =
            let inside : p < length show.kept = omega (arith, below, picked.count) in
            let j = get_or show.kept p 0 in
            let at : get_or (places_of places s) j 0 ≡ i = sym (picked.each p inside) ∙ get_or_default few p 0 i below ∙ is in
            subst (IsNumberOf F s) at (stand.own s (get_or (places_of places s) j 0) (Contains-get_or (places_of places s) j 0 (within j (Contains-get_or show.kept p 0 inside))))

        picked_stands : (numbers few : List ℕ) → ArePicked numbers show.kept few → (j : ℕ) (among : Contains show.kept j) (row : KissRow)
            → IsAtPlace F.rows numbers j row → IsAtPlace F.rows few among.0 row
        picked_stands numbers few picked j (p, below, is) row (inside, at) =
            let here : get_or few p 0 ≡ get_or numbers j 0 =
            picked.each p below ∙ ap (λ (n : ℕ). get_or numbers n 0) (sym (get_or_default show.kept p j 0 below) ∙ is) in
            (omega (arith, below, picked.count), subst (λ (n : ℕ). slice_get F.rows n ≡ Some row) (sym here) at)

-- rows of a state have numbers of the file
pub inside_of_own : (F : KissFile) (s : ℕ) (numbers : List ℕ) → ((i : ℕ) → Contains numbers i → IsNumberOf F s i) → All (λ i. i < length F.rows) numbers
inside_of_own F s numbers own k d within =
    let found = own (get_or numbers k d) (Contains-get_or numbers k d within) in
    slice_get_within F.rows (get_or numbers k d) found.0 found.1

-- the leader that was read at a state
leader_at : (leaders : List ℕ) (s read : ℕ) → s < length leaders → read ≡ get_or leaders s read → slice_index leaders s ≡ read
leader_at leaders s read inside is = get_or_default leaders s 0 read inside ∙ sym is

-- two states whose leaders were read and are the same
module _ (F G : KissFile) (view : G ≡ F) (places columns : List (List ℕ)) (leaders : List ℕ) (list : ListRows G.rows (length G.states) places)
    (are : AreColumns G.rows places leaders columns) (s t a b : ℕ) (s_state : s < length F.states) (t_state : t < length F.states)
    (a_read : a ≡ get_or leaders s a) (b_read : b ≡ get_or leaders t b) (led : a ≡ b) (said : KissRow → Option ℕ) (few others : List ℕ) where
  lists : ListRows F.rows (length F.states) places
  lists = subst (λ (H : KissFile). ListRows H.rows (length H.states) places) view list

  kept : AreColumns F.rows places leaders columns
  kept = subst (λ (H : KissFile). AreColumns H.rows places leaders columns) view are

  s_inside : s < length places
  s_inside = omega (arith, s_state, lists.size)

  t_inside : t < length places
  t_inside = omega (arith, t_state, lists.size)

  same : slice_index leaders s ≡ slice_index leaders t
  same = leader_at leaders s a (omega (arith, s_inside, kept.size)) a_read ∙ led ∙ sym (leader_at leaders t b (omega (arith, t_inside, kept.size)) b_read)

  pub all_of_two : few ≡ places_of places s → others ≡ places_of places t → (least : Bool) → AreAligned F s t few others said least
  all_of_two first second least =
      subst (λ (numbers : List ℕ). AreAligned F s t numbers others said least) (sym first)
      (subst (λ (numbers : List ℕ). AreAligned F s t (places_of places s) numbers said least) (sym second)
      (all_aligned F places lists s t said (kept.alike s t s_inside t_inside same) least))

  pub held_of_two : few ≡ places_of places s → others ≡ places_of places t → HoldAllRows F s t few others
  held_of_two first second =
      subst (λ (numbers : List ℕ). HoldAllRows F s t numbers others) (sym first)
      (subst (λ (numbers : List ℕ). HoldAllRows F s t (places_of places s) numbers) (sym second)
      (all_held F places lists s t said (kept.alike s t s_inside t_inside same)))

  pub columns_of_two : few ≡ places_of columns s → others ≡ places_of columns t → ((row other : KissRow) → row.to ≡ other.to → said row ≡ said other)
      → (least : Bool) → least ≡ false → AreAligned F s t few others said least
  columns_of_two first second of_next least any =
      subst (λ (b : Bool). AreAligned F s t few others said b) (sym any)
      (subst (λ (numbers : List ℕ). AreAligned F s t numbers others said false) (sym first)
      (subst (λ (numbers : List ℕ). AreAligned F s t (places_of columns s) numbers said false) (sym second)
      (columns_aligned F places lists s t said (kept.alike s t s_inside t_inside same) (places_of columns s) (places_of columns t)
      (kept.shown s t s_inside t_inside same) of_next)))
