-- Members parted function after function, by class and label.
use Rattle.std.proofs.Common.{◌≡◌, ℕ, ◌+◌, ◌*◌, ◌<◌, List, [], length, get_or, replicate, sym, ap, ◌∙◌, subst, arith}
use Rattle.std.proofs.lemmas.Nat.{mul-add-lt, same_from_place}
use Rattle.partition.specs.Partition.{IsPartition, SameTogether, Together}
use Rattle.partition.specs.Laws.Labels.{IsPartition-of, label-le}
use Rattle.partition.specs.Laws.Extremes.{one_of_is_one, one_of_is_partition}
use Rattle.io_pairs.specs.Inner.Families.{AreFunctions, FamilyPair, IsParted, IsPartedBelow, IsSplit, value_at}
use Rattle.partition.specs.Partners.{IsGreatestWith}
use Rattle.io_pairs.proofs.Going.{go_more}

-- a class and a label make a number below the product of how many there are
pub split_lt : (members width class label : ℕ) → class < members → label < width → class * width + label < members * width
split_lt members width class label in_class in_label = omega (arith, mul-add-lt class width label members in_class in_label)

-- labels and classes are below the number of members
pub label_below : (n : ℕ) (p : List ℕ) (x : ℕ) → IsPartition n p → x < n → get_or p x 0 < n
label_below n p x lawful within = omega (arith, label-le p lawful.numbered x (omega (arith, lawful.length)), lawful.length)

pub parted_none : (members values : ℕ) (functions : List (List ℕ)) (q classes : List ℕ) → AreFunctions members values functions → classes ≡ replicate members 0 → IsPartedBelow members functions 0 q classes
parted_none members values functions q classes are is =
    let lawful : IsPartition members classes = subst (IsPartition members) (sym is) (one_of_is_partition members are.some_members) in
    record {
      lawful = lawful;
      together = λ x y in_x in_y. (
        (λ held k within. absurd (omega arith)),
        (λ go. subst (λ (p : List ℕ). Together p x y) (sym is)
            (one_of_is_one members x y (omega (arith, in_x, (one_of_is_partition members are.some_members).length)) (omega (arith, in_y, (one_of_is_partition members are.some_members).length)))),
      );
    }

-- numbers that combine classes with labels of values, numbered by first appearance, are the classes that are split
pub split_by : (q classes function numbers values new_classes : List ℕ) → IsPartition (length q) q → ((x : ℕ) → x < length classes → get_or function x 0 < length q) → values ≡ numbers
    → length numbers ≡ length classes → ((x : ℕ) → x < length classes → get_or numbers x 0 ≡ get_or classes x 0 * length q + get_or q (get_or function x 0) 0)
    → IsPartition (length values) new_classes → SameTogether values new_classes → IsSplit classes function q new_classes
split_by q classes function numbers values new_classes whole inside given size number lawful same = record {
  lawful = IsPartition-of count lawful;
  together = λ x y in_x in_y. (
    (λ held.
        let was = (same x y).1 held in
        let both = same_from_place (get_or classes x 0) (label x) (get_or classes y 0) (label y) (length q) (low x in_x) (low y in_y) (sym (at x in_x) ∙ was.2 ∙ at y in_y) in
        record { before = (in_x, in_y, both.0); going = (inside x in_x, inside y in_y, both.1) }),
    (λ stay.
        (same x y).0 (
          omega (arith, count),
          omega (arith, count),
          at x in_x ∙ ap (λ (a : ℕ). a * length q + label x) stay.before.2 ∙ ap (λ (b : ℕ). get_or classes y 0 * length q + b) stay.going.2 ∙ sym (at y in_y),
        )),
  );
}
  where
    label : ℕ → ℕ
    label x = get_or q (get_or function x 0) 0

    count : length values ≡ length classes
    count = ap length given ∙ size

    low : (x : ℕ) → x < length classes → label x < length q
    low x within = label_below (length q) q (get_or function x 0) whole (inside x within)

    at : (x : ℕ) → x < length classes → get_or values x 0 ≡ get_or classes x 0 * length q + label x
    at x within = ap (λ (xs : List ℕ). get_or xs x 0) given ∙ number x within

-- the numbers are below the number of members times that of labels
pub numbers_below : (q classes function numbers values : List ℕ) → IsPartition (length q) q → IsPartition (length classes) classes → ((x : ℕ) → x < length classes → get_or function x 0 < length q) → values ≡ numbers
    → length numbers ≡ length classes → ((x : ℕ) → x < length classes → get_or numbers x 0 ≡ get_or classes x 0 * length q + get_or q (get_or function x 0) 0)
    → (x : ℕ) → x < length values → get_or values x 0 < length classes * length q
numbers_below q classes function numbers values whole were inside given size number x within =
    let in_x : x < length classes = omega (arith, ap length given, size) in
    let value : ℕ = get_or function x 0 in
    let in_class = label_below (length classes) classes x were in_x in
    let in_label = label_below (length q) q value whole (inside x in_x) in
    omega (arith, ap (λ (xs : List ℕ). get_or xs x 0) given, number x in_x, split_lt (length classes) (length q) (get_or classes x 0) (get_or q value 0) in_class in_label)

pub parted_more : (members : ℕ) (functions : List (List ℕ)) (k : ℕ) (q held classes function new_classes : List ℕ) → held ≡ classes → function ≡ get_or functions k []
    → IsPartedBelow members functions k q classes → IsSplit held function q new_classes → IsPartedBelow members functions (k + 1) q new_classes
parted_more members functions k q held classes function new_classes lent row so_far split = record {
  lawful = IsPartition-of size split.lawful;
  together = λ x y in_x in_y. (
    (λ now.
        let stay = (split.together x y (omega (arith, size, in_x)) (omega (arith, size, in_y))).0 now in
        go_more functions k q x y
        ((so_far.together x y in_x in_y).0 (subst (λ (p : List ℕ). Together p x y) lent stay.before))
        (subst (λ (f : List ℕ). Together q (get_or f x 0) (get_or f y 0)) row stay.going)),
    (λ go.
        let old = (so_far.together x y in_x in_y).1 (λ j within. go j (omega arith)) in
        (split.together x y (omega (arith, size, in_x)) (omega (arith, size, in_y))).1
        (record {
          before = subst (λ (p : List ℕ). Together p x y) (sym lent) old;
          going = subst (λ (f : List ℕ). Together q (get_or f x 0) (get_or f y 0)) (sym row) (go k (omega arith));
        })),
  );
}
  where
    size : length held ≡ members
    size = ap length lent ∙ so_far.lawful.length

-- what is parted by all functions is the greatest partner
pub parted_greatest : (members : ℕ) (functions : List (List ℕ)) (q p : List ℕ) → IsParted members functions q p → IsGreatestWith members (λ l. FamilyPair functions l q) p
parted_greatest members functions q p is = record {
  lawful = is.lawful;
  has = λ x y held. (is.together x y (omega (arith, held.0, is.lawful.length)) (omega (arith, held.1, is.lawful.length))).0 held;
  greatest = λ other lawful pair x y held. (is.together x y (omega (arith, held.0, lawful.length)) (omega (arith, held.1, lawful.length))).1 (pair x y held);
}
