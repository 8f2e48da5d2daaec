-- The lines of two texts of one comparison differ only in the numbers of rows and of literals.
use Rattle.std.proofs.Common.{◌≡◌, ◌⊎◌, ◌∙◌, ℕ, ◌++◌, Bool, List, [], ◌∷◌, Option, codes, inl, inr, refl, sym, ap, subst}
use Rattle.std.specs.List.{AllZip}
use Rattle.blif_out.specs.Head.{kind_word}
use Rattle.comparisons.specs.Comparison.{AreKindLines, HasReason, IsCompared, IsKindLine, IsRegisterLine, compared_kinds}
use Rattle.comparisons.specs.CountLaws.{CountsAreOne, NeverBoth, NeverBothOfRegister, ReasonsAreOne, RegisterCountsAreOne, RegisterReasonsAreOne}
use Rattle.comparisons.specs.Lines.{order_line, parts_line, register_word}
use Rattle.hsdec_core.specs.declared.tasks.MachineTask.TheVariants.{OfWork}
use Rattle.hsdec_core.specs.declared.tasks.Task.{Task}
use Rattle.hsdec_core.specs.declared.tasks.Task.TheVariants.{OnMachine}
use Rattle.hsdec_core.specs.declared.tasks.WorkTask.TheVariants as works
use Rattle.hsdec_core.specs.Operands.{held_where, takes_file}
use Rattle.hsdec_core.specs.Promise.{IsAskedOf}
use Rattle.hsdec_core.specs.Task.{task_of}
use Rattle.job_laws.proofs.Held.{machine_once}
use Rattle.job_laws.specs.Comparisons.{ComparisonsDifferInRowCounts, DifferInRowCounts, HaveLinesAlike}
use Rattle.job_words.specs.declared.jobs.Job.{Job}
use Rattle.kiss2.specs.Kiss.{OneFile}
use Rattle.kiss_file.specs.declared.file.KissFile.{KissFile}
use Rattle.operands.specs.Fill.{fill_of}
use Rattle.shift_texts.specs.Causes.{RefusesShift}
use Rattle.state_codes.specs.declared.split.Kind.{Kind}
use Rattle.std.proofs.Common.{IsSome}

zip_last : {X : Type 0} (R : X → X → Type 0) (xs ys : List X) (x y : X) → AllZip R xs ys → R x y → AllZip R (xs ++ x ∷ []) (ys ++ y ∷ [])
zip_last R [] [] x y all last = (last, tt)
zip_last R [] (w ∷ ys) x y all last = absurd all
zip_last R (z ∷ xs) [] x y all last = absurd all
zip_last R (z ∷ xs) (w ∷ ys) x y all last = (all.0, zip_last R xs ys x y all.1 last)

-- what the laws of comparisons say
pub record AreLaws : Type 0 where
  pub counts : CountsAreOne
  pub register_counts : RegisterCountsAreOne
  pub apart : NeverBoth
  pub register_apart : NeverBothOfRegister
  pub reasons : ReasonsAreOne
  pub register_reasons : RegisterReasonsAreOne

module _ (laws : AreLaws) (reduce : Bool) (F : KissFile) where
  kind_lines_alike : (kind : Kind) (line other : List ℕ) → IsKindLine reduce F kind line → IsKindLine reduce F kind other → DifferInRowCounts line other
  kind_lines_alike kind line other (inl (parts, counts, has, is)) (inl (others, more, has_too, is_too)) =
      let both = laws.counts kind reduce F parts others counts more has has_too in
      inr (record {
        word = kind_word kind;
        measure = codes "parts";
        number = parts;
        counts = counts;
        more = more;
        same = both.1;
        is = is;
        other_is = is_too ∙ ap (λ (n : ℕ). parts_line kind n more) (sym both.0);
      })
  kind_lines_alike kind line other (inl (parts, counts, has, is)) (inr why) = absurd (laws.apart kind reduce F parts counts other has why)
  kind_lines_alike kind line other (inr why) (inl (others, more, has, is)) = absurd (laws.apart kind reduce F others more line has why)
  kind_lines_alike kind line other (inr why) (inr also) = inl (laws.reasons kind reduce F line other why also)

  register_lines_alike : (line other : List ℕ) → IsRegisterLine reduce F line → IsRegisterLine reduce F other → DifferInRowCounts line other
  register_lines_alike line other (inl (order, counts, has, is)) (inl (number, more, has_too, is_too)) =
      let both = laws.register_counts reduce F order number counts more has has_too in
      inr (record {
        word = register_word;
        measure = codes "order";
        number = order;
        counts = counts;
        more = more;
        same = both.1;
        is = is;
        other_is = is_too ∙ ap (λ (n : ℕ). order_line n more) (sym both.0);
      })
  register_lines_alike line other (inl (order, counts, has, is)) (inr why) = absurd (laws.register_apart reduce F order counts other has why)
  register_lines_alike line other (inr why) (inl (number, more, has, is)) = absurd (laws.register_apart reduce F number more line has why)
  register_lines_alike line other (inr why) (inr also) = inl (laws.register_reasons reduce F line other why also)

  all_lines_alike : (kinds : List Kind) (lines others : List (List ℕ)) → AreKindLines reduce F kinds lines → AreKindLines reduce F kinds others → AllZip DifferInRowCounts lines others
  all_lines_alike [] [] [] one two = tt
  all_lines_alike [] [] (other ∷ others) one two = absurd two
  all_lines_alike [] (line ∷ lines) others one two = absurd one
  all_lines_alike (kind ∷ kinds) [] others one two = absurd one
  all_lines_alike (kind ∷ kinds) (line ∷ lines) [] one two = absurd two
  all_lines_alike (kind ∷ kinds) (line ∷ lines) (other ∷ others) one two =
      (kind_lines_alike kind line other one.0 two.0, all_lines_alike kinds lines others one.1 two.1)

  compared_alike : (text other : List ℕ) → IsCompared reduce F text → IsCompared reduce F other → HaveLinesAlike text other
  compared_alike text other (lines, last, kinds, register, is) (others, end, kinds_too, register_too, is_too) = record {
    lines = lines ++ last ∷ [];
    other_lines = others ++ end ∷ [];
    is = is;
    other_is = is_too;
    alike = zip_last DifferInRowCounts lines others last end (all_lines_alike compared_kinds lines others kinds kinds_too) (register_lines_alike last end register register_too);
  }

-- of a task of `compare`
of_task : OneFile → AreLaws → (job : Job) (holds : List ℕ → Option (List ℕ)) (text other : List ℕ) (task : Task) → task ≡ OnMachine (OfWork works.Compare) → IsSome (held_where (takes_file task) (holds job.file))
    → IsAskedOf task job holds text → IsAskedOf task job holds other → HaveLinesAlike text other
of_task one_file laws job holds text other (OnMachine (OfWork works.Compare)) is known (bytes, F, held, one) (more, G, held_too, two) =
    let same : G ≡ F = machine_once one_file (holds job.file) (fill_of job) more bytes G F known held_too held in
    compared_alike laws job.reduce F text other one (subst (λ (M : KissFile). IsCompared job.reduce M other) same two)
of_task one_file laws job holds text other _ is known one two = absurd (cc)

pub comparisons_differ : OneFile → AreLaws → ComparisonsDifferInRowCounts
comparisons_differ one_file laws job holds text other is known one two =
    of_task one_file laws job holds text other (task_of job.command) (ap task_of is) known.0 one two
