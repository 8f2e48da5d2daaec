-- Two networks of one trial have the same comments and are equal but for the rows of their gates.
use Rattle.std.proofs.Common.{◌≡◌, ◌∙◌, ℕ, ◌≤◌, ◌++◌, List, [], Option, None, Some, false, length, map, refl, sym, ap, subst, arith}
use Rattle.blif_out.specs.declared.header.Header.{Header}
use Rattle.blif_out.specs.declared.networks.CommentedNetwork.{CommentedNetwork}
use Rattle.blif_out.specs.declared.networks.HeadedNetwork.{HeadedNetwork}
use Rattle.blif_out.specs.Design.{plain_design}
use Rattle.blif_out.specs.Head.{header_text}
use Rattle.blif_out.specs.NetworkText.{IsNetworkText}
use Rattle.closed_lattice.specs.ClosedPartitions.{IsClosedPartition}
use Rattle.decomposition.specs.Decomposition.{IsDecomposed}
use Rattle.generated_texts.specs.Figures.{AreFigures, IsClosedCount}
use Rattle.generated_texts.specs.Trial.{IsTrialNetwork, IsTrialText}
use Rattle.hs_texts.specs.declared.reports.TrialFigures.{TrialFigures}
use Rattle.hs_texts.specs.Reports.{trial_text}
use Rattle.job_laws.proofs.Ascending.{lists_once, never_more}
use Rattle.job_laws.proofs.Orders.{before_apart}
use Rattle.job_laws.specs.Networks.{TrialsDifferInRows}
use Rattle.kiss_file.specs.declared.file.KissFile.{KissFile}
use Rattle.net_core.specs.declared.Network.{Network}
use Rattle.partition.specs.Order.{Before}
use Rattle.split_texts.specs.Laws.Codes.{length_once}
use Rattle.split_texts.specs.Laws.Kinds.{parts_once}
use Rattle.split_texts.specs.Splits.{IsSplitOf}
use Rattle.state_codes.specs.declared.split.Kind.TheVariants.{Parallel}
use Rattle.state_codes.specs.declared.split.Part.{Part}
use Rattle.text_laws.specs.Rows.{DifferInRowsAlone, EqualButForRows, NetworksDifferInRows}

-- ---- the figures
same_figures : (a b c d e f g h i j : ℕ) (k l : Option ℕ) (m n : List ℕ) (o p q r : ℕ) → a ≡ b → c ≡ d → e ≡ f → g ≡ h → i ≡ j → k ≡ l → m ≡ n → o ≡ p → q ≡ r
    → ◌≡◌ {A = TrialFigures} (record { seed = a; a = c; b = e; k = g; states = i; closed = k; parts = m; latches = o; ones = q })
    (record { seed = b; a = d; b = f; k = h; states = j; closed = l; parts = n; latches = p; ones = r })
same_figures a b c d e f g h i j k l m n o p q r s t u v w x y z z' = cc

-- there is one count of the closed partitions
closed_once : (F : KissFile) (one other : Option ℕ) → IsClosedCount F one → IsClosedCount F other → one ≡ other
closed_once F (Some n) (Some m) (members, lists, is, few) (more, lists_too, is_too, few_too) =
    ap (λ (count : ℕ). Some count)
    (is ∙ (ap (λ (list : List (List ℕ)). length list) (lists_once Before before_apart (IsClosedPartition F) members more lists lists_too) ∙ sym is_too))
closed_once F (Some n) None (members, lists, is, few) (more, evidence) =
    absurd (never_more Before before_apart (IsClosedPartition F) 1000 members more lists (omega (arith, is, few)) evidence)
closed_once F None (Some m) (members, evidence) (more, lists, is, few) =
    absurd (never_more Before before_apart (IsClosedPartition F) 1000 more members lists (omega (arith, is, few)) evidence)
closed_once F None None one other = refl

figures_once : (seed a b k : ℕ) (F : KissFile) (parts : List Part) (one other : TrialFigures) → AreFigures seed a b k F parts one → AreFigures seed a b k F parts other → one ≡ other
figures_once seed a b k F parts one other first second =
    same_figures one.seed other.seed one.a other.a one.b other.b one.k other.k one.states other.states one.closed other.closed one.parts other.parts one.latches other.latches one.ones other.ones
    (first.seed_is ∙ sym second.seed_is) (first.a_is ∙ sym second.a_is) (first.b_is ∙ sym second.b_is) (first.k_is ∙ sym second.k_is)
    (first.states ∙ sym second.states) (closed_once F one.closed other.closed first.closed second.closed) (first.blocks ∙ sym second.blocks)
    (length_once parts one.latches other.latches first.latches second.latches) (first.ones ∙ sym second.ones)

-- ---- the network and its comments
module _ (networks : NetworksDifferInRows) (seed a b k : ℕ) (F : KissFile) where
  -- the decomposition is one that `parallel` gives
  headed_alike : (parts : List Part) (made more : HeadedNetwork) → IsSplitOf Parallel [] F parts → IsDecomposed false F F Parallel parts made → IsDecomposed false F F Parallel parts more
      → (made.header ≡ more.header) × EqualButForRows made.network more.network
  headed_alike parts made more split one two =
      networks Parallel [] false F made more (F, parts, split, one, (λ class codes N H of_parts is. tt)) (F, parts, split, two, (λ class codes N H of_parts is. tt))

  pub trials_alike : (parts others : List Part) (figures also : TrialFigures) (made more : HeadedNetwork) → AreFigures seed a b k F parts figures → AreFigures seed a b k F others also
      → IsSplitOf Parallel [] F parts → IsSplitOf Parallel [] F others → IsDecomposed false F F Parallel parts made → IsDecomposed false F F Parallel others more
      → (trial_text figures ++ header_text made.header ≡ trial_text also ++ header_text more.header) × EqualButForRows made.network more.network
  trials_alike parts others figures also made more one two split twin is is_too =
      let same : others ≡ parts = parts_once Parallel [] F others parts twin.made split.made in
      let both = headed_alike parts made more split is (subst (λ (list : List Part). IsDecomposed false F F Parallel list more) same is_too) in
      let told : figures ≡ also = figures_once seed a b k F parts figures also one (subst (λ (list : List Part). AreFigures seed a b k F list also) same two) in (
        ap (λ (f : TrialFigures). trial_text f ++ header_text made.header) told ∙ ap (λ (header : Header). trial_text also ++ header_text header) both.0,
        both.1,
      )

  -- its text
  pub trial_texts_differ : (text other : List ℕ) → IsTrialText seed a b k F text → IsTrialText seed a b k F other → (comments : List ℕ) × DifferInRowsAlone plain_design comments text other
  trial_texts_differ text other one two =
      let both = trials_alike one.parts two.parts one.figures two.figures one.headed two.headed one.right two.right one.split two.split one.decomposed two.decomposed in (
        trial_text one.figures ++ header_text one.headed.header,
        record {
          network = one.headed.network;
          other_network = two.headed.network;
          one = one.of_network;
          two = subst (λ (comments : List ℕ). IsNetworkText plain_design comments two.headed.network other) (sym both.0) two.of_network;
          equal = both.1;
        },
      )

pub trials_differ_in_rows : NetworksDifferInRows → TrialsDifferInRows
trials_differ_in_rows networks seed a b k F made more (parts, figures, headed, one, split, is, network, comments) (others, also, twin, two, split_too, is_too, network_too, comments_too) =
    let both = trials_alike networks seed a b k F parts others figures also headed twin one two split split_too is is_too in (
      comments ∙ (both.0 ∙ sym comments_too),
      subst (λ (N : Network). EqualButForRows N more.network) (sym network) (subst (λ (M : Network). EqualButForRows headed.network M) (sym network_too) both.1),
    )
