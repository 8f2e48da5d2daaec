-- The text of a network denotes it.
use Rattle.std.proofs.Common.{◌≡◌, ◌≢◌, ℕ, not, IfSome, Option, Some, None, List, [], ◌∷◌, ◌++◌, Contains, map, append_assoc, append-nil, sym, ◌∙◌, refl, ap, subst, arith}
use Rattle.std.specs.List.{flat_map, AllByRecursion, take_while, filter}
use Rattle.std.proofs.lemmas.Grind.{flat_map-append}
use Rattle.std.proofs.lemmas.List.Elements.{All-contains, All-from_recursion, Contains-append_left, Contains-append_right}
use Rattle.std.proofs.lemmas.List.Folds.{flat_map-map}
use Rattle.list_facts.specs.Laws.Everywhere.{each_append, each_weaker}
use Rattle.list_facts.specs.Laws.Members.{Contains-none}
use Rattle.hs_io.specs.Lines.{is_skipped, lines_of, lines_from}
use Rattle.hs_io.specs.Spelling.{ended, line_text, ArePlainFields, IsPlainField, IsComment}
use Rattle.hs_io.specs.Laws.Spelled.{IsLineByte, line_bytes, physical_lines-all}
use Rattle.net_core.specs.declared.Gate.{Gate}
use Rattle.net_core.specs.declared.Latch.{Latch}
use Rattle.net_core.specs.declared.Network.{Network}
use Rattle.net_core.specs.JoinedLines.{joined, read_lines, ends_text}
use Rattle.net_core.specs.SoundNetwork.{driven_by}
use Rattle.net_core.specs.Denotation.{Denotes}
use Rattle.net_core.specs.Statements.{Statement, numbered_of, statements_of, said_in, inputs_in, outputs_in, clocks_in}
use Rattle.net_core.specs.Words.{end_word}
use Rattle.blif_out.specs.declared.design.Design.{Design}
use Rattle.blif_out.specs.Design.{IsClockOf, IsDesignOf}
use Rattle.blif_out.specs.NetText.{net_fields, net_text}
use Rattle.blif_out.specs.Writable.{IsSignalName, IsWritable}
use Rattle.blif_out.specs.Law.{NetTextDenotes}
use Rattle.blif_out.specs.Laws.Grammar.{on_lines, said-on_lines, tail_statements, net_statements, net_said, net_faultless, controls_of, all_clocks, flat_map-tail, latches_read, gates_read}
use Rattle.blif_out.specs.Laws.Reading.{numbered, HasNoBackslash, GoesOn, lines_from-comments, joined-numbered, take_while-numbered, statements-comments}
use Rattle.blif_out.specs.Laws.Words.{AreNames, all_names, all_go_on, all_have_words, name_word}

-- ---- lines
-- no text has a line feed within
pub comment_inside : (text : List ℕ) → IsComment text → AllByRecursion (λ b. b ≢ 10) text
comment_inside [] p = absurd p
comment_inside (b ∷ bs) (mark, more) = (λ e. absurd (omega arith), more)

comments_inside : (comments : List (List ℕ)) (rest : List (List ℕ)) → AllByRecursion IsComment comments → AllByRecursion (AllByRecursion (λ b. b ≢ 10)) rest → AllByRecursion (AllByRecursion (λ b. b ≢ 10)) (comments ++ rest)
comments_inside [] rest p q = q
comments_inside (c ∷ cs) rest (p, ps) q = (comment_inside c p, comments_inside cs rest ps q)

bodies_inside : (bodies : List (List (List ℕ))) → AllByRecursion ArePlainFields bodies → AllByRecursion (AllByRecursion (λ b. b ≢ 10)) (map line_text bodies)
bodies_inside [] p = tt
bodies_inside (fs ∷ bodies) (p, ps) = (each_weaker IsLineByte (λ b. b ≢ 10) (λ b h e. absurd (omega (arith, h.low, e))) (line_text fs) (line_bytes fs p), bodies_inside bodies ps)

-- the lines of comments have no fields
abbrev pub blanks : List (List ℕ) → List (List (List ℕ))
blanks comments = map (λ _. []) comments

blanks_unjoined : (comments : List (List ℕ)) (rest : List (List (List ℕ))) → AllByRecursion HasNoBackslash rest → AllByRecursion HasNoBackslash (blanks comments ++ rest)
blanks_unjoined [] rest p = p
blanks_unjoined (c ∷ cs) rest p = (tt, blanks_unjoined cs rest p)

blanks_go_on : (comments : List (List ℕ)) (rest : List (List (List ℕ))) → AllByRecursion GoesOn rest → AllByRecursion GoesOn (blanks comments ++ rest)
blanks_go_on [] rest p = p
blanks_go_on (c ∷ cs) rest p = (refl, blanks_go_on cs rest p)

-- ---- clocks
-- the clocks that the statements name can be clocks
of_clock : (clock : Option (List ℕ)) (N : Network) (latches : List Latch) (gates : List Gate) (name : List ℕ) → IfSome clock (IsClockOf N) → Contains (flat_map clocks_in (tail_statements clock latches gates)) name → IsClockOf N name
of_clock None N latches gates name is among =
    absurd (Contains-none name (subst (λ (names : List (List ℕ)). Contains names name) (flat_map-tail clocks_in None latches gates (λ _. refl) (λ _. refl) (λ _. refl)) among))
of_clock (Some clock) N latches gates name is among =
    let clocks : List (List ℕ) = flat_map clocks_in (tail_statements (Some clock) latches gates) in
    let IsThis : List ℕ → Type 0 = λ other. other ≡ clock in
    let same : name ≡ clock = All-contains IsThis clocks name (All-from_recursion IsThis clocks (all_clocks clock latches gates (controls_of N (Some clock) is))) among in
    subst (IsClockOf N) (sym same) is

-- ---- the text
module _ (design : Design) (N : Network) (w : IsWritable N) (is : IsDesignOf N design) where
  -- the fields of each line, the ending one too
  abbrev all_fields : List (List (List ℕ))
  all_fields = net_fields design N ++ (end_word ∷ []) ∷ []

  names_to_end : AllByRecursion AreNames all_fields
  names_to_end = each_append AreNames (net_fields design N) ((end_word ∷ []) ∷ []) (all_names design N w is) ((name_word end_word (omega arith) refl, tt), tt)

  plain_to_end : AllByRecursion ArePlainFields all_fields
  plain_to_end = each_weaker AreNames ArePlainFields (λ fs p. each_weaker IsSignalName IsPlainField (λ f q. q.field) fs p) all_fields names_to_end

  unjoined_to_end : AllByRecursion HasNoBackslash all_fields
  unjoined_to_end = each_weaker AreNames HasNoBackslash (λ fs p. each_weaker IsSignalName (AllByRecursion (λ b. b ≢ 92)) (λ f q. q.no_backslash) fs p) all_fields names_to_end

  module _ (comments : List (List ℕ)) (cs : AllByRecursion IsComment comments) where
    abbrev bytes : List ℕ
    bytes = flat_map ended comments ++ net_text design N

    -- the texts of the lines: comments, and then the statements
    abbrev line_texts : List (List ℕ)
    line_texts = comments ++ map line_text all_fields

    text_is : bytes ≡ flat_map ended line_texts
    text_is =
        ap (λ t. flat_map ended comments ++ t) (sym (flat_map-map ended line_text all_fields)) ∙ sym (flat_map-append ended comments (map line_text all_fields))

    -- the lines of the text
    lines_are : lines_of bytes ≡ numbered 1 (blanks comments ++ all_fields)
    lines_are =
        ap lines_of text_is
        ∙ (ap (λ ls. lines_from 1 ls) (physical_lines-all line_texts (comments_inside comments (map line_text all_fields) cs (bodies_inside all_fields plain_to_end)))
        ∙ lines_from-comments 1 comments all_fields cs plain_to_end)

    -- the lines that are read
    read_are : read_lines bytes ≡ numbered 1 (blanks comments ++ net_fields design N)
    read_are =
        let goes_on : List (List (List ℕ)) = blanks comments ++ net_fields design N in
        ap (λ ls. take_while (λ l. not (ends_text l)) (joined ls)) lines_are
        ∙ (ap (λ ls. take_while (λ l. not (ends_text l)) ls) (joined-numbered 1 (blanks comments ++ all_fields) (blanks_unjoined comments all_fields unjoined_to_end))
        ∙ (ap (λ fs. take_while (λ l. not (ends_text l)) (numbered 1 fs)) (sym (append_assoc (blanks comments) (net_fields design N) ((end_word ∷ []) ∷ [])))
        ∙ take_while-numbered 1 goes_on (blanks_go_on comments (net_fields design N) (all_go_on design N w))))

    -- the statements that are read
    statements_are : (first : ℕ) × (statements_of bytes ≡ on_lines first (net_statements design N))
    statements_are =
        let read = statements-comments 1 comments (net_fields design N) (all_have_words design N w) in (
          read.0,
          ap (λ ls. map numbered_of (filter (λ l. not (is_skipped l)) ls)) read_are ∙ (read.1 ∙ ap (on_lines read.0) (net_said design N w)),
        )

    said : said_in bytes ≡ net_statements design N
    said = ap (λ ss. map (λ s. s.says) ss) statements_are.1 ∙ said-on_lines statements_are.0 (net_statements design N)

    -- a clock of the text is one of the network
    is_clock : (clock : List ℕ) → Contains (flat_map clocks_in (said_in bytes)) clock → IsClockOf N clock
    is_clock clock among =
        of_clock design.clock N N.latches N.gates clock is.clock (subst (λ (statements : List Statement). Contains (flat_map clocks_in statements) clock) said among)

    pub denotes : Denotes bytes N
    denotes = record {
      begun = rw statements_are.1 (omega arith);
      faultless = rw statements_are.1 (net_faultless statements_are.0 design N w (controls_of N design.clock is.clock));
      clock_no_gate =
          λ clock among driven. (is_clock clock among).undriven (Contains-append_right (map (λ (latch : Latch). latch.output) N.latches) (driven_by N.gates) clock driven);
      clock_no_latch =
          λ clock among driven. (is_clock clock among).undriven (Contains-append_left (map (λ (latch : Latch). latch.output) N.latches) (driven_by N.gates) clock driven);
      inputs = rw (said, flat_map-tail inputs_in design.clock N.latches N.gates (λ _. refl) (λ _. refl) (λ _. refl)) (sym (append-nil N.inputs));
      outputs = rw (said, flat_map-tail outputs_in design.clock N.latches N.gates (λ _. refl) (λ _. refl) (λ _. refl)) (sym (append-nil N.outputs));
      latches = rw said (sym (latches_read design.clock N.latches N.gates));
      gates = rw said (sym (gates_read design.clock N.latches N.gates w.gates));
    }

pub net_denotes : NetTextDenotes
net_denotes design N comments w is cs = denotes design N w is comments cs
