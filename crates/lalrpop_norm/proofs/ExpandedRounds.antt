-- What is reached in a whole expansion has a rule of its text; and what holds of all that is reached holds of all that is made.
use Rattle.std.proofs.Common.{◌≡◌, ◌⊎◌, inl, inr, ℕ, zero, suc, Bool, true, false, List, [], ◌∷◌, ◌++◌, map, reverse, refl, ap, sym, subst, ◌∙◌}
use Rattle.std.specs.Prelude.{flat_map, if◌then◌else◌}
use Rattle.lalrpop_norm_tree_names.specs.declared.names.Span.{Span}
use Rattle.lalrpop_norm_tree.specs.Symbols.{Kind, Part, Parts, at}
use Rattle.lalrpop_norm_tree.specs.Traversal.{inner}
use Rattle.lalrpop_norm_tree.specs.SymbolTexts.{part_text}
use Rattle.lalrpop_norm_tree.specs.Items.{AlternativeData, RuleData, GrammarData}
use Rattle.lalrpop_norm_theory.specs.Symbols.{Name, ClosedSymbol}
use Rattle.lalrpop_norm_theory.specs.Rounds.{In, Round, rounds, all_rules_made}
use Rattle.lalrpop_norm_theory.specs.Met.{rule_meets, expanded_symbols}
use Rattle.lalrpop_norm_theory.specs.Laws.{IsWhole}
use Rattle.lalrpop_norm_theory.proofs.RoundsLemmas.{in_left, in_right, in_cases, in_flat, of_flat, of_reverse, fresh_listed}
use Rattle.lalrpop_norm_theory.proofs.Expansion.{nothing_new_whole}
use Rattle.lalrpop_norm_model.specs.ClosedTexts.{closed_text}
use Rattle.lalrpop_norm_model.specs.Grammars.{ConditionValue}
use Rattle.lalrpop_norm_model.specs.MadeRules.{made_rules}
use Rattle.lalrpop_norm_model.specs.Replaced.{is_desugared}
use Rattle.lalrpop_norm_model.specs.PlainRules as plain
use Rattle.lalrpop_norm_model.specs.PlainRules.{met, all_met, met_in_rule, met_by_made, same_apart_from_spans, rules_without_arguments, macros_of, made_symbols, made_in, replaced_rule, plain_rules, plain_grammar}
use Rattle.lalrpop_norm_model.specs.PlainTables.{IsSettled, flat_meaning, declared, closed}
use Rattle.lalrpop_norm_model.specs.Expanded.{rule_names}
use Rattle.lalrpop_norm_model.proofs.LevelLemmas.{in_map, of_map}
use Rattle.lalrpop_norm_model.proofs.TextLemmas.{part_displayed}
use Rattle.lalrpop_norm_model.proofs.MadeReadLemmas.{made_rules_are_read}
use Rattle.lalrpop_norm_model.proofs.MetLemmas.{met_level, all_met_hold}
use Rattle.lalrpop_norm_model.proofs.MetReadLemmas.{met_is_read}
use Rattle.lalrpop_norm_model.proofs.RoundReadLemmas.{rounds_are_read, made_symbols_are_scoped}
use Rattle.lalrpop_norm_model.proofs.FaithfulLemmas.{plain_grammars_hold_plain_rules}

-- ---- what holds of all that is made

module _ {A : Type 0} (same : A → A → Bool) (meets : A → List A) (start : List A) (P : A → Type 0)
    (begins : (a : A) → In a start → P a) (within : (a : A) → P a → (b : A) → In b (meets a) → P b) where
  fresh_within : (k : ℕ) (x : A) → In x (rounds same meets start k).fresh → P x
  fresh_within zero x i = begins x (fresh_listed same [] start x i)
  fresh_within (suc k) x i =
      let r : Round A = rounds same meets start k in
      let (y, there, j) = of_flat meets x (reverse r.fresh) (fresh_listed same (r.seen ++ r.fresh) (flat_map meets (reverse r.fresh)) x i) in
      within y (fresh_within k y (of_reverse y r.fresh there)) x j

  pub made_within : (n : ℕ) (x : A) → In x (all_rules_made same meets start n) → P x
  made_within zero x i = absurd i
  made_within (suc n) x i = elim (in_cases x (all_rules_made same meets start n) (reverse (rounds same meets start n).fresh) i) [
    | inl j ↦ made_within n x j
    | inr j ↦ fresh_within n x (of_reverse x (rounds same meets start n).fresh j)
  ]

module _ {A : Type 0} (same : A → A → Bool) (meets : A → List A) (start : List A) where
  -- what is made was reached by the rules, or by the rule of what is made
  abbrev pub Comes : ℕ → A → Type 0
  Comes n x = (In x start) ⊎ ((y : A) × In y (all_rules_made same meets start n) × In x (meets y))

  fresh_comes : (n : ℕ) (x : A) → In x (rounds same meets start n).fresh → Comes n x
  fresh_comes zero x i = inl (fresh_listed same [] start x i)
  fresh_comes (suc n) x i =
      let r : Round A = rounds same meets start n in
      let (y, there, j) = of_flat meets x (reverse r.fresh) (fresh_listed same (r.seen ++ r.fresh) (flat_map meets (reverse r.fresh)) x i) in
      inr (y, in_right y (all_rules_made same meets start n) (reverse r.fresh) there, j)

  later : (n : ℕ) (x : A) → Comes n x → Comes (suc n) x
  later n x (inl i) = inl i
  later n x (inr (y, i, j)) = inr (y, in_left y (all_rules_made same meets start n) (reverse (rounds same meets start n).fresh) i, j)

  pub made_comes : (n : ℕ) (x : A) → In x (all_rules_made same meets start n) → Comes n x
  made_comes zero x i = absurd i
  made_comes (suc n) x i = elim (in_cases x (all_rules_made same meets start n) (reverse (rounds same meets start n).fresh) i) [
    | inl j ↦ later n x (made_comes n x j)
    | inr j ↦ later n x (fresh_comes n x (of_reverse x (rounds same meets start n).fresh j))
  ]

-- ---- what is reached within what is reached

-- what is reached is among ms
abbrev AreMet : List Part → List Part → Type 0
AreMet ms ns = (q : Part) → In q ns → In q ms

met_inside : (ms : List Part) (s : Span) (k : Kind) → AreMet ms (met (at s k)) → AreMet ms (all_met (inner k))
met_inside ms s k h q i = h q (subst (λ (ns : List Part). In q ns) (sym (met_level s k)) (by (is_desugared k)))
  where
    by : (b : Bool) → In q (if b then all_met (inner k) ++ at s k ∷ [] else all_met (inner k))
    by true = in_left q (all_met (inner k)) (at s k ∷ []) i
    by false = i

all_met_within : (ps : Parts) (p q : Part) → In p (all_met ps) → In q (met p) → In q (all_met ps)
all_met_within ps p q i j =
    all_met_hold (λ x. AreMet (all_met ps) (met x)) (λ x. AreMet (all_met ps) (met x)) (λ xs. AreMet (all_met ps) (all_met xs))
    (λ x xs h y k. h y (in_left y (met x) (all_met xs) k)) (λ x xs h y k. h y (in_right y (met x) (all_met xs) k)) (met_inside (all_met ps))
    (λ s k e h. h) ps (λ y k. k) p i q j

rules_meet_within : (ds : List RuleData) (p q : Part) → In p (flat_map met_in_rule ds) → In q (met p) → In q (flat_map met_in_rule ds)
rules_meet_within ds p q i j =
    let (d, k, l) = of_flat met_in_rule p ds i in
    let (a, m, o) = of_flat (λ (x : AlternativeData). all_met x.parts) p d.alternatives l in
    in_flat met_in_rule q d ds k (in_flat (λ (x : AlternativeData). all_met x.parts) q a d.alternatives m (all_met_within a.parts p q o j))

-- ---- names

module _ (value : ConditionValue) (g : GrammarData) (S : IsSettled g) (n : ℕ) (whole : plain.IsEnded value g n) where
  abbrev expanded : List ClosedSymbol
  expanded = expanded_symbols (flat_meaning value g) (declared g) n

  done : IsWhole (flat_meaning value g) (declared g) expanded
  done = nothing_new_whole (flat_meaning value g) (declared g) n ((rounds_are_read value g S n).3.0 whole)

  closed_made : map closed (made_symbols value g n) ≡ expanded
  closed_made = (rounds_are_read value g S n).0

  same_text : (p q : Part) → closed q ≡ closed p → part_text p ≡ part_text q
  same_text p q e =
      sym (part_displayed (λ m b. m) (λ m. refl) 0 0 p) ∙ ap (closed_text (λ (m : Name) b. m)) (sym e) ∙ part_displayed (λ m b. m) (λ m. refl) 0 0 q

  in_plain : (r : RuleData) → In r (plain_rules value g n) → In r.name.0 (rule_names (plain_grammar value g n))
  in_plain r i =
      subst (λ (rs : List RuleData). In r.name.0 (map (λ (d : RuleData). d.name.0) rs)) (sym (plain_grammars_hold_plain_rules value g n))
      (in_map (λ (d : RuleData). d.name.0) r (plain_rules value g n) i)

  -- a rule without arguments keeps its name
  pub written_named : (r : RuleData) → In r (rules_without_arguments g) → In r.name.0 (rule_names (plain_grammar value g n))
  written_named r i = in_plain (replaced_rule r) (in_left (replaced_rule r) (map replaced_rule (rules_without_arguments g)) _ (in_map replaced_rule r (rules_without_arguments g) i))

  -- each symbol that is made has a rule of its text
  made_named : (p : Part) → In p (made_symbols value g n) → In (part_text p) (rule_names (plain_grammar value g n))
  made_named p i =
      let s = made_symbols_are_scoped value g S n p i in
      let (r, made, is) = made_rules_are_read value g S.resolved S.scoped p s.0 s.1 in
      let here : In r (made_rules value (macros_of g) p) = subst (λ (rs : List RuleData). In r rs) (sym made) (inl refl) in
      subst (λ m. In m (rule_names (plain_grammar value g n))) is.name
      (in_plain (replaced_rule r) (in_right (replaced_rule r) (map replaced_rule (rules_without_arguments g)) _
      (in_map replaced_rule r (made_in value g n) (in_flat (made_rules value (macros_of g)) r p (made_symbols value g n) i here))))

  -- so has each whose ground symbol is expanded
  expanded_named : (q : Part) → In (closed q) expanded → In (part_text q) (rule_names (plain_grammar value g n))
  expanded_named q i =
      let (p, j, e) = of_map closed (closed q) (made_symbols value g n) (subst (λ (gs : List ClosedSymbol). In (closed q) gs) (sym closed_made) i) in
      subst (λ m. In m (rule_names (plain_grammar value g n))) (same_text p q e) (made_named p j)

  -- each symbol that the rules of the grammar reach has a rule of its text
  pub start_covered : (q : Part) → In q (flat_map met_in_rule (rules_without_arguments g)) → In (part_text q) (rule_names (plain_grammar value g n))
  start_covered q i =
      let read = (met_is_read value g S).1 in
      let met = subst (λ (gs : List ClosedSymbol). In (closed q) gs) read (in_map closed q (flat_map met_in_rule (rules_without_arguments g)) i) in
      let (x, j, k) = of_flat (rule_meets (flat_meaning value g)) (closed q) (declared g) met in
      expanded_named q (done.done x (closed q) (in_left x (declared g) expanded j) k)

  -- so has each that a generated rule reaches
  pub made_covered : (p : Part) → In p (made_symbols value g n) → (q : Part) → In q (met_by_made value (macros_of g) p) →
      In (part_text q) (rule_names (plain_grammar value g n))
  made_covered p i q j =
      let s = made_symbols_are_scoped value g S n p i in
      let read = (met_is_read value g S).2 p s.0 s.1 in
      let met = subst (λ (gs : List ClosedSymbol). In (closed q) gs) read (in_map closed q (met_by_made value (macros_of g) p) j) in
      let there : In (closed p) expanded = subst (λ (gs : List ClosedSymbol). In (closed p) gs) closed_made (in_map closed p (made_symbols value g n) i) in
      expanded_named q (done.done (closed p) (closed q) (in_right (closed p) (declared g) expanded there) met)

  -- so has each that is reached within a symbol that is made
  pub inside_covered : (p : Part) → In p (made_symbols value g n) → (q : Part) → In q (met p) → In (part_text q) (rule_names (plain_grammar value g n))
  inside_covered p i q j =
      elim (made_comes same_apart_from_spans (met_by_made value (macros_of g)) (flat_map met_in_rule (rules_without_arguments g)) n p i) [
        | inl k ↦ start_covered q (rules_meet_within (rules_without_arguments g) p q k j)
        | inr c ↦ made_covered c.0 c.1 q (rules_meet_within (made_rules value (macros_of g) c.0) p q c.2 j)
      ]
