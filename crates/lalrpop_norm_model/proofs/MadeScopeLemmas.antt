-- In what is reached, and so in the generated rules, each name has a meaning and no argument is left.
use Rattle.std.proofs.Common.{◌≡◌, inl, inr, ℕ, zero, suc, List, [], ◌∷◌, map, Option, Some, None, Bool, true, false, not, ◌||◌, ◌&&◌, refl, sym, ap, ap₂, ◌∙◌, subst}
use Rattle.std.specs.Prelude.{flat_map, bytes_eq, if◌then◌else◌}
use Rattle.std.proofs.lemmas.Bool.{and_parts}
use Rattle.lalrpop_norm_tree_names.specs.declared.names.Span.{Span}
use Rattle.lalrpop_norm_tree_names.specs.declared.names.NonterminalString.{NonterminalString}
use Rattle.lalrpop_norm_tree.specs.declared.symbol.RepeatOp.{RepeatOp}
use Rattle.lalrpop_norm_tree.specs.declared.symbol.RepeatOp.TheVariants.{Star, Plus, Question, Times}
use Rattle.lalrpop_norm_tree.specs.Symbols as written
use Rattle.lalrpop_norm_tree.specs.Symbols.{Kind, Part, Parts, at, no_parts, part_and}
use Rattle.lalrpop_norm_tree.specs.Items.{lookahead_code, lookbehind_code, AlternativeData, RuleData}
use Rattle.lalrpop_norm_theory.specs.Symbols.{Name}
use Rattle.lalrpop_norm_theory.specs.Rounds.{In}
use Rattle.lalrpop_norm_theory.specs.Met.{BecomesRule}
use Rattle.lalrpop_norm_theory.proofs.RoundsLemmas.{in_cases}
use Rattle.lalrpop_norm_model.specs.Scopes.{is_argument}
use Rattle.lalrpop_norm_model.specs.Levels.{every, without_levels}
use Rattle.lalrpop_norm_model.specs.WrittenRules.{WrittenRule, rule_named}
use Rattle.lalrpop_norm_model.specs.Reading.{read_all}
use Rattle.lalrpop_norm_model.specs.Grammars.{is_nil, is_true, ConditionValue}
use Rattle.lalrpop_norm_model.specs.Scoped.{is_rule, takes, is_macro_for, is_scoped_kind, is_scoped, are_scoped, IsScoped}
use Rattle.lalrpop_norm_model.specs.MadeRules.{kind_of, argument_kind, or_name, kind_substituted, substituted, all_substituted, flat_reader, instance_alternative, instance_alternatives, instance_rule, instance_of, group_rule, star_rule, plus_rule, question_rule, so_many, times_rule, location_rule, made_rules}
use Rattle.lalrpop_norm_model.specs.Replaced.{is_desugared}
use Rattle.lalrpop_norm_model.specs.PlainRules.{all_met, met_in_rule, met_by_made}
use Rattle.lalrpop_norm_model.specs.PlainTables.{closed}
use Rattle.lalrpop_norm_model.proofs.LevelLemmas.{in_map}
use Rattle.lalrpop_norm_model.proofs.ScopeLemmas.{scoped_inside}
use Rattle.lalrpop_norm_model.proofs.MetLemmas.{all_met_hold}
use Rattle.lalrpop_norm_model.proofs.MadeReadLemmas.{flat_of, macros_in, plain_in, called_of, plain_listed}

module _ (rs : List WrittenRule) where
  -- a symbol without arguments, whose names have a meaning, and of which a rule is made
  abbrev pub IsMade : Part → Type 0
  IsMade p = (is_scoped rs [] p ≡ true) × BecomesRule (closed p)

  -- ---- what is reached

  repeat_expanded : (s : Span) (op : RepeatOp) (p : Part) → BecomesRule (closed (at s (written.repeated op p)))
  repeat_expanded s Star p = tt
  repeat_expanded s Plus p = tt
  repeat_expanded s Question p = tt
  repeat_expanded s (Times n) p = tt

  becomes_rule : (s : Span) (k : Kind) → is_desugared k ≡ true → BecomesRule (closed (at s k))
  becomes_rule s (written.group ps) h = tt
  becomes_rule s (written.call n ps) h = tt
  becomes_rule s (written.repeated op p) h = repeat_expanded s op p
  becomes_rule s written.lookahead h = tt
  becomes_rule s written.lookbehind h = tt
  becomes_rule s _ h = absurd (cc h)

  many_scoped : (n : ℕ) (p : Part) → is_scoped rs [] p ≡ true → are_scoped rs [] (so_many n p) ≡ true
  many_scoped zero p h = refl
  many_scoped (suc n) p h = ap₂ ◌&&◌ h (many_scoped n p h)

  all_met_made : (ps : Parts) → are_scoped rs [] ps ≡ true → (q : Part) → In q (all_met ps) → IsMade q
  all_met_made =
      all_met_hold (λ p. is_scoped rs [] p ≡ true) IsMade (λ ps. are_scoped rs [] ps ≡ true) (λ p ps h. (and_parts (is_scoped rs [] p) (are_scoped rs [] ps) h).0)
      (λ p ps h. (and_parts (is_scoped rs [] p) (are_scoped rs [] ps) h).1) (λ s k h. scoped_inside rs [] k h) (λ s k e h. (h, becomes_rule s k e))

  -- alternatives without arguments, whose names have a meaning
  abbrev pub AreScoped : List AlternativeData → Type 0
  AreScoped [] = Unit {0}
  AreScoped (a ∷ xs) = (are_scoped rs [] a.parts ≡ true) × AreScoped xs

  alternatives_made : (xs : List AlternativeData) → AreScoped xs → (q : Part) → In q (flat_map (λ (a : AlternativeData). all_met a.parts) xs) → IsMade q
  alternatives_made [] h q i = absurd i
  alternatives_made (a ∷ xs) h q i = elim (in_cases q (all_met a.parts) _ i) [
    | inl j ↦ all_met_made a.parts h.0 q j
    | inr j ↦ alternatives_made xs h.1 q j
  ]

  rules_made : (ds : List RuleData) → ((d : RuleData) → In d ds → AreScoped d.alternatives) → (q : Part) → In q (flat_map met_in_rule ds) → IsMade q
  rules_made [] h q i = absurd i
  rules_made (d ∷ ds) h q i = elim (in_cases q (met_in_rule d) _ i) [
    | inl j ↦ alternatives_made d.alternatives (h d (inl refl)) q j
    | inr j ↦ rules_made ds (λ e k. h e (inr k)) q j
  ]

  only_scoped : (d r : RuleData) → AreScoped d.alternatives → In r (d ∷ []) → AreScoped r.alternatives
  only_scoped d r h (inl e) = subst (λ (x : RuleData). AreScoped x.alternatives) (sym e) h
  only_scoped d r h (inr i) = absurd i

  pub scoped_in : (xs : List AlternativeData) → AreScoped xs → (a : AlternativeData) → In a xs → are_scoped rs [] a.parts ≡ true
  scoped_in [] h a i = absurd i
  scoped_in (x ∷ xs) h a (inl e) = subst (λ (y : AlternativeData). are_scoped rs [] y.parts ≡ true) (sym e) h.0
  scoped_in (x ∷ xs) h a (inr i) = scoped_in xs h.1 a i

  -- ---- arguments substituted

  argument_here : (n : Name) (p : Part) (o : Option Kind) (x y : Bool) → is_scoped rs [] p ≡ true →
      ((y || is_rule (rule_named rs n)) ≡ true → is_scoped_kind rs [] (or_name n o) ≡ true) →
      ((x || y) || is_rule (rule_named rs n)) ≡ true → is_scoped_kind rs [] (or_name n (if x then Some (kind_of p) else o)) ≡ true
  argument_here n (at s k) o true y h f i = h
  argument_here n p o false y h f i = f i

  argument_scoped : (params : List NonterminalString) (args : Parts) (n : Name) → takes params args ≡ true → are_scoped rs [] args ≡ true →
      (is_argument params n || is_rule (rule_named rs n)) ≡ true → is_scoped_kind rs [] (or_name n (argument_kind params args n)) ≡ true
  argument_scoped [] no_parts n t h i = i
  argument_scoped [] (part_and p ps) n t h i = absurd (cc t)
  argument_scoped (a ∷ params) no_parts n t h i = absurd (cc t)
  argument_scoped (a ∷ params) (part_and p ps) n t h i =
      let both = and_parts (is_scoped rs [] p) (are_scoped rs [] ps) h in
      argument_here n p (argument_kind params ps n) (bytes_eq a.0 n) (is_argument params n) both.0 (argument_scoped params ps n t both.1) i

  takes_put : (params : List NonterminalString) (argument : Name → Option Kind) (ps : Parts) → takes params (all_substituted argument ps) ≡ takes params ps
  takes_put [] argument no_parts = refl
  takes_put [] argument (part_and p ps) = refl
  takes_put (a ∷ params) argument no_parts = refl
  takes_put (a ∷ params) argument (part_and p ps) = takes_put params argument ps

  macro_put : (argument : Name → Option Kind) (ps : Parts) (o : Option WrittenRule) → is_macro_for (all_substituted argument ps) o ≡ is_macro_for ps o
  macro_put argument ps None = refl
  macro_put argument ps (Some r) = ap (λ b. not (is_nil r.args) && b) (takes_put r.args argument ps)

  module _ (params : List NonterminalString) (args : Parts) (fitting : takes params args ≡ true) (scoped : are_scoped rs [] args ≡ true) where
    mutual
      kind_put_scoped : (k : Kind) → is_scoped_kind rs params k ≡ true → is_scoped_kind rs [] (kind_substituted (argument_kind params args) k) ≡ true
      kind_put_scoped (written.nonterminal n) h = argument_scoped params args n fitting scoped h
      kind_put_scoped (written.ambiguous_id n) h = absurd (cc h)
      kind_put_scoped (written.group ps) h = parts_put_scoped ps h
      kind_put_scoped (written.call n ps) h =
          let behind = (and_parts (not (is_argument params n)) (is_macro_for ps (rule_named rs n) && are_scoped rs params ps) h).1 in
          let both = and_parts (is_macro_for ps (rule_named rs n)) (are_scoped rs params ps) behind in
          ap₂ ◌&&◌ (macro_put (argument_kind params args) ps (rule_named rs n) ∙ both.0) (parts_put_scoped ps both.1)
      kind_put_scoped (written.repeated op p) h = part_put_scoped p h
      kind_put_scoped (written.chosen p) h = part_put_scoped p h
      kind_put_scoped (written.named n p) h = part_put_scoped p h
      kind_put_scoped (written.tupled ns p) h = part_put_scoped p h
      kind_put_scoped _ h = refl

      part_put_scoped : (p : Part) → is_scoped rs params p ≡ true → is_scoped rs [] (substituted (argument_kind params args) p) ≡ true
      part_put_scoped (at s k) h = kind_put_scoped k h

      pub parts_put_scoped : (ps : Parts) → are_scoped rs params ps ≡ true → are_scoped rs [] (all_substituted (argument_kind params args) ps) ≡ true
      parts_put_scoped no_parts h = refl
      parts_put_scoped (part_and p ps) h =
          let both = and_parts (is_scoped rs params p) (are_scoped rs params ps) h in
          ap₂ ◌&&◌ (part_put_scoped p both.0) (parts_put_scoped ps both.1)

  instances_scoped : (value : ConditionValue) (s : Span) (d : RuleData) (ps : Parts) → takes d.args ps ≡ true → are_scoped rs [] ps ≡ true →
      (xs : List AlternativeData) → ((a : AlternativeData) → In a xs → are_scoped rs d.args a.parts ≡ true) → AreScoped (instance_alternatives value s d ps xs)
  instances_scoped value s d ps t h [] f = tt
  instances_scoped value s d ps t h (a ∷ xs) f =
      by (is_true value d.args (read_all flat_reader ps) a.condition) (parts_put_scoped d.args ps t h a.parts (f a (inl refl)))
      (instances_scoped value s d ps t h xs (λ b i. f b (inr i)))
    where
      by : (b : Bool) → are_scoped rs [] (all_substituted (argument_kind d.args ps) a.parts) ≡ true → AreScoped (instance_alternatives value s d ps xs) →
          AreScoped (if b then instance_alternative s (argument_kind d.args ps) a ∷ instance_alternatives value s d ps xs else instance_alternatives value s d ps xs)
      by true e r = (e, r)
      by false e r = r

-- ---- the rules of a grammar

-- an alternative of a rule is at one of its indices
pub placed : (a : AlternativeData) (xs : List AlternativeData) → In a xs →
    In (Some (record { level = 0; side = every; alternative = a })) (without_levels (map Some xs))
placed a [] h = absurd h
placed a (x ∷ xs) (inl e) = inl (ap (λ b. Some (record { level = 0; side = every; alternative = b })) e)
placed a (x ∷ xs) (inr h) = inr (placed a xs h)

pub no_arguments : (args : List NonterminalString) → is_nil args ≡ true → args ≡ []
no_arguments [] h = refl
no_arguments (a ∷ args) h = absurd (cc h)

module _ (value : ConditionValue) (ds : List RuleData) (S : IsScoped (map flat_of ds)) where
  written_scoped : (d : RuleData) → In d ds → (a : AlternativeData) → In a d.alternatives → are_scoped (map flat_of ds) d.args a.parts ≡ true
  written_scoped d i a j = S.names (flat_of d) (record { level = 0; side = every; alternative = a }) (in_map flat_of d ds i) (placed a d.alternatives j)

  each_scoped : (xs : List AlternativeData) → ((a : AlternativeData) → In a xs → are_scoped (map flat_of ds) [] a.parts ≡ true) → AreScoped (map flat_of ds) xs
  each_scoped [] h = tt
  each_scoped (a ∷ xs) h = (h a (inl refl), each_scoped xs (λ b i. h b (inr i)))

  -- what the rules of the grammar reach
  pub start_made : (q : Part) → In q (flat_map met_in_rule (plain_in ds)) → IsMade (map flat_of ds) q
  start_made = rules_made (map flat_of ds) (plain_in ds) (λ d i.
      let l = plain_listed ds d i in
      each_scoped d.alternatives (λ a j.
      subst (λ (args : List NonterminalString). are_scoped (map flat_of ds) args a.parts ≡ true) (no_arguments d.args l.1) (written_scoped d l.0 a j)))

  -- the rule of a symbol has no arguments in it, and its names have a meaning
  pub made_rule_scoped : (p : Part) → IsMade (map flat_of ds) p → (r : RuleData) → In r (made_rules value (macros_in ds) p) → AreScoped (map flat_of ds) r.alternatives
  made_rule_scoped (at s (written.group ps)) h r i = only_scoped (map flat_of ds) (group_rule s ps) r (h.0, tt) i
  made_rule_scoped (at s (written.call n ps)) h r i =
      let both = and_parts (is_macro_for ps (rule_named (map flat_of ds) n)) (are_scoped (map flat_of ds) [] ps) h.0 in
      let c = called_of ds n ps both.0 in
      only_scoped (map flat_of ds) (instance_rule value s c.definition ps) r
      (instances_scoped (map flat_of ds) value s c.definition ps c.fitting both.1 c.definition.alternatives (written_scoped c.definition c.listed))
      (subst (λ (o : Option RuleData). In r (instance_of value s o ps)) c.named i)
  made_rule_scoped (at s (written.repeated Star p)) h r i = only_scoped (map flat_of ds) (star_rule s p) r (refl, (rw h.0 refl, tt)) i
  made_rule_scoped (at s (written.repeated Plus p)) h r i = only_scoped (map flat_of ds) (plus_rule s p) r (rw h.0 refl, (rw h.0 refl, tt)) i
  made_rule_scoped (at s (written.repeated Question p)) h r i = only_scoped (map flat_of ds) (question_rule s p) r (rw h.0 refl, (refl, tt)) i
  made_rule_scoped (at s (written.repeated (Times n) p)) h r i =
      only_scoped (map flat_of ds) (times_rule s n p) r (many_scoped (map flat_of ds) n p h.0, tt) i
  made_rule_scoped (at s written.lookahead) h r i = only_scoped (map flat_of ds) (location_rule s written.lookahead lookahead_code) r (refl, tt) i
  made_rule_scoped (at s written.lookbehind) h r i = only_scoped (map flat_of ds) (location_rule s written.lookbehind lookbehind_code) r (refl, tt) i
  made_rule_scoped (at s _) h r i = absurd i

  -- what the rule of a symbol reaches
  pub next_made : (p : Part) → IsMade (map flat_of ds) p → (q : Part) → In q (met_by_made value (macros_in ds) p) → IsMade (map flat_of ds) q
  next_made p h = rules_made (map flat_of ds) (made_rules value (macros_in ds) p) (made_rule_scoped p h)
