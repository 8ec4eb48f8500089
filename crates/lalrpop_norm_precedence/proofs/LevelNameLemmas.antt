-- Each name that means something in a grammar means the same in the grammar with levels, where no name is defined twice there.
use Rattle.std.proofs.Common.{◌≡◌, inl, inr, ℕ, length, List, [], ◌∷◌, ◌++◌, Option, Some, None, Bool, true, false, map, append_assoc, refl, sym, ap, ap₂, ◌∙◌, subst}
use Rattle.std.specs.Prelude.{flat_map, is_some, bytes_eq, if◌then◌else◌}
use Rattle.std.proofs.lemmas.Slice.Eq.{bytes_eq-Decides}
use Rattle.lalrpop_norm_tree_names.specs.declared.names.NonterminalString.{NonterminalString}
use Rattle.lalrpop_norm_tree.specs.Items.{AlternativeData, RuleData, ItemData, GrammarData, match_item, extern_item, intern_item, rule_item, use_item}
use Rattle.lalrpop_norm_faults.specs.declared.kind.FaultKind.TheVariants.{NameDeclaredTwice}
use Rattle.lalrpop_norm_faults.specs.Faults.{Fault, fault_if}
use Rattle.lalrpop_norm_theory.specs.Rounds.{In}
use Rattle.lalrpop_norm_theory.proofs.RoundsLemmas.{in_left, in_right, in_cases, in_flat, of_flat}
use Rattle.lalrpop_norm_model.specs.Enabled.{all_places}
use Rattle.lalrpop_norm_model.specs.Scopes.{Definition, a_rule, Global, globals, definition_of, rule_definition, rule_globals, conversion_globals, match_globals, Sense, an_argument, a_global, global_sense, is_argument, sense_of}
use Rattle.lalrpop_norm_model.specs.Levels.{has_levels, leveled_at, with_levels, levels_of, highest_level}
use Rattle.lalrpop_norm_model.specs.Grammars.{is_nil}
use Rattle.lalrpop_norm_model.specs.LevelRules.{level_of_rule, level_rule, level_rules, level_items, leveled_grammar}
use Rattle.lalrpop_norm_model.proofs.LevelLemmas.{in_map, place_has_level, level_had, had_level, highest_is_greatest}
use Rattle.lalrpop_norm_model.proofs.WrittenLemmas.{in_numbered}
use Rattle.lalrpop_norm_model.proofs.LevelRuleLemmas.{name_highest}
use Rattle.lalrpop_norm_resolve.specs.NameFaults.{repeated_faults}
use Rattle.lalrpop_norm_faults.proofs.FaultLemmas.{right_none}

-- ---- definitions in a list

-- some definition of the list is this one
abbrev pub Has : List Global → List ℕ → Definition → Type 0
Has ds n d = (x : Global) × In x ds × (x.name ≡ n) × (x.definition ≡ d)

defined_by : (x : Global) (ds : List Global) (n : List ℕ) (d : Definition) (b : Bool) → bytes_eq x.name n ≡ b →
    (definition_of ds n ≡ Some d → Has ds n d) → (if b then Some x.definition else definition_of ds n) ≡ Some d → Has (x ∷ ds) n d
defined_by x ds n d true e f h = (x, inl refl, (bytes_eq-Decides x.name n).0 e, cc h)
defined_by x ds n d false e f h = let (y, i, m, s) = f h in (y, inr i, m, s)

defined_has : (ds : List Global) (n : List ℕ) (d : Definition) → definition_of ds n ≡ Some d → Has ds n d
defined_has [] n d h = absurd (cc h)
defined_has (x ∷ ds) n d h = defined_by x ds n d (bytes_eq x.name n) refl (defined_has ds n d) h

first_defined : (before ds : List Global) (x : Global) → definition_of before x.name ≡ None → definition_of (before ++ x ∷ ds) x.name ≡ Some x.definition
first_defined [] ds x h = rw ((bytes_eq-Decides x.name x.name).1 refl) refl
first_defined (y ∷ before) ds x h = by (bytes_eq y.name x.name) (first_defined before ds x) h
  where
    by : (b : Bool) → (definition_of before x.name ≡ None → definition_of (before ++ x ∷ ds) x.name ≡ Some x.definition) →
        (if b then Some y.definition else definition_of before x.name) ≡ None →
        (if b then Some y.definition else definition_of (before ++ x ∷ ds) x.name) ≡ Some x.definition
    by true f e = absurd (cc e)
    by false f e = f e

new_name : (o : Option Definition) (f : Fault) (fs : List Fault) → fault_if (is_some o) f ++ fs ≡ [] → o ≡ None
new_name None f fs h = refl
new_name (Some d) f fs h = absurd (cc h)

-- where no name is defined twice, each definition is the one of its name
one_defined : (before ds : List Global) (x : Global) → repeated_faults before ds ≡ [] → In x ds → definition_of (before ++ ds) x.name ≡ Some x.definition
one_defined before [] x h i = absurd i
one_defined before (y ∷ ds) x h (inl e) =
    rw e (first_defined before ds y (new_name (definition_of before y.name) (NameDeclaredTwice, y.span) (repeated_faults (before ++ y ∷ []) ds) h))
one_defined before (y ∷ ds) x h (inr i) =
    let rest = right_none (fault_if (is_some (definition_of before y.name)) (NameDeclaredTwice, y.span)) (repeated_faults (before ++ y ∷ []) ds) h in
    rw (← append_assoc before (y ∷ []) ds) (one_defined (before ++ y ∷ []) ds x rest i)

has_defined : (ds : List Global) (n : List ℕ) (d : Definition) → repeated_faults [] ds ≡ [] → Has ds n d → definition_of ds n ≡ Some d
has_defined ds n d h (x, i, m, s) = rw (← m, ← s) (one_defined [] ds x h i)

-- ---- the definitions of the grammar with levels

module _ (f : ItemData → List Global) (none : (r : RuleData) → f (rule_item r) ≡ []) where
  no_rules : (rs : List RuleData) (rest : List ItemData) → flat_map f (map rule_item rs ++ rest) ≡ flat_map f rest
  no_rules [] rest = refl
  no_rules (r ∷ rs) rest = ap (λ xs. xs ++ flat_map f (map rule_item rs ++ rest)) (none r) ∙ no_rules rs rest

  pub other_globals : (is : List ItemData) → flat_map f (flat_map level_items is) ≡ flat_map f is
  other_globals [] = refl
  other_globals (rule_item r ∷ is) =
      no_rules (level_rules r) (flat_map level_items is) ∙ other_globals is ∙ ap (λ xs. xs ++ flat_map f is) (sym (none r))
  other_globals (match_item m ∷ is) = ap (λ xs. f (match_item m) ++ xs) (other_globals is)
  other_globals (extern_item t ∷ is) = ap (λ xs. f (extern_item t) ++ xs) (other_globals is)
  other_globals (intern_item t ∷ is) = ap (λ xs. f (intern_item t) ++ xs) (other_globals is)
  other_globals (use_item u ∷ is) = ap (λ xs. f (use_item u) ++ xs) (other_globals is)

some_place : (xs : List AlternativeData) → has_levels (map Some xs) ≡ true → (a : AlternativeData) × In a xs
some_place [] h = absurd (cc h)
some_place (a ∷ xs) h = (a, inl refl)

-- a rule with levels has one
pub some_level : (r : RuleData) → has_levels (all_places r) ≡ true → (l : ℕ) × In l (levels_of (with_levels (all_places r)))
some_level r h =
    let (a, i) = some_place r.alternatives h in
    let (k, j) = in_numbered (leveled_at (all_places r)) 0 (all_places r) (Some a) (in_map Some a r.alternatives i) in
    (_, place_has_level (with_levels (all_places r)) _ j)

-- a rule that defines the same name
abbrev Kept : RuleData → Type 0
Kept r = (e : RuleData) × In e (level_rules r) × (e.name.0 ≡ r.name.0) × (e.args ≡ r.args)

pub has_level_rules : (r : RuleData) → has_levels (all_places r) ≡ true →
    level_rules r ≡ map (level_rule r (with_levels (all_places r))) (levels_of (with_levels (all_places r)))
has_level_rules r e = rw e refl

pub no_level_rules : (r : RuleData) → has_levels (all_places r) ≡ false → level_rules r ≡ r ∷ []
no_level_rules r e = rw e refl

name_kept : (r : RuleData) (b : Bool) → has_levels (all_places r) ≡ b → Kept r
name_kept r true e =
    let ps = with_levels (all_places r) in
    let (l, i) = some_level r e in
    let top = (highest_is_greatest ps l (level_had ps l i)).0 in (
      level_rule r ps (highest_level ps),
      subst (λ (rs : List RuleData). In (level_rule r ps (highest_level ps)) rs) (sym (has_level_rules r e))
          (in_map (level_rule r ps) (highest_level ps) (levels_of ps) (had_level ps (highest_level ps) top)),
      name_highest r.name.0 (highest_level ps),
      refl,
    )
name_kept r false e = (r, subst (λ (rs : List RuleData). In r rs) (sym (no_level_rules r e)) (inl refl), refl, refl)

plain_definition : (args : List NonterminalString) → is_nil args ≡ true → rule_definition (length args) ≡ a_rule
plain_definition [] h = refl
plain_definition (a ∷ args) h = absurd (cc h)

module _ (g : GrammarData) (once : repeated_faults [] (globals (leveled_grammar g)) ≡ []) where
  abbrev pub before_levels : List Global
  before_levels = globals g

  abbrev pub with_level_names : List Global
  with_level_names = globals (leveled_grammar g)

  abbrev rule_global : RuleData → Global
  rule_global r = record { name = r.name.0; span = r.span; definition = rule_definition (length r.args) }

  level_global : (r e : RuleData) → In (rule_item r) g.items → In e (level_rules r) → In (rule_global e) (flat_map rule_globals (leveled_grammar g).items)
  level_global r e i j =
      let k = in_flat level_items (rule_item e) (rule_item r) g.items i (in_map rule_item e (level_rules r) j) in
      in_flat rule_globals (rule_global e) (rule_item e) (flat_map level_items g.items) k (inl refl)

  level_has : (r e : RuleData) → In (rule_item r) g.items → In e (level_rules r) → Has with_level_names e.name.0 (rule_definition (length e.args))
  level_has r e i j = (rule_global e, in_left (rule_global e) (flat_map rule_globals (leveled_grammar g).items) _ (level_global r e i j), refl, refl)

  rule_has : (n : List ℕ) (d : Definition) (x : Global) (i : ItemData) → In i g.items → In x (rule_globals i) → x.name ≡ n → x.definition ≡ d → Has with_level_names n d
  rule_has n d x (rule_item r) i (inl e) m s =
      let (k, j, name, args) = name_kept r (has_levels (all_places r)) refl in
      let same : k.name.0 ≡ n = name ∙ ap (λ (y : Global). y.name) (sym e) ∙ m in
      let is : rule_definition (length k.args) ≡ d = ap (λ xs. rule_definition (length xs)) args ∙ ap (λ (y : Global). y.definition) (sym e) ∙ s in
      subst (λ c. Has with_level_names c d) same (subst (λ c. Has with_level_names k.name.0 c) is (level_has r k i j))
  rule_has n d x (rule_item r) i (inr h) m s = absurd h
  rule_has n d x (match_item t) i h m s = absurd h
  rule_has n d x (extern_item t) i h m s = absurd h
  rule_has n d x (intern_item t) i h m s = absurd h
  rule_has n d x (use_item t) i h m s = absurd h

  rest_same : flat_map conversion_globals g.items ++ flat_map match_globals g.items
      ≡ flat_map conversion_globals (leveled_grammar g).items ++ flat_map match_globals (leveled_grammar g).items
  rest_same =
      sym (ap₂ ◌++◌ (other_globals conversion_globals (λ r. refl) g.items) (other_globals match_globals (λ r. refl) g.items))

  kept_has : (n : List ℕ) (d : Definition) → Has before_levels n d → Has with_level_names n d
  kept_has n d (x, i, m, s) =
      elim (in_cases x (flat_map rule_globals g.items) _ i) [
        | inl j ↦ (let (y, k, h) = of_flat rule_globals x g.items j in rule_has n d x y k h m s)
        | inr j ↦ (x, in_right x (flat_map rule_globals (leveled_grammar g).items) _ (subst (λ (ds : List Global). In x ds) rest_same j), m, s)
      ]

  kept : (n : List ℕ) (d : Definition) → definition_of before_levels n ≡ Some d → definition_of with_level_names n ≡ Some d
  kept n d h = has_defined with_level_names n d once (kept_has n d (defined_has before_levels n d h))

  -- each level of a rule is a rule
  pub level_defined : (r : RuleData) → In (rule_item r) g.items → has_levels (all_places r) ≡ true → is_nil r.args ≡ true → (l : ℕ) →
      In l (levels_of (with_levels (all_places r))) → definition_of with_level_names (level_of_rule r (with_levels (all_places r)) l) ≡ Some a_rule
  level_defined r i e plain l j =
      let ps = with_levels (all_places r) in
      let there = subst (λ (rs : List RuleData). In (level_rule r ps l) rs) (sym (has_level_rules r e)) (in_map (level_rule r ps) l (levels_of ps) j) in
      has_defined with_level_names (level_of_rule r ps l) (rule_definition (length r.args)) once (level_has r (level_rule r ps l) i there)
      ∙ ap Some (plain_definition r.args plain)

  pub level_sense : (r : RuleData) → In (rule_item r) g.items → has_levels (all_places r) ≡ true → is_nil r.args ≡ true → (l : ℕ) →
      In l (levels_of (with_levels (all_places r))) → sense_of with_level_names r.args (level_of_rule r (with_levels (all_places r)) l) ≡ Some (a_global a_rule)
  level_sense r i e plain l j =
      ap (λ b. if b then Some an_argument else global_sense (definition_of with_level_names (level_of_rule r (with_levels (all_places r)) l))) (no_argument r.args plain _)
      ∙ ap global_sense (level_defined r i e plain l j)
    where
      no_argument : (args : List NonterminalString) → is_nil args ≡ true → (n : List ℕ) → is_argument args n ≡ false
      no_argument [] h n = refl
      no_argument (a ∷ args) h n = absurd (cc h)

  -- a name keeps its meaning
  pub sense_kept : (args : List NonterminalString) (n : List ℕ) (x : Sense) → sense_of before_levels args n ≡ Some x → sense_of with_level_names args n ≡ Some x
  sense_kept args n x h = by (is_argument args n) (definition_of before_levels n) refl h
    where
      by : (b : Bool) (o : Option Definition) → definition_of before_levels n ≡ o → (if b then Some an_argument else global_sense o) ≡ Some x →
          (if b then Some an_argument else global_sense (definition_of with_level_names n)) ≡ Some x
      by true o e s = s
      by false None e s = absurd (cc s)
      by false (Some d) e s = ap global_sense (kept n d e) ∙ s
