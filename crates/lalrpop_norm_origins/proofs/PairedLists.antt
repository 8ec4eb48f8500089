-- Rules and lists side by side.
use Rattle.std.proofs.Common.{◌≡◌, inl, inr, List, [], ◌∷◌, ◌++◌, length, map, Bool, true, false, refl, sym, ap, ap₂, ◌∙◌, arith}
use Rattle.std.specs.Prelude.{flat_map, filter, not, ◌&&◌, Some, option_map, bytes_eq, if◌then◌else◌}
use Rattle.std.proofs.lemmas.List.{map-append}
use Rattle.lalrpop_norm_tree.specs.Items.{RuleData, ItemData, GrammarData, rule_item, match_item, extern_item, intern_item, use_item}
use Rattle.lalrpop_norm_theory.specs.LoweredTrees.{Origin}
use Rattle.lalrpop_norm_theory.specs.Symbols.{Name}
use Rattle.lalrpop_norm_theory.specs.Rounds.{In}
use Rattle.lalrpop_norm_theory.proofs.ListLemmas.{flat_append}
use Rattle.lalrpop_norm_model.specs.Features.{Features, is_active}
use Rattle.lalrpop_norm_model.specs.Enabled.{enabled_places, enabled_rule, enabled_item, enabled_grammar}
use Rattle.lalrpop_norm_model.specs.Scopes.{Global, globals, resolved_rule, resolved_item}
use Rattle.lalrpop_norm_model.specs.WrittenRules.{WrittenRule, written_rule_with_levels, rules_through, written_rules}
use Rattle.lalrpop_norm_model.specs.Grammars.{is_nil}
use Rattle.lalrpop_norm_model.specs.MadeRules.{macro_named}
use Rattle.lalrpop_norm_model.specs.LevelRules.{level_rules, leveled_grammar}
use Rattle.lalrpop_norm_model.specs.PlainRules.{rule_of_item, all_rules}
use Rattle.lalrpop_norm_model.specs.Renumbered.{prepared_grammar}
use Rattle.lalrpop_norm_model.proofs.GrammarLemmas.{all_level_rules}
use Rattle.lalrpop_norm_model.proofs.MadeReadLemmas.{macros_in}
use Rattle.lalrpop_norm_origins.specs.EnabledOrigins.{enabled_rule_origins, enabled_item_origins, enabled_origins}
use Rattle.lalrpop_norm_origins.specs.LeveledOrigins.{rule_level_lists, leveled_lists}
use Rattle.lalrpop_norm_origins.specs.MadeOrigins.{TracedRule, traced_rules, plain_list, is_macro_of, traced_macro}

-- ---- two lists side by side

abbrev pub paired : List RuleData → List (List Origin) → List TracedRule
paired [] oss = []
paired (r ∷ rs) [] = []
paired (r ∷ rs) (os ∷ oss) = (r, os) ∷ paired rs oss

no_rules : (items : List ItemData) → traced_rules items [] ≡ []
no_rules [] = refl
no_rules (rule_item r ∷ items) = no_rules items
no_rules (match_item m ∷ items) = no_rules items
no_rules (extern_item t ∷ items) = no_rules items
no_rules (intern_item t ∷ items) = no_rules items
no_rules (use_item u ∷ items) = no_rules items

pub traced_paired : (items : List ItemData) (oss : List (List Origin)) → traced_rules items oss ≡ paired (flat_map rule_of_item items) oss
traced_paired [] oss = refl
traced_paired (rule_item r ∷ items) [] = no_rules items
traced_paired (rule_item r ∷ items) (os ∷ oss) = ap (λ (ts : List TracedRule). (r, os) ∷ ts) (traced_paired items oss)
traced_paired (match_item m ∷ items) oss = traced_paired items oss
traced_paired (extern_item t ∷ items) oss = traced_paired items oss
traced_paired (intern_item t ∷ items) oss = traced_paired items oss
traced_paired (use_item u ∷ items) oss = traced_paired items oss

no_levels : (items : List ItemData) → leveled_lists items [] ≡ []
no_levels [] = refl
no_levels (rule_item r ∷ items) = no_levels items
no_levels (match_item m ∷ items) = no_levels items
no_levels (extern_item t ∷ items) = no_levels items
no_levels (intern_item t ∷ items) = no_levels items
no_levels (use_item u ∷ items) = no_levels items

abbrev levels_of_pair : TracedRule → List (List Origin)
levels_of_pair t = rule_level_lists t.0 t.1

leveled_paired : (items : List ItemData) (oss : List (List Origin)) →
    leveled_lists items oss ≡ flat_map levels_of_pair (paired (flat_map rule_of_item items) oss)
leveled_paired [] oss = refl
leveled_paired (rule_item r ∷ items) [] = no_levels items
leveled_paired (rule_item r ∷ items) (os ∷ oss) = ap (λ (pss : List (List Origin)). rule_level_lists r os ++ pss) (leveled_paired items oss)
leveled_paired (match_item m ∷ items) oss = leveled_paired items oss
leveled_paired (extern_item t ∷ items) oss = leveled_paired items oss
leveled_paired (intern_item t ∷ items) oss = leveled_paired items oss
leveled_paired (use_item u ∷ items) oss = leveled_paired items oss

paired_map : {A : Type 0} (f : A → RuleData) (h : A → List Origin) (xs : List A) → paired (map f xs) (map h xs) ≡ map (λ x. (f x, h x)) xs
paired_map f h [] = refl
paired_map f h (x ∷ xs) = ap (λ (ts : List TracedRule). (f x, h x) ∷ ts) (paired_map f h xs)

-- what is paired of two maps is paired at one index
pub in_paired : {A : Type 0} (f : A → RuleData) (h : A → List Origin) (xs : List A) (t : TracedRule) → In t (paired (map f xs) (map h xs)) →
    (x : A) × In x xs × (t ≡ (f x, h x))
in_paired f h [] t i = absurd i
in_paired f h (x ∷ xs) t (inl e) = (x, inl refl, e)
in_paired f h (x ∷ xs) t (inr i) = let (y, j, e) = in_paired f h xs t i in (y, inr j, e)

paired_both : (rs ss : List RuleData) (oss pss : List (List Origin)) → length rs ≡ length oss → paired (rs ++ ss) (oss ++ pss) ≡ paired rs oss ++ paired ss pss
paired_both [] ss [] pss e = refl
paired_both [] ss (os ∷ oss) pss e = absurd (omega arith)
paired_both (r ∷ rs) ss [] pss e = absurd (omega arith)
paired_both (r ∷ rs) ss (os ∷ oss) pss e = ap (λ (ts : List TracedRule). (r, os) ∷ ts) (paired_both rs ss oss pss (omega arith))

pub paired_flat : {A : Type 0} (f : A → List RuleData) (h : A → List (List Origin)) → ((x : A) → length (f x) ≡ length (h x)) → (xs : List A) →
    paired (flat_map f xs) (flat_map h xs) ≡ flat_map (λ x. paired (f x) (h x)) xs
paired_flat f h long [] = refl
paired_flat f h long (x ∷ xs) =
    paired_both (f x) (flat_map f xs) (h x) (flat_map h xs) (long x)
    ∙ ap (λ (ts : List TracedRule). paired (f x) (h x) ++ ts) (paired_flat f h long xs)

abbrev pub rule_of_pair : TracedRule → RuleData
rule_of_pair t = t.0

rules_paired : (rs : List RuleData) (oss : List (List Origin)) → length rs ≡ length oss → map rule_of_pair (paired rs oss) ≡ rs
rules_paired [] oss e = refl
rules_paired (r ∷ rs) [] e = absurd (omega arith)
rules_paired (r ∷ rs) (os ∷ oss) e = ap (λ ds. r ∷ ds) (rules_paired rs oss (omega arith))

pub rules_flat : {A : Type 0} (f : A → List RuleData) (h : A → List (List Origin)) → ((x : A) → length (f x) ≡ length (h x)) → (xs : List A) →
    map rule_of_pair (flat_map (λ x. paired (f x) (h x)) xs) ≡ flat_map f xs
rules_flat f h long [] = refl
rules_flat f h long (x ∷ xs) =
    map-append rule_of_pair (paired (f x) (h x)) (flat_map (λ y. paired (f y) (h y)) xs)
    ∙ ap₂ (λ (rs ss : List RuleData). rs ++ ss) (rules_paired (f x) (h x) (long x)) (rules_flat f h long xs)

-- ---- macros by name

-- a macro that is found with its list is the macro that is found
pub macro_found : (ts : List TracedRule) (n : Name) → option_map rule_of_pair (traced_macro ts n) ≡ macro_named (macros_in (map rule_of_pair ts)) n
macro_found [] n = refl
macro_found (t ∷ ts) n = by (is_nil t.0.args) (macro_found ts n)
  where
    here : (y : Bool) → option_map rule_of_pair (traced_macro ts n) ≡ macro_named (macros_in (map rule_of_pair ts)) n →
        option_map rule_of_pair (if y then Some t else traced_macro ts n) ≡ (if y then Some t.0 else macro_named (macros_in (map rule_of_pair ts)) n)
    here true h = refl
    here false h = h

    by : (x : Bool) → option_map rule_of_pair (traced_macro ts n) ≡ macro_named (macros_in (map rule_of_pair ts)) n →
        option_map rule_of_pair (if not x && bytes_eq t.0.name.0 n then Some t else traced_macro ts n)
        ≡ macro_named (if not x then t.0 ∷ macros_in (map rule_of_pair ts) else macros_in (map rule_of_pair ts)) n
    by true h = h
    by false h = here (bytes_eq t.0.name.0 n) h

pub macro_listed : (ts : List TracedRule) (n : Name) (t : TracedRule) → traced_macro ts n ≡ Some t → In t ts
macro_listed [] n t e = absurd (cc e)
macro_listed (s ∷ ts) n t e = by (is_macro_of n s.0) (macro_listed ts n t) e
  where
    by : (b : Bool) → (traced_macro ts n ≡ Some t → In t ts) → (if b then Some s else traced_macro ts n) ≡ Some t → In t (s ∷ ts)
    by true f h = let is : s ≡ t = cc h in inl (sym is)
    by false f h = inr (f h)

-- ---- lists in general

pub flat_mapped : {A B C : Type 0} (f : B → List C) (h : A → B) (xs : List A) → flat_map f (map h xs) ≡ flat_map (λ x. f (h x)) xs
flat_mapped f h [] = refl
flat_mapped f h (x ∷ xs) = ap (λ ys. f (h x) ++ ys) (flat_mapped f h xs)

pub flat_twice : {A B C : Type 0} (f : B → List C) (h : A → List B) (xs : List A) → flat_map f (flat_map h xs) ≡ flat_map (λ x. flat_map f (h x)) xs
flat_twice f h [] = refl
flat_twice f h (x ∷ xs) = flat_append f (h x) (flat_map h xs) ∙ ap (λ ys. flat_map f (h x) ++ ys) (flat_twice f h xs)

-- the lists of rules without arguments, and of macros
pub all_plain : (rs : List RuleData) (oss : List (List Origin)) → ((d : RuleData) → In d rs → is_nil d.args ≡ true) → length rs ≡ length oss →
    flat_map plain_list (paired rs oss) ≡ oss
all_plain [] [] h e = refl
all_plain [] (os ∷ oss) h e = absurd (omega arith)
all_plain (r ∷ rs) [] h e = absurd (omega arith)
all_plain (r ∷ rs) (os ∷ oss) h e =
    ap (λ (b : Bool). (if b then os ∷ [] else []) ++ flat_map plain_list (paired rs oss)) (h r (inl refl))
    ∙ ap (λ (pss : List (List Origin)). os ∷ pss) (all_plain rs oss (λ d i. h d (inr i)) (omega arith))

pub none_plain : (rs : List RuleData) (oss : List (List Origin)) → ((d : RuleData) → In d rs → is_nil d.args ≡ false) →
    flat_map plain_list (paired rs oss) ≡ []
none_plain [] oss h = refl
none_plain (r ∷ rs) [] h = refl
none_plain (r ∷ rs) (os ∷ oss) h =
    ap (λ (b : Bool). (if b then os ∷ [] else []) ++ flat_map plain_list (paired rs oss)) (h r (inl refl))
    ∙ none_plain rs oss (λ d i. h d (inr i))

-- ---- the active rules of a grammar, and what becomes of each

module _ (fs : Features) where
  abbrev active_in : List ItemData → List RuleData
  active_in items = filter (λ r. is_active fs r.attributes) (flat_map rule_of_item items)

  enabled_rules_are : (items : List ItemData) → flat_map rule_of_item (flat_map (enabled_item fs) items) ≡ map (enabled_rule fs) (active_in items)
  enabled_rules_are [] = refl
  enabled_rules_are (rule_item r ∷ items) = by (is_active fs r.attributes) (enabled_rules_are items)
    where
      by : (b : Bool) → flat_map rule_of_item (flat_map (enabled_item fs) items) ≡ map (enabled_rule fs) (active_in items) →
          flat_map rule_of_item ((if b then rule_item (enabled_rule fs r) ∷ [] else []) ++ flat_map (enabled_item fs) items)
          ≡ map (enabled_rule fs) (if b then r ∷ active_in items else active_in items)
      by true h = ap (λ rs. enabled_rule fs r ∷ rs) h
      by false h = h
  enabled_rules_are (match_item m ∷ items) = enabled_rules_are items
  enabled_rules_are (extern_item t ∷ items) = enabled_rules_are items
  enabled_rules_are (intern_item t ∷ items) = enabled_rules_are items
  enabled_rules_are (use_item u ∷ items) = enabled_rules_are items

  enabled_lists_are : (items : List ItemData) → flat_map (enabled_item_origins fs) items ≡ map (enabled_rule_origins fs) (active_in items)
  enabled_lists_are [] = refl
  enabled_lists_are (rule_item r ∷ items) = by (is_active fs r.attributes) (enabled_lists_are items)
    where
      by : (b : Bool) → flat_map (enabled_item_origins fs) items ≡ map (enabled_rule_origins fs) (active_in items) →
          (if b then enabled_rule_origins fs r ∷ [] else []) ++ flat_map (enabled_item_origins fs) items
          ≡ map (enabled_rule_origins fs) (if b then r ∷ active_in items else active_in items)
      by true h = ap (λ oss. enabled_rule_origins fs r ∷ oss) h
      by false h = h
  enabled_lists_are (match_item m ∷ items) = enabled_lists_are items
  enabled_lists_are (extern_item t ∷ items) = enabled_lists_are items
  enabled_lists_are (intern_item t ∷ items) = enabled_lists_are items
  enabled_lists_are (use_item u ∷ items) = enabled_lists_are items

  written_are : (f : RuleData → WrittenRule) (items : List ItemData) →
      rules_through (λ r. if is_active fs r.attributes then f r ∷ [] else []) items ≡ map f (active_in items)
  written_are f [] = refl
  written_are f (rule_item r ∷ items) = by (is_active fs r.attributes) (written_are f items)
    where
      by : (b : Bool) → rules_through (λ d. if is_active fs d.attributes then f d ∷ [] else []) items ≡ map f (active_in items) →
          (if b then f r ∷ [] else []) ++ rules_through (λ d. if is_active fs d.attributes then f d ∷ [] else []) items
          ≡ map f (if b then r ∷ active_in items else active_in items)
      by true h = ap (λ ws. f r ∷ ws) h
      by false h = h
  written_are f (match_item m ∷ items) = written_are f items
  written_are f (extern_item t ∷ items) = written_are f items
  written_are f (intern_item t ∷ items) = written_are f items
  written_are f (use_item u ∷ items) = written_are f items

resolved_rules_are : (ds : List Global) (items : List ItemData) → flat_map rule_of_item (map (resolved_item ds) items) ≡ map (resolved_rule ds) (flat_map rule_of_item items)
resolved_rules_are ds [] = refl
resolved_rules_are ds (rule_item r ∷ items) = ap (λ rs. resolved_rule ds r ∷ rs) (resolved_rules_are ds items)
resolved_rules_are ds (match_item m ∷ items) = resolved_rules_are ds items
resolved_rules_are ds (extern_item t ∷ items) = resolved_rules_are ds items
resolved_rules_are ds (intern_item t ∷ items) = resolved_rules_are ds items
resolved_rules_are ds (use_item u ∷ items) = resolved_rules_are ds items

module _ (fs : Features) (g : GrammarData) where
  abbrev pub ds : List Global
  ds = globals (enabled_grammar fs g)

  -- the active rules as they are written
  abbrev pub active : List RuleData
  active = active_in fs g.items

  -- a rule as the pass on levels gets it, its lists of levels, and the rule as it is read
  abbrev pub prepared : RuleData → RuleData
  prepared r = resolved_rule (globals (enabled_grammar fs g)) (enabled_rule fs r)

  abbrev pub lists_of_rule : RuleData → List (List Origin)
  lists_of_rule r = rule_level_lists (enabled_rule fs r) (enabled_rule_origins fs r)

  abbrev pub written_of : RuleData → WrittenRule
  written_of r = written_rule_with_levels (globals (enabled_grammar fs g)) r (enabled_places fs r)

  pub written_active : written_rules fs g ≡ map written_of active
  written_active = written_are fs written_of g.items

  pub prepared_active : all_rules (prepared_grammar fs g) ≡ map prepared active
  prepared_active =
      resolved_rules_are ds (enabled_grammar fs g).items
      ∙ ap (map (resolved_rule ds)) (enabled_rules_are fs g.items)
      ∙ twice active
    where
      twice : (rs : List RuleData) → map (resolved_rule ds) (map (enabled_rule fs) rs) ≡ map prepared rs
      twice [] = refl
      twice (r ∷ rs) = ap (λ es. prepared r ∷ es) (twice rs)

  pub leveled_active : all_rules (leveled_grammar (prepared_grammar fs g)) ≡ flat_map (λ r. level_rules (prepared r)) active
  leveled_active =
      all_level_rules (prepared_grammar fs g) ∙ ap (flat_map level_rules) prepared_active ∙ flat_mapped level_rules prepared active

  pub lists_active : leveled_lists (enabled_grammar fs g).items (enabled_origins fs g) ≡ flat_map lists_of_rule active
  lists_active =
      leveled_paired (enabled_grammar fs g).items (enabled_origins fs g)
      ∙ ap₂ (λ (rs : List RuleData) (oss : List (List Origin)). flat_map levels_of_pair (paired rs oss)) (enabled_rules_are fs g.items) (enabled_lists_are fs g.items)
      ∙ ap (flat_map levels_of_pair) (paired_map (enabled_rule fs) (enabled_rule_origins fs) active)
      ∙ flat_mapped levels_of_pair (λ r. (enabled_rule fs r, enabled_rule_origins fs r)) active
