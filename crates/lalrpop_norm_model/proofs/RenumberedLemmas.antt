-- Disabled alternatives only renumber: the rules that the pass on levels gets are the written ones without their holes.
use Rattle.std.proofs.Common.{◌≡◌, ℕ, zero, suc, ◌<◌, List, [], ◌∷◌, ◌++◌, map, length, Option, Some, None, Bool, true, false, not, ◌||◌, ◌&&◌, refl, sym, ap, ap₂, ◌∙◌, subst, arith}
use Rattle.std.specs.Prelude.{flat_map, filter, take, option_map, unwrap_or, slice_get, bytes_eq, nat_le, nat_eq, if◌then◌else◌}
use Rattle.std.proofs.Math.Path.{fun_ext}
use Rattle.lalrpop_norm_tree.specs.Items.{AlternativeData, RuleData, ItemData, match_item, extern_item, intern_item, rule_item, use_item}
use Rattle.lalrpop_norm_theory.specs.Symbols.{Name, ClosedSymbol, ClosedSymbols, reference}
use Rattle.lalrpop_norm_model.specs.Features.{Features, is_active}
use Rattle.lalrpop_norm_model.specs.Enabled.{PlacedAlternatives, if_active, present, enabled_places, all_places, enabled_rule, enabled_item, enabled_grammar}
use Rattle.lalrpop_norm_model.specs.Scopes.{Global, Sense, globals, sense_of, resolved_alternative, resolved_rule, resolved_item}
use Rattle.lalrpop_norm_model.specs.Levels.{Leveled, has_level_attribute, has_levels, leveled_at, map_numbered, with_levels, levels_of, rising, greatest, below}
use Rattle.lalrpop_norm_model.specs.WrittenRules.{WrittenRule, written_rule_with_levels, rules_through, rule_named, written_rules}
use Rattle.lalrpop_norm_model.specs.Occurrences.{own_bound}
use Rattle.lalrpop_norm_model.specs.Reading.{Reader, read_all}
use Rattle.lalrpop_norm_model.specs.Grammars.{ConditionValue, has_arguments, level_within, is_within, is_own_level, bound_of, rule_reader, rule_parts, place_count, instance_count, previous_bound, depth_of, bound_argument, macro_reader, instance_parts, meaning, references, rule_roots, roots}
use Rattle.lalrpop_norm_model.specs.Renumbered.{closed_up, rank_in, rank_of, rank_by, AreRanked, IsRenumbered}
use Rattle.lalrpop_norm_model.specs.Laws.{DisabledAreLeftOut, RanksCountEnabled, DisabledOnlyRenumber}
use Rattle.lalrpop_norm_model.proofs.MeaningLemmas.{passing_of, instance_of}
use Rattle.lalrpop_norm_model.proofs.ResolvedLemmas.{parts_once, same_globals}
use Rattle.lalrpop_norm_model.proofs.HandedLemmas.{disabled_are_no_matter}

-- ---- what is left of a rule

module _ (sense : List ℕ → Option Sense) where
  resolved_there : (ps : PlacedAlternatives) →
      map (option_map (resolved_alternative sense)) (map Some (map (resolved_alternative sense) (present ps)))
      ≡ map Some (present (map (option_map (resolved_alternative sense)) ps))
  resolved_there [] = refl
  resolved_there (None ∷ ps) = resolved_there ps
  resolved_there (Some a ∷ ps) = ap₂ (λ parts xs. Some (record a { parts = parts }) ∷ xs) (parts_once sense a.parts) (resolved_there ps)

  levels_there : (ps : PlacedAlternatives) → has_levels (map Some (map (resolved_alternative sense) (present ps))) ≡ has_levels ps
  levels_there [] = refl
  levels_there (None ∷ ps) = levels_there ps
  levels_there (Some a ∷ ps) = ap (λ b. has_level_attribute a || b) (levels_there ps)

-- where each alternative is there, each has its level
all_leveled : (qs : PlacedAlternatives) (k : ℕ) (xs : List AlternativeData) →
    map_numbered (leveled_at qs) k (map Some xs) ≡ map Some (present (map_numbered (leveled_at qs) k (map Some xs)))
all_leveled qs k [] = refl
all_leveled qs k (x ∷ xs) = ap (λ ys. leveled_at qs k (Some x) ∷ ys) (all_leveled qs (suc k) xs)

module _ (fs : Features) (ds : List Global) where
  rule_closed : (r : RuleData) →
      written_rule_with_levels ds (resolved_rule ds (enabled_rule fs r)) (all_places (resolved_rule ds (enabled_rule fs r))) ≡ closed_up (written_rule_with_levels ds r (enabled_places fs r))
  rule_closed r =
      let sense = sense_of ds r.args in
      let ps = enabled_places fs r in
      let qs = map (option_map (resolved_alternative sense)) ps in
      ap₂ by (levels_there sense ps)
      (ap with_levels (resolved_there sense ps) ∙ all_leveled (map Some (present qs)) 0 (present qs) ∙ ap (map Some) (sym (disabled_are_no_matter qs)))
    where
      by : Bool → List (Option Leveled) → WrittenRule
      by b ps = record { name = r.name.0; args = r.args; has_levels = b; places = ps }

  rules_closed : (items : List ItemData) →
      rules_through (λ r. written_rule_with_levels ds r (all_places r) ∷ []) (map (resolved_item ds) (flat_map (enabled_item fs) items))
      ≡ map closed_up (rules_through (λ r. if is_active fs r.attributes then written_rule_with_levels ds r (enabled_places fs r) ∷ [] else []) items)
  rules_closed [] = refl
  rules_closed (rule_item r ∷ items) = by (is_active fs r.attributes) (rules_closed items)
    where
      by : (b : Bool) →
          rules_through (λ d. written_rule_with_levels ds d (all_places d) ∷ []) (map (resolved_item ds) (flat_map (enabled_item fs) items))
          ≡ map closed_up (rules_through (λ d. if is_active fs d.attributes then written_rule_with_levels ds d (enabled_places fs d) ∷ [] else []) items) →
          rules_through (λ d. written_rule_with_levels ds d (all_places d) ∷ [])
          (map (resolved_item ds) ((if b then rule_item (enabled_rule fs r) ∷ [] else []) ++ flat_map (enabled_item fs) items))
          ≡ map closed_up ((if b then written_rule_with_levels ds r (enabled_places fs r) ∷ [] else [])
          ++ rules_through (λ d. if is_active fs d.attributes then written_rule_with_levels ds d (enabled_places fs d) ∷ [] else []) items)
      by true h = ap₂ ◌∷◌ (rule_closed r) h
      by false h = h
  rules_closed (match_item m ∷ items) = rules_closed items
  rules_closed (extern_item t ∷ items) = rules_closed items
  rules_closed (intern_item t ∷ items) = rules_closed items
  rules_closed (use_item u ∷ items) = rules_closed items

pub disabled_are_left_out : DisabledAreLeftOut
disabled_are_left_out fs g =
    let ds = globals (enabled_grammar fs g) in
    ap (λ es. rules_through (λ r. written_rule_with_levels es r (all_places r) ∷ []) (map (resolved_item ds) (enabled_grammar fs g).items))
    (same_globals ds (enabled_grammar fs g))
    ∙ rules_closed fs ds g.items

-- ---- ranks

kept_at : {A : Type 0} (ps : List (Option A)) (k : ℕ) (a : A) → slice_get ps k ≡ Some (Some a) →
    slice_get (map Some (present ps)) (rank_in ps k) ≡ Some (Some a)
kept_at [] k a h = absurd (grind arith)
kept_at (None ∷ ps) zero a h = absurd (grind arith)
kept_at (None ∷ ps) (suc k) a h = kept_at ps k a h
kept_at (Some x ∷ ps) zero a h = h
kept_at (Some x ∷ ps) (suc k) a h = kept_at ps k a h

reached_at : {A : Type 0} (ps : List (Option A)) (j : ℕ) (a : A) → slice_get (map Some (present ps)) j ≡ Some (Some a) →
    (k : ℕ) × (rank_in ps k ≡ j) × (slice_get ps k ≡ Some (Some a))
reached_at [] j a h = absurd (grind arith)
reached_at (None ∷ ps) j a h = let (k, e, i) = reached_at ps j a h in (suc k, e, i)
reached_at (Some x ∷ ps) zero a h = (zero, refl, h)
reached_at (Some x ∷ ps) (suc j) a h = let (k, e, i) = reached_at ps j a h in (suc k, ap suc e, i)

rank_less : {A : Type 0} (ps : List (Option A)) (k l : ℕ) (a : A) → slice_get ps k ≡ Some (Some a) → k < l → rank_in ps k < rank_in ps l
rank_less [] k l a h i = absurd (grind arith)
rank_less (p ∷ ps) (suc k) zero a h i = absurd (omega arith)
rank_less (p ∷ ps) zero zero a h i = absurd (omega arith)
rank_less (None ∷ ps) zero (suc l) a h i = absurd (grind arith)
rank_less (None ∷ ps) (suc k) (suc l) a h i = rank_less ps k l a h (omega arith)
rank_less (Some x ∷ ps) zero (suc l) a h i = omega arith
rank_less (Some x ∷ ps) (suc k) (suc l) a h i = let less = rank_less ps k l a h (omega arith) in omega arith

one_place : {A : Type 0} (ps : List (Option A)) (k l : ℕ) (a b : A) → slice_get ps k ≡ Some (Some a) → slice_get ps l ≡ Some (Some b) →
    rank_in ps k ≡ rank_in ps l → k ≡ l
one_place [] k l a b h i e = absurd (grind arith)
one_place (p ∷ ps) zero zero a b h i e = refl
one_place (None ∷ ps) zero (suc l) a b h i e = absurd (grind arith)
one_place (None ∷ ps) (suc k) zero a b h i e = absurd (grind arith)
one_place (None ∷ ps) (suc k) (suc l) a b h i e = ap suc (one_place ps k l a b h i e)
one_place (Some x ∷ ps) zero (suc l) a b h i e = absurd (omega arith)
one_place (Some x ∷ ps) (suc k) zero a b h i e = absurd (omega arith)
one_place (Some x ∷ ps) (suc k) (suc l) a b h i e = ap suc (one_place ps k l a b h i (omega arith))

count_closed : {A : Type 0} (ps : List (Option A)) → length (map Some (present ps)) ≡ rank_in ps (length ps)
count_closed [] = refl
count_closed (None ∷ ps) = count_closed ps
count_closed (Some x ∷ ps) = ap suc (count_closed ps)

ranks_numbered : (fs : Features) (f : AlternativeData → AlternativeData) (qs : PlacedAlternatives) (j : ℕ) (xs : List AlternativeData) (k : ℕ) →
    rank_in (map_numbered (leveled_at qs) j (map (option_map f) (map (if_active fs) xs))) k
    ≡ length (filter (λ a. is_active fs a.attributes) (take k xs))
ranks_numbered fs f qs j [] zero = refl
ranks_numbered fs f qs j [] (suc k) = refl
ranks_numbered fs f qs j (x ∷ xs) zero = refl
ranks_numbered fs f qs j (x ∷ xs) (suc k) = by (is_active fs x.attributes) (ranks_numbered fs f qs (suc j) xs k)
  where
    by : (b : Bool) →
        rank_in (map_numbered (leveled_at qs) (suc j) (map (option_map f) (map (if_active fs) xs))) k
        ≡ length (filter (λ a. is_active fs a.attributes) (take k xs)) →
        rank_in (map_numbered (leveled_at qs) j (option_map f (if b then Some x else None) ∷ map (option_map f) (map (if_active fs) xs))) (suc k)
        ≡ length (if b then x ∷ filter (λ a. is_active fs a.attributes) (take k xs) else filter (λ a. is_active fs a.attributes) (take k xs))
    by true h = ap suc h
    by false h = h

pub ranks_count_enabled : RanksCountEnabled
ranks_count_enabled fs ds r k =
    let f = resolved_alternative (sense_of ds r.args) in
    ranks_numbered fs f (map (option_map f) (enabled_places fs r)) 0 r.alternatives k

-- ---- levels

pub all_present : {A : Type 0} (xs : List A) → present (map Some xs) ≡ xs
all_present [] = refl
all_present (x ∷ xs) = ap (λ ys. x ∷ ys) (all_present xs)

pub levels_closed : (r : WrittenRule) → levels_of (closed_up r).places ≡ levels_of r.places
levels_closed r = ap (λ xs. rising (map (λ (a : Leveled). a.level) xs)) (all_present (present r.places))

within_closed : (r : WrittenRule) (b : Option ℕ) → level_within (closed_up r) b ≡ level_within r b
within_closed r None = ap (λ ls. unwrap_or (greatest ls) 0) (levels_closed r)
within_closed r (Some b) = refl

bound_closed : (o : Option WrittenRule) → bound_of (option_map closed_up o) ≡ bound_of o
bound_closed None = refl
bound_closed (Some r) = ap (λ (l : ℕ). if r.has_levels && not (has_arguments r) then Some l else None) (within_closed r None)

pub previous_closed : (b : Option ℕ) (o : Option WrittenRule) → previous_bound (option_map closed_up o) b ≡ previous_bound o b
previous_closed b None = refl
previous_closed b (Some r) =
    ap₂ (λ (ls : List ℕ) (l : ℕ). if r.has_levels && not (has_arguments r) then option_map Some (greatest (below l ls)) else None) (levels_closed r) (within_closed r b)

depth_closed : (b : Option ℕ) (o : Option WrittenRule) → depth_of (option_map closed_up o) b ≡ depth_of o b
depth_closed b None = refl
depth_closed b (Some r) = within_closed r b

rule_count_closed : (o : Option WrittenRule) → place_count (option_map closed_up o) ≡ rank_of o (place_count o)
rule_count_closed None = refl
rule_count_closed (Some r) = count_closed r.places

macro_count_closed : (o : Option WrittenRule) → instance_count (option_map closed_up o) ≡ rank_of o (instance_count o)
macro_count_closed None = refl
macro_count_closed (Some r) = by (has_arguments r)
  where
    by : (b : Bool) → (if b then length (map Some (present r.places)) else 0) ≡ rank_in r.places (if b then length r.places else 0)
    by true = count_closed r.places
    by false = refl

-- ---- rules by name

pub named_closed : (rs : List WrittenRule) (n : Name) → rule_named (map closed_up rs) n ≡ option_map closed_up (rule_named rs n)
named_closed [] n = refl
named_closed (r ∷ rs) n = by (bytes_eq r.name n) (named_closed rs n)
  where
    by : (b : Bool) → rule_named (map closed_up rs) n ≡ option_map closed_up (rule_named rs n) →
        (if b then Some (closed_up r) else rule_named (map closed_up rs) n) ≡ option_map closed_up (if b then Some r else rule_named rs n)
    by true h = refl
    by false h = h

references_closed : (rs : List WrittenRule) → references (map closed_up rs) ≡ references rs
references_closed [] = refl
references_closed (r ∷ rs) = ap₂ ◌++◌ (ap by (levels_closed r)) (references_closed rs)
  where
    by : List ℕ → List ClosedSymbol
    by ls = if has_arguments r then [] else (if r.has_levels then map (λ l. reference r.name (Some l)) ls else reference r.name None ∷ [])

roots_closed : (rs : List WrittenRule) → roots (map closed_up rs) ≡ roots rs
roots_closed [] = refl
roots_closed (r ∷ rs) = ap (λ xs. rule_roots r ++ xs) (roots_closed rs)

module _ (rs : List WrittenRule) where
  abbrev cs : List WrittenRule
  cs = map closed_up rs

  -- the bound of a reference to each name
  abbrev bounds_in : List WrittenRule → Name → Option ℕ
  bounds_in xs n = bound_of (rule_named xs n)

  bounds_same : bounds_in cs ≡ bounds_in rs
  bounds_same = fun_ext (λ n. ap bound_of (named_closed rs n) ∙ bound_closed (rule_named rs n))

  abbrev reader_by : WrittenRule → Leveled → List ℕ → (Name → Option ℕ) → Reader
  reader_by r a ls bounds = record {
    argument = λ n. None;
    is_own = λ n. bytes_eq n r.name;
    own_bound = λ before after. if r.has_levels then Some (own_bound a.side a.level (greatest (below a.level ls)) before after) else None;
    bound = bounds;
  }

  pub reader_same : (r : WrittenRule) (a : Leveled) → rule_reader cs (closed_up r) a ≡ rule_reader rs r a
  reader_same r a = ap₂ (reader_by r a) (levels_closed r) bounds_same

  abbrev macro_by : WrittenRule → ClosedSymbols → (Name → Option ℕ) → Reader
  macro_by r args bounds = record {
    argument = bound_argument r.args args;
    is_own = λ n. false;
    own_bound = λ before after. None;
    bound = bounds;
  }

  pub macro_same : (r : WrittenRule) (args : ClosedSymbols) → macro_reader cs (closed_up r) args ≡ macro_reader rs r args
  macro_same r args = ap (macro_by r args) bounds_same

  -- ---- alternatives of rules

  module _ (passes : WrittenRule → ℕ → Bool) (same : (r : WrittenRule) (l : ℕ) → passes (closed_up r) l ≡ passes r l) where
    rule_kept : (r : WrittenRule) (k : ℕ) (parts : ClosedSymbols) → rule_parts rs passes k (Some r) ≡ Some parts →
        rule_parts cs passes (rank_in r.places k) (Some (closed_up r)) ≡ Some parts
    rule_kept r k parts h =
        let p = passing_of rs passes k r parts h in
        rw (p.is_rule, kept_at r.places k p.alternative p.there, same r p.alternative.level, p.passing)
        (ap Some (ap (λ R. read_all R p.alternative.alternative.parts) (reader_same r p.alternative) ∙ p.read))

    rule_reached : (r : WrittenRule) (j : ℕ) (parts : ClosedSymbols) → rule_parts cs passes j (Some (closed_up r)) ≡ Some parts →
        (k : ℕ) × (rank_in r.places k ≡ j) × (rule_parts rs passes k (Some r) ≡ Some parts)
    rule_reached r j parts h =
        let p = passing_of cs passes j (closed_up r) parts h in
        let (k, e, i) = reached_at r.places j p.alternative p.there in
        let rule : has_arguments r ≡ false = p.is_rule in (
          k,
          e,
          rw (rule, i, sym (same r p.alternative.level) ∙ p.passing)
              (ap Some (ap (λ R. read_all R p.alternative.alternative.parts) (sym (reader_same r p.alternative)) ∙ p.read)),
        )

    rules_ranked : (o : Option WrittenRule) → AreRanked (λ k. rule_parts rs passes k o) (λ j. rule_parts cs passes j (option_map closed_up o)) (rank_of o)
    rules_ranked None = record {
      kept = λ k parts h. absurd (grind arith);
      reached = λ j parts h. absurd (grind arith);
      in_order = λ k l first second h i less. absurd (grind arith);
    }
    rules_ranked (Some r) = record {
      kept = λ k parts h. rule_kept r k parts h;
      reached = λ j parts h. (let (k, e, i) = rule_reached r j parts h in (k, (e, i), λ l q. one l k parts q.1 i (q.0 ∙ sym e)));
      in_order = λ k l first second h i less. (let p = passing_of rs passes k r first h in rank_less r.places k l p.alternative p.there less);
    }
      where
        one : (l k : ℕ) (parts : ClosedSymbols) → rule_parts rs passes l (Some r) ≡ Some parts → rule_parts rs passes k (Some r) ≡ Some parts →
            rank_in r.places l ≡ rank_in r.places k → l ≡ k
        one l k parts h i e =
            let p = passing_of rs passes l r parts h in
            let q = passing_of rs passes k r parts i in
            one_place r.places l k p.alternative q.alternative p.there q.there e

    rules_ranked_by : (n : Name) → AreRanked (λ k. rule_parts rs passes k (rule_named rs n)) (λ j. rule_parts cs passes j (rule_named cs n)) (rank_by rs n)
    rules_ranked_by n =
        subst (λ (o : Option WrittenRule). AreRanked (λ k. rule_parts rs passes k (rule_named rs n)) (λ j. rule_parts cs passes j o) (rank_by rs n))
        (sym (named_closed rs n)) (rules_ranked (rule_named rs n))

  -- ---- alternatives of macros

  module _ (value : ConditionValue) (args : ClosedSymbols) where
    macro_kept : (r : WrittenRule) (k : ℕ) (parts : ClosedSymbols) → instance_parts value rs args k (Some r) ≡ Some parts →
        instance_parts value cs args (rank_in r.places k) (Some (closed_up r)) ≡ Some parts
    macro_kept r k parts h =
        let p = instance_of value rs args k r parts h in
        rw (p.called, p.fitting, kept_at r.places k p.alternative p.there, p.holds)
        (ap Some (ap (λ R. read_all R p.alternative.alternative.parts) (macro_same r args) ∙ p.read))

    macro_reached : (r : WrittenRule) (j : ℕ) (parts : ClosedSymbols) → instance_parts value cs args j (Some (closed_up r)) ≡ Some parts →
        (k : ℕ) × (rank_in r.places k ≡ j) × (instance_parts value rs args k (Some r) ≡ Some parts)
    macro_reached r j parts h =
        let p = instance_of value cs args j (closed_up r) parts h in
        let (k, e, i) = reached_at r.places j p.alternative p.there in
        let called : has_arguments r ≡ true = p.called in (
          k,
          e,
          rw (called, p.fitting, i, p.holds)
              (ap Some (ap (λ R. read_all R p.alternative.alternative.parts) (sym (macro_same r args)) ∙ p.read)),
        )

    macros_ranked : (o : Option WrittenRule) →
        AreRanked (λ k. instance_parts value rs args k o) (λ j. instance_parts value cs args j (option_map closed_up o)) (rank_of o)
    macros_ranked None = record {
      kept = λ k parts h. absurd (grind arith);
      reached = λ j parts h. absurd (grind arith);
      in_order = λ k l first second h i less. absurd (grind arith);
    }
    macros_ranked (Some r) = record {
      kept = λ k parts h. macro_kept r k parts h;
      reached = λ j parts h. (let (k, e, i) = macro_reached r j parts h in (k, (e, i), λ l q. one l k parts q.1 i (q.0 ∙ sym e)));
      in_order = λ k l first second h i less. (let p = instance_of value rs args k r first h in rank_less r.places k l p.alternative p.there less);
    }
      where
        one : (l k : ℕ) (parts : ClosedSymbols) → instance_parts value rs args l (Some r) ≡ Some parts → instance_parts value rs args k (Some r) ≡ Some parts →
            rank_in r.places l ≡ rank_in r.places k → l ≡ k
        one l k parts h i e =
            let p = instance_of value rs args l r parts h in
            let q = instance_of value rs args k r parts i in
            one_place r.places l k p.alternative q.alternative p.there q.there e

    macros_ranked_by : (n : Name) →
        AreRanked (λ k. instance_parts value rs args k (rule_named rs n)) (λ j. instance_parts value cs args j (rule_named cs n)) (rank_by rs n)
    macros_ranked_by n =
        subst (λ (o : Option WrittenRule). AreRanked (λ k. instance_parts value rs args k (rule_named rs n)) (λ j. instance_parts value cs args j o) (rank_by rs n))
        (sym (named_closed rs n)) (macros_ranked (rule_named rs n))

  -- ---- the meaning

  within_same : (b : Option ℕ) (r : WrittenRule) (l : ℕ) → is_within b (closed_up r) l ≡ is_within b r l
  within_same b r l = ap (λ m. not r.has_levels || nat_le l m) (within_closed r b)

  pub own_same : (b : Option ℕ) (r : WrittenRule) (l : ℕ) → is_own_level b (closed_up r) l ≡ is_own_level b r l
  own_same b r l = ap (λ m. not r.has_levels || nat_eq l m) (within_closed r b)

  closed_renumbered : (value : ConditionValue) → IsRenumbered (meaning value rs) (meaning value cs) (rank_by rs)
  closed_renumbered value = record {
    rules = λ n b. rules_ranked_by (is_within b) (within_same b) n;
    levels = λ n b. rules_ranked_by (is_own_level b) (own_same b) n;
    macros = λ n args. macros_ranked_by value args n;
    rule_counts = λ n. ap place_count (named_closed rs n) ∙ rule_count_closed (rule_named rs n);
    macro_counts = λ n. ap instance_count (named_closed rs n) ∙ macro_count_closed (rule_named rs n);
    previous = λ n b. ap (λ o. previous_bound o b) (named_closed rs n) ∙ previous_closed b (rule_named rs n);
    depth = λ n b. ap (λ o. depth_of o b) (named_closed rs n) ∙ depth_closed b (rule_named rs n);
  }

pub disabled_only_renumber : DisabledOnlyRenumber
disabled_only_renumber value fs g =
    let rs = written_rules fs g in
    let e = disabled_are_left_out fs g in (
      subst (λ (xs : List WrittenRule). IsRenumbered (meaning value rs) (meaning value xs) (rank_by rs)) (sym e) (closed_renumbered rs value),
      ap references e ∙ references_closed rs,
      ap roots e ∙ roots_closed rs,
    )
