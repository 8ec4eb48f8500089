-- Where each name has a meaning, the references that the rules declare are closed.
use Rattle.std.proofs.Common.{◌≡◌, ◌⊎◌, inl, inr, ℕ, zero, suc, ◌+◌, ◌<◌, List, [], ◌∷◌, length, Option, Some, None, Bool, true, false, not, ◌||◌, ◌&&◌, refl, sym, ap, ◌∙◌, subst, arith}
use Rattle.std.specs.Prelude.{flat_map, unwrap_or, bytes_eq, if◌then◌else◌}
use Rattle.std.proofs.lemmas.Bool.{and_parts}
use Rattle.std.proofs.lemmas.Slice.Eq.{bytes_eq-Decides}
use Rattle.lalrpop_norm_tree_names.specs.declared.names.NonterminalString.{NonterminalString}
use Rattle.lalrpop_norm_tree.specs.declared.symbol.RepeatOp.{RepeatOp}
use Rattle.lalrpop_norm_tree.specs.declared.symbol.RepeatOp.TheVariants.{Star, Plus, Question, Times}
use Rattle.lalrpop_norm_tree.specs.Symbols as written
use Rattle.lalrpop_norm_tree.specs.Symbols.{Kind, Part, Parts, at, no_parts, part_and}
use Rattle.lalrpop_norm_tree.specs.Traversal.{inner}
use Rattle.lalrpop_norm_theory.specs.Symbols.{Name, ClosedSymbol, ClosedSymbols, reference, no_symbols, symbol_and}
use Rattle.lalrpop_norm_theory.specs.Rounds.{In}
use Rattle.lalrpop_norm_theory.specs.Met.{IsResolvedIn, AreResolvedIn, IsResolved}
use Rattle.lalrpop_norm_model.specs.Levels.{Side, left, right, neither, every, Leveled, levels_of, greatest, highest_level, previous_level}
use Rattle.lalrpop_norm_model.specs.Scopes.{is_argument}
use Rattle.lalrpop_norm_model.specs.WrittenRules.{WrittenRule, rule_named}
use Rattle.lalrpop_norm_model.specs.Occurrences.{count_part, count_parts, first_current, bound_at, own_bound}
use Rattle.lalrpop_norm_model.specs.Reading.{Reader, repeat_of, read_name, read_kind, read_part, read_parts}
use Rattle.lalrpop_norm_model.specs.Grammars.{is_nil, has_arguments, level_within, is_within, bound_of, own_bound_in, rule_reader, rule_parts, previous_bound, bound_argument, arguments_fit, macro_reader, instance_parts, ConditionValue, meaning, rule_references, references}
use Rattle.lalrpop_norm_theory.proofs.RoundsLemmas.{in_left, in_right}
use Rattle.lalrpop_norm_model.specs.Scoped.{is_rule, is_scoped_with, is_scoped_kind, is_scoped, are_scoped, is_macro_for, IsScoped}
use Rattle.lalrpop_norm_model.specs.Laws.{MeaningsAreResolved}
use Rattle.lalrpop_norm_model.proofs.LevelLemmas.{in_map, at_in, place_has_level, greatest_is, has_greatest, previous_is}
use Rattle.lalrpop_norm_model.proofs.MeaningLemmas.{passing_of, lower_of, instance_of}
use Rattle.lalrpop_norm_model.proofs.TraversalLemmas.{gathered_level}

-- ---- lists

pub in_flat : {A B : Type 0} (f : A → List B) (x : A) (xs : List A) (y : B) → In x xs → In y (f x) → In y (flat_map f xs)
in_flat f x [] y h i = absurd h
in_flat {A} f x (z ∷ xs) y (inl e) i = in_left y (f z) (flat_map f xs) (subst (λ (w : A). In y (f w)) e i)
in_flat f x (z ∷ xs) y (inr h) i = in_right y (f z) (flat_map f xs) (in_flat f x xs y h i)

-- ---- what is inside of symbols

and_alone : (b : Bool) → (b && true) ≡ b
and_alone true = refl
and_alone false = refl

module _ (rs : List WrittenRule) (args : List NonterminalString) where
  scoped_within : (k : Kind) → is_scoped_with rs args k (are_scoped rs args (inner k)) ≡ true → are_scoped rs args (inner k) ≡ true
  scoped_within (written.nonterminal n) h = refl
  scoped_within (written.ambiguous_id a) h = refl
  scoped_within (written.call n ps) h =
      let behind = (and_parts (not (is_argument args n)) (is_macro_for ps (rule_named rs n) && are_scoped rs args ps) h).1 in
      (and_parts (is_macro_for ps (rule_named rs n)) (are_scoped rs args ps) behind).1
  scoped_within _ h = h

  pub scoped_level : (k : Kind) → is_scoped_kind rs args k ≡ is_scoped_with rs args k (are_scoped rs args (inner k))
  scoped_level = gathered_level (is_scoped_with rs args) true (λ x y. x && y) and_alone

  -- where each name in a symbol has a meaning, so has each right inside of it
  pub scoped_inside : (k : Kind) → is_scoped_kind rs args k ≡ true → are_scoped rs args (inner k) ≡ true
  scoped_inside k h = scoped_within k (sym (scoped_level k) ∙ h)

-- ---- rules by name

found_by : (n : Name) (r s : WrittenRule) (rs : List WrittenRule) (b : Bool) → bytes_eq r.name n ≡ b →
    (rule_named rs n ≡ Some s → In s rs × (s.name ≡ n)) → (if b then Some r else rule_named rs n) ≡ Some s →
    In s (r ∷ rs) × (s.name ≡ n)
found_by n r s rs true e f h =
    let same : r ≡ s = cc h in
    (inl (sym same), ap (λ (t : WrittenRule). t.name) (sym same) ∙ (bytes_eq-Decides r.name n).0 e)
found_by n r s rs false e f h = let i = f h in (inr i.0, i.1)

-- the rule of a name is one of them and has that name
pub rule_found : (rs : List WrittenRule) (n : Name) (s : WrittenRule) → rule_named rs n ≡ Some s → In s rs × (s.name ≡ n)
rule_found [] n s h = absurd (grind arith)
rule_found (r ∷ rs) n s h = found_by n r s rs (bytes_eq r.name n) refl (rule_found rs n s) h

-- ---- declared references

declared_level : (rs : List WrittenRule) (r : WrittenRule) (l : ℕ) → In r rs → has_arguments r ≡ false → r.has_levels ≡ true →
    In l (levels_of r.places) → In (reference r.name (Some l)) (references rs)
declared_level rs r l i m e h = in_flat rule_references r rs (reference r.name (Some l)) i here
  where
    here : In (reference r.name (Some l)) (rule_references r)
    here = rw (m, e) (in_map (λ (k : ℕ). reference r.name (Some k)) l (levels_of r.places) h)

declared_name : (rs : List WrittenRule) (r : WrittenRule) → In r rs → has_arguments r ≡ false → r.has_levels ≡ false →
    In (reference r.name None) (references rs)
declared_name rs r i m e = in_flat rule_references r rs (reference r.name None) i here
  where
    here : In (reference r.name None) (rule_references r)
    here = rw (m, e) (inl refl)

some_there : (ls : List ℕ) → 0 < length ls → (m : ℕ) × In m ls
some_there [] h = absurd (omega arith)
some_there (l ∷ ls) h = (l, inl refl)

highest_there : (r : WrittenRule) → 0 < length (levels_of r.places) → In (highest_level r.places) (levels_of r.places)
highest_there r h =
    let s = some_there (levels_of r.places) h in
    let g = has_greatest (levels_of r.places) s.0 s.1 in
    by (greatest (levels_of r.places)) g.0 refl g.1
  where
    by : (o : Option ℕ) (m : ℕ) → greatest (levels_of r.places) ≡ o → o ≡ Some m → In (unwrap_or o 0) (levels_of r.places)
    by None m e h = absurd (grind arith)
    by (Some k) m e h = (greatest_is (levels_of r.places) k e).0

module _ (rs : List WrittenRule) (S : IsScoped rs) where
  bound_by : (r : WrittenRule) (x y : Bool) → In r rs → r.has_levels ≡ x → has_arguments r ≡ y → not y ≡ true →
      In (reference r.name (if x && not y then Some (highest_level r.places) else None)) (references rs)
  bound_by r true false i e m h = declared_level rs r (highest_level r.places) i m e (highest_there r (S.some_level r i e))
  bound_by r false false i e m h = declared_name rs r i m e
  bound_by r x true i e m h = absurd (cc h)

  bound_declared : (n : Name) (o : Option WrittenRule) → rule_named rs n ≡ o → is_rule o ≡ true → In (reference n (bound_of o)) (references rs)
  bound_declared n None e h = absurd (cc h)
  bound_declared n (Some r) e h =
      let f = rule_found rs n r e in
      subst (λ (m : Name). In (reference m (bound_of (Some r))) (references rs)) f.1
      (bound_by r r.has_levels (has_arguments r) f.0 refl refl h)

  -- ---- symbols read

  module _ (args : List NonterminalString) (R : Reader)
      (named : (n : Name) (before after : ℕ) → (is_argument args n || is_rule (rule_named rs n)) ≡ true →
      IsResolvedIn (references rs) (read_name R before after n)) where
    repeat_resolved : (op : RepeatOp) (x : ClosedSymbol) → IsResolvedIn (references rs) x → IsResolvedIn (references rs) (repeat_of op x)
    repeat_resolved Star x h = h
    repeat_resolved Plus x h = h
    repeat_resolved Question x h = h
    repeat_resolved (Times n) x h = h

    mutual
      kind_resolved : (before after : ℕ) (k : Kind) → is_scoped_kind rs args k ≡ true → IsResolvedIn (references rs) (read_kind R before after k)
      kind_resolved before after (written.nonterminal n) h = named n before after h
      kind_resolved before after (written.ambiguous_id n) h = absurd (cc h)
      kind_resolved before after (written.group ps) h = parts_resolved before after ps h
      kind_resolved before after (written.call n ps) h = parts_resolved before after ps (scoped_inside rs args (written.call n ps) h)
      kind_resolved before after (written.repeated op p) h = repeat_resolved op (read_part R before after p) (part_resolved before after p h)
      kind_resolved before after (written.chosen p) h = part_resolved before after p h
      kind_resolved before after (written.named n p) h = part_resolved before after p h
      kind_resolved before after (written.tupled ns p) h = part_resolved before after p h
      kind_resolved before after _ h = tt

      part_resolved : (before after : ℕ) (p : Part) → is_scoped rs args p ≡ true → IsResolvedIn (references rs) (read_part R before after p)
      part_resolved before after (at s k) h = kind_resolved before after k h

      pub parts_resolved : (before after : ℕ) (ps : Parts) → are_scoped rs args ps ≡ true → AreResolvedIn (references rs) (read_parts R before after ps)
      parts_resolved before after no_parts h = tt
      parts_resolved before after (part_and p ps) h =
          let both = and_parts (is_scoped rs args p) (are_scoped rs args ps) h in
          (part_resolved before (after + count_parts R.is_own ps) p both.0, parts_resolved (before + count_part R.is_own p) after ps both.1)

  -- ---- recursive occurrences

  either : (r : WrittenRule) (side : Side) (current previous before after : ℕ) → In current (levels_of r.places) → In previous (levels_of r.places) →
      In (bound_at side current previous before after) (levels_of r.places)
  either r left current previous before after h i = first before
    where
      first : (k : ℕ) → In (first_current current previous k) (levels_of r.places)
      first zero = h
      first (suc k) = i
  either r right current previous before after h i = first after
    where
      first : (k : ℕ) → In (first_current current previous k) (levels_of r.places)
      first zero = h
      first (suc k) = i
  either r neither current previous before after h i = i
  either r every current previous before after h i = h

  own_level : (r : WrittenRule) (side : Side) (current before after : ℕ) (o : Option ℕ) → previous_level r.places current ≡ o →
      In current (levels_of r.places) → In (own_bound side current o before after) (levels_of r.places)
  own_level r side current before after None e h = either r side current current before after h h
  own_level r side current before after (Some l) e h =
      either r side current l before after h (previous_is r.places current l e).0

  own_declared : (r : WrittenRule) (a : Leveled) (before after : ℕ) → In r rs → has_arguments r ≡ false → In a.level (levels_of r.places) →
      (b : Bool) → r.has_levels ≡ b →
      In (reference r.name (if b then Some (own_bound a.side a.level (previous_level r.places a.level) before after) else None)) (references rs)
  own_declared r a before after i m h true e =
      declared_level rs r _ i m e (own_level r a.side a.level before after (previous_level r.places a.level) refl h)
  own_declared r a before after i m h false e = declared_name rs r i m e

  rule_name_by : (r : WrittenRule) (a : Leveled) (n : Name) (before after : ℕ) → In r rs → has_arguments r ≡ false → In a.level (levels_of r.places) →
      is_rule (rule_named rs n) ≡ true → (b : Bool) → bytes_eq n r.name ≡ b →
      In (reference n (if b then own_bound_in r a before after else bound_of (rule_named rs n))) (references rs)
  rule_name_by r a n before after i m h s true e =
      subst (λ (x : Name). In (reference x (own_bound_in r a before after)) (references rs)) (sym ((bytes_eq-Decides n r.name).0 e))
      (own_declared r a before after i m h r.has_levels refl)
  rule_name_by r a n before after i m h s false e = bound_declared n (rule_named rs n) refl s

  no_arguments : (args : List NonterminalString) → not (is_nil args) ≡ false → args ≡ []
  no_arguments [] h = refl
  no_arguments (a ∷ args) h = absurd (cc h)

  rule_resolved : (k : ℕ) (parts : ClosedSymbols) (n : Name) (b : Option ℕ) (o : Option WrittenRule) → rule_named rs n ≡ o →
      rule_parts rs (is_within b) k o ≡ Some parts → AreResolvedIn (references rs) parts
  rule_resolved k parts n b None e h = absurd (grind arith)
  rule_resolved k parts n b (Some r) e h =
      let p = passing_of rs (is_within b) k r parts h in
      let i = (rule_found rs n r e).0 in
      let place = at_in r.places k (Some p.alternative) p.there in
      let level = place_has_level r.places p.alternative place in
      let scoped = S.names r p.alternative i place in
      let none = no_arguments r.args p.is_rule in
      subst (AreResolvedIn (references rs)) p.read
      (parts_resolved [] (rule_reader rs r p.alternative)
      (λ m before after s. rule_name_by r p.alternative m before after i p.is_rule level s (bytes_eq m r.name) refl)
      0 0 p.alternative.alternative.parts (subst (λ (args : List NonterminalString). are_scoped rs args p.alternative.alternative.parts ≡ true) none scoped))

  -- ---- macros

  -- no argument, or one that is bound to a resolved symbol
  abbrev Bound : Option ClosedSymbol → Bool → Type 0
  Bound o b = ((o ≡ None) × (b ≡ false)) ⊎ ((g : ClosedSymbol) × (o ≡ Some g) × IsResolvedIn (references rs) g)

  bound_here : (g : ClosedSymbol) (o : Option ClosedSymbol) (y b : Bool) → IsResolvedIn (references rs) g → Bound o y → Bound (if b then Some g else o) (b || y)
  bound_here g o y true h i = inr (g, refl, h)
  bound_here g o y false h i = i

  argument_by : (args : List NonterminalString) (gs : ClosedSymbols) (n : Name) → arguments_fit args gs ≡ true → AreResolvedIn (references rs) gs →
      Bound (bound_argument args gs n) (is_argument args n)
  argument_by [] no_symbols n f h = inl (refl, refl)
  argument_by [] (symbol_and g gs) n f h = absurd (cc f)
  argument_by (a ∷ args) no_symbols n f h = absurd (cc f)
  argument_by (a ∷ args) (symbol_and g gs) n f h =
      bound_here g (bound_argument args gs n) (is_argument args n) (bytes_eq a.0 n) h.0 (argument_by args gs n f h.1)

  macro_name : (args : List NonterminalString) (gs : ClosedSymbols) (n : Name) → arguments_fit args gs ≡ true → AreResolvedIn (references rs) gs →
      (is_argument args n || is_rule (rule_named rs n)) ≡ true →
      IsResolvedIn (references rs) (unwrap_or (bound_argument args gs n) (reference n (bound_of (rule_named rs n))))
  macro_name args gs n f h s = elim (argument_by args gs n f h) [
    | inl r ↦ (let t : (false || is_rule (rule_named rs n)) ≡ true = rw r.1 at s in rw r.0 (bound_declared n (rule_named rs n) refl t))
    | inr r ↦ rw r.1 r.2
  ]

  macro_resolved : (value : ConditionValue) (args : ClosedSymbols) (k : ℕ) (parts : ClosedSymbols) (n : Name) (o : Option WrittenRule) →
      rule_named rs n ≡ o → AreResolvedIn (references rs) args → instance_parts value rs args k o ≡ Some parts → AreResolvedIn (references rs) parts
  macro_resolved value args k parts n None e d h = absurd (grind arith)
  macro_resolved value args k parts n (Some r) e d h =
      let p = instance_of value rs args k r parts h in
      let i = (rule_found rs n r e).0 in
      let place = at_in r.places k (Some p.alternative) p.there in
      subst (AreResolvedIn (references rs)) p.read
      (parts_resolved r.args (macro_reader rs r args) (λ m before after s. macro_name r.args args m p.fitting d s)
      0 0 p.alternative.alternative.parts (S.names r p.alternative i place))

  -- ---- levels

  level_declared : (n : Name) (b c : Option ℕ) (o : Option WrittenRule) → rule_named rs n ≡ o → previous_bound o b ≡ Some c →
      In (reference n c) (references rs)
  level_declared n b c None e h = absurd (grind arith)
  level_declared n b c (Some r) e h =
      let w = lower_of r b c h in
      let f = rule_found rs n r e in
      let there = declared_level rs r w.level f.0 w.is_rule w.leveled (previous_is r.places (level_within r b) w.level w.below).0 in
      rw w.is (subst (λ (m : Name). In (reference m (Some w.level)) (references rs)) f.1 there)

  pub meaning_is_resolved : (value : ConditionValue) → IsResolved (meaning value rs) (references rs)
  meaning_is_resolved value = record {
    rules = λ n b k parts d h. rule_resolved k parts n b (rule_named rs n) refl h;
    levels = λ n b c d h. level_declared n b c (rule_named rs n) refl h;
    macros = λ n args k parts d h. macro_resolved value args k parts n (rule_named rs n) refl d h;
  }

pub meanings_are_resolved : MeaningsAreResolved
meanings_are_resolved value rs S = meaning_is_resolved rs S value
