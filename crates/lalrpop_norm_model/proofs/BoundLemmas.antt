-- The bounds of recursive occurrences by the associativity, and the conditions of macros.
use Rattle.std.proofs.Common.{◌≡◌, ℕ, zero, suc, ◌+◌, List, [], ◌∷◌, ◌++◌, map, replicate, Option, Some, None, Bool, true, false, refl, sym, ap, ap₂, ◌∙◌, arith}
use Rattle.std.specs.Prelude.{bytes_eq, if◌then◌else◌}
use Rattle.std.proofs.lemmas.Bool.{and_parts}
use Rattle.lalrpop_norm_tree_names.specs.declared.names.NonterminalString.{NonterminalString}
use Rattle.lalrpop_norm_tree.specs.declared.items.Condition.{Condition}
use Rattle.lalrpop_norm_tree.specs.declared.symbol.RepeatOp.{RepeatOp}
use Rattle.lalrpop_norm_tree.specs.declared.symbol.RepeatOp.TheVariants.{Star, Plus, Question, Times}
use Rattle.lalrpop_norm_tree.specs.Symbols as written
use Rattle.lalrpop_norm_tree.specs.Symbols.{Kind, Part, Parts, at, no_parts, part_and}
use Rattle.lalrpop_norm_theory.specs.Symbols.{Name, quoted, regex, bare, error_terminal, ClosedSymbol, ClosedSymbols, terminal, error, reference, call, group, star, plus, question, times, wrapped, lookahead, lookbehind}
use Rattle.lalrpop_norm_model.specs.Levels.{Side, left, right, neither, every, Leveled, previous_level}
use Rattle.lalrpop_norm_model.specs.WrittenRules.{WrittenRule, rule_named}
use Rattle.lalrpop_norm_model.specs.Occurrences.{count_kind, count_part, count_parts, bound_at, own_bound}
use Rattle.lalrpop_norm_model.specs.Reading.{Reader, repeat_of, read_kind, read_part, read_parts, read_all}
use Rattle.lalrpop_norm_model.specs.Grammars.{own_bound_in, bound_of, rule_reader, bound_argument, value_of, is_true, macro_reader, instance_parts, ConditionValue}
use Rattle.lalrpop_norm_model.specs.Scoped.{is_scoped_kind, is_scoped, are_scoped}
use Rattle.lalrpop_norm_model.specs.Bounds.{bounds_to, all_bounds_to, bounds_by, IsTrue}
use Rattle.lalrpop_norm_model.specs.Laws.{BoundsAreBySide, ConditionsDecide}
use Rattle.lalrpop_norm_model.proofs.MeaningLemmas.{instance_of}
use Rattle.lalrpop_norm_model.proofs.ScopeLemmas.{scoped_inside}

-- ---- occurrences by what is before and after them

-- f of each of that many, where some are before the first and some after the last
abbrev spread : {A : Type 0} → (ℕ → ℕ → A) → ℕ → ℕ → ℕ → List A
spread f before after zero = []
spread f before after (suc k) = f before (k + after) ∷ spread f (suc before) after k

spread_both : {A : Type 0} (f : ℕ → ℕ → A) (before after j k : ℕ) →
    spread f before (after + k) j ++ spread f (before + j) after k ≡ spread f before after (j + k)
spread_both f before after zero k = let e : before + 0 ≡ before = omega arith in let d : 0 + k ≡ k = omega arith in rw (e, d) refl
spread_both f before after (suc j) k =
    let e : suc j + k ≡ suc (j + k) = omega arith in
    let d : before + suc j ≡ suc before + j = omega arith in
    let c : j + (after + k) ≡ (j + k) + after = omega arith in
    rw (e, d, c) (ap (λ xs. f before ((j + k) + after) ∷ xs) (spread_both f (suc before) after j k))

module _ (rs : List WrittenRule) (r : WrittenRule) (a : Leveled) (f : ℕ → ℕ → Option ℕ)
    (bound : (before after : ℕ) → own_bound_in r a before after ≡ f before after) where
  abbrev own : Name → Bool
  own n = bytes_eq n r.name

  abbrev R : Reader
  R = rule_reader rs r a

  name_bounds : (n : Name) (before after : ℕ) (x : Bool) → own n ≡ x →
      bounds_to r.name (reference n (if x then own_bound_in r a before after else bound_of (rule_named rs n)))
      ≡ spread f before after (if x then 1 else 0)
  name_bounds n before after true e = let d : 0 + after ≡ after = omega arith in rw (e, d) (ap (λ b. b ∷ []) (bound before after))
  name_bounds n before after false e = rw e refl

  repeat_bounds : (op : RepeatOp) (x : ClosedSymbol) → bounds_to r.name (repeat_of op x) ≡ bounds_to r.name x
  repeat_bounds Star x = refl
  repeat_bounds Plus x = refl
  repeat_bounds Question x = refl
  repeat_bounds (Times n) x = refl

  mutual
    kind_bounds : (before after : ℕ) (k : Kind) → is_scoped_kind rs r.args k ≡ true →
        bounds_to r.name (read_kind R before after k) ≡ spread f before after (count_kind own k)
    kind_bounds before after (written.nonterminal n) h = name_bounds n before after (own n) refl
    kind_bounds before after (written.ambiguous_id n) h = absurd (cc h)
    kind_bounds before after (written.group ps) h = parts_bounds before after ps h
    kind_bounds before after (written.call n ps) h =
        parts_bounds before after ps (scoped_inside rs r.args (written.call n ps) h)
    kind_bounds before after (written.repeated op p) h = repeat_bounds op (read_part R before after p) ∙ part_bounds before after p h
    kind_bounds before after (written.chosen p) h = part_bounds before after p h
    kind_bounds before after (written.named n p) h = part_bounds before after p h
    kind_bounds before after (written.tupled ns p) h = part_bounds before after p h
    kind_bounds before after _ h = refl

    part_bounds : (before after : ℕ) (p : Part) → is_scoped rs r.args p ≡ true →
        bounds_to r.name (read_part R before after p) ≡ spread f before after (count_part own p)
    part_bounds before after (at s k) h = kind_bounds before after k h

    parts_bounds : (before after : ℕ) (ps : Parts) → are_scoped rs r.args ps ≡ true →
        all_bounds_to r.name (read_parts R before after ps) ≡ spread f before after (count_parts own ps)
    parts_bounds before after no_parts h = refl
    parts_bounds before after (part_and p ps) h =
        let both = and_parts (is_scoped rs r.args p) (are_scoped rs r.args ps) h in
        ap₂ ◌++◌ (part_bounds before (after + count_parts own ps) p both.0) (parts_bounds (before + count_part own p) after ps both.1)
        ∙ spread_both f before after (count_part own p) (count_parts own ps)

-- ---- by associativity

module _ (c p : ℕ) where
  all_alike : (side : Side) (b : ℕ) → ((before after : ℕ) → bound_at side c p before after ≡ b) → (before after k : ℕ) →
      spread (λ i j. Some (bound_at side c p i j)) before after k ≡ map Some (replicate k b)
  all_alike side b h before after zero = refl
  all_alike side b h before after (suc k) = ap₂ (λ x xs. Some x ∷ xs) (h before (k + after)) (all_alike side b h (suc before) after k)

  left_after : (before after k : ℕ) → spread (λ i j. Some (bound_at left c p i j)) (suc before) after k ≡ map Some (replicate k p)
  left_after before after zero = refl
  left_after before after (suc k) = ap (λ xs. Some p ∷ xs) (left_after (suc before) after k)

  right_last : (before k : ℕ) → spread (λ i j. Some (bound_at right c p i j)) before 0 (suc k) ≡ map Some (replicate k p ++ c ∷ [])
  right_last before zero = refl
  right_last before (suc k) =
      let e : suc k + 0 ≡ suc k = omega arith in rw e (ap (λ xs. Some p ∷ xs) (right_last (suc before) k))

  by_side : (side : Side) (k : ℕ) → spread (λ i j. Some (bound_at side c p i j)) 0 0 k ≡ map Some (bounds_by side c p k)
  by_side left zero = refl
  by_side left (suc k) = ap (λ xs. Some c ∷ xs) (left_after 0 0 k)
  by_side right zero = refl
  by_side right (suc k) = right_last 0 k
  by_side neither k = all_alike neither p (λ i j. refl) 0 0 k
  by_side every k = all_alike every c (λ i j. refl) 0 0 k

pub bounds_are_by_side : BoundsAreBySide
bounds_are_by_side rs r a previous e below scoped =
    parts_bounds rs r a (λ i j. Some (bound_at a.side a.level previous i j)) bound 0 0 a.alternative.parts scoped
    ∙ by_side a.level previous a.side (count_parts (λ n. bytes_eq n r.name) a.alternative.parts)
  where
    bound : (before after : ℕ) → own_bound_in r a before after ≡ Some (bound_at a.side a.level previous before after)
    bound before after =
        ap (λ (b : Bool). if b then Some (own_bound a.side a.level (previous_level r.places a.level) before after) else None) e
        ∙ ap (λ o. Some (own_bound a.side a.level o before after)) below

-- with `all` there is no level but its own
pub bounds_on_every_side : (rs : List WrittenRule) (r : WrittenRule) (a : Leveled) → r.has_levels ≡ true → a.side ≡ every → are_scoped rs r.args a.alternative.parts ≡ true →
    all_bounds_to r.name (read_all (rule_reader rs r a) a.alternative.parts)
    ≡ map Some (replicate (count_parts (λ n. bytes_eq n r.name) a.alternative.parts) a.level)
bounds_on_every_side rs r a e side scoped =
    parts_bounds rs r a (λ i j. Some (bound_at every a.level a.level i j)) bound 0 0 a.alternative.parts scoped
    ∙ by_side a.level a.level every (count_parts (λ n. bytes_eq n r.name) a.alternative.parts)
  where
    bound : (before after : ℕ) → own_bound_in r a before after ≡ Some (bound_at every a.level a.level before after)
    bound before after =
        ap (λ (b : Bool). if b then Some (own_bound a.side a.level (previous_level r.places a.level) before after) else None) e
        ∙ ap (λ (s : Side). Some (own_bound s a.level (previous_level r.places a.level) before after)) side

-- ---- conditions

true_of : (value : ConditionValue) (c : Condition) (params : List NonterminalString) (args : ClosedSymbols) (o : Option ClosedSymbol) →
    bound_argument params args c.lhs.0 ≡ o → value_of value c o ≡ true → IsTrue value params args (Some c)
true_of value c params args None e h = absurd (cc h)
true_of value c params args (Some (terminal (quoted text))) e h = (text, e, h)
true_of value c params args (Some (terminal (regex text))) e h = absurd (cc h)
true_of value c params args (Some (terminal (bare text))) e h = absurd (cc h)
true_of value c params args (Some (terminal error_terminal)) e h = absurd (cc h)
true_of value c params args (Some error) e h = absurd (cc h)
true_of value c params args (Some (reference n b)) e h = absurd (cc h)
true_of value c params args (Some (call n gs)) e h = absurd (cc h)
true_of value c params args (Some (group gs)) e h = absurd (cc h)
true_of value c params args (Some (star x)) e h = absurd (cc h)
true_of value c params args (Some (plus x)) e h = absurd (cc h)
true_of value c params args (Some (question x)) e h = absurd (cc h)
true_of value c params args (Some (times n x)) e h = absurd (cc h)
true_of value c params args (Some (wrapped w g)) e h = absurd (cc h)
true_of value c params args (Some lookahead) e h = absurd (cc h)
true_of value c params args (Some lookbehind) e h = absurd (cc h)

is_true_of : (value : ConditionValue) (params : List NonterminalString) (args : ClosedSymbols) (c : Option Condition) →
    is_true value params args c ≡ true → IsTrue value params args c
is_true_of value params args None h = tt
is_true_of value params args (Some c) h = true_of value c params args (bound_argument params args c.lhs.0) refl h

is_true_from : (value : ConditionValue) (params : List NonterminalString) (args : ClosedSymbols) (c : Option Condition) →
    IsTrue value params args c → is_true value params args c ≡ true
is_true_from value params args None h = refl
is_true_from value params args (Some c) (text, e, h) = rw e h

abbrev level_of_place : Option (Option Leveled) → Leveled → Leveled
level_of_place (Some (Some a)) b = a
level_of_place _ b = b

pub conditions_decide : ConditionsDecide
conditions_decide value rs n r args k a found m f there = (holds, here)
  where
    holds : (parts : ClosedSymbols) × (instance_parts value rs args k (rule_named rs n) ≡ Some parts) → IsTrue value r.args args a.alternative.condition
    holds (parts, e) =
        let i = instance_of value rs args k r parts (rw found at e) in
        let same : i.alternative ≡ a = ap (λ o. level_of_place o a) (sym i.there ∙ there) in
        is_true_of value r.args args a.alternative.condition (rw same at i.holds)

    here : IsTrue value r.args args a.alternative.condition → (parts : ClosedSymbols) × (instance_parts value rs args k (rule_named rs n) ≡ Some parts)
    here h =
        let t = is_true_from value r.args args a.alternative.condition h in
        (read_all (macro_reader rs r args) a.alternative.parts, ap (instance_parts value rs args k) found ∙ rw (m, f, there, t) refl)
