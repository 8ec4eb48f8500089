-- The rule of a level holds the clauses of that level.
use Rattle.std.proofs.Common.{◌≡◌, inl, inr, ℕ, suc, ◌+◌, List, [], ◌∷◌, ◌++◌, map, length, Option, Some, None, Bool, true, false, not, ◌&&◌, refl, sym, ap, ap₂, ◌∙◌, subst, arith}
use Rattle.std.specs.Prelude.{slice_get, option_map, bytes_eq, nat_eq, if◌then◌else◌}
use Rattle.std.proofs.lemmas.Bool.{eq-eqb}
use Rattle.std.proofs.lemmas.List.{map-append}
use Rattle.std.proofs.lemmas.Slice.Eq.{bytes_eq-Decides}
use Rattle.lalrpop_norm_tree.specs.Items.{AlternativeData, RuleData, ItemData, GrammarData, rule_item}
use Rattle.lalrpop_norm_theory.specs.Symbols.{Name, ClosedSymbols, reference, no_symbols, symbol_and}
use Rattle.lalrpop_norm_theory.specs.Rounds.{In}
use Rattle.lalrpop_norm_theory.specs.Clauses.{Clause, clause_and, numbered, step_clauses, clauses}
use Rattle.lalrpop_norm_theory.specs.Leveled.{level_reference, leveled_symbols}
use Rattle.lalrpop_norm_model.specs.Enabled.{all_places, present}
use Rattle.lalrpop_norm_model.specs.Scopes.{globals, sense_of, resolved_alternative, resolved_rule, resolved_item, resolved_grammar}
use Rattle.lalrpop_norm_model.specs.Levels.{Leveled, has_levels, with_levels, highest_level, previous_level}
use Rattle.lalrpop_norm_model.specs.WrittenRules.{WrittenRule, resolved_places, written_rule_with_levels, leveled_rules, rule_named}
use Rattle.lalrpop_norm_model.specs.Occurrences.{own_bound}
use Rattle.lalrpop_norm_model.specs.Reading.{read_all}
use Rattle.lalrpop_norm_model.specs.Grammars.{is_nil, has_arguments, is_own_level, bound_of, own_bound_in, rule_reader, parts_at, rule_parts, place_count, previous_bound, ConditionValue, meaning}
use Rattle.lalrpop_norm_model.specs.ClosedTexts.{level_name, named_level, level_names}
use Rattle.lalrpop_norm_model.specs.MadeRules.{flat_reader}
use Rattle.lalrpop_norm_model.specs.LevelRules.{leveled_parts, level_nonterminal, level_of_rule, level_alternative, step_alternatives, of_level, level_rule}
use Rattle.lalrpop_norm_model.specs.Scoped.{are_scoped}
use Rattle.lalrpop_norm_model.specs.Laws.{LevelRulesAreRead}
use Rattle.lalrpop_norm_model.proofs.ReadingLemmas.{parts_leveled}
use Rattle.lalrpop_norm_model.proofs.ScopeLemmas.{rule_found}

-- ---- clauses of indices

clause_parts : (n : Name) (k : ℕ) (o p : Option ClosedSymbols) → o ≡ p → (rest : List Clause) (xs : List (Option ClosedSymbols)) →
    map (λ (c : Clause). c.parts) rest ≡ present xs → map (λ (c : Clause). c.parts) (clause_and n k o rest) ≡ present (p ∷ xs)
clause_parts n k o None e rest xs h = rw e h
clause_parts n k o (Some q) e rest xs h = rw e (ap (λ qs. q ∷ qs) h)

-- the parts of the clauses of numbered alternatives are what is at the indices
pub numbered_parts : {A : Type 0} (n : Name) (f : ℕ → Option ClosedSymbols) (h : A → Option ClosedSymbols) (j : ℕ) (xs : List A) →
    ((i : ℕ) (x : A) → slice_get xs i ≡ Some x → f (j + i) ≡ h x) → map (λ (c : Clause). c.parts) (numbered n f j (length xs)) ≡ present (map h xs)
numbered_parts n f h j [] e = refl
numbered_parts n f h j (x ∷ xs) e =
    let here : j + 0 ≡ j = omega arith in
    clause_parts n j (f j) (h x) (ap f (sym here) ∙ e 0 x refl) (numbered n f (suc j) (length xs)) (map h xs)
    (numbered_parts n f h (suc j) xs (λ i y s. let next : suc j + i ≡ j + suc i = omega arith in ap f next ∙ e (suc i) y s))

-- ---- names of levels

pub name_highest : (n : Name) (h : ℕ) → level_name n h h ≡ n
name_highest n h = rw (eq-eqb h h refl) refl

module _ (rs : List WrittenRule) where
  -- a reference from elsewhere keeps its name
  pub others_named : (n : Name) (o : Option WrittenRule) → rule_named rs n ≡ o → level_reference (level_names rs) n (bound_of o) ≡ n
  others_named n None e = refl
  others_named n (Some s) e = by s.has_levels (has_arguments s)
    where
      by : (x y : Bool) → level_reference (level_names rs) n (if x && not y then Some (highest_level s.places) else None) ≡ n
      by true false = ap (λ o. named_level o n (highest_level s.places)) e ∙ name_highest n (highest_level s.places)
      by true true = refl
      by false y = refl

  pub map_parts : (cs : List Clause) → map (λ (c : Clause). leveled_symbols (level_names rs) c.parts) cs ≡ map (leveled_symbols (level_names rs)) (map (λ (c : Clause). c.parts) cs)
  map_parts [] = refl
  map_parts (c ∷ cs) = ap (λ gs. leveled_symbols (level_names rs) c.parts ∷ gs) (map_parts cs)

  -- ---- a rule with levels

  module _ (d : RuleData) (ps : List (Option Leveled)) where
    abbrev pub whole : WrittenRule
    whole = record { name = d.name.0; args = d.args; has_levels = true; places = ps }

    module _ (found : rule_named rs d.name.0 ≡ Some whole) (plain : is_nil d.args ≡ true)
        (scoped : (a : Leveled) → In (Some a) ps → are_scoped rs d.args a.alternative.parts ≡ true) where
      level_named : (l : ℕ) → level_names rs d.name.0 l ≡ level_of_rule d ps l
      level_named l = ap (λ o. named_level o d.name.0 l) found

      abbrev level_at_place : Leveled → ℕ → ℕ → Name
      level_at_place a before after = level_of_rule d ps (own_bound a.side a.level (previous_level ps a.level) before after)

      name_read : (a : Leveled) (n : Name) (before after : ℕ) (x : Bool) → bytes_eq n d.name.0 ≡ x →
          level_reference (level_names rs) n (if x then own_bound_in whole a before after else bound_of (rule_named rs n))
          ≡ (if x then level_at_place a before after else n)
      name_read a n before after true e =
          ap (λ m. level_names rs m (own_bound a.side a.level (previous_level ps a.level) before after)) ((bytes_eq-Decides n d.name.0).0 e)
          ∙ level_named (own_bound a.side a.level (previous_level ps a.level) before after)
      name_read a n before after false e = others_named n (rule_named rs n) refl

      own_read : (a : Leveled) → In (Some a) ps →
          leveled_symbols (level_names rs) (read_all (rule_reader rs whole a) a.alternative.parts) ≡ read_all flat_reader (level_alternative d ps a).parts
      own_read a i =
          subst (λ (b : Bool). leveled_symbols (level_names rs) (read_all (rule_reader rs whole a) a.alternative.parts)
          ≡ read_all flat_reader (leveled_parts (λ n. b && bytes_eq n d.name.0) (level_nonterminal (level_at_place a)) 0 0 a.alternative.parts)) (sym plain)
          (parts_leveled rs d.args (level_names rs) (rule_reader rs whole a) flat_reader (level_at_place a)
          (λ n before after b c. ap (λ m. reference m None) (name_read a n before after (bytes_eq n d.name.0) refl))
          0 0 0 0 a.alternative.parts (scoped a i))

      -- what an alternative of the level is read as
      abbrev read_own : ℕ → Option Leveled → Option ClosedSymbols
      read_own l x = parts_at rs whole (is_own_level (Some l) whole) (Some x)

      level_here : (l : ℕ) (a : Leveled) (qs : List (Option Leveled)) (x : Bool) →
          leveled_symbols (level_names rs) (read_all (rule_reader rs whole a) a.alternative.parts) ≡ read_all flat_reader (level_alternative d ps a).parts →
          map (λ (b : AlternativeData). read_all flat_reader b.parts) (map (level_alternative d ps) (of_level l (present qs)))
          ≡ map (leveled_symbols (level_names rs)) (present (map (read_own l) qs)) →
          map (λ (b : AlternativeData). read_all flat_reader b.parts) (map (level_alternative d ps) (if x then a ∷ of_level l (present qs) else of_level l (present qs)))
          ≡ map (leveled_symbols (level_names rs))
          (present ((if x then Some (read_all (rule_reader rs whole a) a.alternative.parts) else None) ∷ map (read_own l) qs))
      level_here l a qs true e h = ap₂ (λ g gs. g ∷ gs) (sym e) h
      level_here l a qs false e h = h

      level_listed : (l : ℕ) (qs : List (Option Leveled)) → ((a : Leveled) → In (Some a) qs → In (Some a) ps) →
          map (λ (b : AlternativeData). read_all flat_reader b.parts) (map (level_alternative d ps) (of_level l (present qs)))
          ≡ map (leveled_symbols (level_names rs)) (present (map (read_own l) qs))
      level_listed l [] within = refl
      level_listed l (None ∷ qs) within = level_listed l qs (λ a i. within a (inr i))
      level_listed l (Some a ∷ qs) within =
          level_here l a qs (nat_eq a.level l) (own_read a (within a (inl refl))) (level_listed l qs (λ b i. within b (inr i)))

      step_read : (o : Option ℕ) → map (λ (b : AlternativeData). read_all flat_reader b.parts) (step_alternatives d ps o)
          ≡ map (λ (c : Clause). leveled_symbols (level_names rs) c.parts) (step_clauses d.name.0 (option_map Some o))
      step_read None = refl
      step_read (Some m) = ap (λ n. symbol_and (reference n None) no_symbols ∷ []) (sym (level_named m))

      own_parts_at : (value : ConditionValue) (l i : ℕ) (x : Option Leveled) → slice_get ps i ≡ Some x →
          (meaning value rs).own_parts d.name.0 (Some l) (0 + i) ≡ read_own l x
      own_parts_at value l i x e =
          let same : 0 + i ≡ i = omega arith in
          rw same (ap (rule_parts rs (is_own_level (Some l)) i) found ∙ rw plain (ap (parts_at rs whole (is_own_level (Some l) whole)) e))

      own_clauses_read : (value : ConditionValue) (l : ℕ) →
          map (λ (c : Clause). c.parts) (numbered d.name.0 ((meaning value rs).own_parts d.name.0 (Some l)) 0 ((meaning value rs).reference_count d.name.0))
          ≡ present (map (read_own l) ps)
      own_clauses_read value l =
          ap (λ k. map (λ (c : Clause). c.parts) (numbered d.name.0 ((meaning value rs).own_parts d.name.0 (Some l)) 0 k)) (ap place_count found)
          ∙ numbered_parts d.name.0 ((meaning value rs).own_parts d.name.0 (Some l)) (read_own l) 0 ps (own_parts_at value l)

      previous_read : (value : ConditionValue) (l : ℕ) → (meaning value rs).previous d.name.0 (Some l) ≡ option_map Some (previous_level ps l)
      previous_read value l = ap (λ o. previous_bound o (Some l)) found ∙ rw plain refl

      pub level_read : (value : ConditionValue) (l : ℕ) →
          map (λ (b : AlternativeData). read_all flat_reader b.parts) (level_rule d ps l).alternatives
          ≡ map (λ (c : Clause). leveled_symbols (level_names rs) c.parts) (clauses (meaning value rs) (reference d.name.0 (Some l)))
      level_read value l =
          map-append (λ (b : AlternativeData). read_all flat_reader b.parts) (map (level_alternative d ps) (of_level l (present ps))) (step_alternatives d ps (previous_level ps l))
          ∙ ap₂ ◌++◌
          (level_listed l ps (λ a i. i) ∙ ap (map (leveled_symbols (level_names rs))) (sym (own_clauses_read value l)) ∙ sym (map_parts _))
          (step_read (previous_level ps l) ∙ ap (λ o. map (λ (c : Clause). leveled_symbols (level_names rs) c.parts) (step_clauses d.name.0 o)) (sym (previous_read value l)))
          ∙ sym (map-append (λ (c : Clause). leveled_symbols (level_names rs) c.parts)
          (numbered d.name.0 ((meaning value rs).own_parts d.name.0 (Some l)) 0 ((meaning value rs).reference_count d.name.0))
          (step_clauses d.name.0 ((meaning value rs).previous d.name.0 (Some l))))

-- ---- a resolved grammar

abbrev alternatives_in : ItemData → List AlternativeData
alternatives_in (rule_item r) = r.alternatives
alternatives_in _ = []

same_item : {A : Type 0} (f : A → A) (xs : List A) (x : A) → map f xs ≡ xs → In x xs → f x ≡ x
same_item f [] x e h = absurd h
same_item {A} f (y ∷ xs) x e (inl i) = subst (λ (z : A). f z ≡ z) (sym i) (cc e)
same_item f (y ∷ xs) x e (inr h) = same_item f xs x (cc e) h

somes : {A : Type 0} (f : A → A) (xs : List A) → map (option_map f) (map Some xs) ≡ map Some (map f xs)
somes f [] = refl
somes f (x ∷ xs) = ap (λ ys. Some (f x) ∷ ys) (somes f xs)

-- the alternatives of a rule of a resolved grammar are resolved
pub resolved_rule_places : (g : GrammarData) → resolved_grammar g ≡ g → (d : RuleData) → In (rule_item d) g.items →
    resolved_places (globals g) d (all_places d) ≡ all_places d
resolved_rule_places g e d i =
    let items : map (resolved_item (globals g)) g.items ≡ g.items = ap (λ (h : GrammarData). h.items) e in
    let item : rule_item (resolved_rule (globals g) d) ≡ rule_item d = same_item (resolved_item (globals g)) g.items (rule_item d) items i in
    somes (resolved_alternative (sense_of (globals g) d.args)) d.alternatives ∙ ap (map Some) (ap alternatives_in item)

pub leveled_whole : (g : GrammarData) → resolved_grammar g ≡ g → (d : RuleData) → In (rule_item d) g.items → has_levels (all_places d) ≡ true →
    written_rule_with_levels (globals g) d (all_places d) ≡ whole (leveled_rules g) d (with_levels (all_places d))
leveled_whole g e d i h =
    ap₂ (λ (b : Bool) ps. record { name = d.name.0; args = d.args; has_levels = b; places = with_levels ps }) h (resolved_rule_places g e d i)

pub level_rules_are_read : LevelRulesAreRead
level_rules_are_read value g e S d i found h plain l =
    level_read (leveled_rules g) d (with_levels (all_places d)) (found ∙ ap Some is) plain scoped value l
  where
    is : written_rule_with_levels (globals g) d (all_places d) ≡ whole (leveled_rules g) d (with_levels (all_places d))
    is = leveled_whole g e d i h

    scoped : (a : Leveled) → In (Some a) (with_levels (all_places d)) → are_scoped (leveled_rules g) d.args a.alternative.parts ≡ true
    scoped a j =
        S (written_rule_with_levels (globals g) d (all_places d)) a (rule_found (leveled_rules g) d.name.0 (written_rule_with_levels (globals g) d (all_places d)) found).0
        (subst (λ (r : WrittenRule). In (Some a) r.places) (sym is) j)
