-- The rules of a grammar and the rules that are made hold the clauses of their symbols.
use Rattle.std.proofs.Common.{◌≡◌, inl, inr, ℕ, zero, suc, ◌+◌, List, [], ◌∷◌, ◌++◌, map, Option, Some, None, Bool, true, false, not, ◌&&◌, refl, sym, ap, ap₂, ◌∙◌, subst, arith, append-nil}
use Rattle.std.specs.Prelude.{slice_get, filter, flat_map, bytes_eq, if◌then◌else◌}
use Rattle.std.proofs.lemmas.Bool.{and_parts}
use Rattle.std.proofs.lemmas.Slice.Eq.{bytes_eq-Decides}
use Rattle.lalrpop_norm_tree_names.specs.declared.names.Span.{Span}
use Rattle.lalrpop_norm_tree_names.specs.declared.names.NonterminalString.{NonterminalString}
use Rattle.lalrpop_norm_tree.specs.declared.symbol.RepeatOp.{RepeatOp}
use Rattle.lalrpop_norm_tree.specs.declared.symbol.RepeatOp.TheVariants.{Star, Plus, Question, Times}
use Rattle.lalrpop_norm_tree.specs.Symbols as written
use Rattle.lalrpop_norm_tree.specs.Symbols.{Part, Parts, at, no_parts, part_and}
use Rattle.lalrpop_norm_tree.specs.Items.{lookahead_code, lookbehind_code, AlternativeData, RuleData, ItemData, GrammarData, match_item, extern_item, intern_item, rule_item, use_item}
use Rattle.lalrpop_norm_tree.specs.SymbolTexts.{kind_text, part_text}
use Rattle.lalrpop_norm_theory.specs.Symbols.{Name, ClosedSymbols, reference, call, plus, replicated, no_symbols, symbol_and}
use Rattle.lalrpop_norm_theory.specs.Rounds.{In, IsDistinct}
use Rattle.lalrpop_norm_theory.specs.Meaning.{Meaning}
use Rattle.lalrpop_norm_theory.specs.Clauses.{Clause, numbered, step_clauses, clauses}
use Rattle.lalrpop_norm_theory.specs.Met.{BecomesRule}
use Rattle.lalrpop_norm_model.specs.Enabled.{all_places, present}
use Rattle.lalrpop_norm_model.specs.Scopes.{globals, resolved_grammar}
use Rattle.lalrpop_norm_model.specs.Levels.{Leveled, every, without_levels}
use Rattle.lalrpop_norm_model.specs.WrittenRules.{WrittenRule, flat_rule, flat_rules, rule_named}
use Rattle.lalrpop_norm_model.specs.Occurrences.{count_part}
use Rattle.lalrpop_norm_model.specs.Reading.{read_parts, read_all}
use Rattle.lalrpop_norm_model.specs.Grammars.{is_nil, is_own_level, bound_of, own_bound_in, rule_reader, parts_at, rule_parts, place_count, previous_bound, arguments_fit, is_true, instance_at, instance_parts, instance_count, ConditionValue, meaning, references}
use Rattle.lalrpop_norm_model.specs.Scoped.{takes, is_macro_for, is_scoped, are_scoped}
use Rattle.lalrpop_norm_model.specs.MadeRules.{argument_kind, flat_reader, instance_alternative, instance_alternatives, instance_rule, instance_of, macro_named, group_rule, star_rule, plus_rule, question_rule, so_many, times_rule, location_rule, made_rules}
use Rattle.lalrpop_norm_model.specs.PlainRules.{rule_of_item, all_rules, macros_of}
use Rattle.lalrpop_norm_model.specs.PlainTables.{closed, closed_parts, ground_unwrapped, all_unwrapped, IsRuleOf}
use Rattle.lalrpop_norm_model.specs.Laws.{MadeRulesAreRead, RulesAreRead}
use Rattle.lalrpop_norm_model.proofs.LevelLemmas.{in_map}
use Rattle.lalrpop_norm_model.proofs.LevelRuleLemmas.{numbered_parts, resolved_rule_places}
use Rattle.lalrpop_norm_model.proofs.SubstitutedLemmas.{parts_agree, flat_part, HaveNoBounds, no_bounds, flat_rules_are, parts_read}

-- ---- the rules of a resolved grammar

-- a rule of a resolved grammar, read without levels
abbrev pub flat_of : RuleData → WrittenRule
flat_of d = record { name = d.name.0; args = d.args; has_levels = false; places = without_levels (all_places d) }

map_within : {A B : Type 0} (f h : A → B) (xs : List A) → ((x : A) → In x xs → f x ≡ h x) → map f xs ≡ map h xs
map_within f h [] e = refl
map_within f h (x ∷ xs) e = ap₂ ◌∷◌ (e x (inl refl)) (map_within f h xs (λ y i. e y (inr i)))

pub item_of_rule : (d : RuleData) (is : List ItemData) → In d (flat_map rule_of_item is) → In (rule_item d) is
item_of_rule d [] h = absurd h
item_of_rule d (rule_item r ∷ is) (inl e) = inl (ap rule_item e)
item_of_rule d (rule_item r ∷ is) (inr h) = inr (item_of_rule d is h)
item_of_rule d (match_item m ∷ is) h = inr (item_of_rule d is h)
item_of_rule d (extern_item t ∷ is) h = inr (item_of_rule d is h)
item_of_rule d (intern_item t ∷ is) h = inr (item_of_rule d is h)
item_of_rule d (use_item u ∷ is) h = inr (item_of_rule d is h)

pub flat_rules_resolved : (g : GrammarData) → resolved_grammar g ≡ g → flat_rules g ≡ map flat_of (all_rules g)
flat_rules_resolved g e =
    flat_rules_are g
    ∙ map_within (λ r. flat_rule (globals g) r (all_places r)) flat_of (all_rules g)
    (λ d i. ap (λ ps. record { name = d.name.0; args = d.args; has_levels = false; places = without_levels ps })
    (resolved_rule_places g e d (item_of_rule d g.items i)))

abbrev pub macros_in : List RuleData → List RuleData
macros_in ds = filter (λ r. not (is_nil r.args)) ds

abbrev pub plain_in : List RuleData → List RuleData
plain_in ds = filter (λ r. is_nil r.args) ds

-- ---- macros by name

-- the macro that a call of so many arguments names
pub record Called (ds : List RuleData) (n : Name) (ps : Parts) : Type 0 where
  pub definition : RuleData
  pub listed : In definition ds
  pub named : macro_named (macros_in ds) n ≡ Some definition
  pub found : rule_named (map flat_of ds) n ≡ Some (flat_of definition)
  pub has_arguments : is_nil definition.args ≡ false
  pub fitting : takes definition.args ps ≡ true

called_here : (n : Name) (ps : Parts) (d : RuleData) (ds : List RuleData) (x y : Bool) → bytes_eq d.name.0 n ≡ x → is_nil d.args ≡ y →
    (is_macro_for ps (rule_named (map flat_of ds) n) ≡ true → Called ds n ps) →
    is_macro_for ps (if x then Some (flat_of d) else rule_named (map flat_of ds) n) ≡ true → Called (d ∷ ds) n ps
called_here n ps d ds true true e i f h = let t : (not true && takes d.args ps) ≡ true = rw i at h in absurd (cc t)
called_here n ps d ds true false e i f h = record {
  definition = d;
  listed = inl refl;
  named = rw (i, e) refl;
  found = rw e refl;
  has_arguments = i;
  fitting = let t : (not false && takes d.args ps) ≡ true = rw i at h in t;
}
called_here n ps d ds false true e i f h = let r = f h in record {
  definition = r.definition;
  listed = inr r.listed;
  named = rw i r.named;
  found = rw e r.found;
  has_arguments = r.has_arguments;
  fitting = r.fitting;
}
called_here n ps d ds false false e i f h = let r = f h in record {
  definition = r.definition;
  listed = inr r.listed;
  named = rw (i, e) r.named;
  found = rw e r.found;
  has_arguments = r.has_arguments;
  fitting = r.fitting;
}

pub called_of : (ds : List RuleData) (n : Name) (ps : Parts) → is_macro_for ps (rule_named (map flat_of ds) n) ≡ true → Called ds n ps
called_of [] n ps h = absurd (cc h)
called_of (d ∷ ds) n ps h = called_here n ps d ds (bytes_eq d.name.0 n) (is_nil d.args) refl refl (called_of ds n ps) h

pub called_name : (ds : List RuleData) (n : Name) (d : RuleData) → macro_named ds n ≡ Some d → d.name.0 ≡ n
called_name [] n d h = absurd (grind arith)
called_name (x ∷ ds) n d h = by (bytes_eq x.name.0 n) refl (called_name ds n d) h
  where
    by : (b : Bool) → bytes_eq x.name.0 n ≡ b → (macro_named ds n ≡ Some d → d.name.0 ≡ n) →
        (if b then Some x else macro_named ds n) ≡ Some d → d.name.0 ≡ n
    by true e f i = let same : x ≡ d = cc i in ap (λ (r : RuleData). r.name.0) (sym same) ∙ (bytes_eq-Decides x.name.0 n).0 e
    by false e f i = f i

-- ---- rules by name

pub rule_listed : (ds : List RuleData) → IsDistinct (map (λ (r : RuleData). r.name.0) ds) → (d : RuleData) → In d ds →
    rule_named (map flat_of ds) d.name.0 ≡ Some (flat_of d)
rule_listed [] D d h = absurd h
rule_listed (x ∷ ds) D d (inl e) =
    subst (λ (r : RuleData). rule_named (map flat_of (x ∷ ds)) r.name.0 ≡ Some (flat_of r)) (sym e)
    (rw ((bytes_eq-Decides x.name.0 x.name.0).1 refl) refl)
rule_listed (x ∷ ds) D d (inr h) = by (bytes_eq x.name.0 d.name.0) refl (rule_listed ds D.1 d h)
  where
    by : (b : Bool) → bytes_eq x.name.0 d.name.0 ≡ b → rule_named (map flat_of ds) d.name.0 ≡ Some (flat_of d) →
        (if b then Some (flat_of x) else rule_named (map flat_of ds) d.name.0) ≡ Some (flat_of d)
    by true e f =
        absurd (D.0 (subst (λ (n : Name). In n (map (λ (r : RuleData). r.name.0) ds)) (sym ((bytes_eq-Decides x.name.0 d.name.0).0 e))
        (in_map (λ (r : RuleData). r.name.0) d ds h)))
    by false e f = f

-- a rule kept by the test that it has no arguments
pub plain_listed : (ds : List RuleData) (d : RuleData) → In d (plain_in ds) → In d ds × (is_nil d.args ≡ true)
plain_listed [] d h = absurd h
plain_listed (x ∷ ds) d h = by (is_nil x.args) refl (plain_listed ds d) h
  where
    by : (b : Bool) → is_nil x.args ≡ b → (In d (plain_in ds) → In d ds × (is_nil d.args ≡ true)) →
        In d (if b then x ∷ plain_in ds else plain_in ds) → In d (x ∷ ds) × (is_nil d.args ≡ true)
    by true e f (inl i) = (inl i, ap (λ (r : RuleData). is_nil r.args) i ∙ e)
    by true e f (inr i) = let r = f i in (inr r.0, r.1)
    by false e f i = let r = f i in (inr r.0, r.1)

pub references_are : (ds : List RuleData) →
    references (map flat_of ds) ≡ map (λ (r : RuleData). reference r.name.0 None) (plain_in ds)
references_are [] = refl
references_are (d ∷ ds) = by (is_nil d.args) (references_are ds)
  where
    by : (b : Bool) → references (map flat_of ds) ≡ map (λ (r : RuleData). reference r.name.0 None) (plain_in ds) →
        (if not b then [] else reference d.name.0 None ∷ []) ++ references (map flat_of ds)
        ≡ map (λ (r : RuleData). reference r.name.0 None) (if b then d ∷ plain_in ds else plain_in ds)
    by true h = ap (λ gs. reference d.name.0 None ∷ gs) h
    by false h = h

-- ---- clauses

pub fits_read : (params : List NonterminalString) (before after : ℕ) (ps : Parts) → arguments_fit params (read_parts flat_reader before after ps) ≡ takes params ps
fits_read [] before after no_parts = refl
fits_read [] before after (part_and p ps) = refl
fits_read (a ∷ params) before after no_parts = refl
fits_read (a ∷ params) before after (part_and p ps) = fits_read params (before + count_part flat_reader.is_own p) after ps

listed_if : (b : Bool) (a : AlternativeData) (rest : List AlternativeData) (q : ClosedSymbols) (more : List (Option ClosedSymbols)) →
    closed_parts a ≡ q → map closed_parts rest ≡ present more →
    map closed_parts (if b then a ∷ rest else rest) ≡ present ((if b then Some q else None) ∷ more)
listed_if true a rest q more e h = ap₂ ◌∷◌ e h
listed_if false a rest q more e h = h

unwrapped_clauses : (cs : List Clause) → map all_unwrapped (map (λ (c : Clause). c.parts) cs) ≡ map (λ (c : Clause). all_unwrapped c.parts) cs
unwrapped_clauses [] = refl
unwrapped_clauses (c ∷ cs) = ap (λ gs. all_unwrapped c.parts ∷ gs) (unwrapped_clauses cs)

unwrapped_alternatives : (xs : List AlternativeData) →
    map all_unwrapped (map closed_parts xs) ≡ map (λ (a : AlternativeData). all_unwrapped (closed_parts a)) xs
unwrapped_alternatives [] = refl
unwrapped_alternatives (a ∷ xs) = ap (λ gs. all_unwrapped (closed_parts a) ∷ gs) (unwrapped_alternatives xs)

-- what is held as it is is held
pub held : (xs : List AlternativeData) (cs : List Clause) → map closed_parts xs ≡ map (λ (c : Clause). c.parts) cs →
    map (λ (a : AlternativeData). all_unwrapped (closed_parts a)) xs ≡ map (λ (c : Clause). all_unwrapped c.parts) cs
held xs cs e = sym (unwrapped_alternatives xs) ∙ ap (map all_unwrapped) e ∙ unwrapped_clauses cs

whole_rule : (M : Meaning) (p : Part) (r : RuleData) → r.name.0 ≡ part_text p →
    map closed_parts r.alternatives ≡ map (λ (c : Clause). c.parts) (clauses M (closed p)) → IsRuleOf M p r
whole_rule M p r n e = record { name = n; clauses_held = held r.alternatives (clauses M (closed p)) e; held_as_they_are = λ i. e }

many_read : (n before after : ℕ) (p : Part) → read_parts flat_reader before after (so_many n p) ≡ replicated n (closed p)
many_read zero before after p = refl
many_read (suc n) before after p =
    ap₂ symbol_and (flat_part before _ 0 0 p) (many_read n (before + count_part flat_reader.is_own p) after p)

module _ (value : ConditionValue) (ds : List RuleData) where
  abbrev pub meaning_read : Meaning
  meaning_read = meaning value (map flat_of ds)

  flat : HaveNoBounds (map flat_of ds)
  flat = no_bounds flat_of (λ d. refl) ds

  -- ---- calls

  module _ (s : Span) (n : Name) (ps : Parts) (d : RuleData) (found : rule_named (map flat_of ds) n ≡ Some (flat_of d))
      (has_arguments : is_nil d.args ≡ false) (fitting : takes d.args ps ≡ true) where
    abbrev instance_read : Option Leveled → Option ClosedSymbols
    instance_read x = instance_at value (map flat_of ds) (flat_of d) (read_all flat_reader ps) (Some x)

    instances_read : (xs : List AlternativeData) →
        map closed_parts (instance_alternatives value s d ps xs) ≡ present (map instance_read (without_levels (map Some xs)))
    instances_read [] = refl
    instances_read (a ∷ xs) =
        listed_if (is_true value d.args (read_all flat_reader ps) a.condition) (instance_alternative s (argument_kind d.args ps) a)
        (instance_alternatives value s d ps xs) _ (map instance_read (without_levels (map Some xs)))
        (parts_read (map flat_of ds) flat (flat_of d) ps 0 0 0 0 a.parts) (instances_read xs)

    call_parts_at : (i : ℕ) (x : Option Leveled) → slice_get (without_levels (all_places d)) i ≡ Some x →
        meaning_read.call_parts n (read_all flat_reader ps) (0 + i) ≡ instance_read x
    call_parts_at i x e =
        let same : 0 + i ≡ i = omega arith in
        let fit : arguments_fit d.args (read_all flat_reader ps) ≡ true = fits_read d.args 0 0 ps ∙ fitting in
        rw same (ap (instance_parts value (map flat_of ds) (read_all flat_reader ps) i) found
        ∙ rw (has_arguments, fit) (ap (instance_at value (map flat_of ds) (flat_of d) (read_all flat_reader ps)) e))

    pub call_read : map closed_parts (instance_rule value s d ps).alternatives
        ≡ map (λ (c : Clause). c.parts) (clauses meaning_read (call n (read_all flat_reader ps)))
    call_read =
        instances_read d.alternatives
        ∙ sym (numbered_parts n (meaning_read.call_parts n (read_all flat_reader ps)) instance_read 0 (without_levels (all_places d)) call_parts_at)
        ∙ ap (λ k. map (λ (c : Clause). c.parts) (numbered n (meaning_read.call_parts n (read_all flat_reader ps)) 0 k))
        (sym (ap instance_count found ∙ rw has_arguments refl))

  -- ---- rules

  module _ (d : RuleData) (found : rule_named (map flat_of ds) d.name.0 ≡ Some (flat_of d)) (plain : is_nil d.args ≡ true) where
    abbrev own_read : Option Leveled → Option ClosedSymbols
    own_read x = parts_at (map flat_of ds) (flat_of d) (is_own_level None (flat_of d)) (Some x)

    name_read : (a : Leveled) (n : Name) (before after : ℕ) (x : Bool) →
        None ≡ (if x then own_bound_in (flat_of d) a before after else bound_of (rule_named (map flat_of ds) n))
    name_read a n before after true = refl
    name_read a n before after false = sym (flat n)

    own_listed : (xs : List AlternativeData) → map closed_parts xs ≡ present (map own_read (without_levels (map Some xs)))
    own_listed [] = refl
    own_listed (a ∷ xs) =
        let l : Leveled = record { level = 0; side = every; alternative = a } in
        ap₂ ◌∷◌
        (parts_agree flat_reader (rule_reader (map flat_of ds) (flat_of d) l)
        (λ n b c before after. ap (reference n) (name_read l n before after (bytes_eq n d.name.0))) 0 0 0 0 a.parts)
        (own_listed xs)

    own_parts_at : (i : ℕ) (x : Option Leveled) → slice_get (without_levels (all_places d)) i ≡ Some x →
        meaning_read.own_parts d.name.0 None (0 + i) ≡ own_read x
    own_parts_at i x e =
        let same : 0 + i ≡ i = omega arith in
        rw same (ap (rule_parts (map flat_of ds) (is_own_level None) i) found
        ∙ rw plain (ap (parts_at (map flat_of ds) (flat_of d) (is_own_level None (flat_of d))) e))

    previous_read : meaning_read.previous d.name.0 None ≡ None
    previous_read = ap (λ o. previous_bound o None) found

    pub rule_read : map closed_parts d.alternatives ≡ map (λ (c : Clause). c.parts) (clauses meaning_read (reference d.name.0 None))
    rule_read =
        own_listed d.alternatives
        ∙ sym (numbered_parts d.name.0 (meaning_read.own_parts d.name.0 None) own_read 0 (without_levels (all_places d)) own_parts_at)
        ∙ ap (λ k. map (λ (c : Clause). c.parts) (numbered d.name.0 (meaning_read.own_parts d.name.0 None) 0 k)) (sym (ap place_count found))
        ∙ ap (map (λ (c : Clause). c.parts))
        (sym (append-nil (numbered d.name.0 (meaning_read.own_parts d.name.0 None) 0 (meaning_read.reference_count d.name.0)))
        ∙ ap (λ o. numbered d.name.0 (meaning_read.own_parts d.name.0 None) 0 (meaning_read.reference_count d.name.0) ++ step_clauses d.name.0 o)
        (sym previous_read))

  -- ---- generated rules

  abbrev pub OneRule : Part → Type 0
  OneRule p = (r : RuleData) × (made_rules value (macros_in ds) p ≡ r ∷ []) × IsRuleOf meaning_read p r

  repeat_made : (s : Span) (op : RepeatOp) (p : Part) → OneRule (at s (written.repeated op p))
  repeat_made s Star p = (star_rule s p, refl, record { name = refl; clauses_held = refl; held_as_they_are = λ i. absurd (cc i) })
  repeat_made s Plus p = (
    plus_rule s p,
    refl,
    record {
      name = refl;
      clauses_held =
          ap₂ (λ x y. symbol_and (ground_unwrapped (closed p)) no_symbols ∷ (symbol_and (plus x) (symbol_and (ground_unwrapped y) no_symbols) ∷ []))
          (flat_part 0 _ 0 0 p) (flat_part _ 0 0 0 p);
      held_as_they_are = λ i. absurd (cc i);
    },
  )
  repeat_made s Question p = (question_rule s p, refl, whole_rule meaning_read (at s (written.repeated Question p)) (question_rule s p) refl refl)
  repeat_made s (Times n) p = (
    times_rule s n p,
    refl,
    whole_rule meaning_read (at s (written.repeated (Times n) p)) (times_rule s n p) refl (ap (λ gs. gs ∷ []) (many_read n 0 0 p)),
  )

  pub rule_made : (p : Part) → is_scoped (map flat_of ds) [] p ≡ true → BecomesRule (closed p) → OneRule p
  rule_made (at s (written.group ps)) h e = (group_rule s ps, refl, whole_rule meaning_read _ _ refl refl)
  rule_made (at s (written.call n ps)) h e =
      let c = called_of ds n ps (and_parts (is_macro_for ps (rule_named (map flat_of ds) n)) (are_scoped (map flat_of ds) [] ps) h).0 in (
        instance_rule value s c.definition ps,
        ap (λ o. instance_of value s o ps) c.named,
        whole_rule meaning_read (at s (written.call n ps)) (instance_rule value s c.definition ps)
            (ap (λ m. kind_text (written.call m ps)) (called_name (macros_in ds) n c.definition c.named))
            (call_read s n ps c.definition c.found c.has_arguments c.fitting),
      )
  rule_made (at s (written.repeated op p)) h e = repeat_made s op p
  rule_made (at s written.lookahead) h e = (location_rule s written.lookahead lookahead_code, refl, whole_rule meaning_read _ _ refl refl)
  rule_made (at s written.lookbehind) h e = (location_rule s written.lookbehind lookbehind_code, refl, whole_rule meaning_read _ _ refl refl)
  rule_made _ h e = absurd e

-- ---- laws

pub made_rules_are_read : MadeRulesAreRead
made_rules_are_read value g e S p h x =
    subst (λ (rs : List WrittenRule). is_scoped rs [] p ≡ true →
    (r : RuleData) × (made_rules value (macros_of g) p ≡ r ∷ []) × IsRuleOf (meaning value rs) p r)
    (sym (flat_rules_resolved g e)) (λ i. rule_made value (all_rules g) p i x) h

pub rules_are_read : RulesAreRead
rules_are_read value g S = (
  ap references (flat_rules_resolved g S.resolved) ∙ references_are (all_rules g),
  λ r i. subst (λ (rs : List WrittenRule).
      map closed_parts r.alternatives ≡ map (λ (c : Clause). c.parts) (clauses (meaning value rs) (reference r.name.0 None)))
      (sym (flat_rules_resolved g S.resolved))
      (let l = plain_listed (all_rules g) r i in rule_read value (all_rules g) r (rule_listed (all_rules g) S.once r l.0) l.1),
)
