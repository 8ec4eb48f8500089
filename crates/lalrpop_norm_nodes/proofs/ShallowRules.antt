-- The rules that symbols are desugared to, from these with their parts rewritten.
use Rattle.std.proofs.Common.{◌≡◌, ℕ, zero, suc, List, [], ◌∷◌, Bool, true, false, cond, map, Option, Some, None, option_map, bytes_eq, codes, refl, sym, ap, ap₂, ◌∙◌}
use Rattle.lalrpop_norm_tree_names.specs.declared.names.NonterminalString.{NonterminalString}
use Rattle.lalrpop_norm_tree_names.specs.declared.names.Span.{Span}
use Rattle.lalrpop_norm_tree.specs.declared.symbol.RepeatOp.{RepeatOp}
use Rattle.lalrpop_norm_tree.specs.declared.symbol.RepeatOp.TheVariants.{Star, Plus, Question, Times}
use Rattle.lalrpop_norm_tree.specs.Items.{AlternativeData, RuleData, private}
use Rattle.lalrpop_norm_tree.specs.Symbols.{Kind, Parts, group, nonterminal, call, repeated, at, no_parts, part_and}
use Rattle.lalrpop_norm_tree.specs.SymbolTexts.{kind_text}
use Rattle.lalrpop_norm_tree.specs.Types.{TypeData, of_symbol, nominal, no_types, type_and}
use Rattle.lalrpop_norm_model.specs.Grammars.{ConditionValue, is_true}
use Rattle.lalrpop_norm_model.specs.Reading.{read_all}
use Rattle.lalrpop_norm_model.specs.MadeRules.{inline_at, coded, type_of_kind, bare_or_tuple, group_sources, bare_or_tuple_code, group_rule, only_part, so_many, with_name, vector_path, option_path, repeat_rule, argument_kind, or_name, all_substituted, type_substituted, flat_reader, instance_alternative, instance_alternatives, instance_rule}
use Rattle.lalrpop_norm_model.specs.PlainRules.{replaced_rule}
use Rattle.lalrpop_norm_model.specs.Replaced.{replaced_kind, all_replaced}
use Rattle.lalrpop_norm_nodes.specs.Apart.{unplaced_kind, all_unplaced}
use Rattle.lalrpop_norm_nodes.proofs.ReplacedSources.{types_of_replaced, code_of_replaced}
use Rattle.lalrpop_norm_nodes.proofs.ShallowConditions.{kept_in, kept_replaced}
use Rattle.lalrpop_norm_nodes.proofs.ShallowKinds.{type_so}
use Rattle.lalrpop_norm_nodes.proofs.TwiceLemmas.{kind_twice, inside_text}

-- ---- what arguments are bound to

module _ (f : Kind → Kind) (g : Parts → Parts) (none : g no_parts ≡ no_parts)
    (each : (s : Span) (k : Kind) (ps : Parts) → (t : Span) × (g (part_and (at s k) ps) ≡ part_and (at t (f k)) (g ps))) where
  argument_mapped : (names : List NonterminalString) (ps : Parts) (n : List ℕ) → argument_kind names (g ps) n ≡ option_map f (argument_kind names ps n)
  argument_mapped [] ps n = refl
  argument_mapped (a ∷ names) no_parts n = ap (λ qs. argument_kind (a ∷ names) qs n) none
  argument_mapped (a ∷ names) (part_and (at s k) ps) n =
      ap (λ qs. argument_kind (a ∷ names) qs n) (each s k ps).1 ∙ by (bytes_eq a.0 n) (argument_mapped names ps n)
    where
      by : (b : Bool) → argument_kind names (g ps) n ≡ option_map f (argument_kind names ps n) →
          cond b (Some (f k)) (argument_kind names (g ps) n) ≡ option_map f (cond b (Some k) (argument_kind names ps n))
      by true h = refl
      by false h = h

pub argument_replaced : (names : List NonterminalString) (ps : Parts) (n : List ℕ) →
    argument_kind names (all_replaced ps) n ≡ option_map replaced_kind (argument_kind names ps n)
argument_replaced = argument_mapped replaced_kind all_replaced refl (λ s k ps. (s, refl))

pub argument_unplaced : (names : List NonterminalString) (ps : Parts) (n : List ℕ) →
    argument_kind names (all_unplaced ps) n ≡ option_map unplaced_kind (argument_kind names ps n)
argument_unplaced = argument_mapped unplaced_kind all_unplaced refl (λ s k ps. (_, refl))

-- ---- groups

-- the rule of a group with its symbols replaced is that of the group whose symbols are replaced
pub group_replaced : (s : Span) (ps : Parts) → replaced_rule (group_rule s ps) ≡ group_rule s (all_replaced ps)
group_replaced s ps =
    ap (λ t. made t (map type_of_kind (group_sources ps)) (bare_or_tuple_code (group_sources ps))) (sym (inside_text (group ps)))
    ∙ ap₂ (made (kind_text (group (all_replaced ps)))) (sym (types_of_replaced ps)) (sym (code_of_replaced ps))
  where
    made : List ℕ → List TypeData → List ℕ → RuleData
    made t ts c = record {
      visibility = private;
      name = record { 0 = t };
      attributes = inline_at s;
      span = s;
      args = [];
      type_decl = Some (bare_or_tuple ts);
      alternatives = coded s (all_replaced ps) c ∷ [];
    }

-- ---- repeats

-- so many symbols of one name
many_bound : (c : ℕ) (sp : Span) (n : List ℕ) (f : List ℕ → Option Kind) →
    all_substituted f (so_many c (at sp (nonterminal n))) ≡ so_many c (at sp (or_name n (f n)))
many_bound zero sp n f = refl
many_bound (suc c) sp n f = ap (part_and (at sp (or_name n (f n)))) (many_bound c sp n f)

-- the alternatives over a name that is bound to the symbol
pub repeat_bound : (s : Span) (op : RepeatOp) (sp : Span) (n : List ℕ) (k : Kind) (f : List ℕ → Option Kind) → f n ≡ Some k →
    map (instance_alternative s f) (repeat_rule s op (at sp (nonterminal n))).alternatives ≡ (repeat_rule s op (at sp k)).alternatives
repeat_bound s Star sp n k f e =
    ap (λ o. coded s no_parts (codes "alloc::vec![]") ∷ coded s (only_part (with_name s (codes "v") (at s (repeated Plus (at sp (or_name n o)))))) (codes "v") ∷ []) e
repeat_bound s Plus sp n k f e =
    ap (λ o. coded s (only_part (at sp (or_name n o))) (codes "alloc::vec![<>]")
    ∷ coded s (part_and (with_name s (codes "v") (at s (repeated Plus (at sp (or_name n o))))) (only_part (with_name s (codes "e") (at sp (or_name n o)))))
    (codes "{ let mut v = v; v.push(e); v }") ∷ []) e
repeat_bound s Question sp n k f e =
    ap (λ o. coded s (only_part (at sp (or_name n o))) (codes "Some(<>)") ∷ coded s no_parts (codes "None") ∷ []) e
repeat_bound s (Times c) sp n k f e =
    ap (λ ps. coded s ps (codes "alloc::vec![<>]") ∷ []) (many_bound c sp n f ∙ ap (λ o. so_many c (at sp (or_name n o))) e)

-- over a name, they are as where no argument is bound
pub repeat_unbound : (s : Span) (op : RepeatOp) (sp : Span) (n : List ℕ) →
    map (instance_alternative s (λ m. None)) (repeat_rule s op (at sp (nonterminal n))).alternatives ≡ (repeat_rule s op (at sp (nonterminal n))).alternatives
repeat_unbound s Star sp n = refl
repeat_unbound s Plus sp n = refl
repeat_unbound s Question sp n = refl
repeat_unbound s (Times c) sp n = ap (λ ps. coded s ps (codes "alloc::vec![<>]") ∷ []) (many_bound c sp n (λ m. None))

-- all else of the rule is as of the symbol replaced
pub repeat_replaced : (s : Span) (op : RepeatOp) (sp : Span) (k : Kind) →
    (let shallow : RuleData = repeat_rule s op (at sp (replaced_kind k)) in
    let deep : RuleData = repeat_rule s op (at sp k) in
    deep ≡ record shallow { alternatives = deep.alternatives })
repeat_replaced s Star sp k =
    let deep : RuleData = repeat_rule s Star (at sp k) in
    ap₂ (λ (t : List ℕ) (j : Kind). let r : RuleData = record deep { name = record { 0 = t }; type_decl = Some (nominal vector_path (type_and (of_symbol j) no_types)) } in r)
    (sym (inside_text (repeated Star (at sp k)))) (sym (kind_twice k))
repeat_replaced s Plus sp k =
    let deep : RuleData = repeat_rule s Plus (at sp k) in
    ap₂ (λ (t : List ℕ) (j : Kind). let r : RuleData = record deep { name = record { 0 = t }; type_decl = Some (nominal vector_path (type_and (of_symbol j) no_types)) } in r)
    (sym (inside_text (repeated Plus (at sp k)))) (sym (kind_twice k))
repeat_replaced s Question sp k =
    let deep : RuleData = repeat_rule s Question (at sp k) in
    ap₂ (λ (t : List ℕ) (j : Kind). let r : RuleData = record deep { name = record { 0 = t }; type_decl = Some (nominal option_path (type_and (of_symbol j) no_types)) } in r)
    (sym (inside_text (repeated Question (at sp k)))) (sym (kind_twice k))
repeat_replaced s (Times c) sp k =
    let deep : RuleData = repeat_rule s (Times c) (at sp k) in
    ap₂ (λ (t : List ℕ) (j : Kind). let r : RuleData = record deep { name = record { 0 = t }; type_decl = Some (nominal vector_path (type_and (of_symbol j) no_types)) } in r)
    (sym (inside_text (repeated (Times c) (at sp k)))) (sym (kind_twice k))

-- ---- macros

module _ (value : ConditionValue) (s : Span) (d : RuleData) (ps : Parts) where
  kept_each : (xs : List AlternativeData) → instance_alternatives value s d ps xs ≡ map (instance_alternative s (argument_kind d.args ps)) (kept_in value d.args ps xs)
  kept_each [] = refl
  kept_each (a ∷ xs) = by (is_true value d.args (read_all flat_reader ps) a.condition) (kept_each xs)
    where
      by : (b : Bool) → instance_alternatives value s d ps xs ≡ map (instance_alternative s (argument_kind d.args ps)) (kept_in value d.args ps xs) →
          cond b (instance_alternative s (argument_kind d.args ps) a ∷ instance_alternatives value s d ps xs) (instance_alternatives value s d ps xs)
          ≡ map (instance_alternative s (argument_kind d.args ps)) (cond b (a ∷ kept_in value d.args ps xs) (kept_in value d.args ps xs))
      by true h = ap (λ (xs : List AlternativeData). instance_alternative s (argument_kind d.args ps) a ∷ xs) h
      by false h = h

  -- the alternatives that are kept by the arguments rewritten, with the arguments substituted
  pub instance_kept : (instance_rule value s d ps).alternatives ≡ map (instance_alternative s (argument_kind d.args ps)) (kept_in value d.args (all_replaced ps) d.alternatives)
  instance_kept = kept_each d.alternatives ∙ ap (map (instance_alternative s (argument_kind d.args ps))) (sym (kept_replaced value d.args ps d.alternatives))

  -- the declared type is that with the arguments rewritten
  pub instance_type_replaced : option_map (type_substituted (argument_kind d.args (all_replaced ps))) d.type_decl ≡ option_map (type_substituted (argument_kind d.args ps)) d.type_decl
  instance_type_replaced = by d.type_decl
    where
      by : (o : Option TypeData) → option_map (type_substituted (argument_kind d.args (all_replaced ps))) o ≡ option_map (type_substituted (argument_kind d.args ps)) o
      by None = refl
      by (Some t) = ap Some (type_so (argument_kind d.args ps) (argument_kind d.args (all_replaced ps)) (argument_replaced d.args ps) t)

  -- all else of the rule is as of the arguments rewritten
  pub instance_replaced : (let shallow : RuleData = instance_rule value s d (all_replaced ps) in
      let deep : RuleData = instance_rule value s d ps in
      deep ≡ record shallow { alternatives = deep.alternatives })
  instance_replaced =
      let deep : RuleData = instance_rule value s d ps in
      ap₂ (λ (t : List ℕ) (o : Option TypeData). let r : RuleData = record deep { name = record { 0 = t }; type_decl = o } in r)
      (sym (inside_text (call d.name.0 ps))) (sym instance_type_replaced)
