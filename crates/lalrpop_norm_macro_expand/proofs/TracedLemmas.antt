-- The lists that the code finds for generated rules are those of the definition.
use Rattle.std.proofs.Common.{◌≡◌, ℕ, zero, suc, List, [], ◌∷◌, ◌++◌, Vec, Global, Option, Some, None, Bool, true, false, not, ◌&&◌, length, map, bytes_eq, slice_get, refl, sym, ap, ap₂, ◌∙◌, arith}
use Rattle.std.specs.Prelude.{option_map, option_to_list, if◌then◌else◌}
use Rattle.std.specs.List.{flat_map}
use Rattle.std.proofs.lemmas.Option.{slice_get-map}
use Rattle.lalrpop_norm_tree_names.specs.declared.names.NonterminalString.{NonterminalString}
use Rattle.lalrpop_norm_tree.specs.Accessors.{or_else}
use Rattle.lalrpop_norm_tree.specs.Symbols.{Kind, Part, Parts, call, at}
use Rattle.lalrpop_norm_tree.specs.Items.{AlternativeData, RuleData, GrammarData}
use Rattle.lalrpop_norm_theory.specs.Symbols.{Name}
use Rattle.lalrpop_norm_theory.specs.LoweredTrees as theory
use Rattle.lalrpop_norm_conditions.specs.Conditions.{comparison}
use Rattle.lalrpop_norm_model.specs.Grammars.{ConditionValue, is_nil, is_true}
use Rattle.lalrpop_norm_model.specs.Reading.{read_all}
use Rattle.lalrpop_norm_model.specs.MadeRules.{flat_reader, kind_of, macro_named}
use Rattle.lalrpop_norm_model.specs.PlainRules.{macros_of, made_symbols}
use Rattle.lalrpop_norm_nodes.specs.Apart.{unplaced_kind, unplaced}
use Rattle.lalrpop_norm_nodes.specs.declared.node.Node.{Node}
use Rattle.lalrpop_norm_nodes.specs.declared.node.Node.TheVariants as node
use Rattle.lalrpop_norm_nodes.specs.declared.node.Leaf.TheVariants as leaf
use Rattle.lalrpop_norm_nodes.specs.declared.node.NamedLeaf.TheVariants as named_leaf
use Rattle.lalrpop_norm_nodes.specs.declared.node.Unary.TheVariants as unary
use Rattle.lalrpop_norm_nodes.specs.declared.node.NamedUnary.TheVariants as named_unary
use Rattle.lalrpop_norm_nodes.specs.declared.node.Binary.TheVariants as binary
use Rattle.lalrpop_norm_nodes.specs.Wholes.{Whole, as_kind, kind_at, part_at, built, AreRows}
use Rattle.lalrpop_norm_origins.specs.declared.origin.Origin.{Origin}
use Rattle.lalrpop_norm_origins.specs.Origins.{origin_view, origins_view}
use Rattle.lalrpop_norm_origins.specs.Shapes.{IsShaped}
use Rattle.lalrpop_norm_origins.specs.MadeOrigins.{TracedRule, traced_rules, traced_macro, kept_origins, instance_origins, made_origins}
use Rattle.lalrpop_norm_origins.proofs.PairedLists.{rule_of_pair}
use Rattle.lalrpop_norm_origins.proofs.ShapeLemmas.{macro_agrees}
use Rattle.lalrpop_norm_macro_expand.specs.declared.macro_expand.make.MadeSymbol.{MadeSymbol}
use Rattle.lalrpop_norm_macro_expand.specs.Kept.{kept_places, kept_by, kept_by_call}
use Rattle.lalrpop_norm_macro_expand.specs.Made.{AreMade}
use Rattle.lalrpop_norm_macro_expand.specs.TracedRules.{macro_list, first_list_of, origin_at, at_places, called_lists, kind_lists, node_lists, made_list, list_in}

-- ---- origins at indices

pub origin_copied : (os : List Origin) (i : ℕ) (o : Option Origin) → o ≡ slice_get os i →
    option_to_list (option_map origin_view o) ≡ origin_at (origins_view os) i
origin_copied os i o e =
    ap (λ (q : Option Origin). option_to_list (option_map origin_view q)) e ∙ ap option_to_list (sym (slice_get-map origin_view os i))

none_at : (is : List ℕ) → at_places [] is ≡ []
none_at [] = refl
none_at (i ∷ is) = none_at is

shifted : (o : theory.Origin) (os : List theory.Origin) (is : List ℕ) → at_places (o ∷ os) (map suc is) ≡ at_places os is
shifted o os [] = refl
shifted o os (i ∷ is) = ap (λ (qs : List theory.Origin). origin_at os i ++ qs) (shifted o os is)

module _ (value : ConditionValue) (params : List NonterminalString) (args : Parts) where
  abbrev keeps : AlternativeData → Bool
  keeps a = is_true value params (read_all flat_reader args) a.condition

  places_shifted : (i : ℕ) (xs : List AlternativeData) → kept_places value params args (suc i) xs ≡ map suc (kept_places value params args i xs)
  places_shifted i [] = refl
  places_shifted i (a ∷ xs) = by (keeps a) (places_shifted (suc i) xs)
    where
      by : (b : Bool) → kept_places value params args (suc (suc i)) xs ≡ map suc (kept_places value params args (suc i) xs) →
          (if b then suc i ∷ [] else []) ++ kept_places value params args (suc (suc i)) xs
          ≡ map suc ((if b then i ∷ [] else []) ++ kept_places value params args (suc i) xs)
      by true h = ap (λ is. suc i ∷ is) h
      by false h = h

  -- the origins at the indices that are kept are those of the alternatives that are kept
  pub places_kept : (xs : List AlternativeData) (os : List theory.Origin) →
      at_places os (kept_places value params args 0 xs) ≡ kept_origins (λ a. is_true value params (read_all flat_reader args) a.condition) xs os
  places_kept [] os = refl
  places_kept (a ∷ xs) [] = none_at (kept_places value params args 0 (a ∷ xs))
  places_kept (a ∷ xs) (o ∷ os) =
      by (keeps a)
      (ap (at_places (o ∷ os)) (places_shifted 0 xs) ∙ shifted o os (kept_places value params args 0 xs) ∙ places_kept xs os)
    where
      by : (b : Bool) → at_places (o ∷ os) (kept_places value params args (suc 0) xs) ≡ kept_origins keeps xs os →
          at_places (o ∷ os) ((if b then 0 ∷ [] else []) ++ kept_places value params args (suc 0) xs)
          ≡ (if b then o ∷ kept_origins keeps xs os else kept_origins keeps xs os)
      by true h = ap (λ (qs : List theory.Origin). o ∷ qs) h
      by false h = h

-- ---- macros by name

abbrev pub list_of_pair : TracedRule → List theory.Origin
list_of_pair t = t.1

pub named_lists : (ts : List TracedRule) (n : Name) → first_list_of (flat_map macro_list ts) n ≡ option_map list_of_pair (traced_macro ts n)
named_lists [] n = refl
named_lists (t ∷ ts) n = by (is_nil t.0.args) (named_lists ts n)
  where
    here : (y : Bool) → first_list_of (flat_map macro_list ts) n ≡ option_map list_of_pair (traced_macro ts n) →
        (if y then Some t.1 else first_list_of (flat_map macro_list ts) n) ≡ option_map list_of_pair (if y then Some t else traced_macro ts n)
    here true h = refl
    here false h = h

    by : (x : Bool) → first_list_of (flat_map macro_list ts) n ≡ option_map list_of_pair (traced_macro ts n) →
        first_list_of ((if x then [] else (t.0.name.0, t.1) ∷ []) ++ flat_map macro_list ts) n
        ≡ option_map list_of_pair (if not x && bytes_eq t.0.name.0 n then Some t else traced_macro ts n)
    by true h = h
    by false h = here (bytes_eq t.0.name.0 n) h

-- one more list under a name that may have one
pub next_named : (o : Option (Vec Origin Global)) (b : Bool) (v : Vec Origin Global) (rest : Option (List theory.Origin)) →
    or_else (option_map list_in (or_else o (if b then Some v else None))) rest ≡ or_else (option_map list_in o) (if b then Some (list_in v) else rest)
next_named (Some u) b v rest = refl
next_named None true v rest = refl
next_named None false v rest = refl

-- ---- nodes

node_kinds : (f : Name → Option (List theory.Origin)) (kept : List ℕ) (ws : List Whole) (n : Node) → node_lists f kept n ≡ kind_lists f kept (as_kind (Some (built ws n)))
node_kinds f kept ws (node.Unary unary.Group l) = refl
node_kinds f kept ws (node.Unary unary.Star n) = refl
node_kinds f kept ws (node.Unary unary.Plus n) = refl
node_kinds f kept ws (node.Unary unary.Question n) = refl
node_kinds f kept ws (node.Unary (unary.Times c) n) = refl
node_kinds f kept ws (node.Unary unary.Chosen n) = refl
node_kinds f kept ws (node.Unary unary.Several l) = refl
node_kinds f kept ws (node.NamedUnary named_unary.Call a l) = refl
node_kinds f kept ws (node.NamedUnary named_unary.Named a n) = refl
node_kinds f kept ws (node.NamedUnary named_unary.NamedMut a n) = refl
node_kinds f kept ws (node.Leaf leaf.NoSymbols) = refl
node_kinds f kept ws (node.Leaf leaf.NoPatterns) = refl
node_kinds f kept ws (node.Leaf leaf.Lookahead) = refl
node_kinds f kept ws (node.Leaf leaf.Lookbehind) = refl
node_kinds f kept ws (node.Leaf leaf.Error) = refl
node_kinds f kept ws (node.NamedLeaf named_leaf.Rule a) = refl
node_kinds f kept ws (node.NamedLeaf named_leaf.Pattern a) = refl
node_kinds f kept ws (node.NamedLeaf named_leaf.MutPattern a) = refl
node_kinds f kept ws (node.Terminal t) = refl
node_kinds f kept ws (node.Binary binary.Symbols l n) = refl
node_kinds f kept ws (node.Binary binary.Patterns l n) = refl
node_kinds f kept ws (node.Binary binary.Tuple l n) = refl

pub node_is_kind : (ns : List Node) (ws : List Whole) → AreRows ns ws → (f : Name → Option (List theory.Origin)) (kept : List ℕ) (i : ℕ) (n : Node) →
    slice_get ns i ≡ Some n → node_lists f kept n ≡ kind_lists f kept (kind_at ws i)
node_is_kind ns ws rows f kept i n e =
    node_kinds f kept ws n ∙ ap (λ (o : Option Whole). kind_lists f kept (as_kind o)) (sym (rows.stand i n e))

none_alike : {A B : Type 0} (xs : List A) (ys : List B) → length xs ≡ length ys → (i : ℕ) → slice_get ys i ≡ None → slice_get xs i ≡ None
none_alike [] ys e i h = refl
none_alike (x ∷ xs) [] e i h = absurd (omega arith)
none_alike (x ∷ xs) (y ∷ ys) e zero h = absurd (cc h)
none_alike (x ∷ xs) (y ∷ ys) e (suc i) h = none_alike xs ys (omega arith) i h

pub no_node_no_list : (ns : List Node) (ws : List Whole) → AreRows ns ws → (f : Name → Option (List theory.Origin)) (kept : List ℕ) (i : ℕ) →
    slice_get ns i ≡ None → [] ≡ kind_lists f kept (kind_at ws i)
no_node_no_list ns ws rows f kept i e =
    sym (ap (λ (o : Option Whole). kind_lists f kept (as_kind o)) (none_alike ws ns rows.long i e))

-- ---- symbols that are desugared

module _ (macros : List RuleData) (found : Name → Option TracedRule) (agree : (n : Name) → option_map rule_of_pair (found n) ≡ macro_named macros n)
    (f : Name → Option (List theory.Origin)) (lists : (n : Name) → f n ≡ option_map list_of_pair (found n)) where
  called_made : (ps : Parts) (o : Option TracedRule) →
      called_lists (option_map list_of_pair o) (kept_by_call comparison (option_map rule_of_pair o) ps) ≡ instance_origins comparison o ps
  called_made ps None = refl
  called_made ps (Some t) = ap (λ (os : List theory.Origin). os ∷ []) (places_kept comparison t.0.args ps t.0.alternatives t.1)

  kinds_made : (p : Part) → kind_lists f (kept_by comparison macros p) (unplaced_kind (kind_of p)) ≡ made_origins comparison found p
  kinds_made (at s (call n ps)) =
      ap₂ (λ (o : Option (List theory.Origin)) (d : Option RuleData). called_lists o (kept_by_call comparison d ps)) (lists n) (sym (agree n))
      ∙ called_made ps (found n)
  kinds_made (at s _) = refl

  -- symbol by symbol
  each_made : (ws : List Whole) (ms : List MadeSymbol) (ps : List Part) → map (λ m. part_at ws m.number) ms ≡ map unplaced ps →
      map (λ m. m.kept.items) ms ≡ map (kept_by comparison macros) ps → flat_map (made_list f ws) ms ≡ flat_map (made_origins comparison found) ps
  each_made ws [] [] e k = refl
  each_made ws [] (p ∷ ps) e k = absurd (cc e)
  each_made ws (m ∷ ms) [] e k = absurd (cc e)
  each_made ws (m ∷ ms) (at s a ∷ ps) e k =
      let kind : kind_at ws m.number ≡ unplaced_kind a = cc e in
      let kept : m.kept.items ≡ kept_by comparison macros (at s a) = cc k in
      ap₂ (λ (xs ys : List (List theory.Origin)). xs ++ ys)
      (ap₂ (λ (is : List ℕ) (b : Kind). kind_lists f is b) kept kind ∙ kinds_made (at s a))
      (each_made ws ms ps (cc e) (cc k))

-- of all symbols that an expansion makes into rules
pub made_lists : (g : GrammarData) (oss : List (List theory.Origin)) → IsShaped g.items oss → (ws : List Whole) (limit : ℕ) (ms : List MadeSymbol) → AreMade ws g limit ms →
    flat_map (made_list (first_list_of (flat_map macro_list (traced_rules g.items oss))) ws) ms
    ≡ flat_map (made_origins comparison (traced_macro (traced_rules g.items oss))) (made_symbols comparison g limit)
made_lists g oss h ws limit ms made =
    each_made (macros_of g) (traced_macro (traced_rules g.items oss)) (macro_agrees g oss h)
    (first_list_of (flat_map macro_list (traced_rules g.items oss))) (named_lists (traced_rules g.items oss))
    ws ms (made_symbols comparison g limit) made.symbols made.kept
