-- The origins of the alternatives of the expanded grammar, as the code finds them: internal definitions, which no public contract
-- clause mentions.
use Rattle.std.specs.Prelude.{ℕ, Vec, List, [], ◌∷◌, flat_map, Option, Some, None, option_map, option_to_list, slice_get, bytes_eq}
use Rattle.std.specs.Prelude.{if◌then◌else◌}
use Rattle.std.specs.declared.alloc.Global.{Global}
use Rattle.std.specs.BTreeMap.{BTreeMap, get}
use Rattle.std.specs.Ordering.{nat_cmp}
use Rattle.std.specs.Cmp.Lexicographic.{slice_cmp}
use Rattle.lalrpop_norm_theory.specs.Symbols.{Name}
use Rattle.lalrpop_norm_theory.specs.LoweredTrees as theory
use Rattle.lalrpop_norm_theory.specs.LoweredTrees.{from_group, from_lookahead, from_lookbehind}
use Rattle.lalrpop_norm_tree.specs.declared.symbol.RepeatOp.TheVariants.{Star, Plus, Question, Times}
use Rattle.lalrpop_norm_tree.specs.Symbols.{Kind, group, call, repeated}
use Rattle.lalrpop_norm_tree.specs.Symbols.{lookahead, lookbehind}
use Rattle.lalrpop_norm_model.specs.Grammars.{is_nil}
use Rattle.lalrpop_norm_nodes.specs.declared.node.Node.{Node}
use Rattle.lalrpop_norm_nodes.specs.declared.node.Node.TheVariants as node
use Rattle.lalrpop_norm_nodes.specs.declared.node.Leaf.{Leaf}
use Rattle.lalrpop_norm_nodes.specs.declared.node.Leaf.TheVariants as leaf
use Rattle.lalrpop_norm_nodes.specs.declared.node.Unary.{Unary}
use Rattle.lalrpop_norm_nodes.specs.declared.node.Unary.TheVariants as unary
use Rattle.lalrpop_norm_nodes.specs.declared.node.NamedUnary.TheVariants as named_unary
use Rattle.lalrpop_norm_nodes.specs.Wholes.{Whole, kind_at}
use Rattle.lalrpop_norm_origins.specs.declared.origin.Origin.{Origin}
use Rattle.lalrpop_norm_origins.specs.Origins.{origins_view}
use Rattle.lalrpop_norm_origins.specs.MadeOrigins.{TracedRule, repeat_origins}
use Rattle.lalrpop_norm_macro_expand.specs.declared.macro_expand.make.MadeSymbol.{MadeSymbol}
use Rattle.lalrpop_norm_macro_expand.specs.declared.macro_expand.rule_lists.MacroList.{MacroList}

-- ---- macros by name

abbrev pub list_view : MacroList → Name × List theory.Origin
list_view m = (m.name, origins_view m.origins.items)

-- the list of a macro
abbrev pub macro_list : TracedRule → List (Name × List theory.Origin)
macro_list t = if is_nil t.0.args then [] else (t.0.name.0, t.1) ∷ []

-- the first list of a name
abbrev pub first_list_of : List (Name × List theory.Origin) → Name → Option (List theory.Origin)
first_list_of [] n = None
first_list_of (l ∷ ls) n = if bytes_eq l.0 n then Some l.1 else first_list_of ls n

abbrev pub list_in : Vec Origin Global → List theory.Origin
list_in v = origins_view v.items

abbrev pub list_under : BTreeMap (List ℕ) (Vec Origin Global) → Name → Option (List theory.Origin)
list_under m n = option_map list_in (get (slice_cmp nat_cmp) m n)

-- ---- generated rules

abbrev pub origin_at : List theory.Origin → ℕ → List theory.Origin
origin_at os i = option_to_list (slice_get os i)

-- the origins at some indices
abbrev pub at_places : List theory.Origin → List ℕ → List theory.Origin
at_places os is = flat_map (origin_at os) is

-- a list, if there is one
abbrev pub shown_list : Option (Vec Origin Global) → List (List theory.Origin)
shown_list None = []
shown_list (Some v) = origins_view v.items ∷ []

abbrev pub called_lists : Option (List theory.Origin) → List ℕ → List (List theory.Origin)
called_lists None kept = []
called_lists (Some os) kept = at_places os kept ∷ []

-- of a symbol by its kind, where `named_list` finds the lists of macros, and a call keeps the alternatives at these indices
abbrev pub kind_lists : (Name → Option (List theory.Origin)) → List ℕ → Kind → List (List theory.Origin)
kind_lists named_list kept (group ps) = (from_group ∷ []) ∷ []
kind_lists named_list kept (call n ps) = called_lists (named_list n) kept
kind_lists named_list kept (repeated op p) = repeat_origins op ∷ []
kind_lists named_list kept lookahead = (from_lookahead ∷ []) ∷ []
kind_lists named_list kept lookbehind = (from_lookbehind ∷ []) ∷ []
kind_lists named_list kept _ = []

-- that of a symbol by its node
abbrev pub unary_lists : Unary → List (List theory.Origin)
unary_lists unary.Group = (from_group ∷ []) ∷ []
unary_lists unary.Star = repeat_origins Star ∷ []
unary_lists unary.Plus = repeat_origins Plus ∷ []
unary_lists unary.Question = repeat_origins Question ∷ []
unary_lists (unary.Times c) = repeat_origins (Times c) ∷ []
unary_lists unary.Chosen = []
unary_lists unary.Several = []

abbrev pub leaf_lists : Leaf → List (List theory.Origin)
leaf_lists leaf.Lookahead = (from_lookahead ∷ []) ∷ []
leaf_lists leaf.Lookbehind = (from_lookbehind ∷ []) ∷ []
leaf_lists leaf.NoSymbols = []
leaf_lists leaf.NoPatterns = []
leaf_lists leaf.Error = []

abbrev pub node_lists : (Name → Option (List theory.Origin)) → List ℕ → Node → List (List theory.Origin)
node_lists named_list kept (node.Unary u l) = unary_lists u
node_lists named_list kept (node.Leaf l) = leaf_lists l
node_lists named_list kept (node.NamedUnary named_unary.Call a l) = called_lists (named_list a) kept
node_lists named_list kept (node.NamedUnary named_unary.Named a n) = []
node_lists named_list kept (node.NamedUnary named_unary.NamedMut a n) = []
node_lists named_list kept (node.NamedLeaf l a) = []
node_lists named_list kept (node.Terminal t) = []
node_lists named_list kept (node.Binary b l n) = []

-- the list of the rule that a symbol is desugared to, if it is desugared
abbrev pub made_list : (Name → Option (List theory.Origin)) → List Whole → MadeSymbol → List (List theory.Origin)
made_list named_list ws m = kind_lists named_list m.kept.items (kind_at ws m.number)
