-- Actions as plain data.
use Rattle.std.specs.Prelude.{ℕ, Bool, List, map, string_bytes}
use Rattle.lalrpop_norm_tree_parts.specs.Reprs.{ReprData, repr_view}
use Rattle.lalrpop_norm_tree.specs.Symbols.{ArgumentPattern, argument_pattern_view}
use Rattle.lalrpop_norm_repr.specs.declared.action.ActionFn.{ActionFn}
use Rattle.lalrpop_norm_repr.specs.declared.action.ActionFnDefn.{ActionFnDefn}
use Rattle.lalrpop_norm_repr.specs.declared.action.ActionFnDefnKind.{ActionFnDefnKind}
use Rattle.lalrpop_norm_repr.specs.declared.action.ActionFnDefnKind.TheVariants as kind
use Rattle.lalrpop_norm_repr.specs.declared.action.InlineActionFnDefn.{InlineActionFnDefn}
use Rattle.lalrpop_norm_repr.specs.declared.action.InlinedSymbol.{InlinedSymbol}
use Rattle.lalrpop_norm_repr.specs.declared.action.InlinedSymbol.TheVariants as argument
use Rattle.lalrpop_norm_repr.specs.declared.action.LookaroundActionFnDefn.{LookaroundActionFnDefn}
use Rattle.lalrpop_norm_repr.specs.declared.action.UserActionFnDefn.{UserActionFnDefn}
use Rattle.lalrpop_norm_repr.specs.declared.symbol.Symbol.{Symbol}

-- the index of the action in the grammar's list
abbrev pub action_index : ActionFn → ℕ
action_index a = a.0

pub data ArgumentData : Type 0 where
  original : Symbol → ArgumentData
  inlined : ActionFn → List Symbol → ArgumentData

abbrev pub inlined_symbol_view : InlinedSymbol → ArgumentData
inlined_symbol_view (argument.Original s) = original s
inlined_symbol_view (argument.Inlined a ss) = inlined a ss.items

pub data ActionKindData : Type 0 where
  user : List ArgumentPattern → List ReprData → List ℕ → ActionKindData
  inline : ActionFn → List ArgumentData → ActionKindData
  lookaround : LookaroundActionFnDefn → ActionKindData

abbrev pub user_action_view : UserActionFnDefn → ActionKindData
user_action_view d = user (map argument_pattern_view d.arg_patterns.items) (map repr_view d.arg_types.items) (string_bytes d.code)

abbrev pub inline_action_view : InlineActionFnDefn → ActionKindData
inline_action_view d = inline d.action (map inlined_symbol_view d.symbols.items)

abbrev pub action_kind_view : ActionFnDefnKind → ActionKindData
action_kind_view (kind.User d) = user_action_view d
action_kind_view (kind.Inline d) = inline_action_view d
action_kind_view (kind.Lookaround d) = lookaround d

pub record ActionData : Type 0 where
  pub fallible : Bool
  pub ret_type : ReprData
  pub kind : ActionKindData

abbrev pub action_defn_view : ActionFnDefn → ActionData
action_defn_view d = record { fallible = d.fallible; ret_type = repr_view d.ret_type; kind = action_kind_view d.kind }
