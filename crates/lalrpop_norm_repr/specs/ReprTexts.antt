-- The texts of symbols, actions and productions, as bytes.
use Rattle.std.specs.Prelude.{ℕ, List, ◌++◌, map, codes}
use Rattle.std.specs.List.{zip}
use Rattle.std.specs.Fmt.{decimal}
use Rattle.lalrpop_norm_tree_parts.specs.Reprs.{ReprData}
use Rattle.lalrpop_norm_tree.specs.Symbols.{ArgumentPattern}
use Rattle.lalrpop_norm_tree_names.specs.Texts.{joined, terminal_text}
use Rattle.lalrpop_norm_tree.specs.SymbolTexts.{argument_pattern_text}
use Rattle.lalrpop_norm_tree_parts.specs.TypeTexts.{repr_text}
use Rattle.lalrpop_norm_repr.specs.declared.action.ActionFn.{ActionFn}
use Rattle.lalrpop_norm_repr.specs.declared.action.LookaroundActionFnDefn.{LookaroundActionFnDefn}
use Rattle.lalrpop_norm_repr.specs.declared.action.LookaroundActionFnDefn.TheVariants.{Lookahead, Lookbehind}
use Rattle.lalrpop_norm_repr.specs.declared.symbol.Symbol.{Symbol}
use Rattle.lalrpop_norm_repr.specs.declared.symbol.Symbol.TheVariants.{Nonterminal, Terminal}
use Rattle.lalrpop_norm_repr.specs.Actions.{action_index, ActionData, ActionKindData, ArgumentData, inline, inlined, lookaround}
use Rattle.lalrpop_norm_repr.specs.Actions.{original, user}
use Rattle.lalrpop_norm_repr.specs.Lowered.{LoweredParameter}
use Rattle.lalrpop_norm_repr.specs.Productions.{ProductionData}

abbrev pub symbol_text : Symbol → List ℕ
symbol_text (Nonterminal n) = n.0
symbol_text (Terminal t) = terminal_text t

-- `ActionFn(3)`
abbrev pub action_text : ActionFn → List ℕ
action_text a = codes "ActionFn(" ++ decimal (action_index a) ++ codes ")"

-- `N = A, B => ActionFn(3);`
abbrev pub production_text : ProductionData → List ℕ
production_text p =
    p.nonterminal.0 ++ codes " = " ++ joined (codes ", ") (map symbol_text p.symbols) ++ codes " => " ++ action_text p.action
    ++ codes ";"

-- `n: T`
abbrev pub parameter_text : LoweredParameter → List ℕ
parameter_text p = p.name ++ codes ": " ++ repr_text p.ty

-- `p: T`
abbrev pub typed_text : ArgumentPattern × ReprData → List ℕ
typed_text p = argument_pattern_text p.0 ++ codes ": " ++ repr_text p.1

-- `A`, or `ActionFn(44)(B, C)`
abbrev pub argument_text : ArgumentData → List ℕ
argument_text (original s) = symbol_text s
argument_text (inlined a ss) = action_text a ++ codes "(" ++ joined (codes ", ") (map symbol_text ss) ++ codes ")"

abbrev pub lookaround_text : LookaroundActionFnDefn → List ℕ
lookaround_text Lookahead = codes "Lookahead"
lookaround_text Lookbehind = codes "Lookbehind"

-- `fn _(..) { ActionFn(22)(Y, ActionFn(44)(B, C)) }`
abbrev pub inline_text : ActionFn → List ArgumentData → List ℕ
inline_text a arguments =
    codes "fn _(..) { " ++ action_text a ++ codes "(" ++ joined (codes ", ") (map argument_text arguments) ++ codes ") }"

-- what does that and answers the type
abbrev pub action_kind_text : ActionKindData → ReprData → List ℕ
action_kind_text (user ps ts code) t =
    codes "fn _(" ++ joined (codes ", ") (map typed_text (zip ps ts)) ++ codes ") -> " ++ repr_text t ++ codes " { " ++ code
    ++ codes " }"
action_kind_text (inline a arguments) t = inline_text a arguments
action_kind_text (lookaround l) t = lookaround_text l

-- `fn _(p: T, q: U) -> R { code }`, or as an inline action or a look-around
abbrev pub action_defn_text : ActionData → List ℕ
action_defn_text d = action_kind_text d.kind d.ret_type
