-- What a lowered grammar carries over from the written one.
use Rattle.std.specs.Prelude.{ℕ, ◌||◌, Bool, true, false, List, [], map, flat_map, filter_map, Option}
use Rattle.std.specs.Prelude.{Some, None, option_map, codes}
use Rattle.std.specs.List.{list_any, enumerate_from}
use Rattle.lalrpop_norm_tree.specs.declared.items.MatchEntry.{MatchEntry}
use Rattle.lalrpop_norm_tree_names.specs.declared.names.Span.{Span}
use Rattle.lalrpop_norm_tree_names.specs.declared.names.TerminalString.{TerminalString}
use Rattle.lalrpop_norm_tree_parts.specs.Bounds.{BoundData, lifetime_bound, WhereClauseData, lifetime_clause, type_clause}
use Rattle.lalrpop_norm_tree_parts.specs.MappedBounds.{mapped_bound}
use Rattle.lalrpop_norm_tree.specs.Items.{ItemData, extern_item, intern_item, use_item, RuleData, GrammarData}
use Rattle.lalrpop_norm_tree.specs.LoweredTypes.{repr_of, named_path}
use Rattle.lalrpop_norm_tree_patterns.specs.Patterns.{PatternData, pattern_at, tuple_struct, pattern_and, no_patterns, number}
use Rattle.lalrpop_norm_tree_patterns.specs.Patterns.{chosen as chosen_type}
use Rattle.lalrpop_norm_tree_parts.specs.Reprs.{ReprData, of_lifetime, input_str, LoweredClause, has_bound}
use Rattle.lalrpop_norm_tree.specs.Symbols.{error_terminal, Part, at, Parts, no_parts, part_and}
use Rattle.lalrpop_norm_tree.specs.Traversal.{unwrapped}
use Rattle.lalrpop_norm_tree.specs.Types.{TypeData, ParameterData}
use Rattle.lalrpop_norm_repr.specs.Lowered.{LoweredParameter}
use Rattle.lalrpop_norm_model.specs.Scopes.{conversions_in}
use Rattle.lalrpop_norm_lower.specs.Conversions.{mapped_pattern}
pub use Rattle.lalrpop_norm_lower_steps.specs.Terminals.{terminal_of_mapping}
pub use Rattle.lalrpop_norm_lower_steps.specs.Clauses.{under}
pub use Rattle.lalrpop_norm_lower_steps.specs.Algorithm.{asks_lalr, asked_code}

-- ---- tokens

-- a terminal and the pattern of its tokens
abbrev pub TokenRow : Type 0
TokenRow = TerminalString × PatternData ReprData

-- `Token(i, <&'input str>)`
abbrev pub internal_pattern : Span → ℕ → PatternData ReprData
internal_pattern span i =
    pattern_at span (tuple_struct (named_path (codes "Token"))
    (pattern_and (pattern_at span (number i)) (pattern_and (pattern_at span (chosen_type input_str)) no_patterns)))

-- the entries of a tokenizer that name a terminal, each with its own index
abbrev pub entry_rows : Span → List MatchEntry → List TokenRow
entry_rows span entries =
    filter_map (λ e. option_map (λ t. (t, internal_pattern span e.0)) (terminal_of_mapping e.1.user_name))
    (enumerate_from 0 entries)

abbrev pub item_tokens : Span → ItemData → List TokenRow
item_tokens span (extern_item t) = map (λ c. (c.from, mapped_pattern repr_of c.to)) (conversions_in t.enum_token)
item_tokens span (intern_item t) = entry_rows span t.match_entries
item_tokens span _ = []

-- the conversions of the enum, or the entries of the tokenizer, in order
abbrev pub tokens_of : GrammarData → List TokenRow
tokens_of g = flat_map (item_tokens g.span) g.items

-- ---- `!`

abbrev pub is_error_leaf : Part → Bool
is_error_leaf (at s error_terminal) = true
is_error_leaf _ = false

-- `!`, also as a selected, named or tuple symbol
abbrev pub is_error : Part → Bool
is_error p = is_error_leaf (unwrapped p)

abbrev pub any_error : Parts → Bool
any_error no_parts = false
any_error (part_and p ps) = is_error p || any_error ps

-- whether `!` occurs in an alternative
abbrev pub uses_recovery : List RuleData → Bool
uses_recovery rules = list_any (λ r. list_any (λ a. any_error a.parts) r.alternatives) rules

-- ---- the head of a grammar

abbrev pub lowered_parameter : ParameterData → LoweredParameter
lowered_parameter p = record { name = p.name; ty = repr_of p.type }

abbrev pub lowered_bound : BoundData TypeData → BoundData ReprData
lowered_bound b = mapped_bound repr_of b

-- a `where` clause: one clause for each of its bounds
abbrev pub lowered_clauses : WhereClauseData TypeData → List LoweredClause
lowered_clauses (lifetime_clause l ls) = map (λ m. has_bound (of_lifetime l) (lifetime_bound m)) ls
lowered_clauses (type_clause fs t bs) = map (λ b. under fs (has_bound (repr_of t) (lowered_bound b))) bs

abbrev pub use_of : ItemData → Option (List ℕ)
use_of (use_item s) = Some s
use_of _ = None
