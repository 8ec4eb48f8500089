-- Actions whose types share their parts, as the data that they are.
use Rattle.std.specs.Prelude.{map, string_bytes}
use Rattle.lalrpop_norm_tree.specs.Symbols.{argument_pattern_view}
use Rattle.lalrpop_norm_repr.specs.Actions.{ActionData, ActionKindData, user, lookaround}
use Rattle.lalrpop_norm_shared_types.specs.Shared.{shared_view}
use Rattle.lalrpop_norm_shared_types.specs.declared.action.SharedActionFnDefn.{SharedActionFnDefn}
use Rattle.lalrpop_norm_shared_types.specs.declared.action.SharedActionFnDefnKind.{SharedActionFnDefnKind}
use Rattle.lalrpop_norm_shared_types.specs.declared.action.SharedActionFnDefnKind.TheVariants as kind
use Rattle.lalrpop_norm_shared_types.specs.declared.action.SharedUserActionFnDefn.{SharedUserActionFnDefn}

abbrev pub shared_user_view : SharedUserActionFnDefn → ActionKindData
shared_user_view d = user (map argument_pattern_view d.arg_patterns.items) (map shared_view d.arg_types.items) (string_bytes d.code)

abbrev pub shared_kind_view : SharedActionFnDefnKind → ActionKindData
shared_kind_view (kind.User d) = shared_user_view d
shared_kind_view (kind.Lookaround d) = lookaround d

abbrev pub shared_action_view : SharedActionFnDefn → ActionData
shared_action_view d = record { fallible = d.fallible; ret_type = shared_view d.ret_type; kind = shared_kind_view d.kind }
