use Rattle.std.proofs.Common.{◌≡◌, ◌∙◌, ◌∷◌, [], map, ap, refl, codes, Option, unwrap_or}
use Rattle.std.specs.Prelude.{option_map}
use Rattle.lalrpop_norm_tree_names.specs.declared.names.NonterminalString.{NonterminalString}
use Rattle.lalrpop_norm_tree_names.specs.declared.names.TerminalString.{TerminalString}
use Rattle.lalrpop_norm_tree_names.specs.declared.names.TerminalString.TheVariants.{Error}
use Rattle.lalrpop_norm_tree_parts.specs.Reprs.{ReprData, repr_view, unit_type, static_str}
use Rattle.lalrpop_norm_repr.specs.Tables.{rows, util_type}
use Rattle.lalrpop_norm_repr.proofs.SameTables.{same_tables}
use Rattle.lalrpop_norm_repr.proofs.types.Types.new.Goals as goal

pub returns : goal.returns
returns c =
    let location : Option ReprData = option_map repr_view c.args.location in
    let error : Option ReprData = option_map repr_view c.args.error in
    let token : ReprData = repr_view c.args.token in
    let k : repr_view c.in_ok-known.known ≡ unwrap_or location unit_type = c.in_ok-known.ensures in
    let e : repr_view c.in_ok-thrown.thrown ≡ unwrap_or error static_str = c.in_ok-thrown.ensures in
    let p : repr_view c.in_ok-parse_error_type.parse_error_type ≡ util_type c.args.prefix.now (codes "ParseError") (unwrap_or location unit_type) token (unwrap_or error static_str) =
    c.in_ok-parse_error_type.ensures ∙ rw (k, e) in
    let r : repr_view c.in_ok-error_recovery_type.error_recovery_type ≡ util_type c.args.prefix.now (codes "ErrorRecovery") (unwrap_or location unit_type) token (unwrap_or error static_str) =
    c.in_ok-error_recovery_type.ensures ∙ rw (k, e) in
    let row : rows repr_view c.in_ok-terminal_types.terminal_types ≡ (Error, util_type c.args.prefix.now (codes "ErrorRecovery") (unwrap_or location unit_type) token (unwrap_or error static_str)) ∷ [] =
    c.in_ok-terminal_types.ensures ∙ ap (λ (t : ReprData). let entry : TerminalString × ReprData = (Error, t) in entry ∷ []) r in
    let none : rows repr_view c.new-nonterminal_types.result ≡ [] = ap (map {B = NonterminalString × ReprData} (λ b. (b.0, repr_view b.1))) c.new-nonterminal_types.ensures.empty in
    same_tables _ _ _ _ _ _ _ _ _ _ _ _ _ _ refl refl refl row none p r
