-- The orders that are derived of terminals and of entries are those of the definitions.
use Rattle.std.proofs.Common.{◌≡◌, List, refl, ap, ap₂, sym}
use Rattle.std.proofs.Math.Path.{fun_ext}
use Rattle.std.specs.BTreeMap.{is_at}
use Rattle.std.specs.List.{list_any}
use Rattle.std.specs.declared.cmp.Ordering.{Ordering}
use Rattle.std.specs.Ordering.{nat_cmp, ordering_then}
use Rattle.lalrpop_norm_tree_names.specs.contracts.names.TerminalLiteralOrd.TheImpl as literals
use Rattle.lalrpop_norm_tree_names.specs.contracts.names.TerminalStringOrd.TheImpl as terminals
use Rattle.lalrpop_norm_tree.specs.contracts.items.MatchEntryOrd.TheImpl as entries
use Rattle.lalrpop_norm_tree.specs.contracts.items.MatchMappingOrd.TheImpl as mappings
use Rattle.lalrpop_norm_tree.specs.declared.items.MatchEntry.{MatchEntry}
use Rattle.lalrpop_norm_tree.specs.declared.items.MatchMapping.{MatchMapping}
use Rattle.lalrpop_norm_tree.specs.declared.items.MatchMapping.TheVariants.{Terminal, Skip}
use Rattle.lalrpop_norm_tree_names.specs.declared.names.TerminalLiteral.{TerminalLiteral}
use Rattle.lalrpop_norm_model.specs.Entries.{mapping_cmp, entry_cmp}
use Rattle.lalrpop_norm_tree_names.specs.declared.names.TerminalLiteral.TheVariants.{Quoted, Regex}
use Rattle.lalrpop_norm_tree_names.specs.declared.names.TerminalString.{TerminalString}
use Rattle.lalrpop_norm_tree_names.specs.declared.names.TerminalString.TheVariants.{Literal, Bare, Error}
use Rattle.lalrpop_norm_model.specs.Terminals.{literal_cmp, terminal_cmp}
use Rattle.lalrpop_norm_token_check.specs.Keys.{terminal_in}

ordered_so : (a b : TerminalString) → terminals.cmp-value.it a b ≡ terminal_cmp a b
ordered_so (Literal (Quoted a)) (Literal (Quoted b)) = refl
ordered_so (Literal (Regex a)) (Literal (Regex b)) = refl
ordered_so (Literal (Quoted a)) (Literal (Regex b)) = refl
ordered_so (Literal (Regex a)) (Literal (Quoted b)) = refl
ordered_so (Bare a) (Bare b) = refl
ordered_so Error Error = refl
ordered_so (Literal (Quoted a)) (Bare b) = refl
ordered_so (Literal (Regex a)) (Bare b) = refl
ordered_so (Literal (Quoted a)) Error = refl
ordered_so (Literal (Regex a)) Error = refl
ordered_so (Bare a) (Literal (Quoted b)) = refl
ordered_so (Bare a) (Literal (Regex b)) = refl
ordered_so (Bare a) Error = refl
ordered_so Error (Literal (Quoted b)) = refl
ordered_so Error (Literal (Regex b)) = refl
ordered_so Error (Bare b) = refl

pub terminal_order : terminals.cmp-value.it ≡ terminal_cmp
terminal_order = fun_ext (λ a. fun_ext (λ b. ordered_so a b))

-- what a set has by the order that is derived, it has
pub terminal_contained : (keys : List TerminalString) (t : TerminalString) → terminal_in keys t ≡ list_any (is_at (terminals.cmp-value.it t)) keys
terminal_contained keys t = sym (ap (λ cmp. list_any (is_at (cmp t)) keys) terminal_order)

-- ---- entries

literal_so : (a b : TerminalLiteral) → literals.cmp-value.it a b ≡ literal_cmp a b
literal_so (Quoted a) (Quoted b) = refl
literal_so (Quoted a) (Regex b) = refl
literal_so (Regex a) (Quoted b) = refl
literal_so (Regex a) (Regex b) = refl

mapping_so : (a b : MatchMapping) → mappings.cmp-value.it a b ≡ mapping_cmp a b
mapping_so (Terminal t) (Terminal u) = ordered_so t u
mapping_so (Terminal t) Skip = refl
mapping_so Skip (Terminal u) = refl
mapping_so Skip Skip = refl

entry_so : (a b : MatchEntry) → entries.cmp-value.it a b ≡ entry_cmp a b
entry_so a b =
    ap₂ (λ (x y : Ordering). ordering_then (nat_cmp a.precedence b.precedence) (ordering_then x y))
    (literal_so a.match_literal b.match_literal) (mapping_so a.user_name b.user_name)

pub entry_order : entries.cmp-value.it ≡ entry_cmp
entry_order = fun_ext (λ a. fun_ext (λ b. entry_so a b))
