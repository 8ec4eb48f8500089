use Rattle.std.proofs.Common.{◌≡◌, ◌∙◌, ◌∷◌, ◌++◌, List, ap, sym, subst, map, rules}
use Rattle.std.specs.List.Sorted.{IsStrictlySortedBy}
use Rattle.std.specs.Map.{keys_of}
use Rattle.std.specs.Map.Iter.{deref_pair}
use Rattle.std.proofs.lemmas.Map.Iter.{rest_more}
use Rattle.std.proofs.lemmas.Map.Made.{keys_of-map_values}
use Rattle.lalrpop_norm_tree_names.specs.declared.names.TerminalString.{TerminalString}
use Rattle.lalrpop_norm_tree_names.specs.contracts.names.TerminalStringOrd.TheImpl.{cmp-value}
use Rattle.lalrpop_norm_tree_names.specs.contracts.names.TerminalStringOrd.TheImpl.Laws.{total-law}
use Rattle.lalrpop_norm_tree_parts.specs.Reprs.{ReprData, repr_view}
use Rattle.lalrpop_norm_tree_parts.specs.declared.lowered.TypeRepr.{TypeRepr}
use Rattle.lalrpop_norm_repr.proofs.RowOrder.{one_more_copied}
use Rattle.lalrpop_norm_shared_types.specs.Shared.{shared_view}
use Rattle.lalrpop_norm_lower.proofs.terminal_types.shared_rows.Goals as goal

pub loop-terminal-preserved : goal.loop-terminal-preserved
loop-terminal-preserved c =
    let seen : List (TerminalString × TypeRepr) → List (TerminalString × ReprData) = λ es. map (λ e. (e.0, repr_view e.1)) es in
    let all : List (TerminalString × ReprData) = seen c.args.listed.now.entries in
    let before : List (TerminalString × ReprData) = map (λ e. (e.0, shared_view e.1)) c.loop-terminal.shared.entries in
    let key : c.in_ok-terminal.terminal ≡ c.in-Some.terminal.now = search rules in
    let next : c.loop-terminal.terminal-iterator ≡ (c.in-Some.terminal.now, c.in-Some.ty.now) ∷ c.next.new.self = rest_more deref_pair _ _ _ (c.in-Some.terminal, c.in-Some.ty) c.in-Some.is c.next.ensures.steps in
    let whole : before ++ (c.in_ok-terminal.terminal, repr_view c.in-Some.ty.now) ∷ seen c.next.new.self ≡ all =
    ap (λ t. before ++ (t, repr_view c.in-Some.ty.now) ∷ seen c.next.new.self) key
    ∙ ap (λ es. before ++ seen es) (sym next) ∙ c.loop-terminal.invariant in
    let sorted : IsStrictlySortedBy cmp-value.it (keys_of all) =
    subst (λ ks. IsStrictlySortedBy cmp-value.it ks) (sym (keys_of-map_values repr_view c.args.listed.now.entries)) c.into_iter-terminal-iterator.ensures.into_iter_gives.5 in
    rw c.in_ok-insert.ensures (one_more_copied cmp-value.it total-law shared_view c.loop-terminal.shared.entries c.in_ok-terminal.terminal c.in_ok-ty.ty _ (seen c.next.new.self) all sorted c.in_ok-ty.ensures whole)
