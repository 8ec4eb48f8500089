use Rattle.std.proofs.Common.{◌≡◌, ◌∙◌, ◌∷◌, ◌++◌, List, ap, sym, subst, map, rules}
use Rattle.std.specs.List.Sorted.{IsStrictlySortedBy}
use Rattle.std.specs.Map.{keys_of}
use Rattle.std.specs.Map.Iter.{deref_pair}
use Rattle.std.proofs.lemmas.Map.Iter.{rest_more}
use Rattle.std.proofs.lemmas.Map.Made.{keys_of-map_values}
use Rattle.lalrpop_norm_tree_names.specs.declared.names.TerminalString.{TerminalString}
use Rattle.lalrpop_norm_tree_patterns.specs.declared.pattern.Pattern.{Pattern}
use Rattle.lalrpop_norm_tree_parts.specs.declared.lowered.TypeRepr.{TypeRepr}
use Rattle.lalrpop_norm_tree_names.specs.contracts.names.TerminalStringOrd.TheImpl.{cmp-value}
use Rattle.lalrpop_norm_tree_names.specs.contracts.names.TerminalStringOrd.TheImpl.Laws.{total-law}
use Rattle.lalrpop_norm_tree_patterns.specs.Patterns.{PatternData, pattern_view}
use Rattle.lalrpop_norm_tree_parts.specs.Reprs.{ReprData, repr_view}
use Rattle.lalrpop_norm_repr.proofs.RowOrder.{one_more_copied}
use Rattle.lalrpop_norm_repr.proofs.whole.copy.copy_conversions.Goals as goal

pub loop-terminal-preserved : goal.loop-terminal-preserved
loop-terminal-preserved c =
    let seen : List (TerminalString × Pattern TypeRepr) → List (TerminalString × PatternData ReprData) = λ es. map (λ e. (e.0, pattern_view repr_view e.1)) es in
    let all : List (TerminalString × PatternData ReprData) = seen c.args.conversions.now.entries in
    let before : List (TerminalString × PatternData ReprData) = seen c.loop-terminal.copies.entries in
    let key : c.in_ok-terminal.terminal ≡ c.in-Some.terminal.now = search rules in
    let next : c.loop-terminal.terminal-iterator ≡ (c.in-Some.terminal.now, c.in-Some.pattern.now) ∷ c.next.new.self = rest_more deref_pair _ _ _ (c.in-Some.terminal, c.in-Some.pattern) c.in-Some.is c.next.ensures.steps in
    let whole : before ++ (c.in_ok-terminal.terminal, pattern_view repr_view c.in-Some.pattern.now) ∷ seen c.next.new.self ≡ all =
    ap (λ t. before ++ (t, pattern_view repr_view c.in-Some.pattern.now) ∷ seen c.next.new.self) key
    ∙ ap (λ es. before ++ seen es) (sym next) ∙ c.loop-terminal.invariant in
    let sorted : IsStrictlySortedBy cmp-value.it (keys_of all) =
    subst (λ ks. IsStrictlySortedBy cmp-value.it ks) (sym (keys_of-map_values (pattern_view repr_view) c.args.conversions.now.entries)) c.into_iter-terminal-iterator.ensures.into_iter_gives.5 in
    rw c.in_ok-insert.ensures (one_more_copied cmp-value.it total-law (pattern_view repr_view) c.loop-terminal.copies.entries c.in_ok-terminal.terminal c.in_ok-pattern.pattern _ (seen c.next.new.self) all sorted c.in_ok-pattern.ensures whole)
