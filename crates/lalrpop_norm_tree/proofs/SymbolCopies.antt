-- Copies of symbols and of the patterns of arguments, one kind after another.
use Rattle.std.proofs.Common.{◌≡◌, ℕ, ◌+◌, ◌<◌, List, [], ◌∷◌, ◌++◌, length, take, get_or, Box, Vec, Global, map, refl, sym, ap, ap₂, ◌∙◌}
use Rattle.std.proofs.lemmas.List.{map-append, take_more}
use Rattle.lalrpop_norm_tree_names.specs.declared.names.NonterminalString.{NonterminalString}
use Rattle.lalrpop_norm_tree.specs.declared.symbol.ArgPattern.{ArgPattern}
use Rattle.lalrpop_norm_tree.specs.declared.symbol.ArgPattern.TheVariants as pattern
use Rattle.lalrpop_norm_tree.specs.declared.symbol.ArgPattern.TheViews.{roll-Tuple}
use Rattle.lalrpop_norm_tree.specs.declared.symbol.ExprSymbol.{ExprSymbol}
use Rattle.lalrpop_norm_tree.specs.declared.symbol.MacroSymbol.{MacroSymbol}
use Rattle.lalrpop_norm_tree.specs.declared.symbol.Name.{Name}
use Rattle.lalrpop_norm_tree.specs.declared.symbol.RepeatSymbol.{RepeatSymbol}
use Rattle.lalrpop_norm_tree.specs.declared.symbol.Symbol.{Symbol}
use Rattle.lalrpop_norm_tree.specs.declared.symbol.SymbolKind.{SymbolKind}
use Rattle.lalrpop_norm_tree.specs.declared.symbol.SymbolKind.TheFolds.{fold-roll-MacroSymbol}
use Rattle.lalrpop_norm_tree.specs.declared.symbol.SymbolKind.TheVariants as kind
use Rattle.lalrpop_norm_tree.specs.declared.symbol.SymbolKind.TheViews.{out-ExprSymbol, out-MacroSymbol, roll-ExprSymbol, roll-MacroSymbol}
use Rattle.lalrpop_norm_tree.specs.declared.symbol.Tuple.{Tuple}
use Rattle.lalrpop_norm_tree.specs.Symbols.{several, argument_patterns_of, argument_pattern_view, tuple_view}
use Rattle.lalrpop_norm_tree.specs.Symbols.{Kind, at, repeated, chosen, Part, Parts, Call, Again, kind_step, expr_step, macro_step, repeat_step, symbol_step, kind_view, symbol_view, expr_view, macro_view, repeat_view, parts_view}
use Rattle.lalrpop_norm_tree.proofs.KindLevels.{repeat_is, chosen_is, symbols_of, called_with, repeated_symbol, names_of, several_is}
use Rattle.lalrpop_norm_tree.proofs.SymbolViews.{symbol_seen, seen_at, group_seen, repeat_seen}

pub symbol_copied : (x : Symbol) (k : SymbolKind) → kind_view k ≡ kind_view x.kind → symbol_view (let y : Symbol = record { span = x.span; kind = k } in y) ≡ symbol_view x
symbol_copied x k same = symbol_seen x.span k ∙ ap (at x.span) same ∙ sym (seen_at x)

pub group_copied : (e : ExprSymbol) (ss : Vec Symbol Global) → parts_view ss.items ≡ parts_view (out-ExprSymbol e).symbols.items → expr_view (roll-ExprSymbol record { symbols = ss }) ≡ expr_view e
group_copied e ss same = group_seen ss ∙ same ∙ sym (symbols_of e)

pub call_copied : (m : MacroSymbol) (n : NonterminalString) (ss : Vec Symbol Global) → n.0 ≡ (out-MacroSymbol m).name.0 → parts_view ss.items ≡ parts_view (out-MacroSymbol m).args.items → macro_view (roll-MacroSymbol record { name = n; args = ss }) ≡ macro_view m
call_copied m n ss e same =
    fold-roll-MacroSymbol Kind Parts Call Again Part kind_step expr_step macro_step repeat_step symbol_step (record { name = n; args = ss })
    ∙ ap₂ (λ (a : List ℕ) (p : Parts). let y : Call = (a, p) in y) e same
    ∙ sym (called_with m)

pub repeat_copied : (r : RepeatSymbol) (s : Symbol) → symbol_view s ≡ symbol_view r.symbol → repeat_view (let y : RepeatSymbol = record { op = r.op; symbol = s } in y) ≡ repeat_view r
repeat_copied r s same = rw (repeat_seen r.op s, repeated_symbol r, same) refl

module _ (k : SymbolKind) where
  pub again_copied : (b d : Box RepeatSymbol Global) → k ≡ kind.Repeat b → repeat_view d.value ≡ repeat_view b.value → kind_view (kind.Repeat d) ≡ kind_view k
  again_copied b d is same = repeat_is (kind.Repeat d) d refl ∙ ap (λ (a : Again). repeated a.0 a.1) same ∙ sym (repeat_is k b is)

  pub chosen_copied : (b d : Box Symbol Global) → k ≡ kind.Choose b → symbol_view d.value ≡ symbol_view b.value → kind_view (kind.Choose d) ≡ kind_view k
  chosen_copied b d is same = chosen_is (kind.Choose d) d refl ∙ ap chosen same ∙ sym (chosen_is k b is)

pub name_copied : (p : ArgPattern) (n m : Name) → p ≡ pattern.Name n → (m.mutable ≡ n.mutable) × (m.name ≡ n.name) → argument_pattern_view (pattern.Name m) ≡ argument_pattern_view p
name_copied p n m is same = ap₂ (λ u a. argument_pattern_view (pattern.Name record { mutable = u; name = a })) same.0 same.1 ∙ ap argument_pattern_view (sym is)

module _ (t : Tuple) where
  pub tuple_copied : (ps : Vec ArgPattern Global) → map argument_pattern_view ps.items ≡ map argument_pattern_view t.tuples.items → tuple_view (roll-Tuple record { tuples = ps }) ≡ tuple_view t
  tuple_copied ps same = names_of (roll-Tuple record { tuples = ps }) ∙ ap argument_patterns_of same ∙ sym (names_of t)

  pub several_copied : (p : ArgPattern) (u : Tuple) → p ≡ pattern.Tuple t → tuple_view u ≡ tuple_view t → argument_pattern_view (pattern.Tuple u) ≡ argument_pattern_view p
  several_copied p u is same = several_is u (pattern.Tuple u) refl ∙ ap several same ∙ sym (several_is t p is)

-- after the copies so far, one more
pub symbols_more : (ss : List Symbol) (copies more : List Symbol) (i : ℕ) (x : Symbol) (k : SymbolKind) → i < length ss → x ≡ get_or ss i x → map symbol_view copies ≡ map symbol_view (take i ss)
    → kind_view k ≡ kind_view x.kind → map symbol_view more ≡ map symbol_view copies ++ at x.span (kind_view k) ∷ [] → map symbol_view more ≡ map symbol_view (take (i + 1) ss)
symbols_more ss copies more i x k h item so_far same new =
    new
    ∙ ap₂ (λ ps l. ps ++ at x.span l ∷ []) so_far same
    ∙ ap (λ p. map symbol_view (take i ss) ++ p ∷ []) (sym (seen_at x) ∙ ap symbol_view item)
    ∙ sym (ap (map symbol_view) (take_more ss i x h) ∙ map-append symbol_view (take i ss) (get_or ss i x ∷ []))
