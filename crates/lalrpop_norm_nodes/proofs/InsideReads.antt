-- What is inside a symbol that is read.
use Rattle.std.proofs.Common.{◌≡◌, ℕ, List, [], ◌∷◌, map, slice_get, refl, sym, ap, ap₂, ◌∙◌}
use Rattle.lalrpop_norm_tree.specs.declared.symbol.Symbol.{Symbol}
use Rattle.lalrpop_norm_tree.specs.declared.symbol.Tuple.{Tuple}
use Rattle.lalrpop_norm_tree.specs.Symbols.{Kind, Part, Parts, Call, ArgumentPatterns, argument_pattern_view, argument_patterns_of, tuple_view, part_and, parts_of, at, group, call, tupled, kind_view, symbol_view}
use Rattle.lalrpop_norm_tree.proofs.KindLevels.{names_of}
use Rattle.lalrpop_norm_nodes.specs.Apart.{nowhere, unplaced, unplaced_kind, all_unplaced}
use Rattle.lalrpop_norm_nodes.specs.declared.given.Environment.{Environment}
use Rattle.lalrpop_norm_nodes.specs.declared.node.Node.TheVariants as node
use Rattle.lalrpop_norm_nodes.specs.declared.node.Unary.TheVariants as unary
use Rattle.lalrpop_norm_nodes.specs.declared.node.NamedUnary.TheVariants as named_unary
use Rattle.lalrpop_norm_nodes.specs.declared.node.Binary.TheVariants as binary
use Rattle.lalrpop_norm_nodes.specs.Filled.{all_filled}
use Rattle.lalrpop_norm_nodes.specs.Given.{whole_for, read_whole, kind_whole}
use Rattle.lalrpop_norm_nodes.specs.Readings.{IsNodeFor, bare_wholes}
use Rattle.lalrpop_norm_nodes.specs.Wholes.{Whole, one_symbol, symbols, patterns, as_kind, as_symbols, as_patterns, StandsFor, Grows}
use Rattle.lalrpop_norm_nodes.proofs.ReadLemmas.{read_at}
use Rattle.lalrpop_norm_nodes.proofs.RowItems.{stands_later, is_kind, are_symbols, are_patterns}

bare_parts : (ws : List Whole) (e : Environment) (ps : List Part) → parts_of (bare_wholes ws e ps) ≡ all_unplaced (all_filled (whole_for ws e) (parts_of ps))
bare_parts ws e [] = refl
bare_parts ws e (p ∷ ps) = ap (part_and (unplaced (read_whole ws e p))) (bare_parts ws e ps)

row_parts : (ws vs : List Whole) (e : Environment) (i : ℕ) (ps : List Part) → StandsFor vs i (symbols (bare_wholes ws e ps)) →
    parts_of (as_symbols (slice_get vs i)) ≡ all_unplaced (all_filled (whole_for ws e) (parts_of ps))
row_parts ws vs e i ps h = ap (λ o. parts_of (as_symbols o)) h ∙ bare_parts ws e ps

pub group_for : (ws vs : List Whole) (e : Environment) (i : ℕ) (ps : List Part) (qs : Parts) → qs ≡ parts_of ps → StandsFor vs i (symbols (bare_wholes ws e ps)) →
    IsNodeFor vs (node.Unary unary.Group i) (group (all_filled (whole_for ws e) qs))
group_for ws vs e i ps qs same h = (
  are_symbols vs i _ h,
  ap (λ (rs : Parts). one_symbol (group rs)) (row_parts ws vs e i ps h ∙ ap (λ (rs : Parts). all_unplaced (all_filled (whole_for ws e) rs)) (sym same)),
)

pub call_for : (ws vs : List Whole) (e : Environment) (i : ℕ) (ps : List Part) (a : List ℕ) (m : Call) → m ≡ (a, parts_of ps) → StandsFor vs i (symbols (bare_wholes ws e ps)) →
    IsNodeFor vs (node.NamedUnary named_unary.Call a i) (call m.0 (all_filled (whole_for ws e) m.1))
call_for ws vs e i ps a m same h = (
  are_symbols vs i _ h,
  ap (λ (rs : Parts). one_symbol (call a rs)) (row_parts ws vs e i ps h)
      ∙ ap (λ (o : Call). one_symbol (call o.0 (all_unplaced (all_filled (whole_for ws e) o.1)))) (sym same),
)

pub tuple_for : (ws us vs : List Whole) (e : Environment) (t : Tuple) (s : Symbol) (k : Kind) (row n : ℕ) → k ≡ tupled (tuple_view t) (symbol_view s) →
    Grows us vs → StandsFor us n (one_symbol (unplaced_kind (kind_whole ws e (kind_view s.kind)))) → StandsFor vs row (patterns (map argument_pattern_view t.tuples.items)) →
    IsNodeFor vs (node.Binary binary.Tuple row n) (kind_whole ws e k)
tuple_for ws us vs e t s k row n same grows h g =
    let here = stands_later us vs n _ grows h in (
      (are_patterns vs row _ g, is_kind vs n _ here),
      ap₂ (λ (ps : ArgumentPatterns) (p : Part). one_symbol (tupled ps p))
          (ap (λ o. argument_patterns_of (as_patterns o)) g ∙ sym (names_of t))
          (ap (λ o. at nowhere (as_kind o)) here ∙ sym (ap unplaced (read_at ws e s)))
          ∙ ap (λ (l : Kind). one_symbol (unplaced_kind (kind_whole ws e l))) (sym same),
    )
