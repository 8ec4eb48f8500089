use Rattle.std.proofs.Common.{◌+◌, ◌*◌, [], ◌∷◌, codes, length, map, option_map}
use Rattle.json_records.specs.Reading.{list_form}
use Rattle.json_records.specs.Variants.{VariantSoFar}
use Rattle.lalrpop_norm_json.specs.Shapes as shape
use Rattle.lalrpop_norm_json.specs.Shapes.{one, many, is}
use Rattle.lalrpop_norm_tree.specs.Symbols.{kind_view, symbol_view, tuple_view}
use Rattle.lalrpop_norm_json.specs.Forms.{span_form, nonterminal_form}
use Rattle.lalrpop_norm_json.specs.SymbolForms.{kind_form, part_form, op_form, name_form, tuple_form}
use Rattle.lalrpop_norm_json.proofs.Loops.{RecordSoFar, ListSoFar}
use Rattle.lalrpop_norm_json.proofs.RowLoops.{RowRead}
use Rattle.lalrpop_norm_json.proofs.tree.symbols.+symbol.Given as goal

abbrev pub decreases-called : goal.decreases-called
decreases-called l = 3 * length l.reader.now

abbrev pub decreases-chosen : goal.decreases-chosen
decreases-chosen l = 3 * length l.reader.now + 1

abbrev pub decreases-group : goal.decreases-group
decreases-group l = 3 * length l.reader.now

abbrev pub decreases-kind : goal.decreases-kind
decreases-kind l = 3 * length l.reader.now

abbrev pub decreases-kind_of : goal.decreases-kind_of
decreases-kind_of l = 3 * length l.reader.now + 2

abbrev pub decreases-named : goal.decreases-named
decreases-named l = 3 * length l.reader.now

abbrev pub decreases-repeated : goal.decreases-repeated
decreases-repeated l = 3 * length l.reader.now

abbrev pub decreases-symbol : goal.decreases-symbol
decreases-symbol l = 3 * length l.reader.now

abbrev pub decreases-symbols : goal.decreases-symbols
decreases-symbols l = 3 * length l.reader.now

abbrev pub decreases-tupled : goal.decreases-tupled
decreases-tupled l = 3 * length l.reader.now

abbrev pub invariant-called-loop-name : goal.invariant-called-loop-name
invariant-called-loop-name l =
    RecordSoFar ((codes "args", many shape.symbol) ∷ (codes "name", one shape.text) ∷ []) l.depth l.fn.reader l.reader
    (option_map (λ xs. list_form (map (λ s. part_form (symbol_view s)) xs.items)) l.args ∷ option_map nonterminal_form l.name ∷ []) l.strays

abbrev pub decreases-called-loop-name : goal.decreases-called-loop-name
decreases-called-loop-name l = length l.reader

abbrev pub invariant-group-loop-list : goal.invariant-group-loop-list
invariant-group-loop-list l =
    RecordSoFar ((codes "symbols", many shape.symbol) ∷ []) l.depth l.fn.reader l.reader
    (option_map (λ xs. list_form (map (λ s. part_form (symbol_view s)) xs.items)) l.list ∷ []) l.strays

abbrev pub decreases-group-loop-list : goal.decreases-group-loop-list
decreases-group-loop-list l = length l.reader

abbrev pub invariant-kind-loop-read : goal.invariant-kind-loop-read
invariant-kind-loop-read l = VariantSoFar (λ k. kind_form (kind_view k)) (is shape.kind) l.depth l.fn.reader l.reader (option_map (λ s. s.now) l.before) l.strays l.read

abbrev pub decreases-kind-loop-read : goal.decreases-kind-loop-read
decreases-kind-loop-read l = length l.reader

abbrev pub invariant-named-loop-of : goal.invariant-named-loop-of
invariant-named-loop-of l =
    RowRead (is shape.symbol_name ∷ is shape.symbol ∷ []) l.depth l.fn.reader l.reader (option_map name_form l.names ∷ option_map (λ s. part_form (symbol_view s)) l.of ∷ []) l.place

abbrev pub decreases-named-loop-of : goal.decreases-named-loop-of
decreases-named-loop-of l = length l.reader

abbrev pub invariant-repeated-loop-repeated : goal.invariant-repeated-loop-repeated
invariant-repeated-loop-repeated l =
    RecordSoFar ((codes "op", one shape.repeat_operator) ∷ (codes "symbol", one shape.symbol) ∷ []) l.depth l.fn.reader l.reader
    (option_map op_form l.op ∷ option_map (λ s. part_form (symbol_view s)) l.repeated ∷ []) l.strays

abbrev pub decreases-repeated-loop-repeated : goal.decreases-repeated-loop-repeated
decreases-repeated-loop-repeated l = length l.reader

abbrev pub invariant-symbol-loop-of : goal.invariant-symbol-loop-of
invariant-symbol-loop-of l =
    RecordSoFar ((codes "kind", one shape.kind) ∷ (codes "span", one shape.span) ∷ []) l.depth l.fn.reader l.reader
    (option_map (λ k. kind_form (kind_view k)) l.of ∷ option_map span_form l.span ∷ []) l.strays

abbrev pub decreases-symbol-loop-of : goal.decreases-symbol-loop-of
decreases-symbol-loop-of l = length l.reader

abbrev pub invariant-symbols-loop-list : goal.invariant-symbols-loop-list
invariant-symbols-loop-list l = ListSoFar (λ s. part_form (symbol_view s)) (is shape.symbol) l.depth l.fn.reader l.reader l.good l.list.items

abbrev pub decreases-symbols-loop-list : goal.decreases-symbols-loop-list
decreases-symbols-loop-list l = length l.reader

abbrev pub invariant-tupled-loop-of : goal.invariant-tupled-loop-of
invariant-tupled-loop-of l =
    RowRead (is shape.name_tuple ∷ is shape.symbol ∷ []) l.depth l.fn.reader l.reader (option_map (λ t. tuple_form (tuple_view t)) l.names ∷ option_map (λ s. part_form (symbol_view s)) l.of ∷ []) l.place

abbrev pub decreases-tupled-loop-of : goal.decreases-tupled-loop-of
decreases-tupled-loop-of l = length l.reader
