-- What a table of nodes has reached, and what is reached in it.
use Rattle.std.specs.Prelude.{◌≡◌, ⊤, ℕ, Bool, true, ◌||◌, List, [], map, length, Option, Some, None, is_some, option_and_then, slice_get}
use Rattle.std.specs.Prelude.{flat_map, nat_eq}
use Rattle.std.specs.Cmp.Lexicographic.{pointwise}
use Rattle.std.specs.HashMap.{get}
use Rattle.lalrpop_norm_tree_names.specs.declared.names.Span.{Span}
use Rattle.lalrpop_norm_tree.specs.Symbols.{Part, at, parts_of, symbol_view}
use Rattle.lalrpop_norm_tree.specs.SymbolTexts.{part_text}
use Rattle.lalrpop_norm_faults.specs.Faults.{Fault}
use Rattle.lalrpop_norm_model.specs.PlainRules.{met, all_met}
use Rattle.lalrpop_norm_nodes.specs.Apart.{nowhere, unplaced_kind, unplaced}
use Rattle.lalrpop_norm_nodes.specs.Meeting.{met_inside, own, own_text, first_with_text, after, clash_faults, were_met, has_key}
use Rattle.lalrpop_norm_nodes.specs.declared.node.Node.{Node}
use Rattle.lalrpop_norm_nodes.specs.declared.table.Table.{Table}
use Rattle.lalrpop_norm_nodes.specs.declared.table.Waiting.{Waiting}
use Rattle.lalrpop_norm_nodes.specs.Wholes.{Whole, one_symbol, symbols, one_pattern, patterns, part_at, built, wholes, texts_of, AreNodes, StandsFor, Grows}

-- what the ids of a table stand for
abbrev pub wholes_in : Table → List Whole
wholes_in t = wholes t.nodes

-- whether a text is a declared name
abbrev pub is_declared_in : Table → List ℕ → Bool
is_declared_in t = has_key t.names

-- the symbol itself at a span, if it is desugared, and its text
abbrev pub own_at : Span → Whole → List Part
own_at s (one_symbol k) = own s k
own_at s (symbols ps) = []
own_at s (one_pattern p) = []
own_at s (patterns ps) = []

abbrev pub own_in : Whole → List Part
own_in w = own_at nowhere w

abbrev pub own_text_in : Whole → Option (List ℕ)
own_text_in (one_symbol k) = own_text (at nowhere k)
own_text_in (symbols ps) = None
own_text_in (one_pattern p) = None
own_text_in (patterns ps) = None

-- whether a node is that of a symbol that is desugared, whatever its ids stand for
abbrev pub IsMadeNode : Node → Bool → Type 0
IsMadeNode n made = (ws : List Whole) → is_some (own_text_in (built ws n)) ≡ made

-- the symbols that were reached and are desugared, up to spans, in the order in which they were reached
abbrev pub seen_in : Table → List Part
seen_in t = flat_map own_in (wholes_in t)

-- what it reaches
abbrev pub met_of : Whole → List Part
met_of (one_symbol k) = met (at nowhere k)
met_of (symbols ps) = all_met (parts_of ps)
met_of (one_pattern p) = []
met_of (patterns ps) = []

-- its spans are off
abbrev pub IsBare : Whole → Type 0
IsBare (one_symbol k) = unplaced_kind k ≡ k
IsBare (symbols ps) = map unplaced ps ≡ ps
IsBare (one_pattern p) = ⊤
IsBare (patterns ps) = ⊤

abbrev pub text_noted : Table → List ℕ → Option ℕ
text_noted t x = get (pointwise nat_eq) t.places x

-- what is inside it reaches
abbrev pub inner_of : Whole → List Part
inner_of (one_symbol k) = met_inside k
inner_of (symbols ps) = all_met (parts_of ps)
inner_of (one_pattern p) = []
inner_of (patterns ps) = []

-- whether a text is a declared name, or that of a symbol that was reached
abbrev pub is_taken_in : Table → List ℕ → Bool
is_taken_in t x = is_declared_in t x || is_some (first_with_text x (seen_in t))

-- the symbols on the worklist, in the order in which they were reached
abbrev pub waiting_in : Table → List Part
waiting_in t = map (λ w. symbol_view w.symbol) t.waiting.items

-- what their ids stand for
abbrev pub numbered_in : Table → List Part
numbered_in t = map (λ w. part_at (wholes_in t) w.number) t.waiting.items

-- its id has its text
abbrev pub IsNumbered : List Whole → Waiting → Type 0
IsNumbered ws w = option_and_then own_text_in (slice_get ws w.number) ≡ Some (part_text (symbol_view w.symbol))

abbrev pub AreNumbered : List Whole → List Waiting → Type 0
AreNumbered ws xs = (i : ℕ) (w : Waiting) → slice_get xs i ≡ Some w → IsNumbered ws w

-- The nodes stand for symbols without spans, each with its text if it is desugared; all that they reach was reached. A text leads
-- to a node if and only if a symbol of it was reached. Each symbol on the worklist has the id of its text.
pub record IsNodeTable (t : Table) : Type 0 where
  pub nodes : AreNodes t.nodes
  pub texts : texts_of t.nodes ≡ map own_text_in (wholes_in t)
  pub bare : (i : ℕ) (w : Whole) → StandsFor (wholes_in t) i w → IsBare w
  pub met : (i : ℕ) (w : Whole) → StandsFor (wholes_in t) i w → were_met (is_declared_in t) (seen_in t) (met_of w) ≡ true
  pub places : (x : List ℕ) → is_some (text_noted t x) ≡ is_some (first_with_text x (seen_in t))
  pub waiting : AreNumbered (wholes_in t) t.waiting.items

-- as many texts were made as symbols are desugared
abbrev pub IsCounted : Table → Type 0
IsCounted t = t.made.count ≡ length (seen_in t)

-- the symbols were reached
pub record TableMeets (before later : Table) (xs : List Part) : Type 0 where
  pub seen : map unplaced (seen_in later) ≡ map unplaced (after (seen_in before) xs)
  pub names : later.names ≡ before.names
  pub grows : Grows (wholes_in before) (wholes_in later)
  pub table : IsNodeTable later

-- the errors where they are reached
abbrev pub refused_in : Table → List Part → List Fault
refused_in t xs = clash_faults (is_declared_in t) (seen_in t) xs
