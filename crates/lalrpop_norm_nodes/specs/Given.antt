-- The environment of a macro: what its arguments are bound to, by ids.
use Rattle.std.specs.Prelude.{◌≡◌, ℕ, List, Option, Some, None, option_map, option_and_then, slice_get}
use Rattle.lalrpop_norm_names.specs.Numbers.{number_in_table}
use Rattle.lalrpop_norm_tree.specs.Symbols.{Kind, Part, Parts, nonterminal, kind_view}
use Rattle.lalrpop_norm_tree.specs.SymbolTexts.{kind_text}
use Rattle.lalrpop_norm_model.specs.Replaced.{replaced, replaced_kind, all_replaced}
use Rattle.lalrpop_norm_nodes.specs.Filled.{filled, filled_kind, all_filled, inside_replaced}
use Rattle.lalrpop_norm_nodes.specs.declared.given.Given.{Given}
use Rattle.lalrpop_norm_nodes.specs.declared.given.Environment.{Environment}
use Rattle.lalrpop_norm_nodes.specs.Wholes.{Whole, kind_at, IsKind}

-- what the argument of a name is bound to
abbrev pub given_in : Environment → List ℕ → Option Given
given_in e n = option_and_then (λ i. slice_get e.given.now i) (number_in_table e.numbers.now n)

-- what a name is bound to, up to spans (the interned term), and the rewritten symbol that is substituted for it
abbrev pub whole_for : List Whole → Environment → List ℕ → Option Kind
whole_for ws e n = option_map (λ g. kind_at ws g.number) (given_in e n)

abbrev pub shown_for : Environment → List ℕ → Option Kind
shown_for e n = option_map (λ g. kind_view g.symbol.kind) (given_in e n)

-- an id that stands for a symbol, and that symbol rewritten
pub record IsGiven (ws : List Whole) (g : Given) : Type 0 where
  pub stands : IsKind ws g.number
  pub replaced : replaced_kind (kind_view g.symbol.kind) ≡ kind_view g.symbol.kind
  pub text : kind_text (kind_view g.symbol.kind) ≡ kind_text (kind_at ws g.number)

abbrev pub AreGiven : List Whole → Environment → Type 0
AreGiven ws e = (n : List ℕ) (g : Given) → given_in e n ≡ Some g → IsGiven ws g

-- what a symbol is bound to that is an argument's name
abbrev pub given_to : Environment → Kind → Option Given
given_to e (nonterminal n) = given_in e n
given_to e _ = None

-- a symbol read in an environment: substituted, up to spans inside of what is substituted; and rewritten
abbrev pub read_whole : List Whole → Environment → Part → Part
read_whole ws e p = filled (whole_for ws e) p

abbrev pub all_whole : List Whole → Environment → Parts → Parts
all_whole ws e ps = all_filled (whole_for ws e) ps

abbrev pub kind_whole : List Whole → Environment → Kind → Kind
kind_whole ws e k = filled_kind (whole_for ws e) k

abbrev pub read_shown : Environment → Part → Part
read_shown e p = replaced (filled (shown_for e) p)

abbrev pub all_shown : Environment → Parts → Parts
all_shown e ps = all_replaced (all_filled (shown_for e) ps)

abbrev pub kind_shown : Environment → Kind → Kind
kind_shown e k = inside_replaced (filled_kind (shown_for e) k)
