-- The worklist: the symbols whose rules are not generated yet. They are those that were reached first, each where it was reached.
use Rattle.std.specs.Prelude.{◌≡◌, List, ◌++◌, map, length, drop}
use Rattle.lalrpop_norm_tree.specs.Symbols.{Part, Parts, at}
use Rattle.lalrpop_norm_tree.specs.SymbolTexts.{part_text}
use Rattle.lalrpop_norm_model.specs.PlainRules.{met, all_met}
use Rattle.lalrpop_norm_nodes.specs.Meeting.{after}
use Rattle.lalrpop_norm_nodes.specs.declared.given.Environment.{Environment}
use Rattle.lalrpop_norm_nodes.specs.declared.table.Table.{Table}
use Rattle.lalrpop_norm_nodes.specs.Filled.{filled, all_filled, inside_replaced}
use Rattle.lalrpop_norm_nodes.specs.Given.{shown_for}
use Rattle.lalrpop_norm_nodes.specs.Tables.{seen_in, waiting_in, numbered_in}

-- a symbol with its parts rewritten, and not itself
abbrev pub parts_replaced : Part → Part
parts_replaced (at s k) = at s (inside_replaced k)

-- what a symbol that is read reaches, each at its span, with its parts rewritten
abbrev pub shown_met : Environment → Part → List Part
shown_met e p = map parts_replaced (met (filled (shown_for e) p))

abbrev pub all_shown_met : Environment → Parts → List Part
all_shown_met e ps = map parts_replaced (all_met (all_filled (shown_for e) ps))

-- of these symbols, reached behind those that were seen, the first of each text
abbrev pub first_met : List Part → List Part → List Part
first_met seen xs = drop (length seen) (after seen xs)

-- The symbols were reached, and those that were reached first are added to the end of the worklist. Their ids stand for what was
-- seen since, one after another.
pub record LeavesWaiting (before later : Table) (xs : List Part) : Type 0 where
  pub waiting : waiting_in later ≡ waiting_in before ++ first_met (seen_in before) xs
  pub texts : map part_text (seen_in later) ≡ map part_text (after (seen_in before) xs)
  pub new : List Part
  pub seen : seen_in later ≡ seen_in before ++ new
  pub numbers : numbered_in later ≡ numbered_in before ++ new
