-- The JSON forms of tables, of what their rows hold without types, and of origins.
use Rattle.std.specs.Prelude.{List, [], ◌∷◌, codes}
use Rattle.serde_json.specs.Data.{Data, string}
use Rattle.lalrpop_norm_theory.specs.LoweredTrees as theory
use Rattle.lalrpop_norm_repr.specs.declared.symbol.Symbol.{Symbol}
use Rattle.lalrpop_norm_repr.specs.declared.symbol.Symbol.TheVariants.{Nonterminal, Terminal}
use Rattle.lalrpop_norm_repr.specs.declared.action.ActionFn.{ActionFn}
use Rattle.lalrpop_norm_repr.specs.Actions.{action_index}
use Rattle.lalrpop_norm_repr.specs.Lowered.{TerminalTable}
use Rattle.lalrpop_norm_json.specs.Json.{fields, variant, row, natural, list_form}
use Rattle.lalrpop_norm_json.specs.Forms.{nonterminal_form, terminal_form}

-- a table: a list of pairs, in the order of its keys
abbrev pub rows_form : {K V : Type 0} → (K → Data) → (V → Data) → List (K × V) → Data
rows_form f g = list_form (λ r. row (f r.0 ∷ g r.1 ∷ []))

abbrev pub symbol_form : Symbol → Data
symbol_form (Nonterminal n) = variant (codes "Nonterminal") (nonterminal_form n)
symbol_form (Terminal t) = variant (codes "Terminal") (terminal_form t)

abbrev pub action_number_form : ActionFn → Data
action_number_form a = natural (action_index a)

abbrev pub terminals_form : TerminalTable → Data
terminals_form s =
    fields ((codes "all", list_form terminal_form s.all) ∷ (codes "bits", rows_form terminal_form natural s.bits) ∷ [])

abbrev pub origin_form : theory.Origin → Data
origin_form theory.from_start = string (codes "Start")
origin_form (theory.written n k) =
    variant (codes "Written") (fields ((codes "alternative", natural k) ∷ (codes "rule", string n) ∷ []))
origin_form theory.level_step = string (codes "LevelStep")
origin_form theory.from_group = string (codes "Group")
origin_form theory.star_empty = string (codes "StarEmpty")
origin_form theory.star_some = string (codes "StarSome")
origin_form theory.plus_one = string (codes "PlusOne")
origin_form theory.plus_more = string (codes "PlusMore")
origin_form theory.question_some = string (codes "QuestionSome")
origin_form theory.question_empty = string (codes "QuestionEmpty")
origin_form theory.from_times = string (codes "Times")
origin_form theory.from_lookahead = string (codes "Lookahead")
origin_form theory.from_lookbehind = string (codes "Lookbehind")
