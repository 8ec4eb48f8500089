-- Generated rules, read off their first origins.
use Rattle.std.specs.Prelude.{◌≡◌, ℕ, List, [], ◌∷◌, slice_get, Option, Some, None}
use Rattle.lalrpop_norm_theory.specs.Symbols.{Name}
use Rattle.lalrpop_norm_theory.specs.LoweredTrees.{ProductionTable, Production, Origin, LoweredSymbol, terminal_symbol}
use Rattle.lalrpop_norm_theory.specs.LoweredTrees.{nonterminal_symbol, from_group, star_empty, star_some, plus_one, plus_more}
use Rattle.lalrpop_norm_theory.specs.LoweredTrees.{question_some, question_empty, from_times, from_lookahead, from_lookbehind}
use Rattle.lalrpop_norm_explain.specs.declared.forms.Form.{Form as CodeForm}
use Rattle.lalrpop_norm_explain.specs.declared.forms.Form.TheVariants.{Group, Star, Plus, Question, Times, Ahead, Behind}
use Rattle.lalrpop_norm_explain.specs.Derivations.{tree_symbol, symbols_view}

-- what a rule was generated for: a group of symbols; `X*`, with the name of `X+`; `X+`; `X?`; `X{n}`, each time a symbol; a
-- location symbol
pub data Form : Type 0 where
  group_form : List LoweredSymbol → Form
  star_form : Name → Form
  plus_form question_form : LoweredSymbol → Form
  times_form : List LoweredSymbol → Form
  ahead_form behind_form : Form

abbrev pub production : Origin → List LoweredSymbol → Production
production o ss = record { origin = o; symbols = ss }

-- the productions of a generated rule of that name
abbrev pub made_productions : Name → Form → List Production
made_productions n (group_form ss) = production from_group ss ∷ []
made_productions n (star_form m) = production star_empty [] ∷ (production star_some (nonterminal_symbol m ∷ []) ∷ [])
made_productions n (plus_form x) = production plus_one (x ∷ []) ∷ (production plus_more (nonterminal_symbol n ∷ (x ∷ [])) ∷ [])
made_productions n (question_form x) = production question_some (x ∷ []) ∷ (production question_empty [] ∷ [])
made_productions n (times_form ss) = production from_times ss ∷ []
made_productions n ahead_form = production from_lookahead [] ∷ []
made_productions n behind_form = production from_lookbehind [] ∷ []

abbrev pub star_by : List LoweredSymbol → Option Form
star_by [] = None
star_by (terminal_symbol a ∷ ss) = None
star_by (nonterminal_symbol m ∷ ss) = Some (star_form m)

abbrev pub star_over : List Production → Option Form
star_over [] = None
star_over (q ∷ qs) = star_by q.symbols

abbrev pub plus_by : List LoweredSymbol → Option Form
plus_by [] = None
plus_by (x ∷ ss) = Some (plus_form x)

abbrev pub question_by : List LoweredSymbol → Option Form
question_by [] = None
question_by (x ∷ ss) = Some (question_form x)

abbrev pub form_by : Origin → List LoweredSymbol → List Production → Option Form
form_by from_group ss qs = Some (group_form ss)
form_by star_empty ss qs = star_over qs
form_by plus_one ss qs = plus_by ss
form_by question_some ss qs = question_by ss
form_by from_times ss qs = Some (times_form ss)
form_by from_lookahead ss qs = Some ahead_form
form_by from_lookbehind ss qs = Some behind_form
form_by _ ss qs = None

-- the form of `X*` by the rest of its rule's productions
abbrev pub star_second : List Production → Option Form
star_second [] = None
star_second (q ∷ qs) = star_over qs

-- what a rule was generated for, if it was generated
abbrev pub form_of : List Production → Option Form
form_of [] = None
form_of (q ∷ qs) = form_by q.origin q.symbols qs

-- a terminal, or a visited name
abbrev pub IsVisited : (Name → Type 0) → LoweredSymbol → Type 0
IsVisited Visited (terminal_symbol a) = Unit {0}
IsVisited Visited (nonterminal_symbol n) = Visited n

abbrev pub AreVisited : (Name → Type 0) → List LoweredSymbol → Type 0
AreVisited Visited [] = Unit {0}
AreVisited Visited (terminal_symbol a ∷ ss) = AreVisited Visited ss
AreVisited Visited (nonterminal_symbol n ∷ ss) = Visited n × AreVisited Visited ss

-- Of the visited names each rule that begins like a generated one is generated, and the names in its productions are visited.
pub record IsFormedIn (P : ProductionTable) (Visited : Name → Type 0) : Type 0 where
  pub formed : (n : Name) (f : Form) → Visited n → form_of (P n) ≡ Some f → P n ≡ made_productions n f
  pub closed : (n : Name) (p : ℕ) (q : Production) → Visited n → slice_get (P n) p ≡ Some q → AreVisited Visited q.symbols

-- a form as code hands it out
abbrev pub form_view : CodeForm → Form
form_view (Group ss) = group_form (symbols_view ss.now)
form_view (Star n) = star_form n.now.0
form_view (Plus s) = plus_form (tree_symbol s.now)
form_view (Question s) = question_form (tree_symbol s.now)
form_view (Times ss) = times_form (symbols_view ss.now)
form_view Ahead = ahead_form
form_view Behind = behind_form
