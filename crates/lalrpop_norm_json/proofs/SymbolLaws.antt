-- Forms of symbols: a symbol is read back from its form, which has the shape of symbols.
use Rattle.std.proofs.Common.{◌≡◌, ℕ, ◌+◌, ◌-◌, ◌^◌, nat_lt, List, [], Bool, true, false, bytes_eq, if◌then◌else◌, codes, refl, ap, ap₂, arith, le-ltb}
use Rattle.serde_json.specs.Data.{Data, string, array, object, Items, no_items, item, no_members, member}
use Rattle.lalrpop_norm_tree.specs.declared.symbol.RepeatOp.{RepeatOp}
use Rattle.lalrpop_norm_tree.specs.declared.symbol.RepeatOp.TheVariants.{Star, Plus, Question, Times}
use Rattle.lalrpop_norm_tree.specs.declared.symbol.Name.{Name}
use Rattle.lalrpop_norm_tree.specs.Symbols.{ArgumentPattern, one_name, several, ArgumentPatterns, no_arguments, argument_and, Kind, group, ambiguous_id, terminal, nonterminal, call, repeated, chosen, named, tupled, lookahead, lookbehind, error_terminal, Part, at, Parts, no_parts, part_and}
use Rattle.lalrpop_norm_json.specs.Json.{short}
use Rattle.lalrpop_norm_json.specs.SymbolForms.{op_form, argument_pattern_form, argument_patterns_form, kind_form, part_form, parts_form}
use Rattle.lalrpop_norm_json.specs.Shapes as shape
use Rattle.lalrpop_norm_json.specs.Shapes.{fits, each, arrayed, is}
use Rattle.lalrpop_norm_json.proofs.Complete.{terminal_fits, operator_fits}
use Rattle.lalrpop_norm_json.proofs.NameBack.{text_in, truth_in, number_in, span_in, terminal_in, terminal_back, argument_patterns_in, argument_patterns_back}
use Rattle.lalrpop_norm_json.proofs.Range.{IsInRange, ItemsInRange}

-- ---- their shape

mutual
  argument_fits : (p : ArgumentPattern) → is shape.argument_pattern (argument_pattern_form p) ≡ true
  argument_fits (one_name n) = refl
  argument_fits (several ps) = rw (arguments_fit ps) refl

  arguments_fit : (ps : ArgumentPatterns) → fits (arrayed (each shape.argument_pattern)) (array (argument_patterns_form ps)) ≡ true
  arguments_fit no_arguments = refl
  arguments_fit (argument_and p ps) = rw (argument_fits p) (arguments_fit ps)

mutual
  pub kind_fits : (k : Kind) → IsInRange (kind_form k) → is shape.kind (kind_form k) ≡ true
  kind_fits (group ps) h = rw (parts_fit ps h.0.0) refl
  kind_fits (terminal t) h = terminal_fits t
  kind_fits (call n ps) h = rw (parts_fit ps h.0.0) refl
  kind_fits (repeated o p) h = rw (operator_fits o h.0.0, part_fits p h.0.1.0) refl
  kind_fits (chosen p) h = part_fits p h.0
  kind_fits (named n p) h = rw (part_fits p h.0.1.0) refl
  kind_fits (tupled ps p) h = rw (arguments_fit ps, part_fits p h.0.1.0) refl
  kind_fits _ h = refl

  pub part_fits : (p : Part) → IsInRange (part_form p) → is shape.symbol (part_form p) ≡ true
  part_fits (at s k) h = rw (kind_fits k h.0) refl

  pub parts_fit : (ps : Parts) → ItemsInRange (parts_form ps) → fits (arrayed (each shape.symbol)) (array (parts_form ps)) ≡ true
  parts_fit no_parts h = refl
  parts_fit (part_and p ps) h = rw (part_fits p h.0) (parts_fit ps h.1)

-- ---- operators

abbrev short_of : ℕ → ℕ
short_of n = if nat_lt n (2 ^ 16) then n else n - 2 ^ 64

large : (n : ℕ) → nat_lt (2 ^ 64 + n) (2 ^ 16) ≡ false
large n = le-ltb (2 ^ 64 + n) (2 ^ 16) (omega arith)

short_back : (n : ℕ) → short_of (number_in (short n)) ≡ n
short_back n = by (nat_lt n (2 ^ 16)) refl
  where
    by : (small : Bool) → nat_lt n (2 ^ 16) ≡ small → short_of (if small then n else 2 ^ 64 + n) ≡ n
    by true e = rw e refl
    by false e = rw (large n) (omega arith)

abbrev op_in : Data → RepeatOp
op_in (object (member k d no_members)) = Times (short_of (number_in d))
op_in d = if bytes_eq (text_in d) (codes "Star") then Star else if bytes_eq (text_in d) (codes "Plus") then Plus else Question

op_back : (o : RepeatOp) → op_in (op_form o) ≡ o
op_back Star = refl
op_back Plus = refl
op_back Question = refl
op_back (Times n) = ap Times (short_back n)

-- ---- symbols back from their forms

abbrev name_in : Data → Name
name_in (object (member k m (member l a no_members))) = record { mutable = truth_in m; name = text_in a }
name_in _ = record { mutable = false; name = [] }

abbrev tuple_in : Data → ArgumentPatterns
tuple_in (object (member k (array ps) no_members)) = argument_patterns_in ps
tuple_in _ = no_arguments

-- the kinds that hold no symbol
abbrev plain_kind_in : List ℕ → Data → Kind
plain_kind_in k d =
    if bytes_eq k (codes "AmbiguousId") then ambiguous_id (text_in d)
    else if bytes_eq k (codes "Terminal") then terminal (terminal_in d)
    else nonterminal (text_in d)

abbrev bare_kind_in : List ℕ → Kind
bare_kind_in s =
    if bytes_eq s (codes "Lookahead") then lookahead
    else if bytes_eq s (codes "Lookbehind") then lookbehind
    else error_terminal

abbrev mutual
  pub kind_in : Data → Kind
  kind_in (string s) = bare_kind_in s
  kind_in (object (member k d no_members)) =
      if bytes_eq k (codes "Expr") then group (group_in d)
      else if bytes_eq k (codes "Macro") then call_in d
      else if bytes_eq k (codes "Repeat") then repeat_in d
      else if bytes_eq k (codes "Choose") then chosen (part_in d)
      else if bytes_eq k (codes "Name") then named_in d
      else if bytes_eq k (codes "Tuple") then tupled_in d
      else plain_kind_in k d
  kind_in _ = error_terminal

  pub group_in : Data → Parts
  group_in (object (member k (array ps) no_members)) = parts_in ps
  group_in _ = no_parts

  call_in : Data → Kind
  call_in (object (member k (array ps) (member l n no_members))) = call (text_in n) (parts_in ps)
  call_in _ = error_terminal

  repeat_in : Data → Kind
  repeat_in (object (member k o (member l p no_members))) = repeated (op_in o) (part_in p)
  repeat_in _ = error_terminal

  named_in : Data → Kind
  named_in (array (item n (item p no_items))) = named (name_in n) (part_in p)
  named_in _ = error_terminal

  tupled_in : Data → Kind
  tupled_in (array (item t (item p no_items))) = tupled (tuple_in t) (part_in p)
  tupled_in _ = error_terminal

  part_in : Data → Part
  part_in (object (member k d (member l s no_members))) = at (span_in s) (kind_in d)
  part_in _ = at (record { 0 = 0; 1 = 0 }) error_terminal

  parts_in : Items → Parts
  parts_in no_items = no_parts
  parts_in (item d ds) = part_and (part_in d) (parts_in ds)

mutual
  pub kind_back : (k : Kind) → kind_in (kind_form k) ≡ k
  kind_back (group ps) = ap group (parts_back ps)
  kind_back (terminal t) = ap terminal (terminal_back t)
  kind_back (call n ps) = ap (call n) (parts_back ps)
  kind_back (repeated o p) = ap₂ repeated (op_back o) (part_back p)
  kind_back (chosen p) = ap chosen (part_back p)
  kind_back (named n p) = ap (named n) (part_back p)
  kind_back (tupled ps p) = ap₂ tupled (argument_patterns_back ps) (part_back p)
  kind_back _ = refl

  part_back : (p : Part) → part_in (part_form p) ≡ p
  part_back (at s k) = ap (at s) (kind_back k)

  pub parts_back : (ps : Parts) → parts_in (parts_form ps) ≡ ps
  parts_back no_parts = refl
  parts_back (part_and p ps) = ap₂ part_and (part_back p) (parts_back ps)
