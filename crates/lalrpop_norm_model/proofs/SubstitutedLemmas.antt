-- A symbol with arguments substituted reads as the symbol with the arguments bound.
use Rattle.std.proofs.Common.{◌≡◌, ℕ, ◌+◌, List, [], ◌∷◌, map, Option, Some, None, Bool, true, false, refl, sym, ap, ap₂, ◌∙◌}
use Rattle.std.specs.Prelude.{bytes_eq, flat_map, unwrap_or, if◌then◌else◌}
use Rattle.lalrpop_norm_tree_names.specs.declared.names.NonterminalString.{NonterminalString}
use Rattle.lalrpop_norm_tree.specs.Symbols as written
use Rattle.lalrpop_norm_tree.specs.Symbols.{Kind, Part, Parts, at, no_parts, part_and}
use Rattle.lalrpop_norm_tree.specs.Items.{RuleData, ItemData, GrammarData, match_item, extern_item, intern_item, rule_item, use_item}
use Rattle.lalrpop_norm_theory.specs.Symbols.{Name, chosen, named, tuple, ClosedSymbol, reference, call, group, wrapped, symbol_and}
use Rattle.lalrpop_norm_model.specs.Enabled.{all_places}
use Rattle.lalrpop_norm_model.specs.Scopes.{globals}
use Rattle.lalrpop_norm_model.specs.WrittenRules.{WrittenRule, rules_through, flat_rule, flat_rules, rule_named}
use Rattle.lalrpop_norm_model.specs.Occurrences.{count_part, count_parts}
use Rattle.lalrpop_norm_model.specs.Reading.{Reader, closed_patterns_of, repeat_of, read_name, read_kind, read_part, read_parts, read_all}
use Rattle.lalrpop_norm_model.specs.Grammars.{bound_of, bound_argument, macro_reader}
use Rattle.lalrpop_norm_model.specs.MadeRules.{kind_of, argument_kind, or_name, kind_substituted, substituted, all_substituted, flat_reader}
use Rattle.lalrpop_norm_model.specs.PlainRules.{rule_of_item, all_rules}
use Rattle.lalrpop_norm_model.specs.Laws.{ArgumentsAreSubstituted}

-- ---- arguments substituted

-- R reads a name as Q reads what is substituted for it
module _ (Q R : Reader) (argument : Name → Option Kind)
    (same : (n : Name) (b a before after : ℕ) → read_kind Q b a (or_name n (argument n)) ≡ read_name R before after n) where
  mutual
    kind_put : (b a before after : ℕ) (k : Kind) → read_kind Q b a (kind_substituted argument k) ≡ read_kind R before after k
    kind_put b a before after (written.nonterminal n) = same n b a before after
    kind_put b a before after (written.ambiguous_id n) = same n b a before after
    kind_put b a before after (written.group ps) = ap group (parts_put b a before after ps)
    kind_put b a before after (written.call n ps) = ap (call n) (parts_put b a before after ps)
    kind_put b a before after (written.repeated op p) = ap (repeat_of op) (part_put b a before after p)
    kind_put b a before after (written.chosen p) = ap (wrapped chosen) (part_put b a before after p)
    kind_put b a before after (written.named n p) = ap (wrapped (named n.mutable n.name)) (part_put b a before after p)
    kind_put b a before after (written.tupled ns p) = ap (wrapped (tuple (closed_patterns_of ns))) (part_put b a before after p)
    kind_put b a before after _ = refl

    part_put : (b a before after : ℕ) (p : Part) → read_part Q b a (substituted argument p) ≡ read_part R before after p
    part_put b a before after (at s k) = kind_put b a before after k

    parts_put : (b a before after : ℕ) (ps : Parts) → read_parts Q b a (all_substituted argument ps) ≡ read_parts R before after ps
    parts_put b a before after no_parts = refl
    parts_put b a before after (part_and p ps) =
        ap₂ symbol_and
        (part_put b (a + count_parts Q.is_own (all_substituted argument ps)) before (after + count_parts R.is_own ps) p)
        (parts_put (b + count_part Q.is_own (substituted argument p)) a (before + count_part R.is_own p) after ps)

-- ---- readers that agree

-- two readers that read each name alike read each symbol alike: both as they read it with names in place of arguments
module _ (Q R : Reader) (same : (n : Name) (b a before after : ℕ) → read_name Q b a n ≡ read_name R before after n) where
  as_itself : (n : Name) (b a before after : ℕ) → read_name Q b a n ≡ read_name Q before after n
  as_itself n b a before after = same n b a 0 0 ∙ sym (same n before after 0 0)

  pub part_agrees : (b a before after : ℕ) (p : Part) → read_part Q b a p ≡ read_part R before after p
  part_agrees b a before after p = sym (part_put Q Q (λ n. None) as_itself b a b a p) ∙ part_put Q R (λ n. None) same b a before after p

  pub parts_agree : (b a before after : ℕ) (ps : Parts) → read_parts Q b a ps ≡ read_parts R before after ps
  parts_agree b a before after ps = sym (parts_put Q Q (λ n. None) as_itself b a b a ps) ∙ parts_put Q R (λ n. None) same b a before after ps

-- what is before and after counts for nothing where no reference has a bound
pub flat_part : (b a before after : ℕ) (p : Part) → read_part flat_reader b a p ≡ read_part flat_reader before after p
flat_part = part_agrees flat_reader flat_reader (λ n b a before after. refl)

pub flat_parts : (b a before after : ℕ) (ps : Parts) → read_parts flat_reader b a ps ≡ read_parts flat_reader before after ps
flat_parts = parts_agree flat_reader flat_reader (λ n b a before after. refl)

-- ---- the arguments of a macro

-- what is substituted for a name reads as what the name is bound to
argument_here : (n : Name) (b a before after : ℕ) (p : Part) (o : Option Kind) (q : Option ClosedSymbol) (x : Bool) →
    read_kind flat_reader b a (or_name n o) ≡ unwrap_or q (reference n None) →
    read_kind flat_reader b a (or_name n (if x then Some (kind_of p) else o))
    ≡ unwrap_or (if x then Some (read_part flat_reader before after p) else q) (reference n None)
argument_here n b a before after (at s k) o q true h = flat_part b a before after (at s k)
argument_here n b a before after p o q false h = h

argument_read : (params : List NonterminalString) (args : Parts) (n : Name) (b a before after : ℕ) →
    read_kind flat_reader b a (or_name n (argument_kind params args n))
    ≡ unwrap_or (bound_argument params (read_parts flat_reader before after args) n) (reference n None)
argument_read [] args n b a before after = refl
argument_read (x ∷ params) no_parts n b a before after = refl
argument_read (x ∷ params) (part_and p ps) n b a before after =
    argument_here n b a before (after + count_parts flat_reader.is_own ps) p (argument_kind params ps n)
    (bound_argument params (read_parts flat_reader (before + count_part flat_reader.is_own p) after ps) n) (bytes_eq x.0 n)
    (argument_read params ps n b a (before + count_part flat_reader.is_own p) after)

-- ---- rules without levels

-- no reference to one of these rules has a bound
abbrev pub HaveNoBounds : List WrittenRule → Type 0
HaveNoBounds rs = (n : Name) → bound_of (rule_named rs n) ≡ None

no_bound_here : (n : Name) (r : WrittenRule) (o : Option WrittenRule) (x : Bool) → r.has_levels ≡ false → bound_of o ≡ None →
    bound_of (if x then Some r else o) ≡ None
no_bound_here n r o true e h = rw e refl
no_bound_here n r o false e h = h

pub no_bounds : (f : RuleData → WrittenRule) → ((d : RuleData) → (f d).has_levels ≡ false) → (ds : List RuleData) → HaveNoBounds (map f ds)
no_bounds f flat [] n = refl
no_bounds f flat (d ∷ ds) n = no_bound_here n (f d) (rule_named (map f ds) n) (bytes_eq (f d).name n) (flat d) (no_bounds f flat ds n)

rules_mapped : (f : RuleData → WrittenRule) (is : List ItemData) → rules_through (λ r. f r ∷ []) is ≡ map f (flat_map rule_of_item is)
rules_mapped f [] = refl
rules_mapped f (rule_item r ∷ is) = ap (λ rs. f r ∷ rs) (rules_mapped f is)
rules_mapped f (match_item m ∷ is) = rules_mapped f is
rules_mapped f (extern_item t ∷ is) = rules_mapped f is
rules_mapped f (intern_item t ∷ is) = rules_mapped f is
rules_mapped f (use_item u ∷ is) = rules_mapped f is

-- a grammar read without levels has one rule for each of its rules
pub flat_rules_are : (g : GrammarData) → flat_rules g ≡ map (λ r. flat_rule (globals g) r (all_places r)) (all_rules g)
flat_rules_are g = rules_mapped (λ r. flat_rule (globals g) r (all_places r)) g.items

flat_have_no_bounds : (g : GrammarData) → HaveNoBounds (flat_rules g)
flat_have_no_bounds g = rw (flat_rules_are g) (no_bounds (λ r. flat_rule (globals g) r (all_places r)) (λ d. refl) (all_rules g))

module _ (rs : List WrittenRule) (flat : HaveNoBounds rs) (r : WrittenRule) (args : Parts) where
  name_put : (n : Name) (b a before after : ℕ) →
      read_kind flat_reader b a (or_name n (argument_kind r.args args n)) ≡ read_name (macro_reader rs r (read_all flat_reader args)) before after n
  name_put n b a before after =
      argument_read r.args args n b a 0 0
      ∙ ap (λ o. unwrap_or (bound_argument r.args (read_all flat_reader args) n) (reference n o)) (sym (flat n))

  pub part_read : (b a before after : ℕ) (p : Part) →
      read_part flat_reader b a (substituted (argument_kind r.args args) p) ≡ read_part (macro_reader rs r (read_all flat_reader args)) before after p
  part_read = part_put flat_reader (macro_reader rs r (read_all flat_reader args)) (argument_kind r.args args) name_put

  pub parts_read : (b a before after : ℕ) (ps : Parts) →
      read_parts flat_reader b a (all_substituted (argument_kind r.args args) ps) ≡ read_parts (macro_reader rs r (read_all flat_reader args)) before after ps
  parts_read = parts_put flat_reader (macro_reader rs r (read_all flat_reader args)) (argument_kind r.args args) name_put

pub arguments_are_substituted : ArgumentsAreSubstituted
arguments_are_substituted g r args p before after = part_read (flat_rules g) (flat_have_no_bounds g) r args 0 0 before after p
