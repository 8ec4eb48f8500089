-- The terminals of a grammar, seen by their list.
use Rattle.std.proofs.Common.{◌≡◌, ◌∙◌, Bool, true, false, ◌&&◌, ◌||◌, not, cond, List, [], ◌∷◌, ◌++◌, Option, Some, None, refl, sym, ap, ap₂}
use Rattle.std.specs.List.{list_any, filter}
use Rattle.lalrpop_norm_tree_names.specs.declared.names.TerminalString.{TerminalString}
use Rattle.lalrpop_norm_tree.specs.declared.items.MatchEntry.{MatchEntry}
use Rattle.lalrpop_norm_tree.specs.declared.items.MatchMapping.{MatchMapping}
use Rattle.lalrpop_norm_tree.specs.declared.items.MatchMapping.TheVariants.{Terminal, Skip}
use Rattle.lalrpop_norm_tree.specs.Items.{ConversionData, EnumTokenData, GrammarData}
use Rattle.lalrpop_norm_theory.specs.Rounds.{In, IsDistinct}
use Rattle.lalrpop_norm_theory.proofs.BoolLemmas.{both_true, not_true, true_not, both_hold}
use Rattle.lalrpop_norm_model.specs.Entries.{terminal_named, user_names}
use Rattle.lalrpop_norm_model.specs.Expanded.{terminals_converted, terminals_with, terminals_of}
use Rattle.lalrpop_norm_model.specs.Features.{Features, is_active}
use Rattle.lalrpop_norm_model.specs.Terminals.{same_terminal}
use Rattle.lalrpop_norm_model.specs.TerminalTypes.{extern_enum, intern_entries}
use Rattle.lalrpop_norm_model.proofs.SameTerminalLemmas.{listed_same, same_listed}
use Rattle.lalrpop_norm_is_typed.specs.Terminals.{is_converted, are_conversions_distinct, is_mapping_to, is_entered, is_entered_again, are_entries_distinct, source_with, source_of, is_terminal, are_terminals_distinct}

-- ---- a terminal of the list

abbrev is_among : List TerminalString → TerminalString → Bool
is_among ts t = list_any (same_terminal t) ts

abbrev active : Features → List ConversionData → List ConversionData
active fs cs = filter (λ (c : ConversionData). is_active fs c.attributes) cs

converted_among : (fs : Features) (cs : List ConversionData) (t : TerminalString) → is_converted fs cs t ≡ is_among (terminals_converted (active fs cs)) t
converted_among fs [] t = refl
converted_among fs (c ∷ cs) t = by (is_active fs c.attributes) (converted_among fs cs t)
  where
    by : (b : Bool) → is_converted fs cs t ≡ is_among (terminals_converted (active fs cs)) t
        → ((b && same_terminal t c.from) || is_converted fs cs t) ≡ is_among (terminals_converted (cond b (c ∷ active fs cs) (active fs cs))) t
    by true rest = ap (λ a. same_terminal t c.from || a) rest
    by false rest = rest

entered_among : (es : List MatchEntry) (t : TerminalString) → is_entered es t ≡ is_among (user_names es) t
entered_among [] t = refl
entered_among (e ∷ es) t = by e.user_name (entered_among es t)
  where
    by : (m : MatchMapping) → is_entered es t ≡ is_among (user_names es) t → (is_mapping_to t m || is_entered es t) ≡ is_among (terminal_named m ++ user_names es) t
    by (Terminal u) rest = ap (λ a. same_terminal t u || a) rest
    by Skip rest = rest

terminal_among : (fs : Features) (g : GrammarData) (o : Option EnumTokenData) (t : TerminalString) →
    is_terminal fs (source_with o g) t ≡ is_among (terminals_with o fs g) t
terminal_among fs g (Some e) t = converted_among fs e.conversions t
terminal_among fs g None t = entered_among (intern_entries g) t

pub terminal_in : (fs : Features) (g : GrammarData) (t : TerminalString) → is_terminal fs (source_of g) t ≡ true → In t (terminals_of fs g)
terminal_in fs g t e = same_listed t (terminals_of fs g) (sym (terminal_among fs g (extern_enum g) t) ∙ e)

pub in_terminal : (fs : Features) (g : GrammarData) (t : TerminalString) → In t (terminals_of fs g) → is_terminal fs (source_of g) t ≡ true
in_terminal fs g t i = terminal_among fs g (extern_enum g) t ∙ listed_same t (terminals_of fs g) i

-- ---- terminals that occur once

abbrev is_each_once : List TerminalString → Bool
is_each_once [] = true
is_each_once (t ∷ ts) = not (is_among ts t) && is_each_once ts

once_distinct : (ts : List TerminalString) → is_each_once ts ≡ true → IsDistinct ts
once_distinct [] e = tt
once_distinct (t ∷ ts) e =
    let (first, rest) = both_true (not (is_among ts t)) (is_each_once ts) e in
    (λ i. not_true (is_among ts t) first (listed_same t ts i), once_distinct ts rest)

distinct_once : (ts : List TerminalString) → IsDistinct ts → is_each_once ts ≡ true
distinct_once [] d = refl
distinct_once (t ∷ ts) d = both_hold (not (is_among ts t)) (is_each_once ts) (true_not (is_among ts t) (λ e. d.0 (same_listed t ts e))) (distinct_once ts d.1)

conversions_once : (fs : Features) (cs : List ConversionData) → are_conversions_distinct fs cs ≡ is_each_once (terminals_converted (active fs cs))
conversions_once fs [] = refl
conversions_once fs (c ∷ cs) = by (is_active fs c.attributes) (conversions_once fs cs)
  where
    by : (b : Bool) → are_conversions_distinct fs cs ≡ is_each_once (terminals_converted (active fs cs))
        → (not (b && is_converted fs cs c.from) && are_conversions_distinct fs cs) ≡ is_each_once (terminals_converted (cond b (c ∷ active fs cs) (active fs cs)))
    by true rest = ap₂ (λ a b. not a && b) (converted_among fs cs c.from) rest
    by false rest = rest

entries_once : (es : List MatchEntry) → are_entries_distinct es ≡ is_each_once (user_names es)
entries_once [] = refl
entries_once (e ∷ es) = by e.user_name (entries_once es)
  where
    by : (m : MatchMapping) → are_entries_distinct es ≡ is_each_once (user_names es)
        → (not (is_entered_again m es) && are_entries_distinct es) ≡ is_each_once (terminal_named m ++ user_names es)
    by (Terminal u) rest = ap₂ (λ a b. not a && b) (entered_among es u) rest
    by Skip rest = rest

terminals_once : (fs : Features) (g : GrammarData) (o : Option EnumTokenData) → are_terminals_distinct fs (source_with o g) ≡ is_each_once (terminals_with o fs g)
terminals_once fs g (Some e) = conversions_once fs e.conversions
terminals_once fs g None = entries_once (intern_entries g)

pub terminals_distinct : (fs : Features) (g : GrammarData) → are_terminals_distinct fs (source_of g) ≡ true → IsDistinct (terminals_of fs g)
terminals_distinct fs g e = once_distinct (terminals_of fs g) (sym (terminals_once fs g (extern_enum g)) ∙ e)

pub distinct_terminals : (fs : Features) (g : GrammarData) → IsDistinct (terminals_of fs g) → are_terminals_distinct fs (source_of g) ≡ true
distinct_terminals fs g d = terminals_once fs g (extern_enum g) ∙ distinct_once (terminals_of fs g) d
