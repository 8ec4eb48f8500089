-- What stays is not rewritten, and reaches nothing: of a grammar all of whose items stay, the first round is the last.
use Rattle.std.proofs.Common.{◌≡◌, ◌∙◌, ℕ, true, List, [], ◌∷◌, ◌++◌, length, map, refl, sym, ap, ap₂, arith, append-nil}
use Rattle.std.specs.Prelude.{filter}
use Rattle.std.specs.List.{flat_map, list_all}
use Rattle.lalrpop_norm_tree_names.specs.declared.names.Span.{Span}
use Rattle.lalrpop_norm_tree.specs.Symbols.{Kind, Part, Parts, chosen, named, tupled, group, call, repeated, lookahead, lookbehind, at, no_parts, part_and}
use Rattle.lalrpop_norm_tree.specs.Traversal.{unwrapped_kind}
use Rattle.lalrpop_norm_tree.specs.Items.{AlternativeData, RuleData, ItemData, GrammarData, match_item, extern_item, intern_item, rule_item, use_item}
use Rattle.lalrpop_norm_theory.proofs.BoolLemmas.{both_true}
use Rattle.lalrpop_norm_theory.specs.Rounds.{fresh_of}
use Rattle.lalrpop_norm_conditions.specs.Conditions.{comparison}
use Rattle.lalrpop_norm_model.specs.Expanded.{rule_names}
use Rattle.lalrpop_norm_model.specs.Grammars.{is_nil}
use Rattle.lalrpop_norm_model.specs.MadeRules.{made_rules}
use Rattle.lalrpop_norm_model.specs.PlainRules.{met, all_met, met_in_rule, rule_of_item, macros_of, same_apart_from_spans, expansion_round, made_symbols, replaced_alternative, replaced_rule, plain_item}
use Rattle.lalrpop_norm_model.specs.Replaced.{replaced, replaced_kind, all_replaced}
use Rattle.lalrpop_norm_macro_expand.specs.Expansion.{shared_names}
use Rattle.lalrpop_norm_macro_expand.specs.Stays.{stays_there, symbol_stays, symbols_stay, alternative_stays, rule_stays, item_stays}
use Rattle.lalrpop_norm_macro_expand.proofs.RoundLemmas.{fresh_is}
use Rattle.lalrpop_norm_macro_expand.proofs.LastRound.{IsDone, fresh_stays, made_stays, quiet_end}

-- ---- symbols

mutual
  replaced_same : (p : Part) → symbol_stays p ≡ true → replaced p ≡ p
  replaced_same (at s k) h = ap (at s) (replaced_same_kind s k h)

  replaced_same_kind : (s : Span) (k : Kind) → stays_there (unwrapped_kind s k) ≡ true → replaced_kind k ≡ k
  replaced_same_kind s (chosen p) h = ap chosen (replaced_same p h)
  replaced_same_kind s (named n p) h = ap (named n) (replaced_same p h)
  replaced_same_kind s (tupled ns p) h = ap (tupled ns) (replaced_same p h)
  replaced_same_kind s (group ps) h = absurd (cc h)
  replaced_same_kind s (call n ps) h = absurd (cc h)
  replaced_same_kind s (repeated op p) h = absurd (cc h)
  replaced_same_kind s lookahead h = absurd (cc h)
  replaced_same_kind s lookbehind h = absurd (cc h)
  replaced_same_kind s _ h = refl

mutual
  met_nothing : (p : Part) → symbol_stays p ≡ true → met p ≡ []
  met_nothing (at s k) h = met_nothing_kind s k h

  met_nothing_kind : (s : Span) (k : Kind) → stays_there (unwrapped_kind s k) ≡ true → met (at s k) ≡ []
  met_nothing_kind s (chosen p) h = met_nothing p h
  met_nothing_kind s (named n p) h = met_nothing p h
  met_nothing_kind s (tupled ns p) h = met_nothing p h
  met_nothing_kind s (group ps) h = absurd (cc h)
  met_nothing_kind s (call n ps) h = absurd (cc h)
  met_nothing_kind s (repeated op p) h = absurd (cc h)
  met_nothing_kind s lookahead h = absurd (cc h)
  met_nothing_kind s lookbehind h = absurd (cc h)
  met_nothing_kind s _ h = refl

all_same : (ps : Parts) → symbols_stay ps ≡ true → all_replaced ps ≡ ps
all_same no_parts h = refl
all_same (part_and p ps) h =
    let (first, rest) = both_true (symbol_stays p) (symbols_stay ps) h in
    ap₂ part_and (replaced_same p first) (all_same ps rest)

all_meet_nothing : (ps : Parts) → symbols_stay ps ≡ true → all_met ps ≡ []
all_meet_nothing no_parts h = refl
all_meet_nothing (part_and p ps) h =
    let (first, rest) = both_true (symbol_stays p) (symbols_stay ps) h in
    ap₂ ◌++◌ (met_nothing p first) (all_meet_nothing ps rest)

-- ---- alternatives

alternatives_same : (xs : List AlternativeData) → list_all alternative_stays xs ≡ true → map replaced_alternative xs ≡ xs
alternatives_same [] h = refl
alternatives_same (a ∷ xs) h =
    let (first, rest) = both_true (alternative_stays a) (list_all alternative_stays xs) h in
    ap₂ (λ ps (ys : List AlternativeData). record a { parts = ps } ∷ ys) (all_same a.parts first) (alternatives_same xs rest)

alternatives_meet_nothing : (xs : List AlternativeData) → list_all alternative_stays xs ≡ true → flat_map (λ (a : AlternativeData). all_met a.parts) xs ≡ []
alternatives_meet_nothing [] h = refl
alternatives_meet_nothing (a ∷ xs) h =
    let (first, rest) = both_true (alternative_stays a) (list_all alternative_stays xs) h in
    ap₂ ◌++◌ (all_meet_nothing a.parts first) (alternatives_meet_nothing xs rest)

-- ---- items

plain_same : (r : RuleData) → rule_stays r ≡ true → plain_item (rule_item r) ≡ rule_item r ∷ []
plain_same r h =
    let (plain, stay) = both_true (is_nil r.args) (list_all alternative_stays r.alternatives) h in
    rw plain (ap (λ xs. rule_item (record r { alternatives = xs }) ∷ []) (alternatives_same r.alternatives stay))

pub items_same : (is : List ItemData) → list_all item_stays is ≡ true → flat_map plain_item is ≡ is
items_same [] h = refl
items_same (rule_item r ∷ is) h =
    let (first, rest) = both_true (rule_stays r) (list_all item_stays is) h in
    ap₂ ◌++◌ (plain_same r first) (items_same is rest)
items_same (match_item m ∷ is) h = ap (λ js. match_item m ∷ js) (items_same is h)
items_same (extern_item t ∷ is) h = ap (λ js. extern_item t ∷ js) (items_same is h)
items_same (intern_item t ∷ is) h = ap (λ js. intern_item t ∷ js) (items_same is h)
items_same (use_item u ∷ is) h = ap (λ js. use_item u ∷ js) (items_same is h)

pub items_meet_nothing : (is : List ItemData) → list_all item_stays is ≡ true → flat_map met_in_rule (filter (λ r. is_nil r.args) (flat_map rule_of_item is)) ≡ []
items_meet_nothing [] h = refl
items_meet_nothing (rule_item r ∷ is) h =
    let (first, rest) = both_true (rule_stays r) (list_all item_stays is) h in
    let (plain, stay) = both_true (is_nil r.args) (list_all alternative_stays r.alternatives) first in
    rw plain (ap₂ ◌++◌ (alternatives_meet_nothing r.alternatives stay) (items_meet_nothing is rest))
items_meet_nothing (match_item m ∷ is) h = items_meet_nothing is h
items_meet_nothing (extern_item t ∷ is) h = items_meet_nothing is h
items_meet_nothing (intern_item t ∷ is) h = items_meet_nothing is h
items_meet_nothing (use_item u ∷ is) h = items_meet_nothing is h

-- ---- a grammar

pub all_stay : (g : GrammarData) (limit : ℕ) → list_all item_stays g.items ≡ true → IsDone g limit 0 [] g.items
all_stay g limit h = record {
  faultless = quiet_end g 0 limit nothing (ap (shared_names (rule_names g) []) none);
  whole = fresh_stays g 0 limit limit (omega arith) nothing;
  items =
      sym (items_same g.items h)
      ∙ (sym (append-nil (flat_map plain_item g.items))
      ∙ ap (λ ps. flat_map plain_item g.items ++ map (λ r. rule_item (replaced_rule r)) (flat_map (made_rules comparison (macros_of g)) ps)) (sym stays));
  ended = nothing;
  long = ap length (sym stays);
  stays = stays;
}
  where
    none : flat_map met_in_rule (filter (λ r. is_nil r.args) (flat_map rule_of_item g.items)) ≡ []
    none = items_meet_nothing g.items h

    nothing : (expansion_round comparison g 0).fresh ≡ []
    nothing = fresh_is g 0 ∙ ap (fresh_of same_apart_from_spans []) none

    stays : made_symbols comparison g limit ≡ []
    stays = made_stays g 0 limit limit (omega arith) nothing
