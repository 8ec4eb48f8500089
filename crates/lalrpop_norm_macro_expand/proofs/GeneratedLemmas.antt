-- The rules of symbols on the worklist, read in their environments, are the rules that these symbols are desugared to.
use Rattle.std.proofs.Common.{◌≡◌, inl, inr, ℕ, List, [], ◌∷◌, ◌++◌, Bool, true, false, cond, map, Option, Some, None, option_map, refl, sym, ap, ap₂, ◌∙◌, append-nil}
use Rattle.std.specs.Prelude.{flat_map, ◌||◌}
use Rattle.std.proofs.lemmas.List.{map-append}
use Rattle.std.proofs.lemmas.Grind.{flat_map-append}
use Rattle.lalrpop_norm_tree_names.specs.declared.names.Span.{Span}
use Rattle.lalrpop_norm_tree_names.specs.declared.names.NonterminalString.{NonterminalString}
use Rattle.lalrpop_norm_tree.specs.declared.symbol.RepeatOp.{RepeatOp}
use Rattle.lalrpop_norm_tree.specs.declared.symbol.RepeatOp.TheVariants.{Star, Plus, Question, Times}
use Rattle.lalrpop_norm_tree.specs.declared.items.Condition.{Condition}
use Rattle.lalrpop_norm_tree.specs.Symbols.{Kind, Part, Parts, group, call, repeated, lookahead, lookbehind, at, no_parts, part_and}
use Rattle.lalrpop_norm_tree.specs.Items.{AlternativeData, RuleData, ItemData, rule_item, lookahead_code, lookbehind_code}
use Rattle.lalrpop_norm_tree.specs.SymbolTexts.{kind_text}
use Rattle.lalrpop_norm_faults.specs.declared.kind.FaultKind.TheVariants.{NamedInGroup, NamedInTimes}
use Rattle.lalrpop_norm_faults.specs.Faults.{fault_if}
use Rattle.lalrpop_norm_conditions.specs.Conditions.{comparison}
use Rattle.lalrpop_norm_theory.specs.Rounds.{In}
use Rattle.lalrpop_norm_model.specs.Grammars.{is_true}
use Rattle.lalrpop_norm_model.specs.Reading.{read_all}
use Rattle.lalrpop_norm_model.specs.MadeRules.{flat_reader, kind_of, names_value, some_name_value, argument_kind, only_part, macro_named, made_rules, instance_of, instance_rule, instance_alternative, group_rule, repeat_rule, location_rule}
use Rattle.lalrpop_norm_model.specs.PlainRules.{met, all_met, met_in_rule, replaced_rule}
use Rattle.lalrpop_norm_model.specs.Replaced.{replaced, replaced_kind, all_replaced}
use Rattle.lalrpop_norm_nodes.specs.Apart.{nowhere, unplaced_kind, all_unplaced}
use Rattle.lalrpop_norm_nodes.specs.Meeting.{inside, were_met}
use Rattle.lalrpop_norm_nodes.specs.Waits.{parts_replaced}
use Rattle.lalrpop_norm_nodes.proofs.ShallowConditions.{kept_in}
use Rattle.lalrpop_norm_nodes.proofs.ShallowMeetings.{MeetAlike, alike_none, alike_both}
use Rattle.lalrpop_norm_nodes.proofs.ShallowReadings.{copied, each_read, call_read, call_alike, repeat_read, repeat_alike, group_alike, location_alike}
use Rattle.lalrpop_norm_nodes.proofs.ShallowRules.{argument_replaced, argument_unplaced, group_replaced}
use Rattle.lalrpop_norm_macro_expand_rules.specs.Conditions.{quoted_text, comparison_faults, value_faults, called_faults}
use Rattle.lalrpop_norm_macro_expand_rules.specs.Generated.{GeneratedData, finished_rule, unread_rule, met_in_generated, shown_in_generated, generated_read}
use Rattle.lalrpop_norm_macro_expand_repeats.specs.Repeats.{placeholder_name}
use Rattle.lalrpop_norm_macro_expand.specs.Expansion.{unmade, unmade_repeat}
use Rattle.lalrpop_norm_macro_expand.specs.Making.{kept_of, instance_shape, call_generated, placeholder_names, repeat_generated, generated_of}
use Rattle.lalrpop_norm_macro_expand_rules.proofs.MacroLemmas.{named_so}

-- the rules of a symbol, as the code makes them
abbrev pub generated_by : List RuleData → Part → List GeneratedData
generated_by macros p = generated_of macros (unplaced_kind (kind_of p)) (parts_replaced p)

abbrev replaced_rules : List RuleData → List ItemData
replaced_rules rs = map (λ r. rule_item (replaced_rule r)) rs

-- ---- the alternatives of a call

kept_copies : (s : Span) (params : List NonterminalString) (args : Parts) (xs : List AlternativeData) →
    flat_map (kept_of s params args) xs ≡ copied s (kept_in comparison params args xs)
kept_copies s params args [] = refl
kept_copies s params args (a ∷ xs) = by (is_true comparison params (read_all flat_reader args) a.condition) (kept_copies s params args xs)
  where
    by : (b : Bool) → flat_map (kept_of s params args) xs ≡ copied s (kept_in comparison params args xs) →
        cond b (instance_alternative s (λ n. None) a ∷ []) [] ++ flat_map (kept_of s params args) xs
        ≡ copied s (cond b (a ∷ kept_in comparison params args xs) (kept_in comparison params args xs))
    by true deeper = ap (λ ys. instance_alternative s (λ n. None) a ∷ ys) deeper
    by false deeper = deeper

-- ---- what they are once they are read

call_read_so : (s : Span) (n : List ℕ) (ps : Parts) (o : Option RuleData) → ((d : RuleData) → o ≡ Some d → d.name.0 ≡ n) →
    map generated_read (call_generated (kind_text (call n (all_replaced ps))) s o (all_unplaced ps) (all_replaced ps)) ≡ replaced_rules (instance_of comparison s o ps)
call_read_so s n ps None h = refl
call_read_so s n ps (Some d) h =
    let shown = argument_kind d.args (all_replaced ps) in
    let shape : RuleData = instance_shape (kind_text (call n (all_replaced ps))) s d (all_replaced ps) in
    ap₂ (λ (m : List ℕ) (xs : List AlternativeData).
    let r : RuleData = record shape { name = record { 0 = kind_text (call m (all_replaced ps)) }; alternatives = each_read shown xs } in rule_item r ∷ [])
    (sym (h d refl)) (kept_copies s d.args (all_replaced ps) d.alternatives)
    ∙ ap (λ r. rule_item r ∷ []) (call_read (λ x. true) [] comparison s d ps shown (argument_replaced d.args ps))

repeat_read_so : (s : Span) (op : RepeatOp) (sp : Span) (k : Kind) (whole : Kind) →
    generated_read (repeat_generated (kind_text (repeated op (at sp (replaced_kind k)))) s op whole (at sp (replaced_kind k))) ≡ rule_item (replaced_rule (repeat_rule s op (at sp k)))
repeat_read_so s Star sp k whole =
    ap rule_item (repeat_read (λ x. true) [] s Star sp k (record { 0 = placeholder_name }) (argument_kind placeholder_names (only_part (at sp (replaced_kind k)))) (argument_replaced placeholder_names (only_part (at sp k))))
repeat_read_so s Plus sp k whole =
    ap rule_item (repeat_read (λ x. true) [] s Plus sp k (record { 0 = placeholder_name }) (argument_kind placeholder_names (only_part (at sp (replaced_kind k)))) (argument_replaced placeholder_names (only_part (at sp k))))
repeat_read_so s Question sp k whole =
    ap rule_item (repeat_read (λ x. true) [] s Question sp k (record { 0 = placeholder_name }) (argument_kind placeholder_names (only_part (at sp (replaced_kind k)))) (argument_replaced placeholder_names (only_part (at sp k))))
repeat_read_so s (Times n) sp k whole =
    ap rule_item (repeat_read (λ x. true) [] s (Times n) sp k (record { 0 = placeholder_name }) (argument_kind placeholder_names (only_part (at sp (replaced_kind k)))) (argument_replaced placeholder_names (only_part (at sp k))))

one_read : (macros : List RuleData) (p : Part) → map generated_read (generated_by macros p) ≡ replaced_rules (made_rules comparison macros p)
one_read macros (at s (group ps)) = ap (λ r. rule_item r ∷ []) (sym (group_replaced s ps))
one_read macros (at s (call n ps)) = call_read_so s n ps (macro_named macros n) (λ d e. named_so macros n d e)
one_read macros (at s (repeated op (at sp k))) = ap (λ (i : ItemData). i ∷ []) (repeat_read_so s op sp k (unplaced_kind k))
one_read macros (at s _) = refl

pub generated_are_read : (macros : List RuleData) (ps : List Part) →
    map generated_read (flat_map (generated_by macros) ps) ≡ replaced_rules (flat_map (made_rules comparison macros) ps)
generated_are_read macros [] = refl
generated_are_read macros (p ∷ ps) =
    map-append generated_read (generated_by macros p) (flat_map (generated_by macros) ps)
    ∙ ap₂ ◌++◌ (one_read macros p) (generated_are_read macros ps)
    ∙ sym (map-append (λ r. rule_item (replaced_rule r)) (made_rules comparison macros p) (flat_map (made_rules comparison macros) ps))

-- ---- what they reach

module _ (names : List ℕ → Bool) (start : List Part) where
  abbrev pub ReadsAs : List GeneratedData → List RuleData → Type 0
  ReadsAs qs rs = MeetAlike names start (flat_map shown_in_generated qs) (flat_map met_in_generated qs) (flat_map met_in_rule rs)

  one_alike : (q : GeneratedData) (r : RuleData) → MeetAlike names start (shown_in_generated q) (met_in_generated q) (met_in_rule r) → ReadsAs (q ∷ []) (r ∷ [])
  one_alike q r h = rw (append-nil (shown_in_generated q), append-nil (met_in_generated q), append-nil (met_in_rule r)) h

  call_met : (s : Span) (n : List ℕ) (ps : Parts) (name : List ℕ) (o : Option RuleData) → were_met names start (all_met ps) ≡ true →
      ReadsAs (call_generated name s o (all_unplaced ps) (all_replaced ps)) (instance_of comparison s o ps)
  call_met s n ps name None were = alike_none names start
  call_met s n ps name (Some d) were =
      let shown = argument_kind d.args (all_replaced ps) in
      let whole = argument_kind d.args (all_unplaced ps) in
      one_alike (unread_rule (instance_shape name s d (all_replaced ps)) whole shown) (instance_rule comparison s d ps)
      (rw (kept_copies s d.args (all_replaced ps) d.alternatives)
      (call_alike names start comparison s d ps shown (argument_replaced d.args ps) whole (argument_unplaced d.args ps) were))

  repeat_met : (s : Span) (op : RepeatOp) (sp : Span) (k : Kind) (name : List ℕ) → were_met names start (met (at sp k)) ≡ true →
      ReadsAs (repeat_generated name s op (unplaced_kind k) (at sp (replaced_kind k)) ∷ []) (repeat_rule s op (at sp k) ∷ [])
  repeat_met s op sp k name were =
      one_alike (repeat_generated name s op (unplaced_kind k) (at sp (replaced_kind k))) (repeat_rule s op (at sp k))
      (repeat_alike names start s op sp k (record { 0 = placeholder_name }) (argument_kind placeholder_names (only_part (at sp (replaced_kind k)))) (argument_replaced placeholder_names (only_part (at sp k)))
      (argument_kind placeholder_names (only_part (at nowhere (unplaced_kind k)))) (argument_unplaced placeholder_names (only_part (at sp k))) were)

  part_reads : (macros : List RuleData) (p : Part) → were_met names start (inside p) ≡ true → ReadsAs (generated_by macros p) (made_rules comparison macros p)
  part_reads macros (at s (group ps)) h = one_alike (finished_rule (group_rule s (all_replaced ps))) (group_rule s ps) (group_alike names start s ps h)
  part_reads macros (at s (call n ps)) h = call_met s n ps (kind_text (call n (all_replaced ps))) (macro_named macros n) h
  part_reads macros (at s (repeated op (at sp k))) h = repeat_met s op sp k (kind_text (repeated op (at sp (replaced_kind k)))) h
  part_reads macros (at s lookahead) h = one_alike (finished_rule (location_rule s lookahead lookahead_code)) (location_rule s lookahead lookahead_code) (location_alike names start s lookahead lookahead_code)
  part_reads macros (at s lookbehind) h = one_alike (finished_rule (location_rule s lookbehind lookbehind_code)) (location_rule s lookbehind lookbehind_code) (location_alike names start s lookbehind lookbehind_code)
  part_reads macros (at s _) h = alike_none names start

  pub rules_read : (macros : List RuleData) (ps : List Part) → ((p : Part) → In p ps → were_met names start (inside p) ≡ true) →
      MeetAlike names start (flat_map shown_in_generated (flat_map (generated_by macros) ps)) (flat_map met_in_generated (flat_map (generated_by macros) ps))
      (flat_map (λ p. flat_map met_in_rule (made_rules comparison macros p)) ps)
  rules_read macros [] h = alike_none names start
  rules_read macros (p ∷ ps) h =
      let here = part_reads macros p (h p (inl refl)) in
      let rest = rules_read macros ps (λ q i. h q (inr i)) in
      rw (flat_map-append shown_in_generated (generated_by macros p) (flat_map (generated_by macros) ps), flat_map-append met_in_generated (generated_by macros p) (flat_map (generated_by macros) ps))
      (alike_both names start _ _ _ _ _ _ here rest)

-- ---- what no rule is made of

name_replaced : (p : Part) → names_value (replaced p) ≡ names_value p
name_replaced (at s (group ps)) = refl
name_replaced (at s _) = refl

some_replaced : (ps : Parts) → some_name_value (all_replaced ps) ≡ some_name_value ps
some_replaced no_parts = refl
some_replaced (part_and p ps) = ap₂ ◌||◌ (name_replaced p) (some_replaced ps)

quoted_replaced : (o : Option Kind) → quoted_text (option_map replaced_kind o) ≡ quoted_text o
quoted_replaced None = refl
quoted_replaced (Some (call n ps)) = refl
quoted_replaced (Some _) = refl

value_replaced : (params : List NonterminalString) (ps : Parts) (o : Option Condition) →
    value_faults (argument_kind params (all_replaced ps)) o ≡ value_faults (argument_kind params ps) o
value_replaced params ps None = refl
value_replaced params ps (Some c) =
    ap (comparison_faults c) (ap quoted_text (argument_replaced params ps c.lhs.0) ∙ quoted_replaced (argument_kind params ps c.lhs.0))

values_replaced : (params : List NonterminalString) (ps : Parts) (xs : List AlternativeData) →
    flat_map (λ (a : AlternativeData). value_faults (argument_kind params (all_replaced ps)) a.condition) xs
    ≡ flat_map (λ (a : AlternativeData). value_faults (argument_kind params ps) a.condition) xs
values_replaced params ps [] = refl
values_replaced params ps (a ∷ xs) = ap₂ ◌++◌ (value_replaced params ps a.condition) (values_replaced params ps xs)

called_replaced : (o : Option RuleData) (ps : Parts) → called_faults o (all_replaced ps) ≡ called_faults o ps
called_replaced None ps = refl
called_replaced (Some d) ps = values_replaced d.args ps d.alternatives

repeat_unmade : (s : Span) (op : RepeatOp) (p : Part) → unmade_repeat s op (replaced p) ≡ unmade_repeat s op p
repeat_unmade s Star p = refl
repeat_unmade s Plus p = refl
repeat_unmade s Question p = refl
repeat_unmade s (Times n) p = ap (λ b. fault_if b (NamedInTimes, s)) (name_replaced p)

unmade_replaced : (macros : List RuleData) (p : Part) → unmade macros (parts_replaced p) ≡ unmade macros p
unmade_replaced macros (at s (group ps)) = ap (λ b. fault_if b (NamedInGroup, s)) (some_replaced ps)
unmade_replaced macros (at s (call n ps)) = called_replaced (macro_named macros n) ps
unmade_replaced macros (at s (repeated op p)) = repeat_unmade s op p
unmade_replaced macros (at s _) = refl

pub all_unmade : (macros : List RuleData) (ps : List Part) → flat_map (unmade macros) (map parts_replaced ps) ≡ flat_map (unmade macros) ps
all_unmade macros [] = refl
all_unmade macros (p ∷ ps) = ap₂ ◌++◌ (unmade_replaced macros p) (all_unmade macros ps)
