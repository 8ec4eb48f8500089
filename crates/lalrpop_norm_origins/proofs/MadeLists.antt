-- What the expansion answers for the rules that it generates are the origins of the rules of the ground symbols.
use Rattle.std.proofs.Common.{◌≡◌, inl, inr, ℕ, suc, List, [], ◌∷◌, ◌++◌, map, Bool, true, not, refl, sym, ap, ap₂, ◌∙◌, subst, append-nil}
use Rattle.std.specs.Prelude.{flat_map, Option, Some, None, option_map, if◌then◌else◌}
use Rattle.std.proofs.lemmas.Bool.{and_parts}
use Rattle.lalrpop_norm_tree.specs.declared.items.Condition.{Condition}
use Rattle.lalrpop_norm_tree.specs.declared.symbol.RepeatOp.TheVariants.{Star, Plus, Question, Times}
use Rattle.lalrpop_norm_tree.specs.Symbols as written
use Rattle.lalrpop_norm_tree.specs.Symbols.{Part, Parts, at}
use Rattle.lalrpop_norm_tree.specs.Items.{AlternativeData, RuleData, GrammarData}
use Rattle.lalrpop_norm_theory.specs.Symbols.{Name, ClosedSymbol, ClosedSymbols, call, group, star, plus, question, times, lookahead, lookbehind}
use Rattle.lalrpop_norm_theory.specs.LoweredTrees as theory
use Rattle.lalrpop_norm_theory.specs.LoweredTrees.{Origin}
use Rattle.lalrpop_norm_theory.specs.Meaning.{Meaning}
use Rattle.lalrpop_norm_theory.specs.Met.{BecomesRule, expanded_symbols}
use Rattle.lalrpop_norm_theory.specs.Leveled.{leveled_symbol, leveled_symbols}
use Rattle.lalrpop_norm_theory.specs.Rounds.{In, IsDistinct}
use Rattle.lalrpop_norm_theory.proofs.ListLemmas.{flat_append}
use Rattle.lalrpop_norm_model.specs.Features.{Features}
use Rattle.lalrpop_norm_model.specs.Enabled.{present, enabled_grammar}
use Rattle.lalrpop_norm_model.specs.Levels.{Leveled}
use Rattle.lalrpop_norm_model.specs.WrittenRules.{WrittenRule, rule_named, written_rules, leveled_rules}
use Rattle.lalrpop_norm_model.specs.Reading.{read_all}
use Rattle.lalrpop_norm_model.specs.Grammars.{ConditionValue, is_nil, is_true, has_arguments, arguments_fit, meaning, references}
use Rattle.lalrpop_norm_model.specs.Scoped.{is_macro_for, is_scoped, are_scoped}
use Rattle.lalrpop_norm_model.specs.ClosedTexts.{level_names}
use Rattle.lalrpop_norm_model.specs.MadeRules.{flat_reader, macro_named}
use Rattle.lalrpop_norm_model.specs.LevelRules.{level_rules, leveled_grammar}
use Rattle.lalrpop_norm_model.specs.LevelNames.{HasLevelNames}
use Rattle.lalrpop_norm_model.specs.PlainRules.{all_rules, made_symbols}
use Rattle.lalrpop_norm_model.specs.PlainTables.{IsSettled, closed}
use Rattle.lalrpop_norm_model.specs.Origins.{rule_origins, plain_origins}
use Rattle.lalrpop_norm_model.specs.Renumbered.{prepared_grammar}
use Rattle.lalrpop_norm_model.proofs.GrammarLemmas.{found_once}
use Rattle.lalrpop_norm_model.proofs.MacroLemmas.{fits_leveled, true_leveled}
use Rattle.lalrpop_norm_model.proofs.MadeReadLemmas.{flat_of, macros_in, called_of, called_name, fits_read, flat_rules_resolved}
use Rattle.lalrpop_norm_model.proofs.RoundReadLemmas.{made_symbols_are_scoped}
use Rattle.lalrpop_norm_origins.specs.EnabledOrigins.{places_from, enabled_origins}
use Rattle.lalrpop_norm_origins.specs.LeveledOrigins.{leveled_lists}
use Rattle.lalrpop_norm_origins.specs.MadeOrigins.{TracedRule, traced_rules, plain_list, traced_macro, kept_origins, instance_origins, made_origins, expanded_lists, in_one_list}
use Rattle.lalrpop_norm_origins.specs.Laws.{kept_there}
use Rattle.lalrpop_norm_origins.proofs.KeptLists.{calls_keep}
use Rattle.lalrpop_norm_origins.proofs.LevelLists.{level_lists}
use Rattle.lalrpop_norm_origins.proofs.PairedLists.{rule_of_pair, rules_flat, macro_found, macro_listed, flat_mapped, active, prepared, leveled_active}
use Rattle.lalrpop_norm_origins.proofs.WrittenLists.{written_lists, long_lists, traced_active, plain_lists}
use Rattle.lalrpop_norm_origins.proofs.MacroLists.{conditions_of, conditions_there, IsWrittenMacro, macro_lists}

-- ---- macros by name

-- a macro that is found among the rules is found with its list
found_so : (ts : List TracedRule) (n : Name) (d : RuleData) → macro_named (macros_in (map rule_of_pair ts)) n ≡ Some d →
    (t : TracedRule) × In t ts × (traced_macro ts n ≡ Some t) × (t.0 ≡ d)
found_so ts n d e = by (traced_macro ts n) refl (macro_found ts n ∙ e)
  where
    by : (o : Option TracedRule) → traced_macro ts n ≡ o → option_map rule_of_pair o ≡ Some d → (t : TracedRule) × In t ts × (traced_macro ts n ≡ Some t) × (t.0 ≡ d)
    by None f h = absurd (cc h)
    by (Some t) f h = let is : t.0 ≡ d = cc h in (t, macro_listed ts n t f, f, is)

-- ---- what is kept

-- two tests that agree on each condition keep the origins of the same alternatives
kept_same : (keeps holds : Option Condition → Bool) → ((c : Option Condition) → keeps c ≡ holds c) → (n : Name) (k : ℕ) (ps : List (Option Leveled)) (xs : List AlternativeData) →
    conditions_of xs ≡ conditions_there (present ps) →
    kept_origins (λ a. keeps a.condition) xs (places_from n k ps) ≡ kept_there (λ a. holds a.alternative.condition) ps (places_from n k ps)
kept_same keeps holds agree n k [] [] e = refl
kept_same keeps holds agree n k [] (x ∷ xs) e = absurd (cc e)
kept_same keeps holds agree n k (None ∷ ps) xs e = kept_same keeps holds agree n (suc k) ps xs e
kept_same keeps holds agree n k (Some a ∷ ps) [] e = absurd (cc e)
kept_same keeps holds agree n k (Some a ∷ ps) (x ∷ xs) e =
    let here : x.condition ≡ a.alternative.condition = cc e in
    ap₂ (λ (b : Bool) (os : List Origin). if b then theory.written n k ∷ os else os) (agree x.condition ∙ ap holds here)
    (kept_same keeps holds agree n (suc k) ps xs (cc e))

-- ---- the grammar with levels

module _ (value : ConditionValue) (fs : Features) (g : GrammarData) (N : HasLevelNames (prepared_grammar fs g))
    (S : IsSettled (leveled_grammar (prepared_grammar fs g)))
    (once : IsDistinct (map (λ (w : WrittenRule). w.name) (written_rules fs g))) where
  abbrev ws : List WrittenRule
  ws = written_rules fs g

  abbrev M : Meaning
  M = meaning value (written_rules fs g)

  abbrev h : GrammarData
  h = leveled_grammar (prepared_grammar fs g)

  abbrev ln : Name → ℕ → Name
  ln = level_names (leveled_rules (prepared_grammar fs g))

  abbrev oss : List (List Origin)
  oss = leveled_lists (enabled_grammar fs g).items (enabled_origins fs g)

  abbrev ts : List TracedRule
  ts = traced_rules (leveled_grammar (prepared_grammar fs g)).items (leveled_lists (enabled_grammar fs g).items (enabled_origins fs g))

  all_traced : map rule_of_pair ts ≡ all_rules h
  all_traced =
      ap (map rule_of_pair) (traced_active fs g)
      ∙ rules_flat (λ r. level_rules (prepared fs g r)) (written_lists fs g) (long_lists fs g) (active fs g)
      ∙ sym (leveled_active fs g)

  call_read : (n m : Name) (ps : Parts) (args : ClosedSymbols) → n ≡ m → read_all flat_reader ps ≡ leveled_symbols ln args →
      is_macro_for ps (rule_named (map flat_of (all_rules h)) n) ≡ true →
      in_one_list (instance_origins value (traced_macro ts n) ps) ≡ rule_origins M (call m args)
  call_read n m ps args name same called =
      let c = called_of (all_rules h) n ps called in
      let (t, i, found, is) = found_so ts n c.definition (ap (λ ds. macro_named (macros_in ds) n) all_traced ∙ c.named) in
      let w : IsWrittenMacro ws t = macro_lists fs g N t (subst (λ (us : List TracedRule). In t us) (traced_active fs g) i) (ap (λ (d : RuleData). is_nil d.args) is ∙ c.has_arguments) in
      let named : w.macro.name ≡ m = sym w.name ∙ ap (λ (d : RuleData). d.name.0) is ∙ called_name (macros_in (all_rules h)) n c.definition c.named ∙ name in
      let params : w.macro.args ≡ c.definition.args = sym w.args ∙ ap (λ (d : RuleData). d.args) is in
      let here : rule_named ws m ≡ Some w.macro = subst (λ (k : Name). rule_named ws k ≡ Some w.macro) named (found_once ws w.macro once w.there) in
      let has : has_arguments w.macro ≡ true = ap (λ ns. not (is_nil ns)) params ∙ ap not c.has_arguments in
      let fit : arguments_fit w.macro.args args ≡ true =
      ap (λ ns. arguments_fit ns args) params ∙ sym (fits_leveled ln c.definition.args args) ∙ ap (arguments_fit c.definition.args) (sym same)
      ∙ fits_read c.definition.args 0 0 ps ∙ c.fitting in
      let keeps : Option Condition → Bool = λ o. is_true value t.0.args (read_all flat_reader ps) o in
      let holds : Option Condition → Bool = λ o. is_true value w.macro.args args o in
      let agree : (o : Option Condition) → keeps o ≡ holds o =
      λ o. ap₂ (λ ns gs. is_true value ns gs o) w.args same ∙ true_leveled value ln w.macro.args args o in
      ap (λ o. in_one_list (instance_origins value o ps)) found
      ∙ append-nil (kept_origins (λ a. keeps a.condition) t.0.alternatives t.1)
      ∙ ap (kept_origins (λ a. keeps a.condition) t.0.alternatives) w.origins
      ∙ kept_same keeps holds agree w.macro.name 0 w.macro.places t.0.alternatives w.conditions
      ∙ ap (λ k. kept_there (λ a. holds a.alternative.condition) w.macro.places (places_from k 0 w.macro.places)) named
      ∙ sym (calls_keep value ws m args w.macro here has fit)

  -- a symbol that is desugared
  made_read : (p : Part) (x : ClosedSymbol) → closed p ≡ leveled_symbol ln x → is_scoped (map flat_of (all_rules h)) [] p ≡ true → BecomesRule (closed p) →
      in_one_list (made_origins value (traced_macro ts) p) ≡ rule_origins M x
  made_read (at s (written.group ps)) (group gs) e i k = refl
  made_read (at s (written.group ps)) _ e i k = absurd (cc e)
  made_read (at s (written.call n ps)) (call m args) e i k =
      let name : n ≡ m = cc e in
      let same : read_all flat_reader ps ≡ leveled_symbols ln args = cc e in
      call_read n m ps args name same
      (and_parts (is_macro_for ps (rule_named (map flat_of (all_rules h)) n)) (are_scoped (map flat_of (all_rules h)) [] ps) i).0
  made_read (at s (written.call n ps)) _ e i k = absurd (cc e)
  made_read (at s (written.repeated Star p)) (star x) e i k = refl
  made_read (at s (written.repeated Star p)) _ e i k = absurd (cc e)
  made_read (at s (written.repeated Plus p)) (plus x) e i k = refl
  made_read (at s (written.repeated Plus p)) _ e i k = absurd (cc e)
  made_read (at s (written.repeated Question p)) (question x) e i k = refl
  made_read (at s (written.repeated Question p)) _ e i k = absurd (cc e)
  made_read (at s (written.repeated (Times n) p)) (times m x) e i k = refl
  made_read (at s (written.repeated (Times n) p)) _ e i k = absurd (cc e)
  made_read (at s written.lookahead) lookahead e i k = refl
  made_read (at s written.lookahead) _ e i k = absurd (cc e)
  made_read (at s written.lookbehind) lookbehind e i k = refl
  made_read (at s written.lookbehind) _ e i k = absurd (cc e)
  made_read (at s _) x e i k = absurd k

  all_read : (ps : List Part) (xs : List ClosedSymbol) → map closed ps ≡ map (leveled_symbol ln) xs →
      ((p : Part) → In p ps → (is_scoped (map flat_of (all_rules h)) [] p ≡ true) × BecomesRule (closed p)) →
      in_one_list (flat_map (made_origins value (traced_macro ts)) ps) ≡ flat_map (rule_origins M) xs
  all_read [] [] e f = refl
  all_read [] (x ∷ xs) e f = absurd (cc e)
  all_read (p ∷ ps) [] e f = absurd (cc e)
  all_read (p ∷ ps) (x ∷ xs) e f =
      let here : closed p ≡ leveled_symbol ln x = cc e in
      flat_append (λ (os : List Origin). os) (made_origins value (traced_macro ts) p) (flat_map (made_origins value (traced_macro ts)) ps)
      ∙ ap₂ (λ (os qs : List Origin). os ++ qs) (made_read p x here (f p (inl refl)).0 (f p (inl refl)).1) (all_read ps xs (cc e) (λ q i. f q (inr i)))

  -- all lists, in a row, where the symbols made are those of the written grammar
  pub lists_joined : (count : ℕ) → map closed (made_symbols value h count) ≡ map (leveled_symbol ln) (expanded_symbols M (references ws) count) →
      in_one_list (expanded_lists value h oss count) ≡ plain_origins M (references ws) count
  lists_joined count made =
      flat_append (λ (os : List Origin). os) (flat_map plain_list ts) (flat_map (made_origins value (traced_macro ts)) (made_symbols value h count))
      ∙ ap₂ (λ (os qs : List Origin). os ++ qs)
      (ap in_one_list (plain_lists fs g ∙ level_lists value ws (λ w i. found_once ws w once i))
      ∙ flat_mapped (λ (os : List Origin). os) (rule_origins M) (references ws))
      (all_read (made_symbols value h count) (expanded_symbols M (references ws) count) made scoped)
      ∙ sym (flat_append (rule_origins M) (references ws) (expanded_symbols M (references ws) count))
    where
      scoped : (p : Part) → In p (made_symbols value h count) → (is_scoped (map flat_of (all_rules h)) [] p ≡ true) × BecomesRule (closed p)
      scoped p i =
          let r = made_symbols_are_scoped value h S count p i in
          (subst (λ (rs : List WrittenRule). is_scoped rs [] p ≡ true) (flat_rules_resolved h S.resolved) r.0, r.1)
