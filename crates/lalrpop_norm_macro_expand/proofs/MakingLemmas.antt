-- What is known of a symbol that is desugared, one kind after another.
use Rattle.std.proofs.Common.{◌≡◌, ℕ, List, [], ◌∷◌, Result, Ok, Err, Option, Some, None, Box, Global, refl, sym, ap, ◌∙◌, subst}
use Rattle.std.specs.Option.{IfSome}
use Rattle.std.specs.Prelude.{option_map, option_to_list}
use Rattle.std.specs.Result.{IfOk, IsErrAnd}
use Rattle.lalrpop_norm_tree_names.specs.declared.names.Span.{Span}
use Rattle.lalrpop_norm_tree.specs.declared.items.NonterminalData.{NonterminalData}
use Rattle.lalrpop_norm_tree.specs.declared.symbol.ExprSymbol.{ExprSymbol}
use Rattle.lalrpop_norm_tree.specs.declared.symbol.MacroSymbol.{MacroSymbol}
use Rattle.lalrpop_norm_tree.specs.declared.symbol.RepeatSymbol.{RepeatSymbol}
use Rattle.lalrpop_norm_tree.specs.declared.symbol.Symbol.{Symbol}
use Rattle.lalrpop_norm_tree.specs.declared.symbol.SymbolKind.{SymbolKind}
use Rattle.lalrpop_norm_tree.specs.declared.symbol.SymbolKind.TheFolds.{fold-roll-SymbolKind}
use Rattle.lalrpop_norm_tree.specs.declared.symbol.SymbolKind.TheOpen.{SymbolKind-F}
use Rattle.lalrpop_norm_tree.specs.declared.symbol.SymbolKind.TheVariants as kind
use Rattle.lalrpop_norm_tree.specs.declared.symbol.SymbolKind.TheViews.{out-SymbolKind, roll-SymbolKind, roll-out-SymbolKind, rolls-Expr, rolls-Macro, rolls-Repeat, rolls-Lookahead, rolls-Lookbehind}
use Rattle.lalrpop_norm_tree.specs.Symbols.{Kind, Parts, Call, Again, Part, at, group, call, repeated, lookahead, lookbehind, kind_step, expr_step, macro_step, repeat_step, symbol_step, kind_view, symbol_view, expr_view, macro_view}
use Rattle.lalrpop_norm_tree.specs.SymbolTexts.{kind_text}
use Rattle.lalrpop_norm_tree.specs.Items.{RuleData, rule_view, lookahead_code, lookbehind_code}
use Rattle.lalrpop_norm_tree.proofs.KindLevels.{group_is, call_is, repeat_is, lookahead_is, lookbehind_is, repeated_symbol}
use Rattle.lalrpop_norm_faults.specs.declared.failure.NormFailure.{NormFailure}
use Rattle.lalrpop_norm_faults.specs.declared.kind.FaultKind.TheVariants.{NamedInGroup}
use Rattle.lalrpop_norm_faults.specs.Faults.{IsFirst, Refuses, fault_if}
use Rattle.lalrpop_norm_conditions.specs.Conditions.{comparison}
use Rattle.lalrpop_norm_model.specs.MadeRules.{macro_named, group_rule, location_rule, some_name_value}
use Rattle.lalrpop_norm_model.specs.Replaced.{all_replaced}
use Rattle.lalrpop_norm_nodes.specs.Filled.{inside_replaced}
use Rattle.lalrpop_norm_nodes.specs.NodeParts.{call_parts, repeated_kind}
use Rattle.lalrpop_norm_nodes.specs.Wholes.{Whole, kind_at}
use Rattle.lalrpop_norm_nodes.proofs.MeetingLemmas.{err_refuses}
use Rattle.lalrpop_norm_macro_expand_rules.specs.Conditions.{called_faults}
use Rattle.lalrpop_norm_macro_expand_rules.specs.declared.generated.GeneratedRule.{GeneratedRule}
use Rattle.lalrpop_norm_macro_expand_rules.specs.Generated.{finished_rule, generated_view, IsReadable}
use Rattle.lalrpop_norm_macro_expand.specs.declared.macro_expand.make.Making.{Making}
use Rattle.lalrpop_norm_macro_expand.specs.Expansion.{unmade, unmade_repeat}
use Rattle.lalrpop_norm_macro_expand.specs.Kept.{kept_by, kept_by_call}
use Rattle.lalrpop_norm_macro_expand.specs.Making.{call_generated, repeat_generated, generated_of}

-- its rule, and the indices that it keeps
abbrev pub IsMade : Making → Option GeneratedRule → Type 0
IsMade m o = (m.generated ≡ o) × (m.kept.items ≡ [])

module _ (ws : List Whole) (ms : List RuleData) (n : ℕ) (s : Span) (k : SymbolKind) where
  -- of a symbol that is seen as that kind
  abbrev pub Told : Result Making NormFailure → Kind → Type 0
  Told r v = record {
    refuses : Refuses r (unmade ms (at s v));
    generated : IfOk r (λ m. option_to_list (option_map (generated_view ws) m.generated) ≡ generated_of ms (kind_at ws n) (at s v));
    readable : IfOk r (λ m. IfSome m.generated (λ p. IsReadable ws p.filling));
    kept : IfOk r (λ m. m.kept.items ≡ kept_by comparison ms (at s v));
  }

  told_as : (r : Result Making NormFailure) (v w : Kind) → v ≡ w → Told r w → Told r v
  told_as r v w seen h = subst (λ (x : Kind). Told r x) (sym seen) h

  -- an error is passed on
  pub told_error : (r : Result Making NormFailure) (f : NormFailure) (v w : Kind) → v ≡ w → IsErrAnd r (λ g. g ≡ f) → IsFirst (unmade ms (at s w)) f → Told r v
  told_error (Ok m) f v w seen from h = absurd from
  told_error (Err g) f v w seen from h =
      told_as (Err g) v w seen (record { refuses = err_refuses {T = Making} (Err g) f (unmade ms (at s w)) from h; generated = tt; readable = tt; kept = tt })

  -- ---- a rule with nothing left to be read

  told_finished : (m : Making) (rule : NonterminalData) (w : Kind) (d : RuleData) → kind_view k ≡ w → IsMade m (Some (record { rule = rule; filling = None })) → rule_view rule ≡ d →
      unmade ms (at s w) ≡ [] → generated_of ms (kind_at ws n) (at s w) ≡ finished_rule d ∷ [] → kept_by comparison ms (at s w) ≡ [] → Told (Ok m) (kind_view k)
  told_finished m rule w d seen made same none one no_places = told_as (Ok m) (kind_view k) w seen (record {
    refuses = none;
    generated = ap (λ (o : Option GeneratedRule). option_to_list (option_map (generated_view ws) o)) made.0 ∙ ap (λ (x : RuleData). finished_rule x ∷ []) same ∙ sym one;
    readable = subst (λ (o : Option GeneratedRule). IfSome o (λ p. IsReadable ws p.filling)) (sym made.0) tt;
    kept = made.1 ∙ sym no_places;
  })

  pub told_group : (m : Making) (rule : NonterminalData) (x : ExprSymbol) → k ≡ kind.Expr x → IsMade m (Some (record { rule = rule; filling = None })) →
      (fault_if (some_name_value (expr_view x)) (NamedInGroup, s) ≡ []) × (rule_view rule ≡ group_rule s (expr_view x)) → Told (Ok m) (kind_view k)
  told_group m rule x is made e = told_finished m rule (group (expr_view x)) (group_rule s (expr_view x)) (group_is k x is) made e.1 e.0 refl refl

  pub told_lookahead : (m : Making) (rule : NonterminalData) (text : List ℕ) → k ≡ kind.Lookahead → text ≡ kind_text (kind_view k) → IsMade m (Some (record { rule = rule; filling = None })) →
      ((j : Kind) → text ≡ kind_text j → rule_view rule ≡ location_rule s j lookahead_code) → Told (Ok m) (kind_view k)
  told_lookahead m rule text is same made e =
      let seen = lookahead_is k is in
      told_finished m rule lookahead (location_rule s lookahead lookahead_code) seen made (e lookahead (same ∙ ap kind_text seen)) refl refl refl

  pub told_lookbehind : (m : Making) (rule : NonterminalData) (text : List ℕ) → k ≡ kind.Lookbehind → text ≡ kind_text (kind_view k) → IsMade m (Some (record { rule = rule; filling = None })) →
      ((j : Kind) → text ≡ kind_text j → rule_view rule ≡ location_rule s j lookbehind_code) → Told (Ok m) (kind_view k)
  told_lookbehind m rule text is same made e =
      let seen = lookbehind_is k is in
      told_finished m rule lookbehind (location_rule s lookbehind lookbehind_code) seen made (e lookbehind (same ∙ ap kind_text seen)) refl refl refl

  -- ---- a rule that is still to be read

  pub told_call : (r : Result Making NormFailure) (x : MacroSymbol) (text : List ℕ) → k ≡ kind.Macro x → text ≡ kind_text (kind_view k) →
      Refuses r (called_faults (macro_named ms (macro_view x).0) (macro_view x).1) →
      IfOk r (λ m. option_to_list (option_map (generated_view ws) m.generated) ≡ call_generated text s (macro_named ms (macro_view x).0) (call_parts (kind_at ws n)) (macro_view x).1) →
      IfOk r (λ m. IfSome m.generated (λ p. IsReadable ws p.filling)) → IfOk r (λ m. m.kept.items ≡ kept_by_call comparison (macro_named ms (macro_view x).0) (macro_view x).1) → Told r (kind_view k)
  told_call r x text is same faults shape ready places =
      let c : Kind = call (macro_view x).0 (macro_view x).1 in
      let seen : kind_view k ≡ c = call_is k x is in
      told_as r (kind_view k) c seen (record {
        refuses = faults;
        generated =
            subst (λ (t : List ℕ). IfOk r (λ m. option_to_list (option_map (generated_view ws) m.generated) ≡ call_generated t s (macro_named ms (macro_view x).0) (call_parts (kind_at ws n)) (macro_view x).1))
            (same ∙ ap kind_text seen) shape;
        readable = ready;
        kept = places;
      })

  pub told_repeat : (m : Making) (p : GeneratedRule) (r : RepeatSymbol) (text : List ℕ) → kind_view k ≡ repeated r.op (symbol_view r.symbol) → text ≡ kind_text (kind_view k) → IsMade m (Some p) →
      unmade_repeat s r.op (symbol_view r.symbol) ≡ [] → generated_view ws p ≡ repeat_generated text s r.op (repeated_kind (kind_at ws n)) (symbol_view r.symbol) → IsReadable ws p.filling →
      Told (Ok m) (kind_view k)
  told_repeat m p r text seen same made none one ready =
      told_as (Ok m) (kind_view k) (repeated r.op (symbol_view r.symbol)) seen (record {
        refuses = none;
        generated =
            ap (λ (o : Option GeneratedRule). option_to_list (option_map (generated_view ws) o)) made.0
            ∙ ap (λ q. q ∷ []) (one ∙ ap (λ (t : List ℕ). repeat_generated t s r.op (repeated_kind (kind_at ws n)) (symbol_view r.symbol)) (same ∙ ap kind_text seen));
        readable = subst (λ (o : Option GeneratedRule). IfSome o (λ p. IsReadable ws p.filling)) (sym made.0) ready;
        kept = made.1;
      })

  -- ---- no rule

  told_none : (m : Making) (w : Kind) → kind_view k ≡ w → IsMade m None → unmade ms (at s w) ≡ [] → generated_of ms (kind_at ws n) (at s w) ≡ [] →
      kept_by comparison ms (at s w) ≡ [] → Told (Ok m) (kind_view k)
  told_none m w seen made no_fault no_rule no_places = told_as (Ok m) (kind_view k) w seen (record {
    refuses = no_fault;
    generated = ap (λ (o : Option GeneratedRule). option_to_list (option_map (generated_view ws) o)) made.0 ∙ sym no_rule;
    readable = subst (λ (o : Option GeneratedRule). IfSome o (λ p. IsReadable ws p.filling)) (sym made.0) tt;
    kept = made.1 ∙ sym no_places;
  })

  -- a symbol that is neither a group nor a call, a repeat or a location symbol
  pub told_nothing : (m : Making) → IsMade m None → ((x : ExprSymbol) → k ≡ kind.Expr x → ⊥) → ((x : MacroSymbol) → k ≡ kind.Macro x → ⊥) →
      ((x : Box RepeatSymbol Global) → k ≡ kind.Repeat x → ⊥) → (k ≡ kind.Lookahead → ⊥) → (k ≡ kind.Lookbehind → ⊥) → Told (Ok m) (kind_view k)
  told_nothing m made no_group no_call no_repeat no_lookahead no_lookbehind = by (out-SymbolKind k) (roll-out-SymbolKind k)
    where
      by : (f : SymbolKind-F SymbolKind ExprSymbol MacroSymbol RepeatSymbol Symbol) → roll-SymbolKind f ≡ k → Told (Ok m) (kind_view k)
      by (SymbolKind-F.Expr x) is = absurd (no_group x (sym is ∙ rolls-Expr x))
      by (SymbolKind-F.Macro x) is = absurd (no_call x (sym is ∙ rolls-Macro x))
      by (SymbolKind-F.Repeat x) is = absurd (no_repeat x (sym is ∙ rolls-Repeat x))
      by SymbolKind-F.Lookahead is = absurd (no_lookahead (sym is ∙ rolls-Lookahead))
      by SymbolKind-F.Lookbehind is = absurd (no_lookbehind (sym is ∙ rolls-Lookbehind))
      by f is = told_none m _ (ap kind_view (sym is) ∙ fold-roll-SymbolKind Kind Parts Call Again Part kind_step expr_step macro_step repeat_step symbol_step f) made refl refl refl

-- ---- what is asked of a symbol that is desugared

pub group_stays : (k : SymbolKind) (x : ExprSymbol) → k ≡ kind.Expr x → inside_replaced (kind_view k) ≡ kind_view k → all_replaced (expr_view x) ≡ expr_view x
group_stays k x is e =
    let seen : kind_view k ≡ group (expr_view x) = group_is k x is in
    let here : group (all_replaced (expr_view x)) ≡ group (expr_view x) = ap inside_replaced (sym seen) ∙ e ∙ seen in
    cc here

pub repeat_told : (k : SymbolKind) (x : Box RepeatSymbol Global) (r : RepeatSymbol) → k ≡ kind.Repeat x → r ≡ x.value → kind_view k ≡ repeated r.op (symbol_view r.symbol)
repeat_told k x r is same =
    repeat_is k x is ∙ ap (λ (a : Again). repeated a.0 a.1) (repeated_symbol x.value) ∙ ap (λ (y : RepeatSymbol). repeated y.op (symbol_view y.symbol)) (sym same)
