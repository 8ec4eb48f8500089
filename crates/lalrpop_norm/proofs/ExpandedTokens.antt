-- The tokens of a grammar before the pass on tokens, along the steps that change only rules.
use Rattle.std.proofs.Common.{◌≡◌, ◌<◌, ◌≤◌, ℕ, Bool, true, false, List, [], ◌∷◌, ◌++◌, length, map, refl, ap, sym, subst, ◌∙◌}
use Rattle.std.specs.Prelude.{flat_map, if◌then◌else◌}
use Rattle.lalrpop_norm_tree_names.specs.declared.names.TerminalString.{TerminalString}
use Rattle.lalrpop_norm_tree_names.specs.declared.names.TerminalString.TheVariants.{Error}
use Rattle.lalrpop_norm_tree.specs.Items.{RuleData, EnumTokenData, MatchTokenData, InternTokenData, ItemData, GrammarData, match_item, extern_item, intern_item, rule_item, use_item}
use Rattle.lalrpop_norm_tree.specs.LoweredTypes.{holds_symbol}
use Rattle.lalrpop_norm_tree.specs.Types.{TypeData, ParameterData}
use Rattle.lalrpop_norm_theory.specs.Rounds.{In}
use Rattle.lalrpop_norm_model.specs.Scopes.{Global, globals, resolved_item, resolved_grammar}
use Rattle.lalrpop_norm_model.specs.LevelRules.{level_items, level_rules, leveled_grammar}
use Rattle.lalrpop_norm_model.specs.Grammars.{is_nil, ConditionValue}
use Rattle.lalrpop_norm_model.specs.PlainRules.{replaced_rule, plain_item, plain_grammar, made_in}
use Rattle.lalrpop_norm_model.specs.Entries.{group_entries, user_names}
use Rattle.lalrpop_norm_model.specs.Expanded.{enum_in, match_in, intern_in, enums, match_blocks, interns, terminals_converted, converted, mapped_terminals, types_in_clause, types_in_extern, types_beside_rules, all_known}

-- ---- tokens

-- At most one extern enum, and beside it no match block, of which there is at most one; no internal tokens yet; nothing names the
-- error terminal; no symbol occurs in a type that no rule declares, and attributes are known.
pub record HasTokens (g : GrammarData) : Type 0 where
  pub one_enum : length (enums g) ≤ 1
  pub one_match : length (match_blocks g) ≤ 1
  pub no_intern : interns g ≡ []
  pub enum_alone : 0 < length (enums g) → match_blocks g ≡ []
  pub no_error_converted : In Error (converted g) → ⊥
  pub no_error_mapped : In Error (mapped_terminals g) → ⊥
  pub bare_types : (t : TypeData) → In t (types_beside_rules g) → holds_symbol t ≡ false
  pub known : all_known g.attributes ≡ true

-- ---- steps that change rules alone

module _ {X : Type 0} (f : ItemData → List X) (none : (r : RuleData) → f (rule_item r) ≡ []) where
  after_none : (r : RuleData) (xs : List X) → f (rule_item r) ++ xs ≡ xs
  after_none r xs = ap (λ ys. ys ++ xs) (none r)

  rules_none : (rs : List RuleData) (items : List ItemData) → flat_map f (map rule_item rs ++ items) ≡ flat_map f items
  rules_none [] items = refl
  rules_none (r ∷ rs) items = after_none r (flat_map f (map rule_item rs ++ items)) ∙ rules_none rs items

  made_none : (rs : List RuleData) → flat_map f (map (λ r. rule_item (replaced_rule r)) rs) ≡ []
  made_none [] = refl
  made_none (r ∷ rs) = after_none (replaced_rule r) (flat_map f (map (λ s. rule_item (replaced_rule s)) rs)) ∙ made_none rs

  pub resolved_kept : (ds : List Global) (items : List ItemData) → flat_map f (map (resolved_item ds) items) ≡ flat_map f items
  resolved_kept ds [] = refl
  resolved_kept ds (rule_item r ∷ items) =
      after_none _ (flat_map f (map (resolved_item ds) items)) ∙ resolved_kept ds items ∙ sym (after_none r (flat_map f items))
  resolved_kept ds (match_item m ∷ items) = ap (λ xs. f (match_item m) ++ xs) (resolved_kept ds items)
  resolved_kept ds (extern_item t ∷ items) = ap (λ xs. f (extern_item t) ++ xs) (resolved_kept ds items)
  resolved_kept ds (intern_item t ∷ items) = ap (λ xs. f (intern_item t) ++ xs) (resolved_kept ds items)
  resolved_kept ds (use_item u ∷ items) = ap (λ xs. f (use_item u) ++ xs) (resolved_kept ds items)

  pub level_kept : (items : List ItemData) → flat_map f (flat_map level_items items) ≡ flat_map f items
  level_kept [] = refl
  level_kept (rule_item r ∷ items) =
      rules_none (level_rules r) (flat_map level_items items) ∙ level_kept items ∙ sym (after_none r (flat_map f items))
  level_kept (match_item m ∷ items) = ap (λ xs. f (match_item m) ++ xs) (level_kept items)
  level_kept (extern_item t ∷ items) = ap (λ xs. f (extern_item t) ++ xs) (level_kept items)
  level_kept (intern_item t ∷ items) = ap (λ xs. f (intern_item t) ++ xs) (level_kept items)
  level_kept (use_item u ∷ items) = ap (λ xs. f (use_item u) ++ xs) (level_kept items)

  pub plain_kept : (rs : List RuleData) (items : List ItemData) →
      flat_map f (flat_map plain_item items ++ map (λ r. rule_item (replaced_rule r)) rs) ≡ flat_map f items
  plain_kept rs [] = made_none rs
  plain_kept rs (rule_item r ∷ items) = by (is_nil r.args) (plain_kept rs items)
    where
      by : (b : Bool) → flat_map f (flat_map plain_item items ++ map (λ s. rule_item (replaced_rule s)) rs) ≡ flat_map f items →
          flat_map f (((if b then rule_item (replaced_rule r) ∷ [] else []) ++ flat_map plain_item items) ++ map (λ s. rule_item (replaced_rule s)) rs)
          ≡ f (rule_item r) ++ flat_map f items
      by true h = after_none (replaced_rule r) _ ∙ h ∙ sym (after_none r (flat_map f items))
      by false h = h ∙ sym (after_none r (flat_map f items))
  plain_kept rs (match_item m ∷ items) = ap (λ xs. f (match_item m) ++ xs) (plain_kept rs items)
  plain_kept rs (extern_item t ∷ items) = ap (λ xs. f (extern_item t) ++ xs) (plain_kept rs items)
  plain_kept rs (intern_item t ∷ items) = ap (λ xs. f (intern_item t) ++ xs) (plain_kept rs items)
  plain_kept rs (use_item u ∷ items) = ap (λ xs. f (use_item u) ++ xs) (plain_kept rs items)

-- items that say of tokens what others say
pub record SayTheSame (items others : List ItemData) : Type 0 where
  pub enums : flat_map enum_in items ≡ flat_map enum_in others
  pub matches : flat_map match_in items ≡ flat_map match_in others
  pub interns : flat_map intern_in items ≡ flat_map intern_in others
  pub types : flat_map types_in_extern items ≡ flat_map types_in_extern others

abbrev of_enums : List EnumTokenData → List TerminalString
of_enums es = flat_map (λ (e : EnumTokenData). terminals_converted e.conversions) es

abbrev of_blocks : List MatchTokenData → List InternTokenData → List TerminalString
of_blocks ms ts =
    flat_map (λ (m : MatchTokenData). user_names (group_entries m.contents)) ms
    ++ flat_map (λ (t : InternTokenData). user_names t.match_entries) ts

-- a grammar with such items has the same tokens
kept_tokens : (g : GrammarData) (items : List ItemData) → SayTheSame items g.items → HasTokens g → HasTokens (record g { items = items })
kept_tokens g items same h = record {
  one_enum = subst (λ (es : List EnumTokenData). length es ≤ 1) (sym same.enums) h.one_enum;
  one_match = subst (λ (ms : List MatchTokenData). length ms ≤ 1) (sym same.matches) h.one_match;
  no_intern = same.interns ∙ h.no_intern;
  enum_alone = λ some. same.matches ∙ h.enum_alone (subst (λ (es : List EnumTokenData). 0 < length es) same.enums some);
  no_error_converted = subst (λ (es : List EnumTokenData). In Error (of_enums es) → ⊥) (sym same.enums) h.no_error_converted;
  no_error_mapped =
      subst (λ (ms : List MatchTokenData). In Error (of_blocks ms (flat_map intern_in items)) → ⊥) (sym same.matches)
      (subst (λ (ts : List InternTokenData). In Error (of_blocks (match_blocks g) ts) → ⊥) (sym same.interns) h.no_error_mapped);
  bare_types =
      subst (λ (ts : List TypeData). (t : TypeData) →
      In t (map (λ (p : ParameterData). p.type) g.parameters ++ flat_map types_in_clause g.where_clauses ++ ts) → holds_symbol t ≡ false) (sym same.types) h.bare_types;
  known = h.known;
}

pub resolved_tokens : (g : GrammarData) → HasTokens g → HasTokens (resolved_grammar g)
resolved_tokens g h = kept_tokens g (map (resolved_item (globals g)) g.items) (record {
  enums = resolved_kept enum_in (λ r. refl) (globals g) g.items;
  matches = resolved_kept match_in (λ r. refl) (globals g) g.items;
  interns = resolved_kept intern_in (λ r. refl) (globals g) g.items;
  types = resolved_kept types_in_extern (λ r. refl) (globals g) g.items;
}) h

pub leveled_tokens : (g : GrammarData) → HasTokens g → HasTokens (leveled_grammar g)
leveled_tokens g h = kept_tokens g (flat_map level_items g.items) (record {
  enums = level_kept enum_in (λ r. refl) g.items;
  matches = level_kept match_in (λ r. refl) g.items;
  interns = level_kept intern_in (λ r. refl) g.items;
  types = level_kept types_in_extern (λ r. refl) g.items;
}) h

pub plain_tokens : (value : ConditionValue) (g : GrammarData) (n : ℕ) → HasTokens g → HasTokens (plain_grammar value g n)
plain_tokens value g n h = kept_tokens g (flat_map plain_item g.items ++ map (λ r. rule_item (replaced_rule r)) (made_in value g n)) (record {
  enums = plain_kept enum_in (λ r. refl) (made_in value g n) g.items;
  matches = plain_kept match_in (λ r. refl) (made_in value g n) g.items;
  interns = plain_kept intern_in (λ r. refl) (made_in value g n) g.items;
  types = plain_kept types_in_extern (λ r. refl) (made_in value g n) g.items;
}) h
