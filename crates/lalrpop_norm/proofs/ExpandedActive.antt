-- The conversions of the expanded grammar are those of the enabled grammar: all active.
use Rattle.std.proofs.Common.{◌≡◌, inl, inr, ℕ, Bool, true, false, List, [], ◌∷◌, ◌++◌, map, Option, Some, None, refl, ap, ap₂, sym, subst, ◌∙◌}
use Rattle.std.specs.Prelude.{flat_map, option_map, if◌then◌else◌}
use Rattle.lalrpop_norm_tree.specs.Items.{RuleData, ConversionData, EnumTokenData, ExternTokenData, MatchTokenData, InternTokenData, ItemData, GrammarData, match_item, extern_item, intern_item, rule_item, use_item}
use Rattle.lalrpop_norm_theory.specs.Rounds.{In}
use Rattle.lalrpop_norm_conditions.specs.Conditions.{comparison}
use Rattle.lalrpop_norm_model.specs.Features.{Features, is_active}
use Rattle.lalrpop_norm_model.specs.Enabled.{enabled_rule, enabled_enum, enabled_extern, enabled_item, enabled_grammar}
use Rattle.lalrpop_norm_model.specs.Scopes.{globals, resolved_grammar}
use Rattle.lalrpop_norm_model.specs.PlainRules.{made_in}
use Rattle.lalrpop_norm.specs.Faithful.{grammar_with_levels, grammar_of_plain_rules}
use Rattle.lalrpop_norm.proofs.ExpandedTokens.{resolved_kept, level_kept, plain_kept}
use Rattle.lalrpop_norm.proofs.TypedPlain.{enabled_active}

abbrev extern_in : ItemData → List ExternTokenData
extern_in (extern_item t) = t ∷ []
extern_in (match_item m) = []
extern_in (intern_item t) = []
extern_in (rule_item r) = []
extern_in (use_item u) = []

-- the extern blocks of the expanded grammar are those of the enabled one
externs_kept : (fs : Features) (g : GrammarData) (n : ℕ) →
    flat_map extern_in (grammar_of_plain_rules fs g n).items ≡ flat_map extern_in (enabled_grammar fs g).items
externs_kept fs g n =
    plain_kept extern_in (λ r. refl) (made_in comparison (grammar_with_levels fs g) n) (grammar_with_levels fs g).items
    ∙ level_kept extern_in (λ r. refl) (resolved_grammar (enabled_grammar fs g)).items
    ∙ resolved_kept extern_in (λ r. refl) (globals (enabled_grammar fs g)) (enabled_grammar fs g).items

extern_listed : (items : List ItemData) (t : ExternTokenData) → In (extern_item t) items → In t (flat_map extern_in items)
extern_listed [] t i = absurd i
extern_listed (extern_item u ∷ items) t (inl e) = inl (cc e)
extern_listed (extern_item u ∷ items) t (inr i) = inr (extern_listed items t i)
extern_listed (match_item m ∷ items) t (inl e) = absurd (cc e)
extern_listed (match_item m ∷ items) t (inr i) = extern_listed items t i
extern_listed (intern_item u ∷ items) t (inl e) = absurd (cc e)
extern_listed (intern_item u ∷ items) t (inr i) = extern_listed items t i
extern_listed (rule_item r ∷ items) t (inl e) = absurd (cc e)
extern_listed (rule_item r ∷ items) t (inr i) = extern_listed items t i
extern_listed (use_item u ∷ items) t (inl e) = absurd (cc e)
extern_listed (use_item u ∷ items) t (inr i) = extern_listed items t i

module _ (fs : Features) where
  -- taking out what is not active twice is doing it once
  enum_once : (o : Option EnumTokenData) → option_map (enabled_enum fs) (option_map (enabled_enum fs) o) ≡ option_map (enabled_enum fs) o
  enum_once None = refl
  enum_once (Some e) = ap (λ (cs : List ConversionData). let u : EnumTokenData = record e { conversions = cs } in Some u) (enabled_active fs e).active

  extern_once : (t : ExternTokenData) → enabled_extern fs (enabled_extern fs t) ≡ enabled_extern fs t
  extern_once t = ap (λ o. let u : ExternTokenData = record t { enum_token = o } in u) (enum_once t.enum_token)

  extern_from : (items : List ItemData) (t : ExternTokenData) → In t (flat_map extern_in (flat_map (enabled_item fs) items)) → (x : ExternTokenData) × (t ≡ enabled_extern fs x)
  extern_from [] t i = absurd i
  extern_from (extern_item x ∷ items) t (inl e) = (x, e)
  extern_from (extern_item x ∷ items) t (inr i) = extern_from items t i
  extern_from (match_item m ∷ items) t i = extern_from items t i
  extern_from (intern_item x ∷ items) t i = extern_from items t i
  extern_from (use_item u ∷ items) t i = extern_from items t i
  extern_from (rule_item r ∷ items) t i = by (is_active fs r.attributes) (extern_from items t) i
    where
      by : (b : Bool) → (In t (flat_map extern_in (flat_map (enabled_item fs) items)) → (x : ExternTokenData) × (t ≡ enabled_extern fs x)) →
          In t (flat_map extern_in ((if b then rule_item (enabled_rule fs r) ∷ [] else []) ++ flat_map (enabled_item fs) items)) → (x : ExternTokenData) × (t ≡ enabled_extern fs x)
      by true f j = f j
      by false f j = f j

  -- each extern block of the expanded grammar is as it is with its active conversions alone
  pub plain_active : (g : GrammarData) (n : ℕ) (t : ExternTokenData) → In (extern_item t) (grammar_of_plain_rules fs g n).items → enabled_extern fs t ≡ t
  plain_active g n t i =
      let j = subst (λ (ts : List ExternTokenData). In t ts) (externs_kept fs g n) (extern_listed (grammar_of_plain_rules fs g n).items t i) in
      let (x, e) = extern_from g.items t j in
      ap (enabled_extern fs) e ∙ extern_once x ∙ sym e

-- what changes extern blocks alone, and none of these, changes nothing
pub items_kept : (f : ItemData → ItemData) → ((m : MatchTokenData) → f (match_item m) ≡ match_item m) → ((t : InternTokenData) → f (intern_item t) ≡ intern_item t) →
    ((r : RuleData) → f (rule_item r) ≡ rule_item r) → ((u : List ℕ) → f (use_item u) ≡ use_item u) →
    (items : List ItemData) → ((t : ExternTokenData) → In (extern_item t) items → f (extern_item t) ≡ extern_item t) → map f items ≡ items
items_kept f m n r u [] h = refl
items_kept f m n r u (match_item t ∷ items) h = ap₂ ◌∷◌ (m t) (items_kept f m n r u items (λ x i. h x (inr i)))
items_kept f m n r u (intern_item t ∷ items) h = ap₂ ◌∷◌ (n t) (items_kept f m n r u items (λ x i. h x (inr i)))
items_kept f m n r u (rule_item t ∷ items) h = ap₂ ◌∷◌ (r t) (items_kept f m n r u items (λ x i. h x (inr i)))
items_kept f m n r u (use_item t ∷ items) h = ap₂ ◌∷◌ (u t) (items_kept f m n r u items (λ x i. h x (inr i)))
items_kept f m n r u (extern_item t ∷ items) h = ap₂ ◌∷◌ (h t (inl refl)) (items_kept f m n r u items (λ x i. h x (inr i)))
