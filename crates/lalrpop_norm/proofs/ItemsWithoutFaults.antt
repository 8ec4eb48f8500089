-- What items without faults say of their blocks, enums and match blocks, also of those that are enabled.
use Rattle.std.proofs.Common.{◌≡◌, ◌≤◌, inl, inr, ℕ, Bool, true, false, not, ◌||◌, List, [], ◌∷◌, ◌++◌, length, map, Option, Some, None, refl, ap, sym, subst, ◌∙◌, arith}
use Rattle.std.specs.Prelude.{flat_map, filter, filter_map, option_map, option_to_list, is_some, if◌then◌else◌}
use Rattle.std.proofs.lemmas.Grind.{flat_map-append}
use Rattle.lalrpop_norm_tree_names.specs.declared.names.Span.{Span}
use Rattle.lalrpop_norm_tree_names.specs.declared.names.TerminalString.{TerminalString}
use Rattle.lalrpop_norm_tree_names.specs.declared.names.TerminalString.TheVariants.{Literal, Bare, Error}
use Rattle.lalrpop_norm_tree.specs.Accessors.{first_of, extern_token_of}
use Rattle.lalrpop_norm_tree.specs.declared.items.MatchItem.{MatchItem}
use Rattle.lalrpop_norm_tree.specs.declared.items.MatchItem.TheVariants.{CatchAll, Unmapped, Mapped}
use Rattle.lalrpop_norm_tree.specs.declared.items.MatchMapping.TheVariants.{Terminal, Skip}
use Rattle.lalrpop_norm_tree.specs.Items.{AlternativeData, RuleData, AssociatedTypeData, ConversionData, EnumTokenData, ExternTokenData, MatchTokenData, ItemData, GrammarData, match_item, extern_item, intern_item, rule_item, use_item}
use Rattle.lalrpop_norm_tree.specs.LoweredTypes.{holds_symbol}
use Rattle.lalrpop_norm_tree.specs.Types.{TypeData}
use Rattle.lalrpop_norm_theory.specs.Rounds.{In}
use Rattle.lalrpop_norm_theory.proofs.RoundsLemmas.{in_cases, of_flat}
use Rattle.lalrpop_norm_faults.specs.Faults.{fault_if}
use Rattle.lalrpop_norm_faults.specs.declared.kind.FaultKind.TheVariants.{SecondMatch, UnknownAssociatedType, RepeatedAssociatedType, WrittenOfSymbol}
use Rattle.lalrpop_norm_faults.proofs.FaultLemmas.{not_fault}
use Rattle.lalrpop_norm_model.specs.Entries.{group_entries, user_names}
use Rattle.lalrpop_norm_model.specs.Features.{Features, is_active, is_one_of}
use Rattle.lalrpop_norm_model.specs.Enabled.{enabled_rule, enabled_enum, enabled_extern, enabled_item}
use Rattle.lalrpop_norm_model.specs.TerminalTypes.{chosen_in_pattern}
use Rattle.lalrpop_norm_model.specs.TokenFaults.{names_mapped_by}
use Rattle.lalrpop_norm_model.specs.Expanded as expanded
use Rattle.lalrpop_norm_model.specs.Expanded.{match_in, intern_in, types_in_enum, types_in_extern}
use Rattle.lalrpop_norm_model.proofs.EnteredTokens.{groups_names}
use Rattle.lalrpop_norm_model.proofs.InferenceLemmas.{both_empty, none_made, in_filtered}
use Rattle.lalrpop_norm_prevalidate.specs.TypeFaults.{some_holds, pattern_holds}
use Rattle.lalrpop_norm_prevalidate.specs.SymbolFaults.{terminal_faults, parts_faults, beside_faults, list_faults}
use Rattle.lalrpop_norm_prevalidate.specs.AlternativeFaults.{alternative_faults}
use Rattle.lalrpop_norm_prevalidate.specs.GrammarFaults.{rule_faults, mapping_faults, match_beside_extern_faults, match_faults, associated_faults, types_faults, conversion_faults, enum_faults, extern_faults, is_known_type, is_match, is_extern, item_faults, surroundings_of, blocks_in}
use Rattle.lalrpop_norm_prevalidate.specs.Walks.{types_along, items_along}
use Rattle.lalrpop_norm_prevalidate.proofs.PlaceLemmas.{types_placed}
use Rattle.lalrpop_norm.proofs.TypesWithoutSymbols.{none_appended, chosen_bare}

-- the extern blocks among items
abbrev pub externs_of : List ItemData → List ExternTokenData
externs_of items = filter_map extern_token_of items

-- ---- items without faults

module _ (g : GrammarData) where
  -- an item without faults, whatever is before it
  abbrev pub IsFree : ItemData → Type 0
  IsFree i = (m : Bool) × (e : Bool) × (item_faults (surroundings_of g) (blocks_in g) g.span m e i ≡ [])

  pub item_free : (m e : Bool) (items : List ItemData) → items_along (surroundings_of g) (blocks_in g) g.span m e items ≡ [] → (i : ItemData) → In i items → IsFree i
  item_free m e [] h i j = absurd j
  item_free m e (k ∷ items) h i (inl same) =
      (m, e, subst (λ (x : ItemData). item_faults (surroundings_of g) (blocks_in g) g.span m e x ≡ []) (sym same) (both_empty (item_faults (surroundings_of g) (blocks_in g) g.span m e k) _ h).0)
  item_free m e (k ∷ items) h i (inr j) = item_free (m || is_match k) (e || is_extern k) items (both_empty (item_faults (surroundings_of g) (blocks_in g) g.span m e k) _ h).1 i j

  pub no_intern : (m e : Bool) (items : List ItemData) → items_along (surroundings_of g) (blocks_in g) g.span m e items ≡ [] → flat_map intern_in items ≡ []
  unfolding item_faults
  no_intern m e [] h = refl
  no_intern m e (intern_item t ∷ items) h = absurd (cc h)
  no_intern m e (match_item t ∷ items) h = no_intern _ _ items (both_empty (item_faults (surroundings_of g) (blocks_in g) g.span m e (match_item t)) _ h).1
  no_intern m e (extern_item t ∷ items) h = no_intern _ _ items (both_empty (item_faults (surroundings_of g) (blocks_in g) g.span m e (extern_item t)) _ h).1
  no_intern m e (rule_item r ∷ items) h = no_intern _ _ items (both_empty (item_faults (surroundings_of g) (blocks_in g) g.span m e (rule_item r)) _ h).1
  no_intern m e (use_item u ∷ items) h = no_intern _ _ items (both_empty (item_faults (surroundings_of g) (blocks_in g) g.span m e (use_item u)) _ h).1

  -- after an extern block there is none
  no_extern : (m : Bool) (items : List ItemData) → items_along (surroundings_of g) (blocks_in g) g.span m true items ≡ [] → externs_of items ≡ []
  unfolding item_faults extern_faults
  no_extern m [] h = refl
  no_extern m (extern_item t ∷ items) h = absurd (cc h)
  no_extern m (match_item t ∷ items) h = no_extern _ items (both_empty (item_faults (surroundings_of g) (blocks_in g) g.span m true (match_item t)) _ h).1
  no_extern m (intern_item t ∷ items) h = no_extern _ items (both_empty (item_faults (surroundings_of g) (blocks_in g) g.span m true (intern_item t)) _ h).1
  no_extern m (rule_item r ∷ items) h = no_extern _ items (both_empty (item_faults (surroundings_of g) (blocks_in g) g.span m true (rule_item r)) _ h).1
  no_extern m (use_item u ∷ items) h = no_extern _ items (both_empty (item_faults (surroundings_of g) (blocks_in g) g.span m true (use_item u)) _ h).1

  pub one_extern : (m : Bool) (items : List ItemData) → items_along (surroundings_of g) (blocks_in g) g.span m false items ≡ [] → (t : ExternTokenData) (rest : List ExternTokenData) →
      externs_of items ≡ t ∷ rest → rest ≡ []
  one_extern m [] h t rest e = absurd (cc e)
  one_extern m (extern_item u ∷ items) h t rest e =
      let same : externs_of items ≡ rest = cc e in
      sym same ∙ no_extern _ items (both_empty (item_faults (surroundings_of g) (blocks_in g) g.span m false (extern_item u)) _ h).1
  one_extern m (match_item u ∷ items) h t rest e = one_extern _ items (both_empty (item_faults (surroundings_of g) (blocks_in g) g.span m false (match_item u)) _ h).1 t rest e
  one_extern m (intern_item u ∷ items) h t rest e = one_extern _ items (both_empty (item_faults (surroundings_of g) (blocks_in g) g.span m false (intern_item u)) _ h).1 t rest e
  one_extern m (rule_item r ∷ items) h t rest e = one_extern _ items (both_empty (item_faults (surroundings_of g) (blocks_in g) g.span m false (rule_item r)) _ h).1 t rest e
  one_extern m (use_item u ∷ items) h t rest e = one_extern _ items (both_empty (item_faults (surroundings_of g) (blocks_in g) g.span m false (use_item u)) _ h).1 t rest e

  -- ---- extern blocks

  -- what is wrong with its associated types and with its enum
  pub extern_free : (t : ExternTokenData) → IsFree (extern_item t) → (types_along [] t.associated_types ≡ []) × (enum_faults t.enum_token ≡ [])
  unfolding item_faults extern_faults
  extern_free t (m, e, h) =
      let behind = (both_empty (fault_if e _) _ h).1 in
      let both = both_empty (types_faults t.associated_types) (enum_faults t.enum_token) (both_empty (if is_some t.enum_token then _ else []) _ behind).1 in
      (types_placed t.associated_types ∙ both.0, both.1)

  -- ---- rules

  pub rule_free : (r : RuleData) → IsFree (rule_item r) → (some_holds r.type_decl ≡ false) × (flat_map (alternative_faults (surroundings_of g)) r.alternatives ≡ [])
  unfolding item_faults rule_faults
  rule_free r (m, e, h) =
      let one = both_empty (fault_if _ _) _ h in
      let two = both_empty (fault_if (some_holds r.type_decl) _) _ one.1 in
      let three = both_empty _ _ two.1 in
      let four = both_empty _ (flat_map (alternative_faults (surroundings_of g)) r.alternatives) three.1 in
      (not_fault (some_holds r.type_decl) _ two.0, four.1)

  pub symbols_free : (a : AlternativeData) → alternative_faults (surroundings_of g) a ≡ [] → parts_faults (surroundings_of g) a.parts ≡ []
  unfolding alternative_faults
  symbols_free a h = (both_empty (parts_faults (surroundings_of g) a.parts) (beside_faults a.parts) (both_empty (list_faults (surroundings_of g) a.parts) _ h).0).0

associated_bare : (before : List (List ℕ)) (ts : List AssociatedTypeData) → types_along before ts ≡ [] → (t : TypeData) →
    In t (map (λ (a : AssociatedTypeData). a.type_ref) ts) → holds_symbol t ≡ false
unfolding associated_faults
associated_bare before [] h t i = absurd i
associated_bare before (a ∷ ts) h t (inl e) =
    let here = (both_empty (associated_faults before a) _ h).0 in
    let known = fault_if (not (is_known_type a.type_name)) (UnknownAssociatedType, a.type_span) in
    let once = fault_if (is_one_of a.type_name before) (RepeatedAssociatedType, a.type_span) in
    let bare = fault_if (holds_symbol a.type_ref) (WrittenOfSymbol, a.type_span) in
    ap holds_symbol e ∙ not_fault (holds_symbol a.type_ref) (WrittenOfSymbol, a.type_span) (both_empty once bare (both_empty known (once ++ bare) here).1).1
associated_bare before (a ∷ ts) h t (inr i) = associated_bare _ ts (both_empty (associated_faults before a) _ h).1 t i

pub conversion_free : (cv : ConversionData) → conversion_faults cv ≡ [] → (terminal_faults cv.span cv.from ≡ []) × (pattern_holds cv.to ≡ false)
unfolding conversion_faults
conversion_free cv h =
    let two = both_empty (terminal_faults cv.span cv.from) _ h in
    (two.0, not_fault (pattern_holds cv.to) _ (both_empty (fault_if (pattern_holds cv.to) _) _ two.1).0)

pub not_error : (s : Span) (t : TerminalString) → terminal_faults s t ≡ [] → t ≡ Error → ⊥
unfolding terminal_faults
not_error s (Literal l) h e = cc e
not_error s (Bare a) h e = cc e
not_error s Error h e = cc h

-- ---- enums

pub enums_of_externs : (items : List ItemData) → flat_map expanded.enum_in items ≡ flat_map (λ (t : ExternTokenData). option_to_list t.enum_token) (externs_of items)
enums_of_externs [] = refl
enums_of_externs (extern_item t ∷ items) = ap (λ es. option_to_list t.enum_token ++ es) (enums_of_externs items)
enums_of_externs (match_item m ∷ items) = enums_of_externs items
enums_of_externs (intern_item t ∷ items) = enums_of_externs items
enums_of_externs (rule_item r ∷ items) = enums_of_externs items
enums_of_externs (use_item u ∷ items) = enums_of_externs items

pub extern_listed : (items : List ItemData) (t : ExternTokenData) → In t (externs_of items) → In (extern_item t) items
extern_listed [] t i = absurd i
extern_listed (extern_item u ∷ items) t (inl e) = inl (ap extern_item e)
extern_listed (extern_item u ∷ items) t (inr i) = inr (extern_listed items t i)
extern_listed (match_item m ∷ items) t i = inr (extern_listed items t i)
extern_listed (intern_item u ∷ items) t i = inr (extern_listed items t i)
extern_listed (rule_item r ∷ items) t i = inr (extern_listed items t i)
extern_listed (use_item u ∷ items) t i = inr (extern_listed items t i)

-- ---- enabled items

module _ (fs : Features) where
  mapped_append : (o : Option EnumTokenData) (es : List EnumTokenData) →
      option_to_list (option_map (enabled_enum fs) o) ++ map (enabled_enum fs) es ≡ map (enabled_enum fs) (option_to_list o ++ es)
  mapped_append None es = refl
  mapped_append (Some e) es = refl

  pub enabled_enums : (items : List ItemData) → flat_map expanded.enum_in (flat_map (enabled_item fs) items) ≡ map (enabled_enum fs) (flat_map expanded.enum_in items)
  enabled_enums [] = refl
  enabled_enums (extern_item t ∷ items) =
      ap (λ es. option_to_list (option_map (enabled_enum fs) t.enum_token) ++ es) (enabled_enums items) ∙ mapped_append t.enum_token (flat_map expanded.enum_in items)
  enabled_enums (match_item m ∷ items) = enabled_enums items
  enabled_enums (intern_item t ∷ items) = enabled_enums items
  enabled_enums (use_item u ∷ items) = enabled_enums items
  enabled_enums (rule_item r ∷ items) = by (is_active fs r.attributes) (enabled_enums items)
    where
      by : (b : Bool) → flat_map expanded.enum_in (flat_map (enabled_item fs) items) ≡ map (enabled_enum fs) (flat_map expanded.enum_in items) →
          flat_map expanded.enum_in ((if b then rule_item (enabled_rule fs r) ∷ [] else []) ++ flat_map (enabled_item fs) items) ≡ map (enabled_enum fs) (flat_map expanded.enum_in items)
      by true h = h
      by false h = h

  pub enabled_matches : (items : List ItemData) → flat_map match_in (flat_map (enabled_item fs) items) ≡ flat_map match_in items
  enabled_matches [] = refl
  enabled_matches (match_item m ∷ items) = ap (λ ms. m ∷ ms) (enabled_matches items)
  enabled_matches (extern_item t ∷ items) = enabled_matches items
  enabled_matches (intern_item t ∷ items) = enabled_matches items
  enabled_matches (use_item u ∷ items) = enabled_matches items
  enabled_matches (rule_item r ∷ items) = by (is_active fs r.attributes) (enabled_matches items)
    where
      by : (b : Bool) → flat_map match_in (flat_map (enabled_item fs) items) ≡ flat_map match_in items →
          flat_map match_in ((if b then rule_item (enabled_rule fs r) ∷ [] else []) ++ flat_map (enabled_item fs) items) ≡ flat_map match_in items
      by true h = h
      by false h = h

  pub enabled_interns : (items : List ItemData) → flat_map intern_in (flat_map (enabled_item fs) items) ≡ flat_map intern_in items
  enabled_interns [] = refl
  enabled_interns (intern_item t ∷ items) = ap (λ ts. t ∷ ts) (enabled_interns items)
  enabled_interns (extern_item t ∷ items) = enabled_interns items
  enabled_interns (match_item m ∷ items) = enabled_interns items
  enabled_interns (use_item u ∷ items) = enabled_interns items
  enabled_interns (rule_item r ∷ items) = by (is_active fs r.attributes) (enabled_interns items)
    where
      by : (b : Bool) → flat_map intern_in (flat_map (enabled_item fs) items) ≡ flat_map intern_in items →
          flat_map intern_in ((if b then rule_item (enabled_rule fs r) ∷ [] else []) ++ flat_map (enabled_item fs) items) ≡ flat_map intern_in items
      by true h = h
      by false h = h

  -- the types of enabled extern blocks
  enum_bare : (e : EnumTokenData) → enum_faults (Some e) ≡ [] → (t : TypeData) → In t (types_in_enum (enabled_enum fs e)) → holds_symbol t ≡ false
  enum_bare e h t (inl same) = ap holds_symbol same ∙ not_fault (holds_symbol e.type_name) _ (both_empty (fault_if (holds_symbol e.type_name) _) _ h).0
  enum_bare e h t (inr i) =
      let (cv, j, k) = of_flat (λ (x : ConversionData). chosen_in_pattern x.to) t (filter (λ (x : ConversionData). is_active fs x.attributes) e.conversions) i in
      let l = (in_filtered (λ (x : ConversionData). is_active fs x.attributes) e.conversions cv j).0 in
      chosen_bare cv.to (conversion_free cv (none_made conversion_faults e.conversions (both_empty (fault_if (holds_symbol e.type_name) _) _ h).1 cv l)).1 t k

  enums_bare : (o : Option EnumTokenData) → enum_faults o ≡ [] → (t : TypeData) → In t (flat_map types_in_enum (option_to_list (option_map (enabled_enum fs) o))) → holds_symbol t ≡ false
  enums_bare None h t i = absurd i
  enums_bare (Some e) h t i = elim (in_cases t (types_in_enum (enabled_enum fs e)) [] i) [ inl j ↦ enum_bare e h t j | inr j ↦ absurd j ]

  extern_bare : (x : ExternTokenData) → (types_along [] x.associated_types ≡ []) × (enum_faults x.enum_token ≡ []) → (t : TypeData) →
      In t (types_in_extern (extern_item (enabled_extern fs x))) → holds_symbol t ≡ false
  extern_bare x h t i = elim (in_cases t (map (λ (a : AssociatedTypeData). a.type_ref) x.associated_types) _ i) [
    | inl j ↦ associated_bare [] x.associated_types h.0 t j
    | inr j ↦ enums_bare x.enum_token h.1 t j
  ]

  pub externs_bare : (items : List ItemData) → ((x : ExternTokenData) → In (extern_item x) items → (types_along [] x.associated_types ≡ []) × (enum_faults x.enum_token ≡ [])) →
      (t : TypeData) → In t (flat_map types_in_extern (flat_map (enabled_item fs) items)) → holds_symbol t ≡ false
  externs_bare [] f t i = absurd i
  externs_bare (extern_item x ∷ items) f t i =
      elim (in_cases t (types_in_extern (extern_item (enabled_extern fs x))) (flat_map types_in_extern (flat_map (enabled_item fs) items)) i) [
        | inl j ↦ extern_bare x (f x (inl refl)) t j
        | inr j ↦ externs_bare items (λ y k. f y (inr k)) t j
      ]
  externs_bare (match_item m ∷ items) f t i = externs_bare items (λ y k. f y (inr k)) t i
  externs_bare (intern_item x ∷ items) f t i = externs_bare items (λ y k. f y (inr k)) t i
  externs_bare (use_item u ∷ items) f t i = externs_bare items (λ y k. f y (inr k)) t i
  externs_bare (rule_item r ∷ items) f t i = by (is_active fs r.attributes) (externs_bare items (λ y k. f y (inr k)) t) i
    where
      by : (b : Bool) → (In t (flat_map types_in_extern (flat_map (enabled_item fs) items)) → holds_symbol t ≡ false) →
          In t (flat_map types_in_extern ((if b then rule_item (enabled_rule fs r) ∷ [] else []) ++ flat_map (enabled_item fs) items)) → holds_symbol t ≡ false
      by true h j = h j
      by false h j = h j

-- ---- match blocks

items_named : (items : List MatchItem) → flat_map mapping_faults items ≡ [] → In Error (flat_map names_mapped_by items) → ⊥
items_named [] h i = i
items_named (x ∷ items) h i =
    let both = both_empty (mapping_faults x) (flat_map mapping_faults items) h in
    elim (in_cases Error (names_mapped_by x) (flat_map names_mapped_by items) i) [
      | inl j ↦ by x both.0 j
      | inr j ↦ items_named items both.1 j
    ]
  where
    by : (x : MatchItem) → mapping_faults x ≡ [] → In Error (names_mapped_by x) → ⊥
    by (CatchAll s) f j = j
    by (Mapped l Skip s) f j = j
    by (Mapped l (Terminal t) s) f (inl e) = not_error s t f (sym e)
    by (Mapped l (Terminal t) s) f (inr j) = j
    by (Unmapped l s) f (inl e) = cc e
    by (Unmapped l s) f (inr j) = j

all_mapping_faults : (groups : List (List MatchItem)) → flat_map (flat_map mapping_faults) groups ≡ [] → flat_map mapping_faults (flat_map (λ items. items) groups) ≡ []
all_mapping_faults [] h = refl
all_mapping_faults (items ∷ groups) h =
    let both = both_empty (flat_map mapping_faults items) (flat_map (flat_map mapping_faults) groups) h in
    flat_map-append mapping_faults items (flat_map (λ more. more) groups)
    ∙ none_appended (flat_map mapping_faults items) (flat_map mapping_faults (flat_map (λ more. more) groups)) both.0 (all_mapping_faults groups both.1)

pub block_named : (m : MatchTokenData) → flat_map (flat_map mapping_faults) m.contents ≡ [] → In Error (user_names (group_entries m.contents)) → ⊥
block_named m h i =
    items_named (flat_map (λ items. items) m.contents) (all_mapping_faults m.contents h)
    (subst (λ ts. In Error ts) (groups_names m.contents) i)

pub match_listed : (items : List ItemData) (m : MatchTokenData) → In m (flat_map match_in items) → In (match_item m) items
match_listed [] m i = absurd i
match_listed (match_item n ∷ items) m (inl e) = inl (ap match_item e)
match_listed (match_item n ∷ items) m (inr i) = inr (match_listed items m i)
match_listed (extern_item t ∷ items) m i = inr (match_listed items m i)
match_listed (intern_item t ∷ items) m i = inr (match_listed items m i)
match_listed (rule_item r ∷ items) m i = inr (match_listed items m i)
match_listed (use_item u ∷ items) m i = inr (match_listed items m i)

pub first_extern_is : (items : List ItemData) (t : ExternTokenData) (rest : List ExternTokenData) → externs_of items ≡ t ∷ rest → first_of extern_token_of items ≡ Some t
first_extern_is [] t rest e = absurd (cc e)
first_extern_is (extern_item x ∷ items) t rest e = (let same : x ≡ t = cc e in ap Some same)
first_extern_is (match_item m ∷ items) t rest e = first_extern_is items t rest e
first_extern_is (intern_item x ∷ items) t rest e = first_extern_is items t rest e
first_extern_is (rule_item r ∷ items) t rest e = first_extern_is items t rest e
first_extern_is (use_item u ∷ items) t rest e = first_extern_is items t rest e

beside_none : (o : Option Span) → match_beside_extern_faults o ≡ [] → o ≡ None
beside_none None h = refl
beside_none (Some s) h = absurd (cc h)

module _ (g : GrammarData) where
  -- after a match block there is none
  no_match : (e : Bool) (items : List ItemData) → items_along (surroundings_of g) (blocks_in g) g.span true e items ≡ [] → flat_map match_in items ≡ []
  unfolding item_faults match_faults
  no_match e [] h = refl
  no_match e (match_item m ∷ items) h = absurd (cc h)
  no_match e (extern_item t ∷ items) h = no_match _ items (both_empty (item_faults (surroundings_of g) (blocks_in g) g.span true e (extern_item t)) _ h).1
  no_match e (intern_item t ∷ items) h = no_match _ items (both_empty (item_faults (surroundings_of g) (blocks_in g) g.span true e (intern_item t)) _ h).1
  no_match e (rule_item r ∷ items) h = no_match _ items (both_empty (item_faults (surroundings_of g) (blocks_in g) g.span true e (rule_item r)) _ h).1
  no_match e (use_item u ∷ items) h = no_match _ items (both_empty (item_faults (surroundings_of g) (blocks_in g) g.span true e (use_item u)) _ h).1

  pub one_match : (e : Bool) (items : List ItemData) → items_along (surroundings_of g) (blocks_in g) g.span false e items ≡ [] → length (flat_map match_in items) ≤ 1
  unfolding item_faults match_faults
  one_match e [] h = omega arith
  one_match e (match_item m ∷ items) h =
      subst (λ (ms : List MatchTokenData). length (m ∷ ms) ≤ 1)
      (sym (no_match _ items (both_empty (item_faults (surroundings_of g) (blocks_in g) g.span false e (match_item m)) _ h).1)) (omega arith)
  one_match e (extern_item t ∷ items) h = one_match _ items (both_empty (item_faults (surroundings_of g) (blocks_in g) g.span false e (extern_item t)) _ h).1
  one_match e (intern_item t ∷ items) h = one_match _ items (both_empty (item_faults (surroundings_of g) (blocks_in g) g.span false e (intern_item t)) _ h).1
  one_match e (rule_item r ∷ items) h = one_match _ items (both_empty (item_faults (surroundings_of g) (blocks_in g) g.span false e (rule_item r)) _ h).1
  one_match e (use_item u ∷ items) h = one_match _ items (both_empty (item_faults (surroundings_of g) (blocks_in g) g.span false e (use_item u)) _ h).1

  -- a match block occurs beside no enum of the first extern block, and its mappings name no error terminal
  pub match_free : (m : MatchTokenData) → IsFree g (match_item m) → ((blocks_in g).first_enum ≡ None) × (flat_map (flat_map mapping_faults) m.contents ≡ [])
  unfolding item_faults match_faults
  match_free m (seen, e, h) =
      let behind = (both_empty (fault_if seen (SecondMatch, m.span)) _ h).1 in
      let both = both_empty (match_beside_extern_faults (blocks_in g).first_enum) (flat_map (flat_map mapping_faults) m.contents) behind in
      (beside_none (blocks_in g).first_enum both.0, both.1)
