-- Where the pass on tokens finds nothing wrong, the terminals of a grammar with its entries are distinct, and each one used is one of them.
use Rattle.std.proofs.Common.{append_assoc, ◌≡◌, ◌∙◌, ℕ, Bool, true, false, not, ◌||◌, List, [], ◌∷◌, ◌++◌, Option, Some, None, IsSome, inl, inr, refl, sym, ap, subst}
use Rattle.std.specs.Prelude.{flat_map, filter, is_none, option_map}
use Rattle.std.specs.List.{list_any}
use Rattle.std.specs.List.Sorted.{IsStrictlySortedBy}
use Rattle.std.specs.declared.cmp.Ordering.TheVariants.{Less}
use Rattle.lalrpop_norm_tree_names.specs.declared.names.Span.{Span}
use Rattle.lalrpop_norm_tree_names.specs.declared.names.TerminalLiteral.{TerminalLiteral}
use Rattle.lalrpop_norm_tree_names.specs.declared.names.TerminalString.{TerminalString}
use Rattle.lalrpop_norm_tree_names.specs.declared.names.TerminalString.TheVariants.{Literal, Bare, Error}
use Rattle.lalrpop_norm_tree.specs.declared.items.MatchEntry.{MatchEntry}
use Rattle.lalrpop_norm_tree.specs.declared.items.MatchItem.{MatchItem}
use Rattle.lalrpop_norm_tree.specs.declared.items.MatchItem.TheVariants.{CatchAll, Unmapped, Mapped}
use Rattle.lalrpop_norm_tree.specs.declared.items.MatchMapping.{MatchMapping}
use Rattle.lalrpop_norm_tree.specs.declared.items.MatchMapping.TheVariants.{Terminal, Skip}
use Rattle.lalrpop_norm_tree.specs.Accessors.{or_else, first_of, enum_token_of, match_item_span}
use Rattle.lalrpop_norm_tree.specs.Items.{AlternativeData, RuleData, ConversionData, EnumTokenData, ExternTokenData, MatchTokenData, InternTokenData, ItemData, GrammarData, match_item, extern_item, intern_item, rule_item, use_item}
use Rattle.lalrpop_norm_tree.specs.Symbols.{Kind, Part, Parts, terminal, chosen, named, tupled, at, no_parts, part_and}
use Rattle.lalrpop_norm_faults.specs.Faults.{fault_if}
use Rattle.lalrpop_norm_faults.specs.declared.kind.FaultKind.TheVariants.{LiteralTwice, TerminalTwice, NoMapping, NoPattern}
use Rattle.lalrpop_norm_faults.proofs.FaultLemmas.{not_fault, holds_unless}
use Rattle.lalrpop_norm_theory.specs.Rounds.{In, IsDistinct}
use Rattle.lalrpop_norm_theory.proofs.RoundsLemmas.{in_left, in_right, in_cases, in_flat, of_flat}
use Rattle.lalrpop_norm_theory.proofs.ListLemmas.{distinct_right, distinct_apart}
use Rattle.lalrpop_norm_model.specs.Features.{Features, is_active}
use Rattle.lalrpop_norm_model.specs.Enabled.{enabled_enum, enabled_extern}
use Rattle.lalrpop_norm_model.specs.PlainRules.{all_rules}
use Rattle.lalrpop_norm_model.specs.Terminals.{same_terminal, same_literal, terminals_in, terminals_in_parts, terminals_in_rule, terminals_used}
use Rattle.lalrpop_norm_model.specs.Entries.{match_block, item_entries, group_entries, entries_in, match_entries, catch_all, precedence_of, entry_in, own_mapping, terminal_named, user_names, IsEntry, written, added, entry_cmp, AreEntries}
use Rattle.lalrpop_norm_model.specs.TerminalTypes.{extern_enum}
use Rattle.lalrpop_norm_model.specs.TypeRelation.{IsRule}
use Rattle.lalrpop_norm_model.specs.TypeTables.{Table}
use Rattle.lalrpop_norm_model.specs.TokenFaults.{each_after, literals_of, names_mapped_by, match_item_faults, items_of, match_items, repeated_conversion_faults, places_in, places_in_parts, places_used, has_entry, has_conversion, input_faults, checked_enum_faults, entry_faults, token_faults_with}
use Rattle.lalrpop_norm_model.specs.CheckedTokens.{with_tokens, IsEnteredWith}
use Rattle.lalrpop_norm_model.specs.Expanded.{is_plain_kind, is_plain, are_plain, interns, terminals_converted, terminals_with, terminals_of, IsExpanded, IsTyped}
use Rattle.lalrpop_norm_model.specs.Laws.{EnteredAreTyped}
use Rattle.lalrpop_norm_model.proofs.EntryLemmas.{rises_above, rest_rises, one_below}
use Rattle.lalrpop_norm_model.proofs.EnteredLemmas.{rules_beside, enum_beside, entries_beside}
use Rattle.lalrpop_norm_model.proofs.InferenceLemmas.{both_empty, none_made}
use Rattle.lalrpop_norm_model.proofs.LevelLemmas.{in_map, of_map}
use Rattle.lalrpop_norm_model.proofs.SameTerminalLemmas.{terminal_itself, passes_any, any_passes, listed_same, same_listed, terminals_same}
use Rattle.std.proofs.lemmas.Bool.{and_parts}

-- ---- terminals used, and their spans

place_in_part : (t : TerminalString) (p : Part) → In t (terminals_in p) → (x : Span) × In {A = TerminalString × Span} (t, x) (places_in p)
place_in_part t p i =
    let (u, j, e) = of_map (λ (v : TerminalString × Span). v.0) t (places_in p) i in
    (u.1, subst (λ (n : TerminalString). In {A = TerminalString × Span} (n, u.1) (places_in p)) (sym e) j)

place_in_all : (t : TerminalString) (ps : Parts) → In t (terminals_in_parts ps) → (x : Span) × In {A = TerminalString × Span} (t, x) (places_in_parts ps)
place_in_all t no_parts i = absurd i
place_in_all t (part_and p ps) i = elim (in_cases t (terminals_in p) (terminals_in_parts ps) i) [
  | inl j ↦ (let (x, k) = place_in_part t p j in (x, in_left (t, x) (places_in p) (places_in_parts ps) k))
  | inr j ↦ (let (x, k) = place_in_all t ps j in (x, in_right (t, x) (places_in p) (places_in_parts ps) k))
]

abbrev places_in_rule : RuleData → List (TerminalString × Span)
places_in_rule r = flat_map (λ (a : AlternativeData). places_in_parts a.parts) r.alternatives

-- each terminal used has a span
place_used : (g : GrammarData) (t : TerminalString) → In t (terminals_used g) → (x : Span) × In {A = TerminalString × Span} (t, x) (places_used g)
place_used g t i =
    let (r, j, k) = of_flat terminals_in_rule t (all_rules g) i in
    let (a, l, m) = of_flat (λ (b : AlternativeData). terminals_in_parts b.parts) t r.alternatives k in
    let (x, n) = place_in_all t a.parts m in
    (x, in_flat places_in_rule (t, x) r (all_rules g) j (in_flat (λ (b : AlternativeData). places_in_parts b.parts) (t, x) a r.alternatives l n))

-- the error terminal is not used by symbols of an expanded grammar
mutual
  plain_kind_used : (s : Span) (k : Kind) → is_plain_kind k ≡ true → In Error (terminals_in (at s k)) → ⊥
  plain_kind_used s (terminal (Literal l)) h (inl e) = cc e
  plain_kind_used s (terminal (Bare a)) h (inl e) = cc e
  plain_kind_used s (terminal Error) h i = cc h
  plain_kind_used s (terminal (Literal l)) h (inr i) = i
  plain_kind_used s (terminal (Bare a)) h (inr i) = i
  plain_kind_used s (chosen p) h i = plain_part_used p h i
  plain_kind_used s (named n p) h i = plain_part_used p h i
  plain_kind_used s (tupled ns p) h i = plain_part_used p h i
  plain_kind_used s _ h i = i

  plain_part_used : (p : Part) → is_plain p ≡ true → In Error (terminals_in p) → ⊥
  plain_part_used (at s k) h i = plain_kind_used s k h i

plain_parts_used : (ps : Parts) → are_plain ps ≡ true → In Error (terminals_in_parts ps) → ⊥
plain_parts_used no_parts h i = i
plain_parts_used (part_and p ps) h i =
    let both = and_parts (is_plain p) (are_plain ps) h in
    elim (in_cases Error (terminals_in p) (terminals_in_parts ps) i) [
      | inl j ↦ plain_part_used p both.0 j
      | inr j ↦ plain_parts_used ps both.1 j
    ]

no_error_used : (g : GrammarData) → IsExpanded g → In Error (terminals_used g) → ⊥
no_error_used g x i =
    let (r, j, k) = of_flat terminals_in_rule Error (all_rules g) i in
    let (a, l, m) = of_flat (λ (b : AlternativeData). terminals_in_parts b.parts) Error r.alternatives k in
    plain_parts_used a.parts (x.plain_symbols a (r, j, l)) m

-- ---- an extern enum

conversion_apart : (before cs : List ConversionData) → each_after repeated_conversion_faults before cs ≡ [] → (b : ConversionData) → In b before →
    (c : ConversionData) → In c cs → c.from ≡ b.from → ⊥
conversion_apart before [] h b i c j e = j
conversion_apart before (d ∷ cs) h b i c (inl same) e =
    let here = (both_empty (repeated_conversion_faults before d) (each_after repeated_conversion_faults (d ∷ before) cs) h).0 in
    let no : list_any (λ (x : ConversionData). same_terminal d.from x.from) before ≡ false = not_fault _ (TerminalTwice, d.span) here in
    let own : d.from ≡ b.from = ap (λ (x : ConversionData). x.from) (sym same) ∙ e in
    let yes : list_any (λ (x : ConversionData). same_terminal d.from x.from) before ≡ true =
    passes_any (λ (x : ConversionData). same_terminal d.from x.from) before b i (subst (λ (t : TerminalString). same_terminal d.from t ≡ true) own (terminal_itself d.from)) in
    cc (no, yes)
conversion_apart before (d ∷ cs) h b i c (inr j) e =
    conversion_apart (d ∷ before) cs (both_empty (repeated_conversion_faults before d) (each_after repeated_conversion_faults (d ∷ before) cs) h).1 b (inr i) c j e

conversions_distinct : (before cs : List ConversionData) → each_after repeated_conversion_faults before cs ≡ [] → IsDistinct (terminals_converted cs)
conversions_distinct before [] h = tt
conversions_distinct before (c ∷ cs) h =
    let rest = (both_empty (repeated_conversion_faults before c) (each_after repeated_conversion_faults (c ∷ before) cs) h).1 in (
      λ i. (let (d, j, e) = of_map (λ (x : ConversionData). x.from) c.from cs i in conversion_apart (c ∷ before) cs rest c (inl refl) d j (sym e)),
      conversions_distinct (c ∷ before) cs rest,
    )

converted_listed : (t : TerminalString) (cs : List ConversionData) → has_conversion cs t ≡ true → In t (terminals_converted cs)
converted_listed t cs h =
    let (c, i, e) = any_passes (λ (x : ConversionData). same_terminal t x.from) cs h in
    subst (λ u. In u (terminals_converted cs)) (sym (terminals_same t c.from e)) (in_map (λ (x : ConversionData). x.from) c cs i)

enum_item : (items : List ItemData) (e : EnumTokenData) → first_of enum_token_of items ≡ Some e → (t : ExternTokenData) × In (extern_item t) items × (t.enum_token ≡ Some e)
enum_item [] e h = absurd (cc h)
enum_item (match_item m ∷ items) e h = let (t, i, is) = enum_item items e h in (t, inr i, is)
enum_item (intern_item u ∷ items) e h = let (t, i, is) = enum_item items e h in (t, inr i, is)
enum_item (rule_item r ∷ items) e h = let (t, i, is) = enum_item items e h in (t, inr i, is)
enum_item (use_item u ∷ items) e h = let (t, i, is) = enum_item items e h in (t, inr i, is)
enum_item (extern_item x ∷ items) e h = by x.enum_token refl (enum_item items e) h
  where
    by : (o : Option EnumTokenData) → x.enum_token ≡ o →
        (first_of enum_token_of items ≡ Some e → (t : ExternTokenData) × In (extern_item t) items × (t.enum_token ≡ Some e)) →
        or_else o (first_of enum_token_of items) ≡ Some e → (t : ExternTokenData) × In (extern_item t) (extern_item x ∷ items) × (t.enum_token ≡ Some e)
    by None is f i = let (t, j, k) = f i in (t, inr j, k)
    by (Some u) is f i = (x, inl refl, is ∙ i)

module _ (fs : Features) (g : GrammarData) (active : (t : ExternTokenData) → In (extern_item t) g.items → enabled_extern fs t ≡ t) where
  -- the conversions of the extern enum are all active
  enum_active : (e : EnumTokenData) → extern_enum g ≡ Some e → filter (λ (c : ConversionData). is_active fs c.attributes) e.conversions ≡ e.conversions
  enum_active e h =
      let (t, i, is) = enum_item g.items e h in
      let same : option_map (enabled_enum fs) t.enum_token ≡ t.enum_token = ap (λ (x : ExternTokenData). x.enum_token) (active t i) in
      let whole : Some (enabled_enum fs e) ≡ Some e = subst (λ (o : Option EnumTokenData). option_map (enabled_enum fs) o ≡ o) is same in
      let one : enabled_enum fs e ≡ e = cc whole in
      ap (λ (x : EnumTokenData). x.conversions) one

  enum_typed : (e : EnumTokenData) → extern_enum g ≡ Some e → checked_enum_faults e g ≡ [] → (table : Table) → ((r : RuleData) → IsRule g r → IsSome (table r.name.0)) →
      IsTyped fs g table
  enum_typed e is h table some =
      let both = both_empty (each_after repeated_conversion_faults [] e.conversions) _ h in
      let same : terminals_of fs g ≡ terminals_converted e.conversions = ap (λ o. terminals_with o fs g) is ∙ ap terminals_converted (enum_active e is) in record {
        rules_typed = some;
        distinct_terminals = subst IsDistinct (sym same) (conversions_distinct [] e.conversions both.0);
        terminals_listed = λ t i. (
            let (x, j) = place_used g t i in
            let free = none_made (λ (p : TerminalString × Span). fault_if (not (has_conversion e.conversions p.0)) (NoPattern, p.1)) (places_used g) both.1 (t, x) j in
            subst (In t) (sym same) (converted_listed t e.conversions (holds_unless (has_conversion e.conversions t) (NoPattern, x) free)));
      }

-- ---- names of entries

names_append : (xs ys : List MatchEntry) → user_names (xs ++ ys) ≡ user_names xs ++ user_names ys
names_append [] ys = refl
names_append (e ∷ xs) ys = ap (λ ts. terminal_named e.user_name ++ ts) (names_append xs ys) ∙ sym (append_assoc (terminal_named e.user_name) (user_names xs) (user_names ys))

-- an item names the same with every precedence
item_names : (p : ℕ) (i : MatchItem) → user_names (item_entries p i) ≡ names_mapped_by i
item_names p (Mapped l m s) = refl
item_names p (Unmapped l s) = refl
item_names p (CatchAll s) = refl

items_names : (p : ℕ) (items : List MatchItem) → user_names (flat_map (item_entries p) items) ≡ flat_map names_mapped_by items
items_names p [] = refl
items_names p (i ∷ items) =
    names_append (item_entries p i) (flat_map (item_entries p) items)
    ∙ ap (λ ts. ts ++ user_names (flat_map (item_entries p) items)) (item_names p i) ∙ ap (λ ts. names_mapped_by i ++ ts) (items_names p items)

mapped_append : (xs ys : List MatchItem) → flat_map names_mapped_by (xs ++ ys) ≡ flat_map names_mapped_by xs ++ flat_map names_mapped_by ys
mapped_append [] ys = refl
mapped_append (i ∷ xs) ys = ap (λ ts. names_mapped_by i ++ ts) (mapped_append xs ys) ∙ sym (append_assoc (names_mapped_by i) (flat_map names_mapped_by xs) (flat_map names_mapped_by ys))

pub groups_names : (groups : List (List MatchItem)) → user_names (group_entries groups) ≡ flat_map names_mapped_by (flat_map (λ items. items) groups)
groups_names [] = refl
groups_names (items ∷ groups) =
    names_append (flat_map (item_entries (precedence_of (items ∷ groups))) items) (group_entries groups)
    ∙ ap (λ ts. ts ++ user_names (group_entries groups)) (items_names (precedence_of (items ∷ groups)) items)
    ∙ ap (λ ts. flat_map names_mapped_by items ++ ts) (groups_names groups)
    ∙ sym (mapped_append items (flat_map (λ more. more) groups))

block_names : (o : Option MatchTokenData) → user_names (entries_in o) ≡ flat_map names_mapped_by (items_of o)
block_names None = refl
block_names (Some m) = groups_names m.contents

-- no two items of a match block name one terminal
item_apart : (before items : List MatchItem) → each_after match_item_faults before items ≡ [] → (t : TerminalString) → In t (flat_map names_mapped_by before) →
    In t (flat_map names_mapped_by items) → ⊥
item_apart before [] h t i j = j
item_apart before (x ∷ items) h t i j =
    let both = both_empty (match_item_faults before x) (each_after match_item_faults (x ∷ before) items) h in
    let here = (both_empty (fault_if (list_any (λ l. list_any (same_literal l) (flat_map literals_of before)) (literals_of x)) (LiteralTwice, match_item_span x)) _ both.0).1 in
    let no : list_any (λ u. list_any (same_terminal u) (flat_map names_mapped_by before)) (names_mapped_by x) ≡ false = not_fault _ (TerminalTwice, match_item_span x) here in
    elim (in_cases t (names_mapped_by x) (flat_map names_mapped_by items) j) [
      | inl k ↦ (let yes : list_any (λ u. list_any (same_terminal u) (flat_map names_mapped_by before)) (names_mapped_by x) ≡ true =
          passes_any (λ u. list_any (same_terminal u) (flat_map names_mapped_by before)) (names_mapped_by x) t k (listed_same t (flat_map names_mapped_by before) i) in
          cc (no, yes))
      | inr k ↦ item_apart (x ∷ before) items both.1 t (in_right t (names_mapped_by x) (flat_map names_mapped_by before) i) k
    ]

items_distinct : (before items : List MatchItem) → each_after match_item_faults before items ≡ [] → IsDistinct (flat_map names_mapped_by items)
items_distinct before [] h = tt
items_distinct before (x ∷ items) h = by x rest (items_distinct (x ∷ before) items rest)
  where
    rest : each_after match_item_faults (x ∷ before) items ≡ []
    rest = (both_empty (match_item_faults before x) (each_after match_item_faults (x ∷ before) items) h).1

    by : (x : MatchItem) → each_after match_item_faults (x ∷ before) items ≡ [] → IsDistinct (flat_map names_mapped_by items) →
        IsDistinct (names_mapped_by x ++ flat_map names_mapped_by items)
    by (CatchAll s) r d = d
    by (Mapped l Skip s) r d = d
    by (Mapped l (Terminal t) s) r d = (item_apart (Mapped l (Terminal t) s ∷ before) items r t (inl refl), d)
    by (Unmapped l s) r d = (item_apart (Unmapped l s ∷ before) items r (Literal l) (inl refl), d)

-- entries of a list whose names are distinct, with one name
one_named : (es : List MatchEntry) → IsDistinct (user_names es) → (d e : MatchEntry) → In d es → In e es → (t : TerminalString) →
    In t (terminal_named d.user_name) → In t (terminal_named e.user_name) → d ≡ e
one_named [] h d e i j t a b = absurd i
one_named (x ∷ es) h d e (inl p) (inl q) t a b = p ∙ sym q
one_named (x ∷ es) h d e (inl p) (inr j) t a b =
    absurd (distinct_apart (terminal_named x.user_name) (user_names es) h t (subst (λ (y : MatchEntry). In t (terminal_named y.user_name)) p a)
    (in_flat (λ (y : MatchEntry). terminal_named y.user_name) t e es j b))
one_named (x ∷ es) h d e (inr i) (inl q) t a b =
    absurd (distinct_apart (terminal_named x.user_name) (user_names es) h t (subst (λ (y : MatchEntry). In t (terminal_named y.user_name)) q b)
    (in_flat (λ (y : MatchEntry). terminal_named y.user_name) t d es i a))
one_named (x ∷ es) h d e (inr i) (inr j) t a b = one_named es (distinct_right (terminal_named x.user_name) (user_names es) h) d e i j t a b

-- ---- internal tokens

module _ (g : GrammarData) (free : entry_faults g ≡ []) where
  names_distinct : IsDistinct (user_names (match_entries g))
  names_distinct =
      subst IsDistinct (sym (block_names (match_block g)))
      (items_distinct [] (match_items g) (both_empty (each_after match_item_faults [] (match_items g)) _ free).0)

  -- an entry is the only one of the terminal that it names
  one_entry : (d e : MatchEntry) → IsEntry g d → IsEntry g e → (t : TerminalString) → In t (terminal_named d.user_name) → In t (terminal_named e.user_name) → d ≡ e
  one_entry _ _ (written d i) (written e j) t a b = one_named (match_entries g) names_distinct d e i j t a b
  one_entry _ _ (written d i) (added m q j own some) t a (inl p) =
      absurd (own (subst (λ u. In u (user_names (match_entries g))) p (in_flat (λ (y : MatchEntry). terminal_named y.user_name) t d (match_entries g) i a)))
  one_entry _ _ (written d i) (added m q j own some) t a (inr p) = absurd p
  one_entry _ _ (added l q i own some) (written e j) t (inl p) b =
      absurd (own (subst (λ u. In u (user_names (match_entries g))) p (in_flat (λ (y : MatchEntry). terminal_named y.user_name) t e (match_entries g) j b)))
  one_entry _ _ (added l q i own some) (written e j) t (inr p) b = absurd p
  one_entry _ _ (added l p i own some) (added m q j other more) t (inl a) (inl b) =
      let same : l ≡ m = (let both : Literal l ≡ Literal m = sym a ∙ b in cc both) in
      let levels : p ≡ q = (let both : Some p ≡ Some q = sym some ∙ more in cc both) in
      ap (λ x. entry_in x l (own_mapping l)) levels ∙ ap (λ x. entry_in q x (own_mapping x)) same
  one_entry _ _ (added l p i own some) (added m q j other more) t (inl a) (inr b) = absurd b
  one_entry _ _ (added l p i own some) (added m q j other more) t (inr a) b = absurd a

  rising_distinct : (es : List MatchEntry) → IsStrictlySortedBy entry_cmp es → ((e : MatchEntry) → In e es → IsEntry g e) → IsDistinct (user_names es)
  rising_distinct [] s all = tt
  rising_distinct (x ∷ es) s all = by x.user_name refl (rising_distinct es (rest_rises x es s) (λ e i. all e (inr i)))
    where
      by : (m : MatchMapping) → x.user_name ≡ m → IsDistinct (user_names es) → IsDistinct (terminal_named m ++ user_names es)
      by Skip is d = d
      by (Terminal t) is d = (once, d)
        where
          once : In t (user_names es) → ⊥
          once i =
              let (e, j, k) = of_flat (λ (y : MatchEntry). terminal_named y.user_name) t es i in
              let own : In t (terminal_named x.user_name) = subst (λ m. In t (terminal_named m)) (sym is) (inl refl) in
              let same : x ≡ e = one_entry x e (all x (inl refl)) (all e (inr j)) t own k in
              let below : entry_cmp x e ≡ Less = rises_above x es s e j in
              let itself : entry_cmp e e ≡ Less = subst (λ y. entry_cmp y e ≡ Less) same below in
              one_below e e itself itself

  -- each terminal used is named by an entry
  entry_named : (es : List MatchEntry) → AreEntries g es → (e : MatchEntry) → IsEntry g e → (t : TerminalString) → In t (terminal_named e.user_name) → In t (user_names es)
  entry_named es h e i t k = in_flat (λ (y : MatchEntry). terminal_named y.user_name) t e es ((h.all e).1 i) k

  written_named : (es : List MatchEntry) → AreEntries g es → (t : TerminalString) → In t (user_names (match_entries g)) → In t (user_names es)
  written_named es h t i =
      let (e, j, k) = of_flat (λ (y : MatchEntry). terminal_named y.user_name) t (match_entries g) i in
      entry_named es h e (written e j) t k

  literal_named : (es : List MatchEntry) → AreEntries g es → (l : TerminalLiteral) → In (Literal l) (terminals_used g) → has_entry g (Literal l) ≡ true → In (Literal l) (user_names es)
  literal_named es h l i e = by (list_any (same_terminal (Literal l)) (user_names (match_entries g))) refl (catch_all g) refl e
    where
      by : (b : Bool) → list_any (same_terminal (Literal l)) (user_names (match_entries g)) ≡ b → (o : Option ℕ) → catch_all g ≡ o → (b || not (is_none o)) ≡ true →
          In (Literal l) (user_names es)
      by true is o some k = written_named es h (Literal l) (same_listed (Literal l) (user_names (match_entries g)) is)
      by false is None some k = absurd (cc k)
      by false is (Some p) some k =
          entry_named es h (entry_in p l (own_mapping l))
          (added l p i (λ n. (let yes : list_any (same_terminal (Literal l)) (user_names (match_entries g)) ≡ true = listed_same (Literal l) (user_names (match_entries g)) n in cc (is, yes))) some)
          (Literal l) (inl refl)

  used_named : IsExpanded g → (es : List MatchEntry) → AreEntries g es → (t : TerminalString) → In t (terminals_used g) → In t (user_names es)
  used_named x es h t i = by t i (has_one t i)
    where
      has_one : (t : TerminalString) → In t (terminals_used g) → has_entry g t ≡ true
      has_one t i =
          let (s, j) = place_used g t i in
          holds_unless (has_entry g t) (NoMapping, s)
          (none_made (λ (p : TerminalString × Span). fault_if (not (has_entry g p.0)) (NoMapping, p.1)) (places_used g)
          (both_empty (each_after match_item_faults [] (match_items g)) _ free).1 (t, s) j)

      by : (t : TerminalString) → In t (terminals_used g) → has_entry g t ≡ true → In t (user_names es)
      by (Literal l) i e = literal_named es h l i e
      by (Bare a) i e = written_named es h (Bare a) (same_listed (Bare a) (user_names (match_entries g)) e)
      by Error i e = absurd (no_error_used g x i)

module _ (fs : Features) (g : GrammarData) (x : IsExpanded g) (none : interns g ≡ []) where
  intern_typed : (t : InternTokenData) → extern_enum g ≡ None → entry_faults g ≡ [] → AreEntries g t.match_entries → (table : Table) →
      ((r : RuleData) → IsRule (with_tokens t g) r → IsSome (table r.name.0)) → IsTyped fs (with_tokens t g) table
  intern_typed t internal free entries table some =
      let same : terminals_of fs (with_tokens t g) ≡ user_names t.match_entries =
      ap (λ o. terminals_with o fs (with_tokens t g)) (enum_beside t g ∙ internal) ∙ ap user_names (entries_beside t g none) in record {
        rules_typed = some;
        distinct_terminals = subst IsDistinct (sym same) (rising_distinct g free t.match_entries entries.rising (λ e i. (entries.all e).0 i));
        terminals_listed = λ u i. subst (In u) (sym same)
            (used_named g free x t.match_entries entries u (subst (λ (rs : List RuleData). In u (flat_map terminals_in_rule rs)) (rules_beside t g) i));
      }

  typed_case : ((t : ExternTokenData) → In (extern_item t) g.items → enabled_extern fs t ≡ t) → (o : Option EnumTokenData) → extern_enum g ≡ o →
      token_faults_with o g ≡ [] → (h : GrammarData) → IsEnteredWith o g h → (table : Table) → ((r : RuleData) → IsRule h r → IsSome (table r.name.0)) → IsTyped fs h table
  typed_case active (Some e) is free h same table some =
      subst (λ (y : GrammarData). IsTyped fs y table) (sym same)
      (enum_typed fs g active e is free table (subst (λ (y : GrammarData). (r : RuleData) → IsRule y r → IsSome (table r.name.0)) same some))
  typed_case active None is free h (t, entries) table some =
      subst (λ (y : GrammarData). IsTyped fs y table) (sym entries.grammar)
      (intern_typed t is (both_empty (entry_faults g) (input_faults g) free).0 entries.entries table
      (subst (λ (y : GrammarData). (r : RuleData) → IsRule y r → IsSome (table r.name.0)) entries.grammar some))

pub entered_typed : EnteredAreTyped
entered_typed fs g h x none active free entered table some = typed_case fs g x none active (extern_enum g) refl free h entered table some
