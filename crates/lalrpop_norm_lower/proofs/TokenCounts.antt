-- Terminals and their tokens: as they are counted, and as the grammar's active conversions or entries.
use Rattle.std.proofs.Common.{◌≡◌, ◌∙◌, ℕ, suc, ◌+◌, ◌≤◌, ◌<◌, Bool, true, false, cond, List, [], ◌∷◌, ◌++◌, length, map, Option, Some, None, refl, sym, ap, subst, option_map, inl, inr, ◌⊎◌, arith}
use Rattle.std.specs.Prelude.{Contains, flat_map, filter, filter_map, option_to_list}
use Rattle.std.specs.List.{cons_option, enumerate_from, AllByRecursion}
use Rattle.std.specs.List as lists
use Rattle.std.specs.Map.{keys_of}
use Rattle.std.proofs.lemmas.List.{append-nil, map-append}
use Rattle.lalrpop_norm_tree.specs.declared.items.MatchEntry.{MatchEntry}
use Rattle.lalrpop_norm_tree.specs.declared.items.MatchMapping.{MatchMapping}
use Rattle.lalrpop_norm_tree.specs.declared.items.MatchMapping.TheVariants as mapping
use Rattle.lalrpop_norm_tree_names.specs.declared.names.Span.{Span}
use Rattle.lalrpop_norm_tree_names.specs.declared.names.TerminalString.{TerminalString}
use Rattle.lalrpop_norm_tree_names.specs.declared.names.TerminalString.TheVariants.{Error}
use Rattle.lalrpop_norm_tree.specs.Accessors.{or_else, first_of, enum_token_of, intern_token_of}
use Rattle.lalrpop_norm_tree.specs.Items.{ItemData, match_item, extern_item, intern_item, rule_item, use_item, ConversionData, EnumTokenData, InternTokenData, GrammarData}
use Rattle.lalrpop_norm_tree.specs.LoweredTypes.{repr_of}
use Rattle.lalrpop_norm_theory.specs.Rounds.{In, IsDistinct}
use Rattle.lalrpop_norm_theory.proofs.RoundsLemmas.{in_left, in_right, in_cases}
use Rattle.lalrpop_norm_model.specs.Enabled.{enabled_enum}
use Rattle.lalrpop_norm_model.specs.Entries.{user_names}
use Rattle.lalrpop_norm_model.specs.Expanded.{enum_in, intern_in, enums, interns, terminals_converted, terminals_with, terminals_of, IsExpanded}
use Rattle.lalrpop_norm_model.specs.Features.{Features, is_active}
use Rattle.lalrpop_norm_model.specs.TerminalTypes.{entries_of}
use Rattle.lalrpop_norm_repr.specs.Tables.{same_terminal}
use Rattle.lalrpop_norm_lower.specs.Active.{active_item, active_grammar}
use Rattle.lalrpop_norm_lower.specs.Carried.{TokenRow, internal_pattern, terminal_of_mapping, item_tokens, tokens_of}
use Rattle.lalrpop_norm_model.specs.Scopes.{conversions_in}
use Rattle.lalrpop_norm_lower.specs.Conversions.{mapped_pattern}
use Rattle.lalrpop_norm_lower.specs.Made.{conversion_rows, row_named, row_of_entry, entry_rows_from, token_rows, made_tokens}
use Rattle.lalrpop_norm_lower.proofs.KeyLaws.{terminals_decide}

-- ---- rows

abbrev active : Features → List ConversionData → List ConversionData
active fs cs = filter (λ (c : ConversionData). is_active fs c.attributes) cs

abbrev row_read : ConversionData → TokenRow
row_read c = (c.from, mapped_pattern repr_of c.to)

conversions_read : (fs : Features) (cs : List ConversionData) → conversion_rows fs cs ≡ map row_read (active fs cs)
conversions_read fs [] = refl
conversions_read fs (c ∷ cs) = by (is_active fs c.attributes) (conversions_read fs cs)
  where
    by : (b : Bool) → conversion_rows fs cs ≡ map row_read (active fs cs)
        → cond b ((c.from, mapped_pattern repr_of c.to) ∷ conversion_rows fs cs) (conversion_rows fs cs) ≡ map row_read (cond b (c ∷ active fs cs) (active fs cs))
    by true deeper = ap (λ (rows : List TokenRow). row_read c ∷ rows) deeper
    by false deeper = deeper

entries_listed : (span : Span) (k : ℕ) (es : List MatchEntry) → entry_rows_from span k es ≡ filter_map (λ e. option_map (λ t. (t, internal_pattern span e.0)) (terminal_of_mapping e.1.user_name)) (enumerate_from k es)
entries_listed span k [] = refl
entries_listed span k (e ∷ es) = by (terminal_of_mapping e.user_name) (entries_listed span (k + 1) es)
  where
    rest : List TokenRow
    rest = filter_map (λ x. option_map (λ t. (t, internal_pattern span x.0)) (terminal_of_mapping x.1.user_name)) (enumerate_from (k + 1) es)

    by : (o : Option TerminalString) → entry_rows_from span (k + 1) es ≡ filter_map (λ x. option_map (λ t. (t, internal_pattern span x.0)) (terminal_of_mapping x.1.user_name)) (enumerate_from (k + 1) es)
        → row_named span k o ++ entry_rows_from span (k + 1) es ≡ cons_option (option_map (λ t. (t, internal_pattern span k)) o) (filter_map (λ x. option_map (λ t. (t, internal_pattern span x.0)) (terminal_of_mapping x.1.user_name)) (enumerate_from (k + 1) es))
    by None deeper = deeper
    by (Some t) deeper = ap (λ (rows : List TokenRow). (t, internal_pattern span k) ∷ rows) deeper

enum_read : (fs : Features) (o : Option EnumTokenData) → conversion_rows fs (conversions_in o) ≡ map row_read (conversions_in (option_map (enabled_enum fs) o))
enum_read fs None = refl
enum_read fs (Some e) = conversions_read fs e.conversions

item_read : (fs : Features) (span : Span) (i : ItemData) → token_rows fs span i ≡ item_tokens span (active_item fs i)
item_read fs span (extern_item t) = enum_read fs t.enum_token
item_read fs span (intern_item t) = entries_listed span 0 t.match_entries
item_read fs span (match_item m) = refl
item_read fs span (rule_item r) = refl
item_read fs span (use_item u) = refl

items_read : (fs : Features) (span : Span) (items : List ItemData) → flat_map (token_rows fs span) items ≡ flat_map (item_tokens span) (map (active_item fs) items)
items_read fs span [] = refl
items_read fs span (i ∷ items) =
    ap (λ rows. rows ++ flat_map (token_rows fs span) items) (item_read fs span i)
    ∙ ap (λ rows. item_tokens span (active_item fs i) ++ rows) (items_read fs span items)

-- the tokens that are counted are those of the active conversions and the entries
pub tokens_read : (fs : Features) (g : GrammarData) → made_tokens fs g ≡ tokens_of (active_grammar fs g)
tokens_read fs g = items_read fs g.span g.items

-- ---- terminals

abbrev enum_keys : Features → EnumTokenData → List TerminalString
enum_keys fs e = terminals_converted (active fs e.conversions)

abbrev intern_keys : InternTokenData → List TerminalString
intern_keys t = user_names t.match_entries

conversion_keys : (fs : Features) (cs : List ConversionData) → keys_of (conversion_rows fs cs) ≡ terminals_converted (active fs cs)
conversion_keys fs [] = refl
conversion_keys fs (c ∷ cs) = by (is_active fs c.attributes) (conversion_keys fs cs)
  where
    by : (b : Bool) → keys_of (conversion_rows fs cs) ≡ terminals_converted (active fs cs)
        → keys_of (cond b ((c.from, mapped_pattern repr_of c.to) ∷ conversion_rows fs cs) (conversion_rows fs cs)) ≡ terminals_converted (cond b (c ∷ active fs cs) (active fs cs))
    by true deeper = ap (λ (ts : List TerminalString). c.from ∷ ts) deeper
    by false deeper = deeper

entry_keys : (span : Span) (k : ℕ) (es : List MatchEntry) → keys_of (entry_rows_from span k es) ≡ user_names es
entry_keys span k [] = refl
entry_keys span k (e ∷ es) =
    map-append (λ (r : TokenRow). r.0) (row_of_entry span k e) (entry_rows_from span (k + 1) es)
    ∙ ap (λ (ts : List TerminalString). keys_of (row_of_entry span k e) ++ ts) (entry_keys span (k + 1) es)
    ∙ ap (λ (ts : List TerminalString). ts ++ user_names es) (by e.user_name)
  where
    by : (m : MatchMapping) → keys_of (row_named span k (terminal_of_mapping m)) ≡ Rattle.lalrpop_norm_model.specs.Entries.terminal_named m
    by (mapping.Terminal t) = refl
    by mapping.Skip = refl

module _ (fs : Features) (span : Span) where
  abbrev keys : List ItemData → List TerminalString
  keys items = keys_of (flat_map (token_rows fs span) items)

  more : (i : ItemData) (items : List ItemData) → keys (i ∷ items) ≡ keys_of (token_rows fs span i) ++ keys items
  more i items = map-append (λ (r : TokenRow). r.0) (token_rows fs span i) (flat_map (token_rows fs span) items)

  nil_left : {A : Type 0} (xs ys : List A) → xs ++ ys ≡ [] → xs ≡ []
  nil_left [] ys h = refl
  nil_left (x ∷ xs) ys h = cc

  nil_right : {A : Type 0} (xs ys : List A) → xs ++ ys ≡ [] → ys ≡ []
  nil_right [] ys h = h
  nil_right (x ∷ xs) ys h = cc

  flat_append : {A B : Type 0} (f : A → List B) (xs ys : List A) → flat_map f (xs ++ ys) ≡ flat_map f xs ++ flat_map f ys
  flat_append f [] ys = refl
  flat_append f (x ∷ xs) ys = ap (λ zs. f x ++ zs) (flat_append f xs ys) ∙ sym (Rattle.std.proofs.Common.append_assoc (f x) (flat_map f xs) (flat_map f ys))

  option_keys : (o : Option EnumTokenData) → keys_of (conversion_rows fs (conversions_in o)) ≡ flat_map (enum_keys fs) (option_to_list o)
  option_keys None = refl
  option_keys (Some e) = conversion_keys fs e.conversions ∙ sym (append-nil (enum_keys fs e))

  -- without a tokenizer, those of the enums
  enum_terminals : (items : List ItemData) → flat_map intern_in items ≡ [] → keys items ≡ flat_map (enum_keys fs) (flat_map enum_in items)
  enum_terminals [] h = refl
  enum_terminals (extern_item t ∷ items) h =
      more (extern_item t) items
      ∙ ap (λ (ts : List TerminalString). ts ++ keys items) (option_keys t.enum_token)
      ∙ ap (λ (ts : List TerminalString). flat_map (enum_keys fs) (option_to_list t.enum_token) ++ ts) (enum_terminals items h)
      ∙ sym (flat_append (enum_keys fs) (option_to_list t.enum_token) (flat_map enum_in items))
  enum_terminals (intern_item t ∷ items) h = cc
  enum_terminals (match_item m ∷ items) h = enum_terminals items h
  enum_terminals (rule_item r ∷ items) h = enum_terminals items h
  enum_terminals (use_item u ∷ items) h = enum_terminals items h

  -- without an enum, those of the tokenizers
  intern_terminals : (items : List ItemData) → flat_map enum_in items ≡ [] → keys items ≡ flat_map intern_keys (flat_map intern_in items)
  intern_terminals [] h = refl
  intern_terminals (extern_item t ∷ items) h =
      more (extern_item t) items
      ∙ ap (λ (ts : List TerminalString). ts ++ keys items) (option_keys t.enum_token ∙ ap (flat_map (enum_keys fs)) (nil_left (option_to_list t.enum_token) (flat_map enum_in items) h))
      ∙ intern_terminals items (nil_right (option_to_list t.enum_token) (flat_map enum_in items) h)
  intern_terminals (intern_item t ∷ items) h =
      more (intern_item t) items
      ∙ ap (λ (ts : List TerminalString). ts ++ keys items) (entry_keys span 0 t.match_entries)
      ∙ ap (λ (ts : List TerminalString). intern_keys t ++ ts) (intern_terminals items h)
  intern_terminals (match_item m ∷ items) h = intern_terminals items h
  intern_terminals (rule_item r ∷ items) h = intern_terminals items h
  intern_terminals (use_item u ∷ items) h = intern_terminals items h

abbrev head_of : {A : Type 0} → List A → Option A
head_of [] = None
head_of (x ∷ xs) = Some x

first_enum : (items : List ItemData) → first_of enum_token_of items ≡ head_of (flat_map enum_in items)
first_enum [] = refl
first_enum (extern_item t ∷ items) = by t.enum_token (first_enum items)
  where
    by : (o : Option EnumTokenData) → first_of enum_token_of items ≡ head_of (flat_map enum_in items) → or_else o (first_of enum_token_of items) ≡ head_of (option_to_list o ++ flat_map enum_in items)
    by None deeper = deeper
    by (Some e) deeper = refl
first_enum (intern_item t ∷ items) = first_enum items
first_enum (match_item m ∷ items) = first_enum items
first_enum (rule_item r ∷ items) = first_enum items
first_enum (use_item u ∷ items) = first_enum items

first_intern : (items : List ItemData) → first_of intern_token_of items ≡ head_of (flat_map intern_in items)
first_intern [] = refl
first_intern (extern_item t ∷ items) = first_intern items
first_intern (intern_item t ∷ items) = refl
first_intern (match_item m ∷ items) = first_intern items
first_intern (rule_item r ∷ items) = first_intern items
first_intern (use_item u ∷ items) = first_intern items

module _ (fs : Features) (g : GrammarData) (ok : IsExpanded g) where
  no_enums : enums g ≡ [] → keys_of (made_tokens fs g) ≡ terminals_of fs g
  no_enums none =
      intern_terminals fs g.span g.items none
      ∙ by (interns g) ok.one_intern
      ∙ ap (λ o. user_names (entries_of o)) (sym (first_intern g.items))
      ∙ ap (λ o. terminals_with o fs g) (sym (first_enum g.items ∙ ap head_of none))
    where
      by : (ts : List InternTokenData) → length ts ≤ 1 → flat_map intern_keys ts ≡ user_names (entries_of (head_of ts))
      by [] h = refl
      by (t ∷ []) h = append-nil (intern_keys t)
      by (t ∷ u ∷ ts) h = absurd (omega arith)

  one_enum : (es : List EnumTokenData) → enums g ≡ es → length es ≤ 1 → keys_of (made_tokens fs g) ≡ terminals_of fs g
  one_enum [] is h = no_enums is
  one_enum (e ∷ []) is h =
      let some : 0 < length (enums g) = subst (λ (es : List EnumTokenData). 0 < length es) (sym is) (omega arith) in
      enum_terminals fs g.span g.items (ok.enum_without_intern some)
      ∙ ap (flat_map (enum_keys fs)) is ∙ append-nil (enum_keys fs e)
      ∙ ap (λ o. terminals_with o fs g) (sym (first_enum g.items ∙ ap head_of is))
  one_enum (e ∷ f ∷ es) is h = absurd (omega arith)

  -- the terminals with tokens are those of the grammar
  pub terminals_same : keys_of (made_tokens fs g) ≡ terminals_of fs g
  terminals_same = one_enum (enums g) refl ok.one_enum

  -- ---- the error terminal

  in_active : (t : TerminalString) (cs : List ConversionData) → In t (terminals_converted (active fs cs)) → In t (terminals_converted cs)
  in_active t [] i = i
  in_active t (c ∷ cs) i = by (is_active fs c.attributes) i (in_active t cs)
    where
      by : (b : Bool) → In t (terminals_converted (cond b (c ∷ active fs cs) (active fs cs))) → (In t (terminals_converted (active fs cs)) → In t (terminals_converted cs)) → In t (c.from ∷ terminals_converted cs)
      by true (inl e) deeper = inl e
      by true (inr j) deeper = inr (deeper j)
      by false j deeper = inr (deeper j)

  in_enums : (t : TerminalString) (es : List EnumTokenData) → In t (flat_map (enum_keys fs) es) → In t (flat_map (λ (e : EnumTokenData). terminals_converted e.conversions) es)
  in_enums t [] i = i
  in_enums t (e ∷ es) i = by (in_cases t (enum_keys fs e) (flat_map (enum_keys fs) es) i) (in_enums t es)
    where
      by : In t (enum_keys fs e) ⊎ In t (flat_map (enum_keys fs) es) → (In t (flat_map (enum_keys fs) es) → In t (flat_map (λ (f : EnumTokenData). terminals_converted f.conversions) es))
          → In t (terminals_converted e.conversions ++ flat_map (λ (f : EnumTokenData). terminals_converted f.conversions) es)
      by (inl j) deeper = in_left t (terminals_converted e.conversions) (flat_map (λ (f : EnumTokenData). terminals_converted f.conversions) es) (in_active t e.conversions j)
      by (inr j) deeper = in_right t (terminals_converted e.conversions) (flat_map (λ (f : EnumTokenData). terminals_converted f.conversions) es) (deeper j)

  no_error : (es : List EnumTokenData) → enums g ≡ es → In Error (keys_of (made_tokens fs g)) → ⊥
  no_error [] is i =
      ok.no_error_mapped (in_right Error _ (flat_map intern_keys (interns g)) (subst (In Error) (intern_terminals fs g.span g.items is) i))
  no_error (e ∷ es) is i =
      let some : 0 < length (enums g) = subst (λ (xs : List EnumTokenData). 0 < length xs) (sym is) (omega arith) in
      ok.no_error_converted (in_enums Error (enums g) (subst (In Error) (enum_terminals fs g.span g.items (ok.enum_without_intern some)) i))

  pub error_is_none : In Error (keys_of (made_tokens fs g)) → ⊥
  error_is_none = no_error (enums g) refl

-- ---- distinct terminals

with_last : {A : Type 0} (xs : List A) (y : A) → IsDistinct xs → (In y xs → ⊥) → IsDistinct (xs ++ y ∷ [])
with_last [] y d h = ((λ i. i), tt)
with_last (x ∷ xs) y d h = (
  (λ i. by (in_cases x xs (y ∷ []) i)),
  with_last xs y d.1 (λ i. h (inr i)),
)
  where
    by : In x xs ⊎ In x (y ∷ []) → ⊥
    by (inl i) = d.0 i
    by (inr (inl e)) = h (inl (sym e))
    by (inr (inr i)) = i

apart_from : (x : TerminalString) (xs : List TerminalString) → (In x xs → ⊥) → AllByRecursion (λ y. same_terminal x y ≡ false) xs
apart_from x [] h = tt
apart_from x (y ∷ ys) h = (by (same_terminal x y) refl, apart_from x ys (λ i. h (inr i)))
  where
    by : (b : Bool) → same_terminal x y ≡ b → same_terminal x y ≡ false
    by true is = absurd (h (inl ((terminals_decide x y).0 is)))
    by false is = is

pub tested : (xs : List TerminalString) → IsDistinct xs → lists.IsDistinct same_terminal xs
unfolding lists.IsDistinct
tested [] d = tt
tested (x ∷ xs) d = (apart_from x xs d.0, tested xs d.1)

-- with the error terminal behind, if it is there
pub all_distinct : (xs : List TerminalString) (b : Bool) → IsDistinct xs → (In Error xs → ⊥) → lists.IsDistinct same_terminal (xs ++ cond b (Error ∷ []) [])
all_distinct xs true d h = tested (xs ++ Error ∷ []) (with_last xs Error d h)
all_distinct xs false d h = subst (lists.IsDistinct same_terminal) (sym (append-nil xs)) (tested xs d)

pub in_contains : {A : Type 0} (x : A) (xs : List A) → In x xs → Contains xs x
in_contains x [] i = absurd i
in_contains x (y ∷ ys) (inl e) = (0, omega arith, sym e)
in_contains x (y ∷ ys) (inr i) = let c = in_contains x ys i in let lt : c.0 < length ys = c.1 in (suc c.0, omega arith, c.2)
