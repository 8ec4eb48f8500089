-- Nothing names the error terminal, seen by the lists of terminals that conversions and mappings name.
use Rattle.std.proofs.Common.{◌≡◌, ◌∙◌, Bool, true, false, ◌&&◌, List, [], Option, Some, None, refl, sym, subst, ap, ap₂}
use Rattle.std.specs.Prelude.{option_to_list}
use Rattle.std.specs.List.{flat_map, list_all}
use Rattle.std.proofs.Math.Bool.{and-true}
use Rattle.std.proofs.lemmas.List.Folds.{list_all-append, list_all-map}
use Rattle.lalrpop_norm_tree_names.specs.declared.names.TerminalString.{TerminalString}
use Rattle.lalrpop_norm_tree_names.specs.declared.names.TerminalString.TheVariants.{Literal, Bare, Error}
use Rattle.lalrpop_norm_tree.specs.declared.items.MatchEntry.{MatchEntry}
use Rattle.lalrpop_norm_tree.specs.declared.items.MatchItem.{MatchItem}
use Rattle.lalrpop_norm_tree.specs.declared.items.MatchItem.TheVariants.{CatchAll, Unmapped, Mapped}
use Rattle.lalrpop_norm_tree.specs.declared.items.MatchMapping.{MatchMapping}
use Rattle.lalrpop_norm_tree.specs.declared.items.MatchMapping.TheVariants.{Terminal, Skip}
use Rattle.lalrpop_norm_tree.specs.Items.{ConversionData, EnumTokenData, MatchTokenData, InternTokenData, ItemData, GrammarData, match_item, extern_item, intern_item, rule_item, use_item}
use Rattle.lalrpop_norm_theory.specs.Rounds.{In}
use Rattle.lalrpop_norm_model.specs.Entries.{group_entries, terminal_named, user_names}
use Rattle.lalrpop_norm_model.specs.Expanded.{is_plain_terminal, enum_in, match_in, intern_in, terminals_converted, converted, mapped_terminals, match_blocks, interns}
use Rattle.lalrpop_norm_model.specs.TokenFaults.{names_mapped_by}
use Rattle.lalrpop_norm_model.proofs.EnteredTokens.{groups_names}
use Rattle.lalrpop_norm_is_expanded.specs.Tokens.{enum_spares_error, mapping_spares_error, match_item_spares_error, group_spares_error, entry_spares_error, item_spares_error}
use Rattle.lalrpop_norm_theory.proofs.ListTests.{all_at, all_if, all_both, all_flat, all_same}

-- ---- what each item names

abbrev in_enum : EnumTokenData → List TerminalString
in_enum e = terminals_converted e.conversions

abbrev in_block : MatchTokenData → List TerminalString
in_block m = user_names (group_entries m.contents)

abbrev in_intern : InternTokenData → List TerminalString
in_intern t = user_names t.match_entries

enum_listed : (o : Option EnumTokenData) → enum_spares_error o ≡ list_all (λ e. list_all is_plain_terminal (in_enum e)) (option_to_list o)
enum_listed None = refl
enum_listed (Some e) =
    sym (list_all-map is_plain_terminal (λ (c : ConversionData). c.from) e.conversions) ∙ sym (and-true (list_all is_plain_terminal (in_enum e)))

mapping_listed : (m : MatchMapping) → mapping_spares_error m ≡ list_all is_plain_terminal (terminal_named m)
mapping_listed (Terminal t) = sym (and-true (is_plain_terminal t))
mapping_listed Skip = refl

entries_listed : (es : List MatchEntry) → list_all entry_spares_error es ≡ list_all is_plain_terminal (user_names es)
entries_listed es =
    all_same entry_spares_error (λ (e : MatchEntry). list_all is_plain_terminal (terminal_named e.user_name)) (λ (e : MatchEntry). mapping_listed e.user_name) es
    ∙ sym (all_flat is_plain_terminal (λ (e : MatchEntry). terminal_named e.user_name) es)

match_item_listed : (i : MatchItem) → match_item_spares_error i ≡ list_all is_plain_terminal (names_mapped_by i)
match_item_listed (Mapped l m s) = mapping_listed m ∙ (sym (and-true (list_all is_plain_terminal (terminal_named m))) ∙ sym (list_all-append is_plain_terminal (terminal_named m) []))
match_item_listed (Unmapped l s) = refl
match_item_listed (CatchAll s) = refl

flat_twice : (groups : List (List MatchItem)) →
    list_all (λ items. list_all is_plain_terminal (flat_map names_mapped_by items)) groups ≡ list_all is_plain_terminal (flat_map names_mapped_by (flat_map (λ items. items) groups))
flat_twice groups =
    all_same (λ items. list_all is_plain_terminal (flat_map names_mapped_by items)) (λ items. list_all (λ i. list_all is_plain_terminal (names_mapped_by i)) items)
    (all_flat is_plain_terminal names_mapped_by) groups
    ∙ (sym (all_flat (λ i. list_all is_plain_terminal (names_mapped_by i)) (λ items. items) groups) ∙ sym (all_flat is_plain_terminal names_mapped_by (flat_map (λ items. items) groups)))

groups_listed : (groups : List (List MatchItem)) → list_all group_spares_error groups ≡ list_all is_plain_terminal (user_names (group_entries groups))
groups_listed groups =
    all_same group_spares_error (λ items. list_all is_plain_terminal (flat_map names_mapped_by items))
    (λ items. all_same match_item_spares_error (λ i. list_all is_plain_terminal (names_mapped_by i)) match_item_listed items ∙ sym (all_flat is_plain_terminal names_mapped_by items)) groups
    ∙ (flat_twice groups ∙ ap (list_all is_plain_terminal) (sym (groups_names groups)))

-- ---- the whole

abbrev enums_spare : ItemData → Bool
enums_spare i = list_all (λ e. list_all is_plain_terminal (in_enum e)) (enum_in i)

abbrev blocks_spare : ItemData → Bool
blocks_spare i = list_all (λ m. list_all is_plain_terminal (in_block m)) (match_in i)

abbrev interns_spare : ItemData → Bool
interns_spare i = list_all (λ t. list_all is_plain_terminal (in_intern t)) (intern_in i)

item_listed : (i : ItemData) → item_spares_error i ≡ (enums_spare i && (blocks_spare i && interns_spare i))
item_listed (extern_item t) = enum_listed t.enum_token ∙ sym (and-true (enums_spare (extern_item t)))
item_listed (match_item m) =
    groups_listed m.contents ∙ (sym (and-true (list_all is_plain_terminal (in_block m))) ∙ sym (and-true (blocks_spare (match_item m))))
item_listed (intern_item t) = entries_listed t.match_entries ∙ sym (and-true (list_all is_plain_terminal (in_intern t)))
item_listed (rule_item r) = refl
item_listed (use_item s) = refl

-- a test of what each item has, of all that the items have
each_had : {B : Type 0} (p : TerminalString → Bool) (names : B → List TerminalString) (had : ItemData → List B) (items : List ItemData) →
    list_all (λ i. list_all (λ b. list_all p (names b)) (had i)) items ≡ list_all p (flat_map names (flat_map had items))
each_had p names had items =
    sym (all_flat (λ b. list_all p (names b)) had items) ∙ sym (all_flat p names (flat_map had items))

pub spared_listed : (g : GrammarData) → list_all item_spares_error g.items ≡ (list_all is_plain_terminal (converted g) && list_all is_plain_terminal (mapped_terminals g))
spared_listed g =
    all_same item_spares_error (λ i. enums_spare i && (blocks_spare i && interns_spare i)) item_listed g.items
    ∙ (all_both enums_spare (λ i. blocks_spare i && interns_spare i) g.items
    ∙ ap₂ (λ a b. a && b) (each_had is_plain_terminal in_enum enum_in g.items)
    (all_both blocks_spare interns_spare g.items
    ∙ (ap₂ (λ a b. a && b) (each_had is_plain_terminal in_block match_in g.items) (each_had is_plain_terminal in_intern intern_in g.items)
    ∙ sym (list_all-append is_plain_terminal (flat_map in_block (match_blocks g)) (flat_map in_intern (interns g))))))

-- a list of terminals other than the error terminal is one without it
pub plain_lacks : (ts : List TerminalString) → list_all is_plain_terminal ts ≡ true → In Error ts → ⊥
plain_lacks ts h i = let e : false ≡ true = all_at is_plain_terminal ts h Error i in cc

plain_if : (t : TerminalString) → (Error ≡ t → ⊥) → is_plain_terminal t ≡ true
plain_if (Literal l) h = refl
plain_if (Bare a) h = refl
plain_if Error h = absurd (h refl)

pub lacks_plain : (ts : List TerminalString) → (In Error ts → ⊥) → list_all is_plain_terminal ts ≡ true
lacks_plain ts h = all_if is_plain_terminal ts (λ t i. plain_if t (λ e. h (subst (λ (u : TerminalString). In u ts) (sym e) i)))
