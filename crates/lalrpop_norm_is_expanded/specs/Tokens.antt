-- Where tokens come from, and that the error terminal is named there by nothing, as tests of the items of a grammar.
use Rattle.std.specs.Prelude.{◌≡◌, ◌≤◌, ◌<◌, Bool, true, List, [], Option, Some, None, length, flat_map}
use Rattle.std.specs.List.{list_all}
use Rattle.lalrpop_norm_tree.specs.declared.items.MatchEntry.{MatchEntry}
use Rattle.lalrpop_norm_tree.specs.declared.items.MatchItem.{MatchItem}
use Rattle.lalrpop_norm_tree.specs.declared.items.MatchItem.TheVariants.{CatchAll, Unmapped, Mapped}
use Rattle.lalrpop_norm_tree.specs.declared.items.MatchMapping.{MatchMapping}
use Rattle.lalrpop_norm_tree.specs.declared.items.MatchMapping.TheVariants.{Terminal, Skip}
use Rattle.lalrpop_norm_tree.specs.Items.{ConversionData, EnumTokenData, ItemData, extern_item, match_item, intern_item}
use Rattle.lalrpop_norm_tree.specs.Items.{rule_item, use_item}
use Rattle.lalrpop_norm_model.specs.Expanded.{is_plain_terminal, enum_in, match_in, intern_in}

-- there is at most one extern enum, match block and tokenizer, and an enum occurs with none of the others
pub record AreSourcesApart (items : List ItemData) : Type 0 where
  pub one_enum : length (flat_map enum_in items) ≤ 1
  pub one_match : length (flat_map match_in items) ≤ 1
  pub one_intern : length (flat_map intern_in items) ≤ 1
  pub enum_without_match : 0 < length (flat_map enum_in items) → flat_map match_in items ≡ []
  pub enum_without_intern : 0 < length (flat_map enum_in items) → flat_map intern_in items ≡ []

-- ---- what spares the error terminal: it names other terminals only

abbrev pub conversion_spares_error : ConversionData → Bool
conversion_spares_error c = is_plain_terminal c.from

abbrev pub enum_spares_error : Option EnumTokenData → Bool
enum_spares_error None = true
enum_spares_error (Some e) = list_all conversion_spares_error e.conversions

abbrev pub mapping_spares_error : MatchMapping → Bool
mapping_spares_error (Terminal t) = is_plain_terminal t
mapping_spares_error Skip = true

abbrev pub match_item_spares_error : MatchItem → Bool
match_item_spares_error (Mapped l m s) = mapping_spares_error m
match_item_spares_error (Unmapped l s) = true
match_item_spares_error (CatchAll s) = true

abbrev pub group_spares_error : List MatchItem → Bool
group_spares_error items = list_all match_item_spares_error items

abbrev pub entry_spares_error : MatchEntry → Bool
entry_spares_error e = mapping_spares_error e.user_name

abbrev pub item_spares_error : ItemData → Bool
item_spares_error (extern_item t) = enum_spares_error t.enum_token
item_spares_error (match_item m) = list_all group_spares_error m.contents
item_spares_error (intern_item t) = list_all entry_spares_error t.match_entries
item_spares_error (rule_item r) = true
item_spares_error (use_item s) = true
