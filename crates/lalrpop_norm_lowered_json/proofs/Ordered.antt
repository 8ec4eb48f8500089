-- Data with the keys of each object in order is read from its text.
use Rattle.std.proofs.Common.{◌≡◌, ℕ, ◌≤◌, suc, max, List, [], Option, Some}
use Rattle.std.proofs.Common.{option_map, option_and_then, refl, sym, ap, ap₂, ◌∙◌, arith, append-nil}
use Rattle.std.specs.Prelude.{⊤}
use Rattle.json.specs.Json as json
use Rattle.json.specs.Token.{Token}
use Rattle.json.specs.Tree as tree
use Rattle.json.proofs.Printed.Trees.{value-json_tokens}
use Rattle.serde_json.specs.Data.{unsigned, negative, float, Data, null, boolean, number, string, array, object}
use Rattle.serde_json.specs.Data.{Items, no_items, item, Members, no_members, member, put, depth, items_depth, members_depth}
use Rattle.serde_json.specs.Read.{of_json, of_items, of_members, max_depth, read}
use Rattle.serde_json.specs.Written.{outline, items_outline, members_outline, compact_text}
use Rattle.serde_json.proofs.Numbers.{number_of-decimal}
use Rattle.lalrpop_norm_lowered_json.specs.Laws.{HasWords, ItemsHaveWords, MembersHaveWords}
use Rattle.lalrpop_norm_lowered_json.proofs.TextBack.{tokens_of_text}

-- what was found, with the members put into it one after the other
abbrev pub all_put : Members → Members → Members
all_put no_members found = found
all_put (member k d ms) found = all_put ms (put k d found)

-- the keys of each object are in order, each once: putting its members one after the other gives the object
abbrev mutual
  pub IsOrdered : Data → Type 0
  IsOrdered null = ⊤
  IsOrdered (boolean b) = ⊤
  IsOrdered (number n) = ⊤
  IsOrdered (string s) = ⊤
  IsOrdered (array ds) = ItemsAreOrdered ds
  IsOrdered (object ms) = (all_put ms no_members ≡ ms) × MembersAreOrdered ms

  pub ItemsAreOrdered : Items → Type 0
  ItemsAreOrdered no_items = ⊤
  ItemsAreOrdered (item d ds) = IsOrdered d × ItemsAreOrdered ds

  pub MembersAreOrdered : Members → Type 0
  MembersAreOrdered no_members = ⊤
  MembersAreOrdered (member k d ms) = IsOrdered d × MembersAreOrdered ms

-- two facts; the second may be two again
infixr 30 ◌&◌
pub ◌&◌ : {A B : Type 0} → A → B → A × B
◌&◌ a b = (a, b)

mutual
  value_means : (d : Data) → HasWords d → IsOrdered d → of_json (outline d) ≡ Some d
  value_means null h p = refl
  value_means (boolean b) h p = refl
  value_means (number (unsigned n)) h p = ap (option_map number) (number_of-decimal n h)
  value_means (number (negative z)) h p = absurd h
  value_means (number (float x)) h p = absurd h
  value_means (string s) h p = refl
  value_means (array ds) h p = ap (option_map array) (items_mean ds h p)
  value_means (object ms) h p = ap (option_map object) (members_mean ms no_members h p.1 ∙ ap (λ (ns : Members). Some ns) p.0)

  items_mean : (ds : Items) → ItemsHaveWords ds → ItemsAreOrdered ds → of_items (items_outline ds) ≡ Some ds
  items_mean no_items h p = refl
  items_mean (item d ds) h p =
      ap₂ (λ (x : Option Data) (y : Option Items). option_and_then (λ e. option_map (item e) y) x)
      (value_means d h.0 p.0) (items_mean ds h.1 p.1)

  members_mean : (ms found : Members) → MembersHaveWords ms → MembersAreOrdered ms
      → of_members (members_outline ms) found ≡ Some (all_put ms found)
  members_mean no_members found h p = refl
  members_mean (member k d ms) found h p =
      ap (λ (x : Option Data). option_and_then (λ e. of_members (members_outline ms) (put k e found)) x) (value_means d h.0 p.0)
      ∙ members_mean ms (put k d found) h.1 p.1

mutual
  depth_of_outline : (d : Data) → tree.depth (outline d) ≡ depth d
  depth_of_outline null = refl
  depth_of_outline (boolean b) = refl
  depth_of_outline (number n) = refl
  depth_of_outline (string s) = refl
  depth_of_outline (array ds) = ap (λ (n : ℕ). suc n) (depth_of_items ds)
  depth_of_outline (object ms) = ap (λ (n : ℕ). suc n) (depth_of_members ms)

  depth_of_items : (ds : Items) → tree.items_depth (items_outline ds) ≡ items_depth ds
  depth_of_items no_items = refl
  depth_of_items (item d ds) = ap₂ max (depth_of_outline d) (depth_of_items ds)

  depth_of_members : (ms : Members) → tree.members_depth (members_outline ms) ≡ members_depth ms
  depth_of_members no_members = refl
  depth_of_members (member k d ms) = ap₂ max (depth_of_outline d) (depth_of_members ms)

-- the data of what was parsed, if nothing follows it
abbrev pub whole : Option (json.Json × List Token) → Option Data
whole o = option_and_then of_json (option_and_then (λ p. json.if_last p.0 p.1) o)

pub text_read : (d : Data) → HasWords d → IsOrdered d → depth d ≤ max_depth → read (compact_text d) ≡ Some d
text_read d h p shallow =
    ap whole (ap (json.value max_depth) (tokens_of_text d h ∙ sym (append-nil _))
    ∙ value-json_tokens (outline d) max_depth [] (omega (arith, depth_of_outline d))) ∙ value_means d h p
