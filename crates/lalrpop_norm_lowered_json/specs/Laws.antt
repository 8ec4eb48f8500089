-- What the laws of the texts ask of data.
use Rattle.std.specs.Prelude.{◌<◌, ◌^◌, ⊤}
use Rattle.serde_json.specs.Data.{Data, null, boolean, number, unsigned, negative, float, string, array, object, Items, no_items, item}
use Rattle.serde_json.specs.Data.{Members, no_members, member}

-- each number in it is a natural number below 2^64
abbrev mutual
  pub HasWords : Data → Type 0
  HasWords null = ⊤
  HasWords (boolean b) = ⊤
  HasWords (number (unsigned n)) = n < 2 ^ 64
  HasWords (number (negative z)) = ⊥
  HasWords (number (float x)) = ⊥
  HasWords (string s) = ⊤
  HasWords (array ds) = ItemsHaveWords ds
  HasWords (object ms) = MembersHaveWords ms

  pub ItemsHaveWords : Items → Type 0
  ItemsHaveWords no_items = ⊤
  ItemsHaveWords (item d ds) = HasWords d × ItemsHaveWords ds

  pub MembersHaveWords : Members → Type 0
  MembersHaveWords no_members = ⊤
  MembersHaveWords (member k d ms) = HasWords d × MembersHaveWords ms
