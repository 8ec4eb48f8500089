-- The seed of a hash, by texts.
use Rattle.std.specs.Prelude.{ℕ, List, flat_map}
use Rattle.std.specs.List.{fold}
use Rattle.std.specs.Hash.{HashWrites, u64, str}
use Rattle.std.specs.Hash.DefaultHasher.{initial, write, finish}
use Rattle.std.specs.declared.hash.DefaultHasher.{DefaultHasher}

abbrev pub hasher_after : DefaultHasher → HashWrites → DefaultHasher
hasher_after hasher writes = fold write hasher writes

-- the hasher that has read the texts, one after another
abbrev pub reader_of : List (List ℕ) → DefaultHasher
reader_of texts = hasher_after initial (flat_map str texts)

-- 64 bits of a hasher, and 64 more: its answer, and its answer after it has read the first
abbrev pub first_half : DefaultHasher → ℕ
first_half reader = finish reader

abbrev pub second_half : DefaultHasher → ℕ
second_half reader = finish (hasher_after reader (u64 (first_half reader)))

-- the hasher that each key is then hashed by: one that has read the seed
abbrev pub seeded_after : DefaultHasher → DefaultHasher
seeded_after reader = hasher_after (hasher_after initial (u64 (first_half reader))) (u64 (second_half reader))

abbrev pub seeded_hasher : List (List ℕ) → DefaultHasher
seeded_hasher texts = seeded_after (reader_of texts)
