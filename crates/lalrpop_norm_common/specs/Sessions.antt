-- What a session says of features.
use Rattle.std.specs.Prelude.{String, map, Option, option_map, string_bytes}
use Rattle.std.specs.BTreeSet.{BTreeSet}
use Rattle.std.specs.declared.alloc.Global.{Global}
use Rattle.lalrpop_norm_model.specs.Features.{Features}

-- the features that are on, by their names
abbrev pub features_view : Option (BTreeSet (String Global)) → Features
features_view fs = option_map (λ names. map string_bytes names.keys) fs
