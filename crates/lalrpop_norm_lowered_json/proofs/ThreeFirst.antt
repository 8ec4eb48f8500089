-- Three pieces that were written before the rest, read from its end.
use Rattle.std.proofs.Common.{◌≡◌, List, ◌++◌, refl}
use Rattle.json.specs.Token.{Token}
use Rattle.lalrpop_norm_lowered_json_tables.proofs.Steps.{back}

pub three_back : (old mid new xs ys zs rest : List Token) → mid ≡ ((old ++ xs) ++ ys) ++ zs → new ≡ mid ++ rest → new ≡ old ++ (xs ++ (ys ++ (zs ++ rest)))
three_back old mid new xs ys zs rest e f = back old _ new xs _ refl (back _ _ new ys _ refl (back _ mid new zs rest e f))
