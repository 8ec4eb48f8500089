-- What follows a value, by what the reader answers next.
use Rattle.std.proofs.Common.{◌≡◌, List, [], ◌∷◌, Bool, true, false, Option, Some, None, is_some, MatchOption}
use Rattle.json.specs.Token.{Token}
use Rattle.json.specs.Reads.{token_of}
use Rattle.json.specs.declared.token.Token.{Token as Found}

pub token_there : (o : Option Found) (old new : List Token) → is_some o ≡ true → MatchOption o ((old ≡ []) × (new ≡ [])) (λ t. old ≡ token_of t ∷ new) → (t : Token) × (old ≡ t ∷ new)
token_there None old new some m = absurd (cc)
token_there (Some t) old new some m = (token_of t, m)

pub none_there : (o : Option Found) (old new : List Token) → is_some o ≡ false → MatchOption o ((old ≡ []) × (new ≡ [])) (λ t. old ≡ token_of t ∷ new) → old ≡ []
none_there None old new none m = m.0
none_there (Some t) old new none m = absurd (cc)
