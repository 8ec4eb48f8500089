-- Traversals that call at each item of a list in turn, until a call or an allocation fails.
use Rattle.std.specs.Prelude.{◌≡◌, List, [], ◌∷◌, Result, Ok, Err, ◌⊎◌}

-- `Step s t r s'`: a call at t may answer r, and takes the state s to s'
module _ {S T U E : Type 0} (Step : S → T → Result U E → S → Type 0) where
  -- from s on, each of ts in turn is answered by the one of us at its index, and s' is left
  abbrev pub Answered : S → List T → List U → S → Type 0
  Answered s [] [] s' = s' ≡ s
  Answered s (t ∷ ts) (u ∷ us) s' = (r : S) × Step s t (Ok u) r × Answered r ts us s'
  Answered s _ _ s' = ⊥

  -- from s on, some of ts in turn are answered, and then e ends the walk: it is the answer to the next one, or the error of a
  -- failed allocation
  abbrev pub Ended : (E → Type 0) → S → List T → E → S → Type 0
  Ended OfMemory s [] e s' = OfMemory e × (s' ≡ s)
  Ended OfMemory s (t ∷ ts) e s' = (OfMemory e × (s' ≡ s)) ⊎ Step s t (Err e) s'
      ⊎ ((u : U) × (r : S) × Step s t (Ok u) r × Ended OfMemory r ts e s')
