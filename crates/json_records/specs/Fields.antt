-- Records: objects whose keys are known.
use Rattle.std.specs.Prelude.{◌≡◌, ◌⊎◌, ⊤, ◌||◌, ℕ, List, [], ◌∷◌, Bool, true, false, ◌&&◌, Option, Some, None, MatchOption}
use Rattle.std.specs.Str.{bytes_eq}
use Rattle.serde_json.specs.Data.{Data, object, Members, no_members, member}

-- ---- words of contracts

-- the members under those of the keys that have a value
abbrev pub members_under : List (List ℕ) → List (Option Data) → Members
members_under [] ds = no_members
members_under (k ∷ ks) [] = no_members
members_under (k ∷ ks) (None ∷ ds) = members_under ks ds
members_under (k ∷ ks) (Some d ∷ ds) = member k d (members_under ks ds)

-- the members have these keys, in this order, and each value passes its test
abbrev pub pass : List (List ℕ) → List (Data → Bool) → Members → Bool
pass [] ts no_members = true
pass [] ts (member k d ms) = false
pass (n ∷ ns) ts no_members = false
pass (n ∷ ns) [] (member k d ms) = false
pass (n ∷ ns) (t ∷ ts) (member k d ms) = bytes_eq k n && (t d && pass ns ts ms)

-- an object of such members
abbrev pub is_record : List (List ℕ) → List (Data → Bool) → Data → Bool
is_record ns ts (object ms) = pass ns ts ms
is_record ns ts _ = false

-- what a field holds of the value under its name: the value, or nothing, where there is none or it does not pass
abbrev pub Holds : (Data → Bool) → Option Data → Option Data → Type 0
Holds t (Some e) f = f ≡ Some e
Holds t None None = ⊤
Holds t None (Some d) = t d ≡ false

abbrev pub HoldAll : List (Data → Bool) → List (Option Data) → List (Option Data) → Type 0
HoldAll [] [] [] = ⊤
HoldAll (t ∷ ts) (h ∷ hs) (f ∷ fs) = Holds t h f × HoldAll ts hs fs
HoldAll _ _ _ = ⊥

-- the members are those under the names, of which the fields hold these
pub record AreHeld (ns : List (List ℕ)) (ts : List (Data → Bool)) (held : List (Option Data)) (ms : Members) : Type 0 where
  pub found : List (Option Data)
  pub are : ms ≡ members_under ns found
  pub hold : HoldAll ts held found

-- by the value d under the key k the fields `held` become `new`
abbrev pub Puts : List (List ℕ) → List (Data → Bool) → List ℕ → Data → List (Option Data) → List (Option Data) → Type 0
Puts (n ∷ ns) (t ∷ ts) k d (h ∷ hs) (g ∷ gs) =
    ((k ≡ n) × (MatchOption g (t d ≡ false) (λ e. d ≡ e)) × (gs ≡ hs)) ⊎ ((g ≡ h) × Puts ns ts k d hs gs)
Puts _ _ _ _ _ _ = ⊥

-- each key is one of these
abbrev pub is_known : List ℕ → List (List ℕ) → Bool
is_known k [] = false
is_known k (n ∷ ns) = bytes_eq k n || is_known k ns

abbrev pub are_known : List (List ℕ) → Members → Bool
are_known ns no_members = true
are_known ns (member k d ms) = is_known k ns && are_known ns ms

-- the members that were read, of which the fields hold these; or one of them has another key
abbrev pub AreSoFar : List (List ℕ) → List (Data → Bool) → List (Option Data) → Bool → Members → Type 0
AreSoFar ns ts held true ms = are_known ns ms ≡ false
AreSoFar ns ts held false ms = AreHeld ns ts held ms
