-- How the owners of one value are counted, in one thread, where the count saturates.
-- The value is lent to its owners for a lifetime, the first of a pair. While every owner is counted, each holds one part in
-- 2 ^ 64 of that lifetime's token, so the last one has the whole token and can end the loan. The second lifetime lasts while
-- every owner is counted. It ends where an owner comes to a full count:
-- from then on nobody can have the whole token, and an owner that comes gets a piece of what is left of it.
-- cell n      the count n        value      the value, with what frees its block        seen κ      what a `&κ` to the value
-- holds
use Rattle.std.specs.Prelude.{◌≡◌, ℕ, ◌-◌, ◌^◌, Bool, true, false, [], ◌∷◌}
use base.Fraction.{full_share}
use base.Fml.{Lft, Key, Share, Fml, fsep, fex, fdead, flft, flent}
use types.Na.{na_inv}
use types.RcWeak.{part, rest}
use denote.Sharing.{one, beside as both, some, held}
use denote.Hidden.{kept}

abbrev pub Loan : Type 0
Loan = ℕ × ℕ

-- the lifetime of the loan
abbrev pub lasts : Loan → Lft
lasts a = a.0 ∷ []

-- the lifetime that every owner is counted for
abbrev pub counts_all : Loan → Lft
counts_all a = a.1 ∷ []

abbrev pub full : ℕ
full = 2 ^ 64 - 1

-- not every owner is counted, and some piece of the loan's token
abbrev pub piece : Loan → Fml
piece a = fsep (fdead (counts_all a)) (fex Share (λ q. flft (lasts a) q))

-- what an owner that is counted holds of the loan's token, and one that is not
abbrev pub holds : Loan → Bool → Fml
holds a true = part 64 a.0
holds a false = piece a

abbrev pub hold : Loan → Fml
hold a = fex Bool (holds a)

pub data Stage : Type 0 where
  owned : ℕ → Bool → Stage  -- the count, and whether every owner is counted
  over : Stage  -- no owner is left

module _ (k : Key) (cell : ℕ → Fml) (value : Fml) (seen : Lft → Fml) where
  -- what lies beside the count n
  abbrev pub beside : Loan → ℕ → Bool → Fml
  beside a n true = fsep (rest 64 a.0 n) (fsep (flent (lasts a) value) (flft (counts_all a) full_share))
  beside a n false = fex (n ≡ full) (λ _. piece a)

  abbrev pub stage : Loan → Stage → Fml
  stage a (owned n all) = fsep (cell n) (beside a n all)
  stage a over = fdead (lasts a)

  abbrev pub count_rule : Loan → Fml
  count_rule a = fex Stage (stage a)

  abbrev pub owner_of : Loan → Fml
  owner_of a = fsep (hold a) (fsep (na_inv k (count_rule a)) (seen (lasts a)))

  -- what an owner has
  abbrev pub owner : Fml
  owner = fex Loan owner_of

  abbrev pub lent_of : Loan → Lft → Fml
  lent_of a = both (one (λ q. flft (lasts a) q)) (both (kept k (count_rule a)) (held (lasts a) seen))

  -- what a `&` to an owner has
  abbrev pub lent : Lft → Fml
  lent = some Loan lent_of
