-- What is said of tokens: JSON first, then the data that it means.
use Rattle.std.proofs.Common.{◌≡◌, ◌⊎◌, inl, inr, ℕ, zero, suc, arith, ◌-◌, ◌<◌, ◌≤◌, List, [], ◌∷◌, length, Option, Some, None, option_map, option_and_then, refl, sym, ap, ◌∙◌}
use Rattle.std.specs.Option.{option_map_or}
use Rattle.json.specs.Token.{Token}
use Rattle.json.specs.Json as json
use Rattle.json.specs.Json.{Parse, parse_map, after_end_array, read_key, items, members}
use Rattle.json.proofs.Grammar.{items_end, items_more, items_fail, members_end, members_no_key, members_more, members_fail}
use Rattle.serde_json.specs.Data.{Data, array, object, Items, no_items, item, Members, no_members, put}
use Rattle.serde_json.specs.Read.{of_json, of_items, of_members, converted}

module _ {A B : Type 0} (f : A → Option B) where
  said_at : (a : A) (s r : List Token) (x : Option B) (b : B) → f a ≡ x → option_map {U = B × List Token} (λ y. (y, s)) x ≡ Some (b, r) → (◌≡◌ {A = Option (A × List Token)} (Some (a, s)) (Some (a, r))) × (f a ≡ Some b)
  said_at a s r None b g e = absurd (cc)
  said_at a s r (Some y) b g e = (
    ap (λ t. Some (a, t)) (ap (λ o. option_map_or (λ q. q.1) o s) e),
    g ∙ ap Some (ap (λ o. option_map_or (λ q. q.0) o y) e),
  )

  -- what was said was said of something
  pub said : (o : Option (A × List Token)) (b : B) (r : List Token) → converted f o ≡ Some (b, r) → (a : A) × (o ≡ Some (a, r)) × (f a ≡ Some b)
  said None b r e = absurd (cc)
  said (Some (a, s)) b r e = let t = said_at a s r (f a) b refl e in (a, t.0, t.1)

  unsaid_at : (a : A) (s : List Token) (x : Option B) → f a ≡ x → option_map {U = B × List Token} (λ y. (y, s)) x ≡ None → f a ≡ None
  unsaid_at a s None g e = g
  unsaid_at a s (Some y) g e = absurd (cc)

  -- where nothing was said, there is nothing, or nothing of which it could be
  pub unsaid : (o : Option (A × List Token)) → converted f o ≡ None → (o ≡ None) ⊎ ((a : A) × (s : List Token) × (o ≡ Some (a, s)) × (f a ≡ None))
  unsaid None e = inl refl
  unsaid (Some (a, s)) e = inr (a, s, refl, unsaid_at a s (f a) refl e)

-- what is done to the data is done behind the tokens or before them
swap : {A B : Type 0} (g : A → B) (r : List Token) (x : Option A) → option_map (λ b. (b, r)) (option_map g x) ≡ parse_map g (option_map (λ a. (a, r)) x)
swap g r None = refl
swap g r (Some a) = refl

pub of_array : (o : Option (json.Items × List Token)) → converted of_json (parse_map json.array o) ≡ parse_map array (converted of_items o)
of_array None = refl
of_array (Some (js, r)) = swap array r (of_items js)

pub of_object : (o : Option (json.Members × List Token)) → converted of_json (parse_map json.object o) ≡ parse_map object (converted (λ ms. of_members ms no_members) o)
of_object None = refl
of_object (Some (ms, r)) = swap object r (of_members ms no_members)

-- ---- one item, one member

module _ (j : json.Json) (d : Data) (means : of_json j ≡ Some d) where
  with_item : (o : Option (json.Items × List Token)) → converted of_items (parse_map (json.item j) o) ≡ parse_map (item d) (converted of_items o)
  with_item None = refl
  with_item (Some (js, r)) = rw means (swap (item d) r (of_items js))

  with_member : (k : List ℕ) (old : Members) (o : Option (json.Members × List Token)) → converted (λ ms. of_members ms old) (parse_map (json.member k j) o) ≡ converted (λ ms. of_members ms (put k d old)) o
  with_member k old None = refl
  with_member k old (Some (ms, r)) = rw means refl

module _ (j : json.Json) (means : of_json j ≡ None) where
  lost_item : (o : Option (json.Items × List Token)) → converted of_items (parse_map (json.item j) o) ≡ None
  lost_item None = refl
  lost_item (Some (js, r)) = rw means refl

  lost_member : (k : List ℕ) (old : Members) (o : Option (json.Members × List Token)) → converted (λ ms. of_members ms old) (parse_map (json.member k j) o) ≡ None
  lost_member k old None = refl
  lost_member k old (Some (ms, r)) = rw means refl

module _ (p : Parse json.Json) (n : ℕ) (ts : List Token) where
  pub item_read : (r : List Token) (d : Data) → 0 < n → after_end_array ts ≡ None → converted of_json (p ts) ≡ Some (d, r) → converted of_items (items p n ts) ≡ parse_map (item d) (converted of_items (items p (n - 1) r))
  item_read r d some going e =
      let j = said of_json (p ts) d r e in
      ap (converted of_items) (items_more p n ts r j.0 some going j.1) ∙ with_item j.0 d j.2 _

  pub item_refused : 0 < n → after_end_array ts ≡ None → converted of_json (p ts) ≡ None → converted of_items (items p n ts) ≡ None
  item_refused some going e = by_case (unsaid of_json (p ts) e)
    where
      by_case : (p ts ≡ None) ⊎ ((j : json.Json) × (s : List Token) × (p ts ≡ Some (j, s)) × (of_json j ≡ None)) → converted of_items (items p n ts) ≡ None
      by_case (inl none) = ap (converted of_items) (items_fail p n ts going none)
      by_case (inr (j, s, is, means)) = ap (converted of_items) (items_more p n ts s j some going is) ∙ lost_item j means _

  pub items_over : (r : List Token) → length ts ≤ n → after_end_array ts ≡ Some r → converted of_items (items p n ts) ≡ Some (no_items, r)
  items_over r enough e = ap (converted of_items) (items_end p n ts r enough e)

  module _ (old : Members) where
    pub member_read : (k : List ℕ) (s r : List Token) (d : Data) → 0 < n → read_key ts ≡ Some (Some k, s) → converted of_json (p s) ≡ Some (d, r)
        → converted (λ ms. of_members ms old) (members p n ts) ≡ converted (λ ms. of_members ms (put k d old)) (members p (n - 1) r)
    member_read k s r d some key e =
        let j = said of_json (p s) d r e in
        ap (converted (λ ms. of_members ms old)) (members_more p n k ts s r j.0 some key j.1) ∙ with_member j.0 d j.2 k old _

    pub member_refused : (k : List ℕ) (s : List Token) → 0 < n → read_key ts ≡ Some (Some k, s) → converted of_json (p s) ≡ None → converted (λ ms. of_members ms old) (members p n ts) ≡ None
    member_refused k s some key e = by_case (unsaid of_json (p s) e)
      where
        by_case : (p s ≡ None) ⊎ ((j : json.Json) × (r : List Token) × (p s ≡ Some (j, r)) × (of_json j ≡ None)) → converted (λ ms. of_members ms old) (members p n ts) ≡ None
        by_case (inl none) = ap (converted (λ ms. of_members ms old)) (members_fail p n k ts s key none)
        by_case (inr (j, r, is, means)) = ap (converted (λ ms. of_members ms old)) (members_more p n k ts s r j some key is) ∙ lost_member j means k old _

    pub no_key_there : read_key ts ≡ None → converted (λ ms. of_members ms old) (members p n ts) ≡ None
    no_key_there e = ap (converted (λ ms. of_members ms old)) (members_no_key p n ts e)

    pub members_over : (r : List Token) → length ts ≤ n → read_key ts ≡ Some (None, r) → converted (λ ms. of_members ms old) (members p n ts) ≡ Some (old, r)
    members_over r enough e = ap (converted (λ ms. of_members ms old)) (members_end p n ts r enough e)

pub nothing : (p : Parse json.Json) (n : ℕ) (ts : List Token) → after_end_array ts ≡ None → converted of_json (p ts) ≡ None → converted of_items (items p n ts) ≡ None
unfolding items
nothing p zero ts going e = refl
nothing p (suc n) ts going e = item_refused p (suc n) ts (omega arith) going e
