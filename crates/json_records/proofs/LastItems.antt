-- The items that are left of an array, one by one from the first.
use Rattle.std.proofs.Common.{◌≡◌, ◌⊎◌, inl, inr, ℕ, zero, suc, ◌-◌, ◌<◌, ◌≤◌, List, [], ◌∷◌, length, Bool, true, false, Result, Ok, Err, Option, Some, None, option_map, option_and_then, MatchOption, refl, sym, ap, ◌∙◌, subst, true≢false, arith}
use Rattle.json.specs.Json as json
use Rattle.json.specs.Json.{Parse, parse_map, after_end_array, items, items_step, value}
use Rattle.json.specs.Token.{Token}
use Rattle.json.proofs.Grammar.{skip_value-shorter}
use Rattle.serde_json.specs.Data.{Data, null, boolean, number, string, array, object, Items, no_items, item}
use Rattle.serde_json.specs.Read.{of_items, converted}
use Rattle.serde_json.specs.View.{items_of as to_items}
use Rattle.std.specs.Prelude.{OnOk, IfOk}
use Rattle.json_records.specs.Reading.{data_of, items_of, IsRead, is_array, list_form, NoItems}
use Rattle.json_records.specs.Rows.{pass_row, is_row}
use Rattle.json_records.proofs.Saying.{item_read, items_over, nothing}
use Rattle.json_records.proofs.Tupled.{both_false}
use Rattle.json_records.proofs.Turns.{held, not_held, array_read, array_stop}

abbrev left : Option (json.Json × List Token) → Option (List Token)
left o = option_map (λ q. q.1) o

-- of a parser that takes a token at least, as many turns as there are tokens are enough
module _ (p : Parse json.Json) (takes : (ts r : List Token) → left (p ts) ≡ Some r → length r < length ts) where
  none_left : (n : ℕ) → items p n [] ≡ None
  unfolding items
  none_left zero = refl
  none_left (suc n) = at (p []) (takes [])
    where
      at : (o : Option (json.Json × List Token)) → ((r : List Token) → left o ≡ Some r → length r < 0) → option_and_then (λ q. parse_map (json.item q.0) (items p n q.1)) o ≡ None
      at None none = refl
      at (Some q) none = absurd (omega (arith, none q.1 refl))

  module _ (one other : Parse json.Items) (ts : List Token) (same : (r : List Token) → length r < length ts → one r ≡ other r) where
    same_value : (o : Option (json.Json × List Token)) → ((r : List Token) → left o ≡ Some r → length r < length ts)
        → option_and_then (λ q. parse_map (json.item q.0) (one q.1)) o ≡ option_and_then (λ q. parse_map (json.item q.0) (other q.1)) o
    same_value None less = refl
    same_value (Some q) less = ap (parse_map (json.item q.0)) (same q.1 (less q.1 refl))

    same_step : (o : Option (List Token)) → items_step p one ts o ≡ items_step p other ts o
    same_step (Some r) = refl
    same_step None = same_value (p ts) (takes ts)

  same_items : (m n : ℕ) (ts : List Token) → length ts ≤ m → length ts ≤ n → items p m ts ≡ items p n ts
  unfolding items
  same_items zero n [] a b = sym (none_left n)
  same_items zero n (t ∷ ts) a b = absurd (omega (arith, a))
  same_items (suc m) zero [] a b = none_left (suc m)
  same_items (suc m) zero (t ∷ ts) a b = absurd (omega (arith, b))
  same_items (suc m) (suc n) ts a b = same_step (items p m) (items p n) ts (λ r less. same_items m n r (omega (arith, a, less)) (omega (arith, b, less))) (after_end_array ts)

pub no_items_left : (n : ℕ) (ts : List Token) → NoItems n ts → items_of n ts ≡ None
no_items_left n ts none = none (length ts)

pub end_read : (n : ℕ) (ts rest : List Token) → after_end_array ts ≡ Some rest → items_of n ts ≡ Some (no_items, rest)
end_read n ts rest e = items_over (value n) (length ts) ts rest (omega arith) e

module _ (n : ℕ) (old next : List Token) (t : Token) (going : (after_end_array old ≡ None) × (old ≡ t ∷ next)) where
  pub first_lost : data_of n (t ∷ next) ≡ None → items_of n old ≡ None
  first_lost e = nothing (value n) (length old) old going.0 (ap (data_of n) going.1 ∙ e)

  module _ (rest : List Token) (d : Data) (read : data_of n (t ∷ next) ≡ Some (d, rest)) (shorter : length rest ≤ length next) where
    first_taken : items_of n old ≡ parse_map (item d) (items_of n rest)
    first_taken =
        let less : length rest < length old = omega (arith, shorter, ap length going.1) in
        let some : 0 < length old = omega (arith, less) in
        let enough : length rest ≤ length old - 1 = omega (arith, less) in
        item_read (value n) (length old) old rest d some going.0 (ap (data_of n) going.1 ∙ read)
        ∙ ap (λ o. parse_map (item d) (converted of_items o)) (same_items (value n) (skip_value-shorter n) (length old - 1) (length rest) rest enough (omega arith))

    pub others_lost : items_of n rest ≡ None → items_of n old ≡ None
    others_lost e = first_taken ∙ ap (parse_map (item d)) e

    pub others_read : (ds : Items) (end : List Token) → items_of n rest ≡ Some (ds, end) → items_of n old ≡ Some (item d ds, end)
    others_read ds end e = first_taken ∙ ap (parse_map (item d)) e

-- what is made of the items, where nothing is made of the first, or of those behind it, is nothing
module _ {T : Type 0} (form : T → Data) (can : Data → Bool) (one : Option T) (d : Data) (made : MatchOption one (can d ≡ false) (λ x. d ≡ form x)) where
  first_fails : (ts : List (Data → Bool)) (ds : Items) → one ≡ None → pass_row (can ∷ ts) (item d ds) ≡ false
  first_fails ts ds none = let fails : can d ≡ false = not_held _ (λ x. d ≡ form x) none made in rw fails refl

  pub others_fail : (ts : List (Data → Bool)) (ds : Items) → pass_row ts ds ≡ false → pass_row (can ∷ ts) (item d ds) ≡ false
  others_fail ts ds fails = rw fails (both_false (can d))

  -- of the last item
  pub made_last : (o : Option T) (ds : Items) → o ≡ one → pass_row [] ds ≡ true → MatchOption o (pass_row (can ∷ []) (item d ds) ≡ false) (λ x. item d ds ≡ to_items (form x ∷ []))
  made_last None ds e last = first_fails [] ds (sym e)
  made_last (Some x) no_items e last = let is : d ≡ form x = held (can d ≡ false) (λ x. d ≡ form x) (sym e) made in ap (λ a. item a no_items) is
  made_last (Some x) (item c ds) e last = absurd (true≢false (sym last))

  module _ {R : Type 0} (forms : R → List Data) (ts : List (Data → Bool)) (others : Option R) (ds : Items) (rest_made : MatchOption others (pass_row ts ds ≡ false) (λ r. ds ≡ to_items (forms r))) where
    lacking : (one ≡ None) ⊎ (others ≡ None) → pass_row (can ∷ ts) (item d ds) ≡ false
    lacking (inl none) = first_fails ts ds none
    lacking (inr none) = others_fail ts ds (not_held _ (λ r. ds ≡ to_items (forms r)) none rest_made)

    having : (x : T) (r : R) → one ≡ Some x → others ≡ Some r → item d ds ≡ to_items (form x ∷ forms r)
    having x r is are =
        let a : d ≡ form x = held (can d ≡ false) (λ x. d ≡ form x) is made in
        let b : ds ≡ to_items (forms r) = held (pass_row ts ds ≡ false) (λ r. ds ≡ to_items (forms r)) are rest_made in
        ap (λ x. item x ds) a ∙ ap (item (form x)) b

    pub made_both : (o : Option (T × R)) → MatchOption o ((one ≡ None) ⊎ (others ≡ None)) (λ p. (one ≡ Some p.0) × (others ≡ Some p.1))
        → MatchOption o (pass_row (can ∷ ts) (item d ds) ≡ false) (λ p. item d ds ≡ to_items (form p.0 ∷ forms p.1))
    made_both None none = lacking none
    made_both (Some p) is = having p.0 p.1 is.0 is.1

module _ {A B C : Type 0} (form : A → Data) (can : Data → Bool) (one : Option A) (d : Data) (made : MatchOption one (can d ≡ false) (λ x. d ≡ form x)) where
  pub made_three : (f : B → Data) (g : C → Data) (ts : List (Data → Bool)) (others : Option (B × C)) (ds : Items) → MatchOption others (pass_row ts ds ≡ false) (λ p. ds ≡ to_items (f p.0 ∷ g p.1 ∷ []))
      → (o : Option (A × B × C)) → MatchOption o ((one ≡ None) ⊎ (others ≡ None)) (λ p. (one ≡ Some p.0) × (others ≡ Some (p.1, p.2)))
      → MatchOption o (pass_row (can ∷ ts) (item d ds) ≡ false) (λ p. item d ds ≡ to_items (form p.0 ∷ f p.1 ∷ g p.2 ∷ []))
  made_three f g ts others ds rest_made None none = lacking form can one d made (λ p. f p.0 ∷ g p.1 ∷ []) ts others ds rest_made none
  made_three f g ts others ds rest_made (Some p) is = having form can one d made (λ p. f p.0 ∷ g p.1 ∷ []) ts others ds rest_made p.0 (p.1, p.2) is.0 is.1

-- ---- a whole array of such items

pub no_row : (ts : List (Data → Bool)) (d : Data) → is_array d ≡ false → is_row ts d ≡ false
no_row ts null e = refl
no_row ts (boolean b) e = refl
no_row ts (number n) e = refl
no_row ts (string s) e = refl
no_row ts (array ds) e = absurd (true≢false e)
no_row ts (object ms) e = refl

module _ (t : Token) (n m : ℕ) (ts now : List Token) (opened : (t ≡ Token.begin_array) × (n ≡ suc m) × (now ≡ ts)) where
  pub row_lost : items_of m now ≡ None → data_of n (t ∷ ts) ≡ None
  row_lost e = array_stop t n m ts opened.1 opened.0 (ap (items_of m) (sym opened.2) ∙ e)

  module _ {T : Type 0} (forms : T → List Data) (tests : List (Data → Bool)) (rest : List Token) where
    row_of : (o : Option T) (ds : Items) → items_of m now ≡ Some (ds, rest) → MatchOption o (pass_row tests ds ≡ false) (λ x. ds ≡ to_items (forms x)) → IsRead (λ x. list_form (forms x)) (is_row tests) n (t ∷ ts) rest o
    row_of o ds e made = record { means = array ds; read = array_read t n m ts opened.1 ds rest opened.0 (ap (items_of m) (sym opened.2) ∙ e); made = of_array o made }
      where
        of_array : (o : Option T) → MatchOption o (pass_row tests ds ≡ false) (λ x. ds ≡ to_items (forms x)) → MatchOption o (is_row tests (array ds) ≡ false) (λ x. array ds ≡ list_form (forms x))
        of_array None fails = fails
        of_array (Some x) is = ap array is

    pub row_read : {E : Type 0} (r : Result (Option T) E) → IfOk r (λ o. (ds : Items) × (items_of m now ≡ Some (ds, rest)) × MatchOption o (pass_row tests ds ≡ false) (λ x. ds ≡ to_items (forms x)))
        → IfOk r (λ o. IsRead (λ x. list_form (forms x)) (is_row tests) n (t ∷ ts) rest o)
    row_read (Ok o) p = row_of o p.0 p.1 p.2
    row_read (Err e) p = tt

    pub row_shorter : {E : Type 0} (r : Result (Option T) E) → OnOk r (length rest ≤ length now) → OnOk r (length rest ≤ length ts)
    row_shorter r p = subst (λ xs. OnOk r (length rest ≤ length xs)) opened.2 p

-- ---- what is left is shorter

pub fewer : {k m : ℕ} → k < m → k ≤ m
fewer p = omega (arith, p)

pub fewer_yet : {k l m n : ℕ} → k ≤ l → l ≤ m → m < n → k ≤ n
fewer_yet p q r = omega (arith, p, q, r)
