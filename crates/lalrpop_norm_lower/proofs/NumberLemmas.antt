-- What is at a name's number is what the table has for the name, and where names are distinct their numbers are their indices.
use Rattle.std.proofs.Common.{◌≡◌, ◌<◌, ◌+◌, ◌-◌, ◌∙◌, ℕ, zero, suc, Bool, true, false, cond, List, [], ◌∷◌, Option, Some, None, bytes_eq, map, drop, length, get_or, slice_get, option_map, refl, sym, ap, subst, arith, length-drop}
use Rattle.std.specs.List.{position_from}
use Rattle.std.proofs.lemmas.List.{drop_more, length-map}
use Rattle.std.proofs.lemmas.Iterator.Adapters.{position_from-zero}
use Rattle.std.proofs.lemmas.Option.{slice_get-get_or, slice_get-map, slice_get_within, slice_get_read, same_Some}
use Rattle.std.proofs.lemmas.Slice.Eq.{bytes_eq-Decides}
use Rattle.std.proofs.Math.Bridge.{le_prop}
use mathlib.Core.HLevel.{hedberg}
use mathlib.Core.Logic.{∥∥₁_elim}
use Rattle.lalrpop_norm_tree_names.specs.declared.names.NonterminalString.{NonterminalString}
use Rattle.lalrpop_norm_tree_parts.specs.Reprs.{ReprData}
use Rattle.lalrpop_norm_tree.specs.Items.{RuleData}
use Rattle.lalrpop_norm_theory.specs.Rounds.{In, IsDistinct}
use Rattle.lalrpop_norm_theory.proofs.OrderLemmas.{in_at}
use Rattle.lalrpop_norm_names.specs.Numbers.{number_in_table, IsNumbering}
use Rattle.lalrpop_norm_names.specs.declared.table.Names.{Names}
use Rattle.lalrpop_norm_model.specs.SameTypes.{same_type}
use Rattle.lalrpop_norm_model.proofs.SameTypeLemmas.{type_sound, type_same}
use Rattle.lalrpop_norm_repr.specs.Tables.{TypeTable, type_of}
use Rattle.lalrpop_norm_lower.specs.Numbered.{AreTypesByNumber}
use Rattle.lalrpop_norm_lower.specs.State.{table_by_number, types_by_number, IsTypeAt, AreTypesFrom}
use Rattle.lalrpop_norm_lower.specs.declared.numbered.NumberedTypes.{NumberedTypes}

-- ---- what it answers

decided : (t u : ReprData) (b : Bool) → same_type t u ≡ b → Dec (t ≡ u)
decided t u true e = yes (type_sound t u e)
decided t u false e = no (λ is. let alike : same_type t u ≡ true = ap (λ v. same_type t v) (sym is) ∙ type_same t in cc)

pub types_are_set : IsSet ReprData
types_are_set = hedberg (λ t u. decided t u (same_type t u) refl)

both_decided : (t u : ReprData) → Dec (t ≡ u) → Dec (Some t ≡ Some u)
both_decided t u (yes is) = yes (ap Some is)
both_decided t u (no is_not) = no (λ is. is_not cc)

found_decided : (o p : Option ReprData) → Dec (o ≡ p)
found_decided None None = yes refl
found_decided (Some t) (Some u) = both_decided t u (decided t u (same_type t u) refl)
found_decided _ _ = no (λ is. cc)

found_set : IsSet (Option ReprData)
found_set = hedberg found_decided

module _ {X : Type 0} (view : X → Option ReprData) (types : TypeTable) (names : Names) (list : List X) (name : NonterminalString) (k : ℕ)
    (numbered : ∥ AreTypesByNumber types names (map view list) ∥₁) (number : number_in_table names name.0 ≡ Some k) where
  pub number_within : k < length list
  number_within = ∥∥₁_elim numbered le_prop (λ known. subst (λ n. k < n) (length-map list view) (slice_get_within (map view list) k (type_of name types) (known name k number)))

  pub type_at_number : (item : X) → item ≡ get_or list k item → view item ≡ type_of name types
  type_at_number item at =
      let here = slice_get_read list (length list) k item refl number_within at in
      ∥∥₁_elim numbered (found_set _ _) (λ known. same_Some _ _ (sym (ap (option_map view) here) ∙ sym (slice_get-map view list k) ∙ known name k number))

-- ---- indices of distinct names

another : (m n : List ℕ) (ns : List (List ℕ)) (b : Bool) → bytes_eq m n ≡ b → (In m ns → ⊥) → In n ns → bytes_eq m n ≡ false
another m n ns true is none there = absurd (none (subst (λ t. In t ns) (sym ((bytes_eq-Decides m n).0 is)) there))
another m n ns false is none there = is

place_of : (ns : List (List ℕ)) (i k : ℕ) (n : List ℕ) → IsDistinct ns → slice_get ns k ≡ Some n → position_from (λ stands. bytes_eq stands n) i ns ≡ Some (i + k)
place_of [] i k n distinct at = absurd (grind arith)
place_of (m ∷ ns) i zero n distinct at =
    let here : i ≡ i + zero = omega arith in
    ap (λ b. cond b (Some i) (position_from (λ stands. bytes_eq stands n) (i + 1) ns)) ((bytes_eq-Decides m n).1 (same_Some m n at)) ∙ ap Some here
place_of (m ∷ ns) i (suc k) n distinct at =
    let there : i + 1 + k ≡ i + suc k = omega arith in
    ap (λ b. cond b (Some i) (position_from (λ stands. bytes_eq stands n) (i + 1) ns)) (another m n ns (bytes_eq m n) refl distinct.0 (in_at n ns k at))
    ∙ place_of ns (i + 1) k n distinct.1 at ∙ ap Some there

by_places : {X Y : Type 0} (f : X → Y) (xs : List X) (ys : List Y) → length ys ≡ length xs → ((k : ℕ) (x : X) → slice_get xs k ≡ Some x → slice_get ys k ≡ Some (f x)) → ys ≡ map f xs
by_places f [] [] long at = refl
by_places f [] (y ∷ ys) long at = absurd (cc long)
by_places f (x ∷ xs) [] long at = absurd (cc long)
by_places f (x ∷ xs) (y ∷ ys) long at =
    let first : y ≡ f x = same_Some y (f x) (at zero x refl) in
    let others : ys ≡ map f xs = by_places f xs ys (cc) (λ (k : ℕ). at (suc k)) in
    cc

-- the types by number are those of the rules, in order
pub types_in_order : (types : TypeTable) (names : Names) (rules : List RuleData) (list : List (Option ReprData)) → IsNumbering (map (λ r. r.name.0) rules) names → IsDistinct (map (λ r. r.name.0) rules)
    → length list ≡ length rules → AreTypesByNumber types names list → list ≡ map (λ r. type_of r.name types) rules
types_in_order types names rules list numbering distinct long known =
    by_places (λ r. type_of r.name types) rules list long (λ k r at.
    let here : 0 + k ≡ k = omega arith in
    known r.name k (numbering r.name.0 ∙ position_from-zero (λ stands. bytes_eq stands r.name.0) (map (λ q. q.name.0) rules)
    ∙ place_of (map (λ q. q.name.0) rules) 0 k r.name.0 distinct (slice_get-map (λ (q : RuleData). q.name.0) rules k ∙ ap (option_map (λ (q : RuleData). q.name.0)) at) ∙ ap Some here))

-- ---- the rules in order

first_left : {X : Type 0} (xs ys : List X) (k : ℕ) (y : X) → drop k xs ≡ y ∷ ys → (slice_get xs k ≡ Some y) × (drop (k + 1) xs ≡ ys)
first_left xs ys k y is =
    let long : length xs - k ≡ suc (length ys) = sym (length-drop k xs) ∙ ap length is in
    let within : k < length xs = omega (arith, long) in
    let cut : get_or xs k y ∷ drop (k + 1) xs ≡ y ∷ ys = sym (drop_more xs k y within) ∙ is in
    let first : get_or xs k y ≡ y = cc cut in
    (slice_get-get_or xs k y within ∙ ap Some first, cc cut)

module _ (types : NumberedTypes) (k : ℕ) (rules rest : List RuleData) (r : RuleData) (from : AreTypesFrom types k rules) (is : rules ≡ r ∷ rest) where
  type_here : IsTypeAt types k r.name × AreTypesFrom types (k + 1) rest
  type_here =
      let typed : RuleData → Option ReprData = λ q. type_of q.name (table_by_number types) in
      first_left (types_by_number types) (map typed rest) k (typed r) (from ∙ ap (map typed) is)

  pub type_of_next : IsTypeAt types k r.name
  type_of_next = type_here.0

  pub types_behind : AreTypesFrom types (k + 1) rest
  types_behind = type_here.1
