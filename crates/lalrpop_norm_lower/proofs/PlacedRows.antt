-- The rows of a table, each put at the number of its name.
use Rattle.std.proofs.Common.{◌≡◌, ◌≢◌, ◌<◌, ◌∙◌, ℕ, zero, suc, Bool, true, false, cond, List, [], ◌∷◌, Option, Some, None, map, length, set, replicate, get_or, slice_get, option_map, bytes_eq, Bor, refl, sym, ap, subst, arith}
use Rattle.std.specs.List.Sorted.{IsStrictlySortedBy}
use Rattle.std.specs.Map.{keys_of}
use Rattle.std.proofs.lemmas.Grind.{common_steps}
use Rattle.std.proofs.lemmas.List.{length-map, length-set, length-replicate, get_or-replicate}
use Rattle.std.proofs.lemmas.List.Quantifiers.{position-Some}
use Rattle.std.proofs.lemmas.Option.{slice_get-get_or, same_Some, gets}
use Rattle.std.proofs.lemmas.Slice.Eq.{bytes_eq-Decides}
use Rattle.lalrpop_norm_tree_names.specs.declared.names.NonterminalString.{NonterminalString}
use Rattle.lalrpop_norm_tree_parts.specs.Reprs.{ReprData}
use Rattle.lalrpop_norm_tree.specs.Items.{RuleData}
use Rattle.lalrpop_norm_names.specs.Numbers.{number_in_table, IsNumbering}
use Rattle.lalrpop_norm_names.specs.declared.table.Names.{Names}
use Rattle.lalrpop_norm_model.proofs.ListLemmas.{texts_differ}
use Rattle.lalrpop_norm_repr.specs.Orders.{name_cmp}
use Rattle.lalrpop_norm_repr.specs.Tables.{TypeTable, found, type_of}
use Rattle.lalrpop_norm_repr.proofs.NameOrder.{none_above}
use Rattle.lalrpop_norm_shared_types.specs.Shared.{shared_view}
use Rattle.lalrpop_norm_shared_types.specs.Table.{shared_table}
use Rattle.lalrpop_norm_shared_types.specs.declared.shared.SharedType.{SharedType}
use Rattle.lalrpop_norm_shared_types.specs.declared.table.SharedTypes.{SharedTypes}
use Rattle.lalrpop_norm_lower.proofs.KeyLaws.{names_decide}

-- ---- lists that are written at an index

written_here : {X : Type 0} (xs : List X) (k : ℕ) (y : X) → k < length xs → slice_get (set xs k y) k ≡ Some y
written_here xs k y lt = grind (arith, common_steps, gets)

written_beside : {X : Type 0} (xs : List X) (i k : ℕ) (y : X) → k ≢ i → slice_get (set xs i y) k ≡ slice_get xs k
written_beside xs i k y apart = grind (arith, common_steps, gets)

-- ---- what the rows that are left put over what is at a number

abbrev put_over : Option ReprData → Option (Option ReprData) → Option (Option ReprData)
put_over (Some t) stands = Some (Some t)
put_over None stands = stands

-- the list will be that of the types by number, once the rows that are left, in the order of their names, are put into it
pub record WillBeByNumber (types : TypeTable) (names : Names) (count : ℕ) (rest : List (NonterminalString × ReprData)) (list : List (Option ReprData)) : Type 0 where
  pub will_be : (name : NonterminalString) (k : ℕ) → number_in_table names name.0 ≡ Some k → put_over (found name rest) (slice_get list k) ≡ Some (type_of name types)
  pub ordered : IsStrictlySortedBy name_cmp (keys_of rest)
  pub long : length list ≡ count

-- the walk over the rows of a table has come to those that are left
abbrev pub IsWalkedTo : SharedTypes → List RuleData → Names → List (NonterminalString × SharedType) → List (Option (Bor SharedType)) → Type 0
IsWalkedTo table rules names left types =
    WillBeByNumber (shared_table table) names (length rules) (map (λ e. (e.0, shared_view e.1)) left) (map (option_map (λ t. shared_view t.now)) types)

over_none : (o : Option ReprData) → put_over o (Some None) ≡ Some o
over_none None = refl
over_none (Some t) = refl

pub none_seen : {X : Type 0} (view : X → ReprData) (n : ℕ) → map (option_map view) (replicate n None) ≡ replicate n None
none_seen view zero = refl
none_seen view (suc n) = ap (λ os. None ∷ os) (none_seen view n)

-- ---- each step, by the numbers of the names of rules

module _ (rules : List RuleData) (names : Names) (numbering : IsNumbering (map (λ r. r.name.0) rules) names) where
  standing : (name : List ℕ) (k : ℕ) → number_in_table names name ≡ Some k → (k < length rules) × (get_or (map (λ r. r.name.0) rules) k [] ≡ name)
  standing name k number =
      let here = position-Some (λ stands. bytes_eq stands name) (map (λ r. r.name.0) rules) k [] (sym (numbering name) ∙ number) in
      (subst (λ n. k < n) (length-map rules (λ r. r.name.0)) here.0, (bytes_eq-Decides (get_or (map (λ r. r.name.0) rules) k []) name).0 here.1)

  pub within_rules : (name : List ℕ) (k : ℕ) → number_in_table names name ≡ Some k → k < length rules
  within_rules name k number = (standing name k number).0

  one_name : (a b : List ℕ) (k : ℕ) → number_in_table names a ≡ Some k → number_in_table names b ≡ Some k → a ≡ b
  one_name a b k first second = sym (standing a k first).1 ∙ (standing b k second).1

  module _ (types : TypeTable) where
    pub all_left : IsStrictlySortedBy name_cmp (keys_of types.nonterminals) → WillBeByNumber types names (length rules) types.nonterminals (replicate (length rules) None)
    all_left ordered = record {
      will_be = λ name k number.
          let within = within_rules name.0 k number in
          let stands : slice_get (replicate (length rules) None) k ≡ Some None =
          slice_get-get_or _ k None (subst (λ n. k < n) (sym (length-replicate (length rules) None)) within) ∙ ap Some (get_or-replicate (length rules) k None None within) in
          ap (put_over (type_of name types)) stands ∙ over_none (type_of name types);
      ordered = ordered;
      long = length-replicate (length rules) None;
    }

    module _ (r : NonterminalString × ReprData) (rs : List (NonterminalString × ReprData)) (list : List (Option ReprData)) (left : WillBeByNumber types names (length rules) (r ∷ rs) list) where
      rest_ordered : IsStrictlySortedBy name_cmp (keys_of rs)
      unfolding IsStrictlySortedBy
      rest_ordered = left.ordered.1

      passed : (name : NonterminalString) (k : ℕ) → number_in_table names r.0.0 ≡ None → number_in_table names name.0 ≡ Some k → (b : Bool) → bytes_eq name.0 r.0.0 ≡ b →
          put_over (cond b (Some r.1) (found name rs)) (slice_get list k) ≡ Some (type_of name types) → put_over (found name rs) (slice_get list k) ≡ Some (type_of name types)
      passed name k none number true is here =
          let clash : None ≡ Some k = sym none ∙ ap (number_in_table names) (sym ((bytes_eq-Decides name.0 r.0.0).0 is)) ∙ number in absurd (cc clash)
      passed name k none number false is here = here

      -- a row whose name is that of no rule
      pub row_passed : number_in_table names r.0.0 ≡ None → WillBeByNumber types names (length rules) rs list
      row_passed none = record {
        will_be = λ name k number. passed name k none number (bytes_eq name.0 r.0.0) refl (left.will_be name k number);
        ordered = rest_ordered;
        long = left.long;
      }

      module _ (place : ℕ) (number : number_in_table names r.0.0 ≡ Some place) where
        pub place_within : place < length list
        place_within = subst (λ n. place < n) (sym left.long) (within_rules r.0.0 place number)

        put : (name : NonterminalString) (k : ℕ) → number_in_table names name.0 ≡ Some k → (b : Bool) → bytes_eq name.0 r.0.0 ≡ b →
            put_over (cond b (Some r.1) (found name rs)) (slice_get list k) ≡ Some (type_of name types) → put_over (found name rs) (slice_get (set list place (Some r.1)) k) ≡ Some (type_of name types)
        unfolding IsStrictlySortedBy
        put name k numbered true is here =
            let same : name ≡ r.0 = (names_decide name r.0).0 is in
            let at : place ≡ k = same_Some place k (sym number ∙ ap (λ n. number_in_table names n.0) (sym same) ∙ numbered) in
            let none : found name rs ≡ None = subst (λ n. found n rs ≡ None) (sym same) (none_above r.0 rs left.ordered.0) in
            ap (λ o. put_over o (slice_get (set list place (Some r.1)) k)) none
            ∙ subst (λ q. slice_get (set list place (Some r.1)) q ≡ Some (Some r.1)) at (written_here list place (Some r.1) place_within) ∙ here
        put name k numbered false is here =
            ap (put_over (found name rs)) (written_beside list place k (Some r.1)
            (λ at. texts_differ name.0 r.0.0 is (one_name name.0 r.0.0 k numbered (number ∙ ap Some (sym at))))) ∙ here

        -- one that is put at its number
        pub row_put : WillBeByNumber types names (length rules) rs (set list place (Some r.1))
        row_put = record {
          will_be = λ name k numbered. put name k numbered (bytes_eq name.0 r.0.0) refl (left.will_be name k numbered);
          ordered = rest_ordered;
          long = length-set list place (Some r.1) ∙ left.long;
        }
