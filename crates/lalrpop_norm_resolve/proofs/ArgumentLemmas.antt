-- The names of arguments, read from the last one on, and what names mean beside them.
use Rattle.std.proofs.Common.{◌≡◌, ◌+◌, ◌<◌, ℕ, Bool, true, false, ◌||◌, not, cond, List, [], ◌++◌, drop, length, get_or, map, refl, sym, ap, ◌∙◌, nat_cmp, bytes_eq}
use Rattle.std.proofs.Math.Path.{fun_ext}
use Rattle.std.specs.Prelude.{flat_map}
use Rattle.std.specs.Cmp.Lexicographic.{slice_cmp}
use Rattle.std.specs.BTreeMap.{is_at}
use Rattle.std.specs.BTreeSet.{BTreeSet, contains}
use Rattle.std.proofs.lemmas.Map.Text.{is_eq-slice_cmp}
use Rattle.shared_text.specs.declared.atom.Atom.{Atom}
use Rattle.lalrpop_norm_tree_names.specs.declared.names.NonterminalString.{NonterminalString}
use Rattle.lalrpop_norm_tree.specs.Items.{RuleData}
use Rattle.lalrpop_norm_model.specs.Scopes.{is_argument, resolved_alternative}
use Rattle.lalrpop_norm_resolve.specs.NameFaults.{has_repeated_argument, repeated_argument_faults, alternative_name_faults}
use Rattle.lalrpop_norm_resolve.specs.NameTables.{GlobalMap, sense_beside, sense_in, rule_faults_in, resolved_rule_in}
use Rattle.lalrpop_norm_faults.proofs.FaultLemmas.{at_drop_item}

-- a set has just the names of these arguments
abbrev pub HasArguments : BTreeSet Atom → List NonterminalString → Type 0
HasArguments names args = (name : List ℕ) → contains (slice_cmp nat_cmp) names name ≡ is_argument args name

either : (b c : Bool) → cond b true c ≡ (b || c)
either true c = refl
either false c = refl

-- what a set says that was asked to take a name
pub was_there : (added there : Bool) → added ≡ not there → added ≡ false → there ≡ true
was_there added true is left = refl
was_there added false is left = cc

pub was_new : (added there : Bool) → added ≡ not there → added ≡ true → there ≡ false
was_new added true is left = cc
was_new added false is left = refl

module _ (args : List NonterminalString) (i next : ℕ) (x : NonterminalString) (key : List ℕ) (within : i < length args) (is : x ≡ get_or args i x)
    (behind : i + 1 ≡ next) (named : key ≡ x.0) (old : BTreeSet Atom) (h : HasArguments old (drop next args)) where
  pub arguments_before : (new : BTreeSet Atom) →
      ((q : List ℕ) → contains (slice_cmp nat_cmp) new q ≡ cond (is_at (slice_cmp nat_cmp key) q) true (contains (slice_cmp nat_cmp) old q)) → HasArguments new (drop i args)
  arguments_before new added q =
      added q
      ∙ ap (λ b. cond b true (contains (slice_cmp nat_cmp) old q)) (is_eq-slice_cmp key q)
      ∙ either (bytes_eq key q) (contains (slice_cmp nat_cmp) old q)
      ∙ ap (λ b. bytes_eq key q || b) (h q ∙ ap (λ k. is_argument (drop k args) q) (sym behind))
      ∙ ap (λ k. bytes_eq k q || is_argument (drop (i + 1) args) q) named
      ∙ sym (at_drop_item (λ rest. is_argument rest q) args i x within is)

  pub again_before : has_repeated_argument (drop i args) ≡ (contains (slice_cmp nat_cmp) old key || has_repeated_argument (drop next args))
  again_before =
      at_drop_item has_repeated_argument args i x within is
      ∙ ap (λ k. is_argument (drop k args) x.0 || has_repeated_argument (drop k args)) behind
      ∙ ap (λ n. is_argument (drop next args) n || has_repeated_argument (drop next args)) (sym named)
      ∙ ap (λ b. b || has_repeated_argument (drop next args)) (sym (h key))

module _ (m : GlobalMap) (own : BTreeSet Atom) (r : RuleData) (h : HasArguments own r.args) where
  own_sense : sense_beside m (is_argument r.args) ≡ sense_in m own
  unfolding sense_in
  own_sense = ap (sense_beside m) (sym (fun_ext h))

  pub faults_by_names : repeated_argument_faults r.span r.args ≡ [] → rule_faults_in m r ≡ flat_map (alternative_name_faults (sense_in m own)) r.alternatives
  faults_by_names none =
      ap (λ fs. fs ++ flat_map (alternative_name_faults (sense_beside m (is_argument r.args))) r.alternatives) none
      ∙ ap (λ sense. flat_map (alternative_name_faults sense) r.alternatives) own_sense

  pub resolved_by_names : resolved_rule_in m r ≡ record r { alternatives = map (resolved_alternative (sense_in m own)) r.alternatives }
  resolved_by_names = ap (λ sense. record r { alternatives = map (resolved_alternative sense) r.alternatives }) own_sense
