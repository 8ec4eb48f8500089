-- Where lowering has no fault and each rule has a type, no start symbol has the name of a rule.
use Rattle.std.proofs.Common.{◌≡◌, inl, inr, ℕ, ◌+◌, List, [], ◌∷◌, ◌++◌, Bool, true, false, not, ap}
use Rattle.std.specs.Prelude.{filter, is_none, if◌then◌else◌}
use Rattle.std.specs.List.{enumerate_from}
use Rattle.lalrpop_norm_tree.specs.Accessors.{is_public}
use Rattle.lalrpop_norm_tree.specs.Items.{RuleData}
use Rattle.lalrpop_norm_theory.specs.Rounds.{In}
use Rattle.lalrpop_norm_faults.specs.declared.kind.FaultKind.TheVariants.{StartTaken}
use Rattle.lalrpop_norm_lower.specs.Lowering as late
use Rattle.lalrpop_norm_model.specs.PlainRules.{all_rules}
use Rattle.lalrpop_norm_model.specs.LoweringFaults.{public_rules, start_faults, action_number_faults}
use Rattle.lalrpop_norm_model.specs.Expanded.{rule_names}
use Rattle.lalrpop_norm.specs.Laws.{NamesAreOwn}
use Rattle.lalrpop_norm_faults.proofs.FaultLemmas.{left_none, not_fault}
use Rattle.lalrpop_norm.proofs.ScopedLemmas.{none_of}

abbrev Entry : Type 0
Entry = ℕ × RuleData

in_enumerated : (k : ℕ) (rs : List RuleData) (r : RuleData) → In r rs → (i : ℕ) × In {A = Entry} (i, r) (enumerate_from k rs)
in_enumerated k [] r h = absurd h
in_enumerated k (s ∷ rs) r (inl e) = (k, inl (ap (λ (x : RuleData). let y : Entry = (k, x) in y) e))
in_enumerated k (s ∷ rs) r (inr h) = let (i, j) = in_enumerated (k + 1) rs r h in (i, inr j)

public_in : (rs : List RuleData) (r : RuleData) → In r (late.public_rules_in rs) → In r (filter (λ (s : RuleData). is_public s.visibility) rs)
public_in [] r h = absurd h
public_in (s ∷ rs) r h = by (is_public s.visibility) (public_in rs r) h
  where
    by : (b : Bool) → (In r (late.public_rules_in rs) → In r (filter (λ (s : RuleData). is_public s.visibility) rs)) →
        In r (if b then s ∷ late.public_rules_in rs else late.public_rules_in rs) →
        In r (if b then s ∷ filter (λ (s : RuleData). is_public s.visibility) rs else filter (λ (s : RuleData). is_public s.visibility) rs)
    by true f (inl e) = inl e
    by true f (inr i) = inr (f i)
    by false f i = f i

pub names_are_own : NamesAreOwn
names_are_own g types once none typed = record { once = once; starts = starts }
  where
    starts : (r : RuleData) → In r (late.public_rules_in (all_rules g)) → In (g.prefix ++ r.name.0) (rule_names g) → ⊥
    starts r i j =
        let (k, there) = in_enumerated 0 (public_rules g) r (public_in (all_rules g) r i) in
        let here = none_of (λ (e : Entry). start_faults g.prefix types e.1 ++ action_number_faults e.0 e.1.span) (enumerate_from 0 (public_rules g)) (k, r)
        (left_none _ _ none) there in
        let free : not (is_none (types (g.prefix ++ r.name.0))) ≡ false = not_fault _ (StartTaken, r.span) (left_none (start_faults g.prefix types r) (action_number_faults k r.span) here) in
        let (t, e) = typed (g.prefix ++ r.name.0) j in
        let taken : not (is_none (types (g.prefix ++ r.name.0))) ≡ true = ap (λ o. not (is_none o)) e in
        cc (free, taken)
