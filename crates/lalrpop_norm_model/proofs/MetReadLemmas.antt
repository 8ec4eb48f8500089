-- What is reached in written symbols is what the ground symbols reach.
use Rattle.std.proofs.Common.{◌≡◌, inl, inr, ℕ, ◌+◌, List, [], ◌∷◌, ◌++◌, map, refl, sym, ap, ap₂, ◌∙◌, append-nil}
use Rattle.std.specs.Prelude.{flat_map, None}
use Rattle.std.proofs.lemmas.List.{map-append}
use Rattle.lalrpop_norm_tree.specs.declared.symbol.RepeatOp.{RepeatOp}
use Rattle.lalrpop_norm_tree.specs.declared.symbol.RepeatOp.TheVariants.{Star, Plus, Question, Times}
use Rattle.lalrpop_norm_tree.specs.Symbols as written
use Rattle.lalrpop_norm_tree.specs.Symbols.{Part, Parts, at, no_parts, part_and}
use Rattle.lalrpop_norm_tree.specs.Items.{AlternativeData, RuleData}
use Rattle.lalrpop_norm_theory.specs.Symbols.{ClosedSymbol, ClosedSymbols, reference, call, group, wrapped, no_symbols, symbol_and}
use Rattle.lalrpop_norm_theory.specs.Rounds.{In}
use Rattle.lalrpop_norm_theory.specs.Meaning.{Meaning}
use Rattle.lalrpop_norm_theory.specs.Clauses.{Clause, clauses}
use Rattle.lalrpop_norm_theory.specs.Met.{meets, meets_all, clauses_meet, rule_meets}
use Rattle.lalrpop_norm_model.specs.WrittenRules.{flat_rules}
use Rattle.lalrpop_norm_model.specs.Occurrences.{count_part, count_parts}
use Rattle.lalrpop_norm_model.specs.Reading.{repeat_of, read_part, read_parts}
use Rattle.lalrpop_norm_model.specs.Grammars.{meaning, references}
use Rattle.lalrpop_norm_model.specs.MadeRules.{flat_reader}
use Rattle.lalrpop_norm_model.specs.PlainRules.{met, all_met, met_in_rule, rules_without_arguments}
use Rattle.lalrpop_norm_model.specs.PlainTables.{closed, closed_parts, ground_unwrapped, all_unwrapped}
use Rattle.lalrpop_norm_model.specs.Laws.{MetIsRead}
use Rattle.lalrpop_norm_model.proofs.SubstitutedLemmas.{flat_part, flat_parts}
use Rattle.lalrpop_norm_model.proofs.MadeReadLemmas.{held, made_rules_are_read, rules_are_read}

-- ---- symbols

-- what its parts reach, then the symbol itself
then_itself : (x : Part) (ms : List Part) (gs : List ClosedSymbol) (g : ClosedSymbol) → map closed ms ≡ gs → closed x ≡ g →
    map closed (ms ++ x ∷ []) ≡ gs ++ g ∷ []
then_itself x ms gs g e f = map-append closed ms (x ∷ []) ∙ ap₂ (λ ys y. ys ++ y ∷ []) e f

repeat_meets : (op : RepeatOp) (g : ClosedSymbol) → meets g ++ repeat_of op g ∷ [] ≡ meets (repeat_of op g)
repeat_meets Star g = refl
repeat_meets Plus g = refl
repeat_meets Question g = refl
repeat_meets (Times n) g = refl

mutual
  pub met_read : (before after : ℕ) (p : Part) → map closed (met p) ≡ meets (read_part flat_reader before after p)
  met_read before after (at s (written.group ps)) =
      then_itself _ _ _ _ (all_met_read before after ps) (ap group (flat_parts 0 0 before after ps))
  met_read before after (at s (written.call n ps)) =
      then_itself _ _ _ _ (all_met_read before after ps) (ap (call n) (flat_parts 0 0 before after ps))
  met_read before after (at s (written.repeated op p)) =
      then_itself _ _ _ _ (met_read before after p) (ap (repeat_of op) (flat_part 0 0 before after p))
      ∙ repeat_meets op (read_part flat_reader before after p)
  met_read before after (at s (written.chosen p)) = met_read before after p
  met_read before after (at s (written.named n p)) = met_read before after p
  met_read before after (at s (written.tupled ns p)) = met_read before after p
  met_read before after (at s _) = refl

  pub all_met_read : (before after : ℕ) (ps : Parts) → map closed (all_met ps) ≡ meets_all (read_parts flat_reader before after ps)
  all_met_read before after no_parts = refl
  all_met_read before after (part_and p ps) =
      map-append closed (met p) (all_met ps)
      ∙ ap₂ ◌++◌ (met_read before (after + count_parts flat_reader.is_own ps) p)
      (all_met_read (before + count_part flat_reader.is_own p) after ps)

-- ---- wrappers reach nothing

unwrapped_meets : (g : ClosedSymbol) → meets (ground_unwrapped g) ≡ meets g
unwrapped_meets (wrapped w g) = unwrapped_meets g
unwrapped_meets _ = refl

all_unwrapped_meet : (gs : ClosedSymbols) → meets_all (all_unwrapped gs) ≡ meets_all gs
all_unwrapped_meet no_symbols = refl
all_unwrapped_meet (symbol_and g gs) = ap₂ ◌++◌ (unwrapped_meets g) (all_unwrapped_meet gs)

-- ---- rules

alternatives_meet : (xs : List AlternativeData) →
    map closed (flat_map (λ (a : AlternativeData). all_met a.parts) xs)
    ≡ flat_map meets_all (map (λ (a : AlternativeData). all_unwrapped (closed_parts a)) xs)
alternatives_meet [] = refl
alternatives_meet (a ∷ xs) =
    map-append closed (all_met a.parts) (flat_map (λ (b : AlternativeData). all_met b.parts) xs)
    ∙ ap₂ ◌++◌ (all_met_read 0 0 a.parts ∙ sym (all_unwrapped_meet (closed_parts a))) (alternatives_meet xs)

clauses_met : (cs : List Clause) → flat_map meets_all (map (λ (c : Clause). all_unwrapped c.parts) cs) ≡ clauses_meet cs
clauses_met [] = refl
clauses_met (c ∷ cs) = ap₂ ◌++◌ (all_unwrapped_meet c.parts) (clauses_met cs)

-- a rule that holds the clauses of a symbol reaches what the symbol's rule reaches
pub rule_met : (M : Meaning) (g : ClosedSymbol) (r : RuleData) →
    map (λ (a : AlternativeData). all_unwrapped (closed_parts a)) r.alternatives ≡ map (λ (c : Clause). all_unwrapped c.parts) (clauses M g) →
    map closed (met_in_rule r) ≡ rule_meets M g
rule_met M g r e = alternatives_meet r.alternatives ∙ ap (flat_map meets_all) e ∙ clauses_met (clauses M g)

rules_met : (M : Meaning) (ds : List RuleData) → ((r : RuleData) → In r ds → map closed (met_in_rule r) ≡ rule_meets M (reference r.name.0 None)) →
    map closed (flat_map met_in_rule ds) ≡ flat_map (rule_meets M) (map (λ (r : RuleData). reference r.name.0 None) ds)
rules_met M [] h = refl
rules_met M (r ∷ ds) h =
    map-append closed (met_in_rule r) (flat_map met_in_rule ds) ∙ ap₂ ◌++◌ (h r (inl refl)) (rules_met M ds (λ d i. h d (inr i)))

one_rule_met : (M : Meaning) (g : ClosedSymbol) (r : RuleData) → map closed (met_in_rule r) ≡ rule_meets M g →
    map closed (flat_map met_in_rule (r ∷ [])) ≡ rule_meets M g
one_rule_met M g r e = map-append closed (met_in_rule r) [] ∙ ap (λ gs. gs ++ []) e ∙ append-nil (rule_meets M g)

pub met_is_read : MetIsRead
met_is_read value g S = (
  λ p. met_read 0 0 p,
  rules_met M (rules_without_arguments g) (λ r i. rule_met M (reference r.name.0 None) r (held r.alternatives (clauses M (reference r.name.0 None)) (read.1 r i)))
      ∙ ap (flat_map (rule_meets M)) (sym read.0),
  λ p h x. (let (r, made, is) = made_rules_are_read value g S.resolved S.scoped p h x in
      ap (λ rs. map closed (flat_map met_in_rule rs)) made ∙ one_rule_met M (closed p) r (rule_met M (closed p) r is.clauses_held)),
)
  where
    M : Meaning
    M = meaning value (flat_rules g)

    read : (references (flat_rules g) ≡ map (λ (r : RuleData). reference r.name.0 None) (rules_without_arguments g))
        × ((r : RuleData) → In r (rules_without_arguments g) →
        map closed_parts r.alternatives ≡ map (λ (c : Clause). c.parts) (clauses (meaning value (flat_rules g)) (reference r.name.0 None)))
    read = rules_are_read value g S
