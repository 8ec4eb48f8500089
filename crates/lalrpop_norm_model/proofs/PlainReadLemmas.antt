-- The rules of the expanded grammar are the rules of the declared references and of the symbols that are made.
use Rattle.std.proofs.Common.{◌≡◌, inl, inr, ℕ, ◌+◌, List, [], ◌∷◌, ◌++◌, map, length, refl, sym, ap, ap₂, ◌∙◌, subst, true}
use Rattle.std.specs.Prelude.{flat_map, drop, None}
use Rattle.std.proofs.lemmas.List.{length-append, length-map}
use Rattle.lalrpop_norm_tree.specs.declared.symbol.RepeatOp.{RepeatOp}
use Rattle.lalrpop_norm_tree.specs.declared.symbol.RepeatOp.TheVariants.{Star, Plus, Question, Times}
use Rattle.lalrpop_norm_tree.specs.Symbols as written
use Rattle.lalrpop_norm_tree.specs.Symbols.{Kind, Part, Parts, at, no_parts, part_and}
use Rattle.lalrpop_norm_tree.specs.Items.{AlternativeData, RuleData, GrammarData}
use Rattle.lalrpop_norm_tree.specs.SymbolTexts.{kind_text}
use Rattle.lalrpop_norm_theory.specs.Symbols.{Name, ClosedSymbol, ClosedSymbols, reference, wrapped, no_symbols, symbol_and}
use Rattle.lalrpop_norm_theory.specs.Rounds.{In}
use Rattle.lalrpop_norm_theory.specs.Meaning.{Meaning}
use Rattle.lalrpop_norm_theory.specs.LoweredTrees.{nonterminal_symbol, Origin}
use Rattle.lalrpop_norm_theory.specs.Clauses.{Clause, clauses, symbol_of, symbols_of, clause_production}
use Rattle.lalrpop_norm_theory.specs.Met.{BecomesRule}
use Rattle.lalrpop_norm_theory.specs.Tables.{rule_of_symbol}
use Rattle.lalrpop_norm_model.specs.WrittenRules.{WrittenRule, flat_rules}
use Rattle.lalrpop_norm_model.specs.Occurrences.{count_part, count_parts}
use Rattle.lalrpop_norm_model.specs.Reading.{repeat_of, read_kind, read_part, read_parts}
use Rattle.lalrpop_norm_model.specs.Grammars.{ConditionValue, meaning, references}
use Rattle.lalrpop_norm_model.specs.Scoped.{is_scoped}
use Rattle.lalrpop_norm_model.specs.ClosedTexts.{reference_name, text_in}
use Rattle.lalrpop_norm_model.specs.Replaced.{replaced_kind, replaced, all_replaced}
use Rattle.lalrpop_norm_model.specs.MadeRules.{flat_reader, made_rules}
use Rattle.lalrpop_norm_model.specs.PlainRules.{replaced_alternative, replaced_rule, rules_without_arguments, macros_of, made_symbols, plain_rules}
use Rattle.lalrpop_norm_model.specs.Origins.{rule_origins, plain_symbols}
use Rattle.lalrpop_norm_model.specs.PlainTables.{IsSettled, closed, closed_parts, ground_unwrapped, all_unwrapped, plain_symbol_kind, lowered_part, lowered_parts, productions_with_origins, rules_from}
use Rattle.lalrpop_norm_model.specs.Laws.{PlainRulesAreRead}
use Rattle.lalrpop_norm_model.proofs.TextLemmas.{kind_displayed, part_displayed}
use Rattle.lalrpop_norm_model.proofs.MadeReadLemmas.{held, made_rules_are_read, rules_are_read}
use Rattle.lalrpop_norm_model.proofs.RoundReadLemmas.{rounds_are_read, made_symbols_are_scoped}

-- ---- symbols

module _ (rs : List WrittenRule) where
  -- the text of a symbol as the name of a nonterminal
  by_text : (before after : ℕ) (k : Kind) → nonterminal_symbol (kind_text k) ≡ nonterminal_symbol (text_in rs (read_kind flat_reader before after k))
  by_text before after k = ap nonterminal_symbol (sym (kind_displayed (reference_name rs) (λ n. refl) before after k))

  repeat_named : (op : RepeatOp) (g : ClosedSymbol) → nonterminal_symbol (text_in rs (repeat_of op g)) ≡ symbol_of (text_in rs) (repeat_of op g)
  repeat_named Star g = refl
  repeat_named Plus g = refl
  repeat_named Question g = refl
  repeat_named (Times n) g = refl

  mutual
    kind_lowered : (before after : ℕ) (k : Kind) → plain_symbol_kind (replaced_kind k) ≡ symbol_of (text_in rs) (read_kind flat_reader before after k)
    kind_lowered before after (written.group ps) = by_text before after (written.group ps)
    kind_lowered before after (written.call n ps) = by_text before after (written.call n ps)
    kind_lowered before after (written.repeated op p) =
        by_text before after (written.repeated op p) ∙ repeat_named op (read_part flat_reader before after p)
    kind_lowered before after (written.chosen p) = part_lowered before after p
    kind_lowered before after (written.named n p) = part_lowered before after p
    kind_lowered before after (written.tupled ns p) = part_lowered before after p
    kind_lowered before after _ = refl

    part_lowered : (before after : ℕ) (p : Part) → lowered_part (replaced p) ≡ symbol_of (text_in rs) (read_part flat_reader before after p)
    part_lowered before after (at s k) = kind_lowered before after k

  parts_lowered : (before after : ℕ) (ps : Parts) → lowered_parts (all_replaced ps) ≡ symbols_of (text_in rs) (read_parts flat_reader before after ps)
  parts_lowered before after no_parts = refl
  parts_lowered before after (part_and p ps) =
      ap₂ ◌∷◌ (part_lowered before (after + count_parts flat_reader.is_own ps) p) (parts_lowered (before + count_part flat_reader.is_own p) after ps)

-- wrappers are no part of a production
module _ (name : ClosedSymbol → Name) where
  unwrapped_symbol : (g : ClosedSymbol) → symbol_of name (ground_unwrapped g) ≡ symbol_of name g
  unwrapped_symbol (wrapped w g) = unwrapped_symbol g
  unwrapped_symbol _ = refl

  unwrapped_symbols : (gs : ClosedSymbols) → symbols_of name (all_unwrapped gs) ≡ symbols_of name gs
  unwrapped_symbols no_symbols = refl
  unwrapped_symbols (symbol_and g gs) = ap₂ ◌∷◌ (unwrapped_symbol g) (unwrapped_symbols gs)

  clauses_lowered : (cs : List Clause) →
      map (symbols_of name) (map (λ (c : Clause). all_unwrapped c.parts) cs) ≡ map (λ (c : Clause). symbols_of name c.parts) cs
  clauses_lowered [] = refl
  clauses_lowered (c ∷ cs) = ap₂ ◌∷◌ (unwrapped_symbols c.parts) (clauses_lowered cs)

alternatives_lowered : (rs : List WrittenRule) (xs : List AlternativeData) →
    map (λ (a : AlternativeData). lowered_parts a.parts) (map replaced_alternative xs)
    ≡ map (symbols_of (text_in rs)) (map (λ (a : AlternativeData). all_unwrapped (closed_parts a)) xs)
alternatives_lowered rs [] = refl
alternatives_lowered rs (a ∷ xs) =
    ap₂ ◌∷◌ (parts_lowered rs 0 0 a.parts ∙ sym (unwrapped_symbols (text_in rs) (closed_parts a))) (alternatives_lowered rs xs)

-- ---- rules

-- a rule of the expanded grammar has the name of a symbol, and the symbols of its clauses
pub record Fits (M : Meaning) (name : ClosedSymbol → Name) (r : RuleData) (g : ClosedSymbol) : Type 0 where
  pub named : r.name.0 ≡ name g
  pub lowered : map (λ (a : AlternativeData). lowered_parts a.parts) r.alternatives ≡ map (λ (c : Clause). symbols_of name c.parts) (clauses M g)

replaced_fits : (M : Meaning) (rs : List WrittenRule) (g : ClosedSymbol) (r : RuleData) → r.name.0 ≡ text_in rs g →
    map (λ (a : AlternativeData). all_unwrapped (closed_parts a)) r.alternatives ≡ map (λ (c : Clause). all_unwrapped c.parts) (clauses M g) →
    Fits M (text_in rs) (replaced_rule r) g
replaced_fits M rs g r n e = record {
  named = n;
  lowered = alternatives_lowered rs r.alternatives ∙ ap (map (symbols_of (text_in rs))) e ∙ clauses_lowered (text_in rs) (clauses M g);
}

-- one rule for each symbol, in order
abbrev pub AllFit : Meaning → (ClosedSymbol → Name) → List RuleData → List ClosedSymbol → Type 0
AllFit M name [] [] = Unit {0}
AllFit M name [] (g ∷ gs) = ⊥
AllFit M name (r ∷ rs) [] = ⊥
AllFit M name (r ∷ rs) (g ∷ gs) = Fits M name r g × AllFit M name rs gs

module _ (M : Meaning) (name : ClosedSymbol → Name) where
  both_fit : (rs ss : List RuleData) (gs hs : List ClosedSymbol) → AllFit M name rs gs → AllFit M name ss hs → AllFit M name (rs ++ ss) (gs ++ hs)
  both_fit [] ss [] hs e f = f
  both_fit [] ss (g ∷ gs) hs e f = absurd e
  both_fit (r ∷ rs) ss [] hs e f = absurd e
  both_fit (r ∷ rs) ss (g ∷ gs) hs e f = (e.0, both_fit rs ss gs hs e.1 f)

  -- alternatives with the symbols of the clauses take the origins of these, and leave the rest
  origins_taken : (xs : List AlternativeData) (cs : List Clause) (more : List Origin) →
      map (λ (a : AlternativeData). lowered_parts a.parts) xs ≡ map (λ (c : Clause). symbols_of name c.parts) cs →
      (productions_with_origins (map (λ (c : Clause). c.origin) cs ++ more) xs ≡ map (clause_production name) cs)
      × (drop (length xs) (map (λ (c : Clause). c.origin) cs ++ more) ≡ more)
  origins_taken [] [] more e = (refl, refl)
  origins_taken [] (c ∷ cs) more e = absurd (cc e)
  origins_taken (a ∷ xs) [] more e = absurd (cc e)
  origins_taken (a ∷ xs) (c ∷ cs) more e =
      let rest = origins_taken xs cs more (cc e) in
      let here : lowered_parts a.parts ≡ symbols_of name c.parts = cc e in
      (ap₂ (λ ss ps. record { origin = c.origin; symbols = ss } ∷ ps) here rest.0, rest.1)

  pub rules_read : (rs : List RuleData) (gs : List ClosedSymbol) → AllFit M name rs gs →
      rules_from (flat_map (rule_origins M) gs) rs ≡ map (rule_of_symbol M name) gs
  rules_read [] [] f = refl
  rules_read [] (g ∷ gs) f = absurd f
  rules_read (r ∷ rs) [] f = absurd f
  rules_read (r ∷ rs) (g ∷ gs) f =
      let taken = origins_taken r.alternatives (clauses M g) (flat_map (rule_origins M) gs) f.0.lowered in
      ap₂ ◌∷◌
      (ap₂ (λ n ps. record { name = n; productions = ps }) f.0.named taken.0)
      (ap (λ os. rules_from os rs) taken.1 ∙ rules_read rs gs f.1)

  pub origins_counted : (rs : List RuleData) (gs : List ClosedSymbol) → AllFit M name rs gs →
      length (flat_map (rule_origins M) gs) ≡ length (flat_map (λ (r : RuleData). r.alternatives) rs)
  origins_counted [] [] f = refl
  origins_counted [] (g ∷ gs) f = absurd f
  origins_counted (r ∷ rs) [] f = absurd f
  origins_counted (r ∷ rs) (g ∷ gs) f =
      length-append (rule_origins M g) (flat_map (rule_origins M) gs)
      ∙ ap₂ ◌+◌
      (length-map (clauses M g) (λ (c : Clause). c.origin)
      ∙ sym (length-map (clauses M g) (λ (c : Clause). symbols_of name c.parts))
      ∙ ap length (sym f.0.lowered)
      ∙ length-map r.alternatives (λ (a : AlternativeData). lowered_parts a.parts))
      (origins_counted rs gs f.1)
      ∙ sym (length-append r.alternatives (flat_map (λ (s : RuleData). s.alternatives) rs))

-- ---- the rules of the expanded grammar

module _ (value : ConditionValue) (g : GrammarData) (S : IsSettled g) where
  abbrev M : Meaning
  M = meaning value (flat_rules g)

  written_fit : (ds : List RuleData) → ((r : RuleData) → In r ds → In r (rules_without_arguments g)) →
      AllFit M (text_in (flat_rules g)) (map replaced_rule ds) (map (λ (r : RuleData). reference r.name.0 None) ds)
  written_fit [] f = tt
  written_fit (r ∷ ds) f = (
    replaced_fits M (flat_rules g) (reference r.name.0 None) r refl
        (held r.alternatives (clauses M (reference r.name.0 None)) ((rules_are_read value g S).1 r (f r (inl refl)))),
    written_fit ds (λ d i. f d (inr i)),
  )

  made_fit : (ps : List Part) → ((p : Part) → In p ps → (is_scoped (flat_rules g) [] p ≡ true) × BecomesRule (closed p)) →
      AllFit M (text_in (flat_rules g)) (map replaced_rule (flat_map (made_rules value (macros_of g)) ps)) (map closed ps)
  made_fit [] f = tt
  made_fit (p ∷ ps) f =
      let (r, made, is) = made_rules_are_read value g S.resolved S.scoped p (f p (inl refl)).0 (f p (inl refl)).1 in
      subst (λ (rs : List RuleData). AllFit M (text_in (flat_rules g)) (map replaced_rule (rs ++ flat_map (made_rules value (macros_of g)) ps)) (closed p ∷ map closed ps))
      (sym made) (
        replaced_fits M (flat_rules g) (closed p) r (is.name ∙ sym (part_displayed (reference_name (flat_rules g)) (λ n. refl) 0 0 p)) is.clauses_held,
        made_fit ps (λ q i. f q (inr i)),
      )

  pub plain_fit : (n : ℕ) → AllFit M (text_in (flat_rules g)) (plain_rules value g n) (plain_symbols M (references (flat_rules g)) n)
  plain_fit n =
      subst (λ (gs : List ClosedSymbol). AllFit M (text_in (flat_rules g)) (plain_rules value g n) gs)
      (ap₂ ◌++◌ (sym (rules_are_read value g S).0) (rounds_are_read value g S n).0)
      (both_fit M (text_in (flat_rules g)) (map replaced_rule (rules_without_arguments g)) _ (map (λ (r : RuleData). reference r.name.0 None) (rules_without_arguments g)) _
      (written_fit (rules_without_arguments g) (λ r i. i)) (made_fit (made_symbols value g n) (made_symbols_are_scoped value g S n)))

pub plain_rules_are_read : PlainRulesAreRead
plain_rules_are_read value g S n = (
  origins_counted M' name (plain_rules value g n) (plain_symbols M' (references (flat_rules g)) n) (plain_fit value g S n),
  rules_read M' name (plain_rules value g n) (plain_symbols M' (references (flat_rules g)) n) (plain_fit value g S n),
)
  where
    M' : Meaning
    M' = meaning value (flat_rules g)

    name : ClosedSymbol → Name
    name = text_in (flat_rules g)
