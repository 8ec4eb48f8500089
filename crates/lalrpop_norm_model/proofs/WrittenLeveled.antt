-- The grammar with levels is that of the written grammar with its holes, by the written indices.
use Rattle.std.proofs.Common.{◌≡◌, ℕ, zero, suc, List, [], ◌∷◌, map, Option, Some, None, refl, sym, ap, ap₂, ◌∙◌, subst, arith}
use Rattle.std.specs.Prelude.{slice_get, option_map, unwrap_or}
use Rattle.std.proofs.Math.Path.{fun_ext}
use Rattle.std.proofs.lemmas.Option.{slice_get-map}
use Rattle.lalrpop_norm_tree.specs.Items.{GrammarData}
use Rattle.lalrpop_norm_theory.specs.Symbols.{Name, ClosedSymbol, ClosedSymbols, reference, call}
use Rattle.lalrpop_norm_theory.specs.LoweredTrees.{Origin, from_start, written, level_step, from_group, star_empty, star_some, plus_one, plus_more, question_some, question_empty, from_times, from_lookahead, from_lookbehind}
use Rattle.lalrpop_norm_theory.specs.Meaning.{Meaning}
use Rattle.lalrpop_norm_theory.specs.Clauses.{Clause, clause, clauses}
use Rattle.lalrpop_norm_theory.specs.Rounds.{In}
use Rattle.lalrpop_norm_theory.specs.Leveled.{leveled_symbols, composed, composed_clause, leveled_clause, IsLeveled}
use Rattle.lalrpop_norm_theory.proofs.PairTotal.{numbered_clause_at}
use Rattle.lalrpop_norm_model.specs.Features.{Features}
use Rattle.lalrpop_norm_model.specs.Enabled.{present}
use Rattle.lalrpop_norm_model.specs.Levels.{Leveled, rising, greatest, highest_level}
use Rattle.lalrpop_norm_model.specs.WrittenRules.{WrittenRule, rule_named, written_rules, leveled_rules, flat_rules}
use Rattle.lalrpop_norm_model.specs.Grammars.{ConditionValue, instance_parts, meaning, references}
use Rattle.lalrpop_norm_model.specs.ClosedTexts.{level_name, named_level, level_names}
use Rattle.lalrpop_norm_model.specs.LevelRules.{leveled_grammar}
use Rattle.lalrpop_norm_model.specs.LevelNames.{HasLevelNames, origin_among, place_in, place_of}
use Rattle.lalrpop_norm_model.specs.Renumbered.{prepared_grammar, closed_up, rank_in, rank_of, rank_by, ranked_origin, ranked_clause}
use Rattle.lalrpop_norm_model.specs.Laws.{WrittenGrammarsAreLeveled}
use Rattle.lalrpop_norm_model.proofs.MeaningLemmas.{instance_of}
use Rattle.lalrpop_norm_model.proofs.OriginLemmas.{grammar_leveled, origin_found, no_origin, called_apart, calls_by}
use Rattle.lalrpop_norm_model.proofs.RenumberedLemmas.{disabled_are_left_out, disabled_only_renumber, named_closed, all_present}
use Rattle.lalrpop_norm_model.proofs.RenumberedClauses.{clauses_only_renumber}

-- ---- names of levels without the holes

highest_closed : (w : WrittenRule) → highest_level (closed_up w).places ≡ highest_level w.places
highest_closed w =
    ap (λ (xs : List Leveled). unwrap_or (greatest (rising (map (λ (a : Leveled). a.level) xs))) 0) (all_present (present w.places))

pub level_closed : (ws : List WrittenRule) (n : Name) (m : ℕ) → level_names (map closed_up ws) n m ≡ level_names ws n m
level_closed ws n m = ap (λ o. named_level o n m) (named_closed ws n) ∙ by (rule_named ws n)
  where
    by : (o : Option WrittenRule) → named_level (option_map closed_up o) n m ≡ named_level o n m
    by None = refl
    by (Some w) = ap (λ h. level_name n h m) (highest_closed w)

pub names_written : (fs : Features) (g : GrammarData) → level_names (leveled_rules (prepared_grammar fs g)) ≡ level_names (written_rules fs g)
names_written fs g =
    fun_ext (λ n. fun_ext (λ m. ap (λ xs. level_names xs n m) (disabled_are_left_out fs g) ∙ level_closed (written_rules fs g) n m))

-- ---- indices of ranks

place_ranked : {A : Type 0} (ps : List (Option A)) (k : ℕ) (a : A) → slice_get ps k ≡ Some (Some a) → place_in ps (rank_in ps k) ≡ k
place_ranked [] k a h = absurd (grind arith)
place_ranked (None ∷ ps) zero a h = absurd (grind arith)
place_ranked (None ∷ ps) (suc k) a h = ap suc (place_ranked ps k a h)
place_ranked (Some b ∷ ps) zero a h = refl
place_ranked (Some b ∷ ps) (suc k) a h = ap suc (place_ranked ps k a h)

called_place : (value : ConditionValue) (ws : List WrittenRule) (args : ClosedSymbols) (k : ℕ) (parts : ClosedSymbols) (o : Option WrittenRule) →
    instance_parts value ws args k o ≡ Some parts → place_of o (rank_of o k) ≡ k
called_place value ws args k parts None h = absurd (grind arith)
called_place value ws args k parts (Some r) h =
    let p = instance_of value ws args k r parts h in place_ranked r.places k p.alternative p.there

-- ---- clauses

unwritten : (o : Origin) → composed written o ≡ o
unwritten from_start = refl
unwritten (written n k) = refl
unwritten level_step = refl
unwritten from_group = refl
unwritten star_empty = refl
unwritten star_some = refl
unwritten plus_one = refl
unwritten plus_more = refl
unwritten question_some = refl
unwritten question_empty = refl
unwritten from_times = refl
unwritten from_lookahead = refl
unwritten from_lookbehind = refl

-- clauses that are the same but for ranks are the same by origins that undo the ranks
clauses_unranked : (l : Name → ℕ → Name) (rank : Name → ℕ → ℕ) (origin : Name → ℕ → Origin) (ds cs : List Clause) →
    map (composed_clause written) ds ≡ map (leveled_clause l) (map (ranked_clause rank) cs) →
    ((p : ℕ) (c : Clause) → slice_get cs p ≡ Some c → composed origin (ranked_origin rank c.origin) ≡ c.origin) →
    map (composed_clause origin) ds ≡ map (leveled_clause l) cs
clauses_unranked l rank origin [] [] e h = refl
clauses_unranked l rank origin [] (c ∷ cs) e h = absurd (cc e)
clauses_unranked l rank origin (d ∷ ds) [] e h = absurd (cc e)
clauses_unranked l rank origin (d ∷ ds) (c ∷ cs) e h =
    let here : composed_clause written d ≡ leveled_clause l (ranked_clause rank c) = cc e in
    let from : d.origin ≡ ranked_origin rank c.origin = sym (unwritten d.origin) ∙ ap (λ (x : Clause). x.origin) here in
    ap₂ ◌∷◌ (ap₂ clause (ap (composed origin) from ∙ h 0 c refl) (ap (λ (x : Clause). x.parts) here))
    (clauses_unranked l rank origin ds cs (cc e) (λ p x i. h (suc p) x i))

-- ---- the written grammar

module _ (value : ConditionValue) (fs : Features) (g : GrammarData) (N : HasLevelNames (prepared_grammar fs g)) where
  abbrev ws : List WrittenRule
  ws = written_rules fs g

  abbrev rs : List WrittenRule
  rs = leveled_rules (prepared_grammar fs g)

  abbrev M : Meaning
  M = meaning value (written_rules fs g)

  abbrev L : Meaning
  L = meaning value (flat_rules (leveled_grammar (prepared_grammar fs g)))

  abbrev rank : Name → ℕ → ℕ
  rank = rank_by (written_rules fs g)

  abbrev other : Name → ℕ → Origin
  other m j = written m (place_of (rule_named (written_rules fs g) m) j)

  abbrev origin : Name → ℕ → Origin
  origin = origin_among other M (level_names rs) (references ws)

  same_references : references rs ≡ references ws
  same_references = (disabled_only_renumber value fs g).1

  parts_ranked : (l : Name → ℕ → Name) (o : Option Clause) →
      option_map (λ (c : Clause). leveled_symbols l c.parts) (option_map (ranked_clause rank) o) ≡ option_map (λ (c : Clause). leveled_symbols l c.parts) o
  parts_ranked l None = refl
  parts_ranked l (Some c) = refl

  place_same : (l : Name → ℕ → Name) (x : ClosedSymbol) (p : ℕ) →
      option_map (λ (c : Clause). leveled_symbols l c.parts) (slice_get (clauses (meaning value rs) x) p)
      ≡ option_map (λ (c : Clause). leveled_symbols l c.parts) (slice_get (clauses M x) p)
  place_same l x p =
      ap (λ (cs : List Clause). option_map (λ (c : Clause). leveled_symbols l c.parts) (slice_get cs p)) (clauses_only_renumber value fs g x)
      ∙ ap (option_map (λ (c : Clause). leveled_symbols l c.parts)) (slice_get-map (ranked_clause rank) (clauses M x) p)
      ∙ parts_ranked l (slice_get (clauses M x) p)

  call_unranked : (n : Name) (args : ClosedSymbols) (p : ℕ) (c : Clause) → slice_get (clauses M (call n args)) p ≡ Some c →
      composed origin (ranked_origin rank c.origin) ≡ c.origin
  call_unranked n args p c at =
      let (k, parts, has, is) = numbered_clause_at n (M.call_parts n args) (M.call_count n) p c at in
      let there = ((disabled_only_renumber value fs g).0.macros n args).kept k parts has in
      let apart = called_apart (prepared_grammar fs g) N value n args (rank n k) parts (rule_named rs n) refl there in
      let from : origin n (rank n k) ≡ written n k =
      no_origin (prepared_grammar fs g) N value other M n (rank n k) (references ws)
      (λ x i. apart x (subst (λ (gs : List ClosedSymbol). In x gs) (sym same_references) i))
      ∙ ap (written n) (called_place value ws args k parts (rule_named ws n) has) in
      subst (λ (x : Clause). composed origin (ranked_origin rank x.origin) ≡ x.origin) (sym is) from

  ranked_leveled : IsLeveled M L (level_names rs) origin (references ws)
  ranked_leveled =
      let I = grammar_leveled value (prepared_grammar fs g) N in record {
        rules = λ n b p r.
            I.rules n b p (subst (λ (gs : List ClosedSymbol). In (reference n b) gs) (sym same_references) r)
            ∙ place_same (level_names rs) (reference n b) p;
        flat = I.flat;
        calls = λ n args. clauses_unranked (level_names rs) rank origin (clauses L (call n (leveled_symbols (level_names rs) args))) (clauses M (call n args))
            (calls_by (prepared_grammar fs g) N value written (λ m qs k parts h. refl) n args
            ∙ ap (map (leveled_clause (level_names rs))) (clauses_only_renumber value fs g (call n args)))
            (call_unranked n args);
        rule_origins = λ n b p c r at. origin_found (prepared_grammar fs g) N value other M n b p c at
            (subst (λ (gs : List ClosedSymbol). In (reference n b) gs) (sym same_references) r) (references ws)
            (λ x i. subst (λ (gs : List ClosedSymbol). In x gs) (sym same_references) i) r;
      }

pub written_leveled : WrittenGrammarsAreLeveled
written_leveled value fs g N =
    subst (λ (l : Name → ℕ → Name). IsLeveled (meaning value (written_rules fs g)) (meaning value (flat_rules (leveled_grammar (prepared_grammar fs g)))) l
    (origin_among (λ m j. written m (place_of (rule_named (written_rules fs g) m) j)) (meaning value (written_rules fs g)) l (references (written_rules fs g)))
    (references (written_rules fs g)))
    (names_written fs g) (ranked_leveled value fs g N)
