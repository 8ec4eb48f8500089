-- The derivation trees of what a grammar is lowered to correspond one to one to the written trees.
use Rattle.std.specs.Prelude.{true}
use Rattle.std.proofs.Common.{append-nil, ◌≡◌, inl, inr, ℕ, List, [], ◌∷◌, ◌++◌, length, refl, sym, ap, ◌∙◌, subst}
use Rattle.std.specs.Prelude.{flat_map, Option, Some, None}
use Rattle.std.proofs.lemmas.Grind.{flat_map-append}
use Rattle.lalrpop_norm_tree.specs.Items.{RuleData, EnumTokenData, GrammarData, intern_item}
use Rattle.lalrpop_norm_theory.specs.Symbols.{Name, ClosedSymbol}
use Rattle.lalrpop_norm_theory.specs.Meaning.{Meaning}
use Rattle.lalrpop_norm_theory.specs.LoweredTrees.{nonterminal_symbol, from_start}
use Rattle.lalrpop_norm_theory.specs.Clauses.{symbol_of}
use Rattle.lalrpop_norm_theory.specs.LoweredTrees.{ProductionTable}
use Rattle.lalrpop_norm_theory.specs.Met.{expanded_symbols, IsKnown}
use Rattle.lalrpop_norm_theory.specs.Tables.{Realizes, table}
use Rattle.lalrpop_norm_theory.specs.Rounds.{In}
use Rattle.lalrpop_norm_theory.specs.Laws.{OneToOne, PairsInTwoSteps, level_named}
use Rattle.lalrpop_norm_theory.proofs.RoundsLemmas.{in_cases, in_right}
use Rattle.lalrpop_norm_conditions.specs.Conditions.{comparison}
use Rattle.lalrpop_norm_resolve.specs.NameFaults.{resolve_faults}
use Rattle.lalrpop_norm_resolve.proofs.ResolvedFaults.{faults_gone}
use Rattle.lalrpop_norm_repr.specs.Lowered.{LoweredGrammar}
use Rattle.lalrpop_norm_repr.specs.Tables.{TypeTable, found}
use Rattle.lalrpop_norm_lower.specs.Lowering.{public_rules_in, start_name}
use Rattle.lalrpop_norm_lower.specs.Shape.{IsLoweringOf}
use Rattle.lalrpop_norm_model.specs.Features.{Features}
use Rattle.lalrpop_norm_model.specs.Enabled.{enabled_grammar}
use Rattle.lalrpop_norm_model.specs.WrittenRules.{WrittenRule, written_rules, flat_rules}
use Rattle.lalrpop_norm_model.specs.Grammars.{ConditionValue, meaning, references, roots}
use Rattle.lalrpop_norm_model.specs.ClosedTexts.{level_names, text_in}
use Rattle.lalrpop_norm_model.specs.LevelRules.{leveled_grammar}
use Rattle.lalrpop_norm_model.specs.PlainRules.{rule_of_item, all_rules, plain_grammar, plain_rules, IsEnded}
use Rattle.lalrpop_norm_model.specs.Origins.{plain_symbols, plain_origins, action_origins}
use Rattle.lalrpop_norm_model.specs.PlainTables.{IsSettled, flat_meaning, declared, rules_from}
use Rattle.lalrpop_norm_model.specs.LevelNames.{HasLevelNames, written_origin}
use Rattle.lalrpop_norm_model.specs.Renumbered.{prepared_grammar}
use Rattle.lalrpop_norm_model.specs.TerminalTypes.{extern_enum}
use Rattle.lalrpop_norm_model.specs.CheckedTokens.{IsEnteredWith, IsEntered}
use Rattle.lalrpop_norm_model.proofs.ResolvedLemmas.{resolved_once}
use Rattle.lalrpop_norm_model.proofs.PlainReadLemmas.{origins_counted, plain_rules_are_read}
use Rattle.lalrpop_norm_model.proofs.WrittenLeveled.{names_written}
use Rattle.lalrpop_norm_model.proofs.LevelLemmas.{in_map, of_map}
use Rattle.lalrpop_norm_model.specs.Expanded.{rule_names}
use Rattle.lalrpop_norm_theory.proofs.Expansion.{nothing_new_whole}
use Rattle.lalrpop_norm_model.proofs.FaithfulLemmas.{plain_grammars_hold_plain_rules}
use Rattle.lalrpop_norm_explain.specs.Derivations.{derivations}
use Rattle.lalrpop_norm_explain.specs.TreeFaults.{has_productions}
use Rattle.lalrpop_norm_explain.specs.Anywhere.{IsNonterminalOf, IsMeant}
use Rattle.lalrpop_norm.specs.Faithful.{HasStart, lowered_name, start_of, traced_derivations, written_meaning, written_name, written_symbols}
use Rattle.lalrpop_norm.specs.Laws.{HasFlatMacros, HasOwnNames, LoweredTreesAreFaithful}
use Rattle.lalrpop_norm.proofs.ScopedLemmas.{names_once, leveled_scoped, settled}
use Rattle.lalrpop_norm.proofs.LevelsResolved.{levels_resolved}
use Rattle.lalrpop_norm.proofs.ShapeTrees.{AreFree}
use Rattle.lalrpop_norm.proofs.PlainShape.{distinct_listed, free_listed, shape_derivations}
use Rattle.lalrpop_norm.proofs.StartProductions.{start_listed, start_production, start_derivations, start_written}
use Rattle.lalrpop_norm.proofs.TreesPublic.{public_rule}
use Rattle.lalrpop_norm.proofs.GroundedTypes.{public_in}
use Rattle.lalrpop_norm.proofs.KnownNonterminals.{made_known, start_or_rule}
use Rattle.lalrpop_norm.proofs.PlainTrees.{has_rules, held_trees}
use Rattle.lalrpop_norm.proofs.TwoSteps.{paired_in_steps}
use Rattle.lalrpop_norm.proofs.TreesWritten.{root_of, reference_of, text_written, written_whole, written_fit, written_names}

-- the symbol of a rule is the nonterminal of its text
pub rule_symbol : (rs : List WrittenRule) (s : ClosedSymbol) → In s (roots rs ++ references rs) → symbol_of (text_in rs) s ≡ nonterminal_symbol (text_in rs s)
rule_symbol rs s i = elim (in_cases s (roots rs) (references rs) i) [
  | inl j ↦ (let (m, e) = root_of rs s j in rw e refl)
  | inr j ↦ (let (m, b, e) = reference_of rs s j in rw e refl)
]

-- tokens change no rules
pub entered_same : (g h : GrammarData) → IsEntered g h → (all_rules h ≡ all_rules g) × (h.prefix ≡ g.prefix)
entered_same g h = by (extern_enum g)
  where
    by : (o : Option EnumTokenData) → IsEnteredWith o g h → (all_rules h ≡ all_rules g) × (h.prefix ≡ g.prefix)
    by (Some e) same = (ap all_rules same, ap (λ (x : GrammarData). x.prefix) same)
    by None (t, entries) = (
      ap all_rules entries.grammar ∙ flat_map-append rule_of_item g.items (intern_item t ∷ []) ∙ append-nil (all_rules g),
      ap (λ (x : GrammarData). x.prefix) entries.grammar,
    )

-- ---- what the expanded grammar is lowered to

-- A grammar whose expanded rules so many rounds make, with its tokens, and what it is lowered to.
pub record IsLowered (value : ConditionValue) (fs : Features) (g : GrammarData) (n : ℕ) (checked : GrammarData) (types : TypeTable) (l : LoweredGrammar) : Type 0 where
  pub levels : HasLevelNames (prepared_grammar fs g)
  pub settled : IsSettled (leveled_grammar (prepared_grammar fs g))
  pub whole : IsEnded value (leveled_grammar (prepared_grammar fs g)) n
  pub names : HasOwnNames (plain_grammar value (leveled_grammar (prepared_grammar fs g)) n)
  pub entered : IsEntered (plain_grammar value (leveled_grammar (prepared_grammar fs g)) n) checked
  pub shape : IsLoweringOf checked (all_rules checked) types l

module _ {value : ConditionValue} {fs : Features} {g : GrammarData} {n : ℕ} {checked : GrammarData} {types : TypeTable} {l : LoweredGrammar}
    (W : IsLowered value fs g n checked types l) where
  abbrev ws : List WrittenRule
  ws = written_rules fs g

  abbrev M : Meaning
  M = meaning value (written_rules fs g)

  abbrev h : GrammarData
  h = leveled_grammar (prepared_grammar fs g)

  abbrev plain : GrammarData
  plain = plain_grammar value (leveled_grammar (prepared_grammar fs g)) n

  abbrev name : ClosedSymbol → Name
  name = text_in (written_rules fs g)

  counted : length (plain_origins M (references ws) n) ≡ length (flat_map (λ (r : RuleData). r.alternatives) (all_rules plain))
  counted =
      origins_counted M name (plain_rules value (leveled_grammar (prepared_grammar fs g)) n) (plain_symbols M (references ws) n) (written_fit value fs g W.levels W.settled n)
      ∙ ap (λ (rs : List RuleData). length (flat_map (λ (r : RuleData). r.alternatives) rs))
      (sym (plain_grammars_hold_plain_rules value (leveled_grammar (prepared_grammar fs g)) n))

  shaped : IsLoweringOf checked (all_rules plain) types l
  shaped = subst (λ (rs : List RuleData). IsLoweringOf checked rs types l) (entered_same plain checked W.entered).0 W.shape

  free_names : AreFree checked.prefix (all_rules plain) (public_rules_in (all_rules plain))
  free_names =
      subst (λ (prefix : Name). AreFree prefix (all_rules plain) (public_rules_in (all_rules plain))) (sym (entered_same plain checked W.entered).1)
      (free_listed plain.prefix (all_rules plain) (public_rules_in (all_rules plain)) W.names.starts)

  abbrev P : ProductionTable
  P = derivations (action_origins (length (public_rules_in (all_rules plain))) M (references ws) n) l

  -- the lowered grammar has the rules of the expanded grammar
  holds_rules : (r : RuleData) → In r (all_rules plain) → P r.name.0 ≡ table (rules_from (plain_origins M (references ws) n) (all_rules plain)) r.name.0
  holds_rules =
      shape_derivations checked (all_rules plain) types l shaped (distinct_listed (all_rules plain) W.names.once) free_names
      (plain_origins M (references ws) n) counted

  pub lowered_realizes : Realizes M name P (IsKnown (roots ws ++ references ws) (expanded_symbols M (references ws) n))
  lowered_realizes = has_rules value fs g W.levels W.settled n W.whole W.names.once P holds_rules

  pub lowered_trees : (s : ClosedSymbol) → In s (roots ws ++ references ws) → OneToOne M name P s
  lowered_trees = held_trees value fs g W.levels W.settled n W.whole W.names.once P holds_rules

  -- through the trees of the grammar with levels
  pub lowered_in_steps : (s : ClosedSymbol) → In s (roots ws ++ references ws) →
      PairsInTwoSteps M (flat_meaning value (leveled_grammar (prepared_grammar fs g))) (level_names ws) (written_origin value ws)
      (text_in (flat_rules (leveled_grammar (prepared_grammar fs g))))
      (derivations (action_origins (length (public_rules_in (all_rules plain))) (flat_meaning value (leveled_grammar (prepared_grammar fs g)))
      (declared (leveled_grammar (prepared_grammar fs g))) n) l)
      s
  lowered_in_steps =
      paired_in_steps value fs g W.levels W.settled n W.whole W.names.once
      (derivations (action_origins (length (public_rules_in (all_rules plain))) (flat_meaning value h) (declared h) n) l)
      (shape_derivations checked (all_rules plain) types l shaped (distinct_listed (all_rules plain) W.names.once) free_names
      (plain_origins (flat_meaning value h) (declared h) n)
      ((plain_rules_are_read value h W.settled n).0
      ∙ ap (λ (rs : List RuleData). length (flat_map (λ (r : RuleData). r.alternatives) rs)) (sym (plain_grammars_hold_plain_rules value h n))))

  -- the table of start symbols lists that of a public rule
  pub lowered_listed : (r : RuleData) → In r (public_rules_in (all_rules plain)) → (m : Name) → r.name.0 ≡ m →
      found (record { 0 = m }) l.start_nonterminals ≡ Some (start_name plain.prefix (record { 0 = m }))
  lowered_listed r i m named =
      shaped.start_nonterminals.holds (record { 0 = m })
      ∙ start_listed checked.prefix (public_rules_in (all_rules plain)) r i m named
      ∙ ap (λ (prefix : Name). Some (start_name prefix (record { 0 = m }))) (entered_same plain checked W.entered).1

  pub lowered_starts : (r : RuleData) → In r (public_rules_in (all_rules plain)) →
      derivations (action_origins (length (public_rules_in (all_rules plain))) M (references ws) n) l (plain.prefix ++ r.name.0) ≡ start_production r ∷ []
  lowered_starts r i =
      ap (λ (prefix : Name). derivations (action_origins (length (public_rules_in (all_rules plain))) M (references ws) n) l (prefix ++ r.name.0))
      (sym (entered_same plain checked W.entered).1)
      ∙ start_derivations checked (all_rules plain) types l shaped (distinct_listed (all_rules plain) W.names.once) free_names (plain_origins M (references ws) n) r i

  -- the rule of a name is that of a known symbol
  symbol_there : (m : Name) → In m (rule_names plain) →
      (s : ClosedSymbol) × IsKnown (roots ws ++ references ws) (expanded_symbols M (references ws) n) s × IsNonterminalOf name s m
  symbol_there m i =
      let (s, j, e) = of_map name m (plain_symbols M (references ws) n)
      (subst (λ (ns : List Name). In m ns) (written_names value fs g W.levels W.settled n) i) in
      let k : IsKnown (roots ws ++ references ws) (expanded_symbols M (references ws) n) s × IsNonterminalOf name s (name s) =
      elim (in_cases s (references ws) (expanded_symbols M (references ws) n) j) [
        | inl d ↦ (let (x, b, is) = reference_of ws s d in (
          subst (IsKnown (roots ws ++ references ws) (expanded_symbols M (references ws) n)) (sym is)
              (subst (λ (x : ClosedSymbol). In x (roots ws ++ references ws)) is (in_right s (roots ws) (references ws) d)),
          rule_symbol ws s (in_right s (roots ws) (references ws) d),
        ))
        | inr d ↦ made_known name (roots ws ++ references ws) (expanded_symbols M (references ws) n) s
            ((nothing_new_whole M (references ws) n (written_whole value fs g W.levels W.settled n W.whole)).expanded s d) d
      ] in
      (s, k.0, subst (IsNonterminalOf name s) (sym e) k.1)

  -- what has productions is that of a known symbol, or a start symbol over one
  pub lowered_meant : (m : Name) → has_productions P m ≡ true →
      IsMeant name P (IsKnown (roots ws ++ references ws) (expanded_symbols M (references ws) n)) m
  lowered_meant m h =
      let origins = action_origins (length (public_rules_in (all_rules plain))) M (references ws) n in
      elim (start_or_rule checked.prefix (all_rules plain) l origins m (shaped.nonterminals.holds (record { 0 = m })) h) [
        | inl w ↦ (let (s, k, at) = symbol_there w.0.name.0 (in_map (λ (r : RuleData). r.name.0) w.0 (all_rules plain) (public_in (all_rules plain) w.0 w.1)) in (
          s,
          w.0.name.0,
          k,
          at,
          inr (
              ap P (w.2 ∙ ap (λ (prefix : Name). prefix ++ w.0.name.0) (entered_same plain checked W.entered).1) ∙ lowered_starts w.0 w.1),
        ))
        | inr w ↦ (let (s, k, at) = symbol_there w.0.name.0 (in_map (λ (r : RuleData). r.name.0) w.0 (all_rules plain) w.1) in
            (s, w.0.name.0, k, at, inl w.2))
      ]

-- ---- from the absence of faults

module _ (fs : Features) (g : GrammarData) (faults : resolve_faults (enabled_grammar fs g) ≡ []) (macros : HasFlatMacros (prepared_grammar fs g))
    (level_faults : resolve_faults (leveled_grammar (prepared_grammar fs g)) ≡ []) where
  pub level_names_found : HasLevelNames (prepared_grammar fs g)
  level_names_found = record {
    resolved = resolved_once (enabled_grammar fs g);
    names = leveled_scoped (prepared_grammar fs g) (faults_gone (enabled_grammar fs g) faults) (resolved_once (enabled_grammar fs g));
    no_clash = names_once (leveled_grammar (prepared_grammar fs g)) level_faults;
    macros = macros;
  }

  pub levels_settled : IsSettled (leveled_grammar (prepared_grammar fs g))
  levels_settled = settled (leveled_grammar (prepared_grammar fs g)) level_faults (levels_resolved (prepared_grammar fs g) level_names_found)

-- ---- start symbols

module _ (fs : Features) (g : GrammarData) (rounds : ℕ) (l : LoweredGrammar) (s : ClosedSymbol)
    (known : In s (written_symbols fs g)) (trees : OneToOne (written_meaning fs g) (written_name fs g) (traced_derivations fs g rounds l) s)
    (p : RuleData) (named : p.name.0 ≡ written_name fs g s) where
  -- what a public rule of the expanded grammar has, the written symbol of its name has
  has_start : found (lowered_name fs g s) l.start_nonterminals ≡ Some (start_of fs g s) →
      traced_derivations fs g rounds l (g.prefix ++ p.name.0) ≡ start_production p ∷ [] → HasStart fs g rounds l s
  has_start listed production = record {
    listed = listed;
    production = subst
        (λ (m : Name). traced_derivations fs g rounds l (g.prefix ++ m) ≡ record { origin = from_start; symbols = nonterminal_symbol m ∷ [] } ∷ [])
        named production;
    words = start_written (written_meaning fs g) (written_name fs g) (traced_derivations fs g rounds l) s trees
        (rule_symbol (written_rules fs g) s known) (start_of fs g s).0 p
        (subst (λ (m : Name). traced_derivations fs g rounds l (g.prefix ++ m) ≡ start_production p ∷ []) named production) named;
  }

pub lowered_trees_faithful : LoweredTreesAreFaithful
lowered_trees_faithful fs g faults macros level_faults rounds whole names checked entered types l shape =
    let lowered : IsLowered comparison fs g rounds checked types l = record {
      levels = level_names_found fs g faults macros level_faults;
      settled = levels_settled fs g faults macros level_faults;
      whole = whole;
      names = names;
      entered = entered;
      shape = shape;
    } in
    record {
      whole = written_whole comparison fs g lowered.levels lowered.settled rounds whole;
      realized = lowered_realizes lowered;
      meant = lowered_meant lowered;
      one_to_one = lowered_trees lowered;
      in_steps = λ s i. record {
        steps = lowered_in_steps lowered s i;
        names = subst (λ (l : Name → ℕ → Name). level_named l (text_in (flat_rules (leveled_grammar (prepared_grammar fs g)))) ≡ text_in (written_rules fs g))
            (names_written fs g) (text_written comparison fs g lowered.levels lowered.settled);
      };
      starts = λ r i none shown s k of. (
          let (p, j, named) = public_rule comparison fs g lowered.levels lowered.settled rounds r i none shown s k of in
          has_start fs g rounds l s k (lowered_trees lowered s k) p named
          (lowered_listed lowered p j (text_in (written_rules fs g) s) named) (lowered_starts lowered p j));
      plain_starts = lowered_starts lowered;
    }
