-- What inference and lowering see of a grammar with its entries is what they see of these entries without an automaton.
use Rattle.std.proofs.Common.{◌≡◌, ℕ, List, ◌++◌, length, filter, flat_map, Option, Some, None, refl, sym, ap, subst}
use Rattle.std.specs.List.{enumerate_from}
use Rattle.lalrpop_norm_tree.specs.Accessors.{is_public}
use Rattle.lalrpop_norm_tree.specs.Items.{AlternativeData, RuleData, EnumTokenData, InternTokenData, GrammarData}
use Rattle.lalrpop_norm_faults.specs.Faults.{Fault}
use Rattle.lalrpop_norm_model.specs.TerminalTypes.{extern_enum}
use Rattle.lalrpop_norm_model.specs.TypeTables.{Table}
use Rattle.lalrpop_norm_model.specs.InferenceFaults.{inferred_table, inference_faults}
use Rattle.lalrpop_norm_model.specs.LoweringFaults.{start_faults, action_number_faults, code_faults, lowering_faults}
use Rattle.lalrpop_norm_model.specs.CheckedTokens.{with_tokens, IsEnteredWith}
use Rattle.lalrpop_norm_model.specs.EnteredGrammars.{tokens_without_automaton, entered_with}
use Rattle.lalrpop_norm_model.specs.Laws.{EntriesDecideTypes}
use Rattle.lalrpop_norm_model.proofs.AutomatonLemmas.{look_same, automaton_unseen, table_same}
use Rattle.lalrpop_norm_model.proofs.EntryLists.{entries_are_one_list}

-- the faults of lowering by a prefix and rules
abbrev faults_by : List ℕ → Table → List RuleData → List Fault
faults_by prefix types rules =
    let public : List RuleData = filter (λ (r : RuleData). is_public r.visibility) rules in
    flat_map (λ (e : ℕ × RuleData). start_faults prefix types e.1 ++ action_number_faults e.0 e.1.span) (enumerate_from 0 public)
    ++ flat_map (λ (e : ℕ × AlternativeData). code_faults e.1 ++ action_number_faults e.0 e.1.span)
    (enumerate_from (length public) (flat_map (λ (r : RuleData). r.alternatives) rules))

-- what types and lowering see of two grammars is the same
abbrev TellTheSame : GrammarData → GrammarData → Type 0
TellTheSame h e =
    (inference_faults h ≡ inference_faults e) × (inferred_table h ≡ inferred_table e)
    × ((types : Table) → lowering_faults h types ≡ lowering_faults e types)

same_tokens : (g : GrammarData) (t u : InternTokenData) → t.match_entries ≡ u.match_entries → TellTheSame (with_tokens t g) (with_tokens u g)
same_tokens g t u same = (
  automaton_unseen t u same g,
  table_same (with_tokens t g) (with_tokens u g) (look_same t u same g),
  λ types. ap (faults_by g.prefix types) (look_same t u same g).rules,
)

entered_case : (g h : GrammarData) (o : Option EnumTokenData) → IsEnteredWith o g h → TellTheSame h (entered_with o g)
entered_case g h (Some e) same = subst (λ (x : GrammarData). TellTheSame x g) (sym same) (refl, refl, λ types. refl)
entered_case g h None (t, entries) =
    subst (λ (x : GrammarData). TellTheSame x (with_tokens (tokens_without_automaton g) g)) (sym entries.grammar)
    (same_tokens g t (tokens_without_automaton g) ((entries_are_one_list g t.match_entries).0 entries.entries))

pub entries_decide : EntriesDecideTypes
entries_decide g h entered = entered_case g h (extern_enum g) entered
