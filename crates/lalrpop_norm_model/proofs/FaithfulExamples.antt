-- A small grammar whose derivation trees in the expanded grammar are those of its written rules; and what a generated rule holds
-- only apart from names.
use Rattle.std.proofs.Common.{◌≡◌, inl, inr, List, [], ◌∷◌, map, Option, Some, None, Bool, true, false, not, ◌&&◌, refl, ap, ◌∙◌}
use Rattle.std.specs.Prelude.{codes, bytes_eq}
use Rattle.std.proofs.lemmas.Bool.{and_parts}
use Rattle.lalrpop_norm_tree_names.specs.declared.names.NonterminalString.{NonterminalString}
use Rattle.lalrpop_norm_tree.specs.Symbols.{Part, lookahead, call}
use Rattle.lalrpop_norm_tree.specs.Items.{GrammarData}
use Rattle.lalrpop_norm_theory.specs.Symbols.{Name, reference}
use Rattle.lalrpop_norm_theory.specs.Rounds.{In, is_in, IsDistinct, IsTest}
use Rattle.lalrpop_norm_theory.specs.Clauses.{Clause, clauses}
use Rattle.lalrpop_norm_theory.specs.Laws.{OneToOne}
use Rattle.lalrpop_norm_theory.proofs.RoundsLemmas.{is_in_complete}
use Rattle.lalrpop_norm_theory.proofs.SameLemmas.{text_sound, text_same}
use Rattle.lalrpop_norm_model.specs.Scopes.{resolved_grammar}
use Rattle.lalrpop_norm_model.specs.Levels.{Leveled}
use Rattle.lalrpop_norm_model.specs.WrittenRules.{WrittenRule, flat_rules}
use Rattle.lalrpop_norm_model.specs.Scoped.{are_scoped}
use Rattle.lalrpop_norm_model.specs.ClosedTexts.{text_in}
use Rattle.lalrpop_norm_model.specs.MadeRules.{star_rule}
use Rattle.lalrpop_norm_model.specs.PlainRules.{plain_grammar, IsEnded}
use Rattle.lalrpop_norm_model.specs.PlainTables.{IsSettled, flat_meaning, closed, closed_parts, plain_table}
use Rattle.lalrpop_norm_model.specs.Expanded.{rule_names}
use Rattle.lalrpop_norm_model.proofs.ExampleWords.{nowhere, here, literal, optional, name, starred, name_before, symbols, alternative, rule, macro_rule, rules_alone, example_value}
use Rattle.lalrpop_norm_model.proofs.WrittenLemmas.{scoped_as_written}
use Rattle.lalrpop_norm_model.proofs.FaithfulLemmas.{distinct_names_mean_one_rule, plain_rules_are_faithful}

-- ---- names that are apart, and names with a meaning, as tests

abbrev all_apart : List Name → Bool
all_apart [] = true
all_apart (n ∷ ns) = not (is_in bytes_eq n ns) && all_apart ns

text_test : IsTest bytes_eq
text_test = record { sound = text_sound; complete = text_same }

names_apart : (ns : List Name) → all_apart ns ≡ true → IsDistinct ns
names_apart [] h = tt
names_apart (n ∷ ns) h =
    let both = and_parts (not (is_in bytes_eq n ns)) (all_apart ns) h in (
      λ i. (let e : is_in bytes_eq n ns ≡ true = is_in_complete bytes_eq text_test n ns i in
          let f : not (is_in bytes_eq n ns) ≡ false = ap not e in cc (f, both.0)),
      names_apart ns both.1,
    )

abbrev places_scoped : List WrittenRule → List NonterminalString → List (Option Leveled) → Bool
places_scoped rs args [] = true
places_scoped rs args (None ∷ ps) = places_scoped rs args ps
places_scoped rs args (Some a ∷ ps) = are_scoped rs args a.alternative.parts && places_scoped rs args ps

abbrev all_scoped : List WrittenRule → List WrittenRule → Bool
all_scoped rs [] = true
all_scoped rs (r ∷ more) = places_scoped rs r.args r.places && all_scoped rs more

place_scoped : (rs : List WrittenRule) (args : List NonterminalString) (ps : List (Option Leveled)) → places_scoped rs args ps ≡ true →
    (a : Leveled) → In (Some a) ps → are_scoped rs args a.alternative.parts ≡ true
place_scoped rs args [] h a i = absurd i
place_scoped rs args (None ∷ ps) h a (inl e) = absurd (cc e)
place_scoped rs args (None ∷ ps) h a (inr i) = place_scoped rs args ps h a i
place_scoped rs args (Some b ∷ ps) h a (inl e) =
    let same : a ≡ b = cc e in
    ap (λ (l : Leveled). are_scoped rs args l.alternative.parts) same
    ∙ (and_parts (are_scoped rs args b.alternative.parts) (places_scoped rs args ps) h).0
place_scoped rs args (Some b ∷ ps) h a (inr i) =
    place_scoped rs args ps (and_parts (are_scoped rs args b.alternative.parts) (places_scoped rs args ps) h).1 a i

each_scoped : (rs more : List WrittenRule) → all_scoped rs more ≡ true →
    (r : WrittenRule) (a : Leveled) → In r more → In (Some a) r.places → are_scoped rs r.args a.alternative.parts ≡ true
each_scoped rs [] h r a i j = absurd i
each_scoped rs (s ∷ more) h r a (inl e) j =
    let here = (and_parts (places_scoped rs s.args s.places) (all_scoped rs more) h).0 in
    let same : places_scoped rs r.args r.places ≡ true = ap (λ (t : WrittenRule). places_scoped rs t.args t.places) e ∙ here in
    place_scoped rs r.args r.places same a j
each_scoped rs (s ∷ more) h r a (inr i) j = each_scoped rs more (and_parts (places_scoped rs s.args s.places) (all_scoped rs more) h).1 r a i j

settled_by : (g : GrammarData) → resolved_grammar g ≡ g → all_apart (rule_names g) ≡ true → all_scoped (flat_rules g) (flat_rules g) ≡ true → IsSettled g
settled_by g e d s = record {
  resolved = e;
  once = names_apart (rule_names g) d;
  scoped = (scoped_as_written None g).2.0 (each_scoped (flat_rules g) (flat_rules g) s);
}

-- ---- a macro, a repeat and a location symbol
-- M<T> = @L T; S = <x:M<A*>>; A = "a";

abbrev small : GrammarData
small = rules_alone
    (macro_rule nowhere (codes "M") (codes "T" ∷ []) (alternative nowhere [] (symbols (lookahead ∷ (name (codes "T") ∷ []))) ∷ [])
    ∷ (rule nowhere (codes "S") (alternative nowhere [] (symbols (name_before (codes "x") (here (call (codes "M") (symbols (starred (here (name (codes "A"))) ∷ [])))) ∷ [])) ∷ [])
    ∷ (rule nowhere (codes "A") (alternative nowhere [] (symbols (literal (codes "a") ∷ [])) ∷ []) ∷ [])))

small_settled : IsSettled small
small_settled = settled_by small refl refl refl

small_whole : IsEnded example_value small 2
small_whole = refl

-- the rules of its expanded grammar are those of S, A, M<A*>, A*, A+ and @L
small_distinct : IsDistinct (rule_names (plain_grammar example_value small 2))
small_distinct = names_apart (rule_names (plain_grammar example_value small 2)) refl

small_faithful : OneToOne (flat_meaning example_value small) (text_in (flat_rules small)) (plain_table example_value small 2) (reference (codes "S") None)
small_faithful =
    (plain_rules_are_faithful example_value small small_settled 2 small_whole
    (distinct_names_mean_one_rule example_value small small_settled 2 small_distinct)).0 (reference (codes "S") None) (inl refl)

-- ---- where two symbols share a text, the names are not distinct
-- S = A?; A = "a"; and a rule whose name is the text of a repeat, as no written name is.

abbrev clashing : GrammarData
clashing = rules_alone
    (rule nowhere (codes "S") (alternative nowhere [] (symbols (optional (here (name (codes "A"))) ∷ [])) ∷ [])
    ∷ (rule nowhere (codes "A") (alternative nowhere [] (symbols (literal (codes "a") ∷ [])) ∷ [])
    ∷ (rule nowhere (codes "A?") (alternative nowhere [] (symbols (literal (codes "b") ∷ [])) ∷ []) ∷ [])))

clashing_settled : IsSettled clashing
clashing_settled = settled_by clashing refl refl refl

clash : IsDistinct (rule_names (plain_grammar example_value clashing 1)) → ⊥
clash h = h.1.1.0 (inl refl)

-- ---- names before symbols

-- In the rule of `X*` the symbol `X+` has a name, in the clauses of `X*` it has none: so they are equal only apart from wrappers.
star_is_named : (g : GrammarData) (p : Part) →
    map closed_parts (star_rule nowhere p).alternatives
    ≡ map (λ (c : Clause). c.parts) (clauses (flat_meaning example_value g) (closed (here (starred p)))) → ⊥
star_is_named g p h = cc h
