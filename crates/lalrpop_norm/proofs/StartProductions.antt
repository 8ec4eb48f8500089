-- The productions of a start symbol: one, which is its rule. So its words are the written rule's.
use Rattle.std.proofs.Common.{◌≡◌, ◌↔◌, inl, inr, ℕ, zero, suc, ◌+◌, ◌<◌, Bool, true, false, List, [], ◌∷◌, ◌++◌, map, length, refl, ap, sym, subst, ◌∙◌, arith}
use Rattle.std.specs.Prelude.{Some, option_map, unwrap_or, slice_get, bytes_eq, flat_map, replicate, if◌then◌else◌}
use Rattle.std.proofs.lemmas.Bool.{cases_Bool}
use Rattle.std.proofs.lemmas.List.{append-nil, append_cancel_left}
use Rattle.lalrpop_norm_tree_names.specs.declared.names.NonterminalString.{NonterminalString}
use Rattle.lalrpop_norm_tree.specs.Accessors.{is_public}
use Rattle.lalrpop_norm_tree.specs.Items.{RuleData, GrammarData}
use Rattle.lalrpop_norm_theory.specs.Symbols.{Name, Terminal, ClosedSymbol}
use Rattle.lalrpop_norm_theory.specs.Meaning.{Meaning}
use Rattle.lalrpop_norm_theory.specs.LoweredTrees as theory
use Rattle.lalrpop_norm_theory.specs.LoweredTrees.{nonterminal_symbol, Production, Origin, from_start, lowered_leaf, lowered_node, no_lowered, lowered_and, IsDerivation, lowered_yield}
use Rattle.lalrpop_norm_theory.specs.Clauses.{symbol_of}
use Rattle.lalrpop_norm_theory.specs.Rounds.{In}
use Rattle.lalrpop_norm_theory.specs.Laws.{OneToOne}
use Rattle.lalrpop_norm_theory.proofs.SameLemmas.{text_sound, text_same}
use Rattle.lalrpop_norm_repr.specs.Lowered.{LoweredGrammar}
use Rattle.lalrpop_norm_repr.specs.Productions.{EntryData}
use Rattle.lalrpop_norm_repr.specs.Tables.{TypeTable, found}
use Rattle.lalrpop_norm_lower.specs.Lowering.{public_rules_in, start_name}
use Rattle.lalrpop_norm_lower.specs.Shape.{OwnedAlternative, IsLoweringOf, alternatives_in_order, start_clause, start_entry_of, rule_entry_of, productions_named}
use Rattle.lalrpop_norm_model.proofs.NumberedNames.{of_rule, numbers_named, HaveOtherNames, passed_all, traced_entry, ahead, NoneNamed, HaveDistinctNames}
use Rattle.lalrpop_norm_model.proofs.GrammarLemmas.{unlike}
use Rattle.lalrpop_norm_explain.specs.Derivations.{traced, derivations}
use Rattle.lalrpop_norm.specs.Words.{IsWrittenWord, IsWordOf}
use Rattle.lalrpop_norm.proofs.ShapeTrees.{tree_symbols, traced_each, AreFree, none_in, turned}
use Rattle.lalrpop_norm.proofs.PlainShape.{others_append, none_among}
use Rattle.lalrpop_norm_lower.proofs.SourceLemmas.{replicated}

-- ---- public rules

none_public : (n : Name) (rules : List RuleData) → NoneNamed n rules → NoneNamed n (public_rules_in rules)
none_public n [] h = tt
none_public n (r ∷ rules) h = by (is_public r.visibility) (none_public n rules h.1)
  where
    by : (b : Bool) → NoneNamed n (public_rules_in rules) → NoneNamed n (if b then r ∷ public_rules_in rules else public_rules_in rules)
    by true rest = (h.0, rest)
    by false rest = rest

distinct_public : (rules : List RuleData) → HaveDistinctNames rules → HaveDistinctNames (public_rules_in rules)
distinct_public [] d = tt
distinct_public (r ∷ rules) d = by (is_public r.visibility) (distinct_public rules d.1)
  where
    by : (b : Bool) → HaveDistinctNames (public_rules_in rules) → HaveDistinctNames (if b then r ∷ public_rules_in rules else public_rules_in rules)
    by true rest = (none_public r.name.0 rules d.0, rest)
    by false rest = rest

free_at : (prefix : List ℕ) (rules some : List RuleData) → AreFree prefix rules some → (r : RuleData) → In r some → NoneNamed (prefix ++ r.name.0) rules
free_at prefix rules [] h r i = absurd i
free_at prefix rules (s ∷ some) h r (inl e) = subst (λ (x : RuleData). NoneNamed (prefix ++ x.name.0) rules) (sym e) h.0
free_at prefix rules (s ∷ some) h r (inr i) = free_at prefix rules some h.1 r i

-- ---- start names

-- other names stay others behind the prefix
other_start : (prefix a b : List ℕ) → bytes_eq a b ≡ false → bytes_eq (prefix ++ a) (prefix ++ b) ≡ false
other_start prefix a b h =
    unlike (prefix ++ a) (prefix ++ b) (bytes_eq (prefix ++ a) (prefix ++ b)) refl
    (λ e. let same : a ≡ b = append_cancel_left prefix a b e in let h' = rw same at h in cc (h', text_same b))

other_starts : (prefix : List ℕ) (n : Name) (some : List RuleData) → NoneNamed n some → HaveOtherNames (prefix ++ n) (map (start_clause prefix) some)
other_starts prefix n [] h = tt
other_starts prefix n (s ∷ some) h = (other_start prefix n s.name.0 h.0, other_starts prefix n some h.1)

-- what is found at a start name
start_row : (prefix : List ℕ) (cs : List OwnedAlternative) (rest : List (NonterminalString × EntryData)) (some : List RuleData) (r : RuleData) → In r some →
    unwrap_or (option_map (λ (n : EntryData). n.productions) (found (start_name prefix r.name) (map (start_entry_of prefix cs) some ++ rest))) []
    ≡ productions_named (start_name prefix r.name) cs
start_row prefix cs rest [] r i = absurd i
start_row prefix cs rest (s ∷ some) r i = elim (cases_Bool (bytes_eq (prefix ++ r.name.0) (prefix ++ s.name.0))) [
  | inl t ↦ (let same : prefix ++ r.name.0 ≡ prefix ++ s.name.0 = text_sound (prefix ++ r.name.0) (prefix ++ s.name.0) t in
      rw t (ap (λ (m : Name). productions_named (record { 0 = m }) cs) (sym same)))
  | inr f ↦ rw f (elim i [
    | inl e ↦ absurd (let yes : bytes_eq (prefix ++ r.name.0) (prefix ++ s.name.0) ≡ true = (rw e (text_same (prefix ++ s.name.0))) in cc (f, yes))
    | inr j ↦ start_row prefix cs rest some r j
  ])
]

-- what is listed under the name of a public rule
pub start_listed : (prefix : List ℕ) (some : List RuleData) (r : RuleData) → In r some → (n : Name) → r.name.0 ≡ n →
    found (record { 0 = n }) (map (λ (s : RuleData). (s.name, start_name prefix s.name)) some) ≡ Some (start_name prefix (record { 0 = n }))
start_listed prefix [] r i n named = absurd i
start_listed prefix (s ∷ some) r i n named = elim (cases_Bool (bytes_eq n s.name.0)) [
  | inl t ↦ (let same : n ≡ s.name.0 = text_sound n s.name.0 t in
      rw t (ap (λ (m : Name). Some (start_name prefix (record { 0 = m }))) (sym same)))
  | inr f ↦ rw f (elim i [
    | inl e ↦ absurd (let yes : bytes_eq n s.name.0 ≡ true =
        subst (λ (m : Name). bytes_eq m s.name.0 ≡ true) (sym (ap (λ (x : RuleData). x.name.0) e) ∙ named) (text_same s.name.0) in cc (f, yes))
    | inr j ↦ start_listed prefix some r j n named
  ])
]

-- the production of a start symbol
abbrev pub start_production : RuleData → Production
start_production r = record { origin = from_start; symbols = nonterminal_symbol r.name.0 ∷ [] }

-- of start symbols in a row with the origin of start symbols, and others after them, those of a start name are one
start_traced : (prefix : List ℕ) (origins : List Origin) (ds : List OwnedAlternative) (k : ℕ) (some : List RuleData) → HaveDistinctNames some →
    ((i : ℕ) → i < length some → slice_get origins (k + i) ≡ Some from_start) →
    (r : RuleData) → In r some → HaveOtherNames (prefix ++ r.name.0) ds →
    map (traced_entry origins tree_symbols) (numbers_named (prefix ++ r.name.0) k (map (start_clause prefix) some ++ ds)) ≡ start_production r ∷ []
start_traced prefix origins ds k [] d at r i h = absurd i
start_traced prefix origins ds k (s ∷ some) d at r (inl e) h =
    let here : slice_get origins k ≡ Some from_start = (let z : k + 0 ≡ k = omega arith in ap (slice_get origins) (sym z) ∙ at 0 (omega arith)) in
    let others = others_append (prefix ++ s.name.0) (map (start_clause prefix) some) ds (other_starts prefix s.name.0 some d.0)
    (subst (λ (x : RuleData). HaveOtherNames (prefix ++ x.name.0) ds) e h) in
    subst
    (λ (x : RuleData). map (traced_entry origins tree_symbols) (numbers_named (prefix ++ x.name.0) k (map (start_clause prefix) (s ∷ some) ++ ds)) ≡ start_production x ∷ [])
    (sym e)
    (rw (text_same (prefix ++ s.name.0), passed_all (prefix ++ s.name.0) (k + 1) (map (start_clause prefix) some ++ ds) others, here) refl)
start_traced prefix origins ds k (s ∷ some) d at r (inr i) h =
    rw (other_start prefix r.name.0 s.name.0 (turned s.name.0 r.name.0 (none_in s.name.0 some d.0 r i)))
    (start_traced prefix origins ds (k + 1) some d.1
    (λ j l. (let sum : k + 1 + j ≡ k + suc j = omega arith in ap (slice_get origins) sum) ∙ at (suc j) (omega arith)) r i h)

replicated_at : {A : Type 0} (m : ℕ) (x : A) (i : ℕ) → i < m → slice_get (replicate m x) i ≡ Some x
replicated_at zero x i l = absurd (omega arith)
replicated_at (suc m) x zero l = refl
replicated_at (suc m) x (suc i) l = replicated_at m x i (omega arith)

-- ---- the lowered grammar

module _ (g : GrammarData) (rules : List RuleData) (types : TypeTable) (l : LoweredGrammar) (shape : IsLoweringOf g rules types l)
    (distinct : HaveDistinctNames rules) (free : AreFree g.prefix rules (public_rules_in rules)) (os : List Origin) where
  abbrev origins : List Origin
  origins = replicate (length (public_rules_in rules)) from_start ++ os

  origin_at : (i : ℕ) → i < length (public_rules_in rules) → slice_get origins (0 + i) ≡ Some from_start
  origin_at i b =
      let count = replicated (length (public_rules_in rules)) from_start in
      (let sum : 0 + i ≡ i = omega arith in ap (slice_get origins) sum)
      ∙ ahead (replicate (length (public_rules_in rules)) from_start) os i (omega (count, b, arith))
      ∙ replicated_at (length (public_rules_in rules)) from_start i b

  -- Under the start name of each public rule is one production, which is the rule.
  pub start_derivations : (r : RuleData) → In r (public_rules_in rules) → derivations origins l (start_name g.prefix r.name).0 ≡ start_production r ∷ []
  start_derivations r i =
      let cs = alternatives_in_order g.prefix rules in
      ap (λ o. map (traced origins) (unwrap_or (option_map (λ (n : EntryData). n.productions) o) [])) (shape.nonterminals.holds (start_name g.prefix r.name))
      ∙ ap (map (traced origins)) (start_row g.prefix cs (map (rule_entry_of cs) rules) (public_rules_in rules) r i)
      ∙ traced_each origins (g.prefix ++ r.name.0) (numbers_named (g.prefix ++ r.name.0) 0 cs)
      ∙ start_traced g.prefix origins (flat_map of_rule rules) 0 (public_rules_in rules) (distinct_public rules distinct) origin_at r i
      (none_among (g.prefix ++ r.name.0) rules (free_at g.prefix rules (public_rules_in rules) free r i))

-- ---- words

-- A name whose one production is another name has the words of that name.
pub start_words : (P : theory.ProductionTable) (n : Name) (r : RuleData) → P n ≡ start_production r ∷ [] → (w : List Terminal) → IsWordOf P n w ↔ IsWordOf P r.name.0 w
start_words P n r one w = (down, up)
  where
    only : (p : ℕ) (q : Production) → slice_get (start_production r ∷ []) p ≡ Some q → q ≡ start_production r
    only zero q e = cc e
    only (suc p) q e = absurd (cc e)

    inner : (us : theory.LoweredTrees) (q : Production) → q ≡ start_production r → theory.AreDerivations P us q.symbols → theory.lowered_yields us ≡ w → IsWordOf P r.name.0 w
    inner us q e d y = by us (subst (λ (x : Production). theory.AreDerivations P us x.symbols) e d) y
      where
        by : (us : theory.LoweredTrees) → theory.AreDerivations P us (nonterminal_symbol r.name.0 ∷ []) → theory.lowered_yields us ≡ w → IsWordOf P r.name.0 w
        by no_lowered d y = absurd d
        by (lowered_and u no_lowered) d y = (u, d.0, sym (append-nil (lowered_yield u)) ∙ y)
        by (lowered_and u (lowered_and v vs)) d y = absurd d.1

    down : IsWordOf P n w → IsWordOf P r.name.0 w
    down (lowered_leaf a, d, y) = absurd (cc d)
    down (lowered_node m p us, (here, q, at, ds), y) =
        let same : n ≡ m = cc here in
        inner us q (only p q (ap (λ qs. slice_get qs p) (sym one ∙ ap P same) ∙ at)) ds y

    up : IsWordOf P r.name.0 w → IsWordOf P n w
    up (u, d, y) = (
      lowered_node n 0 (lowered_and u no_lowered),
      (refl, start_production r, ap (λ qs. slice_get qs 0) one, (d, tt)),
      append-nil (lowered_yield u) ∙ y,
    )

-- so it has the words of the written symbol that the other name is of
module _ (M : Meaning) (name : ClosedSymbol → Name) (P : theory.ProductionTable) (s : ClosedSymbol) (trees : OneToOne M name P s) where
  pub written_words : symbol_of name s ≡ nonterminal_symbol (name s) → (w : List Terminal) → IsWrittenWord M s w ↔ IsWordOf P (name s) w
  written_words named w = (down, up)
    where
      down : IsWrittenWord M s w → IsWordOf P (name s) w
      down (t, of, y) =
          let (u, (d, pairs), rest) = trees.down t of in
          (u, subst (λ x. IsDerivation P u x) named d, sym (trees.same_yields t u pairs) ∙ y)

      up : IsWordOf P (name s) w → IsWrittenWord M s w
      up (u, d, y) =
          let (t, (of, pairs), rest) = trees.up u (subst (λ x. IsDerivation P u x) (sym named) d) in
          (t, of, trees.same_yields t u pairs ∙ y)

  pub start_written : symbol_of name s ≡ nonterminal_symbol (name s) → (n : Name) (r : RuleData) → P n ≡ start_production r ∷ [] → r.name.0 ≡ name s →
      (w : List Terminal) → IsWrittenWord M s w ↔ IsWordOf P n w
  start_written named n r one same w =
      let (down, up) = written_words named w in
      let (inward, outward) = start_words P n r one w in (
        λ x. outward (subst (λ m. IsWordOf P m w) (sym same) (down x)),
        λ x. up (subst (λ m. IsWordOf P m w) same (inward x)),
      )
