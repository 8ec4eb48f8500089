-- The productions of a lowered grammar, each with its origin, are those of its rules as a table.
use Rattle.std.proofs.Common.{◌≡◌, inl, inr, ℕ, zero, suc, ◌+◌, ◌≤◌, true, false, List, [], ◌∷◌, ◌++◌, map, length, refl, ap, ap₂, sym, subst, ◌∙◌, arith}
use Rattle.std.specs.Prelude.{Some, slice_get, bytes_eq, flat_map, replicate, drop}
use Rattle.std.proofs.lemmas.Bool.{cases_Bool}
use Rattle.std.proofs.lemmas.List.{length-append, length-drop}
use Rattle.lalrpop_norm_tree_names.specs.declared.names.NonterminalString.{NonterminalString}
use Rattle.lalrpop_norm_tree.specs.Items.{AlternativeData, RuleData, GrammarData}
use Rattle.lalrpop_norm_tree.specs.Symbols as written
use Rattle.lalrpop_norm_tree.specs.Symbols.{Kind, Part, Parts, at, no_parts, part_and}
use Rattle.lalrpop_norm_theory.specs.Symbols.{Name}
use Rattle.lalrpop_norm_theory.specs.LoweredTrees.{LoweredSymbol, Production, Origin, from_start}
use Rattle.lalrpop_norm_theory.specs.Rounds.{In, IsDistinct}
use Rattle.lalrpop_norm_theory.specs.Tables.{table}
use Rattle.lalrpop_norm_theory.proofs.SameLemmas.{text_sound, text_same}
use Rattle.lalrpop_norm_repr.specs.Lowered.{LoweredGrammar}
use Rattle.lalrpop_norm_repr.specs.Tables.{TypeTable}
use Rattle.lalrpop_norm_lower.specs.Lowering as late
use Rattle.lalrpop_norm_lower.specs.Lowering.{public_rules_in, lowered_symbol, lowered_symbols}
use Rattle.lalrpop_norm_lower.specs.Shape.{IsLoweringOf, alternatives_in_order, start_clause}
use Rattle.lalrpop_norm_model.specs.PlainTables.{plain_symbol_kind, lowered_part, lowered_parts, productions_with_origins, rules_from}
use Rattle.lalrpop_norm_model.proofs.NumberedNames.{Named, of_rule, numbers_named, HaveOtherNames, passed, passed_all, traced_entry, behind, NoneNamed, HaveDistinctNames}
use Rattle.lalrpop_norm_model.proofs.GrammarLemmas.{unlike}
use Rattle.lalrpop_norm_explain.specs.Derivations.{tree_symbol, traced, derivations}
use Rattle.lalrpop_norm.proofs.ShapeTrees.{tree_symbols, traced_each, starts_total, no_start_name, productions_at, AreFree, turned}
use Rattle.lalrpop_norm_lower.proofs.SourceLemmas.{replicated}

-- ---- symbols

mutual
  kind_same : (k : Kind) → tree_symbol (late.lowered_kind k) ≡ plain_symbol_kind k
  kind_same (written.chosen p) = part_same p
  kind_same (written.named n p) = part_same p
  kind_same (written.tupled ns p) = part_same p
  kind_same _ = refl

  part_same : (p : Part) → tree_symbol (lowered_symbol p) ≡ lowered_part p
  part_same (at s k) = kind_same k

parts_same : (ps : Parts) → map tree_symbol (lowered_symbols ps) ≡ lowered_parts ps
parts_same no_parts = refl
parts_same (part_and p ps) = ap₂ ◌∷◌ (part_same p) (parts_same ps)

-- ---- names

others_of : (n : Name) (m : NonterminalString) (xs : List AlternativeData) → bytes_eq n m.0 ≡ false → HaveOtherNames n (map (λ (a : AlternativeData). (m, a)) xs)
others_of n m [] h = tt
others_of n m (a ∷ xs) h = (h, others_of n m xs h)

pub others_append : (n : Name) (cs ds : List Named) → HaveOtherNames n cs → HaveOtherNames n ds → HaveOtherNames n (cs ++ ds)
others_append n [] ds h i = i
others_append n (c ∷ cs) ds h i = (h.0, others_append n cs ds h.1 i)

pub none_among : (n : Name) (rules : List RuleData) → NoneNamed n rules → HaveOtherNames n (flat_map of_rule rules)
none_among n [] h = tt
none_among n (r ∷ rules) h = others_append n (of_rule r) (flat_map of_rule rules) (others_of n r.name r.alternatives h.0) (none_among n rules h.1)

pub none_listed : (n : Name) (rules : List RuleData) → (In n (map (λ (r : RuleData). r.name.0) rules) → ⊥) → NoneNamed n rules
none_listed n [] h = tt
none_listed n (r ∷ rules) h = (unlike n r.name.0 (bytes_eq n r.name.0) refl (λ e. h (inl e)), none_listed n rules (λ i. h (inr i)))

pub distinct_listed : (rules : List RuleData) → IsDistinct (map (λ (r : RuleData). r.name.0) rules) → HaveDistinctNames rules
distinct_listed [] h = tt
distinct_listed (r ∷ rules) h = (none_listed r.name.0 rules h.0, distinct_listed rules h.1)

pub free_listed : (prefix : List ℕ) (rules some : List RuleData) →
    ((r : RuleData) → In r some → In (prefix ++ r.name.0) (map (λ (s : RuleData). s.name.0) rules) → ⊥) → AreFree prefix rules some
free_listed prefix rules [] h = tt
free_listed prefix rules (r ∷ some) h = (none_listed (prefix ++ r.name.0) rules (h r (inl refl)), free_listed prefix rules some (λ s i. h s (inr i)))

-- ---- origins in a row

dropped : {A : Type 0} (m : ℕ) (xs : List A) (i : ℕ) → slice_get xs (m + i) ≡ slice_get (drop m xs) i
dropped zero xs i = (let same : 0 + i ≡ i = omega arith in ap (slice_get xs) same)
dropped (suc m) [] i = refl
dropped (suc m) (x ∷ xs) i = (let same : suc m + i ≡ suc (m + i) = omega arith in ap (slice_get (x ∷ xs)) same ∙ dropped m xs i)

named_total : (m : NonterminalString) (xs : List AlternativeData) → length {A = Named} (map (λ (a : AlternativeData). (m, a)) xs) ≡ length xs
named_total m [] = refl
named_total m (a ∷ xs) = ap suc (named_total m xs)

module _ (origins : List Origin) where
  -- the alternatives of the rule of that name, and others after them
  rule_traced : (n : Name) (m : NonterminalString) → bytes_eq n m.0 ≡ true → (k : ℕ) (os : List Origin) (xs : List AlternativeData) (ds : List Named) →
      HaveOtherNames n ds → length xs ≤ length os → ((i : ℕ) → slice_get origins (k + i) ≡ slice_get os i) →
      map (traced_entry origins tree_symbols) (numbers_named n k (map (λ (a : AlternativeData). (m, a)) xs ++ ds)) ≡ productions_with_origins os xs
  rule_traced n m e k os [] ds h b origin = rw (passed_all n k ds h) refl
  rule_traced n m e k [] (a ∷ xs) ds h b origin = absurd (omega arith)
  rule_traced n m e k (o ∷ os) (a ∷ xs) ds h b origin =
      let here : slice_get origins k ≡ Some o = (let z : k + 0 ≡ k = omega arith in ap (slice_get origins) (sym z) ∙ origin 0) in
      rw (e, here)
      (ap₂ (λ (ss : List LoweredSymbol) (ps : List Production). record { origin = o; symbols = ss } ∷ ps) (parts_same a.parts)
      (rule_traced n m e (k + 1) os xs ds h (omega arith)
      (λ i. (let s : k + 1 + i ≡ k + suc i = omega arith in ap (slice_get origins) s) ∙ origin (suc i))))

  -- the origins of the rules are in a row from k on
  rules_traced : (n : Name) (k : ℕ) (os : List Origin) (rules : List RuleData) → HaveDistinctNames rules →
      length (flat_map (λ (r : RuleData). r.alternatives) rules) ≤ length os → ((i : ℕ) → slice_get origins (k + i) ≡ slice_get os i) →
      map (traced_entry origins tree_symbols) (numbers_named n k (flat_map of_rule rules)) ≡ table (rules_from os rules) n
  rules_traced n k os [] d b origin = refl
  rules_traced n k os (s ∷ rules) d b origin =
      let sum = length-append s.alternatives (flat_map (λ (r : RuleData). r.alternatives) rules) in
      let left = length-drop (length s.alternatives) os in
      let total = named_total s.name s.alternatives in
      elim (cases_Bool (bytes_eq s.name.0 n)) [
        | inl t ↦ (let same : s.name.0 ≡ n = text_sound s.name.0 n t in
            let yes : bytes_eq n s.name.0 ≡ true = (rw same (text_same n)) in
            rw t
            (rule_traced n s.name yes k os s.alternatives (flat_map of_rule rules)
            (none_among n rules (subst (λ m. NoneNamed m rules) same d.0)) (omega (sum, b, arith)) origin))
        | inr f ↦
            rw (f, passed n k (of_rule s) (flat_map of_rule rules) (others_of n s.name s.alternatives (turned s.name.0 n f)))
            (rules_traced n (k + length (of_rule s)) (drop (length s.alternatives) os) rules d.1 (omega (sum, left, b, arith))
            (λ i. (let e : k + length (of_rule s) + i ≡ k + (length s.alternatives + i) = omega (total, arith) in ap (slice_get origins) e)
            ∙ origin (length s.alternatives + i) ∙ dropped (length s.alternatives) os i))
      ]

-- ---- the lowered grammar

module _ (g : GrammarData) (rules : List RuleData) (types : TypeTable) (l : LoweredGrammar) (shape : IsLoweringOf g rules types l)
    (distinct : HaveDistinctNames rules) (free : AreFree g.prefix rules (public_rules_in rules)) (os : List Origin)
    (counted : length os ≡ length (flat_map (λ (r : RuleData). r.alternatives) rules)) where
  abbrev origins : List Origin
  origins = replicate (length (public_rules_in rules)) from_start ++ os

  origin_at : (i : ℕ) → slice_get origins (0 + length (map (start_clause g.prefix) (public_rules_in rules)) + i) ≡ slice_get os i
  origin_at i =
      let starts = starts_total g.prefix (public_rules_in rules) in
      let count = replicated (length (public_rules_in rules)) from_start in
      (let sum : 0 + length (map (start_clause g.prefix) (public_rules_in rules)) + i ≡ length (replicate (length (public_rules_in rules)) from_start) + i = omega (starts, count, arith) in
      ap (slice_get origins) sum)
      ∙ behind (replicate (length (public_rules_in rules)) from_start) os i

  -- Under the name of each rule are the productions of its alternatives, with the next origins.
  pub shape_derivations : (r : RuleData) → In r rules → derivations origins l r.name.0 ≡ table (rules_from os rules) r.name.0
  shape_derivations r i =
      ap (map (traced origins)) (productions_at g rules types l shape distinct free r i)
      ∙ traced_each origins r.name.0 (numbers_named r.name.0 0 (alternatives_in_order g.prefix rules))
      ∙ ap (map (traced_entry origins tree_symbols))
      (passed r.name.0 0 (map (start_clause g.prefix) (public_rules_in rules)) (flat_map of_rule rules)
      (no_start_name g.prefix rules (public_rules_in rules) free r i))
      ∙ rules_traced origins r.name.0 (0 + length (map (start_clause g.prefix) (public_rules_in rules))) os rules distinct (omega (counted, arith)) origin_at
