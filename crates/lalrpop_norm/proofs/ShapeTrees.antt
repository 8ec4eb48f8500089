-- The productions that a lowered grammar has under the name of each rule.
use Rattle.std.proofs.Common.{◌≡◌, inl, inr, ℕ, suc, Bool, true, false, List, [], ◌∷◌, ◌++◌, map, length, refl, ap, ap₂, ◌∙◌, arith}
use Rattle.std.specs.Prelude.{Some, option_map, unwrap_or, bytes_eq, if◌then◌else◌}
use Rattle.std.proofs.lemmas.Bool.{cases_Bool}
use Rattle.lalrpop_norm_tree_names.specs.declared.names.NonterminalString.{NonterminalString}
use Rattle.lalrpop_norm_tree.specs.Items.{AlternativeData, RuleData, GrammarData}
use Rattle.lalrpop_norm_theory.specs.Symbols.{Name}
use Rattle.lalrpop_norm_theory.specs.LoweredTrees.{LoweredSymbol, Origin}
use Rattle.lalrpop_norm_theory.specs.Rounds.{In}
use Rattle.lalrpop_norm_theory.proofs.SameLemmas.{text_sound, text_same}
use Rattle.lalrpop_norm_repr.specs.Lowered.{LoweredGrammar}
use Rattle.lalrpop_norm_repr.specs.Productions.{EntryData}
use Rattle.lalrpop_norm_repr.specs.Lookups.{productions_of}
use Rattle.lalrpop_norm_repr.specs.Tables.{TypeTable, found}
use Rattle.lalrpop_norm_lower.specs.Lowering.{public_rules_in, lowered_symbols, production_of}
use Rattle.lalrpop_norm_lower.specs.Shape.{IsLoweringOf, alternatives_in_order, start_clause, productions_named, start_entry_of, rule_entry_of}
use Rattle.lalrpop_norm_model.proofs.NumberedNames.{Named, HaveOtherNames, traced_entry, NoneNamed, HaveDistinctNames, first_named}
use Rattle.lalrpop_norm_explain.specs.Derivations.{tree_symbol, traced}

abbrev pub tree_symbols : AlternativeData → List LoweredSymbol
tree_symbols a = map tree_symbol (lowered_symbols a.parts)

-- ---- productions of a name

pub traced_each : (origins : List Origin) (n : Name) (es : List (ℕ × Named)) →
    map (traced origins) (map (λ (e : ℕ × Named). production_of (record { 0 = n }) e.0 e.1.1) es) ≡ map (traced_entry origins tree_symbols) es
traced_each origins n [] = refl
traced_each origins n (e ∷ es) = ap₂ (λ x xs. x ∷ xs) refl (traced_each origins n es)

pub starts_total : (prefix : List ℕ) (rules : List RuleData) → length {A = Named} (map (start_clause prefix) rules) ≡ length rules
starts_total prefix [] = refl
starts_total prefix (r ∷ rules) = ap suc (starts_total prefix rules)

-- ---- rules found by their names

pub none_in : (n : Name) (rules : List RuleData) → NoneNamed n rules → (r : RuleData) → In r rules → bytes_eq n r.name.0 ≡ false
none_in n [] h r i = absurd i
none_in n (s ∷ rules) h r (inl e) = rw e h.0
none_in n (s ∷ rules) h r (inr i) = none_in n rules h.1 r i

pub distinct_found : (rules : List RuleData) → HaveDistinctNames rules → (r : RuleData) → In r rules → first_named rules r.name.0 ≡ Some r
distinct_found [] d r i = absurd i
distinct_found (s ∷ rules) d r (inl e) = rw (← e) (here (bytes_eq r.name.0 r.name.0) (text_same r.name.0))
  where
    here : (b : Bool) → b ≡ true → (if b then Some r else first_named rules r.name.0) ≡ Some r
    here true t = refl
    here false t = absurd (cc t)
distinct_found (s ∷ rules) d r (inr i) = there (bytes_eq s.name.0 r.name.0) (none_in s.name.0 rules d.0 r i) (distinct_found rules d.1 r i)
  where
    there : (b : Bool) → b ≡ false → first_named rules r.name.0 ≡ Some r → (if b then Some s else first_named rules r.name.0) ≡ Some r
    there true t e = absurd (cc t)
    there false t e = e

-- ---- entries

-- no row has that name
abbrev NoRow : {V : Type 0} → Name → List (NonterminalString × V) → Type 0
NoRow n [] = Unit {0}
NoRow n (x ∷ xs) = (bytes_eq n x.0.0 ≡ false) × NoRow n xs

found_behind : {V : Type 0} (n : NonterminalString) (xs ys : List (NonterminalString × V)) → NoRow n.0 xs → found n (xs ++ ys) ≡ found n ys
found_behind n [] ys h = refl
found_behind n (x ∷ xs) ys h = rw h.0 (found_behind n xs ys h.1)

-- a public rule's start name is no rule's
abbrev pub AreFree : List ℕ → List RuleData → List RuleData → Type 0
AreFree prefix rules [] = Unit {0}
AreFree prefix rules (r ∷ some) = NoneNamed (prefix ++ r.name.0) rules × AreFree prefix rules some

pub turned : (a b : Name) → bytes_eq a b ≡ false → bytes_eq b a ≡ false
turned a b h = elim (cases_Bool (bytes_eq b a)) [
  | inl t ↦ absurd (let same : b ≡ a = text_sound b a t in let h' = rw same at h in cc (h', text_same a))
  | inr f ↦ f
]

no_start_row : (prefix : List ℕ) (rules some : List RuleData) (cs : List Named) → AreFree prefix rules some → (r : RuleData) → In r rules →
    NoRow r.name.0 (map (start_entry_of prefix cs) some)
no_start_row prefix rules [] cs h r i = tt
no_start_row prefix rules (s ∷ some) cs h r i =
    (turned (prefix ++ s.name.0) r.name.0 (none_in (prefix ++ s.name.0) rules h.0 r i), no_start_row prefix rules some cs h.1 r i)

pub no_start_name : (prefix : List ℕ) (rules some : List RuleData) → AreFree prefix rules some → (r : RuleData) → In r rules →
    HaveOtherNames r.name.0 (map (start_clause prefix) some)
no_start_name prefix rules [] h r i = tt
no_start_name prefix rules (s ∷ some) h r i =
    (turned (prefix ++ s.name.0) r.name.0 (none_in (prefix ++ s.name.0) rules h.0 r i), no_start_name prefix rules some h.1 r i)

rule_row : (cs : List Named) (rules : List RuleData) (r : RuleData) → first_named rules r.name.0 ≡ Some r →
    found r.name (map (rule_entry_of cs) rules) ≡ Some (rule_entry_of cs r).1
rule_row cs [] r e = absurd (grind arith)
rule_row cs (s ∷ rules) r e = elim (cases_Bool (bytes_eq s.name.0 r.name.0)) [
  | inl t ↦ (let e' = rw t at e in
      let same : s ≡ r = cc e' in
      rw (same, text_same r.name.0) refl)
  | inr f ↦ (let e' = rw f at e in rw (turned s.name.0 r.name.0 f) (rule_row cs rules r e'))
]

-- ---- productions of the lowered grammar

module _ (g : GrammarData) (rules : List RuleData) (types : TypeTable) (l : LoweredGrammar) (shape : IsLoweringOf g rules types l)
    (distinct : HaveDistinctNames rules) (free : AreFree g.prefix rules (public_rules_in rules)) where
  pub productions_at : (r : RuleData) → In r rules → productions_of r.name l ≡ productions_named r.name (alternatives_in_order g.prefix rules)
  productions_at r i =
      let cs = alternatives_in_order g.prefix rules in
      let looked : found r.name l.nonterminals ≡ Some (rule_entry_of cs r).1 =
      (shape.nonterminals.holds r.name
      ∙ found_behind r.name (map (start_entry_of g.prefix cs) (public_rules_in rules)) (map (rule_entry_of cs) rules)
      (no_start_row g.prefix rules (public_rules_in rules) cs free r i)
      ∙ rule_row cs rules r (distinct_found rules distinct r i)) in
      ap (λ o. unwrap_or (option_map (λ (n : EntryData). n.productions) o) []) looked
