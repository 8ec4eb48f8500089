-- Where each symbol that is reached has a rule of its text, each name in what symbols are replaced by has a rule: in
-- alternatives, and in the types that generated rules declare.
use Rattle.std.proofs.Common.{◌≡◌, inl, inr, ℕ, Bool, true, false, Option, Some, None, List, [], ◌∷◌, ◌++◌, map, refl, ap, sym, subst, ◌∙◌}
use Rattle.std.specs.Prelude.{flat_map, option_map, option_to_list, bytes_eq, if◌then◌else◌}
use Rattle.lalrpop_norm_tree_names.specs.declared.names.NonterminalString.{NonterminalString}
use Rattle.lalrpop_norm_tree_names.specs.declared.names.Span.{Span}
use Rattle.lalrpop_norm_tree_names.specs.declared.names.TerminalString.{TerminalString}
use Rattle.lalrpop_norm_tree.specs.declared.symbol.RepeatOp.TheVariants.{Star, Plus, Question, Times}
use Rattle.lalrpop_norm_tree.specs.Symbols.{Kind, Part, Parts, group, ambiguous_id, terminal, nonterminal, call, repeated, chosen, named, tupled, lookahead, lookbehind, error_terminal, at, no_parts, part_and}
use Rattle.lalrpop_norm_tree.specs.Traversal.{inner}
use Rattle.lalrpop_norm_tree.specs.SymbolTexts.{kind_text, part_text}
use Rattle.lalrpop_norm_tree.specs.Types.{TypeData, TypesData, MaybeType, tuple, slice, nominal, reference, trait_object, of_lifetime, id, of_symbol, function, no_types, type_and, no_type, returns, types_of}
use Rattle.lalrpop_norm_tree.specs.Items.{RuleData}
use Rattle.lalrpop_norm_theory.specs.Rounds.{In}
use Rattle.lalrpop_norm_theory.proofs.RoundsLemmas.{in_left, in_right, in_cases}
use Rattle.lalrpop_norm_theory.proofs.ListLemmas.{in_one}
use Rattle.lalrpop_norm_model.specs.Grammars.{ConditionValue}
use Rattle.lalrpop_norm_model.specs.MadeRules.{kind_of, chosen_kinds, all_kinds, if_any, group_sources, type_of_kind, bare_or_tuple, group_rule, star_rule, plus_rule, question_rule, times_rule, argument_kind, type_of_name, type_substituted, types_substituted, returned_substituted, instance_rule, instance_of, macro_named, made_rules}
use Rattle.lalrpop_norm_model.specs.Replaced.{is_desugared, replaced_kind, replaced, all_replaced}
use Rattle.lalrpop_norm_model.specs.PlainRules.{met, all_met}
use Rattle.lalrpop_norm_model.specs.Expanded.{is_plain_terminal, is_plain_kind, names_in_kind, names_in, names_in_parts, symbols_in, symbols_in_all, symbols_in_return, declared_symbols}
use Rattle.lalrpop_norm_model.proofs.InferenceLemmas.{both_empty}
use Rattle.lalrpop_norm_model.proofs.MetLemmas.{met_level}
use Rattle.lalrpop_norm.proofs.ExpandedParts.{IsReadyKind, IsReady, AreReady, kind_plain}

-- a symbol that is desugared is reached
itself_met : (s : Span) (k : Kind) → is_desugared k ≡ true → In (at s k) (met (at s k))
itself_met s k e =
    subst (λ (ms : List Part). In (at s k) ms) (sym (met_level s k ∙ ap (λ b. if b then all_met (inner k) ++ at s k ∷ [] else all_met (inner k)) e))
    (in_right (at s k) (all_met (inner k)) (at s k ∷ []) (inl refl))

-- ---- macros and their arguments

-- a macro that is found is one of them
pub named_listed : (macros : List RuleData) (n : List ℕ) (d : RuleData) → macro_named macros n ≡ Some d → In d macros
named_listed [] n d e = cc e
named_listed (x ∷ xs) n d e = by (bytes_eq x.name.0 n) (named_listed xs n d) e
  where
    by : (b : Bool) → (macro_named xs n ≡ Some d → In d xs) → (if b then Some x else macro_named xs n) ≡ Some d → In d (x ∷ xs)
    by true f h = inl cc
    by false f h = inr (f h)

-- what an argument is bound to is one of the arguments
pub argument_listed : (params : List NonterminalString) (ps : Parts) (n : List ℕ) (k : Kind) → argument_kind params ps n ≡ Some k → In k (all_kinds ps)
argument_listed [] no_parts n k e = absurd (cc e)
argument_listed [] (part_and p ps) n k e = absurd (cc e)
argument_listed (a ∷ params) no_parts n k e = absurd (cc e)
argument_listed (a ∷ params) (part_and p ps) n k e = by (bytes_eq a.0 n) (argument_listed params ps n k) e
  where
    by : (b : Bool) → (argument_kind params ps n ≡ Some k → In k (all_kinds ps)) → (if b then Some (kind_of p) else argument_kind params ps n) ≡ Some k →
        In k (kind_of p ∷ all_kinds ps)
    by true f h = inl cc
    by false f h = inr (f h)

-- Where no symbol occurs in a type, those that come into it are arguments.
module _ (argument : List ℕ → Option Kind) where
  abbrev IsPut : Kind → Type 0
  IsPut k = (n : List ℕ) × (j : Kind) × (argument n ≡ Some j) × (k ≡ replaced_kind j)

  name_put : (n : List ℕ) (o : Option Kind) → argument n ≡ o → (k : Kind) → In k (symbols_in (type_of_name n o)) → IsPut k
  name_put n None e k i = absurd i
  name_put n (Some j) e k (inl is) = (n, j, e, is)
  name_put n (Some j) e k (inr i) = absurd i

  mutual
    type_put : (t : TypeData) → symbols_in t ≡ [] → (k : Kind) → In k (symbols_in (type_substituted argument t)) → IsPut k
    type_put (id n) e k i = name_put n (argument n) refl k i
    type_put (tuple ts) e k i = types_put ts e k i
    type_put (slice t) e k i = type_put t e k i
    type_put (nominal p ts) e k i = types_put ts e k i
    type_put (reference l m t) e k i = type_put t e k i
    type_put (trait_object p ts) e k i = types_put ts e k i
    type_put (of_lifetime l) e k i = absurd i
    type_put (of_symbol j) e k i = absurd (cc e)
    type_put (function fs p ts r) e k i =
        let none = both_empty (symbols_in_all ts) (symbols_in_return r) e in
        elim (in_cases k (symbols_in_all (types_substituted argument ts)) (symbols_in_return (returned_substituted argument r)) i) [
          | inl j ↦ types_put ts none.0 k j
          | inr j ↦ returned_put r none.1 k j
        ]

    types_put : (ts : TypesData) → symbols_in_all ts ≡ [] → (k : Kind) → In k (symbols_in_all (types_substituted argument ts)) → IsPut k
    types_put no_types e k i = absurd i
    types_put (type_and t ts) e k i =
        let none = both_empty (symbols_in t) (symbols_in_all ts) e in
        elim (in_cases k (symbols_in (type_substituted argument t)) (symbols_in_all (types_substituted argument ts)) i) [
          | inl j ↦ type_put t none.0 k j
          | inr j ↦ types_put ts none.1 k j
        ]

    returned_put : (r : MaybeType) → symbols_in_return r ≡ [] → (k : Kind) → In k (symbols_in_return (returned_substituted argument r)) → IsPut k
    returned_put no_type e k i = absurd i
    returned_put (returns t) e k i = type_put t e k i

  declared_put : (o : Option TypeData) → flat_map symbols_in (option_to_list o) ≡ [] → (k : Kind) →
      In k (flat_map symbols_in (option_to_list (option_map (type_substituted argument) o))) → IsPut k
  declared_put None e k i = absurd i
  declared_put (Some t) e k i = elim (in_cases k (symbols_in (type_substituted argument t)) [] i) [
    | inl j ↦ type_put t (both_empty (symbols_in t) [] e).0 k j
    | inr j ↦ absurd j
  ]

module _ (P : TerminalString → Type 0) (plain : (t : TerminalString) → P t → is_plain_terminal t ≡ true) (S : List (List ℕ)) where
  abbrev pub Named : List ℕ → Type 0
  Named n = In n S

  -- each symbol that is reached has a rule of its text
  abbrev pub Covered : List Part → Type 0
  Covered ms = (q : Part) → In q ms → Named (part_text q)

  covered_left : (xs ys : List Part) → Covered (xs ++ ys) → Covered xs
  covered_left xs ys c q i = c q (in_left q xs ys i)

  covered_right : (xs ys : List Part) → Covered (xs ++ ys) → Covered ys
  covered_right xs ys c q i = c q (in_right q xs ys i)

  same_name : (n m : List ℕ) → Named m → In n (m ∷ []) → Named n
  same_name n m h i = subst Named (sym (in_one n m i)) h

  mutual
    kind_named : (s : Span) (k : Kind) → IsReadyKind P Named k → Covered (met (at s k)) → (n : List ℕ) → In n (names_in_kind (replaced_kind k)) → Named n
    kind_named s (chosen p) h c n i = part_named p h c n i
    kind_named s (named m p) h c n i = part_named p h c n i
    kind_named s (tupled ns p) h c n i = part_named p h c n i
    kind_named s (ambiguous_id a) h c n i = absurd h
    kind_named s (terminal t) h c n i = absurd i
    kind_named s (nonterminal m) h c n i = same_name n m h i
    kind_named s error_terminal h c n i = absurd i
    kind_named s k h c n i = same_name n (kind_text k) (c (at s k) (itself_met s k refl)) i

    part_named : (p : Part) → IsReady P Named p → Covered (met p) → (n : List ℕ) → In n (names_in (replaced p)) → Named n
    part_named (at s k) h c n i = kind_named s k h c n i

  pub parts_named : (ps : Parts) → AreReady P Named ps → Covered (all_met ps) → (n : List ℕ) → In n (names_in_parts (all_replaced ps)) → Named n
  parts_named no_parts h c n i = absurd i
  parts_named (part_and p ps) h c n i = elim (in_cases n (names_in (replaced p)) (names_in_parts (all_replaced ps)) i) [
    | inl j ↦ part_named p h.0 (covered_left (met p) (all_met ps) c) n j
    | inr j ↦ parts_named ps h.1 (covered_right (met p) (all_met ps) c) n j
  ]

  -- ---- symbols in declared types

  -- a plain symbol whose names have rules
  abbrev pub IsSettledSymbol : Kind → Type 0
  IsSettledSymbol k = (is_plain_kind k ≡ true) × ((n : List ℕ) → In n (names_in_kind k) → Named n)

  part_settled : (p : Part) → IsReady P Named p → Covered (met p) → IsSettledSymbol (replaced_kind (kind_of p))
  part_settled (at s k) h c = (kind_plain P Named plain k h, kind_named s k h c)

  all_settled : (ps : Parts) → AreReady P Named ps → Covered (all_met ps) → (k : Kind) → In k (all_kinds ps) → IsSettledSymbol (replaced_kind k)
  all_settled no_parts h c k i = absurd i
  all_settled (part_and p ps) h c k (inl e) =
      subst (λ j. IsSettledSymbol (replaced_kind j)) (sym e) (part_settled p h.0 (covered_left (met p) (all_met ps) c))
  all_settled (part_and p ps) h c k (inr i) = all_settled ps h.1 (covered_right (met p) (all_met ps) c) k i

  chosen_settled : (ps : Parts) → AreReady P Named ps → Covered (all_met ps) → (k : Kind) → In k (chosen_kinds ps) → IsSettledSymbol (replaced_kind k)
  chosen_settled no_parts h c k i = absurd i
  chosen_settled (part_and (at s (chosen p)) ps) h c k (inl e) =
      subst (λ j. IsSettledSymbol (replaced_kind j)) (sym e) (part_settled p h.0 (covered_left (met p) (all_met ps) c))
  chosen_settled (part_and (at s (chosen p)) ps) h c k (inr i) = chosen_settled ps h.1 (covered_right (met p) (all_met ps) c) k i
  chosen_settled (part_and (at s x) ps) h c k i = chosen_settled ps h.1 (covered_right (met (at s x)) (all_met ps) c) k i

  either : (Q : Kind → Type 0) (xs ys : List Kind) → ((k : Kind) → In k xs → Q k) → ((k : Kind) → In k ys → Q k) → (k : Kind) → In k (if_any xs ys) → Q k
  either Q [] ys f g k i = g k i
  either Q (x ∷ xs) ys f g k i = f k i

  sources_settled : (ps : Parts) → AreReady P Named ps → Covered (all_met ps) → (k : Kind) → In k (group_sources ps) → IsSettledSymbol (replaced_kind k)
  sources_settled ps h c =
      either (λ k. IsSettledSymbol (replaced_kind k)) (chosen_kinds ps) (all_kinds ps) (chosen_settled ps h c) (all_settled ps h c)

  -- the symbols in the type of some symbols are these
  abbrev Among : Kind → List Kind → Type 0
  Among k ks = (j : Kind) × In j ks × (k ≡ replaced_kind j)

  more_among : (k j : Kind) (ks : List Kind) → Among k ks → Among k (j ∷ ks)
  more_among k j ks a = (a.0, inr a.1, a.2)

  types_among : (ks : List Kind) (k : Kind) → In k (symbols_in_all (types_of (map type_of_kind ks))) → Among k ks
  types_among [] k i = absurd i
  types_among (j ∷ ks) k (inl e) = (j, inl refl, e)
  types_among (j ∷ ks) k (inr i) = more_among k j ks (types_among ks k i)

  type_among : (ks : List Kind) (k : Kind) → In k (symbols_in (bare_or_tuple (map type_of_kind ks))) → Among k ks
  type_among [] k i = absurd i
  type_among (j ∷ []) k i = (j, inl refl, in_one k (replaced_kind j) i)
  type_among (j ∷ l ∷ ks) k i = types_among (j ∷ l ∷ ks) k i

  -- where nothing follows
  no_more : {A : Type 0} (x : A) (xs : List A) → In x (xs ++ []) → In x xs
  no_more x xs i = elim (in_cases x xs [] i) [ inl j ↦ j | inr j ↦ absurd j ]

  of_only : (d r : RuleData) → ((k : Kind) → In k (declared_symbols d) → IsSettledSymbol k) → In r (d ∷ []) → (k : Kind) → In k (declared_symbols r) → IsSettledSymbol k
  of_only d r f i k j = f k (subst (λ (x : RuleData). In k (declared_symbols x)) (in_one r d i) j)

  sole_settled : (d r : RuleData) → In r (d ∷ []) → ((k : Kind) → In k (declared_symbols d) → IsSettledSymbol k) → (k : Kind) → In k (declared_symbols r) →
      IsSettledSymbol k
  sole_settled d r i f = of_only d r f i

  one_symbol : (p : Part) → IsReady P Named p → Covered (met p) → (k : Kind) → In k (replaced_kind (kind_of p) ∷ []) → IsSettledSymbol k
  one_symbol p h c k i = subst IsSettledSymbol (sym (in_one k (replaced_kind (kind_of p)) i)) (part_settled p h c)

  -- an instance declares the type of its macro, into which its arguments come
  instance_settled : (value : ConditionValue) (s : Span) (d : RuleData) (ps : Parts) → declared_symbols d ≡ [] → AreReady P Named ps → Covered (all_met ps) →
      (k : Kind) → In k (declared_symbols (instance_rule value s d ps)) → IsSettledSymbol k
  instance_settled value s d ps bare h c k i =
      let (n, j, is, e) = declared_put (argument_kind d.args ps) d.type_decl bare k i in
      subst IsSettledSymbol (sym e) (all_settled ps h c j (argument_listed d.args ps n j is))

  -- The symbols in the declared type of a generated rule are plain, and their names have rules.
  pub made_settled : (value : ConditionValue) (macros : List RuleData) → ((d : RuleData) → In d macros → declared_symbols d ≡ []) →
      (p : Part) → IsReady P Named p → Covered (met p) → (r : RuleData) → In r (made_rules value macros p) → (k : Kind) → In k (declared_symbols r) → IsSettledSymbol k
  made_settled value macros bare (at s (group ps)) h c r i k j = of_only (group_rule s ps) r f i k j
    where
      f : (x : Kind) → In x (declared_symbols (group_rule s ps)) → IsSettledSymbol x
      f x m =
          let a = type_among (group_sources ps) x (no_more x (symbols_in (bare_or_tuple (map type_of_kind (group_sources ps)))) m) in
          subst IsSettledSymbol (sym a.2) (sources_settled ps h (covered_left (all_met ps) (at s (group ps) ∷ []) c) a.0 a.1)
  made_settled value macros bare (at s (call n ps)) h c r i k j = by (macro_named macros n) (named_listed macros n) i
    where
      by : (o : Option RuleData) → ((d : RuleData) → o ≡ Some d → In d macros) → In r (instance_of value s o ps) → IsSettledSymbol k
      by None f i = absurd i
      by (Some d) f i =
          of_only (instance_rule value s d ps) r (instance_settled value s d ps (bare d (f d refl)) h (covered_left (all_met ps) (at s (call n ps) ∷ []) c)) i k j
  made_settled value macros bare (at s (repeated Star p)) h c r i k j = of_only (star_rule s p) r (one_symbol p h (covered_left (met p) (at s (repeated Star p) ∷ []) c)) i k j
  made_settled value macros bare (at s (repeated Plus p)) h c r i k j = of_only (plus_rule s p) r (one_symbol p h (covered_left (met p) (at s (repeated Plus p) ∷ []) c)) i k j
  made_settled value macros bare (at s (repeated Question p)) h c r i k j = of_only (question_rule s p) r (one_symbol p h (covered_left (met p) (at s (repeated Question p) ∷ []) c)) i k j
  made_settled value macros bare (at s (repeated (Times n) p)) h c r i k j = of_only (times_rule s n p) r (one_symbol p h (covered_left (met p) (at s (repeated (Times n) p) ∷ []) c)) i k j
  made_settled value macros bare (at s lookahead) h c r i k j = sole_settled _ r i (λ y m. absurd m) k j
  made_settled value macros bare (at s lookbehind) h c r i k j = sole_settled _ r i (λ y m. absurd m) k j
  made_settled value macros bare (at s _) h c r i k j = absurd i
