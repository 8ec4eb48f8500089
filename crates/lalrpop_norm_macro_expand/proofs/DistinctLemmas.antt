-- if no fault holds in an expansion, the names of the rules of its expanded grammar are as distinct as those of the rules of the
-- grammar.
use Rattle.std.proofs.Common.{◌≡◌, ◌≢◌, ◌⊎◌, inl, inr, ℕ, zero, suc, ◌+◌, ◌<◌, ◌≤◌, List, [], ◌∷◌, ◌++◌, Bool, true, false, map, reverse, Option, Some, None, bytes_eq, refl, sym, ap, ◌∙◌, subst, arith}
use Rattle.std.specs.Prelude.{◌||◌, flat_map, filter, if◌then◌else◌}
use Rattle.std.proofs.lemmas.List.{map-append}
use Rattle.std.proofs.lemmas.Slice.Eq.{bytes_eq-Decides}
use Rattle.lalrpop_norm_tree_names.specs.declared.names.Span.{Span}
use Rattle.lalrpop_norm_tree.specs.declared.symbol.RepeatOp.{RepeatOp}
use Rattle.lalrpop_norm_tree.specs.declared.symbol.RepeatOp.TheVariants.{Star, Plus, Question, Times}
use Rattle.lalrpop_norm_tree.specs.Symbols.{Part, Parts, group, call, repeated, lookahead, lookbehind, at}
use Rattle.lalrpop_norm_tree.specs.Items.{RuleData, GrammarData}
use Rattle.lalrpop_norm_tree.specs.SymbolTexts.{part_text, kind_text}
use Rattle.lalrpop_norm_faults.specs.declared.kind.FaultKind.TheVariants.{SharedName}
use Rattle.lalrpop_norm_faults.specs.Faults.{Fault, first}
use Rattle.lalrpop_norm_theory.specs.Rounds.{In, IsDistinct, Round, fresh_of}
use Rattle.lalrpop_norm_theory.proofs.RoundsLemmas.{in_left, in_right, in_cases, of_reverse}
use Rattle.lalrpop_norm_model.specs.Grammars.{ConditionValue, is_nil}
use Rattle.lalrpop_norm_model.specs.MadeRules.{made_rules, instance_of, macro_named, span_of}
use Rattle.lalrpop_norm_model.specs.Expanded.{rule_names}
use Rattle.lalrpop_norm_model.specs.PlainRules.{all_rules, rules_without_arguments, macros_of, replaced_rule, same_apart_from_spans, expansion_round, made_symbols, made_in, plain_grammar}
use Rattle.lalrpop_norm_model.proofs.FaithfulLemmas.{plain_grammars_hold_plain_rules}
use Rattle.lalrpop_norm_macro_expand_rules.specs.Names.{is_declared_name}
use Rattle.lalrpop_norm_macro_expand.specs.Expansion.{meetings, met_before, shared_in, unmade_in, faults_from, expansion_faults}
use Rattle.lalrpop_norm_macro_expand.specs.Laws.{NamesStayDistinct}
use Rattle.lalrpop_norm_nodes.specs.Meeting.{first_with_text, joined_by, after_one, after, clashes, clash_faults}
use Rattle.lalrpop_norm_faults.proofs.FaultLemmas.{none_first}
use Rattle.lalrpop_norm_macro_expand.proofs.FreshLemmas.{Tells, after_fresh, first_same, tells_after}
use Rattle.lalrpop_norm_nodes.proofs.SamenessLemmas.{none_if, or_false}
use Rattle.lalrpop_norm_theory.proofs.MadeLemmas.{distinct_append, distinct_reverse}
use Rattle.lalrpop_norm_theory.proofs.ListLemmas.{map_reverse, distinct_right, distinct_apart}

-- ---- texts of the symbols kept

abbrev texts : List Part → List (List ℕ)
texts ps = map part_text ps

none_in : (t : List ℕ) (seen : List Part) → first_with_text t seen ≡ None → In t (texts seen) → ⊥
none_in t [] e i = i
none_in t (y ∷ seen) e (inl q) =
    let here : bytes_eq (part_text y) t ≡ true = (bytes_eq-Decides (part_text y) t).1 (sym q) in
    some (bytes_eq (part_text y) t) here (first_with_text t seen) e
  where
    some : (b : Bool) → b ≡ true → (o : Option Part) → (if b then Some y else o) ≡ None → ⊥
    some true h o e = cc e
    some false h o e = cc h
none_in t (y ∷ seen) e (inr i) = none_in t seen (rest (bytes_eq (part_text y) t) (first_with_text t seen) e) i
  where
    rest : (b : Bool) (o : Option Part) → (if b then Some y else o) ≡ None → o ≡ None
    rest true o e = absurd (cc e)
    rest false o e = e

texts_one : (seen : List Part) (x : Part) → IsDistinct (texts seen) → IsDistinct (texts (after_one seen x))
texts_one seen x d = by (first_with_text (part_text x) seen) refl
  where
    apart : first_with_text (part_text x) seen ≡ None → (t : List ℕ) → In t (texts seen) → In t (part_text x ∷ []) → ⊥
    apart e t i (inl q) = none_in (part_text x) seen e (subst (λ (u : List ℕ). In u (texts seen)) q i)
    apart e t i (inr j) = j

    by : (o : Option Part) → first_with_text (part_text x) seen ≡ o → IsDistinct (texts (joined_by o seen x))
    by None e = rw (map-append part_text seen (x ∷ [])) (distinct_append (texts seen) (part_text x ∷ []) d (λ i. i, tt) (apart e))
    by (Some y) e = d

texts_after : (seen xs : List Part) → IsDistinct (texts seen) → IsDistinct (texts (after seen xs))
texts_after seen [] d = d
texts_after seen (x ∷ xs) d = texts_after (after_one seen x) xs (texts_one seen x d)

module _ (names : List ℕ → Bool) where
  abbrev AreFree : List Part → Type 0
  AreFree seen = (t : List ℕ) → In t (texts seen) → names t ≡ false

  free_one : (seen : List Part) (x : Part) → names (part_text x) ≡ false → AreFree seen → AreFree (after_one seen x)
  free_one seen x here h = by (first_with_text (part_text x) seen)
    where
      last : (t : List ℕ) → In t (part_text x ∷ []) → names t ≡ false
      last t (inl e) = ap names e ∙ here
      last t (inr i) = absurd i

      by : (o : Option Part) → AreFree (joined_by o seen x)
      by None = λ t i.
          let j : In t (texts seen ++ part_text x ∷ []) = rw (map-append part_text seen (x ∷ [])) at i in
          elim (in_cases t (texts seen) (part_text x ∷ []) j) [ inl k ↦ h t k | inr k ↦ last t k ]
      by (Some y) = h

  free_after : (seen xs : List Part) → clash_faults names seen xs ≡ [] → AreFree seen → AreFree (after seen xs)
  free_after seen [] none h = h
  free_after seen (x ∷ xs) none h =
      let (free, rest) = none_if (clashes names seen x) (SharedName, span_of x) (clash_faults names (after_one seen x) xs) none in
      free_after (after_one seen x) xs rest (free_one seen x (or_false (names (part_text x)) _ free).0 h)

-- ---- names of generated rules

abbrev name_of : RuleData → List ℕ
name_of r = r.name.0

found_name : (ms : List RuleData) (n : List ℕ) (d : RuleData) → macro_named ms n ≡ Some d → name_of d ≡ n
found_name [] n d e = absurd (cc e)
found_name (m ∷ ms) n d e = by (bytes_eq (name_of m) n) refl e (found_name ms n d)
  where
    by : (b : Bool) → bytes_eq (name_of m) n ≡ b → (if b then Some m else macro_named ms n) ≡ Some d → (macro_named ms n ≡ Some d → name_of d ≡ n) → name_of d ≡ n
    by true h e deeper = let same : m ≡ d = cc e in ap name_of (sym same) ∙ (bytes_eq-Decides (name_of m) n).0 h
    by false h e deeper = deeper e

module _ (value : ConditionValue) (ms : List RuleData) where
  abbrev names_of_rule : Part → List (List ℕ)
  names_of_rule p = map name_of (made_rules value ms p)

  -- a made rule has the text of its symbol for its name
  abbrev IsNamed : Part → Type 0
  IsNamed p = (names_of_rule p ≡ []) ⊎ (names_of_rule p ≡ part_text p ∷ [])

  named_repeat : (s : Span) (op : RepeatOp) (p : Part) → IsNamed (at s (repeated op p))
  named_repeat s Star p = inr refl
  named_repeat s Plus p = inr refl
  named_repeat s Question p = inr refl
  named_repeat s (Times n) p = inr refl

  named_call : (s : Span) (n : List ℕ) (ps : Parts) (o : Option RuleData) → ((d : RuleData) → o ≡ Some d → name_of d ≡ n) →
      (map name_of (instance_of value s o ps) ≡ []) ⊎ (map name_of (instance_of value s o ps) ≡ kind_text (call n ps) ∷ [])
  named_call s n ps None h = inl refl
  named_call s n ps (Some d) h = inr (ap (λ m. kind_text (call m ps) ∷ []) (h d refl))

  is_named : (p : Part) → IsNamed p
  is_named (at s (group ps)) = inr refl
  is_named (at s (call n ps)) = named_call s n ps (macro_named ms n) (found_name ms n)
  is_named (at s (repeated op p)) = named_repeat s op p
  is_named (at s lookahead) = inr refl
  is_named (at s lookbehind) = inr refl
  is_named (at s _) = inl refl

  abbrev NamesAreTexts : List Part → Type 0
  NamesAreTexts xs = IsDistinct (map name_of (flat_map (made_rules value ms) xs))
      × ((t : List ℕ) → In t (map name_of (flat_map (made_rules value ms) xs)) → In t (texts xs))

  one_named : (x : Part) (xs : List Part) → (In (part_text x) (texts xs) → ⊥) → NamesAreTexts xs → IsNamed x → NamesAreTexts (x ∷ xs)
  one_named x xs apart (d, inside) (inl e) =
      let same = map-append name_of (made_rules value ms x) (flat_map (made_rules value ms) xs) ∙ ap (λ ns. ns ++ map name_of (flat_map (made_rules value ms) xs)) e in
      rw same (d, λ t i. inr (inside t i))
  one_named x xs apart (d, inside) (inr e) =
      let same = map-append name_of (made_rules value ms x) (flat_map (made_rules value ms) xs) ∙ ap (λ ns. ns ++ map name_of (flat_map (made_rules value ms) xs)) e in
      rw same ((λ i. apart (inside (part_text x) i), d), λ t. elim [ inl q ↦ inl q | inr i ↦ inr (inside t i) ])

  names_are_texts : (xs : List Part) → IsDistinct (texts xs) → NamesAreTexts xs
  names_are_texts [] d = (tt, λ t i. i)
  names_are_texts (x ∷ xs) d = one_named x xs d.0 (names_are_texts xs d.1) (is_named x)

-- ---- names of the grammar's rules

filter_in : (p : RuleData → Bool) (rs : List RuleData) (t : List ℕ) → In t (map name_of (filter p rs)) → In t (map name_of rs)
filter_in p [] t i = i
filter_in p (r ∷ rs) t i = by (p r) i (filter_in p rs t)
  where
    by : (b : Bool) → In t (map name_of (if b then r ∷ filter p rs else filter p rs)) → (In t (map name_of (filter p rs)) → In t (map name_of rs)) → In t (map name_of (r ∷ rs))
    by true (inl e) deeper = inl e
    by true (inr i) deeper = inr (deeper i)
    by false i deeper = inr (deeper i)

filter_distinct : (p : RuleData → Bool) (rs : List RuleData) → IsDistinct (map name_of rs) → IsDistinct (map name_of (filter p rs))
filter_distinct p [] d = d
filter_distinct p (r ∷ rs) d = by (p r) (filter_distinct p rs d.1)
  where
    by : (b : Bool) → IsDistinct (map name_of (filter p rs)) → IsDistinct (map name_of (if b then r ∷ filter p rs else filter p rs))
    by true deeper = (λ i. d.0 (filter_in p rs (name_of r) i), deeper)
    by false deeper = deeper

is_name_in : (t : List ℕ) (ns : List (List ℕ)) → In t ns → is_declared_name ns t ≡ true
is_name_in t [] i = absurd i
is_name_in t (n ∷ ns) (inl e) = ap (λ b. b || is_declared_name ns t) ((bytes_eq-Decides t n).1 e)
is_name_in t (n ∷ ns) (inr i) = or_right (bytes_eq t n) (is_declared_name ns t) (is_name_in t ns i)
  where
    or_right : (a b : Bool) → b ≡ true → (a || b) ≡ true
    or_right true b h = refl
    or_right false b h = h

-- ---- rounds without a fault

both_none : (xs ys : List Fault) → xs ++ ys ≡ [] → (xs ≡ []) × (ys ≡ [])
both_none [] ys e = (refl, e)
both_none (x ∷ xs) ys e = absurd (cc e)

eq_cases : (j n : ℕ) → (j ≡ n) ⊎ (j ≢ n)
eq_cases j n = grind arith

names_replaced : (rs : List RuleData) → map name_of (map replaced_rule rs) ≡ map name_of rs
names_replaced [] = refl
names_replaced (r ∷ rs) = ap (λ ns. name_of r ∷ ns) (names_replaced rs)

module _ (value : ConditionValue) (g : GrammarData) where
  abbrev round : ℕ → Round Part
  round k = expansion_round value g k

  quiet_at : (k left j : ℕ) → faults_from value g k left ≡ [] → k ≤ j → j ≤ k + left → shared_in value g j ≡ []
  quiet_at k zero j h low high =
      let same : j ≡ k = omega arith in
      ap (shared_in value g) same ∙ (both_none (shared_in value g k) _ h).0
  quiet_at k (suc left) j h low high = elim (eq_cases j k) [
    | inl same ↦ ap (shared_in value g) same ∙ (both_none (shared_in value g k) _ h).0
    | inr other ↦
        quiet_at (suc k) left j (both_none (unmade_in value g k) _ (both_none (shared_in value g k) _ h).1).1 (omega arith) (omega arith)
  ]

  abbrev is_declared : List ℕ → Bool
  is_declared = is_declared_name (rule_names g)

  record Kept (k : ℕ) : Type 0 where
    distinct : IsDistinct (texts (round k).seen)
    tells : Tells (round k).seen (met_before value g k)
    free : AreFree is_declared (round k).seen

  fresh_is : (k : ℕ) → (round k).fresh ≡ fresh_of same_apart_from_spans (round k).seen (meetings value g k)
  fresh_is zero = refl
  fresh_is (suc k) = refl

  kept_more : (k : ℕ) → Kept k → shared_in value g k ≡ [] → Kept (suc k)
  kept_more k h none =
      let seen : List Part = (round k).seen in
      let xs : List Part = meetings value g k in
      let quiet : clash_faults is_declared seen xs ≡ [] =
      none_first _ (first_same is_declared (rule_names g) refl seen (met_before value g k) xs h.tells ∙ ap first none) in
      let next : after seen xs ≡ seen ++ (round k).fresh =
      after_fresh is_declared seen xs quiet ∙ ap (λ fs. seen ++ fs) (sym (fresh_is k)) in
      record {
        distinct = subst (λ (s : List Part). IsDistinct (texts s)) next (texts_after seen xs h.distinct);
        tells = subst (λ (s : List Part). Tells s (met_before value g (suc k))) next (tells_after is_declared (rule_names g) refl seen (met_before value g k) xs h.tells quiet);
        free = subst (λ (s : List Part). AreFree is_declared s) next (free_after is_declared seen xs quiet h.free);
      }

  kept : (k : ℕ) → ((j : ℕ) → j < k → shared_in value g j ≡ []) → Kept k
  kept zero h = record { distinct = tt; tells = λ z. refl; free = λ t i. absurd i }
  kept (suc k) h = kept_more k (kept k (λ j l. h j (omega arith))) (h k (omega arith))

  abbrev TextsAreMade : ℕ → Type 0
  TextsAreMade n = IsDistinct (texts (made_symbols value g n)) × ((t : List ℕ) → In t (texts (made_symbols value g n)) → In t (texts (round n).seen))

  texts_made : (n : ℕ) → ((j : ℕ) → j < n → shared_in value g j ≡ []) → TextsAreMade n
  texts_made zero h = (tt, λ t i. i)
  texts_made (suc n) h =
      let (d, inside) = texts_made n (λ j l. h j (omega arith)) in
      let K : Kept (suc n) = kept (suc n) h in
      let old : List (List ℕ) = texts (round n).seen in
      let new : List (List ℕ) = texts (round n).fresh in
      let both : IsDistinct (old ++ new) = rw (map-append part_text (round n).seen (round n).fresh) at K.distinct in
      let all : texts (made_symbols value g (suc n)) ≡ texts (made_symbols value g n) ++ reverse new =
      map-append part_text (made_symbols value g n) (reverse (round n).fresh) ∙ ap (λ ts. texts (made_symbols value g n) ++ ts) (map_reverse part_text (round n).fresh) in (
        subst (λ (ts : List (List ℕ)). IsDistinct ts) (sym all)
            (distinct_append (texts (made_symbols value g n)) (reverse new) d (distinct_reverse new (distinct_right old new both))
            (λ t i j. distinct_apart old new both t (inside t i) (of_reverse t new j))),
        λ t i.
            let j : In t (texts (made_symbols value g n) ++ reverse new) = subst (λ (ts : List (List ℕ)). In t ts) all i in
            let k : In t (old ++ new) = elim (in_cases t (texts (made_symbols value g n)) (reverse new) j) [
              | inl i ↦ in_left t old new (inside t i)
              | inr i ↦ in_right t old new (of_reverse t new i)
            ] in
            subst (λ (ts : List (List ℕ)). In t ts) (sym (map-append part_text (round n).seen (round n).fresh)) k,
      )

  distinct_names : (limit : ℕ) → expansion_faults value g limit ≡ [] → IsDistinct (rule_names g) → IsDistinct (rule_names (plain_grammar value g limit))
  distinct_names limit none d =
      let quiet : (j : ℕ) → j < limit → shared_in value g j ≡ [] = λ j l. quiet_at 0 limit j none (omega arith) (omega arith) in
      let (apart, inside) = texts_made limit quiet in
      let (made, texts_of) = names_are_texts value (macros_of g) (made_symbols value g limit) apart in
      let K : Kept limit = kept limit quiet in
      let same : rule_names (plain_grammar value g limit) ≡ map name_of (rules_without_arguments g) ++ map name_of (made_in value g limit) =
      ap (map name_of) (plain_grammars_hold_plain_rules value g limit)
      ∙ map-append name_of (map replaced_rule (rules_without_arguments g)) (map replaced_rule (made_in value g limit))
      ∙ ap (λ ns. ns ++ map name_of (map replaced_rule (made_in value g limit))) (names_replaced (rules_without_arguments g))
      ∙ ap (λ ns. map name_of (rules_without_arguments g) ++ ns) (names_replaced (made_in value g limit)) in
      subst (λ (ns : List (List ℕ)). IsDistinct ns) (sym same)
      (distinct_append (map name_of (rules_without_arguments g)) (map name_of (made_in value g limit)) (filter_distinct (λ r. is_nil r.args) (all_rules g) d) made
      (λ t i j.
      let declared : is_declared t ≡ true = is_name_in t (rule_names g) (filter_in (λ r. is_nil r.args) (all_rules g) t i) in
      let free : is_declared t ≡ false = K.free t (inside t (texts_of t j)) in
      absurd (cc (declared, free))))

pub names_stay_distinct : NamesStayDistinct
names_stay_distinct value g limit none d = distinct_names value g limit none d
