-- Numbered alternatives: counted along the rules, and by their indices in the one list.
use Rattle.std.proofs.Common.{◌≡◌, ◌∙◌, ℕ, ◌+◌, Bool, false, cond, ◌&&◌, List, [], ◌∷◌, ◌++◌, length, map, refl, sym, ap, arith, bytes_eq}
use Rattle.std.specs.Prelude.{filter, flat_map}
use Rattle.std.specs.List.{list_any, enumerate_from, AllByRecursion}
use Rattle.std.specs.Cmp.{nat_eq_equiv}
use Rattle.std.specs.Cmp.Lexicographic.{nat_list_eq_equiv}
use Rattle.std.proofs.lemmas.List.{append_assoc, append-nil, length-append, length-map, map-append}
use Rattle.std.proofs.lemmas.List.Elements.{filter-append}
use Rattle.lalrpop_norm_tree_names.specs.declared.names.NonterminalString.{NonterminalString}
use Rattle.lalrpop_norm_tree_parts.specs.Attributes.{no_attributes}
use Rattle.lalrpop_norm_tree.specs.Items.{AlternativeData, RuleData}
use Rattle.lalrpop_norm_repr.specs.Productions.{ProductionData, EntryData}
use Rattle.lalrpop_norm_lower.specs.Lowering.{start_name, start_alternative, production_of, productions_from, start_rows, rule_rows}
use Rattle.lalrpop_norm_lower.specs.Shape.{OwnedAlternative, start_clause, rule_clauses, productions_named, start_entry_of, rule_entry_of}
use Rattle.lalrpop_norm_theory.proofs.BoolLemmas.{left_false, right_false, both_false}
use Rattle.lalrpop_norm_theory.proofs.SameLemmas.{text_same}

pub enumerate_append : {A : Type 0} (k : ℕ) (xs ys : List A) → enumerate_from k (xs ++ ys) ≡ enumerate_from k xs ++ enumerate_from (k + length xs) ys
enumerate_append k [] ys = ap (λ n. enumerate_from n ys) (omega arith)
enumerate_append k (x ∷ xs) ys =
    let n : k + 1 + length xs ≡ k + length (x ∷ xs) = omega arith in
    ap (λ es. (k, x) ∷ es) (enumerate_append (k + 1) xs ys ∙ ap (λ m. enumerate_from (k + 1) xs ++ enumerate_from m ys) n)

-- ---- the productions of a name, from number k on

abbrev pub named_from : NonterminalString → ℕ → List OwnedAlternative → List ProductionData
named_from n k cs = map (λ e. production_of n e.0 e.1.1) (filter (λ e. bytes_eq n.0 e.1.0.0) (enumerate_from k cs))

abbrev pub has_name : NonterminalString → List OwnedAlternative → Bool
has_name n cs = list_any (λ c. bytes_eq n.0 c.0.0) cs

named_append : (n : NonterminalString) (k : ℕ) (xs ys : List OwnedAlternative) → named_from n k (xs ++ ys) ≡ named_from n k xs ++ named_from n (k + length xs) ys
named_append n k xs ys =
    let test : ℕ × OwnedAlternative → Bool = λ (e : ℕ × OwnedAlternative). bytes_eq n.0 e.1.0.0 in
    let made : ℕ × OwnedAlternative → ProductionData = λ (e : ℕ × OwnedAlternative). production_of n e.0 e.1.1 in
    ap (λ (es : List (ℕ × OwnedAlternative)). map made (filter test es)) (enumerate_append k xs ys)
    ∙ ap (map made) (filter-append test (enumerate_from k xs) (enumerate_from (k + length xs) ys))
    ∙ map-append made (filter test (enumerate_from k xs)) (filter test (enumerate_from (k + length xs) ys))

named_none : (n : NonterminalString) (k : ℕ) (cs : List OwnedAlternative) → has_name n cs ≡ false → named_from n k cs ≡ []
named_none n k [] h = refl
named_none n k (c ∷ cs) h =
    let made : List (ℕ × OwnedAlternative) → List ProductionData = map (λ (e : ℕ × OwnedAlternative). production_of n e.0 e.1.1) in
    let rest : List (ℕ × OwnedAlternative) = filter (λ (e : ℕ × OwnedAlternative). bytes_eq n.0 e.1.0.0) (enumerate_from (k + 1) cs) in
    ap (λ b. made (cond b ((k, c) ∷ rest) rest)) (left_false (bytes_eq n.0 c.0.0) (has_name n cs) h)
    ∙ named_none n (k + 1) cs (right_false (bytes_eq n.0 c.0.0) (has_name n cs) h)

named_all : (n : NonterminalString) (k : ℕ) (alts : List AlternativeData) → named_from n k (map (λ a. (n, a)) alts) ≡ productions_from n k alts
named_all n k [] = refl
named_all n k (a ∷ alts) =
    let made : List (ℕ × OwnedAlternative) → List ProductionData = map (λ (e : ℕ × OwnedAlternative). production_of n e.0 e.1.1) in
    let rest : List (ℕ × OwnedAlternative) = filter (λ (e : ℕ × OwnedAlternative). bytes_eq n.0 e.1.0.0) (enumerate_from (k + 1) (map (λ (b : AlternativeData). (n, b)) alts)) in
    ap (λ b. made (cond b ((k, (n, a)) ∷ rest) rest)) (text_same n.0)
    ∙ ap (λ ps. production_of n k a ∷ ps) (named_all n (k + 1) alts)

-- the productions of a name that only one stretch of the list has
named_between : (n : NonterminalString) (before here after : List OwnedAlternative) (ps : List ProductionData) → has_name n before ≡ false → has_name n after ≡ false → named_from n (length before) here ≡ ps
    → productions_named n (before ++ (here ++ after)) ≡ ps
named_between n before here after ps none_before none_after is =
    named_append n 0 before (here ++ after)
    ∙ ap (λ qs. qs ++ named_from n (0 + length before) (here ++ after)) (named_none n 0 before none_before)
    ∙ named_append n (0 + length before) here after
    ∙ ap (λ qs. named_from n (0 + length before) here ++ qs) (named_none n (0 + length before + length here) after none_after)
    ∙ append-nil (named_from n (0 + length before) here)
    ∙ ap (λ k. named_from n k here) (omega arith)
    ∙ is

-- ---- names apart

abbrev pub AreApart : NonterminalString → List RuleData → Type 0
AreApart n rs = AllByRecursion (λ r. bytes_eq n.0 r.name.0 ≡ false) rs

abbrev pub LackNames : List RuleData → List OwnedAlternative → Type 0
LackNames rs cs = AllByRecursion (λ r. has_name r.name cs ≡ false) rs

apart_here : (n m : NonterminalString) (alts : List AlternativeData) → bytes_eq n.0 m.0 ≡ false → has_name n (map (λ a. (m, a)) alts) ≡ false
apart_here n m [] h = refl
apart_here n m (a ∷ alts) h = both_false (bytes_eq n.0 m.0) (has_name n (map (λ b. (m, b)) alts)) h (apart_here n m alts h)

has_append : (n : NonterminalString) (xs ys : List OwnedAlternative) → has_name n xs ≡ false → has_name n ys ≡ false → has_name n (xs ++ ys) ≡ false
has_append n [] ys h i = i
has_append n (x ∷ xs) ys h i = both_false (bytes_eq n.0 x.0.0) (has_name n (xs ++ ys)) (left_false (bytes_eq n.0 x.0.0) (has_name n xs) h) (has_append n xs ys (right_false (bytes_eq n.0 x.0.0) (has_name n xs) h) i)

pub apart_all : (n : NonterminalString) (rs : List RuleData) → AreApart n rs → has_name n (flat_map rule_clauses rs) ≡ false
apart_all n [] h = refl
apart_all n (r ∷ rs) h = has_append n (rule_clauses r) (flat_map rule_clauses rs) (apart_here n r.name r.alternatives h.0) (apart_all n rs h.1)

lack_more : (r : RuleData) (rs : List RuleData) (cs : List OwnedAlternative) → AreApart r.name rs → LackNames rs cs → LackNames rs (cs ++ rule_clauses r)
lack_more r [] cs h i = tt
lack_more r (s ∷ rs) cs h i = (
  has_append s.name cs (rule_clauses r) i.0 (apart_here s.name r.name r.alternatives (nat_list_eq_equiv.symm s.name.0 r.name.0 ∙ h.0)),
  lack_more r rs cs h.1 i.1,
)

-- each name differs from those behind it
abbrev pub AllApart : List RuleData → Type 0
AllApart [] = Unit {0}
AllApart (r ∷ rs) = AreApart r.name rs × AllApart rs

-- the counted rows of rules are those by indices
pub rule_rows_named : (before : List OwnedAlternative) (rs : List RuleData) (clauses : List OwnedAlternative) → before ++ flat_map rule_clauses rs ≡ clauses → LackNames rs before → AllApart rs
    → rule_rows (length before) rs ≡ map (rule_entry_of clauses) rs
rule_rows_named before [] clauses e lack apart = refl
rule_rows_named before (r ∷ rs) clauses e lack apart =
    let here : productions_named r.name clauses ≡ productions_from r.name (length before) r.alternatives =
    ap (productions_named r.name) (sym e)
    ∙ named_between r.name before (rule_clauses r) (flat_map rule_clauses rs) (productions_from r.name (length before) r.alternatives) lack.0 (apart_all r.name rs apart.0) (named_all r.name (length before) r.alternatives) in
    let more : length (before ++ rule_clauses r) ≡ length before + length r.alternatives = length-append before (rule_clauses r) ∙ ap (λ n. length before + n) (length-map r.alternatives (λ a. (r.name, a))) in
    let row : List ProductionData → NonterminalString × EntryData = λ (ps : List ProductionData). (r.name, record { visibility = r.visibility; span = r.span; attributes = r.attributes; productions = ps }) in
    ap (λ k. row (productions_from r.name (length before) r.alternatives) ∷ rule_rows k rs) (sym more)
    ∙ ap (λ ps. row ps ∷ rule_rows (length (before ++ rule_clauses r)) rs) (sym here)
    ∙ ap (λ rows. row (productions_named r.name clauses) ∷ rows)
    (rule_rows_named (before ++ rule_clauses r) rs clauses (append_assoc before (rule_clauses r) (flat_map rule_clauses rs) ∙ e) (lack_more r rs before apart.0 lack.1) apart.1)

-- ---- start symbols

pub append_same : (p a b : List ℕ) → bytes_eq (p ++ a) (p ++ b) ≡ bytes_eq a b
append_same [] a b = refl
append_same (x ∷ p) a b = ap (λ t. t && bytes_eq (p ++ a) (p ++ b)) (nat_eq_equiv.refl x) ∙ append_same p a b

module _ (prefix : List ℕ) where
  abbrev pub LackStarts : List RuleData → List OwnedAlternative → Type 0
  LackStarts rs cs = AllByRecursion (λ r. has_name (start_name prefix r.name) cs ≡ false) rs

  lack_start : (r : RuleData) (rs : List RuleData) (cs : List OwnedAlternative) → AreApart r.name rs → LackStarts rs cs → LackStarts rs (cs ++ start_clause prefix r ∷ [])
  lack_start r [] cs h i = tt
  lack_start r (s ∷ rs) cs h i = (
    has_append (start_name prefix s.name) cs (start_clause prefix r ∷ []) i.0
        (both_false (bytes_eq (prefix ++ s.name.0) (prefix ++ r.name.0)) false (append_same prefix s.name.0 r.name.0 ∙ nat_list_eq_equiv.symm s.name.0 r.name.0 ∙ h.0) refl),
    lack_start r rs cs h.1 i.1,
  )

  starts_apart : (r : RuleData) (rs : List RuleData) → AreApart r.name rs → has_name (start_name prefix r.name) (map (start_clause prefix) rs) ≡ false
  starts_apart r [] h = refl
  starts_apart r (s ∷ rs) h =
      both_false (bytes_eq (prefix ++ r.name.0) (prefix ++ s.name.0)) (has_name (start_name prefix r.name) (map (start_clause prefix) rs)) (append_same prefix r.name.0 s.name.0 ∙ h.0) (starts_apart r rs h.1)

  pub start_rows_named : (before : List OwnedAlternative) (rs : List RuleData) (after clauses : List OwnedAlternative) → before ++ (map (start_clause prefix) rs ++ after) ≡ clauses → LackStarts rs before → LackStarts rs after → AllApart rs
      → start_rows prefix (length before) rs ≡ map (start_entry_of prefix clauses) rs
  start_rows_named before [] after clauses e lack lack_after apart = refl
  start_rows_named before (r ∷ rs) after clauses e lack lack_after apart =
      let n : NonterminalString = start_name prefix r.name in
      let one : List OwnedAlternative = start_clause prefix r ∷ [] in
      let here : productions_named n clauses ≡ production_of n (length before) (start_alternative r) ∷ [] =
      ap (productions_named n) (sym e)
      ∙ named_between n before one (map (start_clause prefix) rs ++ after) (production_of n (length before) (start_alternative r) ∷ []) lack.0
      (has_append n (map (start_clause prefix) rs) after (starts_apart r rs apart.0) lack_after.0) (named_all n (length before) (start_alternative r ∷ [])) in
      let more : length (before ++ one) ≡ length before + 1 = length-append before one in
      let row : List ProductionData → NonterminalString × EntryData = λ (ps : List ProductionData). (n, record { visibility = r.visibility; span = r.span; attributes = no_attributes; productions = ps }) in
      ap (λ k. row (production_of n (length before) (start_alternative r) ∷ []) ∷ start_rows prefix k rs) (sym more)
      ∙ ap (λ ps. row ps ∷ start_rows prefix (length (before ++ one)) rs) (sym here)
      ∙ ap (λ rows. row (productions_named n clauses) ∷ rows)
      (start_rows_named (before ++ one) rs after clauses (append_assoc before one (map (start_clause prefix) rs ++ after) ∙ e) (lack_start r rs before apart.0 lack.1) lack_after.1 apart.1)
