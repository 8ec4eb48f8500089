-- Rules with names of their own, and the public ones among them.
use Rattle.std.proofs.Common.{◌≡◌, ◌∙◌, ℕ, zero, suc, ◌<◌, Bool, true, false, cond, ◌||◌, List, [], ◌∷◌, ◌++◌, length, map, get_or, Some, refl, sym, ap, bytes_eq, arith, subst}
use Rattle.std.specs.Prelude.{flat_map, Contains}
use Rattle.std.specs.List.{list_any, AllByRecursion, IsDistinct}
use Rattle.std.specs.Map.{keys_of}
use Rattle.std.specs.Cmp.Lexicographic.{nat_list_eq_equiv}
use Rattle.std.proofs.lemmas.List.{map-append, length-map}
use Rattle.std.proofs.lemmas.List.Elements.{All-contains_itself, recursion_from_All}
use Rattle.lalrpop_norm_tree_names.specs.declared.names.NonterminalString.{NonterminalString}
use Rattle.lalrpop_norm_tree.specs.Accessors.{is_public}
use Rattle.lalrpop_norm_tree.specs.Items.{RuleData}
use Rattle.lalrpop_norm_repr.specs.Productions.{EntryData}
use Rattle.lalrpop_norm_repr.specs.Tables.{found}
use Rattle.lalrpop_norm_lower.specs.Lowering.{public_rules_in, start_name, start_names, start_rows, rule_rows, sorted_onto}
use Rattle.lalrpop_norm_lower.specs.Shape.{OwnedAlternative, start_clause, rule_clauses, alternatives_in_order, start_entry_of, rule_entry_of, lowered_entries, starts_of, IsNameTable}
use Rattle.lalrpop_norm_lower.proofs.ClauseLemmas.{has_name, append_same, AreApart, LackNames, LackStarts, AllApart, apart_all, rule_rows_named, start_rows_named}
use Rattle.lalrpop_norm_lower.proofs.KeyLaws.{same_name, names_decide, name_table, sorted_joined}
use Rattle.lalrpop_norm_theory.proofs.BoolLemmas.{both_false}

-- ---- lists

pub all_with : {X : Type 0} (P Q S : X → Type 0) → ((x : X) → P x → Q x → S x) → (xs : List X) → AllByRecursion P xs → AllByRecursion Q xs → AllByRecursion S xs
all_with P Q S f [] h i = tt
all_with P Q S f (x ∷ xs) h i = (f x h.0 i.0, all_with P Q S f xs h.1 i.1)

pub all_by : {X : Type 0} (P S : X → Type 0) → ((x : X) → P x → S x) → (xs : List X) → AllByRecursion P xs → AllByRecursion S xs
all_by P S f [] h = tt
all_by P S f (x ∷ xs) h = (f x h.0, all_by P S f xs h.1)

any_at : {X : Type 0} (test : X → Bool) (xs : List X) (k : ℕ) (x : X) → k < length xs → get_or xs k x ≡ x → test x ≡ true → list_any test xs ≡ true
any_at test [] k x lt is h = absurd (omega arith)
any_at test (y ∷ ys) zero x lt is h = ap (λ b. b || list_any test ys) (ap test is ∙ h)
any_at test (y ∷ ys) (suc k) x lt is h = ap (λ b. test y || b) (any_at test ys k x (omega arith) is h) ∙ or_true (test y)
  where
    or_true : (b : Bool) → (b || true) ≡ true
    or_true true = refl
    or_true false = refl

abbrev pub IsNamedIn : List RuleData → NonterminalString → Type 0
IsNamedIn rs n = list_any (λ s. bytes_eq n.0 s.name.0) rs ≡ true

pub named_in : (rs : List RuleData) (r : RuleData) → Contains rs r → IsNamedIn rs r.name
named_in rs r c = any_at (λ s. bytes_eq r.name.0 s.name.0) rs c.0 r c.1 c.2 (nat_list_eq_equiv.refl r.name.0)

pub each_named : (rs : List RuleData) → AllByRecursion (λ r. IsNamedIn rs r.name) rs
each_named rs = all_by (Contains rs) (λ r. IsNamedIn rs r.name) (named_in rs) rs (recursion_from_All (Contains rs) rs (All-contains_itself rs))

-- ---- public rules

pub public_all : (P : RuleData → Type 0) (rs : List RuleData) → AllByRecursion (λ r. is_public r.visibility ≡ true → P r) rs → AllByRecursion P (public_rules_in rs)
public_all P [] h = tt
public_all P (r ∷ rs) h = by (is_public r.visibility) refl (public_all P rs h.1)
  where
    by : (b : Bool) → is_public r.visibility ≡ b → AllByRecursion P (public_rules_in rs) → AllByRecursion P (cond b (r ∷ public_rules_in rs) (public_rules_in rs))
    by true is rest = (h.0 is, rest)
    by false is rest = rest

pub kept_public : (P : RuleData → Type 0) (rs : List RuleData) → AllByRecursion P rs → AllByRecursion P (public_rules_in rs)
kept_public P rs h = public_all P rs (all_by P (λ r. is_public r.visibility ≡ true → P r) (λ r p _. p) rs h)

pub public_apart : (rs : List RuleData) → AllApart rs → AllApart (public_rules_in rs)
public_apart [] h = tt
public_apart (r ∷ rs) h = by (is_public r.visibility) (public_apart rs h.1)
  where
    by : (b : Bool) → AllApart (public_rules_in rs) → AllApart (cond b (r ∷ public_rules_in rs) (public_rules_in rs))
    by true rest = (kept_public (λ s. bytes_eq r.name.0 s.name.0 ≡ false) rs h.0, rest)
    by false rest = rest

-- ---- names apart

lack_nothing : (rs : List RuleData) → LackNames rs []
lack_nothing [] = tt
lack_nothing (r ∷ rs) = (refl, lack_nothing rs)

lack_no_starts : (prefix : List ℕ) (rs : List RuleData) → LackStarts prefix rs []
lack_no_starts prefix [] = tt
lack_no_starts prefix (r ∷ rs) = (refl, lack_no_starts prefix rs)

lack_one : (n : NonterminalString) (c : OwnedAlternative) (rs : List RuleData) (cs : List OwnedAlternative) → c.0 ≡ n → AreApart n rs → LackNames rs cs → LackNames rs (c ∷ cs)
lack_one n c [] cs e h i = tt
lack_one n c (r ∷ rs) cs e h i = (
  both_false (bytes_eq r.name.0 c.0.0) (has_name r.name cs) (ap (λ (m : NonterminalString). bytes_eq r.name.0 m.0) e ∙ nat_list_eq_equiv.symm r.name.0 n.0 ∙ h.0) i.0,
  lack_one n c rs cs e h.1 i.1,
)

lack_starts : (prefix : List ℕ) (rules public : List RuleData) → AllByRecursion (λ p. AreApart (start_name prefix p.name) rules) public → LackNames rules (map (start_clause prefix) public)
lack_starts prefix rules [] h = lack_nothing rules
lack_starts prefix rules (p ∷ public) h = lack_one (start_name prefix p.name) (start_clause prefix p) rules (map (start_clause prefix) public) refl h.0 (lack_starts prefix rules public h.1)

-- ---- distinct keys

distinct_join : {K : Type 0} (e : K → K → Bool) (xs ys : List K) → IsDistinct e xs → IsDistinct e ys → AllByRecursion (λ x. AllByRecursion (λ y. e x y ≡ false) ys) xs → IsDistinct e (xs ++ ys)
unfolding IsDistinct
distinct_join e [] ys h i apart = i
distinct_join e (x ∷ xs) ys h i apart = (joined xs h.0, distinct_join e xs ys h.1 i apart.1)
  where
    joined : (zs : List _) → AllByRecursion (λ y. e x y ≡ false) zs → AllByRecursion (λ y. e x y ≡ false) (zs ++ ys)
    joined [] p = apart.0
    joined (z ∷ zs) p = (p.0, joined zs p.1)

rule_keys : List RuleData → List NonterminalString
rule_keys rs = map (λ r. r.name) rs

start_keys : List ℕ → List RuleData → List NonterminalString
start_keys prefix rs = map (λ r. start_name prefix r.name) rs

apart_keys : (n : NonterminalString) (rs : List RuleData) → AreApart n rs → AllByRecursion (λ y. same_name n y ≡ false) (rule_keys rs)
unfolding rule_keys
apart_keys n [] h = tt
apart_keys n (r ∷ rs) h = (h.0, apart_keys n rs h.1)

apart_start_keys : (prefix : List ℕ) (n : NonterminalString) (rs : List RuleData) → AreApart n rs → AllByRecursion (λ y. same_name (start_name prefix n) y ≡ false) (start_keys prefix rs)
unfolding start_keys
apart_start_keys prefix n [] h = tt
apart_start_keys prefix n (r ∷ rs) h = (append_same prefix n.0 r.name.0 ∙ h.0, apart_start_keys prefix n rs h.1)

rule_keys_distinct : (rs : List RuleData) → AllApart rs → IsDistinct same_name (rule_keys rs)
unfolding IsDistinct rule_keys
rule_keys_distinct [] h = tt
rule_keys_distinct (r ∷ rs) h = (apart_keys r.name rs h.0, rule_keys_distinct rs h.1)

start_keys_distinct : (prefix : List ℕ) (rs : List RuleData) → AllApart rs → IsDistinct same_name (start_keys prefix rs)
unfolding IsDistinct start_keys
start_keys_distinct prefix [] h = tt
start_keys_distinct prefix (r ∷ rs) h = (apart_start_keys prefix r.name rs h.0, start_keys_distinct prefix rs h.1)

starts_beside : (prefix : List ℕ) (rules public : List RuleData) → AllByRecursion (λ p. AreApart (start_name prefix p.name) rules) public → AllByRecursion (λ x. AllByRecursion (λ y. same_name x y ≡ false) (rule_keys rules)) (start_keys prefix public)
unfolding start_keys
starts_beside prefix rules [] h = tt
starts_beside prefix rules (p ∷ public) h = (apart_keys (start_name prefix p.name) rules h.0, starts_beside prefix rules public h.1)

-- ---- tables

entry_keys : (clauses : List OwnedAlternative) (rs : List RuleData) → keys_of (map (rule_entry_of clauses) rs) ≡ rule_keys rs
unfolding rule_keys
entry_keys clauses [] = refl
entry_keys clauses (r ∷ rs) = ap (λ ks. r.name ∷ ks) (entry_keys clauses rs)

start_entry_keys : (prefix : List ℕ) (clauses : List OwnedAlternative) (rs : List RuleData) → keys_of (map (start_entry_of prefix clauses) rs) ≡ start_keys prefix rs
unfolding start_keys
start_entry_keys prefix clauses [] = refl
start_entry_keys prefix clauses (r ∷ rs) = ap (λ ks. start_name prefix r.name ∷ ks) (start_entry_keys prefix clauses rs)

pub entries_distinct : (prefix : List ℕ) (rules : List RuleData) → AllApart rules → AllByRecursion (λ p. AreApart (start_name prefix p.name) rules) (public_rules_in rules) → IsDistinct same_name (keys_of (lowered_entries prefix rules))
entries_distinct prefix rules apart starts =
    let clauses : List OwnedAlternative = alternatives_in_order prefix rules in
    let public : List RuleData = public_rules_in rules in
    let keys : start_keys prefix public ++ rule_keys rules ≡ keys_of (lowered_entries prefix rules) =
    sym (map-append (λ (e : NonterminalString × EntryData). e.0) (map (start_entry_of prefix clauses) public) (map (rule_entry_of clauses) rules)
    ∙ ap (λ ks. ks ++ keys_of (map (rule_entry_of clauses) rules)) (start_entry_keys prefix clauses public) ∙ ap (λ ks. start_keys prefix public ++ ks) (entry_keys clauses rules)) in
    subst (IsDistinct same_name) keys
    (distinct_join same_name (start_keys prefix public) (rule_keys rules) (start_keys_distinct prefix public (public_apart rules apart)) (rule_keys_distinct rules apart) (starts_beside prefix rules public starts))

-- the counted rows of nonterminals are the entries
pub entries_counted : (prefix : List ℕ) (rules : List RuleData) → AllApart rules → AllByRecursion (λ p. AreApart (start_name prefix p.name) rules) (public_rules_in rules)
    → sorted_onto (sorted_onto [] (start_rows prefix 0 (public_rules_in rules))) (rule_rows (length (public_rules_in rules)) rules) ≡ sorted_onto [] (lowered_entries prefix rules)
entries_counted prefix rules apart starts =
    let public : List RuleData = public_rules_in rules in
    let clauses : List OwnedAlternative = alternatives_in_order prefix rules in
    sorted_joined (start_rows prefix 0 public) (rule_rows (length public) rules)
    ∙ ap (λ rows. sorted_onto [] (rows ++ rule_rows (length public) rules))
    (start_rows_named prefix [] public (flat_map rule_clauses rules) clauses refl (lack_no_starts prefix public)
    (all_by (λ p. AreApart (start_name prefix p.name) rules) (λ p. has_name (start_name prefix p.name) (flat_map rule_clauses rules) ≡ false) (λ p. apart_all (start_name prefix p.name) rules) public starts)
    (public_apart rules apart))
    ∙ ap (λ rows. sorted_onto [] (map (start_entry_of prefix clauses) public ++ rows))
    (ap (λ k. rule_rows k rules) (sym (length-map public (start_clause prefix))) ∙ rule_rows_named (map (start_clause prefix) public) rules clauses refl (lack_starts prefix rules public starts) apart)

start_names_are : (prefix : List ℕ) (rs : List RuleData) → start_names prefix rs ≡ map (λ r. (r.name, start_name prefix r.name)) rs
start_names_are prefix [] = refl
start_names_are prefix (r ∷ rs) = ap (λ rows. (r.name, start_name prefix r.name) ∷ rows) (start_names_are prefix rs)

start_name_keys : (prefix : List ℕ) (rs : List RuleData) → keys_of {X = NonterminalString} (map (λ r. (r.name, start_name prefix r.name)) rs) ≡ rule_keys rs
unfolding rule_keys
start_name_keys prefix [] = refl
start_name_keys prefix (r ∷ rs) = ap (λ ks. r.name ∷ ks) (start_name_keys prefix rs)

pub starts_table : (prefix : List ℕ) (rules : List RuleData) → AllApart rules → IsNameTable (starts_of prefix rules) (sorted_onto [] (start_names prefix (public_rules_in rules)))
starts_table prefix rules apart =
    subst (λ rows. IsNameTable (starts_of prefix rules) (sorted_onto [] rows)) (sym (start_names_are prefix (public_rules_in rules)))
    (name_table (starts_of prefix rules) (subst (IsDistinct same_name) (sym (start_name_keys prefix (public_rules_in rules))) (rule_keys_distinct (public_rules_in rules) (public_apart rules apart))))

-- ---- a start symbol leads to its rule

pub found_start : (prefix : List ℕ) (n : NonterminalString) (rs : List RuleData) → IsNamedIn rs n → found (start_name prefix n) (map (λ s. (start_name prefix s.name, s.name)) rs) ≡ Some n
found_start prefix n [] h = cc
found_start prefix n (s ∷ rs) h =
    ap (λ b. cond b (Some s.name) (found (start_name prefix n) (map {B = NonterminalString × NonterminalString} (λ t. (start_name prefix t.name, t.name)) rs))) (append_same prefix n.0 s.name.0)
    ∙ by (bytes_eq n.0 s.name.0) refl h (found_start prefix n rs)
  where
    by : (b : Bool) → bytes_eq n.0 s.name.0 ≡ b → (b || list_any (λ t. bytes_eq n.0 t.name.0) rs) ≡ true → (IsNamedIn rs n → found (start_name prefix n) (map {B = NonterminalString × NonterminalString} (λ t. (start_name prefix t.name, t.name)) rs) ≡ Some n)
        → cond b (Some s.name) (found (start_name prefix n) (map {B = NonterminalString × NonterminalString} (λ t. (start_name prefix t.name, t.name)) rs)) ≡ Some n
    by true is i deeper = ap Some (sym ((names_decide n s.name).0 is))
    by false is i deeper = deeper i
