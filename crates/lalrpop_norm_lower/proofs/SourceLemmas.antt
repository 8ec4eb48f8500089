-- Sources as lowering reads them, and as the faults of lowering name them.
use Rattle.std.proofs.Common.{◌≡◌, ◌∙◌, ℕ, suc, ◌+◌, Bool, true, false, cond, not, ◌||◌, ◌&&◌, List, [], ◌∷◌, length, map, Option, Some, None, refl, sym, ap, subst, ◌≤◌, codes, add-one, arith}
use Rattle.std.specs.Prelude.{is_some, replicate, nat_eq, nat_le}
use Rattle.std.proofs.lemmas.Bool.Decides.{Decides-eqb}
use Rattle.std.proofs.lemmas.List.{length-replicate}
use Rattle.lalrpop_norm_tree.specs.Symbols.{chosen, named, tupled, at, Parts, no_parts, part_and}
use Rattle.lalrpop_norm_tree.specs.Items.{Action, user_code, fallible_code, lookahead_code, lookbehind_code, AlternativeData}
use Rattle.lalrpop_norm_tree_parts.specs.Reprs.{ReprData, tuple, slice, nominal, associated, of_lifetime, reference, trait_object, function, no_reprs, repr_and}
use Rattle.lalrpop_norm_tree_names.specs.Texts.{joined}
use Rattle.lalrpop_norm_faults.specs.Faults.{fault_if}
use Rattle.lalrpop_norm_faults.specs.declared.kind.FaultKind.TheVariants.{Placeholders}
use Rattle.lalrpop_norm_lower_steps.specs.Counts.{count_faults}
use Rattle.lalrpop_norm_common.specs.ExprSymbols.{Placed, NamedPart, named_parts, chosen_parts, all_parts, SymbolsSeen, with_names, without_names, with_any, analyzed_symbols}
use Rattle.lalrpop_norm_model.specs.LoweringFaults.{slots, code_in, code_faults, span_over}
use Rattle.lalrpop_norm_model.specs.MadeRules.{some_name_value, if_any}
use Rattle.lalrpop_norm_model.specs.Sources.{Source, chosen_sources, all_sources, sources}
use Rattle.lalrpop_norm_lower.specs.Arguments.{in_slots}
use Rattle.lalrpop_norm_lower_steps.specs.Code.{sources_code, absent_code, written_code}
use Rattle.lalrpop_norm_lower_steps.proofs.SlotLemmas.{unfilled}
use Rattle.lalrpop_norm_common.specs.Braces.{around_slot}
use Rattle.lalrpop_norm_common.specs.Values.{has_chosen}
use Rattle.lalrpop_norm_common.proofs.SymbolLemmas.{no_named}
use Rattle.lalrpop_norm_lower.specs.Made.{made_code}
use Rattle.lalrpop_norm_lower.specs.Naming.{names_from, source_names}
use Rattle.lalrpop_norm_faults.proofs.FaultLemmas.{not_fault}
use Rattle.lalrpop_norm_theory.proofs.BoolLemmas.{or_true}
use Rattle.lalrpop_norm_tree_parts.proofs.KnownTextLemmas.{map_twice}

-- ---- how many there are

no_chosen : (k : ℕ) (ps : Parts) → has_chosen ps ≡ false → chosen_sources k ps ≡ []
no_chosen k no_parts h = refl
no_chosen k (part_and (at s (chosen p)) ps) h = cc
no_chosen k (part_and (at s x) ps) h = no_chosen (suc k) ps h

some_chosen : (k : ℕ) (ps : Parts) (others : List Source) → has_chosen ps ≡ true → if_any (chosen_sources k ps) others ≡ chosen_sources k ps
some_chosen k no_parts others h = cc
some_chosen k (part_and (at s (chosen p)) ps) others h = refl
some_chosen k (part_and (at s x) ps) others h = some_chosen (suc k) ps others h

count_chosen : (prefix : List ℕ) (k j : ℕ) (ps : Parts) → length (names_from prefix false true j ps) ≡ length (chosen_sources k ps)
count_chosen prefix k j no_parts = refl
count_chosen prefix k j (part_and (at s (chosen p)) ps) = ap suc (count_chosen prefix (suc k) (j + 1) ps)
count_chosen prefix k j (part_and (at s x) ps) = count_chosen prefix (suc k) j ps

count_all : (prefix : List ℕ) (k j : ℕ) (ps : Parts) → length (names_from prefix false false j ps) ≡ length (all_sources k ps)
count_all prefix k j no_parts = refl
count_all prefix k j (part_and p ps) = ap suc (count_all prefix (suc k) (j + 1) ps)

unnamed_sources : (ps : Parts) → some_name_value ps ≡ false → sources ps ≡ if_any (chosen_sources 0 ps) (all_sources 0 ps)
unnamed_sources ps h = ap (λ xs. if_any xs (if_any (chosen_sources 0 ps) (all_sources 0 ps))) (no_named 0 ps h)

-- each source has a name, where no symbol is named
pub names_for_sources : (prefix : List ℕ) (ps : Parts) → some_name_value ps ≡ false → length (source_names prefix ps) ≡ length (sources ps)
names_for_sources prefix ps h =
    ap (λ b. length (names_from prefix b (has_chosen ps) 0 ps)) h ∙ by (has_chosen ps) refl ∙ ap length (sym (unnamed_sources ps h))
  where
    by : (b : Bool) → has_chosen ps ≡ b → length (names_from prefix false b 0 ps) ≡ length (if_any (chosen_sources 0 ps) (all_sources 0 ps))
    by true is = count_chosen prefix 0 0 ps ∙ ap length (sym (some_chosen 0 ps (all_sources 0 ps) is))
    by false is = count_all prefix 0 0 ps ∙ ap (λ xs. length (if_any xs (all_sources 0 ps))) (sym (no_chosen 0 ps is))

-- ---- as they are analyzed

abbrev pub source_of : Placed → Source
source_of e = record { place = e.0; symbol = e.1 }

abbrev NamedSeen : ℕ → Parts → List NamedPart → Type 0
NamedSeen k ps [] = some_name_value ps ≡ false
NamedSeen k ps (x ∷ xs) = some_name_value ps ≡ true

named_seen : (k : ℕ) (ps : Parts) → NamedSeen k ps (named_parts k ps)
named_seen k no_parts = refl
named_seen k (part_and (at s (named n p)) ps) = refl
named_seen k (part_and (at s (tupled ns p)) ps) = refl
named_seen k (part_and (at s x) ps) = named_seen (k + 1) ps

chosen_seen : (k : ℕ) (ps : Parts) → map source_of (chosen_parts k ps) ≡ chosen_sources k ps
chosen_seen k no_parts = refl
chosen_seen k (part_and (at s (chosen p)) ps) =
    ap (λ (xs : List Source). source_of (k, p) ∷ xs) (ap (λ n. map source_of (chosen_parts n ps)) (add-one k) ∙ chosen_seen (suc k) ps)
chosen_seen k (part_and (at s x) ps) = ap (λ n. map source_of (chosen_parts n ps)) (add-one k) ∙ chosen_seen (suc k) ps

all_seen : (k : ℕ) (ps : Parts) → map source_of (all_parts k ps) ≡ all_sources k ps
all_seen k no_parts = refl
all_seen k (part_and p ps) =
    ap (λ (xs : List Source). source_of (k, p) ∷ xs) (ap (λ n. map source_of (all_parts n ps)) (add-one k) ∙ all_seen (suc k) ps)

-- what is seen of symbols: that some have names, or the sources
abbrev pub IsSeen : Parts → SymbolsSeen → Type 0
IsSeen ps (with_names xs) = some_name_value ps ≡ true
IsSeen ps (without_names xs) = (some_name_value ps ≡ false) × (map source_of xs ≡ sources ps)

without_seen : (ps : Parts) → some_name_value ps ≡ false → (cs : List Placed) → map source_of cs ≡ chosen_sources 0 ps → IsSeen ps (without_names (if_any cs (all_parts 0 ps)))
without_seen ps none [] h = (none, all_seen 0 ps ∙ ap (λ xs. if_any xs (all_sources 0 ps)) h ∙ sym (unnamed_sources ps none))
without_seen ps none (c ∷ cs) h = (none, ap (λ xs. if_any xs (all_sources 0 ps)) h ∙ sym (unnamed_sources ps none))

pub seen : (ps : Parts) → IsSeen ps (analyzed_symbols ps)
seen ps = by (named_parts 0 ps) (named_seen 0 ps)
  where
    by : (ns : List NamedPart) → NamedSeen 0 ps ns → IsSeen ps (with_any ns (without_names (if_any (chosen_parts 0 ps) (all_parts 0 ps))))
    by [] h = without_seen ps h (chosen_parts 0 ps) (chosen_seen 0 ps)
    by (n ∷ ns) h = h

-- ---- names enough

pub replicated : {X : Type 0} (n : ℕ) (x : X) → length (replicate n x) ≡ n
replicated n x = length-replicate n x

few_enough : (b : Bool) (ns : List (List ℕ)) (n : ℕ) → nat_le n 1 ≡ true → length (in_slots b ns n) ≡ n
few_enough b ns n h =
    ap (λ t. length (cond (b || t) (replicate n (joined (codes ", ") ns)) ns)) h
    ∙ ap (λ t. length (cond t (replicate n (joined (codes ", ") ns)) ns)) (or_true b) ∙ replicated n (joined (codes ", ") ns)

few_sources : (ns : List (List ℕ)) → nat_le (slots (sources_code ns)) 1 ≡ true
few_sources [] = refl
few_sources (n ∷ []) = refl
few_sources (n ∷ m ∷ ns) = refl

few_absent : (type : ReprData) (ns : List (List ℕ)) → nat_le (slots (absent_code type ns)) 1 ≡ true
few_absent (tuple no_reprs) ns = refl
few_absent (tuple (repr_and t ts)) ns = few_sources ns
few_absent (slice t) ns = few_sources ns
few_absent (nominal p ts) ns = few_sources ns
few_absent (associated a b) ns = few_sources ns
few_absent (of_lifetime l) ns = few_sources ns
few_absent (reference l m t) ns = few_sources ns
few_absent (trait_object p ts) ns = few_sources ns
few_absent (function fs p ts r) ns = few_sources ns

-- where it is not so that several `<>` are not as many as the sources
written_enough : (is_named : Bool) (ns : List (List ℕ)) (n m : ℕ) → (is_named ≡ false → length ns ≡ m) → (not is_named && (nat_le 2 n && not (nat_eq n m))) ≡ false → length (in_slots is_named ns n) ≡ n
written_enough true ns n m long h = replicated n (joined (codes ", ") ns)
written_enough false ns n m long h = by (nat_le n 1) refl (nat_le 2 n) refl (nat_eq n m) refl h
  where
    by : (few : Bool) → nat_le n 1 ≡ few → (several : Bool) → nat_le 2 n ≡ several → (same : Bool) → nat_eq n m ≡ same → (several && not same) ≡ false → length (in_slots false ns n) ≡ n
    by true is several is_several same is_same e = few_enough false ns n is
    by false is true is_several true is_same e =
        ap (λ t. length (cond t (replicate n (joined (codes ", ") ns)) ns)) is ∙ long refl ∙ sym ((Decides-eqb n m).0 is_same)
    by false is true is_several false is_same e = cc
    by false is false is_several same is_same e = absurd (neither n is is_several)
      where
        neither : (n : ℕ) → nat_le n 1 ≡ false → nat_le 2 n ≡ false → ⊥
        neither n h i = grind arith

pub enough : (prefix : List ℕ) (type : ReprData) (ns : List (List ℕ)) (a : AlternativeData) → code_faults a ≡ []
    → length (in_slots (some_name_value a.parts) (source_names prefix a.parts) (slots (written_code type ns a.action))) ≡ slots (written_code type ns a.action)
enough prefix type ns a h = by a.action (not_fault _ _ h)
  where
    by : (o : Option Action) → (not (some_name_value a.parts) && (nat_le 2 (slots (code_in o)) && not (nat_eq (slots (code_in o)) (length (sources a.parts))))) ≡ false
        → length (in_slots (some_name_value a.parts) (source_names prefix a.parts) (slots (written_code type ns o))) ≡ slots (written_code type ns o)
    by None i = few_enough (some_name_value a.parts) (source_names prefix a.parts) (slots (absent_code type ns)) (few_absent type ns)
    by (Some (user_code c)) i = written_enough (some_name_value a.parts) (source_names prefix a.parts) (slots c) (length (sources a.parts)) (names_for_sources prefix a.parts) i
    by (Some (fallible_code c)) i = written_enough (some_name_value a.parts) (source_names prefix a.parts) (slots c) (length (sources a.parts)) (names_for_sources prefix a.parts) i
    by (Some lookahead_code) i = few_enough (some_name_value a.parts) (source_names prefix a.parts) (slots (absent_code type ns)) (few_absent type ns)
    by (Some lookbehind_code) i = few_enough (some_name_value a.parts) (source_names prefix a.parts) (slots (absent_code type ns)) (few_absent type ns)

pub enough_at : (prefix : List ℕ) (type : ReprData) (ns : List (List ℕ)) (a : AlternativeData) (b : Bool) (ms : List (List ℕ)) (code : List ℕ) → code_faults a ≡ []
    → b ≡ some_name_value a.parts → ms ≡ source_names prefix a.parts → code ≡ written_code type ns a.action → length (in_slots b ms (slots code)) ≡ slots code
enough_at prefix type ns a b ms code h bs mss codes_are =
    ap (λ t. length (in_slots t ms (slots code))) bs ∙ ap (λ t. length (in_slots (some_name_value a.parts) t (slots code))) mss
    ∙ ap (λ t. length (in_slots (some_name_value a.parts) (source_names prefix a.parts) (slots t))) codes_are
    ∙ enough prefix type ns a h ∙ ap slots (sym codes_are)

-- ---- where no name occurs in an action code

module _ (ns : List (List ℕ)) where
  slotted : around_slot (codes "(<>)") ≡ None → sources_code ns ≡ codes "(<>)"
  slotted none = absurd (cc none)

  absent_nameless : (type : ReprData) → around_slot (absent_code type []) ≡ None → absent_code type ns ≡ absent_code type []
  absent_nameless (tuple no_reprs) none = refl
  absent_nameless (tuple (repr_and t ts)) none = slotted none
  absent_nameless (slice t) none = slotted none
  absent_nameless (nominal p ts) none = slotted none
  absent_nameless (associated a b) none = slotted none
  absent_nameless (of_lifetime l) none = slotted none
  absent_nameless (reference l m t) none = slotted none
  absent_nameless (trait_object p ts) none = slotted none
  absent_nameless (function fs p ts r) none = slotted none

  written_nameless : (type : ReprData) (o : Option Action) → around_slot (written_code type [] o) ≡ None → written_code type ns o ≡ written_code type [] o
  written_nameless type None none = absent_nameless type none
  written_nameless type (Some (user_code c)) none = refl
  written_nameless type (Some (fallible_code c)) none = refl
  written_nameless type (Some lookahead_code) none = absent_nameless type none
  written_nameless type (Some lookbehind_code) none = absent_nameless type none

pub code_nameless : (prefix : List ℕ) (type : ReprData) (a : AlternativeData) (code : List ℕ) → code ≡ written_code type [] a.action → is_some (around_slot code) ≡ false → code ≡ made_code prefix type a
code_nameless prefix type a code written slotless =
    let ns : List (List ℕ) = source_names prefix a.parts in
    let none : around_slot (written_code type [] a.action) ≡ None = none_there (around_slot (written_code type [] a.action)) (sym (ap (λ c. is_some (around_slot c)) written) ∙ slotless) in
    written ∙ sym (written_nameless ns type a.action none)
    ∙ sym (unfilled (some_name_value a.parts) ns (written_code type ns a.action) (ap around_slot (written_nameless ns type a.action none) ∙ none))
  where
    none_there : {X : Type 0} (o : Option X) → is_some o ≡ false → o ≡ None
    none_there None is = refl
    none_there (Some x) is = absurd (cc is)

-- ---- faults of codes

pub named_clean : (a : AlternativeData) (v : List NamedPart) → with_names v ≡ analyzed_symbols a.parts → code_faults a ≡ []
named_clean a v is =
    let named : some_name_value a.parts ≡ true = subst (IsSeen a.parts) (sym is) (seen a.parts) in
    ap (λ b. fault_if (not b && (nat_le 2 (slots (code_in a.action)) && not (nat_eq (slots (code_in a.action)) (length (sources a.parts))))) (Placeholders, span_over a.span (sources a.parts))) named

pub unnamed_faults : {X : Type 0} (f : X → Placed) (a : AlternativeData) (xs : List X) (n : ℕ) → without_names (map f xs) ≡ analyzed_symbols a.parts → n ≡ slots (code_in a.action) → 2 ≤ n
    → count_faults a.span n (map (λ x. source_of (f x)) xs) ≡ code_faults a
unnamed_faults f a xs n is count several =
    let there : (some_name_value a.parts ≡ false) × (map source_of (map f xs) ≡ sources a.parts) = subst (IsSeen a.parts) (sym is) (seen a.parts) in
    let two : nat_le 2 n ≡ true = grind arith in
    ap (count_faults a.span n) (map_twice source_of f xs ∙ there.1)
    ∙ ap (λ b. fault_if (b && not (nat_eq n (length (sources a.parts)))) (Placeholders, span_over a.span (sources a.parts))) (sym two)
    ∙ ap (λ b. fault_if (not b && (nat_le 2 n && not (nat_eq n (length (sources a.parts))))) (Placeholders, span_over a.span (sources a.parts))) (sym there.0)
    ∙ ap (λ m. fault_if (not (some_name_value a.parts) && (nat_le 2 m && not (nat_eq m (length (sources a.parts))))) (Placeholders, span_over a.span (sources a.parts))) count
