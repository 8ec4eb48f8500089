-- The names and patterns of sources: counted along the symbols, and by their indices.
use Rattle.std.proofs.Common.{◌≡◌, ◌∙◌, ℕ, ◌+◌, Bool, true, false, cond, ◌||◌, ◌&&◌, List, [], ◌∷◌, ◌++◌, length, map, take, refl, sym, ap, arith, codes, append-nil}
use Rattle.std.specs.Prelude.{not, bytes_eq, decimal, filter, unwrap_or}
use Rattle.std.specs.List.{list_any, enumerate_from}
use Rattle.std.proofs.lemmas.List.{append_assoc, length-append, take_at}
use Rattle.std.proofs.lemmas.List.Elements.{filter-append, filter_agree}
use Rattle.std.proofs.lemmas.Slice.Eq.{bytes_eq-Decides}
use Rattle.lalrpop_norm_tree.specs.Symbols.{ArgumentPattern, Part, Parts, no_parts, part_and}
use Rattle.lalrpop_norm_model.specs.MadeRules.{names_value, some_name_value}
use Rattle.lalrpop_norm_common.specs.Values.{is_chosen, has_chosen}
use Rattle.lalrpop_norm_lower.specs.Sources.{source_name, plain_name}
use Rattle.lalrpop_norm_lower.specs.Naming.{is_source, source_pattern, names_from, source_names, patterns_from, argument_patterns}
use Rattle.lalrpop_norm_lower.specs.Sourced.{AreSourcesOf}
use Rattle.lalrpop_norm_lower.specs.declared.arguments.Sources.{Sources}
use Rattle.lalrpop_norm_lower.specs.Arguments.{part_list, written_pattern, is_source_of, sources_before, pattern_at_place, patterns, name_given, names}

chosen_listed : (ps : Parts) → list_any is_chosen (part_list ps) ≡ has_chosen ps
chosen_listed no_parts = refl
chosen_listed (part_and p ps) = ap (λ b. is_chosen p || b) (chosen_listed ps)

pub named_listed : (ps : Parts) → list_any names_value (part_list ps) ≡ some_name_value ps
named_listed no_parts = refl
named_listed (part_and p ps) = ap (λ b. names_value p || b) (named_listed ps)

source_as_counted : (ps : Parts) (p : Part) → is_source_of (part_list ps) p ≡ is_source (some_name_value ps) (has_chosen ps) p
source_as_counted ps p = rw (named_listed ps, chosen_listed ps) refl

-- one more element of a filtered list
count_more : (test : Part → Bool) (done : List Part) (p : Part) → length (filter test (done ++ p ∷ [])) ≡ cond (test p) (length (filter test done) + 1) (length (filter test done))
count_more test done p = ap length (filter-append test done (p ∷ [])) ∙ length-append (filter test done) (cond (test p) (p ∷ []) []) ∙ by (test p)
  where
    by : (t : Bool) → length (filter test done) + length (cond t (p ∷ []) []) ≡ cond t (length (filter test done) + 1) (length (filter test done))
    by true = refl
    by false = omega arith

split_cons : {A : Type 0} (t : Bool) (a b : A) (f : ℕ → List A) (m n : ℕ) → cond t (a ∷ f m) (b ∷ f n) ≡ cond t a b ∷ f (cond t m n)
split_cons true a b f m n = refl
split_cons false a b f m n = refl

split_keep : {A : Type 0} (t : Bool) (a : A) (f : ℕ → List A) (m n : ℕ) → cond t (a ∷ f m) (f n) ≡ cond t (a ∷ f (cond t m n)) (f (cond t m n))
split_keep true a f m n = refl
split_keep false a f m n = refl

module _ (prefix : List ℕ) (some_named some_chosen : Bool) (whole : List Part) (as_counted : (p : Part) → is_source_of whole p ≡ is_source some_named some_chosen p) where
  places_before : (done rest : List Part) → done ++ rest ≡ whole → sources_before whole (length done) ≡ length (filter (is_source some_named some_chosen) done)
  places_before done rest e =
      ap length (filter_agree (is_source_of whole) (is_source some_named some_chosen) as_counted (take (length done) whole))
      ∙ ap (λ (ps : List Part). length (filter (is_source some_named some_chosen) ps)) (ap (take (length done)) (sym e) ∙ take_at done rest (length done) refl)

  pattern_here : (done rest : List Part) (p : Part) → done ++ rest ≡ whole
      → pattern_at_place prefix whole (length done) p ≡ cond (is_source some_named some_chosen p) (source_pattern prefix (length (filter (is_source some_named some_chosen) done)) p) (plain_name (codes "_"))
  pattern_here done rest p e =
      ap (λ b. cond b (unwrap_or (written_pattern p) (plain_name (source_name prefix (sources_before whole (length done))))) (plain_name (codes "_"))) (as_counted p)
      ∙ ap (λ n. cond (is_source some_named some_chosen p) (source_pattern prefix n p) (plain_name (codes "_"))) (places_before done rest e)

  patterns_by_place : (done : List Part) (rest : Parts) → done ++ part_list rest ≡ whole
      → patterns_from prefix some_named some_chosen (length (filter (is_source some_named some_chosen) done)) rest ≡ map (λ e. pattern_at_place prefix whole e.0 e.1) (enumerate_from (length done) (part_list rest))
  patterns_by_place done no_parts e = refl
  patterns_by_place done (part_and p ps) e =
      let test : Part → Bool = is_source some_named some_chosen in
      let n : ℕ = length (filter test done) in
      let deeper = patterns_by_place (done ++ p ∷ []) ps (append_assoc done (p ∷ []) (part_list ps) ∙ e) in
      let counted = count_more test done p in
      split_cons (test p) (source_pattern prefix n p) (plain_name (codes "_")) (λ j. patterns_from prefix some_named some_chosen j ps) (n + 1) n
      ∙ ap (λ q. q ∷ patterns_from prefix some_named some_chosen (cond (test p) (n + 1) n) ps) (sym (pattern_here done (p ∷ part_list ps) p e))
      ∙ ap (λ (qs : List ArgumentPattern). pattern_at_place prefix whole (length done) p ∷ qs)
      (ap (λ j. patterns_from prefix some_named some_chosen j ps) (sym counted) ∙ deeper
      ∙ ap (λ k. map (λ e. pattern_at_place prefix whole e.0 e.1) (enumerate_from k (part_list ps))) (length-append done (p ∷ [])))

  name_here : (t : Bool) (done rest : List Part) (p : Part) → is_source some_named some_chosen p ≡ t → done ++ rest ≡ whole → (ns : List (List ℕ))
      → cond t (name_given (source_pattern prefix (length (filter (is_source some_named some_chosen) done)) p) ∷ ns) ns ≡ cond t (name_given (pattern_at_place prefix whole (length done) p) ∷ ns) ns
  name_here false done rest p is e ns = refl
  name_here true done rest p is e ns =
      ap (λ (q : List ℕ). q ∷ ns)
      (sym (ap name_given (pattern_here done rest p e ∙ ap (λ b. cond b (source_pattern prefix (length (filter (is_source some_named some_chosen) done)) p) (plain_name (codes "_"))) is)))

  map_kept : (t : Bool) (f : ℕ × Part → List ℕ) (x : ℕ × Part) (xs : List (ℕ × Part)) → cond t (f x ∷ map f xs) (map f xs) ≡ map f (cond t (x ∷ xs) xs)
  map_kept true f x xs = refl
  map_kept false f x xs = refl

  names_by_place : (done : List Part) (rest : Parts) → done ++ part_list rest ≡ whole
      → names_from prefix some_named some_chosen (length (filter (is_source some_named some_chosen) done)) rest ≡ map (λ e. name_given (pattern_at_place prefix whole e.0 e.1)) (filter (λ e. is_source_of whole e.1) (enumerate_from (length done) (part_list rest)))
  names_by_place done no_parts e = refl
  names_by_place done (part_and p ps) e =
      let test : Part → Bool = is_source some_named some_chosen in
      let n : ℕ = length (filter test done) in
      let place : ℕ → List (ℕ × Part) = λ k. filter (λ (x : ℕ × Part). is_source_of whole x.1) (enumerate_from k (part_list ps)) in
      let name : ℕ × Part → List ℕ = λ (x : ℕ × Part). name_given (pattern_at_place prefix whole x.0 x.1) in
      let deeper = names_by_place (done ++ p ∷ []) ps (append_assoc done (p ∷ []) (part_list ps) ∙ e) in
      let same : names_from prefix some_named some_chosen (cond (test p) (n + 1) n) ps ≡ map name (place (length done + 1)) =
      ap (λ j. names_from prefix some_named some_chosen j ps) (sym (count_more test done p)) ∙ deeper ∙ ap (λ k. map name (place k)) (length-append done (p ∷ [])) in
      split_keep (test p) (name_given (source_pattern prefix n p)) (λ j. names_from prefix some_named some_chosen j ps) (n + 1) n
      ∙ name_here (test p) done (p ∷ part_list ps) p refl e (names_from prefix some_named some_chosen (cond (test p) (n + 1) n) ps)
      ∙ ap (λ (ns : List (List ℕ)). cond (test p) (name (length done, p) ∷ ns) ns) same
      ∙ map_kept (test p) name (length done, p) (place (length done + 1))
      ∙ ap (λ b. map name (cond b ((length done, p) ∷ place (length done + 1)) (place (length done + 1)))) (sym (as_counted p))

-- the counted patterns and names are those by indices
pub patterns_counted : (prefix : List ℕ) (ps : Parts) → argument_patterns prefix ps ≡ patterns prefix (part_list ps)
patterns_counted prefix ps = patterns_by_place prefix (some_name_value ps) (has_chosen ps) (part_list ps) (source_as_counted ps) [] ps refl

pub names_counted : (prefix : List ℕ) (ps : Parts) → source_names prefix ps ≡ names prefix (part_list ps)
names_counted prefix ps = names_by_place prefix (some_name_value ps) (has_chosen ps) (part_list ps) (source_as_counted ps) [] ps refl

-- ---- as it is computed once which symbols are sources

-- where some are named, selected ones do not count
patterns_of_named : (prefix : List ℕ) (b c : Bool) (j : ℕ) (ps : Parts) → patterns_from prefix true b j ps ≡ patterns_from prefix true c j ps
patterns_of_named prefix b c j no_parts = refl
patterns_of_named prefix b c j (part_and p ps) =
    ap (λ qs. cond (names_value p) (source_pattern prefix j p ∷ qs) (plain_name (codes "_") ∷ patterns_from prefix true b j ps)) (patterns_of_named prefix b c (j + 1) ps)
    ∙ ap (λ qs. cond (names_value p) (source_pattern prefix j p ∷ patterns_from prefix true c (j + 1) ps) (plain_name (codes "_") ∷ qs)) (patterns_of_named prefix b c j ps)

names_of_named : (prefix : List ℕ) (b c : Bool) (j : ℕ) (ps : Parts) → names_from prefix true b j ps ≡ names_from prefix true c j ps
names_of_named prefix b c j no_parts = refl
names_of_named prefix b c j (part_and p ps) =
    ap (λ ns. cond (names_value p) (name_given (source_pattern prefix j p) ∷ ns) (names_from prefix true b j ps)) (names_of_named prefix b c (j + 1) ps)
    ∙ ap (λ ns. cond (names_value p) (name_given (source_pattern prefix j p) ∷ names_from prefix true c (j + 1) ps) ns) (names_of_named prefix b c j ps)

module _ (prefix : List ℕ) (ps : Parts) (sources : Sources) (told : AreSourcesOf ps sources) where
  as_told : {X : Type 0} (f : Bool → Bool → X) → f sources.some_named sources.some_chosen ≡ f (some_name_value ps) (not (some_name_value ps) && has_chosen ps)
  as_told f = ap (λ b. f b sources.some_chosen) told.named ∙ ap (f (some_name_value ps)) told.chosen

  pub patterns_told : patterns_from prefix sources.some_named sources.some_chosen 0 ps ≡ argument_patterns prefix ps
  patterns_told = as_told (λ b c. patterns_from prefix b c 0 ps) ∙ by (some_name_value ps)
    where
      by : (named : Bool) → patterns_from prefix named (not named && has_chosen ps) 0 ps ≡ patterns_from prefix named (has_chosen ps) 0 ps
      by true = patterns_of_named prefix false (has_chosen ps) 0 ps
      by false = refl

  pub names_told : names_from prefix sources.some_named sources.some_chosen 0 ps ≡ source_names prefix ps
  names_told = as_told (λ b c. names_from prefix b c 0 ps) ∙ by (some_name_value ps)
    where
      by : (named : Bool) → names_from prefix named (not named && has_chosen ps) 0 ps ≡ names_from prefix named (has_chosen ps) 0 ps
      by true = names_of_named prefix false (has_chosen ps) 0 ps
      by false = refl

-- ---- one more argument

-- b says whether it is a source; n sources are before it
module _ (prefix : List ℕ) (some_named some_chosen b : Bool) (p : Part) (ps : Parts) (n : ℕ) (is : b ≡ is_source some_named some_chosen p) where
  more_patterns : (test : Bool) → b ≡ test → (f : ℕ → List ArgumentPattern) (next : ℕ) (old new all : List ArgumentPattern) → next ≡ cond b (n + 1) n → new ≡ old ++ cond b (source_pattern prefix n p) (plain_name (codes "_")) ∷ []
      → old ++ cond test (source_pattern prefix n p ∷ f (n + 1)) (plain_name (codes "_") ∷ f n) ≡ all → new ++ f next ≡ all
  more_patterns true is f next old new all counted made before =
      ap (λ k. new ++ f k) (counted ∙ ap (λ c. cond c (n + 1) n) is)
      ∙ ap (λ qs. qs ++ f (n + 1)) (made ∙ ap (λ c. old ++ cond c (source_pattern prefix n p) (plain_name (codes "_")) ∷ []) is)
      ∙ append_assoc old (source_pattern prefix n p ∷ []) (f (n + 1)) ∙ before
  more_patterns false is f next old new all counted made before =
      ap (λ k. new ++ f k) (counted ∙ ap (λ c. cond c (n + 1) n) is)
      ∙ ap (λ qs. qs ++ f n) (made ∙ ap (λ c. old ++ cond c (source_pattern prefix n p) (plain_name (codes "_")) ∷ []) is)
      ∙ append_assoc old (plain_name (codes "_") ∷ []) (f n) ∙ before

  pub one_more_pattern : (next : ℕ) (old new all : List ArgumentPattern) → next ≡ cond b (n + 1) n → new ≡ old ++ cond b (source_pattern prefix n p) (plain_name (codes "_")) ∷ []
      → old ++ patterns_from prefix some_named some_chosen n (part_and p ps) ≡ all → new ++ patterns_from prefix some_named some_chosen next ps ≡ all
  one_more_pattern = more_patterns (is_source some_named some_chosen p) is (λ k. patterns_from prefix some_named some_chosen k ps)

  -- the names before it are ns, and ms with it
  module _ (ns ms : List (List ℕ)) (len : n ≡ length ns) (named : ms ≡ ns ++ cond b (name_given (source_pattern prefix n p) ∷ []) []) where
    more_names : (test : Bool) → b ≡ test → (m : ℕ) → n ≡ m → (f : ℕ → List (List ℕ)) (all : List (List ℕ))
        → ns ++ cond test (name_given (source_pattern prefix m p) ∷ f (m + 1)) (f m) ≡ all → ms ++ f (cond test (m + 1) m) ≡ all
    more_names true is m len f all before =
        ap (λ qs. qs ++ f (m + 1)) (named ∙ ap (λ c. ns ++ cond c (name_given (source_pattern prefix n p) ∷ []) []) is ∙ ap (λ k. ns ++ name_given (source_pattern prefix k p) ∷ []) len)
        ∙ append_assoc ns (name_given (source_pattern prefix m p) ∷ []) (f (m + 1)) ∙ before
    more_names false is m len f all before =
        ap (λ qs. qs ++ f m) (named ∙ ap (λ c. ns ++ cond c (name_given (source_pattern prefix n p) ∷ []) []) is ∙ append-nil ns) ∙ before

    counted : (test : Bool) → b ≡ test → length ms ≡ cond test (length ns + 1) (length ns)
    counted true is = ap length (named ∙ ap (λ c. ns ++ cond c (name_given (source_pattern prefix n p) ∷ []) []) is) ∙ length-append ns (name_given (source_pattern prefix n p) ∷ [])
    counted false is = ap length (named ∙ ap (λ c. ns ++ cond c (name_given (source_pattern prefix n p) ∷ []) []) is ∙ append-nil ns)

    pub one_more_name : (all : List (List ℕ)) → ns ++ names_from prefix some_named some_chosen (length ns) (part_and p ps) ≡ all → ms ++ names_from prefix some_named some_chosen (length ms) ps ≡ all
    one_more_name all before =
        ap (λ k. ms ++ names_from prefix some_named some_chosen k ps) (counted (is_source some_named some_chosen p) is)
        ∙ more_names (is_source some_named some_chosen p) is (length ns) len (λ k. names_from prefix some_named some_chosen k ps) all before

-- ---- the first sources behind the usual prefix

it_is : (b : Bool) → false ≡ not b → b ≡ true
it_is true e = refl
it_is false e = absurd (cc)

pub usual_source : (prefix : List ℕ) (j k : ℕ) (text : List ℕ) → false ≡ not (bytes_eq prefix (codes "__")) → j ≡ k → text ≡ codes "__" ++ decimal k → text ≡ source_name prefix j
usual_source prefix j k text usual same named =
    let is : prefix ≡ codes "__" = (bytes_eq-Decides prefix (codes "__")).0 (it_is _ usual) in
    named ∙ ap (λ p. p ++ decimal k) (sym is) ∙ ap (λ n. prefix ++ decimal n) (sym same)
