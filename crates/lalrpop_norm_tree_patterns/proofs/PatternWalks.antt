-- The selected parts and the shapes of patterns, one by one.
use Rattle.std.proofs.Common.{◌≡◌, ℕ, suc, ◌+◌, ◌<◌, length, take, drop, ◌≤◌, get_or, Bool, Bor, List, [], ◌∷◌, ◌++◌, map, String, Vec, Global, Result, Ok, Err, refl, ap, subst, sym, ◌∙◌}
use Rattle.std.proofs.Math.Numerals.{add-one}
use Rattle.std.proofs.Math.Seq.{drop-cons}
use Rattle.std.proofs.lemmas.List.{append_assoc, append-nil, at_drop_all, map-append, take_all}
use Rattle.std.specs.Prelude.{flat_map, string_bytes}
use Rattle.std.specs.Result.{OnOk}
use Rattle.lalrpop_norm_tree_parts.specs.declared.path.Path.{Path}
use Rattle.lalrpop_norm_tree_patterns.specs.declared.pattern.Pattern.{Pattern}
use Rattle.lalrpop_norm_tree_patterns.specs.declared.pattern.FieldPattern.{FieldPattern}
use Rattle.lalrpop_norm_tree_patterns.specs.declared.pattern.PatternKind.{PatternKind}
use Rattle.lalrpop_norm_tree_patterns.specs.declared.pattern.PatternKind.TheVariants as variant
use Rattle.lalrpop_norm_tree_patterns.specs.MappedPatterns.{pattern_shape, field_shape, mapped_patterns, mapped_fields, kind_shape, chosen_in_pattern, chosen_in_kind, chosen_in_all, chosen_in_fields}
use Rattle.lalrpop_norm_tree_parts.specs.Paths.{path_view}
use Rattle.lalrpop_norm_tree_patterns.specs.Patterns.{PatternKindData, enumerated, structured, path, tuple, tuple_struct, number, underscore, dot_dot, chosen, character, text, pattern_and, field_and, patterns_of, fields_of}
use Rattle.lalrpop_norm_tree_patterns.specs.Patterns.{pattern_kind_view, pattern_view, field_view, patterns_view, fields_view}
use Rattle.lalrpop_norm_tree_parts.specs.Walks.{Answered}
use Rattle.lalrpop_norm_tree_patterns.proofs.PatternSeen.{pattern_is, field_is, enum_seen, struct_seen, path_seen, tuple_seen, tuple_struct_seen, number_seen, underscore_seen, dot_dot_seen, chosen_seen, character_seen, text_seen}

-- what is left after one more element, of all that there is
pub drop_more : {X T : Type 0} (places : X → List T) (xs : List X) (i : ℕ) (x : X) (before after all : List T) → i < length xs → before ++ flat_map places (drop i xs) ≡ all → after ≡ before ++ places (get_or xs i x) → after ++ flat_map places (drop (i + 1) xs) ≡ all
drop_more places xs i x before after all h done is =
    let rest : before ++ (places (get_or xs i x) ++ flat_map places (drop (suc i) xs)) ≡ all = subst (λ r. before ++ flat_map places r ≡ all) (drop-cons xs i x h) done in
    rw (is, add-one i, append_assoc before (places (get_or xs i x)) (flat_map places (drop (suc i) xs))) rest

-- nothing is left
pub none_left : {X T : Type 0} (f : List X → List T) (xs : List X) (i : ℕ) (before all : List T) → length xs ≤ i → f [] ≡ [] → before ++ f (drop i xs) ≡ all → before ≡ all
none_left f xs i before all h none done = sym (append-nil before) ∙ ap (λ r. before ++ r) (sym none ∙ sym (at_drop_all f xs i h)) ∙ done

module _ {T : Type 0} where
  pub patterns_places : (ps : List (Pattern T)) → chosen_in_all (patterns_view (λ t. t) ps) ≡ flat_map (λ p. chosen_in_pattern (pattern_view (λ t. t) p)) ps
  patterns_places [] = refl
  patterns_places (p ∷ ps) = ap (λ r. chosen_in_pattern (pattern_view (λ t. t) p) ++ r) (patterns_places ps)

  pub fields_places : (fs : List (FieldPattern T)) → chosen_in_fields (fields_view (λ t. t) fs) ≡ flat_map (λ d. chosen_in_pattern (field_view (λ t. t) d).pattern) fs
  fields_places [] = refl
  fields_places (d ∷ fs) = ap (λ r. chosen_in_pattern (field_view (λ t. t) d).pattern ++ r) (fields_places fs)

  pub patterns_shapes : (ps : List (Pattern T)) → mapped_patterns (λ _. tt {0}) (patterns_view (λ t. t) ps) ≡ patterns_of (map (λ p. pattern_shape (pattern_view (λ t. t) p)) ps)
  patterns_shapes [] = refl
  patterns_shapes (p ∷ ps) = ap (pattern_and (pattern_shape (pattern_view (λ t. t) p))) (patterns_shapes ps)

  pub fields_shapes : (fs : List (FieldPattern T)) → mapped_fields (λ _. tt {0}) (fields_view (λ t. t) fs) ≡ fields_of (map (λ d. field_shape (field_view (λ t. t) d)) fs)
  fields_shapes [] = refl
  fields_shapes (d ∷ fs) = ap (field_and (field_view (λ t. t) d).span (field_view (λ t. t) d).name (field_shape (field_view (λ t. t) d)).pattern) (fields_shapes fs)

  -- the selected parts of a kind of pattern are those of what it holds
  module _ (k : PatternKind T) where
    pub enum_places : (p : Path) (ps : Vec (Pattern T) Global) → k ≡ variant.Enum p ps → chosen_in_kind (pattern_kind_view (λ (t : T). t) k) ≡ chosen_in_all (patterns_view (λ (t : T). t) ps.items)
    enum_places p ps is = rw (is, enum_seen p ps) refl

    pub struct_places : (p : Path) (fs : Vec (FieldPattern T) Global) (rest : Bool) → k ≡ variant.Struct p fs rest → chosen_in_kind (pattern_kind_view (λ (t : T). t) k) ≡ chosen_in_fields (fields_view (λ (t : T). t) fs.items)
    struct_places p fs rest is = rw (is, struct_seen p fs rest) refl

    pub tuple_places : (ps : Vec (Pattern T) Global) → k ≡ variant.Tuple ps → chosen_in_kind (pattern_kind_view (λ (t : T). t) k) ≡ chosen_in_all (patterns_view (λ (t : T). t) ps.items)
    tuple_places ps is = rw (is, tuple_seen ps) refl

    pub tuple_struct_places : (p : Path) (ps : Vec (Pattern T) Global) → k ≡ variant.TupleStruct p ps → chosen_in_kind (pattern_kind_view (λ (t : T). t) k) ≡ chosen_in_all (patterns_view (λ (t : T). t) ps.items)
    tuple_struct_places p ps is = rw (is, tuple_struct_seen p ps) refl

    pub chosen_places : (t : T) → k ≡ variant.Choose t → chosen_in_kind (pattern_kind_view (λ (t : T). t) k) ≡ t ∷ []
    chosen_places t is = rw (is, chosen_seen t) refl

  pub pattern_places : (p : Pattern T) → chosen_in_pattern (pattern_view (λ (t : T). t) p) ≡ chosen_in_kind (pattern_kind_view (λ (t : T). t) p.kind)
  pattern_places p = rw (pattern_is p) refl

  pub field_places : (d : FieldPattern T) → chosen_in_pattern (field_view (λ (t : T). t) d).pattern ≡ chosen_in_pattern (pattern_view (λ (t : T). t) d.pattern)
  field_places d = rw (field_is d) refl

-- a kind of pattern that is made of what its parts were mapped to
module _ {S T U E : Type 0} (Step : S → T → Result U E → S → Type 0) (s s' : S) where
  abbrev Mapped : PatternKind T → PatternKind U → Type 0
  Mapped k l = (kind_shape (pattern_kind_view (λ (u : U). u) l) ≡ kind_shape (pattern_kind_view (λ (t : T). t) k)) × Answered Step s (chosen_in_kind (pattern_kind_view (λ (t : T). t) k)) (chosen_in_kind (pattern_kind_view (λ (u : U). u) l)) s'

  seen_mapped : (k : PatternKind T) (l : PatternKind U) (from : PatternKindData T) (to : PatternKindData U) → pattern_kind_view (λ (t : T). t) k ≡ from → pattern_kind_view (λ (u : U). u) l ≡ to → kind_shape to ≡ kind_shape from → Answered Step s (chosen_in_kind from) (chosen_in_kind to) s' → Mapped k l
  seen_mapped k l from to e d same a = (rw (e, d) same, rw (e, d) a)

  module _ (k : PatternKind T) where
    pub enum_mapped : (p q : Path) (ps : Vec (Pattern T) Global) (qs : Vec (Pattern U) Global) (xs : List (Pattern T)) → k ≡ variant.Enum p ps → xs ≡ ps.items → path_view q ≡ path_view p → mapped_patterns (λ _. tt {0}) (patterns_view (λ u. u) qs.items) ≡ mapped_patterns (λ _. tt {0}) (patterns_view (λ t. t) xs)
        → Answered Step s (chosen_in_all (patterns_view (λ t. t) xs)) (chosen_in_all (patterns_view (λ u. u) qs.items)) s' → Mapped k (variant.Enum q qs)
    enum_mapped p q ps qs xs is at same kept a =
        seen_mapped k (variant.Enum q qs) (enumerated (path_view p) (patterns_view (λ t. t) ps.items)) (enumerated (path_view q) (patterns_view (λ u. u) qs.items)) (ap (pattern_kind_view (λ (t : T). t)) is ∙ enum_seen p ps) (enum_seen q qs) (cc) (rw (← at) a)

    pub struct_mapped : (p q : Path) (fs : Vec (FieldPattern T) Global) (gs : Vec (FieldPattern U) Global) (xs : List (FieldPattern T)) (rest : Bool) → k ≡ variant.Struct p fs rest → xs ≡ fs.items → path_view q ≡ path_view p → mapped_fields (λ _. tt {0}) (fields_view (λ u. u) gs.items) ≡ mapped_fields (λ _. tt {0}) (fields_view (λ t. t) xs)
        → Answered Step s (chosen_in_fields (fields_view (λ t. t) xs)) (chosen_in_fields (fields_view (λ u. u) gs.items)) s' → Mapped k (variant.Struct q gs rest)
    struct_mapped p q fs gs xs rest is at same kept a =
        seen_mapped k (variant.Struct q gs rest) (structured (path_view p) (fields_view (λ t. t) fs.items) rest) (structured (path_view q) (fields_view (λ u. u) gs.items) rest) (ap (pattern_kind_view (λ (t : T). t)) is ∙ struct_seen p fs rest) (struct_seen q gs rest) (cc) (rw (← at) a)

    pub tuple_mapped : (ps : Vec (Pattern T) Global) (qs : Vec (Pattern U) Global) (xs : List (Pattern T)) → k ≡ variant.Tuple ps → xs ≡ ps.items → mapped_patterns (λ _. tt {0}) (patterns_view (λ u. u) qs.items) ≡ mapped_patterns (λ _. tt {0}) (patterns_view (λ t. t) xs)
        → Answered Step s (chosen_in_all (patterns_view (λ t. t) xs)) (chosen_in_all (patterns_view (λ u. u) qs.items)) s' → Mapped k (variant.Tuple qs)
    tuple_mapped ps qs xs is at kept a =
        seen_mapped k (variant.Tuple qs) (tuple (patterns_view (λ t. t) ps.items)) (tuple (patterns_view (λ u. u) qs.items)) (ap (pattern_kind_view (λ (t : T). t)) is ∙ tuple_seen ps) (tuple_seen qs) (cc) (rw (← at) a)

    pub tuple_struct_mapped : (p q : Path) (ps : Vec (Pattern T) Global) (qs : Vec (Pattern U) Global) (xs : List (Pattern T)) → k ≡ variant.TupleStruct p ps → xs ≡ ps.items → path_view q ≡ path_view p → mapped_patterns (λ _. tt {0}) (patterns_view (λ u. u) qs.items) ≡ mapped_patterns (λ _. tt {0}) (patterns_view (λ t. t) xs)
        → Answered Step s (chosen_in_all (patterns_view (λ t. t) xs)) (chosen_in_all (patterns_view (λ u. u) qs.items)) s' → Mapped k (variant.TupleStruct q qs)
    tuple_struct_mapped p q ps qs xs is at same kept a =
        seen_mapped k (variant.TupleStruct q qs) (tuple_struct (path_view p) (patterns_view (λ t. t) ps.items)) (tuple_struct (path_view q) (patterns_view (λ u. u) qs.items)) (ap (pattern_kind_view (λ (t : T). t)) is ∙ tuple_struct_seen p ps) (tuple_struct_seen q qs) (cc) (rw (← at) a)

    pub chosen_mapped : (t : T) (u : U) → k ≡ variant.Choose t → Answered Step s (t ∷ []) (u ∷ []) s' → Mapped k (variant.Choose u)
    chosen_mapped t u is a = seen_mapped k (variant.Choose u) (chosen t) (chosen u) (ap (pattern_kind_view (λ (t : T). t)) is ∙ chosen_seen t) (chosen_seen u) refl a

    pub path_mapped : (p q : Path) → k ≡ variant.Path p → path_view q ≡ path_view p → s' ≡ s → Mapped k (variant.Path q)
    path_mapped p q is same at = seen_mapped k (variant.Path q) (path (path_view p)) (path (path_view q)) (ap (pattern_kind_view (λ (t : T). t)) is ∙ path_seen p) (path_seen q) (cc) at

    pub number_mapped : (n : ℕ) → k ≡ variant.Usize n → s' ≡ s → Mapped k (variant.Usize n)
    number_mapped n is at = seen_mapped k (variant.Usize n) (number n) (number n) (ap (pattern_kind_view (λ (t : T). t)) is ∙ number_seen n) (number_seen n) refl at

    pub underscore_mapped : k ≡ variant.Underscore → s' ≡ s → Mapped k variant.Underscore
    underscore_mapped is at = seen_mapped k variant.Underscore underscore underscore (ap (pattern_kind_view (λ (t : T). t)) is ∙ underscore_seen) underscore_seen refl at

    pub dot_dot_mapped : k ≡ variant.DotDot → s' ≡ s → Mapped k variant.DotDot
    dot_dot_mapped is at = seen_mapped k variant.DotDot dot_dot dot_dot (ap (pattern_kind_view (λ (t : T). t)) is ∙ dot_dot_seen) dot_dot_seen refl at

    pub character_mapped : (a b : List ℕ) → k ≡ variant.CharLiteral a → b ≡ a → s' ≡ s → Mapped k (variant.CharLiteral b)
    character_mapped a b is same at = seen_mapped k (variant.CharLiteral b) (character a) (character b) (ap (pattern_kind_view (λ (t : T). t)) is ∙ character_seen a) (character_seen b) (cc) at

    pub text_mapped : (a b : String Global) → k ≡ variant.String a → string_bytes b ≡ string_bytes a → s' ≡ s → Mapped k (variant.String b)
    text_mapped a b is same at = seen_mapped k (variant.String b) (text (string_bytes a)) (text (string_bytes b)) (ap (pattern_kind_view (λ (t : T). t)) is ∙ text_seen a) (text_seen b) (cc) at

-- a pattern, and a field, whose part was mapped
module _ {T U : Type 0} where
  pub pattern_kept : (p : Pattern T) (q : Pattern U) → q.span ≡ p.span → kind_shape (pattern_kind_view (λ (u : U). u) q.kind) ≡ kind_shape (pattern_kind_view (λ (t : T). t) p.kind) → pattern_shape (pattern_view (λ (u : U). u) q) ≡ pattern_shape (pattern_view (λ (t : T). t) p)
  pattern_kept p q same kept = rw (pattern_is p, pattern_is q) (cc)

  pub field_kept : (d : FieldPattern T) (e : FieldPattern U) → e.field_span ≡ d.field_span → e.field_name ≡ d.field_name → pattern_shape (pattern_view (λ (u : U). u) e.pattern) ≡ pattern_shape (pattern_view (λ (t : T). t) d.pattern) → field_shape (field_view (λ (u : U). u) e) ≡ field_shape (field_view (λ (t : T). t) d)
  field_kept d e at name kept = rw (field_is d, field_is e, at, name, kept) refl

-- lists of patterns, and of fields, that were mapped as far as they go
module _ {T U : Type 0} where
  pub patterns_kept : (qs : List (Pattern U)) (ps : List (Pattern T)) (i : ℕ) → length ps ≤ i → map (λ p. pattern_shape (pattern_view (λ u. u) p)) qs ≡ map (λ p. pattern_shape (pattern_view (λ t. t) p)) (take i ps) → mapped_patterns (λ _. tt {0}) (patterns_view (λ u. u) qs) ≡ mapped_patterns (λ _. tt {0}) (patterns_view (λ t. t) ps)
  patterns_kept qs ps i h same = patterns_shapes qs ∙ ap patterns_of (same ∙ ap (map (λ p. pattern_shape (pattern_view (λ t. t) p))) (take_all i ps h)) ∙ sym (patterns_shapes ps)

  pub fields_kept : (gs : List (FieldPattern U)) (fs : List (FieldPattern T)) (i : ℕ) → length fs ≤ i → map (λ d. field_shape (field_view (λ u. u) d)) gs ≡ map (λ d. field_shape (field_view (λ t. t) d)) (take i fs) → mapped_fields (λ _. tt {0}) (fields_view (λ u. u) gs) ≡ mapped_fields (λ _. tt {0}) (fields_view (λ t. t) fs)
  fields_kept gs fs i h same = fields_shapes gs ∙ ap fields_of (same ∙ ap (map (λ d. field_shape (field_view (λ t. t) d))) (take_all i fs h)) ∙ sym (fields_shapes fs)

  module _ {S E : Type 0} (Step : S → T → Result U E → S → Type 0) (s s' : S) where
    pub patterns_answered : (qs : List (Pattern U)) (ps : List (Pattern T)) (i : ℕ) → length ps ≤ i → Answered Step s (flat_map (λ p. chosen_in_pattern (pattern_view (λ t. t) p)) (take i ps)) (flat_map (λ p. chosen_in_pattern (pattern_view (λ u. u) p)) qs) s' → Answered Step s (chosen_in_all (patterns_view (λ t. t) ps)) (chosen_in_all (patterns_view (λ u. u) qs)) s'
    patterns_answered qs ps i h a = rw (patterns_places ps, patterns_places qs) (rw (take_all i ps h) at a)

    pub fields_answered : (gs : List (FieldPattern U)) (fs : List (FieldPattern T)) (i : ℕ) → length fs ≤ i → Answered Step s (flat_map (λ d. chosen_in_pattern (field_view (λ t. t) d).pattern) (take i fs)) (flat_map (λ d. chosen_in_pattern (field_view (λ u. u) d).pattern) gs) s' → Answered Step s (chosen_in_fields (fields_view (λ t. t) fs)) (chosen_in_fields (fields_view (λ u. u) gs)) s'
    fields_answered gs fs i h a = rw (fields_places fs, fields_places gs) (rw (take_all i fs h) at a)

-- what the selected parts of a kind of pattern without patterns add to those before
module _ {T : Type 0} (all : List T) (k : PatternKind T) where
  none_more : (d : PatternKindData T) → pattern_kind_view (λ (t : T). t) k ≡ d → chosen_in_kind d ≡ [] → all ≡ all ++ chosen_in_kind (pattern_kind_view (λ (t : T). t) k)
  none_more d e none = rw (e, none, append-nil all) refl

  pub path_more : (p : Path) → k ≡ variant.Path p → all ≡ all ++ chosen_in_kind (pattern_kind_view (λ (t : T). t) k)
  path_more p is = none_more (path (path_view p)) (ap (pattern_kind_view (λ (t : T). t)) is ∙ path_seen p) refl

  pub number_more : (n : ℕ) → k ≡ variant.Usize n → all ≡ all ++ chosen_in_kind (pattern_kind_view (λ (t : T). t) k)
  number_more n is = none_more (number n) (ap (pattern_kind_view (λ (t : T). t)) is ∙ number_seen n) refl

  pub underscore_more : k ≡ variant.Underscore → all ≡ all ++ chosen_in_kind (pattern_kind_view (λ (t : T). t) k)
  underscore_more is = none_more underscore (ap (pattern_kind_view (λ (t : T). t)) is ∙ underscore_seen) refl

  pub dot_dot_more : k ≡ variant.DotDot → all ≡ all ++ chosen_in_kind (pattern_kind_view (λ (t : T). t) k)
  dot_dot_more is = none_more dot_dot (ap (pattern_kind_view (λ (t : T). t)) is ∙ dot_dot_seen) refl

  pub character_more : (a : List ℕ) → k ≡ variant.CharLiteral a → all ≡ all ++ chosen_in_kind (pattern_kind_view (λ (t : T). t) k)
  character_more a is = none_more (character a) (ap (pattern_kind_view (λ (t : T). t)) is ∙ character_seen a) refl

  pub text_more : (a : String Global) → k ≡ variant.String a → all ≡ all ++ chosen_in_kind (pattern_kind_view (λ (t : T). t) k)
  text_more a is = none_more (text (string_bytes a)) (ap (pattern_kind_view (λ (t : T). t)) is ∙ text_seen a) refl

pub chosen_more : {T E : Type 0} (k : PatternKind T) (y : Bor T) (old new : List (Bor T)) (r : Result (Unit {0}) E) → k ≡ variant.Choose y.now → OnOk r (new ≡ old ++ y ∷ []) → OnOk r (map (λ t. t.now) new ≡ map (λ t. t.now) old ++ chosen_in_kind (pattern_kind_view (λ (t : T). t) k))
chosen_more k y old new (Ok x) is e = rw (is, chosen_seen y.now, e, map-append (λ t. t.now) old (y ∷ [])) refl
chosen_more k y old new (Err x) is e = tt
