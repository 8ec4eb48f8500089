-- What a map of patterns answers where each call answers one function of its part.
use Rattle.std.proofs.Common.{◌≡◌, Result, Ok, Err, IfOk, List, [], ◌++◌, map, Bor, refl, ap, sym, ◌∙◌}
use Rattle.std.proofs.lemmas.List.{append_assoc, append-nil}
use Rattle.std.specs.Fn.{Mut, Called, CalledAt}
use Rattle.lalrpop_norm_tree_patterns.specs.declared.pattern.Pattern.{Pattern}
use Rattle.lalrpop_norm_tree_parts.specs.Walks.{Answered}
use Rattle.lalrpop_norm_tree_parts.proofs.AnsweredWalks.{answered_mapped}
use Rattle.lalrpop_norm_tree_patterns.specs.MappedPatterns.{mapped_kind, mapped_pattern, mapped_patterns, mapped_fields, pattern_shape, chosen_in_kind, chosen_in_pattern, chosen_in_all, chosen_in_fields}
use Rattle.lalrpop_norm_tree_patterns.specs.Patterns.{PatternKindData, enumerated, structured, path, tuple, tuple_struct, number, underscore, dot_dot, chosen, character, text, PatternData, pattern_at, Patterns, no_patterns, pattern_and, Fields, no_fields, field_and, pattern_view}
use Rattle.lalrpop_norm_tree_patterns.proofs.PatternViews.{view_mapped}

-- of one shape, and with selected parts that are seen as the same: seen as the same
module _ {T U V : Type 0} (v : U → V) (g : T → V) where
  mutual
    same_kind : (k : PatternKindData T) (l : PatternKindData U) → mapped_kind (λ (u : U). tt {0}) l ≡ mapped_kind (λ (t : T). tt {0}) k → (us : List U) (ts : List T) → map v (chosen_in_kind l ++ us) ≡ map g (chosen_in_kind k ++ ts) → (mapped_kind v l ≡ mapped_kind g k) × (map v us ≡ map g ts)
    same_kind (enumerated p ps) (enumerated q qs) e us ts h =
        let inner = same_all ps qs (cc) us ts h in
        let first = inner.0 in
        (cc, inner.1)
    same_kind (structured p fs b) (structured q gs c) e us ts h =
        let inner = same_fields fs gs (cc) us ts h in
        let first = inner.0 in
        (cc, inner.1)
    same_kind (path p) (path q) e us ts h = (cc, h)
    same_kind (tuple ps) (tuple qs) e us ts h =
        let inner = same_all ps qs (cc) us ts h in
        (ap tuple inner.0, inner.1)
    same_kind (tuple_struct p ps) (tuple_struct q qs) e us ts h =
        let inner = same_all ps qs (cc) us ts h in
        let first = inner.0 in
        (cc, inner.1)
    same_kind (number m) (number n) e us ts h = (cc, h)
    same_kind underscore underscore e us ts h = (refl, h)
    same_kind dot_dot dot_dot e us ts h = (refl, h)
    same_kind (chosen t) (chosen u) e us ts h = (cc, cc)
    same_kind (character a) (character b) e us ts h = (cc, h)
    same_kind (text a) (text b) e us ts h = (cc, h)
    same_kind _ _ e us ts h = cc

    same_pattern : (p : PatternData T) (q : PatternData U) → mapped_pattern (λ (u : U). tt {0}) q ≡ mapped_pattern (λ (t : T). tt {0}) p → (us : List U) (ts : List T) → map v (chosen_in_pattern q ++ us) ≡ map g (chosen_in_pattern p ++ ts) → (mapped_pattern v q ≡ mapped_pattern g p) × (map v us ≡ map g ts)
    same_pattern (pattern_at s k) (pattern_at r l) e us ts h =
        let inner = same_kind k l (cc) us ts h in
        let first = inner.0 in
        (cc, inner.1)

    same_all : (ps : Patterns T) (qs : Patterns U) → mapped_patterns (λ (u : U). tt {0}) qs ≡ mapped_patterns (λ (t : T). tt {0}) ps → (us : List U) (ts : List T) → map v (chosen_in_all qs ++ us) ≡ map g (chosen_in_all ps ++ ts) → (mapped_patterns v qs ≡ mapped_patterns g ps) × (map v us ≡ map g ts)
    same_all no_patterns no_patterns e us ts h = (refl, h)
    same_all (pattern_and p ps) (pattern_and q qs) e us ts h =
        let one = same_pattern p q (cc) (chosen_in_all qs ++ us) (chosen_in_all ps ++ ts) (rw (← append_assoc (chosen_in_pattern q) (chosen_in_all qs) us, ← append_assoc (chosen_in_pattern p) (chosen_in_all ps) ts) h) in
        let all = same_all ps qs (cc) us ts one.1 in
        let first = one.0 in
        let rest = all.0 in
        (cc, all.1)
    same_all _ _ e us ts h = cc

    same_fields : (fs : Fields T) (gs : Fields U) → mapped_fields (λ (u : U). tt {0}) gs ≡ mapped_fields (λ (t : T). tt {0}) fs → (us : List U) (ts : List T) → map v (chosen_in_fields gs ++ us) ≡ map g (chosen_in_fields fs ++ ts) → (mapped_fields v gs ≡ mapped_fields g fs) × (map v us ≡ map g ts)
    same_fields no_fields no_fields e us ts h = (refl, h)
    same_fields (field_and s n p fs) (field_and r m q gs) e us ts h =
        let one = same_pattern p q (cc) (chosen_in_fields gs ++ us) (chosen_in_fields fs ++ ts) (rw (← append_assoc (chosen_in_pattern q) (chosen_in_fields gs) us, ← append_assoc (chosen_in_pattern p) (chosen_in_fields fs) ts) h) in
        let all = same_fields fs gs (cc) us ts one.1 in
        let first = one.0 in
        let rest = all.0 in
        (cc, all.1)
    same_fields _ _ e us ts h = cc

-- mapped twice is mapped by the composition
module _ {T W V : Type 0} (w : T → W) (g : W → V) where
  mutual
    kind_twice : (k : PatternKindData T) → mapped_kind g (mapped_kind w k) ≡ mapped_kind (λ t. g (w t)) k
    kind_twice (enumerated p ps) = ap (enumerated p) (all_twice ps)
    kind_twice (structured p fs b) = ap (λ gs. structured p gs b) (fields_twice fs)
    kind_twice (path p) = refl
    kind_twice (tuple ps) = ap tuple (all_twice ps)
    kind_twice (tuple_struct p ps) = ap (tuple_struct p) (all_twice ps)
    kind_twice (number n) = refl
    kind_twice underscore = refl
    kind_twice dot_dot = refl
    kind_twice (chosen t) = refl
    kind_twice (character a) = refl
    kind_twice (text a) = refl

    pub pattern_twice : (p : PatternData T) → mapped_pattern g (mapped_pattern w p) ≡ mapped_pattern (λ t. g (w t)) p
    pattern_twice (pattern_at s k) = ap (pattern_at s) (kind_twice k)

    all_twice : (ps : Patterns T) → mapped_patterns g (mapped_patterns w ps) ≡ mapped_patterns (λ t. g (w t)) ps
    all_twice no_patterns = refl
    all_twice (pattern_and p ps) =
        let first = pattern_twice p in
        let rest = all_twice ps in
        cc

    fields_twice : (fs : Fields T) → mapped_fields g (mapped_fields w fs) ≡ mapped_fields (λ t. g (w t)) fs
    fields_twice no_fields = refl
    fields_twice (field_and s n p fs) =
        let first = pattern_twice p in
        let rest = fields_twice fs in
        cc

-- a mapped pattern, seen: the pattern that was mapped, seen and put through g
pub pattern_mapped : {T U W V : Type 0} (w : T → W) (v : U → V) (g : W → V) (p : Pattern T) (q : Pattern U) → pattern_shape (pattern_view (λ (u : U). u) q) ≡ pattern_shape (pattern_view (λ (t : T). t) p)
    → map v (chosen_in_pattern (pattern_view (λ (u : U). u) q)) ≡ map (λ t. g (w t)) (chosen_in_pattern (pattern_view (λ (t : T). t) p)) → pattern_view v q ≡ mapped_pattern g (pattern_view w p)
pattern_mapped w v g p q e h =
    view_mapped v q
    ∙ (same_pattern v (λ t. g (w t)) (pattern_view (λ t. t) p) (pattern_view (λ u. u) q) e [] []
    (rw (append-nil (chosen_in_pattern (pattern_view (λ u. u) q)), append-nil (chosen_in_pattern (pattern_view (λ t. t) p))) h)).0
    ∙ sym (pattern_twice w g (pattern_view (λ t. t) p)) ∙ ap (mapped_pattern g) (sym (view_mapped w p))

-- of the calls of a closure: from what `Pattern::map` ensures to what it answers
pub pattern_map_gives : {S T U E W V : Type 0} (calls : Mut S (Bor T × Unit {0}) (Result U E)) (w : T → W) (v : U → V) (g : W → V) → ((s s' : S) (y : Bor T) (u : U) → Called calls s (y, tt) (Ok u) s' → v u ≡ g (w y.now)) → (s s' : S) (p : Pattern T) (r : Result (Pattern U) E)
    → IfOk r (λ q. pattern_shape (pattern_view (λ u. u) q) ≡ pattern_shape (pattern_view (λ t. t) p))
    → IfOk r (λ q. Answered (CalledAt calls) s (chosen_in_pattern (pattern_view (λ t. t) p)) (chosen_in_pattern (pattern_view (λ u. u) q)) s')
    → IfOk r (λ q. pattern_view v q ≡ mapped_pattern g (pattern_view w p))
pattern_map_gives calls w v g each s s' p (Ok q) kept answered =
    pattern_mapped w v g p q kept
    (answered_mapped (CalledAt calls) (λ _. Unit {0}) v (λ t. g (w t)) (λ s s' t u is c. (each s s' c.shown u c.called ∙ ap (λ x. g (w x)) c.shows, tt)) s s'
    (chosen_in_pattern (pattern_view (λ t. t) p)) (chosen_in_pattern (pattern_view (λ u. u) q)) tt answered)
pattern_map_gives calls w v g each s s' p (Err e) kept answered = tt
