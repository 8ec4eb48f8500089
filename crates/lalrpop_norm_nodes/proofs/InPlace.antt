-- A list whose elements are replaced one after another, and what they reach.
use Rattle.std.proofs.Common.{◌≡◌, ℕ, ◌+◌, ◌<◌, List, [], ◌∷◌, ◌++◌, length, map, take, drop, set, get_or, sym, ap, ◌∙◌, arith, append-nil, append_assoc, Result}
use Rattle.std.specs.List.{flat_map}
use Rattle.std.specs.Result.{IsErrAnd}
use Rattle.std.proofs.lemmas.List.{take_more, drop_more, take-append-drop, map-append, map-set, set_at, get_or_at, get_or-map, length-map, length-take-le}
use Rattle.std.proofs.lemmas.Grind.{flat_map-append}
use Rattle.lalrpop_norm_tree.specs.Symbols.{Part}
use Rattle.lalrpop_norm_faults.specs.declared.failure.NormFailure.{NormFailure}
use Rattle.lalrpop_norm_faults.specs.Faults.{IsFirst, Refuses}
use Rattle.lalrpop_norm_nodes.specs.declared.table.Table.{Table}
use Rattle.lalrpop_norm_nodes.specs.Meeting.{after, clash_faults}
use Rattle.lalrpop_norm_faults.proofs.FaultLemmas.{exit_at}
use Rattle.lalrpop_norm_nodes.proofs.MeetingLemmas.{refuses_same, clash_both}
use Rattle.lalrpop_norm_nodes.specs.Tables.{is_declared_in, seen_in, TableMeets, refused_in}
use Rattle.lalrpop_norm_nodes.proofs.MeetLemmas.{meets_both, refused_later}

-- the exit by `?` where the first of what is reached is an error
pub exit_first : {T : Type 0} (a : Table) (xs ys : List Part) (r : Result T NormFailure) (e : NormFailure) →
    IsErrAnd r (λ x. x ≡ e) → IsFirst (refused_in a xs) e → Refuses r (refused_in a (xs ++ ys))
exit_first a xs ys r e from first =
    exit_at r e (refused_in a xs) (clash_faults (is_declared_in a) (after (seen_in a) xs) ys) (refused_in a (xs ++ ys)) from first
    (clash_both (is_declared_in a) (seen_in a) xs ys)

-- the first i are replaced
abbrev pub Partly : {D : Type 0} → (D → D) → List D → List D → ℕ → Type 0
Partly f vs ws i = ws ≡ map f (take i vs) ++ drop i vs

front : {D : Type 0} (f : D → D) (vs : List D) (i : ℕ) → i < length vs → length (map f (take i vs)) ≡ i
front f vs i l = length-map (take i vs) f ∙ length-take-le i vs (omega arith)

split_at : {D : Type 0} (f : D → D) (vs ws : List D) (i : ℕ) (d : D) → i < length vs → Partly f vs ws i →
    ws ≡ map f (take i vs) ++ (get_or vs i d ∷ drop (i + 1) vs)
split_at f vs ws i d l e = e ∙ ap (λ t. map f (take i vs) ++ t) (drop_more vs i d l)

-- the next one is still as it was
pub still : {X D : Type 0} (v : X → D) (f : D → D) (cur : List X) (vs : List D) (i : ℕ) (x : X) → i < length vs → i < length cur →
    Partly f vs (map v cur) i → x ≡ get_or cur i x → v x ≡ get_or vs i (v x)
still v f cur vs i x l k e at =
    ap v at
    ∙ sym (get_or-map v cur i x (v x) k)
    ∙ ap (λ ws. get_or ws i (v x)) (split_at f vs (map v cur) i (v x) l e)
    ∙ get_or_at (map f (take i vs)) (get_or vs i (v x)) (drop (i + 1) vs) (v x) i (front f vs i l)

pub partly_more : {X D : Type 0} (v : X → D) (f : D → D) (cur : List X) (vs : List D) (i : ℕ) (x y : X) → i < length vs → i < length cur →
    Partly f vs (map v cur) i → x ≡ get_or cur i x → v y ≡ f (v x) → Partly f vs (map v (set cur i y)) (i + 1)
partly_more v f cur vs i x y l k e at new =
    let d = v x in
    let here : get_or vs i (v x) ≡ v x = sym (still v f cur vs i x l k e at) in
    let done : map f (take (i + 1) vs) ≡ map f (take i vs) ++ f (v x) ∷ [] =
    ap (λ ws. map f ws) (take_more vs i (v x) l) ∙ map-append f (take i vs) (get_or vs i (v x) ∷ []) ∙ ap (λ w. map f (take i vs) ++ f w ∷ []) here in
    map-set v cur i y
    ∙ ap (λ ws. set ws i (v y)) (split_at f vs (map v cur) i (v x) l e)
    ∙ set_at (map f (take i vs)) (get_or vs i (v x)) (drop (i + 1) vs) (v y) i (front f vs i l)
    ∙ ap (λ w. map f (take i vs) ++ w ∷ drop (i + 1) vs) new
    ∙ sym (append_assoc (map f (take i vs)) (f (v x) ∷ []) (drop (i + 1) vs))
    ∙ ap (λ ws. ws ++ drop (i + 1) vs) (sym done)

module _ {D : Type 0} (m : D → List Part) (vs : List D) (i : ℕ) (w : D) (l : i < length vs) (e : w ≡ get_or vs i w) where
  pub met_more : flat_map m (take (i + 1) vs) ≡ flat_map m (take i vs) ++ m w
  met_more =
      rw (take_more vs i w l, flat_map-append m (take i vs) (get_or vs i w ∷ []), ← e)
      (ap (λ ps. flat_map m (take i vs) ++ ps) (append-nil _))

  met_split : flat_map m vs ≡ flat_map m (take i vs) ++ (m w ++ flat_map m (drop (i + 1) vs))
  met_split =
      let split : vs ≡ take i vs ++ (w ∷ drop (i + 1) vs) =
      sym (take-append-drop i vs) ∙ ap (λ d. take i vs ++ d) (drop_more vs i w l ∙ ap (λ t. t ∷ drop (i + 1) vs) (sym e)) in
      ap (λ ws. flat_map m ws) split ∙ flat_map-append m (take i vs) (w ∷ drop (i + 1) vs)

  pub partly_met : (a b c : Table) → TableMeets a b (flat_map m (take i vs)) → TableMeets b c (m w) → TableMeets a c (flat_map m (take (i + 1) vs))
  partly_met a b c h k = rw met_more (meets_both a b c _ _ h k)

  pub partly_quiet : (a b : Table) → TableMeets a b (flat_map m (take i vs)) → refused_in a (flat_map m (take i vs)) ≡ [] →
      refused_in b (m w) ≡ [] → refused_in a (flat_map m (take (i + 1) vs)) ≡ []
  partly_quiet a b h none more = ap (refused_in a) met_more ∙ refused_later a b _ _ h none ∙ more

  pub partly_exit : {T : Type 0} (a b : Table) (r : Result T NormFailure) (f : NormFailure) → TableMeets a b (flat_map m (take i vs)) →
      refused_in a (flat_map m (take i vs)) ≡ [] → IsErrAnd r (λ x. x ≡ f) → IsFirst (refused_in b (m w)) f → Refuses r (refused_in a (flat_map m vs))
  partly_exit a b r f h none from first =
      refuses_same r (refused_in b (m w ++ flat_map m (drop (i + 1) vs))) _
      (sym (ap (refused_in a) met_split ∙ refused_later a b _ _ h none))
      (exit_first b (m w) (flat_map m (drop (i + 1) vs)) r f from first)
