-- A round in which only the rules on the worklist are visited is a round.
use Rattle.std.proofs.Common.{◌≡◌, ◌≤◌, ◌<◌, ◌+◌, ◌-◌, ◌⊎◌, ◌==◌, ◌||◌, inl, inr, ℕ, zero, suc, Bool, true, false, List, [], ◌∷◌, ◌++◌, Option, Some, None, length, map, take, get_or, slice_get, refl, sym, ap, subst, ◌∙◌, arith}
use Rattle.std.specs.Prelude.{is_some, option_map}
use Rattle.std.proofs.lemmas.Bool.{both_ways, false_from_ne_true}
use Rattle.std.proofs.lemmas.Bool.Decides.{eqb_tells, leb_tells}
use Rattle.std.proofs.lemmas.List.{take_more, take_all}
use Rattle.std.proofs.lemmas.Option.{slice_get-map, slice_get_cases, slice_get_within, slice_get_read, get_or_from_slice_get}
use Rattle.lalrpop_norm_tree_names.specs.declared.names.TypeParameter.{TypeParameter}
use Rattle.lalrpop_norm_tree_parts.specs.Reprs.{ReprData}
use Rattle.lalrpop_norm_theory.specs.Rounds.{In, IsDistinct}
use Rattle.lalrpop_norm_theory.proofs.RoundsLemmas.{in_left, in_right, in_cases}
use Rattle.lalrpop_norm_repr.specs.Tables.{TypeTable}
use Rattle.lalrpop_norm_model.specs.TypeRelation.{TypeClause}
use Rattle.lalrpop_norm_tyinfer_steps.specs.declared.needs.Need.{Need}
use Rattle.lalrpop_norm_tyinfer_steps.specs.declared.rules.PlainRule.{PlainRule}
use Rattle.lalrpop_norm_tyinfer_steps.specs.declared.stops.Stops.{Stops}
use Rattle.lalrpop_norm_tyinfer_steps.specs.declared.waiting.Waiting.{Waiting}
use Rattle.lalrpop_norm_tyinfer_steps.specs.Clauses.{clause_in, first_in}
use Rattle.lalrpop_norm_tyinfer_steps.specs.Needs.{needed_in, names_seen, AreRuleNumbers, IsNeedOf, AreNeeds}
use Rattle.lalrpop_norm_tyinfer_steps.specs.Stops.{typed_at, is_typed, AreTyped, StopsAt, GivesType, BeginsUntyped}
use Rattle.lalrpop_norm_tyinfer_steps.specs.TableValues.{type_by_name}
use Rattle.lalrpop_norm_tyinfer_steps.specs.Visits.{Seen, rule_seen, TakesType, Passes}
use Rattle.lalrpop_norm_tyinfer_steps.specs.Waiting.{has, TakesLeast, IsQuiet, Waits, Wakes, Watches, VisitsOne}
use Rattle.lalrpop_norm_tyinfer_steps.proofs.NeedLemmas.{at_of, of_mapped_at, one_place}
use Rattle.lalrpop_norm_tyinfer_steps.proofs.NeededLemmas.{clause_same, clause_lacks, none_of, none_from}
use Rattle.lalrpop_norm_model.proofs.LevelLemmas.{at_in}
use Rattle.lalrpop_norm_tyinfer_steps.proofs.VisitLemmas.{taken_kept, taken_none, passes_more}

-- ---- indices

same_or_not : (i j : ℕ) → (i ≡ j) ⊎ (i ≡ j → ⊥)
same_or_not i j = elim (eqb_tells i j) [ inl w ↦ inl w.1 | inr w ↦ inr w.1 ]

eqb_same : (i : ℕ) → (i == i) ≡ true
eqb_same i = elim (eqb_tells i i) [ inl w ↦ w.0 | inr w ↦ absurd (w.1 refl) ]

eqb_other : (i j : ℕ) → (i ≡ j → ⊥) → (i == j) ≡ false
eqb_other i j apart = elim (eqb_tells i j) [ inl w ↦ absurd (apart w.1) | inr w ↦ w.0 ]

-- ---- quiet rules

kept_none : (before after : TypeTable) (n : List ℕ) (v : Option ReprData) (a : Bool) → TakesType before after n v a → (m : List ℕ) → type_by_name after m ≡ None →
    (o : Option ReprData) → type_by_name before m ≡ o → o ≡ None
kept_none before after n v a t m none None e = refl
kept_none before after n v a t m none (Some x) e = let clash : None ≡ Some x = sym none ∙ t.kept m x e in absurd cc

-- ---- what stops know

kept_is : (before after : TypeTable) (n : List ℕ) (v : Option ReprData) (a : Bool) → TakesType before after n v a → (m : List ℕ) (o : Option ReprData) → type_by_name before m ≡ o →
    is_some o ≡ true → type_by_name after m ≡ type_by_name before m
kept_is before after n v a t m None e some = absurd cc
kept_is before after n v a t m (Some x) e some = t.kept m x e ∙ sym e

pub not_some : {A : Type 0} (o : Option A) → is_some o ≡ false → o ≡ None
not_some None e = refl
not_some (Some x) e = absurd cc

pub rule_there : (rules : List PlainRule) (place : ℕ) (rule : PlainRule) → place < length rules → rule ≡ get_or rules place rule → slice_get (map rule_seen rules) place ≡ Some (rule_seen rule)
rule_there rules place rule lt is = slice_get-map rule_seen rules place ∙ ap (option_map rule_seen) (slice_get_read rules (length rules) place rule refl lt is)

pub name_at : (ss : List Seen) (k : ℕ) (s : Seen) → slice_get ss k ≡ Some s → slice_get (names_seen ss) k ≡ Some s.0.name.0
name_at ss k s here = slice_get-map (λ (q : Seen). q.0.name.0) ss k ∙ ap (option_map (λ (q : Seen). q.0.name.0)) here

pub name_in : (ss : List Seen) (k : ℕ) (s : Seen) → slice_get ss k ≡ Some s → In s.0.name.0 (names_seen ss)
name_in ss k s here = at_in (names_seen ss) k s.0.name.0 (name_at ss k s here)

module _ (ps : List TypeParameter) (tt : TypeTable) (ss : List Seen) (stops : Stops) (w : Watches ps tt ss stops) where
  -- a name has a type where they say so, and no other
  typed_is : (n : List ℕ) (o : Option ℕ) → w.number n ≡ o → is_typed stops o ≡ is_some (type_by_name tt n)
  typed_is n None e = ap is_some (sym (w.only n e))
  typed_is n (Some k) e =
      let s = of_mapped_at (λ (q : Seen). q.0.name.0) ss k n (w.numbers.right n k e) in
      w.tells k s.0 s.1 ∙ ap (λ m. is_some (type_by_name tt m)) s.2

  need_at : (c : TypeClause) (k : ℕ) (n : Need) → IsNeedOf w.number ps c k n → (j : ℕ) (m : List ℕ) → slice_get (needed_in ps c) j ≡ Some m → slice_get n.numbers.items j ≡ Some (w.number m)
  need_at c k n is j m here =
      ap (λ os. slice_get os j) is.numbers_are ∙ (slice_get-map w.number (needed_in ps c) j ∙ ap (option_map w.number) here)

  -- a clause that stopped makes nothing
  stopped_none : (c : TypeClause) (k : ℕ) (n : Need) → IsNeedOf w.number ps c k n → StopsAt stops n → clause_in ps tt c ≡ None
  stopped_none c k n is s =
      let m = of_mapped_at w.number (needed_in ps c) s.place s.number (ap (λ os. slice_get os s.place) (sym is.numbers_are) ∙ s.here) in
      let untyped : is_some (type_by_name tt m.0) ≡ false = sym (typed_is m.0 (w.number m.0) refl) ∙ (ap (is_typed stops) m.2 ∙ s.untyped) in
      clause_lacks ps tt m.0 (not_some (type_by_name tt m.0) untyped) c (at_in (needed_in ps c) s.place m.0 m.1)

  -- of one that has all its types each name has one
  typed_name : (c : TypeClause) (k : ℕ) (n : Need) → IsNeedOf w.number ps c k n → AreTyped stops n.numbers.items → (m : List ℕ) → In m (needed_in ps c) → is_some (type_by_name tt m) ≡ true
  typed_name c k n is all m i =
      let j = at_of (needed_in ps c) m i in
      sym (typed_is m (w.number m) refl) ∙ all j.0 (w.number m) (need_at c k n is j.0 m j.1)

-- ---- a rule takes a type

module _ (ps : List TypeParameter) (before after : TypeTable) (ss : List Seen) (stops stops_after : Stops) (place : ℕ) (s : Seen) (v : Option ReprData) (ready : List ℕ)
    (w : Watches ps before ss stops) (distinct : IsDistinct (names_seen ss)) (there : slice_get ss place ≡ Some s) (t : TakesType before after s.0.name.0 v true) (g : GivesType stops stops_after place ready) where
  tells_case : (k : ℕ) (r : Seen) → slice_get ss k ≡ Some r → (place ≡ k) ⊎ (place ≡ k → ⊥) → typed_at stops_after k ≡ is_some (type_by_name after r.0.name.0)
  tells_case k r here (inl e) =
      let same : s ≡ r = let one = sym there ∙ (ap (slice_get ss) e ∙ here) in cc in
      ap (typed_at stops_after) (sym e)
      ∙ (g.typed place ∙ (ap (λ b. b || typed_at stops place) (eqb_same place) ∙ sym (subst (λ (q : Seen). is_some (type_by_name after q.0.name.0) ≡ true) same (t.told refl))))
  tells_case k r here (inr apart) =
      g.typed k
      ∙ (ap (λ b. b || typed_at stops k) (eqb_other place k apart)
      ∙ (w.tells k r here ∙ ap is_some (sym (t.others r.0.name.0 (λ e. apart (one_place (names_seen ss) s.0.name.0 place k distinct (name_at ss place s there) (name_at ss k r here ∙ ap Some e)))))))

  -- seen through, as its numbers are the same
  abbrev given_watches : Watches ps after ss stops_after
  given_watches = record {
    number = w.number;
    numbers = w.numbers;
    sound = g.stops;
    count = g.count ∙ w.count;
    tells = λ k r here. tells_case k r here (same_or_not place k);
    only = λ n none. t.others n (λ e. w.numbers.all n none (subst (λ m. In m (names_seen ss)) (sym e) (name_in ss place s there))) ∙ w.only n none;
    settled = λ k r c here i.
        let x = w.settled k r c here i in
        (x.0, x.1, elim (g.settled x.0 x.2) [ inl stop ↦ inl stop | inr all ↦ inr all.0 ]);
  }

  made_none : (k : ℕ) (r : Seen) (c : TypeClause) → (In k ready → ⊥) → first_in ps before r.1 ≡ None → In c r.1 → (n : Need) → IsNeedOf w.number ps c k n →
      StopsAt stops_after n ⊎ (AreTyped stops_after n.numbers.items × (AreTyped stops n.numbers.items ⊎ In n.rule ready)) → clause_in ps after c ≡ None
  made_none k r c late none i n is (inl stop) = stopped_none ps after ss stops_after given_watches c k n is stop
  made_none k r c late none i n is (inr all) = elim all.1 [
    | inl had ↦
        clause_same ps before after t.rest c (λ m here. kept_is before after s.0.name.0 v true t m (type_by_name before m) refl (typed_name ps before ss stops w c k n is had m here))
        ∙ none_of ps before r.1 c none i
    | inr woken ↦ absurd (late (subst (λ q. In q ready) is.rule_is woken))
  ]

  given_quiet : (k : ℕ) (r : Seen) → slice_get ss k ≡ Some r → IsQuiet ps before r → (In k ready → ⊥) → IsQuiet ps after r
  given_quiet k r here quiet late = λ none.
      let untyped = kept_none before after s.0.name.0 v true t r.0.name.0 none (type_by_name before r.0.name.0) refl in
      none_from ps after r.1 (λ c i.
      let x = w.settled k r c here i in
      made_none k r c late (quiet untyped) i x.0 x.1 (g.settled x.0 x.2))

-- the rule that was visited
visited_quiet : (ps : List TypeParameter) (before after : TypeTable) (s : Seen) (a : Bool) → TakesType before after s.0.name.0 (first_in ps before s.1) a → IsQuiet ps after s
visited_quiet ps before after s true t = λ none. let clash : is_some (type_by_name after s.0.name.0) ≡ false = ap is_some none in absurd (both_ways _ clash (t.told refl))
visited_quiet ps before after s false t = subst (λ tt. IsQuiet ps tt s) (sym (t.still refl)) (t.quiet refl)

quiet_case : (ps : List TypeParameter) (tt : TypeTable) (s : Seen) → IsQuiet ps tt s → (o : Option ReprData) → type_by_name tt s.0.name.0 ≡ o →
    TakesType tt tt s.0.name.0 (first_in ps tt s.1) false
quiet_case ps tt s quiet None e = taken_none tt s.0.name.0 (first_in ps tt s.1) e (sym (quiet e))
quiet_case ps tt s quiet (Some x) e = taken_kept tt s.0.name.0 (first_in ps tt s.1) x (sym e)

-- ---- visits up to an index

take_at : {X : Type 0} (xs : List X) (k : ℕ) (x : X) → slice_get xs k ≡ Some x → take (k + 1) xs ≡ take k xs ++ x ∷ []
take_at xs k x e = take_more xs k x (slice_get_within xs k x e) ∙ ap (λ y. take k xs ++ y ∷ []) (get_or_from_slice_get xs k x x e)

passes_at : (ps : List TypeParameter) (before mid after : TypeTable) (ss : List Seen) (k : ℕ) (s : Seen) (a : Bool) → Passes ps before mid (take k ss) → slice_get ss k ≡ Some s →
    TakesType mid after s.0.name.0 (first_in ps mid s.1) a → Passes ps before after (take (k + 1) ss)
passes_at ps before mid after ss k s a p here t = rw (take_at ss k s here) (passes_more ps before mid after (take k ss) s a p t)

past_end : {X : Type 0} (xs : List X) (k : ℕ) → length xs ≤ k → take (k + 1) xs ≡ take k xs
past_end xs k le = take_all (k + 1) xs (omega arith) ∙ sym (take_all k xs le)

-- the visits of quiet rules may be left out
skipped : (ps : List TypeParameter) (before tt : TypeTable) (ss : List Seen) (from : ℕ) → Passes ps before tt (take from ss) → (d : ℕ) →
    ((k : ℕ) (s : Seen) → slice_get ss k ≡ Some s → from ≤ k → k < from + d → IsQuiet ps tt s) → Passes ps before tt (take (from + d) ss)
skipped ps before tt ss from p zero quiet = let here : from + zero ≡ from = omega arith in rw here p
skipped ps before tt ss from p (suc d) quiet =
    let deeper = skipped ps before tt ss from p d (λ k s there le lt. quiet k s there le (omega arith)) in
    let next : from + suc d ≡ from + d + 1 = omega arith in
    rw next (elim (slice_get_cases ss (from + d)).1 [
      | inl w ↦ passes_at ps before tt tt ss (from + d) w.0 false deeper w.2 (quiet_case ps tt w.0 (quiet (from + d) w.0 w.2 (omega arith) (omega arith)) (type_by_name tt w.0.0.name.0) refl)
      | inr w ↦ subst (λ rs. Passes ps before tt rs) (sym (past_end ss (from + d) w.0)) deeper
    ])

skipped_to : (ps : List TypeParameter) (before tt : TypeTable) (ss : List Seen) (from to : ℕ) → from ≤ to → Passes ps before tt (take from ss) →
    ((k : ℕ) (s : Seen) → slice_get ss k ≡ Some s → from ≤ k → k < to → IsQuiet ps tt s) → Passes ps before tt (take to ss)
skipped_to ps before tt ss from to le p quiet =
    let there : from + (to - from) ≡ to = omega arith in
    subst (λ k. Passes ps before tt (take k ss)) there (skipped ps before tt ss from p (to - from) (λ k s here low high. quiet k s here low (omega arith)))

-- ---- indices that are added

pub wakes_more : (xs ys : List ℕ) (place : ℕ) (now now_mid now_after next next_mid next_after : Waiting) → Wakes xs place now now_mid next next_mid →
    Wakes ys place now_mid now_after next_mid next_after → Wakes (xs ++ ys) place now now_after next next_after
wakes_more xs ys place now now_mid now_after next next_mid next_after one two = record {
  kept_now = λ k h. two.kept_now k (one.kept_now k h);
  kept_next = λ k h. two.kept_next k (one.kept_next k h);
  behind = λ k here lt. elim (in_cases k xs ys here) [ inl i ↦ two.kept_now k (one.behind k i lt) | inr i ↦ two.behind k i lt ];
  before = λ k here le. elim (in_cases k xs ys here) [ inl i ↦ two.kept_next k (one.before k i le) | inr i ↦ two.before k i le ];
  only_now = λ k h. elim (two.only_now k h) [
    | inl g ↦ elim (one.only_now k g) [ inl f ↦ inl f | inr w ↦ inr (w.0, in_left k xs ys w.1) ]
    | inr w ↦ inr (w.0, in_right k xs ys w.1)
  ];
  only_next = λ k h. elim (two.only_next k h) [
    | inl g ↦ elim (one.only_next k g) [ inl f ↦ inl f | inr i ↦ inr (in_left k xs ys i) ]
    | inr i ↦ inr (in_right k xs ys i)
  ];
}

-- ---- the indices that are left

rest_true : (now left : Waiting) (place : ℕ) → TakesLeast now left place → (k : ℕ) → has left k ≡ true → (has now k ≡ true) × (place < k)
rest_true now left place t k h = elim (eqb_tells place k) [
  | inl w ↦ absurd (both_ways (has left k) (rw w.0 at (t.rest k)) h)
  | inr w ↦
      let was : has now k ≡ true = sym (rw w.0 at (t.rest k)) ∙ h in
      let low = t.least k was in
      let apart = w.1 in
      (was, omega arith)
]

rest_false : (now left : Waiting) (place : ℕ) → TakesLeast now left place → (k : ℕ) → place < k → has left k ≡ false → has now k ≡ false
rest_false now left place t k lt h = elim (eqb_tells place k) [
  | inl w ↦ let same = w.1 in absurd (omega arith)
  | inr w ↦ sym (rw w.0 at (t.rest k)) ∙ h
]

-- ---- a round

-- the rules before an index are visited, and those that are not quiet are on the worklist
pub record Midway (ps : List TypeParameter) (before tt : TypeTable) (ss : List Seen) (stops : Stops) (from : ℕ) (now next : Waiting) : Type 0 where
  pub passes : Passes ps before tt (take from ss)
  pub watches : Watches ps tt ss stops
  pub behind : (k : ℕ) (s : Seen) → slice_get ss k ≡ Some s → from ≤ k → has now k ≡ false → IsQuiet ps tt s
  pub earlier : (k : ℕ) (s : Seen) → slice_get ss k ≡ Some s → k < from → has next k ≡ false → IsQuiet ps tt s
  pub ahead : (k : ℕ) → has now k ≡ true → from ≤ k
  pub within_now : (k : ℕ) → has now k ≡ true → k < length ss
  pub within_next : (k : ℕ) → has next k ≡ true → k < length ss

module _ (ps : List TypeParameter) (before after : TypeTable) (ss : List Seen) (place : ℕ) (s : Seen) (stops stops_after : Stops) (ready : List ℕ)
    (w : Watches ps before ss stops) (distinct : IsDistinct (names_seen ss)) (there : slice_get ss place ≡ Some s) (st : VisitsOne ps before after s place stops stops_after ready) where
  watches_case : (b : Bool) → st.added ≡ b → Watches ps after ss stops_after
  watches_case true e =
      given_watches ps before after ss stops stops_after place s (first_in ps before s.1) ready w distinct there (subst (TakesType before after s.0.name.0 (first_in ps before s.1)) e st.takes) (st.gives e)
  watches_case false e = subst (Watches ps after ss) (sym (st.still e)) (subst (λ u. Watches ps u ss stops) (sym (st.takes.still e)) w)

  quiet_case_on : (b : Bool) → st.added ≡ b → (k : ℕ) (r : Seen) → slice_get ss k ≡ Some r → IsQuiet ps before r → (In k ready → ⊥) → IsQuiet ps after r
  quiet_case_on true e =
      given_quiet ps before after ss stops stops_after place s (first_in ps before s.1) ready w distinct there (subst (TakesType before after s.0.name.0 (first_in ps before s.1)) e st.takes) (st.gives e)
  quiet_case_on false e = λ k r here quiet late. subst (λ u. IsQuiet ps u r) (sym (st.takes.still e)) quiet

  within_case : (b : Bool) → st.added ≡ b → (k : ℕ) → In k ready → k < length ss
  within_case true e k h = subst (λ c. k < c) w.count ((st.gives e).within k h)
  within_case false e k h = absurd (subst (In k) (st.none e) h)

  pub visited_watches : Watches ps after ss stops_after
  visited_watches = watches_case st.added refl

  quiet_on : (k : ℕ) (r : Seen) → slice_get ss k ≡ Some r → IsQuiet ps before r → (In k ready → ⊥) → IsQuiet ps after r
  quiet_on = quiet_case_on st.added refl

  ready_within : (k : ℕ) → In k ready → k < length ss
  ready_within = within_case st.added refl

module _ (ps : List TypeParameter) (before mid after : TypeTable) (ss : List Seen) (from place : ℕ) (s : Seen) (stops stops_after : Stops) (ready : List ℕ) (now left now_after next next_after : Waiting)
    (distinct : IsDistinct (names_seen ss)) (m : Midway ps before mid ss stops from now next) (t : TakesLeast now left place) (there : slice_get ss place ≡ Some s)
    (st : VisitsOne ps mid after s place stops stops_after ready) (wakes : Wakes ready place left now_after next next_after) where
  high : from ≤ place
  high = m.ahead place t.there

  -- no rule between the two indices is visited
  before_place : (k : ℕ) (r : Seen) → slice_get ss k ≡ Some r → from ≤ k → k < place → IsQuiet ps mid r
  before_place k r here low lt = m.behind k r here low (false_from_ne_true _ (λ h. let least = t.least k h in absurd (omega arith)))

  passes_here : Passes ps before after (take (place + 1) ss)
  passes_here = passes_at ps before mid after ss place s st.added (skipped_to ps before mid ss from place high m.passes before_place) there st.takes

  behind_here : (k : ℕ) (r : Seen) → slice_get ss k ≡ Some r → place + 1 ≤ k → has now_after k ≡ false → IsQuiet ps after r
  behind_here k r here low out =
      let lt : place < k = omega arith in
      let le : from ≤ k = let h = high in omega arith in
      let out_left : has left k ≡ false = false_from_ne_true _ (λ h. both_ways (has now_after k) out (wakes.kept_now k h)) in
      quiet_on ps mid after ss place s stops stops_after ready m.watches distinct there st k r here (m.behind k r here le (rest_false now left place t k lt out_left))
      (λ woken. both_ways (has now_after k) out (wakes.behind k woken lt))

  quiet_before : (k : ℕ) (r : Seen) → slice_get ss k ≡ Some r → k < place → has next k ≡ false → IsQuiet ps mid r
  quiet_before k r here lt out = elim (leb_tells from k) [ inl w ↦ before_place k r here w.1 lt | inr w ↦ m.earlier k r here w.1 out ]

  earlier_here : (k : ℕ) (r : Seen) → slice_get ss k ≡ Some r → k < place + 1 → has next_after k ≡ false → IsQuiet ps after r
  earlier_here k r here lt out = elim (eqb_tells place k) [
    | inl w ↦
        let same : s ≡ r = let one = sym there ∙ (ap (slice_get ss) w.1 ∙ here) in cc in
        subst (λ q. IsQuiet ps after q) same (visited_quiet ps mid after s st.added st.takes)
    | inr w ↦
        let apart = w.1 in
        let less : k < place = omega arith in
        let le : k ≤ place = omega arith in
        let out_next : has next k ≡ false = false_from_ne_true _ (λ h. both_ways (has next_after k) out (wakes.kept_next k h)) in
        quiet_on ps mid after ss place s stops stops_after ready m.watches distinct there st k r here (quiet_before k r here less out_next)
        (λ woken. both_ways (has next_after k) out (wakes.before k woken le))
  ]

  -- the rule at the least index is visited
  pub midway_next : Midway ps before after ss stops_after (place + 1) now_after next_after
  midway_next = record {
    passes = passes_here;
    watches = visited_watches ps mid after ss place s stops stops_after ready m.watches distinct there st;
    behind = behind_here;
    earlier = earlier_here;
    ahead = λ k h. elim (wakes.only_now k h) [
      | inl g ↦ let low = (rest_true now left place t k g).1 in omega arith
      | inr w ↦ let low = w.0 in omega arith
    ];
    within_now = λ k h. elim (wakes.only_now k h) [
      | inl g ↦ m.within_now k (rest_true now left place t k g).0
      | inr w ↦ ready_within ps mid after ss place s stops stops_after ready m.watches distinct there st k w.1
    ];
    within_next = λ k h. elim (wakes.only_next k h) [
      | inl g ↦ m.within_next k g
      | inr i ↦ ready_within ps mid after ss place s stops stops_after ready m.watches distinct there st k i
    ];
  }

-- the worklist is empty: those that are left out to the end are quiet
pub midway_passes : (ps : List TypeParameter) (before tt : TypeTable) (ss : List Seen) (stops : Stops) (from : ℕ) (now next : Waiting) → Midway ps before tt ss stops from now next →
    ((k : ℕ) → has now k ≡ false) → Passes ps before tt ss
midway_passes ps before tt ss stops from now next m none =
    let all : take (from + length ss) ss ≡ ss = take_all (from + length ss) ss (omega arith) in
    subst (λ rs. Passes ps before tt rs) all
    (skipped ps before tt ss from m.passes (length ss) (λ k s here low _. m.behind k s here low (none k)))

-- ---- the visit of a rule on the worklist

pub steps_still : (ps : List TypeParameter) (before after : TypeTable) (s : Seen) (place : ℕ) (stops : Stops) → TakesType before after s.0.name.0 (first_in ps before s.1) false →
    VisitsOne ps before after s place stops stops []
steps_still ps before after s place stops t = record {
  added = false;
  takes = t;
  gives = λ no. absurd cc;
  still = λ _. refl;
  none = λ _. refl;
}

pub steps_taken : (ps : List TypeParameter) (before after : TypeTable) (s : Seen) (place : ℕ) (stops stops_after : Stops) (ready : List ℕ) →
    TakesType before after s.0.name.0 (first_in ps before s.1) true → GivesType stops stops_after place ready → VisitsOne ps before after s place stops stops_after ready
steps_taken ps before after s place stops stops_after ready t g = record {
  added = true;
  takes = t;
  gives = λ _. g;
  still = λ no. absurd cc;
  none = λ no. absurd cc;
}

-- ---- at first

module _ (f : List ℕ → Option ℕ) (ps : List TypeParameter) (tt : TypeTable) (ss : List Seen) (needs : List Need) (stops : Stops) (ready : List ℕ) (numbers : AreRuleNumbers f (names_seen ss))
    (are : AreNeeds f ps ss needs) (b : BeginsUntyped stops (length ss) needs ready) (none : (n : List ℕ) → type_by_name tt n ≡ None) where
  -- no name has a type
  abbrev pub begins_watching : Watches ps tt ss stops
  begins_watching = record {
    number = f;
    numbers = numbers;
    sound = b.stops;
    count = b.count;
    tells = λ k s here. b.none k ∙ ap is_some (sym (none s.0.name.0));
    only = λ n _. none n;
    settled = λ k s c here i.
        let x = are.all k s c here i in
        (x.0, x.2, elim (b.settled x.0 x.1) [ inl stop ↦ inl stop | inr all ↦ inr all.0 ]);
  }

  begins_case : (k : ℕ) (c : TypeClause) (n : Need) → (In k ready → ⊥) → IsNeedOf f ps c k n → StopsAt stops n ⊎ (AreTyped stops n.numbers.items × In n.rule ready) → clause_in ps tt c ≡ None
  begins_case k c n late is (inl stop) = stopped_none ps tt ss stops begins_watching c k n is stop
  begins_case k c n late is (inr all) = absurd (late (subst (λ q. In q ready) is.rule_is all.1))

  -- a rule of which each clause stopped is quiet
  pub begins_waiting : (now : Waiting) → ((k : ℕ) → In k ready → has now k ≡ true) → ((k : ℕ) → has now k ≡ true → In k ready) → Waits ps tt ss now
  begins_waiting now all only = record {
    quiet = λ k s here out _. none_from ps tt s.1 (λ c i.
        let x = are.all k s c here i in
        begins_case k c x.0 (λ h. both_ways (has now k) out (all k h)) x.2 (b.settled x.0 x.1));
    within = λ k h. b.within k (only k h);
  }
