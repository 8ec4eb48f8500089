-- Clauses that stop, and the lists that they are in.
use Rattle.std.proofs.Common.{◌≡◌, ◌<◌, ◌==◌, ◌||◌, ◌++◌, inl, inr, ◌⊎◌, ℕ, Bool, true, false, List, [], ◌∷◌, Option, Some, None, Vec, Global, length, set, get_or, slice_get, Result, Ok, Err, OnOk, IfOk, refl, sym, ap, ◌∙◌, subst, arith}
use Rattle.std.proofs.lemmas.Bool.Decides.{eqb_tells, leb_tells}
use Rattle.std.proofs.lemmas.List.{get_or-set_same, get_or-set_other, length-set}
use Rattle.std.proofs.lemmas.Option.{slice_get_read}
use Rattle.lalrpop_norm_theory.specs.Rounds.{In}
use Rattle.lalrpop_norm_theory.proofs.BoolLemmas.{or_right}
use Rattle.lalrpop_norm_theory.proofs.ListLemmas.{in_one}
use Rattle.lalrpop_norm_theory.proofs.RoundsLemmas.{in_left, in_right, in_cases}
use Rattle.lalrpop_norm_model.proofs.LevelLemmas.{at_in}
use Rattle.lalrpop_norm_tyinfer_steps.specs.declared.needs.Need.{Need}
use Rattle.lalrpop_norm_tyinfer_steps.specs.declared.stops.Stop.{Stop}
use Rattle.lalrpop_norm_tyinfer_steps.specs.declared.stops.Stops.{Stops}
use Rattle.lalrpop_norm_tyinfer_steps.specs.Stops.{typed_at, is_typed, stopped_at, AreTypedFrom, AreTypedBelow, AreTyped, IsFirstUntyped, StopsAt, Settled, NeedsBelow, IsStops, PutsUnder, TakesOut, Puts, Seeks, MovesOn, GivesType, AreUntyped, AreAtBeginnings, BeginsUntyped}

pub on_ok : {T E : Type 0} (r : Result T E) {P Q : Type 0} → OnOk r P → (P → Q) → OnOk r Q
on_ok (Ok x) p f = f p
on_ok (Err e) p f = p

pub if_ok : {T E : Type 0} (r : Result T E) {P Q : T → Type 0} → IfOk r P → ((x : T) → P x → Q x) → IfOk r Q
if_ok (Ok x) p f = f x p
if_ok (Err e) p f = p

pub in_read : {X : Type 0} (xs : List X) (i : ℕ) (x : X) → i < length xs → x ≡ get_or xs i x → In x xs
in_read xs i x lt is = at_in xs i x (slice_get_read xs (length xs) i x refl lt is)

-- ---- the same types

same_at : (w after : Stops) → after.typed ≡ w.typed → (o : Option ℕ) → is_typed after o ≡ is_typed w o
same_at w after same None = refl
same_at w after same (Some q) = ap (λ (v : Vec Bool Global). get_or v.items q false) same

count_same : (w after : Stops) → after.typed ≡ w.typed → length after.typed.items ≡ length w.typed.items
count_same w after same = ap (λ (v : Vec Bool Global). length v.items) same

pub fits_still : (w after : Stops) (x : Stop) → after.typed ≡ w.typed → NeedsBelow (length w.typed.items) x.need.now → NeedsBelow (length after.typed.items) x.need.now
fits_still w after x same fit = subst (λ c. NeedsBelow c x.need.now) (sym (count_same w after same)) fit

-- a clause that stopped is found where lists only grow
stays : (w after : Stops) (n : Need) → after.typed ≡ w.typed → ((q : ℕ) (e : Stop) → In e (stopped_at w q) → In e (stopped_at after q)) → StopsAt w n → StopsAt after n
stays w after n same kept s = record {
  place = s.place;
  number = s.number;
  here = s.here;
  untyped = same_at w after same s.number ∙ s.untyped;
  earlier = λ j o lt here. same_at w after same o ∙ s.earlier j o lt here;
  listed = λ q is. let l = s.listed q is in (l.0, kept q l.0 l.1, l.2, l.3);
}

-- ---- one clause is put

kept_under : (w after : Stops) (number : ℕ) (stop : Stop) → PutsUnder w after number stop → (q : ℕ) (e : Stop) → In e (stopped_at w q) → In e (stopped_at after q)
kept_under w after number stop p q e h = elim (eqb_tells number q) [
  | inl s ↦ subst (λ k. In e (stopped_at after k)) s.1 (rw p.here (in_left e (stopped_at w number) (stop ∷ []) (subst (λ k. In e (stopped_at w k)) (sym s.1) h)))
  | inr s ↦ rw (p.others q s.1) h
]

fits_under : (w after : Stops) (number : ℕ) (stop : Stop) → IsStops w → NeedsBelow (length w.typed.items) stop.need.now → PutsUnder w after number stop →
    (q : ℕ) (e : Stop) → In e (stopped_at after q) → NeedsBelow (length w.typed.items) e.need.now
fits_under w after number stop st fit p q e h = elim (eqb_tells number q) [
  | inl s ↦ elim (in_cases e (stopped_at w number) (stop ∷ []) (subst (λ xs. In e xs) p.here (subst (λ k. In e (stopped_at after k)) (sym s.1) h))) [
    | inl i ↦ st.fits number e i
    | inr i ↦ subst (λ (x : Stop). NeedsBelow (length w.typed.items) x.need.now) (sym (in_one e stop i)) fit
  ]
  | inr s ↦ st.fits q e (subst (λ xs. In e xs) (p.others q s.1) h)
]

pub put_some : (w after : Stops) (n : Need) (place number : ℕ) (stop : Stop) → IsStops w → NeedsBelow (length w.typed.items) n → PutsUnder w after number stop →
    stop.need.now ≡ n → stop.next ≡ place → slice_get n.numbers.items place ≡ Some (Some number) → Puts w after n place
put_some w after n place number stop st fit p of at here = record {
  stops = record {
    lists = p.lists ∙ (st.lists ∙ sym (count_same w after p.typed));
    fits = λ q e h. subst (λ c. NeedsBelow c e.need.now) (sym (count_same w after p.typed)) (fits_under w after number stop st (subst (NeedsBelow (length w.typed.items)) (sym of) fit) p q e h);
  };
  typed = p.typed;
  kept = kept_under w after number stop p;
  listed = λ q is.
      let one : number ≡ q = let two = sym here ∙ is in cc in
      (stop, subst (λ k. In stop (stopped_at after k)) one (rw p.here (in_right stop (stopped_at w number) (stop ∷ []) (inl refl))), of, at);
}

pub put_none : (w : Stops) (n : Need) (place : ℕ) → IsStops w → slice_get n.numbers.items place ≡ Some None → Puts w w n place
put_none w n place st here = record {
  stops = st;
  typed = refl;
  kept = λ q e h. h;
  listed = λ q is. let clash = sym here ∙ is in absurd cc;
}

-- ---- a clause goes on

pub seeks_stop : (w after : Stops) (stop : Stop) (place : ℕ) → IsFirstUntyped w stop.need.now.numbers.items stop.next place → Puts w after stop.need.now place → Seeks w after stop false
seeks_stop w after stop place first p = record {
  stops = p.stops;
  typed = p.typed;
  kept = p.kept;
  ready = λ no. absurd cc;
  stopped = λ _ below. record {
    place = place;
    number = first.number;
    here = first.here;
    untyped = same_at w after p.typed first.number ∙ first.untyped;
    earlier = λ j o lt here. same_at w after p.typed o ∙ elim (leb_tells stop.next j) [ inl s ↦ first.earlier j o s.1 lt here | inr s ↦ let low = s.1 in below j o (omega arith) here ];
    listed = λ q is. p.listed q (first.here ∙ ap Some is);
  };
}

-- ---- clauses go on, one after another

all_typed : (w : Stops) (os : List (Option ℕ)) (from : ℕ) → AreTypedBelow w os from → AreTypedFrom w os from → AreTyped w os
all_typed w os from below above j o here = elim (leb_tells from j) [ inl s ↦ above j o s.1 here | inr s ↦ let low = s.1 in below j o (omega arith) here ]

module _ (w mid after : Stops) (xs : List Stop) (ready : List ℕ) (x : Stop) (all : Bool) (m : MovesOn w mid xs ready) (s : Seeks mid after x all) (fit : NeedsBelow (length w.typed.items) x.need.now) where
  same_types : after.typed ≡ w.typed
  same_types = s.typed ∙ m.typed

  moved_before : (more : List ℕ) (e : Stop) → In e xs → AreTypedBelow w e.need.now.numbers.items e.next →
      StopsAt after e.need.now ⊎ (AreTyped w e.need.now.numbers.items × In e.need.now.rule (ready ++ more))
  moved_before more e h below = elim (m.moved e h below) [
    | inl t ↦ inl (stays mid after e.need.now s.typed s.kept t)
    | inr t ↦ inr (t.0, in_left e.need.now.rule ready more t.1)
  ]

  moved_here : (e : Stop) → e ≡ x → all ≡ true → AreTypedBelow w e.need.now.numbers.items e.next →
      StopsAt after e.need.now ⊎ (AreTyped w e.need.now.numbers.items × In e.need.now.rule (ready ++ x.need.now.rule ∷ []))
  moved_here e is done below =
      let above : AreTypedFrom w e.need.now.numbers.items e.next = subst (λ (y : Stop). AreTypedFrom w y.need.now.numbers.items y.next) (sym is) (λ j o low here. sym (same_at w mid m.typed o) ∙ s.ready done j o low here) in
      inr (all_typed w e.need.now.numbers.items e.next below above, in_right e.need.now.rule ready (x.need.now.rule ∷ []) (inl (ap (λ (y : Stop). y.need.now.rule) is)))

  stopped_here : (e : Stop) → e ≡ x → all ≡ false → AreTypedBelow w e.need.now.numbers.items e.next → StopsAt after e.need.now
  stopped_here e is late below =
      subst (λ (y : Stop). StopsAt after y.need.now) (sym is)
      (s.stopped late (λ j o lt here. same_at w mid m.typed o ∙ subst (λ (y : Stop). AreTypedBelow w y.need.now.numbers.items y.next) is below j o lt here))

  -- one that has all its types
  pub moves_ready : all ≡ true → MovesOn w after (xs ++ x ∷ []) (ready ++ x.need.now.rule ∷ [])
  moves_ready done = record {
    stops = s.stops;
    typed = same_types;
    kept = λ q e h. s.kept q e (m.kept q e h);
    moved = λ e h below. elim (in_cases e xs (x ∷ []) h) [
      | inl i ↦ moved_before (x.need.now.rule ∷ []) e i below
      | inr i ↦ moved_here e (in_one e x i) done below
    ];
    within = λ k h. elim (in_cases k ready (x.need.now.rule ∷ []) h) [
      | inl i ↦ m.within k i
      | inr i ↦ subst (λ r. r < length w.typed.items) (sym (in_one k x.need.now.rule i)) fit.rule
    ];
  }

  -- one that stops again
  pub moves_stopped : all ≡ false → MovesOn w after (xs ++ x ∷ []) ready
  moves_stopped late = record {
    stops = s.stops;
    typed = same_types;
    kept = λ q e h. s.kept q e (m.kept q e h);
    moved = λ e h below. elim (in_cases e xs (x ∷ []) h) [
      | inl i ↦ elim (m.moved e i below) [ inl t ↦ inl (stays mid after e.need.now s.typed s.kept t) | inr t ↦ inr t ]
      | inr i ↦ inl (stopped_here e (in_one e x i) late below)
    ];
    within = m.within;
  }

-- ---- a number takes a type

given_at : (xs : List Bool) (number q : ℕ) → number < length xs → get_or (set xs number true) q false ≡ ((number == q) || get_or xs q false)
given_at xs number q lt = elim (eqb_tells number q) [
  | inl s ↦ rw s.0 (subst (λ k. get_or (set xs number true) k false ≡ true) s.1 (get_or-set_same xs number true false lt))
  | inr s ↦ rw s.0 (get_or-set_other xs number q true false (λ e. s.1 (sym e)))
]

module _ (w given out after : Stops) (number : ℕ) (taken : List Stop) (ready : List ℕ) (st : IsStops w) (lt : number < length w.typed.items)
    (typed : given.typed.items ≡ set w.typed.items number true) (same : given.stopped ≡ w.stopped) (t : TakesOut given out number taken) (m : MovesOn out after taken ready) where
  flags : (q : ℕ) → typed_at after q ≡ ((number == q) || typed_at w q)
  flags q =
      ap (λ (v : Vec Bool Global). get_or v.items q false) (m.typed ∙ t.typed)
      ∙ (ap (λ (xs : List Bool). get_or xs q false) typed ∙ given_at w.typed.items number q lt)

  grows : (o : Option ℕ) → is_typed w o ≡ true → is_typed after o ≡ true
  grows None e = absurd cc
  grows (Some q) e = flags q ∙ or_right (number == q) (typed_at w q) e

  out_typed : (o : Option ℕ) → is_typed out o ≡ is_typed after o
  out_typed o = sym (same_at out after m.typed o)

  still : (q : ℕ) → (number ≡ q → ⊥) → typed_at w q ≡ false → typed_at after q ≡ false
  still q apart e = flags q ∙ elim (eqb_tells number q) [ inl s ↦ absurd (apart s.1) | inr s ↦ rw s.0 e ]

  listed_still : (q : ℕ) → (number ≡ q → ⊥) → (e : Stop) → In e (stopped_at w q) → In e (stopped_at after q)
  listed_still q apart e h = m.kept q e (rw (t.others q apart) (subst (λ (v : Vec (Vec Stop Global) Global). In e (stopped_at (record given { stopped = v }) q)) (sym same) h))

  stopped_where : (q : ℕ) (e : Stop) → number ≡ q → In e (stopped_at w q) → In e taken
  stopped_where q e is h =
      rw t.taken (subst (λ k. In e (stopped_at given k)) (sym is) (subst (λ (v : Vec (Vec Stop Global) Global). In e (stopped_at (record given { stopped = v }) q)) (sym same) h))

  gives_stopped : (n : Need) (s : StopsAt w n) (o : Option ℕ) → s.number ≡ o → StopsAt after n ⊎ (AreTyped after n.numbers.items × (AreTyped w n.numbers.items ⊎ In n.rule ready))
  gives_stopped n s None e = inl (record {
    place = s.place;
    number = None;
    here = s.here ∙ ap Some e;
    untyped = refl;
    earlier = λ j o less here. grows o (s.earlier j o less here);
    listed = λ q is. absurd (cc is);
  })
  gives_stopped n s (Some q) e = elim (eqb_tells number q) [
    | inl r ↦
        let l = s.listed q e in
        let below : AreTypedBelow out l.0.need.now.numbers.items l.0.next = λ j o less here.
        out_typed o ∙ grows o (s.earlier j o (subst (λ k. j < k) l.3 less) (subst (λ (x : Need). slice_get x.numbers.items j ≡ Some o) l.2 here)) in
        elim (m.moved l.0 (stopped_where q l.0 r.1 l.1) below) [
          | inl stop ↦ inl (subst (StopsAt after) l.2 stop)
          | inr all ↦
              inr (
                subst (λ (x : Need). AreTyped after x.numbers.items) l.2 (λ j o here. sym (out_typed o) ∙ all.0 j o here),
                inr (subst (λ (x : Need). In x.rule ready) l.2 all.1),
              )
        ]
    | inr r ↦ inl (record {
      place = s.place;
      number = Some q;
      here = s.here ∙ ap Some e;
      untyped = still q r.1 (subst (λ o. is_typed w o ≡ false) e s.untyped);
      earlier = λ j o less here. grows o (s.earlier j o less here);
      listed = λ p is.
          let l = s.listed q e in
          let one : q ≡ p = cc is in
          (l.0, subst (λ k. In l.0 (stopped_at after k)) one (listed_still q r.1 l.0 l.1), l.2, l.3);
    })
  ]

  gives_settled : (n : Need) → Settled w n → StopsAt after n ⊎ (AreTyped after n.numbers.items × (AreTyped w n.numbers.items ⊎ In n.rule ready))
  gives_settled n (inr all) = inr (λ j o here. grows o (all j o here), inl all)
  gives_settled n (inl s) = gives_stopped n s s.number refl

  out_count : length out.typed.items ≡ length w.typed.items
  out_count = ap (λ (v : Vec Bool Global). length v.items) t.typed ∙ (ap length typed ∙ length-set w.typed.items number true)

  pub gives : GivesType w after number ready
  gives = record {
    stops = m.stops;
    count = count_same out after m.typed ∙ out_count;
    typed = flags;
    settled = gives_settled;
    within = λ k h. subst (λ c. k < c) out_count (m.within k h);
  }

module _ (w given out : Stops) (number : ℕ) (taken : List Stop) (st : IsStops w) (typed : given.typed.items ≡ set w.typed.items number true) (same : given.stopped ≡ w.stopped) (t : TakesOut given out number taken) where
  left_count : length out.typed.items ≡ length w.typed.items
  left_count = ap (λ (v : Vec Bool Global). length v.items) t.typed ∙ (ap length typed ∙ length-set w.typed.items number true)

  given_lists : (q : ℕ) (e : Stop) → In e (stopped_at given q) → NeedsBelow (length out.typed.items) e.need.now
  given_lists q e h = subst (λ c. NeedsBelow c e.need.now) (sym left_count) (st.fits q e (subst (λ (v : Vec (Vec Stop Global) Global). In e (stopped_at (record given { stopped = v }) q)) same h))

  pub taken_fit : (e : Stop) → In e taken → NeedsBelow (length out.typed.items) e.need.now
  taken_fit e h = given_lists number e (subst (λ xs. In e xs) t.taken h)

  pub left_stops : IsStops out
  left_stops = record {
    lists = t.lists ∙ (ap (λ (v : Vec (Vec Stop Global) Global). length v.items) same ∙ (st.lists ∙ sym left_count));
    fits = λ q e h. elim (eqb_tells number q) [
      | inl s ↦ absurd (subst (λ xs. In e xs) t.here (subst (λ k. In e (stopped_at out k)) (sym s.1) h))
      | inr s ↦ given_lists q e (subst (λ xs. In e xs) (t.others q s.1) h)
    ];
  }

-- ---- at first

pub begins_empty : (w : Stops) (count : ℕ) → length w.stopped.items ≡ length w.typed.items → length w.typed.items ≡ count → ((q : ℕ) → typed_at w q ≡ false) →
    ((q : ℕ) → stopped_at w q ≡ []) → AreUntyped w count
begins_empty w count lists long none empty = record {
  stops = record { lists = lists; fits = λ q e h. absurd (subst (λ xs. In e xs) (empty q) h) };
  count = long;
  none = none;
}

pub beginnings_none : AreAtBeginnings [] []
beginnings_none = record { all = λ n no. absurd no; only = λ e no. absurd no }

pub beginnings_more : (ns : List Need) (n : Need) (es : List Stop) (e : Stop) → e.need.now ≡ n → e.next ≡ 0 → AreAtBeginnings ns es → AreAtBeginnings (ns ++ n ∷ []) (es ++ e ∷ [])
beginnings_more ns n es e of at f = record {
  all = λ m h. elim (in_cases m ns (n ∷ []) h) [
    | inl i ↦ let r = f.all m i in (r.0, in_left r.0 es (e ∷ []) r.1, r.2, r.3)
    | inr i ↦ (e, in_right e es (e ∷ []) (inl refl), of ∙ sym (in_one m n i), at)
  ];
  only = λ d h. elim (in_cases d es (e ∷ []) h) [
    | inl i ↦ in_left d.need.now ns (n ∷ []) (f.only d i)
    | inr i ↦ in_right d.need.now ns (n ∷ []) (inl (ap (λ (x : Stop). x.need.now) (in_one d e i) ∙ of))
  ];
}

nothing_before : (w : Stops) (os : List (Option ℕ)) (k : ℕ) → k ≡ 0 → AreTypedBelow w os k
nothing_before w os k e j o lt here = let low : j < 0 = subst (λ i. j < i) e lt in absurd (omega arith)

pub begins : (w after : Stops) (needs : List Need) (es : List Stop) (ready : List ℕ) → AreUntyped w (length w.typed.items) → AreAtBeginnings needs es → MovesOn w after es ready →
    BeginsUntyped after (length w.typed.items) needs ready
begins w after needs es ready untyped first m = record {
  stops = m.stops;
  count = count_same w after m.typed;
  none = λ q. same_at w after m.typed (Some q) ∙ untyped.none q;
  settled = λ n i.
      let r = first.all n i in
      elim (m.moved r.0 r.1 (nothing_before w r.0.need.now.numbers.items r.0.next r.3)) [
        | inl s ↦ inl (subst (StopsAt after) r.2 s)
        | inr t ↦
            inr (
              subst (λ (x : Need). AreTyped after x.numbers.items) r.2 (λ j o here. same_at w after m.typed o ∙ t.0 j o here),
              subst (λ (x : Need). In x.rule ready) r.2 t.1,
            )
      ];
  within = m.within;
}
