-- Members that are put under the names of fields.
use Rattle.std.proofs.Common.{◌≡◌, ◌⊎◌, Bor, get_or, inl, inr, ℕ, List, [], ◌∷◌, ◌++◌, length, map, Bool, true, false, ◌&&◌, ◌||◌, cond, Option, Some, None, is_some, option_map, Ordering, Less, Equal, Greater, nat_cmp, is_eq, refl, sym, ap, ◌∙◌, subst, MatchOption, arith, suc}
use Rattle.std.proofs.lemmas.Cmp.{nat_list_cmp_total, tied_itself}
use Rattle.std.proofs.lemmas.Map.Text.{is_eq-slice_cmp}
use Rattle.std.proofs.lemmas.Slice.Eq.{bytes_eq-Decides}
use Rattle.std.specs.Prelude.{⊤, bytes_eq}
use Rattle.std.specs.List.{list_all}
use Rattle.std.specs.Cmp.Lexicographic.{slice_cmp}
use Rattle.std.specs.Ordering.{match_ordering, ordering_reverse}
use Rattle.serde_json.specs.Data.{Data, object, Members, no_members, member, put}
use Rattle.json_records.specs.Order.{is_above, rise_above}
use Rattle.json_records.specs.Fields.{members_under, pass, is_record, Holds, HoldAll, AreHeld, Puts, is_known, are_known, AreSoFar}

abbrev pub order : List ℕ → List ℕ → Ordering
order = slice_cmp nat_cmp

pub equal_keys : (k l : List ℕ) → order k l ≡ Equal → k ≡ l
equal_keys k l e = (bytes_eq-Decides k l).0 (sym (is_eq-slice_cmp k l) ∙ ap is_eq e)

less : (o : Ordering) → match_ordering o true false false ≡ true → o ≡ Less
less Less e = refl
less Equal e = absurd (cc)
less Greater e = absurd (cc)

greater : (k l : List ℕ) → order l k ≡ Less → order k l ≡ Greater
greater k l e = nat_list_cmp_total.antisymm k l ∙ ap ordering_reverse e

is_itself : (o : Ordering) → is_eq o ≡ true → o ≡ Equal
is_itself Less e = absurd (cc)
is_itself Equal e = refl
is_itself Greater e = absurd (cc)

same_bytes : (k : List ℕ) → bytes_eq k k ≡ true
same_bytes k = (bytes_eq-Decides k k).1 refl

pub same_key : (k : List ℕ) → order k k ≡ Equal
same_key k = is_itself (order k k) (is_eq-slice_cmp k k ∙ same_bytes k)

both : (a b : Bool) → (a && b) ≡ true → (a ≡ true) × (b ≡ true)
both true b e = (refl, e)
both false b e = absurd (cc)

-- ---- what is put below all the others comes first

further : (k n m : List ℕ) → order k n ≡ Less → order n m ≡ Less → order k m ≡ Less
further k n m e f = nat_list_cmp_total.trans k n m e f

put_first_at : (o : Ordering) (k n : List ℕ) (d e : Data) (ms : Members) → o ≡ Less → match_ordering o (member k d (member n e ms)) (member n d ms) (member n e (put k d ms)) ≡ member k d (member n e ms)
put_first_at o k n d e ms is = rw is refl

-- the names rise, and k is below the bound that they are above
put_first : (k b : List ℕ) (d : Data) (ns : List (List ℕ)) (fs : List (Option Data)) → (order k b ≡ Less) ⊎ (k ≡ b) → rise_above (Some b) ns ≡ true → put k d (members_under ns fs) ≡ member k d (members_under ns fs)
put_first k b d [] fs low rise = refl
put_first k b d (n ∷ ns) [] low rise = refl
put_first k b d (n ∷ ns) (None ∷ fs) low rise =
    let r = both (is_above (Some b) n) (rise_above (Some n) ns) rise in
    put_first k n d ns fs (inl (low_too low (less (order b n) r.0))) r.1
  where
    low_too : (order k b ≡ Less) ⊎ (k ≡ b) → order b n ≡ Less → order k n ≡ Less
    low_too (inl h) up = further k b n h up
    low_too (inr h) up = subst (λ l. order l n ≡ Less) (sym h) up
put_first k b d (n ∷ ns) (Some e ∷ fs) low rise =
    let r = both (is_above (Some b) n) (rise_above (Some n) ns) rise in
    put_first_at (order k n) k n d e (members_under ns fs) (low_too low (less (order b n) r.0))
  where
    low_too : (order k b ≡ Less) ⊎ (k ≡ b) → order b n ≡ Less → order k n ≡ Less
    low_too (inl h) up = further k b n h up
    low_too (inr h) up = subst (λ l. order l n ≡ Less) (sym h) up

-- ---- what is put under one of the names

-- the key is one of names above the bound, so it is above it
puts_above : (b k : List ℕ) (d : Data) (ns : List (List ℕ)) (ts : List (Data → Bool)) (hs gs : List (Option Data)) → rise_above (Some b) ns ≡ true → Puts ns ts k d hs gs → order b k ≡ Less
puts_above b k d [] ts hs gs rise p = absurd p
puts_above b k d (n ∷ ns) [] hs gs rise p = absurd p
puts_above b k d (n ∷ ns) (t ∷ ts) [] gs rise p = absurd p
puts_above b k d (n ∷ ns) (t ∷ ts) (h ∷ hs) [] rise p = absurd p
puts_above b k d (n ∷ ns) (t ∷ ts) (h ∷ hs) (g ∷ gs) rise (inl p) =
    let r = both (is_above (Some b) n) (rise_above (Some n) ns) rise in
    subst (λ l. order b l ≡ Less) (sym p.0) (less (order b n) r.0)
puts_above b k d (n ∷ ns) (t ∷ ts) (h ∷ hs) (g ∷ gs) rise (inr p) =
    let r = both (is_above (Some b) n) (rise_above (Some n) ns) rise in
    further b n k (less (order b n) r.0) (puts_above n k d ns ts hs gs r.1 p.1)

made_holds : (t : Data → Bool) (g : Option Data) (d : Data) → MatchOption g (t d ≡ false) (λ e. d ≡ e) → Holds t g (Some d)
made_holds t None d e = e
made_holds t (Some x) d e = ap Some e

put_here_at : (o : Ordering) (k n : List ℕ) (d e : Data) (ms : Members) → o ≡ Equal → match_ordering o (member k d (member n e ms)) (member n d ms) (member n e (put k d ms)) ≡ member n d ms
put_here_at o k n d e ms is = rw is refl

put_behind_at : (o : Ordering) (k n : List ℕ) (d e : Data) (ms : Members) → o ≡ Greater → match_ordering o (member k d (member n e ms)) (member n d ms) (member n e (put k d ms)) ≡ member n e (put k d ms)
put_behind_at o k n d e ms is = rw is refl

put_here : (k n : List ℕ) (d : Data) (ns : List (List ℕ)) (f : Option Data) (fs : List (Option Data)) → k ≡ n → rise_above (Some n) ns ≡ true → put k d (members_under (n ∷ ns) (f ∷ fs)) ≡ member n d (members_under ns fs)
put_here k n d ns None fs same rise = put_first k n d ns fs (inr same) rise ∙ ap (λ l. member l d (members_under ns fs)) same
put_here k n d ns (Some e) fs same rise = put_here_at (order k n) k n d e (members_under ns fs) (ap (λ l. order k l) (sym same) ∙ same_key k)

put_behind : (k n : List ℕ) (d : Data) (ns : List (List ℕ)) (f : Option Data) (fs new : List (Option Data)) → order n k ≡ Less → put k d (members_under ns fs) ≡ members_under ns new → put k d (members_under (n ∷ ns) (f ∷ fs)) ≡ members_under (n ∷ ns) (f ∷ new)
put_behind k n d ns None fs new up more = more
put_behind k n d ns (Some e) fs new up more = put_behind_at (order k n) k n d e (members_under ns fs) (greater k n up) ∙ ap (member n e) more

pub record Put (ns : List (List ℕ)) (ts : List (Data → Bool)) (k : List ℕ) (d : Data) (fs gs : List (Option Data)) : Type 0 where
  pub new : List (Option Data)
  pub are : put k d (members_under ns fs) ≡ members_under ns new
  pub hold : HoldAll ts gs new

-- the bound is there, or not
under : (b : Option (List ℕ)) (n : List ℕ) (ns : List (List ℕ)) → rise_above b (n ∷ ns) ≡ true → rise_above (Some n) ns ≡ true
under b n ns rise = (both (is_above b n) (rise_above (Some n) ns) rise).1

put_under : (b : Option (List ℕ)) (ns : List (List ℕ)) (ts : List (Data → Bool)) (k : List ℕ) (d : Data) (hs gs fs : List (Option Data)) → rise_above b ns ≡ true → HoldAll ts hs fs → Puts ns ts k d hs gs → Put ns ts k d fs gs
put_under b [] ts k d hs gs fs rise held p = absurd p
put_under b (n ∷ ns) [] k d hs gs fs rise held p = absurd p
put_under b (n ∷ ns) (t ∷ ts) k d [] gs fs rise held p = absurd p
put_under b (n ∷ ns) (t ∷ ts) k d (h ∷ hs) [] fs rise held p = absurd p
put_under b (n ∷ ns) (t ∷ ts) k d (h ∷ hs) (g ∷ gs) [] rise held p = absurd held
put_under b (n ∷ ns) (t ∷ ts) k d (h ∷ hs) (g ∷ gs) (f ∷ fs) rise held (inl (same, made, others)) = record {
  new = Some d ∷ fs;
  are = put_here k n d ns f fs same (under b n ns rise);
  hold = (made_holds t g d made, subst (λ xs. HoldAll ts xs fs) (sym others) held.1);
}
put_under b (n ∷ ns) (t ∷ ts) k d (h ∷ hs) (g ∷ gs) (f ∷ fs) rise held (inr (stays, p)) =
    let up = under b n ns rise in
    let more = put_under (Some n) ns ts k d hs gs fs up held.1 p in
    record {
      new = f ∷ more.new;
      are = put_behind k n d ns f fs more.new (puts_above n k d ns ts hs gs up p) more.are;
      hold = (subst (λ x. Holds t x f) (sym stays) held.0, more.hold);
    }

-- ---- strays

put_stray_at : (o : Ordering) (ns : List (List ℕ)) (k n : List ℕ) (d e : Data) (ms : Members) → is_known k ns ≡ false → order k n ≡ o → are_known ns (put k d ms) ≡ false
    → are_known ns (match_ordering o (member k d (member n e ms)) (member n d ms) (member n e (put k d ms))) ≡ false
put_stray_at Less ns k n d e ms absent is more = rw absent refl
put_stray_at Equal ns k n d e ms absent is more = rw (← equal_keys k n is, absent) refl
put_stray_at Greater ns k n d e ms absent is more = rw more (nothing (is_known n ns))
  where
    nothing : (b : Bool) → (b && false) ≡ false
    nothing true = refl
    nothing false = refl

pub put_stray : (ns : List (List ℕ)) (k : List ℕ) (d : Data) (ms : Members) → is_known k ns ≡ false → are_known ns (put k d ms) ≡ false
put_stray ns k d no_members absent = rw absent refl
put_stray ns k d (member n e ms) absent = put_stray_at (order k n) ns k n d e ms absent refl (put_stray ns k d ms absent)

stays_at : (o : Ordering) (ns : List (List ℕ)) (k n : List ℕ) (d e : Data) (ms : Members) (p : Bool) → is_known n ns ≡ p → (p && are_known ns ms) ≡ false → order k n ≡ o → (are_known ns ms ≡ false → are_known ns (put k d ms) ≡ false)
    → are_known ns (match_ordering o (member k d (member n e ms)) (member n d ms) (member n e (put k d ms))) ≡ false
stays_at Less ns k n d e ms p known absent is more = rw (known, absent) (nothing (is_known k ns))
  where
    nothing : (b : Bool) → (b && false) ≡ false
    nothing true = refl
    nothing false = refl
stays_at Equal ns k n d e ms p known absent is more = rw (known, absent) refl
stays_at Greater ns k n d e ms true known absent is more = rw (known, more absent) refl
stays_at Greater ns k n d e ms false known absent is more = rw known refl

pub stray_stays : (ns : List (List ℕ)) (k : List ℕ) (d : Data) (ms : Members) → are_known ns ms ≡ false → are_known ns (put k d ms) ≡ false
stray_stays ns k d no_members absent = absurd (cc)
stray_stays ns k d (member n e ms) absent = stays_at (order k n) ns k n d e ms (is_known n ns) refl absent refl (stray_stays ns k d ms)

-- ---- in all

pub start_held : (ns : List (List ℕ)) (ts : List (Data → Bool)) → AreHeld ns ts (map (λ t. None) ts) no_members
start_held ns ts = record { found = map (λ t. None) ts; are = nothing ns ts; hold = holds ts }
  where
    nothing : (ns : List (List ℕ)) (ts : List (Data → Bool)) → no_members ≡ members_under ns (map (λ t. None) ts)
    nothing [] ts = refl
    nothing (n ∷ ns) [] = refl
    nothing (n ∷ ns) (t ∷ ts) = nothing ns ts

    holds : (ts : List (Data → Bool)) → HoldAll ts (map (λ t. None) ts) (map (λ t. None) ts)
    holds [] = tt
    holds (t ∷ ts) = (tt, holds ts)

pub put_so_far : (ns : List (List ℕ)) (ts : List (Data → Bool)) (k : List ℕ) (d : Data) (hs gs : List (Option Data)) (s : Bool) (ms : Members) → rise_above None ns ≡ true → Puts ns ts k d hs gs → AreSoFar ns ts hs s ms → AreSoFar ns ts gs s (put k d ms)
put_so_far ns ts k d hs gs true ms rise p so_far = stray_stays ns k d ms so_far
put_so_far ns ts k d hs gs false ms rise p so_far =
    let new = put_under None ns ts k d hs gs so_far.found rise so_far.hold p in
    record { found = new.new; are = ap (put k d) so_far.are ∙ new.are; hold = new.hold }

-- members with another key do not pass
passes_known : (all ns : List (List ℕ)) (ts : List (Data → Bool)) (ms : Members) → ((k : List ℕ) → is_known k ns ≡ true → is_known k all ≡ true) → pass ns ts ms ≡ true → are_known all ms ≡ true
passes_known all [] ts no_members within e = refl
passes_known all [] ts (member k d ms) within e = absurd (cc)
passes_known all (n ∷ ns) ts no_members within e = refl
passes_known all (n ∷ ns) [] (member k d ms) within e = absurd (cc)
passes_known all (n ∷ ns) (t ∷ ts) (member k d ms) within e =
    let first = both (bytes_eq k n) (t d && pass ns ts ms) e in
    let second = both (t d) (pass ns ts ms) first.1 in
    let here : is_known k (n ∷ ns) ≡ true = rw first.0 refl in
    rw (within k here, passes_known all ns ts ms (λ l known. within l (later l known)) second.1) refl
  where
    later : (l : List ℕ) → is_known l ns ≡ true → is_known l (n ∷ ns) ≡ true
    later l known = rw known (or_true (bytes_eq l n))
      where
        or_true : (b : Bool) → (b || true) ≡ true
        or_true true = refl
        or_true false = refl

not_true : (b : Bool) → (b ≡ true → ⊥) → b ≡ false
not_true true never = absurd (never refl)
not_true false never = refl

pub strays_fail : (ns : List (List ℕ)) (ts : List (Data → Bool)) (ms : Members) → are_known ns ms ≡ false → pass ns ts ms ≡ false
strays_fail ns ts ms absent = not_true (pass ns ts ms) (λ yes. let all = passes_known ns ns ts ms (λ k known. known) yes in cc (all, absent))

-- ---- what a record's own reader learns

-- where each field holds a value, the members are these
pub all_held : (ns : List (List ℕ)) (ts : List (Data → Bool)) (ds : List Data) (ms : Members) → AreHeld ns ts (map (λ d. Some d) ds) ms → ms ≡ members_under ns (map (λ d. Some d) ds)
all_held ns ts ds ms h = h.are ∙ ap (members_under ns) (are ts ds h.found h.hold)
  where
    are : (ts : List (Data → Bool)) (ds : List Data) (fs : List (Option Data)) → HoldAll ts (map (λ d. Some d) ds) fs → fs ≡ map (λ d. Some d) ds
    are [] [] [] hold = refl
    are [] [] (f ∷ fs) hold = absurd hold
    are [] (d ∷ ds) fs hold = absurd hold
    are (t ∷ ts) [] fs hold = absurd hold
    are (t ∷ ts) (d ∷ ds) [] hold = absurd hold
    are (t ∷ ts) (d ∷ ds) (f ∷ fs) hold = rw (hold.0, are ts ds fs hold.1) refl

-- where one holds none, they do not pass
fails_at : (n : List ℕ) (ns : List (List ℕ)) (t : Data → Bool) (ts : List (Data → Bool)) (f : Option Data) (fs : List (Option Data)) → rise_above (Some n) ns ≡ true → Holds t None f → pass (n ∷ ns) (t ∷ ts) (members_under (n ∷ ns) (f ∷ fs)) ≡ false
fails_at n ns t ts (Some d) fs rise fails = rw (fails, same_bytes n) refl
fails_at n ns t ts None fs rise fails = lacks ns fs rise
  where
    -- no name behind n is n
    lacks : (ms : List (List ℕ)) (gs : List (Option Data)) → rise_above (Some n) ms ≡ true → pass (n ∷ ns) (t ∷ ts) (members_under ms gs) ≡ false
    lacks [] gs up = refl
    lacks (m ∷ ms) [] up = refl
    lacks (m ∷ ms) (None ∷ gs) up =
        let r = both (is_above (Some n) m) (rise_above (Some m) ms) up in
        lacks ms gs (lower n m ms (less (order n m) r.0) r.1)
      where
        lower : (a b : List ℕ) (ls : List (List ℕ)) → order a b ≡ Less → rise_above (Some b) ls ≡ true → rise_above (Some a) ls ≡ true
        lower a b [] e up = refl
        lower a b (l ∷ ls) e up =
            let r = both (is_above (Some b) l) (rise_above (Some l) ls) up in
            rw (further a b l e (less (order b l) r.0)) r.1
    lacks (m ∷ ms) (Some d ∷ gs) up =
        let r = both (is_above (Some n) m) (rise_above (Some m) ms) up in
        rw (other m (less (order n m) r.0)) refl
      where
        other : (l : List ℕ) → order n l ≡ Less → bytes_eq l n ≡ false
        other l e = not_true (bytes_eq l n) (λ yes. let same : l ≡ n = (bytes_eq-Decides l n).0 yes in let eq : order n l ≡ Equal = ap (order n) same ∙ same_key n in cc (e, eq))

pub lacking : (b : Option (List ℕ)) (ns : List (List ℕ)) (ts : List (Data → Bool)) (hs fs : List (Option Data)) → length ns ≡ length ts → rise_above b ns ≡ true → HoldAll ts hs fs → list_all is_some hs ≡ false → pass ns ts (members_under ns fs) ≡ false
lacking b ns [] [] [] long rise hold none = absurd (cc)
lacking b ns [] [] (f ∷ fs) long rise hold none = absurd hold
lacking b ns [] (h ∷ hs) fs long rise hold none = absurd hold
lacking b ns (t ∷ ts) [] fs long rise hold none = absurd hold
lacking b ns (t ∷ ts) (h ∷ hs) [] long rise hold none = absurd hold
lacking b [] (t ∷ ts) (h ∷ hs) (f ∷ fs) long rise hold none = absurd (cc)
lacking b (n ∷ ns) (t ∷ ts) (None ∷ hs) (f ∷ fs) long rise hold none = fails_at n ns t ts f fs (under b n ns rise) hold.0
lacking b (n ∷ ns) (t ∷ ts) (Some e ∷ hs) (f ∷ fs) long rise hold none =
    let short : length ns ≡ length ts = omega (arith, long) in
    let more = lacking (Some n) ns ts hs fs short (under b n ns rise) hold.1 none in
    rw (hold.0, more) (nothing (bytes_eq n n) (t e))
  where
    nothing : (a c : Bool) → (a && (c && false)) ≡ false
    nothing true true = refl
    nothing true false = refl
    nothing false c = refl

pub not_all_held : (ns : List (List ℕ)) (ts : List (Data → Bool)) (hs : List (Option Data)) (ms : Members) → length ns ≡ length ts → rise_above None ns ≡ true → AreHeld ns ts hs ms → list_all is_some hs ≡ false → pass ns ts ms ≡ false
not_all_held ns ts hs ms long rise h none = ap (pass ns ts) h.are ∙ lacking None ns ts hs h.found long rise h.hold none

-- ---- the first of some fields

pub made_data : {T : Type 0} (form : T → Data) (can : Data → Bool) (o : Option T) (d : Data) → MatchOption o (can d ≡ false) (λ x. d ≡ form x) → MatchOption (option_map form o) (can d ≡ false) (λ e. d ≡ e)
made_data form can None d e = e
made_data form can (Some x) d e = e

pub puts_here : (ns : List (Bor (List ℕ))) (w : Bor (List ℕ)) (k : List ℕ) (t : Data → Bool) (ts : List (Data → Bool)) (d : Data) (h g : Option Data) (hs : List (Option Data)) → length ns ≡ suc (length ts) → bytes_eq k (get_or ns 0 w).now ≡ true → MatchOption g (t d ≡ false) (λ e. d ≡ e) → Puts (map (λ s. s.now) ns) (t ∷ ts) k d (h ∷ hs) (g ∷ hs)
puts_here [] w k t ts d h g hs long same made = absurd (cc)
puts_here (n ∷ ns) w k t ts d h g hs long same made = inl ((bytes_eq-Decides k n.now).0 same, made, refl)

-- ---- the values of all fields

pub record_made : {V : Type 0} (ns : List (List ℕ)) (ts : List (Data → Bool)) (hs : List (Option Data)) (d : Data) (means : V → List Data) (o : Option V) → length ns ≡ length ts → rise_above None ns ≡ true
    → ((ms : Members) × (d ≡ object ms) × AreHeld ns ts hs ms) → MatchOption o (list_all is_some hs ≡ false) (λ v. hs ≡ map (λ e. Some e) (means v))
    → MatchOption o (is_record ns ts d ≡ false) (λ v. d ≡ object (members_under ns (map (λ e. Some e) (means v))))
record_made ns ts hs d means None long rise held none = rw held.1 (not_all_held ns ts hs held.0 long rise held.2 none)
record_made ns ts hs d means (Some v) long rise held all = held.1 ∙ ap object (all_held ns ts (means v) held.0 (subst (λ xs. AreHeld ns ts xs held.0) all held.2))
