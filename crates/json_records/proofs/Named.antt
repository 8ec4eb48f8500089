-- Variants that are read member by member.
use Rattle.std.proofs.Common.{◌≡◌, option_map, ℕ, ◌<◌, List, [], ◌∷◌, length, Bool, true, false, not, Option, Some, None, Ordering, Less, Equal, Greater, MatchOption, refl, sym, ap, ◌∙◌, subst, Bor}
use Rattle.std.specs.Option.{option_map_or}
use Rattle.std.specs.Prelude.{bytes_eq}
use Rattle.std.specs.Ordering.{match_ordering}
use Rattle.std.proofs.lemmas.Slice.Eq.{bytes_eq-Decides}
use Rattle.json.specs.Token.{Token}
use Rattle.json.specs.Reads.{token_of}
use Rattle.json.specs.Json.{read_key}
use Rattle.json.specs.declared.token.Token.{Token as Found}
use Rattle.json.specs.declared.token.Token.TheVariants as token
use Rattle.serde_json.specs.Data.{Data, object, Members, no_members, member, put}
use Rattle.json_records.specs.Reading.{data_of, IsReadUnder, is_object, under, MembersSoFar}
use Rattle.json_records.specs.Variants.{is_variant, Made, are_two, IsVariantOf, VariantSoFar}
use Rattle.json_records.proofs.Turns.{Starts, members_start, member_more}
use Rattle.json_records.proofs.Rows.{order, equal_keys, same_key}

pub no_variant : (t : Found) (d : Data) → ((s : Bor (List ℕ)) → t ≡ token.String s → ⊥) → Starts (token_of t) d → is_object d ≡ false → is_variant d ≡ false
no_variant (token.String s) d never p other = absurd (never s refl)
no_variant (token.Bool b) d never p other = rw p refl
no_variant token.Null d never p other = rw p refl
no_variant token.BeginObject d never p other = let is : is_object d ≡ true = rw p.1 refl in absurd (cc)
no_variant token.BeginArray d never p other = rw p.1 refl
no_variant (token.Number s) d never p other = rw p.2 refl
no_variant token.EndObject d never p other = absurd p
no_variant token.EndArray d never p other = absurd p
no_variant (token.Key s) d never p other = absurd p
no_variant token.Bad d never p other = absurd p

two_at : (o : Ordering) (k l m : List ℕ) (d e f : Data) (ms : Members) → are_two (match_ordering o (member k d (member l e (member m f ms))) (member l d (member m f ms)) (member l e (put k d (member m f ms)))) ≡ true
two_at Less k l m d e f ms = refl
two_at Equal k l m d e f ms = refl
two_at Greater k l m d e f ms = more (order k m)
  where
    more : (o : Ordering) → are_two (member l e (match_ordering o (member k d (member m f ms)) (member m d ms) (member m f (put k d ms)))) ≡ true
    more Less = refl
    more Equal = refl
    more Greater = refl

two_stay : (k : List ℕ) (d : Data) (ms : Members) → are_two ms ≡ true → are_two (put k d ms) ≡ true
two_stay k d no_members e = absurd (cc)
two_stay k d (member l f no_members) e = absurd (cc)
two_stay k d (member l f (member m g ms)) e = two_at (order k l) k l m d f g ms

same_at : (o : Ordering) (k l : List ℕ) (d e : Data) → o ≡ Equal → match_ordering o (member k d (member l e no_members)) (member l d no_members) (member l e (put k d no_members)) ≡ member l d no_members
same_at o k l d e is = rw is refl

other_at : (o : Ordering) (k l : List ℕ) (d e : Data) → (o ≡ Equal → ⊥) → are_two (match_ordering o (member k d (member l e no_members)) (member l d no_members) (member l e (put k d no_members))) ≡ true
other_at Less k l d e never = refl
other_at Equal k l d e never = absurd (never refl)
other_at Greater k l d e never = refl

is_true : (b : Bool) → not b ≡ false → b ≡ true
is_true true e = refl
is_true false e = absurd (cc)

is_false : (b : Bool) → not b ≡ true → b ≡ false
is_false true e = absurd (cc)
is_false false e = refl

module _ {T : Type 0} (form : T → Data) (can : Data → Bool) where
  same_is : (b : Option (List ℕ)) (s : Bool) (o p : Option T) (k : List ℕ) (d : Data) (ms : Members) → option_map_or (λ l. not (bytes_eq l k)) b false ≡ false → Made form can p (under k d) → IsVariantOf form can b s o ms → IsVariantOf form can (Some k) s p (put k d ms)
  same_is b true o p k d ms same made is = two_stay k d ms is
  same_is None false o p k d ms same made is = (d, ap (put k d) is.0, made)
  same_is (Some l) false o p k d ms same made is =
      let key : l ≡ k = (bytes_eq-Decides l k).0 (is_true (bytes_eq l k) same) in
      (d, ap (put k d) is.1 ∙ same_at (order k l) k l d is.0 (ap (order k) key ∙ same_key k) ∙ ap (λ m. member m d no_members) key, made)

  stray_is : (b : Option (List ℕ)) (s : Bool) (o p : Option T) (k : List ℕ) (d : Data) (ms : Members) → option_map_or (λ l. not (bytes_eq l k)) b false ≡ true → IsVariantOf form can b s o ms → IsVariantOf form can b true p (put k d ms)
  stray_is b true o p k d ms other is = two_stay k d ms is
  stray_is None false o p k d ms other is = absurd (cc)
  stray_is (Some l) false o p k d ms other is =
      let fails = is_false (bytes_eq l k) other in
      let never : order k l ≡ Equal → ⊥ = λ e. cc (fails, (bytes_eq-Decides l k).1 (sym (equal_keys k l e))) in
      ap (λ ns. are_two (put k d ns)) is.1 ∙ other_at (order k l) k l d is.0 never

  pub variant_start : (n : ℕ) (ts : List Token) → VariantSoFar form can n ts ts None false None
  variant_start n ts = record { found = no_members; so_far = members_start n ts; is = (refl, refl) }

  module _ (n : ℕ) (start now : List Token) (b : Option (List ℕ)) (s : Bool) (o : Option T) (v : VariantSoFar form can n start now b s o) where
    pub variant_same : (k : List ℕ) (ts rest : List Token) (p : Option T) → option_map_or (λ l. not (bytes_eq l k)) b false ≡ false → read_key now ≡ Some (Some k, ts) → IsReadUnder k form can n ts rest p → length rest < length now → VariantSoFar form can n start rest (Some k) s p
    variant_same k ts rest p same key r less = record {
      found = put k r.means v.found;
      so_far = member_more n start now v.found v.so_far k ts rest r.means key r.read less;
      is = same_is b s o p k r.means v.found same r.made v.is;
    }

    pub variant_stray : (k : List ℕ) (ts rest : List Token) (p : Option T) (d : Data) → option_map_or (λ l. not (bytes_eq l k)) b false ≡ true → read_key now ≡ Some (Some k, ts) → data_of n ts ≡ Some (d, rest) → length rest < length now → VariantSoFar form can n start rest b true p
    variant_stray k ts rest p d other key r less = record {
      found = put k d v.found;
      so_far = member_more n start now v.found v.so_far k ts rest d key r less;
      is = stray_is b s o p k d v.found other v.is;
    }

  -- what is made of the whole object
  pub strays_made : ((d : Data) → is_variant d ≡ false → can d ≡ false) → (b : Option (List ℕ)) (o : Option T) (ms : Members) → IsVariantOf form can b true o ms → can (object ms) ≡ false
  strays_made law b o no_members is = absurd (cc)
  strays_made law b o (member k d no_members) is = absurd (cc)
  strays_made law b o (member k d (member l e ms)) is = law (object (member k d (member l e ms))) refl

  pub variant_made : ((d : Data) → is_variant d ≡ false → can d ≡ false) → (b : Option (List ℕ)) (o : Option T) (ms : Members) → IsVariantOf form can b false o ms → Made form can o (object ms)
  variant_made law None o ms is = rw (is.0, is.1) (law (object no_members) refl)
  variant_made law (Some k) o ms is = subst (λ d. Made form can o d) (sym (ap object is.1)) is.2

-- whether a key is another one than that before, as `is_other` answers it
pub told : (b : Option (Bor (List ℕ))) (k : List ℕ) (r : Bool) → option_map_or (λ l. not (bytes_eq l.now k)) b false ≡ r → option_map_or (λ l. not (bytes_eq l k)) (option_map (λ l. l.now) b) false ≡ r
told None k r e = e
told (Some l) k r e = e
