-- Lines of stops that are written piece by piece.
use Rattle.std.proofs.Common.{◌≡◌, ℕ, ◌+◌, ◌<◌, ◌≤◌, List, [], ◌++◌, Option, length, drop, get_or, codes, decimal, sym, subst, ap, ◌∙◌, arith, append_assoc, append-nil, take_all}
use Rattle.std.specs.Io.KnownBytes.{Appends}
use Rattle.std.proofs.KnownBytes.{Appends-trans}
use Rattle.std.proofs.lemmas.List.{drop_all}
use Rattle.lalrpop_norm_faults.proofs.FaultLemmas.{at_drop_item}
use Rattle.lnorm_streams.specs.Streams.{WritesFront}
use Rattle.lnorm_streams.proofs.FrontLemmas.{front_here, front_then}
use Rattle.lexplain_run.specs.Stops.{places_text}

-- of a path's indices those before `at` are written
pub record ArePlacesTo (old new : Option (List ℕ)) (path : List ℕ) (at : ℕ) : Type 0 where
  pub done : List ℕ
  pub written : Appends old new done
  pub left : places_text path ≡ done ++ places_text (drop at path)

pub all_front : (old new : Option (List ℕ)) (text : List ℕ) → Appends old new text → WritesFront old new text
all_front old new text done = (length text, omega arith, subst (Appends old new) (sym (take_all (length text) text (omega arith))) done)

module _ (old mid : Option (List ℕ)) (path : List ℕ) (at x : ℕ) (so_far : ArePlacesTo old mid path at) where
  next_place : at < length path → x ≡ get_or path at x →
      places_text path ≡ so_far.done ++ ((codes "/" ++ decimal x) ++ places_text (drop (at + 1) path))
  next_place lt is =
      so_far.left ∙ ap (λ l. so_far.done ++ l) (at_drop_item (λ ys. places_text ys) path at x lt is
      ∙ sym (append_assoc (codes "/") (decimal x) (places_text (drop (at + 1) path))))

  pub more_places : (new : Option (List ℕ)) → at < length path → x ≡ get_or path at x → Appends mid new (codes "/" ++ decimal x) →
      ArePlacesTo old new path (at + 1)
  more_places new lt is next = record {
    done = so_far.done ++ (codes "/" ++ decimal x);
    written = Appends-trans old mid new so_far.done (codes "/" ++ decimal x) so_far.written next;
    left = next_place lt is ∙ sym (append_assoc so_far.done (codes "/" ++ decimal x) (places_text (drop (at + 1) path)));
  }

  pub places_begun : (new : Option (List ℕ)) → at < length path → x ≡ get_or path at x → WritesFront mid new (codes "/" ++ decimal x) →
      WritesFront old new (places_text path)
  places_begun new lt is begun =
      let rest : List ℕ = places_text (drop (at + 1) path) in
      subst (WritesFront old new) (sym (next_place lt is))
      (front_then old mid new so_far.done ((codes "/" ++ decimal x) ++ rest) so_far.written (front_here mid new (codes "/" ++ decimal x) rest begun))

pub all_places : (old new : Option (List ℕ)) (path : List ℕ) (at : ℕ) → ArePlacesTo old new path at → length path ≤ at → Appends old new (places_text path)
all_places old new path at so_far over =
    let rest : places_text (drop at path) ≡ [] = ap (λ ys. places_text ys) (drop_all at path over) in
    subst (Appends old new) (sym (so_far.left ∙ ap (λ l. so_far.done ++ l) rest ∙ append-nil so_far.done)) so_far.written

-- a text and one of two parts behind it
module _ (old new : Option (List ℕ)) (one two more : List ℕ) where
  pub first_begun : WritesFront old new (one ++ two) → WritesFront old new (one ++ (two ++ more))
  first_begun begun = subst (WritesFront old new) (append_assoc one two more) (front_here old new (one ++ two) more begun)

  pub more_begun : (mid : Option (List ℕ)) → Appends old mid (one ++ two) → WritesFront mid new more → WritesFront old new (one ++ (two ++ more))
  more_begun mid done begun = subst (WritesFront old new) (append_assoc one two more) (front_then old mid new (one ++ two) more done begun)
