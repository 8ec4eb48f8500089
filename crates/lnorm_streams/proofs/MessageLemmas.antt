-- A message that is written piece by piece.
use Rattle.std.proofs.Common.{◌≡◌, ℕ, ◌+◌, ◌-◌, ◌<◌, ◌≤◌, List, [], ◌∷◌, ◌++◌, Option, length, take, drop, get_or, sym, subst, ap, ◌∙◌, arith, append_assoc, append-nil, add-one, drop-cons, take_all, length-drop}
use Rattle.std.specs.Io.KnownBytes.{Appends}
use Rattle.std.proofs.KnownBytes.{Appends-trans}
use Rattle.std.proofs.lemmas.List.{take_more, get_or-drop, drop_all}
use Rattle.lnorm_streams.specs.Streams.{WritesFront, in_line, one_line}
use Rattle.lnorm_streams.proofs.FrontLemmas.{front_here, front_then}

-- of the bytes before `at` those before `from` are written; the others are to be written as they are
pub record IsWrittenTo (old new : Option (List ℕ)) (bytes : List ℕ) (from at : ℕ) : Type 0 where
  pub order : from ≤ at
  pub done : List ℕ
  pub written : Appends old new done
  pub left : one_line bytes ≡ done ++ (take (at - from) (drop from bytes) ++ one_line (drop at bytes))

one_more : (bytes : List ℕ) (at : ℕ) → at < length bytes → one_line (drop at bytes) ≡ in_line (get_or bytes at 0) ++ one_line (drop (at + 1) bytes)
one_more bytes at lt = rw (add-one, drop-cons bytes at 0)

longer_piece : (bytes : List ℕ) (from at : ℕ) → from ≤ at → at < length bytes →
    take (at + 1 - from) (drop from bytes) ≡ take (at - from) (drop from bytes) ++ (get_or bytes at 0 ∷ [])
longer_piece bytes from at order lt =
    let next : at + 1 - from ≡ (at - from) + 1 = omega arith in
    let within : at - from < length (drop from bytes) = omega (arith, length-drop from bytes) in
    let back : from + (at - from) ≡ at = omega arith in
    rw (next, take_more (drop from bytes) (at - from) 0 within, get_or-drop from bytes (at - from) 0, back)

at_end : (done piece mark rest now all : List ℕ) → all ≡ done ++ (piece ++ now) → now ≡ mark ++ rest → all ≡ done ++ ((piece ++ mark) ++ rest)
at_end done piece mark rest now all is next = cc (append_assoc piece mark rest)

module _ (old mid : Option (List ℕ)) (bytes : List ℕ) (from at : ℕ) (so_far : IsWrittenTo old mid bytes from at) where
  -- what is left, where this replaces the byte
  left_at : (mark : List ℕ) → at < length bytes → in_line (get_or bytes at 0) ≡ mark →
      one_line bytes ≡ so_far.done ++ ((take (at - from) (drop from bytes) ++ mark) ++ one_line (drop (at + 1) bytes))
  left_at mark lt is = at_end so_far.done _ mark _ (one_line (drop at bytes)) _ so_far.left (cc (one_more bytes at lt))

  -- one more byte that stays as it is
  pub plain_byte : at < length bytes → in_line (get_or bytes at 0) ≡ get_or bytes at 0 ∷ [] → IsWrittenTo old mid bytes from (at + 1)
  plain_byte lt plain = record {
    order = omega (arith, so_far.order);
    done = so_far.done;
    written = so_far.written;
    left = rw (longer_piece bytes from at so_far.order lt) (left_at _ lt plain);
  }

  -- the piece up to a byte that a mark replaces is written, and the mark
  pub marked_byte : (new : Option (List ℕ)) (mark : List ℕ) → at < length bytes → in_line (get_or bytes at 0) ≡ mark →
      Appends mid new (take (at - from) (drop from bytes) ++ mark) → IsWrittenTo old new bytes (at + 1) (at + 1)
  marked_byte new mark lt is next =
      let none : at + 1 - (at + 1) ≡ 0 = omega arith in
      let piece : List ℕ = take (at - from) (drop from bytes) ++ mark in record {
        order = omega arith;
        done = so_far.done ++ piece;
        written = Appends-trans old mid new so_far.done piece so_far.written next;
        left = rw none (left_at mark lt is ∙ sym (append_assoc so_far.done piece (one_line (drop (at + 1) bytes))));
      }

  -- a beginning of them is
  pub stopped : (new : Option (List ℕ)) (mark : List ℕ) → at < length bytes → in_line (get_or bytes at 0) ≡ mark →
      WritesFront mid new (take (at - from) (drop from bytes) ++ mark) → WritesFront old new (one_line bytes)
  stopped new mark lt is begun =
      let piece : List ℕ = take (at - from) (drop from bytes) ++ mark in
      let rest : List ℕ = one_line (drop (at + 1) bytes) in
      subst (WritesFront old new) (sym (left_at mark lt is))
      (front_then old mid new so_far.done (piece ++ rest) so_far.written (front_here mid new piece rest begun))

  -- all that is left stays as it is
  rest_left : length bytes ≤ at → one_line bytes ≡ so_far.done ++ take (length bytes - from) (drop from bytes)
  rest_left over =
      let rest : List ℕ = drop from bytes in
      let none : drop at bytes ≡ [] = drop_all at bytes over in
      let to_here : take (at - from) rest ≡ rest = take_all (at - from) rest (omega (arith, length-drop from bytes)) in
      let to_end : take (length bytes - from) rest ≡ rest = take_all (length bytes - from) rest (omega (arith, length-drop from bytes)) in
      so_far.left ∙ ap (λ l. so_far.done ++ l) (rw (none, to_here, to_end) (append-nil rest))

  pub rest_written : (new : Option (List ℕ)) → length bytes ≤ at → Appends mid new (take (length bytes - from) (drop from bytes)) → Appends old new (one_line bytes)
  rest_written new over next =
      subst (Appends old new) (sym (rest_left over)) (Appends-trans old mid new so_far.done (take (length bytes - from) (drop from bytes)) so_far.written next)

  pub rest_begun : (new : Option (List ℕ)) → length bytes ≤ at → WritesFront mid new (take (length bytes - from) (drop from bytes)) → WritesFront old new (one_line bytes)
  rest_begun new over begun =
      subst (WritesFront old new) (sym (rest_left over)) (front_then old mid new so_far.done (take (length bytes - from) (drop from bytes)) so_far.written begun)
