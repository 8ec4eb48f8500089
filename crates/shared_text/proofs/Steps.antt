-- The steps of the count, for any content. Assumes `Logic`.
--     token_of        what an owner holds is a share of the loan's token, for which it is had back
--     counted_in      below the full count one more owner is counted
--     uncounted_in    at the full count one more owner gets a piece
--     counted_out     an owner less
--     last_out        with the last owner the loan ends, and the content comes back
use mathlib.Core.Path.{◌≡◌}
use mathlib.Core.Bool.{Bool, true, false}
use Prim.Native.Nat.{ℕ, ◌+◌, ◌-◌, ◌^◌, ◌<◌}
use native.Mathlib.Omega.{arith}
use mathlib.Core.List.{[], ◌∷◌}
use seplogic.Ra.Ura.{Ura}
use base.Fraction.{full_share}
use base.Share
use base.Logic.{SProp, ent, sep, wand, ex, guard, never_e, via, id⊢}
use base.Fml.{Lft, Key, Share, Fml, fdead, flft}
use types.Logic.{Logic, sem}
use types.Kit.{‵, ◌⊛◌, given, later, await, learn, check, ◌$◌, ◌∵◌, !, qed, by, use1, use2, move, keep, split, show, updating, now, frame, assume, done, fsplit, fsplit3, fjoin, fjoin3, fpick, fpack}
use types.Tokens.{lft_end, lent_back}
use types.RcWeak.{part, rest, part_in, rest_some, takes, gives, whole}
use Rattle.shared_text.specs.Counting.{Loan, lasts, counts_all, full, piece, holds, hold, Stage, over, beside, stage, count_rule}

module _ {M : Type 1} {𝓤 : Ura M} (𝓛 : Logic 𝓤) where
  open 𝓛 use {H, A}

  -- a lifetime with a token has not ended
  pub not_over : (κ : Lft) (q : Share) (X : SProp 𝓤) → ent 𝓤 (sep 𝓤 (A.lft κ q) (A.dead κ)) X
  not_over κ q X = via 𝓤 _ (𝓛.lfts.lft-dead κ q) (never_e 𝓤 X)

module _ {M : Type 1} {𝓤 : Ura M} (𝓛 : Logic 𝓤) (a : Loan) where
  open 𝓛 use {H, A}

  piece_of : (q : Share) → ent 𝓤 (sep 𝓤 (A.dead (counts_all a)) (A.lft (lasts a) q)) (sem 𝓛 (piece a))
  piece_of q = qed 𝓛 (‵ (fdead (counts_all a)) ∷ ‵ (flft (lasts a) q) ∷ []) ∵ move ! (1 ∷ []) $ fpack ! Share (λ s. flft (lasts a) s) q $ move ! (1 ∷ 0 ∷ []) $ fjoin ! $ done !

  two_pieces : ent 𝓤 (sem 𝓛 (piece a)) (sep 𝓤 (sem 𝓛 (piece a)) (sem 𝓛 (piece a)))
  two_pieces = qed 𝓛 (‵ (piece a) ∷ []) ∵ fsplit ! $ use1 𝓛 (‵ (fdead (counts_all a)) ⊛ ‵ (fdead (counts_all a))) (𝓛.lfts.dead_dup (counts_all a)) $ split ! $
      move ! (2 ∷ []) $ fpick ! (λ q. use1 𝓛 (‵ (flft (lasts a) (Share.left q)) ⊛ ‵ (flft (lasts a) (Share.right q))) (𝓛.lfts.lft_split (lasts a) q) $ split ! $
      move ! (2 ∷ 0 ∷ []) $ use2 𝓛 (‵ (piece a)) (piece_of (Share.left q)) $ move ! (2 ∷ 1 ∷ []) $ use2 𝓛 (‵ (piece a)) (piece_of (Share.right q)) $ done !)

  abbrev pub Token : Share → SProp 𝓤
  Token q = sep 𝓤 (A.lft (lasts a) q) (wand 𝓤 (A.lft (lasts a) q) (sem 𝓛 (hold a)))

  token_at : (w : Bool) → ent 𝓤 (sem 𝓛 (holds a w)) (ex 𝓤 Token)
  token_at true = qed 𝓛 (‵ (part 64 a.0) ∷ []) ∵ fpick ! (λ q. fpick ! (λ is_part. show ! Token q $ frame ! $ assume ! (‵ (flft (lasts a) q)) $
      use1 𝓛 (‵ (part 64 a.0)) (part_in 64 𝓛 a.0 q is_part) $ fpack ! Bool (holds a) true $ done !))
  token_at false = qed 𝓛 (‵ (piece a) ∷ []) ∵ fsplit ! $ move ! (1 ∷ []) $ fpick ! (λ q. show ! Token q $ frame ! $ assume ! (‵ (flft (lasts a) q)) $
      move ! (1 ∷ 0 ∷ []) $ use2 𝓛 (‵ (piece a)) (piece_of q) $ fpack ! Bool (holds a) false $ done !)

  pub token_of : ent 𝓤 (sem 𝓛 (hold a)) (ex 𝓤 Token)
  token_of = qed 𝓛 (‵ (hold a) ∷ []) ∵ fpick ! (λ w. by ! (token_at w))

  module _ (k : Key) (cell : ℕ → Fml) (value : Fml) (seen : Lft → Fml) where
    abbrev Beside : ℕ → Bool → Fml
    Beside = beside k cell value seen a

    pub has_owner : (n : ℕ) (y : Bool) → ent 𝓤 (sem 𝓛 (Beside n y)) (guard 𝓤 (0 < n) (sem 𝓛 (Beside n y)))
    has_owner n true = qed 𝓛 (‵ (Beside n true) ∷ []) ∵ fsplit3 ! $ use1 𝓛 (given (0 < n) (‵ (rest 64 a.0 n))) (rest_some 64 𝓛 a.0 n) $ learn ! (λ some_owner. check ! some_owner $ fjoin3 ! $ done !)
    has_owner n false = qed 𝓛 (‵ (Beside n false) ∷ []) ∵ fpick ! (λ is_full. check ! (omega (arith, is_full)) $ fpack ! (n ≡ full) (λ _. piece a) is_full $ done !)

    pub counted_in : (n : ℕ) (y : Bool) → n + 1 < 2 ^ 64 → ent 𝓤 (sem 𝓛 (Beside n y)) (sep 𝓤 (sem 𝓛 (Beside (n + 1) true)) (sem 𝓛 (holds a true)))
    counted_in n true room = qed 𝓛 (‵ (Beside n true) ∷ []) ∵ fsplit3 ! $ use1 𝓛 (‵ (rest 64 a.0 (n + 1)) ⊛ ‵ (part 64 a.0)) (takes 64 𝓛 a.0 n room) $ split ! $ move ! (0 ∷ 2 ∷ 3 ∷ []) $ fjoin3 ! $ done !
    counted_in n false room = qed 𝓛 (‵ (Beside n false) ∷ []) ∵ fpick ! (λ is_full. absurd (omega (arith, is_full)))

    -- not every owner is counted from now on
    saturates : (n : ℕ) (y : Bool) → ent 𝓤 (sem 𝓛 (Beside n y)) (H.⇛ (sem 𝓛 (piece a)))
    saturates n true = qed 𝓛 (‵ (Beside n true) ∷ []) ∵ updating ! $ fsplit3 ! $ fpick ! (λ q. fpick ! (λ _. move ! (2 ∷ []) $ lft_end ! tt $ now ! $ keep ! (0 ∷ 1 ∷ []) $ by ! (piece_of q)))
    saturates n false = qed 𝓛 (‵ (Beside n false) ∷ []) ∵ updating ! $ fpick ! (λ _. now ! $ done !)

    pub uncounted_in : (n : ℕ) (y : Bool) → n ≡ full → ent 𝓤 (sem 𝓛 (Beside n y)) (H.⇛ (sep 𝓤 (sem 𝓛 (Beside n false)) (sem 𝓛 (holds a false))))
    uncounted_in n y is_full = qed 𝓛 (‵ (Beside n y) ∷ []) ∵ updating ! $ use1 𝓛 (later (‵ (piece a))) (saturates n y) $ await ! tt $
        use1 𝓛 (‵ (piece a) ⊛ ‵ (piece a)) two_pieces $ split ! $ now ! $ fpack ! (n ≡ full) (λ _. piece a) is_full $ done !

    -- below the full count every owner is counted
    all_counted : (n : ℕ) (y w : Bool) → n + 1 < 2 ^ 64 → ent 𝓤 (sep 𝓤 (sem 𝓛 (Beside n y)) (sem 𝓛 (holds a w))) (sep 𝓤 (sem 𝓛 (Beside n true)) (sem 𝓛 (part 64 a.0)))
    all_counted n true true room = id⊢ 𝓤 _
    all_counted n true false room = qed 𝓛 (‵ (Beside n true) ∷ ‵ (piece a) ∷ []) ∵ fsplit3 ! $ move ! (3 ∷ []) $ fsplit ! $ keep ! (4 ∷ 0 ∷ []) $ by ! (not_over 𝓛 (counts_all a) full_share _)
    all_counted n false w room = qed 𝓛 (‵ (Beside n false) ∷ ‵ (holds a w) ∷ []) ∵ fpick ! (λ is_full. absurd (omega (arith, is_full)))

    pub counted_out : (n : ℕ) (y w : Bool) → 1 < n → n + 1 < 2 ^ 64 → ent 𝓤 (sep 𝓤 (sem 𝓛 (Beside n y)) (sem 𝓛 (holds a w))) (sem 𝓛 (Beside (n - 1) true))
    counted_out n y w many room = qed 𝓛 (‵ (Beside n y) ∷ ‵ (holds a w) ∷ []) ∵ use2 𝓛 (‵ (Beside n true) ⊛ ‵ (part 64 a.0)) (all_counted n y w room) $ split ! $ fsplit3 ! $
        move ! (0 ∷ 3 ∷ []) $ use2 𝓛 (‵ (rest 64 a.0 (n - 1))) (gives 64 𝓛 a.0 n many) $ fjoin3 ! $ done !

    pub last_out : (y w : Bool) → ent 𝓤 (sep 𝓤 (sem 𝓛 (Beside 1 y)) (sem 𝓛 (holds a w))) (H.⇛ (sep 𝓤 (sem 𝓛 value) (sem 𝓛 (count_rule k cell value seen a))))
    last_out y w = qed 𝓛 (‵ (Beside 1 y) ∷ ‵ (holds a w) ∷ []) ∵ updating ! $ use2 𝓛 (‵ (Beside 1 true) ⊛ ‵ (part 64 a.0)) (all_counted 1 y w (omega arith)) $ split ! $ fsplit3 ! $
        move ! (0 ∷ 3 ∷ []) $ use2 𝓛 (‵ (flft (lasts a) full_share)) (whole 64 𝓛 a.0) $ lft_end ! tt $ use1 𝓛 (‵ (fdead (lasts a)) ⊛ ‵ (fdead (lasts a))) (𝓛.lfts.dead_dup (lasts a)) $ split ! $
        -- [the loan is over; again; the lender's right; the other lifetime's token]
        fpack ! Stage (stage k cell value seen a) over $ move ! (1 ∷ 2 ∷ []) $ lent_back ! tt $ now ! $ keep ! (0 ∷ 1 ∷ []) $ done !
