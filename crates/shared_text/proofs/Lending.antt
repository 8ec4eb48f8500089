-- What a `&` to an owner holds: its laws, that it comes of a borrow of the owner, and that it shows the value. Assumes `Logic`.
--     onto, copied, token_shared      a borrow is shared as less;  of what can be copied as that;  of what is a share of a token as its shares
use Prim.Native.Nat.{ℕ}
use mathlib.Core.List.{[], ◌∷◌}
use seplogic.Ra.Ura.{Ura}
use base.Logic.{SProp, ent, sep, ex, wand, apply∗}
use base.Fml.{Lft, Key, Share, Fml, fsep, fex, fwand, fbor, flft}
use contract.BorrowLft.{meet_⊑_left}
use types.Logic.{Logic, sem, lfts}
use types.Kit.{‵, raw, ◌⊛◌, later, ◌$◌, ◌∵◌, !, qed, by, move, keep, use1, use2, split, fsplit, fsplit3, fpick, await, updating, now, done}
use types.Tokens.{bor_fracture}
use types.Na.{na_inv, na_inv_dup}
use denote.Sharing.{ShrLaws, one, beside as both, held, some}
use denote.SharingLaws.{contraction, some_shr_laws, beside_shr_laws, one_shr_laws, held_shr_laws}
use denote.Hidden.{kept, kept_shr_laws}
use denote.Model.Laws.{Lends-as, Lends-some}
use denote.Moves.{moves_from}
use denote.Struct.Lending.{Lends, Lends-both, Lends-first}
use Rattle.shared_text.specs.Counting.{Loan, lasts, hold, count_rule, owner_of, owner, lent_of, lent}
use Rattle.shared_text.proofs.Steps.{token_of}

module _ {M : Type 1} {𝓤 : Ura M} (𝓛 : Logic 𝓤) (l : Lft) where
  open 𝓛 use {H, A}

  onto : (P : Fml) (s t : Lft → Fml) → ((κ : Lft) → ent 𝓤 (sem 𝓛 (s κ)) (sem 𝓛 (t κ))) → Lends 𝓛 P s l → Lends 𝓛 P t l
  onto P s t less way κ ts inc sp = qed 𝓛 (‵ (fbor κ P) ∷ raw (lfts 𝓛 ts) ∷ []) ∵ updating ! $
      use2 𝓛 (later (‵ (s κ) ⊛ raw (lfts 𝓛 ts))) (way κ ts inc sp) $ await ! tt $ split ! $ use1 𝓛 (‵ (t κ)) (less κ) $ now ! $ done !

  copied : (P : Fml) → ent 𝓤 (sem 𝓛 P) (sep 𝓤 (sem 𝓛 P) (sem 𝓛 P)) → Lends 𝓛 P (λ _. P) l
  copied P twice κ ts inc sp =
      let Way : SProp 𝓤 = wand 𝓤 (sem 𝓛 P) (H.⇛ (sep 𝓤 (A.bor κ P) (lfts 𝓛 ts))) in
      qed 𝓛 (‵ (fbor κ P) ∷ raw (lfts 𝓛 ts) ∷ []) ∵ updating ! $ use2 𝓛 (later (‵ P ⊛ raw Way)) (𝓛.more.bor_acc_by κ ts P sp) $ await ! tt $ split ! $
      use1 𝓛 (‵ P ⊛ ‵ P) twice $ split ! $ move ! (1 ∷ 2 ∷ []) $
      use2 𝓛 (later (‵ (fbor κ P) ⊛ raw (lfts 𝓛 ts))) (apply∗ 𝓤 (sem 𝓛 P) (H.⇛ (sep 𝓤 (A.bor κ P) (lfts 𝓛 ts)))) $ await ! tt $ split ! $ now ! $ move ! (2 ∷ 1 ∷ []) $ keep ! (0 ∷ 1 ∷ []) $ done !

  module _ (ν : Lft) where
    abbrev tokens : Lft → Fml
    tokens = one (λ q. flft ν q)

    lent_share : (q : Share) → Lends 𝓛 (flft ν q) tokens l
    lent_share q κ ts inc sp = qed 𝓛 (‵ (fbor κ (flft ν q)) ∷ raw (lfts 𝓛 ts) ∷ []) ∵ updating ! $ bor_fracture ! tt (λ s. flft ν s) q $ now ! $ done !

    token_shared : (P : Fml) → ent 𝓤 (sem 𝓛 P) (ex 𝓤 (λ (q : Share). sep 𝓤 (A.lft ν q) (wand 𝓤 (A.lft ν q) (sem 𝓛 P)))) → Lends 𝓛 P tokens l
    token_shared P out =
        let Opened : Share → Fml = λ q. fsep (flft ν q) (fwand (flft ν q) P) in
        let opens : ent 𝓤 (sem 𝓛 P) (sem 𝓛 (fex Share Opened)) = out in
        let closes : ent 𝓤 (sem 𝓛 (fex Share Opened)) (sem 𝓛 P) = qed 𝓛 (‵ (fex Share Opened) ∷ []) ∵ fpick ! (λ q. fsplit ! $ by ! (apply∗ 𝓤 (A.lft ν q) (sem 𝓛 P))) in
        let shared : Lends 𝓛 (fex Share Opened) (some Share (λ _. tokens)) l = Lends-some 𝓛 Share Opened (λ _. tokens) l (λ q. Lends-first 𝓛 (flft ν q) (fwand (flft ν q) P) tokens l (lent_share q)) in
        Lends-as 𝓛 P (fex Share Opened) tokens l opens closes (onto (fex Share Opened) (some Share (λ _. tokens)) tokens (λ κ. qed 𝓛 (‵ (fex Share (λ _. tokens κ)) ∷ []) ∵ fpick ! (λ _. done !)) shared)

module _ (k : Key) (cell : ℕ → Fml) (value : Fml) (seen : Lft → Fml) (laws : ShrLaws seen) where
  abbrev Rule : Loan → Fml
  Rule = count_rule k cell value seen

  pub lent_laws : ShrLaws (lent k cell value seen)
  lent_laws =
      let of_rule : (a : Loan) → ShrLaws (both (kept k (Rule a)) (held (lasts a) seen)) = λ a. beside_shr_laws (kept k (Rule a)) (held (lasts a) seen) (kept_shr_laws k (Rule a)) (held_shr_laws (lasts a) seen laws) in
      some_shr_laws Loan (lent_of k cell value seen) (λ a. beside_shr_laws (one (λ q. flft (lasts a) q)) (both (kept k (Rule a)) (held (lasts a) seen)) (one_shr_laws (λ q. flft (lasts a) q)) (of_rule a))

  module _ {M : Type 1} {𝓤 : Ura M} (𝓛 : Logic 𝓤) where
    pub owner_lends : (l : Lft) → Lends 𝓛 (owner k cell value seen) (lent k cell value seen) l
    owner_lends l = Lends-some 𝓛 Loan (owner_of k cell value seen) (lent_of k cell value seen) l (λ a.
        let box : Fml = na_inv k (Rule a) in
        Lends-both 𝓛 (hold a) (fsep box (seen (lasts a))) (one (λ q. flft (lasts a) q)) (both (kept k (Rule a)) (held (lasts a) seen)) l
        (token_shared 𝓛 l (lasts a) (hold a) (token_of 𝓛 a))
        (Lends-both 𝓛 box (seen (lasts a)) (kept k (Rule a)) (held (lasts a) seen) l (copied 𝓛 l box (na_inv_dup 𝓛 k (Rule a))) (copied 𝓛 l (seen (lasts a)) (contraction 𝓛 seen laws (lasts a)))))

    pub lent_shows : (κ : Lft) → ent 𝓤 (sem 𝓛 (lent k cell value seen κ)) (sem 𝓛 (seen κ))
    lent_shows κ = qed 𝓛 (‵ (lent k cell value seen κ) ∷ []) ∵ fpick ! (λ a. fsplit3 ! $ keep ! (0 ∷ 2 ∷ []) $ by ! (moves_from 𝓛 seen laws κ (lasts a) (lasts a) (meet_⊑_left (lasts a) κ)))
