-- A `Shared` as the walks have it, with the count opened and shut. Assumes `Logic`.
--     Handle, Block       the rows of a `Shared` and of the block behind it
--     first_owner         the count of 1 and the content become an owner
--     owner_by_value      an owner's parts are a `Shared`, where its word is beside them
--     opened, shut        the invariant gives the cell of the count, and takes it back at another count
--     closed              it takes back any stage
use mathlib.Core.Path.{◌≡◌, refl, sym}
use mathlib.Core.Bool.{Bool, true}
use Prim.Native.Nat.{ℕ, ◌+◌, ◌<◌, ◌^◌}
use mathlib.Core.List.{List, [], ◌∷◌}
use lib.Dec.{lit<}
use seplogic.Ra.Ura.{Ura}
use base.Fraction.{full_share}
use base.FractionLaws.{Counts-all}
use base.Mask.{every, just, less, take}
use mir.Syntax.{Sym, w64, ty_int}
use mir.Val.{vint}
use base.Logic.{wand, never, id⊢, apply∗}
use base.Fml.{Lft, Incl, Share, Fml, ftrue, fat, flft, ftok}
use contract.BorrowLft.{meet_⊑_left, meet_⊑_right}
use types.Logic.{Logic, sem}
use types.Kit.{Item, Goal, Seq, Step, Soaks, step, ‵, raw, some, later, given, ◌⊛◌, ◌$◌, move, use1, use2, pick, learn, await, split, split3, join, fsplit, fjoin, fjoin3, fpick, fpack, rewrite}
use types.Run.{well_typed}
use types.Tokens.{lft_new, bor_new}
use types.Na.{na_inv, na_inv_new, na_inv_acc}
use types.RcWeak.{part, rest, cut}
use denote.Plain.{uint_in, uint_out}
use denote.RattleType.{RattleType}
use denote.Param.Laws.{param_laws}
use denote.RawPtr.{Ptr, block_ptr, in_a_block, ◌+ₚ◌}
use denote.Shares.{Shares-less}
use denote.Struct.Lending.{Lends, Lends-first, Lends-lies}
use Rattle.std.proofs.alloc.Calls.{token}
use Rattle.std_alloc.proofs.BoxSteps.Form.{Bx, X, R, P}
use Rattle.std_alloc.proofs.RcSteps.{word, word_made}
use Rattle.shared_text.specs.Counting.{Loan, lasts, holds, hold, Stage, owned, over, beside, stage, count_rule, owner_of, owner, lent}
use Rattle.shared_text.specs.Ownership.{key_of, count_at, value_begins, value_at, content, value_seen}
use Rattle.shared_text.specs.contracts.counts.Node as Node
use Rattle.shared_text.specs.contracts.counts.Shared as Shared
use Rattle.shared_text.proofs.Steps as steps

abbrev pub count_cell : ℕ → ℕ → ℕ → Fml
count_cell b o n = fat full_share (ty_int w64) b (o + 0) (vint w64 n)

module _ (E : Bx) where
  abbrev pub Handle : RattleType
  Handle = Shared.the_row (R E) (P E) E.al.g

  abbrev pub handle_name : Sym
  handle_name = (Shared.the_type (R E) (P E) E.al.g).name

  abbrev pub Block : RattleType
  Block = Node.the_row (R E) (P E)

module _ (E : Bx) (c : Ptr) (x : X E) where
  abbrev pub Content : Fml
  Content = content (P E) (R E) (token E.al) c x

  abbrev pub Seen : Lft → Fml
  Seen = value_seen (P E) (R E) (token E.al) c x

  abbrev pub Beside : Loan → ℕ → Bool → Fml
  Beside = beside (key_of c) (count_at c) Content Seen

  abbrev pub At : Loan → Stage → Fml
  At = stage (key_of c) (count_at c) Content Seen

  abbrev pub Rule : Loan → Fml
  Rule = count_rule (key_of c) (count_at c) Content Seen

  abbrev pub Invariant : Loan → Fml
  Invariant a = na_inv (key_of c) (Rule a)

  abbrev pub Owner : Fml
  Owner = owner (key_of c) (count_at c) Content Seen

  abbrev pub Lent : Lft → Fml
  Lent = lent (key_of c) (count_at c) Content Seen

  -- what shuts the invariant, beside what is left of the thread's token
  abbrev pub Closes : {M : Type 1} {𝓤 : Ura M} (𝓛 : Logic 𝓤) → Loan → Item 𝓤
  Closes {𝓤 = 𝓤} 𝓛 a = raw (wand 𝓤 (sem 𝓛 (Rule a)) (𝓛.H.⇛ (𝓛.A.tok (just (key_of c))))) ⊛ ‵ (ftok (less every (key_of c)))

module _ (E : Bx) (c : Ptr) (x : X E) {M : Type 1} {𝓤 : Ura M} {𝓛 : Logic 𝓤} {K : Type 0} {Γ : List (Item 𝓤)} {G : Goal 𝓤 𝓛.H} where
  open 𝓛 use {H, A}

  -- the value is lent for a new lifetime. What is within its type lives for κ, which has not ended
  pub first_owner : K → Soaks G → (κ : Lft) (q : Share) → Incl κ E.row.lives
      → ((a : Loan) → Seq K 𝓛 (‵ (hold a) ∷ ‵ (Invariant E c x a) ∷ ‵ (Seen E c x (lasts a)) ∷ ‵ (flft κ q) ∷ Γ) G)
      → Seq K 𝓛 (‵ (count_at c 1) ∷ ‵ (Content E c x) ∷ ‵ (flft κ q) ∷ Γ) G
  first_owner t z κ q lives k =
      let value_shares = Shares-less 𝓛 (R E) (R E).lives κ lives ((param_laws 0 E.row E.laws).shares 𝓛) x in
      let shows : Lends 𝓛 (Content E c x) (Seen E c x) κ =
      Lends-first 𝓛 (value_at (P E) (R E) c x) _ (Seen E c x) κ (Lends-lies 𝓛 (R E) κ (c +ₚ value_begins (P E) (R E)) x value_shares) in
      lft_new t z (λ m. lft_new t z (λ n. let a : Loan = (n, m) in
      use1 𝓛 (‵ (rest 64 n 1) ⊛ ‵ (part 64 n)) (cut 64 𝓛 n 0 full_share (lit< tt) (Counts-all 64)) $ split t $
      -- [the rest; the part; the second token; the count; the content; the token of κ]
      move t (4 ∷ []) $ bor_new t z (lasts a) $ move t (2 ∷ 1 ∷ 4 ∷ []) $ fjoin3 t $ move t (3 ∷ 0 ∷ []) $ fjoin t $ fpack t Stage (At E c x a) (owned 1 true) $
      use1 𝓛 (later (‵ (Invariant E c x a))) (na_inv_new 𝓛 (key_of c) (Rule E c x a)) $ await t z $
      -- [the invariant; the borrow; the part; the token of κ]
      move t (2 ∷ []) $ fpack t Bool (holds a) true $ use1 𝓛 (some (λ (s : Share). ‵ (flft (lasts a) s) ⊛ raw (wand 𝓤 (A.lft (lasts a) s) (sem 𝓛 (hold a))))) (steps.token_of 𝓛 a) $ pick t (λ s. split t $
      -- [a share of the loan's token; the way back; the invariant; the borrow; the token of κ]
      move t (0 ∷ 4 ∷ []) $ join t $ move t (3 ∷ 0 ∷ []) $
      use2 𝓛 (later (‵ (Seen E c x (lasts a)) ⊛ ‵ (flft (lasts a) s) ⊛ ‵ (flft κ q))) (shows (lasts a) ((lasts a, s) ∷ (κ, q) ∷ []) (meet_⊑_right (lasts a) κ) (meet_⊑_left (lasts a) κ)) $ await t z $ split3 t $
      -- [what is seen; the share; the token of κ; the way back; the invariant]
      move t (1 ∷ 3 ∷ []) $ use2 𝓛 (‵ (hold a)) (apply∗ 𝓤 (A.lft (lasts a) s) (sem 𝓛 (hold a))) $ move t (0 ∷ 3 ∷ 1 ∷ 2 ∷ []) $ k a)))

  module _ (a : Loan) where
    pub owner_by_value : K → Step K 𝓛 (‵ ((Handle E).own_val (record { ptr = c; value = x }) (word c ∷ [])) ∷ Γ) G (‵ (hold a) ∷ ‵ (Invariant E c x a) ∷ ‵ (Seen E c x (lasts a)) ∷ Γ) G
    owner_by_value t = step (λ next. fjoin3 t $ fpack t Loan (owner_of (key_of c) (count_at c) (Content E c x) (Seen E c x)) a $ word_made E (handle_name E) c t $ fjoin t $ next)

    pub closed : K → Soaks G → Step K 𝓛 (‵ (ftok every) ∷ Γ) G (‵ (Rule E c x a) ∷ Closes E c x 𝓛 a ∷ Γ) G
    closed t z = let key = key_of c in step (λ next.
        move t (1 ∷ []) $ split t $ move t (2 ∷ 0 ∷ []) $ use2 𝓛 (later (‵ (ftok (just key)))) (apply∗ 𝓤 (sem 𝓛 (Rule E c x a)) (H.⇛ (A.tok (just key)))) $ await t z $
        use2 𝓛 (‵ (ftok every)) (𝓛.invs.tok_glue every (just key) (less every key) (take every key refl)) $ next)

    pub shut : K → Soaks G → (n : ℕ) (y : Bool) (b o : ℕ) → c ≡ block_ptr b o → Step K 𝓛 (‵ (ftok every) ∷ Γ) G (‵ (count_cell b o n) ∷ ‵ (Beside E c x a n y) ∷ Closes E c x 𝓛 a ∷ Γ) G
    shut t z n y b o e = step (λ next.
        use1 𝓛 (‵ (count_at (block_ptr b o) n)) (uint_in 𝓛 full_share w64 n b (o + 0)) $ rewrite t 0 (λ (r : Ptr). ‵ (count_at r n)) (sym e) refl $
        fjoin t $ fpack t Stage (At E c x a) (owned n y) $ closed t z $ next)

    module _ (q : Share) where
      -- a share of the loan's token shows that the loan is not over
      at_stage : K → (s : Stage)
          → ((n : ℕ) (y : Bool) (b o : ℕ) → c ≡ block_ptr b o → n < 2 ^ 64 → 0 < n → Seq K 𝓛 (‵ (count_cell b o n) ∷ ‵ (Beside E c x a n y) ∷ Closes E c x 𝓛 a ∷ ‵ (flft (lasts a) q) ∷ Γ) G)
          → Seq K 𝓛 (‵ (At E c x a s) ∷ ‵ (flft (lasts a) q) ∷ Closes E c x 𝓛 a ∷ Γ) G
      at_stage t (owned n y) k =
          fsplit t $ in_a_block t c (λ r. count_at r n) (id⊢ 𝓤 (never 𝓤)) (λ b o e. use1 𝓛 (‵ (count_cell b o n)) (uint_out 𝓛 full_share w64 n b (o + 0)) $ well_typed t (λ ok.
          move t (1 ∷ []) $ use1 𝓛 (given (0 < n) (‵ (Beside E c x a n y))) (steps.has_owner 𝓛 a (key_of c) (count_at c) (Content E c x) (Seen E c x) n y) $ learn t (λ some_owner.
          move t (1 ∷ 0 ∷ 3 ∷ 2 ∷ []) $ k n y b o e ok.1.fits some_owner)))
      at_stage t over k = move t (1 ∷ 0 ∷ []) $ use2 𝓛 (given ⊥ (‵ ftrue)) (steps.not_over 𝓛 (lasts a) q _) $ learn t (λ never'. absurd never')

      -- [the count; what lies beside it; what shuts; the share]
      pub opened : K → Soaks G
          → ((n : ℕ) (y : Bool) (b o : ℕ) → c ≡ block_ptr b o → n < 2 ^ 64 → 0 < n → Seq K 𝓛 (‵ (count_cell b o n) ∷ ‵ (Beside E c x a n y) ∷ Closes E c x 𝓛 a ∷ ‵ (flft (lasts a) q) ∷ Γ) G)
          → Seq K 𝓛 (‵ (Invariant E c x a) ∷ ‵ (flft (lasts a) q) ∷ ‵ (ftok every) ∷ Γ) G
      opened t z k =
          let key = key_of c in
          move t (2 ∷ []) $ use1 𝓛 (‵ (ftok (just key)) ⊛ ‵ (ftok (less every key))) (𝓛.invs.tok_cut every (just key) (less every key) (take every key refl)) $ split t $
          -- [the token at the key; the rest of it; the invariant; the share]
          move t (2 ∷ 0 ∷ []) $ use2 𝓛 (later (‵ (Rule E c x a) ⊛ raw (wand 𝓤 (sem 𝓛 (Rule E c x a)) (H.⇛ (A.tok (just key)))))) (na_inv_acc 𝓛 key (Rule E c x a)) $ await t z $ split t $
          move t (1 ∷ 2 ∷ []) $ join t $ move t (1 ∷ []) $ fpick t (λ s. move t (0 ∷ 2 ∷ 1 ∷ []) $ at_stage t s k)
