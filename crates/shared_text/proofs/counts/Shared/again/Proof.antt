-- `again`: below the full count the new owner is counted. At the full count it gets a piece of what the invariant keeps, and the count stays.
use mathlib.Core.Path.{refl, sym, ap}
use mathlib.Core.Bool.{Bool, true, false}
use Prim.Native.Nat.{◌+◌, ◌<◌, ◌^◌}
use native.Mathlib.Omega.{arith}
use mathlib.Core.List.{[], ◌∷◌}
use lib.Dec.{eqb→eq}
use seplogic.Ra.Ura.{Ura}
use mir.Syntax.{Fn, named}
use mir.MapTy.{inst_fn}
use base.Logic.{SProp, id⊢}
use base.Fml.{ftrue, flft, fhide, ftok}
use base.Mask.{every}
use contract.Monad.{Fun}
use prog.Memory.{Memory}
use prog.Routine.{Routine}
use prog.Wp.{Env, Calls, Loops, Wp, WpFn, after_block, after_seq, at_return}
use types.Logic.{Logic}
use types.Kit.{Item, Sq, ‵, raw, later, ◌⊛◌, prop, at_ret, any_q, ◌$◌, ◌∵◌, !, qed, move, keep, use1, await, split, join, fsplit, fsplit3, fjoin, fpick, fpack, suffices, frame, done}
use types.Run.{look, store, stop, fld, load, lit, neg_lit, bin, of_opd, and_then, no_more, assigns_last, first, blocks, skips, branches, exec, returns, returns_within, enter}
use types.Part.{look_in, sub, whole, agg}
use types.Na.{na_inv_dup}
use types.Tokens.{shr_bor-open, obor_close}
use types.Within.{tokens_halve}
use types.ByLocal.{alloc_all, pass_all, free_all, look_at, get, through, sets, is, env}
use denote.Builtin.{RefOf}
use denote.Exit.{yes}
use denote.Memory.{hidden_shr}
use denote.RattleType.{owns}
use denote.Opens.{unhide}
use denote.RawPtr.{ptr_val}
use denote.Ref.{shr_vals, shr_Tells}
use denote.Signature.{types_at, plain}
use denote.Steps.{nothing}
use denote.Triple.Clauses.{Clauses, Ended}
use denote.Triple.Walked.{says, Stays, stay_dropped, Walks, walk_of, walked, ends_at, Goes-dropped}
use Rattle.std_alloc.proofs.BoxSteps.Form.{Bx, args}
use Rattle.std_alloc.proofs.RcSteps.{Ptr-Good, is_not, Word, word, word-Good, reads, read}
use Rattle.std_alloc.proofs.VecSteps.Shapes.{after, head, inside}
use Rattle.shared_text.specs.Counting.{lasts, holds, full}
use Rattle.shared_text.specs.Ownership.{key_of, count_at}
use Rattle.shared_text.specs.contracts.counts.Shared.again as f
use Rattle.shared_text.specs.contracts.counts.Shared.again.Key.{name as key}
use Rattle.shared_text.proofs.counts.Shared.again.Code as code
use Rattle.shared_text.proofs.counts.Shared.again.Code.{code}
use Rattle.shared_text.proofs.counts.Shared.again.Statement.{statement}
use Rattle.shared_text.proofs.Owners.{Handle, handle_name, Content, Seen, Beside, Rule, Invariant, Lent, owner_by_value, opened, shut}
use Rattle.shared_text.proofs.Steps as steps
use Rattle.shared_text.proofs.Turn.{with_turn, turned}

module _ (E : Bx) where
  abbrev body : Fn
  body = inst_fn (args E) code.function

  abbrev ended : Ended
  ended = f.ended E.row E.al.row E.al.g E.al.d E.al.drops

  abbrev stayed : Stays ended.signature.params ended.kept
  stayed = (stay_dropped (RefOf (0 ∷ []) tt (plain (λ _. Handle E)) (λ _. tt)) yes, tt)

module _ (E : Bx) {M : Type 1} {𝓤 : Ura M} (𝓛 : Logic 𝓤) (mem : Memory → SProp 𝓤) (run : Routine → Fun 𝓤) where
  open 𝓛 use {H}

  abbrev clauses : Clauses 𝓤 (ended E)
  clauses = f.clauses E.row E.al.row E.al.g E.al.d E.al.drops 𝓛 mem run

  abbrev c : Clauses 𝓤 (ended E)
  c = with_turn 𝓛 (ended E) (stayed E) clauses

  module _ (C : Calls 𝓤 H) (Λ : Loops 𝓤 H) where
    walk : Walks 𝓛 (ended E) (stayed E) (WpFn 𝓤 H C Λ (body E)) c
    walk = walked 𝓛 (ended E) (stayed E) c (WpFn 𝓤 H C Λ (body E)) (λ κs. (shr_vals, tt)) (λ κs. (shr_Tells (named 0) κs.0 (Handle E), tt)) (λ κs qs bounds a u are.
        let p = a.0.now.ptr in let x = a.0.now.value in let b = a.0.ref_ptr.0 in let o = a.0.ref_ptr.1 in let κ = κs.0 in let q = qs.0 in
        let W = walk_of 𝓛 (ended E) (stayed E) c in
        let y : W.Ghost = ((κs, qs, bounds, a, (shr_vals a.0, tt)), u) in
        let tokens : Item 𝓤 = ‵ (flft κs.1.0 qs.1.0) ⊛ ‵ (flft κs.1.1.0 qs.1.1.0) ⊛ ‵ ftrue in
        let shown : Item 𝓤 = ‵ (hidden_shr (Word E (handle_name E)) κ (p, tt) b o) ⊛ ‵ (fhide (Lent E p x κ)) in
        let new_owner = ‵ ((Handle E).own_val (record { ptr = p; value = x }) (word p ∷ [])) in
        let out : Sq 𝓛 (new_owner ∷ ‵ (flft κ q) ∷ ‵ (ftok every) ∷ tokens ∷ []) (prop (W.post y (word p))) =
        suffices ! _ (ends_at 𝓛 (ended E) (stayed E) c y (word p) (record { ptr = p; value = x }) (tt, tt) (tt, tt)) $
        nothing ! $ nothing ! $ fjoin ! $ join ! $ move ! (1 ∷ 3 ∷ []) $ join ! $ move ! (0 ∷ 1 ∷ []) $ join ! $ frame ! $ says ! refl $ done ! in
        qed 𝓛 (((‵ (flft κ q) ⊛ tokens) ⊛ ‵ (owns (types_at (ended E).signature.params κs) a (shr_vals a.0, tt))) ∷ (‵ (ftok every) ⊛ raw ((clauses κs a).requires u)) ∷ []) ∵
        split ! $ split ! $ move ! (3 ∷ []) $ split ! $ move ! (4 ∷ []) $ fsplit ! $ fsplit ! $ keep ! (1 ∷ 5 ∷ 3 ∷ 6 ∷ []) $ use1 𝓛 shown (id⊢ 𝓤 _) $ split ! $
        enter ! C Λ (body E) _ _ $ alloc_all ! (λ l. pass_all ! refl ((tt, tt), tt) $
        let locals : Env 𝓤 H = env (body E).locals l in
        let after_counting = any_q (after_block 𝓤 H (after_seq 𝓤 H (Wp 𝓤 H C Λ locals (after 3 (body E).body) (at_return 𝓤 H locals (W.post y))) (at_return 𝓤 H locals (W.post y)))) in
        -- [the owner's word, shared; what else the `&` holds; the token of the `&`; the thread's token; the other tokens]
        move ! (0 ∷ 2 ∷ []) $ reads E (handle_name E) p ! tt b o (λ s. sets ! (of_opd ! (load ! (through ! refl (fld ! refl (stop !))) (look_in ! 0 (sub ! 0 refl (whole !))))) refl (Ptr-Good p) $
        read E (handle_name E) p ! tt b o s $ move ! (1 ∷ []) $ unhide ! $ fpick ! (λ i. fsplit3 ! $ move ! (0 ∷ 3 ∷ []) $ shr_bor-open ! tt (tokens_halve 𝓛 (lasts i)) (λ r.
        -- [the open borrow; the share that is lent; the invariant; what is seen; the thread's token; the other tokens]
        move ! (2 ∷ []) $ use1 𝓛 (‵ (Invariant E p x i) ⊛ ‵ (Invariant E p x i)) (na_inv_dup 𝓛 (key_of p) (Rule E p x i)) $ split ! $
        move ! (0 ∷ 3 ∷ 5 ∷ []) $ opened E p x i r ! tt (λ n z cb co e fits some_owner.
        -- [the count; what lies beside it; what shuts; the share; the invariant; the open borrow; what is seen; the other tokens]
        sets ! (is ! (of_opd ! (get ! refl)) (ap ptr_val e)) refl (tt, tt) $
        first ! $ blocks ! $ sets ! (of_opd ! (load ! (through ! refl (fld ! refl (stop !))) (look ! 0 refl))) refl (tt, record { fits = fits }) $
        sets ! (bin ! (get ! refl) (neg_lit ! tt) tt) refl (tt, tt) $ first ! $ branches ! (get ! refl)
        (λ is_full. sets ! (is ! (agg ! (and_then ! (get ! refl) (no_more !))) (ap word (sym e))) refl (word-Good (handle_name E) p) $
        move ! (1 ∷ []) $ use1 𝓛 (later (‵ (Beside E p x i n false) ⊛ ‵ (holds i false))) (steps.uncounted_in 𝓛 i (key_of p) (count_at p) (Content E p x) (Seen E p x) n z (eqb→eq n full is_full)) $ await ! tt $ split ! $
        move ! (2 ∷ 0 ∷ 3 ∷ []) $ shut E p x i ! tt n false cb co e $
        -- [the thread's token; what the new owner holds; the share; the invariant; the open borrow; what is seen; the other tokens]
        move ! (4 ∷ 2 ∷ []) $ obor_close ! tt $ move ! (3 ∷ []) $ fpack ! Bool (holds i) false $ move ! (0 ∷ 4 ∷ 5 ∷ []) $ owner_by_value E p x i ! $
        returns_within ! (W.post y) refl (look_at ! 0 refl) $ free_all ! refl $ keep ! (0 ∷ 2 ∷ 3 ∷ 4 ∷ []) $ out)
        (λ not_full. let room : n + 1 < 2 ^ 64 = omega (arith, is_not n full not_full) in
        skips ! $ exec ! C Λ locals (after 3 (inside (head (after 2 (body E).body)))) after_counting $
        sets ! (bin ! (get ! refl) (lit ! tt) (record { fits = room })) refl (tt, record { fits = room }) $
        assigns_last ! (of_opd ! (get ! refl)) (through ! refl (fld ! refl (stop !))) (store ! 0 refl (tt, record { fits = room })) $
        exec ! C Λ locals (after 3 (body E).body) (at_ret locals (W.post y)) $ sets ! (is ! (agg ! (and_then ! (get ! refl) (no_more !))) (ap word (sym e))) refl (word-Good (handle_name E) p) $
        move ! (1 ∷ []) $ use1 𝓛 (‵ (Beside E p x i (n + 1) true) ⊛ ‵ (holds i true)) (steps.counted_in 𝓛 i (key_of p) (count_at p) (Content E p x) (Seen E p x) n z room) $ split ! $
        move ! (2 ∷ 0 ∷ 3 ∷ []) $ shut E p x i ! tt (n + 1) true cb co e $
        move ! (4 ∷ 2 ∷ []) $ obor_close ! tt $ move ! (3 ∷ []) $ fpack ! Bool (holds i) true $ move ! (0 ∷ 4 ∷ 5 ∷ []) $ owner_by_value E p x i ! $
        returns ! (look_at ! 0 refl) $ free_all ! refl $ keep ! (0 ∷ 2 ∷ 3 ∷ 4 ∷ []) $ out)))))))

pub again_spec : {M : Type 1} → statement M
unfolding code
again_spec 𝓤 𝓛 𝓜 𝓡 wired T A L K g d dd met md =
    let E : Bx = record { row = T; laws = L; al = record { row = A; laws = K; g = g; d = d; drops = dd } } in
    turned 𝓛 (ended E) (stayed E) (clauses E 𝓛 𝓜.mem 𝓡.returns) 𝓜 𝓡 (Goes-dropped 𝓛 3 (RefOf (0 ∷ []) tt (plain (λ _. Handle E)) (λ _. tt)) yes (λ κs r w. refl), tt)
    (key (args E)) (body E) (wired.0.0 (key (args E)) refl) (walk E 𝓛 𝓜.mem 𝓡.returns)
