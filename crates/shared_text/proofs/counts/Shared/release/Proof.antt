-- `release`: at the full count nothing changes. Below it the owner's part goes back, and with the last part the invariant gives the value and the block.
use mathlib.Core.Path.{refl, sym, subst, ap}
use mathlib.Core.Bool.{true}
use Prim.Native.Nat.{ℕ, ◌+◌, ◌-◌, ◌<◌, ◌^◌}
use native.Mathlib.Omega.{arith}
use mathlib.Core.List.{List, [], ◌∷◌, ◌++◌}
use lib.Dec.{lit<}
use seplogic.Ra.Ura.{Ura}
use mir.Syntax.{Fn, Body}
use mir.Val.{Val, vcons, vnil}
use mir.MapTy.{inst_fn}
use base.Logic.{SProp, ent, wand, apply∗}
use base.Fml.{Share, ftrue, flft, ftok}
use base.Mask.{every}
use contract.Monad.{Fun}
use prog.Memory.{Memory}
use prog.Routine.{Routine}
use prog.Wp.{Env, Calls, Loops, Wp, WpFn, after_block, after_seq, at_return}
use types.Logic.{Logic, sem}
use types.Kit.{Item, Sq, ⋆, ‵, raw, some, later, ◌⊛◌, prop, at_ret, any_q, ◌$◌, ◌∵◌, !, qed, by, move, keep, use0, use1, use2, pick, await, split, join, fsplit, fsplit3, fjoin, fpick, rewrite, suffices, frame, done}
use types.Match.{live}
use types.Run.{look, store, stop, fld, addr, load, lit, neg_lit, bin, of_opd, and_then, no_more, assigns, first, blocks, skips, branches, exec, returns, returns_within, enter}
use types.Part.{sub, whole, agg}
use types.ByLocal.{alloc_all, pass_all, free_all, look_at, get, get_in, through, sets, sets_last, is, env}
use denote.Exit.{no}
use denote.Memory.{lone}
use denote.RattleType.{RattleType, owns}
use denote.RawPtr.{Ptr, block_ptr, ptr_val}
use denote.Signature.{types_at, plain}
use denote.Steps.{nothing}
use denote.Struct.Tuple.{Tuple}
use denote.Triple.Clauses.{Clauses, Ended}
use denote.Triple.Walked.{says, Stays, stay_dropped, walk_of, ends_at, Goes-dropped}
use Rattle.std.specs.contracts.option.Option as Option
use Rattle.std.specs.declared.option.Option.TheVariants.{None, Some}
use Rattle.std_alloc.proofs.BoxSteps.Form.{Bx, args, X, R, τ}
use Rattle.std_alloc.proofs.OfVacant.{Vacant, vacant_ty, vacant_val, vacant_typed, Vacant-made}
use Rattle.std_alloc.proofs.Pairs.{pair_val, pair_Typed, pair_of}
use Rattle.std_alloc.proofs.RcSteps.{Good, some_Good, is_not, is_so, word, word-Good, word_had, Some-of, none_of}
use Rattle.std_alloc.proofs.VecSteps.Shapes.{after, head, inside}
use Rattle.shared_text.specs.Counting.{lasts, hold, full}
use Rattle.shared_text.specs.Ownership.{key_of, count_at}
use Rattle.shared_text.specs.contracts.counts.Shared.release as f
use Rattle.shared_text.specs.contracts.counts.Shared.release.Key.{name as key}
use Rattle.shared_text.proofs.counts.Shared.release.Code as code
use Rattle.shared_text.proofs.counts.Shared.release.Code.{code}
use Rattle.shared_text.proofs.counts.Shared.release.Statement.{statement}
use Rattle.shared_text.proofs.Blocks.{emptied, vacated}
use Rattle.shared_text.proofs.Owners.{Handle, Block, handle_name, Content, Seen, Beside, Rule, Owner, opened, shut, closed}
use Rattle.shared_text.proofs.Steps as steps
use Rattle.shared_text.proofs.Turn.{with_turn, turned}

module _ (E : Bx) where
  abbrev body : Fn
  body = inst_fn (args E) code.function

  -- the code in the `unsafe` block
  abbrev counting : Body
  counting = inside (head (after 2 body.body))

  abbrev ended : Ended
  ended = f.ended E.row E.al.row E.al.g E.al.d E.al.drops

  abbrev stayed : Stays ended.signature.params ended.kept
  stayed = (stay_dropped (plain (λ _. Handle E)) no, tt)

  abbrev Pair : RattleType
  Pair = Tuple (R E ∷ Vacant E.al (Block E) ∷ [])

module _ (E : Bx) {M : Type 1} {𝓤 : Ura M} (𝓛 : Logic 𝓤) (mem : Memory → SProp 𝓤) (run : Routine → Fun 𝓤) where
  open 𝓛 use {H}

  abbrev clauses : Clauses 𝓤 (ended E)
  clauses = f.clauses E.row E.al.row E.al.g E.al.d E.al.drops 𝓛 mem run

  abbrev c : Clauses 𝓤 (ended E)
  c = with_turn 𝓛 (ended E) (stayed E) clauses

  module _ (C : Calls 𝓤 H) (Λ : Loops 𝓤 H) (y : (walk_of 𝓛 (ended E) (stayed E) c).Ghost) where
    abbrev Post : Val → SProp 𝓤
    Post = (walk_of 𝓛 (ended E) (stayed E) c).post y

    abbrev p : Ptr
    p = y.0.3.0.ptr

    abbrev x : X E
    x = y.0.3.0.value

    abbrev tokens : Item 𝓤
    tokens = ‵ (flft y.0.0.0 y.0.1.0) ⊛ ‵ (flft y.0.0.1.0 y.0.1.1.0) ⊛ ‵ ftrue

    abbrev Had : List (Item 𝓤)
    Had = ‵ (Owner E p x) ∷ ‵ (ftok every) ∷ tokens ∷ []

    none : Sq 𝓛 (‵ (ftok every) ∷ tokens ∷ []) (prop (Post (live 0 vnil)))
    none =
        suffices ! _ (ends_at 𝓛 (ended E) (stayed E) c y (live 0 vnil) None (tt, tt) (tt, tt)) $
        use0 𝓛 (‵ ((Option.the_row (Pair E)).own_val None (live 0 vnil ∷ []))) (none_of 𝓛 (Pair E)) $
        nothing ! $ nothing ! $ fjoin ! $ join ! $ move ! (2 ∷ 0 ∷ []) $ join ! $ frame ! $ says ! tt $ done !

    walk : ent 𝓤 (⋆ 𝓛 Had) (WpFn 𝓤 H C Λ (body E) (word p ∷ []) Post)
    walk =
        qed 𝓛 Had ∵ enter ! C Λ (body E) (word p ∷ []) _ $ alloc_all ! (λ l. pass_all ! refl (word-Good (handle_name E) p, tt) $
        let locals : Env 𝓤 H = env (body E).locals l in
        let after_counting = any_q (after_block 𝓤 H (after_seq 𝓤 H (Wp 𝓤 H C Λ locals (after 3 (body E).body) (at_return 𝓤 H locals Post)) (at_return 𝓤 H locals Post))) in
        fpick ! (λ i. fsplit3 ! $ use1 𝓛 (some (λ (s : Share). ‵ (flft (lasts i) s) ⊛ raw (wand 𝓤 (𝓛.A.lft (lasts i) s) (sem 𝓛 (hold i))))) (steps.token_of 𝓛 i) $ pick ! (λ s. split ! $
        -- [a share of the loan's token; the way back; the invariant; what is seen; the thread's token; the tokens]
        move ! (2 ∷ 0 ∷ 4 ∷ []) $ opened E p x i s ! tt (λ n z cb co e fits some_owner.
        move ! (3 ∷ 4 ∷ []) $ use2 𝓛 (‵ (hold i)) (apply∗ 𝓤 (𝓛.A.lft (lasts i) s) (sem 𝓛 (hold i))) $ fpick ! (λ w. move ! (1 ∷ 2 ∷ 3 ∷ 0 ∷ []) $
        -- [the count; what lies beside it; what shuts; what is held; what is seen; the tokens]
        sets ! (is ! (of_opd ! (get_in ! (fld ! refl (stop !)) (sub ! 0 refl (whole !)))) (ap ptr_val e)) refl (tt, tt) $ sets ! (of_opd ! (get ! refl)) refl (tt, tt) $
        first ! $ blocks ! $ sets ! (of_opd ! (load ! (through ! refl (fld ! refl (stop !))) (look ! 0 refl))) refl (tt, record { fits = fits }) $
        sets ! (bin ! (get ! refl) (neg_lit ! tt) tt) refl (tt, tt) $ first ! $ branches ! (get ! refl)
        (λ is_full. sets ! (agg ! (and_then ! (lit ! tt) (no_more !))) refl (tt, (record { fits = lit< tt }, tt)) $ shut E p x i ! tt n z cb co e $
        returns_within ! Post refl (look_at ! 0 refl) $ free_all ! refl $ keep ! (0 ∷ 3 ∷ []) $ none)
        (λ not_full. let room : n + 1 < 2 ^ 64 = omega (arith, is_not n full not_full) in
        skips ! $ exec ! C Λ locals (after 3 (counting E)) after_counting $
        sets ! (bin ! (get ! refl) (lit ! tt) tt) refl (tt, tt) $ first ! $ branches ! (get ! refl)
        (λ many. let more : 1 < n = omega (arith, is_not n 1 many) in let fewer : n - 1 < 2 ^ 64 = omega arith in
        sets ! (bin ! (get ! refl) (lit ! tt) some_owner) refl (tt, record { fits = fewer }) $ assigns ! (of_opd ! (get ! refl)) (through ! refl (fld ! refl (stop !))) (store ! 0 refl (tt, record { fits = fewer })) $
        sets ! (agg ! (and_then ! (lit ! tt) (no_more !))) refl (tt, (record { fits = lit< tt }, tt)) $
        move ! (1 ∷ 3 ∷ []) $ use2 𝓛 (‵ (Beside E p x i (n - 1) true)) (steps.counted_out 𝓛 i (key_of p) (count_at p) (Content E p x) (Seen E p x) n z w more room) $ move ! (1 ∷ 0 ∷ []) $
        shut E p x i ! tt (n - 1) true cb co e $ returns_within ! Post refl (look_at ! 0 refl) $ free_all ! refl $ keep ! (0 ∷ 2 ∷ []) $ none)
        (λ last. skips ! $ exec ! C Λ locals (after 5 (counting E)) after_counting $
        move ! (1 ∷ []) $ rewrite ! 0 (λ (m : ℕ). ‵ (Beside E p x i m z)) (is_so n 1 last) refl $ move ! (0 ∷ 3 ∷ []) $
        use2 𝓛 (later (‵ (Content E p x) ⊛ ‵ (Rule E p x i))) (steps.last_out 𝓛 i (key_of p) (count_at p) (Content E p x) (Seen E p x) z w) $ await ! tt $ split ! $
        -- [the content; the loan is over; the count; what shuts; what is seen; the tokens]
        move ! (1 ∷ 3 ∷ []) $ closed E p x i ! tt $ move ! (1 ∷ []) $
        emptied E cb co ! p x e (λ h hv v handle_fits good.
        -- [the allocator's cell; the value's; the way back; the right to free; what the allocator owns; what the value owns; the thread's token; the count; what is seen; the tokens]
        let vacant : (Vacant E.al (Block E)).Denot = record { ptr = block_ptr cb co; alloc = h } in
        let block_good = vacant_typed E.al (Block E) hv cb co handle_fits in
        let both : Val = pair_val v (vacant_val hv cb co) in
        let both_good : Good (lone (Pair E).mir) both = pair_Typed (τ E) (vacant_ty E.al (Block E)) v (vacant_val hv cb co) good block_good in
        sets ! (addr ! (through ! refl (fld ! refl (stop !)))) refl (tt, tt) $ sets ! (of_opd ! (load ! (through ! refl (stop !)) (look ! 0 refl))) refl handle_fits $
        sets ! (addr ! (through ! refl (fld ! refl (stop !)))) refl (tt, tt) $ sets ! (of_opd ! (load ! (through ! refl (stop !)) (look ! 1 refl))) refl good $
        sets ! (of_opd ! (get ! refl)) refl good $ sets ! (of_opd ! (get ! refl)) refl handle_fits $
        sets ! (agg ! (and_then ! (get ! refl) (and_then ! (get ! refl) (no_more !)))) refl block_good $ sets ! (agg ! (and_then ! (get ! refl) (and_then ! (get ! refl) (no_more !)))) refl both_good $
        sets_last ! (agg ! (and_then ! (lit ! tt) (and_then ! (get ! refl) (no_more !)))) refl (some_Good (lone (Pair E).mir) both both_good) $
        exec ! C Λ locals (after 3 (body E).body) (at_ret locals Post) $ sets ! (of_opd ! (get ! refl)) refl (some_Good (lone (Pair E).mir) both both_good) $
        move ! (7 ∷ 0 ∷ 1 ∷ 2 ∷ []) $ vacated E cb co ! n hv v $ Vacant-made E.al (Block E) ! h cb co $
        -- [the vacant block; what the value owns; the thread's token; what is seen; the tokens]
        move ! (1 ∷ 0 ∷ []) $ use2 𝓛 (‵ ((Pair E).own_val (x, vacant) (both ∷ []))) (pair_of 𝓛 (R E) (Vacant E.al (Block E)) x vacant v (vacant_val hv cb co)) $
        use1 𝓛 (‵ ((Option.the_row (Pair E)).own_val (Some (x, vacant)) (live 1 (vcons both vnil) ∷ []))) (Some-of 𝓛 (Pair E) (x, vacant) both) $
        returns ! (look_at ! 0 refl) $ free_all ! refl $ keep ! (0 ∷ 3 ∷ 1 ∷ []) $
        suffices ! _ (ends_at 𝓛 (ended E) (stayed E) c y (live 1 (vcons both vnil)) (Some (x, vacant)) (tt, tt) (tt, tt)) $
        nothing ! $ nothing ! $ fjoin ! $ join ! $ move ! (1 ∷ 0 ∷ []) $ join ! $ frame ! $ says ! refl $ done !))))))))

    walks : ent 𝓤 ((walk_of 𝓛 (ended E) (stayed E) c).pre y) (WpFn 𝓤 H C Λ (body E) (y.0.4.0 ++ []) Post)
    walks =
        qed 𝓛 ((tokens ⊛ ‵ (owns (types_at (ended E).signature.params y.0.0) y.0.3 (y.0.4.0, tt))) ∷ (‵ (ftok every) ⊛ raw ((clauses y.0.0 y.0.3).requires y.1)) ∷ []) ∵
        split ! $ move ! (2 ∷ []) $ split ! $ move ! (3 ∷ []) $ fsplit ! $ fsplit ! $ word_had E (handle_name E) p ! y.0.4.0 (λ is_word. keep ! (0 ∷ 2 ∷ 4 ∷ []) $
        by ! (subst (λ (ws : List Val). ent 𝓤 (⋆ 𝓛 Had) (WpFn 𝓤 H C Λ (body E) (ws ++ []) Post)) (sym is_word) walk))

pub release_spec : {M : Type 1} → statement M
unfolding code
release_spec 𝓤 𝓛 𝓜 𝓡 wired T A L K g d dd met md =
    let E : Bx = record { row = T; laws = L; al = record { row = A; laws = K; g = g; d = d; drops = dd } } in
    turned 𝓛 (ended E) (stayed E) (clauses E 𝓛 𝓜.mem 𝓡.returns) 𝓜 𝓡 (Goes-dropped 𝓛 2 (plain (λ _. Handle E)) no (λ κs r w. refl), tt)
    (key (args E)) (body E) (wired.0.0 (key (args E)) refl) (walks E 𝓛 𝓜.mem 𝓡.returns)
