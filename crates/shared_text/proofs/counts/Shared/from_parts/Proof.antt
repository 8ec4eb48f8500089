-- `from_parts`: the block is written, its value is lent for a new lifetime, and the first owner holds a part of that lifetime's token.
use mathlib.Core.Path.{refl, sym, subst}
use Prim.Native.Nat.{ℕ}
use mathlib.Core.List.{List, [], ◌∷◌, ◌++◌}
use lib.Dec.{lit<}
use seplogic.Ra.Ura.{Ura}
use mir.Syntax.{Fn, w64, ty_int}
use mir.Val.{Val, vint, vstruct}
use mir.MapTy.{inst_fn}
use base.Logic.{SProp, ent}
use base.Fml.{Lft, Share, ftrue, froom, flft}
use contract.BorrowLft.{◌⊑◌}
use contract.Monad.{Fun}
use prog.Memory.{Memory}
use prog.Routine.{Routine}
use prog.Wp.{Env, Calls, Loops, WpFn}
use types.Logic.{Logic}
use types.Kit.{Item, ⋆, ‵, given, ◌⊛◌, at_ret, ◌$◌, ◌∵◌, !, qed, by, move, keep, drop, use1, learn, group, split, join, fsplit3, fjoin, suffices, done}
use types.Run.{init, stop, fld, lit, of_opd, and_then, no_more, assigns_last, first, blocks, exec, returns, enter}
use types.Part.{sub, whole, agg}
use types.ByLocal.{alloc_all, pass_all, free_all, look_at, get, get_in, through, sets, env}
use contract.Running.{tables}
use denote.Exit.{no}
use denote.Memory.{lone}
use denote.RattleType.{owns}
use denote.RawPtr.{Ptr, block_ptr}
use denote.Signature.{types_at, plain}
use denote.Steps.{nothing}
use denote.Struct.Struct.{as_fields}
use denote.Triple.Clauses.{Clauses, Ended}
use denote.Triple.Walked.{says, Stays, stay_dropped, walk_of, ends_at, Goes-dropped}
use Rattle.std.proofs.alloc.Calls.{α, token, Fits, Goes-blank}
use Rattle.std.proofs.raw_atomic.Walks.{proved_at}
use Rattle.std_alloc.proofs.BoxSteps.Form.{Bx, args, X, R, P, τ, own}
use Rattle.std_alloc.proofs.BoxSteps.Steps.{el_tells}
use Rattle.std_alloc.proofs.OfVacant.{Vacant, vacant_val, vacant_typed, Vacant-had}
use Rattle.std_alloc.proofs.RawLayout.{as_written}
use Rattle.std_alloc.proofs.RcSteps.{Good, word, word-Good}
use Rattle.std_alloc.proofs.VecSteps.Shapes.{after}
use Rattle.shared_text.specs.Ownership.{count_at}
use Rattle.shared_text.specs.contracts.counts.Node as Node
use Rattle.shared_text.specs.contracts.counts.Shared.from_parts as f
use Rattle.shared_text.specs.contracts.counts.Shared.from_parts.Key.{name as key}
use Rattle.shared_text.proofs.counts.Shared.from_parts.Code as code
use Rattle.shared_text.proofs.counts.Shared.from_parts.Statement.{statement}
use Rattle.shared_text.proofs.Blocks.{block_type, new_fields, filled}
use Rattle.shared_text.proofs.Owners.{Block, handle_name, Content, first_owner, owner_by_value}

module _ (E : Bx) where
  abbrev body : Fn
  body = inst_fn (args E) code.function

  abbrev ended : Ended
  ended = f.ended E.row E.al.row E.al.g E.al.d E.al.drops

  abbrev stayed : Stays ended.signature.params ended.kept
  stayed = (stay_dropped (plain (λ _. Vacant E.al (Block E))) no, (stay_dropped (plain (λ _. R E)) no, tt))

module _ (E : Bx) {M : Type 1} {𝓤 : Ura M} (𝓛 : Logic 𝓤) (mem : Memory → SProp 𝓤) (run : Routine → Fun 𝓤) where
  open 𝓛 use {H}

  abbrev clauses : Clauses 𝓤 (ended E)
  clauses = f.clauses E.row E.al.row E.al.g E.al.d E.al.drops 𝓛 mem run

  module _ (C : Calls 𝓤 H) (Λ : Loops 𝓤 H) (y : (walk_of 𝓛 (ended E) (stayed E) clauses).Ghost) where
    abbrev Post : Val → SProp 𝓤
    Post = (walk_of 𝓛 (ended E) (stayed E) clauses).post y

    abbrev κ : Lft
    κ = y.0.0.0

    abbrev q : Share
    q = y.0.1.0

    abbrev other_tokens : Item 𝓤
    other_tokens = ‵ (flft y.0.0.1.0 y.0.1.1.0) ⊛ ‵ ftrue

    abbrev h : E.al.row.Denot
    h = y.0.3.0.alloc

    abbrev x : X E
    x = y.0.3.1.0

    abbrev Passed : ℕ → ℕ → Val → Val → List (Item 𝓤)
    Passed b o hv v = ‵ (froom (block_type E) b o) ∷ ‵ (token E.al h (block_type E) (block_ptr b o)) ∷ ‵ (E.al.row.own_val h (hv ∷ [])) ∷ ‵ (own E x (v ∷ [])) ∷ ‵ (flft κ q) ∷ other_tokens ∷ []

    writes : κ ⊑ E.row.lives → (b o : ℕ) (hv v : Val) → Fits E.al hv → Good (τ E) v → ent 𝓤 (⋆ 𝓛 (Passed b o hv v)) (WpFn 𝓤 H C Λ (body E) (vacant_val hv b o ∷ v ∷ []) Post)
    writes lives b o hv v fits good =
        let c : Ptr = block_ptr b o in
        let typed : Good (lone (Block E).mir) (vstruct (new_fields E hv v)) = as_fields (ty_int w64 ∷ α E.al ∷ τ E ∷ []) (vint w64 1 ∷ hv ∷ v ∷ []) ((tt, record { fits = lit< tt }), (fits, (good, tt))) in
        qed 𝓛 (Passed b o hv v) ∵ enter ! C Λ (body E) (vacant_val hv b o ∷ v ∷ []) _ $ alloc_all ! (λ l. pass_all ! refl (vacant_typed E.al (Block E) hv b o fits, (good, tt)) $
        let locals : Env 𝓤 H = env (body E).locals l in
        as_written ! (lone (Block E).mir) b o $
        sets ! (of_opd ! (get_in ! (fld ! refl (stop !)) (sub ! 0 refl (whole !)))) refl (tt, tt) $ sets ! (of_opd ! (get_in ! (fld ! refl (stop !)) (sub ! 1 refl (whole !)))) refl fits $
        first ! $ blocks ! $ sets ! (of_opd ! (get ! refl)) refl fits $ sets ! (of_opd ! (get ! refl)) refl good $
        sets ! (agg ! (and_then ! (lit ! tt) (and_then ! (get ! refl) (and_then ! (get ! refl) (no_more !))))) refl typed $
        assigns_last ! (of_opd ! (get ! refl)) (through ! refl (stop !)) (init ! 0 refl typed) $
        exec ! C Λ locals (after 3 (body E).body) (at_ret locals Post) $ sets ! (agg ! (and_then ! (get ! refl) (no_more !))) refl (word-Good (handle_name E) c) $
        -- [the block; the token; what the allocator owns; what the value owns; the token of κ; the other tokens]
        group ! 4 $ use1 𝓛 (‵ (count_at c 1) ⊛ ‵ (Content E c x)) (filled E 𝓛 (Node.the_type (R E) (P E)).name b o h x hv v) $ split ! $
        first_owner E c x ! tt κ q lives (λ a. owner_by_value E c x a ! $
        -- [the owner; the token of κ; the other tokens]
        returns ! (look_at ! 0 refl) $ free_all ! refl $ move ! (1 ∷ 2 ∷ []) $ join ! $ keep ! (1 ∷ 0 ∷ []) $
        suffices ! _ (ends_at 𝓛 (ended E) (stayed E) clauses y (word c) (record { ptr = c; value = x }) ((tt, (tt, tt)), (tt, tt)) (tt, (tt, tt))) $
        says ! refl $ nothing ! $ nothing ! $ fjoin ! $ nothing ! $ fjoin ! $ join ! $ move ! (1 ∷ 0 ∷ []) $ join ! $ done !))

    walk : ent 𝓤 ((walk_of 𝓛 (ended E) (stayed E) clauses).pre y) (WpFn 𝓤 H C Λ (body E) (y.0.4.0 ++ (y.0.4.1.0 ++ [])) Post)
    walk =
        let us = y.0.4.0 in let vs = y.0.4.1.0 in
        qed 𝓛 (((‵ (flft κ q) ⊛ other_tokens) ⊛ ‵ (owns (types_at (ended E).signature.params y.0.0) y.0.3 (us, (vs, tt)))) ∷ (given (κ ⊑ E.row.lives) (‵ ftrue) ⊛ given (y.0.0.1.0 ⊑ E.al.row.lives) (‵ ftrue) ⊛ ‵ ftrue) ∷ []) ∵
        move ! (1 ∷ []) $ split ! $ learn ! (λ lives. drop ! $ drop ! $ split ! $ split ! $ move ! (2 ∷ []) $ fsplit3 ! $
        move ! (1 ∷ []) $ el_tells E ! x vs (λ v is_v good. move ! (1 ∷ []) $ Vacant-had E.al (Block E) ! y.0.3.0 us (λ b o hv e is_vacant fits. keep ! (0 ∷ 1 ∷ 2 ∷ 3 ∷ 5 ∷ 6 ∷ []) $
        let Runs : List Val → Type 1 = λ ws. ent 𝓤 (⋆ 𝓛 (Passed b o hv v)) (WpFn 𝓤 H C Λ (body E) ws Post) in
        by ! (subst (λ (ws : List Val). Runs (ws ++ (vs ++ []))) (sym is_vacant) (subst (λ (ws : List Val). Runs (vacant_val hv b o ∷ (ws ++ []))) (sym is_v) (writes lives b o hv v fits good))))))

pub from_parts_spec : {M : Type 1} → statement M
from_parts_spec 𝓤 𝓛 𝓜 𝓡 wired T A L K g d dd met md =
    let E : Bx = record { row = T; laws = L; al = record { row = A; laws = K; g = g; d = d; drops = dd } } in
    let 𝓣 = tables 𝓤 𝓛.H 𝓜 𝓡 𝓡.env in
    proved_at 𝓛 (ended E) (stayed E) (clauses E 𝓛 𝓜.mem 𝓡.returns) 𝓜 𝓡
    (Goes-blank 𝓛 2 (plain (λ _. Vacant E.al (Block E))) no (λ κs v w. tt), (Goes-dropped 𝓛 2 (plain (λ _. R E)) no (λ κs v w. refl), tt))
    (key (args E)) (body E) (code.unfolded 𝓤 𝓛.H 𝓜 𝓡 wired (T, (A, tt)) d dd) (λ y are. walk E 𝓛 𝓜.mem 𝓡.returns 𝓣.C 𝓣.Λ y)
