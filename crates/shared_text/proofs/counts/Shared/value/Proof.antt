-- `value`: a `&` to an owner shows the value for as long as the `&` lives, and the field's address is read from the owner's word.
use mathlib.Core.Path.{refl, sym}
use Prim.Native.Nat.{ℕ, ◌+◌}
use mathlib.Core.List.{List, [], ◌∷◌}
use mir.Syntax.{Fn, named}
use mir.Val.{Val, vptr}
use mir.MapTy.{inst_fn}
use base.Logic.{fst∗, never, id⊢}
use base.Fml.{Share, ftrue, fat, flft, fhide}
use types.Logic.{sem}
use types.Kit.{Item, ‵, raw, ◌⊛◌, at_ret, ◌$◌, ◌∵◌, !, qed, move, keep, drop, use1, split, join, fsplit, fjoin, feq_i, rewrite, suffices, done}
use types.Run.{stop, hop, fld, addr, of_opd, first, blocks, exec, returns, enter}
use types.Part.{look_in, sub, whole}
use types.ByLocal.{alloc_all, pass_all, free_all, look_at, get, through, sets, sets_last, env}
use contract.Running.{tables}
use denote.Builtin.{RefOf}
use denote.Exit.{yes}
use denote.Memory.{shared_of, hidden_shr}
use denote.Opens.{unhide, hide}
use denote.RawPtr.{Ptr, in_a_block, ◌+ₚ◌}
use denote.Ref.{shr_vals, shr_Tells}
use denote.RattleType.{owns}
use denote.Signature.{plain, types_at}
use denote.Steps.{nothing}
use denote.Struct.Lending.{lent_at, lent_at_shr_laws}
use denote.Triple.Clauses.{Ended}
use denote.Triple.Walked.{says, Stays, stay_dropped, walk_of, ends_at, Goes-dropped}
use Rattle.std.proofs.raw_atomic.Walks.{proved}
use Rattle.std_alloc.proofs.BoxSteps.Form.{Bx, args, R, P}
use Rattle.std_alloc.proofs.RcSteps.{Word, word, word_ty, reads, read}
use Rattle.std_alloc.proofs.VecSteps.Shapes.{after}
use Rattle.shared_text.specs.Ownership.{count_at, key_of, value_begins}
use Rattle.shared_text.specs.contracts.counts.Shared.value as f
use Rattle.shared_text.specs.contracts.counts.Shared.value.Key.{name as key}
use Rattle.shared_text.proofs.counts.Shared.value.Code as code
use Rattle.shared_text.proofs.counts.Shared.value.Statement.{statement}
use Rattle.shared_text.proofs.Lending.{lent_shows}
use Rattle.shared_text.proofs.Owners.{Handle, handle_name, Content, Seen, Lent}

module _ (E : Bx) where
  abbrev body : Fn
  body = inst_fn (args E) code.function

  abbrev ended : Ended
  ended = f.ended E.row E.al.row E.al.g E.al.d E.al.drops

  abbrev stayed : Stays ended.signature.params ended.kept
  stayed = (stay_dropped (RefOf (0 ∷ []) tt (plain (λ _. Handle E)) (λ _. tt)) yes, tt)

pub value_spec : {M : Type 1} → statement M
value_spec {M} 𝓤 𝓛 𝓜 𝓡 wired T A L K g d dd met md =
    let E : Bx = record { row = T; laws = L; al = record { row = A; laws = K; g = g; d = d; drops = dd } } in
    let c = f.clauses T A g d dd 𝓛 𝓜.mem 𝓡.returns in
    let W = walk_of 𝓛 (ended E) (stayed E) c in
    let 𝓣 = tables 𝓤 𝓛.H 𝓜 𝓡 𝓡.env in
    proved 𝓛 (ended E) (stayed E) c 𝓜 𝓡 (Goes-dropped 𝓛 3 (RefOf (0 ∷ []) tt (plain (λ _. Handle E)) (λ _. tt)) yes (λ κs r w. refl), tt)
    (key (args E)) (body E) (code.unfolded 𝓤 𝓛.H 𝓜 𝓡 wired (T, (A, tt)) d dd)
    (λ κs. (shr_vals, tt)) (λ κs. (shr_Tells (named 0) κs.0 (Handle E), tt)) (λ κs qs bounds a u are.
    let p = a.0.now.ptr in let x = a.0.now.value in let b = a.0.ref_ptr.0 in let o = a.0.ref_ptr.1 in let κ = κs.0 in
    let y : W.Ghost = ((κs, qs, bounds, a, (shr_vals a.0, tt)), u) in
    let field : ℕ = value_begins (P E) (R E) in
    let seen_laws = lent_at_shr_laws (R E) L.shr_laws (p +ₚ field) x in
    let tokens : Item 𝓤 = ‵ (flft κs.1.0 qs.1.0) ⊛ ‵ (flft κs.1.1.0 qs.1.1.0) ⊛ ‵ ftrue in
    let shown : Item 𝓤 = ‵ (hidden_shr (Word E (handle_name E)) κ (p, tt) b o) ⊛ ‵ (fhide (Lent E p x κ)) in
    qed 𝓛 (((‵ (flft κ qs.0) ⊛ tokens) ⊛ ‵ (owns (types_at (ended E).signature.params κs) a (shr_vals a.0, tt))) ∷ raw ((c κs a).requires u) ∷ []) ∵
    split ! $ split ! $ move ! (2 ∷ []) $ fsplit ! $ fsplit ! $ keep ! (1 ∷ 3 ∷ 4 ∷ []) $ use1 𝓛 shown (id⊢ 𝓤 _) $ split ! $
    -- what every owner sees, at the lifetime of the `&`
    move ! (1 ∷ []) $ unhide ! $ use1 𝓛 (‵ (Seen E p x κ)) (lent_shows (key_of p) (count_at p) (Content E p x) (Seen E p x) seen_laws 𝓛 κ) $
    in_a_block ! p (λ r. lent_at (R E) (r +ₚ field) x κ) (fst∗ 𝓤 (never 𝓤) (sem 𝓛 (shared_of (R E) x 0 0 κ))) (λ pb po e. fsplit ! $ drop ! $ hide ! $
    enter ! _ _ _ _ _ $ alloc_all ! (λ l. pass_all ! refl ((tt, tt), tt) $
    -- [the value, shared; the owner's word; the token; the other tokens]
    let at : Val = vptr pb (po + field) in
    let Read : Share → Ptr → Item 𝓤 = λ s r. ‵ (fat s (word_ty (handle_name E)) b o (word r)) in
    move ! (1 ∷ 2 ∷ []) $ reads E (handle_name E) p ! tt b o (λ s. rewrite ! 0 (Read s) e refl $
    first ! $ blocks ! $ sets_last ! (addr ! (through ! refl (fld ! refl (hop ! (look_in ! 0 (sub ! 0 refl (whole !))) (fld ! refl (stop !)))))) refl (tt, tt) $
    exec ! 𝓣.C 𝓣.Λ (env (body E).locals l) (after 1 (body E).body) (at_ret _ (W.post y)) $ sets ! (of_opd ! (get ! refl)) refl (tt, tt) $
    rewrite ! 0 (Read s) (sym e) refl $ read E (handle_name E) p ! tt b o s $
    -- [the token; the value, shared; the other tokens]
    move ! (1 ∷ []) $ feq_i ! (List Val) (at ∷ []) (at ∷ []) refl $ fjoin ! $
    returns ! (look_at ! 0 refl) $ free_all ! refl $ keep ! (0 ∷ 1 ∷ 2 ∷ []) $
    suffices ! _ (ends_at 𝓛 (ended E) (stayed E) c y at (record { ref_ptr = (pb, po + field); now = x }) (tt, tt) (tt, tt)) $ says ! refl $
    nothing ! $ nothing ! $ fjoin ! $ join ! $ move ! (1 ∷ 2 ∷ []) $ join ! $ join ! $ done !))))
