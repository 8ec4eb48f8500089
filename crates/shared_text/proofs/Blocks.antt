-- The block of a `Shared`, in its three fields. Assumes `Logic`.
--     filled      a block that was just written is a count of 1 and the content
--     emptied     the content is taken apart into the cells of the allocator and of the value, and what these two own
--     vacated     the cells, once nothing in them is owned, are room for a block
use mathlib.Core.Path.{◌≡◌, refl}
use Prim.Native.Nat.{ℕ, ◌+◌}
use mathlib.Core.List.{List, [], ◌∷◌}
use seplogic.Ra.Ura.{Ura}
use base.Fraction.{full_share}
use mir.Syntax.{Ty, Tys, Sym, w64, ty_int, ty_struct, tcons, tnil}
use mir.Val.{Val, Vals, vint, vstruct, vcons, vnil}
use mir.Raw.{raw as bare}
use base.Logic.{SProp, ent, sep, all, wand, via, mono_r, apply∗}
use base.Fml.{Fml, ftrue, fat, froom}
use contract.Monad.{conj_r}
use denote.Plain.{uint_in}
use prog.Model.{fields_at, rooms_at}
use types.Logic.{Logic, sem}
use types.Kit.{Item, Goal, Seq, Step, step, ‵, raw, some, given, ◌⊛◌, ◌$◌, ◌∵◌, !, qed, by, move, keep, use1, use2, pick, learn, group, split, split3, frame, assume, fsplit, fsplit3, fjoin3, fpick, fpack, rewrite, done}
use denote.Memory.{part_at}
use denote.RawPtr.{Ptr, block_ptr}
use denote.Steps.{nothing}
use borrow.Table.OneValue.{part_in, part_out}
use Rattle.std.proofs.alloc.Calls.{α, token, Fits}
use Rattle.std_alloc.proofs.BoxSteps.Form.{Bx, X, τ, own, R, P}
use Rattle.std_alloc.proofs.BoxSteps.Steps.{el_in, el_out}
use Rattle.std_alloc.proofs.RawLayout.{as_raw, as_written}
use Rattle.std_alloc.proofs.RcSteps.{Good}
use Rattle.shared_text.specs.Ownership.{count_at, node, allocator_begins, value_begins, is_one_block, frees_by}
use Rattle.shared_text.proofs.Owners.{Content, count_cell}

module _ (E : Bx) where
  abbrev pub block_type : Ty
  block_type = node (P E) (R E)

  abbrev pub field_types : Tys
  field_types = tcons (ty_int w64) (tcons (α E.al) (tcons (τ E) tnil))

  abbrev pub new_fields : Val → Val → Vals
  new_fields hv v = vcons (vint w64 1) (vcons hv (vcons v vnil))

  -- the fields of the block at b and o
  module _ (b o : ℕ) where
    abbrev pub allocator_cell : Val → Fml
    allocator_cell hv = fat full_share (α E.al) b (o + allocator_begins (P E) (R E)) hv

    abbrev pub value_cell : Val → Fml
    value_cell v = fat full_share (τ E) b (o + value_begins (P E) (R E)) v

    abbrev pub count_room : Fml
    count_room = froom (ty_int w64) b (o + 0)

    abbrev pub allocator_room : Fml
    allocator_room = froom (bare (α E.al)) b (o + allocator_begins (P E) (R E))

    abbrev pub value_room : Fml
    value_room = froom (bare (τ E)) b (o + value_begins (P E) (R E))

    abbrev pub one_block : Fml
    one_block = is_one_block (P E) (R E) (block_ptr b o)

module _ (E : Bx) {M : Type 1} {𝓤 : Ura M} (𝓛 : Logic 𝓤) (ν : Sym) (b o : ℕ) where
  open 𝓛 use {H}

  abbrev written : Ty
  written = ty_struct ν (field_types E)

  -- room for each field is room for the whole
  abbrev Rejoins : SProp 𝓤
  Rejoins = wand 𝓤 (rooms_at 𝓤 H (field_types E) 0 b o) (H.room written b o)

  fields_of : (vs : Vals) → ent 𝓤 (H.at full_share written b o (vstruct vs)) (sep 𝓤 (fields_at 𝓤 H full_share (field_types E) 0 b o vs) Rejoins)
  fields_of vs =
      let refills : SProp 𝓤 = all 𝓤 (λ (us : Vals). wand 𝓤 (fields_at 𝓤 H full_share (field_types E) 0 b o us) (H.at full_share written b o (vstruct us))) in
      via 𝓤 _ (𝓛.laws.at_fields_free ν (field_types E) b o vs) (mono_r 𝓤 (fields_at 𝓤 H full_share (field_types E) 0 b o vs) (conj_r 𝓤 refills Rejoins))

  rejoins : ent 𝓤 Rejoins (sem 𝓛 (one_block E b o))
  rejoins = qed 𝓛 (raw Rejoins ∷ []) ∵ assume ! (‵ (count_room E b o) ⊛ ‵ (allocator_room E b o) ⊛ ‵ (value_room E b o)) $ split3 ! $
      move ! (1 ∷ []) $ as_written ! (α E.al) b (o + allocator_begins (P E) (R E)) $ move ! (2 ∷ []) $ as_written ! (τ E) b (o + value_begins (P E) (R E)) $
      -- [room for the value; for the allocator; for the count; the way to the whole]
      nothing ! $ move ! (3 ∷ 2 ∷ 1 ∷ 0 ∷ []) $ group ! 4 $ use2 𝓛 (‵ (froom written b o)) (apply∗ 𝓤 (rooms_at 𝓤 H (field_types E) 0 b o) (H.room written b o)) $ by ! (𝓛.laws.room-raw written b o)

  module _ (h : E.al.row.Denot) (x : X E) (hv v : Val) where
    abbrev pub Written : List (Item 𝓤)
    Written = ‵ (fat full_share written b o (vstruct (new_fields E hv v))) ∷ ‵ (token E.al h (block_type E) (block_ptr b o)) ∷ ‵ (E.al.row.own_val h (hv ∷ [])) ∷ ‵ (own E x (v ∷ [])) ∷ []

    pub filled : ent 𝓤 (sep 𝓤 (H.at full_share written b o (vstruct (new_fields E hv v))) (sep 𝓤 (sem 𝓛 (token E.al h (block_type E) (block_ptr b o))) (sep 𝓤 (sem 𝓛 (E.al.row.own_val h (hv ∷ []))) (sem 𝓛 (own E x (v ∷ []))))))
        (sep 𝓤 (sem 𝓛 (count_at (block_ptr b o) 1)) (sem 𝓛 (Content E (block_ptr b o) x)))
    filled = qed 𝓛 Written ∵ use1 𝓛 ((‵ (count_cell b o 1) ⊛ ‵ (allocator_cell E b o hv) ⊛ ‵ (value_cell E b o v) ⊛ ‵ ftrue) ⊛ raw Rejoins) (fields_of (new_fields E hv v)) $ split ! $ split3 ! $
        use1 𝓛 (‵ (count_at (block_ptr b o) 1)) (uint_in 𝓛 full_share w64 1 b (o + 0)) $ frame ! $
        -- [the allocator's cell; the value's, and nothing; the way to the whole; the right to free; what the allocator owns; what the value owns]
        move ! (1 ∷ []) $ split ! $ move ! (0 ∷ 6 ∷ []) $ use2 𝓛 (‵ (part_at (R E) full_share x b (o + value_begins (P E) (R E)))) (el_in E 𝓛 x b (o + value_begins (P E) (R E)) v) $ frame ! $
        -- [nothing; the allocator's cell; the way to the whole; the right to free; what the allocator owns]
        move ! (1 ∷ 4 ∷ []) $ use2 𝓛 (‵ (part_at (P E) full_share h b (o + allocator_begins (P E) (R E)))) (part_in 𝓛 (P E) refl full_share h b (o + allocator_begins (P E) (R E)) hv) $
        move ! (2 ∷ []) $ use1 𝓛 (‵ (one_block E b o)) rejoins $ move ! (1 ∷ 3 ∷ 0 ∷ []) $ fjoin3 ! $ fpack ! E.al.row.Denot (frees_by (P E) (R E) (token E.al) (block_ptr b o)) h $ keep ! (0 ∷ []) $ done !

module _ (E : Bx) (b o : ℕ) {M : Type 1} {𝓤 : Ura M} {𝓛 : Logic 𝓤} {K : Type 0} {Γ : List (Item 𝓤)} {G : Goal 𝓤 𝓛.H} where
  pub emptied : K → (c : Ptr) (x : X E) → c ≡ block_ptr b o
      → ((h : E.al.row.Denot) (hv v : Val) → Fits E.al hv → Good (τ E) v → Seq K 𝓛 (‵ (allocator_cell E b o hv) ∷ ‵ (value_cell E b o v) ∷ ‵ (one_block E b o)
      ∷ ‵ (token E.al h (block_type E) (block_ptr b o)) ∷ ‵ (E.al.row.own_val h (hv ∷ [])) ∷ ‵ (own E x (v ∷ [])) ∷ Γ) G)
      → Seq K 𝓛 (‵ (Content E c x) ∷ Γ) G
  emptied t c x e k =
      rewrite t 0 (λ (r : Ptr). ‵ (Content E r x)) e refl $ fsplit t $
      use1 𝓛 (some (λ (v : Val). given (Good (τ E) v) (‵ (value_cell E b o v) ⊛ ‵ (own E x (v ∷ []))))) (el_out E 𝓛 x b (o + value_begins (P E) (R E))) $ pick t (λ v. learn t (λ good. split t $
      -- [the value's cell; what it owns; what frees the block]
      move t (2 ∷ []) $ fpick t (λ h. fsplit3 t $
      use1 𝓛 (some (λ (hv : Val). ‵ (allocator_cell E b o hv) ⊛ ‵ (E.al.row.own_val h (hv ∷ [])))) (part_out 𝓛 (P E) refl full_share h b (o + allocator_begins (P E) (R E))) $ pick t (λ hv. split t $
      use1 𝓛 (given (Fits E.al hv) (‵ (allocator_cell E b o hv))) (𝓛.laws.at_wt full_share (α E.al) b (o + allocator_begins (P E) (R E)) hv) $ learn t (λ fits.
      -- [the allocator's cell; what it owns; the right to free; the way to the whole; the value's cell; what it owns]
      move t (0 ∷ 4 ∷ 3 ∷ 2 ∷ 1 ∷ 5 ∷ []) $ k h hv v fits good)))))

  pub vacated : K → (n : ℕ) (hv v : Val) → Step K 𝓛 (‵ (froom (block_type E) b o) ∷ Γ) G (‵ (count_cell b o n) ∷ ‵ (allocator_cell E b o hv) ∷ ‵ (value_cell E b o v) ∷ ‵ (one_block E b o) ∷ Γ) G
  vacated t n hv v = step (λ next.
      move t (2 ∷ []) $ use1 𝓛 (‵ (froom (τ E) b (o + value_begins (P E) (R E)))) (𝓛.laws.at_room (τ E) b (o + value_begins (P E) (R E)) v) $ as_raw t (τ E) b (o + value_begins (P E) (R E)) $
      move t (2 ∷ []) $ use1 𝓛 (‵ (froom (α E.al) b (o + allocator_begins (P E) (R E)))) (𝓛.laws.at_room (α E.al) b (o + allocator_begins (P E) (R E)) hv) $ as_raw t (α E.al) b (o + allocator_begins (P E) (R E)) $
      move t (2 ∷ []) $ use1 𝓛 (‵ (count_room E b o)) (𝓛.laws.at_room (ty_int w64) b (o + 0) (vint w64 n)) $
      -- [room for the count; for the allocator; for the value; the way to the whole]
      group t 3 $ use2 𝓛 (‵ (froom (block_type E) b o)) (apply∗ 𝓤 (sep 𝓤 (sem 𝓛 (count_room E b o)) (sep 𝓤 (sem 𝓛 (allocator_room E b o)) (sem 𝓛 (value_room E b o)))) (𝓛.H.room (block_type E) b o)) $ next)
