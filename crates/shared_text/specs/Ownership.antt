-- What a `Shared` owns and lends. Its pointer c is the address of a `Node`: a count, an allocator of the row A, and a value of
-- the row T, in this order.
use Rattle.std.specs.Prelude.{ℕ, ◌+◌, []}
use Rattle.std.specs.Borrow.{u64}
use base.Fraction.{full_share}
use base.Fml.{Lft, Key, Fml, fsep, fex, fwand}
use mir.Syntax.{Ty, w64, ty_int, ty_struct, tcons, tnil}
use mir.Raw.{raw}
use prog.Memory.{size, align, up}
use denote.RattleType.{RattleType}
use denote.Memory.{lone}
use denote.RawPtr.{Ptr, block_of, count_of, lies_at, room_for, ◌+ₚ◌}
use denote.Struct.Lending.{lent_at}
use Rattle.shared_text.specs.Counting.{owner, lent}

-- the key of the invariant
abbrev pub key_of : Ptr → Key
key_of c = (block_of c, count_of c)

abbrev pub count_at : Ptr → ℕ → Fml
count_at c n = lies_at u64 full_share (c +ₚ 0) n

module _ (A T : RattleType) where
  -- a `Node` as the machine has it
  abbrev pub node : Ty
  node = ty_struct [] (tcons (ty_int w64) (tcons (raw (lone A.mir)) (tcons (raw (lone T.mir)) tnil)))

  -- where the allocator begins, and the value: each after the field before it, at the next multiple of its alignment
  abbrev pub allocator_begins : ℕ
  allocator_begins = up (align (lone A.mir)) 8

  abbrev pub value_begins : ℕ
  value_begins = up (align (lone T.mir)) (allocator_begins + size (lone A.mir))

  abbrev pub value_at : Ptr → T.Denot → Fml
  value_at c x = lies_at T full_share (c +ₚ value_begins) x

  -- room for each of the three fields is room for a `Node`
  abbrev pub is_one_block : Ptr → Fml
  is_one_block c =
      fwand (fsep (room_for (ty_int w64) (c +ₚ 0))
      (fsep (room_for (raw (lone A.mir)) (c +ₚ allocator_begins))
      (room_for (raw (lone T.mir)) (c +ₚ value_begins)))) (room_for node c)

  module _ (may_free : A.Denot → Ty → Ptr → Fml) (c : Ptr) where
    -- the allocator h, and its right to free the block
    abbrev pub frees_by : A.Denot → Fml
    frees_by h = fsep (lies_at A full_share (c +ₚ allocator_begins) h) (fsep (may_free h node c) (is_one_block c))

    abbrev pub content : T.Denot → Fml
    content x = fsep (value_at c x) (fex A.Denot frees_by)

    -- what a `&` to the value holds
    abbrev pub value_seen : T.Denot → Lft → Fml
    value_seen x = lent_at T (c +ₚ value_begins) x

    abbrev pub shared_owns : T.Denot → Fml
    shared_owns x = owner (key_of c) (count_at c) (content x) (value_seen x)

    abbrev pub shared_lends : T.Denot → Lft → Fml
    shared_lends x = lent (key_of c) (count_at c) (content x) (value_seen x)
