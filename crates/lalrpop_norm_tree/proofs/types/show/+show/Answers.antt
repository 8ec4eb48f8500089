use Rattle.std.proofs.Common.{refl}
use Rattle.std.proofs.Output.{displays_on_ok_of_eq}
use Rattle.lalrpop_norm_tree_parts.proofs.WrittenLemmas.{not_written, then_last, then_then_last}
use Rattle.lalrpop_norm_tree.proofs.TypeViews.{slice_is, nominal_is, reference_is, object_is, lifetime_is, id_is, symbol_is}
use Rattle.lalrpop_norm_tree.proofs.WrittenTextLemmas.{tuple_printed, applied_written, function_written}
use Rattle.lalrpop_norm_tree.proofs.TypeSizes.{to_slice, to_nominal, to_referent, to_object}
use Rattle.lalrpop_norm_tree.proofs.types.show.+show.Goals as goal

pub TypeRefDisplay::fmt-returns-in-Tuple : goal.TypeRefDisplay::fmt-returns-in-Tuple
TypeRefDisplay::fmt-returns-in-Tuple g t c = record {
  writes = displays_on_ok_of_eq g.W.Write.write_str_gives _ _ _ _ _ (tuple_printed c.args.self.now c.in-Tuple.types c.in-Tuple.is) c.show_between.ensures;
  styled = tt;
}

pub TypeRefDisplay::fmt-returns-in_err-write_str-in-Slice : goal.TypeRefDisplay::fmt-returns-in_err-write_str-in-Slice
TypeRefDisplay::fmt-returns-in_err-write_str-in-Slice g t c = record {
  writes = not_written g.W.Write.write_str_gives _ _ _ _ c.from_residual.ensures.0;
  styled = tt;
}

pub TypeRefDisplay::fmt-returns-in_err-fmt-in-Slice : goal.TypeRefDisplay::fmt-returns-in_err-fmt-in-Slice
TypeRefDisplay::fmt-returns-in_err-fmt-in-Slice g t c = record {
  writes = not_written g.W.Write.write_str_gives _ _ _ _ c.from_residual-in_err-fmt-in-Slice.ensures.0;
  styled = tt;
}

pub TypeRefDisplay::fmt-returns-in_ok-fmt-in-Slice : goal.TypeRefDisplay::fmt-returns-in_ok-fmt-in-Slice
TypeRefDisplay::fmt-returns-in_ok-fmt-in-Slice g t c = record {
  writes = rw (slice_is c.args.self.now c.in-Slice.inner c.in-Slice.is, ← c.deref.ensures)
      (then_then_last g.W.Write.write_str_gives _ _ _ _ _ _ _ _ c.in_ok-write_str-in-Slice.ensures.writes c.in_ok-fmt-in-Slice.ensures.writes c.write_str-in-Slice.ensures.writes);
  styled = tt;
}

pub TypeRefDisplay::fmt-returns-in-Nominal : goal.TypeRefDisplay::fmt-returns-in-Nominal
TypeRefDisplay::fmt-returns-in-Nominal g t c = record {
  writes = rw (nominal_is c.args.self.now c.in-Nominal.path c.in-Nominal.types c.in-Nominal.is) c.show_applied.ensures;
  styled = tt;
}

pub TypeRefDisplay::fmt-returns-in_err-show_reference-in-Ref : goal.TypeRefDisplay::fmt-returns-in_err-show_reference-in-Ref
TypeRefDisplay::fmt-returns-in_err-show_reference-in-Ref g t c = record {
  writes = not_written g.W.Write.write_str_gives _ _ _ _ c.from_residual-in_err-show_reference-in-Ref.ensures.0;
  styled = tt;
}

pub TypeRefDisplay::fmt-returns-in_ok-show_reference-in-Ref : goal.TypeRefDisplay::fmt-returns-in_ok-show_reference-in-Ref
TypeRefDisplay::fmt-returns-in_ok-show_reference-in-Ref g t c = record {
  writes = rw (reference_is c.args.self.now c.in-Ref.lifetime c.in-Ref.mutable c.in-Ref.referent c.in-Ref.is, ← c.deref-in-Ref.ensures)
      (then_last g.W.Write.write_str_gives _ _ _ _ _ _ c.in_ok-show_reference-in-Ref.ensures c.fmt-in-Ref.ensures.writes);
  styled = tt;
}

pub TypeRefDisplay::fmt-returns-in_err-write_str-in-TraitObject : goal.TypeRefDisplay::fmt-returns-in_err-write_str-in-TraitObject
TypeRefDisplay::fmt-returns-in_err-write_str-in-TraitObject g t c = record {
  writes = not_written g.W.Write.write_str_gives _ _ _ _ c.from_residual-in_err-write_str-in-TraitObject.ensures.0;
  styled = tt;
}

pub TypeRefDisplay::fmt-returns-in_ok-write_str-in-TraitObject : goal.TypeRefDisplay::fmt-returns-in_ok-write_str-in-TraitObject
TypeRefDisplay::fmt-returns-in_ok-write_str-in-TraitObject g t c = record {
  writes = rw (object_is c.args.self.now c.in-TraitObject.path c.in-TraitObject.types c.in-TraitObject.is)
      (then_last g.W.Write.write_str_gives _ _ _ _ _ _ c.in_ok-write_str-in-TraitObject.ensures.writes c.show_applied-in-TraitObject.ensures);
  styled = tt;
}

pub TypeRefDisplay::fmt-returns-in-Lifetime : goal.TypeRefDisplay::fmt-returns-in-Lifetime
TypeRefDisplay::fmt-returns-in-Lifetime g t c = record {
  writes = rw (lifetime_is c.args.self.now c.in-Lifetime.lifetime c.in-Lifetime.is) c.fmt-in-Lifetime.ensures.writes;
  styled = tt;
}

pub TypeRefDisplay::fmt-returns-in-Id : goal.TypeRefDisplay::fmt-returns-in-Id
TypeRefDisplay::fmt-returns-in-Id g t c = record {
  writes = rw (id_is c.args.self.now c.in-Id.id c.in-Id.is) c.fmt-in-Id.ensures.writes;
  styled = tt;
}

pub TypeRefDisplay::fmt-returns-in-OfSymbol : goal.TypeRefDisplay::fmt-returns-in-OfSymbol
TypeRefDisplay::fmt-returns-in-OfSymbol g t c = record {
  writes = rw (symbol_is c.args.self.now c.in-OfSymbol.symbol c.in-OfSymbol.is) c.show_quoted.ensures;
  styled = tt;
}

pub TypeRefDisplay::fmt-returns-in_err-show_signature-in-Fn : goal.TypeRefDisplay::fmt-returns-in_err-show_signature-in-Fn
TypeRefDisplay::fmt-returns-in_err-show_signature-in-Fn g t c = record {
  writes = not_written g.W.Write.write_str_gives _ _ _ _ c.from_residual-in_err-show_signature-in-Fn.ensures.0;
  styled = tt;
}

pub TypeRefDisplay::fmt-returns-in_ok-show_signature-in-Fn : goal.TypeRefDisplay::fmt-returns-in_ok-show_signature-in-Fn
TypeRefDisplay::fmt-returns-in_ok-show_signature-in-Fn g t c = record {
  writes = function_written g.W.Write.write_str_gives _ _ _ _ c.args.self.now c.in-Fn.forall c.in-Fn.path c.in-Fn.parameters c.in-Fn.ret c.in-Fn.is
      c.in_ok-show_signature-in-Fn.ensures c.show_return.ensures;
  styled = tt;
}

pub show_applied-returns-in_err-fmt : goal.show_applied-returns-in_err-fmt
show_applied-returns-in_err-fmt g t c = not_written g.W.Write.write_str_gives _ _ _ _ c.from_residual.ensures.0

pub show_applied-returns : goal.show_applied-returns
show_applied-returns g t c = applied_written g.W.Write.write_str_gives _ _ _ _ c.args.path.now c.args.types.now c.in_ok-fmt.ensures.writes c.show_angled.ensures

pub TypeRefDisplay::fmt-show_applied-requires : goal.TypeRefDisplay::fmt-show_applied-requires
TypeRefDisplay::fmt-show_applied-requires g t c = λ κs out. (to_nominal t c.args.self.now c.in-Nominal.path c.in-Nominal.types _ c.in-Nominal.is refl c.decreases, out)

pub TypeRefDisplay::fmt-show_applied-requires-in-TraitObject : goal.TypeRefDisplay::fmt-show_applied-requires-in-TraitObject
TypeRefDisplay::fmt-show_applied-requires-in-TraitObject g t c = λ κs out. (to_object t c.args.self.now c.in-TraitObject.path c.in-TraitObject.types _ c.in-TraitObject.is refl c.decreases, out)

pub TypeRefDisplay::fmt-fmt-requires : goal.TypeRefDisplay::fmt-fmt-requires
TypeRefDisplay::fmt-fmt-requires g t c = λ κs out. (to_slice t c.args.self.now c.in-Slice.inner c.deref.result.now c.in-Slice.is c.deref.ensures c.decreases, out)

pub TypeRefDisplay::fmt-fmt-requires-in-Ref : goal.TypeRefDisplay::fmt-fmt-requires-in-Ref
TypeRefDisplay::fmt-fmt-requires-in-Ref g t c = λ κs out. (to_referent t c.args.self.now c.in-Ref.lifetime c.in-Ref.mutable c.in-Ref.referent c.deref-in-Ref.result.now c.in-Ref.is c.deref-in-Ref.ensures c.decreases, out)
