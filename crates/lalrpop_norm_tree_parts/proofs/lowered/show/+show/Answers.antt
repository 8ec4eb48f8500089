use Rattle.std.proofs.Output.{displays_on_ok_of_eq}
use Rattle.lalrpop_norm_tree_parts.proofs.KnownTextLemmas.{written_then}
use Rattle.lalrpop_norm_tree_parts.proofs.ReprTextLemmas.{tuple_printed, applied_printed, function_written}
use Rattle.lalrpop_norm_tree_parts.proofs.ReprSeen.{slice_seen, associated_seen, lifetime_seen, reference_seen, object_seen}
use Rattle.lalrpop_norm_tree_parts.proofs.ReprViews.{view_nominal}
use Rattle.lalrpop_norm_tree_parts.proofs.WrittenLemmas.{not_written, then_last, then_then_last}
use Rattle.lalrpop_norm_tree_parts.proofs.lowered.show.+show.Goals as goal

pub TypeReprDisplay::fmt-returns-in-Tuple : goal.TypeReprDisplay::fmt-returns-in-Tuple
TypeReprDisplay::fmt-returns-in-Tuple g t c = record {
  writes = displays_on_ok_of_eq g.W.Write.write_str_gives _ _ _ _ _ (tuple_printed c.args.self.now c.in-Tuple.types c.in-Tuple.is) c.show_between.ensures;
  styled = tt;
}

pub TypeReprDisplay::fmt-returns-in-Slice : goal.TypeReprDisplay::fmt-returns-in-Slice
TypeReprDisplay::fmt-returns-in-Slice g t c = record {
  writes = rw (c.in-Slice.is, slice_seen c.in-Slice.inner, ← c.deref.ensures) c.show_slice.ensures;
  styled = tt;
}

pub TypeReprDisplay::fmt-returns-in-Nominal : goal.TypeReprDisplay::fmt-returns-in-Nominal
TypeReprDisplay::fmt-returns-in-Nominal g t c = record {
  writes = rw (c.in-Nominal.is, view_nominal c.in-Nominal.nominal) c.fmt.ensures.writes;
  styled = tt;
}

pub TypeReprDisplay::fmt-returns-in-Associated : goal.TypeReprDisplay::fmt-returns-in-Associated
TypeReprDisplay::fmt-returns-in-Associated g t c = record {
  writes = rw (c.in-Associated.is, associated_seen c.in-Associated.type_parameter c.in-Associated.id) c.show_associated.ensures;
  styled = tt;
}

pub TypeReprDisplay::fmt-returns-in-Lifetime : goal.TypeReprDisplay::fmt-returns-in-Lifetime
TypeReprDisplay::fmt-returns-in-Lifetime g t c = record {
  writes = rw (c.in-Lifetime.is, lifetime_seen c.in-Lifetime.lifetime) c.fmt-in-Lifetime.ensures.writes;
  styled = tt;
}

pub TypeReprDisplay::fmt-returns-in-Ref : goal.TypeReprDisplay::fmt-returns-in-Ref
TypeReprDisplay::fmt-returns-in-Ref g t c = record {
  writes = rw (c.in-Ref.is, reference_seen c.in-Ref.lifetime c.in-Ref.mutable c.in-Ref.referent, ← c.deref-in-Ref.ensures) c.show_referent.ensures;
  styled = tt;
}

pub TypeReprDisplay::fmt-returns-in-TraitObject : goal.TypeReprDisplay::fmt-returns-in-TraitObject
TypeReprDisplay::fmt-returns-in-TraitObject g t c = record {
  writes = rw (c.in-TraitObject.is, object_seen c.in-TraitObject.nominal) c.show_trait_object.ensures;
  styled = tt;
}

pub TypeReprDisplay::fmt-returns-in_err-show_signature-in-Fn : goal.TypeReprDisplay::fmt-returns-in_err-show_signature-in-Fn
TypeReprDisplay::fmt-returns-in_err-show_signature-in-Fn g t c = record {
  writes = not_written g.W.Write.write_str_gives _ _ _ _ c.from_residual.ensures.0;
  styled = tt;
}

pub TypeReprDisplay::fmt-returns-in_ok-show_signature-in-Fn : goal.TypeReprDisplay::fmt-returns-in_ok-show_signature-in-Fn
TypeReprDisplay::fmt-returns-in_ok-show_signature-in-Fn g t c = record {
  writes = function_written g.W.Write.write_str_gives _ _ _ _ c.args.self.now c.in-Fn.forall c.in-Fn.path c.in-Fn.parameters c.in-Fn.ret c.in-Fn.is
      c.in_ok-show_signature-in-Fn.ensures c.show_return.ensures;
  styled = tt;
}

pub NominalTypeReprDisplay::fmt-returns-in_err-fmt : goal.NominalTypeReprDisplay::fmt-returns-in_err-fmt
NominalTypeReprDisplay::fmt-returns-in_err-fmt g t c = record {
  writes = not_written g.W.Write.write_str_gives _ _ _ _ c.from_residual.ensures.0;
  styled = tt;
}

pub NominalTypeReprDisplay::fmt-returns : goal.NominalTypeReprDisplay::fmt-returns
NominalTypeReprDisplay::fmt-returns g t c =
    let took = g.W.Write.write_str_gives in
    let r = c.show_angled.result in
    record {
      writes = displays_on_ok_of_eq took c.args.f.now c.show_angled.new.f r _ _ (applied_printed c.args.self.now)
          (written_then took c.args.f.now _ c.show_angled.new.f r _ _ c.in_ok-fmt.ensures.writes c.show_angled.ensures);
      styled = tt;
    }

pub show_slice-returns-in_err-write_str : goal.show_slice-returns-in_err-write_str
show_slice-returns-in_err-write_str g t c = not_written g.W.Write.write_str_gives _ _ _ _ c.from_residual.ensures.0

pub show_slice-returns-in_err-fmt : goal.show_slice-returns-in_err-fmt
show_slice-returns-in_err-fmt g t c = not_written g.W.Write.write_str_gives _ _ _ _ c.from_residual-in_err-fmt.ensures.0

pub show_referent-returns-in_err-show_reference : goal.show_referent-returns-in_err-show_reference
show_referent-returns-in_err-show_reference g t c = not_written g.W.Write.write_str_gives _ _ _ _ c.from_residual.ensures.0

pub show_trait_object-returns-in_err-write_str : goal.show_trait_object-returns-in_err-write_str
show_trait_object-returns-in_err-write_str g t c = not_written g.W.Write.write_str_gives _ _ _ _ c.from_residual.ensures.0

pub show_slice-returns : goal.show_slice-returns
show_slice-returns g t c = then_then_last g.W.Write.write_str_gives _ _ _ _ _ _ _ _ c.in_ok-write_str.ensures.writes c.in_ok-fmt.ensures.writes c.write_str-2.ensures.writes

pub show_referent-returns : goal.show_referent-returns
show_referent-returns g t c = then_last g.W.Write.write_str_gives _ _ _ _ _ _ c.in_ok-show_reference.ensures c.fmt.ensures.writes

pub show_trait_object-returns : goal.show_trait_object-returns
show_trait_object-returns g t c = then_last g.W.Write.write_str_gives _ _ _ _ _ _ c.in_ok-write_str.ensures.writes c.fmt.ensures.writes
