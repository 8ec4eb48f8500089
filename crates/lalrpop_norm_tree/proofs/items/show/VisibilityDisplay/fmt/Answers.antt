use Rattle.std.proofs.Common.{◌≡◌, ◌++◌, Option, Some, None, codes, refl}
use Rattle.std.proofs.Output.{displays_on_ok_of_eq, writes_in_calls_nil}
use Rattle.lalrpop_norm_tree.specs.declared.items.Visibility.{Visibility}
use Rattle.lalrpop_norm_tree.specs.declared.items.Visibility.TheVariants.{Pub}
use Rattle.lalrpop_norm_tree.specs.Items.{visibility_view}
use Rattle.lalrpop_norm_tree.specs.VisibilityTexts.{visibility_text}
use Rattle.lalrpop_norm_tree_parts.specs.declared.path.Path.{Path}
use Rattle.lalrpop_norm_tree_parts.proofs.WrittenLemmas.{not_written, then_then_last}
use Rattle.lalrpop_norm_tree.proofs.items.show.VisibilityDisplay.fmt.Goals as goal

nothing_within : (v : Visibility) (o : Option Path) → v ≡ Pub o → o ≡ None → Some (codes "pub ") ≡ Some (visibility_text (visibility_view v))
nothing_within v o is none = rw (is, none) refl

pub returns-in-Pub-None : goal.returns-in-Pub-None
returns-in-Pub-None g c =
    let none = rw (c.in-Pub-None.is) at c.in-Pub-None.field-0-is in
    record {
      writes = displays_on_ok_of_eq g.W.Write.write_str_gives c.args.f.now _ c.write_str.result _ _ (nothing_within c.args.self.now c.in-Pub-None.field-0 c.in-Pub-None.is none) c.write_str.ensures.writes;
      styled = tt;
    }

pub returns-in_err-write_str-in-Pub-Some : goal.returns-in_err-write_str-in-Pub-Some
returns-in_err-write_str-in-Pub-Some g c = record {
  writes = not_written g.W.Write.write_str_gives _ _ _ _ c.from_residual.ensures.0;
  styled = tt;
}

pub returns-in_err-fmt-in-Pub-Some : goal.returns-in_err-fmt-in-Pub-Some
returns-in_err-fmt-in-Pub-Some g c = record {
  writes = not_written g.W.Write.write_str_gives _ _ _ _ c.from_residual-in_err-fmt-in-Pub-Some.ensures.0;
  styled = tt;
}

pub returns-in_err-write_str-in-PubIn : goal.returns-in_err-write_str-in-PubIn
returns-in_err-write_str-in-PubIn g c = record {
  writes = not_written g.W.Write.write_str_gives _ _ _ _ c.from_residual-in_err-write_str-in-PubIn.ensures.0;
  styled = tt;
}

pub returns-in_err-fmt-in-PubIn : goal.returns-in_err-fmt-in-PubIn
returns-in_err-fmt-in-PubIn g c = record {
  writes = not_written g.W.Write.write_str_gives _ _ _ _ c.from_residual-in_err-fmt-in-PubIn.ensures.0;
  styled = tt;
}

pub returns-in_ok-fmt-in-PubIn : goal.returns-in_ok-fmt-in-PubIn
returns-in_ok-fmt-in-PubIn g c = record {
  writes = rw (c.in-PubIn.is) (then_then_last g.W.Write.write_str_gives _ _ _ _ _ _ _ _ c.in_ok-write_str-in-PubIn.ensures.writes c.in_ok-fmt-in-PubIn.ensures.writes c.write_str-in-PubIn-2.ensures.writes);
  styled = tt;
}

pub returns-in-Priv : goal.returns-in-Priv
returns-in-Priv g c = record {
  writes = rw (c.in-Priv.is) (λ plain ok. record { wrote = writes_in_calls_nil g.W.Write.write_str_gives _; plain = plain });
  styled = tt;
}
