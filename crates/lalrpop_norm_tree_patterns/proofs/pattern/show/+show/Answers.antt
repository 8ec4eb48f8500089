use Rattle.std.proofs.Common.{◌≡◌, ◌==◌, ◌++◌, true, false, length, rules, codes, Some}
use Rattle.std.proofs.Output.{displays_on_ok_of_eq}
use Rattle.lalrpop_norm_tree_parts.specs.KnownTexts.{joined_known}
use Rattle.lalrpop_norm_tree_patterns.specs.Patterns.{fields_view}
use Rattle.lalrpop_norm_tree_patterns.specs.PatternTexts.{field_texts, rest_texts}
use Rattle.lalrpop_norm_tree_parts.proofs.KnownTextLemmas.{written_then, known_then}
use Rattle.lalrpop_norm_tree_patterns.proofs.PatternSizes.{shows_kind, shows_pattern, shows_enum, shows_struct, shows_tuple, shows_tuple_struct, one_less, two_less}
use Rattle.lalrpop_norm_tree_patterns.proofs.PatternTextLemmas.{texts_of_patterns, texts_of_fields, rest_behind, text_of_pattern, text_of_field, text_of_enum, text_of_struct, text_of_path, text_of_tuple, text_of_tuple_struct, text_of_number, text_of_underscore, text_of_dot_dot, text_of_chosen, text_of_character, text_of_string}
use Rattle.lalrpop_norm_tree_patterns.proofs.pattern.show.+show.Goals as goal

pub show_applied-returns : goal.show_applied-returns
show_applied-returns g t c =
    written_then g.W.Write.write_str_gives c.args.f.now _ _ c.show_patterns.result _ _ c.in_ok-fmt.ensures.writes c.show_patterns.ensures

pub show_patterns-returns : goal.show_patterns-returns
show_patterns-returns g t c = rw (texts_of_patterns g.T.Display.output c.args.patterns.now.items) at c.show_between.ensures

pub show_fields-returns : goal.show_fields-returns
show_fields-returns g t c = rw (texts_of_fields g.T.Display.output c.args.fields.now.items) at c.show_joined.ensures

pub show_fields_and_rest-returns-else-is_empty : goal.show_fields_and_rest-returns-else-is_empty
show_fields_and_rest-returns-else-is_empty g t c =
    let took = g.W.Write.write_str_gives in
    let output = g.T.Display.output in
    let fields = c.args.fields.now.items in
    let kept : c.args.rest ≡ true = search (rules, c.if-not-rest) in
    let some : (length fields == 0) ≡ false = cc in
    displays_on_ok_of_eq took c.args.f.now _ c.write_str-else-is_empty.result _ _ (rest_behind output fields c.args.rest kept some)
    (known_then took c.args.f.now _ _ c.write_str-else-is_empty.result (joined_known (codes ", ") (field_texts (fields_view output fields))) (Some (codes ", .."))
    c.in_ok-show_fields.ensures c.write_str-else-is_empty.ensures.writes)

pub show_struct-returns : goal.show_struct-returns
show_struct-returns g t c =
    let took = g.W.Write.write_str_gives in
    let r = c.write_str-2.result in
    let inside = joined_known (codes ", ") (field_texts (fields_view g.T.Display.output c.args.fields.now.items) ++ rest_texts c.args.rest) in
    written_then took c.args.f.now _ _ r _ _ c.in_ok-fmt.ensures.writes
    (written_then took c.fmt.new.f _ _ r _ _ c.in_ok-write_str.ensures.writes
    (known_then took c.write_str.new.self _ _ r inside (Some (codes " }")) c.in_ok-show_fields_and_rest.ensures c.write_str-2.ensures.writes))

pub PatternKindDisplay::fmt-returns-in-Enum : goal.PatternKindDisplay::fmt-returns-in-Enum
PatternKindDisplay::fmt-returns-in-Enum g t c = record {
  writes = displays_on_ok_of_eq g.W.Write.write_str_gives c.args.f.now _ c.show_applied.result _ _ (text_of_enum g.T.Display.output c.args.self.now _ _ c.in-Enum.is) c.show_applied.ensures;
  styled = tt;
}

pub PatternKindDisplay::fmt-returns-in-Struct : goal.PatternKindDisplay::fmt-returns-in-Struct
PatternKindDisplay::fmt-returns-in-Struct g t c = record {
  writes = displays_on_ok_of_eq g.W.Write.write_str_gives c.args.f.now _ c.show_struct.result _ _ (text_of_struct g.T.Display.output c.args.self.now _ _ _ c.in-Struct.is) c.show_struct.ensures;
  styled = tt;
}

pub PatternKindDisplay::fmt-returns-in-Path : goal.PatternKindDisplay::fmt-returns-in-Path
PatternKindDisplay::fmt-returns-in-Path g t c = record {
  writes = displays_on_ok_of_eq g.W.Write.write_str_gives c.args.f.now _ c.fmt.result _ _ (text_of_path g.T.Display.output c.args.self.now _ c.in-Path.is) c.fmt.ensures.writes;
  styled = tt;
}

pub PatternKindDisplay::fmt-returns-in-Tuple : goal.PatternKindDisplay::fmt-returns-in-Tuple
PatternKindDisplay::fmt-returns-in-Tuple g t c = record {
  writes = displays_on_ok_of_eq g.W.Write.write_str_gives c.args.f.now _ c.show_patterns.result _ _ (text_of_tuple g.T.Display.output c.args.self.now _ c.in-Tuple.is) c.show_patterns.ensures;
  styled = tt;
}

pub PatternKindDisplay::fmt-returns-in-TupleStruct : goal.PatternKindDisplay::fmt-returns-in-TupleStruct
PatternKindDisplay::fmt-returns-in-TupleStruct g t c = record {
  writes = displays_on_ok_of_eq g.W.Write.write_str_gives c.args.f.now _ c.show_applied-in-TupleStruct.result _ _ (text_of_tuple_struct g.T.Display.output c.args.self.now _ _ c.in-TupleStruct.is) c.show_applied-in-TupleStruct.ensures;
  styled = tt;
}

pub PatternKindDisplay::fmt-returns-in-Usize : goal.PatternKindDisplay::fmt-returns-in-Usize
PatternKindDisplay::fmt-returns-in-Usize g t c = record {
  writes = displays_on_ok_of_eq g.W.Write.write_str_gives c.args.f.now _ c.fmt-in-Usize.result _ _ (text_of_number g.T.Display.output c.args.self.now _ c.in-Usize.is) c.fmt-in-Usize.ensures.writes;
  styled = tt;
}

pub PatternKindDisplay::fmt-returns-in-Underscore : goal.PatternKindDisplay::fmt-returns-in-Underscore
PatternKindDisplay::fmt-returns-in-Underscore g t c = record {
  writes = displays_on_ok_of_eq g.W.Write.write_str_gives c.args.f.now _ c.write_str.result _ _ (text_of_underscore g.T.Display.output c.args.self.now c.in-Underscore.is) c.write_str.ensures.writes;
  styled = tt;
}

pub PatternKindDisplay::fmt-returns-in-DotDot : goal.PatternKindDisplay::fmt-returns-in-DotDot
PatternKindDisplay::fmt-returns-in-DotDot g t c = record {
  writes = displays_on_ok_of_eq g.W.Write.write_str_gives c.args.f.now _ c.write_str-in-DotDot.result _ _ (text_of_dot_dot g.T.Display.output c.args.self.now c.in-DotDot.is) c.write_str-in-DotDot.ensures.writes;
  styled = tt;
}

pub PatternKindDisplay::fmt-returns-in-Choose : goal.PatternKindDisplay::fmt-returns-in-Choose
PatternKindDisplay::fmt-returns-in-Choose g t c = record {
  writes = displays_on_ok_of_eq g.W.Write.write_str_gives c.args.f.now _ c.fmt-in-Choose.result _ _ (text_of_chosen g.T.Display.output c.args.self.now _ c.in-Choose.is) c.fmt-in-Choose.ensures.writes;
  styled = tt;
}

pub PatternKindDisplay::fmt-returns-in-CharLiteral : goal.PatternKindDisplay::fmt-returns-in-CharLiteral
PatternKindDisplay::fmt-returns-in-CharLiteral g t c = record {
  writes = displays_on_ok_of_eq g.W.Write.write_str_gives c.args.f.now _ c.show_character.result _ _ (text_of_character g.T.Display.output c.args.self.now _ c.in-CharLiteral.is) c.show_character.ensures;
  styled = tt;
}

pub PatternKindDisplay::fmt-returns-in-String : goal.PatternKindDisplay::fmt-returns-in-String
PatternKindDisplay::fmt-returns-in-String g t c = record {
  writes = displays_on_ok_of_eq g.W.Write.write_str_gives c.args.f.now _ c.show_string.result _ _ (text_of_string g.T.Display.output c.args.self.now _ _ c.in-String.is c.deref.ensures) c.show_string.ensures;
  styled = tt;
}

pub PatternDisplay::fmt-returns : goal.PatternDisplay::fmt-returns
PatternDisplay::fmt-returns g t c = record {
  writes = displays_on_ok_of_eq g.W.Write.write_str_gives c.args.f.now _ c.fmt.result _ _ (text_of_pattern g.T.Display.output c.args.self.now) c.fmt.ensures.writes;
  styled = tt;
}

pub FieldPatternDisplay::fmt-returns : goal.FieldPatternDisplay::fmt-returns
FieldPatternDisplay::fmt-returns g t c =
    let took = g.W.Write.write_str_gives in
    let r = c.fmt-2.result in
    record {
      writes = displays_on_ok_of_eq took c.args.f.now _ r _ _ (text_of_field g.T.Display.output c.args.self.now)
          (written_then took c.args.f.now _ _ r _ _ c.in_ok-fmt.ensures.writes
          (written_then took c.fmt.new.f _ _ r _ _ c.in_ok-write_str.ensures.writes c.fmt-2.ensures.writes));
      styled = tt;
    }

pub PatternDisplay::fmt-fmt-requires : goal.PatternDisplay::fmt-fmt-requires
PatternDisplay::fmt-fmt-requires g t c = λ κs out. (shows_kind t c.args.self.now c.decreases, out)

pub FieldPatternDisplay::fmt-fmt-requires-2 : goal.FieldPatternDisplay::fmt-fmt-requires-2
FieldPatternDisplay::fmt-fmt-requires-2 g t c = λ κs out. (shows_pattern t c.args.self.now c.decreases, out)

pub PatternKindDisplay::fmt-show_applied-requires : goal.PatternKindDisplay::fmt-show_applied-requires
PatternKindDisplay::fmt-show_applied-requires g t c = λ κs out. (shows_enum t _ _ _ c.in-Enum.is c.decreases, out)

pub PatternKindDisplay::fmt-show_struct-requires : goal.PatternKindDisplay::fmt-show_struct-requires
PatternKindDisplay::fmt-show_struct-requires g t c = λ κs out. (shows_struct t _ _ _ _ c.in-Struct.is c.decreases, out)

pub PatternKindDisplay::fmt-show_patterns-requires : goal.PatternKindDisplay::fmt-show_patterns-requires
PatternKindDisplay::fmt-show_patterns-requires g t c = λ κs out. (shows_tuple t _ _ c.in-Tuple.is c.decreases, out)

pub PatternKindDisplay::fmt-show_applied-requires-in-TupleStruct : goal.PatternKindDisplay::fmt-show_applied-requires-in-TupleStruct
PatternKindDisplay::fmt-show_applied-requires-in-TupleStruct g t c = λ κs out. (shows_tuple_struct t _ _ _ c.in-TupleStruct.is c.decreases, out)

pub show_applied-show_patterns-requires : goal.show_applied-show_patterns-requires
show_applied-show_patterns-requires g t c = λ κs out. (one_less _ t c.decreases, out)

pub show_struct-show_fields_and_rest-requires : goal.show_struct-show_fields_and_rest-requires
show_struct-show_fields_and_rest-requires g t c = λ κs out. (two_less _ t c.decreases, out)

pub show_fields_and_rest-show_fields-requires : goal.show_fields_and_rest-show_fields-requires
show_fields_and_rest-show_fields-requires g t c = λ κs out. (one_less _ t c.decreases, out)
