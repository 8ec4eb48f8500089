use Rattle.std.proofs.Common.{◌≡◌, ◌++◌, ◌∷◌, [], ◌<◌, map, length, ap, ◌∙◌, Some, None, cond, bytes_eq, ℕ, List, Option, arith, nat_cmp}
use Rattle.std.specs.Cmp.Lexicographic.{slice_cmp}
use Rattle.std.specs.BTreeMap.{get}
use Rattle.std.proofs.lemmas.List.{length-map, length-append, map-append}
use Rattle.std.proofs.lemmas.List.Elements.{All-push, All-same}
use Rattle.lalrpop_norm_tree.specs.Accessors.{or_else}
use Rattle.lalrpop_norm_tree.specs.Items.{RuleData, rule_view}
use Rattle.lalrpop_norm_macro_expand_rules.specs.declared.macros.NumberedMacro.{NumberedMacro}
use Rattle.lalrpop_norm_macro_expand_rules.specs.Macros.{macro_place, HasNumbers}
use Rattle.lalrpop_norm_macro_expand_rules.proofs.MacroLemmas.{finds_more, range_more}
use Rattle.lalrpop_norm_macro_expand_rules.proofs.macros.Macros.add.Goals as goal

pub returns-clause-named : goal.returns-clause-named
returns-clause-named c =
    let view : NumberedMacro → RuleData = λ m. rule_view m.definition in
    let rs : List NumberedMacro = c.args.self.now.rules.items in
    let ds : List RuleData = map view rs in
    let m : NumberedMacro = record { definition = c.args.definition; numbers = c.in_ok-numbers.numbers } in
    let d : RuleData = view m in
    let old : List ℕ → Option ℕ = macro_place c.args.self.now in
    let new : List ℕ → Option ℕ = λ n. get (slice_cmp nat_cmp) c.note.new.places n in
    let long : length ds ≡ length rs = length-map rs view in
    let place : c.len-place.result ≡ length ds = omega (arith, c.args.self.now.rules.ok.0, c.len-place.ensures, long) in
    let range : (n : List ℕ) (i : ℕ) → old n ≡ Some i → i < length ds = λ n i e. rw long (c.requires.in_range n i e) in
    let noted : (n : List ℕ) → new n ≡ or_else (old n) (cond (bytes_eq d.name.0 n) (Some (length ds)) None) =
    λ n. c.in_ok-note.ensures n ∙ ap (λ k. or_else (old n) (cond (bytes_eq d.name.0 n) (Some k) None)) place in
    let views : map view c.push.new.self.items ≡ ds ++ d ∷ [] = ap (map view) c.in_ok-push.ensures.items ∙ map-append view rs (m ∷ []) in
    record {
      finds = λ n. rw views (finds_more old new ds d c.requires.finds range noted n);
      in_range = λ n i e. omega (arith, range_more old new (length ds) d.name.0 range noted n i e, ap length c.in_ok-push.ensures.items, length-append rs (m ∷ []), long);
      numbered = All-same HasNumbers c.push.new.self.items (rs ++ m ∷ []) c.in_ok-push.ensures.items
          (All-push HasNumbers rs m c.requires.numbered (rw c.deref.ensures.value at c.in_ok-numbers.ensures));
    }
