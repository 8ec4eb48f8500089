use Rattle.std.proofs.Common.{◌≡◌, ◌==◌, ◌<◌, Bool, true, false, ◌-◌, ℕ, suc, arith, map, length, refl, sym, ap, ◌∙◌, subst, [], List, Vec, Global}
use Rattle.std.specs.List.{flat_map}
use Rattle.std.specs.Prelude.{if◌then◌else◌}
use Rattle.std.proofs.lemmas.List.{length-map}
use Rattle.lalrpop_norm_tree.specs.declared.items.GrammarItem.{GrammarItem}
use Rattle.lalrpop_norm_tree.specs.Symbols.{Part, symbol_view}
use Rattle.lalrpop_norm_tree.specs.Items.{GrammarData, item_view, grammar_view}
use Rattle.lalrpop_norm_faults.specs.declared.failure.NormFailure.{NormFailure}
use Rattle.lalrpop_norm_faults.specs.declared.failure.NormFailure.TheVariants.{Refused, Memory}
use Rattle.lalrpop_norm_faults.specs.Faults.{Fault, IsFirst}
use Rattle.lalrpop_norm_model.specs.Expanded.{rule_names}
use Rattle.lalrpop_norm_model.specs.PlainRules.{macros_of}
use Rattle.lalrpop_norm_nodes.specs.Meeting.{has_key}
use Rattle.lalrpop_norm_nodes.proofs.MeetingLemmas.{err_refuses}
use Rattle.lalrpop_norm_nodes.specs.declared.node.Nodes.{Nodes}
use Rattle.lalrpop_norm_nodes.specs.declared.table.Table.{Table}
use Rattle.lalrpop_norm_nodes.specs.declared.texts.Counter.{Counter}
use Rattle.lalrpop_norm_nodes.specs.Wholes.{wholes}
use Rattle.lalrpop_norm_nodes.specs.Tables.{wholes_in, own_in, seen_in, waiting_in, is_declared_in, IsCounted}
use Rattle.lalrpop_norm_macro_expand_rules.specs.Names.{is_declared_name, item_names}
use Rattle.lalrpop_norm_macro_expand_rules.specs.Items.{without_macro, macro_in}
use Rattle.lalrpop_norm_macro_expand_rules.specs.Macros.{macros_in}
use Rattle.lalrpop_norm_macro_expand_rules.proofs.NameLemmas.{rule_names_are}
use Rattle.lalrpop_norm_macro_expand.specs.Expansion.{past_cap}
use Rattle.lalrpop_norm_macro_expand.specs.Made.{made_view}
use Rattle.lalrpop_norm_macro_expand.proofs.MadeLemmas.{MadeSo, none_made, made_next, all_made}
use Rattle.lalrpop_norm_macro_expand.proofs.ItemsWithoutMacros.{macros_are}
use Rattle.lalrpop_norm_macro_expand.proofs.RoundLemmas.{AtRound, first_refused, first_round, taken, round_refused_so, round_next}
use Rattle.lalrpop_norm_macro_expand.proofs.LastRound.{cap_refused, last_round}
use Rattle.lalrpop_norm_macro_expand.proofs.macro_expand.expand_rounds.Goals as goal

pub rounds-init : goal.rounds-init
rounds-init c =
    let g : GrammarData = grammar_view c.args.grammar in
    let others : map item_view c.in_ok-others.others.items ≡ flat_map without_macro g.items =
    c.in_ok-others.ensures.others ∙ ap (λ (v : Vec GrammarItem Global). flat_map without_macro (map item_view v.items)) c.replace-items.ensures.value in
    let names : is_declared_in c.in_ok-table.table ≡ is_declared_name (rule_names g) =
    ap has_key c.in_ok-table.ensures.names ∙ c.in_ok-names.ensures
    ∙ ap (λ is. is_declared_name (flat_map item_names (map item_view is))) c.deref-2.ensures.value
    ∙ ap is_declared_name (rule_names_are g) in
    let same : 0 ≡ c.args.limit - c.args.limit = omega arith in
    record {
      grammar =
          ap (λ (v : Vec GrammarItem Global). record g { items = map item_view v.items }) c.replace-items.ensures.after
          ∙ ap (λ is. record g { items = map item_view is }) c.new.ensures.items;
      table = c.in_ok-done.ensures.meets.table;
      counted = c.in_ok-done.ensures.counted;
      names = ap has_key c.in_ok-done.ensures.meets.names ∙ names;
      bound = omega arith;
      rounds =
          subst (λ (k : ℕ). AtRound g c.args.limit c.args.limit k (seen_in c.read_items.new.table) (waiting_in c.read_items.new.table) (map item_view c.in_ok-done.done.items)) same
          (first_round g c.in_ok-table.table c.read_items.new.table (map item_view c.in_ok-others.others.items) others names c.in_ok-table.ensures.seen c.args.limit
          (map item_view c.in_ok-done.done.items) c.in_ok-table.ensures.waiting c.in_ok-done.ensures.meets c.in_ok-done.ensures.refuses c.in_ok-done.ensures.waits
          c.in_ok-done.ensures.value);
      made =
          subst (λ (k : ℕ). MadeSo g (wholes_in c.read_items.new.table) k (map made_view c.in_ok-made.made.items)) same
          (rw c.in_ok-made.ensures.items (none_made g (wholes_in c.read_items.new.table)));
    }

pub returns-in_err-done-clause-refuses : goal.returns-in_err-done-clause-refuses
returns-in_err-done-clause-refuses c =
    let g : GrammarData = grammar_view c.args.grammar in
    let others : map item_view c.in_ok-others.others.items ≡ flat_map without_macro g.items =
    c.in_ok-others.ensures.others ∙ ap (λ (v : Vec GrammarItem Global). flat_map without_macro (map item_view v.items)) c.replace-items.ensures.value in
    let names : is_declared_in c.in_ok-table.table ≡ is_declared_name (rule_names g) =
    ap has_key c.in_ok-table.ensures.names ∙ c.in_ok-names.ensures
    ∙ ap (λ is. is_declared_name (flat_map item_names (map item_view is))) c.deref-2.ensures.value
    ∙ ap is_declared_name (rule_names_are g) in
    err_refuses _ _ _ c.from_residual-in_err-done.ensures.1
    (first_refused g c.in_ok-table.table c.in_ok-table.table (map item_view c.in_ok-others.others.items) others names c.in_ok-table.ensures.seen c.args.limit _ c.in_err-done.ensures.refuses)

counted_still : (z a : Table) → a.made ≡ z.made → a.nodes ≡ z.nodes → IsCounted z → IsCounted a
counted_still z a made nodes h = ap (λ (m : Counter). m.count) made ∙ h ∙ ap (λ (ns : Nodes). length (flat_map own_in (wholes ns))) (sym nodes)

pub read_round-requires-clause-counted : goal.read_round-requires-clause-counted
read_round-requires-clause-counted c = counted_still c.rounds.table c.take_waiting-waiting.new.self c.take_waiting-waiting.ensures.counted c.take_waiting-waiting.ensures.nodes c.rounds.invariant.counted

pub read_round-requires-clause-waiting : goal.read_round-requires-clause-waiting
read_round-requires-clause-waiting c =
    (taken (grammar_view c.args.grammar) c.args.limit c.rounds.left (c.args.limit - c.rounds.left) c.rounds.table c.take_waiting-waiting.new.self c.take_waiting-waiting.result (map item_view c.rounds.done.items)
    c.rounds.invariant.rounds c.take_waiting-waiting.ensures.nodes c.take_waiting-waiting.ensures.waiting c.take_waiting-waiting.ensures.table c.take_waiting-waiting.ensures.numbered).making.waiting

zero_left : (left : ℕ) → (left == 0) ≡ true → left ≡ 0
zero_left left e = grind arith

-- what is first where a test holds
first_where : (fs all : List Fault) (e : NormFailure) (b : Bool) → (b ≡ true → all ≡ fs) → IsFirst (if b then fs else []) e → IsFirst all e
first_where fs all e true same h = subst (λ (gs : List Fault). IsFirst gs e) (sym (same refl)) h
first_where fs all (Refused r) false same h = absurd (cc h)
first_where fs all Memory false same h = tt

pub returns-then-branch : goal.returns-then-branch
returns-then-branch c =
    let t =
    taken (grammar_view c.args.grammar) c.args.limit c.rounds.left (c.args.limit - c.rounds.left) c.rounds.table c.take_waiting-waiting.new.self c.take_waiting-waiting.result (map item_view c.rounds.done.items)
    c.rounds.invariant.rounds c.take_waiting-waiting.ensures.nodes c.take_waiting-waiting.ensures.waiting c.take_waiting-waiting.ensures.table c.take_waiting-waiting.ensures.numbered in
    let none : map (λ w. symbol_view w.symbol) c.take_waiting-waiting.result.items ≡ [] =
    ap (map (λ w. symbol_view w.symbol)) (sym c.deref-in-rounds.ensures.value ∙ c.in_ok-is_ended.ensures.ended c.if-branch.true) in
    let last =
    last_round (grammar_view c.args.grammar) c.args.limit c.rounds.left (c.args.limit - c.rounds.left) (seen_in c.take_waiting-waiting.new.self) (map (λ w. symbol_view w.symbol) c.take_waiting-waiting.result.items) (map item_view c.rounds.done.items)
    t.round none (omega (arith, c.rounds.invariant.bound)) in
    record {
      refuses = last.faultless;
      whole = last.whole;
      plain =
          ap (λ (d : GrammarData). record d { items = map item_view c.rounds.done.items }) c.rounds.invariant.grammar
          ∙ ap (λ is. record (grammar_view c.args.grammar) { items = is }) last.items;
      made =
          all_made (grammar_view c.args.grammar) (wholes_in c.take_waiting-waiting.new.self) (c.args.limit - c.rounds.left) c.args.limit c.rounds.made.items
          (subst (λ (ns : Nodes). MadeSo (grammar_view c.args.grammar) (wholes ns) (c.args.limit - c.rounds.left) (map made_view c.rounds.made.items)) (sym c.take_waiting-waiting.ensures.nodes) c.rounds.invariant.made) last.stays;
      rounds = record { round = c.args.limit - c.rounds.left; number = c.round_after.ensures; ended = last.ended; first = t.round.earlier };
      table = c.take_waiting-waiting.ensures.table;
      counted = counted_still c.rounds.table c.take_waiting-waiting.new.self c.take_waiting-waiting.ensures.counted c.take_waiting-waiting.ensures.nodes c.rounds.invariant.counted;
      seen = last.long;
    }

pub returns-in_err-is_ended-clause-refuses : goal.returns-in_err-is_ended-clause-refuses
returns-in_err-is_ended-clause-refuses c =
    let t =
    taken (grammar_view c.args.grammar) c.args.limit c.rounds.left (c.args.limit - c.rounds.left) c.rounds.table c.take_waiting-waiting.new.self c.take_waiting-waiting.result (map item_view c.rounds.done.items)
    c.rounds.invariant.rounds c.take_waiting-waiting.ensures.nodes c.take_waiting-waiting.ensures.waiting c.take_waiting-waiting.ensures.table c.take_waiting-waiting.ensures.numbered in
    let waiting : List Part = map (λ w. symbol_view w.symbol) c.take_waiting-waiting.result.items in
    err_refuses _ _ _ c.from_residual-in_err-is_ended.ensures.1
    (first_where (past_cap waiting) _ _ (c.rounds.left == 0)
    (λ e. cap_refused (grammar_view c.args.grammar) c.args.limit c.rounds.left (c.args.limit - c.rounds.left) (seen_in c.take_waiting-waiting.new.self) waiting (map item_view c.rounds.done.items) t.round (zero_left c.rounds.left e))
    (rw c.deref-in-rounds.ensures.value at c.in_err-is_ended.ensures.refuses))

pub returns-in_err-read_round-clause-refuses : goal.returns-in_err-read_round-clause-refuses
returns-in_err-read_round-clause-refuses c =
    let are : macros_in c.in_ok-others.macros ≡ macros_of (grammar_view c.args.grammar) =
    c.in_ok-others.ensures.macros ∙ ap (λ (v : Vec GrammarItem Global). flat_map macro_in (map item_view v.items)) c.replace-items.ensures.value
    ∙ macros_are (grammar_view c.args.grammar).items in
    let names = ap has_key c.take_waiting-waiting.ensures.names ∙ c.rounds.invariant.names in
    let t =
    taken (grammar_view c.args.grammar) c.args.limit c.rounds.left (c.args.limit - c.rounds.left) c.rounds.table c.take_waiting-waiting.new.self c.take_waiting-waiting.result (map item_view c.rounds.done.items)
    c.rounds.invariant.rounds c.take_waiting-waiting.ensures.nodes c.take_waiting-waiting.ensures.waiting c.take_waiting-waiting.ensures.table c.take_waiting-waiting.ensures.numbered in
    let left : 0 < c.rounds.left = (c.in_ok-is_ended.ensures.goes_on c.if-branch.false).0 in
    let refused = rw are at c.in_err-read_round.ensures.refuses in
    err_refuses _ _ _ c.from_residual-in_err-read_round.ensures.1
    (round_refused_so (grammar_view c.args.grammar) c.args.limit c.rounds.left (c.rounds.left - 1) (c.args.limit - c.rounds.left) c.take_waiting-waiting.new.self c.take_waiting-waiting.new.self (seen_in c.take_waiting-waiting.new.self)
    c.take_waiting-waiting.result.items (map item_view c.rounds.done.items) (omega (arith, left)) t.round t.making names refl _ refused)

pub rounds-preserved : goal.rounds-preserved
rounds-preserved c =
    let are : macros_in c.in_ok-others.macros ≡ macros_of (grammar_view c.args.grammar) =
    c.in_ok-others.ensures.macros ∙ ap (λ (v : Vec GrammarItem Global). flat_map macro_in (map item_view v.items)) c.replace-items.ensures.value
    ∙ macros_are (grammar_view c.args.grammar).items in
    let names = ap has_key c.take_waiting-waiting.ensures.names ∙ c.rounds.invariant.names in
    let t =
    taken (grammar_view c.args.grammar) c.args.limit c.rounds.left (c.args.limit - c.rounds.left) c.rounds.table c.take_waiting-waiting.new.self c.take_waiting-waiting.result (map item_view c.rounds.done.items)
    c.rounds.invariant.rounds c.take_waiting-waiting.ensures.nodes c.take_waiting-waiting.ensures.waiting c.take_waiting-waiting.ensures.table c.take_waiting-waiting.ensures.numbered in
    let e = c.in_ok-read_round.ensures in
    let left : 0 < c.rounds.left = (c.in_ok-is_ended.ensures.goes_on c.if-branch.false).0 in
    let long : 0 < length c.take_waiting-waiting.result.items = rw c.deref-in-rounds.ensures.value at (c.in_ok-is_ended.ensures.goes_on c.if-branch.false).1 in
    let some : map (λ w. symbol_view w.symbol) c.take_waiting-waiting.result.items ≡ [] → ⊥ = λ f.
    omega (arith, ap length f, length-map c.take_waiting-waiting.result.items (λ w. symbol_view w.symbol), long) in
    let round : suc (c.args.limit - c.rounds.left) ≡ c.args.limit - (c.rounds.left - 1) = omega (arith, left, c.rounds.invariant.bound) in
    record {
      grammar = c.rounds.invariant.grammar;
      table = e.meets.table;
      counted = e.counted;
      names = ap has_key e.meets.names ∙ names;
      bound = omega (arith, c.rounds.invariant.bound);
      rounds =
          subst (λ (k : ℕ). AtRound (grammar_view c.args.grammar) c.args.limit (c.rounds.left - 1) k (seen_in c.read_round.new.table) (waiting_in c.read_round.new.table) (map item_view c.read_round.new.done.items)) round
          (round_next (grammar_view c.args.grammar) c.args.limit c.rounds.left (c.rounds.left - 1) (c.args.limit - c.rounds.left) c.take_waiting-waiting.new.self c.read_round.new.table (seen_in c.take_waiting-waiting.new.self)
          c.take_waiting-waiting.result.items (map item_view c.rounds.done.items) (omega (arith, left)) t.round t.making names refl (map item_view c.read_round.new.done.items) c.take_waiting-waiting.ensures.none some
          (rw are at e.meets) (rw are at e.refuses) (rw are at e.waits) (rw are at e.value));
      made =
          subst (λ (k : ℕ). MadeSo (grammar_view c.args.grammar) (wholes_in c.read_round.new.table) k (map made_view c.read_round.new.made.items)) round
          (made_next (grammar_view c.args.grammar) (wholes_in c.take_waiting-waiting.new.self) (wholes_in c.read_round.new.table) (c.args.limit - c.rounds.left) c.take_waiting-waiting.result.items
          t.making.new e.meets.grows (map made_view c.rounds.made.items) (map made_view c.read_round.new.made.items)
          (subst (λ (ns : Nodes). MadeSo (grammar_view c.args.grammar) (wholes ns) (c.args.limit - c.rounds.left) (map made_view c.rounds.made.items)) (sym c.take_waiting-waiting.ensures.nodes) c.rounds.invariant.made)
          (rw are at e.made));
    }
