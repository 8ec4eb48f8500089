-- What is in the grammar with levels reads as the bounded symbols with the names of their levels.
use Rattle.std.proofs.Common.{◌≡◌, ℕ, ◌+◌, List, Option, Bool, true, false, refl, sym, ap, ap₂, ◌∙◌}
use Rattle.std.specs.Prelude.{if◌then◌else◌}
use Rattle.std.proofs.lemmas.Bool.{and_parts}
use Rattle.lalrpop_norm_tree_names.specs.declared.names.NonterminalString.{NonterminalString}
use Rattle.lalrpop_norm_tree.specs.declared.symbol.RepeatOp.{RepeatOp}
use Rattle.lalrpop_norm_tree.specs.declared.symbol.RepeatOp.TheVariants.{Star, Plus, Question, Times}
use Rattle.lalrpop_norm_tree.specs.Symbols as written
use Rattle.lalrpop_norm_tree.specs.Symbols.{Kind, Part, Parts, at, no_parts, part_and}
use Rattle.lalrpop_norm_theory.specs.Symbols.{Name, chosen, named, tuple, ClosedSymbol, call, group, wrapped, symbol_and}
use Rattle.lalrpop_norm_theory.specs.Leveled.{leveled_symbol, leveled_symbols}
use Rattle.lalrpop_norm_model.specs.Scopes.{Sense, resolved_kind, resolved_part, resolved_parts}
use Rattle.lalrpop_norm_model.specs.WrittenRules.{WrittenRule}
use Rattle.lalrpop_norm_model.specs.Occurrences.{count_part, count_parts}
use Rattle.lalrpop_norm_model.specs.Reading.{Reader, closed_patterns_of, repeat_of, read_name, read_kind, read_part, read_parts}
use Rattle.lalrpop_norm_model.specs.Scoped.{is_scoped_kind, is_scoped, are_scoped}
use Rattle.lalrpop_norm_model.specs.LevelRules.{leveled_kind, leveled_part, leveled_parts, level_nonterminal}
use Rattle.lalrpop_norm_model.proofs.ScopeLemmas.{scoped_inside}

repeat_leveled : (l : Name → ℕ → Name) (op : RepeatOp) (x : ClosedSymbol) → leveled_symbol l (repeat_of op x) ≡ repeat_of op (leveled_symbol l x)
repeat_leveled l Star x = refl
repeat_leveled l Plus x = refl
repeat_leveled l Question x = refl
repeat_leveled l (Times n) x = refl

-- one of two names as a symbol
pub one_name : (x : Bool) (m n : Name) → (if x then written.nonterminal m else written.nonterminal n) ≡ written.nonterminal (if x then m else n)
one_name true m n = refl
one_name false m n = refl

-- the name of a rule has nothing to resolve
pub name_settled : (sense : Name → Option Sense) (x : Bool) (m n : Name) →
    resolved_kind sense (if x then written.nonterminal m else written.nonterminal n) ≡ (if x then written.nonterminal m else written.nonterminal n)
name_settled sense true m n = refl
name_settled sense false m n = refl

-- R reads the symbols with bounds, Q what the grammar with levels has in their place
module _ (rs : List WrittenRule) (args : List NonterminalString) (l : Name → ℕ → Name) (R Q : Reader) (level : ℕ → ℕ → Name)
    (same : (n : Name) (before after b a : ℕ) →
    leveled_symbol l (read_name R before after n) ≡ read_name Q b a (if R.is_own n then level before after else n)) where
  mutual
    kind_leveled : (before after b a : ℕ) (k : Kind) → is_scoped_kind rs args k ≡ true →
        leveled_symbol l (read_kind R before after k) ≡ read_kind Q b a (leveled_kind R.is_own (level_nonterminal level) before after k)
    kind_leveled before after b a (written.nonterminal n) h =
        same n before after b a ∙ ap (read_kind Q b a) (sym (one_name (R.is_own n) (level before after) n))
    kind_leveled before after b a (written.ambiguous_id n) h = absurd (cc h)
    kind_leveled before after b a (written.group ps) h = ap group (parts_leveled before after b a ps h)
    kind_leveled before after b a (written.call n ps) h =
        ap (call n) (parts_leveled before after b a ps (scoped_inside rs args (written.call n ps) h))
    kind_leveled before after b a (written.repeated op p) h =
        repeat_leveled l op (read_part R before after p) ∙ ap (repeat_of op) (part_leveled before after b a p h)
    kind_leveled before after b a (written.chosen p) h = ap (wrapped chosen) (part_leveled before after b a p h)
    kind_leveled before after b a (written.named n p) h = ap (wrapped (named n.mutable n.name)) (part_leveled before after b a p h)
    kind_leveled before after b a (written.tupled ns p) h = ap (wrapped (tuple (closed_patterns_of ns))) (part_leveled before after b a p h)
    kind_leveled before after b a _ h = refl

    part_leveled : (before after b a : ℕ) (p : Part) → is_scoped rs args p ≡ true →
        leveled_symbol l (read_part R before after p) ≡ read_part Q b a (leveled_part R.is_own (level_nonterminal level) before after p)
    part_leveled before after b a (at s k) h = kind_leveled before after b a k h

    pub parts_leveled : (before after b a : ℕ) (ps : Parts) → are_scoped rs args ps ≡ true →
        leveled_symbols l (read_parts R before after ps) ≡ read_parts Q b a (leveled_parts R.is_own (level_nonterminal level) before after ps)
    parts_leveled before after b a no_parts h = refl
    parts_leveled before after b a (part_and p ps) h =
        let both = and_parts (is_scoped rs args p) (are_scoped rs args ps) h in
        ap₂ symbol_and
        (part_leveled before (after + count_parts R.is_own ps) b
        (a + count_parts Q.is_own (leveled_parts R.is_own (level_nonterminal level) (before + count_part R.is_own p) after ps)) p both.0)
        (parts_leveled (before + count_part R.is_own p) after
        (b + count_part Q.is_own (leveled_part R.is_own (level_nonterminal level) before (after + count_parts R.is_own ps) p)) a ps both.1)

-- where each recursive occurrence becomes its own name, nothing changes
module _ (own : Name → Bool) (level : ℕ → ℕ → Kind) (same : (n : Name) (before after : ℕ) → own n ≡ true → level before after ≡ written.nonterminal n) where
  unchanged_name : (n : Name) (before after : ℕ) (b : Bool) → own n ≡ b → (if b then level before after else written.nonterminal n) ≡ written.nonterminal n
  unchanged_name n before after true e = same n before after e
  unchanged_name n before after false e = refl

  mutual
    kind_unchanged : (before after : ℕ) (k : Kind) → leveled_kind own level before after k ≡ k
    kind_unchanged before after (written.nonterminal n) = unchanged_name n before after (own n) refl
    kind_unchanged before after (written.group ps) = ap written.group (parts_unchanged before after ps)
    kind_unchanged before after (written.call n ps) = ap (written.call n) (parts_unchanged before after ps)
    kind_unchanged before after (written.repeated op p) = ap (written.repeated op) (part_unchanged before after p)
    kind_unchanged before after (written.chosen p) = ap written.chosen (part_unchanged before after p)
    kind_unchanged before after (written.named n p) = ap (written.named n) (part_unchanged before after p)
    kind_unchanged before after (written.tupled ns p) = ap (written.tupled ns) (part_unchanged before after p)
    kind_unchanged before after _ = refl

    part_unchanged : (before after : ℕ) (p : Part) → leveled_part own level before after p ≡ p
    part_unchanged before after (at s k) = ap (at s) (kind_unchanged before after k)

    pub parts_unchanged : (before after : ℕ) (ps : Parts) → leveled_parts own level before after ps ≡ ps
    parts_unchanged before after no_parts = refl
    parts_unchanged before after (part_and p ps) =
        ap₂ part_and (part_unchanged before (after + count_parts own ps) p) (parts_unchanged (before + count_part own p) after ps)

pub parts_kept : (own : Name → Bool) (level : ℕ → ℕ → Name) → ((n : Name) (before after : ℕ) → own n ≡ true → level before after ≡ n) →
    (before after : ℕ) (ps : Parts) → leveled_parts own (level_nonterminal level) before after ps ≡ ps
parts_kept own level same = parts_unchanged own (level_nonterminal level) (λ n before after e. ap written.nonterminal (same n before after e))

-- where each name has a meaning there is nothing left to resolve, also once recursive occurrences have the names of their levels
module _ (rs : List WrittenRule) (args : List NonterminalString) (sense : Name → Option Sense) (own : Name → Bool) (level : ℕ → ℕ → Name) where
  mutual
    kind_settled : (before after : ℕ) (k : Kind) → is_scoped_kind rs args k ≡ true →
        resolved_kind sense (leveled_kind own (level_nonterminal level) before after k) ≡ leveled_kind own (level_nonterminal level) before after k
    kind_settled before after (written.nonterminal n) h = name_settled sense (own n) (level before after) n
    kind_settled before after (written.ambiguous_id n) h = absurd (cc h)
    kind_settled before after (written.group ps) h = ap written.group (parts_settled before after ps h)
    kind_settled before after (written.call n ps) h =
        ap (written.call n) (parts_settled before after ps (scoped_inside rs args (written.call n ps) h))
    kind_settled before after (written.repeated op p) h = ap (written.repeated op) (part_settled before after p h)
    kind_settled before after (written.chosen p) h = ap written.chosen (part_settled before after p h)
    kind_settled before after (written.named n p) h = ap (written.named n) (part_settled before after p h)
    kind_settled before after (written.tupled ns p) h = ap (written.tupled ns) (part_settled before after p h)
    kind_settled before after _ h = refl

    part_settled : (before after : ℕ) (p : Part) → is_scoped rs args p ≡ true →
        resolved_part sense (leveled_part own (level_nonterminal level) before after p) ≡ leveled_part own (level_nonterminal level) before after p
    part_settled before after (at s k) h = ap (at s) (kind_settled before after k h)

    pub parts_settled : (before after : ℕ) (ps : Parts) → are_scoped rs args ps ≡ true →
        resolved_parts sense (leveled_parts own (level_nonterminal level) before after ps) ≡ leveled_parts own (level_nonterminal level) before after ps
    parts_settled before after no_parts h = refl
    parts_settled before after (part_and p ps) h =
        let both = and_parts (is_scoped rs args p) (are_scoped rs args ps) h in
        ap₂ part_and (part_settled before (after + count_parts own ps) p both.0) (parts_settled (before + count_part own p) after ps both.1)
