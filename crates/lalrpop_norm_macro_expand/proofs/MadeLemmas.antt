-- The symbols that were desugared, round by round, are those of the definition.
use Rattle.std.proofs.Common.{◌≡◌, ℕ, suc, List, [], ◌∷◌, ◌++◌, Option, Some, None, cond, map, reverse, refl, sym, ap, ap₂, ◌∙◌}
use Rattle.std.specs.Prelude.{⊤}
use Rattle.std.proofs.lemmas.List.{map-append}
use Rattle.lalrpop_norm_tree_names.specs.declared.names.NonterminalString.{NonterminalString}
use Rattle.lalrpop_norm_tree.specs.Symbols.{Kind, Part, Parts, call, at}
use Rattle.lalrpop_norm_tree.specs.Items.{AlternativeData, RuleData, GrammarData}
use Rattle.lalrpop_norm_conditions.specs.Conditions.{comparison}
use Rattle.lalrpop_norm_model.specs.MadeRules.{macro_named}
use Rattle.lalrpop_norm_model.specs.PlainRules.{macros_of, expansion_round, made_symbols}
use Rattle.lalrpop_norm_model.specs.Replaced.{all_replaced}
use Rattle.lalrpop_norm_nodes.specs.Apart.{nowhere, unplaced}
use Rattle.lalrpop_norm_nodes.specs.declared.table.Waiting.{Waiting}
use Rattle.lalrpop_norm_nodes.specs.NodeParts.{AreWaiting}
use Rattle.lalrpop_norm_nodes.specs.Waits.{parts_replaced}
use Rattle.lalrpop_norm_nodes.specs.Wholes.{Whole, kind_at, part_at, as_kind, IsKind, Grows}
use Rattle.lalrpop_norm_nodes.proofs.RowItems.{stands_later, is_kind}
use Rattle.lalrpop_norm_nodes.proofs.ShallowConditions.{condition_replaced}
use Rattle.lalrpop_norm_macro_expand.specs.declared.macro_expand.make.MadeSymbol.{MadeSymbol}
use Rattle.lalrpop_norm_macro_expand.specs.Kept.{kept_places, kept_by, kept_by_call}
use Rattle.lalrpop_norm_macro_expand.specs.Made.{made_view, made_for, AreMade}
use Rattle.lalrpop_norm_macro_expand.proofs.WaitingLists.{waiting_back}

-- ---- what a call keeps, its parts replaced or not

places_replaced : (params : List NonterminalString) (ps : Parts) (i : ℕ) (xs : List AlternativeData) →
    kept_places comparison params (all_replaced ps) i xs ≡ kept_places comparison params ps i xs
places_replaced params ps i [] = refl
places_replaced params ps i (a ∷ xs) =
    ap₂ (λ b (ns : List ℕ). cond b (i ∷ []) [] ++ ns) (condition_replaced comparison params ps a.condition) (places_replaced params ps (suc i) xs)

call_replaced : (o : Option RuleData) (ps : Parts) → kept_by_call comparison o (all_replaced ps) ≡ kept_by_call comparison o ps
call_replaced None ps = refl
call_replaced (Some d) ps = places_replaced d.args ps 0 d.alternatives

pub kept_replaced : (macros : List RuleData) (p : Part) → kept_by comparison macros (parts_replaced p) ≡ kept_by comparison macros p
kept_replaced macros (at s (call n ps)) = call_replaced (macro_named macros n) ps
kept_replaced macros (at s _) = refl

-- ---- ids that stand for symbols

abbrev pub AllStand : List Whole → List (ℕ × List ℕ) → Type 0
AllStand ws [] = ⊤
AllStand ws (v ∷ vs) = IsKind ws v.0 × AllStand ws vs

stand_both : (ws : List Whole) (us vs : List (ℕ × List ℕ)) → AllStand ws us → AllStand ws vs → AllStand ws (us ++ vs)
stand_both ws [] vs h k = k
stand_both ws (u ∷ us) vs h k = (h.0, stand_both ws us vs h.1 k)

waiting_stand : (macros : List RuleData) (ws : List Whole) (xs : List Waiting) → AreWaiting ws xs → AllStand ws (map (made_for macros) xs)
waiting_stand macros ws [] h = tt
waiting_stand macros ws (x ∷ xs) h = (h.0.1.stands, waiting_stand macros ws xs h.1)

module _ (ws vs : List Whole) (grows : Grows ws vs) where
  kind_stays : (n : ℕ) → IsKind ws n → kind_at vs n ≡ kind_at ws n
  kind_stays n h = ap as_kind (stands_later ws vs n _ grows h)

  stand_later : (us : List (ℕ × List ℕ)) → AllStand ws us → AllStand vs us
  stand_later [] h = tt
  stand_later (u ∷ us) h = (is_kind vs u.0 (kind_at ws u.0) (stands_later ws vs u.0 _ grows h.0), stand_later us h.1)

  parts_later : (us : List (ℕ × List ℕ)) → AllStand ws us → map (λ u. part_at vs u.0) us ≡ map (λ u. part_at ws u.0) us
  parts_later [] h = refl
  parts_later (u ∷ us) h = ap₂ (λ (k : Kind) (ps : List Part). at nowhere k ∷ ps) (kind_stays u.0 h.0) (parts_later us h.1)

-- ---- round by round

module _ (g : GrammarData) where
  pub record MadeSo (ws : List Whole) (k : ℕ) (vs : List (ℕ × List ℕ)) : Type 0 where
    pub stand : AllStand ws vs
    pub symbols : map (λ v. part_at ws v.0) vs ≡ map unplaced (made_symbols comparison g k)
    pub kept : map (λ v. v.1) vs ≡ map (kept_by comparison (macros_of g)) (made_symbols comparison g k)

  pub none_made : (ws : List Whole) → MadeSo ws 0 []
  none_made ws = record { stand = tt; symbols = refl; kept = refl }

  -- what is on the worklist, by its ids, is what is new
  pub record NewOnes (ws : List Whole) (k : ℕ) (xs : List Waiting) : Type 0 where
    pub waiting : AreWaiting ws xs
    pub symbols : map (λ w. part_at ws w.number) (reverse xs) ≡ map unplaced (reverse (expansion_round comparison g k).fresh)
    pub kept : map (λ w. (made_for (macros_of g) w).1) (reverse xs) ≡ map (kept_by comparison (macros_of g)) (reverse (expansion_round comparison g k).fresh)

  mapped : {A B C : Type 0} (f : B → C) (h : A → B) (xs : List A) → map f (map h xs) ≡ map (λ x. f (h x)) xs
  mapped f h [] = refl
  mapped f h (x ∷ xs) = ap (λ ys. f (h x) ∷ ys) (mapped f h xs)

  module _ (ws us : List Whole) (k : ℕ) (xs : List Waiting) (new : NewOnes ws k xs) (grows : Grows ws us) where
    abbrev added : List (ℕ × List ℕ)
    added = map (made_for (macros_of g)) (reverse xs)

    pub made_next : (vs later : List (ℕ × List ℕ)) → MadeSo ws k vs → later ≡ vs ++ added → MadeSo us (suc k) later
    made_next vs later h e =
        let stand : AllStand ws (vs ++ added) = stand_both ws vs added h.stand (waiting_stand (macros_of g) ws (reverse xs) (waiting_back ws xs new.waiting)) in
        rw e (record {
          stand = stand_later ws us grows (vs ++ added) stand;
          symbols =
              parts_later ws us grows (vs ++ added) stand
              ∙ map-append (λ (v : ℕ × List ℕ). part_at ws v.0) vs added
              ∙ ap₂ ◌++◌ h.symbols (mapped (λ (v : ℕ × List ℕ). part_at ws v.0) (made_for (macros_of g)) (reverse xs) ∙ new.symbols)
              ∙ sym (map-append unplaced (made_symbols comparison g k) (reverse (expansion_round comparison g k).fresh));
          kept =
              map-append (λ (v : ℕ × List ℕ). v.1) vs added
              ∙ ap₂ ◌++◌ h.kept (mapped (λ (v : ℕ × List ℕ). v.1) (made_for (macros_of g)) (reverse xs) ∙ new.kept)
              ∙ sym (map-append (kept_by comparison (macros_of g)) (made_symbols comparison g k) (reverse (expansion_round comparison g k).fresh));
        })

  -- at the end
  pub all_made : (ws : List Whole) (k limit : ℕ) (ms : List MadeSymbol) → MadeSo ws k (map made_view ms) → made_symbols comparison g limit ≡ made_symbols comparison g k → AreMade ws g limit ms
  all_made ws k limit ms h e = record {
    symbols = sym (mapped (λ (v : ℕ × List ℕ). part_at ws v.0) made_view ms) ∙ h.symbols ∙ ap (map unplaced) (sym e);
    kept = sym (mapped (λ (v : ℕ × List ℕ). v.1) made_view ms) ∙ h.kept ∙ ap (map (kept_by comparison (macros_of g))) (sym e);
  }
