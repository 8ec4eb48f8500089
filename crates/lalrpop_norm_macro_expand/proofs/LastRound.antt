-- The last round: it reaches nothing new, or no further round is allowed.
use Rattle.std.proofs.Common.{◌≡◌, ℕ, zero, suc, ◌+◌, List, [], ◌∷◌, ◌++◌, length, map, reverse, refl, sym, ap, ap₂, ◌∙◌, arith, append-nil}
use Rattle.std.specs.Prelude.{flat_map}
use Rattle.std.proofs.lemmas.List.{length-append, length-map, length-reverse}
use Rattle.lalrpop_norm_tree.specs.Symbols.{Part, at}
use Rattle.lalrpop_norm_tree.specs.Items.{RuleData, ItemData, GrammarData}
use Rattle.lalrpop_norm_theory.specs.Rounds.{Round, fresh_of}
use Rattle.lalrpop_norm_model.specs.MadeRules.{made_rules}
use Rattle.lalrpop_norm_model.specs.Expanded.{rule_names}
use Rattle.lalrpop_norm_model.specs.PlainRules.{met_by_made, macros_of, same_apart_from_spans, expansion_round, made_symbols, IsEnded, plain_item, plain_grammar}
use Rattle.lalrpop_norm_conditions.specs.Conditions.{comparison}
use Rattle.lalrpop_norm_nodes.specs.Apart.{unplaced}
use Rattle.lalrpop_norm_nodes.specs.Waits.{parts_replaced}
use Rattle.lalrpop_norm_macro_expand.specs.Expansion.{shared_names, met_before, shared_in, unmade, past_cap, faults_from, expansion_faults}
use Rattle.lalrpop_norm_macro_expand.proofs.ItemsWithoutMacros.{replaced_rules}
use Rattle.lalrpop_norm_macro_expand.proofs.RoundLemmas.{faults_after, AtRound}

module _ (g : GrammarData) where
  abbrev make : Part → List RuleData
  make = made_rules comparison (macros_of g)

  abbrev round : ℕ → Round Part
  round k = expansion_round comparison g k

  -- ---- F36

  past_cap_replaced : (xs : List Part) → past_cap (map parts_replaced xs) ≡ past_cap xs
  past_cap_replaced [] = refl
  past_cap_replaced (at s i ∷ []) = refl
  past_cap_replaced (x ∷ y ∷ xs) = past_cap_replaced (y ∷ xs)

  pub cap_refused : (limit left k : ℕ) (seen waiting : List Part) (done : List ItemData) → AtRound g limit left k seen waiting done → left ≡ 0 →
      expansion_faults comparison g limit ≡ past_cap waiting
  cap_refused limit left k seen waiting done h e =
      h.rest ∙ ap (faults_after g k) e ∙ sym (past_cap_replaced (round k).fresh) ∙ ap past_cap (sym h.waits)

  -- ---- the last round

  next_none : (k : ℕ) → (round k).fresh ≡ [] → (round (suc k)).fresh ≡ []
  next_none k e = ap (λ xs. fresh_of same_apart_from_spans ((round k).seen ++ (round k).fresh) (flat_map (met_by_made comparison (macros_of g)) (reverse xs))) e

  pub fresh_stays : (k n m : ℕ) → m ≡ k + n → (round k).fresh ≡ [] → (round m).fresh ≡ []
  fresh_stays k zero m e h = let same : m ≡ k = omega arith in ap (λ j. (round j).fresh) same ∙ h
  fresh_stays k (suc n) m e h = fresh_stays (suc k) n m (omega arith) (next_none k h)

  pub made_stays : (k n m : ℕ) → m ≡ k + n → (round k).fresh ≡ [] → made_symbols comparison g m ≡ made_symbols comparison g k
  made_stays k zero m e h = let same : m ≡ k = omega arith in ap (made_symbols comparison g) same
  made_stays k (suc n) m e h =
      made_stays (suc k) n m (omega arith) (next_none k h)
      ∙ ap (λ xs. made_symbols comparison g k ++ reverse xs) h
      ∙ append-nil (made_symbols comparison g k)

  pub quiet_end : (k left : ℕ) → (round k).fresh ≡ [] → shared_in comparison g k ≡ [] → faults_from comparison g k left ≡ []
  quiet_end k zero h none_shared = ap₂ ◌++◌ none_shared (ap past_cap h)
  quiet_end k (suc left) h none_shared =
      ap₂ ◌++◌ none_shared
      (ap₂ ◌++◌ (ap (λ xs. flat_map (unmade (macros_of g)) (reverse xs)) h)
      (quiet_end (suc k) left (next_none k h)
      (ap (λ xs. shared_names (rule_names g) (met_before comparison g (suc k)) (flat_map (met_by_made comparison (macros_of g)) (reverse xs))) h)))

  faults_end : (k left : ℕ) → (round k).fresh ≡ [] → faults_after g k left ≡ []
  faults_end k zero h = ap past_cap h
  faults_end k (suc left) h =
      ap₂ ◌++◌ (ap (λ xs. flat_map (unmade (macros_of g)) (reverse xs)) h)
      (quiet_end (suc k) left (next_none k h)
      (ap (λ xs. shared_names (rule_names g) (met_before comparison g (suc k)) (flat_map (met_by_made comparison (macros_of g)) (reverse xs))) h))

  made_long : (k : ℕ) → length (made_symbols comparison g k) ≡ length (round k).seen
  made_long zero = refl
  made_long (suc k) =
      length-append (made_symbols comparison g k) (reverse (round k).fresh)
      ∙ ap₂ ◌+◌ (made_long k) (length-reverse (round k).fresh)
      ∙ sym (length-append (round k).seen (round k).fresh)

  pub record IsDone (limit k : ℕ) (seen : List Part) (made : List ItemData) : Type 0 where
    pub faultless : expansion_faults comparison g limit ≡ []
    pub whole : IsEnded comparison g limit
    pub items : made ≡ (plain_grammar comparison g limit).items
    pub ended : IsEnded comparison g k
    pub long : length seen ≡ length (made_symbols comparison g limit)
    pub stays : made_symbols comparison g limit ≡ made_symbols comparison g k

  -- a round with nothing new is the last
  pub last_round : (limit left k : ℕ) (seen waiting : List Part) (done : List ItemData) → AtRound g limit left k seen waiting done → waiting ≡ [] → limit ≡ k + left →
      IsDone limit k seen done
  last_round limit left k seen waiting done h none sum = record {
    faultless = h.rest ∙ faults_end k left nothing;
    whole = fresh_stays k left limit sum nothing;
    items = h.items ∙ ap (λ ps. flat_map plain_item g.items ++ replaced_rules (flat_map make ps)) (sym (made_stays k left limit sum nothing));
    ended = nothing;
    long =
        sym (length-map seen unplaced) ∙ ap length h.before.kept ∙ length-map (round (suc k)).seen unplaced
        ∙ ap (λ xs. length ((round k).seen ++ xs)) nothing ∙ ap length (append-nil (round k).seen)
        ∙ sym (made_long k) ∙ ap length (sym (made_stays k left limit sum nothing));
    stays = made_stays k left limit sum nothing;
  }
    where
      no_more : (xs : List Part) → map parts_replaced xs ≡ [] → xs ≡ []
      no_more [] e = refl
      no_more (x ∷ xs) e = absurd (cc e)

      nothing : (round k).fresh ≡ []
      nothing = no_more (round k).fresh (sym h.waits ∙ none)
