-- The state of the code once a round was read, and the rounds of the definition.
use Rattle.std.proofs.Common.{◌≡◌, ◌⊎◌, inl, inr, ℕ, zero, suc, ◌<◌, List, [], ◌∷◌, ◌++◌, Bool, true, length, map, drop, reverse, Some, Vec, Global, refl, sym, ap, ap₂, ◌∙◌, subst, arith, append-nil, append_assoc}
use Rattle.std.specs.Prelude.{flat_map}
use Rattle.std.proofs.Math.Seq.{drop-append_seam}
use Rattle.std.proofs.lemmas.List.{map-append}
use Rattle.std.proofs.lemmas.Grind.{flat_map-append}
use Rattle.lalrpop_norm_tree.specs.Symbols.{Kind, Part, at, symbol_view}
use Rattle.lalrpop_norm_tree.specs.SymbolTexts.{part_text}
use Rattle.lalrpop_norm_tree.specs.Items.{RuleData, ItemData, GrammarData, rule_item}
use Rattle.lalrpop_norm_faults.specs.declared.failure.NormFailure.{NormFailure}
use Rattle.lalrpop_norm_faults.specs.Faults.{Fault, first, IsFault, IsFirst}
use Rattle.lalrpop_norm_faults.proofs.FaultLemmas.{first_of_more}
use Rattle.lalrpop_norm_theory.specs.Rounds.{In, Round, fresh_of}
use Rattle.lalrpop_norm_theory.proofs.RoundsLemmas.{fresh_listed, of_reverse}
use Rattle.lalrpop_norm_theory.proofs.ListLemmas.{map_reverse}
use Rattle.lalrpop_norm_model.specs.MadeRules.{kind_of, made_rules}
use Rattle.lalrpop_norm_model.specs.Expanded.{rule_names}
use Rattle.lalrpop_norm_model.specs.PlainRules.{met, met_in_rule, met_by_made, rules_without_arguments, macros_of, same_apart_from_spans, expansion_round, made_symbols, made_in, IsEnded, plain_item, plain_grammar, replaced_rule}
use Rattle.lalrpop_norm_conditions.specs.Conditions.{comparison}
use Rattle.lalrpop_norm_nodes.specs.Apart.{nowhere, unplaced_kind, unplaced}
use Rattle.lalrpop_norm_nodes.specs.Meeting.{inside, met_inside, own, first_with_text, after, clash_faults, were_met}
use Rattle.lalrpop_norm_nodes.proofs.InwardLemmas.{met_then}
use Rattle.lalrpop_norm_nodes.specs.declared.node.Nodes.{Nodes}
use Rattle.lalrpop_norm_nodes.specs.declared.table.Table.{Table}
use Rattle.lalrpop_norm_nodes.specs.declared.table.Waiting.{Waiting}
use Rattle.lalrpop_norm_nodes.specs.NodeParts.{AreWaiting}
use Rattle.lalrpop_norm_nodes.specs.Wholes.{wholes}
use Rattle.lalrpop_norm_nodes.specs.Tables.{wholes_in, own_in, seen_in, waiting_in, is_declared_in, AreNumbered, IsNodeTable, TableMeets, refused_in}
use Rattle.lalrpop_norm_nodes.specs.Waits.{parts_replaced, first_met, LeavesWaiting}
use Rattle.lalrpop_norm_nodes.proofs.MeetLemmas.{were_left}
use Rattle.lalrpop_norm_nodes.proofs.SymbolLemmas.{split_at}
use Rattle.lalrpop_norm_nodes.proofs.ShallowMeetings.{MeetAlike}
use Rattle.lalrpop_norm_nodes.proofs.ShallowRounds.{round_refused, round_seen, round_waits, IsInward, inward_each, rule_inward, first_of_text}
use Rattle.lalrpop_norm_nodes.proofs.WaitStands.{with_number, with_whole, waiting_are}
use Rattle.lalrpop_norm_macro_expand_rules.specs.Names.{is_declared_name}
use Rattle.lalrpop_norm_macro_expand_rules.specs.Items.{replaced_item, met_in_item, shown_in_item, without_macro}
use Rattle.lalrpop_norm_macro_expand_rules.specs.Generated.{GeneratedData, met_in_generated, shown_in_generated, generated_read}
use Rattle.lalrpop_norm_macro_expand.specs.Expansion.{meetings, met_before, shared_in, unmade, unmade_in, past_cap, faults_from, expansion_faults}
use Rattle.lalrpop_norm_macro_expand.specs.Kept.{kept_by}
use Rattle.lalrpop_norm_macro_expand.specs.Making.{generated_of, generated_for}
use Rattle.lalrpop_norm_macro_expand.proofs.FreshLemmas.{Tells, after_fresh, first_same, quiet_same, tells_after}
use Rattle.lalrpop_norm_macro_expand.proofs.MadeLemmas.{NewOnes, kept_replaced}
use Rattle.lalrpop_norm_macro_expand.proofs.GeneratedLemmas.{generated_by, generated_are_read, rules_read, all_unmade}
use Rattle.lalrpop_norm_macro_expand.proofs.ItemsWithoutMacros.{replaced_rules, others_plain, grammar_alike}

-- ---- rounds

abbrev start_of : GrammarData → ℕ → List Part
start_of g k = (expansion_round comparison g k).seen

-- what still holds once round k + 1 was read
abbrev pub faults_after : GrammarData → ℕ → ℕ → List Fault
faults_after g k zero = past_cap (expansion_round comparison g k).fresh
faults_after g k (suc left) = unmade_in comparison g k ++ faults_from comparison g (suc k) left

faults_begin : (g : GrammarData) (k left : ℕ) → faults_from comparison g k left ≡ shared_in comparison g k ++ faults_after g k left
faults_begin g k zero = refl
faults_begin g k (suc left) = refl

module _ (g : GrammarData) where
  abbrev make : Part → List RuleData
  make = made_rules comparison (macros_of g)

  abbrev round : ℕ → Round Part
  round k = expansion_round comparison g k

  abbrev declared : List ℕ → Bool
  declared = is_declared_name (rule_names g)

  pub fresh_is : (k : ℕ) → (round k).fresh ≡ fresh_of same_apart_from_spans (round k).seen (meetings comparison g k)
  fresh_is zero = refl
  fresh_is (suc k) = refl

  -- each symbol that is reached comes behind what is inside it
  inward : (names : List ℕ → Bool) (seen : List Part) (k : ℕ) → IsInward names seen (meetings comparison g k)
  inward names seen zero = inward_each names seen met_in_rule (rules_without_arguments g) (λ r. rule_inward names seen r)
  inward names seen (suc k) =
      inward_each names seen (met_by_made comparison (macros_of g)) (reverse (round k).fresh)
      (λ p. inward_each names seen met_in_rule (make p) (λ r. rule_inward names seen r))

  -- what was seen before round k + 1, up to spans
  pub record Before (k : ℕ) (seen : List Part) : Type 0 where
    pub kept : map unplaced seen ≡ map unplaced (round k).seen
    pub tells : Tells (round k).seen (met_before comparison g k)

  -- round k + 1 was read, and these are on the worklist
  pub record AtRound (limit left k : ℕ) (seen waiting : List Part) (done : List ItemData) : Type 0 where
    pub rest : expansion_faults comparison g limit ≡ faults_after g k left
    pub before : Before (suc k) seen
    pub waits : waiting ≡ map parts_replaced (round k).fresh
    pub first_ones : (p : Part) → In p (round k).fresh → first_with_text (part_text p) (round (suc k)).seen ≡ Some p
    pub inside_met : (p : Part) → In p (round k).fresh → were_met declared (round (suc k)).seen (inside p) ≡ true
    pub items : done ≡ (plain_grammar comparison g k).items
    pub earlier : (j : ℕ) → j < k → IsEnded comparison g j → ⊥

  -- ---- a round is read

  module _ (k : ℕ) (a : Table) (shown whole : List Part) (names : is_declared_in a ≡ declared) (h : Before k (seen_in a))
      (alike : MeetAlike declared (round k).seen shown whole (meetings comparison g k)) where
    refused_same : refused_in a whole ≡ clash_faults declared (round k).seen (meetings comparison g k)
    refused_same =
        ap (λ n. clash_faults n (seen_in a) whole) names
        ∙ round_refused declared (seen_in a) (round k).seen shown whole (meetings comparison g k) h.kept alike

    first_shared : first (refused_in a whole) ≡ first (shared_in comparison g k)
    first_shared =
        ap first refused_same ∙ first_same declared (rule_names g) refl (round k).seen (met_before comparison g k) (meetings comparison g k) h.tells

    -- F37
    pub shared_first : (left : ℕ) (f : NormFailure) → IsFirst (refused_in a whole) f → IsFirst (faults_from comparison g k left) f
    shared_first left f i =
        let here : IsFirst (shared_in comparison g k) f = subst (λ o. IsFault o f) first_shared i in
        subst (λ (fs : List Fault). IsFirst fs f) (sym (faults_begin g k left)) (first_of_more (shared_in comparison g k) (faults_after g k left) f here)

    module _ (b : Table) (m : TableMeets a b whole) (quiet : refused_in a whole ≡ []) where
      quiet_here : clash_faults declared (round k).seen (meetings comparison g k) ≡ []
      quiet_here = sym refused_same ∙ quiet

      shared_none : shared_in comparison g k ≡ []
      shared_none = quiet_same declared (rule_names g) refl (round k).seen (met_before comparison g k) (meetings comparison g k) h.tells quiet_here

      pub left_over : (left : ℕ) → faults_from comparison g k left ≡ faults_after g k left
      left_over left = faults_begin g k left ∙ ap (λ fs. fs ++ faults_after g k left) shared_none

      all_seen : after (round k).seen (meetings comparison g k) ≡ (round k).seen ++ (round k).fresh
      all_seen = after_fresh declared (round k).seen (meetings comparison g k) quiet_here ∙ ap (λ fs. (round k).seen ++ fs) (sym (fresh_is k))

      pub before_next : Before (suc k) (seen_in b)
      before_next = record {
        kept = m.seen ∙ round_seen declared (seen_in a) (round k).seen shown whole (meetings comparison g k) h.kept alike ∙ ap (map unplaced) all_seen;
        tells =
            subst (λ (s : List Part). Tells s (met_before comparison g (suc k))) all_seen
            (tells_after declared (rule_names g) refl (round k).seen (met_before comparison g k) (meetings comparison g k) h.tells quiet_here);
      }

      firsts : first_met (round k).seen (meetings comparison g k) ≡ (round k).fresh
      firsts = ap (drop (length (round k).seen)) all_seen ∙ drop-append_seam (round k).seen (round k).fresh

      pub waits_next : waiting_in a ≡ [] → LeavesWaiting a b shown → waiting_in b ≡ map parts_replaced (round k).fresh
      waits_next none l =
          l.waiting ∙ ap (λ ps. ps ++ first_met (seen_in a) shown) none
          ∙ round_waits declared (seen_in a) (round k).seen shown whole (meetings comparison g k) h.kept alike
          ∙ ap (map parts_replaced) firsts

      pub first_ones_next : (p : Part) → In p (round k).fresh → first_with_text (part_text p) (round (suc k)).seen ≡ Some p
      first_ones_next p i =
          ap (first_with_text (part_text p)) (sym all_seen)
          ∙ first_of_text (round k).seen (meetings comparison g k) p (subst (λ (ps : List Part). In p ps) (sym firsts) i)

      inside_of : (p : Part) → were_met declared (round (suc k)).seen (met p) ≡ true → were_met declared (round (suc k)).seen (inside p) ≡ true
      inside_of (at s j) w = were_left declared (round (suc k)).seen (met_inside j) (own s j) (ap (were_met declared (round (suc k)).seen) (sym (split_at s j)) ∙ w)

      pub inside_met_next : (p : Part) → In p (round k).fresh → were_met declared (round (suc k)).seen (inside p) ≡ true
      inside_met_next p i =
          let listed : In p (meetings comparison g k) =
          fresh_listed same_apart_from_spans (round k).seen (meetings comparison g k) p (subst (λ (ps : List Part). In p ps) (fresh_is k) i) in
          let all : were_met declared (round (suc k)).seen (meetings comparison g k) ≡ true =
          subst (λ (s : List Part). were_met declared s (meetings comparison g k) ≡ true) all_seen
          (met_then declared (round k).seen (meetings comparison g k) quiet_here) in
          inside_of p (inward declared (round (suc k)).seen k p listed all)

      pub at_round : (limit left : ℕ) (done : List ItemData) → waiting_in a ≡ [] → LeavesWaiting a b shown →
          expansion_faults comparison g limit ≡ faults_from comparison g k left → done ≡ (plain_grammar comparison g k).items →
          ((j : ℕ) → j < k → IsEnded comparison g j → ⊥) → AtRound limit left k (seen_in b) (waiting_in b) done
      at_round limit left done none l rest items earlier = record {
        rest = rest ∙ left_over left;
        before = before_next;
        waits = waits_next none l;
        first_ones = first_ones_next;
        inside_met = inside_met_next;
        items = items;
        earlier = earlier;
      }

  -- ---- round 1

  pub none_before : (seen : List Part) → seen ≡ [] → Before 0 seen
  none_before seen e = record { kept = ap (map unplaced) e; tells = λ z. refl }

  pub grammar_items : (done : List ItemData) → done ≡ [] ++ map replaced_item (flat_map without_macro g.items) → done ≡ (plain_grammar comparison g 0).items
  grammar_items done e = e ∙ others_plain g.items ∙ sym (append-nil (flat_map plain_item g.items))

  pub none_earlier : (j : ℕ) → j < 0 → IsEnded comparison g j → ⊥
  none_earlier j l e = absurd (omega arith)

  -- ---- from one round to the next

  -- the rules that the symbols on the worklist are desugared to
  abbrev pub next_generated : ℕ → List GeneratedData
  next_generated k = flat_map (generated_by (macros_of g)) (reverse (round k).fresh)

  pub next_alike : (limit left k : ℕ) (seen waiting : List Part) (done : List ItemData) → AtRound limit left k seen waiting done →
      MeetAlike declared (round (suc k)).seen (flat_map shown_in_generated (next_generated k)) (flat_map met_in_generated (next_generated k)) (meetings comparison g (suc k))
  next_alike limit left k seen waiting done h =
      rules_read declared (round (suc k)).seen (macros_of g) (reverse (round k).fresh) (λ p i. h.inside_met p (of_reverse p (round k).fresh i))

  pub next_items : (limit left k : ℕ) (seen waiting : List Part) (done later : List ItemData) → AtRound limit left k seen waiting done →
      later ≡ done ++ map generated_read (next_generated k) → later ≡ (plain_grammar comparison g (suc k)).items
  next_items limit left k seen waiting done later h e =
      let new_rules : List RuleData = flat_map make (reverse (round k).fresh) in
      e ∙ ap₂ ◌++◌ h.items (generated_are_read (macros_of g) (reverse (round k).fresh))
      ∙ append_assoc (flat_map plain_item g.items) (replaced_rules (made_in comparison g k)) (replaced_rules new_rules)
      ∙ ap (λ rs. flat_map plain_item g.items ++ rs)
      (sym (map-append (λ r. rule_item (replaced_rule r)) (made_in comparison g k) new_rules)
      ∙ ap replaced_rules (sym (flat_map-append make (made_symbols comparison g k) (reverse (round k).fresh))))

  -- what is on the worklist, by its ids
  pub record IsMaking (t : Table) (k : ℕ) (xs : List Waiting) : Type 0 where
    pub waiting : AreWaiting (wholes_in t) xs
    pub generated : flat_map (generated_for (wholes_in t) (macros_of g)) (reverse xs) ≡ next_generated k
    pub unmade : flat_map (λ w. unmade (macros_of g) (symbol_view w.symbol)) (reverse xs) ≡ unmade_in comparison g k
    pub new : NewOnes g (wholes_in t) k xs

  mapped : {A B C : Type 0} (f : A → B) (h : B → List C) (xs : List A) → flat_map (λ x. h (f x)) xs ≡ flat_map h (map f xs)
  mapped f h [] = refl
  mapped f h (x ∷ xs) = ap (λ ys. h (f x) ++ ys) (mapped f h xs)

  listed : {A B C : Type 0} (f : A → B) (h : B → C) (xs : List A) → map (λ x. h (f x)) xs ≡ map h (map f xs)
  listed f h [] = refl
  listed f h (x ∷ xs) = ap (λ ys. h (f x) ∷ ys) (listed f h xs)

  all_unplaced_are : (ps : List Part) → map (λ p. at nowhere (unplaced_kind (kind_of p))) ps ≡ map unplaced ps
  all_unplaced_are [] = refl
  all_unplaced_are (at s k ∷ ps) = ap (λ qs. at nowhere (unplaced_kind k) ∷ qs) (all_unplaced_are ps)

  all_kept : (ps : List Part) → map (λ p. kept_by comparison (macros_of g) (parts_replaced p)) ps ≡ map (kept_by comparison (macros_of g)) ps
  all_kept [] = refl
  all_kept (p ∷ ps) = ap₂ ◌∷◌ (kept_replaced (macros_of g) p) (all_kept ps)

  pub is_making : (t : Table) (limit left k : ℕ) (seen : List Part) (done : List ItemData) (xs : List Waiting) → IsNodeTable t → map unplaced (seen_in t) ≡ map unplaced seen →
      AtRound limit left k seen (map (λ w. symbol_view w.symbol) xs) done → AreNumbered (wholes_in t) xs → IsMaking t k xs
  is_making t limit left k seen done xs table same h numbered =
      let are = waiting_are t table (round (suc k)).seen (same ∙ h.before.kept) xs (round k).fresh h.waits numbered h.first_ones in
      let number = with_number t table (round (suc k)).seen (same ∙ h.before.kept) in
      let whole = with_whole t table (round (suc k)).seen (same ∙ h.before.kept) in
      let make_of : Kind × Part → List GeneratedData = λ x. generated_of (macros_of g) x.0 x.1 in
      let view : Waiting → Part = λ w. symbol_view w.symbol in
      let backwards : map number (reverse xs) ≡ map whole (reverse (round k).fresh) = map_reverse number xs ∙ ap reverse are.1 ∙ sym (map_reverse whole (round k).fresh) in
      let part_of : Kind × Part → Part = λ x. at nowhere x.0 in
      let places_of : Kind × Part → List ℕ = λ x. kept_by comparison (macros_of g) x.1 in
      record {
        waiting = are.0;
        new = record {
          waiting = are.0;
          symbols =
              listed number part_of (reverse xs) ∙ ap (map part_of) backwards
              ∙ sym (listed whole part_of (reverse (round k).fresh)) ∙ all_unplaced_are (reverse (round k).fresh);
          kept =
              listed number places_of (reverse xs) ∙ ap (map places_of) backwards
              ∙ sym (listed whole places_of (reverse (round k).fresh)) ∙ all_kept (reverse (round k).fresh);
        };
        generated =
            mapped number make_of (reverse xs)
            ∙ ap (flat_map make_of) backwards
            ∙ sym (mapped whole make_of (reverse (round k).fresh));
        unmade =
            mapped view (unmade (macros_of g)) (reverse xs)
            ∙ ap (flat_map (unmade (macros_of g))) (map_reverse view xs ∙ ap reverse h.waits ∙ sym (map_reverse parts_replaced (round k).fresh))
            ∙ all_unmade (macros_of g) (reverse (round k).fresh);
      }

  -- a round that has new symbols has not ended
  pub earlier_next : (limit left k : ℕ) (seen waiting : List Part) (done : List ItemData) → AtRound limit left k seen waiting done → (waiting ≡ [] → ⊥) →
      (j : ℕ) → j < suc k → IsEnded comparison g j → ⊥
  earlier_next limit left k seen waiting done h some j l e = by (eq_cases j k)
    where
      eq_cases : (j n : ℕ) → (j ≡ n) ⊎ (j ≡ n → ⊥)
      eq_cases j n = grind arith

      by : (j ≡ k) ⊎ (j ≡ k → ⊥) → ⊥
      by (inl same) = some (h.waits ∙ ap (λ i. map parts_replaced (round i).fresh) (sym same) ∙ ap (map parts_replaced) e)
      by (inr other) = h.earlier j (omega arith) e

  -- ---- the code's rounds

  -- round 1
  module _ (a b : Table) (others : List ItemData) (e : others ≡ flat_map without_macro g.items) (names : is_declared_in a ≡ declared) (seen : seen_in a ≡ []) where
    first_alike : MeetAlike declared [] (flat_map shown_in_item others) (flat_map met_in_item others) (meetings comparison g 0)
    first_alike = rw e (grammar_alike declared g)

    pub first_refused : (limit : ℕ) (f : NormFailure) → IsFirst (refused_in a (flat_map met_in_item others)) f → IsFirst (expansion_faults comparison g limit) f
    first_refused limit f i = shared_first 0 a (flat_map shown_in_item others) (flat_map met_in_item others) names (none_before (seen_in a) seen) first_alike limit f i

    pub first_round : (limit : ℕ) (done : List ItemData) → waiting_in a ≡ [] → TableMeets a b (flat_map met_in_item others) → refused_in a (flat_map met_in_item others) ≡ [] →
        LeavesWaiting a b (flat_map shown_in_item others) → done ≡ [] ++ map replaced_item others → AtRound limit limit 0 (seen_in b) (waiting_in b) done
    first_round limit done none m quiet l moved =
        at_round 0 a (flat_map shown_in_item others) (flat_map met_in_item others) names (none_before (seen_in a) seen) first_alike b m quiet limit limit done none l refl
        (grammar_items done (moved ∙ ap (map replaced_item) e)) none_earlier

  -- the others: those on the worklist are desugared, which are read
  module _ (limit left less k : ℕ) (a b : Table) (old : List Part) (xs : List Waiting) (done : List ItemData) (more : left ≡ suc less)
      (h : AtRound limit left k old (map (λ w. symbol_view w.symbol) xs) done) (making : IsMaking a k xs) (names : is_declared_in a ≡ declared) (seen : seen_in a ≡ old) where
    abbrev made : List GeneratedData
    made = flat_map (generated_for (wholes_in a) (macros_of g)) (reverse xs)

    abbrev unmade_here : List Fault
    unmade_here = flat_map (λ w. unmade (macros_of g) (symbol_view w.symbol)) (reverse xs)

    before_here : Before (suc k) (seen_in a)
    before_here = subst (Before (suc k)) (sym seen) h.before

    alike_here : MeetAlike declared (round (suc k)).seen (flat_map shown_in_generated made) (flat_map met_in_generated made) (meetings comparison g (suc k))
    alike_here = rw making.generated (next_alike limit left k old (map (λ w. symbol_view w.symbol) xs) done h)

    faults_left : expansion_faults comparison g limit ≡ unmade_here ++ faults_from comparison g (suc k) less
    faults_left = h.rest ∙ ap (faults_after g k) more ∙ ap (λ fs. fs ++ faults_from comparison g (suc k) less) (sym making.unmade)

    first_joined : (us vs ws : List Fault) (f : NormFailure) → IsFirst (us ++ vs) f → (IsFirst vs f → IsFirst ws f) → IsFirst (us ++ ws) f
    first_joined [] vs ws f i later = later i
    first_joined (u ∷ us) vs ws f i later = i

    -- F33, F34, F35, and F37 of the next round
    pub round_refused_so : (f : NormFailure) → IsFirst (unmade_here ++ refused_in a (flat_map met_in_generated made)) f → IsFirst (expansion_faults comparison g limit) f
    round_refused_so f i =
        subst (λ (fs : List Fault). IsFirst fs f) (sym faults_left)
        (first_joined unmade_here (refused_in a (flat_map met_in_generated made)) (faults_from comparison g (suc k) less) f i
        (shared_first (suc k) a (flat_map shown_in_generated made) (flat_map met_in_generated made) names before_here alike_here less f))

    both_none : (us vs : List Fault) → us ++ vs ≡ [] → (us ≡ []) × (vs ≡ [])
    both_none [] vs e = (refl, e)
    both_none (u ∷ us) vs e = absurd (cc e)

    pub round_next : (later : List ItemData) → waiting_in a ≡ [] → (map (λ w. symbol_view w.symbol) xs ≡ [] → ⊥) → TableMeets a b (flat_map met_in_generated made) →
        unmade_here ++ refused_in a (flat_map met_in_generated made) ≡ [] → LeavesWaiting a b (flat_map shown_in_generated made) → later ≡ done ++ map generated_read made →
        AtRound limit less (suc k) (seen_in b) (waiting_in b) later
    round_next later none some m quiet l moved =
        let quiets = both_none unmade_here (refused_in a (flat_map met_in_generated made)) quiet in
        at_round (suc k) a (flat_map shown_in_generated made) (flat_map met_in_generated made) names before_here alike_here b m quiets.1 limit less later none l
        (faults_left ∙ ap (λ fs. fs ++ faults_from comparison g (suc k) less) quiets.0)
        (next_items limit left k old (map (λ w. symbol_view w.symbol) xs) done later h (moved ∙ ap (λ qs. done ++ map generated_read qs) making.generated))
        (earlier_next limit left k old (map (λ w. symbol_view w.symbol) xs) done h some)

  -- the symbols that waited, once they are taken out of the table
  pub record Taken (limit left k : ℕ) (a : Table) (xs : List Waiting) (done : List ItemData) : Type 0 where
    pub round : AtRound limit left k (seen_in a) (map (λ w. symbol_view w.symbol) xs) done
    pub making : IsMaking a k xs

  pub taken : (limit left k : ℕ) (z a : Table) (xs : Vec Waiting Global) (done : List ItemData) → AtRound limit left k (seen_in z) (waiting_in z) done → a.nodes ≡ z.nodes →
      xs ≡ z.waiting → IsNodeTable a → AreNumbered (wholes_in a) xs.items → Taken limit left k a xs.items done
  taken limit left k z a xs done h nodes same table numbered =
      let round : AtRound limit left k (seen_in a) (map (λ w. symbol_view w.symbol) xs.items) done =
      subst (λ (v : Vec Waiting Global). AtRound limit left k (seen_in a) (map (λ w. symbol_view w.symbol) v.items) done) (sym same)
      (subst (λ (ns : Nodes). AtRound limit left k (flat_map own_in (wholes ns)) (waiting_in z) done) (sym nodes) h) in
      record { round = round; making = is_making a limit left k (seen_in a) done xs.items table refl round numbered }
