-- The rules of symbols with their parts rewritten, read in an environment, are the rules of the symbols.
use Rattle.std.proofs.Common.{◌≡◌, ℕ, List, [], ◌∷◌, Bool, true, false, cond, map, Option, Some, None, option_map, bytes_eq, refl, sym, ap, ap₂, ◌∙◌, subst, append-nil}
use Rattle.std.specs.List.{flat_map}
use Rattle.lalrpop_norm_tree_names.specs.declared.names.NonterminalString.{NonterminalString}
use Rattle.lalrpop_norm_tree_names.specs.declared.names.Span.{Span}
use Rattle.lalrpop_norm_tree.specs.declared.symbol.RepeatOp.{RepeatOp}
use Rattle.lalrpop_norm_tree.specs.Items.{Action, AlternativeData, RuleData}
use Rattle.lalrpop_norm_tree.specs.Symbols.{Kind, Part, Parts, nonterminal, at, no_parts, part_and}
use Rattle.lalrpop_norm_model.specs.Grammars.{ConditionValue}
use Rattle.lalrpop_norm_model.specs.MadeRules.{all_substituted, group_rule, only_part, repeat_rule, location_rule, argument_kind, instance_alternative, instance_rule}
use Rattle.lalrpop_norm_model.specs.PlainRules.{met, all_met, met_in_rule, replaced_alternative, replaced_rule}
use Rattle.lalrpop_norm_model.specs.Replaced.{replaced_kind, all_replaced}
use Rattle.lalrpop_norm_nodes.specs.Apart.{unplaced_kind}
use Rattle.lalrpop_norm_nodes.specs.Meeting.{were_met}
use Rattle.lalrpop_norm_nodes.proofs.SamenessLemmas.{is_text}
use Rattle.lalrpop_norm_nodes.specs.Filled.{all_filled}
use Rattle.lalrpop_norm_nodes.specs.Waits.{parts_replaced}
use Rattle.lalrpop_norm_nodes.proofs.MeetLemmas.{were_left, were_right}
use Rattle.lalrpop_norm_nodes.proofs.ShallowConditions.{kept_in}
use Rattle.lalrpop_norm_nodes.proofs.ShallowKinds.{all_filled_later, all_replaced_so}
use Rattle.lalrpop_norm_nodes.proofs.ShallowMeetings.{MeetAlike, alike_met, alike_none, alike_both, all_alike, met_moved, were_bare}
use Rattle.lalrpop_norm_nodes.proofs.ShallowRules.{repeat_bound, repeat_unbound, repeat_replaced, instance_kept, instance_replaced}

-- ---- alternatives, copied with no argument bound

abbrev pub copied : Span → List AlternativeData → List AlternativeData
copied s xs = map (instance_alternative s (λ n. None)) xs

-- what is reached in them where names stand for these, what is on the worklist of it, and what they are once they are read
abbrev pub met_in_each : (List ℕ → Option Kind) → List AlternativeData → List Part
met_in_each f xs = flat_map (λ (a : AlternativeData). all_met (all_filled f a.parts)) xs

abbrev pub shown_in_each : (List ℕ → Option Kind) → List AlternativeData → List Part
shown_in_each f xs = flat_map (λ (a : AlternativeData). map parts_replaced (all_met (all_filled f a.parts))) xs

abbrev pub each_read : (List ℕ → Option Kind) → List AlternativeData → List AlternativeData
each_read f xs = map (λ (a : AlternativeData). let b : AlternativeData = record a { parts = all_replaced (all_filled f a.parts) } in b) xs

module _ (arg shown : List ℕ → Option Kind) (shown_is : (n : List ℕ) → shown n ≡ option_map replaced_kind (arg n)) (s : Span) where
  pub copies_read : (xs : List AlternativeData) → each_read shown (copied s xs) ≡ map replaced_alternative (map (instance_alternative s arg) xs)
  copies_read [] = refl
  copies_read (a ∷ xs) =
      let bare : AlternativeData = instance_alternative s arg a in
      ap₂ (λ (ps : Parts) (ys : List AlternativeData). let b : AlternativeData = record bare { parts = ps } in b ∷ ys)
      (ap all_replaced (all_filled_later shown a.parts) ∙ all_replaced_so arg shown shown_is a.parts) (copies_read xs)

module _ (names : List ℕ → Bool) (start : List Part) where
  -- at any span of a symbol that an argument is bound to, what it reaches was reached
  bound_were_met : (params : List NonterminalString) (ps : Parts) (n : List ℕ) (k : Kind) → were_met names start (all_met ps) ≡ true →
      argument_kind params ps n ≡ Some k → (s : Span) → were_met names start (met (at s k)) ≡ true
  bound_were_met [] ps n k h e s = absurd (cc e)
  bound_were_met (x ∷ params) no_parts n k h e s = absurd (cc e)
  bound_were_met (x ∷ params) (part_and (at t j) ps) n k h e s =
      by (bytes_eq x.0 n) e (λ f. bound_were_met params ps n k (were_right names start (met (at t j)) (all_met ps) h) f s)
    where
      by : (b : Bool) → cond b (Some j) (argument_kind params ps n) ≡ Some k → (argument_kind params ps n ≡ Some k → were_met names start (met (at s k)) ≡ true) →
          were_met names start (met (at s k)) ≡ true
      by true f deeper =
          let same : j ≡ k = cc in
          subst (λ (i : Kind). were_met names start (met (at s i)) ≡ true) same
          (were_bare names start (met (at t j)) (met (at s j)) (met_moved t s j) (were_left names start (met (at t j)) (all_met ps) h))
      by false f deeper = deeper f

  module _ (params : List NonterminalString) (ps : Parts) (were : were_met names start (all_met ps) ≡ true) (shown whole : List ℕ → Option Kind)
      (shown_is : (n : List ℕ) → shown n ≡ option_map replaced_kind (argument_kind params ps n))
      (whole_is : (n : List ℕ) → whole n ≡ option_map unplaced_kind (argument_kind params ps n)) (s : Span) where
    pub copies_alike : (xs : List AlternativeData) →
        MeetAlike names start (shown_in_each shown (copied s xs)) (met_in_each whole (copied s xs))
        (flat_map (λ (a : AlternativeData). all_met a.parts) (map (instance_alternative s (argument_kind params ps)) xs))
    copies_alike [] = alike_none names start
    copies_alike (a ∷ xs) =
        rw (all_filled_later shown a.parts, all_filled_later whole a.parts)
        (alike_both names start (map parts_replaced (all_met (all_substituted shown a.parts))) (all_met (all_substituted whole a.parts))
        (all_met (all_substituted (argument_kind params ps) a.parts)) _ _ _
        (all_alike names start (argument_kind params ps) shown whole shown_is whole_is (λ n k e t. bound_were_met params ps n k were e t) a.parts)
        (copies_alike xs))

  -- ---- a call

  module _ (value : ConditionValue) (s : Span) (d : RuleData) (ps : Parts) where
    -- the alternatives that are to be read
    abbrev pub call_copies : Parts → List AlternativeData
    call_copies qs = copied s (kept_in value d.args qs d.alternatives)

    module _ (shown : List ℕ → Option Kind) (shown_is : (n : List ℕ) → shown n ≡ option_map replaced_kind (argument_kind d.args ps n)) where
      pub call_read : (let shallow : RuleData = instance_rule value s d (all_replaced ps) in
          let it : RuleData = record shallow { alternatives = each_read shown (call_copies (all_replaced ps)) } in
          it ≡ replaced_rule (instance_rule value s d ps))
      call_read =
          let shallow : RuleData = instance_rule value s d (all_replaced ps) in
          ap (λ (xs : List AlternativeData). let r : RuleData = record shallow { alternatives = xs } in r)
          (copies_read (argument_kind d.args ps) shown shown_is s (kept_in value d.args (all_replaced ps) d.alternatives)
          ∙ ap (map replaced_alternative) (sym (instance_kept value s d ps)))
          ∙ ap replaced_rule (sym (instance_replaced value s d ps))

      pub call_alike : (whole : List ℕ → Option Kind) → ((n : List ℕ) → whole n ≡ option_map unplaced_kind (argument_kind d.args ps n)) →
          were_met names start (all_met ps) ≡ true →
          MeetAlike names start (shown_in_each shown (call_copies (all_replaced ps))) (met_in_each whole (call_copies (all_replaced ps))) (met_in_rule (instance_rule value s d ps))
      call_alike whole whole_is were =
          subst (λ (xs : List AlternativeData). MeetAlike names start (shown_in_each shown (call_copies (all_replaced ps))) (met_in_each whole (call_copies (all_replaced ps)))
          (flat_map (λ (a : AlternativeData). all_met a.parts) xs)) (sym (instance_kept value s d ps))
          (copies_alike d.args ps were shown whole shown_is whole_is s (kept_in value d.args (all_replaced ps) d.alternatives))

  -- ---- a repeat, in the rule of which a name stands for what is repeated

  module _ (s : Span) (op : RepeatOp) (sp : Span) (k : Kind) (n : NonterminalString) where
    bound_here : argument_kind (n ∷ []) (only_part (at sp k)) n.0 ≡ Some k
    bound_here = ap (λ (b : Bool). cond b (Some k) None) (is_text n.0 n.0 refl)

    module _ (shown : List ℕ → Option Kind) (shown_is : (m : List ℕ) → shown m ≡ option_map replaced_kind (argument_kind (n ∷ []) (only_part (at sp k)) m)) where
      pub repeat_read : (let shallow : RuleData = repeat_rule s op (at sp (replaced_kind k)) in
          let it : RuleData = record shallow { alternatives = each_read shown (repeat_rule s op (at sp (nonterminal n.0))).alternatives } in
          it ≡ replaced_rule (repeat_rule s op (at sp k)))
      repeat_read =
          let shallow : RuleData = repeat_rule s op (at sp (replaced_kind k)) in
          ap (λ (xs : List AlternativeData). let r : RuleData = record shallow { alternatives = xs } in r)
          (ap (each_read shown) (sym (repeat_unbound s op sp n.0))
          ∙ copies_read (argument_kind (n ∷ []) (only_part (at sp k))) shown shown_is s (repeat_rule s op (at sp (nonterminal n.0))).alternatives
          ∙ ap (map replaced_alternative) (repeat_bound s op sp n.0 k (argument_kind (n ∷ []) (only_part (at sp k))) bound_here))
          ∙ ap replaced_rule (sym (repeat_replaced s op sp k))

      pub repeat_alike : (whole : List ℕ → Option Kind) → ((m : List ℕ) → whole m ≡ option_map unplaced_kind (argument_kind (n ∷ []) (only_part (at sp k)) m)) →
          were_met names start (met (at sp k)) ≡ true →
          MeetAlike names start (shown_in_each shown (repeat_rule s op (at sp (nonterminal n.0))).alternatives)
          (met_in_each whole (repeat_rule s op (at sp (nonterminal n.0))).alternatives) (met_in_rule (repeat_rule s op (at sp k)))
      repeat_alike whole whole_is were =
          let here : List AlternativeData = (repeat_rule s op (at sp (nonterminal n.0))).alternatives in
          let all : were_met names start (all_met (only_part (at sp k))) ≡ true = ap (were_met names start) (append-nil (met (at sp k))) ∙ were in
          let alike = copies_alike (n ∷ []) (only_part (at sp k)) all shown whole shown_is whole_is s here in
          subst (λ (xs : List AlternativeData). MeetAlike names start (shown_in_each shown here) (met_in_each whole here) (flat_map (λ (a : AlternativeData). all_met a.parts) xs))
          (repeat_bound s op sp n.0 k (argument_kind (n ∷ []) (only_part (at sp k))) bound_here)
          (subst (λ (xs : List AlternativeData). MeetAlike names start (shown_in_each shown xs) (met_in_each whole xs)
          (flat_map (λ (a : AlternativeData). all_met a.parts) (map (instance_alternative s (argument_kind (n ∷ []) (only_part (at sp k)))) here)))
          (repeat_unbound s op sp n.0) alike)

  -- ---- a group and a location symbol, whose rules are finished

  pub group_alike : (s : Span) (ps : Parts) → were_met names start (all_met ps) ≡ true → MeetAlike names start [] [] (met_in_rule (group_rule s ps))
  group_alike s ps were =
      alike_met names start [] (met_in_rule (group_rule s ps)) refl (ap (were_met names start) (append-nil (all_met ps)) ∙ were)

  pub location_alike : (s : Span) (k : Kind) (action : Action) → MeetAlike names start [] [] (met_in_rule (location_rule s k action))
  location_alike s k action = alike_none names start
