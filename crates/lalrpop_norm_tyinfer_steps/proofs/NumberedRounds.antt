-- What a visit does to types by number.
use Rattle.std.proofs.Common.{◌≡◌, ◌<◌, ◌++◌, ℕ, true, List, [], ◌∷◌, Option, Some, None, length, map, slice_get, refl, sym, ap, ap₂, subst, ◌∙◌, arith}
use Rattle.std.proofs.lemmas.List.{length-map}
use Rattle.std.proofs.lemmas.Option.{slice_get_within}
use Rattle.lalrpop_norm_names.specs.declared.table.Names.{Names}
use Rattle.lalrpop_norm_names.specs.Numbers.{number_in_table, names_looked_up}
use Rattle.lalrpop_norm_theory.specs.Rounds.{IsDistinct}
use Rattle.lalrpop_norm_tree_names.specs.declared.names.NonterminalString.{NonterminalString}
use Rattle.lalrpop_norm_tree_parts.specs.Reprs.{ReprData}
use Rattle.lalrpop_norm_repr.specs.declared.types.Types.{Types}
use Rattle.lalrpop_norm_repr.specs.Tables.{type_table, type_of}
use Rattle.lalrpop_norm_shared_types.specs.declared.shared.SharedType.{SharedType}
use Rattle.lalrpop_norm_tyinfer_steps.specs.declared.numbered.Numbered.{Numbered}
use Rattle.lalrpop_norm_tyinfer_steps.specs.Needs.{names_seen, AreRuleNumbers}
use Rattle.lalrpop_norm_tyinfer_steps.specs.Numbered.{names_numbered, type_at, type_by_number, typed_rows, numbered_table, PutsType, HasSameNumbers, IsNumberOf, NumbersRules}
use Rattle.lalrpop_norm_tyinfer_steps.specs.TableValues.{nonterminal_named, type_by_name}
use Rattle.lalrpop_norm_tyinfer_steps.specs.Visits.{Seen, TakesType}
use Rattle.lalrpop_norm_tyinfer_steps.proofs.NeedLemmas.{one_place}
use Rattle.lalrpop_norm_tyinfer_steps.proofs.NumberedLemmas.{name_by_number}
use Rattle.lalrpop_norm_tyinfer_steps.proofs.RoundLemmas.{name_at, name_in}
use Rattle.lalrpop_norm_tyinfer_steps.proofs.VisitLemmas.{taken_new}

-- ---- a type is put

module _ (t after : Numbered) (n : List ℕ) (k : ℕ) (x : ReprData) (of : IsNumberOf t n k) (p : PutsType t after k x) where
  put_here : type_by_name (numbered_table after) n ≡ Some x
  put_here = name_by_number after n ∙ (ap (type_at after.rules.items) (ap (λ (d : Names). number_in_table d n) p.names ∙ of.is) ∙ p.here)

  beside_case : (m : List ℕ) → (m ≡ n → ⊥) → (o : Option ℕ) → number_in_table t.names m ≡ o → type_at after.rules.items o ≡ type_at t.rules.items o
  beside_case m apart None e = refl
  beside_case m apart (Some q) e = p.others q (λ same. apart (of.alone m (e ∙ ap Some (sym same))))

  put_beside : (other : NonterminalString) → (other ≡ nonterminal_named n → ⊥) → type_of other (numbered_table after) ≡ type_of other (numbered_table t)
  put_beside other apart =
      name_by_number after other.0
      ∙ (ap (λ (d : Names). type_at after.rules.items (number_in_table d other.0)) p.names
      ∙ (beside_case other.0 (λ e. apart (ap nonterminal_named e)) (number_in_table t.names other.0) refl ∙ sym (name_by_number t other.0)))

  -- the name takes it
  pub put_taken : (v : Option ReprData) → type_by_name (numbered_table t) n ≡ None → Some x ≡ v → TakesType (numbered_table t) (numbered_table after) n v true
  put_taken v none e =
      taken_new (numbered_table t) (numbered_table after) n v x none e put_here put_beside (ap (λ (u : Types). record (type_table u) { nonterminals = (numbered_table after).nonterminals }) p.tokens)

  pub put_same : HasSameNumbers t after
  put_same = record { names = p.names; listed = p.listed; tokens = p.tokens }

pub nothing_put : (t : Numbered) → HasSameNumbers t t
nothing_put t = record { names = refl; listed = refl; tokens = refl }

-- ---- numbers of rules

pub still_numbered : (t after : Numbered) (ss : List Seen) → HasSameNumbers t after → NumbersRules t ss → NumbersRules after ss
still_numbered t after ss same is = record {
  numbers = subst (λ (d : Names). AreRuleNumbers (number_in_table d) (names_seen ss)) (sym same.names) is.numbers;
  listed = same.listed ∙ is.listed;
  tokens = ap (λ (u : Types). (type_table u).nonterminals) same.tokens ∙ is.tokens;
}

module _ (t : Numbered) (ss : List Seen) (k : ℕ) (s : Seen) (is : NumbersRules t ss) (distinct : IsDistinct (names_seen ss)) (here : slice_get ss k ≡ Some s) where
  number_case : (o : Option ℕ) → number_in_table t.names s.0.name.0 ≡ o → number_in_table t.names s.0.name.0 ≡ Some k
  number_case None e = absurd (is.numbers.all s.0.name.0 e (name_in ss k s here))
  number_case (Some j) e = e ∙ ap Some (one_place (names_seen ss) s.0.name.0 j k distinct (is.numbers.right s.0.name.0 j e) (name_at ss k s here))

  count_of : length t.rules.items ≡ length ss
  count_of = sym (length-map t.rules.items (λ (r : NonterminalString × Option SharedType). r.0.0)) ∙ (ap length is.listed ∙ length-map ss (λ (q : Seen). q.0.name.0))

  pub number_of : IsNumberOf t s.0.name.0 k
  number_of = record {
    is = number_case (number_in_table t.names s.0.name.0) refl;
    alone = λ m e. let one : Some m ≡ Some s.0.name.0 = sym (is.numbers.right m k e) ∙ name_at ss k s here in cc;
    within = subst (λ c. k < c) (sym count_of) (slice_get_within ss k s here);
  }

-- ---- at first

no_rows : (f : List ℕ → Option ReprData) (ns : List (List ℕ)) → ((n : List ℕ) → f n ≡ None) → typed_rows f ns ≡ []
no_rows f [] none = refl
no_rows f (n ∷ ns) none = rw (none n) (no_rows f ns none)

-- where no rule has a type the table is that of the tokens
pub begins_table : (t : Numbered) (tokens : Types) → t.tokens ≡ tokens → ((n : List ℕ) → type_by_number t n ≡ None) → (type_table tokens).nonterminals ≡ [] → numbered_table t ≡ type_table tokens
begins_table t tokens same none empty =
    ap₂ (λ (u : Types) (ns : List (NonterminalString × ReprData)). record (type_table u) { nonterminals = ns }) same (no_rows (type_by_number t) (names_looked_up t.names) none ∙ sym empty)

pub none_by_name : (t : Numbered) → ((n : List ℕ) → type_by_number t n ≡ None) → (n : List ℕ) → type_by_name (numbered_table t) n ≡ None
none_by_name t none n = name_by_number t n ∙ none n
