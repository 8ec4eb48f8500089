-- Walks over the types of a bound by a function.
use Rattle.std.proofs.Common.{◌≡◌, Result, List, ◌++◌, map, Option, Some, None, option_map, refl}
use Rattle.std.specs.Prelude.{option_to_list}
use Rattle.std.proofs.lemmas.List.{map-id}
use Rattle.std.proofs.lemmas.Iterator.Adapters.{option_map_id}
use Rattle.lalrpop_norm_tree_names.specs.declared.names.TypeParameter.{TypeParameter}
use Rattle.lalrpop_norm_tree_parts.specs.Bounds.{function_bound}
use Rattle.lalrpop_norm_tree_parts.specs.Paths.{PathData}
use Rattle.lalrpop_norm_tree_parts.specs.Walks.{Answered, Ended}
use Rattle.lalrpop_norm_tree_parts.proofs.WalkLemmas.{answered_then, answered_all, ended_in, ended_after}

module _ {S T U E : Type 0} (Step : S → T → Result U E → S → Type 0) where
  same_return : (s s' : S) (o : Option T) (p : Option U) → Answered Step s (option_to_list o) (option_to_list p) s' → option_map (λ (u : U). tt {0}) p ≡ option_map (λ (t : T). tt {0}) o
  same_return s s' None None a = refl
  same_return s s' None (Some u) a = absurd a
  same_return s s' (Some t) None a = absurd a
  same_return s s' (Some t) (Some u) a = refl

  pub function_answered : (s r s' : S) (ts : List T) (o : Option T) (us : List U) (p : Option U) → Answered Step s ts us r → Answered Step r (option_to_list o) (option_to_list p) s' → Answered Step s (map (λ (t : T). t) ts ++ option_to_list (option_map (λ (t : T). t) o)) (map (λ (u : U). u) us ++ option_to_list (option_map (λ (u : U). u) p)) s'
  function_answered s r s' ts o us p a b = rw (map-id ts, map-id us, option_map_id o, option_map_id p) (answered_then Step s r s' ts (option_to_list o) us (option_to_list p) a b)

  pub function_kept : (fs : List TypeParameter) (path : PathData) (s r s' : S) (ts : List T) (o : Option T) (us : List U) (p : Option U) → Answered Step s ts us r → Answered Step r (option_to_list o) (option_to_list p) s' → function_bound fs path (map (λ (u : U). tt {0}) (map (λ (u : U). u) us)) (option_map (λ (u : U). tt {0}) (option_map (λ (u : U). u) p)) ≡ function_bound fs path (map (λ (t : T). tt {0}) (map (λ (t : T). t) ts)) (option_map (λ (t : T). tt {0}) (option_map (λ (t : T). t) o))
  function_kept fs path s r s' ts o us p a b = rw (map-id ts, map-id us, option_map_id o, option_map_id p, answered_all Step s r ts us a, same_return r s' o p b) refl

  module _ (OfMemory : E → Type 0) where
    pub parameters_ended : (s r : S) (ts : List T) (o : Option T) (e : E) → Ended Step OfMemory s ts e r → Ended Step OfMemory s (map (λ (t : T). t) ts ++ option_to_list (option_map (λ (t : T). t) o)) e r
    parameters_ended s r ts o e h = rw (map-id ts, option_map_id o) (ended_in Step OfMemory s r ts (option_to_list o) e h)

    pub return_ended : (s r s' : S) (ts : List T) (o : Option T) (us : List U) (e : E) → Answered Step s ts us r → Ended Step OfMemory r (option_to_list o) e s' → Ended Step OfMemory s (map (λ (t : T). t) ts ++ option_to_list (option_map (λ (t : T). t) o)) e s'
    return_ended s r s' ts o us e a h = rw (map-id ts, option_map_id o) (ended_after Step OfMemory s r s' ts (option_to_list o) us e a h)
