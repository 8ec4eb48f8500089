-- Alternatives in a row, each with its nonterminal and its number: those of one name, with the origins at their numbers.
use Rattle.std.proofs.Common.{◌≡◌, ℕ, zero, suc, ◌+◌, ◌<◌, false, List, [], ◌∷◌, ◌++◌, map, length, refl, ap, sym, ◌∙◌, arith}
use Rattle.std.specs.Prelude.{Option, Some, None, unwrap_or, slice_get, bytes_eq, filter, if◌then◌else◌}
use Rattle.std.specs.List.{enumerate_from}
use Rattle.lalrpop_norm_tree_names.specs.declared.names.NonterminalString.{NonterminalString}
use Rattle.lalrpop_norm_tree.specs.Items.{AlternativeData, RuleData}
use Rattle.lalrpop_norm_theory.specs.Symbols.{Name}
use Rattle.lalrpop_norm_theory.specs.LoweredTrees.{LoweredSymbol, Production, Origin, from_start}

-- an alternative of the nonterminal of that name
abbrev pub Named : Type 0
Named = NonterminalString × AlternativeData

abbrev pub of_rule : RuleData → List Named
of_rule r = map (λ (a : AlternativeData). (r.name, a)) r.alternatives

-- those of a name, each with its number, counted from k
abbrev pub numbers_named : Name → ℕ → List Named → List (ℕ × Named)
numbers_named n k cs = filter (λ (e : ℕ × Named). bytes_eq n e.1.0.0) (enumerate_from k cs)

abbrev pub HaveOtherNames : Name → List Named → Type 0
HaveOtherNames n [] = Unit {0}
HaveOtherNames n (c ∷ cs) = (bytes_eq n c.0.0 ≡ false) × HaveOtherNames n cs

-- others are passed over
pub passed : (n : Name) (k : ℕ) (cs ds : List Named) → HaveOtherNames n cs → numbers_named n k (cs ++ ds) ≡ numbers_named n (k + length cs) ds
passed n k [] ds h = (let same : k + 0 ≡ k = omega arith in ap (λ j. numbers_named n j ds) (sym same))
passed n k (c ∷ cs) ds h =
    rw h.0 (passed n (k + 1) cs ds h.1 ∙ (let same : k + 1 + length cs ≡ k + suc (length cs) = omega arith in ap (λ j. numbers_named n j ds) same))

pub passed_all : (n : Name) (k : ℕ) (cs : List Named) → HaveOtherNames n cs → numbers_named n k cs ≡ []
passed_all n k [] h = refl
passed_all n k (c ∷ cs) h = rw h.0 (passed_all n (k + 1) cs h.1)

-- what an alternative with its number is traced to
module _ (origins : List Origin) (symbols : AlternativeData → List LoweredSymbol) where
  abbrev pub traced_entry : ℕ × Named → Production
  traced_entry e = record { origin = unwrap_or (slice_get origins e.0) from_start; symbols = symbols e.1.1 }

-- ---- lists in a row

pub behind : {A : Type 0} (xs ys : List A) (i : ℕ) → slice_get (xs ++ ys) (length xs + i) ≡ slice_get ys i
behind [] ys i = (let same : 0 + i ≡ i = omega arith in ap (slice_get ys) same)
behind (x ∷ xs) ys i =
    (let same : suc (length xs) + i ≡ suc (length xs + i) = omega arith in ap (slice_get (x ∷ xs ++ ys)) same) ∙ behind xs ys i

pub ahead : {A : Type 0} (xs ys : List A) (i : ℕ) → i < length xs → slice_get (xs ++ ys) i ≡ slice_get xs i
ahead [] ys i h = absurd (omega arith)
ahead (x ∷ xs) ys zero h = refl
ahead (x ∷ xs) ys (suc i) h = ahead xs ys i (omega arith)

-- ---- rules of distinct names

-- the first rule of a name
abbrev pub first_named : List RuleData → Name → Option RuleData
first_named [] n = None
first_named (r ∷ rs) n = if bytes_eq r.name.0 n then Some r else first_named rs n

abbrev pub NoneNamed : Name → List RuleData → Type 0
NoneNamed n [] = Unit {0}
NoneNamed n (r ∷ rules) = (bytes_eq n r.name.0 ≡ false) × NoneNamed n rules

abbrev pub HaveDistinctNames : List RuleData → Type 0
HaveDistinctNames [] = Unit {0}
HaveDistinctNames (r ∷ rules) = NoneNamed r.name.0 rules × HaveDistinctNames rules
