-- What `regex` says of a pattern, in the words of `Patterns`.
use Rattle.std.proofs.Common.{◌≡◌, ◌≢◌, ◌<◌, ◌≤◌, ℕ, true, false, cond, Option, Some, None, IsSomeAnd, IfSome, is_some, option_and_then, All, refl, sym, ap, ◌∙◌, ⊎_elim, arith}
use Rattle.std.proofs.lemmas.Bool.Decides.{nat_tests}
use Rattle.std.specs.Prelude.{nat_le, chars}
use Rattle.regex_hir.specs.Meaning.{meaning}
use Rattle.regex_hir.specs.declared.hir.Hir.{Hir}
use Rattle.regex_syntax.specs.Brackets.{Nested}
use Rattle.regex_syntax.specs.Grammar.{Names, read}
use Rattle.regex_syntax.specs.declared.error.ErrorKind.{ErrorKind}
use Rattle.regex_syntax.specs.declared.error.ErrorKind.TheVariants.{OutOfMemory}
use Rattle.regex_syntax.proofs.CapturesLemmas.{find_str_alike}
use Rattle.regex_syntax.proofs.Written.{is_some-option_map}
use Rattle.regex.specs.Patterns.{Re, SameCaptures, find_str, default_config, Reads, Refuses}
use Rattle.lalrpop_norm_theory.specs.Symbols.{Name}
use Rattle.lalrpop_norm_conditions.specs.Patterns.{reading, has_reading, occurs, is_found}
use Rattle.lalrpop_norm_conditions.specs.Laws.{AgreesWithRegex}

within_limit : (o : Option (Nested Re × Names)) (most : ℕ) (a : Re) (P : Nested Re × Names → Type 0) →
    ((x : Nested Re × Names) → P x → (x.0.depth ≤ most) × SameCaptures a x.0.value) → IsSomeAnd o P →
    IsSomeAnd (option_and_then (λ (whole, _). cond (nat_le whole.depth most) (Some whole.value) None) o) (SameCaptures a)
within_limit None most a P f h = absurd h
within_limit (Some x) most a P f h =
    let p = f x h in
    let small : nat_le x.0.depth most ≡ true = grind (arith, nat_tests, p.0) in
    rw small p.1

past_limit : (o : Option (Nested Re × Names)) (most : ℕ) → IfSome o (λ (whole, _). most < whole.depth) →
    is_some (option_and_then (λ (whole, _). cond (nat_le whole.depth most) (Some whole.value) None) o) ≡ false
past_limit None most h = refl
past_limit (Some x) most h = let large : nat_le x.0.depth most ≡ false = grind (arith, nat_tests, h) in rw large refl

-- an expression that matches alike is found in the same texts
occurs_alike : (a : Re) (o : Option Re) → IsSomeAnd o (SameCaptures a) → (text : Name) → All (λ b. b < 256) text →
    occurs o text ≡ is_some (find_str a text 0)
occurs_alike a None h text bytes = absurd h
occurs_alike a (Some re) h text bytes =
    sym (sym (is_some-option_map _ _) ∙ ap is_some (find_str_alike a re h text bytes 0) ∙ is_some-option_map _ _)

some_of : (o : Option Re) (P : Re → Type 0) → IsSomeAnd o P → is_some o ≡ true
some_of None P h = absurd h
some_of (Some re) P h = refl

module _ (pattern : Name) (hir : Hir) (names : Names) (reads : Reads default_config pattern hir names) where
  reads_alike : IsSomeAnd (reading pattern) (SameCaptures (meaning hir))
  unfolding Reads reading
  reads_alike = within_limit (read default_config (chars pattern)) default_config.nest_limit (meaning hir) _ (λ x h. (h.0, h.1)) reads

  -- what is read has a reading
  pub has_reading_of_read : has_reading pattern ≡ true
  unfolding has_reading
  has_reading_of_read = some_of (reading pattern) _ reads_alike

  -- and a search by what is read finds what is found
  pub is_found_of_read : (text : Name) → All (λ b. b < 256) text → is_found pattern text ≡ is_some (find_str (meaning hir) text 0)
  unfolding is_found
  is_found_of_read = occurs_alike (meaning hir) (reading pattern) reads_alike

-- what is rejected, unless an allocation fails, has no reading
pub refused_without_reading : (pattern : Name) (kind : ErrorKind) → Refuses default_config pattern kind → kind ≢ OutOfMemory →
    has_reading pattern ≡ false
unfolding Refuses reading has_reading
refused_without_reading pattern kind refused other =
    ⊎_elim (λ memory. absurd (other memory))
    (⊎_elim (λ no_pattern. rw no_pattern refl) (λ deep. past_limit _ default_config.nest_limit deep.1))
    refused

pub agrees : (pattern : Name) → AgreesWithRegex pattern
agrees pattern = record {
  read = has_reading_of_read pattern;
  refused = refused_without_reading pattern;
  found = is_found_of_read pattern;
}
