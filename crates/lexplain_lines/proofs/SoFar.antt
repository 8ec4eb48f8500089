-- The lines of a text that were read, and those that are left.
use Rattle.std.proofs.Common.{◌≡◌, ℕ, List, [], ◌∷◌, ◌++◌, map, Bor, Option, Some, None, refl, sym, ap, ◌∙◌}
use Rattle.std.specs.Iterator.{AlwaysYields}
use Rattle.std.specs.Str.Iter.{lines_steps, lines_rest}
use Rattle.std.specs.Str.Lines.{lines}
use Rattle.std.specs.declared.str.Lines.{Lines}
use Rattle.std.proofs.lemmas.Iterator.Splits.{YieldsList-from_lines}
use Rattle.std.proofs.lemmas.List.{append_assoc, append-nil, map-append}
use Rattle.serde_json.specs.Data.{Data}
use Rattle.serde_json.specs.Read.{read}
use Rattle.lexplain_lines.specs.LineForms.{AreLines}

-- the lines up to `from` are these data
pub record AreSoFar (text : List ℕ) (from : Lines) (ds : List Data) : Type 0 where
  pub left : List (List ℕ)
  pub yields : AlwaysYields lines_steps (λ x. x.now) from left
  pub are : map read (lines text) ≡ map (λ d. Some d) ds ++ map read left

pub none_so_far : (text : List ℕ) (from : Lines) (ds : List Data) → lines_rest from ≡ text → ds ≡ [] → AreSoFar text from ds
none_so_far text from ds e none =
    record { left = lines text; yields = (YieldsList-from_lines text e).runs; are = ap (λ es. map (λ d. Some d) es ++ map read (lines text)) (sym none) }

pub one_more : (text : List ℕ) (from to : Lines) (ds new : List Data) (x : Bor (List ℕ)) (d : Data) → AreSoFar text from ds → lines_steps from (Some x) to →
    read x.now ≡ Some d → new ≡ ds ++ (d ∷ []) → AreSoFar text to new
one_more text from to ds new x d before step is e = at before.left before.yields before.are
  where
    at : (left : List (List ℕ)) → AlwaysYields lines_steps (λ y. y.now) from left → map read (lines text) ≡ map (λ d. Some d) ds ++ map read left → AreSoFar text to new
    at [] yields are = absurd (yields x to step)
    at (y ∷ left) yields are =
        let turn = yields.1 x to step in
        record {
          left = left;
          yields = turn.1;
          are = are ∙ ap (λ o. map (λ d. Some d) ds ++ (o ∷ map read left)) (ap read (sym turn.0) ∙ is)
              ∙ sym (append_assoc (map (λ d. Some d) ds) (Some d ∷ []) (map read left))
              ∙ ap (λ os. os ++ map read left) (sym (ap (map (λ d. Some d)) e ∙ map-append (λ d. Some d) ds (d ∷ [])));
        }

pub all_so_far : (text : List ℕ) (from to : Lines) (ds : List Data) → AreSoFar text from ds → lines_steps from None to → AreLines text ds
all_so_far text from to ds before step = at before.left before.yields before.are
  where
    at : (left : List (List ℕ)) → AlwaysYields lines_steps (λ y. y.now) from left → map read (lines text) ≡ map (λ d. Some d) ds ++ map read left → AreLines text ds
    at [] yields are = are ∙ append-nil (map (λ d. Some d) ds)
    at (y ∷ left) yields are = absurd (yields.0 to step)

-- a list of data that goes on behind others
goes_on : (all ds : List Data) (o : Option Data) (os : List (Option Data)) → map (λ d. Some d) all ≡ map (λ d. Some d) ds ++ (o ∷ os) →
    (d : Data) × (rest : List Data) × (o ≡ Some d) × (all ≡ ds ++ (d ∷ rest))
goes_on [] [] o os e = absurd (cc)
goes_on [] (d ∷ ds) o os e = absurd (cc)
goes_on (a ∷ all) [] o os e = let same : o ≡ Some a = cc in (a, all, same, refl)
goes_on (a ∷ all) (d ∷ ds) o os e =
    let head : a ≡ d = cc in
    let tail : map (λ d. Some d) all ≡ map (λ d. Some d) ds ++ (o ∷ os) = cc in
    let rest = goes_on all ds o os tail in
    (rest.0, rest.1, rest.2, ap (λ b. b ∷ all) head ∙ ap (λ bs. d ∷ bs) rest.3)

-- where the text is the lines of these data, the next line is the next of them
pub next_is : (text : List ℕ) (from to : Lines) (ds all : List Data) (x : Bor (List ℕ)) → AreSoFar text from ds → lines_steps from (Some x) to → AreLines text all →
    (d : Data) × (rest : List Data) × (read x.now ≡ Some d) × (all ≡ ds ++ (d ∷ rest))
next_is text from to ds all x before step whole = at before.left before.yields before.are
  where
    at : (left : List (List ℕ)) → AlwaysYields lines_steps (λ y. y.now) from left → map read (lines text) ≡ map (λ d. Some d) ds ++ map read left →
        (d : Data) × (rest : List Data) × (read x.now ≡ Some d) × (all ≡ ds ++ (d ∷ rest))
    at [] yields are = absurd (yields x to step)
    at (y ∷ left) yields are =
        let turn = yields.1 x to step in
        let on = goes_on all ds (read y) (map read left) (sym whole ∙ are) in
        (on.0, on.1, ap read turn.0 ∙ on.2, on.3)

alike : (ds es : List Data) → map (λ d. Some d) ds ≡ map (λ d. Some d) es → ds ≡ es
alike [] [] e = refl
alike [] (x ∷ es) e = absurd (cc)
alike (d ∷ ds) [] e = absurd (cc)
alike (d ∷ ds) (x ∷ es) e =
    let head : d ≡ x = cc in
    let tail : map (λ d. Some d) ds ≡ map (λ d. Some d) es = cc in
    ap (λ b. b ∷ ds) head ∙ ap (λ bs. x ∷ bs) (alike ds es tail)

-- a text is the lines of these data alone
pub same_lines : (text : List ℕ) (ds es : List Data) → AreLines text ds → AreLines text es → ds ≡ es
same_lines text ds es a b = alike ds es (sym a ∙ b)
