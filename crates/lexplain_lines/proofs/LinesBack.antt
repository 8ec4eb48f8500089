-- What is written for a tree is its lines.
use Rattle.std.proofs.Common.{◌≡◌, ℕ, List, [], ◌∷◌, ◌++◌, map, Some, codes, refl, sym, ap, ◌∙◌, append_assoc, append-nil}
use Rattle.std.proofs.lemmas.List.{map-append}
use Rattle.std.specs.Str.Lines.{lines}
use Rattle.serde_json.specs.Data.{Data}
use Rattle.serde_json.specs.Read.{read}
use Rattle.lalrpop_norm_theory.specs.LoweredTrees.{LoweredTree, LoweredTrees, lowered_leaf, lowered_node, no_lowered, lowered_and}
use Rattle.lalrpop_norm_theory.specs.WrittenTrees.{WrittenTree, WrittenTrees, tree_count, leaf, nothing, list, node, no_trees, tree_and}
use Rattle.lexplain_lines.specs.Laws.{WrittenHasWords, AllWrittenHaveWords, LoweredHasWords, AllLoweredHaveWords}
use Rattle.lexplain_lines.specs.LineForms.{AreLines, lowered_forms, all_lowered_forms, written_forms, all_written_forms}
use Rattle.lexplain_lines.specs.TreeLines.{lowered_count, lowered_lines, all_lowered_lines, written_lines, all_written_lines}
use Rattle.lexplain_lines.proofs.NoFeed.{first_line}
use Rattle.lexplain_lines.proofs.OneLine.{IsLine, leaf_is_line, nothing_is_line, list_is_line, written_node_is_line, lowered_node_is_line}
use Rattle.lexplain_lines.proofs.TreesBack.{one_written, one_lowered}

-- before whatever rest, the text is the lines of these data
abbrev Begin : List ℕ → List Data → Type 0
Begin text ds = (rest : List ℕ) → map read (lines (text ++ rest)) ≡ map (λ d. Some d) ds ++ map read (lines rest)

line_begins : (text : List ℕ) (d : Data) → IsLine text d → Begin text (d ∷ [])
line_begins text d is rest =
    ap (λ l. map read (lines (l ++ rest))) is.text_is ∙ ap (λ l. map read (lines l)) (append_assoc is.line (codes "\n") rest)
    ∙ ap (map read) (first_line is.line rest is.one is.whole) ∙ ap (λ o. o ∷ map read (lines rest)) is.reads

both_begin : (a b : List ℕ) (ds es : List Data) → Begin a ds → Begin b es → Begin (a ++ b) (ds ++ es)
both_begin a b ds es f g rest =
    ap (λ l. map read (lines l)) (append_assoc a b rest) ∙ f (b ++ rest) ∙ ap (λ l. map (λ d. Some d) ds ++ l) (g rest)
    ∙ sym (append_assoc (map (λ d. Some d) ds) (map (λ d. Some d) es) (map read (lines rest)))
    ∙ ap (λ l. l ++ map read (lines rest)) (sym (map-append (λ d. Some d) ds es))

all_are : (text : List ℕ) (ds : List Data) → Begin text ds → AreLines text ds
all_are text ds f = ap (λ l. map read (lines l)) (sym (append-nil text)) ∙ f [] ∙ append-nil (map (λ d. Some d) ds)

-- ---- written trees

mutual
  written_begin : (t : WrittenTree) → WrittenHasWords t → Begin (written_lines t) (written_forms t)
  written_begin (leaf a) h = line_begins _ _ (leaf_is_line a)
  written_begin nothing h = line_begins _ _ nothing_is_line
  written_begin (list ts) h =
      both_begin (all_written_lines ts) _ (all_written_forms ts) _ (all_written_begin ts h.1) (line_begins _ _ (list_is_line (tree_count ts) h.0))
  written_begin (node n k ts) h =
      both_begin (all_written_lines ts) _ (all_written_forms ts) _ (all_written_begin ts h.2)
      (line_begins _ _ (written_node_is_line n k (tree_count ts) h.0 h.1))

  all_written_begin : (ts : WrittenTrees) → AllWrittenHaveWords ts → Begin (all_written_lines ts) (all_written_forms ts)
  all_written_begin no_trees h = λ rest. refl
  all_written_begin (tree_and t ts) h =
      both_begin (written_lines t) (all_written_lines ts) (written_forms t) (all_written_forms ts) (written_begin t h.0) (all_written_begin ts h.1)

pub written_back : (t : WrittenTree) → WrittenHasWords t → AreLines (written_lines t) (written_forms t)
written_back t h = all_are (written_lines t) (written_forms t) (written_begin t h)

-- ---- lowered trees

mutual
  lowered_begin : (u : LoweredTree) → LoweredHasWords u → Begin (lowered_lines u) (lowered_forms u)
  lowered_begin (lowered_leaf a) h = line_begins _ _ (leaf_is_line a)
  lowered_begin (lowered_node n p us) h =
      both_begin (all_lowered_lines us) _ (all_lowered_forms us) _ (all_lowered_begin us h.2)
      (line_begins _ _ (lowered_node_is_line n p (lowered_count us) h.0 h.1))

  all_lowered_begin : (us : LoweredTrees) → AllLoweredHaveWords us → Begin (all_lowered_lines us) (all_lowered_forms us)
  all_lowered_begin no_lowered h = λ rest. refl
  all_lowered_begin (lowered_and u us) h =
      both_begin (lowered_lines u) (all_lowered_lines us) (lowered_forms u) (all_lowered_forms us) (lowered_begin u h.0) (all_lowered_begin us h.1)

pub lowered_back : (u : LoweredTree) → LoweredHasWords u → AreLines (lowered_lines u) (lowered_forms u)
lowered_back u h = all_are (lowered_lines u) (lowered_forms u) (lowered_begin u h)

pub two_lowered_back : (u v : LoweredTree) → LoweredHasWords u → LoweredHasWords v →
    AreLines (lowered_lines u ++ lowered_lines v) (lowered_forms u ++ lowered_forms v)
two_lowered_back u v h k =
    all_are (lowered_lines u ++ lowered_lines v) (lowered_forms u ++ lowered_forms v)
    (both_begin (lowered_lines u) (lowered_lines v) (lowered_forms u) (lowered_forms v) (lowered_begin u h) (lowered_begin v k))

-- ---- trees of one text

pub written_from_text : (t r : WrittenTree) → WrittenHasWords t → WrittenHasWords r → written_lines t ≡ written_lines r → t ≡ r
written_from_text t r h k e =
    one_written (written_lines t) t r (written_back t h) (ap (λ text. map read (lines text)) e ∙ written_back r k)

pub lowered_from_text : (u v : LoweredTree) → LoweredHasWords u → LoweredHasWords v → lowered_lines u ≡ lowered_lines v → u ≡ v
lowered_from_text u v h k e =
    one_lowered (lowered_lines u) u v (lowered_back u h) (ap (λ text. map read (lines text)) e ∙ lowered_back v k)
