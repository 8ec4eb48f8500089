-- Symbols on the worklist, reached in two parts.
use Rattle.std.proofs.Common.{◌≡◌, ℕ, List, [], ◌∷◌, ◌++◌, map, length, drop, Option, Some, None, refl, sym, ap, ap₂, ◌∙◌, subst, append-nil, append_assoc, Vec, Global}
use Rattle.std.proofs.Math.Seq.{drop-append_seam, drop-length}
use Rattle.std.proofs.lemmas.List.{map-append, length-map, drop_at, append_cancel_left}
use Rattle.lalrpop_norm_tree.specs.Symbols.{Part, symbol_view}
use Rattle.lalrpop_norm_tree.specs.SymbolTexts.{part_text}
use Rattle.lalrpop_norm_nodes.specs.Apart.{unplaced}
use Rattle.lalrpop_norm_nodes.specs.Meeting.{first_with_text, joined_by, after}
use Rattle.lalrpop_norm_nodes.proofs.MeetingLemmas.{after_both}
use Rattle.lalrpop_norm_nodes.specs.declared.table.Table.{Table}
use Rattle.lalrpop_norm_nodes.specs.declared.table.Waiting.{Waiting}
use Rattle.lalrpop_norm_nodes.specs.Tables.{wholes_in, seen_in, waiting_in, numbered_in, IsNodeTable, TableMeets}
use Rattle.lalrpop_norm_nodes.specs.Waits.{first_met, LeavesWaiting}
use Rattle.lalrpop_norm_nodes.specs.Wholes.{part_at}
use Rattle.lalrpop_norm_nodes.proofs.FirstMet.{fresh_after, after_fresh, first_fresh, fresh_both, texts_after, same_texts}
use Rattle.lalrpop_norm_nodes.proofs.MeetLemmas.{text_unplaced}
use Rattle.lalrpop_norm_nodes.proofs.WaitNumbers.{seen_bare, numbers_stay}

after_first : (seen xs : List Part) → after seen xs ≡ seen ++ first_met seen xs
after_first seen xs = after_fresh seen xs ∙ ap (λ (ps : List Part). seen ++ ps) (sym (first_fresh seen xs))

-- ---- in two parts

pub waits_both : (a b c : Table) (xs ys : List Part) → LeavesWaiting a b xs → LeavesWaiting b c ys → LeavesWaiting a c (xs ++ ys)
waits_both a b c xs ys h k = record {
  waiting =
      k.waiting ∙ ap (λ (ps : List Part). ps ++ first_met (seen_in b) ys) h.waiting
      ∙ append_assoc (waiting_in a) (first_met (seen_in a) xs) (first_met (seen_in b) ys)
      ∙ ap (λ (ps : List Part). waiting_in a ++ ps) firsts;
  texts = k.texts ∙ same_texts (seen_in b) (after (seen_in a) xs) ys h.texts ∙ ap (map part_text) (sym (after_both (seen_in a) xs ys));
  new = h.new ++ k.new;
  seen = k.seen ∙ ap (λ (ps : List Part). ps ++ k.new) h.seen ∙ append_assoc (seen_in a) h.new k.new;
  numbers = k.numbers ∙ ap (λ (ps : List Part). ps ++ k.new) h.numbers ∙ append_assoc (numbered_in a) h.new k.new;
}
  where
    ts : List (List ℕ)
    ts = map part_text (seen_in a)

    firsts : first_met (seen_in a) xs ++ first_met (seen_in b) ys ≡ first_met (seen_in a) (xs ++ ys)
    firsts =
        ap₂ (λ (ps qs : List Part). ps ++ qs) (first_fresh (seen_in a) xs)
        (first_fresh (seen_in b) ys ∙ ap (λ (us : List (List ℕ)). fresh_after us ys) (h.texts ∙ texts_after (seen_in a) xs))
        ∙ sym (fresh_both ts xs ys) ∙ sym (first_fresh (seen_in a) (xs ++ ys))

pub waits_nothing : (t : Table) → LeavesWaiting t t []
waits_nothing t = record {
  waiting = sym (ap (λ (ps : List Part). waiting_in t ++ ps) (first_fresh (seen_in t) []) ∙ append-nil (waiting_in t));
  texts = refl;
  new = [];
  seen = sym (append-nil (seen_in t));
  numbers = sym (append-nil (numbered_in t));
}

bare_texts : (seen : List Part) → map part_text seen ≡ map part_text (map unplaced seen)
bare_texts [] = refl
bare_texts (p ∷ seen) = ap₂ (λ (t : List ℕ) (ts : List (List ℕ)). t ∷ ts) (sym (text_unplaced p)) (bare_texts seen)

-- where a node is entered that is not desugared, none is added
pub waits_plain : (a b : Table) → IsNodeTable a → TableMeets a b [] → b.waiting ≡ a.waiting → LeavesWaiting a b []
waits_plain a b table h same = record {
  waiting = ap (λ (ws : Vec Waiting Global). map (λ (w : Waiting). symbol_view w.symbol) ws.items) same ∙ (waits_nothing a).waiting;
  texts = bare_texts (seen_in b) ∙ ap (map part_text) h.seen ∙ sym (bare_texts (seen_in a));
  new = [];
  seen = sym (seen_bare b h.table) ∙ h.seen ∙ seen_bare a table ∙ sym (append-nil (seen_in a));
  numbers =
      ap (λ (ws : Vec Waiting Global). map (λ (w : Waiting). part_at (wholes_in b) w.number) ws.items) same
      ∙ numbers_stay (wholes_in a) (wholes_in b) a.waiting.items h.grows table.waiting ∙ sym (append-nil (numbered_in a));
}

pub waits_row : (a b c : Table) (xs : List Part) → LeavesWaiting a b xs → IsNodeTable b → TableMeets b c [] → c.waiting ≡ b.waiting → LeavesWaiting a c xs
waits_row a b c xs h table k same =
    subst (λ (ys : List Part). LeavesWaiting a c ys) (append-nil xs) (waits_both a b c xs [] h (waits_plain b c table k same))

-- ---- a symbol that is desugared

-- one of its text was seen
pub waits_seen : (t : Table) (x y : Part) → first_with_text (part_text x) (seen_in t) ≡ Some y → LeavesWaiting t t (x ∷ [])
waits_seen t x y e = record {
  waiting =
      sym (ap (λ (ps : List Part). waiting_in t ++ ps) (ap (drop (length (seen_in t))) stays ∙ drop-length (seen_in t)) ∙ append-nil (waiting_in t));
  texts = ap (map part_text) (sym stays);
  new = [];
  seen = sym (append-nil (seen_in t));
  numbers = sym (append-nil (numbered_in t));
}
  where
    stays : after (seen_in t) (x ∷ []) ≡ seen_in t
    stays = ap (λ (o : Option Part). joined_by o (seen_in t) x) e

-- none was
pub waits_new : (a b : Table) (x y : Part) → first_with_text (part_text x) (seen_in a) ≡ None → waiting_in b ≡ waiting_in a ++ x ∷ [] →
    seen_in b ≡ seen_in a ++ y ∷ [] → numbered_in b ≡ numbered_in a ++ y ∷ [] → part_text y ≡ part_text x → LeavesWaiting a b (x ∷ [])
waits_new a b x y e waiting seen numbers text = record {
  waiting = waiting ∙ ap (λ (ps : List Part). waiting_in a ++ ps) (sym (ap (drop (length (seen_in a))) added ∙ drop-append_seam (seen_in a) (x ∷ [])));
  texts =
      ap (map part_text) seen ∙ map-append part_text (seen_in a) (y ∷ [])
      ∙ ap (λ (t : List ℕ). map part_text (seen_in a) ++ t ∷ []) text
      ∙ sym (ap (map part_text) added ∙ map-append part_text (seen_in a) (x ∷ []));
  new = y ∷ [];
  seen = seen;
  numbers = numbers;
}
  where
    added : after (seen_in a) (x ∷ []) ≡ seen_in a ++ x ∷ []
    added = ap (λ (o : Option Part). joined_by o (seen_in a) x) e

-- ---- the numbers stand for what was reached first

pub waiting_numbers : (a b : Table) (xs ys : List Part) → TableMeets a b xs → LeavesWaiting a b ys →
    numbered_in b ≡ numbered_in a ++ map unplaced (first_met (seen_in a) xs)
waiting_numbers a b xs ys h k = k.numbers ∙ ap (λ (ps : List Part). numbered_in a ++ ps) (bare ∙ first)
  where
    seen : List Part
    seen = seen_in a

    split : map unplaced seen ++ map unplaced k.new ≡ seen ++ k.new
    split = sym (map-append unplaced seen k.new) ∙ ap (map unplaced) (sym k.seen) ∙ seen_bare b h.table ∙ k.seen

    bare : k.new ≡ map unplaced k.new
    bare =
        sym (drop_at seen k.new (length seen) refl) ∙ ap (drop (length seen)) (sym split)
        ∙ drop_at (map unplaced seen) (map unplaced k.new) (length seen) (length-map seen unplaced)

    first : map unplaced k.new ≡ map unplaced (first_met seen xs)
    first =
        append_cancel_left (map unplaced seen) (map unplaced k.new) (map unplaced (first_met seen xs))
        (sym (map-append unplaced seen k.new) ∙ ap (map unplaced) (sym k.seen) ∙ h.seen ∙ ap (map unplaced) (after_first seen xs)
        ∙ map-append unplaced seen (first_met seen xs))
