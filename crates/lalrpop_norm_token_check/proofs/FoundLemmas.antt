-- What is found of a match block, by the definitions of entries and of faults.
use Rattle.std.proofs.Common.{◌≡◌, ◌⊎◌, ℕ, Bool, true, false, ◌||◌, cond, List, [], ◌∷◌, ◌++◌, Option, Some, None, is_some, inl, inr, refl, sym, ap, ap₂, ◌∙◌, append_assoc}
use Rattle.std.specs.List.{list_any, flat_map}
use Rattle.std.specs.BTreeMap.{insert_entry}
use Rattle.lalrpop_norm_tree_names.specs.declared.names.Span.{Span}
use Rattle.lalrpop_norm_tree_names.specs.declared.names.TerminalLiteral.{TerminalLiteral}
use Rattle.lalrpop_norm_tree_names.specs.declared.names.TerminalString.{TerminalString}
use Rattle.lalrpop_norm_tree_names.specs.declared.names.TerminalString.TheVariants.{Literal}
use Rattle.lalrpop_norm_tree.specs.declared.items.MatchEntry.{MatchEntry}
use Rattle.lalrpop_norm_tree.specs.declared.items.MatchItem.{MatchItem}
use Rattle.lalrpop_norm_tree.specs.declared.items.MatchItem.TheVariants.{CatchAll, Unmapped, Mapped}
use Rattle.lalrpop_norm_tree.specs.declared.items.MatchMapping.TheVariants.{Terminal, Skip}
use Rattle.lalrpop_norm_tree.specs.Accessors.{or_else, first_of}
use Rattle.lalrpop_norm_tree.specs.Items.{MatchTokenData}
use Rattle.lalrpop_norm_theory.specs.Rounds.{In}
use Rattle.lalrpop_norm_faults.specs.Faults.{Fault, fault_if}
use Rattle.lalrpop_norm_faults.specs.declared.kind.FaultKind.TheVariants.{TerminalTwice}
use Rattle.lalrpop_norm_model.specs.Terminals.{same_literal, same_terminal, literal_cmp}
use Rattle.lalrpop_norm_model.specs.Entries.{precedence_of, entry_in, own_mapping, item_entries, group_entries, entries_in, terminal_named, user_names, entry_cmp}
use Rattle.lalrpop_norm_model.specs.TokenFaults.{each_after, literals_of, names_mapped_by, match_item_faults, items_of}
use Rattle.lalrpop_norm_model.specs.LexerFaults.{item_place_if}
use Rattle.lalrpop_norm_token_check.specs.Keys.{terminal_in, place_by}
use Rattle.lalrpop_norm_token_check.specs.Found.{FoundData, none_found, found_item_faults, with_item, found_items_faults, with_items, groups_faults, with_groups, block_faults, with_block}
use Rattle.lalrpop_norm_token_check.proofs.KeyLemmas.{named_all, place_more, in_inserted, kept_inserted, exact_entries}
use Rattle.lalrpop_norm_theory.proofs.BoolLemmas.{or_assoc, or_moved, or_nothing}
use Rattle.lalrpop_norm_theory.proofs.ListLemmas.{flat_append}
use Rattle.lalrpop_norm_theory.proofs.RoundsLemmas.{in_left, in_right, in_cases}
use Rattle.lalrpop_norm_faults.proofs.FaultLemmas.{left_none, right_none, none_ahead}
use Rattle.lalrpop_norm_tree.proofs.FirstLemmas.{or_else_assoc, first_of-append}
use Rattle.lalrpop_norm_model.proofs.SameTerminalLemmas.{literals_same, literal_itself}

-- ---- lists

pub any_append : {A : Type 0} (p : A → Bool) (xs ys : List A) → list_any p (xs ++ ys) ≡ (list_any p xs || list_any p ys)
any_append p [] ys = refl
any_append p (x ∷ xs) ys = ap (λ b. p x || b) (any_append p xs ys) ∙ or_assoc (p x) (list_any p xs) (list_any p ys)

-- ---- what an item adds

pub names_item : (p : ℕ) (f : FoundData) (i : MatchItem) (t : TerminalString) →
    terminal_in (with_item p f i).names t ≡ (list_any (same_terminal t) (names_mapped_by i) || terminal_in f.names t)
names_item p f (Mapped l (Terminal u) s) t = named_all f.names (u ∷ []) t
names_item p f (Mapped l Skip s) t = refl
names_item p f (Unmapped l s) t = named_all f.names (Literal l ∷ []) t
names_item p f (CatchAll s) t = refl

some_put : {A : Type 0} (b : Bool) (x : A) (o : Option A) → is_some (cond b (Some x) o) ≡ ((b || false) || is_some o)
some_put true x o = refl
some_put false x o = refl

placed_item : (p : ℕ) (f : FoundData) (i : MatchItem) (l : TerminalLiteral) →
    is_some (place_by (with_item p f i).places l) ≡ (list_any (same_literal l) (literals_of i) || is_some (place_by f.places l))
placed_item p f (Mapped k m s) l = ap is_some (place_more l f.places k s) ∙ some_put (same_literal l k) s (place_by f.places l)
placed_item p f (Unmapped k s) l = ap is_some (place_more l f.places k s) ∙ some_put (same_literal l k) s (place_by f.places l)
placed_item p f (CatchAll s) l = refl

-- ---- faults

-- what is found has the names and the literals of the items before
record Knows (f : FoundData) (before : List MatchItem) : Type 0 where
  names : (t : TerminalString) → terminal_in f.names t ≡ list_any (same_terminal t) (flat_map names_mapped_by before)
  literals : (l : TerminalLiteral) → is_some (place_by f.places l) ≡ list_any (same_literal l) (flat_map literals_of before)

knows_item : (p : ℕ) (f : FoundData) (before : List MatchItem) (i : MatchItem) → Knows f before → Knows (with_item p f i) (i ∷ before)
knows_item p f before i h = record {
  names = λ t. names_item p f i t ∙ ap (λ b. list_any (same_terminal t) (names_mapped_by i) || b) (h.names t)
      ∙ sym (any_append (same_terminal t) (names_mapped_by i) (flat_map names_mapped_by before));
  literals = λ l. placed_item p f i l ∙ ap (λ b. list_any (same_literal l) (literals_of i) || b) (h.literals l)
      ∙ sym (any_append (same_literal l) (literals_of i) (flat_map literals_of before));
}

two_faults : (a b c d : Bool) (x y : Fault) → a ≡ b → c ≡ d → fault_if a x ++ fault_if c y ≡ fault_if b x ++ fault_if d y
two_faults a b c d x y e g = rw (e, g) refl

item_same : (f : FoundData) (before : List MatchItem) (i : MatchItem) → Knows f before → found_item_faults f i ≡ match_item_faults before i
item_same f before (Mapped l (Terminal u) s) h =
    two_faults _ _ _ _ _ _ (h.literals l ∙ sym (or_nothing _)) (ap (λ b. b || false) (h.names u))
item_same f before (Mapped l Skip s) h = two_faults _ _ false false _ (TerminalTwice, s) (h.literals l ∙ sym (or_nothing _)) refl
item_same f before (Unmapped l s) h =
    two_faults _ _ _ _ _ _ (h.literals l ∙ sym (or_nothing _)) (ap (λ b. b || false) (h.names (Literal l)))
item_same f before (CatchAll s) h = refl

-- the items, the nearest first, before those that were before
abbrev behind : List MatchItem → List MatchItem → List MatchItem
behind before [] = before
behind before (i ∷ items) = behind (i ∷ before) items

items_known : (p : ℕ) (f : FoundData) (before items : List MatchItem) → Knows f before → Knows (with_items p f items) (behind before items)
items_known p f before [] h = h
items_known p f before (i ∷ items) h = items_known p (with_item p f i) (i ∷ before) items (knows_item p f before i h)

items_same : (p : ℕ) (f : FoundData) (before items : List MatchItem) → Knows f before → found_items_faults p f items ≡ each_after match_item_faults before items
items_same p f before [] h = refl
items_same p f before (i ∷ items) h =
    ap₂ (λ xs ys. xs ++ ys) (item_same f before i h) (items_same p (with_item p f i) (i ∷ before) items (knows_item p f before i h))

after_append : (before xs ys : List MatchItem) →
    each_after match_item_faults before (xs ++ ys) ≡ each_after match_item_faults before xs ++ each_after match_item_faults (behind before xs) ys
after_append before [] ys = refl
after_append before (x ∷ xs) ys =
    ap (λ zs. match_item_faults before x ++ zs) (after_append (x ∷ before) xs ys)
    ∙ sym (append_assoc (match_item_faults before x) (each_after match_item_faults (x ∷ before) xs) (each_after match_item_faults (behind (x ∷ before) xs) ys))

groups_same : (f : FoundData) (before : List MatchItem) (groups : List (List MatchItem)) → Knows f before →
    groups_faults f groups ≡ each_after match_item_faults before (flat_map (λ items. items) groups)
groups_same f before [] h = refl
groups_same f before (items ∷ groups) h =
    let p = precedence_of (items ∷ groups) in
    ap₂ (λ xs ys. xs ++ ys) (items_same p f before items h)
    (groups_same (with_items p f items) (behind before items) groups (items_known p f before items h))
    ∙ sym (after_append before items (flat_map (λ is. is) groups))

nothing_known : Knows none_found []
nothing_known = record { names = λ t. refl; literals = λ l. refl }

-- the faults of the match block are those of its items
pub block_same : (b : Option MatchTokenData) → block_faults b ≡ each_after match_item_faults [] (items_of b)
block_same None = refl
block_same (Some m) = groups_same none_found [] m.contents nothing_known

-- ---- names

names_step : (p : ℕ) (i : MatchItem) (t : TerminalString) → list_any (same_terminal t) (user_names (item_entries p i)) ≡ list_any (same_terminal t) (names_mapped_by i)
names_step p (Mapped l m s) t = refl
names_step p (Unmapped l s) t = refl
names_step p (CatchAll s) t = refl

any_names : (t : TerminalString) (xs ys : List MatchEntry) →
    list_any (same_terminal t) (user_names (xs ++ ys)) ≡ (list_any (same_terminal t) (user_names xs) || list_any (same_terminal t) (user_names ys))
any_names t xs ys =
    ap (list_any (same_terminal t)) (flat_append (λ (e : MatchEntry). terminal_named e.user_name) xs ys)
    ∙ any_append (same_terminal t) (user_names xs) (user_names ys)

names_items : (p : ℕ) (f : FoundData) (items : List MatchItem) (t : TerminalString) →
    terminal_in (with_items p f items).names t ≡ (list_any (same_terminal t) (user_names (flat_map (item_entries p) items)) || terminal_in f.names t)
names_items p f [] t = refl
names_items p f (i ∷ items) t =
    let rest = list_any (same_terminal t) (user_names (flat_map (item_entries p) items)) in
    names_items p (with_item p f i) items t
    ∙ ap (λ b. rest || b) (names_item p f i t ∙ ap (λ b. b || terminal_in f.names t) (sym (names_step p i t)))
    ∙ or_moved (list_any (same_terminal t) (user_names (item_entries p i))) rest (terminal_in f.names t)
    ∙ ap (λ b. b || terminal_in f.names t) (sym (any_names t (item_entries p i) (flat_map (item_entries p) items)))

names_groups : (f : FoundData) (groups : List (List MatchItem)) (t : TerminalString) →
    terminal_in (with_groups f groups).names t ≡ (list_any (same_terminal t) (user_names (group_entries groups)) || terminal_in f.names t)
names_groups f [] t = refl
names_groups f (items ∷ groups) t =
    let p = precedence_of (items ∷ groups) in
    let rest = list_any (same_terminal t) (user_names (group_entries groups)) in
    names_groups (with_items p f items) groups t
    ∙ ap (λ b. rest || b) (names_items p f items t)
    ∙ or_moved (list_any (same_terminal t) (user_names (flat_map (item_entries p) items))) rest (terminal_in f.names t)
    ∙ ap (λ b. b || terminal_in f.names t) (sym (any_names t (flat_map (item_entries p) items) (group_entries groups)))

-- what is named is what the entries of the match block name
pub block_names : (b : Option MatchTokenData) (t : TerminalString) → terminal_in (with_block b).names t ≡ list_any (same_terminal t) (user_names (entries_in b))
block_names None t = refl
block_names (Some m) t = names_groups none_found m.contents t ∙ or_nothing _

-- ---- entries

-- whether all that is in the one is in one of the two others
abbrev Within : List MatchEntry → List MatchEntry → List MatchEntry → Type 0
Within es xs ys = (e : MatchEntry) → In e es → In e xs ⊎ In e ys

abbrev Has : List MatchEntry → List MatchEntry → List MatchEntry → Type 0
Has es xs ys = (e : MatchEntry) → In e xs ⊎ In e ys → In e es

one_first : (e d : MatchEntry) (A : Type 0) → (e ≡ d) ⊎ A → In e (d ∷ []) ⊎ A
one_first e d A (inl is) = inl (inl is)
one_first e d A (inr a) = inr a

first_one : (e d : MatchEntry) (A : Type 0) → In e (d ∷ []) ⊎ A → (e ≡ d) ⊎ A
first_one e d A (inl (inl is)) = inl is
first_one e d A (inl (inr i)) = absurd i
first_one e d A (inr a) = inr a

item_within : (p : ℕ) (f : FoundData) (i : MatchItem) → Within (with_item p f i).entries (item_entries p i) f.entries
item_within p f (Mapped l m s) e i = one_first e _ _ (in_inserted entry_cmp exact_entries f.entries (entry_in p l m) e i)
item_within p f (Unmapped l s) e i = one_first e _ _ (in_inserted entry_cmp exact_entries f.entries (entry_in p l (own_mapping l)) e i)
item_within p f (CatchAll s) e i = inr i

item_has : (p : ℕ) (f : FoundData) (i : MatchItem) → Has (with_item p f i).entries (item_entries p i) f.entries
item_has p f (Mapped l m s) e i = kept_inserted entry_cmp exact_entries f.entries (entry_in p l m) e (first_one e _ _ i)
item_has p f (Unmapped l s) e i = kept_inserted entry_cmp exact_entries f.entries (entry_in p l (own_mapping l)) e (first_one e _ _ i)
item_has p f (CatchAll s) e (inl i) = absurd i
item_has p f (CatchAll s) e (inr i) = i

within_more : (es xs ys zs fs : List MatchEntry) → Within es ys zs → Within zs xs fs → Within es (xs ++ ys) fs
within_more es xs ys zs fs f g e i = second (f e i)
  where
    third : In e xs ⊎ In e fs → In e (xs ++ ys) ⊎ In e fs
    third (inl j) = inl (in_left e xs ys j)
    third (inr j) = inr j

    second : In e ys ⊎ In e zs → In e (xs ++ ys) ⊎ In e fs
    second (inl j) = inl (in_right e xs ys j)
    second (inr j) = third (g e j)

has_more : (es xs ys zs fs : List MatchEntry) → Has es ys zs → Has zs xs fs → Has es (xs ++ ys) fs
has_more es xs ys zs fs f g e (inr i) = f e (inr (g e (inr i)))
has_more es xs ys zs fs f g e (inl i) = second (in_cases e xs ys i)
  where
    second : In e xs ⊎ In e ys → In e es
    second (inl j) = f e (inr (g e (inl j)))
    second (inr j) = f e (inl j)

items_within : (p : ℕ) (f : FoundData) (items : List MatchItem) → Within (with_items p f items).entries (flat_map (item_entries p) items) f.entries
items_within p f [] e i = inr i
items_within p f (i ∷ items) e here =
    within_more _ (item_entries p i) (flat_map (item_entries p) items) _ f.entries (items_within p (with_item p f i) items) (item_within p f i) e here

items_have : (p : ℕ) (f : FoundData) (items : List MatchItem) → Has (with_items p f items).entries (flat_map (item_entries p) items) f.entries
items_have p f [] e (inl i) = absurd i
items_have p f [] e (inr i) = i
items_have p f (i ∷ items) e here =
    has_more _ (item_entries p i) (flat_map (item_entries p) items) _ f.entries (items_have p (with_item p f i) items) (item_has p f i) e here

groups_within : (f : FoundData) (groups : List (List MatchItem)) → Within (with_groups f groups).entries (group_entries groups) f.entries
groups_within f [] e i = inr i
groups_within f (items ∷ groups) e here =
    let p = precedence_of (items ∷ groups) in
    within_more _ (flat_map (item_entries p) items) (group_entries groups) _ f.entries (groups_within (with_items p f items) groups) (items_within p f items) e here

groups_have : (f : FoundData) (groups : List (List MatchItem)) → Has (with_groups f groups).entries (group_entries groups) f.entries
groups_have f [] e (inl i) = absurd i
groups_have f [] e (inr i) = i
groups_have f (items ∷ groups) e here =
    let p = precedence_of (items ∷ groups) in
    has_more _ (flat_map (item_entries p) items) (group_entries groups) _ f.entries (groups_have (with_items p f items) groups) (items_have p f items) e here

-- the entries that are found of the match block are those that it writes
pub block_entries_are : (b : Option MatchTokenData) (e : MatchEntry) → In e (with_block b).entries → In e (entries_in b)
block_entries_are None e i = i
block_entries_are (Some m) e i = alone (groups_within none_found m.contents e i)
  where
    alone : In e (group_entries m.contents) ⊎ In e [] → In e (group_entries m.contents)
    alone (inl j) = j
    alone (inr j) = absurd j

pub block_has_entries : (b : Option MatchTokenData) (e : MatchEntry) → In e (entries_in b) → In e (with_block b).entries
block_has_entries None e i = i
block_has_entries (Some m) e i = groups_have none_found m.contents e (inl i)

-- ---- spans

put_first : (b : Bool) (s : Span) (o : Option Span) → (b ≡ true → is_some o ≡ false) → cond b (Some s) o ≡ or_else o (cond (b || false) (Some s) None)
put_first true s None h = refl
put_first true s (Some x) h = let no : true ≡ false = h refl in cc
put_first false s None h = refl
put_first false s (Some x) h = refl

place_mapped : (f : FoundData) (k l : TerminalLiteral) (s : Span) → is_some (place_by f.places k) ≡ false →
    place_by (insert_entry literal_cmp f.places k s) l ≡ or_else (place_by f.places l) (cond (same_literal l k || false) (Some s) None)
place_mapped f k l s new =
    place_more l f.places k s
    ∙ put_first (same_literal l k) s (place_by f.places l) (λ same. ap (λ x. is_some (place_by f.places x)) (literals_same l k same) ∙ new)

or_none : {A : Type 0} (o : Option A) → o ≡ or_else o None
or_none None = refl
or_none (Some x) = refl

place_item : (p : ℕ) (f : FoundData) (i : MatchItem) (l : TerminalLiteral) → found_item_faults f i ≡ [] →
    place_by (with_item p f i).places l ≡ or_else (place_by f.places l) (item_place_if l i)
place_item p f (Mapped k m s) l h = place_mapped f k l s (none_ahead _ _ _ h)
place_item p f (Unmapped k s) l h = place_mapped f k l s (none_ahead _ _ _ h)
place_item p f (CatchAll s) l h = or_none _

place_items : (p : ℕ) (f : FoundData) (items : List MatchItem) (l : TerminalLiteral) → found_items_faults p f items ≡ [] →
    place_by (with_items p f items).places l ≡ or_else (place_by f.places l) (first_of (item_place_if l) items)
place_items p f [] l h = or_none _
place_items p f (i ∷ items) l h =
    place_items p (with_item p f i) items l (right_none (found_item_faults f i) _ h)
    ∙ ap (λ o. or_else o (first_of (item_place_if l) items)) (place_item p f i l (left_none _ _ h))
    ∙ or_else_assoc (place_by f.places l) (item_place_if l i) (first_of (item_place_if l) items)

place_groups : (f : FoundData) (groups : List (List MatchItem)) (l : TerminalLiteral) → groups_faults f groups ≡ [] →
    place_by (with_groups f groups).places l ≡ or_else (place_by f.places l) (first_of (item_place_if l) (flat_map (λ items. items) groups))
place_groups f [] l h = or_none _
place_groups f (items ∷ groups) l h =
    let p = precedence_of (items ∷ groups) in
    let rest = first_of (item_place_if l) (flat_map (λ is. is) groups) in
    place_groups (with_items p f items) groups l (right_none (found_items_faults p f items) _ h)
    ∙ ap (λ o. or_else o rest) (place_items p f items l (left_none _ _ h))
    ∙ or_else_assoc (place_by f.places l) (first_of (item_place_if l) items) rest
    ∙ ap (λ o. or_else (place_by f.places l) o) (sym (first_of-append (item_place_if l) items (flat_map (λ is. is) groups)))

-- where nothing is wrong with the match block, its literals have the spans of their items
pub block_places : (b : Option MatchTokenData) (l : TerminalLiteral) → block_faults b ≡ [] →
    place_by (with_block b).places l ≡ first_of (item_place_if l) (items_of b)
block_places None l h = refl
block_places (Some m) l h = place_groups none_found m.contents l h

-- ---- each entry's literal has a span

abbrev pub HasPlaces : FoundData → Type 0
HasPlaces f = (e : MatchEntry) → In e f.entries → is_some (place_by f.places e.match_literal) ≡ true

still_some : {A : Type 0} (b : Bool) (x : A) (o : Option A) → (b ≡ true) ⊎ (is_some o ≡ true) → is_some (cond b (Some x) o) ≡ true
still_some true x o h = refl
still_some false x o (inl h) = cc
still_some false x o (inr h) = h

-- an entry put in with the span of its literal
pub placed_more : (f : FoundData) (d e : MatchEntry) (s : Span) → HasPlaces f → (e ≡ d) ⊎ In e f.entries →
    is_some (place_by (insert_entry literal_cmp f.places d.match_literal s) e.match_literal) ≡ true
placed_more f d e s h i = ap is_some (place_more e.match_literal f.places d.match_literal s) ∙ still_some _ s _ (cases i)
  where
    cases : (e ≡ d) ⊎ In e f.entries → (same_literal e.match_literal d.match_literal ≡ true) ⊎ (is_some (place_by f.places e.match_literal) ≡ true)
    cases (inl is) = inl (ap (λ (x : MatchEntry). same_literal x.match_literal d.match_literal) is ∙ literal_itself d.match_literal)
    cases (inr j) = inr (h e j)

item_placed : (p : ℕ) (f : FoundData) (i : MatchItem) → HasPlaces f → HasPlaces (with_item p f i)
item_placed p f (Mapped l m s) h e i = placed_more f (entry_in p l m) e s h (in_inserted entry_cmp exact_entries f.entries (entry_in p l m) e i)
item_placed p f (Unmapped l s) h e i =
    placed_more f (entry_in p l (own_mapping l)) e s h (in_inserted entry_cmp exact_entries f.entries (entry_in p l (own_mapping l)) e i)
item_placed p f (CatchAll s) h e i = h e i

items_placed : (p : ℕ) (f : FoundData) (items : List MatchItem) → HasPlaces f → HasPlaces (with_items p f items)
items_placed p f [] h = h
items_placed p f (i ∷ items) h = items_placed p (with_item p f i) items (item_placed p f i h)

groups_placed : (f : FoundData) (groups : List (List MatchItem)) → HasPlaces f → HasPlaces (with_groups f groups)
groups_placed f [] h = h
groups_placed f (items ∷ groups) h = groups_placed (with_items (precedence_of (items ∷ groups)) f items) groups (items_placed (precedence_of (items ∷ groups)) f items h)

pub block_placed : (b : Option MatchTokenData) → HasPlaces (with_block b)
block_placed None e i = absurd i
block_placed (Some m) e i = groups_placed none_found m.contents (λ d j. absurd j) e i
