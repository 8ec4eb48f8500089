-- Names, paths, terminals, attributes, visibilities and patterns of arguments back from their forms.
use Rattle.std.proofs.Common.{◌≡◌, ℕ, List, [], Bool, false, bytes_eq, if◌then◌else◌, codes, refl, ap, ap₂}
use Rattle.lalrpop_norm_tree_names.specs.declared.names.Span.{Span}
use Rattle.lalrpop_norm_tree_names.specs.declared.names.NonterminalString.{NonterminalString}
use Rattle.lalrpop_norm_tree_names.specs.declared.names.Lifetime.{Lifetime}
use Rattle.lalrpop_norm_tree_names.specs.declared.names.TypeParameter.{TypeParameter}
use Rattle.lalrpop_norm_tree_names.specs.declared.names.TypeParameter.TheVariants as parameter
use Rattle.lalrpop_norm_tree_names.specs.declared.names.TerminalLiteral.{TerminalLiteral}
use Rattle.lalrpop_norm_tree_names.specs.declared.names.TerminalLiteral.TheVariants.{Quoted, Regex}
use Rattle.lalrpop_norm_tree_names.specs.declared.names.TerminalString.{TerminalString}
use Rattle.lalrpop_norm_tree_names.specs.declared.names.TerminalString.TheVariants.{Literal, Bare, Error}
use Rattle.serde_json.specs.Data.{Data, number, unsigned, boolean, string, array, object, Items, no_items, item, no_members, member}
use Rattle.lalrpop_norm_tree_parts.specs.Paths.{PathData}
use Rattle.lalrpop_norm_tree_parts.specs.Attributes.{Argument, empty, paren, equal, AttributeData, attribute, Attributes}
use Rattle.lalrpop_norm_tree_parts.specs.Attributes.{no_attributes, attribute_and}
use Rattle.lalrpop_norm_tree.specs.Symbols.{ArgumentPattern, one_name, several, ArgumentPatterns, no_arguments, argument_and}
use Rattle.lalrpop_norm_tree.specs.declared.items.MatchMapping.{MatchMapping}
use Rattle.lalrpop_norm_tree.specs.declared.items.MatchMapping.TheVariants.{Terminal, Skip}
use Rattle.lalrpop_norm_tree.specs.Items.{VisibilityData, everywhere, within, private}
use Rattle.lalrpop_norm_json.specs.Json.{list_form}
use Rattle.lalrpop_norm_json.specs.Forms.{nonterminal_form, literal_form, terminal_form, argument_form, attribute_form}
use Rattle.lalrpop_norm_json.specs.Forms.{attributes_form, type_parameter_form, path_form}
use Rattle.lalrpop_norm_json.specs.SymbolForms.{argument_pattern_form, argument_patterns_form}
use Rattle.lalrpop_norm_json.specs.ItemForms.{visibility_form, mapping_form}
use Rattle.lalrpop_norm_json.proofs.ListBack.{list_in, list_back, maybe_in, maybe_back}

abbrev pub text_in : Data → List ℕ
text_in (string s) = s
text_in _ = []

pub texts_back : (ss : List (List ℕ)) → list_in text_in (list_form string ss) ≡ ss
texts_back = list_back string text_in (λ s. refl)

abbrev pub truth_in : Data → Bool
truth_in (boolean b) = b
truth_in _ = false

abbrev pub number_in : Data → ℕ
number_in (number (unsigned n)) = n
number_in _ = 0

abbrev pub span_in : Data → Span
span_in (array (item a (item b no_items))) = record { 0 = number_in a; 1 = number_in b }
span_in _ = record { 0 = 0; 1 = 0 }

abbrev pub nonterminal_in : Data → NonterminalString
nonterminal_in d = record { 0 = text_in d }

pub nonterminal_back : (n : NonterminalString) → nonterminal_in (nonterminal_form n) ≡ n
nonterminal_back n = refl

abbrev pub lifetime_in : Data → Lifetime
lifetime_in d = record { 0 = text_in d }

abbrev pub path_in : Data → PathData
path_in (object (member k a (member l ids no_members))) = record { absolute = truth_in a; ids = list_in text_in ids }
path_in _ = record { absolute = false; ids = [] }

pub path_back : (p : PathData) → path_in (path_form p) ≡ p
path_back p = ap (λ (ids : List (List ℕ)). record { absolute = p.absolute; ids = ids }) (texts_back p.ids)

abbrev pub parameter_in : Data → TypeParameter
parameter_in (object (member k d no_members)) =
    if bytes_eq k (codes "Id") then parameter.Id (text_in d) else parameter.Lifetime (lifetime_in d)
parameter_in _ = parameter.Id []

parameter_back : (p : TypeParameter) → parameter_in (type_parameter_form p) ≡ p
parameter_back (parameter.Lifetime l) = refl
parameter_back (parameter.Id a) = refl

pub parameters_back : (ps : List TypeParameter) → list_in parameter_in (list_form type_parameter_form ps) ≡ ps
parameters_back = list_back type_parameter_form parameter_in parameter_back

abbrev pub literal_in : Data → TerminalLiteral
literal_in (object (member k d no_members)) = if bytes_eq k (codes "Quoted") then Quoted (text_in d) else Regex (text_in d)
literal_in _ = Quoted []

pub literal_back : (l : TerminalLiteral) → literal_in (literal_form l) ≡ l
literal_back (Quoted a) = refl
literal_back (Regex a) = refl

abbrev pub terminal_in : Data → TerminalString
terminal_in (object (member k d no_members)) = if bytes_eq k (codes "Literal") then Literal (literal_in d) else Bare (text_in d)
terminal_in _ = Error

pub terminal_back : (t : TerminalString) → terminal_in (terminal_form t) ≡ t
terminal_back (Literal l) = ap Literal (literal_back l)
terminal_back (Bare a) = refl
terminal_back Error = refl

-- ---- attributes

abbrev mutual
  argument_in : Data → Argument
  argument_in (object (member k (array xs) no_members)) = paren (attributes_in xs)
  argument_in (object (member k (string s) no_members)) = equal s
  argument_in _ = empty

  attribute_in : Data → AttributeData
  attribute_in (object (member k g (member l a (member m s no_members)))) = attribute (span_in s) (text_in a) (argument_in g)
  attribute_in _ = attribute (record { 0 = 0; 1 = 0 }) [] empty

  pub attributes_in : Items → Attributes
  attributes_in no_items = no_attributes
  attributes_in (item d ds) = attribute_and (attribute_in d) (attributes_in ds)

abbrev pub attribute_list_in : Data → Attributes
attribute_list_in (array ds) = attributes_in ds
attribute_list_in _ = no_attributes

mutual
  argument_back : (g : Argument) → argument_in (argument_form g) ≡ g
  argument_back empty = refl
  argument_back (paren xs) = ap paren (attributes_back xs)
  argument_back (equal s) = refl

  attribute_back : (a : AttributeData) → attribute_in (attribute_form a) ≡ a
  attribute_back (attribute s a g) = ap (attribute s a) (argument_back g)

  pub attributes_back : (xs : Attributes) → attributes_in (attributes_form xs) ≡ xs
  attributes_back no_attributes = refl
  attributes_back (attribute_and a xs) = ap₂ attribute_and (attribute_back a) (attributes_back xs)

-- ---- visibilities, what a match block makes of a token

abbrev pub visibility_in : Data → VisibilityData
visibility_in (object (member k d no_members)) =
    if bytes_eq k (codes "Pub") then everywhere (maybe_in path_in d) else within (path_in d)
visibility_in _ = private

pub visibility_back : (v : VisibilityData) → visibility_in (visibility_form v) ≡ v
visibility_back (everywhere p) = ap everywhere (maybe_back path_form path_in path_back (λ q. refl) p)
visibility_back (within p) = ap within (path_back p)
visibility_back private = refl

abbrev pub mapping_in : Data → MatchMapping
mapping_in (object (member k d no_members)) = Terminal (terminal_in d)
mapping_in _ = Skip

pub mapping_back : (m : MatchMapping) → mapping_in (mapping_form m) ≡ m
mapping_back (Terminal t) = ap Terminal (terminal_back t)
mapping_back Skip = refl

-- ---- patterns of arguments

abbrev mutual
  pub argument_pattern_in : Data → ArgumentPattern
  argument_pattern_in (object (member k (object (member l (array ps) no_members)) no_members)) = several (argument_patterns_in ps)
  argument_pattern_in (object (member k (object (member l (boolean m) (member n a no_members))) no_members)) =
      one_name (record { mutable = m; name = text_in a })
  argument_pattern_in _ = several no_arguments

  pub argument_patterns_in : Items → ArgumentPatterns
  argument_patterns_in no_items = no_arguments
  argument_patterns_in (item d ds) = argument_and (argument_pattern_in d) (argument_patterns_in ds)

mutual
  pub argument_pattern_back : (p : ArgumentPattern) → argument_pattern_in (argument_pattern_form p) ≡ p
  argument_pattern_back (one_name n) = refl
  argument_pattern_back (several ps) = ap several (argument_patterns_back ps)

  pub argument_patterns_back : (ps : ArgumentPatterns) → argument_patterns_in (argument_patterns_form ps) ≡ ps
  argument_patterns_back no_arguments = refl
  argument_patterns_back (argument_and p ps) = ap₂ argument_and (argument_pattern_back p) (argument_patterns_back ps)
