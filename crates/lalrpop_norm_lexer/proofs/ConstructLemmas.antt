-- Regexes and precedences of the same entries.
use Rattle.std.proofs.Common.{◌≡◌, List, length, sym, ap, ◌∙◌}
use Rattle.std.proofs.lemmas.List.{length-map}
use Rattle.std.proofs.lemmas.Slice.Zip.{AllZip-long}
use Rattle.lalrpop_norm_tree.specs.declared.items.MatchEntry.{MatchEntry}
use Rattle.lalrpop_norm_model.specs.Lexers.{Lexer}
use Rattle.lalrpop_norm_model.specs.CheckedTokens.{AreRegexes, precedences}
use Rattle.lalrpop_norm_lexer.specs.declared.lexer.answers.Precedence.{Precedence}
use Rattle.lalrpop_norm_lexer.specs.Answers.{numbers}

pub lengths_agree : {R : Type 0} (l : Lexer R) (entries : List MatchEntry) (regexes : List R) (ps : List Precedence) →
    AreRegexes l entries regexes → numbers ps ≡ precedences entries → length regexes ≡ length ps
lengths_agree l entries regexes ps h e =
    AllZip-long (λ (x : MatchEntry) y. l.IsRegexOf x.match_literal y) entries regexes h ∙ sym (simp length-map at (ap length e))
