-- What a line says, and what the lines of a definition say: their tokens, and the tree of these. A line is refused at its first
-- token that is faulty; else at the first token with which its tokens begin nothing. Columns count from 1 in the whole line.
use Rattle.std.specs.Prelude.{ℕ, suc, max, nat_le, ◌==◌, ◌&&◌, not, Bool, true, false, cond, List, [], ◌∷◌, length, Option, Some, None, Result, Ok, Err}
use Rattle.std.specs.List.{list_any}
use Rattle.dml_tree.specs.TokensIn.{TokensRead, tokens_in}
use Rattle.dml_tree.specs.declared.word.Word.TheVariants as word
use Rattle.dml_tree.specs.declared.token.Token.{Token}
use Rattle.dml_tree.specs.declared.token.Lexeme.{Lexeme}
use Rattle.dml_tree.specs.declared.token.Lexeme.TheVariants as lexeme
use Rattle.dml_tree.specs.declared.token.TokenFault.TheVariants as token
use Rattle.dml_tree.specs.declared.statement.Statement.{Statement}
use Rattle.dml_tree.specs.declared.definition.Definition.{Definition}
use Rattle.dml_grammar.specs.declared.fault.ParseFault.{ParseFault}
use Rattle.dml_grammar.specs.declared.fault.ParseFault.TheVariants.{Syntax, NotHere, NoMemory}
use Rattle.dml_grammar.specs.declared.placed.Placed.{Placed}
use Rattle.dml_grammar.specs.Grammar as g
use Rattle.dml_grammar.specs.PlacedTokens.{placed, block, within}
use Rattle.dml_grammar.specs.Sentences.{column, statement_refusal, definition_refusal}
use Rattle.dml_grammar.specs.Trees.{tree_of}

-- ---- a statement

abbrev pub StatementRead : Type 0
StatementRead = Result Statement ParseFault

abbrev pub statement_told : List Placed → Result Statement ℕ → StatementRead
statement_told xs (Ok statement) = Ok statement
statement_told xs (Err at) = Err (statement_refusal xs at)

abbrev pub statement_by : TokensRead → StatementRead
statement_by (Ok tokens) = statement_told (placed 0 tokens) (tree_of g.statement (placed 0 tokens))
statement_by (Err (token.Lexical column)) = Err (Syntax 0 column)
statement_by (Err token.NoMemory) = Err NoMemory

-- the statement of a line from a place on, or why it is none
unfoldable pub statement_in : List ℕ → ℕ → StatementRead
statement_in line from = statement_by (tokens_in line from)

-- ---- a definition

-- the tokens of lines up to the first one with a fault, and the column of that
pub record Front : Type 0 where
  pub tokens : List (List Token)
  pub fault : Option ℕ

abbrev pub with_line : TokensRead → Front → Front
with_line (Ok tokens) front = record { tokens = tokens ∷ front.tokens; fault = front.fault }
with_line (Err (token.Lexical column)) front = record { tokens = []; fault = Some column }
with_line (Err token.NoMemory) front = record { tokens = []; fault = None }

abbrev pub is_end_word : Lexeme → Bool
is_end_word (lexeme.Word word.End) = true
is_end_word _ = false

-- the last line closes a block where it has the word END alone, and no comment
abbrev pub closes : Bool → List ℕ → List Token → Bool
closes last line tokens = last && (length tokens == 2) && not (list_any (λ byte. byte == 34) line)

-- Any other line that begins with this word is refused at it.
abbrev pub end_inside : Bool → List ℕ → List Token → Option ℕ
end_inside last line [] = None
end_inside last line (t ∷ ts) = cond (is_end_word t.what && not (closes last line (t ∷ ts))) (Some (column t.from)) None

abbrev pub refused_at : List Token → Option ℕ → TokensRead
refused_at tokens (Some at) = Err (token.Lexical at)
refused_at tokens None = Ok tokens

abbrev pub unless_end : Bool → List ℕ → TokensRead → TokensRead
unless_end last line (Ok tokens) = refused_at tokens (end_inside last line tokens)
unless_end last line (Err fault) = Err fault

-- the tokens of a line of a definition, or its first fault
abbrev pub line_read : Bool → List ℕ → TokensRead
line_read last line = unless_end last line (tokens_in line 0)

abbrev pub front_of : List (List ℕ) → Front
front_of [] = record { tokens = []; fault = None }
front_of (line ∷ lines) = with_line (line_read (length lines == 0) line) (front_of lines)

abbrev pub DefinitionRead : Type 0
DefinitionRead = Result Definition ParseFault

abbrev pub definition_told : List (List Token) → Result Definition ℕ → DefinitionRead
definition_told lines (Ok definition) = Ok definition
definition_told lines (Err at) = Err (definition_refusal (length lines) (block lines) at)

-- what lines of tokens define
abbrev pub defined_by : List (List Token) → DefinitionRead
defined_by lines = definition_told lines (tree_of g.definition (block lines))

-- a refusal in one of so many lines comes first, and then this one of the line behind them
abbrev pub before : ℕ → ParseFault → DefinitionRead → DefinitionRead
before lines next (Err (Syntax line column)) = cond (nat_le line lines) (Err (Syntax line column)) (Err next)
before lines next (Err (NotHere line)) = Err (NotHere line)
before lines next (Err NoMemory) = Err NoMemory
before lines next (Ok definition) = Err next

abbrev pub decided : List (List Token) → Option ℕ → DefinitionRead
decided lines None = defined_by lines
decided lines (Some column) = before (length lines) (Syntax (within (suc (length lines))) column) (defined_by lines)

-- lines count from 1 at the DEFINE line
abbrev pub counted : DefinitionRead → DefinitionRead
counted (Ok definition) = Ok definition
counted (Err (Syntax line column)) = Err (Syntax (max line 1) column)
counted (Err (NotHere line)) = Err (NotHere line)
counted (Err NoMemory) = Err NoMemory

-- The definition that lines are, or why they are none: the first line with a refusal decides, and in one line a faulty token
-- comes before any other.
unfoldable pub definition_in : List (List ℕ) → DefinitionRead
definition_in lines = counted (decided (front_of lines).tokens (front_of lines).fault)
