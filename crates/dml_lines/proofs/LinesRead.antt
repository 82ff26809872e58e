-- What is read of lines is what the lines say.
use Rattle.std.specs.Prelude.{ℕ, suc, Bool, ◌==◌, ◌≡◌, ◌≤◌, ◌<◌, ◌+◌, ◌⊎◌, List, [], ◌∷◌, ◌++◌, length, drop, get_or, Option, Some, Ok, Err}
use Rattle.std.proofs.Common.{◌∙◌, ap, ap₂, sym, inl, inr, arith, append_assoc, append-nil}
use Rattle.std.proofs.lemmas.Grind.{common_steps}
use Rattle.std.proofs.Math.Seq.{drop-cons}
use Rattle.dml_tree.specs.LineTokens.{AreTokens, HasFault}
use Rattle.dml_tree.specs.TokensIn.{TokensRead}
use Rattle.dml_tree.specs.declared.token.TokenFault.TheVariants.{Lexical}
use Rattle.dml_tree.specs.declared.token.Token.{Token}
use Rattle.dml_tree.specs.declared.statement.Statement.{Statement}
use Rattle.dml_tree.specs.declared.definition.Definition.{Definition}
use Rattle.dml_tree.proofs.callers.Lines.{tokens_are, fault_is}
use Rattle.dml_grammar.specs.declared.fault.ParseFault.{ParseFault}
use Rattle.dml_grammar.specs.declared.fault.ParseFault.TheVariants.{Syntax, NoMemory}
use Rattle.dml_grammar.specs.Grammar as g
use Rattle.dml_grammar.specs.PlacedTokens.{placed, block, within as line_within}
use Rattle.dml_grammar.specs.Sentences.{Is, IsRefusedAt, statement_refusal, definition_refusal}
use Rattle.dml_grammar.proofs.callers.Trees.{tree_is, refusal_is}
use Rattle.dml_lines.specs.Lines.{statement_told, statement_by, statement_in, Front, with_line, line_read, front_of, DefinitionRead, definition_told, defined_by, before, decided, counted, definition_in}
use Rattle.dml_lines.specs.inside.Telling.{Tells, behind}

module _ (line : List ℕ) (from : ℕ) (within : from ≤ length line) where
  pub statement_is : (tokens : List Token) → AreTokens line from tokens → (s : Statement) → Is g.statement (placed 0 tokens) s → statement_in line from ≡ Ok s
  unfolding statement_in
  statement_is tokens are s is =
      ap statement_by (tokens_are line from within tokens are) ∙ ap (statement_told (placed 0 tokens)) (tree_is g.statement (placed 0 tokens) s is)

  pub refused_is : (tokens : List Token) → AreTokens line from tokens → (f : ParseFault) → (f ≡ NoMemory) ⊎ ((k : ℕ) × IsRefusedAt g.statement (placed 0 tokens) k × (f ≡ statement_refusal (placed 0 tokens) k)) → (f ≡ NoMemory) ⊎ (statement_in line from ≡ Err f)
  unfolding statement_in
  refused_is tokens are f (inl none) = inl none
  refused_is tokens are f (inr (k, refused, is)) =
      inr (ap statement_by (tokens_are line from within tokens are) ∙ ap (statement_told (placed 0 tokens)) (refusal_is g.statement (placed 0 tokens) k refused) ∙ ap (λ (h : ParseFault). Err h) (sym is))

  pub lexical_is : (column : ℕ) → HasFault line from column → (Syntax 0 column ≡ NoMemory) ⊎ (statement_in line from ≡ Err (Syntax 0 column))
  unfolding statement_in
  lexical_is column fault = inr (ap statement_by (fault_is line from within column fault))

module _ (lines : List (List Token)) where
  pub definition_is : (d : Definition) → Is g.definition (block lines) d → defined_by lines ≡ Ok d
  definition_is d is = ap (definition_told lines) (tree_is g.definition (block lines) d is)

  pub no_definition_is : (f : ParseFault) → (f ≡ NoMemory) ⊎ ((k : ℕ) × IsRefusedAt g.definition (block lines) k × (f ≡ definition_refusal (length lines) (block lines) k)) → (f ≡ NoMemory) ⊎ (defined_by lines ≡ Err f)
  no_definition_is f (inl none) = inl none
  no_definition_is f (inr (k, refused, is)) = inr (ap (definition_told lines) (refusal_is g.definition (block lines) k refused) ∙ ap (λ (h : ParseFault). Err h) (sym is))

-- ---- lines of tokens

-- what stands at a place, and what stands behind it
drop-here : (lines : List (List ℕ)) (i : ℕ) (line : List ℕ) → i < length lines → line ≡ get_or lines i line → drop i lines ≡ line ∷ drop (i + 1) lines
drop-here lines i line within here =
    let next : suc i ≡ i + 1 = omega arith in
    drop-cons lines i line within ∙ ap₂ (λ (l : List ℕ) (ls : List (List ℕ)). l ∷ ls) (sym here) (ap (λ k. drop k lines) next)

-- a line is the last one where no line stands behind it
last-is : (lines : List (List ℕ)) (i size : ℕ) → i < length lines → size ≡ i → (size + 1 == length lines) ≡ (length (drop (i + 1) lines) == 0)
last-is lines i size within same = grind (arith, common_steps)

module _ (lines : List (List ℕ)) (i : ℕ) (front : List (List Token)) (line : List ℕ) (within : i < length lines) (here : line ≡ get_or lines i line) (read : behind front (front_of (drop i lines)) ≡ front_of lines) (last : Bool) (is_last : last ≡ (length front + 1 == length lines)) (size : length front ≡ i) (text : List ℕ) (same : text ≡ line) where
  abbrev rest : Front
  rest = front_of (drop (i + 1) lines)

  read-here : line_read last text ≡ line_read (length (drop (i + 1) lines) == 0) line
  read-here = ap₂ line_read (is_last ∙ last-is lines i (length front) within size) same

  from-here : behind front (with_line (line_read last text) rest) ≡ front_of lines
  from-here =
      ap (λ (r : TokensRead). behind front (with_line r rest)) read-here
      ∙ ap (λ (those : List (List ℕ)). behind front (front_of those)) (sym (drop-here lines i line within here)) ∙ read

  -- the next line has tokens
  pub front_next : (tokens : List Token) → line_read last text ≡ Ok tokens → behind (front ++ tokens ∷ []) rest ≡ front_of lines
  front_next tokens are =
      ap (λ (those : List (List Token)). let it : Front = record { tokens = those; fault = rest.fault } in it) (append_assoc front (tokens ∷ []) rest.tokens)
      ∙ ap (λ (r : TokensRead). behind front (with_line r rest)) (sym are) ∙ from-here

  -- the next line has a fault
  pub front_ends : (column : ℕ) → line_read last text ≡ Err (Lexical column) → (let it : Front = record { tokens = front; fault = Some column } in it ≡ front_of lines)
  front_ends column fault =
      ap (λ (those : List (List Token)). let it : Front = record { tokens = those; fault = Some column } in it) (sym (append-nil front))
      ∙ ap (λ (r : TokensRead). behind front (with_line r rest)) (sym fault) ∙ from-here

-- ---- a definition

module _ (tokens : List (List Token)) (column lines line : ℕ) (many : lines ≡ length tokens) (at : line ≡ line_within (suc lines)) where
  next-is : (read : DefinitionRead) → before lines (Syntax line column) read ≡ before (length tokens) (Syntax (line_within (suc (length tokens))) column) read
  next-is read =
      ap (λ l. before lines (Syntax l column) read) at ∙ ap (λ n. before n (Syntax (line_within (suc n)) column) read) many

  pub decided_so : (read : DefinitionRead) (result : ParseFault) → Tells (defined_by tokens) read → before lines (Syntax line column) read ≡ Err result → (result ≡ NoMemory) ⊎ (decided tokens (Some column) ≡ Err result)
  decided_so (Ok d) result told is = inr (ap (before (length tokens) (Syntax (line_within (suc (length tokens))) column)) told ∙ sym (next-is (Ok d)) ∙ is)
  decided_so (Err f) result (inl none) is =
      let e : before lines (Syntax line column) (Err NoMemory) ≡ Err result = ap (λ (h : ParseFault). before lines (Syntax line column) (Err h)) (sym none) ∙ is in
      let back : result ≡ NoMemory = cc in
      inl back
  decided_so (Err f) result (inr told) is = inr (ap (before (length tokens) (Syntax (line_within (suc (length tokens))) column)) told ∙ sym (next-is (Err f)) ∙ is)

module _ (lines : List (List ℕ)) (tokens : List (List Token)) (fault : Option ℕ) (same : (let it : Front = record { tokens = tokens; fault = fault } in it ≡ front_of lines)) where
  pub definition_as : (d : Definition) → decided tokens fault ≡ Ok d → definition_in lines ≡ Ok d
  unfolding definition_in
  definition_as d is = ap (λ (f : Front). counted (decided f.tokens f.fault)) (sym same) ∙ ap counted is

  pub no_definition_as : (f result : ParseFault) → (f ≡ NoMemory) ⊎ (decided tokens fault ≡ Err f) → counted (Err f) ≡ Err result → (result ≡ NoMemory) ⊎ (definition_in lines ≡ Err result)
  unfolding definition_in
  no_definition_as f result (inl none) is =
      let e : counted (Err NoMemory) ≡ Err result = ap (λ (h : ParseFault). counted (Err h)) (sym none) ∙ is in
      let back : result ≡ NoMemory = cc in
      inl back
  no_definition_as f result (inr told) is = inr (ap (λ (g : Front). counted (decided g.tokens g.fault)) (sym same) ∙ ap counted told ∙ is)
