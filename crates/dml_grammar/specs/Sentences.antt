-- What a statement and a definition are, and where others are refused.
use Rattle.std.specs.Prelude.{ℕ, suc, ◌-◌, Bool, false, ◌&&◌, cond, List, [], ◌∷◌, length, slice_get, Option, Some, None}
use Rattle.dml_tree.specs.declared.word.Word.TheVariants as w
use Rattle.dml_forms.specs.Forms.{among}
use Rattle.dml_forms.specs.Refusing.{Accepted, RefusedAt}
use Rattle.dml_grammar.specs.declared.placed.Placed.{Placed}
use Rattle.dml_grammar.specs.declared.fault.ParseFault.{ParseFault}
use Rattle.dml_grammar.specs.declared.fault.ParseFault.TheVariants as fault
use Rattle.dml_grammar.specs.Sorts.{sort, a_word, words_of}
use Rattle.dml_grammar.specs.Grammar.{Part, Value, rule}
use Rattle.dml_grammar.specs.Limits.{keeps_limits}
use Rattle.dml_grammar.specs.PlacedTokens.{within}

-- The tokens are this part, with this tree, and keep the limits.
unfoldable pub Is : (n : Part) → List Placed → Value n → Type 0
Is n xs v = Accepted sort rule keeps_limits n xs v

-- The tokens up to the one at this place, from 0, and with it begin nothing within the limits, and those before it do;
-- or, behind the last token, they end too early.
unfoldable pub IsRefusedAt : Part → List Placed → ℕ → Type 0
IsRefusedAt n xs k = RefusedAt sort rule keeps_limits n xs k

-- the column of a place, counted from 0, in the whole line
abbrev pub column : ℕ → ℕ
column from = within (suc from)

-- the place behind a token, 0 where there is none
abbrev pub to_of : Option Placed → ℕ
to_of (Some x) = x.token.to
to_of None = 0

-- the place behind the last token
abbrev pub last_to : List Placed → ℕ
last_to xs = to_of (slice_get xs (length xs - 1))

abbrev pub column_at : Option Placed → ℕ → ℕ
column_at (Some x) past = column x.token.from
column_at None past = column past

-- how a statement is refused that is refused at this place
abbrev pub statement_refusal : List Placed → ℕ → ParseFault
statement_refusal xs k = fault.Syntax 0 (column_at (slice_get xs k) (last_to xs))

-- the words that begin no line of a program
abbrev pub barred : List ℕ
barred = words_of (w.Aw ∷ w.Acquire ∷ w.Resync ∷ w.Release ∷ w.Revert ∷ w.Update ∷ w.Commit ∷ w.Maintain ∷ [])

-- the third token makes it a program
abbrev pub is_program : Option Placed → Bool
is_program (Some x) = among (sort x) (a_word w.Program ∷ [])
is_program None = false

-- how a definition is refused at this token, or behind the last of so many lines
abbrev pub refusal_at : Bool → Option Placed → ℕ → ParseFault
refusal_at program (Some x) lines = cond (program && x.first && among (sort x) barred) (fault.NotHere x.line) (fault.Syntax x.line (column x.token.from))
refusal_at program None lines = fault.Syntax (within (suc lines)) 1

-- how a definition of so many lines is refused that is refused at this place
abbrev pub definition_refusal : ℕ → List Placed → ℕ → ParseFault
definition_refusal lines xs k = refusal_at (is_program (slice_get xs 2)) (slice_get xs k) lines
