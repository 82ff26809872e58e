-- What a language makes of a line: the one argument over which the meaning of a script is stated.
use Rattle.std.specs.Prelude.{ℕ, Bool, List, Result}
use Rattle.ses_report.specs.declared.refusal.Refusal.{Refusal}
use Rattle.ses_report.specs.Reports.{Answer}

-- a session answers alone, or asks the shared state and waits for its reply
pub data Begun (Entry Session Waiting : Type 0) : Type 0 where
  said : Answer → Session → Begun Entry Session Waiting
  ask : Entry → Waiting → Begun Entry Session Waiting

-- what a line is: nothing; of no form; a line of a definition that isn't whole yet; its last line; a session's statement
pub data Form (Statement : Type 0) : Type 0 where
  nothing : Form Statement
  malformed : Refusal → Form Statement
  joins : Form Statement
  ends : Form Statement
  under : List ℕ → Statement → Form Statement

pub record Meaning : Type 1 where
  pub Definitions : Type 0
  pub Session : Type 0
  -- a session that asked, with what it asked
  pub Waiting : Type 0
  pub Statement : Type 0
  pub Entry : Type 0
  pub Reply : Type 0
  -- what a line is behind these lines of an open definition
  pub form : List (List ℕ) → List ℕ → Form Statement
  -- the lines of a whole definition, or of one that the script leaves open
  pub define : Definitions → List (List ℕ) → Result Definitions Refusal
  pub none_defined : Definitions
  pub is_any : Definitions → Bool
  -- a session by its number, which no line has named yet
  pub new_session : ℕ → Session
  pub begin : Definitions → Session → Statement → Begun Entry Session Waiting
  -- by the names of the sessions, and the reply
  pub finish : Definitions → List (List ℕ) → Waiting → Reply → Answer × Session
  -- a definition of these lines behind a session's line
  pub late : List (List ℕ) → Refusal
  -- a line under the 65th name and later ones, and the prefix of what it is answered
  pub crowded : Refusal
  pub crowded_prefix : List ℕ → List ℕ
