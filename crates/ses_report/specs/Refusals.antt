-- The causes for which a line is refused, each by its number and detail.
use Rattle.std.specs.Prelude.{ℕ, List}
use Rattle.ses_report.specs.declared.refusal.Detail.{Detail}
use Rattle.ses_report.specs.declared.refusal.Detail.TheVariants.{Nothing, Column, One, Two, Count}
use Rattle.ses_report.specs.declared.refusal.Refusal.{Refusal}

-- 1: no line or block of this form runs yet
abbrev pub no_form : Refusal
no_form = record { number = 1; line = 0; detail = Column 1 }

-- 1: the tokens up to this column begin nothing
abbrev pub syntax : ℕ → Refusal
syntax column = record { number = 1; line = 0; detail = Column column }

-- 2: no object of this name is defined
abbrev pub unknown : List ℕ → Refusal
unknown name = record { number = 2; line = 0; detail = One name }

-- 3: the object isn't of the kind that is wanted
abbrev pub wrong_kind : List ℕ → Refusal
wrong_kind name = record { number = 3; line = 0; detail = One name }

-- 4: types don't fit
abbrev pub types_differ : Refusal
types_differ = record { number = 4; line = 0; detail = Nothing }

-- 5: dimensions don't fit
abbrev pub dimensions_differ : Refusal
dimensions_differ = record { number = 5; line = 0; detail = Nothing }

-- 6: the dimension has no such value
abbrev pub no_value : List ℕ → Refusal
no_value text = record { number = 6; line = 0; detail = One text }

-- 7: an object of this name is there already, or the dimension comes twice
abbrev pub repeated : List ℕ → Refusal
repeated name = record { number = 7; line = 0; detail = One name }

-- 8: a dimension has no value to go over
abbrev pub null_status : List ℕ → Refusal
null_status name = record { number = 8; line = 0; detail = One name }

-- 9: a result is out of its range
abbrev pub overflow : Refusal
overflow = record { number = 9; line = 0; detail = Nothing }

-- 10: a division by zero
abbrev pub zero_divisor : Refusal
zero_divisor = record { number = 10; line = 0; detail = Nothing }

-- 14: there would be too many objects, or dimensions of a variable
abbrev pub too_many : Refusal
too_many = record { number = 14; line = 0; detail = Nothing }

-- 14: the record of a commit would have too many bytes
abbrev pub too_large : Refusal
too_large = record { number = 14; line = 0; detail = Nothing }

-- 15: the session isn't attached
abbrev pub not_attached : Refusal
not_attached = record { number = 15; line = 0; detail = Nothing }

-- 16: the session is attached already
abbrev pub already_attached : Refusal
already_attached = record { number = 16; line = 0; detail = Nothing }

-- 17: another session owns the object
abbrev pub owned_by : List ℕ → List ℕ → Refusal
owned_by object owner = record { number = 17; line = 0; detail = Two object owner }

-- 18: the object's latest generation, of this number, is newer than the session's
abbrev pub newer : List ℕ → ℕ → Refusal
newer object number = record { number = 18; line = 0; detail = Count object number }

-- 19: the session doesn't own the object
abbrev pub not_acquired : List ℕ → Refusal
not_acquired object = record { number = 19; line = 0; detail = One object }

-- 20: the session owns the object
abbrev pub acquired : List ℕ → Refusal
acquired object = record { number = 20; line = 0; detail = One object }

-- 21: no object can be defined any more
abbrev pub definitions_closed : Refusal
definitions_closed = record { number = 21; line = 0; detail = Nothing }

-- 22: the object has the last generation that can be numbered
abbrev pub full : List ℕ → Refusal
full object = record { number = 22; line = 0; detail = One object }

-- 23: the session is attached for reading alone
abbrev pub read_only : Refusal
read_only = record { number = 23; line = 0; detail = Nothing }

-- 24: the line of a program begins with a word that stands in lines of a session alone
abbrev pub not_in_a_program : Refusal
not_in_a_program = record { number = 24; line = 0; detail = Nothing }

-- 27: the line is too long, or has a byte that no line has
abbrev pub bad_line : Refusal
bad_line = record { number = 27; line = 0; detail = Nothing }

-- 28: the run has as many sessions as it may have
abbrev pub too_many_sessions : Refusal
too_many_sessions = record { number = 28; line = 0; detail = Nothing }

-- 30: the disk failed in a commit
abbrev pub disk_fault : Refusal
disk_fault = record { number = 30; line = 0; detail = Nothing }

-- the same in this line of a block
abbrev pub in_line : ℕ → Refusal → Refusal
in_line line refusal = record refusal { line = line }
