-- The limits on a statement: at most 200 marks in a line, and blocks that nest at most 32 deep.
use Rattle.std.specs.Prelude.{ℕ, ◌+◌, ◌-◌, Bool, true, false, not, ◌&&◌, cond, nat_le, List, [], ◌∷◌}
use Rattle.dml_tree.specs.declared.word.Word.TheVariants as w
use Rattle.dml_tree.specs.declared.token.Sort.{Sort}
use Rattle.dml_tree.specs.declared.token.Sort.TheVariants as s
use Rattle.dml_tree.specs.Sorts.{sort_of}
use Rattle.dml_tree.specs.Marks.{is_mark, is_function, is_opening}
use Rattle.dml_forms.specs.Forms.{among}
use Rattle.dml_grammar.specs.declared.placed.Placed.{Placed}
use Rattle.dml_grammar.specs.declared.limits.Counts.{Counts}
use Rattle.dml_grammar.specs.Sorts.{sort, a_word, words_of}

abbrev pub is_if : Sort → Bool
is_if (s.Word w.If) = true
is_if _ = false

-- Whether a token is a mark; called says that it stands behind a function's name, whose parenthesis is no further mark.
-- An IF that begins a line is a step and no mark.
abbrev pub is_mark_here : Bool → Placed → Bool
is_mark_here called x = is_mark (sort_of x.token.what) && not (called && is_opening (sort_of x.token.what)) && not (x.first && is_if (sort_of x.token.what))

-- the marks of the line behind one more token
abbrev pub marks_after : Counts → Placed → ℕ
marks_after c x = cond (is_mark_here c.called x) (cond x.first 0 c.marks + 1) (cond x.first 0 c.marks)

-- the first words of a line that open a block
abbrev pub openers : List ℕ
openers = words_of (w.While ∷ w.For ∷ w.If ∷ w.Else ∷ [])

-- the depth of blocks behind a token
abbrev pub depth_after : ℕ → Placed → ℕ
depth_after depth x = cond x.first (cond (among (sort x) openers) (depth + 1) (cond (among (sort x) (a_word w.DoEnd ∷ [])) (depth - 1) depth)) depth

-- the counts behind one more token
abbrev pub counted : Counts → Placed → Counts
counted c x = record {
  called = is_function (sort_of x.token.what);
  marks = marks_after c x;
  depth = depth_after c.depth x;
}

abbrev pub is_allowed : Counts → Bool
is_allowed c = nat_le c.marks 200 && nat_le c.depth 32

-- these tokens keep the limits, counted on from here
abbrev pub keeps_from : Counts → List Placed → Bool
keeps_from c [] = true
keeps_from c (x ∷ xs) = is_allowed (counted c x) && keeps_from (counted c x) xs

abbrev pub none_counted : Counts
none_counted = record { called = false; marks = 0; depth = 0 }

-- the tokens keep the limits
abbrev pub keeps_limits : List Placed → Bool
keeps_limits xs = keeps_from none_counted xs
