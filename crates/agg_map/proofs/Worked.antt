-- Worked cases, each worked out by hand: maps, and every refusal with its line.
use Rattle.std.specs.Prelude.{◌≡◌, List, [], ◌∷◌, ◌++◌, Some, None, Ok, Err, codes}
use Rattle.std.proofs.Common.{refl}
use Rattle.aw_cell.specs.declared.operator.Operator.TheVariants.{Sum, Max, Spread}
use Rattle.aw_cell.specs.declared.operator.Rest.TheVariants as rest_is
use Rattle.aw_cell.specs.declared.operator.Spread.TheVariants.{Even, HEven, Copy}
use Rattle.aw_schema.specs.declared.definition.Def.{Def}
use Rattle.aw_schema.specs.declared.definition.DefKind.TheVariants.{Dimension, Relation}
use Rattle.dml_tree.specs.TokensIn.{tokens_in}
use Rattle.dml_forms.specs.inside.LookAhead.{reading}
use Rattle.dml_grammar.specs.Trees.{tree_of}
use Rattle.dml_lines.specs.Lines.{definition_in}
use Rattle.agg_map.specs.declared.fault.MapFault.TheVariants.{Syntax, Unknown, WrongKind, Repeat}
use Rattle.agg_map.specs.Maps.{line_in}
use Rattle.agg_map.specs.Texts.{map_in}

-- two dimensions, for each of them a relation to itself, and a relation from one to the other
abbrev catalogue : List Def
catalogue =
    record { name = codes "d"; kind = Dimension } ∷ record { name = codes "e"; kind = Dimension }
    ∷ record { name = codes "up"; kind = Relation 0 0 } ∷ record { name = codes "over"; kind = Relation 1 1 } ∷ record { name = codes "x"; kind = Relation 1 0 } ∷ []

-- names in any case, a comment, a blank line
combined : map_in catalogue (codes "RELATION UP OPERATOR SUM" ++ 10 ∷ 10 ∷ codes " relation over operator max \"top") ≡ Ok (record {
  lines = record { relation = 2; operator = Sum; rest = None } ∷ record { relation = 3; operator = Max; rest = None } ∷ [];
  dimensions = 0 ∷ 1 ∷ [];
})
unfolding definition_in tokens_in tree_of reading line_in
combined = refl

-- where nothing is written, the first child gets what is left
shared_out : map_in catalogue (codes "RELATION over OPERATOR EVEN") ≡ Ok (record { lines = record { relation = 3; operator = Spread Even; rest = Some rest_is.First } ∷ []; dimensions = 1 ∷ [] })
unfolding definition_in tokens_in tree_of reading line_in
shared_out = refl

remainder : map_in catalogue (codes "RELATION up OPERATOR HEVEN REMOPERATOR MIN") ≡ Ok (record { lines = record { relation = 2; operator = Spread HEven; rest = Some rest_is.Min } ∷ []; dimensions = 0 ∷ [] })
unfolding definition_in tokens_in tree_of reading line_in
remainder = refl

copied : map_in catalogue (codes "RELATION up OPERATOR COPY") ≡ Ok (record { lines = record { relation = 2; operator = Spread Copy; rest = None } ∷ []; dimensions = 0 ∷ [] })
unfolding definition_in tokens_in tree_of reading line_in
copied = refl

-- a text without lines, and one of two blank lines: the line behind the last one
no_line : map_in catalogue [] ≡ Err (Syntax 1 1)
unfolding definition_in tokens_in tree_of reading
no_line = refl

blank_lines : map_in catalogue (10 ∷ []) ≡ Err (Syntax 3 1)
unfolding definition_in tokens_in tree_of reading
blank_lines = refl

-- END in the text, also as its last line
end_inside : map_in catalogue (codes "RELATION up OPERATOR SUM" ++ 10 ∷ codes " END") ≡ Err (Syntax 2 2)
unfolding definition_in tokens_in tree_of reading
end_inside = refl

-- a line ends with LF alone
carriage_return : map_in catalogue (codes "RELATION up OPERATOR SUM" ++ 13 ∷ []) ≡ Err (Syntax 1 25)
unfolding definition_in tokens_in tree_of reading
carriage_return = refl

-- a fault of the language in a later line comes before an unknown name
language_first : map_in catalogue (codes "RELATION z OPERATOR SUM" ++ 10 ∷ codes "RELATION up SUM") ≡ Err (Syntax 2 13)
unfolding definition_in tokens_in tree_of reading
language_first = refl

unknown : map_in catalogue (codes "RELATION up OPERATOR MIN" ++ 10 ∷ 10 ∷ codes "RELATION Z OPERATOR SUM") ≡ Err (Unknown 3 (codes "Z"))
unfolding definition_in tokens_in tree_of reading line_in
unknown = refl

to_another_dimension : map_in catalogue (codes "RELATION X OPERATOR SUM") ≡ Err (WrongKind 1 (codes "x"))
unfolding definition_in tokens_in tree_of reading line_in
to_another_dimension = refl

no_relation : map_in catalogue (codes "RELATION d OPERATOR SUM") ≡ Err (WrongKind 1 (codes "d"))
unfolding definition_in tokens_in tree_of reading line_in
no_relation = refl

-- the line is too many with which the lines so far are no map
too_many : map_in catalogue (codes "RELATION up OPERATOR EVEN" ++ 10 ∷ codes "RELATION over OPERATOR SUM") ≡ Err (WrongKind 2 (codes "over"))
unfolding definition_in tokens_in tree_of reading line_in
too_many = refl

-- that comes before a dimension that an earlier line has
too_many_first : map_in catalogue (codes "RELATION up OPERATOR SUM" ++ 10 ∷ codes "RELATION up OPERATOR COPY") ≡ Err (WrongKind 2 (codes "up"))
unfolding definition_in tokens_in tree_of reading line_in
too_many_first = refl

twice : map_in catalogue (codes "RELATION up OPERATOR SUM" ++ 10 ∷ codes "RELATION Up OPERATOR SUM") ≡ Err (Repeat 2 (codes "d"))
unfolding definition_in tokens_in tree_of reading line_in
twice = refl
