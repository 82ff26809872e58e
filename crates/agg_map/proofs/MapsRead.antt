-- What is answered of lines, one by one.
use Rattle.std.specs.Prelude.{ℕ, suc, ◌≡◌, ◌==◌, ◌&&◌, ◌||◌, ◌<◌, ◌+◌, ◌-◌, Bool, true, false, not, cond, is_some, List, [], ◌∷◌, ◌++◌, length, drop, get_or, fold, slice_get, Option, Some, None, Ok, Err, IsTrue, All}
use Rattle.std.specs.List.{list_any, IsDistinct}
use Rattle.std.specs.Cmp.{nat_eq_equiv}
use Rattle.std.proofs.Common.{◌∙◌, ap, ap₂, sym, subst, refl, arith}
use Rattle.std.proofs.Math.Seq.{drop-cons}
use Rattle.std.proofs.lemmas.Bool.{eqb-true}
use Rattle.std.proofs.lemmas.Bool.Decides.{nat_tests}
use Rattle.std.proofs.lemmas.List.{length-append}
use Rattle.std.proofs.lemmas.List.Folds.{list_any-append}
use Rattle.std.proofs.lemmas.List.Elements.{All-nil, All-push}
use Rattle.std.proofs.lemmas.Map.Keys.{IsDistinct-push}
use Rattle.aw_cell.specs.declared.operator.Operator.{Operator}
use Rattle.aw_cell.specs.declared.operator.Operator.TheVariants as operator
use Rattle.aw_cell.specs.declared.operator.Spread.TheVariants.{Even, HEven, Proportional, Copy, HCopy}
use Rattle.aw_schema.specs.Definitions.{object_of}
use Rattle.aw_schema.specs.declared.definition.Def.{Def}
use Rattle.dml_tree.specs.declared.definition.MapLine.{MapLine as Written}
use Rattle.dml_tree.specs.declared.definition.Remainder.{Remainder}
use Rattle.agg_map.specs.declared.fault.MapFault.{MapFault}
use Rattle.agg_map.specs.declared.fault.MapFault.TheVariants.{WrongKind, Repeat}
use Rattle.agg_map.specs.declared.line.MapLine.{MapLine}
use Rattle.agg_map.specs.Maps.{Map, LineRead, allocates, rest_of, own_dimension, one_allocates, is_too_many, named, along, of_object, of_name, longer, appended, with_line, line_in, lines_in}
use Rattle.agg_map.specs.Sound.{leaves_rest, IsSound}
use Rattle.agg_map.specs.inside.Telling.{lines_behind}

pub stays : (catalogue : List Def) (fault : MapFault) (lines : List Written) → fold (with_line catalogue) (Err fault) lines ≡ Err fault
stays catalogue fault [] = refl
stays catalogue fault (line ∷ lines) = stays catalogue fault lines

drop-here : (written : List Written) (i : ℕ) (line : Written) → i < length written → line ≡ get_or written i line → drop i written ≡ line ∷ drop (i + 1) written
drop-here written i line within here =
    let next : suc i ≡ i + 1 = omega arith in
    drop-cons written i line within ∙ ap₂ (λ (l : Written) (ls : List Written). l ∷ ls) (sym here) (ap (λ k. drop k written) next)

module _ (catalogue : List Def) (written : List Written) (i : ℕ) (map : Map) (line : Written) (within : i < length written) (here : line ≡ get_or written i line) (read : lines_behind catalogue map (drop i written) ≡ lines_in catalogue written) where
  from-here : fold (with_line catalogue) (appended map (line_in catalogue map line)) (drop (i + 1) written) ≡ lines_in catalogue written
  from-here = ap (lines_behind catalogue map) (sym (drop-here written i line within here)) ∙ read

  -- the next line is one of the map
  pub one_more : (new : MapLine × ℕ) → line_in catalogue map line ≡ Ok new → lines_behind catalogue (longer map new) (drop (i + 1) written) ≡ lines_in catalogue written
  one_more new is = ap (λ (r : LineRead). fold (with_line catalogue) (appended map r) (drop (i + 1) written)) (sym is) ∙ from-here

  -- the next line is refused
  pub stops : (fault : MapFault) → line_in catalogue map line ≡ Err fault → lines_in catalogue written ≡ Err fault
  stops fault is =
      sym from-here ∙ ap (λ (r : LineRead). fold (with_line catalogue) (appended map r) (drop (i + 1) written)) is ∙ stays catalogue fault (drop (i + 1) written)

-- ---- what holds of every map

rest-fits : (o : Operator) (rest : Remainder) → is_some (rest_of o rest) ≡ leaves_rest o
rest-fits operator.Sum rest = refl
rest-fits operator.Min rest = refl
rest-fits operator.Max rest = refl
rest-fits operator.Average rest = refl
rest-fits operator.Count rest = refl
rest-fits (operator.Spread Even) rest = refl
rest-fits (operator.Spread HEven) rest = refl
rest-fits (operator.Spread Proportional) rest = refl
rest-fits (operator.Spread Copy) rest = refl
rest-fits (operator.Spread HCopy) rest = refl

-- what the last line of a map has to do with the earlier ones
record Joins (map : Map) (new : MapLine × ℕ) : Type 0 where
  single : is_too_many map.lines new.0.operator ≡ false
  other : list_any (λ d. d == new.1) map.dimensions ≡ false
  rest : is_some new.0.rest ≡ leaves_rest new.0.operator

module _ (catalogue : List Def) (map : Map) (line : Written) (new : MapLine × ℕ) where
  along-joins : (object : ℕ) (def : Def) (own : Option ℕ) → is_too_many map.lines line.operator ≡ false → along catalogue map.dimensions line object def own ≡ Ok new → Joins map new
  along-joins object def None fits is = absurd cc
  along-joins object def (Some dimension) fits is = by (list_any (λ d. d == dimension) map.dimensions) refl is
    where
      row : MapLine
      row = record { relation = object; operator = line.operator; rest = rest_of line.operator line.rest }

      by : (among : Bool) → list_any (λ d. d == dimension) map.dimensions ≡ among → cond among (Err (Repeat (line.line - 1) (named (slice_get catalogue dimension) def.name))) (Ok (row, dimension)) ≡ Ok new → Joins map new
      by true e is = absurd cc
      by false e is =
          let same : (let it : MapLine × ℕ = (row, dimension) in it ≡ new) = cc in
          subst (λ (n : MapLine × ℕ). Joins map n) same (record { single = fits; other = e; rest = rest-fits line.operator line.rest })

  object-joins : (object : ℕ) (def : Option Def) → of_object catalogue map line object def ≡ Ok new → Joins map new
  object-joins object None is = absurd cc
  object-joins object (Some def) is = by (is_too_many map.lines line.operator) refl is
    where
      by : (many : Bool) → is_too_many map.lines line.operator ≡ many → cond many (Err (WrongKind (line.line - 1) def.name)) (along catalogue map.dimensions line object def (own_dimension def.kind)) ≡ Ok new → Joins map new
      by true e is = absurd cc
      by false e is = along-joins object def (own_dimension def.kind) e is

  name-joins : (object : Option ℕ) → of_name catalogue map line object ≡ Ok new → Joins map new
  name-joins None is = absurd cc
  name-joins (Some object) is = object-joins object (slice_get catalogue object) is

  line-joins : line_in catalogue map line ≡ Ok new → Joins map new
  unfolding line_in
  line-joins is = name-joins (object_of catalogue line.relation) is

bools : (a b c : Bool) → (a || (b && not c)) ≡ false → (a || (b || false)) ≡ true → c ≡ true
bools true b c single one = absurd cc
bools false true true single one = refl
bools false true false single one = absurd cc
bools false false c single one = absurd cc

turned : (d : ℕ) (ds : List ℕ) → list_any (λ e. d == e) ds ≡ list_any (λ e. e == d) ds
turned d [] = refl
turned d (e ∷ ds) = ap₂ (λ (a b : Bool). a || b) (grind (arith, nat_tests)) (turned d ds)

module _ (map : Map) (new : MapLine × ℕ) (joins : Joins map new) (sound : IsSound map.lines map.dimensions) where
  single-is : IsTrue (one_allocates (map.lines ++ new.0 ∷ [])) → length (map.lines ++ new.0 ∷ []) ≡ 1
  single-is one =
      let either : (one_allocates map.lines || (allocates new.0.operator || false)) ≡ true = sym (list_any-append (λ (line : MapLine). allocates line.operator) map.lines (new.0 ∷ [])) ∙ one in
      let none : (length map.lines == 0) ≡ true = bools (one_allocates map.lines) (allocates new.0.operator) (length map.lines == 0) joins.single either in
      omega (arith, eqb-true (length map.lines) 0 none, length-append map.lines (new.0 ∷ []))

  sound-longer : IsSound (map.lines ++ new.0 ∷ []) (map.dimensions ++ new.1 ∷ [])
  sound-longer = record {
    paired = omega (arith, sound.paired, length-append map.lines (new.0 ∷ []), length-append map.dimensions (new.1 ∷ []));
    differ = IsDistinct-push nat_eq_equiv map.dimensions new.1 sound.differ (turned new.1 map.dimensions ∙ joins.other);
    alone = single-is;
    rests = All-push (λ (line : MapLine). is_some line.rest ≡ leaves_rest line.operator) map.lines new.0 sound.rests joins.rest;
  }

pub sound_more : (catalogue : List Def) (map : Map) (line : Written) (new : MapLine × ℕ) → line_in catalogue map line ≡ Ok new → IsSound map.lines map.dimensions → IsSound (map.lines ++ new.0 ∷ []) (map.dimensions ++ new.1 ∷ [])
sound_more catalogue map line new is sound = sound-longer map new (line-joins catalogue map line new is) sound

pub sound_none : IsSound [] []
unfolding IsDistinct
sound_none = record { paired = refl; differ = tt; alone = λ one. absurd cc; rests = All-nil (λ (line : MapLine). is_some line.rest ≡ leaves_rest line.operator) }
