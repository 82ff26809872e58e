-- What the objects of a catalogue hold, and what a change does to them.
use Rattle.std.specs.Prelude.{ℕ, Bool, false, List, [], Option, Some, None, slice_get}
use Rattle.std.specs.Option.{option_and_then, unwrap_or}
use Rattle.aw_schema.specs.declared.definition.Def.{Def}
use Rattle.aw_body.specs.declared.body.Body.{Body}
use Rattle.aw_body.specs.declared.body.Body.TheVariants.{Set}
use Rattle.aw_body.specs.declared.change.Change.{Change}
use Rattle.aw_body.specs.Bodies.{first_body}
use Rattle.aw_body.specs.BodyPatches.{applied}
use Rattle.aw_body.specs.Fitting.{fits}
use Rattle.aw_body.specs.Generations.{Bodies}

-- a change fits an object that is there
abbrev pub fits_definition : Option Def → Body → Change → Bool
fits_definition None latest change = false
fits_definition (Some def) latest change = fits change.patch def.kind latest

-- the bodies of these definitions, from these numbers and bodies on
abbrev pub bodies_from : List Def → (ℕ → ℕ) → (ℕ → Body) → Bodies Body Change
bodies_from definitions numbers firsts = record {
  first = firsts;
  first_number = numbers;
  object = λ change. change.object;
  applied = λ body change. applied body change.patch;
  fits = λ latest change. fits_definition (slice_get definitions change.object) latest change;
}

-- the first body of an object; one that isn't kept has none, and counts as a list without slots
abbrev pub first_of : List Def → ℕ → Body
first_of definitions object = unwrap_or (option_and_then (λ (def : Def). first_body def.kind) (slice_get definitions object)) (Set [])

-- the bodies of these definitions, from the first generation on, which has the number 1
abbrev pub bodies_of : List Def → Bodies Body Change
bodies_of definitions = bodies_from definitions (λ object. 1) (first_of definitions)
