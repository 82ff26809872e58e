-- The first generation of a definition's object, which nobody owns.
use Rattle.std.specs.Prelude.{Option, None}
use Rattle.std.specs.Option.{option_map}
use Rattle.aw_schema.specs.declared.definition.Def.{Def}
use Rattle.aw_body.specs.declared.body.Body.{Body}
use Rattle.aw_body.specs.Bodies.{first_body}
use Rattle.mv_core.specs.declared.object.Object.{Object}

abbrev pub first_object : Body → Object Body
first_object body = record { number = 1; body = body; owner = None }

abbrev pub first_object_of : Def → Option (Object Body)
first_object_of def = option_map first_object (first_body def.kind)
