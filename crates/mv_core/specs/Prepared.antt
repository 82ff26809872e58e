-- An entry that was looked at: the reply that it will have, and what is to be done for it.
use Rattle.std.specs.Prelude.{◌≡◌, Bool, true, false, List, ◌∷◌, All, Option, Some, None, slice_get}
use Rattle.aw_schema.specs.declared.definition.Def.{Def}
use Rattle.aw_body.specs.declared.body.Body.{Body}
use Rattle.aw_body.specs.declared.change.Fresh.{Fresh}
use Rattle.aw_body.specs.Bodies.{IsBodyOf}
use Rattle.mv_core.specs.declared.entry.Reply.{Reply}
use Rattle.mv_core.specs.declared.object.Object.{Object}
use Rattle.mv_core.specs.declared.ready.Todo.{Todo}
use Rattle.mv_core.specs.declared.ready.Todo.TheVariants.{Nothing, Take, Renew, Free, FreeAll}
use Rattle.mv_core.specs.declared.entry.Entry.{Entry}
use Rattle.mv_core.specs.Replies.{reply_of}
use Rattle.mv_core.specs.SharedStep.{writes}
use Rattle.mv_core.specs.Effects.{objects_after, each, take_listed, free_listed, free_own, renewed}

pub record Prepared : Type 0 where
  pub reply : Reply
  pub todo : Todo

-- the objects after it is done
abbrev pub settled : List (Option (Object Body)) → Todo → List (Option (Object Body))
settled objects Nothing = objects
settled objects (Take who listed) = each (take_listed who listed) objects
settled objects (Renew who made leave) = each (free_listed who leave) (each (renewed made) objects)
settled objects (Free who listed) = each (free_listed who listed) objects
settled objects (FreeAll who) = each (free_own who) objects

-- whether it makes new generations
abbrev pub makes : Todo → Bool
makes (Renew who (fresh ∷ made) leave) = true
makes _ = false

-- a body of the form of a definition, where there is one
abbrev pub HasForm : Body → Option Def → Type 0
HasForm body None = Unit {0}
HasForm body (Some def) = IsBodyOf def.kind body

-- a new generation of the form of its object's definition
abbrev pub IsOfForm : List Def → Fresh → Type 0
IsOfForm definitions fresh = HasForm fresh.body (slice_get definitions fresh.object)

-- the new bodies have the forms of their objects' definitions
abbrev pub HasForms : List Def → Todo → Type 0
HasForms definitions (Renew who made leave) = All (IsOfForm definitions) made
HasForms definitions _ = Unit {0}

-- what an entry is prepared to, where the objects stand so
abbrev pub IsReadyFor : List Def → List (Option (Object Body)) → Entry → Prepared → Type 0
IsReadyFor definitions objects entry ready =
    (ready.reply ≡ reply_of definitions objects entry)
    × (settled objects ready.todo ≡ objects_after objects entry ready.reply)
    × (makes ready.todo ≡ writes entry ready.reply)
    × HasForms definitions ready.todo
