-- Whether a view fits what is committed and who owns what.
use Rattle.std.specs.Prelude.{ℕ, ◌≡◌, ◌↔◌, true, false, List, Some, IfSome}
use Rattle.aw_schema.specs.declared.definition.Def.{Def}
use Rattle.aw_schema.specs.declared.definition.DefKind.TheVariants.{Dimension}
use Rattle.aw_body.specs.declared.body.Body.{Body}
use Rattle.aw_body.specs.declared.change.Change.{Change}
use Rattle.aw_body.specs.Generations.{Bodies, IsGeneration, latest_number}
use Rattle.aw_body.specs.Owners.{Owners, owner_of}
use Rattle.mv_view.specs.ViewState.{ObjectView, ViewState, object_of, kinds_of, kept_kinds}

-- What a session sees of an object fits: the base is the generation that has the number; the mark owned stands exactly
-- where the session is the owner; an owned object has the latest number; of any other nothing is staged, and it isn't
-- leaving; a dimension's private body is its staged body.
pub record ObjectFits (bodies : Bodies Body Change) (history : List (List Change)) (owners : Owners) (who object : ℕ) (seen : ObjectView) : Type 0 where
  pub base : IsGeneration bodies history object seen.number seen.base
  pub owned : (seen.owned ≡ true) ↔ (owner_of owners object ≡ Some who)
  pub latest : seen.owned ≡ true → seen.number ≡ latest_number bodies history object
  pub unstaged : seen.owned ≡ false → seen.staged ≡ seen.base
  pub staying : seen.owned ≡ false → seen.leaving ≡ false
  pub dimension : seen.kind ≡ Dimension → seen.private ≡ seen.staged

-- the view is of these definitions, and what it sees of each object fits
pub record Fits (definitions : List Def) (bodies : Bodies Body Change) (history : List (List Change)) (owners : Owners) (view : ViewState) : Type 0 where
  pub kinds : kinds_of view ≡ kept_kinds definitions
  pub each : (object : ℕ) → IfSome (object_of view object) (ObjectFits bodies history owners view.who object)
