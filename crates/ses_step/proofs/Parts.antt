-- The lists of an ACQUIRE, cut out of the objects that it names.
use Rattle.std.specs.Prelude.{ℕ, ◌≡◌, ◌+◌, min, List, length, take, drop}
use Rattle.std.proofs.Common.{◌∙◌, ap}
use Rattle.std.proofs.lemmas.List.{take_min, drop_min, drop-drop}

module _ (keep fresh : ℕ) (objects : List ℕ) where
  pub kept : take (min keep (length objects)) objects ≡ take keep objects
  kept = take_min keep objects

  abbrev others : List ℕ
  others = drop (min keep (length objects)) objects

  pub renewed : take (min fresh (length others)) others ≡ take fresh (drop keep objects)
  renewed = take_min fresh others ∙ ap (take fresh) (drop_min keep objects)

  pub watched : drop (min fresh (length others)) others ≡ drop (keep + fresh) objects
  watched = drop_min fresh others ∙ ap (drop fresh) (drop_min keep objects) ∙ drop-drop fresh keep objects
