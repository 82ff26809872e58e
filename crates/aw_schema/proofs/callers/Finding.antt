-- How names are found in the index, and first places.
use Rattle.std.specs.Prelude.{ℕ, ◌≡◌, ◌+◌, ◌<◌, ◌≤◌, Bool, true, List, [], ◌∷◌, zero, suc, is_some, length, map, Some, None, position, find, not, slice_get}
use Rattle.std.specs.List.{prefix_len, position_or_len}
use Rattle.std.specs.Option.{option_and_then, option_map}
use Rattle.std.specs.Global.{Vec}
use Rattle.std.specs.Str.{bytes_eq}
use Rattle.std.proofs.Common.{◌∙◌, ap, sym, refl, cond, ltb, lt-ltb, le-ltb, arith, inl, inr}
use Rattle.std.proofs.lemmas.List.{length-map}
use Rattle.std.proofs.lemmas.List.Folds.{find_at}
use Rattle.std.proofs.lemmas.Option.{slice_get_past}
use Rattle.std.proofs.lemmas.Bool.{cases_lt}
use Rattle.indexmap.specs.IndexMap.{IndexMap, keys, values, index_of_by}
use Rattle.aw_cell.specs.Names.{lowercase}
use Rattle.aw_schema.specs.declared.definition.Def.{Def}
use Rattle.aw_schema.specs.declared.fault.SchemaFault.TheVariants.{Repeat}
use Rattle.aw_schema.specs.Definitions.{object_of, has_name}
use Rattle.aw_schema.specs.Checking.{repeated_name}

prefix_len-map : {A B : Type 0} (f : A → B) (p : B → Bool) (xs : List A) → prefix_len p (map f xs) ≡ prefix_len (λ x. p (f x)) xs
prefix_len-map f p [] = refl
prefix_len-map f p (x ∷ xs) = ap (λ n. cond (p (f x)) (1 + n) 0) (prefix_len-map f p xs)

-- the first place in a list of what is made of each element
pub position-map : {A B : Type 0} (f : A → B) (p : B → Bool) (xs : List A) → position p (map f xs) ≡ position (λ x. p (f x)) xs
position-map f p xs =
    ap (λ n. cond (ltb n (length (map f xs))) (Some n) None) (prefix_len-map f (λ y. not (p y)) xs)
    ∙ ap (λ n. cond (ltb (position_or_len (λ x. p (f x)) xs) n) (Some (position_or_len (λ x. p (f x)) xs)) None) (length-map xs f)

slice_get-some : {A : Type 0} (xs : List A) (i : ℕ) → i < length xs → is_some (slice_get xs i) ≡ true
slice_get-some [] i within = absurd (omega arith)
slice_get-some (x ∷ xs) zero within = refl
slice_get-some (x ∷ xs) (suc i) within = slice_get-some xs i (omega arith)

module _ {A : Type 0} (p : A → Bool) (xs : List A) where
  there : position_or_len p xs < length xs → position p xs ≡ Some (position_or_len p xs)
  there below = ap (λ b. cond b (Some (position_or_len p xs)) None) (lt-ltb (position_or_len p xs) (length xs) below)

  nowhere : length xs ≤ position_or_len p xs → position p xs ≡ None
  nowhere past = ap (λ b. cond b (Some (position_or_len p xs)) None) (le-ltb (position_or_len p xs) (length xs) past)

  -- the element at the first place that passes is the first one that passes
  pub find-position : find p xs ≡ option_and_then (slice_get xs) (position p xs)
  find-position =
      find_at p xs ∙ elim (cases_lt (position_or_len p xs) (length xs)) [
        | inl below ↦ sym (ap (option_and_then (slice_get xs)) (there below))
        | inr past ↦ slice_get_past xs (position_or_len p xs) past ∙ sym (ap (option_and_then (slice_get xs)) (nowhere past))
      ]

  -- there is a first place exactly where there is a first element
  pub found-same : is_some (position p xs) ≡ is_some (find p xs)
  found-same =
      elim (cases_lt (position_or_len p xs) (length xs)) [
        | inl below ↦ ap is_some (there below) ∙ sym (ap is_some (find_at p xs) ∙ slice_get-some xs (position_or_len p xs) below)
        | inr past ↦ ap is_some (nowhere past) ∙ sym (ap is_some (find_at p xs ∙ slice_get_past xs (position_or_len p xs) past))
      ]

-- the place of a name in lower case among the keys is the object that has the name
pub object_of-indexed : {S : Type 0} (defs : IndexMap (Vec ℕ) Def S) (key name : List ℕ) → key ≡ lowercase name → map (λ key. key.items) (keys defs) ≡ map (λ (def : Def). lowercase def.name) (values defs) → index_of_by (λ k. bytes_eq key k.items) defs ≡ object_of (values defs) name
object_of-indexed defs key name lowered names =
    sym (position-map (λ (k : Vec ℕ). k.items) (bytes_eq key) (keys defs))
    ∙ ap (position (bytes_eq key)) names
    ∙ position-map (λ (def : Def). lowercase def.name) (bytes_eq key) (values defs)
    ∙ ap (λ word. position (λ (def : Def). bytes_eq word (lowercase def.name)) (values defs)) lowered

-- the object that has a name is the one that is found
pub repeated_name_found : (catalogue : List Def) (name : List ℕ) → repeated_name catalogue name ≡ option_map (λ (def : Def). Repeat def.name) (option_and_then (slice_get catalogue) (object_of catalogue name))
repeated_name_found catalogue name = ap (option_map (λ (def : Def). Repeat def.name)) (find-position (has_name name) catalogue)
