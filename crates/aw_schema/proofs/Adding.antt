-- How the index takes a definition that isn't refused.
use Rattle.std.specs.Prelude.{ℕ, ◌≡◌, ◌+◌, ◌<◌, ◌≤◌, ◌∷◌, ◌++◌, Bool, List, [], length, map, find, Option, Some, None, is_some, IsTrue}
use Rattle.std.specs.Global.{Vec}
use Rattle.std.specs.Option.{option_or, option_map}
use Rattle.std.specs.Str.{bytes_eq}
use Rattle.std.proofs.Common.{◌∙◌, ap, ap₂, sym, refl, subst, arith, length-append}
use Rattle.std.proofs.lemmas.Bool.{and_parts}
use Rattle.std.proofs.lemmas.List.{map-append}
use Rattle.std.proofs.lemmas.List.Sums.{fold-append}
use Rattle.indexmap.specs.IndexMap.{IndexMap, keys, values, get, insert_entry}
use Rattle.indexmap.proofs.MapLemmas.{some_index}
use Rattle.indexmap.proofs.CallerLemmas.{insert_entry-new}
use Rattle.aw_cell.specs.Names.{is_name, lowercase}
use Rattle.aw_schema.specs.declared.definition.Def.{Def}
use Rattle.aw_schema.specs.declared.fault.SchemaFault.TheVariants.{Repeat}
use Rattle.aw_schema.specs.Definitions.{is_spellable, has_form, has_name, object_of}
use Rattle.aw_schema.specs.Checking.{AreAccepted, refusal, repeated_name}
use Rattle.aw_schema.specs.RecordLength.{definition_len, record_len}
use Rattle.aw_schema.specs.inside.Indexed.{IsIndexed}
use Rattle.aw_schema.proofs.callers.Finding.{object_of-indexed, found-same}
use Rattle.aw_schema.proofs.Accepting.{accepted-push}

pub form-spellable : (def : Def) → IsTrue (is_spellable def) → IsTrue (has_form def.kind)
form-spellable def spellable = (and_parts (is_name def.name) (has_form def.kind) spellable).1

first-none : {A : Type 0} (x y : Option A) → option_or x y ≡ None → x ≡ None
first-none None y none = refl
first-none (Some a) y none = none

none-map : {A B : Type 0} (f : A → B) (x : Option A) → option_map f x ≡ None → x ≡ None
none-map f None none = refl
none-map f (Some a) none = cc

none-some : {A : Type 0} (x : Option A) → is_some x ≡ is_some {T = A} None → x ≡ None
none-some None same = refl
none-some (Some a) same = cc

record_len-push : (all : List Def) (one : Def) → record_len (all ++ one ∷ []) ≡ record_len all + definition_len one
record_len-push all one = omega (arith, fold-append (λ a def. a + definition_len def) 0 all (one ∷ []))

-- where no object repeats a name, none is found by it
found-none : (all : List Def) (name : List ℕ) → repeated_name all name ≡ None → is_some (object_of all name) ≡ is_some {T = ℕ} None
found-none all name unnamed = found-same (has_name name) all ∙ ap is_some (none-map (λ (def : Def). Repeat def.name) (find (has_name name) all) unnamed)

-- whether two keys are the same bytes
abbrev pub same_bytes : Vec ℕ → Vec ℕ → Bool
same_bytes x y = bytes_eq x.items y.items

module _ {S : Type 0} (defs : IndexMap (Vec ℕ) Def S) (bytes : ℕ) (indexed : IsIndexed defs bytes) (key : Vec ℕ) (def : Def) (lowered : key.items ≡ lowercase def.name) (accepted : refusal (values defs) def ≡ None) where
  -- a name that no object has is no key
  pub absent-key : get same_bytes defs key ≡ None
  absent-key =
      let unnamed : repeated_name (values defs) def.name ≡ None = first-none (repeated_name (values defs) def.name) _ accepted in
      let unfound : is_some (object_of (values defs) def.name) ≡ is_some {T = ℕ} None = found-none (values defs) def.name unnamed in
      none-some _ (sym (some_index (same_bytes key) defs.entries) ∙ ap is_some (object_of-indexed defs key.items def.name lowered indexed.names) ∙ unfound)

  module _ {R : Type 0} (after : IndexMap (Vec ℕ) Def R) (entries : after.entries ≡ insert_entry same_bytes defs.entries key def) where
    -- the definition goes last
    pub entries-added : after.entries ≡ defs.entries ++ (key, def) ∷ []
    entries-added = entries ∙ insert_entry-new same_bytes defs key def absent-key

    pub values-added : values after ≡ values defs ++ def ∷ []
    values-added = ap (map (λ (entry : Vec ℕ × Def). entry.1)) entries-added ∙ map-append (λ (entry : Vec ℕ × Def). entry.1) defs.entries ((key, def) ∷ [])

    keys-added : keys after ≡ keys defs ++ key ∷ []
    keys-added = ap (map (λ (entry : Vec ℕ × Def). entry.0)) entries-added ∙ map-append (λ (entry : Vec ℕ × Def). entry.0) defs.entries ((key, def) ∷ [])

    pub indexed-added : IsTrue (is_spellable def) → length (values defs) < 4096 → (len : ℕ) → len ≡ definition_len def → len ≤ 8589934592 → IsIndexed after (bytes + len)
    indexed-added spellable few len is below = record {
      names =
          ap (map (λ (k : Vec ℕ). k.items)) keys-added ∙ map-append (λ (k : Vec ℕ). k.items) (keys defs) (key ∷ [])
          ∙ ap₂ (λ (front : List (List ℕ)) (last : List ℕ). front ++ last ∷ []) indexed.names lowered
          ∙ sym (ap (map (λ (d : Def). lowercase d.name)) values-added ∙ map-append (λ (d : Def). lowercase d.name) (values defs) (def ∷ []));
      accepted = subst AreAccepted (sym values-added) (accepted-push [] (values defs) def indexed.accepted spellable accepted);
      most = omega (arith, ap length values-added, length-append (values defs) (def ∷ []));
      size =
          ap₂ (λ (a b : ℕ). a + b) indexed.size is
          ∙ sym (ap record_len values-added ∙ record_len-push (values defs) def);
      room = omega (arith, ap length values-added, length-append (values defs) (def ∷ []), indexed.room);
    }
