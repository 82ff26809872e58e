-- Generations that are handed over one after the other, from the last one on.
use Rattle.std.specs.Prelude.{ℕ, zero, suc, ◌≡◌, ◌<◌, ◌==◌, ◌+◌, ◌++◌, Bool, true, false, cond, List, [], ◌∷◌, length, replicate, Option, Some, None, IfSome, slice_get, slice_set}
use Rattle.std.specs.Option.{option_map, IsSomeAnd}
use Rattle.std.proofs.Common.{◌∙◌, ap, sym, refl, arith, eq-eqb, ne_eqb}
use Rattle.aw_schema.specs.declared.definition.Def.{Def}
use Rattle.aw_schema.specs.declared.definition.DefKind.{DefKind}
use Rattle.aw_schema.specs.Definitions.{is_kept}
use Rattle.aw_body.specs.declared.change.Fresh.{Fresh}
use Rattle.mv_view.specs.Each.{object_in, each_from, only, numbers_from}
use Rattle.mv_view.specs.ViewState.{ObjectView, is_owned, HasForm, HaveForms, kept_kinds}
use Rattle.mv_view.specs.Rules.{latest_of, renewed, with_latest, seen, seen_from}
use Rattle.mv_view.proofs.callers.Each.{each-each, each-same}

-- ---- one more generation, in front of those that were taken

-- the generation of an object in a list that ends with one more
last-step : (first last : Fresh) (rest : List Fresh) (at : ℕ) (b : Bool) → latest_of (rest ++ last ∷ []) at ≡ elim (latest_of rest at) [ None ↦ cond (last.object == at) (Some last) None | Some one ↦ Some one ]
    → cond b (Some first) (latest_of (rest ++ last ∷ []) at) ≡ elim (cond b (Some first) (latest_of rest at)) [ None ↦ cond (last.object == at) (Some last) None | Some one ↦ Some one ]
last-step first last rest at true later = refl
last-step first last rest at false later = later

latest-last : (rest : List Fresh) (last : Fresh) (at : ℕ) → latest_of (rest ++ last ∷ []) at ≡ elim (latest_of rest at) [ None ↦ cond (last.object == at) (Some last) None | Some one ↦ Some one ]
latest-last [] last at = refl
latest-last (first ∷ rest) last at = last-step first last rest at (first.object == at) (latest-last rest last at)

renew-step : (last : Fresh) (x : ObjectView) (b : Bool) (later : Option Fresh) → renewed later (cond b (with_latest last x) x) ≡ renewed (elim later [ None ↦ cond b (Some last) None | Some one ↦ Some one ]) x
renew-step last x true None = refl
renew-step last x false None = refl
renew-step last x true (Some one) = refl
renew-step last x false (Some one) = refl

pub renew-more : (rest all : List Fresh) (last : Fresh) (objects : List (Option ObjectView)) → all ≡ rest ++ last ∷ [] → each_from 0 (λ at found. renewed (latest_of rest at) found) (each_from 0 (only last.object (with_latest last)) objects) ≡ each_from 0 (λ at found. renewed (latest_of all at) found) objects
renew-more rest all last objects is =
    each-each 0 (λ at found. renewed (latest_of rest at) found) (only last.object (with_latest last)) objects
    ∙ each-same 0 (λ at found. renewed (latest_of rest at) (only last.object (with_latest last) at found)) (λ at found. renewed (latest_of all at) found) objects (λ k object place. one object (object_in objects k))
  where
    one : (object : ℕ) (found : Option ObjectView) → IfSome found (λ x. renewed (latest_of rest object) (only last.object (with_latest last) object x) ≡ renewed (latest_of all object) x)
    one object None = tt
    one object (Some x) = renew-step last x (last.object == object) (latest_of rest object) ∙ ap (λ (found : Option Fresh). renewed found x) (sym (ap (λ those. latest_of those object) is ∙ latest-last rest last object))

pub renew-none : (objects : List (Option ObjectView)) (none : List Fresh) → none ≡ [] → each_from 0 (λ at found. renewed (latest_of none at) found) objects ≡ objects
renew-none objects none is = ap (λ those. each_from 0 (λ at found. renewed (latest_of those at) found) objects) is ∙ same 0 objects
  where
    same : (at : ℕ) (objects : List (Option ObjectView)) → each_from at (λ at found. found) objects ≡ objects
    same at [] = refl
    same at (None ∷ objects) = ap (λ (rest : List (Option ObjectView)). None ∷ rest) (same (at + 1) objects)
    same at (Some x ∷ objects) = ap (λ (rest : List (Option ObjectView)). Some x ∷ rest) (same (at + 1) objects)

-- ---- the places of a view

pub seen-none : (at : ℕ) (definitions : List Def) → replicate (length definitions) None ≡ seen_from at definitions []
seen-none at [] = refl
seen-none at (def ∷ definitions) = ap (λ (rest : List (Option ObjectView)). None ∷ rest) (seen-none (at + 1) definitions)

seen-behind : (at : ℕ) (definitions : List Def) (fresh : Fresh) (later : List Fresh) → fresh.object < at → seen_from at definitions (fresh ∷ later) ≡ seen_from at definitions later
seen-behind at [] fresh later below = refl
seen-behind at (def ∷ definitions) fresh later below =
    ap (λ b. option_map (seen def.kind) (cond b (Some fresh) (latest_of later at)) ∷ seen_from (at + 1) definitions (fresh ∷ later)) (ne_eqb fresh.object at (λ same. absurd (omega arith)))
    ∙ ap (λ (rest : List (Option ObjectView)). option_map (seen def.kind) (latest_of later at) ∷ rest) (seen-behind (at + 1) definitions fresh later (omega arith))

pub seen-more : (at : ℕ) (definitions : List Def) (fresh : Fresh) (later : List Fresh) (k : ℕ) (def : Def) → at + k ≡ fresh.object → slice_get definitions k ≡ Some def → slice_set (seen_from at definitions later) k (Some (seen def.kind fresh)) ≡ seen_from at definitions (fresh ∷ later)
seen-more at [] fresh later k def is there = cc
seen-more at (first ∷ definitions) fresh later zero def is there =
    let same : first ≡ def = cc in
    ap (λ (d : Def). Some (seen d.kind fresh) ∷ seen_from (at + 1) definitions later) (sym same)
    ∙ ap (λ (rest : List (Option ObjectView)). Some (seen first.kind fresh) ∷ rest) (sym (seen-behind (at + 1) definitions fresh later (omega arith)))
    ∙ sym (ap (λ b. option_map (seen first.kind) (cond b (Some fresh) (latest_of later at)) ∷ seen_from (at + 1) definitions (fresh ∷ later)) (eq-eqb fresh.object at (omega arith)))
seen-more at (first ∷ definitions) fresh later (suc k) def is there =
    ap (λ (rest : List (Option ObjectView)). option_map (seen first.kind) (latest_of later at) ∷ rest) (seen-more (at + 1) definitions fresh later k def (omega arith) there)
    ∙ sym (ap (λ b. option_map (seen first.kind) (cond b (Some fresh) (latest_of later at)) ∷ seen_from (at + 1) definitions (fresh ∷ later)) (ne_eqb fresh.object at (λ same. absurd (omega arith))))

-- ---- forms

pub HaveForms-last : (kinds : List (Option DefKind)) (rest : List Fresh) (last : Fresh) → HaveForms kinds (rest ++ last ∷ []) → HaveForms kinds rest × HasForm kinds last
HaveForms-last kinds [] last forms = (tt, forms.0)
HaveForms-last kinds (first ∷ rest) last forms = let later = HaveForms-last kinds rest last forms.1 in ((forms.0, later.0), later.1)

kept-step : (def : Def) (b : Bool) → is_kept def.kind ≡ b → (P : DefKind → Type 0) → IsSomeAnd (cond b (Some def.kind) None) P → (is_kept def.kind ≡ true) × P def.kind
kept-step def true is P holds = (is, holds)
kept-step def false is P holds = absurd holds

-- the definition of an object whose generation is handed over
pub kept-definition : (definitions : List Def) (k : ℕ) (P : DefKind → Type 0) → IsSomeAnd (object_in (kept_kinds definitions) k) P → (def : Def) × (slice_get definitions k ≡ Some def) × (is_kept def.kind ≡ true) × P def.kind
kept-definition [] k P holds = absurd holds
kept-definition (def ∷ definitions) zero P holds = let both = kept-step def (is_kept def.kind) refl P holds in (def, refl, both.0, both.1)
kept-definition (def ∷ definitions) (suc k) P holds = kept-definition definitions k P holds

pub length-seen : (at : ℕ) (definitions : List Def) (fresh : List Fresh) → length (seen_from at definitions fresh) ≡ length definitions
length-seen at [] fresh = refl
length-seen at (def ∷ definitions) fresh = ap suc (length-seen (at + 1) definitions fresh)

none-owned-step : (at : ℕ) (kind : DefKind) (latest : Option Fresh) (rest : List (Option ObjectView)) → numbers_from is_owned (at + 1) rest ≡ [] → numbers_from is_owned at (option_map (seen kind) latest ∷ rest) ≡ []
none-owned-step at kind None rest none = none
none-owned-step at kind (Some one) rest none = none

-- nothing is owned at first
pub none-owned : (at : ℕ) (definitions : List Def) (fresh : List Fresh) → numbers_from is_owned at (seen_from at definitions fresh) ≡ []
none-owned at [] fresh = refl
none-owned at (def ∷ definitions) fresh = none-owned-step at def.kind (latest_of fresh at) (seen_from (at + 1) definitions fresh) (none-owned (at + 1) definitions fresh)
