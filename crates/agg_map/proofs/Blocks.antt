-- The lines of a block around a text, and what is told of them.
use Rattle.std.specs.Prelude.{ℕ, zero, suc, ◌≡◌, ◌⊎◌, ◌<◌, ◌-◌, ◌^◌, ◌==◌, ◌&&◌, Bool, true, false, cond, nat_lt, List, [], ◌∷◌, ◌++◌, length, Result, Ok, Err, IfOk, IsTrue}
use Rattle.std.specs.List.{list_all, slice_split, onto_first, AllByRecursion}
use Rattle.std.proofs.Common.{◌∙◌, ap, ap₂, sym, refl, subst, inl, inr, arith, lt-ltb}
use Rattle.aw_schema.specs.declared.definition.Def.{Def}
use Rattle.dml_tree.specs.declared.definition.Definition.{Definition}
use Rattle.dml_grammar.specs.declared.fault.ParseFault.{ParseFault}
use Rattle.dml_grammar.specs.declared.fault.ParseFault.TheVariants as parse
use Rattle.dml_lines.specs.Lines.{DefinitionRead}
use Rattle.agg_map.specs.declared.fault.MapFault.{MapFault}
use Rattle.agg_map.specs.declared.fault.MapFault.TheVariants.{NoMemory}
use Rattle.agg_map.specs.Maps.{Map, MapRead}
use Rattle.agg_map.specs.Texts.{end_line, text_lines, block_of, map_of, map_by, fault_of}
use Rattle.agg_map.specs.inside.Telling.{Tells}

-- ---- how long the lines are

abbrev Short : ℕ → List (List ℕ) → Type 0
Short n lines = AllByRecursion (λ line. length line < n) lines

weaker : (n : ℕ) (lines : List (List ℕ)) → Short n lines → Short (suc n) lines
weaker n [] short = tt
weaker n (line ∷ lines) short = (omega (arith, short.0), weaker n lines short.1)

onto : (n byte : ℕ) (lines : List (List ℕ)) → 0 < n → Short n lines → Short (suc n) (onto_first byte lines)
onto n byte [] some short = (omega (arith, some), tt)
onto n byte (line ∷ lines) some short = (omega (arith, short.0), weaker n lines short.1)

parts : (test : ℕ → Bool) (bytes : List ℕ) (n : ℕ) → length bytes < n → Short n (slice_split test bytes)
parts test [] n within = (within, tt)
parts test (byte ∷ bytes) zero within = absurd (omega (arith, within))
parts test (byte ∷ bytes) (suc n) within = by (test byte) (parts test bytes n (omega (arith, within)))
  where
    by : (here : Bool) → Short n (slice_split test bytes) → Short (suc n) (cond here ([] ∷ slice_split test bytes) (onto_first byte (slice_split test bytes)))
    by true short = (omega arith, weaker n (slice_split test bytes) short)
    by false short = onto n byte (slice_split test bytes) (omega (arith, within)) short

of_text : (text : List ℕ) (n : ℕ) → length text < n → Short n (text_lines text)
of_text [] n within = tt
of_text (byte ∷ bytes) n within = parts (λ b. b == 10) (byte ∷ bytes) n within

with_last : (n : ℕ) (lines : List (List ℕ)) (line : List ℕ) → Short n lines → length line < n → Short n (lines ++ line ∷ [])
with_last n [] line short last = (last, tt)
with_last n (first ∷ lines) line short last = (short.0, with_last n lines line short.1 last)

tested : (n : ℕ) (lines : List (List ℕ)) → Short n lines → IsTrue (list_all (λ line. nat_lt (length line) n) lines)
tested n [] short = refl
tested n (line ∷ lines) short = ap₂ (λ (a b : Bool). a && b) (lt-ltb (length line) n short.0) (tested n lines short.1)

pub short_block : (text : List ℕ) (lines : List (List ℕ)) → lines ≡ block_of text → length text < 2 ^ 32 - 1 → IsTrue (list_all (λ line. nat_lt (length line) (2 ^ 32 - 1)) lines)
short_block text lines same within =
    subst (λ (those : List (List ℕ)). IsTrue (list_all (λ line. nat_lt (length line) (2 ^ 32 - 1)) those)) (sym same)
    (tested (2 ^ 32 - 1) (block_of text) (omega arith, with_last (2 ^ 32 - 1) (text_lines text) end_line (of_text text (2 ^ 32 - 1) within) (omega arith)))

-- ---- what is told

module _ (catalogue : List Def) (said : DefinitionRead) where
  pub map_told : (definition : Definition) → said ≡ Ok definition → (result : Result Map MapFault) → Tells (map_of catalogue definition.what) result → Tells (map_by catalogue said) result
  map_told definition is result told = subst (λ (read : MapRead). Tells read result) (sym (ap (map_by catalogue) is)) told

  pub fault_told : (fault : ParseFault) → (fault ≡ parse.NoMemory) ⊎ (said ≡ Err fault) → (result : MapFault) → result ≡ fault_of fault → (result ≡ NoMemory) ⊎ (map_by catalogue said ≡ Err result)
  fault_told fault (inl none) result is = inl (is ∙ ap fault_of none)
  fault_told fault (inr told) result is = inr (ap (map_by catalogue) told ∙ ap (λ (f : MapFault). Err f) (sym is))

module _ (said : MapRead) where
  pub value : (r : Result Map MapFault) → Tells said r → IfOk r (λ map. said ≡ Ok map)
  value (Ok map) told = told
  value (Err f) told = tt

  pub fault : (r : Result Map MapFault) → Tells said r → (f : MapFault) → r ≡ Err f → (f ≡ NoMemory) ⊎ (said ≡ Err f)
  fault (Ok map) told f e = cc
  fault (Err g) told f e = let same : g ≡ f = cc in subst (λ (h : MapFault). (h ≡ NoMemory) ⊎ (said ≡ Err h)) same told
