-- What one more byte does to the lines of a script.
use Rattle.std.proofs.Common.{◌≡◌, ℕ, Bool, true, false, cond, eqb, List, [], ◌∷◌, ◌++◌, refl, sym, ap, ◌∙◌, append_assoc, append-nil}
use Rattle.std.specs.List.{onto_first}
use Rattle.std.specs.Str.Lines.{strip_carriage_return}
use Rattle.script_world.specs.Script.{parts_of, ended_parts, last_part, ended_lines, open_line}

-- a byte that ends the last part begins another; any other byte goes to its end
abbrev pushed : Bool → ℕ → List (List ℕ) → List (List ℕ)
pushed ends b [] = []
pushed ends b (part ∷ []) = cond ends (part ∷ [] ∷ []) ((part ++ b ∷ []) ∷ [])
pushed ends b (part ∷ next ∷ parts) = part ∷ pushed ends b (next ∷ parts)

-- there is always a part
record HasPart (parts : List (List ℕ)) : Type 0 where
  first : List ℕ
  others : List (List ℕ)
  is : parts ≡ first ∷ others

has_onto : (x : ℕ) (parts : List (List ℕ)) → HasPart (onto_first x parts)
has_onto x [] = record { first = x ∷ []; others = []; is = refl }
has_onto x (part ∷ parts) = record { first = x ∷ part; others = parts; is = refl }

has_part : (bytes : List ℕ) → HasPart (parts_of bytes)
has_part [] = record { first = []; others = []; is = refl }
has_part (x ∷ xs) = elim (eqb x 10) as (λ e. HasPart (cond e ([] ∷ parts_of xs) (onto_first x (parts_of xs)))) [
  | true ↦ record { first = []; others = parts_of xs; is = refl }
  | false ↦ has_onto x (parts_of xs)
]

pushed-onto : (ends : Bool) (b x : ℕ) (part : List ℕ) (parts : List (List ℕ)) → onto_first x (pushed ends b (part ∷ parts)) ≡ pushed ends b ((x ∷ part) ∷ parts)
pushed-onto ends b x part [] = elim ends as (λ e. onto_first x (pushed e b (part ∷ [])) ≡ pushed e b ((x ∷ part) ∷ [])) [ true ↦ refl | false ↦ refl ]
pushed-onto ends b x part (next ∷ parts) = refl

-- a byte in front of the parts
abbrev fronted : Bool → ℕ → List (List ℕ) → List (List ℕ)
fronted ends x parts = cond ends ([] ∷ parts) (onto_first x parts)

fronted-pushed : (first : Bool) (x : ℕ) (ends : Bool) (b : ℕ) (parts : List (List ℕ)) → HasPart parts → fronted first x (pushed ends b parts) ≡ pushed ends b (fronted first x parts)
fronted-pushed first x ends b parts h =
    ap (λ ps. fronted first x (pushed ends b ps)) h.is
    ∙ (elim first as (λ f. fronted f x (pushed ends b (h.first ∷ h.others)) ≡ pushed ends b (fronted f x (h.first ∷ h.others))) [
      | true ↦ refl
      | false ↦ pushed-onto ends b x h.first h.others
    ])
    ∙ ap (λ ps. pushed ends b (fronted first x ps)) (sym h.is)

parts-push : (bytes : List ℕ) (b : ℕ) → parts_of (bytes ++ b ∷ []) ≡ pushed (eqb b 10) b (parts_of bytes)
parts-push [] b = refl
parts-push (x ∷ xs) b =
    ap (fronted (eqb x 10) x) (parts-push xs b) ∙ fronted-pushed (eqb x 10) x (eqb b 10) b (parts_of xs) (has_part xs)

ended-pushed : (ends : Bool) (b : ℕ) (part : List ℕ) (parts : List (List ℕ)) → ended_parts (pushed ends b (part ∷ parts))
    ≡ cond ends (ended_parts (part ∷ parts) ++ strip_carriage_return (last_part (part ∷ parts)) ∷ []) (ended_parts (part ∷ parts))
ended-pushed true b part [] = refl
ended-pushed false b part [] = refl
ended-pushed true b part (next ∷ []) = refl
ended-pushed false b part (next ∷ []) = refl
ended-pushed true b part (next ∷ more ∷ parts) = ap (λ lines. strip_carriage_return part ∷ lines) (ended-pushed true b next (more ∷ parts))
ended-pushed false b part (next ∷ more ∷ parts) = ap (λ lines. strip_carriage_return part ∷ lines) (ended-pushed false b next (more ∷ parts))

last-pushed : (ends : Bool) (b : ℕ) (part : List ℕ) (parts : List (List ℕ)) → last_part (pushed ends b (part ∷ parts))
    ≡ cond ends [] (last_part (part ∷ parts) ++ b ∷ [])
last-pushed true b part [] = refl
last-pushed false b part [] = refl
last-pushed true b part (next ∷ []) = refl
last-pushed false b part (next ∷ []) = refl
last-pushed true b part (next ∷ more ∷ parts) = last-pushed true b next (more ∷ parts)
last-pushed false b part (next ∷ more ∷ parts) = last-pushed false b next (more ∷ parts)

pub ended_lines-push : (bytes : List ℕ) (b : ℕ) → ended_lines (bytes ++ b ∷ [])
    ≡ cond (eqb b 10) (ended_lines bytes ++ strip_carriage_return (open_line bytes) ∷ []) (ended_lines bytes)
ended_lines-push bytes b =
    let h = has_part bytes in
    ap ended_parts (parts-push bytes b ∙ ap (pushed (eqb b 10) b) h.is) ∙ ended-pushed (eqb b 10) b h.first h.others
    ∙ ap (λ ps. cond (eqb b 10) (ended_parts ps ++ strip_carriage_return (last_part ps) ∷ []) (ended_parts ps)) (sym h.is)

pub open_line-push : (bytes : List ℕ) (b : ℕ) → open_line (bytes ++ b ∷ []) ≡ cond (eqb b 10) [] (open_line bytes ++ b ∷ [])
open_line-push bytes b =
    let h = has_part bytes in
    ap last_part (parts-push bytes b ∙ ap (pushed (eqb b 10) b) h.is) ∙ last-pushed (eqb b 10) b h.first h.others
    ∙ ap (λ ps. cond (eqb b 10) [] (last_part ps ++ b ∷ [])) (sym h.is)

-- the lines that ended stay, whatever bytes follow
pub record EndedMore (bytes more : List ℕ) : Type 0 where
  pub lines : List (List ℕ)
  pub is : ended_lines (bytes ++ more) ≡ ended_lines bytes ++ lines

more_by : (bytes : List ℕ) (b : ℕ) → EndedMore bytes (b ∷ [])
more_by bytes b =
    let P : Bool → Type 0 = λ e. (lines : List (List ℕ)) × (cond e (ended_lines bytes ++ strip_carriage_return (open_line bytes) ∷ []) (ended_lines bytes) ≡ ended_lines bytes ++ lines) in
    let found : P (eqb b 10) = elim (eqb b 10) as P [
      | true ↦ (strip_carriage_return (open_line bytes) ∷ [], refl)
      | false ↦ ([], sym (append-nil (ended_lines bytes)))
    ] in
    record { lines = found.0; is = ended_lines-push bytes b ∙ found.1 }

pub ended_more : (bytes more : List ℕ) → EndedMore bytes more
ended_more bytes [] = record { lines = []; is = ap ended_lines (append-nil bytes) ∙ sym (append-nil (ended_lines bytes)) }
ended_more bytes (b ∷ more) =
    let first = more_by bytes b in
    let rest = ended_more (bytes ++ b ∷ []) more in
    record {
      lines = first.lines ++ rest.lines;
      is = ap ended_lines (sym (append_assoc bytes (b ∷ []) more)) ∙ rest.is ∙ ap (λ lines. lines ++ rest.lines) first.is ∙ append_assoc (ended_lines bytes) first.lines rest.lines;
    }
