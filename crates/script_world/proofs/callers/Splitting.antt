-- The lines of a script, joined by their ends, give back the script.
use Rattle.std.specs.Prelude.{◌≡◌, ◌&&◌, ◌++◌, ℕ, Bool, true, false, not, cond, eqb, map, List, [], ◌∷◌, refl}
use Rattle.std.specs.List.{list_all, onto_first}
use Rattle.std.specs.Str.Lines.{strip_carriage_return}
use Rattle.std.proofs.Common.{◌∙◌, ap, ap₂}
use Rattle.std.proofs.lemmas.Bool.{eqb-true}
use Rattle.script_world.specs.Script.{parts_of, ended_parts, last_part}
use Rattle.script_world.specs.Laws.{has_no_end, IsSplit, LinesAreSplit}

ended-all : (parts : List (List ℕ)) (last : List ℕ) → ended_parts (parts ++ last ∷ []) ≡ map strip_carriage_return parts
ended-all [] last = refl
ended-all (part ∷ []) last = refl
ended-all (part ∷ next ∷ parts) last = ap (λ lines. strip_carriage_return part ∷ lines) (ended-all (next ∷ parts) last)

last-all : (parts : List (List ℕ)) (last : List ℕ) → last_part (parts ++ last ∷ []) ≡ last
last-all [] last = refl
last-all (part ∷ []) last = refl
last-all (part ∷ next ∷ parts) last = last-all (next ∷ parts) last

-- the parts of some bytes
record Parts (bytes : List ℕ) : Type 0 where
  parts : List (List ℕ)
  last : List ℕ
  are : parts_of bytes ≡ parts ++ last ∷ []
  split : IsSplit bytes parts last

ended-first : (x : ℕ) (bytes : List ℕ) → eqb x 10 ≡ true → Parts bytes → Parts (x ∷ bytes)
ended-first x bytes is p = record {
  parts = [] ∷ p.parts;
  last = p.last;
  are = ap (λ e. cond e ([] ∷ parts_of bytes) (onto_first x (parts_of bytes))) is ∙ ap (λ parts. [] ∷ parts) p.are;
  split = record { whole = ap₂ (λ (b : ℕ) (rest : List ℕ). b ∷ rest) (eqb-true x 10 is) p.split.whole; ends = p.split.ends; open_end = p.split.open_end };
}

module _ (x : ℕ) (other : eqb x 10 ≡ false) where
  more : (part : List ℕ) → has_no_end part ≡ true → has_no_end (x ∷ part) ≡ true
  more part is = ap₂ (λ (e rest : Bool). not e && rest) other is

  onto : (bytes : List ℕ) (parts : List (List ℕ)) (last : List ℕ) → parts_of bytes ≡ parts ++ last ∷ [] → IsSplit bytes parts last → Parts (x ∷ bytes)
  onto bytes [] last are split = record {
    parts = [];
    last = x ∷ last;
    are = ap (λ e. cond e ([] ∷ parts_of bytes) (onto_first x (parts_of bytes))) other ∙ ap (onto_first x) are;
    split = record { whole = ap (λ rest. x ∷ rest) split.whole; ends = refl; open_end = more last split.open_end };
  }
  onto bytes (part ∷ parts) last are split = record {
    parts = (x ∷ part) ∷ parts;
    last = last;
    are = ap (λ e. cond e ([] ∷ parts_of bytes) (onto_first x (parts_of bytes))) other ∙ ap (onto_first x) are;
    split = record { whole = ap (λ rest. x ∷ rest) split.whole; ends = ap (λ (e : Bool). (not e && has_no_end part) && list_all has_no_end parts) other ∙ split.ends; open_end = split.open_end };
  }

parts_are : (bytes : List ℕ) → Parts bytes
parts_are [] = record { parts = []; last = []; are = refl; split = record { whole = refl; ends = refl; open_end = refl } }
parts_are (x ∷ bytes) = by_end (eqb x 10) refl (parts_are bytes)
  where
    by_end : (e : Bool) → eqb x 10 ≡ e → Parts bytes → Parts (x ∷ bytes)
    by_end true is p = ended-first x bytes is p
    by_end false is p = onto x is bytes p.parts p.last p.are p.split

pub lines_are_split : (bytes : List ℕ) → LinesAreSplit bytes
lines_are_split bytes =
    let p = parts_are bytes in
    record {
      parts = p.parts;
      last = p.last;
      split = p.split;
      ended = ap ended_parts p.are ∙ ended-all p.parts p.last;
      open_is = ap last_part p.are ∙ last-all p.parts p.last;
    }
