-- The lines around a text define a map or nothing.
use Rattle.std.specs.Prelude.{ℕ, zero, suc, ◌≡◌, ◌<◌, Bool, true, false, cond, nat_le, List, [], ◌∷◌, ◌++◌, length, slice_get, Option, Some, None, Result, Ok, Err}
use Rattle.std.proofs.Common.{◌∙◌, ap, sym, subst, refl, inl, inr, arith}
use Rattle.std.proofs.lemmas.List.{length-append}
use Rattle.std.proofs.lemmas.Bool.{true≢false}
use Rattle.dml_tree.specs.declared.word.Word.{Word}
use Rattle.dml_tree.specs.declared.word.Word.TheVariants as w
use Rattle.dml_tree.specs.declared.token.Lexeme.TheVariants as lexeme
use Rattle.dml_tree.specs.declared.token.Sort.TheVariants as sort_is
use Rattle.dml_tree.specs.declared.token.Token.{Token}
use Rattle.dml_tree.specs.declared.definition.Defined.{Defined}
use Rattle.dml_tree.specs.declared.definition.Defined.TheVariants.{AggMap}
use Rattle.dml_tree.specs.declared.definition.Definition.{Definition}
use Rattle.dml_tree.specs.declared.definition.MapLine.{MapLine as Written}
use Rattle.dml_tree.specs.TokensIn.{tokens_in}
use Rattle.dml_forms.specs.Forms.{among, Derives}
use Rattle.dml_grammar.specs.declared.fault.ParseFault.TheVariants.{Syntax, NotHere, NoMemory}
use Rattle.dml_grammar.specs.declared.placed.Placed.{Placed}
use Rattle.dml_grammar.specs.Sorts.{number, sort}
use Rattle.dml_grammar.specs.Grammar as g
use Rattle.dml_grammar.specs.Grammar.{rule}
use Rattle.dml_grammar.specs.PlacedTokens.{placed, placed_lines, block, within}
use Rattle.dml_grammar.specs.Sentences.{Is, refusal_at, definition_refusal}
use Rattle.dml_grammar.specs.Trees.{IsTreeOf, tree_of}
use Rattle.dml_grammar.proofs.callers.Trees.{tree_right}
use Rattle.dml_lines.specs.Lines.{Front, front_of, DefinitionRead, definition_told, defined_by, before, decided, counted, definition_in}
use Rattle.agg_map.specs.Texts.{head_line, end_line, text_lines}
use Rattle.agg_map.specs.Laws.{TextsDefineMaps}

-- ---- the first line

abbrev head_tokens : List Token
head_tokens =
    record { what = lexeme.Word w.Define; from = 0; to = 6 } ∷ record { what = lexeme.Name (97 ∷ []); from = 7; to = 8 }
    ∷ record { what = lexeme.Word w.AggMap; from = 9; to = 15 } ∷ record { what = lexeme.End; from = 15; to = 15 } ∷ []

front-is : (rest : List (List ℕ)) → front_of (head_line ∷ rest) ≡ (let it : Front = record { tokens = head_tokens ∷ (front_of rest).tokens; fault = (front_of rest).fault } in it)
unfolding tokens_in
front-is rest = refl

block-begins : (lines : List (List Token)) → (line : ℕ) × (xs : List Placed) × (block (head_tokens ∷ lines) ≡ placed line head_tokens ++ xs)
block-begins [] = (0, [], refl)
block-begins (m ∷ ms) = (1, placed_lines 2 (m ∷ ms), refl)

abbrev at_define : ℕ → Placed
at_define line = record { token = record { what = lexeme.Word w.Define; from = 0; to = 6 }; line = line; first = true; past = 0; next = 7 }

abbrev at_name : ℕ → Placed
at_name line = record { token = record { what = lexeme.Name (97 ∷ []); from = 7; to = 8 }; line = line; first = false; past = 6; next = 9 }

abbrev at_end : ℕ → Placed
at_end line = record { token = record { what = lexeme.End; from = 15; to = 15 }; line = line; first = false; past = 15; next = 0 }

abbrev aggmap : ℕ → Placed
aggmap line = record { token = record { what = lexeme.Word w.AggMap; from = 9; to = 15 }; line = line; first = false; past = 8; next = 15 }

-- ---- what a definition that begins so is

abbrev Derived : ℕ → (n : g.Part) → List Placed → g.Value n → Type 0
Derived h n xs v = Derives sort rule h n xs v

abbrev IsMap : Defined → Type 0
IsMap what = (lines : List Written) × (what ≡ AggMap lines) × (0 < length lines)

single : (h : ℕ) (word : Word) (ys : List Placed) (u : g.Value (g.keyword word)) → Derived h (g.keyword word) ys u → (x : Placed) × (ys ≡ x ∷ []) × (among (sort x) (number (sort_is.Word word) ∷ []) ≡ true)
single zero word ys u d = absurd d
single (suc h) word [] u d = absurd d
single (suc h) word (x ∷ ys) u (fits, (none, is)) = (x, ap (λ (l : List Placed). x ∷ l) none, fits)

single-name : (h : ℕ) (ys : List Placed) (name : List ℕ) → Derived h g.name ys name → (x : Placed) × (ys ≡ x ∷ [])
single-name zero ys name d = absurd d
single-name (suc h) [] name d = absurd d
single-name (suc h) (x ∷ ys) name (fits, (none, is)) = (x, ap (λ (l : List Placed). x ∷ l) none)

first-is : (x y : Placed) (xs ys zs : List Placed) → ys ≡ y ∷ [] → x ∷ xs ≡ ys ++ zs → x ≡ y
first-is x y xs ys zs one same = let e : x ∷ xs ≡ y ∷ zs = same ∙ ap (λ (l : List Placed). l ++ zs) one in cc

others-are : (x y : Placed) (xs ys zs : List Placed) → ys ≡ y ∷ [] → x ∷ xs ≡ ys ++ zs → zs ≡ xs
others-are x y xs ys zs one same = let e : x ∷ xs ≡ y ∷ zs = same ∙ ap (λ (l : List Placed). l ++ zs) one in cc

-- lines are added to those before them
more-some : (h : ℕ) (front : List Written) (xs : List Placed) (lines : List Written) → 0 < length front → Derived h (g.more_map front) xs lines → 0 < length lines
more-some zero front xs lines some d = absurd d
more-some (suc h) front xs lines some (inl (_, zs, x, _, _, (those, derived, made))) =
    subst (λ (l : List Written). 0 < length l) made (more-some h (front ++ x ∷ []) zs those (omega (arith, length-append front (x ∷ []))) derived)
more-some (suc h) front xs lines some (inr (_, _, _, _, _, (_, _, made))) = subst (λ (l : List Written). 0 < length l) made some

map-some : (h : ℕ) (xs : List Placed) (lines : List Written) → Derived h g.map xs lines → 0 < length lines
map-some zero xs lines d = absurd d
map-some (suc h) xs lines (_, zs, x, _, _, (those, derived, made)) = subst (λ (l : List Written). 0 < length l) made (more-some h (x ∷ []) zs those (omega arith) derived)

module _ (line : ℕ) (xs : List Placed) where
  wrong : (word : Word) (h : ℕ) (ys zs : List Placed) (u : g.Value (g.keyword word)) → among (sort (aggmap line)) (number (sort_is.Word word) ∷ []) ≡ false → aggmap line ∷ xs ≡ ys ++ zs → Derived h (g.keyword word) ys u → ⊥
  wrong word h ys zs u differs same d =
      let one = single h word ys u d in
      let here = first-is (aggmap line) one.0 xs ys zs one.1 same in
      true≢false (sym (subst (λ (x : Placed). among (sort x) (number (sort_is.Word word) ∷ []) ≡ true) (sym here) one.2) ∙ differs)

  no-relation : (h : ℕ) (v : Defined) → Derived h g.relation (aggmap line ∷ xs) v → ⊥
  no-relation zero v d = absurd d
  no-relation (suc h) v (ys, zs, u, same, key, _) = wrong w.Relation h ys zs u refl same key

  no-variable : (h : ℕ) (v : Defined) → Derived h g.variable (aggmap line ∷ xs) v → ⊥
  no-variable zero v d = absurd d
  no-variable (suc h) v (ys, zs, u, same, key, _) = wrong w.Variable h ys zs u refl same key

  no-from : (h : ℕ) (ys zs : List Placed) (from : ℕ) → aggmap line ∷ xs ≡ ys ++ zs → Derived h g.formula_from ys from → ⊥
  no-from zero ys zs from same d = absurd d
  no-from (suc h) [] zs from same d = absurd d
  no-from (suc h) (x ∷ ys) zs from same (fits, _) =
      let here : aggmap line ≡ x = cc in
      true≢false (sym (subst (λ (y : Placed). among (sort y) (number (sort_is.Word w.Formula) ∷ []) ≡ true) (sym here) fits))

  no-formula : (h : ℕ) (v : Defined) → Derived h g.formula (aggmap line ∷ xs) v → ⊥
  no-formula zero v d = absurd d
  no-formula (suc h) v (ys, zs, from, same, key, _) = no-from h ys zs from same key

  defined-map : (h : ℕ) (v : Defined) → Derived h g.defined (aggmap line ∷ xs) v → IsMap v
  defined-map zero v d = absurd d
  defined-map (suc h) v (inl (ys, zs, u, same, key, _)) = absurd (wrong w.Dimension h ys zs u refl same key)
  defined-map (suc h) v (inr (inl (one, derived, made))) = absurd (no-relation h one derived)
  defined-map (suc h) v (inr (inr (inl (ys, zs, u, same, key, _)))) = absurd (wrong w.ValueSet h ys zs u refl same key)
  defined-map (suc h) v (inr (inr (inr (inl (one, derived, made))))) = absurd (no-variable h one derived)
  defined-map (suc h) v (inr (inr (inr (inr (inl (one, derived, made)))))) = absurd (no-formula h one derived)
  defined-map (suc h) v (inr (inr (inr (inr (inr (inl (ys, zs, u, same, key, _))))))) = absurd (wrong w.Program h ys zs u refl same key)
  defined-map (suc h) v (inr (inr (inr (inr (inr (inr (_, _, _, _, _, (_, vs, _, _, _, (lines, derived, made))))))))) = (lines, sym made, map-some h vs lines derived)

definition-map : (line : ℕ) (xs : List Placed) (h : ℕ) (d : Definition) → Derived h g.definition (placed line head_tokens ++ xs) d → IsMap d.what
definition-map line xs zero d derived = absurd derived
definition-map line xs (suc h) d (ys, zs, u, same, key, (us, vs, name, same_too, name_is, (what, what_is, made))) =
    let one = single h w.Define ys u key in
    let two = single-name h us name name_is in
    let behind : zs ≡ at_name line ∷ aggmap line ∷ at_end line ∷ xs = others-are (at_define line) one.0 (at_name line ∷ aggmap line ∷ at_end line ∷ xs) ys zs one.1 same in
    let further : vs ≡ aggmap line ∷ at_end line ∷ xs = others-are (at_name line) two.0 (aggmap line ∷ at_end line ∷ xs) us vs two.1 (sym behind ∙ same_too) in
    subst (λ (it : Definition). IsMap it.what) made (defined-map line (at_end line ∷ xs) h what (subst (λ (l : List Placed). Derived h g.defined l what) further what_is))

read-is : (xs : List Placed) (d : Definition) → tree_of g.definition xs ≡ Ok d → Is g.definition xs d
read-is xs d tree = subst (λ (r : Result Definition ℕ). IsTreeOf g.definition xs r) tree (tree_right g.definition xs)

is-map : (line : ℕ) (xs : List Placed) (d : Definition) → Is g.definition (placed line head_tokens ++ xs) d → IsMap d.what
unfolding Is
is-map line xs d (fine, (h, derived)) = definition-map line xs h d derived

-- ---- what is told of the lines

counted-ok : (r : DefinitionRead) (d : Definition) → counted r ≡ Ok d → r ≡ Ok d
counted-ok (Ok one) d is = is
counted-ok (Err (Syntax line column)) d is = cc
counted-ok (Err (NotHere line)) d is = cc
counted-ok (Err NoMemory) d is = cc

counted-barred : (r : DefinitionRead) (at : ℕ) → counted r ≡ Err (NotHere at) → r ≡ Err (NotHere at)
counted-barred (Ok one) at is = cc
counted-barred (Err (Syntax line column)) at is = cc
counted-barred (Err (NotHere line)) at is = is
counted-barred (Err NoMemory) at is = cc

module _ (lines : ℕ) (line column : ℕ) where
  never-before : (r : DefinitionRead) (d : Definition) → before lines (Syntax line column) r ≡ Ok d → ⊥
  never-before (Ok one) d is = cc
  never-before (Err (Syntax l c)) d is = by (nat_le l lines) is
    where
      by : (inside : Bool) → cond inside (Err (Syntax l c)) (Err (Syntax line column)) ≡ Ok d → ⊥
      by true is = cc
      by false is = cc
  never-before (Err (NotHere l)) d is = cc
  never-before (Err NoMemory) d is = cc

  barred-before : (r : DefinitionRead) (at : ℕ) → before lines (Syntax line column) r ≡ Err (NotHere at) → r ≡ Err (NotHere at)
  barred-before (Ok one) at is = cc
  barred-before (Err (Syntax l c)) at is = by (nat_le l lines) is
    where
      by : (inside : Bool) → (let r : DefinitionRead = cond inside (Err (Syntax l c)) (Err (Syntax line column)) in r ≡ Err (NotHere at)) → (let r : DefinitionRead = Err (Syntax l c) in r ≡ Err (NotHere at))
      by true is = is
      by false is = cc
  barred-before (Err (NotHere l)) at is = is
  barred-before (Err NoMemory) at is = cc

decided-ok : (lines : List (List Token)) (fault : Option ℕ) (d : Definition) → decided lines fault ≡ Ok d → defined_by lines ≡ Ok d
decided-ok lines None d is = is
decided-ok lines (Some column) d is = absurd (never-before (length lines) (within (suc (length lines))) column (defined_by lines) d is)

decided-barred : (lines : List (List Token)) (fault : Option ℕ) (at : ℕ) → decided lines fault ≡ Err (NotHere at) → defined_by lines ≡ Err (NotHere at)
decided-barred lines None at is = is
decided-barred lines (Some column) at is = barred-before (length lines) (within (suc (length lines))) column (defined_by lines) at is

told-ok : (lines : List (List Token)) (r : Result Definition ℕ) (d : Definition) → definition_told lines r ≡ Ok d → r ≡ Ok d
told-ok lines (Ok one) d is = let same : one ≡ d = cc in ap (λ (it : Definition). Ok it) same
told-ok lines (Err k) d is = cc

no-refusal : (x : Option Placed) (lines at : ℕ) → refusal_at false x lines ≡ NotHere at → ⊥
no-refusal (Some x) lines at is = cc
no-refusal None lines at is = cc

refused-not : (line : ℕ) (xs whole : List Placed) (lines k at : ℕ) → whole ≡ placed line head_tokens ++ xs → definition_refusal lines whole k ≡ NotHere at → ⊥
refused-not line xs whole lines k at same is = no-refusal (slice_get (placed line head_tokens ++ xs) k) lines at (ap (λ (l : List Placed). definition_refusal lines l k) (sym same) ∙ is)

told-not : (lines : List (List Token)) (r : Result Definition ℕ) (at : ℕ) → definition_told (head_tokens ∷ lines) r ≡ Err (NotHere at) → ⊥
told-not lines (Ok one) at is = cc
told-not lines (Err k) at is =
    let begun = block-begins lines in
    let same : definition_refusal (length (head_tokens ∷ lines)) (block (head_tokens ∷ lines)) k ≡ NotHere at = cc in
    refused-not begun.0 begun.1 (block (head_tokens ∷ lines)) (length (head_tokens ∷ lines)) k at begun.2 same

module _ (rest : List (List ℕ)) where
  abbrev behind : List (List Token)
  behind = (front_of rest).tokens

  decided-as : (r : DefinitionRead) → definition_in (head_line ∷ rest) ≡ r → counted (decided (head_tokens ∷ behind) (front_of rest).fault) ≡ r
  unfolding definition_in
  decided-as r is = ap (λ (front : Front). counted (decided front.tokens front.fault)) (sym (front-is rest)) ∙ is

  map-is : (d : Definition) → definition_in (head_line ∷ rest) ≡ Ok d → IsMap d.what
  map-is d is =
      let lines = head_tokens ∷ behind in
      let fault = (front_of rest).fault in
      let told = decided-ok lines fault d (counted-ok (decided lines fault) d (decided-as (Ok d) is)) in
      let begun = block-begins behind in
      let read = read-is (block lines) d (told-ok lines (tree_of g.definition (block lines)) d told) in
      is-map begun.0 begun.1 d (subst (λ (xs : List Placed). Is g.definition xs d) begun.2 read)

  not-barred : (at : ℕ) → definition_in (head_line ∷ rest) ≡ Err (NotHere at) → ⊥
  not-barred at is =
      let lines = head_tokens ∷ behind in
      let fault = (front_of rest).fault in
      told-not behind (tree_of g.definition (block lines)) at (decided-barred lines fault at (counted-barred (decided lines fault) at (decided-as (Err (NotHere at)) is)))

pub texts_define : TextsDefineMaps
texts_define = record { maps = λ text d is. map-is (text_lines text ++ end_line ∷ []) d is; none_barred = λ text at is. not-barred (text_lines text ++ end_line ∷ []) at is }
