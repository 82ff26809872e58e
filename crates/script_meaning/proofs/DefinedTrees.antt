-- What lines define has a name that is one, and a variable among it has a type: both are those of its tokens.
use Rattle.std.specs.Prelude.{ℕ, zero, suc, ◌≡◌, ◌⊎◌, ◌||◌, ◌==◌, Bool, true, false, cond, nat_eq, nat_le, List, [], ◌∷◌, ◌++◌, length, Option, Some, None, Result, Ok, Err, refl}
use Rattle.std.proofs.Common.{◌∙◌, ap, sym, subst, inl, inr, arith, ⊎_elim}
use Rattle.std.proofs.lemmas.Bool.{true≢false}
use Rattle.std.proofs.lemmas.Bool.Decides.{nat_tests}
use denote.Enum.Bare.{tag_one}
use Rattle.aw_cell.specs.Names.{is_name}
use Rattle.aw_schema.specs.Definitions.{is_type}
use Rattle.dml_tree.specs.contracts.word.Word.{the_type}
use Rattle.dml_tree.specs.declared.word.Word.{Word}
use Rattle.dml_tree.specs.declared.word.Word.TheVariants as w
use Rattle.dml_tree.specs.declared.token.Lexeme.{Lexeme}
use Rattle.dml_tree.specs.declared.token.Lexeme.TheVariants as lexeme
use Rattle.dml_tree.specs.declared.token.Sort.TheVariants as sort_is
use Rattle.dml_tree.specs.declared.token.Token.{Token}
use Rattle.dml_tree.specs.declared.token.TokenFault.TheVariants as token
use Rattle.dml_tree.specs.declared.definition.Defined.{Defined}
use Rattle.dml_tree.specs.declared.definition.Defined.TheVariants as tree
use Rattle.dml_tree.specs.declared.definition.Definition.{Definition as Tree}
use Rattle.dml_tree.specs.Sorts.{sort_of}
use Rattle.dml_tree.specs.Words.{word_number}
use Rattle.dml_tree.specs.Spelling.{Spells}
use Rattle.dml_tree.specs.LineTokens.{Follow, AreTokens, end_token}
use Rattle.dml_tree.specs.TokensIn.{TokensRead, tokens_in}
use Rattle.dml_tree.specs.Laws.{IsReadSo}
use Rattle.dml_tree.proofs.callers.Lines.{each_read}
use Rattle.dml_forms.specs.Forms.{among, Derives}
use Rattle.dml_grammar.specs.declared.fault.ParseFault.{ParseFault}
use Rattle.dml_grammar.specs.declared.fault.ParseFault.TheVariants.{Syntax, NotHere, NoMemory}
use Rattle.dml_grammar.specs.declared.placed.Placed.{Placed}
use Rattle.dml_grammar.specs.Sorts.{number, sort, a_word, words_of}
use Rattle.dml_grammar.specs.TokenValues.{text_of, kind_of}
use Rattle.dml_grammar.specs.Grammar as g
use Rattle.dml_grammar.specs.Grammar.{rule, kinds}
use Rattle.dml_grammar.specs.PlacedTokens.{placed_from, placed, placed_lines, is_blank, block, within}
use Rattle.dml_grammar.specs.Sentences.{Is}
use Rattle.dml_grammar.specs.Trees.{IsTreeOf, tree_of}
use Rattle.dml_grammar.proofs.callers.Trees.{tree_right}
use Rattle.dml_lines.specs.Lines.{with_line, end_inside, refused_at, unless_end, front_of, DefinitionRead, definition_told, defined_by, before, decided, counted, definition_in}

-- ---- names among tokens

abbrev IsNamed : Lexeme → Type 0
IsNamed (lexeme.Name name) = is_name name ≡ true
IsNamed _ = Unit {0}

abbrev AreNamed : List Token → Type 0
AreNamed [] = Unit {0}
AreNamed (t ∷ ts) = IsNamed t.what × AreNamed ts

abbrev LinesNamed : List (List Token) → Type 0
LinesNamed [] = Unit {0}
LinesNamed (l ∷ ls) = AreNamed l × LinesNamed ls

abbrev AllNamed : List Placed → Type 0
AllNamed [] = Unit {0}
AllNamed (x ∷ xs) = IsNamed x.token.what × AllNamed xs

spelled-named : (what : Lexeme) (bytes : List ℕ) → Spells what bytes → IsNamed what
spelled-named (lexeme.Name name) bytes s = subst (λ (l : List ℕ). is_name l ≡ true) s.1 s.0
spelled-named (lexeme.Word word) bytes s = tt
spelled-named (lexeme.Integer whole) bytes s = tt
spelled-named (lexeme.Whole units) bytes s = tt
spelled-named (lexeme.Decimal units) bytes s = tt
spelled-named (lexeme.Text text) bytes s = tt
spelled-named (lexeme.Symbol symbol) bytes s = tt
spelled-named lexeme.End bytes s = tt

followed-named : (line : List ℕ) (from to : ℕ) (tokens : List Token) → Follow line from tokens to → AreNamed tokens
followed-named line from to [] follow = tt
followed-named line from to (t ∷ ts) follow = (spelled-named t.what _ follow.0.next.spelled, followed-named line t.to to ts follow.1)

with-end : (line : List ℕ) (front : List Token) → AreNamed front → AreNamed (front ++ end_token line ∷ [])
with-end line [] named = (tt, tt)
with-end line (t ∷ ts) named = (named.0, with-end line ts named.1)

read-named : (line : List ℕ) (tokens : List Token) → tokens_in line 0 ≡ Ok tokens → AreNamed tokens
read-named line tokens is =
    let are : IsReadSo line 0 (Ok tokens) = subst (λ (r : TokensRead). IsReadSo line 0 r) is (each_read line 0 (omega arith)) in
    by are
  where
    by : AreTokens line 0 tokens → AreNamed tokens
    by are = subst AreNamed (sym are.all) (with-end line are.front (followed-named line 0 are.last are.front are.follow))

front-named : (lines : List (List ℕ)) → LinesNamed (front_of lines).tokens
front-named [] = tt
front-named (line ∷ lines) = by (tokens_in line 0) refl (front-named lines)
  where
    last : Bool
    last = length lines == 0

    kept : (tokens : List Token) (found : Option ℕ) → AreNamed tokens → LinesNamed (front_of lines).tokens → LinesNamed (with_line (refused_at tokens found) (front_of lines)).tokens
    kept tokens None named rest = (named, rest)
    kept tokens (Some column) named rest = tt

    by : (r : TokensRead) → tokens_in line 0 ≡ r → LinesNamed (front_of lines).tokens → LinesNamed (with_line (unless_end last line r) (front_of lines)).tokens
    by (Ok tokens) is rest = kept tokens (end_inside last line tokens) (read-named line tokens is) rest
    by (Err (token.Lexical column)) is rest = tt
    by (Err token.NoMemory) is rest = tt

-- ---- placed tokens

placed-named : (line : ℕ) (first : Bool) (past : ℕ) (tokens : List Token) → AreNamed tokens → AllNamed (placed_from line first past tokens)
placed-named line first past [] named = tt
placed-named line first past (t ∷ ts) named = (named.0, placed-named line false t.to ts named.1)

append-named : (xs ys : List Placed) → AllNamed xs → AllNamed ys → AllNamed (xs ++ ys)
append-named [] ys one other = other
append-named (x ∷ xs) ys one other = (one.0, append-named xs ys one.1 other)

parts-named : (xs ys : List Placed) → AllNamed (xs ++ ys) → AllNamed xs × AllNamed ys
parts-named [] ys named = (tt, named)
parts-named (x ∷ xs) ys named = let rest = parts-named xs ys named.1 in ((named.0, rest.0), rest.1)

lines-named : (at : ℕ) (lines : List (List Token)) → LinesNamed lines → AllNamed (placed_lines at lines)
lines-named at [] named = tt
lines-named at (l ∷ ls) named =
    append-named (cond (is_blank l) [] (placed (within at) l)) (placed_lines (suc at) ls) (by (is_blank l)) (lines-named (suc at) ls named.1)
  where
    by : (blank : Bool) → AllNamed (cond blank [] (placed (within at) l))
    by true = tt
    by false = placed-named (within at) true 0 l named.0

block-named : (lines : List (List Token)) → LinesNamed lines → AllNamed (block lines)
block-named [] named = tt
block-named (l ∷ []) named = lines-named 0 (l ∷ []) named
block-named (l ∷ m ∷ ls) named = lines-named 1 (l ∷ m ∷ ls) named

-- ---- the tree

-- a variable has a type
abbrev pub IsTypedTree : Defined → Type 0
IsTypedTree (tree.Variable type dimensions) = is_type type ≡ true
IsTypedTree _ = Unit {0}

one-of : (k a : ℕ) (rest : List ℕ) → among k (a ∷ rest) ≡ true → (k ≡ a) ⊎ (among k rest ≡ true)
one-of k a rest is = by (nat_eq k a) refl is
  where
    by : (same : Bool) → nat_eq k a ≡ same → (same || among k rest) ≡ true → (k ≡ a) ⊎ (among k rest ≡ true)
    by true e is = inl (grind (arith, nat_tests))
    by false e is = inr is

token-named : (what : Lexeme) → among (number (sort_of what)) (number sort_is.Name ∷ []) ≡ true → IsNamed what → is_name (text_of what) ≡ true
token-named (lexeme.Name name) fits named = named
token-named (lexeme.Word word) fits named = ⊎_elim (λ same. absurd (omega (arith, same))) (λ rest. absurd (true≢false (sym rest))) (one-of (number (sort_of (lexeme.Word word))) (number sort_is.Name) [] fits)
token-named (lexeme.Integer whole) fits named = absurd (true≢false (sym fits))
token-named (lexeme.Whole units) fits named = absurd (true≢false (sym fits))
token-named (lexeme.Decimal units) fits named = absurd (true≢false (sym fits))
token-named (lexeme.Text text) fits named = absurd (true≢false (sym fits))
token-named (lexeme.Symbol symbol) fits named = ⊎_elim (λ same. absurd (omega (arith, same))) (λ rest. absurd (true≢false (sym rest))) (one-of (number (sort_of (lexeme.Symbol symbol))) (number sort_is.Name) [] fits)
token-named lexeme.End fits named = absurd (true≢false (sym fits))

same-word : (one other : Word) → number (sort_is.Word one) ≡ number (sort_is.Word other) → one ≡ other
same-word one other same = let tags : word_number one ≡ word_number other = omega (arith, same) in tag_one the_type tt one other tags

token-typed : (what : Lexeme) → among (number (sort_of what)) (words_of kinds) ≡ true → is_type (kind_of what) ≡ true
token-typed (lexeme.Word word) fits =
    ⊎_elim (λ same. of w.Number refl same) (λ rest. ⊎_elim (λ same. of w.Integer refl same) (λ rest. ⊎_elim (λ same. of w.Text refl same) (λ rest. ⊎_elim (λ same. of w.Boolean refl same) (λ rest. absurd (true≢false (sym rest)))
    (one-of at (a_word w.Boolean) [] rest)) (one-of at (a_word w.Text) (a_word w.Boolean ∷ []) rest)) (one-of at (a_word w.Integer) (a_word w.Text ∷ a_word w.Boolean ∷ []) rest))
    (one-of at (a_word w.Number) (a_word w.Integer ∷ a_word w.Text ∷ a_word w.Boolean ∷ []) fits)
  where
    at : ℕ
    at = number (sort_is.Word word)

    of : (other : Word) → is_type (kind_of (lexeme.Word other)) ≡ true → number (sort_is.Word word) ≡ number (sort_is.Word other) → is_type (kind_of (lexeme.Word word)) ≡ true
    of other typed same = ap (λ (it : Word). is_type (kind_of (lexeme.Word it))) (same-word word other same) ∙ typed
token-typed (lexeme.Name name) fits = refl
token-typed (lexeme.Integer whole) fits = refl
token-typed (lexeme.Whole units) fits = refl
token-typed (lexeme.Decimal units) fits = refl
token-typed (lexeme.Text text) fits = refl
token-typed (lexeme.Symbol symbol) fits = refl
token-typed lexeme.End fits = refl

abbrev Derived : ℕ → (n : g.Part) → List Placed → g.Value n → Type 0
Derived h n xs v = Derives sort rule h n xs v

name-named : (h : ℕ) (xs : List Placed) (name : List ℕ) → Derived h g.name xs name → AllNamed xs → is_name name ≡ true
name-named zero xs name d named = absurd d
name-named (suc h) [] name d named = absurd d
name-named (suc h) (x ∷ xs) name (fits, (none, is)) named =
    subst (λ (l : List ℕ). is_name l ≡ true) is (token-named x.token.what fits named.0)

kind-typed : (h : ℕ) (xs : List Placed) (k : g.Value g.kind) → Derived h g.kind xs k → is_type k ≡ true
kind-typed zero xs k d = absurd d
kind-typed (suc h) [] k d = absurd d
kind-typed (suc h) (x ∷ xs) k (fits, (none, is)) = ap is_type (sym is) ∙ token-typed x.token.what fits

relation-typed : (h : ℕ) (xs : List Placed) (v : Defined) → Derived h g.relation xs v → IsTypedTree v
relation-typed zero xs v d = absurd d
relation-typed (suc h) xs v (_, _, _, _, _, (_, _, to, _, _, (_, _, _, _, _, (_, _, from, _, _, (_, _, _, _, _, (_, _, made)))))) = subst IsTypedTree made tt

variable-typed : (h : ℕ) (xs : List Placed) (v : Defined) → Derived h g.variable xs v → IsTypedTree v
variable-typed zero xs v d = absurd d
variable-typed (suc h) xs v (_, _, _, _, _, (us, _, k, _, kinded, inl (_, _, _, _, _, (_, _, names, _, _, (_, _, _, _, _, (_, _, made)))))) = subst IsTypedTree made (kind-typed h us k kinded)
variable-typed (suc h) xs v (_, _, _, _, _, (us, _, k, _, kinded, inr (_, _, made))) = subst IsTypedTree made (kind-typed h us k kinded)

formula-typed : (h : ℕ) (xs : List Placed) (v : Defined) → Derived h g.formula xs v → IsTypedTree v
formula-typed zero xs v d = absurd d
formula-typed (suc h) xs v (_, _, from, _, _, (_, _, e, _, _, (to, _, made))) = subst IsTypedTree made tt

defined-typed : (h : ℕ) (xs : List Placed) (v : Defined) → Derived h g.defined xs v → IsTypedTree v
defined-typed zero xs v d = absurd d
defined-typed (suc h) xs v (inl (_, _, _, _, _, (_, _, _, _, _, (_, _, made)))) = subst IsTypedTree made tt
defined-typed (suc h) xs v (inr (inl (one, derived, made))) = subst IsTypedTree made (relation-typed h xs one derived)
defined-typed (suc h) xs v (inr (inr (inl (_, _, _, _, _, (_, _, of, _, _, (_, _, made)))))) = subst IsTypedTree made tt
defined-typed (suc h) xs v (inr (inr (inr (inl (one, derived, made))))) = subst IsTypedTree made (variable-typed h xs one derived)
defined-typed (suc h) xs v (inr (inr (inr (inr (inl (one, derived, made)))))) = subst IsTypedTree made (formula-typed h xs one derived)
defined-typed (suc h) xs v (inr (inr (inr (inr (inr (inl (_, _, _, _, _, (_, _, _, _, _, (one, _, made))))))))) = subst IsTypedTree made tt
defined-typed (suc h) xs v (inr (inr (inr (inr (inr (inr (_, _, _, _, _, (_, _, _, _, _, (one, _, made))))))))) = subst IsTypedTree made tt

definition-parts : (h : ℕ) (xs : List Placed) (d : Tree) → Derived h g.definition xs d → AllNamed xs → (is_name d.name ≡ true) × IsTypedTree d.what
definition-parts zero xs d derived named = absurd derived
definition-parts (suc h) xs d (ys, zs, _, same, _, (us, vs, name, same_too, name_is, (what, what_is, made))) named =
    let rest = (parts-named ys zs (subst AllNamed same named)).1 in
    let own = (parts-named us vs (subst AllNamed same_too rest)).0 in (
      subst (λ (it : Tree). is_name it.name ≡ true) made (name-named h us name name_is own),
      subst (λ (it : Tree). IsTypedTree it.what) made (defined-typed h vs what what_is),
    )

is-parts : (xs : List Placed) (d : Tree) → Is g.definition xs d → AllNamed xs → (is_name d.name ≡ true) × IsTypedTree d.what
unfolding Is
is-parts xs d (fine, (h, derived)) named = definition-parts h xs d derived named

-- ---- lines

counted-ok : (r : DefinitionRead) (d : Tree) → counted r ≡ Ok d → r ≡ Ok d
counted-ok (Ok one) d is = is
counted-ok (Err (Syntax line column)) d is = cc
counted-ok (Err (NotHere line)) d is = cc
counted-ok (Err NoMemory) d is = cc

never-before : (lines : ℕ) (next : ParseFault) (r : DefinitionRead) (d : Tree) → before lines next r ≡ Ok d → ⊥
never-before lines next (Ok one) d is = cc
never-before lines next (Err (Syntax line column)) d is = by (nat_le line lines) is
  where
    by : (inside : Bool) → cond inside (Err (Syntax line column)) (Err next) ≡ Ok d → ⊥
    by true is = cc
    by false is = cc
never-before lines next (Err (NotHere line)) d is = cc
never-before lines next (Err NoMemory) d is = cc

decided-ok : (lines : List (List Token)) (fault : Option ℕ) (d : Tree) → decided lines fault ≡ Ok d → defined_by lines ≡ Ok d
decided-ok lines None d is = is
decided-ok lines (Some column) d is = absurd (never-before (length lines) (Syntax (within (suc (length lines))) column) (defined_by lines) d is)

told-ok : (lines : List (List Token)) (r : Result Tree ℕ) (d : Tree) → definition_told lines r ≡ Ok d → r ≡ Ok d
told-ok lines (Ok one) d is = let same : one ≡ d = cc in ap (λ (it : Tree). Ok it) same
told-ok lines (Err at) d is = cc

read-parts : (lines : List (List ℕ)) (d : Tree) → definition_in lines ≡ Ok d → (is_name d.name ≡ true) × IsTypedTree d.what
unfolding definition_in
read-parts lines d is =
    let front = front_of lines in
    let tree : tree_of g.definition (block front.tokens) ≡ Ok d = told-ok front.tokens (tree_of g.definition (block front.tokens)) d (decided-ok front.tokens front.fault d (counted-ok (decided front.tokens front.fault) d is)) in
    is-parts (block front.tokens) d (subst (λ (r : Result Tree ℕ). IsTreeOf g.definition (block front.tokens) r) tree (tree_right g.definition (block front.tokens))) (block-named front.tokens (front-named lines))

pub definition-named : (lines : List (List ℕ)) (d : Tree) → definition_in lines ≡ Ok d → is_name d.name ≡ true
definition-named lines d is = (read-parts lines d is).0

pub definition-typed : (lines : List (List ℕ)) (d : Tree) → definition_in lines ≡ Ok d → IsTypedTree d.what
definition-typed lines d is = (read-parts lines d is).1
