-- A line has one list of tokens, or one first fault.
use Rattle.std.proofs.Common.{◌≡◌, ◌≢◌, ◌≤◌, ◌<◌, ◌+◌, ◌-◌, ◌*◌, ◌==◌, ◌||◌, ℕ, ◌∙◌, refl, ap, sym, subst, arith, true, false, not, Bool, cond, List, [], ◌∷◌, ◌++◌, length, take, drop, get_or, drop-cons, add-zero, ⊎_elim, eqb-true}
use Rattle.std.specs.Prelude.{pos, Some}
use Rattle.std.specs.Char.{is_ascii_digit}
use Rattle.std.specs.List.{list_any, prefix_len, position_from}
use Rattle.std.proofs.Math.Seq.{take-append_seam, drop-append_seam}
use Rattle.std.proofs.lemmas.Bool.{and_parts, cases_lt}
use Rattle.std.proofs.lemmas.List.{get_or-drop, get_or-take, length-take, length-drop}
use Rattle.std.proofs.lemmas.List.Sums.{AllPass-from_list_all}
use denote.Enum.Bare.{tag_one}
use Rattle.aw_cell.specs.Names.{is_letter, is_name, has_name_form, begins_with, same_word, reserved_words}
use Rattle.aw_cell.specs.Numeral.{are_digits, pointed, ten_thousandths, SpellsSize}
use Rattle.dml_tree.specs.contracts.word.Word.{the_type}
use Rattle.dml_tree.specs.declared.word.Word.{Word}
use Rattle.dml_tree.specs.Words.{word_number, word_place}
use Rattle.dml_tree.specs.Spelling.{symbol_byte, Spells}
use Rattle.dml_tree.specs.LineTokens.{is_blank, IsNext, AreBlanks, Stands, HasEnded, ComesNext, Follow, AreTokens, HasFault, end_token}
use Rattle.dml_tree.specs.declared.token.Symbol.{Symbol}
use Rattle.dml_tree.specs.declared.token.Symbol.TheVariants.{Equals, Open, Close, Comma, Less, Greater, Plus, Minus, Star, Slash}
use Rattle.dml_tree.specs.declared.token.Lexeme.{Lexeme}
use Rattle.dml_tree.specs.declared.token.Lexeme.TheVariants as lexeme
use Rattle.dml_tree.specs.declared.token.Token.{Token}
use Rattle.dml_tree.proofs.Fronts.{prefix_len-behind}
use Rattle.dml_tree.proofs.Forms.{is_quote, clash, letter_no_digit, letter_no_quote, digit_no_quote, named_first, name_form, size_first, quote_first, symbol_class, spelled_form, spelled_stands}
use Rattle.dml_tree.proofs.Quotes.{same_text}

-- ---- one spelling, one token

-- the byte tells the symbol
symbol_by : ℕ → Symbol
symbol_by b =
    cond (b == 61) Equals (cond (b == 40) Open (cond (b == 41) Close (cond (b == 44) Comma (cond (b == 60) Less
    (cond (b == 62) Greater (cond (b == 43) Plus (cond (b == 45) Minus (cond (b == 42) Star Slash))))))))

symbol_back : (s : Symbol) → symbol_by (symbol_byte s) ≡ s
unfolding symbol_by
symbol_back Equals = refl
symbol_back Open = refl
symbol_back Close = refl
symbol_back Comma = refl
symbol_back Less = refl
symbol_back Greater = refl
symbol_back Plus = refl
symbol_back Minus = refl
symbol_back Star = refl
symbol_back Slash = refl

same_symbol : (s t : Symbol) (bytes : List ℕ) → bytes ≡ symbol_byte s ∷ [] → bytes ≡ symbol_byte t ∷ [] → s ≡ t
same_symbol s t bytes one other =
    let ends : symbol_byte s ∷ [] ≡ symbol_byte t ∷ [] = sym one ∙ other in
    let bytes_same : symbol_byte s ≡ symbol_byte t = cc in
    sym (symbol_back s) ∙ ap symbol_by bytes_same ∙ symbol_back t

-- the digits of a numeral are those at its front
whole_front : (whole decimals text : List ℕ) → are_digits whole ≡ true → text ≡ whole ++ pointed decimals → prefix_len is_ascii_digit text ≡ length whole
whole_front whole [] text w e = ap (prefix_len is_ascii_digit) e ∙ prefix_len-behind is_ascii_digit whole [] w ∙ add-zero (length whole)
whole_front whole (d ∷ ds) text w e = ap (prefix_len is_ascii_digit) e ∙ prefix_len-behind is_ascii_digit whole (46 ∷ d ∷ ds) w ∙ add-zero (length whole)

pointed_once : (one other : List ℕ) → pointed one ≡ pointed other → one ≡ other
pointed_once [] [] e = refl
pointed_once [] (d ∷ ds) e = cc
pointed_once (d ∷ ds) [] e = cc
pointed_once (c ∷ cs) (d ∷ ds) e = cc

abbrev front_of : List ℕ → List ℕ
front_of text = take (prefix_len is_ascii_digit text) text

whole_is : (text : List ℕ) (count : ℕ) (s : SpellsSize text count) → s.whole ≡ front_of text
whole_is text count s =
    let front = whole_front s.whole s.decimals text s.parts.whole_digits s.form in
    sym (take-append_seam s.whole (pointed s.decimals)) ∙ ap (take (length s.whole)) (sym s.form) ∙ ap (λ n. take n text) (sym front)

decimals_are : (text : List ℕ) (count : ℕ) (s : SpellsSize text count) → pointed s.decimals ≡ drop (prefix_len is_ascii_digit text) text
decimals_are text count s =
    let front = whole_front s.whole s.decimals text s.parts.whole_digits s.form in
    sym (drop-append_seam s.whole (pointed s.decimals)) ∙ ap (drop (length s.whole)) (sym s.form) ∙ ap (λ n. drop n text) (sym front)

pub size_once : (text : List ℕ) (m n : ℕ) → SpellsSize text m → SpellsSize text n → m ≡ n
size_once text m n s t =
    let whole : s.whole ≡ t.whole = whole_is text m s ∙ sym (whole_is text n t) in
    let decimals : s.decimals ≡ t.decimals = pointed_once s.decimals t.decimals (decimals_are text m s ∙ sym (decimals_are text n t)) in
    s.parts.value ∙ ap (λ w. ten_thousandths w s.decimals) whole ∙ ap (λ d. ten_thousandths t.whole d) decimals ∙ sym t.parts.value

place_any : {X : Type 0} (p : X → Bool) (xs : List X) (i n : ℕ) → position_from p i xs ≡ Some n → list_any p xs ≡ true
place_any p [] i n e = cc
place_any p (x ∷ xs) i n e = by (p x) refl e (place_any p xs (i + 1) n)
  where
    by : (b : Bool) → p x ≡ b → cond b (Some i) (position_from p (i + 1) xs) ≡ Some n → (position_from p (i + 1) xs ≡ Some n → list_any p xs ≡ true) → (p x || list_any p xs) ≡ true
    by true is e rest = rw is refl
    by false is e rest = rw is (rest e)

-- a reserved word is no name
pub word_no_name : (bytes : List ℕ) (n : ℕ) → word_place bytes ≡ Some n → is_name bytes ≡ true → ⊥
unfolding word_place
word_no_name bytes n place name =
    let any = place_any (same_word bytes) reserved_words 0 n place in
    let none = (and_parts (has_name_form bytes) (not (list_any (same_word bytes) reserved_words)) name).1 in
    let both : true ≡ false = sym none ∙ ap not any in
    cc

same_words : (v w : Word) → Some (word_number v) ≡ Some (word_number w) → v ≡ w
same_words v w e = let numbers : word_number v ≡ word_number w = cc in tag_one the_type tt v w numbers

-- what the first byte tells of a token
abbrev class_of : Lexeme → ℕ
class_of (lexeme.Name name) = 0
class_of (lexeme.Word word) = 0
class_of (lexeme.Integer whole) = 1
class_of (lexeme.Whole units) = 1
class_of (lexeme.Decimal units) = 1
class_of (lexeme.Text text) = 2
class_of (lexeme.Symbol symbol) = 3
class_of lexeme.End = 4

abbrev first_class : List ℕ → ℕ
first_class bytes = cond (begins_with is_letter bytes) 0 (cond (begins_with is_ascii_digit bytes) 1 (cond (begins_with is_quote bytes) 2 3))

pub never : (b : Bool) → (b ≡ true → ⊥) → b ≡ false
never true f = absurd (f refl)
never false f = refl

letter_class : (bytes : List ℕ) → begins_with is_letter bytes ≡ true → first_class bytes ≡ 0
letter_class bytes h = rw h refl

digit_class : (bytes : List ℕ) → begins_with is_ascii_digit bytes ≡ true → first_class bytes ≡ 1
digit_class bytes h =
    let no_letter = never (begins_with is_letter bytes) (λ letter. letter_no_digit bytes letter h) in
    rw (no_letter, h) refl

quote_class : (bytes : List ℕ) → begins_with is_quote bytes ≡ true → first_class bytes ≡ 2
quote_class bytes h =
    let no_letter = never (begins_with is_letter bytes) (λ letter. letter_no_quote bytes letter h) in
    let no_digit = never (begins_with is_ascii_digit bytes) (λ digit. digit_no_quote bytes digit h) in
    rw (no_letter, no_digit, h) refl

sign_class : (s : Symbol) → first_class (symbol_byte s ∷ []) ≡ 3
sign_class s = let class = symbol_class s in rw (class.0, class.1, class.2) refl

class_is : (what : Lexeme) (bytes : List ℕ) → Spells what bytes → first_class bytes ≡ class_of what
class_is (lexeme.Name name) bytes s = letter_class bytes (named_first bytes (name_form name bytes s))
class_is (lexeme.Word word) bytes s = letter_class bytes (named_first bytes s.form)
class_is (lexeme.Integer whole) bytes s = digit_class bytes (size_first bytes _ s.numeral)
class_is (lexeme.Whole units) bytes s = digit_class bytes (size_first bytes _ s.numeral)
class_is (lexeme.Decimal units) bytes s = digit_class bytes (size_first bytes _ s.numeral)
class_is (lexeme.Text text) bytes s = quote_class bytes (quote_first bytes _ s.quoted)
class_is (lexeme.Symbol symbol) bytes s = ap first_class s ∙ sign_class symbol
class_is lexeme.End bytes s = absurd s

apart : (a b : Lexeme) (bytes : List ℕ) → Spells a bytes → Spells b bytes → class_of a ≢ class_of b → a ≡ b
apart a b bytes s t other = absurd (other (sym (class_is a bytes s) ∙ class_is b bytes t))

tens : (m n : ℕ) → m * 10000 ≡ n * 10000 → m ≡ n
tens m n e = omega arith

-- bytes spell one token at most
pub spelled_once : (a b : Lexeme) (bytes : List ℕ) → Spells a bytes → Spells b bytes → a ≡ b
spelled_once (lexeme.Name m) (lexeme.Name n) bytes s t = ap lexeme.Name (sym s.1 ∙ t.1)
spelled_once (lexeme.Name m) (lexeme.Word w) bytes s t = absurd (word_no_name bytes _ t.place s.0)
spelled_once (lexeme.Word v) (lexeme.Name n) bytes s t = absurd (word_no_name bytes _ s.place t.0)
spelled_once (lexeme.Word v) (lexeme.Word w) bytes s t = ap lexeme.Word (same_words v w (sym s.place ∙ t.place))
spelled_once (lexeme.Integer x) (lexeme.Integer y) bytes s t =
    ap lexeme.Integer (s.value ∙ ap pos (tens s.count t.count (size_once bytes _ _ s.numeral t.numeral)) ∙ sym t.value)
spelled_once (lexeme.Integer x) (lexeme.Whole y) bytes s t =
    let same = tens s.count t.count (size_once bytes _ _ s.numeral t.numeral) in let most = s.most in let more = t.more in absurd (omega arith)
spelled_once (lexeme.Integer x) (lexeme.Decimal y) bytes s t = absurd (clash _ t.point s.digits)
spelled_once (lexeme.Whole x) (lexeme.Integer y) bytes s t =
    let same = tens s.count t.count (size_once bytes _ _ s.numeral t.numeral) in let most = t.most in let more = s.more in absurd (omega arith)
spelled_once (lexeme.Whole x) (lexeme.Whole y) bytes s t = ap lexeme.Whole (s.value ∙ ap pos (size_once bytes _ _ s.numeral t.numeral) ∙ sym t.value)
spelled_once (lexeme.Whole x) (lexeme.Decimal y) bytes s t = absurd (clash _ t.point s.digits)
spelled_once (lexeme.Decimal x) (lexeme.Integer y) bytes s t = absurd (clash _ s.point t.digits)
spelled_once (lexeme.Decimal x) (lexeme.Whole y) bytes s t = absurd (clash _ s.point t.digits)
spelled_once (lexeme.Decimal x) (lexeme.Decimal y) bytes s t = ap lexeme.Decimal (s.value ∙ ap pos (size_once bytes _ _ s.numeral t.numeral) ∙ sym t.value)
spelled_once (lexeme.Text x) (lexeme.Text y) bytes s t = ap lexeme.Text (same_text x y bytes s t)
spelled_once (lexeme.Symbol x) (lexeme.Symbol y) bytes s t = ap lexeme.Symbol (same_symbol x y bytes s t)
spelled_once lexeme.End b bytes s t = absurd s
spelled_once a b bytes s t = apart a b bytes s t (λ e. omega arith)

-- ---- one next token

pub next_once : (bytes : List ℕ) (a b : Lexeme) (m n : ℕ) → IsNext bytes a m → IsNext bytes b n → (a ≡ b) × (m ≡ n)
next_once bytes a b m n one other =
    let most : m ≤ n = ⊎_elim (λ (longer : n < m). absurd (other.longest m longer one.within (spelled_form a (take m bytes) one.spelled))) (λ (le : m ≤ n). le) (cases_lt n m) in
    let least : n ≤ m = ⊎_elim (λ (longer : m < n). absurd (one.longest n longer other.within (spelled_form b (take n bytes) other.spelled))) (λ (le : n ≤ m). le) (cases_lt m n) in
    let same : m ≡ n = omega arith in
    let P : ℕ → Type 0 = λ k. Spells b (take k bytes) in
    (spelled_once a b (take m bytes) one.spelled (subst P (sym same) other.spelled), same)

-- what stands or has ended is no blank
abbrev NoBlank : List ℕ → Type 0
NoBlank [] = Unit {0}
NoBlank (b ∷ bs) = is_blank b ≡ false

stands_no_blank : (rest : List ℕ) → Stands rest → NoBlank rest
stands_no_blank [] h = tt
stands_no_blank (b ∷ bs) h = h.1

ended_no_blank : (rest : List ℕ) → HasEnded rest → NoBlank rest
ended_no_blank [] h = tt
ended_no_blank (b ∷ bs) h = let quote = eqb-true b 34 h in ap is_blank quote

not_before : (line : List ℕ) (at p q : ℕ) → AreBlanks line at p → NoBlank (drop p line) → AreBlanks line at q → p < q → ⊥
not_before line at p q to_p none to_q before =
    let later = to_p.later in
    let within = to_q.within in
    let left = length-drop at line in
    let long = length-take (q - at) (drop at line) in
    let blank : is_blank (get_or (take (q - at) (drop at line)) (p - at) 0) ≡ true =
    AllPass-from_list_all is_blank (take (q - at) (drop at line)) to_q.blank (p - at) 0 (omega arith) in
    let place : at + (p - at) ≡ p = omega arith in
    let here : get_or (take (q - at) (drop at line)) (p - at) 0 ≡ get_or line p 0 =
    get_or-take (q - at) (drop at line) (p - at) 0 (omega arith) ∙ get_or-drop at line (p - at) 0 ∙ ap (λ n. get_or line n 0) place in
    let rest : is_blank (get_or line p 0) ≡ false = subst NoBlank (drop-cons line p 0 (omega arith)) none in
    clash _ rest (ap is_blank (sym here) ∙ blank)

blanks_once : (line : List ℕ) (at p q : ℕ) → AreBlanks line at p → NoBlank (drop p line) → AreBlanks line at q → NoBlank (drop q line) → p ≡ q
blanks_once line at p q to_p one to_q other =
    let most : p ≤ q = ⊎_elim (λ (before : q < p). absurd (not_before line at q p to_q other to_p before)) (λ (le : p ≤ q). le) (cases_lt q p) in
    let least : q ≤ p = ⊎_elim (λ (before : p < q). absurd (not_before line at p q to_p one to_q before)) (λ (le : q ≤ p). le) (cases_lt p q) in
    omega arith

comes_stands : (line : List ℕ) (at : ℕ) (t : Token) → ComesNext line at t → Stands (drop t.from line)
comes_stands line at t comes = spelled_stands t.what (drop t.from line) comes.len comes.next.spelled

same_tokens : (t u : Token) → t.what ≡ u.what → t.from ≡ u.from → t.to ≡ u.to → t ≡ u
same_tokens t u what from to = λ i. record { what = what i; from = from i; to = to i }

comes_once : (line : List ℕ) (at : ℕ) (t u : Token) → ComesNext line at t → ComesNext line at u → t ≡ u
comes_once line at t u one other =
    let from : t.from ≡ u.from = blanks_once line at t.from u.from one.blanks (stands_no_blank _ (comes_stands line at t one)) other.blanks (stands_no_blank _ (comes_stands line at u other)) in
    let P : ℕ → Type 0 = λ place. IsNext (drop place line) u.what other.len in
    let both = next_once (drop t.from line) t.what u.what one.len other.len one.next (subst P (sym from) other.next) in
    let to : t.to ≡ u.to = one.behind ∙ ap (λ n. n + one.len) from ∙ ap (λ n. u.from + n) both.1 ∙ sym other.behind in
    same_tokens t u both.0 from to

-- ---- one walk

abbrev Stuck : List ℕ → ℕ → Type 0
Stuck line at = (t : Token) → ComesNext line at t → ⊥

record SameWalk (a b : List Token) (x y : ℕ) : Type 0 where
  tokens : a ≡ b
  place : x ≡ y

same_walk : (line : List ℕ) (from : ℕ) (a b : List Token) (x y : ℕ) → Follow line from a x → Stuck line x → Follow line from b y → Stuck line y → SameWalk a b x y
same_walk line from [] [] x y p stuck q halted = record { tokens = refl; place = sym p ∙ q }
same_walk line from [] (u ∷ us) x y p stuck q halted = let P : ℕ → Type 0 = λ place. ComesNext line place u in absurd (stuck u (subst P p q.0))
same_walk line from (t ∷ ts) [] x y p stuck q halted = let P : ℕ → Type 0 = λ place. ComesNext line place t in absurd (halted t (subst P q p.0))
same_walk line from (t ∷ ts) (u ∷ us) x y p stuck q halted =
    let same = comes_once line from t u p.0 q.0 in
    let P : Token → Type 0 = λ v. Follow line v.to us y in
    let rest = same_walk line t.to ts us x y p.1 stuck (subst P (sym same) q.1) halted in
    record { tokens = ap (λ v. v ∷ ts) same ∙ ap (λ l. u ∷ l) rest.tokens; place = rest.place }

stands_not_ended : (rest : List ℕ) → Stands rest → HasEnded rest → ⊥
stands_not_ended [] h e = h
stands_not_ended (b ∷ bs) h e = clash _ h.0 e

ended_stuck : (line : List ℕ) (at place : ℕ) → AreBlanks line at place → HasEnded (drop place line) → Stuck line at
ended_stuck line at place blanks ended t comes =
    let stands = comes_stands line at t comes in
    let same = blanks_once line at place t.from blanks (ended_no_blank _ ended) comes.blanks (stands_no_blank _ stands) in
    let P : ℕ → Type 0 = λ p. HasEnded (drop p line) in
    stands_not_ended (drop t.from line) stands (subst P same ended)

fault_stuck : (line : List ℕ) (at place : ℕ) → AreBlanks line at place → Stands (drop place line) → ((what : Lexeme) (len : ℕ) → IsNext (drop place line) what len → ⊥) → Stuck line at
fault_stuck line at place blanks stands none t comes =
    let same = blanks_once line at t.from place comes.blanks (stands_no_blank _ (comes_stands line at t comes)) blanks (stands_no_blank _ stands) in
    let P : ℕ → Type 0 = λ p. IsNext (drop p line) t.what comes.len in
    none t.what comes.len (subst P same comes.next)

pub tokens_once : (line : List ℕ) (from : ℕ) (a b : List Token) → AreTokens line from a → AreTokens line from b → a ≡ b
tokens_once line from a b one other =
    let walk = same_walk line from one.front other.front one.last other.last one.follow (ended_stuck line one.last one.place one.blanks one.ended)
    other.follow (ended_stuck line other.last other.place other.blanks other.ended) in
    one.all ∙ ap (λ l. l ++ end_token line ∷ []) walk.tokens ∙ sym other.all

pub fault_once : (line : List ℕ) (from c d : ℕ) → HasFault line from c → HasFault line from d → c ≡ d
fault_once line from c d one other =
    let walk = same_walk line from one.front other.front one.last other.last one.follow (fault_stuck line one.last one.place one.blanks one.stands one.none)
    other.follow (fault_stuck line other.last other.place other.blanks other.stands other.none) in
    let B : ℕ → Type 0 = λ at. AreBlanks line at other.place in
    let place = blanks_once line one.last one.place other.place one.blanks (stands_no_blank _ one.stands) (subst B (sym walk.place) other.blanks) (stands_no_blank _ other.stands) in
    one.counted ∙ ap (λ n. n + 1) place ∙ sym other.counted

pub tokens_or_fault : (line : List ℕ) (from c : ℕ) (a : List Token) → AreTokens line from a → HasFault line from c → ⊥
tokens_or_fault line from c a one other =
    let walk = same_walk line from one.front other.front one.last other.last one.follow (ended_stuck line one.last one.place one.blanks one.ended)
    other.follow (fault_stuck line other.last other.place other.blanks other.stands other.none) in
    let B : ℕ → Type 0 = λ at. AreBlanks line at other.place in
    let place = blanks_once line one.last one.place other.place one.blanks (ended_no_blank _ one.ended) (subst B (sym walk.place) other.blanks) (stands_no_blank _ other.stands) in
    let P : ℕ → Type 0 = λ p. HasEnded (drop p line) in
    stands_not_ended (drop other.place line) other.stands (subst P place one.ended)
