-- Going through a line: blanks, tokens, and its end.
use Rattle.std.proofs.Common.{◌≡◌, ◌≢◌, ◌≤◌, ◌<◌, ◌+◌, ◌-◌, ℕ, ◌∙◌, refl, ap, sym, subst, arith, false, List, [], ◌∷◌, ◌++◌, length, take, drop, get_or, drop-cons, length-drop, eq-eqb, ne_eqb}
use Rattle.std.specs.List.{list_all, prefix_len}
use Rattle.std.proofs.lemmas.List.{drop_all, get_or-drop, take_rest}
use Rattle.std.proofs.lemmas.List.Sums.{prefix_len-le-length, prefix_len_stops}
use Rattle.dml_tree.specs.LineTokens.{is_blank, IsNext, AreBlanks, Stands, HasEnded, ComesNext, Follow, AreTokens, HasFault, end_token}
use Rattle.dml_tree.specs.inside.Scanning.{NoneIsNext, EndsFrom, StandsAt}
use Rattle.dml_tree.specs.declared.token.Token.{Token}
use Rattle.dml_tree.proofs.Fronts.{prefix_len-part}

-- ---- behind the blanks

abbrev pub blank_len : List ℕ → ℕ → ℕ
blank_len line at = prefix_len is_blank (drop at line)

pub blank_len-is : (line : List ℕ) (at blanks : ℕ) → blanks ≡ prefix_len is_blank (take (length line - at) (drop at line)) → blanks ≡ blank_len line at
blank_len-is line at blanks e = e ∙ ap (prefix_len is_blank) (take_rest line at)

pub are_blanks : (line : List ℕ) (at blanks : ℕ) → blanks ≡ blank_len line at → at ≤ length line → AreBlanks line at (at + blanks)
are_blanks line at blanks e within =
    let most = prefix_len-le-length is_blank (drop at line) in
    let left = length-drop at line in
    let size : at + blanks - at ≡ blanks = omega arith in
    record {
      later = omega arith;
      within = omega arith;
      blank = ap (λ n. list_all is_blank (take n (drop at line))) size ∙ prefix_len-part is_blank (drop at line) blanks (omega arith);
    }

no_blank : (line : List ℕ) (at blanks : ℕ) → blanks ≡ blank_len line at → at + blanks < length line → is_blank (get_or line (at + blanks) 0) ≡ false
no_blank line at blanks e within =
    let left = length-drop at line in
    ap is_blank (sym (get_or-drop at line blanks 0)) ∙ ap (λ n. is_blank (get_or (drop at line) n 0)) e ∙ prefix_len_stops is_blank (drop at line) 0 (omega arith)

pub stands_at : (line : List ℕ) (at blanks : ℕ) → blanks ≡ blank_len line at → at ≤ length line → at + blanks ≢ length line → get_or line (at + blanks) 0 ≢ 34 → StandsAt line at (at + blanks)
stands_at line at blanks e within short other =
    let front = are_blanks line at blanks e within in
    let inner = front.within in
    let P : List ℕ → Type 0 = λ l. Stands l in
    record {
      blanks = front;
      stands = subst P (sym (drop-cons line (at + blanks) 0 (omega arith))) (ne_eqb _ _ other, no_blank line at blanks e (omega arith));
    }

pub ends_at_end : (line : List ℕ) (at blanks : ℕ) → blanks ≡ blank_len line at → at ≤ length line → at + blanks ≡ length line → EndsFrom line at
ends_at_end line at blanks e within last =
    let P : List ℕ → Type 0 = λ l. HasEnded l in
    record { place = at + blanks; blanks = are_blanks line at blanks e within; ended = subst P (sym (drop_all (at + blanks) line (omega arith))) tt }

pub ends_at_comment : (line : List ℕ) (at blanks : ℕ) → blanks ≡ blank_len line at → at ≤ length line → at + blanks ≢ length line → get_or line (at + blanks) 0 ≡ 34 → EndsFrom line at
ends_at_comment line at blanks e within short comment =
    let front = are_blanks line at blanks e within in
    let inner = front.within in
    let P : List ℕ → Type 0 = λ l. HasEnded l in
    record { place = at + blanks; blanks = front; ended = subst P (sym (drop-cons line (at + blanks) 0 (omega arith))) (eq-eqb _ _ comment) }

-- ---- token by token

pub record Walked (line : List ℕ) (from at : ℕ) (tokens : List Token) : Type 0 where
  pub within : at ≤ length line
  pub follow : Follow line from tokens at

follow-snoc : (line : List ℕ) (from at : ℕ) (tokens : List Token) (token : Token) → Follow line from tokens at → ComesNext line at token → Follow line from (tokens ++ token ∷ []) token.to
follow-snoc line from at [] token e comes = let P : ℕ → Type 0 = λ place. ComesNext line place token in (subst P (sym e) comes, refl)
follow-snoc line from at (t ∷ ts) token follow comes = (follow.0, follow-snoc line t.to at ts token follow.1 comes)

pub walked_on : (line : List ℕ) (from at start len : ℕ) (tokens : List Token) (token : Token) → Walked line from at tokens → StandsAt line at start → token.from ≡ start → token.to ≡ start + len → IsNext (take (length line - start) (drop start line)) token.what len → Walked line from (start + len) (tokens ++ token ∷ [])
walked_on line from at start len tokens token walked stands begins ends next =
    let P : List ℕ → Type 0 = λ l. IsNext l token.what len in
    let here : IsNext (drop start line) token.what len = subst P (take_rest line start) next in
    let left = length-drop start line in
    let most = here.within in
    let inner = stands.blanks.within in
    let B : ℕ → Type 0 = λ place. AreBlanks line at place in
    let N : ℕ → Type 0 = λ place. IsNext (drop place line) token.what len in
    let comes : ComesNext line at token = record {
      len = len;
      blanks = subst B (sym begins) stands.blanks;
      next = subst N (sym begins) here;
      behind = ends ∙ ap (λ n. n + len) (sym begins);
    } in
    let F : ℕ → Type 0 = λ place. Follow line from (tokens ++ token ∷ []) place in
    record { within = omega arith; follow = subst F ends (follow-snoc line from at tokens token walked.follow comes) }

pub all_walked : (line : List ℕ) (from at : ℕ) (tokens : List Token) → Walked line from at tokens → EndsFrom line at → AreTokens line from (tokens ++ end_token line ∷ [])
all_walked line from at tokens walked ends =
    record { front = tokens; last = at; place = ends.place; follow = walked.follow; blanks = ends.blanks; ended = ends.ended; all = refl }

pub fault_walked : (line : List ℕ) (from at start column : ℕ) (tokens : List Token) → Walked line from at tokens → StandsAt line at start → NoneIsNext (take (length line - start) (drop start line)) → column ≡ start + 1 → HasFault line from column
fault_walked line from at start column tokens walked stands none counted =
    let P : List ℕ → Type 0 = λ l. NoneIsNext l in
    record { front = tokens; last = at; place = start; follow = walked.follow; blanks = stands.blanks; stands = stands.stands; none = subst P (take_rest line start) none; counted = counted }
