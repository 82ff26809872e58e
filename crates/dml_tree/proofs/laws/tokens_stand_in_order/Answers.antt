use Rattle.std.proofs.Common.{◌≡◌, ◌-◌, ℕ, List, [], ◌∷◌, length-drop, take, drop, subst, arith}
use Rattle.dml_tree.specs.Spelling.{Spells}
use Rattle.dml_tree.specs.LineTokens.{ComesNext, Follow}
use Rattle.dml_tree.specs.Laws.{IsPlaced, ArePlaced}
use Rattle.dml_tree.specs.declared.token.Token.{Token}
use Rattle.dml_tree.proofs.laws.tokens_stand_in_order.Goals as goal

is_placed : (line : List ℕ) (at : ℕ) (token : Token) → ComesNext line at token → IsPlaced line at token
is_placed line at token comes =
    let behind = comes.behind in
    let some = comes.next.some in
    let within = comes.next.within in
    let left = length-drop token.from line in
    let inner = comes.blanks.within in
    let size : comes.len ≡ token.to - token.from = omega arith in
    let P : ℕ → Type 0 = λ n. Spells token.what (take n (drop token.from line)) in
    record { later = comes.blanks.later; some = omega arith; within = omega arith; spelled = subst P size comes.next.spelled }

are_placed : (line : List ℕ) (from to : ℕ) (tokens : List Token) → Follow line from tokens to → ArePlaced line from tokens
are_placed line from to [] follow = tt
are_placed line from to (token ∷ tokens) follow = (is_placed line from token follow.0, are_placed line token.to to tokens follow.1)

pub returns : goal.returns
returns c = λ line from tokens are. (are.front, are.all, are_placed line from are.last are.front are.follow)
