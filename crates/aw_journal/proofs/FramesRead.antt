-- What the bytes that were read say of the content.
use Rattle.std.proofs.Common.{◌≡◌, ◌≢◌, ◌⊎◌, Bool, true, false, not, Option, None, Some, IfSome, IsTrue, ◌↔◌, ℕ, zero, suc, ◌*◌, ◌+◌, ◌-◌, ◌<◌, ◌≤◌, min, List, [], ◌∷◌, ◌++◌, length, take, drop, get_or, inl, inr, refl, sym, ◌∙◌, ap, subst, arith, append_assoc, length-take, length-drop, take-append-drop}
use Rattle.std.proofs.lemmas.List.{take-take, take_all, take_at, drop-take, drop-drop}
use Rattle.std.proofs.lemmas.Nat.{be_bytes_4}
use Rattle.std.proofs.lemmas.Slice.Eq.{bytes_eq-Decides}
use Rattle.std.specs.Int.{to_be_bytes, w32}
use Rattle.std.specs.Str.{bytes_eq}
use Rattle.aw_disk.specs.Calls.{Reads}
use Rattle.aw_journal.specs.Format.{head, size_bytes, IsUnformatted, IsFormatted}
use Rattle.aw_journal.specs.inside.FramesRead.{Begins, IsFrame}
use Rattle.aw_journal.specs.declared.gate.Gate.{Gate}
use Rattle.aw_journal.specs.declared.gate.Gate.TheVariants.{Closed, Open, CutShort}

-- the gate of enough of the bytes
pub Begins-front : (gate : Gate) (bytes tail : List ℕ) (count : ℕ) → bytes ≡ take count tail → (5 ≤ count) ⊎ (length tail ≤ count) → Begins gate bytes → Begins gate tail
Begins-front gate bytes tail count is (inr all) begins = subst (λ (l : List ℕ). Begins gate l) (is ∙ take_all count tail all) begins
Begins-front Closed bytes tail count is (inl enough) begins = (
  begins.0,
  begins.1 ++ drop count tail,
  begins.2,
  sym (take-append-drop count tail) ∙ ap (λ (l : List ℕ). l ++ drop count tail) (sym is ∙ begins.3),
)
Begins-front (Open size) bytes tail count is (inl enough) begins = (
  begins.0 ++ drop count tail,
  begins.1,
  sym (take-append-drop count tail) ∙ ap (λ (l : List ℕ). l ++ drop count tail) (sym is ∙ begins.2)
      ∙ ap (λ (l : List ℕ). 1 ∷ l) (append_assoc (size_bytes size) begins.0 (drop count tail)),
)
Begins-front CutShort bytes tail count is (inl enough) begins =
    let all : length tail ≤ count = omega (arith, begins.1, ap length begins.2, ap length is, length-take count tail) in
    subst (λ (l : List ℕ). Begins CutShort l) (is ∙ take_all count tail all) begins

-- what was read from a place on, without its first bytes
pub read_behind : (count place skip : ℕ) (content buffer : List ℕ) → Reads count place content buffer → skip ≤ count →
    take (count - skip) (drop skip buffer) ≡ take (count - skip) (drop (place + skip) content)
read_behind count place skip content buffer reads within =
    sym (drop-take skip (count - skip) buffer)
    ∙ ap (λ (n : ℕ). drop skip (take n buffer)) same
    ∙ ap (λ (l : List ℕ). drop skip l) reads.bytes
    ∙ ap (λ (n : ℕ). drop skip (take n (drop place content))) (sym same)
    ∙ drop-take skip (count - skip) (drop place content)
    ∙ ap (λ (l : List ℕ). take (count - skip) l) (drop-drop skip place content)
  where
    same : skip + (count - skip) ≡ count
    same = omega (arith, within)

-- the first of what was read
pub read_front : (count place first : ℕ) (content buffer : List ℕ) → Reads count place content buffer → first ≤ count → take first buffer ≡ take first (drop place content)
read_front count place first content buffer reads within =
    sym (take-take first count buffer within) ∙ ap (λ (l : List ℕ). take first l) reads.bytes ∙ take-take first count (drop place content) within

pub start_short : (count : ℕ) (content buffer : List ℕ) → Reads count 0 content buffer → length buffer ≡ 13 → count < 9 → IsUnformatted content
start_short count content buffer reads size few = inl (omega (arith, reads.count_is, size, few))

pub start_other : (count : ℕ) (content buffer : List ℕ) → Reads count 0 content buffer → 9 ≤ count → take 8 buffer ≢ head → IsUnformatted content
start_other count content buffer reads enough other = inr (λ same. other (read_front count 0 8 content buffer reads (omega (arith, enough)) ∙ same))

pub start_read : (gate : Gate) (count : ℕ) (content buffer : List ℕ) → Reads count 0 content buffer → length buffer ≡ 13 → 9 ≤ count → take 8 buffer ≡ head →
    Begins gate (take (count - 8) (drop 8 buffer)) → (take 8 content ≡ head) × Begins gate (drop 8 content)
start_read gate count content buffer reads size enough same begins = (
  sym (read_front count 0 8 content buffer reads (omega (arith, enough))) ∙ same,
  Begins-front gate (take (count - 8) (drop 8 buffer)) (drop 8 content) (count - 8) (read_behind count 0 8 content buffer reads (omega (arith, enough))) reached begins,
)
  where
    reached : (5 ≤ count - 8) ⊎ (length (drop 8 content) ≤ count - 8)
    reached = grind (arith, reads.count_is, size, length-drop 8 content)

pub frame_read : (gate : Gate) (count place size : ℕ) (content buffer : List ℕ) → Reads count place content buffer → length buffer ≡ min (length content - place) (size + 5) → size < count →
    Begins gate (take (count - size) (drop size buffer)) → IsFrame place size (take size buffer) gate content
frame_read gate count place size content buffer reads room more begins = record {
  bytes = read_front count place size content buffer reads (omega (arith, more));
  begins = Begins-front gate (take (count - size) (drop size buffer)) (drop (place + size) content) (count - size) (read_behind count place size content buffer reads (omega (arith, more))) reached begins;
}
  where
    reached : (5 ≤ count - size) ⊎ (length (drop (place + size) content) ≤ count - size)
    reached = grind (arith, reads.count_is, room, length-drop (place + size) content)

pub head_is : (bytes : List ℕ) → false ≡ not (bytes_eq bytes head) → bytes ≡ head
head_is bytes same = (bytes_eq-Decides bytes head).0 (is_true (bytes_eq bytes head) same)
  where
    is_true : (test : Bool) → false ≡ not test → test ≡ true
    is_true true tested = refl
    is_true false tested = cc

pub head_is_not : (bytes : List ℕ) → true ≡ not (bytes_eq bytes head) → bytes ≢ head
head_is_not bytes other = λ same. apart (bytes_eq bytes head) other ((bytes_eq-Decides bytes head).1 same)
  where
    apart : (test : Bool) → true ≡ not test → test ≡ true → ⊥
    apart true tested is = cc
    apart false tested is = cc

pub IfSome_both : {X : Type 0} (option : Option X) {P Q R : X → Type 0} → IfSome option P → IfSome option Q → ((x : X) → P x → Q x → R x) → IfSome option R
IfSome_both None p q both = tt
IfSome_both (Some x) p q both = both x p q

-- the bytes of an open gate and a length
pub gate_read : (bytes : List ℕ) (size : ℕ) → 5 ≤ length bytes → get_or bytes 0 0 ≡ 1 → ((i : ℕ) → get_or bytes i 0 < 256) →
    size ≡ get_or bytes 1 0 * 16777216 + get_or bytes 2 0 * 65536 + get_or bytes 3 0 * 256 + get_or bytes 4 0 → bytes ≡ 1 ∷ (size_bytes size ++ drop 5 bytes)
unfolding size_bytes
gate_read [] size long first fits is = absurd (omega arith)
gate_read (a ∷ []) size long first fits is = absurd (omega arith)
gate_read (a ∷ b ∷ []) size long first fits is = absurd (omega arith)
gate_read (a ∷ b ∷ c ∷ []) size long first fits is = absurd (omega arith)
gate_read (a ∷ b ∷ c ∷ d ∷ []) size long first fits is = absurd (omega arith)
gate_read (a ∷ b ∷ c ∷ d ∷ e ∷ rest) size long first fits is =
    let four : to_be_bytes w32 size ≡ b ∷ c ∷ d ∷ e ∷ [] = be_bytes_4 (b ∷ c ∷ d ∷ e ∷ []) size refl (four_fit b c d e (fits 1) (fits 2) (fits 3) (fits 4)) is in
    ap (λ (n : ℕ). n ∷ b ∷ c ∷ d ∷ e ∷ rest) first ∙ ap (λ (l : List ℕ). 1 ∷ (l ++ rest)) (sym four)
  where
    four_fit : (b c d e : ℕ) → b < 256 → c < 256 → d < 256 → e < 256 → (i : ℕ) → get_or (b ∷ c ∷ d ∷ e ∷ []) i 0 < 256
    four_fit b c d e fb fc fd fe zero = fb
    four_fit b c d e fb fc fd fe (suc zero) = fc
    four_fit b c d e fb fc fd fe (suc (suc zero)) = fd
    four_fit b c d e fb fc fd fe (suc (suc (suc zero))) = fe
    four_fit b c d e fb fc fd fe (suc (suc (suc (suc i)))) = omega arith

-- a buffer that was lent to a read, as the vector has it
pub lent_back : (count : ℕ) (into items : List ℕ) → length into ≡ count → length items ≡ count → take count (into ++ drop (length into) items) ≡ into
lent_back count into items size same = take_at into (drop (length into) items) count size

pub formatted_read : (count : ℕ) (content buffer : List ℕ) (test : Bool) → Reads count 0 content buffer → length buffer ≡ 9 → count ≡ 9 →
    test ≡ bytes_eq (take 8 buffer) head → IsTrue test ↔ IsFormatted content
formatted_read count content buffer test reads size all is =
    let front : take 8 buffer ≡ take 8 content = read_front count 0 8 content buffer reads (omega (arith, all)) in
    let long : 9 ≤ length content = omega (arith, reads.count_is, size, all) in (
      λ yes. record { long = long; same = sym front ∙ (bytes_eq-Decides (take 8 buffer) head).0 (sym is ∙ yes) },
      λ formatted. is ∙ (bytes_eq-Decides (take 8 buffer) head).1 (front ∙ formatted.same),
    )
