-- Each row of bytes reads in some way.
use Rattle.std.proofs.Common.{◌≡◌, ◌≢◌, ◌⊎◌, Bool, true, false, Decides, ℕ, zero, suc, ◌+◌, ◌<◌, ◌≤◌, ◌^◌, List, [], ◌∷◌, ◌++◌, length, take, drop, get_or, inl, inr, ⊎_elim, refl, sym, ◌∙◌, ap, subst, arith, append_assoc, length-take, length-drop, take-append-drop}
use Rattle.std.proofs.lemmas.Bool.{cases_eq, cases_lt, false≢true}
use Rattle.std.proofs.lemmas.List.{get_or-drop}
use Rattle.std.proofs.lemmas.Nat.{be_bytes_4}
use Rattle.std.proofs.lemmas.Slice.Eq.{bytes_eq-Decides}
use Rattle.std.specs.Int.{from_be_bytes, w32}
use Rattle.std.specs.Str.{bytes_eq}
use Rattle.aw_journal.specs.Format.{head, frames, size_bytes, AreShort, Holds, CutShort}
use Rattle.aw_journal.specs.Laws.{Reads}
use Rattle.aw_journal.proofs.callers.Frames.{frames-push, AreShort-push}

AreBytes : List ℕ → Type 0
AreBytes bytes = (i : ℕ) → get_or bytes i 0 < 256

four_short : (bytes : List ℕ) → length bytes ≡ 4 → ((i : ℕ) → get_or bytes i 0 < 256) → from_be_bytes w32 bytes < 2 ^ 32
four_short [] four fits = absurd (omega arith)
four_short (a ∷ []) four fits = absurd (omega arith)
four_short (a ∷ b ∷ []) four fits = absurd (omega arith)
four_short (a ∷ b ∷ c ∷ []) four fits = absurd (omega arith)
four_short (a ∷ b ∷ c ∷ d ∷ []) four fits = omega (arith, fits 0, fits 1, fits 2, fits 3)
four_short (a ∷ b ∷ c ∷ d ∷ e ∷ bytes) four fits = absurd (omega arith)

four_said : (bytes : List ℕ) → length bytes ≡ 4 → ((i : ℕ) → get_or bytes i 0 < 256) → bytes ≡ size_bytes (from_be_bytes w32 bytes)
unfolding size_bytes
four_said bytes four fits = sym (be_bytes_4 bytes (from_be_bytes w32 bytes) four fits refl)

front_fits : (count : ℕ) (bytes : List ℕ) → ((i : ℕ) → get_or bytes i 0 < 256) → (i : ℕ) → get_or (take count bytes) i 0 < 256
front_fits zero bytes fits i = omega arith
front_fits (suc count) [] fits i = omega arith
front_fits (suc count) (byte ∷ bytes) fits zero = fits 0
front_fits (suc count) (byte ∷ bytes) fits (suc i) = front_fits count bytes (λ j. fits (suc j)) i

behind_fits : (count : ℕ) (bytes : List ℕ) → ((i : ℕ) → get_or bytes i 0 < 256) → (i : ℕ) → get_or (drop count bytes) i 0 < 256
behind_fits count bytes fits i = subst (λ (n : ℕ). n < 256) (sym (get_or-drop count bytes i 0)) (fits (count + i))

abbrev Found : List ℕ → Type 0
Found image = ((payloads : List (List ℕ)) × Holds image payloads) ⊎ ((offset : ℕ) × CutShort image offset)

at_closed : (settled : List (List ℕ)) (gate : ℕ) (rest : List ℕ) → AreShort settled → gate ≢ 1 → Found (head ++ frames settled ++ gate ∷ rest)
at_closed settled gate rest short closed = inl (settled, record { gate = gate; rest = rest; closed = closed; short = short; bytes = refl })

at_cut : (settled : List (List ℕ)) (rest : List ℕ) → AreShort settled → (length rest < 4) ⊎ (length rest < 4 + from_be_bytes w32 (take 4 rest) + 1) → Found (head ++ frames settled ++ 1 ∷ rest)
at_cut settled rest short cut = inr (8 + length (frames settled), record { payloads = settled; rest = rest; short = short; bytes = refl; place = refl; cut = cut })

module _ (settled : List (List ℕ)) (rest : List ℕ) (long : 4 ≤ length rest) (fits : (i : ℕ) → get_or rest i 0 < 256) where
  abbrev size : ℕ
  size = from_be_bytes w32 (take 4 rest)

  abbrev payload : List ℕ
  payload = take size (drop 4 rest)

  four : length (take 4 rest) ≡ 4
  four = omega (arith, long, length-take 4 rest)

  size_short : size < 2 ^ 32
  size_short = four_short (take 4 rest) four (front_fits 4 rest fits)

  module _ (whole : 4 + size + 1 ≤ length rest) where
    payload_long : length payload ≡ size
    payload_long = omega (arith, length-take size (drop 4 rest), length-drop 4 rest, whole)

    next_frame : head ++ frames (settled ++ payload ∷ []) ++ drop size (drop 4 rest) ≡ head ++ frames settled ++ 1 ∷ rest
    next_frame =
        ap (λ (l : List ℕ). head ++ l) (frames-push settled payload (drop size (drop 4 rest)))
        ∙ ap (λ (n : ℕ). head ++ frames settled ++ 1 ∷ (size_bytes n ++ payload ++ drop size (drop 4 rest))) payload_long
        ∙ ap (λ (l : List ℕ). head ++ frames settled ++ 1 ∷ l)
        (append_assoc (size_bytes size) payload (drop size (drop 4 rest))
        ∙ ap (λ (l : List ℕ). size_bytes size ++ l) (take-append-drop size (drop 4 rest))
        ∙ ap (λ (l : List ℕ). l ++ drop 4 rest) (sym (four_said (take 4 rest) four (front_fits 4 rest fits)))
        ∙ take-append-drop 4 rest)

-- behind an open gate, where all that is shorter reads in some way
open_gate : (settled : List (List ℕ)) (rest : List ℕ) → ((i : ℕ) → get_or rest i 0 < 256) → AreShort settled →
    ((more : List (List ℕ)) (tail : List ℕ) → length tail ≤ length rest → 1 ≤ length tail → ((i : ℕ) → get_or tail i 0 < 256) → AreShort more → Found (head ++ frames more ++ tail)) →
    Found (head ++ frames settled ++ 1 ∷ rest)
open_gate settled rest fits short again =
    ⊎_elim (λ few. at_cut settled rest short (inl few)) (λ long.
    ⊎_elim (λ few. at_cut settled rest short (inr few)) (whole long)
    (cases_lt (length rest) (4 + from_be_bytes w32 (take 4 rest) + 1)))
    (cases_lt (length rest) 4)
  where
    whole : 4 ≤ length rest → 4 + from_be_bytes w32 (take 4 rest) + 1 ≤ length rest → Found (head ++ frames settled ++ 1 ∷ rest)
    whole long enough =
        let count = from_be_bytes w32 (take 4 rest) in
        let tail = drop count (drop 4 rest) in
        let size_is = payload_long settled rest long fits enough in
        let small = size_short settled rest long fits in
        subst Found (next_frame settled rest long fits enough)
        (again (settled ++ take count (drop 4 rest) ∷ []) tail (omega (arith, length-drop count (drop 4 rest), length-drop 4 rest))
        (omega (arith, enough, length-drop count (drop 4 rest), length-drop 4 rest)) (behind_fits count (drop 4 rest) (behind_fits 4 rest fits))
        (AreShort-push settled (take count (drop 4 rest)) short (omega (arith, size_is, small))))

found : (fuel : ℕ) (settled : List (List ℕ)) (tail : List ℕ) → length tail ≤ fuel → 1 ≤ length tail → ((i : ℕ) → get_or tail i 0 < 256) → AreShort settled → Found (head ++ frames settled ++ tail)
found zero settled tail fits some bytes short = absurd (omega arith)
found (suc fuel) settled [] fits some bytes short = absurd (omega arith)
found (suc fuel) settled (gate ∷ rest) fits some bytes short =
    ⊎_elim (λ opened. subst (λ (byte : ℕ). Found (head ++ frames settled ++ byte ∷ rest)) (sym opened)
    (open_gate settled rest (λ i. bytes (suc i)) short (λ more tail less any all small. found fuel more tail (omega (arith, less, fits)) any all small)))
    (λ closed. at_closed settled gate rest short closed) (cases_eq gate 1)

decided : {P : Type 0} (test : Bool) → Decides test P → P ⊎ (P → ⊥)
decided true decides = inl (decides.0 refl)
decided false decides = inr (λ holds. absurd (false≢true (decides.1 holds)))

pub reads_some_way : (image : List ℕ) → ((i : ℕ) → get_or image i 0 < 256) → Reads image
reads_some_way image fits = ⊎_elim (λ few. inl (inl few)) long (cases_lt (length image) 9)
  where
    long : 9 ≤ length image → Reads image
    long enough =
        ⊎_elim (λ same. inr (subst Found (ap (λ (l : List ℕ). l ++ drop 8 image) (sym same) ∙ take-append-drop 8 image)
        (found (length (drop 8 image)) [] (drop 8 image) (omega arith) (omega (arith, enough, length-drop 8 image)) (behind_fits 8 image fits) tt)))
        (λ other. inl (inr other)) (decided (bytes_eq (take 8 image) head) (bytes_eq-Decides (take 8 image) head))
