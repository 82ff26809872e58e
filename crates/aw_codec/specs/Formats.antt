-- Formats: what may stand in a row of bytes, one field behind the other.
use Rattle.std.specs.Prelude.{ℕ, zero, suc, ◌++◌, ◌≡◌, ◌≢◌, ◌<◌, ◌≤◌, ◌⊎◌, Bool, false, List, [], ◌∷◌, length, take, drop, IsTrue}
use Rattle.std.specs.List.{concat}
use Rattle.std.specs.Int.{Width, byte_len, from_be_bytes}

-- What may stand next: nothing, and this value was read; or a field of so many bytes that pass the test, and then what
-- may stand behind it, which depends on its bytes.
pub data Format (A : Type 0) : Type 0 where
  ended : A → Format A
  field : ℕ → (List ℕ → Bool) → (List ℕ → Format A) → Format A

-- one format, and behind it another, which depends on the value
infixl 10 ◌>>=◌
abbrev pub ◌>>=◌ : {A B : Type 0} → Format A → (A → Format B) → Format B
(ended v) >>= next = next v
(field width test behind) >>= next = field width test (λ bytes. behind bytes >>= next)

-- a big-endian number that passes the test
unfoldable pub number : Width → (ℕ → Bool) → Format ℕ
number w test = field (byte_len w) (λ bytes. test (from_be_bytes w bytes)) (λ bytes. ended (from_be_bytes w bytes))

-- so many bytes that pass the test
unfoldable pub bytes_of : ℕ → (List ℕ → Bool) → Format (List ℕ)
bytes_of width test = field width test (λ bytes. ended bytes)

-- so many of these one behind the other, each of which depends on those before it
unfoldable pub many : {X : Type 0} → (List X → Format X) → ℕ → List X → Format (List X)
many next zero before = ended before
many next (suc n) before = next before >>= λ x. many next n (before ++ x ∷ [])

-- These fields stand one behind the other, each as it may after those before it, and P holds of what may stand next.
abbrev pub After : {A : Type 0} → Format A → List (List ℕ) → (Format A → Type 0) → Type 0
After format [] P = P format
After (ended v) (bytes ∷ fields) P = ⊥
After (field width test behind) (bytes ∷ fields) P = (length bytes ≡ width) × IsTrue (test bytes) × After (behind bytes) fields P

-- nothing may stand next, and this value was read
abbrev pub HasEnded : {A : Type 0} → A → Format A → Type 0
HasEnded v (ended w) = v ≡ w
HasEnded v (field width test behind) = ⊥

-- The bytes are the fields of the format from the first to the last one, and this is their value.
abbrev pub IsWhole : {A : Type 0} → Format A → List ℕ → A → Type 0
IsWhole format bytes v = (fields : List (List ℕ)) × (concat fields ≡ bytes) × After format fields (HasEnded v)

-- What may stand next isn't what comes: a byte comes where nothing may stand, or the bytes end in the field, or the field
-- doesn't pass its test.
abbrev pub Refuses : {A : Type 0} → List ℕ → Format A → Type 0
Refuses bytes (ended v) = bytes ≢ []
Refuses bytes (field width test behind) = (length bytes < width) ⊎ ((width ≤ length bytes) × (test (take width bytes) ≡ false))

-- The bytes before this offset are fields that may stand there, and what comes at the offset may not.
abbrev pub HasFault : {A : Type 0} → Format A → List ℕ → ℕ → Type 0
HasFault format bytes offset =
    (offset ≤ length bytes) × (fields : List (List ℕ)) × (concat fields ≡ take offset bytes) × After format fields (Refuses (drop offset bytes))
