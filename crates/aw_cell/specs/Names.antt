-- Names of objects: their bytes, the reserved words, and when two words are the same.
use Rattle.std.specs.Prelude.{◌==◌, ◌&&◌, ◌||◌, ◌++◌, ℕ, Bool, false, not, List, [], ◌∷◌, length, map, nat_le, codes}
use Rattle.std.specs.List.{list_all, list_any, slice_split}
use Rattle.std.specs.Char.{to_ascii_lowercase}
use Rattle.std.specs.Str.{bytes_eq}

abbrev pub is_letter : ℕ → Bool
is_letter b = (nat_le 65 b && nat_le b 90) || (nat_le 97 b && nat_le b 122)

abbrev pub is_digit : ℕ → Bool
is_digit b = nat_le 48 b && nat_le b 57

-- letters, digits and `_` make a session name; names have `.` too
abbrev pub is_word_byte : ℕ → Bool
is_word_byte b = is_letter b || is_digit b || b == 95

abbrev pub is_name_byte : ℕ → Bool
is_name_byte b = is_word_byte b || b == 46

abbrev pub begins_with : (ℕ → Bool) → List ℕ → Bool
begins_with test [] = false
begins_with test (b ∷ bs) = test b

-- a word with small letters for its capital ones
abbrev pub lowercase : List ℕ → List ℕ
lowercase word = map to_ascii_lowercase word

-- words are compared without regard to case
abbrev pub same_word : List ℕ → List ℕ → Bool
same_word a b = bytes_eq (lowercase a) (lowercase b)

-- a letter and up to 63 letters, digits, `_` or `.`
abbrev pub has_name_form : List ℕ → Bool
has_name_form word = begins_with is_letter word && nat_le (length word) 64 && list_all is_name_byte word

-- the words that stand for themselves and are no names
abbrev pub reserved_words : List (List ℕ)
reserved_words = slice_split (λ b. b == 32) (
    codes "ABS ACQUIRE ACROSS ADD AFTER AGGMAP AGGREGATE ALL ALLOCATE ANCESTORS AND ARGUMENT ATTACH AVERAGE AW BASEDON BASIS "
    ++ codes "BEFORE BOOLEAN BOTTOM CALL CHILDREN COMMIT COMPLEMENT COMPOSITE CONSISTENT COPY COUNT CUMSUM DEFINE DELETE "
    ++ codes "DESCENDANTS DETACH DIMENSION DO DOEND ELSE END EQ EVEN FALSE FIRST FOR FORMULA GE GT HCOPY HEVEN IF INTEGER KEEP "
    ++ codes "LAG LAST LE LEAD LIMIT LT MAINTAIN MAX MIN MODEL MOVE MOVINGTOTAL MULTI NA NAFILL NE NO NOT NUMBER OPERATOR OR "
    ++ codes "PARENTS PROGRAM PROPORTIONAL RELATION RELEASE REMOPERATOR REMOVE RENAME REPORT RESYNC RETURN REVERT RO SHOW SUM "
    ++ codes "TARGET TEXT THEN TO TOP TRUE UPDATE USING VALUESET VARIABLE WHILE WITH YES")

-- a name has the form of names and is no reserved word
abbrev pub is_name : List ℕ → Bool
is_name word = has_name_form word && not (list_any (same_word word) reserved_words)
