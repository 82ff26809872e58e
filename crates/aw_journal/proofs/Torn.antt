-- What a write behind a byte, or of that byte alone, makes of a list, in whole or torn.
use Rattle.std.proofs.Common.{◌≡◌, ℕ, suc, ◌+◌, List, [], ◌∷◌, ◌++◌, length, take, drop, get_or, inl, inr, refl, sym, ◌∙◌, ap, arith, append_assoc, length-append}
use Rattle.std.proofs.lemmas.List.{take_at, drop_at, drop-drop, drop_more, get_or_append_left, get_or-append-add}
use Rattle.std.proofs.lemmas.List.Prefix.{front_from_reads, at_from_reads}
use Rattle.aw_disk.specs.Images.{overwritten, Torn}

module _ (front : List ℕ) (gate : ℕ) (tail : List ℕ) where
  size : length (front ++ gate ∷ tail) ≡ length front + 1 + length tail
  size = omega (arith, length-append front (gate ∷ tail))

  grouped : front ++ gate ∷ tail ≡ (front ++ gate ∷ []) ++ tail
  grouped = sym (append_assoc front (gate ∷ []) tail)

  -- a write behind the gate leaves all up to it
  pub torn_behind : (count : ℕ) (image : List ℕ) → Torn (length front + 1) count (front ++ gate ∷ tail) image →
      image ≡ front ++ gate ∷ drop (length front + 1) image
  torn_behind count image torn =
      let long : length (front ++ gate ∷ []) ≡ length front + 1 = omega (arith, length-append front (gate ∷ [])) in
      let whole = front_from_reads 0 image (front ++ gate ∷ []) (omega (arith, long, size, torn.no_shorter)) (λ i below.
      torn.outside i (omega (arith, below, long, size)) (inl (omega (arith, below, long)))
      ∙ ap (λ (l : List ℕ). get_or l i 0) grouped ∙ get_or_append_left (front ++ gate ∷ []) tail 0 i below) in
      whole ∙ append_assoc front (gate ∷ []) (drop (length (front ++ gate ∷ [])) image) ∙ ap (λ (n : ℕ). front ++ gate ∷ drop n image) long

  -- a write of the gate leaves all but it
  pub torn_at : (image : List ℕ) → Torn (length front) 1 (front ++ gate ∷ tail) image →
      image ≡ front ++ get_or image (length front) 0 ∷ (tail ++ drop (length front + 1 + length tail) image)
  torn_at image torn =
      let before = front_from_reads 0 image front (omega (arith, size, torn.no_shorter)) (λ i below.
      torn.outside i (omega (arith, below, size)) (inl below) ∙ get_or_append_left front (gate ∷ tail) 0 i below) in
      let behind = at_from_reads 0 image tail (length front + 1) (omega (arith, size, torn.no_shorter)) (λ i below.
      torn.outside (length front + 1 + i) (omega (arith, below, size)) (inr (omega arith)) ∙ reads i) in
      before ∙ ap (λ (l : List ℕ). front ++ l) (drop_more image (length front) 0 (omega (arith, size, torn.no_shorter)) ∙ ap (λ (l : List ℕ). get_or image (length front) 0 ∷ l) behind)
    where
      reads : (i : ℕ) → get_or (front ++ gate ∷ tail) (length front + 1 + i) 0 ≡ get_or tail i 0
      reads i =
          let past : get_or (front ++ gate ∷ tail) (length front + suc i) 0 ≡ get_or tail i 0 = get_or-append-add front (gate ∷ tail) (suc i) 0 in
          let same : length front + 1 + i ≡ length front + suc i = omega arith in
          ap (λ (n : ℕ). get_or (front ++ gate ∷ tail) n 0) same ∙ past

  front_is : take (length front + 1) (front ++ gate ∷ tail) ≡ front ++ gate ∷ []
  front_is =
      ap (λ (l : List ℕ). take (length front + 1) l) grouped
      ∙ take_at (front ++ gate ∷ []) tail (length front + 1) (omega (arith, length-append front (gate ∷ [])))

  tail_is : drop (length front + 1) (front ++ gate ∷ tail) ≡ tail
  tail_is =
      ap (λ (l : List ℕ). drop (length front + 1) l) grouped
      ∙ drop_at (front ++ gate ∷ []) tail (length front + 1) (omega (arith, length-append front (gate ∷ [])))

  pub written_behind : (bytes : List ℕ) → overwritten (front ++ gate ∷ tail) (length front + 1) bytes ≡ front ++ gate ∷ (bytes ++ drop (length bytes) tail)
  written_behind bytes =
      ap (λ (l : List ℕ). l ++ bytes ++ drop (length front + 1 + length bytes) (front ++ gate ∷ tail)) front_is
      ∙ ap (λ (l : List ℕ). (front ++ gate ∷ []) ++ bytes ++ l) (sym (drop-drop (length bytes) (length front + 1) (front ++ gate ∷ tail)) ∙ ap (λ (l : List ℕ). drop (length bytes) l) tail_is)
      ∙ append_assoc (front ++ gate ∷ []) bytes (drop (length bytes) tail)
      ∙ append_assoc front (gate ∷ []) (bytes ++ drop (length bytes) tail)

  pub written_at : (byte : ℕ) → overwritten (front ++ gate ∷ tail) (length front) (byte ∷ []) ≡ front ++ byte ∷ tail
  written_at byte =
      ap (λ (l : List ℕ). l ++ (byte ∷ []) ++ drop (length front + 1) (front ++ gate ∷ tail)) (take_at front (gate ∷ tail) (length front) refl)
      ∙ ap (λ (l : List ℕ). front ++ (byte ∷ []) ++ l) tail_is
      ∙ append_assoc front (byte ∷ []) tail

  -- a write of the gate and of all behind it
  pub written_from : (byte : ℕ) (bytes : List ℕ) → overwritten (front ++ gate ∷ tail) (length front) (byte ∷ bytes) ≡ front ++ byte ∷ (bytes ++ drop (length bytes) tail)
  written_from byte bytes =
      let same : length front + length (byte ∷ bytes) ≡ length front + 1 + length bytes = omega arith in
      ap (λ (l : List ℕ). l ++ (byte ∷ bytes) ++ drop (length front + length (byte ∷ bytes)) (front ++ gate ∷ tail)) (take_at front (gate ∷ tail) (length front) refl)
      ∙ ap (λ (l : List ℕ). front ++ (byte ∷ bytes) ++ l)
      (ap (λ (n : ℕ). drop n (front ++ gate ∷ tail)) same ∙ sym (drop-drop (length bytes) (length front + 1) (front ++ gate ∷ tail)) ∙ ap (λ (l : List ℕ). drop (length bytes) l) tail_is)
      ∙ append_assoc front (byte ∷ bytes) (drop (length bytes) tail)
