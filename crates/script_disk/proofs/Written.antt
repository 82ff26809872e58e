-- Writing a text part by part.
use Rattle.std.proofs.Common.{◌≡◌, ◌∙◌, ℕ, ◌+◌, ◌<◌, ◌++◌, ◌∷◌, List, length, drop, get_or, Option, Result, Ok, Err, OnErr, sym, ap, subst, append_assoc}
use Rattle.std.specs.List.{flat_map}
use Rattle.std.proofs.lemmas.List.{drop_more}
use Rattle.aw_io.specs.Known.{Grows, GrowsByFront, Grows-append, GrowsByFront-append, GrowsByFront-more}

-- what a sink had and has now: a front of the whole was written, and the rest is still to come
pub record HasPut (before now : Option (List ℕ)) (rest whole : List ℕ) : Type 0 where
  pub so_far : List ℕ
  pub grows : Grows before now so_far
  pub splits : so_far ++ rest ≡ whole

-- the whole is the same where the next part is moved to what was written
moved : (so_far part rest more whole : List ℕ) → more ≡ part ++ rest → so_far ++ more ≡ whole → (so_far ++ part) ++ rest ≡ whole
moved so_far part rest more whole comes splits = append_assoc so_far part rest ∙ ap (λ (t : List ℕ). so_far ++ t) (sym comes) ∙ splits

-- after the next part
pub put_more : {before now next : Option (List ℕ)} (part rest more whole : List ℕ) →
    HasPut before now more whole → more ≡ part ++ rest → Grows now next part → HasPut before next rest whole
put_more part rest more whole had comes grew = record {
  so_far = had.so_far ++ part;
  grows = Grows-append had.grows grew;
  splits = moved had.so_far part rest more whole comes had.splits;
}

-- where the sink took only a front of it
pub put_front : {before now next : Option (List ℕ)} (part rest more whole : List ℕ) →
    HasPut before now more whole → more ≡ part ++ rest → GrowsByFront now next part → GrowsByFront before next whole
put_front {before = before} {next = next} part rest more whole had comes front =
    subst (λ (text : List ℕ). GrowsByFront before next text) (moved had.so_far part rest more whole comes had.splits)
    (GrowsByFront-more (had.so_far ++ part) rest (GrowsByFront-append had.grows front))

-- ---- items, each with its text

module _ {A : Type 0} (text : A → List ℕ) where
  comes : (items : List A) (item : A) (rest : List A) (line : List ℕ) → items ≡ item ∷ rest → line ≡ text item → flat_map text items ≡ line ++ flat_map text rest
  comes items item rest line splits is = ap (flat_map text) splits ∙ ap (λ (l : List ℕ). l ++ flat_map text rest) (sym is)

  -- after the first of those that are left
  pub first_put : {before now next : Option (List ℕ)} (items : List A) (item : A) (rest : List A) (line whole : List ℕ) →
      HasPut before now (flat_map text items) whole → items ≡ item ∷ rest → line ≡ text item → Grows now next line → HasPut before next (flat_map text rest) whole
  first_put items item rest line whole had splits is grew =
      put_more line (flat_map text rest) (flat_map text items) whole had (comes items item rest line splits is) grew

  pub first_front : {before now next : Option (List ℕ)} (items : List A) (item : A) (rest : List A) (line whole : List ℕ) →
      HasPut before now (flat_map text items) whole → items ≡ item ∷ rest → line ≡ text item → GrowsByFront now next line → GrowsByFront before next whole
  first_front items item rest line whole had splits is front =
      put_front line (flat_map text rest) (flat_map text items) whole had (comes items item rest line splits is) front

  -- after the one at a place
  pub item_put : {before now next : Option (List ℕ)} (items : List A) (at : ℕ) (d : A) (line whole : List ℕ) →
      HasPut before now (flat_map text (drop at items)) whole → at < length items → line ≡ text (get_or items at d) → Grows now next line → HasPut before next (flat_map text (drop (at + 1) items)) whole
  item_put items at d line whole had below is grew =
      first_put (drop at items) (get_or items at d) (drop (at + 1) items) line whole had (drop_more items at d below) is grew

  pub item_front : {before now next : Option (List ℕ)} (items : List A) (at : ℕ) (d : A) (line whole : List ℕ) →
      HasPut before now (flat_map text (drop at items)) whole → at < length items → line ≡ text (get_or items at d) → GrowsByFront now next line → GrowsByFront before next whole
  item_front items at d line whole had below is front =
      first_front (drop at items) (get_or items at d) (drop (at + 1) items) line whole had (drop_more items at d below) is front

-- what holds, holds after an error
pub on_err : {A E : Type 0} (result : Result A E) (P : Type 0) → P → OnErr result P
on_err (Ok done) P holds = tt
on_err (Err fault) P holds = holds
