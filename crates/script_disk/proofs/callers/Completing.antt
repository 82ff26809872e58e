-- A formatted disk that doesn't fail is opened, where there is memory.
use Rattle.std.specs.Prelude.{◌≡◌, ◌⊎◌, ℕ, List, Option, None, Some, IfSome, IsSome, refl}
use Rattle.std.proofs.Common.{sym, subst, inl, inr, arith}
use Rattle.std.proofs.lemmas.Bool.{true≢false}
use Rattle.aw_journal.specs.Format.{IsUnformatted}
use Rattle.aw_codec.specs.declared.record.Decoded.{Decoded}
use Rattle.aw_store.specs.StoredRecords.{HoldsRecords, IsDamaged}
use Rattle.aw_store.proofs.CallerLemmas.{reads_records_one_way}
use Rattle.script_disk.specs.Dumped.{EndsDump, CompletesDump}
use Rattle.script_disk.specs.WhyUnopened.{AreFormatted, status_of, IsUnopened, ExplainsContent}
use Rattle.script_disk.specs.declared.opening.Unopened.{Unopened}
use Rattle.script_disk.specs.declared.opening.Unopened.TheVariants.{Unformatted, Damaged, DiskFault, NoMemory, SinkFault}

-- an image that holds records is no other
pub not_unformatted : (images : List ℕ → Type 0) (image : List ℕ) → AreFormatted images → images image → IsUnformatted image → ⊥
not_unformatted images image formatted is other =
    let way = reads_records_one_way image in
    let it = formatted.each image is in
    way.unformatted_or_holds it.held other it.holds

pub not_damaged : (images : List ℕ → Type 0) (image : List ℕ) (offset : ℕ) → AreFormatted images → images image → IsDamaged image offset → ⊥
not_damaged images image offset formatted is damaged =
    let way = reads_records_one_way image in
    let it = formatted.each image is in
    way.holds_or_damaged it.held offset it.holds damaged

module _ (images : List ℕ → Type 0) (formatted : AreFormatted images) where
  -- a dump without a fault of the disk or the sink
  pub dump_completes : (status : ℕ) (content : Option (List ℕ)) (left : List ℕ → Type 0) (before now : Option (List ℕ)) → ((image : List ℕ) → content ≡ Some image → images image) → IsSome content → EndsDump status content left before now → (status ≡ 4 → ⊥) → (status ≡ 5 → ⊥) → CompletesDump status
  dump_completes status None left before now is told ends sink disk = absurd (true≢false (sym told))
  dump_completes status (Some image) left before now is told ends sink disk = elim ends.statuses [
    | inl zero ↦ inl zero
    | inr (inl four) ↦ absurd (sink four)
    | inr (inr (inl five)) ↦ absurd (disk five)
    | inr (inr (inr (inl six))) ↦ inr six
    | inr (inr (inr (inr (inl seven)))) ↦ absurd (not_unformatted images image formatted (is image refl) (ends.unformatted seven).0)
    | inr (inr (inr (inr (inr eight)))) ↦ let bad = ends.bad eight in absurd (not_damaged images image bad.0 formatted (is image refl) bad.1)
  ]

-- ---- what a status says of the content

-- an image that is no workspace, or damaged, or holds records is none of the others
unformatted-explains : (image : List ℕ) → IsUnformatted image → ExplainsContent 7 image
unformatted-explains image is = record {
  seven = λ same. is;
  eight = λ eight. let none : ⊥ = omega (arith, eight) in absurd none;
  unformatted = λ again. inl refl;
  bad = λ offset damaged. absurd ((reads_records_one_way image).unformatted_or_damaged offset is damaged);
}

damaged-explains : (image : List ℕ) (offset : ℕ) → IsDamaged image offset → ExplainsContent 8 image
damaged-explains image offset is = record {
  seven = λ seven. let none : ⊥ = omega (arith, seven) in absurd none;
  eight = λ same. (offset, is);
  unformatted = λ other. absurd ((reads_records_one_way image).unformatted_or_damaged offset other is);
  bad = λ again damaged. inl refl;
}

pub hindered_explains : (status : ℕ) (image : List ℕ) → (status ≡ 4) ⊎ (status ≡ 5) ⊎ (status ≡ 6) → ExplainsContent status image
hindered_explains status image hindered = record {
  seven = λ seven. absurd (no_other seven);
  eight = λ eight. absurd (no_eight eight);
  unformatted = λ is. inr hindered;
  bad = λ offset is. inr hindered;
}
  where
    no_other : status ≡ 7 → ⊥
    no_other seven = elim hindered [ inl four ↦ omega (arith, four, seven) | inr (inl five) ↦ omega (arith, five, seven) | inr (inr six) ↦ omega (arith, six, seven) ]

    no_eight : status ≡ 8 → ⊥
    no_eight eight = elim hindered [ inl four ↦ omega (arith, four, eight) | inr (inl five) ↦ omega (arith, five, eight) | inr (inr six) ↦ omega (arith, six, eight) ]

pub holds_explains : (status : ℕ) (image : List ℕ) (records : List Decoded) → HoldsRecords image records → (status ≡ 7 → ⊥) → (status ≡ 8 → ⊥) → ExplainsContent status image
holds_explains status image records holds no_seven no_eight = record {
  seven = λ seven. absurd (no_seven seven);
  eight = λ eight. absurd (no_eight eight);
  unformatted = λ is. absurd ((reads_records_one_way image).unformatted_or_holds records is holds);
  bad = λ offset is. absurd ((reads_records_one_way image).holds_or_damaged records offset holds is);
}

pub unopened_explains : (why : Unopened) (content before now : Option (List ℕ)) → IsUnopened why content before now → IfSome content (ExplainsContent (status_of why))
unopened_explains why None before now tells = tt
unopened_explains Unformatted (Some image) before now tells = unformatted-explains image tells.0
unopened_explains (Damaged offset) (Some image) before now tells = damaged-explains image offset tells.0
unopened_explains DiskFault (Some image) before now tells = hindered_explains 5 image (inr (inl refl))
unopened_explains NoMemory (Some image) before now tells = hindered_explains 6 image (inr (inr refl))
unopened_explains SinkFault (Some image) before now tells = hindered_explains 4 image (inl refl)

pub dump_explains : (status : ℕ) (content : Option (List ℕ)) (left : List ℕ → Type 0) (before now : Option (List ℕ)) → EndsDump status content left before now → IfSome content (ExplainsContent status)
dump_explains status None left before now ends = tt
dump_explains status (Some image) left before now ends = elim ends.statuses [
  | inl zero ↦
      let dump = (ends.whole zero).dump in
      holds_explains status image dump.records dump.holds (λ seven. omega (arith, zero, seven)) (λ eight. omega (arith, zero, eight))
  | inr (inl four) ↦ hindered_explains status image (inl four)
  | inr (inr (inl five)) ↦ hindered_explains status image (inr (inl five))
  | inr (inr (inr (inl six))) ↦ hindered_explains status image (inr (inr six))
  | inr (inr (inr (inr (inl seven)))) ↦ subst (λ those. ExplainsContent those image) (sym seven) (unformatted-explains image (ends.unformatted seven).0)
  | inr (inr (inr (inr (inr eight)))) ↦ let bad = ends.bad eight in subst (λ those. ExplainsContent those image) (sym eight) (damaged-explains image bad.0 bad.1)
]
